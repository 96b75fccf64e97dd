use Rattle.std.proofs.Common.{refl, ◌∙◌, subst, get_or, arith, ◌/◌, None}
use Rattle.std.specs.Prelude.{IsSome}
use Rattle.sparse_map.proofs.TableLemmas.{slot_of_bucket, set_bucket}
use Rattle.sparse_map.specs.declared.table.Touched.TheVariants.{Nowhere}
use Rattle.sparse_map.specs.Places.{list_size, extra, lacks, past_most}
use Rattle.sparse_map.proofs.PlacesLemmas.{past-le, extra-most, lacks-le, places_in-set, untouched_in-set}
use Rattle.sparse_map.proofs.table.take.Goals as goal

pub remove-requires-clause-occupied : goal.remove-requires-clause-occupied
remove-requires-clause-occupied g c =
    let read = c.index-groups-bucket.result in
    let us = c.args.groups.now in
    subst (λ o. IsSome o) (slot_of_bucket us c.args.bucket (get_or us (c.args.bucket / 64) read) read c.requires.seat.within refl) c.requires.seat.occupied

pub returns-clause-item : goal.returns-clause-item
returns-clause-item g c =
    let read = c.index-groups-bucket.result in
    let us = c.args.groups.now in
    slot_of_bucket us c.args.bucket (get_or us (c.args.bucket / 64) read) read c.requires.seat.within refl ∙ c.remove.ensures.item

pub returns-clause-slots : goal.returns-clause-slots
returns-clause-slots g c =
    let read = c.index-groups-bucket.result in
    let us = c.args.groups.now in
    set_bucket us c.args.bucket (get_or us (c.args.bucket / 64) read) read c.requires.seat.within refl c.remove.new.self None c.remove.ensures.slots

pub returns-clause-places : goal.returns-clause-places
returns-clause-places g c =
    let read = c.index-groups-bucket.result in
    let us = c.args.groups.now in
    let changed = places_in-set us (c.args.bucket / 64) (get_or us (c.args.bucket / 64) read) read c.remove.new.self (omega arith) refl in
    omega (arith, changed, c.remove.ensures.capacity)

pub returns-clause-short : goal.returns-clause-short
returns-clause-short g c =
    let read = c.index-groups-bucket.result in
    let us = c.args.groups.now in
    let u = get_or us (c.args.bucket / 64) read in
    let w = c.remove.new.self in
    let past = past-le (list_size w) (list_size u) (omega (arith, c.remove.ensures.capacity)) in
    omega (arith, untouched_in-set us (c.args.bucket / 64) u read w (omega arith) refl past_most Nowhere 0 (omega (arith, past)))

pub returns-clause-loose : goal.returns-clause-loose
returns-clause-loose g c =
    let read = c.index-groups-bucket.result in
    let us = c.args.groups.now in
    let u = get_or us (c.args.bucket / 64) read in
    let most = extra-most u c.remove.new.self 1 (omega (arith, c.remove.ensures.capacity)) (omega (arith, c.remove.ensures.len)) in
    λ t. untouched_in-set us (c.args.bucket / 64) u read c.remove.new.self (omega arith) refl extra t 1 most

pub returns-clause-lacking : goal.returns-clause-lacking
returns-clause-lacking g c =
    let read = c.index-groups-bucket.result in
    let us = c.args.groups.now in
    let u = get_or us (c.args.bucket / 64) read in
    let w = c.remove.new.self in
    λ n t.
    let less = lacks-le n n (list_size w) (list_size u) (λ lacked. omega (arith, lacked, c.remove.ensures.len, c.remove.ensures.capacity)) in
    omega (arith, untouched_in-set us (c.args.bucket / 64) u read w (omega arith) refl (lacks n) t 0 (omega (arith, less)))

pub remove-requires-clause-place : goal.remove-requires-clause-place
remove-requires-clause-place g c = c.requires.seat.rank c.index-groups-bucket.result
