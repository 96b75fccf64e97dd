use Rattle.std.proofs.Common.{refl, ◌∙◌, subst, get_or, arith, ◌/◌, Some}
use Rattle.std.specs.Prelude.{IsSome}
use Rattle.sparse_map.proofs.TableLemmas.{slot_of_bucket, set_bucket}
use Rattle.sparse_map.proofs.PlacesLemmas.{sizes-same}
use Rattle.sparse_map.proofs.table.replace.Goals as goal

pub replace-requires-clause-occupied : goal.replace-requires-clause-occupied
replace-requires-clause-occupied g c =
    let read = c.index-groups-bucket.result in
    let us = c.args.groups.now in
    subst (λ o. IsSome o) (slot_of_bucket us c.args.bucket (get_or us (c.args.bucket / 64) read) read c.requires.seat.within refl) c.requires.seat.occupied

pub returns-clause-item : goal.returns-clause-item
returns-clause-item g c =
    let read = c.index-groups-bucket.result in
    let us = c.args.groups.now in
    slot_of_bucket us c.args.bucket (get_or us (c.args.bucket / 64) read) read c.requires.seat.within refl ∙ c.replace.ensures.item

pub returns-clause-slots : goal.returns-clause-slots
returns-clause-slots g c =
    let read = c.index-groups-bucket.result in
    let us = c.args.groups.now in
    set_bucket us c.args.bucket (get_or us (c.args.bucket / 64) read) read c.requires.seat.within refl c.replace.new.self (Some c.args.item) c.replace.ensures.slots

pub returns-clause-sizes : goal.returns-clause-sizes
returns-clause-sizes g c =
    let read = c.index-groups-bucket.result in
    let us = c.args.groups.now in
    sizes-same us (c.args.bucket / 64) (get_or us (c.args.bucket / 64) read) read c.replace.new.self (omega arith) refl c.replace.ensures.room c.replace.ensures.capacity

pub replace-requires-clause-place : goal.replace-requires-clause-place
replace-requires-clause-place g c = c.requires.seat.rank c.index-groups-bucket.result
