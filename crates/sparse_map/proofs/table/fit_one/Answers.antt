use Rattle.std.proofs.Common.{◌≡◌, ◌+◌, ◌-◌, ◌/◌, ◌≤◌, length, get_or, set, refl, ap, arith}
use Rattle.std.specs.Vec.{vec_len, vec_capacity}
use Rattle.sparse_map.specs.Trimmed.{IsReady}
use Rattle.sparse_map.specs.declared.table.Touched.TheVariants.{Nowhere, In}
use Rattle.sparse_map.specs.Places.{list_size, sizes_of, extra, lacks, loose_of, past_most}
use Rattle.sparse_map.proofs.TableLemmas.{all_slots_trimmed}
use Rattle.sparse_map.proofs.PlacesLemmas.{past-le, extra-is, extra-full, lacks-room, lacks-none, lacks-full, places_in-set, untouched_in-set, untouched_in-at, untouched_in-fitted, untouched-past, length-sizes}
use Rattle.std.proofs.lemmas.Result.{IfOk-weaker, on_ok_weaker, on_err_weaker}
use Rattle.sparse_map.proofs.table.fit_one.Goals as goal

pub returns-then-i-groups-clause-not_loose : goal.returns-then-i-groups-clause-not_loose
returns-then-i-groups-clause-not_loose g c =
    let us = c.args.groups.now in
    omega (arith, untouched-past extra (sizes_of us) c.args.bucket extra-full (omega (arith, c.if-i-groups.true, length-sizes us)))

pub returns-then-i-groups-clause-not_lacking : goal.returns-then-i-groups-clause-not_lacking
returns-then-i-groups-clause-not_lacking g c =
    let us = c.args.groups.now in
    untouched-past (lacks 1) (sizes_of us) c.args.bucket (lacks-full 1) (omega (arith, c.if-i-groups.true, length-sizes us))

pub returns-clause-slots : goal.returns-clause-slots
returns-clause-slots g c =
    all_slots_trimmed c.args.groups.now (c.args.bucket / 64) c.index-groups-i.result c.fit.new.self c.if-i-groups.false c.fit.ensures.occupied c.fit.ensures.items

pub returns-clause-short : goal.returns-clause-short
returns-clause-short g c =
    let us = c.args.groups.now in
    let read = c.index-groups-i.result in
    let u = get_or us (c.args.bucket / 64) read in
    let w = c.fit.new.self in
    let past = past-le (list_size w) (list_size u) (omega (arith, c.fit.ensures.short)) in
    omega (arith, untouched_in-set us (c.args.bucket / 64) u read w c.if-i-groups.false refl past_most Nowhere 0 (omega (arith, past)))

pub returns-clause-loose : goal.returns-clause-loose
returns-clause-loose g c =
    let us = c.args.groups.now in
    let read = c.index-groups-i.result in
    untouched_in-at us (c.args.bucket / 64) (get_or us (c.args.bucket / 64) read) read c.fit.new.self c.if-i-groups.false refl extra (In c.args.bucket) refl

pub returns-clause-lacking : goal.returns-clause-lacking
returns-clause-lacking g c =
    let us = c.args.groups.now in
    let read = c.index-groups-i.result in
    let u = get_or us (c.args.bucket / 64) read in
    let w = c.fit.new.self in
    let len : vec_len w.items ≡ vec_len u.items = omega (arith, ap length c.fit.ensures.items, u.items.ok.0, w.items.ok.0) in
    let room = lacks-room u w len c.fit.ensures.room in
    λ t. omega (arith, untouched_in-set us (c.args.bucket / 64) u read w c.if-i-groups.false refl (lacks 1) t 0 (omega (arith, room)))

pub returns-clause-not_loose : goal.returns-clause-not_loose
returns-clause-not_loose g c =
    let us = c.args.groups.now in
    let read = c.index-groups-i.result in
    let u = get_or us (c.args.bucket / 64) read in
    let w = c.fit.new.self in
    IfOk-weaker c.fit.result (λ n. n ≡ vec_capacity w.items - (vec_len w.items + 4))
    (λ n. loose_of Nowhere (sizes_of (set us (c.args.bucket / 64) w)) ≤ loose_of (In c.args.bucket) (sizes_of us) + n)
    (λ n is. omega (arith, untouched_in-fitted us (c.args.bucket / 64) u read w c.if-i-groups.false refl extra c.args.bucket refl, extra-is w n is))
    c.fit.ensures.beyond

pub returns-clause-not_lacking : goal.returns-clause-not_lacking
returns-clause-not_lacking g c =
    let us = c.args.groups.now in
    let read = c.index-groups-i.result in
    let u = get_or us (c.args.bucket / 64) read in
    let w = c.fit.new.self in
    on_ok_weaker {P = IsReady w} c.fit.result
    (λ ready. omega (arith, untouched_in-fitted us (c.args.bucket / 64) u read w c.if-i-groups.false refl (lacks 1) c.args.bucket refl, lacks-none w ready))
    c.fit.ensures.ready

pub returns-clause-err : goal.returns-clause-err
returns-clause-err g c =
    let us = c.args.groups.now in
    let read = c.index-groups-i.result in
    let u = get_or us (c.args.bucket / 64) read in
    let w = c.fit.new.self in
    let changed = places_in-set us (c.args.bucket / 64) u read w c.if-i-groups.false refl in
    on_err_weaker {P = vec_capacity w.items ≤ vec_capacity u.items} c.fit.result (λ less. omega (arith, changed, less)) c.fit.ensures.err
