use Rattle.std.proofs.Common.{rules, refl, ap, ◌≡◌, ◌∙◌, get_or, length, ◌<◌, arith}
use Rattle.std.proofs.lemmas.List.Elements.{AllWithin-none, AllWithin-more_set}
use Rattle.std.specs.List.{All}
use Rattle.std.specs.Vec.{vec_len}
use Rattle.sparse_map.specs.Trimmed.{IsTrimmed}
use Rattle.sparse_map.specs.declared.table.Touched.TheVariants.{Nowhere}
use Rattle.sparse_map.specs.Places.{list_size, extra, lacks, past_most}
use Rattle.sparse_map.proofs.TableLemmas.{all_slots-set_same, slots_in-same}
use Rattle.sparse_map.proofs.PlacesLemmas.{past-le, extra-few, extra-none, lacks-room, none-counted, places_in-set, untouched_in-set}
use Rattle.sparse_map.proofs.table.trim_all.Goals as goal

pub loop-group-init : goal.loop-group-init
loop-group-init g c = record { slots = refl; fewer = omega arith; short = omega arith; loose = λ t. omega arith; lacking = λ t. omega arith; trimmed = AllWithin-none IsTrimmed c.args.groups.now 0 }

pub loop-group-preserved : goal.loop-group-preserved
loop-group-preserved g c =
    let us = c.loop-group.groups in
    let i = c.loop-group.group-index in
    let read = c.group-item.result in
    let u = get_or us i read in
    let w = c.trim.new.self in
    let inside : i < length us = omega (arith, c.loop-group-test.true) in
    let len : vec_len w.items ≡ vec_len u.items = omega (arith, ap length c.trim.ensures.items, u.items.ok.0, w.items.ok.0) in
    let few = extra-few u w len (omega (arith, c.trim.ensures.capacity)) in
    let room = lacks-room u w len c.trim.ensures.room in
    let past = past-le (list_size w) (list_size u) (omega (arith, c.trim.ensures.capacity)) in
    record {
      slots = all_slots-set_same us i u read w inside refl (slots_in-same u w c.trim.ensures.occupied c.trim.ensures.items) ∙ c.loop-group.invariant.slots;
      fewer = omega (arith, places_in-set us i u read w inside refl, c.trim.ensures.capacity, c.loop-group.invariant.fewer);
      short = omega (arith, untouched_in-set us i u read w inside refl past_most Nowhere 0 (omega (arith, past)), c.loop-group.invariant.short);
      loose = λ t. omega (arith, untouched_in-set us i u read w inside refl extra t 0 (omega (arith, few)), c.loop-group.invariant.loose t);
      lacking = λ t. omega (arith, untouched_in-set us i u read w inside refl (lacks 1) t 0 (omega (arith, room)), c.loop-group.invariant.lacking t);
      trimmed = AllWithin-more_set us i w inside IsTrimmed c.loop-group.invariant.trimmed c.in_ok-trim.ensures.ok;
    }

pub returns-in_err-trim-clause-slots : goal.returns-in_err-trim-clause-slots
returns-in_err-trim-clause-slots g c =
    let us = c.loop-group.groups in
    let i = c.loop-group.group-index in
    let read = c.group-item.result in
    let u = get_or us i read in
    let inside : i < length us = omega (arith, c.loop-group-test.true) in
    all_slots-set_same us i u read c.trim.new.self inside refl (slots_in-same u c.trim.new.self c.trim.ensures.occupied c.trim.ensures.items)
    ∙ c.loop-group.invariant.slots

pub returns-in_err-trim-clause-fewer : goal.returns-in_err-trim-clause-fewer
returns-in_err-trim-clause-fewer g c =
    let us = c.loop-group.groups in
    let i = c.loop-group.group-index in
    let inside : i < length us = omega (arith, c.loop-group-test.true) in
    omega (arith, places_in-set us i (get_or us i c.group-item.result) c.group-item.result c.trim.new.self inside refl, c.trim.ensures.capacity, c.loop-group.invariant.fewer)

pub returns-in_err-trim-clause-short : goal.returns-in_err-trim-clause-short
returns-in_err-trim-clause-short g c =
    let us = c.loop-group.groups in
    let i = c.loop-group.group-index in
    let read = c.group-item.result in
    let u = get_or us i read in
    let w = c.trim.new.self in
    let inside : i < length us = omega (arith, c.loop-group-test.true) in
    let past = past-le (list_size w) (list_size u) (omega (arith, c.trim.ensures.capacity)) in
    omega (arith, untouched_in-set us i u read w inside refl past_most Nowhere 0 (omega (arith, past)), c.loop-group.invariant.short)

pub returns-in_err-trim-clause-loose : goal.returns-in_err-trim-clause-loose
returns-in_err-trim-clause-loose g c =
    let us = c.loop-group.groups in
    let i = c.loop-group.group-index in
    let read = c.group-item.result in
    let u = get_or us i read in
    let w = c.trim.new.self in
    let inside : i < length us = omega (arith, c.loop-group-test.true) in
    let len : vec_len w.items ≡ vec_len u.items = omega (arith, ap length c.trim.ensures.items, u.items.ok.0, w.items.ok.0) in
    let few = extra-few u w len (omega (arith, c.trim.ensures.capacity)) in
    λ t. omega (arith, untouched_in-set us i u read w inside refl extra t 0 (omega (arith, few)), c.loop-group.invariant.loose t)

pub returns-in_err-trim-clause-lacking : goal.returns-in_err-trim-clause-lacking
returns-in_err-trim-clause-lacking g c =
    let us = c.loop-group.groups in
    let i = c.loop-group.group-index in
    let read = c.group-item.result in
    let u = get_or us i read in
    let w = c.trim.new.self in
    let inside : i < length us = omega (arith, c.loop-group-test.true) in
    let len : vec_len w.items ≡ vec_len u.items = omega (arith, ap length c.trim.ensures.items, u.items.ok.0, w.items.ok.0) in
    let room = lacks-room u w len c.trim.ensures.room in
    λ t. omega (arith, untouched_in-set us i u read w inside refl (lacks 1) t 0 (omega (arith, room)), c.loop-group.invariant.lacking t)

pub returns-clause-none_loose : goal.returns-clause-none_loose
returns-clause-none_loose g c =
    let all : All IsTrimmed c.loop-group.groups = search rules in
    none-counted extra IsTrimmed extra-none c.loop-group.groups all
