use Rattle.std.proofs.Common.{rules, refl, ap, ◌≡◌, ◌∙◌, get_or, length, ◌<◌, arith}
use Rattle.std.proofs.lemmas.List.Elements.{AllWithin-none, AllWithin-more_set}
use Rattle.std.specs.List.{All}
use Rattle.std.specs.Vec.{vec_len}
use Rattle.sparse_map.specs.Trimmed.{IsReady}
use Rattle.sparse_map.specs.declared.table.Touched.TheVariants.{Nowhere}
use Rattle.sparse_map.specs.Places.{list_size, extra, lacks, past_most}
use Rattle.sparse_map.proofs.TableLemmas.{all_slots-set_same, slots_in-same}
use Rattle.sparse_map.proofs.PlacesLemmas.{past-le, extra-few, lacks-none, lacks-room, none-counted, untouched_in-set}
use Rattle.sparse_map.proofs.table.grow_all.Goals as goal

pub loop-group-init : goal.loop-group-init
loop-group-init g c = record { slots = refl; short = omega arith; loose = λ t. omega arith; lacking = λ t. omega arith; ready = AllWithin-none IsReady c.args.groups.now 0 }

pub loop-group-preserved : goal.loop-group-preserved
loop-group-preserved g c =
    let us = c.loop-group.groups in
    let i = c.loop-group.group-index in
    let read = c.group-item.result in
    let u = get_or us i read in
    let w = c.grow.new.self in
    let inside : i < length us = omega (arith, c.loop-group-test.true) in
    let len : vec_len w.items ≡ vec_len u.items = omega (arith, ap length c.grow.ensures.items, u.items.ok.0, w.items.ok.0) in
    let few = extra-few u w len c.grow.ensures.few in
    let room = lacks-room u w len (omega (arith, c.grow.ensures.capacity)) in
    let past = past-le (list_size w) (list_size u) (omega (arith, c.grow.ensures.short)) in
    record {
      slots = all_slots-set_same us i u read w inside refl (slots_in-same u w c.grow.ensures.occupied c.grow.ensures.items) ∙ c.loop-group.invariant.slots;
      short = omega (arith, untouched_in-set us i u read w inside refl past_most Nowhere 0 (omega (arith, past)), c.loop-group.invariant.short);
      loose = λ t. omega (arith, untouched_in-set us i u read w inside refl extra t 0 (omega (arith, few)), c.loop-group.invariant.loose t);
      lacking = λ t. omega (arith, untouched_in-set us i u read w inside refl (lacks 1) t 0 (omega (arith, room)), c.loop-group.invariant.lacking t);
      ready = AllWithin-more_set us i w inside IsReady c.loop-group.invariant.ready c.in_ok-grow.ensures.ok;
    }

pub returns-in_err-grow-clause-slots : goal.returns-in_err-grow-clause-slots
returns-in_err-grow-clause-slots g c =
    let us = c.loop-group.groups in
    let i = c.loop-group.group-index in
    let read = c.group-item.result in
    let u = get_or us i read in
    let inside : i < length us = omega (arith, c.loop-group-test.true) in
    all_slots-set_same us i u read c.grow.new.self inside refl (slots_in-same u c.grow.new.self c.grow.ensures.occupied c.grow.ensures.items)
    ∙ c.loop-group.invariant.slots

pub returns-in_err-grow-clause-short : goal.returns-in_err-grow-clause-short
returns-in_err-grow-clause-short g c =
    let us = c.loop-group.groups in
    let i = c.loop-group.group-index in
    let read = c.group-item.result in
    let u = get_or us i read in
    let w = c.grow.new.self in
    let inside : i < length us = omega (arith, c.loop-group-test.true) in
    let past = past-le (list_size w) (list_size u) (omega (arith, c.grow.ensures.short)) in
    omega (arith, untouched_in-set us i u read w inside refl past_most Nowhere 0 (omega (arith, past)), c.loop-group.invariant.short)

pub returns-in_err-grow-clause-loose : goal.returns-in_err-grow-clause-loose
returns-in_err-grow-clause-loose g c =
    let us = c.loop-group.groups in
    let i = c.loop-group.group-index in
    let read = c.group-item.result in
    let u = get_or us i read in
    let w = c.grow.new.self in
    let inside : i < length us = omega (arith, c.loop-group-test.true) in
    let len : vec_len w.items ≡ vec_len u.items = omega (arith, ap length c.grow.ensures.items, u.items.ok.0, w.items.ok.0) in
    let few = extra-few u w len c.grow.ensures.few in
    λ t. omega (arith, untouched_in-set us i u read w inside refl extra t 0 (omega (arith, few)), c.loop-group.invariant.loose t)

pub returns-in_err-grow-clause-lacking : goal.returns-in_err-grow-clause-lacking
returns-in_err-grow-clause-lacking g c =
    let us = c.loop-group.groups in
    let i = c.loop-group.group-index in
    let read = c.group-item.result in
    let u = get_or us i read in
    let w = c.grow.new.self in
    let inside : i < length us = omega (arith, c.loop-group-test.true) in
    let len : vec_len w.items ≡ vec_len u.items = omega (arith, ap length c.grow.ensures.items, u.items.ok.0, w.items.ok.0) in
    let room = lacks-room u w len (omega (arith, c.grow.ensures.capacity)) in
    λ t. omega (arith, untouched_in-set us i u read w inside refl (lacks 1) t 0 (omega (arith, room)), c.loop-group.invariant.lacking t)

pub returns-clause-none_lacks : goal.returns-clause-none_lacks
returns-clause-none_lacks g c =
    let all : All IsReady c.loop-group.groups = search rules in
    none-counted (lacks 1) IsReady lacks-none c.loop-group.groups all
