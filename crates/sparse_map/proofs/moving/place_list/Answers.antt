use Rattle.std.proofs.Common.{◌≡◌, ◌^◌, [], ◌∷◌, refl, sym, ap, ◌∙◌, subst, arith}
use Rattle.std.specs.Vec.Iter.{into_iter_items}
use Rattle.sparse_map.specs.Moved.{CanTake}
use Rattle.sparse_map.specs.Plan.{with_items, plan_of}
use Rattle.sparse_map.proofs.TakingLemmas.{Taking, taking_none, taking_first, taking_more, taking_all, first_fits, nothing}
use Rattle.sparse_map.proofs.moving.place_list.Goals as goal

pub loop-item-init : goal.loop-item-init
loop-item-init g c =
    let n = 2 ^ c.args.bits in
    let us = c.args.groups.now in
    let es = c.args.items.items in
    record {
      taking = subst (λ r. Taking n us es us r) (sym c.into_iter-item-iterator.ensures.into_iter_gives.0) (taking_none n us es c.requires.ready);
      rooms = refl;
    }

pub place-requires-clause-ready : goal.place-requires-clause-ready
place-requires-clause-ready g c =
    let n = 2 ^ c.args.bits in
    let now = c.loop-item.groups in
    let e = c.in-Some.item in
    let es = into_iter_items c.next.new.self in
    let steps : into_iter_items c.loop-item.item-iterator ≡ e ∷ es = c.in-Some.ensures.steps.0 in
    taking_first n now (e ∷ []) es (subst (λ r. CanTake n now r) steps c.loop-item.invariant.taking.ready)

pub place-requires-clause-fits : goal.place-requires-clause-fits
place-requires-clause-fits g c =
    let n = 2 ^ c.args.bits in
    let us = c.args.groups.now in
    let now = c.loop-item.groups in
    let e = c.in-Some.item in
    let es = into_iter_items c.next.new.self in
    let steps : into_iter_items c.loop-item.item-iterator ≡ e ∷ es = c.in-Some.ensures.steps.0 in
    first_fits n us c.args.items.items now (e ∷ []) es c.requires.fits c.loop-item.invariant.rooms
    (ap (λ r. with_items n (plan_of (2 ^ c.args.bits) now) r) (sym steps) ∙ c.loop-item.invariant.taking.plan)

pub loop-item-preserved : goal.loop-item-preserved
loop-item-preserved g c =
    let n = 2 ^ c.args.bits in
    let us = c.args.groups.now in
    let all = c.args.items.items in
    let now = c.loop-item.groups in
    let e = c.in-Some.item in
    let es = into_iter_items c.next.new.self in
    let steps : into_iter_items c.loop-item.item-iterator ≡ e ∷ es = c.in-Some.ensures.steps.0 in
    record {
      taking = taking_more n us all now c.place.new.groups (e ∷ []) es (subst (λ r. Taking n us all now r) steps c.loop-item.invariant.taking) c.place.ensures.taken c.place.auto.groups;
      rooms = c.place.ensures.rooms ∙ c.loop-item.invariant.rooms;
    }

pub returns-clause-taken : goal.returns-clause-taken
returns-clause-taken g c =
    let rest = into_iter_items c.loop-item.item-iterator in
    let none = nothing rest (omega (arith, c.in-None.ensures.steps.0, c.loop-item.item-iterator.rest.ok.0)) in
    taking_all (2 ^ c.args.bits) c.args.groups.now c.args.items.items c.loop-item.groups rest none c.loop-item.invariant.taking
