use Rattle.std.proofs.Common.{◌≡◌, ◌^◌, [], ◌∷◌, reverse, refl, sym, ap, ◌∙◌, subst, arith}
use Rattle.std.proofs.lemmas.List.{reverse-append, reverse-reverse}
use Rattle.sparse_map.specs.Moved.{CanTake}
use Rattle.sparse_map.specs.Plan.{with_items, plan_of}
use Rattle.sparse_map.proofs.TakingLemmas.{Taking, taking_none, taking_first, taking_more, taking_all, first_fits, nothing}
use Rattle.sparse_map.proofs.moving.place_items.Goals as goal

pub loop-item-init : goal.loop-item-init
loop-item-init g c =
    let n = 2 ^ c.args.bits in
    let us = c.args.groups.now in
    let es = c.args.items.now.items in
    record {
      taking = subst (λ r. Taking n us es us r) (sym (ap reverse c.reverse.ensures.items ∙ reverse-reverse es)) (taking_none n us es c.requires.ready);
      rooms = refl;
      capacity = c.reverse.ensures.capacity;
    }

pub place-requires-clause-ready : goal.place-requires-clause-ready
place-requires-clause-ready g c =
    let n = 2 ^ c.args.bits in
    let now = c.loop-item.groups in
    let e = c.in-Some.item in
    let rest = c.pop.new.self.items in
    let steps : reverse c.loop-item.items.items ≡ e ∷ reverse rest = ap reverse c.in-Some.ensures.items ∙ reverse-append rest (e ∷ []) in
    taking_first n now (e ∷ []) (reverse rest) (subst (λ r. CanTake n now r) steps c.loop-item.invariant.taking.ready)

pub place-requires-clause-fits : goal.place-requires-clause-fits
place-requires-clause-fits g c =
    let n = 2 ^ c.args.bits in
    let us = c.args.groups.now in
    let now = c.loop-item.groups in
    let e = c.in-Some.item in
    let rest = c.pop.new.self.items in
    let steps : reverse c.loop-item.items.items ≡ e ∷ reverse rest = ap reverse c.in-Some.ensures.items ∙ reverse-append rest (e ∷ []) in
    first_fits n us c.args.items.now.items now (e ∷ []) (reverse rest) c.requires.fits c.loop-item.invariant.rooms
    (ap (λ r. with_items n (plan_of (2 ^ c.args.bits) now) r) (sym steps) ∙ c.loop-item.invariant.taking.plan)

pub loop-item-preserved : goal.loop-item-preserved
loop-item-preserved g c =
    let n = 2 ^ c.args.bits in
    let us = c.args.groups.now in
    let es = c.args.items.now.items in
    let now = c.loop-item.groups in
    let e = c.in-Some.item in
    let rest = c.pop.new.self.items in
    let steps : reverse c.loop-item.items.items ≡ e ∷ reverse rest = ap reverse c.in-Some.ensures.items ∙ reverse-append rest (e ∷ []) in
    record {
      taking = taking_more n us es now c.place.new.groups (e ∷ []) (reverse rest) (subst (λ r. Taking n us es now r) steps c.loop-item.invariant.taking) c.place.ensures.taken c.place.auto.groups;
      rooms = c.place.ensures.rooms ∙ c.loop-item.invariant.rooms;
      capacity = c.in-Some.ensures.capacity ∙ c.loop-item.invariant.capacity;
    }

pub loop-item-smaller : goal.loop-item-smaller
loop-item-smaller g c = omega (arith, c.in-Some.ensures.len)

pub returns-clause-taken : goal.returns-clause-taken
returns-clause-taken g c =
    let none = c.in_default.ensures.cases.0 in
    taking_all (2 ^ c.args.bits) c.args.groups.now c.args.items.now.items c.loop-item.groups (reverse c.loop-item.items.items)
    (ap reverse (nothing c.loop-item.items.items (omega (arith, none, c.loop-item.items.ok.0)))) c.loop-item.invariant.taking
