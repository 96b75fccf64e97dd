use Rattle.std.proofs.Common.{◌≡◌, ◌+◌, ◌∷◌, ◌^◌, length, drop, refl, sym, ap, ◌∙◌, subst, arith}
use Rattle.std.proofs.lemmas.List.{drop_more, drop_all}
use Rattle.sparse_map.specs.Plan.{Plan, planned, with_items, CanCount}
use Rattle.sparse_map.proofs.PlanLemmas.{can_count}
use Rattle.sparse_map.proofs.plan.mark_items.Goals as goal

pub loop-item-init : goal.loop-item-init
loop-item-init g c = record { plan = refl; small = c.requires.small }

pub mark_key-requires-clause-small : goal.mark_key-requires-clause-small
mark_key-requires-clause-small g c =
    let xs = c.args.items.now in
    let i = c.loop-item.item-index in
    let e = c.item-item.result in
    let rest = drop_more xs i e c.loop-item-test.true in
    λ j. omega (arith, c.loop-item.invariant.small j, ap length rest)

pub loop-item-preserved : goal.loop-item-preserved
loop-item-preserved g c =
    let n = 2 ^ c.args.bits in
    let xs = c.args.items.now in
    let i = c.loop-item.item-index in
    let e = c.item-item.result in
    let now = planned c.loop-item.marks c.loop-item.counts in
    let rest : drop i xs ≡ e ∷ drop (i + 1) xs = drop_more xs i e c.loop-item-test.true ∙ ap (λ x. x ∷ drop (i + 1) xs) (sym c.item-item.is) in
    record {
      plan = ap (λ p. with_items n p (drop (i + 1) xs)) c.mark_key.ensures ∙ sym (ap (λ r. with_items n now r) rest) ∙ c.loop-item.invariant.plan;
      small = subst (λ (p : Plan). CanCount (length (drop (i + 1) xs)) p.counts) (sym c.mark_key.ensures)
          (can_count n now e.0 (length (drop (i + 1) xs)) (λ j. omega (arith, c.loop-item.invariant.small j, ap length rest)));
    }

pub returns : goal.returns
returns g c =
    let n = 2 ^ c.args.bits in
    let xs = c.args.items.now in
    let now = planned c.loop-item.marks c.loop-item.counts in
    let none = drop_all c.loop-item.item-index xs (omega arith) in
    sym (ap (λ r. with_items n now r) none) ∙ c.loop-item.invariant.plan
