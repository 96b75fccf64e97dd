use Rattle.std.proofs.Common.{◌≡◌, ◌+◌, ◌∷◌, ◌^◌, length, take, drop, refl, sym, ap, ◌∙◌, subst, arith}
use Rattle.std.proofs.lemmas.Bool.{false≢true}
use Rattle.std.proofs.lemmas.List.{drop_more, take_all, length-append}
use Rattle.sparse_map.specs.Plan.{Plan, planned, with_items, CanCount}
use Rattle.sparse_map.specs.Moved.{items_in}
use Rattle.sparse_map.proofs.PlanLemmas.{can_count_items, with_items-append}
use Rattle.sparse_map.proofs.HeirLemmas.{items_in-more, clear_more, noted_more}
use Rattle.sparse_map.proofs.plan.mark_groups.Goals as goal

pub loop-source-init : goal.loop-source-init
loop-source-init g c = record {
  plan = refl;
  small = c.requires.small;
  clear = λ q is. absurd (false≢true (sym (c.requires.none q) ∙ is));
  all = λ q inside paired none. absurd (let wrong : ⊥ = omega (arith, inside) in wrong);
  level = refl;
}

pub mark_items-requires-clause-small : goal.mark_items-requires-clause-small
mark_items-requires-clause-small g c =
    let us = c.args.groups.now in
    let i = c.loop-source.source in
    let u = c.index-groups-source.result in
    let rest : drop i us ≡ u ∷ drop (i + 1) us = drop_more us i u c.loop-source-test.true ∙ ap (λ x. x ∷ drop (i + 1) us) (sym c.index-groups-source.is) in
    let long : length (items_in (drop i us)) ≡ length u.items.items + length (items_in (drop (i + 1) us)) = ap (λ r. length (items_in r)) rest ∙ length-append u.items.items (items_in (drop (i + 1) us)) in
    λ j. omega (arith, c.loop-source.invariant.small j, long, ap length c.as_slice.ensures.value)

pub loop-source-preserved : goal.loop-source-preserved
loop-source-preserved g c =
    let n = 2 ^ c.args.bits in
    let us = c.args.groups.now in
    let i = c.loop-source.source in
    let u = c.index-groups-source.result in
    let xs = u.items.items in
    let ys = items_in (drop (i + 1) us) in
    let start = planned c.args.marks.now c.args.counts.now in
    let now = planned c.loop-source.marks c.loop-source.counts in
    let before = c.loop-source.invariant in
    let rest : drop i us ≡ u ∷ drop (i + 1) us = drop_more us i u c.loop-source-test.true ∙ ap (λ x. x ∷ drop (i + 1) us) (sym c.index-groups-source.is) in
    let long : length (items_in (drop i us)) ≡ length xs + length ys = ap (λ r. length (items_in r)) rest ∙ length-append xs ys in
    let new = c.mark_items.ensures ∙ ap (λ es. with_items n now es) c.as_slice.ensures.value in
    record {
      plan =
          new
          ∙ ap (λ p. with_items n p xs) before.plan
          ∙ sym (with_items-append n start (items_in (take i us)) xs)
          ∙ sym (ap (λ r. with_items n start r) (items_in-more us i u c.loop-source-test.true c.index-groups-source.is));
      small = subst (λ (p : Plan). CanCount (length ys) p.counts) (sym new)
          (can_count_items n now xs (length ys) (λ j. omega (arith, before.small j, long)));
      clear = clear_more n start us now i c.loop-source.clear c.note_clear.new.clear before.plan c.note_clear.ensures.none before.clear;
      all = noted_more n start us now i c.loop-source.clear c.note_clear.new.clear before.plan before.level c.note_clear.ensures.all c.note_clear.ensures.others before.all;
      level = c.mark_items.auto.counts ∙ before.level;
    }

pub returns-clause-plan : goal.returns-clause-plan
returns-clause-plan g c =
    let n = 2 ^ c.args.bits in
    let us = c.args.groups.now in
    c.loop-source.invariant.plan
    ∙ ap (λ r. with_items n (planned c.args.marks.now c.args.counts.now) (items_in r)) (take_all c.loop-source.source us (omega arith))
