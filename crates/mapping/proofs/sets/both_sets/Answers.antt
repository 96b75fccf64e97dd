use Rattle.std.proofs.Common.{◌≡◌, ◌+◌, ◌*◌, ◌/◌, ◌-◌, ◌^◌, ◌<◌, ◌≤◌, cond, ap, subst, sym, ◌∙◌}
use Rattle.std.specs.FinMap.{get}
use Rattle.ft_base.specs.declared.geometry.Geometry.{Geometry}
use Rattle.mapping.specs.declared.bits.Choice.TheVariants.{Held, Dirty}
use Rattle.mapping.specs.Bits.{is_chosen}
use Rattle.mapping.proofs.BitsLemmas.{set_more}
use Rattle.mapping.proofs.sets.both_sets.Goals as goal

pub entry_beside-entry-requires-clause-group : goal.entry_beside-entry-requires-clause-group
entry_beside-entry-requires-clause-group c = subst (λ (g : Geometry). c.args.group ≤ (g.size - 1) / g.p) (sym c.requires.geometry) c.requires.group

pub entry_beside-entry-requires-clause-page : goal.entry_beside-entry-requires-clause-page
entry_beside-entry-requires-clause-page c = subst (λ (g : Geometry). c.loop-page.page < g.p) (sym c.requires.geometry) c.loop-page-test.true

pub with_page-held_set-requires-clause-below : goal.with_page-held_set-requires-clause-below
with_page-held_set-requires-clause-below c = c.loop-page.invariant.0.below

pub with_page-dirty_set-requires-clause-below : goal.with_page-dirty_set-requires-clause-below
with_page-dirty_set-requires-clause-below c = c.loop-page.invariant.1.below

pub loop-page-preserved : goal.loop-page-preserved
loop-page-preserved c =
    let there = c.entry_beside-entry.ensures ∙ ap (λ (g : Geometry). get c.args.held.now.entries (c.args.group * g.p + c.loop-page.page)) c.requires.geometry in (
      set_more (λ i. is_chosen Held (get c.args.held.now.entries (c.args.group * c.args.geometry.now.p + i))) c.loop-page.page c.loop-page.held_set c.with_page-held_set.result c.loop-page.invariant.0
          (c.with_page-held_set.ensures.set ∙ ap (λ b. c.loop-page.held_set + cond b (2 ^ c.loop-page.page) 0) (c.is_on.ensures ∙ ap (is_chosen Held) there))
          c.with_page-held_set.ensures.below,
      set_more (λ i. is_chosen Dirty (get c.args.held.now.entries (c.args.group * c.args.geometry.now.p + i))) c.loop-page.page c.loop-page.dirty_set c.with_page-dirty_set.result c.loop-page.invariant.1
          (c.with_page-dirty_set.ensures.set ∙ ap (λ b. c.loop-page.dirty_set + cond b (2 ^ c.loop-page.page) 0) (c.is_on-in-loop-page.ensures ∙ ap (is_chosen Dirty) there))
          c.with_page-dirty_set.ensures.below,
    )
