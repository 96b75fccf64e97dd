use Rattle.std.proofs.Common.{◌+◌, ◌-◌, ◌/◌, ◌<◌, ◌≤◌, sym, subst, ◌∙◌, arith}
use Rattle.ft_base.specs.declared.geometry.Geometry.{Geometry}
use Rattle.mapping.specs.Index.{without_range}
use Rattle.mapping.specs.Ranges.{start_of}
use Rattle.mapping.proofs.RangeLemmas.{there, still_map, next_there, last_there, last_absent}
use Rattle.mapping.proofs.ranges.enter_next.Goals as goal

pub entry_beside-requires-clause-group : goal.entry_beside-requires-clause-group
entry_beside-requires-clause-group c = subst (λ (g : Geometry). c.args.span.group ≤ (g.size - 1) / g.p) (sym c.requires.geometry) c.requires.span.reach

pub entry_beside-requires-clause-page : goal.entry_beside-requires-clause-page
entry_beside-requires-clause-page c = subst (λ (g : Geometry). c.args.span.first + c.args.left < g.p) (sym c.requires.geometry) (let within = c.requires.span.within in let low = c.requires.left in omega (arith, within, low))

pub enter-requires : goal.enter-requires
enter-requires c = (
  without_range c.args.held.now.entries (start_of c.args.geometry.now c.args.span) c.args.left,
  still_map c.args.geometry.now c.args.held.now.entries (start_of c.args.geometry.now c.args.span) c.args.left c.requires.map,
  last_there
      c.args.geometry.now c.args.held.now.entries (start_of c.args.geometry.now c.args.span) c.args.left c.args.index.now c.requires.index,
  next_there c.args.held.now.entries (start_of c.args.geometry.now c.args.span) c.args.left ∙ sym (there c.args.held.now.geometry c.args.geometry.now c.args.held.now.entries c.args.span c.args.left _ c.requires.geometry c.in-Some.ensures),
)

pub returns-in-Some : goal.returns-in-Some
returns-in-Some c = c.enter.ensures (without_range c.args.held.now.entries (start_of c.args.geometry.now c.args.span) c.args.left) (still_map c.args.geometry.now c.args.held.now.entries (start_of c.args.geometry.now c.args.span) c.args.left c.requires.map)
    (last_there c.args.geometry.now c.args.held.now.entries (start_of c.args.geometry.now c.args.span) c.args.left c.args.index.now c.requires.index)
    (next_there c.args.held.now.entries (start_of c.args.geometry.now c.args.span) c.args.left ∙ sym (there c.args.held.now.geometry c.args.geometry.now c.args.held.now.entries c.args.span c.args.left _ c.requires.geometry c.in-Some.ensures))

pub returns-in-None : goal.returns-in-None
returns-in-None c = last_absent c.args.geometry.now c.args.held.now.entries (start_of c.args.geometry.now c.args.span) c.args.left c.args.index.now (sym (there c.args.held.now.geometry c.args.geometry.now c.args.held.now.entries c.args.span c.args.left _ c.requires.geometry c.in-None.ensures)) c.requires.index
