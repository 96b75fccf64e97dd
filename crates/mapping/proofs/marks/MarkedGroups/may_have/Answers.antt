use Rattle.std.proofs.Common.{◌↔◌, IsTrue, sym, subst}
use Rattle.ft_base.specs.declared.geometry.Geometry.{Geometry}
use Rattle.mapping.specs.MarkedGroups.{AreMarkedGroups}
use Rattle.mapping.specs.Seeking.{HasMarkIn}
use Rattle.mapping.proofs.MarksLemmas.{may_without, may_where_room, may_where_full}
use Rattle.mapping.proofs.marks.MarkedGroups.may_have.Goals as goal

pub returns-then-not-has : goal.returns-then-not-has
returns-then-not-has c = may_without c.args.geometry.now c.args.held.now.entries c.args.mark c.args.group c.args.has c.if-not-has.true

pub returns-then-count-geometry : goal.returns-then-count-geometry
returns-then-count-geometry c = may_where_room c.args.geometry.now c.args.held.now.entries c.args.mark c.args.group c.args.has c.count.result (c.count.ensures c.args.geometry.now c.args.held.now.entries c.requires.counted) c.if-count-geometry.true

pub has-requires : goal.has-requires
has-requires c = subst (λ (g : Geometry). AreMarkedGroups g c.args.held.now.entries c.args.self.now) (sym c.requires.geometry) c.requires.counted

pub returns : goal.returns
returns c = may_where_full c.args.geometry.now c.args.held.now.entries c.args.mark c.args.group c.args.has c.count.result c.has.result c.if-not-has.false (c.count.ensures c.args.geometry.now c.args.held.now.entries c.requires.counted) c.if-count-geometry.false
    (subst (λ (g : Geometry). IsTrue c.has.result ↔ HasMarkIn g c.args.held.now.entries c.args.mark c.args.group) c.requires.geometry c.has.ensures)
