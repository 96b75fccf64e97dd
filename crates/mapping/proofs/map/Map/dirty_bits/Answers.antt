use Rattle.std.proofs.Common.{sym, ◌∙◌}
use Rattle.mapping.proofs.MarkedLemmas.{no_dirty_pages}
use Rattle.mapping.proofs.map.Map.dirty_bits.Goals as goal

pub returns-then-count-eq0 : goal.returns-then-count-eq0
returns-then-count-eq0 c = rw (← c.self.view_is) (no_dirty_pages c.self.inside.geometry c.self.inside.held.entries c.args.group (sym (c.self.invariant.marked_groups.dirty.each c.args.group) ∙ sym c.count.ensures ∙ c.if-count-eq0.true))
