use Rattle.std.proofs.Common.{◌∙◌}
use Rattle.std.specs.FinMap.{entries}
use Rattle.mapping.specs.Index.{is_any}
use Rattle.mapping.proofs.TallyLemmas.{tally_is, all_pass}
use Rattle.mapping.proofs.map.Map.held.Goals as goal

pub returns-clause-count : goal.returns-clause-count
returns-clause-count c = rw (← c.self.view_is) (c.self.invariant.index.held ∙ tally_is is_any c.self.inside.held.entries ∙ all_pass (entries c.self.inside.held.entries))
