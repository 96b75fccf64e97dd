use Rattle.std.proofs.Common.{ℕ, ◌∙◌}
use Rattle.std.proofs.lemmas.List.Sums.{length-filter}
use Rattle.std.specs.FinMap.{entries}
use Rattle.cache_model.specs.declared.entry.Entry.{Entry}
use Rattle.mapping.proofs.TallyLemmas.{tally_is}
use Rattle.mapping.proofs.map.Map.dirty_entries.Goals as goal

pub returns : goal.returns
returns c = rw (← c.self.view_is) (c.self.invariant.index.dirty ∙ tally_is (λ e. e.dirty) c.self.inside.held.entries ∙ length-filter (λ (x : ℕ × Entry). x.1.dirty) (entries c.self.inside.held.entries))
