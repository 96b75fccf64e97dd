use Rattle.std.proofs.Common.{◌∙◌, length, ap}
use Rattle.cache_model.specs.Entries.{groups_with}
use Rattle.mapping.specs.Counts.{has_mark}
use Rattle.mapping.proofs.marks.MarkedGroups.count.Goals as goal

pub returns-in-Dirty : goal.returns-in-Dirty
returns-in-Dirty c = rw c.in-Dirty.is (λ g m all. c.len.ensures ∙ all.dirty.many)

pub returns-in-BlockMapped : goal.returns-in-BlockMapped
returns-in-BlockMapped c = rw c.in-BlockMapped.is (λ g m all. all.data_blocks)
