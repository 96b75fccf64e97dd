use Rattle.std.proofs.Common.{◌∙◌}
use Rattle.mapping.proofs.ChosenLemmas.{has_data_block}
use Rattle.mapping.proofs.MarkedLemmas.{some_marked}
use Rattle.mapping.proofs.marks.MarkedGroups.has.Goals as goal

pub returns-in-Dirty : goal.returns-in-Dirty
returns-in-Dirty c = rw c.in-Dirty.is (some_marked c.args.held.now.geometry c.args.held.now.entries c.args.group c.count.result (c.count.ensures ∙ c.requires.dirty.each c.args.group))

pub returns-in-BlockMapped : goal.returns-in-BlockMapped
returns-in-BlockMapped c = rw c.in-BlockMapped.is (has_data_block c.args.held.now.geometry c.args.held.now.entries c.args.group c.block_of.result c.is_some.result c.is_some.ensures c.block_of.ensures.some c.block_of.ensures.none)
