use Rattle.mapping.specs.Packed.{block_record}
use Rattle.mapping.proofs.CheckpointLemmas.{GroupsOffered}
use Rattle.mapping.proofs.checkpoint.offer_all_blocks.Given as goal

-- the groups so far
abbrev pub invariant-loop-group : goal.invariant-loop-group
invariant-loop-group l = GroupsOffered block_record l.blocks.slots l.before l.from l.fn.out l.out l.group l.at
