use Rattle.mapping.specs.Packed.{block_record}
use Rattle.mapping.proofs.CheckpointLemmas.{ItemsOffered}
use Rattle.mapping.proofs.checkpoint.offer_blocks.Given as goal

-- the items so far
abbrev pub invariant-loop-item : goal.invariant-loop-item
invariant-loop-item l = ItemsOffered block_record l.items l.before l.from l.fn.out l.out l.item-index l.at
