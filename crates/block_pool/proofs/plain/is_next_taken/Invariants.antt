use Rattle.block_pool.proofs.TakeLemmas.{IsFirstBelow}
use Rattle.block_pool.proofs.plain.is_next_taken.Given as goal

abbrev pub invariant-loop-other : goal.invariant-loop-other
invariant-loop-other l = IsFirstBelow l.pool l.other l.block
