use Rattle.block_pool.proofs.TakeLemmas.{IsFoundBelow}
use Rattle.block_pool.proofs.pool.Pool.next_taken.Given as goal

abbrev pub invariant-loop-block : goal.invariant-loop-block
invariant-loop-block l = IsFoundBelow l.self l.block l.next
