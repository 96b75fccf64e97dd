use Rattle.std.proofs.Common.{◌≡◌, ℕ, ◌-◌, length}
use Rattle.block_pool.specs.Pool.{erases_of}
use Rattle.merge_engine.proofs.GiveBackLemmas.{FewerOrHeld, GaveBack}
use Rattle.merge_engine.proofs.HeldLogsLemmas.{HeldSoFar}
use Rattle.merge_engine.proofs.appending.free_unheld.Given as goal

-- only blocks of the pool went out of use, and some entry stands in each block that was passed
abbrev pub invariant-loop-i : goal.invariant-loop-i
invariant-loop-i l = record {
  gave : GaveBack l.fn.cache l.cache;
  looked : FewerOrHeld l.fn.cache l.cache l.i;
  held : HeldSoFar l.fn.cache.map.entries l.fn.cache.log_blocks.used l.cache.log_blocks.used l.i;
  erases : (b : ℕ) → erases_of l.cache.pool b ≡ erases_of l.fn.cache.pool b;
}

abbrev pub decreases-loop-i : goal.decreases-loop-i
decreases-loop-i l = length l.cache.log_blocks.used - l.i
