use Rattle.std.proofs.Common.{rules}
use Rattle.test_cache.proofs.bench.Bench.scrubs.Goals as goal

pub scrub-found-requires : goal.scrub-found-requires
scrub-found-requires c = record { up = c.self.invariant.up (search rules) }
