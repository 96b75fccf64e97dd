use Rattle.std.proofs.Common.{rules}
use Rattle.test_cache.proofs.bench.Bench.read.Goals as goal

pub read-requires-clause-up : goal.read-requires-clause-up
read-requires-clause-up c = c.self.invariant.up (search rules)
