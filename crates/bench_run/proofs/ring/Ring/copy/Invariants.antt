use Rattle.std.proofs.Common.{◌≡◌}
use Rattle.bench_run.specs.Floor.{after_copies, pages_of}
use Rattle.bench_run.proofs.ring.Ring.copy.Given as goal

abbrev pub invariant-loop : goal.invariant-loop
invariant-loop l = pages_of l.self ≡ after_copies l.counter (pages_of l.initial.self)
