use Rattle.sha2.specs.Hashers.{Holds256}
use Rattle.bench_run.specs.Floor.{blocks_told}
use Rattle.bench_run.proofs.floor.hashed.Given as goal

abbrev pub invariant-loop-address : goal.invariant-loop-address
invariant-loop-address l = Holds256 l.hasher (blocks_told l.slots l.address)
