use Rattle.std.proofs.Common.{◌≡◌, drop}
use Rattle.trace_model.specs.Plain.{kept_in}
use Rattle.trace_model.proofs.writes.KeptWrites.lose.Given as goal

abbrev pub invariant-loop-write : goal.invariant-loop-write
invariant-loop-write l = kept_in l.self ≡ drop l._write (kept_in l.fn.self)
