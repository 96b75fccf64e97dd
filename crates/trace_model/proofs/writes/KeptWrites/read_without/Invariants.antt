use Rattle.std.proofs.Common.{◌≡◌, drop, length, ◌-◌}
use Rattle.trace_model.specs.Plain.{kept_in}
use Rattle.trace_model.specs.Run.{disk_written}
use Rattle.trace_model.proofs.writes.KeptWrites.read_without.Given as goal

abbrev pub invariant-loop-at : goal.invariant-loop-at
invariant-loop-at l = disk_written (drop l.lost (kept_in l.self)) l.lba ≡ disk_written (drop l.at (kept_in l.self)) l.lba

abbrev pub decreases-loop-at : goal.decreases-loop-at
decreases-loop-at l = length l.self.writes.items - l.at
