use Rattle.std.proofs.Common.{◌≡◌, ◌≤◌, ◌+◌, length, map}
use Rattle.trace_model.specs.Lines.{lines_in}
use Rattle.trace_model.specs.Readings.{accepted}
use Rattle.held_trace.specs.Sweep.{lines_say}
use Rattle.held_trace.proofs.SweepLemmas.{SaidSo}
use Rattle.held_trace.proofs.held.HeldTrace.hold_lines.Given as goal

abbrev pub invariant-lines : goal.invariant-lines
invariant-lines l = record {
  said : SaidSo l.fn.self.size (lines_say l.fn.self.size (lines_in l.whole l.fn.bytes)) (map accepted l.self.lines.items) l.self.blocks (lines_in l.whole l.rest);
  few : length l.self.lines.items + length l.rest ≤ 4096;
  size : l.self.size ≡ l.fn.self.size;
}

abbrev pub decreases-lines : goal.decreases-lines
decreases-lines l = length l.rest
