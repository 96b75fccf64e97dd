use Rattle.std.proofs.Common.{◌≤◌, length}
use Rattle.trace_model.specs.Lines.{lines_in}
use Rattle.held_trace.specs.Sweep.{lines_say}
use Rattle.held_trace.proofs.SweepLemmas.{SaidSo}
use Rattle.held_trace.proofs.plain.plain_lines.Given as goal

abbrev pub invariant-lines : goal.invariant-lines
invariant-lines l = record {
  said : SaidSo l.size (lines_say l.size (lines_in l.whole l.fn.bytes)) l.readings.items l.blocks (lines_in l.whole l.rest);
  few : l.blocks ≤ 256;
}

abbrev pub decreases-lines : goal.decreases-lines
decreases-lines l = length l.rest
