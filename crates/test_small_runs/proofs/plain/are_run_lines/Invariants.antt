use Rattle.std.proofs.Common.{length}
use Rattle.trace_model.specs.Plain.{AreAddressed, AreRunLines}
use Rattle.test_small_runs.proofs.plain.are_run_lines.Given as goal

-- a property of the lines that are left is a property of all lines
abbrev pub invariant-lines : goal.invariant-lines
invariant-lines l =
    record {
      runs : AreRunLines l.rest → AreRunLines l.run;
      addressed : AreAddressed l.rest → AreAddressed l.run;
    }

abbrev pub decreases-lines : goal.decreases-lines
decreases-lines l = length l.rest
