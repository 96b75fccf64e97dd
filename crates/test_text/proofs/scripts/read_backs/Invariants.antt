use Rattle.std.proofs.Common.{All}
use Rattle.trace_model.specs.Text.{IsTold}
use Rattle.test_text.proofs.scripts.read_backs.Given as goal

abbrev pub invariant-loop-lba : goal.invariant-loop-lba
invariant-loop-lba l = All IsTold l.answers.items
