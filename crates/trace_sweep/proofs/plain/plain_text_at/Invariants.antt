use Rattle.std.proofs.Common.{◌≡◌, ◌++◌, take}
use Rattle.trace_model.specs.Text.{text}
use Rattle.trace_sweep.specs.Runs.{at_text}
use Rattle.trace_sweep.proofs.plain.plain_text_at.Given as goal

abbrev pub invariant-loop-answer : goal.invariant-loop-answer
invariant-loop-answer l = l.bytes.items ≡ at_text l.number ++ text (take l.answer-index l.answers)
