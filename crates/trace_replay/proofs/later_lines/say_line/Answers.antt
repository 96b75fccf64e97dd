use Rattle.std.proofs.Common.{All, List, sym, subst}
use Rattle.trace_model.specs.declared.answer.Answer.{Answer}
use Rattle.trace_model.specs.Text.{IsTold}
use Rattle.trace_replay.proofs.later_lines.say_line.Goals as goal

pub say_lost-requires-in-Read : goal.say_lost-requires-in-Read
say_lost-requires-in-Read g c = subst (λ (l : List Answer). All IsTold l) (sym c.as_slice.ensures.value) (c.requires.told c.in-Read.lba c.in-Read.count c.in-Read.is)
