use Rattle.std.proofs.Common.{All, List, subst, sym}
use Rattle.std.proofs.lemmas.List.Elements.{All-nil, All-push}
use Rattle.trace_model.specs.declared.answer.Answer.{Answer}
use Rattle.trace_model.specs.Text.{IsTold}
use Rattle.test_text.proofs.scripts.read_backs.Goals as goal

pub loop-lba-init : goal.loop-lba-init
loop-lba-init c = subst (λ (l : List Answer). All IsTold l) (sym c.new-answers.ensures.items) (All-nil IsTold)

pub loop-lba-preserved : goal.loop-lba-preserved
loop-lba-preserved c = subst (λ (l : List Answer). All IsTold l) (sym c.in_ok-push.ensures.items) (All-push IsTold _ _ c.loop-lba.invariant tt)
