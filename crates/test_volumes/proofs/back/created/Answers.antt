use Rattle.std.proofs.lemmas.Result.{IfOk-weaker}
use Rattle.test_volumes.proofs.back.created.Goals as goal

pub returns-clause-told : goal.returns-clause-told
returns-clause-told c = IfOk-weaker c.create.result _ _ (λ v opened. opened.told) c.create.ensures.opened
