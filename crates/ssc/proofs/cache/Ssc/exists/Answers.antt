use Rattle.std.proofs.Common.{◌++◌, ◌∙◌, List, ℕ, ap}
use Rattle.std.proofs.lemmas.Result.{on_ok_weaker}
use Rattle.ssc.proofs.ListedLemmas.{listed_is}
use Rattle.ssc.proofs.cache.Ssc.exists.Goals as goal

pub returns-clause-done : goal.returns-clause-done
returns-clause-done c = on_ok_weaker c.list_between.result (λ done contents s holds. done ∙ ap (λ (l : List ℕ). c.args.out.now.items ++ l) (listed_is c.args.self.now contents s holds c.args.from c.args.count)) c.list_between.ensures.done
