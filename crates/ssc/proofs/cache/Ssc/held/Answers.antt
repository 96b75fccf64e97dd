use Rattle.std.proofs.Common.{◌∙◌}
use Rattle.ssc.proofs.ListedLemmas.{held_same}
use Rattle.ssc.proofs.cache.Ssc.held.Goals as goal

pub returns-clause-list : goal.returns-clause-list
returns-clause-list c = λ contents s holds. c.held.ensures.count ∙ held_same c.args.self.now contents s holds
