use Rattle.std.proofs.Common.{◌∙◌}
use Rattle.ssc.proofs.cache.Ssc.later.Goals as goal

pub returns : goal.returns
returns c = λ contents s holds. c.len.ensures ∙ holds.places
