use Rattle.std.proofs.Common.{sym, ◌∙◌}
use Rattle.ssc.proofs.HoldsLemmas.{length_waiting}
use Rattle.ssc.proofs.cache.Ssc.buffered.Goals as goal

pub returns : goal.returns
returns c = c.buffered.ensures.buffered ∙ sym (length_waiting c.args.self.now.parts.log.buffered)
