use Rattle.trace_model.proofs.KeepLemmas.{lost-more}
use Rattle.trace_model.proofs.writes.KeptWrites.lose.Goals as goal

pub loop-write-preserved : goal.loop-write-preserved
loop-write-preserved c = lost-more c.args.self.now.writes.items c.pop_front.new.self.items c.loop-write.self.writes.items c.loop-write._write c.loop-write.invariant c.pop_front.ensures.rest
