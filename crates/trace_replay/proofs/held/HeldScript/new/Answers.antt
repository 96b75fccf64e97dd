use Rattle.std.proofs.Common.{◌++◌}
use Rattle.trace_replay.proofs.HeldLemmas.{held_first}
use Rattle.trace_replay.proofs.held.HeldScript.new.Goals as goal

pub returns-clause-came : goal.returns-clause-came
returns-clause-came g c = (held_first (c.args.first.now ++ c.args.lines.now) (g.O.Sink.state c.args.sink.now), c.new.ensures)
