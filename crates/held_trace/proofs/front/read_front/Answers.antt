use Rattle.std.proofs.Common.{◌∙◌, arith}
use Rattle.held_trace.proofs.SweepLemmas.{consumes_more}
use Rattle.held_trace.proofs.front.read_front.Goals as goal

pub pieces-preserved : goal.pieces-preserved
pieces-preserved g c = record {
  within = let more = c.in-Ok.ensures.within in omega arith;
  long = c.read_behind.ensures.long ∙ c.pieces.invariant.long;
  taken = consumes_more (g.I.Source.state c.args.source.now).left (g.I.Source.state c.pieces.source).left (g.I.Source.state c.read_behind.new.source).left c.pieces.count c.in-Ok.n c.pieces.buffer c.read_behind.new.buffer c.pieces.invariant.taken c.in-Ok.ensures.bytes c.read_behind.ensures.front;
  same = c.in-Ok.ensures.cause.stays ∙ c.pieces.invariant.same;
  lent = c.read_behind.ensures.lent ∙ c.pieces.invariant.lent;
}
