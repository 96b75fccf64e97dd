use Rattle.record_codec.proofs.PageLemmas.{LinesSoFar}
use Rattle.record_codec.proofs.page.read_lines.Given as goal

-- the records so far
abbrev pub invariant-loop-i : goal.invariant-loop-i
invariant-loop-i l = LinesSoFar l.wide l.kind l.page.0 l.out l.i
