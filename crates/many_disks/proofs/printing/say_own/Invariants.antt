use Rattle.std.proofs.Common.{◌≡◌, ◌≤◌, map, take}
use Rattle.trace_replay.proofs.PieceLemmas.{Gathered}
use Rattle.many_disks.specs.Told.{own}
use Rattle.many_disks.proofs.printing.say_own.Given as goal

abbrev pub invariant-loop-answer : goal.invariant-loop-answer
invariant-loop-answer g l = record {
  gathered : Gathered (g.O.Sink.state l.fn.sink) (g.O.Sink.state l.sink) (take l.answer-index (map (own l.start) l.answers)) l.lines.items;
  later : (g.O.Sink.state l.fn.sink).faults ≤ (g.O.Sink.state l.sink).faults;
  lent : (g.O.Sink.state l.sink).lent ≡ (g.O.Sink.state l.fn.sink).lent;
}
