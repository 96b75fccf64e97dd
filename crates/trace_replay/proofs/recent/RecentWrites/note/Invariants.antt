use Rattle.std.proofs.Common.{◌≡◌, take}
use Rattle.trace_replay.specs.Owing.{most_lost, with_recent}
use Rattle.trace_replay.proofs.recent.RecentWrites.note.Given as goal

abbrev pub invariant-loop-i : goal.invariant-loop-i
invariant-loop-i l = record {
  items : l.self-inside.writes.items ≡ take most_lost (with_recent l.request.lba l.request.tag l.i l.fn.self);
  capacity : l.self-inside.writes.capacity ≡ most_lost;
}
