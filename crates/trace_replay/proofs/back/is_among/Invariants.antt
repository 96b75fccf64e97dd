use Rattle.std.proofs.Common.{◌≡◌, ◌==◌, false, take, drop}
use Rattle.std.specs.List.{list_any}
use Rattle.trace_replay.specs.declared.recent.Recent.{Recent}
use Rattle.trace_replay.proofs.back.is_among.Given as goal

abbrev pub invariant-loop-j : goal.invariant-loop-j
invariant-loop-j l = record {
  none : list_any (λ (r : Recent). r.lba == l.lba) (drop l.from (take l.j l.recent)) ≡ false;
}
