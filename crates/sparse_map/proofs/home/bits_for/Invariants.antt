use Rattle.std.proofs.Common.{◌-◌, ◌≤◌, ◌^◌, if◌then◌else◌, ◌==◌}
use Rattle.sparse_map.proofs.HomeLemmas.{GrewFor}
use Rattle.sparse_map.proofs.home.bits_for.Given as goal

abbrev pub invariant-loop-wide : goal.invariant-loop-wide
invariant-loop-wide l = record {
  many : 5 ≤ l.wide;
  few : l.wide ≤ 31;
  grew : GrewFor l.need (if l.bits == 0 then 0 else 2 ^ l.bits) l.wide;
}

abbrev pub decreases-loop-wide : goal.decreases-loop-wide
decreases-loop-wide l = 31 - l.wide
