use Rattle.std.proofs.Common.{◌≡◌, ◌≢◌, ℕ, ◌+◌, ◌-◌, ◌<◌, ◌≤◌, Some}
use Rattle.sparse_map.specs.Slots.{key_at}
use Rattle.sparse_map.specs.Groups.{slots_in}
use Rattle.sparse_map.proofs.group.Group.find_in_run.Given as goal

abbrev pub invariant-loop-k : goal.invariant-loop-k
invariant-loop-k g l = record {
  at : l.at ≡ l.place + (l.k - l.from);
  none : (j : ℕ) → l.from ≤ j → j < l.k → key_at (slots_in l.self) j ≢ Some l.key;
}
