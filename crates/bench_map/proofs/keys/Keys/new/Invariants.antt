use Rattle.std.proofs.Common.{◌≡◌, length}
use Rattle.bench_map.proofs.keys.Keys.new.Given as goal

abbrev pub invariant-loop-i : goal.invariant-loop-i
invariant-loop-i l = length l.inserted.items ≡ l.i
