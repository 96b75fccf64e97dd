use Rattle.std.proofs.Common.{◌≡◌, ◌<◌, length}
use Rattle.bench_map.proofs.keys.in_strides.Given as goal

abbrev pub invariant-loop : goal.invariant-loop
invariant-loop l = record {
  within : 0 < length l.keys → l.at < length l.keys;
  length : length l.asked.items ≡ l.counter;
}
