use Rattle.std.proofs.Common.{◌≡◌, ◌≤◌, drop}
use Rattle.trace_model.specs.Readings.{since_feed}
use Rattle.held_trace.proofs.limits.since_last_feed.Given as goal

abbrev pub invariant-loop-byte : goal.invariant-loop-byte
invariant-loop-byte l = record {
  rest : since_feed l.count (drop l.byte-index l.bytes) ≡ since_feed 0 l.bytes;
  few : l.count ≤ l.byte-index;
}
