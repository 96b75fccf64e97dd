use Rattle.std.proofs.Common.{◌≡◌, ◌≤◌, ◌-◌, length, take}
use Rattle.std.specs.Io.KnownBytes.{Consumes}
use Rattle.held_trace.proofs.front.read_front.Given as goal

abbrev pub invariant-pieces : goal.invariant-pieces
invariant-pieces g l = record {
  within : l.count ≤ length l.buffer;
  long : length l.buffer ≡ length l.fn.buffer;
  taken : Consumes (g.I.Source.state l.fn.source).left (g.I.Source.state l.source).left (take l.count l.buffer);
  same : (g.I.Source.state l.source).faults ≡ (g.I.Source.state l.fn.source).faults;
  lent : (g.I.Source.state l.source).lent ≡ (g.I.Source.state l.fn.source).lent;
}

abbrev pub decreases-pieces : goal.decreases-pieces
decreases-pieces g l = length l.fn.buffer - l.count
