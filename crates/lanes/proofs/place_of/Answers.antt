use Rattle.std.proofs.Common.{arith, nat_eq}
use Rattle.lanes.proofs.LeastLemmas.{position_at, position_none}
use Rattle.lanes.proofs.place_of.Goals as goal

pub returns-then-counts-place : goal.returns-then-counts-place
returns-then-counts-place c =
    position_at (λ count. nat_eq count c.args.value) c.args.counts.now c.loop-place.place (omega arith) c.loop-place.invariant (grind arith)

pub returns : goal.returns
returns c =
    position_none (λ count. nat_eq count c.args.value) c.args.counts.now
    (λ k lt. c.loop-place.invariant k (omega arith))
