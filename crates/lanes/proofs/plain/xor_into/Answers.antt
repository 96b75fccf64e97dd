use Rattle.std.proofs.Common.{arith}
use Rattle.lanes.proofs.XorLemmas.{xor_of_by_places}
use Rattle.lanes.proofs.plain.xor_into.Goals as goal

pub returns : goal.returns
returns c =
    xor_of_by_places c.args.to.now c.args.from.now c.loop-i.to c.requires (omega arith)
    (λ k lt. c.loop-i.invariant.below k (omega arith))
