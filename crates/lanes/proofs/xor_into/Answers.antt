use Rattle.std.proofs.Common.{arith}
use Rattle.lanes.proofs.XorLemmas.{xor_of_parts}
use Rattle.lanes.proofs.xor_into.Goals as goal

pub returns : goal.returns
returns c =
    xor_of_parts c.args.to.now c.args.from.now c.xor_vectors-done.new.to c.xor_into.new.to c.xor_vectors-done.result c.requires (omega arith) (omega arith)
    c.xor_vectors-done.ensures.front c.xor_vectors-done.ensures.back c.xor_into.ensures
