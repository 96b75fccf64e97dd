use Rattle.std.proofs.Common.{◌≡◌, ◌≤◌, ◌+◌, length, arith}
use Rattle.lanes.proofs.XorLemmas.{front_more, back_more}
use Rattle.std.proofs.lemmas.Simd.{length-put_chunk}
use Rattle.lanes.proofs.xor_vectors.Goals as goal

pub loop-to-preserved : goal.loop-to-preserved
loop-to-preserved c =
    let room : c.loop-to.done + 16 ≤ length c.loop-to.to = omega arith in
    let same : length c.loop-to.to ≡ length c.args.to.now = omega arith in
    record {
      within = simp length-put_chunk (omega arith);
      front = front_more c.args.to.now c.args.from.now c.loop-to.to c.loop-to.done c.requires same room c.loop-to.invariant.front c.loop-to.invariant.back;
      back = back_more c.args.to.now c.args.from.now c.loop-to.to c.loop-to.done c.requires same room c.loop-to.invariant.back;
    }
