use Rattle.std.proofs.Common.{◌≡◌, ◌≤◌, ◌+◌, length, map, arith, sym, ◌∙◌, w8, lit≤}
use Rattle.std.proofs.lemmas.Simd.{bitmask_splat, length-chunk}
use Rattle.std.specs.Simd.Lanes.{mask_l, chunk}
use Rattle.lanes.proofs.EachLemmas.{differs, IsEach-take_vector}
use Rattle.lanes.proofs.vectors_of.Goals as goal

pub loop-done-preserved : goal.loop-done-preserved
loop-done-preserved c =
    let room : c.loop-done.done + 16 ≤ length c.args.bytes.now = omega arith in
    let xs = chunk c.loop-done.done 16 c.args.bytes.now in
    let empty : mask_l (map (λ x. differs x c.args.byte) xs) ≡ 0 =
    sym (bitmask_splat w8 differs xs 16 c.args.byte (length-chunk c.loop-done.done 16 c.args.bytes.now room) (lit≤ tt)) ∙ c.if-others-ne0.false in
    record {
      within = room;
      each = IsEach-take_vector c.args.byte c.args.bytes.now c.loop-done.done 16 room c.loop-done.invariant.each empty;
    }
