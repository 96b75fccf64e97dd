use Rattle.std.proofs.Common.{◌≡◌, ◌≤◌, ◌+◌, length, map, arith, sym, ◌∙◌, nat_eq, w16, lit≤}
use Rattle.std.proofs.lemmas.Simd.{bitmask_splat, length-chunk}
use Rattle.std.specs.Simd.Lanes.{mask_l, chunk}
use Rattle.lanes.proofs.EachLemmas.{All-other_take_vector}
use Rattle.lanes.proofs.vectors_without.Goals as goal

pub loop-done-preserved : goal.loop-done-preserved
loop-done-preserved c =
    let room : c.loop-done.done + 8 ≤ length c.args.counts.now = omega arith in
    let xs = chunk c.loop-done.done 8 c.args.counts.now in
    let empty : mask_l (map (λ x. nat_eq x c.args.value) xs) ≡ 0 =
    sym (bitmask_splat w16 nat_eq xs 8 c.args.value (length-chunk c.loop-done.done 8 c.args.counts.now room) (lit≤ tt)) ∙ c.if-found-ne0.false in
    record {
      within = room;
      none = All-other_take_vector c.args.value c.args.counts.now c.loop-done.done 8 room c.loop-done.invariant.none empty;
    }
