use Rattle.std.proofs.Common.{◌≡◌, length, replicate, ap, ◌∙◌, arith}
use Rattle.sealed_media.specs.Seal.{joined_page}
use Rattle.sealed_media.proofs.SealLemmas.{joined}
use Rattle.sealed_media.proofs.sealing.join.Goals as goal

pub returns : goal.returns
unfolding joined_page
returns c =
    let block_long : length c.args.block.now.0 ≡ 4096 = omega arith in
    let spare_long : length c.args.spare.now.0 ≡ 32 = omega arith in
    let last_long : length c.args.last.now ≡ 32 = omega arith in
    let b = c.as_slice.ensures in
    let s = c.as_slice-2.ensures in
    let t = c.as_slice-3.ensures in
    let bytes = joined (replicate 4160 0) c.put.new.page c.put-2.new.page c.put-3.new.page c.as_slice.result.now c.as_slice-2.result.now c.as_slice-3.result.now c.args.block.now c.args.spare.now c.args.last.now
    b s t c.put.ensures c.put-2.ensures c.put-3.ensures (ap length b ∙ block_long) (ap length s ∙ spare_long) c.put-2.array_long (ap length t ∙ last_long) in
    λ i. record { 0 = bytes i }
