use Rattle.std.proofs.Common.{◌≡◌, length, take, ap, ◌∙◌, arith}
use Rattle.sealed_media.specs.Seal.{joined_page}
use Rattle.sealed_media.proofs.ShownLemmas.{parts_in_row}
use Rattle.sealed_media.proofs.shown.parts_of.Goals as goal

pub returns : goal.returns
unfolding joined_page
returns c =
    let p = c.args.page.now.0 in
    let block_long : length c.zero_block-block.result.0 ≡ 4096 = omega arith in
    let b : c.copy.new.to ≡ take 4096 p = c.copy.ensures ∙ ap (λ n. take n p) block_long in
    let bytes = parts_in_row p c.copy.new.to c.copy-2.new.to c.copy-3.new.to (omega arith) b c.copy-2.ensures c.copy-3.ensures in
    λ i. record { 0 = bytes i }
