use Rattle.std.proofs.Common.{◌≡◌, length, take, drop, ap, ◌∙◌, arith}
use Rattle.ft_media.specs.declared.media.PageRead.TheVariants as read
use Rattle.sealed_media.proofs.PlainLemmas.{found_so}
use Rattle.sealed_media.proofs.sealing.take_out.Goals as goal

pub returns-in-Whole-clause-found : goal.returns-in-Whole-clause-found
returns-in-Whole-clause-found c =
    let raw = c.args.page.now in
    let block_long : length c.args.block.now.0 ≡ 4096 = omega arith in
    let spare_long : length c.args.spare.now.0 ≡ 32 = omega arith in
    let b : c.copy.new.to ≡ take 4096 raw.0 = c.copy.ensures ∙ ap (λ n. take n raw.0) block_long in
    let s : c.copy-in-Whole.new.to ≡ take 32 (drop 4096 raw.0) = c.copy-in-Whole.ensures ∙ ap (λ n. take n (drop 4096 raw.0)) spare_long in
    found_so raw read.Whole (record { 0 = c.copy.new.to }) (record { 0 = c.copy-in-Whole.new.to }) c.in-Whole.ensures.found
    (λ whole. ((λ i. record { 0 = b i }), (λ i. record { 0 = s i })))

pub returns-in-Blank-clause-found : goal.returns-in-Blank-clause-found
returns-in-Blank-clause-found c = found_so c.args.page.now read.Blank c.args.block.now c.args.spare.now c.in-Blank.ensures.found (λ whole. cc)

pub returns-in-Torn-clause-found : goal.returns-in-Torn-clause-found
returns-in-Torn-clause-found c = found_so c.args.page.now read.Torn c.args.block.now c.args.spare.now c.in-Torn.ensures.found (λ whole. cc)
