use Rattle.std.proofs.Common.{◌≡◌, ◌+◌, ◌-◌, ◌*◌, length, take, drop, min, ◌∙◌, ap, arith}
use Rattle.ft_base.specs.Layout.{page_records}
use Rattle.checkpoint.proofs.AskedLemmas.{page_in_run}
use Rattle.checkpoint.proofs.asking.records_of.Goals as goal

pub returns : goal.returns
returns c =
    let g = c.args.geometry.now in
    let i = c.args.sequence in
    let rs = c.args.map.now.records in
    let asked = c.args.asked.now in
    let n = page_records g in
    let at = c.place_of-first.result in
    let count : at + c.min-count.result - at ≡ min n (length rs - n * i) = omega (arith, c.min-count.ensures, c.q.ensures.number, c.checkpoint_len.ensures.count, c.first_of.ensures) in
    ap (λ k. take k (drop at asked)) count ∙ ap (λ k. take (min n (length rs - n * i)) (drop k asked)) c.place_of-first.ensures.place ∙ page_in_run g rs asked i c.requires.some c.requires.run
