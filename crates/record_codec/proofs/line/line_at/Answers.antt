use Rattle.std.proofs.Common.{◌≡◌, ◌+◌, ◌-◌, ◌++◌, ◌∙◌, ap, ap₂, arith, drop, take}
use Rattle.std.proofs.lemmas.List.{drop-replicate}
use Rattle.cache_model.specs.Spelling.{zeros}
use Rattle.record_codec.proofs.line.line_at.Goals as goal

pub returns : goal.returns
returns c =
    let count : c.args.at + c.args.count - c.args.at ≡ c.args.count = omega arith in
    let part : c.copy_from_slice.new.self ≡ take c.args.count (drop c.args.at c.args.page.now.0) = c.copy_from_slice.ensures.after ∙ ap (λ n. take n (drop c.args.at c.args.page.now.0)) count in
    let rest : drop c.args.count (zeros 48) ≡ zeros (48 - c.args.count) = drop-replicate c.args.count 48 0 in
    ap₂ (λ s t. s ++ t) part rest
