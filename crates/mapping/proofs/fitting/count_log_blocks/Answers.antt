use Rattle.std.proofs.Common.{◌+◌, ◌<◌, ◌^◌, ap, sym, ◌∙◌, arith, rules}
use Rattle.mapping.proofs.PageFits.{logs_more, logs_same}
use Rattle.mapping.proofs.TallyLemmas.{without_map}
use Rattle.mapping.proofs.fitting.count_log_blocks.Goals as goal

pub overflow_add-result : goal.overflow_add-result
overflow_add-result c =
    let most = (without_map c.args.geometry.now c.args.held.now.entries c.args.lba c.requires.indexed.map).log_blocks in
    let high = c.args.geometry.now.in_range.l_high in
    let used = c.count_used_beside-used.ensures in
    let small : c.count_used_beside-used.result + 1 < 2 ^ 32 = omega (arith, most, high, used) in
    search rules

pub returns-then-count_beside-eq0 : goal.returns-then-count_beside-eq0
returns-then-count_beside-eq0 c = λ dirty. ap (λ n. n + 1) c.count_used_beside-used.ensures ∙ logs_more c.args.geometry.now c.args.held.now.entries c.requires.indexed.map c.args.lba c.args.at dirty (sym c.count_beside.ensures ∙ c.if-count_beside-eq0.true)

pub returns : goal.returns
returns c = λ dirty. c.count_used_beside-used.ensures ∙ logs_same c.args.geometry.now c.args.held.now.entries c.requires.indexed.map c.args.lba c.args.at dirty (λ s. c.if-count_beside-eq0.false (c.count_beside.ensures ∙ s))
