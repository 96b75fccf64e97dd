use Rattle.std.proofs.Common.{sym, ◌∙◌, arith}
use Rattle.mapping.proofs.PageFits.{used_none, used_less, used_still}
use Rattle.mapping.proofs.fitting.count_used_beside.Goals as goal

pub returns-in_default : goal.returns-in_default
returns-in_default c = c.requires.indexed.index.logs.used ∙ used_none c.args.geometry.now c.args.held.now.entries c.args.lba (sym c.in_default.is ∙ c.own_log_block.ensures)

pub overflow_sub-result : goal.overflow_sub-result
overflow_sub-result c =
    let used = c.requires.indexed.index.logs.used in
    let less = used_less c.args.geometry.now c.args.held.now.entries c.args.lba c.in-Some.own (sym c.in-Some.is ∙ c.own_log_block.ensures) (sym c.count_beside.ensures ∙ c.if-count_beside-eq0.true) in
    omega (arith, used, less)

pub returns-then-count_beside-eq0 : goal.returns-then-count_beside-eq0
returns-then-count_beside-eq0 c =
    let used = c.requires.indexed.index.logs.used in
    let less = used_less c.args.geometry.now c.args.held.now.entries c.args.lba c.in-Some.own (sym c.in-Some.is ∙ c.own_log_block.ensures) (sym c.count_beside.ensures ∙ c.if-count_beside-eq0.true) in
    omega (arith, used, less)

pub returns : goal.returns
returns c = c.requires.indexed.index.logs.used ∙ used_still c.args.geometry.now c.args.held.now.entries c.args.lba c.in-Some.own (sym c.in-Some.is ∙ c.own_log_block.ensures) (λ s. c.if-count_beside-eq0.false (c.count_beside.ensures ∙ s))
