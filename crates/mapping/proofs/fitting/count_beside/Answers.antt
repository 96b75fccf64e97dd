use Rattle.std.proofs.Common.{◌-◌, Some, ap, sym, ◌∙◌, arith}
use Rattle.std.proofs.lemmas.Option.{same_Some}
use Rattle.mapping.proofs.PageFits.{own_counted, beside_own, beside_other, count_read}
use Rattle.mapping.proofs.SeekingLemmas.{none_some}
use Rattle.mapping.proofs.fitting.count_beside.Goals as goal

pub overflow_sub-result : goal.overflow_sub-result
overflow_sub-result c =
    let count = count_read c.args.geometry.now c.args.held.now.entries c.args.lba c.args.index.now.logs c.args.block c.first_pool.result c.index-count.result.now c.requires.indexed.index.logs c.first_pool.ensures.place c.requires.above c.requires.below c.index-count.ensures in
    let some = own_counted c.args.geometry.now c.args.held.now.entries c.args.lba c.args.block (ap Some (sym c.if-own-block.true) ∙ sym c.in-Some.is ∙ c.own_log_block.ensures) in
    omega (arith, count, some)

pub returns-in-Some : goal.returns-in-Some
returns-in-Some c =
    let count = count_read c.args.geometry.now c.args.held.now.entries c.args.lba c.args.index.now.logs c.args.block c.first_pool.result c.index-count.result.now c.requires.indexed.index.logs c.first_pool.ensures.place c.requires.above c.requires.below c.index-count.ensures in
    ap (λ n. n - 1) count ∙ beside_own c.args.geometry.now c.args.held.now.entries c.args.lba c.args.block (ap Some (sym c.if-own-block.true) ∙ sym c.in-Some.is ∙ c.own_log_block.ensures)

pub returns-in_default : goal.returns-in_default
returns-in_default c =
    count_read c.args.geometry.now c.args.held.now.entries c.args.lba c.args.index.now.logs c.args.block c.first_pool.result c.index-count.result.now c.requires.indexed.index.logs c.first_pool.ensures.place c.requires.above c.requires.below c.index-count.ensures
    ∙ beside_other c.args.geometry.now c.args.held.now.entries c.args.lba c.args.block c.own_log_block.result c.own_log_block.ensures (λ s. c.if-own-block.false (same_Some c.in-Some.own c.args.block (sym c.in-Some.is ∙ s)))

pub returns-in_default-2 : goal.returns-in_default-2
returns-in_default-2 c =
    count_read c.args.geometry.now c.args.held.now.entries c.args.lba c.args.index.now.logs c.args.block c.first_pool.result c.index-count.result.now c.requires.indexed.index.logs c.first_pool.ensures.place c.requires.above c.requires.below c.index-count.ensures
    ∙ beside_other c.args.geometry.now c.args.held.now.entries c.args.lba c.args.block c.own_log_block.result c.own_log_block.ensures (λ s. none_some c.args.block (sym c.in_default.is ∙ s))
