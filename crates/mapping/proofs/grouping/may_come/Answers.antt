use Rattle.std.proofs.Common.{subst, ◌≤◌, ◌<◌}
use Rattle.mapping.specs.declared.seeking.Sought.TheVariants.{Outside}
use Rattle.mapping.specs.Seeking.{IsFoundIn, IsNotIn}
use Rattle.mapping.proofs.PageFits.{refused}
use Rattle.mapping.proofs.GroupFits.{held_by_others, block_decides}
use Rattle.mapping.proofs.SeekingLemmas.{some_found, none_found}
use Rattle.mapping.proofs.grouping.may_come.Goals as goal

pub returns-then-is_some : goal.returns-then-is_some
returns-then-is_some c =
    let x = some_found (IsFoundIn c.args.geometry.now (Outside c.args.group) c.args.held.now.entries c.args.block) c.found_in.result c.is_some.result c.is_some.ensures c.found_in.ensures.some c.if-is_some.true in
    refused (held_by_others c.args.geometry.now c.args.held.now.entries c.args.group c.args.block c.args.present x.0 (c.has_page.ensures.0 c.if-not-has_page.false) x.1)

pub returns : goal.returns
returns c =
    let none = none_found (IsNotIn c.args.geometry.now (Outside c.args.group) c.args.held.now.entries c.args.block) c.found_in.result c.is_some.result c.is_some.ensures c.found_in.ensures.none c.if-is_some.false in
    block_decides c.args.geometry.now c.args.held.now.entries c.args.group c.args.block c.args.present c.ends_below_size.result
    (subst (λ n. n ≤ c.args.block) c.first_pool.ensures.place c.if-block-first_pool.false) (subst (λ n. c.args.block < n) c.blocks-2.ensures c.if-block-blocks.false) none c.ends_below_size.ensures
