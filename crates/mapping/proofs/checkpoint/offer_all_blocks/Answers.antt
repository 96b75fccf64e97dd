use Rattle.std.proofs.Common.{◌≤◌, ◌<◌, ◌+◌, ◌*◌, ◌^◌, length, arith, rules}
use Rattle.mapping.specs.Packed.{block_record}
use Rattle.mapping.proofs.CheckpointLemmas.{groups_none, groups_more, groups_few, groups_count, groups_all}
use Rattle.mapping.proofs.checkpoint.offer_all_blocks.Goals as goal

pub loop-group-init : goal.loop-group-init
loop-group-init c = groups_none block_record c.args.blocks.now.slots c.args.before c.args.from c.args.out.now

pub offer_blocks-requires : goal.offer_blocks-requires
offer_blocks-requires c =
    let low : 32 * c.loop-group.group < length c.args.blocks.now.slots = omega (arith, c.groups-group-end.ensures.groups, c.loop-group-test.true) in
    let few = groups_few block_record c.args.blocks.now.slots c.args.before c.args.from c.args.out.now c.loop-group.out c.loop-group.group c.loop-group.at c.group_at.result.1.now low c.group_at.ensures.items c.loop-group.invariant in
    let fits = c.requires in
    omega (arith, few, fits)

pub overflow_add-at : goal.overflow_add-at
overflow_add-at c =
    let low : 32 * c.loop-group.group < length c.args.blocks.now.slots = omega (arith, c.groups-group-end.ensures.groups, c.loop-group-test.true) in
    let few = groups_few block_record c.args.blocks.now.slots c.args.before c.args.from c.args.out.now c.loop-group.out c.loop-group.group c.loop-group.at c.group_at.result.1.now low c.group_at.ensures.items c.loop-group.invariant in
    let fits = c.requires in
    let small : c.loop-group.at + length c.group_at.result.1.now < 2 ^ 64 = omega (arith, few, fits) in
    search rules

pub loop-group-preserved : goal.loop-group-preserved
loop-group-preserved c =
    let low : 32 * c.loop-group.group < length c.args.blocks.now.slots = omega (arith, c.groups-group-end.ensures.groups, c.loop-group-test.true) in
    groups_more block_record c.args.blocks.now.slots c.args.before c.args.from c.args.out.now c.loop-group.out c.offer_blocks.new.out c.loop-group.group c.loop-group.at c.group_at.result.1.now low c.group_at.ensures.items c.loop-group.invariant c.offer_blocks.ensures

pub returns-clause-count : goal.returns-clause-count
returns-clause-count c =
    let all : length c.args.blocks.now.slots ≤ 32 * c.loop-group.group = omega (arith, c.groups-group-end.ensures.groups, c.loop-group-test.false) in
    groups_count block_record c.args.blocks.now.slots c.args.before c.args.from c.args.out.now c.loop-group.out c.loop-group.group c.loop-group.at all c.loop-group.invariant

pub returns-clause-window : goal.returns-clause-window
returns-clause-window c =
    let all : length c.args.blocks.now.slots ≤ 32 * c.loop-group.group = omega (arith, c.groups-group-end.ensures.groups, c.loop-group-test.false) in
    groups_all block_record c.args.blocks.now.slots c.args.before c.args.from c.args.out.now c.loop-group.out c.loop-group.group c.loop-group.at all c.loop-group.invariant
