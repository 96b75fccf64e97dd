use Rattle.std.proofs.Common.{◌≤◌, ◌<◌, ◌+◌, ◌*◌, ◌^◌, length, arith, rules}
use Rattle.mapping.specs.Packed.{page_record}
use Rattle.mapping.proofs.CheckpointLemmas.{groups_none, groups_more, groups_few, groups_count, groups_all}
use Rattle.mapping.proofs.checkpoint.offer_all_pages.Goals as goal

pub loop-group-init : goal.loop-group-init
loop-group-init c = groups_none page_record c.args.pages.now.slots c.args.before c.args.from c.args.out.now

pub offer_pages-requires : goal.offer_pages-requires
offer_pages-requires c =
    let low : 32 * c.loop-group.group < length c.args.pages.now.slots = omega (arith, c.groups-group-end.ensures.groups, c.loop-group-test.true) in
    let few = groups_few page_record c.args.pages.now.slots c.args.before c.args.from c.args.out.now c.loop-group.out c.loop-group.group c.loop-group.at c.group_at.result.1.now low c.group_at.ensures.items c.loop-group.invariant in
    let fits = c.requires in
    omega (arith, few, fits)

pub overflow_add-at : goal.overflow_add-at
overflow_add-at c =
    let low : 32 * c.loop-group.group < length c.args.pages.now.slots = omega (arith, c.groups-group-end.ensures.groups, c.loop-group-test.true) in
    let few = groups_few page_record c.args.pages.now.slots c.args.before c.args.from c.args.out.now c.loop-group.out c.loop-group.group c.loop-group.at c.group_at.result.1.now low c.group_at.ensures.items c.loop-group.invariant in
    let fits = c.requires in
    let small : c.loop-group.at + length c.group_at.result.1.now < 2 ^ 64 = omega (arith, few, fits) in
    search rules

pub loop-group-preserved : goal.loop-group-preserved
loop-group-preserved c =
    let low : 32 * c.loop-group.group < length c.args.pages.now.slots = omega (arith, c.groups-group-end.ensures.groups, c.loop-group-test.true) in
    groups_more page_record c.args.pages.now.slots c.args.before c.args.from c.args.out.now c.loop-group.out c.offer_pages.new.out c.loop-group.group c.loop-group.at c.group_at.result.1.now low c.group_at.ensures.items c.loop-group.invariant c.offer_pages.ensures

pub returns-clause-count : goal.returns-clause-count
returns-clause-count c =
    let all : length c.args.pages.now.slots ≤ 32 * c.loop-group.group = omega (arith, c.groups-group-end.ensures.groups, c.loop-group-test.false) in
    groups_count page_record c.args.pages.now.slots c.args.before c.args.from c.args.out.now c.loop-group.out c.loop-group.group c.loop-group.at all c.loop-group.invariant

pub returns-clause-window : goal.returns-clause-window
returns-clause-window c =
    let all : length c.args.pages.now.slots ≤ 32 * c.loop-group.group = omega (arith, c.groups-group-end.ensures.groups, c.loop-group-test.false) in
    groups_all page_record c.args.pages.now.slots c.args.before c.args.from c.args.out.now c.loop-group.out c.loop-group.group c.loop-group.at all c.loop-group.invariant
