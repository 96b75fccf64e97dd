use Rattle.std.proofs.lemmas.Bool.{both_ways}
use Rattle.mapping.proofs.PageFits.{refused}
use Rattle.mapping.proofs.GroupFits.{no_block, too_many_blocks, group_decides}
use Rattle.mapping.proofs.grouping.fits_group.Goals as goal

pub returns-then-not-may_come : goal.returns-then-not-may_come
returns-then-not-may_come c = refused (no_block c.args.geometry.now c.args.held.now.entries c.requires.indexed.map c.args.group c.args.new.block c.args.new.present c.args.new.dirty (λ may. both_ways _ c.if-not-may_come.true (c.may_come.ensures.1 may)))

pub returns-then-not-may_have : goal.returns-then-not-may_have
returns-then-not-may_have c = refused (too_many_blocks c.args.geometry.now c.args.held.now.entries c.requires.indexed.map c.args.group c.args.new.block c.args.new.present c.args.new.dirty c.has_page-has_block.result c.may_have.result c.has_page-has_block.ensures c.may_have.ensures c.if-not-may_have.true)

pub returns : goal.returns
returns c =
    group_decides c.args.geometry.now c.args.held.now.entries c.requires.indexed.map c.args.group c.args.new.block c.args.new.present c.args.new.dirty c.has_page-has_block.result c.has_page-is_dirty.result c.may_have.result c.may_have-2.result
    (c.if-group-geometry.false, c.is_set_below.ensures.0 c.if-not-is_set_below.false, c.is_set_below-2.ensures.0 c.if-not-is_set_below-2.false) (c.may_come.ensures.0 c.if-not-may_come.false)
    c.has_page-has_block.ensures c.may_have.ensures c.if-not-may_have.false c.has_page-is_dirty.ensures c.may_have-2.ensures
