use Rattle.std.proofs.Common.{[], ◌∷◌, ◌++◌, subst, ap, ◌∙◌}
use Rattle.ft_base.specs.declared.record.Record.{Record}
use Rattle.mapping.specs.Checkpoint.{HasWindow}
use Rattle.mapping.specs.Packed.{block_record}
use Rattle.mapping.proofs.CheckpointLemmas.{items_none, items_more, items_all, items_skipped}
use Rattle.mapping.proofs.checkpoint.offer_blocks.Goals as goal

pub returns-then-is_outside : goal.returns-then-is_outside
returns-then-is_outside c = items_skipped block_record c.args.items.now c.args.before c.args.from c.args.out.now (c.is_outside.ensures.outside c.if-is_outside.true)

pub loop-item-init : goal.loop-item-init
loop-item-init c = items_none block_record c.args.items.now c.args.before c.args.from c.args.out.now

pub loop-item-preserved : goal.loop-item-preserved
loop-item-preserved c = items_more block_record c.args.items.now c.args.before c.args.from c.args.out.now c.loop-item.out c.offer.new.out c.loop-item.item-index c.loop-item.at c.item-item.result c.loop-item-test.true c.loop-item.invariant
    (λ records long has. subst (λ (r : Record). HasWindow (records ++ r ∷ []) c.args.from c.offer.new.out) (c.block_record.ensures ∙ ap block_record c.item-item.is) (c.offer.ensures.window records long has))

pub returns : goal.returns
returns c = items_all block_record c.args.items.now c.args.before c.args.from c.args.out.now c.loop-item.out c.loop-item.item-index c.loop-item.at c.loop-item-test.false c.loop-item.invariant
