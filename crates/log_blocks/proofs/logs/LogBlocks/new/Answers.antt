use Rattle.log_blocks.proofs.LogsLemmas.{sound_new}
use Rattle.log_blocks.proofs.logs.LogBlocks.new.Goals as goal

pub invariant_of-result : goal.invariant_of-result
invariant_of-result c =
    (sound_new c.args.geometry.now c.in_ok-with_capacity.field-0.items c.in_ok-with_capacity.ensures.items, c.in_ok-with_capacity.ensures.exact)
