use Rattle.std.proofs.Common.{true, ap, ℕ}
use Rattle.ft_base.specs.Contents.{Values}
use Rattle.device_calls.specs.declared.ending.Ending.TheVariants as ending
use Rattle.mem_rig.specs.Rig.{state_of}
use Rattle.mem_rig.proofs.MediaLemmas.{device_done, ready_same, flush_values, settled_by, settled_kept, settled_off}
use Rattle.mem_rig.proofs.media.MemRigMedia.flush_disk.Goals as goal

pub returns-in-Done-clause-ok : goal.returns-in-Done-clause-ok
returns-in-Done-clause-ok c = λ lba. ap (λ (d : ℕ → Values). d lba) c.in-Done.ensures.written.disk

pub returns-in-Done-clause-device : goal.returns-in-Done-clause-device
returns-in-Done-clause-device c =
    let old = state_of c.args.self.now in
    let new = state_of c.flush_blocks.new.self in
    device_done old new c.in-Done.ensures.written.shape c.in-Done.ensures.power (ready_same old new c.in-Done.ensures.written.flash)

pub returns-in-Done-clause-values : goal.returns-in-Done-clause-values
returns-in-Done-clause-values c = flush_values ending.Done (state_of c.args.self.now).contents.disk (state_of c.flush_blocks.new.self).contents.disk c.in-Done.ensures.written.disk

pub returns-in-Failed-clause-values : goal.returns-in-Failed-clause-values
returns-in-Failed-clause-values c = flush_values ending.Failed (state_of c.args.self.now).contents.disk (state_of c.flush_blocks.new.self).contents.disk c.in-Failed.ensures.written.disk

pub returns-in-Cut-clause-values : goal.returns-in-Cut-clause-values
returns-in-Cut-clause-values c = flush_values (ending.Cut c.in-Cut.field-0) (state_of c.args.self.now).contents.disk (state_of c.flush_blocks.new.self).contents.disk c.in-Cut.ensures.written.disk

pub returns-in-Off-clause-values : goal.returns-in-Off-clause-values
returns-in-Off-clause-values c = flush_values ending.Off (state_of c.args.self.now).contents.disk (state_of c.flush_blocks.new.self).contents.disk c.in-Off.ensures.written.disk

pub returns-in-Done-clause-settled : goal.returns-in-Done-clause-settled
returns-in-Done-clause-settled c =
    let old = state_of c.args.self.now in
    let new = state_of c.flush_blocks.new.self in
    settled_kept old new old.contents.disk

pub returns-in-Failed-clause-settled : goal.returns-in-Failed-clause-settled
returns-in-Failed-clause-settled c =
    let old = state_of c.args.self.now in
    let new = state_of c.flush_blocks.new.self in
    settled_kept old new old.contents.disk

pub returns-in-Cut-clause-settled : goal.returns-in-Cut-clause-settled
returns-in-Cut-clause-settled c =
    let old = state_of c.args.self.now in
    let new = state_of c.flush_blocks.new.self in
    settled_by old new c.in-Cut.field-0 old.contents.disk c.in-Cut.ensures.power c.in-Cut.ensures.written.disk

pub returns-in-Off-clause-settled : goal.returns-in-Off-clause-settled
returns-in-Off-clause-settled c =
    let old = state_of c.args.self.now in
    let new = state_of c.flush_blocks.new.self in
    settled_off old new true old.contents.disk c.in-Off.ensures.power.0
