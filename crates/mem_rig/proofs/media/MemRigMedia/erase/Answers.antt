use Rattle.std.proofs.Common.{false, true, ap}
use Rattle.ft_base.specs.Contents.{Flash}
use Rattle.device_calls.specs.declared.ending.Ending.TheVariants as ending
use Rattle.mem_rig.specs.Rig.{state_of}
use Rattle.mem_rig.proofs.MediaLemmas.{disk_same, disk_cut, device_done, ready_set, pages_erased, settled_by, settled_kept, settled_off}
use Rattle.mem_rig.proofs.media.MemRigMedia.erase.Goals as goal

pub returns-in-Done-clause-device : goal.returns-in-Done-clause-device
returns-in-Done-clause-device c =
    let old = state_of c.args.self.now in
    let new = state_of c.erase_block.new.self in
    device_done old new c.in-Done.ensures.written.shape c.in-Done.ensures.power (ready_set old new c.args.block 0 (ap (λ (f : Flash). f.next) c.in-Done.ensures.written.flash))

pub returns-in-Done-clause-disk : goal.returns-in-Done-clause-disk
returns-in-Done-clause-disk c = disk_same (state_of c.args.self.now).contents (state_of c.erase_block.new.self).contents false c.in-Done.ensures.written.disk

pub returns-in-Done-clause-pages : goal.returns-in-Done-clause-pages
returns-in-Done-clause-pages c = pages_erased ending.Done (state_of c.args.self.now).contents.flash (state_of c.erase_block.new.self).contents.flash c.args.block c.in-Done.ensures.written.flash

pub returns-in-Failed-clause-disk : goal.returns-in-Failed-clause-disk
returns-in-Failed-clause-disk c = disk_same (state_of c.args.self.now).contents (state_of c.erase_block.new.self).contents false c.in-Failed.ensures.written.disk

pub returns-in-Failed-clause-pages : goal.returns-in-Failed-clause-pages
returns-in-Failed-clause-pages c = pages_erased ending.Failed (state_of c.args.self.now).contents.flash (state_of c.erase_block.new.self).contents.flash c.args.block c.in-Failed.ensures.written.flash

pub returns-in-Cut-clause-disk : goal.returns-in-Cut-clause-disk
returns-in-Cut-clause-disk c = disk_cut (state_of c.args.self.now).contents (state_of c.erase_block.new.self).contents c.in-Cut.field-0 c.in-Cut.ensures.written.disk

pub returns-in-Cut-clause-pages : goal.returns-in-Cut-clause-pages
returns-in-Cut-clause-pages c = pages_erased (ending.Cut c.in-Cut.field-0) (state_of c.args.self.now).contents.flash (state_of c.erase_block.new.self).contents.flash c.args.block c.in-Cut.ensures.written.flash

pub returns-in-Off-clause-disk : goal.returns-in-Off-clause-disk
returns-in-Off-clause-disk c = disk_same (state_of c.args.self.now).contents (state_of c.erase_block.new.self).contents true c.in-Off.ensures.written.disk

pub returns-in-Off-clause-pages : goal.returns-in-Off-clause-pages
returns-in-Off-clause-pages c = pages_erased ending.Off (state_of c.args.self.now).contents.flash (state_of c.erase_block.new.self).contents.flash c.args.block c.in-Off.ensures.written.flash

pub returns-in-Done-clause-settled : goal.returns-in-Done-clause-settled
returns-in-Done-clause-settled c =
    let old = state_of c.args.self.now in
    let new = state_of c.erase_block.new.self in
    settled_kept old new old.contents.disk

pub returns-in-Failed-clause-settled : goal.returns-in-Failed-clause-settled
returns-in-Failed-clause-settled c =
    let old = state_of c.args.self.now in
    let new = state_of c.erase_block.new.self in
    settled_kept old new old.contents.disk

pub returns-in-Cut-clause-settled : goal.returns-in-Cut-clause-settled
returns-in-Cut-clause-settled c =
    let old = state_of c.args.self.now in
    let new = state_of c.erase_block.new.self in
    settled_by old new c.in-Cut.field-0 old.contents.disk c.in-Cut.ensures.power c.in-Cut.ensures.written.disk

pub returns-in-Off-clause-settled : goal.returns-in-Off-clause-settled
returns-in-Off-clause-settled c =
    let old = state_of c.args.self.now in
    let new = state_of c.erase_block.new.self in
    settled_off old new true old.contents.disk c.in-Off.ensures.power.0
