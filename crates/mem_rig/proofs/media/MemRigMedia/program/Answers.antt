use Rattle.std.proofs.Common.{true, false, ap, ◌+◌, arith}
use Rattle.ft_base.specs.Contents.{Flash}
use Rattle.nand_model.specs.Nand.{blank_ahead}
use Rattle.mem_rig.specs.Rig.{state_of}
use Rattle.mem_rig.proofs.MediaLemmas.{disk_same, disk_cut, device_done, ready_set, page_left, settled_by, settled_kept, settled_off}
use Rattle.mem_rig.proofs.media.MemRigMedia.program.Goals as goal

pub returns-in-Done-clause-disk : goal.returns-in-Done-clause-disk
returns-in-Done-clause-disk c = disk_same (state_of c.args.self.now).contents (state_of c.program_page.new.self).contents false c.in-Done.ensures.written.disk

pub returns-in-Done-clause-device : goal.returns-in-Done-clause-device
returns-in-Done-clause-device c =
    let old = state_of c.args.self.now in
    let new = state_of c.program_page.new.self in
    device_done old new c.in-Done.ensures.written.shape c.in-Done.ensures.power (ready_set old new c.args.at.block (c.args.at.page + 1) (ap (λ (f : Flash). f.next) c.in-Done.ensures.written.flash))

pub returns-in-Failed-clause-disk : goal.returns-in-Failed-clause-disk
returns-in-Failed-clause-disk c = disk_same (state_of c.args.self.now).contents (state_of c.program_page.new.self).contents false c.in-Failed.ensures.written.disk

pub returns-in-Cut-clause-page : goal.returns-in-Cut-clause-page
returns-in-Cut-clause-page c =
    let old = state_of c.args.self.now in
    page_left c.in-Cut.field-0 old.contents.flash (state_of c.program_page.new.self).contents.flash c.args.at c.args.block.now c.args.spare.now (blank_ahead c.args.self.now.nand c.args.at c.args.at.page c.requires.ready (omega arith)) c.in-Cut.ensures.written.flash

pub returns-in-Cut-clause-disk : goal.returns-in-Cut-clause-disk
returns-in-Cut-clause-disk c = disk_cut (state_of c.args.self.now).contents (state_of c.program_page.new.self).contents c.in-Cut.field-0 c.in-Cut.ensures.written.disk

pub returns-in-Done-clause-settled : goal.returns-in-Done-clause-settled
returns-in-Done-clause-settled c =
    let old = state_of c.args.self.now in
    let new = state_of c.program_page.new.self in
    settled_kept old new old.contents.disk

pub returns-in-Failed-clause-settled : goal.returns-in-Failed-clause-settled
returns-in-Failed-clause-settled c =
    let old = state_of c.args.self.now in
    let new = state_of c.program_page.new.self in
    settled_kept old new old.contents.disk

pub returns-in-Cut-clause-settled : goal.returns-in-Cut-clause-settled
returns-in-Cut-clause-settled c =
    let old = state_of c.args.self.now in
    let new = state_of c.program_page.new.self in
    settled_by old new c.in-Cut.field-0 old.contents.disk c.in-Cut.ensures.power c.in-Cut.ensures.written.disk

pub returns-in-Off-clause-settled : goal.returns-in-Off-clause-settled
returns-in-Off-clause-settled c =
    let old = state_of c.args.self.now in
    let new = state_of c.program_page.new.self in
    settled_off old new true old.contents.disk c.in-Off.ensures.power.0
