use Rattle.std.proofs.Common.{true, ◌∙◌, ap, ℕ}
use Rattle.ft_base.specs.Contents.{Values}
use Rattle.ft_media.specs.Media.{after_write}
use Rattle.disk_model.specs.Steps.{write_left}
use Rattle.mem_rig.specs.Rig.{state_of, disk_listed}
use Rattle.mem_rig.specs.Steps.{flash_beside}
use Rattle.mem_rig.proofs.PowerLemmas.{on_where_it_takes}
use Rattle.mem_rig.proofs.MediaLemmas.{device_done, device_refused, done_power, off_power, ready_same, settled_kept, settled_off, settled_write, values_refused, write_values}
use Rattle.mem_rig.proofs.media.MemRigMedia.write_block.Goals as goal

pub returns-in_default-clause-values : goal.returns-in_default-clause-values
returns-in_default-clause-values c = values_refused (state_of c.args.self.now) (state_of c.write_disk.new.self) c.args.lba c.args.block.now c.in_default.ensures.refused

pub returns-in_default-clause-device : goal.returns-in_default-clause-device
returns-in_default-clause-device c = device_refused (state_of c.args.self.now) (state_of c.write_disk.new.self) (on_where_it_takes (state_of c.args.self.now).power (disk_listed c.args.self.now) c.in_default.ensures.memory) c.in_default.ensures.refused

pub returns-in-Done-clause-ok : goal.returns-in-Done-clause-ok
returns-in-Done-clause-ok c = λ at. ap (λ (d : ℕ → Values). d at) c.in-Ok.ensures.written.disk ∙ ap (λ how. write_left how (state_of c.args.self.now).contents.disk c.args.lba c.args.block.now at) c.in-Done.is

pub returns-in-Done-clause-device : goal.returns-in-Done-clause-device
returns-in-Done-clause-device c =
    let old = state_of c.args.self.now in
    let new = state_of c.write_disk.new.self in
    device_done old new c.in-Ok.ensures.written.shape (done_power c.in-Ok.ending old.power new.power c.in-Done.is c.in-Ok.ensures.power) (ready_same old new (c.in-Ok.ensures.written.flash ∙ ap (λ how. flash_beside how old.contents.flash) c.in-Done.is))

pub returns-in-Done-clause-values : goal.returns-in-Done-clause-values
returns-in-Done-clause-values c = write_values c.in-Ok.ending (state_of c.args.self.now).contents.disk (state_of c.write_disk.new.self).contents.disk c.args.lba c.args.block.now c.in-Ok.ensures.written.disk

pub returns-in-Failed-clause-values : goal.returns-in-Failed-clause-values
returns-in-Failed-clause-values c = write_values c.in-Ok.ending (state_of c.args.self.now).contents.disk (state_of c.write_disk.new.self).contents.disk c.args.lba c.args.block.now c.in-Ok.ensures.written.disk

pub returns-in-Cut-clause-values : goal.returns-in-Cut-clause-values
returns-in-Cut-clause-values c = write_values c.in-Ok.ending (state_of c.args.self.now).contents.disk (state_of c.write_disk.new.self).contents.disk c.args.lba c.args.block.now c.in-Ok.ensures.written.disk

pub returns-in-Off-clause-values : goal.returns-in-Off-clause-values
returns-in-Off-clause-values c = write_values c.in-Ok.ending (state_of c.args.self.now).contents.disk (state_of c.write_disk.new.self).contents.disk c.args.lba c.args.block.now c.in-Ok.ensures.written.disk

pub returns-in_default-clause-settled : goal.returns-in_default-clause-settled
returns-in_default-clause-settled c =
    let old = state_of c.args.self.now in
    let new = state_of c.write_disk.new.self in
    let left = after_write old.contents.disk c.args.lba c.args.block.now in
    settled_kept old new left

pub returns-in-Done-clause-settled : goal.returns-in-Done-clause-settled
returns-in-Done-clause-settled c =
    let old = state_of c.args.self.now in
    let new = state_of c.write_disk.new.self in
    let left = after_write old.contents.disk c.args.lba c.args.block.now in
    settled_kept old new left

pub returns-in-Failed-clause-settled : goal.returns-in-Failed-clause-settled
returns-in-Failed-clause-settled c =
    let old = state_of c.args.self.now in
    let new = state_of c.write_disk.new.self in
    let left = after_write old.contents.disk c.args.lba c.args.block.now in
    settled_kept old new left

pub returns-in-Cut-clause-settled : goal.returns-in-Cut-clause-settled
returns-in-Cut-clause-settled c =
    let old = state_of c.args.self.now in
    let new = state_of c.write_disk.new.self in
    settled_write c.in-Ok.ending old new c.in-Cut.field-0 c.args.lba c.args.block.now c.in-Cut.is c.in-Ok.ensures.power c.in-Ok.ensures.written.disk

pub returns-in-Off-clause-settled : goal.returns-in-Off-clause-settled
returns-in-Off-clause-settled c =
    let old = state_of c.args.self.now in
    let new = state_of c.write_disk.new.self in
    let left = after_write old.contents.disk c.args.lba c.args.block.now in
    settled_off old new true left (off_power c.in-Ok.ending old.power new.power c.in-Off.is c.in-Ok.ensures.power)
