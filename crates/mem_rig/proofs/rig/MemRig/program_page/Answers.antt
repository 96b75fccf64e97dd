use Rattle.std.proofs.Common.{refl}
use Rattle.device_calls.specs.declared.ending.Ending.{Ending}
use Rattle.nand_model.specs.Nand.{flash_of}
use Rattle.nand_model.specs.Steps.{program_left}
use Rattle.disk_model.specs.Disk.{disk_lists}
use Rattle.mem_rig.specs.Supply.{power_of}
use Rattle.mem_rig.specs.Steps.{disk_beside}
use Rattle.mem_rig.proofs.OffLemmas.{unready_after, settled_after}
use Rattle.mem_rig.proofs.rig.MemRig.program_page.Goals as goal

pub invariant_of-self : goal.invariant_of-self
invariant_of-self c =
    let old = c.args.self.now in
    let flash = flash_of old.nand in
    let disk = disk_lists old.disk in
    record {
      cuts_small = c.cuts_after-self.ensures.small old.cuts_small;
      unready = unready_after c.program-ending.result c.current-current.result _ (power_of old.supply) (power_of c.count_write.new.self)
          c.program-ending.ensures.ending c.current-current.ensures c.count_write.ensures (λ (how : Ending). program_left how flash c.args.at c.args.block.now c.args.spare.now) flash
          (flash_of c.program-ending.new.self) (λ outcome b. refl) refl c.program-ending.ensures.flash old.unready;
      settled = settled_after c.program-ending.result c.current-current.result _ (power_of old.supply) (power_of c.count_write.new.self)
          c.program-ending.ensures.ending c.current-current.ensures c.count_write.ensures (λ (how : Ending). disk_beside how disk) disk (disk_lists c.settle_beside.new.disk) (λ outcome lba. refl)
          refl c.settle_beside.ensures.disk old.settled;
    }
