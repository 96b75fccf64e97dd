use Rattle.std.proofs.Common.{refl}
use Rattle.device_calls.specs.declared.ending.Ending.{Ending}
use Rattle.nand_model.specs.Nand.{flash_of}
use Rattle.disk_model.specs.Disk.{disk_lists}
use Rattle.disk_model.specs.Steps.{flush_left}
use Rattle.mem_rig.specs.Supply.{power_of}
use Rattle.mem_rig.specs.Steps.{flash_beside}
use Rattle.mem_rig.proofs.OffLemmas.{unready_after, settled_after}
use Rattle.mem_rig.proofs.rig.MemRig.flush_blocks.Goals as goal

pub invariant_of-self : goal.invariant_of-self
invariant_of-self c =
    let old = c.args.self.now in
    let flash = flash_of old.nand in
    let disk = disk_lists old.disk in
    record {
      cuts_small = c.cuts_after-self.ensures.small old.cuts_small;
      unready = unready_after c.flush-ending.result c.current-current.result _ (power_of old.supply) (power_of c.count_write.new.self)
          c.flush-ending.ensures.ending c.current-current.ensures c.count_write.ensures (λ (how : Ending). flash_beside how flash) flash (flash_of c.stop_beside.new.nand) (λ outcome b. refl)
          refl c.stop_beside.ensures.flash old.unready;
      settled = settled_after c.flush-ending.result c.current-current.result _ (power_of old.supply) (power_of c.count_write.new.self)
          c.flush-ending.ensures.ending c.current-current.ensures c.count_write.ensures (λ (how : Ending). flush_left how disk) disk (disk_lists c.flush-ending.new.self) (λ outcome lba. refl)
          refl c.flush-ending.ensures.disk old.settled;
    }
