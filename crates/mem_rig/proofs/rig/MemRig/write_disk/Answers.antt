use Rattle.std.proofs.Common.{refl, ap, ◌∙◌, ℕ}
use Rattle.ft_base.specs.Contents.{Values}
use Rattle.device_calls.specs.declared.ending.Ending.{Ending}
use Rattle.nand_model.specs.Nand.{flash_of}
use Rattle.disk_model.specs.Disk.{disk_lists}
use Rattle.disk_model.specs.Steps.{write_left}
use Rattle.mem_rig.specs.Supply.{power_of}
use Rattle.mem_rig.specs.Steps.{flash_beside}
use Rattle.mem_rig.proofs.OffLemmas.{unready_after, settled_after}
use Rattle.mem_rig.proofs.rig.MemRig.write_disk.Goals as goal

pub invariant_of-self-2 : goal.invariant_of-self-2
invariant_of-self-2 c =
    let old = c.args.self.now in
    let flash = flash_of old.nand in
    let disk = disk_lists old.disk in
    record {
      cuts_small = c.cuts_after-self.ensures.small old.cuts_small;
      unready = unready_after c.in_ok-ending.ending c.current-current.result _ (power_of old.supply) (power_of c.count_write.new.self)
          c.in_ok-ending.ensures.ending c.current-current.ensures c.count_write.ensures (λ (how : Ending). flash_beside how flash) flash (flash_of c.stop_beside.new.nand) (λ outcome b. refl)
          refl c.stop_beside.ensures.flash old.unready;
      settled = settled_after c.in_ok-ending.ending c.current-current.result _ (power_of old.supply) (power_of c.count_write.new.self)
          c.in_ok-ending.ensures.ending c.current-current.ensures c.count_write.ensures (λ (how : Ending). write_left how disk c.args.lba c.args.block.now) disk (disk_lists c.write.new.self)
          (λ outcome lba. refl) refl c.in_ok-ending.ensures.disk old.settled;
    }

pub invariant_of-self : goal.invariant_of-self
invariant_of-self c = record {
  cuts_small = c.args.self.now.cuts_small;
  unready = c.args.self.now.unready;
  settled = λ off lba. ap (λ (d : ℕ → Values). (d lba).earlier) c.in_err-ending.ensures.refused ∙ c.args.self.now.settled off lba;
}
