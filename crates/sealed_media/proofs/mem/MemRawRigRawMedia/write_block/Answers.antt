use Rattle.ft_media.specs.State.{lost}
use Rattle.mem_rig.specs.Rig.{state_of}
use Rattle.sealed_media.specs.Seals.{seal_at, seal_pages}
use Rattle.sealed_media.proofs.MemLemmas.{mem_flash_stays}
use Rattle.sealed_media.proofs.mem.MemRawRigRawMedia.write_block.Goals as goal

pub returns-clause-flash : goal.returns-clause-flash
returns-clause-flash c =
    let m = c.args.self.now in
    mem_flash_stays m.tear (seal_pages m.seals) (seal_at m.seals) (state_of m.rig) (state_of c.write_block.new.self) (lost c.write_block.result) c.write_block.ensures.flash
