use Rattle.mem_rig.specs.Rig.{state_of}
use Rattle.sealed_media.specs.Seals.{seal_at, seal_pages}
use Rattle.sealed_media.proofs.MemLemmas.{mem_fitted, mem_all_erased}
use Rattle.sealed_media.proofs.mem.MemRawRigRawRig.fit.Goals as goal

pub returns-in-Ok-clause-ok : goal.returns-in-Ok-clause-ok
returns-in-Ok-clause-ok c =
    let m = c.args.self.now in
    let seals = c.in_ok-seals.seals in
    mem_fitted m.tear (seal_pages m.seals) (seal_pages seals) c.args.blocks c.args.pages c.args.size (seal_at m.seals) (seal_at seals) (state_of m.rig) (state_of c.fit.new.self) c.in-Ok.ensures.ok

pub returns-in-Ok-clause-erased : goal.returns-in-Ok-clause-erased
returns-in-Ok-clause-erased c =
    let m = c.args.self.now in
    let seals = c.in_ok-seals.seals in
    mem_all_erased m.tear (seal_pages seals) c.args.blocks c.args.pages c.args.size (seal_at seals) (state_of m.rig) (state_of c.fit.new.self) c.in-Ok.ensures.ok
