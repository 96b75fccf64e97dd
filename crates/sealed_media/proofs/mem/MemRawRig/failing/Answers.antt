use Rattle.mem_rig.specs.Rig.{state_of}
use Rattle.sealed_media.specs.Seals.{seal_at, seal_pages}
use Rattle.sealed_media.proofs.MemLemmas.{mem_new}
use Rattle.sealed_media.proofs.mem.MemRawRig.failing.Goals as goal

pub returns-clause-contents : goal.returns-clause-contents
returns-clause-contents c = mem_new c.args.tear (seal_pages c.none.result) 0 0 0 (seal_at c.none.result) (state_of c.failing.result) c.failing.ensures.contents
