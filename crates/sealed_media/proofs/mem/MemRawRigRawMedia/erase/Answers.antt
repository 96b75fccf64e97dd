use Rattle.std.proofs.Common.{ap}
use Rattle.ft_media.specs.State.{State}
use Rattle.mem_rig.specs.Rig.{state_of}
use Rattle.sealed_media.specs.Seals.{seal_at, seal_pages}
use Rattle.sealed_media.specs.Shown.{shown_pages}
use Rattle.sealed_media.proofs.PlainLemmas.{where_ok}
use Rattle.sealed_media.proofs.MemLemmas.{mem_erased, mem_erase_leaves, mem_device}
use Rattle.sealed_media.proofs.mem.MemRawRigRawMedia.erase.Goals as goal

pub returns-clause-ok : goal.returns-clause-ok
returns-clause-ok c =
    let m = c.args.self.now in
    where_ok c.erase.result (mem_erased m.tear (seal_pages m.seals) (seal_at m.seals) (state_of m.rig) (state_of c.erase.new.self) c.args.block) c.erase.ensures.ok

pub returns-clause-pages : goal.returns-clause-pages
returns-clause-pages c =
    let m = c.args.self.now in
    mem_erase_leaves m.tear (seal_pages m.seals) (seal_at m.seals) (state_of m.rig) (state_of c.erase.new.self) c.args.block c.erase.ensures.pages

pub returns-clause-dark : goal.returns-clause-dark
returns-clause-dark c = λ dark.
    let m = c.args.self.now in
    ap (λ (s : State). shown_pages m.tear (seal_pages m.seals) (seal_at m.seals) s.contents.flash.page) (c.erase.ensures.device.unchanged dark)

pub returns-clause-device : goal.returns-clause-device
returns-clause-device c =
    let m = c.args.self.now in
    mem_device m.tear (seal_pages m.seals) (seal_pages m.seals) (seal_at m.seals) (seal_at m.seals) (state_of m.rig) (state_of c.erase.new.self) c.erase.result c.erase.ensures.device (returns-clause-dark c)
