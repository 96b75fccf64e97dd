use Rattle.std.proofs.Common.{◌≡◌, ap, arith}
use Rattle.ft_base.specs.declared.block.Page.TheVariants as page
use Rattle.ft_base.specs.declared.block.Place.{Place}
use Rattle.ft_media.specs.Media.{IsNextPage}
use Rattle.ft_media.specs.State.{State}
use Rattle.mem_rig.specs.contracts.media.MemRigMedia.TheImpl.Laws.{blank_ahead-law}
use Rattle.mem_rig.specs.Rig.{state_of}
use Rattle.sealed_media.specs.declared.mem.MemRawRig.{MemRawRig}
use Rattle.sealed_media.specs.Seals.{seal_at, seal_pages}
use Rattle.sealed_media.proofs.PlainLemmas.{where_ok}
use Rattle.sealed_media.proofs.MemLemmas.{mem_programmed, mem_leaves, mem_page_kept, mem_device, page_there}
use Rattle.sealed_media.proofs.mem.MemRawRigRawMedia.program_raw.Goals as goal

blank : (m : MemRawRig) (at : Place) → IsNextPage at (state_of m.rig).contents.flash → (state_of m.rig).contents.flash.page at ≡ page.Blank
blank m at ready = blank_ahead-law m.rig at at.page ready (omega arith)

pub returns-clause-ok : goal.returns-clause-ok
returns-clause-ok c =
    let m = c.args.self.now in
    let parts = c.parts_of-parts.result in
    where_ok c.program-written.result (mem_programmed m.tear (seal_pages m.seals) (seal_pages c.put.new.self) (seal_at m.seals) (seal_at c.put.new.self) parts.2 (state_of m.rig) (state_of c.program-written.new.self) c.args.at parts.0 parts.1 c.args.page.now
    (page_there m c.args.at c.requires.page) c.put.ensures.pages c.put.ensures.seals c.parts_of-parts.ensures) c.program-written.ensures.ok

pub returns-clause-page : goal.returns-clause-page
returns-clause-page c =
    let m = c.args.self.now in
    let parts = c.parts_of-parts.result in
    mem_leaves m.tear (seal_pages m.seals) (seal_pages c.put.new.self) (seal_at m.seals) (seal_at c.put.new.self) parts.2 (state_of m.rig) (state_of c.program-written.new.self) c.args.at parts.0 parts.1 c.args.page.now
    (page_there m c.args.at c.requires.page) c.put.ensures.pages c.put.ensures.seals c.parts_of-parts.ensures (blank m c.args.at c.requires.ready) c.program-written.ensures.page

pub returns-clause-dark : goal.returns-clause-dark
returns-clause-dark c = λ dark.
    let m = c.args.self.now in
    let parts = c.parts_of-parts.result in
    mem_page_kept m.tear (seal_pages m.seals) (seal_pages c.put.new.self) (seal_at m.seals) (seal_at c.put.new.self) parts.2 (state_of m.rig) (state_of c.program-written.new.self) c.args.at parts.0 parts.1 c.args.page.now
    (page_there m c.args.at c.requires.page) c.put.ensures.pages c.put.ensures.seals c.parts_of-parts.ensures (blank m c.args.at c.requires.ready) (ap (λ (s : State). s.contents.flash.page) (c.program-written.ensures.device.unchanged dark))

pub returns-clause-device : goal.returns-clause-device
returns-clause-device c =
    let m = c.args.self.now in
    mem_device m.tear (seal_pages m.seals) (seal_pages c.put.new.self) (seal_at m.seals) (seal_at c.put.new.self) (state_of m.rig) (state_of c.program-written.new.self) c.program-written.result c.program-written.ensures.device (returns-clause-dark c)
