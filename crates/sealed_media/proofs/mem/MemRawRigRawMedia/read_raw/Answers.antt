use Rattle.std.proofs.Common.{◌∙◌, ap, sym}
use Rattle.mem_rig.specs.Rig.{state_of}
use Rattle.sealed_media.specs.Seals.{seal_at, seal_pages}
use Rattle.sealed_media.specs.Shown.{shown}
use Rattle.sealed_media.proofs.MemLemmas.{page_there, shown_there}
use Rattle.sealed_media.proofs.mem.MemRawRigRawMedia.read_raw.Goals as goal

pub returns-in-Ok-clause-found : goal.returns-in-Ok-clause-found
returns-in-Ok-clause-found c =
    let m = c.args.self.now in
    let pages = (state_of m.rig).contents.flash.page in
    c.show.ensures (pages c.args.at) c.in-Ok.ensures.found ∙ ap (λ l. shown m.tear l c.args.at (pages c.args.at)) c.get-last.ensures
    ∙ sym (shown_there m.tear (seal_pages m.seals) (seal_at m.seals) pages c.args.at (page_there m c.args.at c.requires.page))
