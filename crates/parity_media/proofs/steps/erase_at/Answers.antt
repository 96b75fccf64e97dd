use Rattle.parity_media.specs.Kept.{parity_pages, parity_of, new_parity}
use Rattle.parity_media.proofs.KeptLemmas.{one_here, one_else}
use Rattle.parity_media.proofs.WritesLemmas.{writes_erase}
use Rattle.parity_media.proofs.TiedLemmas.{tied_one, erase_else, erased}
use Rattle.parity_media.proofs.steps.erase_at.Goals as goal

pub returns-clause-writes : goal.returns-clause-writes
returns-clause-writes g c =
    writes_erase (g.R.Media.state c.args.rig.now) (g.R.Media.state c.erase.new.self) c.erase.result c.erase.ensures.disk c.erase.ensures.crash c.erase.ensures.settled c.erase.ensures.cause c.erase.ensures.memory
    c.erase.ensures.device c.erase.ensures.passes c.erase.ensures.counts

pub returns-clause-tied : goal.returns-clause-tied
returns-clause-tied g c =
    let a = (g.R.Media.state c.args.rig.now).contents in
    let b = (g.R.Media.state c.erase.new.self).contents in
    let pa = c.args.parities.now in
    let pb = c.restart.new.self in
    let left = erased a.flash b.flash c.args.block (parity_pages pa) c.erase.result (parity_of pb c.args.block) (one_here pa pb c.args.block new_parity c.restart.ensures) c.erase.ensures.ok c.erase.ensures.not_ready c.erase.ensures.memory
    (λ dark. (c.erase.ensures.crash dark).next) in
    tied_one a b pa pb c.args.block c.requires.tied c.erase.ensures.device.shape c.restart.ensures.blocks c.restart.ensures.pages (erase_else a.flash b.flash c.args.block c.erase.ensures.pages) left.0
    (one_else pa pb c.args.block new_parity c.restart.ensures) left.1
