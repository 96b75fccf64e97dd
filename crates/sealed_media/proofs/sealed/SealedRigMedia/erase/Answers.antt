use Rattle.sealed_media.proofs.PlainLemmas.{where_ok, plain_erased, plain_erase_leaves}
use Rattle.sealed_media.proofs.sealed.SealedRigMedia.erase.Goals as goal

pub returns-clause-ok : goal.returns-clause-ok
returns-clause-ok g c = where_ok c.erase.result (plain_erased (g.W.RawMedia.state c.args.self.now.raw.now).contents.flash (g.W.RawMedia.state c.erase.new.self).contents.flash c.args.block) c.erase.ensures.ok

pub returns-clause-pages : goal.returns-clause-pages
returns-clause-pages g c = plain_erase_leaves g.W.RawMedia.torn (g.W.RawMedia.state c.args.self.now.raw.now).contents.flash (g.W.RawMedia.state c.erase.new.self).contents.flash c.args.block g.met.W.RawMedia.never_sealed c.erase.ensures.pages
