use Rattle.std.proofs.Common.{arith}
use Rattle.sealed_media.proofs.PlainLemmas.{where_ok, plain_programmed, plain_leaves}
use Rattle.sealed_media.proofs.sealed.SealedRigMedia.program.Goals as goal

pub returns-clause-ok : goal.returns-clause-ok
returns-clause-ok g c = where_ok c.program_raw.result (plain_programmed (g.W.RawMedia.state c.args.self.now.raw.now).contents.flash (g.W.RawMedia.state c.program_raw.new.self).contents.flash c.args.at c.seal-page.result c.args.block.now c.args.spare.now c.seal-page.ensures.whole) c.program_raw.ensures.ok

pub returns-clause-page : goal.returns-clause-page
returns-clause-page g c =
    let old = g.W.RawMedia.state c.args.self.now.raw.now in
    let blank = g.met.W.RawMedia.blank_ahead c.args.self.now.raw.now c.args.at c.args.at.page c.requires.ready (omega arith) in
    plain_leaves g.W.RawMedia.torn old.contents.flash (g.W.RawMedia.state c.program_raw.new.self).contents.flash c.args.at c.seal-page.result c.args.block.now c.args.spare.now g.met.W.RawMedia.never_sealed c.seal-page.ensures.whole blank c.program_raw.ensures.page
