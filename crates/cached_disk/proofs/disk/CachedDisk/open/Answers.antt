use Rattle.cached_disk.proofs.SealLemmas.{opens_made, since_made}
use Rattle.cached_disk.proofs.disk.CachedDisk.open.Goals as goal

pub seal-requires : goal.seal-requires
seal-requires g c = (g.M.Media.state c.args.media.now, since_made c.args.options.now c.in_ok-loaded.loaded c.in_ok-loaded.ensures.made.0 (g.M.Media.state c.args.media.now) (g.M.Media.state c.load.new.media) c.in_ok-loaded.ensures.loaded)

pub returns-clause-owns : goal.returns-clause-owns
returns-clause-owns g c = (opens_made c.args.options.now c.args.mode c.in_ok-loaded.loaded c.in_ok-loaded.ensures.made (g.M.Media.state c.args.media.now) (g.M.Media.state c.load.new.media) (g.M.Media.state c.seal.new.media)
    c.seal.result c.in_ok-loaded.ensures.loaded c.requires.agrees c.seal.ensures.opens).owns

pub returns-clause-opened : goal.returns-clause-opened
returns-clause-opened g c = (opens_made c.args.options.now c.args.mode c.in_ok-loaded.loaded c.in_ok-loaded.ensures.made (g.M.Media.state c.args.media.now) (g.M.Media.state c.load.new.media) (g.M.Media.state c.seal.new.media)
    c.seal.result c.in_ok-loaded.ensures.loaded c.requires.agrees c.seal.ensures.opens).opened

pub returns-clause-opening : goal.returns-clause-opening
returns-clause-opening g c = (opens_made c.args.options.now c.args.mode c.in_ok-loaded.loaded c.in_ok-loaded.ensures.made (g.M.Media.state c.args.media.now) (g.M.Media.state c.load.new.media) (g.M.Media.state c.seal.new.media)
    c.seal.result c.in_ok-loaded.ensures.loaded c.requires.agrees c.seal.ensures.opens).opening

pub returns-clause-reads : goal.returns-clause-reads
returns-clause-reads g c = (opens_made c.args.options.now c.args.mode c.in_ok-loaded.loaded c.in_ok-loaded.ensures.made (g.M.Media.state c.args.media.now) (g.M.Media.state c.load.new.media) (g.M.Media.state c.seal.new.media)
    c.seal.result c.in_ok-loaded.ensures.loaded c.requires.agrees c.seal.ensures.opens).reads

pub returns-clause-stands : goal.returns-clause-stands
returns-clause-stands g c = (opens_made c.args.options.now c.args.mode c.in_ok-loaded.loaded c.in_ok-loaded.ensures.made (g.M.Media.state c.args.media.now) (g.M.Media.state c.load.new.media) (g.M.Media.state c.seal.new.media)
    c.seal.result c.in_ok-loaded.ensures.loaded c.requires.agrees c.seal.ensures.opens).stands

pub returns-clause-owes : goal.returns-clause-owes
returns-clause-owes g c = (opens_made c.args.options.now c.args.mode c.in_ok-loaded.loaded c.in_ok-loaded.ensures.made (g.M.Media.state c.args.media.now) (g.M.Media.state c.load.new.media) (g.M.Media.state c.seal.new.media)
    c.seal.result c.in_ok-loaded.ensures.loaded c.requires.agrees c.seal.ensures.opens).owes
