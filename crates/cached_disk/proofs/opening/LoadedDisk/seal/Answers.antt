use Rattle.std.proofs.Common.{Ok, Err, false, refl}
use Rattle.cached_disk.specs.declared.disk.CachedDisk.{CachedDisk}
use Rattle.cached_disk.proofs.SealLemmas.{cache_since, flash_reads, loaded_since, opening_since, sealed_opens, shape_since}
use Rattle.cached_disk.proofs.opening.LoadedDisk.seal.Goals as goal

pub seal-requires : goal.seal-requires
seal-requires g c =
    let now = g.M.Media.state c.args.media.now in
    let own = c.args.self.options.geometry in
    record { shape = shape_since own c.requires.0 now now c.args.self.cache c.requires.1; loaded = loaded_since own c.requires.0 now now c.args.self.cache c.requires.1 }

pub returns-in-Ok-clause-opens : goal.returns-in-Ok-clause-opens
returns-in-Ok-clause-opens g c = λ start since may.
    let own = c.args.self.options.geometry in
    let now = g.M.Media.state c.args.media.now in
    let after = g.M.Media.state c.seal.new.media in
    let v : CachedDisk = record { alloc = c.args.self.alloc; options = c.args.self.options; mode = c.args.self.mode; cache = c.in-Ok.cache; down = false } in
    sealed_opens v start after refl (cache_since own start now after c.args.self.cache since c.in-Ok.cache c.in-Ok.ensures.opened)
    (opening_since own start now after c.args.self.cache since {T = CachedDisk} (Ok v) c.seal.ensures.stands tt c.in-Ok.ensures.drives) since.shape may

pub returns-in-Err-clause-opens : goal.returns-in-Err-clause-opens
returns-in-Err-clause-opens g c = λ start since may.
    let own = c.args.self.options.geometry in
    let now = g.M.Media.state c.args.media.now in
    let after = g.M.Media.state c.seal.new.media in
    record {
      owns = tt;
      owes = tt;
      opened = tt;
      opening = opening_since own start now after c.args.self.cache since {T = CachedDisk} (Err c.in-Err.error) c.seal.ensures.stands c.in-Err.ensures.refused c.in-Err.ensures.drives;
      reads = flash_reads {T = CachedDisk} start after (Err c.in-Err.error) c.in-Err.ensures.refused;
      stands = tt;
    }
