use Rattle.std.proofs.lemmas.Result.{IfOk-weaker}
use Rattle.cached_disk.proofs.SealLemmas.{cache_since, flash_reads, loaded_since, opening_since, shape_since}
use Rattle.cached_disk.proofs.opening.open_cache.Goals as goal

pub seal-requires : goal.seal-requires
seal-requires g c =
    let own = c.args.geometry.now in
    let before = g.M.Media.state c.args.media.now in
    let now = g.M.Media.state c.load_cache.new.media in
    let since = c.in_ok-loaded.ensures.loaded in
    record { shape = shape_since own before now now c.in_ok-loaded.loaded since; loaded = loaded_since own before now now c.in_ok-loaded.loaded since }

pub returns-clause-opened : goal.returns-clause-opened
returns-clause-opened g c =
    let own = c.args.geometry.now in
    let before = g.M.Media.state c.args.media.now in
    let now = g.M.Media.state c.load_cache.new.media in
    let after = g.M.Media.state c.seal.new.media in
    IfOk-weaker c.seal.result _ _ (λ v opened. cache_since own before now after c.in_ok-loaded.loaded c.in_ok-loaded.ensures.loaded v opened) c.seal.ensures.opened

pub returns-clause-opening : goal.returns-clause-opening
returns-clause-opening g c =
    let own = c.args.geometry.now in
    let before = g.M.Media.state c.args.media.now in
    let now = g.M.Media.state c.load_cache.new.media in
    let after = g.M.Media.state c.seal.new.media in
    opening_since own before now after c.in_ok-loaded.loaded c.in_ok-loaded.ensures.loaded c.seal.result c.seal.ensures.stands c.seal.ensures.refused c.seal.ensures.drives

pub returns-clause-reads : goal.returns-clause-reads
returns-clause-reads g c = flash_reads (g.M.Media.state c.args.media.now) (g.M.Media.state c.seal.new.media) c.seal.result c.seal.ensures.refused
