use Rattle.std.proofs.Common.{Err, false, refl, sym, ◌∙◌, ap, subst}
use Rattle.std.proofs.lemmas.Result.{IfOk-weaker}
use Rattle.ft_media.proofs.DrivesLemmas.{drives_then}
use Rattle.op_log.specs.Refusals.{open_failed, open_lost}
use Rattle.cache_model.specs.Loading.{load}
use Rattle.ssc.specs.declared.opening.LoadedCache.{LoadedCache}
use Rattle.ssc.specs.CacheState.{geometry_of}
use Rattle.ssc.proofs.OpenLemmas.{costs_read, loaded_read, opened_read, reads_drives, refused_flash, refused_reads, shape_read, stands_read}
use Rattle.ssc.proofs.cache.Ssc.open.Goals as goal

pub seal-requires : goal.seal-requires
seal-requires g c =
    let n = c.args.geometry.now in
    let h = geometry_of c.in_ok-loaded.loaded.cache in
    let before = g.M.Media.state c.args.media.now in
    let between = g.M.Media.state c.load.new.media in
    let is = c.in_ok-loaded.ensures.loaded in
    let reads = c.in_ok-loaded.ensures.reads in
    record { shape = shape_read n h before between between is.parts.geometry reads c.requires.shape; loaded = loaded_read n h before between between is.parts.geometry reads c.in_ok-loaded.loaded is }

pub returns-clause-geometry : goal.returns-clause-geometry
returns-clause-geometry g c =
    let n = c.args.geometry.now in
    let h = geometry_of c.in_ok-loaded.loaded.cache in
    let before = g.M.Media.state c.args.media.now in
    let between = g.M.Media.state c.load.new.media in
    let after = g.M.Media.state c.seal.new.media in
    let same = c.in_ok-loaded.ensures.loaded.parts.geometry in
    let reads = c.in_ok-loaded.ensures.reads in
    IfOk-weaker c.seal.result _ _ (λ v is. let o = opened_read n h before between after same reads v is in o.geometry) c.seal.ensures.opened

pub returns-clause-holds : goal.returns-clause-holds
returns-clause-holds g c =
    let n = c.args.geometry.now in
    let h = geometry_of c.in_ok-loaded.loaded.cache in
    let before = g.M.Media.state c.args.media.now in
    let between = g.M.Media.state c.load.new.media in
    let after = g.M.Media.state c.seal.new.media in
    let same = c.in_ok-loaded.ensures.loaded.parts.geometry in
    let reads = c.in_ok-loaded.ensures.reads in
    IfOk-weaker c.seal.result _ _ (λ v is. let o = opened_read n h before between after same reads v is in o.holds) c.seal.ensures.opened

pub returns-clause-loads : goal.returns-clause-loads
returns-clause-loads g c =
    let n = c.args.geometry.now in
    let h = geometry_of c.in_ok-loaded.loaded.cache in
    let before = g.M.Media.state c.args.media.now in
    let between = g.M.Media.state c.load.new.media in
    let after = g.M.Media.state c.seal.new.media in
    let same = c.in_ok-loaded.ensures.loaded.parts.geometry in
    let reads = c.in_ok-loaded.ensures.reads in
    IfOk-weaker c.seal.result _ _ (λ v is. let o = opened_read n h before between after same reads v is in o.loads) c.seal.ensures.opened

pub returns-clause-opened : goal.returns-clause-opened
returns-clause-opened g c =
    let n = c.args.geometry.now in
    let h = geometry_of c.in_ok-loaded.loaded.cache in
    let before = g.M.Media.state c.args.media.now in
    let between = g.M.Media.state c.load.new.media in
    let after = g.M.Media.state c.seal.new.media in
    let same = c.in_ok-loaded.ensures.loaded.parts.geometry in
    let reads = c.in_ok-loaded.ensures.reads in
    IfOk-weaker c.seal.result _ _ (λ v is. let o = opened_read n h before between after same reads v is in o.opened) c.seal.ensures.opened

pub returns-clause-is_up : goal.returns-clause-is_up
returns-clause-is_up g c =
    let n = c.args.geometry.now in
    let h = geometry_of c.in_ok-loaded.loaded.cache in
    let before = g.M.Media.state c.args.media.now in
    let between = g.M.Media.state c.load.new.media in
    let after = g.M.Media.state c.seal.new.media in
    let same = c.in_ok-loaded.ensures.loaded.parts.geometry in
    let reads = c.in_ok-loaded.ensures.reads in
    IfOk-weaker c.seal.result _ _ (λ v is. let o = opened_read n h before between after same reads v is in o.is_up) c.seal.ensures.opened

pub returns-clause-own : goal.returns-clause-own
returns-clause-own g c =
    let n = c.args.geometry.now in
    let h = geometry_of c.in_ok-loaded.loaded.cache in
    let before = g.M.Media.state c.args.media.now in
    let between = g.M.Media.state c.load.new.media in
    let after = g.M.Media.state c.seal.new.media in
    let same = c.in_ok-loaded.ensures.loaded.parts.geometry in
    let reads = c.in_ok-loaded.ensures.reads in
    IfOk-weaker c.seal.result _ _ (λ v is. let o = opened_read n h before between after same reads v is in o.own) c.seal.ensures.opened

pub returns-clause-images : goal.returns-clause-images
returns-clause-images g c =
    let n = c.args.geometry.now in
    let h = geometry_of c.in_ok-loaded.loaded.cache in
    let before = g.M.Media.state c.args.media.now in
    let between = g.M.Media.state c.load.new.media in
    let after = g.M.Media.state c.seal.new.media in
    let same = c.in_ok-loaded.ensures.loaded.parts.geometry in
    let reads = c.in_ok-loaded.ensures.reads in
    (stands_read n h before between after same reads c.seal.ensures.stands).images

pub returns-clause-same : goal.returns-clause-same
returns-clause-same g c =
    let n = c.args.geometry.now in
    let h = geometry_of c.in_ok-loaded.loaded.cache in
    let before = g.M.Media.state c.args.media.now in
    let between = g.M.Media.state c.load.new.media in
    let after = g.M.Media.state c.seal.new.media in
    let same = c.in_ok-loaded.ensures.loaded.parts.geometry in
    let reads = c.in_ok-loaded.ensures.reads in
    (stands_read n h before between after same reads c.seal.ensures.stands).same

pub returns-clause-refused : goal.returns-clause-refused
returns-clause-refused g c = refused_flash c.args.geometry.now (load c.args.geometry.now (g.M.Media.state c.args.media.now).contents.flash.page) c.seal.result c.seal.ensures.refused

pub returns-clause-costs : goal.returns-clause-costs
returns-clause-costs g c =
    let n = c.args.geometry.now in
    let h = geometry_of c.in_ok-loaded.loaded.cache in
    let before = g.M.Media.state c.args.media.now in
    let between = g.M.Media.state c.load.new.media in
    let after = g.M.Media.state c.seal.new.media in
    let same = c.in_ok-loaded.ensures.loaded.parts.geometry in
    let reads = c.in_ok-loaded.ensures.reads in
    costs_read n h before between after same reads c.seal.result c.seal.ensures.refused c.seal.ensures.costs

pub returns-in_err-loaded-clause-costs : goal.returns-in_err-loaded-clause-costs
returns-in_err-loaded-clause-costs g c =
    refused_reads c.args.geometry.now (g.M.Media.state c.args.media.now) (g.M.Media.state c.load.new.media) LoadedCache c.from_residual.result c.in_err-loaded.field-0.0 c.from_residual.ensures.1 c.in_err-loaded.ensures.reads

pub returns-clause-drives : goal.returns-clause-drives
returns-clause-drives g c =
    let before = g.M.Media.state c.args.media.now in
    let between = g.M.Media.state c.load.new.media in
    drives_then before between (g.M.Media.state c.seal.new.media) (open_failed c.seal.result) (open_lost c.seal.result)
    (reads_drives before between false false (g.met.M.Media.off_is_crashed c.args.media.now) c.in_ok-loaded.ensures.reads) c.seal.ensures.drives
