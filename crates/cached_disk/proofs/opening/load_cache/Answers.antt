use Rattle.std.proofs.Common.{refl, rules, subst}
use Rattle.std.specs.Prelude.{IfOk}
use Rattle.ft_base.specs.declared.block.Place.{Place}
use Rattle.ft_base.specs.declared.block.Page.{Page}
use Rattle.cache_model.specs.Loading.{load}
use Rattle.op_log.specs.Refusals.{open_failed, open_lost}
use Rattle.ssc.specs.Opened.{IsLoadedFrom}
use Rattle.ssc.proofs.OpenLemmas.{reads_drives}
use Rattle.cached_disk.proofs.OpenLemmas.{flush_tells, not_disk, only_opens, opens_after, opens_refused}
use Rattle.cached_disk.proofs.SealLemmas.{read_disk, read_images, read_only, read_page, read_same, refused_only, since_from}
use Rattle.cached_disk.proofs.opening.load_cache.Goals as goal

pub returns-in-Ok-clause-loaded : goal.returns-in-Ok-clause-loaded
returns-in-Ok-clause-loaded g c =
    let own = c.args.geometry.now in
    let before = g.M.Media.state c.args.media.now in
    let mid = g.M.Media.state c.flush_disk.new.self in
    let after = g.M.Media.state c.load.new.media in
    let d = c.in-Ok.ensures in
    let reads = c.load.ensures.reads in
    let drives = reads_drives mid after (open_failed c.load.result) (open_lost c.load.result) (g.met.M.Media.off_is_crashed c.flush_disk.new.self) reads in
    let page = read_page own before mid after (open_failed c.load.result) (open_lost c.load.result) (d.flash.stays refl) d.counts reads in
    since_from own before after c.load.result c.requires.shape (subst (λ (f : Place → Page). IfOk c.load.result (IsLoadedFrom own f)) page c.load.ensures.loaded)
    (read_disk own before mid after (open_failed c.load.result) (open_lost c.load.result) (d.flash.stays refl) d.counts reads d.ok) (read_only own before mid after (open_failed c.load.result) (open_lost c.load.result) (d.flash.stays refl) d.counts reads)
    (only_opens before mid after d.device d.counts d.cause d.passes c.load.result (not_disk own before.contents mid.contents after.contents page c.load.result (load own mid.contents.flash.page) c.load.ensures.refused) drives)

pub returns-in-Ok-clause-opening : goal.returns-in-Ok-clause-opening
returns-in-Ok-clause-opening g c =
    let own = c.args.geometry.now in
    let before = g.M.Media.state c.args.media.now in
    let mid = g.M.Media.state c.flush_disk.new.self in
    let after = g.M.Media.state c.load.new.media in
    let d = c.in-Ok.ensures in
    let reads = c.load.ensures.reads in
    let drives = reads_drives mid after (open_failed c.load.result) (open_lost c.load.result) (g.met.M.Media.off_is_crashed c.flush_disk.new.self) reads in
    let page = read_page own before mid after (open_failed c.load.result) (open_lost c.load.result) (d.flash.stays refl) d.counts reads in
    record {
      opens = opens_after own before.contents mid.contents after.contents page c.load.result d.ok (read_same own before mid after (open_failed c.load.result) (open_lost c.load.result) (d.flash.stays refl) d.counts reads) (read_images own before mid after (open_failed c.load.result) (open_lost c.load.result) (d.flash.stays refl) d.counts reads) c.load.ensures.refused drives.disk drives.crash;
      refused = search rules;
      goes = only_opens before mid after d.device d.counts d.cause d.passes c.load.result (not_disk own before.contents mid.contents after.contents page c.load.result (load own mid.contents.flash.page) c.load.ensures.refused) drives;
    }

pub returns-in-Ok-clause-reads : goal.returns-in-Ok-clause-reads
returns-in-Ok-clause-reads g c =
    let own = c.args.geometry.now in
    let before = g.M.Media.state c.args.media.now in
    let mid = g.M.Media.state c.flush_disk.new.self in
    let after = g.M.Media.state c.load.new.media in
    let d = c.in-Ok.ensures in
    let reads = c.load.ensures.reads in
    refused_only before after c.load.result (read_only own before mid after (open_failed c.load.result) (open_lost c.load.result) (d.flash.stays refl) d.counts reads)

pub returns-in-Err-clause-opening : goal.returns-in-Err-clause-opening
returns-in-Err-clause-opening g c = record {
  opens = opens_refused c.args.geometry.now (g.M.Media.state c.args.media.now).contents (g.M.Media.state c.flush_disk.new.self).contents
      (g.M.Media.state c.flush_disk.new.self).contents c.flush_disk.ensures.flash.page c.in-Err.error c.flush_error.result c.flush_error.ensures c.flush_disk.ensures.values c.in-Err.ensures.failed
      c.in-Err.ensures.memory c.in-Err.ensures.crash;
  refused = search rules;
  goes = search rules;
}

pub returns-in-Err-clause-reads : goal.returns-in-Err-clause-reads
returns-in-Err-clause-reads g c = flush_tells (g.M.Media.state c.args.media.now) (g.M.Media.state c.flush_disk.new.self) c.in-Err.error c.flush_error.result c.flush_error.ensures c.in-Err.ensures.memory
