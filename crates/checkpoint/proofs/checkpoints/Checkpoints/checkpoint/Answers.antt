use Rattle.std.proofs.Common.{rules, ◌≡◌, ◌+◌, ◌-◌, ◌%◌, sym, ◌∙◌, subst}
use Rattle.ft_base.specs.declared.geometry.Geometry.{Geometry}
use Rattle.cache_model.specs.Entries.{IsMap}
use Rattle.op_log.specs.Log.{LogValue}
use Rattle.checkpoint.specs.Counts.{checkpoint_counted}
use Rattle.checkpoint.specs.Regions.{map_pages, totals_of}
use Rattle.checkpoint.specs.Current.{IsCommitted}
use Rattle.checkpoint.proofs.CountingLemmas.{listing_here}
use Rattle.checkpoint.proofs.SealedLemmas.{current_map, loads_one_of, log_goes_last, pool_left, ready_left, written_committed, left_of_log, written_of_log, restarted_log}
use Rattle.checkpoint.proofs.WrittenLemmas.{sealed_spares}
use Rattle.checkpoint.proofs.checkpoints.Checkpoints.checkpoint.Goals as goal

pub write_checkpoint-requires-clause-is_map : goal.write_checkpoint-requires-clause-is_map
write_checkpoint-requires-clause-is_map g c =
    subst (λ (x : Geometry). IsMap x c.args.map.now.entries) (sym (c.self.view_is ∙ c.requires.can.own)) (current_map c.args.log.now (g.M.Media.state c.args.media.now).contents.flash.page c.args.map.now.entries c.requires.can.current)

pub returns-in_err-write_checkpoint-clause-flash : goal.returns-in_err-write_checkpoint-clause-flash
returns-in_err-write_checkpoint-clause-flash g c = record {
  stands = loads_one_of c.args.log.now c.args.map.now.entries c.args.map.now.records (g.M.Media.state c.args.media.now).contents.flash.page
      (g.M.Media.state c.write_checkpoint.new.media).contents.flash.page c.requires.can.current c.requires.can.whole
      (listing_here c.self.inside.geometry c.args.log.now.geometry c.args.map.now.entries c.args.map.now.records (c.self.view_is ∙ c.requires.can.own) c.write_checkpoint.ensures.listing)
      (left_of_log c.args.log.now c.args.map.now.records (totals_of c.args.map.now.entries) c.self.inside.geometry c.region.result c.era.result (c.self.view_is ∙ c.requires.can.own) c.region.ensures.region c.era.ensures.era
      (g.M.Media.state c.args.media.now).contents.flash.page (g.M.Media.state c.write_checkpoint.new.media).contents.flash.page c.write_checkpoint.ensures.pages);
  pool = pool_left c.args.log.now c.args.map.now.records (totals_of c.args.map.now.entries) (g.M.Media.state c.args.media.now).contents.flash.page (g.M.Media.state c.write_checkpoint.new.media).contents.flash.page
      (left_of_log c.args.log.now c.args.map.now.records (totals_of c.args.map.now.entries) c.self.inside.geometry c.region.result c.era.result (c.self.view_is ∙ c.requires.can.own) c.region.ensures.region c.era.ensures.era
      (g.M.Media.state c.args.media.now).contents.flash.page (g.M.Media.state c.write_checkpoint.new.media).contents.flash.page c.write_checkpoint.ensures.pages);
  pool_ready = search rules;
}

pub returns-in_err-write_checkpoint-clause-log_last : goal.returns-in_err-write_checkpoint-clause-log_last
returns-in_err-write_checkpoint-clause-log_last g c =
    log_goes_last c.args.log.now c.args.map.now.entries c.args.map.now.records (g.M.Media.state c.args.media.now).contents.flash.page
    (g.M.Media.state c.write_checkpoint.new.media).contents.flash.page c.requires.can.current
    (listing_here c.self.inside.geometry c.args.log.now.geometry c.args.map.now.entries c.args.map.now.records (c.self.view_is ∙ c.requires.can.own) c.write_checkpoint.ensures.listing)
    (left_of_log c.args.log.now c.args.map.now.records (totals_of c.args.map.now.entries) c.self.inside.geometry c.region.result c.era.result (c.self.view_is ∙ c.requires.can.own) c.region.ensures.region c.era.ensures.era
    (g.M.Media.state c.args.media.now).contents.flash.page (g.M.Media.state c.write_checkpoint.new.media).contents.flash.page c.write_checkpoint.ensures.pages)

pub returns-clause-flash : goal.returns-clause-flash
returns-clause-flash g c = record {
  stands = loads_one_of c.args.log.now c.args.map.now.entries c.args.map.now.records (g.M.Media.state c.args.media.now).contents.flash.page
      (g.M.Media.state c.write_checkpoint.new.media).contents.flash.page c.requires.can.current c.requires.can.whole
      (listing_here c.self.inside.geometry c.args.log.now.geometry c.args.map.now.entries c.args.map.now.records (c.self.view_is ∙ c.requires.can.own) c.write_checkpoint.ensures.listing)
      (left_of_log c.args.log.now c.args.map.now.records (totals_of c.args.map.now.entries) c.self.inside.geometry c.region.result c.era.result (c.self.view_is ∙ c.requires.can.own) c.region.ensures.region c.era.ensures.era
      (g.M.Media.state c.args.media.now).contents.flash.page (g.M.Media.state c.write_checkpoint.new.media).contents.flash.page c.write_checkpoint.ensures.pages);
  pool = pool_left c.args.log.now c.args.map.now.records (totals_of c.args.map.now.entries) (g.M.Media.state c.args.media.now).contents.flash.page (g.M.Media.state c.write_checkpoint.new.media).contents.flash.page
      (left_of_log c.args.log.now c.args.map.now.records (totals_of c.args.map.now.entries) c.self.inside.geometry c.region.result c.era.result (c.self.view_is ∙ c.requires.can.own) c.region.ensures.region c.era.ensures.era
      (g.M.Media.state c.args.media.now).contents.flash.page (g.M.Media.state c.write_checkpoint.new.media).contents.flash.page c.write_checkpoint.ensures.pages);
  pool_ready = ready_left c.args.log.now c.args.map.now.records (totals_of c.args.map.now.entries) (g.M.Media.state c.args.media.now).contents.flash (g.M.Media.state c.write_checkpoint.new.media).contents.flash
      (written_of_log c.args.log.now c.args.map.now.records (totals_of c.args.map.now.entries) c.self.inside.geometry c.region.result c.era.result (c.self.view_is ∙ c.requires.can.own) c.region.ensures.region c.era.ensures.era
      (g.M.Media.state c.args.media.now).contents.flash (g.M.Media.state c.write_checkpoint.new.media).contents.flash c.in_ok-write_checkpoint.ensures.done);
}

pub returns-clause-log_last : goal.returns-clause-log_last
returns-clause-log_last g c =
    log_goes_last c.args.log.now c.args.map.now.entries c.args.map.now.records (g.M.Media.state c.args.media.now).contents.flash.page
    (g.M.Media.state c.write_checkpoint.new.media).contents.flash.page c.requires.can.current
    (listing_here c.self.inside.geometry c.args.log.now.geometry c.args.map.now.entries c.args.map.now.records (c.self.view_is ∙ c.requires.can.own) c.write_checkpoint.ensures.listing)
    (left_of_log c.args.log.now c.args.map.now.records (totals_of c.args.map.now.entries) c.self.inside.geometry c.region.result c.era.result (c.self.view_is ∙ c.requires.can.own) c.region.ensures.region c.era.ensures.era
    (g.M.Media.state c.args.media.now).contents.flash.page (g.M.Media.state c.write_checkpoint.new.media).contents.flash.page c.write_checkpoint.ensures.pages)

pub returns-clause-done : goal.returns-clause-done
returns-clause-done g c =
    subst (λ (log : LogValue). IsCommitted (g.M.Media.state c.write_checkpoint.new.media).contents.flash log c.args.map.now.entries)
    (sym (restarted_log c.args.log.now c.args.map.now.records (totals_of c.args.map.now.entries) c.self.inside.geometry c.region.result c.era.result (c.self.view_is ∙ c.requires.can.own) c.region.ensures.region c.era.ensures.era c.restart.new.self c.restart.ensures))
    (written_committed c.args.log.now c.args.map.now.entries c.args.map.now.records (g.M.Media.state c.args.media.now).contents.flash
    (g.M.Media.state c.write_checkpoint.new.media).contents.flash c.requires.can.current c.requires.can.whole
    (listing_here c.self.inside.geometry c.args.log.now.geometry c.args.map.now.entries c.args.map.now.records (c.self.view_is ∙ c.requires.can.own) c.write_checkpoint.ensures.listing)
    (written_of_log c.args.log.now c.args.map.now.records (totals_of c.args.map.now.entries) c.self.inside.geometry c.region.result c.era.result (c.self.view_is ∙ c.requires.can.own) c.region.ensures.region c.era.ensures.era
    (g.M.Media.state c.args.media.now).contents.flash (g.M.Media.state c.write_checkpoint.new.media).contents.flash c.in_ok-write_checkpoint.ensures.done))

pub returns-clause-whole_checkpoint : goal.returns-clause-whole_checkpoint
returns-clause-whole_checkpoint g c = record {
  spares = let written = written_of_log c.args.log.now c.args.map.now.records (totals_of c.args.map.now.entries) c.self.inside.geometry c.region.result c.era.result (c.self.view_is ∙ c.requires.can.own) c.region.ensures.region c.era.ensures.era
      (g.M.Media.state c.args.media.now).contents.flash (g.M.Media.state c.write_checkpoint.new.media).contents.flash c.in_ok-write_checkpoint.ensures.done in
      sealed_spares c.args.log.now.geometry (1 - c.args.log.now.region) ((c.args.log.now.era + 1) % 3) c.args.map.now.records (totals_of c.args.map.now.entries) (g.M.Media.state c.args.media.now).contents.flash.page (g.M.Media.state c.write_checkpoint.new.media).contents.flash.page written.sealed;
  counts = subst (λ (x : Geometry). (g.M.Media.state c.write_checkpoint.new.media).counts ≡ checkpoint_counted x (map_pages x c.args.map.now.records) (g.M.Media.state c.args.media.now).counts) (c.self.view_is ∙ c.requires.can.own) c.in_ok-write_checkpoint.ensures.counts;
}
