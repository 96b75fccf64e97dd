use Rattle.std.proofs.Common.{◌<◌, false, arith, rules, sym, subst}
use Rattle.ft_base.specs.declared.block.Place.{Place}
use Rattle.ft_base.specs.Layout.{blocks, first_pool, log_at}
use Rattle.ft_media.proofs.DrivesLemmas.{reads_then}
use Rattle.cache_model.specs.declared.format.PageKind.TheVariants.{Log}
use Rattle.cache_model.specs.Loading.{after_pages, log_region}
use Rattle.op_log.specs.declared.error.OpenError.{OpenError}
use Rattle.op_log.specs.Stamps.{stamped}
use Rattle.op_log.specs.Refusals.{IsRefusal}
use Rattle.cache_model.proofs.LoadLemmas.{log_below}
use Rattle.mapping.proofs.FewLemmas.{keeps_then}
use Rattle.op_log.proofs.ApplyLemmas.{room_taken}
use Rattle.op_log.proofs.WalkLemmas.{if_err, turn_more, turn_end, turn_refused}
use Rattle.op_log.proofs.walk.roll.Goals as goal

pub apply_page-requires-clause-block : goal.apply_page-requires-clause-block
apply_page-requires-clause-block g c =
    let low : (log_at c.args.geometry.now c.args.region c.loop-i.i).block < first_pool c.args.geometry.now = log_below c.args.geometry.now c.args.region c.loop-i.i c.requires.region c.loop-i-test.true in
    subst (λ (p : Place). p.block < blocks c.args.geometry.now) (sym c.log_at-at.ensures) (omega arith)

pub returns-in_err-apply_page-clause-refused : goal.returns-in_err-apply_page-clause-refused
returns-in_err-apply_page-clause-refused g c =
    let start = (g.M.Media.state c.args.media.now).contents in
    let loads = after_pages c.args.geometry.now Log (stamped c.args.format c.args.era) (log_at c.args.geometry.now c.args.region) 0 (log_region c.args.geometry.now start.flash.page c.args.region) c.args.map.now.entries in
    let refused = turn_refused c.args.geometry.now c.args.region (stamped c.args.format c.args.era) start
    (g.M.Media.state c.loop-i.media).contents c.loop-i.invariant.reads.contents c.args.map.now.entries c.loop-i.map.entries c.apply_page.new.map.entries c.loop-i.i c.log_at-at.result
    c.log_at-at.ensures c.loop-i-test.true c.loop-i.invariant.rolled c.in_err-apply_page.field-0.0 c.in_err-apply_page.ensures.answers in
    if_err c.from_residual.result _ _ c.from_residual.ensures.1 (λ e is. subst (λ (x : OpenError). IsRefusal c.args.geometry.now x loads) (sym is) refused)

pub returns-then-not-branch-clause-applied : goal.returns-then-not-branch-clause-applied
returns-then-not-branch-clause-applied g c =
    (turn_end c.args.geometry.now c.args.region (stamped c.args.format c.args.era) (g.M.Media.state c.args.media.now).contents
    (g.M.Media.state c.loop-i.media).contents c.loop-i.invariant.reads.contents c.args.map.now.entries c.loop-i.map.entries c.apply_page.new.map.entries c.loop-i.i c.log_at-at.result
    c.log_at-at.ensures c.loop-i-test.true c.loop-i.invariant.rolled c.in_ok-apply_page.field-0 c.if-not-branch.true c.in_ok-apply_page.ensures.answers).0

pub returns-then-not-branch-clause-count : goal.returns-then-not-branch-clause-count
returns-then-not-branch-clause-count g c =
    (turn_end c.args.geometry.now c.args.region (stamped c.args.format c.args.era) (g.M.Media.state c.args.media.now).contents
    (g.M.Media.state c.loop-i.media).contents c.loop-i.invariant.reads.contents c.args.map.now.entries c.loop-i.map.entries c.apply_page.new.map.entries c.loop-i.i c.log_at-at.result
    c.log_at-at.ensures c.loop-i-test.true c.loop-i.invariant.rolled c.in_ok-apply_page.field-0 c.if-not-branch.true c.in_ok-apply_page.ensures.answers).1

pub returns-then-not-branch-clause-room : goal.returns-then-not-branch-clause-room
returns-then-not-branch-clause-room g c = room_taken _ c.args.map.now c.loop-i.map c.apply_page.new.map c.loop-i.invariant.room c.in_ok-apply_page.ensures.room

pub returns-then-not-branch-clause-few : goal.returns-then-not-branch-clause-few
returns-then-not-branch-clause-few g c = keeps_then c.args.map.now c.loop-i.map c.apply_page.new.map c.loop-i.invariant.few c.in_ok-apply_page.ensures.few

pub loop-i-preserved : goal.loop-i-preserved
loop-i-preserved g c = record {
  geometry = search rules;
  rolled = turn_more c.args.geometry.now c.args.region (stamped c.args.format c.args.era) (g.M.Media.state c.args.media.now).contents
      (g.M.Media.state c.loop-i.media).contents c.loop-i.invariant.reads.contents c.args.map.now.entries c.loop-i.map.entries c.apply_page.new.map.entries c.loop-i.i c.log_at-at.result
      c.log_at-at.ensures c.loop-i-test.true c.loop-i.invariant.rolled c.in_ok-apply_page.field-0 c.if-not-branch.false c.in_ok-apply_page.ensures.answers;
  room = room_taken _ c.args.map.now c.loop-i.map c.apply_page.new.map c.loop-i.invariant.room c.in_ok-apply_page.ensures.room;
  few = keeps_then c.args.map.now c.loop-i.map c.apply_page.new.map c.loop-i.invariant.few c.in_ok-apply_page.ensures.few;
  reads = reads_then (g.M.Media.state c.args.media.now) (g.M.Media.state c.loop-i.media) (g.M.Media.state c.apply_page.new.media) false false c.loop-i.invariant.reads c.in_ok-apply_page.ensures.reads;
}
