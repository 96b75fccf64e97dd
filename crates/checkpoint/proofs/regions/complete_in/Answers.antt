use Rattle.std.proofs.Common.{◌*◌, ◌<◌, sym, subst, arith}
use Rattle.ft_base.specs.declared.block.Place.{Place}
use Rattle.ft_base.specs.Layout.{checkpoint_at, checkpoint_pages, blocks}
use Rattle.ft_media.proofs.DrivesLemmas.{reads_none, reads_then}
use Rattle.cache_model.specs.Loading.{complete}
use Rattle.op_log.specs.Stamps.{named}
use Rattle.checkpoint.proofs.WalkLemmas.{walked_none, walked_more, walked_complete, walked_broken, on_flash, found_at}
use Rattle.checkpoint.proofs.regions.complete_in.Goals as goal

pub loop-sequence-init : goal.loop-sequence-init
loop-sequence-init g c = record {
  walked = walked_none c.args.geometry.now c.args.region (g.M.Media.state c.args.media.now).contents.flash.page;
  few = omega arith;
  reads = reads_none (g.M.Media.state c.args.media.now);
}

pub find-requires-clause-block : goal.find-requires-clause-block
find-requires-clause-block g c =
    let within : c.loop-sequence.sequence < checkpoint_pages c.args.geometry.now = subst (λ n. c.loop-sequence.sequence < n * c.args.geometry.now.p) c.k.ensures.number c.loop-sequence-test.true in
    subst (λ (at : Place). at.block < blocks c.args.geometry.now) (sym c.checkpoint_at.ensures) (on_flash c.args.geometry.now c.args.region c.loop-sequence.sequence c.requires.region within)

pub returns-in-Complete-clause-found : goal.returns-in-Complete-clause-found
returns-in-Complete-clause-found g c =
    let within : c.loop-sequence.sequence < checkpoint_pages c.args.geometry.now = subst (λ n. c.loop-sequence.sequence < n * c.args.geometry.now.p) c.k.ensures.number c.loop-sequence-test.true in
    let old = (g.M.Media.state c.args.media.now).contents in
    let here = found_at old (g.M.Media.state c.loop-sequence.media).contents c.checkpoint_at.result (checkpoint_at c.args.geometry.now c.args.region c.loop-sequence.sequence) c.in_ok-found.found c.loop-sequence.invariant.reads.contents c.checkpoint_at.ensures c.in_ok-found.ensures.finds in
    walked_complete c.args.geometry.now c.args.region old.flash.page c.loop-sequence.walk.stamp c.loop-sequence.sequence c.loop-sequence.walk.records c.loop-sequence.invariant.walked (complete (named c.in-Complete.stamp) c.loop-sequence.sequence (record { seal = c.in-Complete.seal; totals = c.in-Complete.totals })) within
    (c.in-Complete.ensures (old.flash.page (checkpoint_at c.args.geometry.now c.args.region c.loop-sequence.sequence)) here)

pub returns-in-Ends-clause-found : goal.returns-in-Ends-clause-found
returns-in-Ends-clause-found g c =
    let within : c.loop-sequence.sequence < checkpoint_pages c.args.geometry.now = subst (λ n. c.loop-sequence.sequence < n * c.args.geometry.now.p) c.k.ensures.number c.loop-sequence-test.true in
    let old = (g.M.Media.state c.args.media.now).contents in
    let here = found_at old (g.M.Media.state c.loop-sequence.media).contents c.checkpoint_at.result (checkpoint_at c.args.geometry.now c.args.region c.loop-sequence.sequence) c.in_ok-found.found c.loop-sequence.invariant.reads.contents c.checkpoint_at.ensures c.in_ok-found.ensures.finds in
    walked_broken c.args.geometry.now c.args.region old.flash.page c.loop-sequence.walk.stamp c.loop-sequence.sequence c.loop-sequence.walk.records c.loop-sequence.invariant.walked within
    (c.in-Ends.ensures (old.flash.page (checkpoint_at c.args.geometry.now c.args.region c.loop-sequence.sequence)) here)

pub loop-sequence-preserved : goal.loop-sequence-preserved
loop-sequence-preserved g c =
    let within : c.loop-sequence.sequence < checkpoint_pages c.args.geometry.now = subst (λ n. c.loop-sequence.sequence < n * c.args.geometry.now.p) c.k.ensures.number c.loop-sequence-test.true in
    let old = (g.M.Media.state c.args.media.now).contents in
    let here = found_at old (g.M.Media.state c.loop-sequence.media).contents c.checkpoint_at.result (checkpoint_at c.args.geometry.now c.args.region c.loop-sequence.sequence) c.in_ok-found.found c.loop-sequence.invariant.reads.contents c.checkpoint_at.ensures c.in_ok-found.ensures.finds in
    let step = c.in-On.ensures (old.flash.page (checkpoint_at c.args.geometry.now c.args.region c.loop-sequence.sequence)) here in
    record {
      walked = walked_more c.args.geometry.now c.args.region old.flash.page c.loop-sequence.walk.stamp c.loop-sequence.sequence c.loop-sequence.walk.records c.loop-sequence.invariant.walked c.in-On.next.stamp c.in-On.next.records within step.1;
      few = omega (arith, step.0, c.loop-sequence.invariant.few);
      reads = reads_then (g.M.Media.state c.args.media.now) (g.M.Media.state c.loop-sequence.media) (g.M.Media.state c.find.new.media) _ _ c.loop-sequence.invariant.reads c.in_ok-found.ensures.reads;
    }
