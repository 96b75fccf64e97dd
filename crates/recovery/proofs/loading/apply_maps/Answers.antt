use Rattle.std.proofs.Common.{ap, ◌∙◌, rules, false}
use Rattle.ft_base.specs.Contents.{Contents}
use Rattle.ft_base.specs.Layout.{checkpoint_at}
use Rattle.ft_media.proofs.DrivesLemmas.{reads_then}
use Rattle.cache_model.specs.declared.format.PageKind.TheVariants.{Map as map_page}
use Rattle.mapping.proofs.FewLemmas.{keeps_then}
use Rattle.op_log.specs.Stamps.{stamped}
use Rattle.recovery.proofs.WalkLemmas.{map_block, stepped_on, stepped_off, stepped_refused}
use Rattle.recovery.proofs.loading.apply_maps.Goals as goal

pub apply_page-requires-clause-block : goal.apply_page-requires-clause-block
apply_page-requires-clause-block g c = map_block c.args.geometry.now c.args.newest.now.region c.loop-i.i c.args.newest.now.pages c.checkpoint_at-at.result c.requires.region c.loop-i-test.true c.requires.pages c.checkpoint_at-at.ensures

pub returns-in_err-apply_page-clause-refused : goal.returns-in_err-apply_page-clause-refused
returns-in_err-apply_page-clause-refused g c =
    let g' = c.args.geometry.now in
    let n = c.args.newest.now in
    let refused =
    stepped_refused g' map_page (stamped n.format n.era) (checkpoint_at g' n.region) (g.M.Media.state c.args.media.now).contents.flash.page n.pages c.args.map.now.entries c.loop-i.i c.loop-i.map.entries c.loop-i-test.true c.loop-i.invariant.walked
    c.checkpoint_at-at.result (g.M.Media.state c.loop-i.media).contents.flash.page c.checkpoint_at-at.ensures (ap (λ (k : Contents). k.flash.page) c.loop-i.invariant.reads.contents) c.in_err-apply_page.field-0.0 c.apply_page.new.map.entries c.in_err-apply_page.ensures.answers
    in
    search rules

pub returns-then-not-branch-clause-applied : goal.returns-then-not-branch-clause-applied
returns-then-not-branch-clause-applied g c =
    let g' = c.args.geometry.now in
    let n = c.args.newest.now in
    stepped_off g' map_page (stamped n.format n.era) (checkpoint_at g' n.region) (g.M.Media.state c.args.media.now).contents.flash.page n.pages c.args.map.now.entries c.loop-i.i c.loop-i.map.entries c.loop-i-test.true c.loop-i.invariant.walked
    c.checkpoint_at-at.result (g.M.Media.state c.loop-i.media).contents.flash.page c.checkpoint_at-at.ensures (ap (λ (k : Contents). k.flash.page) c.loop-i.invariant.reads.contents) c.in_ok-apply_page.field-0 c.apply_page.new.map.entries c.if-not-branch.true c.in_ok-apply_page.ensures.answers

pub returns-then-not-branch-clause-few : goal.returns-then-not-branch-clause-few
returns-then-not-branch-clause-few g c = keeps_then c.args.map.now c.loop-i.map c.apply_page.new.map c.loop-i.invariant.few c.in_ok-apply_page.ensures.few

pub loop-i-preserved : goal.loop-i-preserved
loop-i-preserved g c =
    let g' = c.args.geometry.now in
    let n = c.args.newest.now in
    record {
      reads = reads_then (g.M.Media.state c.args.media.now) (g.M.Media.state c.loop-i.media) (g.M.Media.state c.apply_page.new.media) false false c.loop-i.invariant.reads c.in_ok-apply_page.ensures.reads;
      geometry = c.in_ok-apply_page.ensures.geometry ∙ c.loop-i.invariant.geometry;
      few = keeps_then c.args.map.now c.loop-i.map c.apply_page.new.map c.loop-i.invariant.few c.in_ok-apply_page.ensures.few;
      walked =
          stepped_on g' map_page (stamped n.format n.era) (checkpoint_at g' n.region) (g.M.Media.state c.args.media.now).contents.flash.page n.pages c.args.map.now.entries c.loop-i.i c.loop-i.map.entries c.loop-i-test.true c.loop-i.invariant.walked
          c.checkpoint_at-at.result (g.M.Media.state c.loop-i.media).contents.flash.page c.checkpoint_at-at.ensures (ap (λ (k : Contents). k.flash.page) c.loop-i.invariant.reads.contents)
          c.in_ok-apply_page.field-0 c.apply_page.new.map.entries c.if-not-branch.false c.in_ok-apply_page.ensures.answers;
    }
