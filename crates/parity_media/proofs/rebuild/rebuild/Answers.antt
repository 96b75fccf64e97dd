use Rattle.std.proofs.Common.{◌≡◌, false, refl, sym, ◌∙◌, ap, subst, arith}
use Rattle.ft_base.specs.declared.block.Page.TheVariants as content
use Rattle.ft_base.specs.Contents.{Contents}
use Rattle.ft_media.specs.Reads.{ReadsFlash}
use Rattle.ft_media.proofs.DrivesLemmas.{reads_none, reads_then}
use Rattle.parity_media.specs.Xor.{zero_spare, pages_of, xor_whole, JoinsBut}
use Rattle.parity_media.proofs.XorLemmas.{but_none, but_skip, but_join, but_back}
use Rattle.parity_media.proofs.rebuild.rebuild.Goals as goal
use Rattle.parity_media.proofs.rebuild.rebuild.Goals.{then-page-at+in_ok-join_page, else-page-at}

pub loop-page-init : goal.loop-page-init
unfolding zero_spare
loop-page-init g c = record {
  reads = reads_none (g.R.Media.state c.args.rig.now);
  joins = but_none (pages_of (g.R.Media.state c.args.rig.now).contents.flash.page c.args.at.block) c.args.at.page c.zero_block-joined.result _ c.zero_block-joined.ensures refl;
}

pub loop-page-preserved : goal.loop-page-preserved
loop-page-preserved g c =
    let first = g.R.Media.state c.args.rig.now in
    let found = pages_of first.contents.flash.page c.args.at.block in
    let before = g.R.Media.state c.loop-page.rig in
    elim c.if-page-at.branch [
      | then-page-at+in_ok-join_page w ↦ record {
        reads = subst (λ r. ReadsFlash first (g.R.Media.state r) false false) (sym w.rig-is)
            (reads_then first before (g.R.Media.state w.join_page.new.rig) false false c.loop-page.invariant.reads w.in_ok-join_page.ensures.reads);
        joins = but_join found c.args.at.page c.loop-page.page c.loop-page.joined c.if-page-at.joined c.loop-page.joined_spare c.if-page-at.joined_spare w.if-page-at.true
            (c.requires.parity.full c.loop-page.page c.loop-page-test.true)
            ((λ i. content.Whole (w.joined-is i) (w.joined_spare-is i)) ∙ w.in_ok-join_page.ensures.joined
            ∙ ap (λ (s : Contents). xor_whole c.loop-page.joined c.loop-page.joined_spare (pages_of s.flash.page c.args.at.block c.loop-page.page)) c.loop-page.invariant.reads.contents)
            c.loop-page.invariant.joins;
      }
      | else-page-at w ↦ record {
        reads = subst (λ r. ReadsFlash first (g.R.Media.state r) false false) (sym w.rig-is) c.loop-page.invariant.reads;
        joins = but_skip found c.args.at.page c.loop-page.page c.loop-page.joined c.if-page-at.joined c.loop-page.joined_spare c.if-page-at.joined_spare w.if-page-at.false w.joined-is w.joined_spare-is c.loop-page.invariant.joins;
      }
    ]

pub returns-clause-ok : goal.returns-clause-ok
returns-clause-ok g c =
    let first = g.R.Media.state c.args.rig.now in
    let found = pages_of first.contents.flash.page c.args.at.block in
    let all : c.loop-page.page ≡ c.args.pages = omega arith in
    let joins = subst (λ n. JoinsBut found c.args.at.page n c.loop-page.joined c.loop-page.joined_spare) all c.loop-page.invariant.joins in
    but_back found c.args.at.page c.args.pages c.loop-page.joined c.loop-page.joined_spare c.join_page-2.new.block c.join_page-2.new.spare c.requires.page
    (c.requires.parity.full c.args.at.page c.requires.page) c.requires.parity.sum joins
    (c.in_ok-join_page-2.ensures.joined
    ∙ ap (λ (s : Contents). xor_whole c.loop-page.joined c.loop-page.joined_spare (pages_of s.flash.page c.args.at.block c.args.pages)) c.loop-page.invariant.reads.contents)
