use Rattle.std.proofs.Common.{◌≡◌, ◌+◌, ◌*◌, subst, arith}
use Rattle.mapping.proofs.PackedLemmas.{PagesGone, none_gone, one_gone, still_none, all_gone}
use Rattle.mapping.proofs.held.remove_pages.Goals as goal

pub loop-page-init : goal.loop-page-init
loop-page-init c = none_gone c.args.geometry.now c.args.group c.args.pages.now c.requires.sound

pub remove_beside-requires-clause-apart : goal.remove_beside-requires-clause-apart
remove_beside-requires-clause-apart c = λ some. still_none c.args.geometry.now c.args.group c.loop-page.page c.args.pages.now c.loop-page.pages (c.args.group * c.args.geometry.now.p + c.loop-page.page) c.loop-page.invariant (c.requires.apart c.loop-page.page c.loop-page-test.true some)

pub loop-page-preserved : goal.loop-page-preserved
loop-page-preserved c = one_gone c.args.geometry.now c.args.group c.loop-page.page c.args.pages.now c.loop-page.pages c.remove_beside.new.pages c.loop-page-test.true c.loop-page.invariant c.remove_beside.ensures.map c.remove_beside.ensures.spare c.remove_beside.ensures.buckets c.remove_beside.ensures.sound

pub returns-clause-pages : goal.returns-clause-pages
returns-clause-pages c =
    let ends : c.loop-page.page ≡ c.args.geometry.now.p = omega (arith, c.loop-page-test.false, c.loop-page.auto.page-end) in
    all_gone c.args.geometry.now c.args.group c.args.pages.now c.loop-page.pages (subst (λ i. PagesGone c.args.geometry.now c.args.group c.args.pages.now c.loop-page.pages i) ends c.loop-page.invariant)
