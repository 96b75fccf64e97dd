use Rattle.std.proofs.Common.{◌<◌, ◌*◌, option_map, sym, ◌∙◌, ap, subst}
use Rattle.ft_base.specs.Layout.{checkpoint_at, checkpoint_pages}
use Rattle.recovery.specs.Plain.{page_listed, named, sealed_with}
use Rattle.recovery.proofs.PlainLemmas.{maps_more}
use Rattle.recovery.proofs.plain.regions.sealed_from.Goals as goal

pub loop-i-preserved : goal.loop-i-preserved
loop-i-preserved c =
    let g = c.args.geometry.now in
    maps_more (named c.args.stamp) (checkpoint_at g c.args.region) (page_listed g c.args.pages.now) (checkpoint_pages g) c.loop-i.i c.loop-i.count (subst (λ n. c.loop-i.i < n * g.p) c.k.ensures.number c.loop-i-test.true) c.loop-i.invariant
    c.checkpoint_at.result c.page_at-page.result c.checkpoint_at.ensures c.page_at-page.ensures c.in_ok-header.header (ap (option_map sealed_with) (sym c.in_default.is) ∙ c.seal_at.ensures) (sym c.in_ok-header.was ∙ c.header_at.ensures.value) c.in_ok-header.ensures.few
