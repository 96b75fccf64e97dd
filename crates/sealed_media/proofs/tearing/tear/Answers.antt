use Rattle.std.proofs.Common.{◌∙◌, ap, sym}
use Rattle.sealed_media.specs.Seal.{is_sealed}
use Rattle.sealed_media.proofs.TearingLemmas.{torn_so, torn_else}
use Rattle.sealed_media.proofs.tearing.tear.Goals as goal

pub returns-then-is_sealed : goal.returns-then-is_sealed
returns-then-is_sealed c = c.erased.ensures ∙ torn_so c.args.number c.args.at (ap is_sealed (sym c.draw-drawn.ensures) ∙ sym c.is_sealed.ensures.test ∙ c.if-is_sealed.true)

pub returns : goal.returns
returns c = c.draw-drawn.ensures ∙ torn_else c.args.number c.args.at (ap is_sealed (sym c.draw-drawn.ensures) ∙ sym c.is_sealed.ensures.test ∙ c.if-is_sealed.false)
