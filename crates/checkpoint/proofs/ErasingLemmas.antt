-- A region that is erased.
use Rattle.std.proofs.Common.{◌≡◌, ℕ, ◌+◌, ◌*◌, ◌<◌, ◌∙◌, sym, subst, inl, inr}
use Rattle.ft_base.specs.declared.geometry.Geometry.{Geometry}
use Rattle.ft_base.specs.declared.block.Place.{Place}
use Rattle.ft_base.specs.declared.block.Page.{Page}
use Rattle.ft_base.specs.declared.block.Page.TheVariants.{Blank}
use Rattle.ft_base.specs.Contents.{Flash}
use Rattle.ft_base.specs.Layout.{k, first_log, checkpoint_at}
use Rattle.cache_model.specs.Laws.{IsMapOrLost}
use Rattle.checkpoint.specs.Regions.{IsBlockWithin, AreLost, AreBlank, StaysBeside, IsBare}
use Rattle.checkpoint.proofs.PlacesLemmas.{checkpoint_within, checkpoint_no_log}

-- no page outside of these erase blocks is lost
pub lost_elsewhere : (first count : ℕ) (old new : Place → Page) → AreLost first count old new → (at : Place) → (IsBlockWithin first count at.block → ⊥) → new at ≡ old at
lost_elsewhere first count old new lost at out = elim (lost at) [
  | inl same ↦ same
  | inr gone ↦ absurd (out gone.0)
]

pub map_or_lost : (page : Page) → page ≡ Blank → IsMapOrLost page
map_or_lost page blank = subst IsMapOrLost (sym blank) tt

-- the checkpoint region was erased, and pages of its log are lost
pub log_lost : (g : Geometry) (region : ℕ) (old mid new : Flash) (n : ℕ) → region < 2 → n ≡ k g → AreLost (region * n) n old.page mid.page → AreBlank (region * n) n mid → AreLost (2 * n + region * g.j) g.j mid.page new.page → IsBare g region new.page × StaysBeside g region old.page new.page
log_lost g region old mid new n low is first blank then = (
  record {
    pages = λ i within.
        let there = checkpoint_within g region i within in
        map_or_lost _ (lost_elsewhere _ _ mid.page new.page then' (checkpoint_at g region i) (checkpoint_no_log g region region _ low low there) ∙ blank'.page (checkpoint_at g region i) there);
  },
  λ at out out'. lost_elsewhere _ _ mid.page new.page then' at out' ∙ lost_elsewhere _ _ old.page mid.page first' at out,
)
  where
    first' : AreLost (region * k g) (k g) old.page mid.page
    first' = subst (λ m. AreLost (region * m) m old.page mid.page) is first

    blank' : AreBlank (region * k g) (k g) mid
    blank' = subst (λ m. AreBlank (region * m) m mid) is blank

    then' : AreLost (first_log g + region * g.j) g.j mid.page new.page
    then' = subst (λ m. AreLost (2 * m + region * g.j) g.j mid.page new.page) is then
