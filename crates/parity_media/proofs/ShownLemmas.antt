-- What is shown of the flash beneath, after a call of it.
use Rattle.std.proofs.Common.{◌≡◌, ◌<◌, ◌==◌, ℕ, Bool, true, false, nat_lt, inl, inr, refl, sym, ◌∙◌, ap, arith, cond}
use Rattle.std.specs.Prelude.{Option, None}
use Rattle.std.proofs.lemmas.Bool.{cases_eq}
use Rattle.std.proofs.lemmas.Bool.Decides.{nat_tests}
use Rattle.ft_base.specs.declared.block.Block.{Block}
use Rattle.ft_base.specs.declared.block.Spare.{Spare}
use Rattle.ft_base.specs.declared.block.Place.{Place}
use Rattle.ft_base.specs.declared.block.Page.{Page}
use Rattle.ft_base.specs.declared.block.Page.TheVariants as page
use Rattle.ft_base.specs.Contents.{Flash, same_place, set_page, set}
use Rattle.ft_media.specs.Media.{LeavesPage}
use Rattle.parity_media.specs.Shown.{shown_pages, shown_next, next_within, shown_flash}
use Rattle.parity_media.proofs.TiedLemmas.{other_page}

-- the pages that are shown are as before
pub shown_kept : (pages : ℕ) (f g : Place → Page) → ((q : Place) → q.page < pages → g q ≡ f q) → shown_pages pages g ≡ shown_pages pages f
shown_kept pages f g alike = λ i q. each q i
  where
    each : (q : Place) → shown_pages pages g q ≡ shown_pages pages f q
    each q = by_test (nat_lt q.page pages) refl
      where
        by_test : (t : Bool) → nat_lt q.page pages ≡ t → cond t (g q) page.Blank ≡ cond t (f q) page.Blank
        by_test true inside = alike q (grind (arith, nat_tests, inside))
        by_test false past = refl

-- one of them is put
pub shown_put : (pages : ℕ) (f g : Place → Page) (at : Place) (v : Page) → at.page < pages → ((q : Place) → q.page < pages → g q ≡ set_page f at v q)
    → shown_pages pages g ≡ set_page (shown_pages pages f) at v
shown_put pages f g at v small puts = λ i q. each q i
  where
    each : (q : Place) → shown_pages pages g q ≡ set_page (shown_pages pages f) at v q
    each q = by_tests (nat_lt q.page pages) (same_place at q) refl refl
      where
        by_tests : (t s : Bool) → nat_lt q.page pages ≡ t → same_place at q ≡ s → cond t (g q) page.Blank ≡ cond s v (cond t (f q) page.Blank)
        by_tests true true inside here = puts q (grind (arith, nat_tests, inside)) ∙ ap (λ s. cond s v (f q)) here
        by_tests true false inside other = puts q (grind (arith, nat_tests, inside)) ∙ ap (λ s. cond s v (f q)) other
        by_tests false true past here =
            elim (cases_eq q.page at.page) [
              | inl same ↦ absurd (grind (arith, nat_tests, past, same, small))
              | inr apart ↦ let other : false ≡ true = sym (other_page at q apart) ∙ here in cc
            ]
        by_tests false false past other = refl

-- what is next is put
pub shown_next_put : (blocks pages : ℕ) (f g : ℕ → Option ℕ) (number : ℕ) (v : Option ℕ) → number < blocks → ((q : ℕ) → g q ≡ set f number v q)
    → shown_next blocks pages g ≡ set (shown_next blocks pages f) number (next_within pages v)
shown_next_put blocks pages f g number v small puts = λ i q. each q i
  where
    each : (q : ℕ) → shown_next blocks pages g q ≡ set (shown_next blocks pages f) number (next_within pages v) q
    each q = by_tests (nat_lt q blocks) (number == q) refl refl
      where
        by_tests : (t s : Bool) → nat_lt q blocks ≡ t → number == q ≡ s → cond t (next_within pages (g q)) None ≡ cond s (next_within pages v) (cond t (next_within pages (f q)) None)
        by_tests true true inside here = ap (next_within pages) (puts q ∙ ap (λ s. cond s v (f q)) here)
        by_tests true false inside other = ap (next_within pages) (puts q ∙ ap (λ s. cond s v (f q)) other)
        by_tests false true past here = absurd (grind (arith, nat_tests, past, here, small))
        by_tests false false past other = refl

-- a program leaves the shown pages likewise
pub shown_leaves : (blocks pages : ℕ) (old new : Flash) (at : Place) (block : Block) (spare : Spare) → at.page < pages → LeavesPage old new at block spare
    → LeavesPage (shown_flash blocks pages old) (shown_flash blocks pages new) at block spare
shown_leaves blocks pages old new at block spare small (inl same) = inl (ap (shown_pages pages) same)
shown_leaves blocks pages old new at block spare small (inr (inl done)) = inr (inl (shown_put pages old.page new.page at (page.Whole block spare) small (λ q inside. ap (λ (f : Place → Page). f q) done)))
shown_leaves blocks pages old new at block spare small (inr (inr torn)) = inr (inr (shown_put pages old.page new.page at page.Torn small (λ q inside. ap (λ (f : Place → Page). f q) torn)))
