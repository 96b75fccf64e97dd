-- How the plain media change when raw media are written.
use Rattle.std.proofs.Common.{◌≡◌, ◌==◌, ◌⊎◌, ℕ, Bool, true, false, inl, inr, refl, sym, ◌∙◌, ap, arith, cond}
use Rattle.std.specs.Prelude.{Result, Ok, Err, OnOk}
use Rattle.std.proofs.lemmas.Bool.{cases_eq}
use Rattle.std.proofs.lemmas.Bool.Decides.{nat_tests}
use Rattle.ft_base.specs.declared.block.Block.{Block}
use Rattle.ft_base.specs.declared.block.Spare.{Spare}
use Rattle.ft_base.specs.declared.block.Place.{Place}
use Rattle.ft_base.specs.declared.block.Page.{Page}
use Rattle.ft_base.specs.declared.block.Page.TheVariants as page
use Rattle.ft_base.specs.Contents.{Flash, same_place, set_page}
use Rattle.ft_media.specs.declared.media.PageRead.{PageRead}
use Rattle.ft_media.specs.declared.media.PageRead.TheVariants as read
use Rattle.ft_media.specs.Media.{Found, LeavesPage, PagesErased, after_program, after_erase}
use Rattle.sealed_media.specs.declared.page.RawPage.{RawPage}
use Rattle.sealed_media.specs.Seal.{IsSealed, IsErased, is_sealed, is_erased, classified, block_in, spare_in, page_so, plain_page}
use Rattle.sealed_media.specs.RawState.{RawFlash}
use Rattle.sealed_media.specs.Raw.{set_raw, raw_programmed, LeavesRaw, RawErased, LeavesErased}
use Rattle.sealed_media.proofs.SealLemmas.{blank_so, sealed_test, tests}

-- a result with more facts if it is `Ok`
pub where_ok : {T E : Type 0} {A B : Type 0} (r : Result T E) → (A → B) → OnOk r A → OnOk r B
where_ok (Ok value) f has = f has
where_ok (Err e) f has = tt

-- the bytes that are read of a page
pub found_so : (raw : RawPage) (found : PageRead) (block : Block) (spare : Spare) → found ≡ classified raw → (found ≡ read.Whole → (block ≡ block_in raw) × (spare ≡ spare_in raw)) → Found (plain_page raw) found block spare
unfolding plain_page
found_so raw found block spare is parts = by_found found parts (classified raw) (sym is)
  where
    by_found : (f : PageRead) → (f ≡ read.Whole → (block ≡ block_in raw) × (spare ≡ spare_in raw)) → (kind : PageRead) → kind ≡ f → Found (page_so kind raw) f block spare
    by_found f copied read.Blank same = sym same
    by_found f copied read.Whole same = let both = copied (sym same) in (sym same, both.0, both.1)
    by_found f copied read.Torn same = sym same

-- a page that is erased is blank, and one without its seal is blank or torn
pub erased_is_blank : (raw : RawPage) → IsErased raw → plain_page raw ≡ page.Blank
unfolding plain_page
erased_is_blank raw erased = ap (λ found. page_so found raw) (blank_so raw erased)

pub unsealed_is : (raw : RawPage) → (IsSealed raw → ⊥) → (plain_page raw ≡ page.Blank) ⊎ (plain_page raw ≡ page.Torn)
unfolding plain_page
unsealed_is raw never = by_tests (is_erased raw) (is_sealed raw) (sealed_test raw).0
  where
    by_tests : (e s : Bool) → (s ≡ true → IsSealed raw) → (page_so (tests e s) raw ≡ page.Blank) ⊎ (page_so (tests e s) raw ≡ page.Torn)
    by_tests true s is = inl refl
    by_tests false true is = absurd (never (is refl))
    by_tests false false is = inr refl

-- one page has other bytes
abbrev pub plain_flash : RawFlash → Flash
plain_flash raw = record { page = λ at. plain_page (raw.page at); next = raw.next }

plain_set : (old : Place → RawPage) (at : Place) (value : RawPage) (q : Place) → plain_page (set_raw old at value q) ≡ set_page (λ p. plain_page (old p)) at (plain_page value) q
plain_set old at value q = by_test (same_place at q)
  where
    by_test : (t : Bool) → plain_page (cond t value (old q)) ≡ cond t (plain_page value) (plain_page (old q))
    by_test true = refl
    by_test false = refl

set_plain : (old new : Place → RawPage) (at : Place) (value : RawPage) (is : Page) → new ≡ set_raw old at value → plain_page value ≡ is → ◌≡◌ {A = Place → Page} (λ p. plain_page (new p)) (set_page (λ p. plain_page (old p)) at is)
set_plain old new at value is change plain = (λ i p. plain_page (change i p)) ∙ (λ i q. plain_set old at value q i) ∙ ap (set_page (λ p. plain_page (old p)) at) plain

-- a page keeps its value if the same value is put again
same_page : (f : Place → Page) (at : Place) (value : Page) → f at ≡ value → (q : Place) → set_page f at value q ≡ f q
same_page f at value is q = elim (cases_eq at.block q.block) [
  | inl block ↦ elim (cases_eq at.page q.page) [
    | inl number ↦
        let place : at ≡ q = λ i. record { block = block i; page = number i } in
        let here : f q ≡ value = ap f (sym place) ∙ is in
        grind (arith, nat_tests, here)
    | inr apart ↦ grind (arith, nat_tests)
  ]
  | inr apart ↦ grind (arith, nat_tests)
]

-- a program of a sealed page
pub plain_programmed : (old new : RawFlash) (at : Place) (raw : RawPage) (block : Block) (spare : Spare) → plain_page raw ≡ page.Whole block spare → new ≡ raw_programmed old at raw
    → plain_flash new ≡ after_program (plain_flash old) at block spare
plain_programmed old new at raw block spare whole is =
    let pages = set_plain old.page new.page at raw (page.Whole block spare) (ap (λ (f : RawFlash). f.page) is) whole in
    λ i. record { page = pages i; next = (is i).next }

pub plain_leaves : (torn : RawPage → Type 0) (old new : RawFlash) (at : Place) (raw : RawPage) (block : Block) (spare : Spare) → ((left : RawPage) → torn left → IsSealed left → ⊥)
    → plain_page raw ≡ page.Whole block spare → plain_page (old.page at) ≡ page.Blank → LeavesRaw torn old new at raw → LeavesPage (plain_flash old) (plain_flash new) at block spare
plain_leaves torn old new at raw block spare never whole blank (inl same) = inl (λ i p. plain_page (same i p))
plain_leaves torn old new at raw block spare never whole blank (inr (inl done)) = inr (inl (set_plain old.page new.page at raw (page.Whole block spare) done whole))
plain_leaves torn old new at raw block spare never whole blank (inr (inr bad)) = by_left (unsealed_is bad.left (never bad.left bad.is_torn))
  where
    by_left : (plain_page bad.left ≡ page.Blank) ⊎ (plain_page bad.left ≡ page.Torn) → LeavesPage (plain_flash old) (plain_flash new) at block spare
    by_left (inl none) = inl (set_plain old.page new.page at bad.left page.Blank bad.page none ∙ (λ i q. same_page (λ p. plain_page (old.page p)) at page.Blank blank q i))
    by_left (inr is) = inr (inr (set_plain old.page new.page at bad.left page.Torn bad.page is))

-- an erase
pub plain_erased : (old new : RawFlash) (block : ℕ) → RawErased old new block → plain_flash new ≡ after_erase (plain_flash old) block
plain_erased old new block done = λ i. record { page = λ at. pages at i; next = done.next i }
  where
    pages : (at : Place) → plain_page (new.page at) ≡ (cond (at.block == block) page.Blank (plain_page (old.page at)))
    pages at = elim (cases_eq at.block block) [
      | inl same ↦
          let test : at.block == block ≡ true = grind (arith, nat_tests) in
          erased_is_blank (new.page at) (done.inside at same) ∙ sym (ap (λ t. cond t page.Blank (plain_page (old.page at))) test)
      | inr apart ↦
          let test : at.block == block ≡ false = grind (arith, nat_tests) in
          ap plain_page (done.outside at apart) ∙ sym (ap (λ t. cond t page.Blank (plain_page (old.page at))) test)
    ]

pub plain_erase_leaves : (torn : RawPage → Type 0) (old new : RawFlash) (block : ℕ) → ((left : RawPage) → torn left → IsSealed left → ⊥) → LeavesErased torn old new block → PagesErased (plain_flash old) (plain_flash new) block
plain_erase_leaves torn old new block never leaves at = by_page (leaves at)
  where
    by_page : (new.page at ≡ old.page at) ⊎ ((at.block ≡ block) × (IsErased (new.page at) ⊎ torn (new.page at)))
        → (plain_page (new.page at) ≡ plain_page (old.page at)) ⊎ ((at.block ≡ block) × ((plain_page (new.page at) ≡ page.Blank) ⊎ (plain_page (new.page at) ≡ page.Torn)))
    by_page (inl same) = inl (ap plain_page same)
    by_page (inr (here, inl erased)) = inr (here, inl (erased_is_blank (new.page at) erased))
    by_page (inr (here, inr bad)) = inr (here, unsealed_is (new.page at) (never (new.page at) bad))

-- the page that was read
pub found_blank : (p : Page) (block : Block) (spare : Spare) → Found p read.Blank block spare → page.Blank ≡ p
found_blank page.Blank block spare found = refl
found_blank (page.Whole b s) block spare found = let other : read.Blank ≡ read.Whole = found.0 in cc
found_blank page.Torn block spare found = cc

pub found_whole : (p : Page) (block : Block) (spare : Spare) → Found p read.Whole block spare → page.Whole block spare ≡ p
found_whole page.Blank block spare found = cc
found_whole (page.Whole b s) block spare found = λ i. page.Whole (found.1 i) (found.2 i)
found_whole page.Torn block spare found = cc

pub found_torn : (p : Page) (block : Block) (spare : Spare) → Found p read.Torn block spare → page.Torn ≡ p
found_torn page.Blank block spare found = cc
found_torn (page.Whole b s) block spare found = let other : read.Torn ≡ read.Whole = found.0 in cc
found_torn page.Torn block spare found = refl
