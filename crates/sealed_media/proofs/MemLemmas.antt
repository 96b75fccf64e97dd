-- How the bytes that raw flash in memory shows change when the media beneath are written.
use Rattle.std.proofs.Common.{◌≡◌, ◌<◌, ◌==◌, ◌&&◌, ◌⊎◌, ℕ, Bool, true, false, nat_lt, List, [], inl, inr, refl, sym, ◌∙◌, ap, subst, arith, cond, eq-eqb}
use Rattle.std.specs.Prelude.{Result}
use Rattle.std.proofs.lemmas.Bool.Decides.{nat_tests}
use Rattle.ft_base.specs.declared.block.Block.{Block}
use Rattle.ft_base.specs.declared.block.Spare.{Spare}
use Rattle.ft_base.specs.declared.block.Place.{Place}
use Rattle.ft_base.specs.declared.block.Page.{Page}
use Rattle.ft_base.specs.declared.block.Page.TheVariants as page
use Rattle.ft_base.specs.Contents.{Contents, Flash, same_place, set_page}
use Rattle.ft_media.specs.declared.media.MediaError.{MediaError}
use Rattle.ft_media.specs.State.{State}
use Rattle.ft_media.specs.Media.{LeavesPage, PagesErased, DeviceWrite, FlashStays, after_program, after_erase}
use Rattle.sealed_media.specs.declared.page.RawPage.{RawPage}
use Rattle.sealed_media.specs.Seal.{IsSealed, IsErased, plain_page, joined_page, erased_page}
use Rattle.sealed_media.specs.RawState.{RawFlash, plain_contents, plain_state}
use Rattle.sealed_media.specs.Raw.{set_raw, raw_programmed, LeavesRaw, RawErased, LeavesErased}
use Rattle.sealed_media.specs.Tearing.{torn_page}
use Rattle.sealed_media.specs.Shown.{shown, shown_pages}
use Rattle.ft_media.specs.Fitted.{new_contents, fitted}
use Rattle.mem_rig.specs.Rig.{state_of}
use Rattle.sealed_media.specs.declared.mem.MemRawRig.{MemRawRig}
use Rattle.sealed_media.specs.Seals.{seal_pages}
use Rattle.sealed_media.specs.Mem.{raw_of, blank_shown}
use Rattle.sealed_media.proofs.TearingLemmas.{erased_is, torn_unsealed}

-- the bytes that a torn page may have
abbrev pub Unsealed : RawPage → Type 0
Unsealed raw = IsSealed raw → ⊥

-- two places are one
one_place : (at q : Place) → same_place at q ≡ true → at ≡ q
one_place at q same = by_tests (at.block == q.block) (at.page == q.page) refl refl same
  where
    by_tests : (s t : Bool) → at.block == q.block ≡ s → at.page == q.page ≡ t → (s && t) ≡ true → at ≡ q
    by_tests true true block number both =
        let b : at.block ≡ q.block = grind (arith, nat_tests, block) in
        let p : at.page ≡ q.page = grind (arith, nat_tests, number) in
        λ i. record { block = b i; page = p i }
    by_tests true false block number both = cc
    by_tests false t block number both = cc

module _ (number pages : ℕ) where
  -- the bytes that are shown for a page of the flash
  pub shown_there : (last : Place → List ℕ) (found : Place → Page) (at : Place) → at.page < pages → shown_pages number pages last found at ≡ shown number (last at) at (found at)
  unfolding shown_pages
  shown_there last found at within =
      let test : nat_lt at.page pages ≡ true = grind (arith, nat_tests) in
      ap (λ t. cond t (shown number (last at) at (found at)) erased_page) test

  pub shown_blank : (last : Place → List ℕ) (found : Place → Page) (at : Place) → found at ≡ page.Blank → shown_pages number pages last found at ≡ erased_page
  unfolding shown_pages
  shown_blank last found at blank = by_test (nat_lt at.page pages)
    where
      by_test : (t : Bool) → cond t (shown number (last at) at (found at)) erased_page ≡ erased_page
      by_test true = ap (shown number (last at) at) blank
      by_test false = refl

  shown_torn : (last : Place → List ℕ) (found : Place → Page) (at : Place) → found at ≡ page.Torn → IsErased (shown_pages number pages last found at) ⊎ Unsealed (shown_pages number pages last found at)
  unfolding shown_pages
  shown_torn last found at torn = by_test (nat_lt at.page pages)
    where
      by_test : (t : Bool) → IsErased (cond t (shown number (last at) at (found at)) erased_page) ⊎ Unsealed (cond t (shown number (last at) at (found at)) erased_page)
      by_test true = inr (subst (λ p. Unsealed (shown number (last at) at p)) (sym torn) (torn_unsealed number at))
      by_test false = inl erased_is

  shown_same : (last : Place → List ℕ) (f g : Place → Page) (at : Place) → g at ≡ f at → shown_pages number pages last g at ≡ shown_pages number pages last f at
  unfolding shown_pages
  shown_same last f g at same = ap (λ p. cond (nat_lt at.page pages) (shown number (last at) at p) erased_page) same

  -- one page is put, with its last bytes
  module _ (last after : Place → List ℕ) (l : List ℕ) (f g : Place → Page) (at : Place) (value : Page) (raw : RawPage) (within : at.page < pages)
      (lasts : (q : Place) → q.page < pages → after q ≡ cond (same_place at q) l (last q)) (puts : (q : Place) → g q ≡ set_page f at value q) (is : shown number l at value ≡ raw) where
    pub shown_put : (q : Place) → shown_pages number pages after g q ≡ set_raw (shown_pages number pages last f) at raw q
    unfolding shown_pages
    shown_put q = by_tests (nat_lt q.page pages) (same_place at q) refl refl
      where
        by_tests : (t s : Bool) → nat_lt q.page pages ≡ t → same_place at q ≡ s → cond t (shown number (after q) q (g q)) erased_page ≡ cond s raw (cond t (shown number (last q) q (f q)) erased_page)
        by_tests true true there same =
            let here : at ≡ q = one_place at q same in
            let bytes : after q ≡ l = lasts q (grind (arith, nat_tests, there)) ∙ ap (λ s. cond s l (last q)) same in
            let found : g q ≡ value = puts q ∙ ap (λ s. cond s value (f q)) same in
            ap (λ a. shown number a q (g q)) bytes ∙ ap (shown number l q) found ∙ ap (λ p. shown number l p value) (sym here) ∙ is
        by_tests true false there apart =
            let bytes : after q ≡ last q = lasts q (grind (arith, nat_tests, there)) ∙ ap (λ s. cond s l (last q)) apart in
            let found : g q ≡ f q = puts q ∙ ap (λ s. cond s value (f q)) apart in
            ap (λ a. shown number a q (g q)) bytes ∙ ap (shown number (last q) q) found
        by_tests false true past same =
            let number_is : at.page ≡ q.page = ap (λ (p : Place). p.page) (one_place at q same) in
            absurd (grind (arith, nat_tests, past, number_is, within))
        by_tests false false past apart = refl

-- a page keeps its bytes if the same bytes are put again
same_raw : (f : Place → RawPage) (at : Place) (raw : RawPage) → f at ≡ raw → (q : Place) → set_raw f at raw q ≡ f q
same_raw f at raw is q = by_test (same_place at q) refl
  where
    by_test : (t : Bool) → same_place at q ≡ t → cond t raw (f q) ≡ f q
    by_test true same = sym is ∙ ap f (one_place at q same)
    by_test false apart = refl

same_page : (f : Place → Page) (at : Place) (value : Page) → f at ≡ value → (q : Place) → f q ≡ set_page f at value q
same_page f at value is q = by_test (same_place at q) refl
  where
    by_test : (t : Bool) → same_place at q ≡ t → f q ≡ cond t value (f q)
    by_test true same = ap f (sym (one_place at q same)) ∙ is
    by_test false apart = refl

-- a program of raw bytes, whose parts are programmed beneath
module _ (number pages later : ℕ) (last after : Place → List ℕ) (l : List ℕ) (a b : State) (at : Place) (block : Block) (spare : Spare) (raw : RawPage) (within : at.page < pages) (as_many : later ≡ pages)
    (lasts : (q : Place) → q.page < pages → after q ≡ cond (same_place at q) l (last q)) (parts : joined_page block spare l ≡ raw) where
  abbrev pub old : RawFlash
  old = (raw_of number pages last a).contents.flash

  abbrev pub new : RawFlash
  new = (raw_of number later after b).contents.flash

  put : (value : Page) (bytes : RawPage) → ((q : Place) → b.contents.flash.page q ≡ set_page a.contents.flash.page at value q) → shown number l at value ≡ bytes
      → new.page ≡ set_raw old.page at bytes
  put value bytes puts is = ap (λ n. shown_pages number n after b.contents.flash.page) as_many
      ∙ (λ i q. shown_put number pages last after l a.contents.flash.page b.contents.flash.page at value bytes within lasts puts is q i)

  pub mem_programmed : b.contents.flash ≡ after_program a.contents.flash at block spare → new ≡ raw_programmed old at raw
  mem_programmed is =
      let page = put (page.Whole block spare) raw (λ q. ap (λ (f : Flash). f.page q) is) parts in
      λ i. record { page = page i; next = (is i).next }

  pub mem_page_kept : a.contents.flash.page at ≡ page.Blank → b.contents.flash.page ≡ a.contents.flash.page → new.page ≡ old.page
  mem_page_kept blank same =
      put page.Blank erased_page (λ q. ap (λ (f : Place → Page). f q) same ∙ same_page a.contents.flash.page at page.Blank blank q) refl
      ∙ (λ i q. same_raw old.page at erased_page (shown_blank number pages last a.contents.flash.page at blank) q i)

  pub mem_leaves : a.contents.flash.page at ≡ page.Blank → LeavesPage a.contents.flash b.contents.flash at block spare → LeavesRaw Unsealed old new at raw
  mem_leaves blank (inl same) = inl (mem_page_kept blank same)
  mem_leaves blank (inr (inl done)) = inr (inl (put (page.Whole block spare) raw (λ q. ap (λ (f : Place → Page). f q) done) parts))
  mem_leaves blank (inr (inr torn)) = inr (inr (record {
    left = torn_page number at;
    is_torn = torn_unsealed number at;
    page = put page.Torn (torn_page number at) (λ q. ap (λ (f : Place → Page). f q) torn) refl;
  }))

-- an erase
module _ (number pages : ℕ) (last : Place → List ℕ) (a b : State) (block : ℕ) where
  pub mem_erased : b.contents.flash ≡ after_erase a.contents.flash block → RawErased (raw_of number pages last a).contents.flash (raw_of number pages last b).contents.flash block
  mem_erased is = record {
    inside = λ at here.
        let blank : b.contents.flash.page at ≡ page.Blank = ap (λ (f : Flash). f.page at) is ∙ ap (λ t. cond t page.Blank (a.contents.flash.page at)) (eq-eqb at.block block here) in
        subst IsErased (sym (shown_blank number pages last b.contents.flash.page at blank)) erased_is;
    outside = λ at apart.
        let test : at.block == block ≡ false = grind (arith, nat_tests) in
        shown_same number pages last a.contents.flash.page b.contents.flash.page at (ap (λ (f : Flash). f.page at) is ∙ ap (λ t. cond t page.Blank (a.contents.flash.page at)) test);
    next = ap (λ (f : Flash). f.next) is;
  }

  pub mem_erase_leaves : PagesErased a.contents.flash b.contents.flash block → LeavesErased Unsealed (raw_of number pages last a).contents.flash (raw_of number pages last b).contents.flash block
  mem_erase_leaves erased at = by_page (erased at)
    where
      f : Place → Page
      f = a.contents.flash.page

      g : Place → Page
      g = b.contents.flash.page

      by_page : (g at ≡ f at) ⊎ ((at.block ≡ block) × ((g at ≡ page.Blank) ⊎ (g at ≡ page.Torn)))
          → (shown_pages number pages last g at ≡ shown_pages number pages last f at) ⊎ ((at.block ≡ block) × (IsErased (shown_pages number pages last g at) ⊎ Unsealed (shown_pages number pages last g at)))
      by_page (inl same) = inl (shown_same number pages last f g at same)
      by_page (inr (here, inl blank)) = inr (here, inl (subst IsErased (sym (shown_blank number pages last g at blank)) erased_is))
      by_page (inr (here, inr torn)) = inr (here, shown_torn number pages last g at torn)

-- a device write beneath is one of the raw media
module _ {T : Type 0} (number pages later : ℕ) (last after : Place → List ℕ) (a b : State) (result : Result T MediaError) where
  pub mem_device : DeviceWrite a b result → (a.power.on ≡ false → shown_pages number later after b.contents.flash.page ≡ shown_pages number pages last a.contents.flash.page)
      → DeviceWrite (plain_state (raw_of number pages last a)) (plain_state (raw_of number later after b)) result
  mem_device d pages_stay = record {
    shape = d.shape;
    spends = d.spends;
    unarmed = d.unarmed;
    off = d.off;
    ready = d.ready;
    unchanged = λ dark.
        let same = d.unchanged dark in
        let kept = pages_stay dark in
        λ i. record {
          contents = record {
            shape = (same i).contents.shape;
            flash = record { page = λ at. plain_page (kept i at); next = (same i).contents.flash.next };
            disk = (same i).contents.disk;
          };
          counts = (same i).counts;
          faults = (same i).faults;
          power = (same i).power;
          lent = [];
        };
  }

-- media that `fit` made show erased pages
pub mem_new : (number pages blocks each size : ℕ) (last : Place → List ℕ) (s : State) → s.contents ≡ new_contents blocks each size → plain_contents (raw_of number pages last s).contents ≡ new_contents blocks each size
mem_new number pages blocks each size last s is = λ i. record {
  shape = (is i).shape;
  flash = record { page = λ at. blank_shown number pages last s.contents.flash.page at (ap (λ (c : Contents). c.flash.page at) is) i; next = (is i).flash.next };
  disk = (is i).disk;
}

pub mem_fitted : (number pages later blocks each size : ℕ) (last after : Place → List ℕ) (a b : State) → b ≡ fitted a blocks each size
    → plain_state (raw_of number later after b) ≡ fitted (plain_state (raw_of number pages last a)) blocks each size
mem_fitted number pages later blocks each size last after a b is =
    let contents = mem_new number later blocks each size after b (ap (λ (s : State). s.contents) is) in
    λ i. record { contents = contents i; counts = (is i).counts; faults = (is i).faults; power = (is i).power; lent = [] }

pub mem_all_erased : (number later blocks each size : ℕ) (after : Place → List ℕ) (a b : State) → b ≡ fitted a blocks each size → (at : Place) → IsErased ((raw_of number later after b).contents.flash.page at)
mem_all_erased number later blocks each size after a b is at =
    subst IsErased (sym (shown_blank number later after b.contents.flash.page at (ap (λ (s : State). s.contents.flash.page at) is))) erased_is

-- a call of the disk
pub mem_flash_stays : (number pages : ℕ) (last : Place → List ℕ) (a b : State) (was_lost : Bool) → FlashStays a.contents b.contents was_lost → FlashStays (plain_contents (raw_of number pages last a).contents) (plain_contents (raw_of number pages last b).contents) was_lost
mem_flash_stays number pages last a b was_lost stays = record {
  stays = λ kept.
      let same = stays.stays kept in
      λ i. record { page = λ at. plain_page (shown_pages number pages last (same i).page at); next = (same i).next };
  page = λ i at. plain_page (shown_pages number pages last (stays.page i) at);
}

-- a page of the flash
pub page_there : (m : MemRawRig) (at : Place) → at.page < (state_of m.rig).contents.shape.pages → at.page < seal_pages m.seals
page_there m at inside =
    let many = m.pages in
    omega (arith, many, inside)
