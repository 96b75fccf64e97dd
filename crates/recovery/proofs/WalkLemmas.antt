-- Pages of records in order, one after the other.
use Rattle.std.proofs.Common.{◌≡◌, ℕ, suc, ◌+◌, ◌-◌, ◌<◌, ◌≤◌, ◌⊎◌, inl, inr, Bool, true, false, ◌∷◌, ◌++◌, length, Option, Some, None, ok_or, Result, Ok, Err, refl, sym, ◌∙◌, ap, arith}
use Rattle.std.specs.Option.{option_map, option_map_or, option_and_then}
use Rattle.std.proofs.lemmas.List.{length-append}
use Rattle.std.proofs.lemmas.Bool.{cases_cond}
use Rattle.ft_base.specs.declared.geometry.Geometry.{Geometry}
use Rattle.ft_base.specs.declared.block.Place.{Place}
use Rattle.ft_base.specs.declared.block.Page.{Page}
use Rattle.ft_base.specs.Layout.{blocks, checkpoint_at, checkpoint_pages}
use Rattle.cache_model.specs.declared.format.PageKind.{PageKind}
use Rattle.cache_model.specs.Records.{Entries}
use Rattle.cache_model.specs.Reading.{read_records}
use Rattle.cache_model.specs.Loading.{Refusal, Stamp, ◌>>=◌, pages_from, said, header_at, after_all, after_pages, Complete, chosen, checkpoint_in, checkpoint_region, checkpoint_of}
use Rattle.cache_model.specs.Loading.Refusal.{Damaged as damaged}
use Rattle.cache_model.proofs.LoadLemmas.{newest_is, checkpoint_below}
use Rattle.cache_model.proofs.CheckpointLemmas.{checkpoint_is}
use Rattle.cache_model.proofs.LogLemmas.{length-pages}
use Rattle.op_log.specs.declared.error.OpenError.{OpenError}
use Rattle.op_log.specs.declared.error.OpenError.TheVariants.{NotFormatted, OtherGeometry, Damaged, FlashFault, DiskFault, PowerLost, OutOfMemory}
use Rattle.op_log.specs.Refusals.{IsRefusal}
use Rattle.op_log.specs.Walk.{page_step, Stepped}

-- the pages below i are applied, and the pages from there on are left
pub record Walked (g : Geometry) (kind : PageKind) (stamp : Stamp) (at : ℕ → Place) (page : Place → Page) (n : ℕ) (old : Entries) (i : ℕ) (now : Entries) : Type 0 where
  pub same : after_pages g kind stamp at 0 (pages_from page at 0 n) old ≡ after_pages g kind stamp at i (pages_from page at i (n - i)) now

map_then : {A B C : Type 0} (f : A → B) (k : B → C) (o : Option A) (d : C) → option_map_or (λ x. k (f x)) o d ≡ option_map_or k (option_map f o) d
map_then f k None d = refl
map_then f k (Some x) d = refl

module _ (g : Geometry) (kind : PageKind) (stamp : Stamp) (at : ℕ → Place) (page : Place → Page) (n : ℕ) (old : Entries) where
  module _ (i : ℕ) (now : Entries) (within : i < n) (walked : Walked g kind stamp at page n old i now) where
    -- the next page, and then the pages behind it
    next_page : after_pages g kind stamp at 0 (pages_from page at 0 n) old ≡ option_map_or (λ r. r >>= after_pages g kind stamp at (i + 1) (pages_from page at (i + 1) (n - (i + 1)))) (page_step g kind stamp i (at i) (page (at i)) now) (Ok now)
    next_page =
        let some : n - i ≡ suc (n - (i + 1)) = omega arith in
        walked.same ∙ ap (λ k. after_pages g kind stamp at i (pages_from page at i k) now) some
        ∙ map_then (λ h. ok_or (option_and_then (λ changes. after_all g changes now) (said (read_records g.p h) (page (at i)))) (damaged (at i))) (λ r. r >>= after_pages g kind stamp at (i + 1) (pages_from page at (i + 1) (n - (i + 1)))) (header_at kind stamp i (page (at i))) (Ok now)

    by_step : (step : Option (Result Entries Refusal)) → page_step g kind stamp i (at i) (page (at i)) now ≡ step → after_pages g kind stamp at 0 (pages_from page at 0 n) old ≡ option_map_or (λ r. r >>= after_pages g kind stamp at (i + 1) (pages_from page at (i + 1) (n - (i + 1)))) step (Ok now)
    by_step step is = next_page ∙ ap (λ o. option_map_or (λ r. r >>= after_pages g kind stamp at (i + 1) (pages_from page at (i + 1) (n - (i + 1)))) o (Ok now)) is

    pub walk_more : (new : Entries) → page_step g kind stamp i (at i) (page (at i)) now ≡ Some (Ok new) → Walked g kind stamp at page n old (i + 1) new
    walk_more new is = record { same = by_step (Some (Ok new)) is }

    pub walk_stops : page_step g kind stamp i (at i) (page (at i)) now ≡ None → after_pages g kind stamp at 0 (pages_from page at 0 n) old ≡ Ok now
    walk_stops is = by_step None is

    pub walk_refused : (d : Refusal) → page_step g kind stamp i (at i) (page (at i)) now ≡ Some (Err d) → after_pages g kind stamp at 0 (pages_from page at 0 n) old ≡ Err d
    walk_refused d is = by_step (Some (Err d)) is

    -- the same for the answer of a call that read the page at this place
    module _ (place : Place) (page' : Place → Page) (here : place ≡ at i) (pages : page' ≡ page) where
      as_here : page_step g kind stamp i place (page' place) now ≡ page_step g kind stamp i (at i) (page (at i)) now
      as_here = ap (λ p. page_step g kind stamp i place (p place) now) pages ∙ ap (λ q. page_step g kind stamp i q (page q) now) here

      pub stepped_on : (b : Bool) (new : Entries) → b ≡ true → Stepped (Ok b) now new (page_step g kind stamp i place (page' place) now) → Walked g kind stamp at page n old (i + 1) new
      stepped_on true new t is = walk_more new (sym as_here ∙ is)
      stepped_on false new t is = absurd (cc)

      pub stepped_off : (b : Bool) (new : Entries) → b ≡ false → Stepped (Ok b) now new (page_step g kind stamp i place (page' place) now) → after_pages g kind stamp at 0 (pages_from page at 0 n) old ≡ Ok new
      stepped_off true new f is = absurd (cc)
      stepped_off false new f is = walk_stops (sym as_here ∙ is.0) ∙ ap Ok (sym is.1)

      pub stepped_refused : (e : OpenError) (new : Entries) → Stepped (Err e) now new (page_step g kind stamp i place (page' place) now) → IsRefusal g e (after_pages g kind stamp at 0 (pages_from page at 0 n) old)
      stepped_refused NotFormatted new is = absurd is
      stepped_refused (OtherGeometry found wanted) new is = absurd is
      stepped_refused (Damaged block number) new is = walk_refused (damaged (record { block = block; page = number })) (sym as_here ∙ is)
      stepped_refused FlashFault new is = is
      stepped_refused DiskFault new is = is
      stepped_refused PowerLost new is = is
      stepped_refused OutOfMemory new is = is

-- ---- the places of the pages

-- the chosen checkpoint is one of the two
one_of_two : (x y : Option Complete) (c : ℕ × Complete) → chosen x y ≡ Some c → (x ≡ Some c.1) ⊎ (y ≡ Some c.1)
one_of_two None None c is = absurd (cc)
one_of_two (Some x) None c is = let e : c ≡ (0, x) = cc in inl (ap (λ (p : ℕ × Complete). Some p.1) (sym e))
one_of_two None (Some y) c is = let e : c ≡ (1, y) = cc in inr (ap (λ (p : ℕ × Complete). Some p.1) (sym e))
one_of_two (Some x) (Some y) c is = elim (cases_cond _ (Some (1, y)) (Some (0, x)) (Some c) (sym is)) [
  | inl one ↦ let e : c ≡ (1, y) = cc in inr (ap (λ (p : ℕ × Complete). Some p.1) (sym e))
  | inr two ↦ let e : c ≡ (0, x) = cc in inl (ap (λ (p : ℕ × Complete). Some p.1) (sym e))
]

few_maps : (g : Geometry) (page : Place → Page) (region : ℕ) (c : Complete) → checkpoint_in (checkpoint_region g page region) ≡ Some c → c.pages < checkpoint_pages g
few_maps g page region c is =
    let whole = checkpoint_is c (checkpoint_region g page region) is in
    let long : length (whole.maps ++ whole.seal ∷ whole.rest) ≡ checkpoint_pages g = ap length (sym whole.parts) ∙ length-pages page (checkpoint_at g region) 0 (checkpoint_pages g) in
    let number = whole.number in
    omega (arith, long, length-append whole.maps (whole.seal ∷ whole.rest))

-- the map pages of the checkpoint that counts lie within its region
pub maps_within : (g : Geometry) (page : Place → Page) (c : ℕ × Complete) → checkpoint_of g page ≡ Ok c → c.1.pages < checkpoint_pages g
maps_within g page c is = elim (one_of_two (checkpoint_in (checkpoint_region g page 0)) (checkpoint_in (checkpoint_region g page 1)) c (newest_is g page c is)) [
  | inl x ↦ few_maps g page 0 c.1 x
  | inr y ↦ few_maps g page 1 c.1 y
]

pub map_block : (g : Geometry) (region i n : ℕ) (place : Place) → region < 2 → i < n → n ≤ checkpoint_pages g → place ≡ checkpoint_at g region i → place.block < blocks g
map_block g region i n place low within few here =
    let below = checkpoint_below g region i low (omega arith) in
    let block = ap (λ (q : Place). q.block) here in
    omega (arith, block, below)
