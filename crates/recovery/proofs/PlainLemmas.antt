-- The plain program, step by step.
use Rattle.std.proofs.Common.{◌≡◌, ℕ, suc, ◌+◌, ◌-◌, ◌*◌, ◌%◌, ◌==◌, ◌<◌, ◌≤◌, Bool, true, false, cond, List, ◌∷◌, Option, Some, None, ok_or, Result, Ok, Err, sym, ◌∙◌, ap, ap₂, subst, arith}
use Rattle.std.specs.Option.{MatchOption, option_map, option_or, option_and_then}
use Rattle.std.specs.FinMap.{entries}
use Rattle.ft_base.specs.declared.geometry.Geometry.{Geometry}
use Rattle.ft_base.specs.declared.block.Place.{Place}
use Rattle.ft_base.specs.declared.block.Page.{Page}
use Rattle.ft_base.specs.Layout.{checkpoint_at, checkpoint_pages}
use Rattle.cache_model.specs.declared.format.PageKind.{PageKind}
use Rattle.cache_model.specs.declared.format.PageKind.TheVariants.{Map}
use Rattle.cache_model.specs.declared.format.Header.{Header}
use Rattle.cache_model.specs.Records.{Entries, no_entries}
use Rattle.cache_model.specs.Reading.{read_records}
use Rattle.cache_model.specs.Loading.{Refusal, ◌>>=◌, Complete, Sealed, Stamp, are_totals, counted, complete, said, header_at, seal_at, sealed_from, stamp_in, checkpoint_in, checkpoint_region, pages_from, after_all, chosen, newest, is_wanted, wanted, checkpoint_of, replayed, all_whole, load}
use Rattle.cache_model.specs.Loading.Refusal.{NotFormatted, OtherGeometry, Damaged as damaged}
use Rattle.op_log.specs.Walk.{page_step}
use Rattle.checkpoint.proofs.FormatLemmas.{some_pages}
use Rattle.recovery.proofs.LoadLemmas.{maps_applied, log_applied, all_parts, counted_maps}

-- ---- a region

-- the pages below i are map pages with this many records, and the pages from there on are left
pub record MapsSoFar (stamp : Stamp) (at : ℕ → Place) (page : Place → Page) (n i count : ℕ) : Type 0 where
  pub same : sealed_from stamp 0 0 (pages_from page at 0 n) ≡ sealed_from stamp i count (pages_from page at i (n - i))
  pub few : count ≤ 127 * i

module _ (stamp : Stamp) (at : ℕ → Place) (page : Place → Page) (n : ℕ) where
  module _ (i count : ℕ) (within : i < n) (so : MapsSoFar stamp at page n i count) where
    next_page : (seal : Option Sealed) (header : Option Header) → seal ≡ seal_at stamp i count (page (at i)) → header ≡ header_at Map stamp i (page (at i))
        → sealed_from stamp 0 0 (pages_from page at 0 n) ≡ option_or (option_map (complete stamp i) seal)
        (option_and_then (λ h. sealed_from stamp (i + 1) (count + h.count) (pages_from page at (i + 1) (n - (i + 1)))) header)
    next_page seal header is_seal is_header =
        let some : n - i ≡ suc (n - (i + 1)) = omega arith in
        so.same ∙ ap (λ k. sealed_from stamp i count (pages_from page at i k)) some
        ∙ ap₂ (λ s h. option_or (option_map (complete stamp i) s) (option_and_then (λ x. sealed_from stamp (i + 1) (count + x.count) (pages_from page at (i + 1) (n - (i + 1)))) h)) (sym is_seal) (sym is_header)

    -- with the page and the place that the program has
    module _ (place : Place) (p : Page) (here : place ≡ at i) (read : p ≡ page place) where
      same_page : p ≡ page (at i)
      same_page = read ∙ ap page here

      pub maps_more : (h : Header) → None ≡ seal_at stamp i count p → Some h ≡ header_at Map stamp i p → h.count ≤ 127 → MapsSoFar stamp at page n (i + 1) (count + h.count)
      maps_more h unsealed is short = record {
        same = next_page None (Some h) (unsealed ∙ ap (seal_at stamp i count) same_page) (is ∙ ap (header_at Map stamp i) same_page);
        few = let so_few = so.few in omega arith;
      }

-- the first page names the stamp
first_page : (g : Geometry) (page : Place → Page) (region : ℕ) → (rest : List Page) × (checkpoint_region g page region ≡ page (checkpoint_at g region 0) ∷ rest)
first_page g page region =
    let some = some_pages g in
    let long : checkpoint_pages g ≡ suc (checkpoint_pages g - 1) = omega arith in
    (pages_from page (checkpoint_at g region) 1 (checkpoint_pages g - 1), ap (pages_from page (checkpoint_at g region) 0) long)

pub by_stamp : (g : Geometry) (page : Place → Page) (region : ℕ) → checkpoint_in (checkpoint_region g page region) ≡ option_and_then (λ stamp. sealed_from stamp 0 0 (checkpoint_region g page region)) (stamp_in (page (checkpoint_at g region 0)))
unfolding checkpoint_in
by_stamp g page region =
    let first = first_page g page region in
    ap checkpoint_in first.1 ∙ ap (λ ps. option_and_then (λ stamp. sealed_from stamp 0 0 ps) (stamp_in (page (checkpoint_at g region 0)))) (sym first.1)

pub stamp_none : (g : Geometry) (page : Place → Page) (region : ℕ) (place : Place) (p : Page) → place ≡ checkpoint_at g region 0 → p ≡ page place → None ≡ stamp_in p → None ≡ checkpoint_in (checkpoint_region g page region)
stamp_none g page region place p here read none =
    sym (by_stamp g page region ∙ ap (option_and_then (λ stamp. sealed_from stamp 0 0 (checkpoint_region g page region))) (sym (none ∙ ap stamp_in (read ∙ ap page here))))

pub stamp_some : (g : Geometry) (page : Place → Page) (region : ℕ) (place : Place) (p : Page) (stamp : Stamp) (left : Option Complete) → place ≡ checkpoint_at g region 0 → p ≡ page place → Some stamp ≡ stamp_in p
    → left ≡ sealed_from stamp 0 0 (checkpoint_region g page region) → left ≡ checkpoint_in (checkpoint_region g page region)
stamp_some g page region place p stamp left here read some is =
    is ∙ sym (by_stamp g page region ∙ ap (option_and_then (λ e. sealed_from e 0 0 (checkpoint_region g page region))) (sym (some ∙ ap stamp_in (read ∙ ap page here))))

-- ---- a page

pub step_there : (g : Geometry) (kind : PageKind) (stamp : Stamp) (i : ℕ) (at : Place) (p : Page) (m : Entries) (h : Header) (left : Option Entries) → Some h ≡ header_at kind stamp i p
    → option_and_then (λ changes. after_all g changes m) (said (read_records g.p h) p) ≡ left → page_step g kind stamp i at p m ≡ Some (ok_or left (damaged at))
step_there g kind stamp i at p m h left head all =
    ap (option_map (λ h. ok_or (option_and_then (λ changes. after_all g changes m) (said (read_records g.p h) p)) (damaged at))) (sym head) ∙ ap (λ o. Some (ok_or o (damaged at))) all

-- the answer of the program for a page is the page's step
pub step_answers : (g : Geometry) (kind : PageKind) (stamp : Stamp) (i : ℕ) (place at : Place) (page : Place → Page) (p : Page) (own : Geometry) (m new : Entries) (h : Header) (b answer : Bool) → at ≡ place
    → p ≡ page at → own ≡ g → Some h ≡ header_at kind stamp i p → option_and_then (λ changes. after_all own changes m) (said (read_records g.p h) p) ≡ cond b (Some new) None → b ≡ answer
    → page_step g kind stamp i place (page place) m ≡ Some (ok_or (cond answer (Some new) None) (damaged place))
step_answers g kind stamp i place at page p own m new h b answer here read same head all is =
    let p_is : p ≡ page place = read ∙ ap page here in
    let all' = subst (λ (o : Geometry). option_and_then (λ changes. after_all o changes m) (said (read_records g.p h) p) ≡ cond b (Some new) None) same all in
    ap (λ q. page_step g kind stamp i place q m) (sym p_is) ∙ step_there g kind stamp i place p m h (cond answer (Some new) None) head (all' ∙ ap (λ x. cond x (Some new) None) is)

-- ---- a loading that may name a damaged page

pub is_damaged : (d : Option Place) (r : Result Entries Refusal) (n : Entries) (at : Place) → d ≡ Some at → MatchOption d (r ≡ Ok n) (λ q. r ≡ Err (damaged q)) → r ≡ Err (damaged at)
is_damaged d r n at is answers = subst (λ (o : Option Place). MatchOption o (r ≡ Ok n) (λ q. r ≡ Err (damaged q))) is answers

pub is_applied : (d : Option Place) (r : Result Entries Refusal) (n : Entries) → d ≡ None → MatchOption d (r ≡ Ok n) (λ q. r ≡ Err (damaged q)) → r ≡ Ok n
is_applied d r n is answers = subst (λ (o : Option Place). MatchOption o (r ≡ Ok n) (λ q. r ≡ Err (damaged q))) is answers

module _ (g : Geometry) (page : Place → Page) (c : ℕ × Complete) (within : c.1.pages ≤ checkpoint_pages g) (none : Entries) (empty : none ≡ no_entries) where
  pub maps_damaged : (at : Place) → maps_applied g page c none ≡ Err (damaged at) → replayed g page c ≡ Err (damaged at)
  maps_damaged at is = all_parts g page c within none empty ∙ ap (λ r. r >>= counted g c >>= log_applied g page c) is

  pub log_answers : (m n : Entries) (d : Option Place) → maps_applied g page c none ≡ Ok m → are_totals c.1.seal.totals m ≡ true → MatchOption d (log_applied g page c m ≡ Ok n) (λ at. log_applied g page c m ≡ Err (damaged at))
      → MatchOption d (replayed g page c ≡ Ok n) (λ at. replayed g page c ≡ Err (damaged at))
  log_answers m n None maps same is = all_parts g page c within none empty ∙ ap (λ r. r >>= log_applied g page c) (counted_maps g page c within none empty m maps same) ∙ is
  log_answers m n (Some at) maps same is = all_parts g page c within none empty ∙ ap (λ r. r >>= log_applied g page c) (counted_maps g page c within none empty m maps same) ∙ is

-- the number of the region that counts
abbrev region_of : Option (ℕ × Complete) → ℕ
region_of None = 0
region_of (Some c) = c.0

either_below : (b : Bool) (c d : Complete) → region_of (cond b (Some (1, d)) (Some (0, c))) < 2
either_below true c d = omega arith
either_below false c d = omega arith

chosen_below : (a b : Option Complete) → region_of (chosen a b) < 2
chosen_below None None = omega arith
chosen_below (Some c) None = omega arith
chosen_below None (Some d) = omega arith
chosen_below (Some c) (Some d) = either_below (d.stamp.era == (c.stamp.era + 1) % 3) c d

pub region_below : (g : Geometry) (page : Place → Page) (c : ℕ × Complete) → Some c ≡ newest g page → c.0 < 2
region_below g page c is = omega (arith, ap region_of is, chosen_below (checkpoint_in (checkpoint_region g page 0)) (checkpoint_in (checkpoint_region g page 1)))

-- no region counts, or the wanted numbers are others
pub never_sealed : (g : Geometry) (page : Place → Page) → None ≡ newest g page → load g page ≡ Err NotFormatted
unfolding load
never_sealed g page none = ap (λ o. ok_or o NotFormatted >>= wanted g >>= replayed g page >>= λ m. all_whole page (entries m) m) (sym none)

pub found_is : (g : Geometry) (page : Place → Page) (c : ℕ × Complete) → Some c ≡ newest g page → is_wanted g c.1.seal.seal ≡ true → checkpoint_of g page ≡ Ok c
found_is g page c is same = ap (λ o. ok_or o NotFormatted >>= wanted g) (sym is) ∙ ap (λ b. cond b (Ok c) (Err (OtherGeometry c.1.seal.seal))) same

pub other_numbers : (g : Geometry) (page : Place → Page) (c : ℕ × Complete) → Some c ≡ newest g page → is_wanted g c.1.seal.seal ≡ false → load g page ≡ Err (OtherGeometry c.1.seal.seal)
unfolding load
other_numbers g page c is other =
    ap (λ o. ok_or o NotFormatted >>= wanted g >>= replayed g page >>= λ m. all_whole page (entries m) m) (sym is)
    ∙ ap (λ b. cond b (Ok c) (Err (OtherGeometry c.1.seal.seal)) >>= replayed g page >>= λ m. all_whole page (entries m) m) other

module _ (g : Geometry) (page : Place → Page) (c : ℕ × Complete) (there : checkpoint_of g page ≡ Ok c) where
  pub replay_damaged : (at : Place) → replayed g page c ≡ Err (damaged at) → load g page ≡ Err (damaged at)
  unfolding load
  replay_damaged at is = ap (λ r. r >>= replayed g page >>= λ m. all_whole page (entries m) m) there ∙ ap (λ r. r >>= λ m. all_whole page (entries m) m) is

  pub place_damaged : (m : Entries) (at : Place) → replayed g page c ≡ Ok m → all_whole page (entries m) m ≡ Err (damaged at) → load g page ≡ Err (damaged at)
  unfolding load
  place_damaged m at replay is = ap (λ r. r >>= replayed g page >>= λ m. all_whole page (entries m) m) there ∙ ap (λ r. r >>= λ m. all_whole page (entries m) m) replay ∙ is
