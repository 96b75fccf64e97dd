-- With its seal the new checkpoint counts, and stands for the map.
use Rattle.std.proofs.Common.{◌≡◌, ◌⊎◌, ℕ, zero, suc, ◌+◌, ◌-◌, ◌*◌, ◌%◌, ◌<◌, ◌≤◌, ◌==◌, true, cond, min, Option, List, [], ◌∷◌, ◌++◌, length, drop, Some, None, ok_or, Ok, Err, refl, sym, ◌∙◌, ap, ap₂, subst, arith, inl, inr}
use Rattle.std.specs.List.{AllByRecursion}
use Rattle.std.specs.FinMap.{get, entries}
use Rattle.std.proofs.lemmas.Bool.{cases_Bool, cases_cond, and_from}
use Rattle.std.proofs.lemmas.List.{drop_all}
use Rattle.std.proofs.lemmas.Nat.{div-add-mod'}
use Rattle.std.proofs.lemmas.Option.{none-some, same_Some}
use Rattle.ft_base.specs.declared.geometry.Geometry.{Geometry}
use Rattle.ft_base.specs.declared.block.Place.{Place}
use Rattle.ft_base.specs.declared.block.Page.{Page}
use Rattle.ft_base.specs.declared.record.Record.{Record}
use Rattle.ft_base.specs.Contents.{Flash}
use Rattle.ft_base.specs.Layout.{first_pool, checkpoint_at, log_at, checkpoint_pages, page_records, rounded_up}
use Rattle.ft_base.proofs.LayoutLemmas.{q_some, up_fits}
use Rattle.cache_model.specs.declared.entry.Entry.{Entry}
use Rattle.cache_model.specs.declared.format.PageKind.TheVariants.{Map}
use Rattle.cache_model.specs.Records.{Entries, after, no_entries}
use Rattle.cache_model.specs.Entries.{IsMap, fits}
use Rattle.cache_model.specs.declared.format.Totals.{Totals}
use Rattle.cache_model.specs.Loading.{Complete, are_totals, complete, ◌>>=◌, pages_from, checkpoint_in, chosen, checkpoint_region, newest, checkpoint_of, replayed_entries, is_wanted, wanted, load, after_all, after_pages, is_whole, all_whole}
use Rattle.cache_model.specs.Loading.Refusal.{NotFormatted, OtherGeometry, Damaged}
use Rattle.cache_model.proofs.WholeCheckpoint.{AreMaps, IsCheckpoint}
use Rattle.cache_model.proofs.CountLemmas.{same_number}
use Rattle.cache_model.proofs.MapLemmas.{all_entries}
use Rattle.cache_model.proofs.LogLemmas.{after_pages-one}
use Rattle.cache_model.proofs.LoadLemmas.{newest_is, newest_below}
use Rattle.cache_model.proofs.RegionLemmas.{none_if_never_some}
use Rattle.cache_model.proofs.FitsLemmas.{load-map, after_all-map}
use Rattle.cache_model.proofs.CheckpointLemmas.{checkpoint_from, sealed_chosen, sealed_entries}
use Rattle.mapping.specs.Checkpoint.{IsCheckpointOf as IsListing}
use Rattle.mapping.proofs.RebuildLemmas.{rebuilt}
use Rattle.mapping.specs.Counts.{held_count, dirty_count}
use Rattle.op_log.specs.Stamps.{own_stamp}
use Rattle.op_log.specs.Log.{LogValue, restarted}
use Rattle.op_log.specs.Refusals.{seal_of}
use Rattle.checkpoint.specs.Current.{IsCurrent, AreWhole, IsCommitted, LoadsOneOf, LogGoesLast, log_checkpointed}
use Rattle.checkpoint.specs.Regions.{IsBare, IsMapPage, IsSealPage, IsSealed, IsWritten, IsUnsealed, part, map_pages, sealed_as, totals_of}
use Rattle.checkpoint.proofs.PlacesLemmas.{log_within, other_low, pool_no_checkpoint, pool_no_log}
use Rattle.checkpoint.proofs.ListsLemmas.{pages_split, take-pages, part_and_rest, length-part}
use Rattle.cache_model.proofs.LogLemmas.{length-pages}
use Rattle.checkpoint.proofs.CountingLemmas.{maps_fit}
use Rattle.checkpoint.proofs.UnsealedLemmas.{bare_incomplete, checkpoint_stays, pool_stays, unsealed_stays, unsealed_loads, unsealed_log}

-- ---- the map pages, read in order

after_all_split : (g : Geometry) (rs qs : List Record) (m n : Entries) → after_all g (rs ++ qs) m ≡ Some n → (m' : Entries) × (after_all g rs m ≡ Some m') × (after_all g qs m' ≡ Some n)
after_all_split g [] qs m n is = (m, refl, is)
after_all_split g (r ∷ rs) qs m n is = elim (cases_Bool (fits g r m)) [
  | inl t ↦
      let rest = after_all_split g rs qs (after g r m) n (sym (ap (λ b. cond b (after_all g (rs ++ qs) (after g r m)) None) t) ∙ is) in
      (rest.0, ap (λ b. cond b (after_all g rs (after g r m)) None) t ∙ rest.1, rest.2)
  | inr f ↦ absurd (none-some n (sym (ap (λ b. cond b (after_all g (rs ++ qs) (after g r m)) None) f) ∙ is))
]

module _ (g : Geometry) (era : ℕ) (rs : List Record) (page : Place → Page) (at : ℕ → Place) where
  maps_counted : (i n before : ℕ) → ((j : ℕ) → i ≤ j → j < i + n → IsMapPage g era j (part g rs j) (page (at j))) → before ≡ min (length rs) (page_records g * i) → length rs ≤ page_records g * (i + n) → AreMaps (own_stamp era) i before (length rs) (pages_from page at i n)
  maps_counted i zero before each is all = omega arith
  maps_counted i (suc n) before each is all =
      let here = each i (omega arith) (omega arith) in
      let count = here.count in
      let long = length-part g rs i in
      (here.header, here.head, maps_counted (i + 1) n (before + here.header.count) (λ j low high. each j (omega arith) (omega arith)) (omega arith) (omega arith))

  maps_applied : (i n : ℕ) (m m' : Entries) → ((j : ℕ) → i ≤ j → j < i + n → IsMapPage g era j (part g rs j) (page (at j))) → length rs ≤ page_records g * (i + n) → after_all g (drop (page_records g * i) rs) m ≡ Some m' → after_pages g Map (own_stamp era) at i (pages_from page at i n) m ≡ Ok m'
  maps_applied i zero m m' each all is =
      let none : drop (page_records g * i) rs ≡ [] = drop_all (page_records g * i) rs (omega arith) in
      let same : Some m ≡ Some m' = sym (ap (λ qs. after_all g qs m) none) ∙ is in
      ap Ok (same_Some m m' same)
  maps_applied i (suc n) m m' each all is =
      let here = each i (omega arith) (omega arith) in
      let split = after_all_split g (part g rs i) (drop (page_records g * (i + 1)) rs) m m' (ap (λ qs. after_all g qs m) (sym (part_and_rest g rs i)) ∙ is) in
      after_pages-one g Map (own_stamp era) at i (page (at i)) (pages_from page at (i + 1) n) m split.0 here.header (part g rs i) here.head here.records split.1
      ∙ maps_applied (i + 1) n split.0 m' (λ j low high. each j (omega arith) (omega arith)) (omega arith) split.2

-- ---- the checkpoint that counts

chosen_was : (x y : Option Complete) (r : ℕ) (c : Complete) → chosen x y ≡ Some (r, c) → ((r ≡ 0) × (x ≡ Some c)) ⊎ ((r ≡ 1) × (y ≡ Some c))
chosen_was None None r c is = absurd (cc)
chosen_was None (Some d) r c is = let p : ◌≡◌ {A = ℕ × Complete} (1, d) (r, c) = cc in inr (sym (ap (λ (q : ℕ × Complete). q.0) p), ap (λ (q : ℕ × Complete). Some q.1) p)
chosen_was (Some d) None r c is = let p : ◌≡◌ {A = ℕ × Complete} (0, d) (r, c) = cc in inl (sym (ap (λ (q : ℕ × Complete). q.0) p), ap (λ (q : ℕ × Complete). Some q.1) p)
chosen_was (Some d) (Some d') r c is = elim (cases_cond (d'.stamp.era == (d.stamp.era + 1) % 3) (Some (1, d')) (Some (0, d)) (Some (r, c)) (sym is)) [
  | inl one ↦ let p : ◌≡◌ {A = ℕ × Complete} (1, d') (r, c) = cc in inr (sym (ap (λ (q : ℕ × Complete). q.0) p), ap (λ (q : ℕ × Complete). Some q.1) p)
  | inr two ↦ let p : ◌≡◌ {A = ℕ × Complete} (0, d) (r, c) = cc in inl (sym (ap (λ (q : ℕ × Complete). q.0) p), ap (λ (q : ℕ × Complete). Some q.1) p)
]

newest_was : (g : Geometry) (page : Place → Page) (c : ℕ × Complete) → newest g page ≡ Some c → checkpoint_in (checkpoint_region g page c.0) ≡ Some c.1
newest_was g page c is = elim (chosen_was (checkpoint_in (checkpoint_region g page 0)) (checkpoint_in (checkpoint_region g page 1)) c.0 c.1 is) [
  | inl zero' ↦ ap (λ r. checkpoint_in (checkpoint_region g page r)) zero'.0 ∙ zero'.1
  | inr one ↦ ap (λ r. checkpoint_in (checkpoint_region g page r)) one.0 ∙ one.1
]

pub own_numbers : (g : Geometry) → is_wanted g (seal_of g) ≡ true
own_numbers g = and_from _ _ (and_from _ _ (and_from _ _ (and_from _ _ (same_number g.p) (same_number g.c)) (same_number g.l)) (same_number g.j)) (same_number g.size)

pub all_whole-from : {A : Type 0} (page : Place → Page) (es : List (ℕ × Entry)) (x : A) → AllByRecursion (λ e. is_whole (page e.1.place) ≡ true) es → all_whole page es x ≡ Ok x
all_whole-from page [] x all = refl
all_whole-from page (e ∷ es) x all = ap (λ b. cond b (all_whole page es x) (Err (Damaged e.1.place))) all.0 ∙ all_whole-from page es x all.1

-- entries that are found are loaded if each has a whole page
pub load_from : (g : Geometry) (page : Place → Page) (m : Entries) → replayed_entries g page ≡ Ok m → ((a : ℕ) (e : Entry) → get m a ≡ Some e → is_whole (page e.place) ≡ true) → load g page ≡ Ok m
unfolding load
load_from g page m is whole = ap (λ r. r >>= λ m. all_whole page (entries m) m) is ∙ all_whole-from page (entries m) m (all_entries m (λ a e. is_whole (page e.place) ≡ true) whole)

pub current_map : (log : LogValue) (page : Place → Page) (m : Entries) → IsCurrent page log m → IsMap log.geometry m
current_map log page m current = after_all-map log.geometry log.buffered current.durable m (load-map log.geometry page current.durable current.loads) current.buffered

pub current_low : (log : LogValue) (page : Place → Page) (m : Entries) → IsCurrent page log m → log.region < 2
current_low log page m current = newest_below log.geometry page (log.region, current.newest) (newest_is log.geometry page (log.region, current.newest) current.chosen)

-- a sealed region is complete, and if it is the newest, the flash stands for its map
module _ (g : Geometry) (region era : ℕ) (m : Entries) (records : List Record) (old new : Place → Page) (low : region < 2) (is_map : IsMap g m) (listed : IsListing g m records) (sealed : IsSealed g region era records (totals_of m) old new) where
  abbrev pages : ℕ
  pages = map_pages g records

  abbrev pub sealed_checkpoint : Complete
  sealed_checkpoint = complete (own_stamp era) pages (sealed_as g (totals_of m))

  within : map_pages g records < checkpoint_pages g
  within = maps_fit g m is_map records listed

  enough : length records ≤ page_records g * (0 + map_pages g records)
  enough = by_number (length records)
    where
      by_number : (n : ℕ) → n ≤ page_records g * (0 + rounded_up n (page_records g))
      by_number n = omega (arith, up_fits n (page_records g) (omega (arith, q_some g)))

  is_checkpoint : IsCheckpoint sealed_checkpoint (checkpoint_region g new region)
  is_checkpoint = record {
    maps = pages_from new (checkpoint_at g region) 0 pages;
    seal = new (checkpoint_at g region (0 + pages));
    rest = pages_from new (checkpoint_at g region) (0 + pages + 1) (checkpoint_pages g - (pages + 1));
    total = length records;
    parts = pages_split new (checkpoint_at g region) 0 pages (checkpoint_pages g) within;
    are_maps = maps_counted g era records new (checkpoint_at g region) 0 pages 0 (λ j from high. sealed.maps j (omega arith)) (omega arith) enough;
    number = sym (length-pages new (checkpoint_at g region) 0 pages);
    is_seal = (subst (λ n. IsSealPage g (totals_of m) era n (length records) (new (checkpoint_at g region (0 + pages)))) (sym (length-pages new (checkpoint_at g region) 0 pages))
        (subst (λ n. IsSealPage g (totals_of m) era pages (length records) (new (checkpoint_at g region n))) (let e : pages ≡ 0 + pages = omega arith in e) sealed.seal)).seal;
  }

  pub sealed_complete : checkpoint_in (checkpoint_region g new region) ≡ Some sealed_checkpoint
  sealed_complete = checkpoint_from sealed_checkpoint (checkpoint_region g new region) is_checkpoint

  own_totals : are_totals (Some (totals_of m)) m ≡ true
  own_totals = and_from _ _ (same_number (held_count m)) (same_number (dirty_count m))

  module _ (counts : newest g new ≡ Some (region, complete (own_stamp era) (map_pages g records) (sealed_as g (totals_of m)))) where
    pub sealed_of : checkpoint_of g new ≡ Ok (region, sealed_checkpoint)
    sealed_of =
        ap (λ o. ok_or o NotFormatted >>= wanted g) counts
        ∙ ap (λ b. cond b (Ok (region, sealed_checkpoint)) (Err (OtherGeometry (seal_of g)))) (own_numbers g)

    none : 0 ≡ page_records g * 0
    none = omega arith

    sealed_found : replayed_entries g new ≡ Ok m
    sealed_found = sealed_entries g new (region, sealed_checkpoint) m sealed_of
        (ap (λ qs. after_pages g Map (own_stamp era) (checkpoint_at g region) 0 qs no_entries) (take-pages new (checkpoint_at g region) 0 pages (checkpoint_pages g) (omega (arith, within)))
        ∙ maps_applied g era records new (checkpoint_at g region) 0 pages no_entries m (λ j from high. sealed.maps j (omega arith)) enough (subst (λ n. after_all g (drop n records) no_entries ≡ Some m) none (rebuilt g m is_map records listed)))
        own_totals
        (λ some. sealed.log (log_at g region 0) (log_within g region 0 some))

    pub sealed_loads : AreWhole old m → load g new ≡ Ok m
    sealed_loads whole = load_from g new m sealed_found (λ a e at. ap is_whole (pool_stays g region old new low sealed.beside e.place (is_map.in_pool a e at).above) ∙ whole.whole a e at)

-- the log of the sealed region is empty
pub written_stands : (g : Geometry) (region era : ℕ) (m : Entries) (records : List Record) (old new : Flash) → region < 2 → IsMap g m → IsListing g m records → IsWritten g region era records (totals_of m) old new
    → newest g new.page ≡ Some (region, complete (own_stamp era) (map_pages g records) (sealed_as g (totals_of m))) → AreWhole old.page m
    → IsCommitted new (record { geometry = g; region = region; era = era; next = 0; buffered = [] }) m
written_stands g region era m records old new low is_map listed written counts whole = record {
  loads = sealed_loads g region era m records old.page new.page low is_map listed written.sealed counts whole;
  nothing = refl;
  current = record {
    durable = m;
    loads = sealed_loads g region era m records old.page new.page low is_map listed written.sealed counts whole;
    buffered = refl;
    newest = complete (own_stamp era) (map_pages g records) (sealed_as g (totals_of m));
    chosen = sealed_of g region era m records old.page new.page low is_map listed written.sealed counts;
    era = refl;
  };
  opened = record {
    before = tt;
    ready = λ i from high which. written.log.next (log_at g region i).block (log_within g region i high) ∙ ap Some (sym (first i which));
    format = λ c is. ap (λ (x : ℕ × Complete). x.1.stamp.format) (same_Some c (region, complete (own_stamp era) (map_pages g records) (sealed_as g (totals_of m))) (sym is ∙ counts));
  };
}
  where
    first : (i : ℕ) → (i ≡ 0) ⊎ ((log_at g region i).page ≡ 0) → (log_at g region i).page ≡ 0
    first i (inl zero') = let low = div-add-mod' i g.p in omega arith
    first i (inr there) = there

-- ---- the other region, with the era after the log's

pub sealed_newest : (log : LogValue) (m : Entries) (records : List Record) (old new : Place → Page) → IsCurrent old log m → IsListing log.geometry m records
    → IsSealed log.geometry (1 - log.region) ((log.era + 1) % 3) records (totals_of m) old new
    → newest log.geometry new ≡ Some (1 - log.region, complete (own_stamp ((log.era + 1) % 3)) (map_pages log.geometry records) (sealed_as log.geometry (totals_of m)))
sealed_newest log m records old new current listed sealed =
    let low = current_low log old m current in
    let was = newest_was log.geometry old (log.region, current.newest) (newest_is log.geometry old (log.region, current.newest) current.chosen) in
    sealed_chosen log.geometry new current.newest (complete (own_stamp ((log.era + 1) % 3)) (map_pages log.geometry records) (sealed_as log.geometry (totals_of m))) log.region low
    (ap checkpoint_in (checkpoint_stays log.geometry log.region old new low sealed.beside) ∙ was)
    (sealed_complete log.geometry (1 - log.region) ((log.era + 1) % 3) m records old new (other_low log.region) (current_map log old m current) listed sealed)
    (ap (λ n. (n + 1) % 3) (sym current.era))

-- ---- the first region, if the other one isn't complete

pub formatted : (g : Geometry) (era : ℕ) (m : Entries) (records : List Record) (old new : Flash) → IsMap g m → IsListing g m records → IsWritten g 0 era records (totals_of m) old new → IsBare g 1 old.page
    → AreWhole old.page m → IsCommitted new (record { geometry = g; region = 0; era = era; next = 0; buffered = [] }) m
formatted g era m records old new is_map listed written bare whole = written_stands g 0 era m records old new (omega arith) is_map listed written (ap₂ chosen (sealed_complete g 0 era m records old.page new.page (omega arith) is_map listed written.sealed) none) whole
  where
    none : checkpoint_in (checkpoint_region g new.page 1) ≡ None
    none = ap checkpoint_in (checkpoint_stays g 1 old.page new.page (omega arith) written.sealed.beside) ∙ none_if_never_some (checkpoint_in (checkpoint_region g old.page 1)) (λ d is. bare_incomplete g 1 old.page d bare is)

-- ---- the flash after a checkpoint, whatever the checkpoint answers

pub loads_one_of : (log : LogValue) (m : Entries) (records : List Record) (old new : Place → Page) → IsCurrent old log m → AreWhole old m → IsListing log.geometry m records
    → IsUnsealed log.geometry (1 - log.region) old new ⊎ IsSealed log.geometry (1 - log.region) ((log.era + 1) % 3) records (totals_of m) old new → LoadsOneOf log.geometry old new m
loads_one_of log m records old new current whole listed (inl unsealed) = inr (unsealed_loads log.geometry old new (log.region, current.newest) current.chosen unsealed)
loads_one_of log m records old new current whole listed (inr sealed) = inl (sealed_loads log.geometry (1 - log.region) ((log.era + 1) % 3) m records old new (other_low log.region) (current_map log old m current) listed sealed (sealed_newest log m records old new current listed sealed) whole)

pub log_goes_last : (log : LogValue) (m : Entries) (records : List Record) (old new : Place → Page) → IsCurrent old log m → IsListing log.geometry m records
    → IsUnsealed log.geometry (1 - log.region) old new ⊎ IsSealed log.geometry (1 - log.region) ((log.era + 1) % 3) records (totals_of m) old new → LogGoesLast log old new
log_goes_last log m records old new current listed (inl unsealed) = inr (unsealed_log log.geometry (1 - log.region) old new (other_low log.region) unsealed)
log_goes_last log m records old new current listed (inr sealed) = inl (complete (own_stamp ((log.era + 1) % 3)) (map_pages log.geometry records) (sealed_as log.geometry (totals_of m)), sealed_newest log m records old new current listed sealed)

pub pool_left : (log : LogValue) (records : List Record) (totals : Totals) (old new : Place → Page) → IsUnsealed log.geometry (1 - log.region) old new ⊎ IsSealed log.geometry (1 - log.region) ((log.era + 1) % 3) records totals old new → (at : Place) → first_pool log.geometry ≤ at.block → new at ≡ old at
pool_left log records totals old new (inl unsealed) = pool_stays log.geometry (1 - log.region) old new (other_low log.region) (unsealed_stays log.geometry (1 - log.region) old new unsealed)
pool_left log records totals old new (inr sealed) = pool_stays log.geometry (1 - log.region) old new (other_low log.region) sealed.beside

-- ---- and after Ok

pub written_committed : (log : LogValue) (m : Entries) (records : List Record) (old new : Flash) → IsCurrent old.page log m → AreWhole old.page m → IsListing log.geometry m records
    → IsWritten log.geometry (1 - log.region) ((log.era + 1) % 3) records (totals_of m) old new → IsCommitted new (log_checkpointed log) m
written_committed log m records old new current whole listed written = written_stands log.geometry (1 - log.region) ((log.era + 1) % 3) m records old new (other_low log.region)
    (current_map log old.page m current) listed written (sealed_newest log m records old.page new.page current listed written.sealed) whole

-- ---- as the code names it

-- the region and the era were read from the log
module _ (log : LogValue) (records : List Record) (totals : Totals) (g : Geometry) (region era : ℕ) (same : g ≡ log.geometry) (region_is : region ≡ log.region) (era_is : era ≡ log.era) where
  pub left_of_log : (old new : Place → Page) → IsUnsealed g (1 - region) old new ⊎ IsSealed g (1 - region) ((era + 1) % 3) records totals old new → IsUnsealed log.geometry (1 - log.region) old new ⊎ IsSealed log.geometry (1 - log.region) ((log.era + 1) % 3) records totals old new
  left_of_log old new left =
      subst (λ (x : Geometry). IsUnsealed x (1 - log.region) old new ⊎ IsSealed x (1 - log.region) ((log.era + 1) % 3) records totals old new) same
      (subst (λ r. IsUnsealed g (1 - r) old new ⊎ IsSealed g (1 - r) ((log.era + 1) % 3) records totals old new) region_is
      (subst (λ e. IsUnsealed g (1 - region) old new ⊎ IsSealed g (1 - region) ((e + 1) % 3) records totals old new) era_is left))

  pub written_of_log : (old new : Flash) → IsWritten g (1 - region) ((era + 1) % 3) records totals old new → IsWritten log.geometry (1 - log.region) ((log.era + 1) % 3) records totals old new
  written_of_log old new written =
      subst (λ (x : Geometry). IsWritten x (1 - log.region) ((log.era + 1) % 3) records totals old new) same
      (subst (λ r. IsWritten g (1 - r) ((log.era + 1) % 3) records totals old new) region_is
      (subst (λ e. IsWritten g (1 - region) ((e + 1) % 3) records totals old new) era_is written))

  pub restarted_log : (log' : LogValue) → log' ≡ restarted (1 - region) ((era + 1) % 3) log → log' ≡ log_checkpointed log
  restarted_log log' is = is ∙ ap₂ (λ r e. restarted (1 - r) ((e + 1) % 3) log) region_is era_is

pub ready_left : (log : LogValue) (records : List Record) (totals : Totals) (old new : Flash) → IsWritten log.geometry (1 - log.region) ((log.era + 1) % 3) records totals old new → (b : ℕ) → first_pool log.geometry ≤ b → new.next b ≡ old.next b
ready_left log records totals old new written b pool = written.ready b (pool_no_checkpoint log.geometry (1 - log.region) b (other_low log.region) pool) (pool_no_log log.geometry (1 - log.region) b (other_low log.region) pool)
