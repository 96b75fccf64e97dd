-- One more page in the log, with all buffered records.
use Rattle.std.proofs.Common.{◌≡◌, ◌≢◌, ℕ, ◌+◌, ◌*◌, ◌/◌, ◌%◌, ◌<◌, ◌≤◌, Option, List, [], ◌∷◌, take, Some, ok_or, Result, Ok, Err, OnOk, refl, sym, ◌∙◌, ap, ap₂, subst, arith, inl, inr}
use Rattle.std.proofs.lemmas.Bool.{cases_eq, cases_lt}
use Rattle.std.proofs.lemmas.Nat.{div-add-mod', div-mul-add, mod_below}
use Rattle.ft_base.specs.declared.block.Place.{Place}
use Rattle.ft_base.specs.declared.block.Page.{Page}
use Rattle.ft_base.specs.declared.block.Page.TheVariants.{Blank, Torn}
use Rattle.ft_base.specs.declared.record.Record.{Record}
use Rattle.ft_base.specs.Contents.{Contents, Flash, set_page}
use Rattle.ft_base.specs.Layout.{first_log, first_pool, checkpoint_at, log_at, checkpoint_pages, log_pages}
use Rattle.ft_base.proofs.Images.{set_other}
use Rattle.ft_media.specs.Media.{IsBlankAhead}
use Rattle.cache_model.specs.declared.format.Header.{Header}
use Rattle.cache_model.specs.declared.format.PageKind.TheVariants.{Log}
use Rattle.cache_model.specs.Records.{Entries}
use Rattle.cache_model.specs.Loading.{Complete, Stamp, ◌>>=◌, pages_from, checkpoint_in, chosen, newest, checkpoint_region, log_region, checkpoint_of, replayed_entries, wanted, load, header_at, is_whole}
use Rattle.cache_model.specs.Loading.Refusal.{NotFormatted}
use Rattle.cache_model.specs.Laws.{ArePages}
use Rattle.cache_model.proofs.Alike.{LogEnds}
use Rattle.cache_model.proofs.LoadLemmas.{pages_from-same, newest_is, loaded_is, set_page-other}
use Rattle.cache_model.proofs.LogLemmas.{log_apart, log_appended, log_torn}
use Rattle.cache_model.proofs.FitsLemmas.{load-map}
use Rattle.cache_model.proofs.StandLemmas.{entry_whole}
use Rattle.op_log.specs.Stamps.{own_stamp}
use Rattle.op_log.specs.Log.{LogValue, next_place, if_buffered, log_flushed, Appended, AppendedReady, LeavesLog}
use Rattle.checkpoint.specs.Current.{IsCurrent, AreWhole, IsOpenLog, IsCommitted, LoadsOneOf}
use Rattle.checkpoint.proofs.PlacesLemmas.{product, checkpoint_within, log_within, checkpoint_no_log, pool_no_log}
use Rattle.checkpoint.proofs.ListsLemmas.{take-pages, are_pages, each_page}
use Rattle.checkpoint.proofs.MapsLemmas.{ready_after}
use Rattle.cache_model.proofs.LogLemmas.{set_page-here}
use Rattle.checkpoint.proofs.SealedLemmas.{load_from, current_map, current_low}

-- ---- if something is buffered

if_some : {A : Type 0} (changes : List Record) (x y : A) → changes ≢ [] → if_buffered changes x y ≡ x
if_some [] x y some = absurd (some refl)
if_some (change ∷ changes) x y some = refl

-- the log after a flush, if something was buffered
abbrev pub one_longer : LogValue → LogValue
one_longer log = record log { next = log.next + 1; buffered = [] }

pub flushed_some : (log : LogValue) → log.buffered ≢ [] → log_flushed log ≡ one_longer log
flushed_some log some = if_some log.buffered (one_longer log) log some

-- ---- blank pages ahead

-- the first page of the erase block of page i
first_of : (p i : ℕ) → 0 < p → (i / p * p / p ≡ i / p) × (i / p * p % p ≡ 0)
first_of p i some =
    let quotient : (i / p * p + 0) / p ≡ i / p = div-mul-add (i / p) p 0 some in
    let same : i / p * p + 0 ≡ i / p * p = omega arith in
    let row : i / p * p / p ≡ i / p = ap (λ n. n / p) (sym same) ∙ quotient in
    let products : i / p * p / p * p ≡ i / p * p = ap (λ n. n * p) row in
    let whole = div-add-mod' (i / p * p) p in
    (row, omega arith)

log_ahead : (log : LogValue) (contents : Contents) → IsOpenLog contents.flash log → IsBlankAhead contents
    → log.next < log_pages log.geometry → (i : ℕ) → log.next ≤ i → i < log_pages log.geometry → contents.flash.page (log_at log.geometry log.region i) ≡ Blank
log_ahead log contents opened ahead room i low high = elim (cases_eq (log.next / log.geometry.p) (i / log.geometry.p)) [
  | inl row ↦ ahead (log_at log.geometry log.region i) (log.next % log.geometry.p)
      (ap (λ n. contents.flash.next (first_log log.geometry + log.region * log.geometry.j + n)) (sym row) ∙ opened.ready log.next (omega arith) room (inl refl))
      (column row)
  | inr apart ↦
      let first = first_of log.geometry.p i some in
      ahead (log_at log.geometry log.region i) 0
      (ap (λ n. contents.flash.next (first_log log.geometry + log.region * log.geometry.j + n)) (sym first.0) ∙ opened.ready (i / log.geometry.p * log.geometry.p) (later apart) (before) (inr first.1) ∙ ap Some first.1)
      (omega arith)
]
  where
    some : 0 < log.geometry.p
    some = omega (arith, log.geometry.in_range.p_low)

    column : log.next / log.geometry.p ≡ i / log.geometry.p → log.next % log.geometry.p ≤ i % log.geometry.p
    column row = by_number log.geometry.p log.next i low row
      where
        by_number : (p n i : ℕ) → n ≤ i → n / p ≡ i / p → n % p ≤ i % p
        by_number p n i le row =
            let here = div-add-mod' n p in
            let there = div-add-mod' i p in
            let products : n / p * p ≡ i / p * p = ap (λ k. k * p) row in
            omega arith

    before : i / log.geometry.p * log.geometry.p < log_pages log.geometry
    before = let whole = div-add-mod' i log.geometry.p in omega arith

    later : (log.next / log.geometry.p ≡ i / log.geometry.p → ⊥) → log.next ≤ i / log.geometry.p * log.geometry.p
    later apart = by_number log.geometry.p log.next i some low apart
      where
        by_number : (p n i : ℕ) → 0 < p → n ≤ i → (n / p ≡ i / p → ⊥) → n ≤ i / p * p
        by_number p n i some le apart =
            let here = div-add-mod' n p in
            let there = div-add-mod' i p in
            let short = mod_below n p some in
            let short' = mod_below i p some in
            elim (cases_lt (n / p) (i / p)) [
              | inl up ↦ let step : (n / p + 1) * p ≤ i / p * p = product (n / p + 1) (i / p) p (omega arith) in let one : (n / p + 1) * p ≡ n / p * p + p = omega arith in omega arith
              | inr down ↦ let step : (i / p + 1) * p ≤ n / p * p = product (i / p + 1) (n / p) p (omega arith) in let one : (i / p + 1) * p ≡ i / p * p + p = omega arith in absurd (omega arith)
            ]

-- ---- the flash after a flush, whatever the flush answers

module _ (log : LogValue) (m : Entries) (before : Contents) (new : Flash) (current : IsCurrent before.flash.page log m) (opened : IsOpenLog before.flash log) (ahead : IsBlankAhead before) (room : log.next < log_pages log.geometry) where
  abbrev old : Flash
  old = before.flash

  abbrev checkpoint_now : ℕ × Complete
  checkpoint_now = (log.region, current.newest)

  low : log.region < 2
  low = current_low log old.page m current

  -- the checkpoint that counts has the stamp of pages that are written
  newest_stamp : current.newest.stamp ≡ own_stamp log.era
  newest_stamp = ap₂ (λ f e. record { format = f; era = e }) (opened.format checkpoint_now (newest_is log.geometry old.page checkpoint_now current.chosen)) current.era

  ends : LogEnds log.geometry old.page checkpoint_now log.next
  ends = record {
    there = current.chosen;
    room = omega arith;
    before = subst (λ (e : Stamp). ArePages Log e 0 (take log.next (log_region log.geometry old.page log.region))) (sym newest_stamp) opened.before;
    blank = log_ahead log before opened ahead room;
  }

  module _ (v : Page) (pages : new.page ≡ set_page old.page (next_place log) v) where
    other_page : (at : Place) → (at ≡ next_place log → ⊥) → new.page at ≡ old.page at
    other_page at other = ap (λ (f : Place → Page). f at) pages ∙ set_page-other old.page (next_place log) at v other

    pool_page : (at : Place) → first_pool log.geometry ≤ at.block → new.page at ≡ old.page at
    pool_page at pool = other_page at (λ e. pool_no_log log.geometry log.region at.block low pool
        (subst (λ (q : Place). first_log log.geometry + log.region * log.geometry.j ≤ q.block × (q.block < first_log log.geometry + log.region * log.geometry.j + log.geometry.j)) (sym e)
        (log_within log.geometry log.region log.next room)))

    checkpoint_page : (r : ℕ) → r < 2 → checkpoint_region log.geometry new.page r ≡ checkpoint_region log.geometry old.page r
    checkpoint_page r low' = pages_from-same new.page old.page (checkpoint_at log.geometry r) 0 (checkpoint_pages log.geometry) (λ i within.
        other_page (checkpoint_at log.geometry r i) (λ e. checkpoint_no_log log.geometry r log.region _ low' low (checkpoint_within log.geometry r i (omega arith))
        (subst (λ (q : Place). first_log log.geometry + log.region * log.geometry.j ≤ q.block × (q.block < first_log log.geometry + log.region * log.geometry.j + log.geometry.j)) (sym e)
        (log_within log.geometry log.region log.next room))))

    same_newest : newest log.geometry new.page ≡ newest log.geometry old.page
    same_newest = ap₂ (λ xs ys. chosen (checkpoint_in xs) (checkpoint_in ys)) (checkpoint_page 0 (omega arith)) (checkpoint_page 1 (omega arith))

    same_checkpoint : checkpoint_of log.geometry new.page ≡ Ok checkpoint_now
    same_checkpoint = ap (λ o. ok_or o NotFormatted >>= wanted log.geometry) same_newest ∙ current.chosen

  torn_loads : new.page ≡ set_page old.page (next_place log) Torn → load log.geometry new.page ≡ load log.geometry old.page
  torn_loads torn =
      let durable = current.durable in
      let map = load-map log.geometry old.page durable current.loads in
      load_from log.geometry new.page durable
      (ap (replayed_entries log.geometry) torn ∙ log_torn log.geometry old.page checkpoint_now log.next ends room Torn refl ∙ (loaded_is log.geometry old.page durable current.loads).0)
      (λ a e at. ap is_whole (pool_page Torn torn e.place (map.in_pool a e at).above) ∙ entry_whole log.geometry old.page durable current.loads a e at)
      ∙ sym current.loads

  appended_loads : AreWhole old.page m → Appended log old new → load log.geometry new.page ≡ Ok m
  appended_loads whole appended =
      let is = appended.is_page in
      let map = current_map log old.page m current in
      load_from log.geometry new.page m
      (ap (replayed_entries log.geometry) appended.pages ∙ log_appended log.geometry old.page checkpoint_now log.next ends room appended.page is.header log.buffered current.durable m
      (subst (λ (e : Stamp). header_at Log e log.next appended.page ≡ Some is.header) (sym newest_stamp) is.head) is.records
      (loaded_is log.geometry old.page current.durable current.loads).0 current.buffered)
      (λ a e at. ap is_whole (pool_page appended.page appended.pages e.place (map.in_pool a e at).above) ∙ whole.whole a e at)

  pub flush_loads : AreWhole old.page m → LeavesLog log old new → LoadsOneOf log.geometry old.page new.page m
  flush_loads whole (inl same) = inr (ap (load log.geometry) same)
  flush_loads whole (inr (inl torn)) = inr (torn_loads torn)
  flush_loads whole (inr (inr appended)) = inl (appended_loads whole appended)

  pub flush_pool : LeavesLog log old new → (at : Place) → first_pool log.geometry ≤ at.block → new.page at ≡ old.page at
  flush_pool (inl same) at pool = ap (λ (f : Place → Page). f at) same
  flush_pool (inr (inl torn)) at pool = pool_page Torn torn at pool
  flush_pool (inr (inr appended)) at pool = pool_page appended.page appended.pages at pool

  pub flush_ready : AppendedReady log old new → (b : ℕ) → first_pool log.geometry ≤ b → new.next b ≡ old.next b
  flush_ready done b pool = ap (λ (f : ℕ → Option ℕ). f b) done.next ∙ set_other old.next (next_place log).block b _
      (λ e. pool_no_log log.geometry log.region b low pool (subst (λ n. first_log log.geometry + log.region * log.geometry.j ≤ n
      × (n < first_log log.geometry + log.region * log.geometry.j + log.geometry.j)) e (log_within log.geometry log.region log.next room)))

  -- ---- and after Ok

  longer_log : Appended log old new → ArePages Log (own_stamp log.era) 0 (take (log.next + 1) (log_region log.geometry new.page log.region))
  longer_log appended = subst (ArePages Log (own_stamp log.era) 0) (sym (take-pages new.page (log_at log.geometry log.region) 0 (log.next + 1) (log_pages log.geometry) (omega arith)))
      (are_pages Log (own_stamp log.era) new.page (log_at log.geometry log.region) 0 (log.next + 1) each)
    where
      was : ArePages Log (own_stamp log.era) 0 (pages_from old.page (log_at log.geometry log.region) 0 log.next)
      was = subst (ArePages Log (own_stamp log.era) 0) (take-pages old.page (log_at log.geometry log.region) 0 log.next (log_pages log.geometry) (omega arith)) opened.before

      each : (j : ℕ) → 0 ≤ j → j < 0 + (log.next + 1) → (h : Header) × (header_at Log (own_stamp log.era) j (new.page (log_at log.geometry log.region j)) ≡ Some h)
      each j from high = elim (cases_eq j log.next) [
        | inl same ↦ (
          appended.is_page.header,
          ap₂ (λ k q. header_at Log (own_stamp log.era) k q) same (ap (λ k. new.page (log_at log.geometry log.region k)) same ∙ ap (λ (f : Place → Page). f (next_place log)) appended.pages ∙ set_page-here old.page (next_place log) appended.page) ∙ appended.is_page.head,
        )
        | inr other ↦
            let h = each_page Log (own_stamp log.era) old.page (log_at log.geometry log.region) 0 log.next was j (omega arith) (omega arith) in
            (h.0, ap (header_at Log (own_stamp log.era) j) (other_page appended.page appended.pages (log_at log.geometry log.region j) (λ e. other (log_apart log.geometry log.region j log.next e))) ∙ h.1)
      ]

  pub flush_committed : AreWhole old.page m → AppendedReady log old new → IsCommitted new (one_longer log) m
  flush_committed whole done = record {
    loads = appended_loads whole done.appended;
    nothing = refl;
    current = record {
      durable = m;
      loads = appended_loads whole done.appended;
      buffered = refl;
      newest = current.newest;
      chosen = same_checkpoint done.appended.page done.appended.pages;
      era = current.era;
    };
    opened = record {
      before = longer_log done.appended;
      ready = λ i from high which.
          ap (λ (f : ℕ → Option ℕ). f (log_at log.geometry log.region i).block) done.next
          ∙ ready_after log.geometry (first_log log.geometry + log.region * log.geometry.j) log.next i old.next (omega arith) which (λ first. opened.ready i (omega arith) high (inr first));
      format = λ c is. opened.format c (sym (same_newest done.appended.page done.appended.pages) ∙ is);
    };
  }

-- ---- clauses on Ok

pub on_both : {T E : Type 0} (r : Result T E) (P Q R : Type 0) → OnOk r P → OnOk r Q → (P → Q → R) → OnOk r R
on_both (Ok x) P Q R has has' f = f has has'
on_both (Err e) P Q R has has' f = tt
