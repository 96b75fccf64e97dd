-- The steps of a loading, one after the other.
use Rattle.std.proofs.Common.{◌≡◌, ℕ, ◌≤◌, Result, Ok, Err, true, false, cond, sym, ◌∙◌, ap, ap₂, subst}
use Rattle.std.specs.FinMap.{entries}
use Rattle.std.specs.Result.{IsErrAnd}
use Rattle.ft_base.specs.declared.geometry.Geometry.{Geometry}
use Rattle.ft_base.specs.declared.block.Place.{Place}
use Rattle.ft_base.specs.declared.block.Page.{Page}
use Rattle.ft_base.specs.Layout.{checkpoint_at, checkpoint_pages, log_at}
use Rattle.ft_media.specs.State.{State}
use Rattle.ft_media.specs.Reads.{ReadsFlash}
use Rattle.ft_media.proofs.DrivesLemmas.{reads_then}
use Rattle.cache_model.specs.declared.format.PageKind.TheVariants.{Log, Map}
use Rattle.cache_model.specs.Records.{Entries, no_entries}
use Rattle.cache_model.specs.Loading.{Refusal, ◌>>=◌, Complete, are_totals, counted, pages_from, after_pages, log_region, checkpoint_of, replayed, replayed_entries, all_whole, load}
use Rattle.cache_model.specs.Loading.Refusal.{Damaged as damaged}
use Rattle.cache_model.specs.Entries.{IsMap}
use Rattle.cache_model.proofs.FitsLemmas.{no_entries-map}
use Rattle.mapping.specs.MapValue.{MapValue}
use Rattle.mapping.specs.Room.{HasFewBuckets, KeepsFewBuckets}
use Rattle.mapping.proofs.FewLemmas.{few_new}
use Rattle.op_log.specs.declared.error.OpenError.{OpenError}
use Rattle.op_log.specs.declared.error.OpenError.TheVariants.{NotFormatted, OtherGeometry, Damaged, FlashFault, DiskFault, PowerLost, OutOfMemory}
use Rattle.op_log.specs.Refusals.{IsRefusal, open_failed, open_lost}
use Rattle.checkpoint.proofs.ListsLemmas.{take-pages}
use Rattle.recovery.proofs.RefusalLemmas.{bind_refused, then_refused}

-- the map pages of a checkpoint, applied to these entries
abbrev pub maps_applied : Geometry → (Place → Page) → ℕ × Complete → Entries → Result Entries Refusal
maps_applied g page c m = after_pages g Map c.1.stamp (checkpoint_at g c.0) 0 (pages_from page (checkpoint_at g c.0) 0 c.1.pages) m

-- the pages of its log, applied to these entries
abbrev pub log_applied : Geometry → (Place → Page) → ℕ × Complete → Entries → Result Entries Refusal
log_applied g page c m = after_pages g Log c.1.stamp (log_at g c.0) 0 (log_region g page c.0) m

module _ (g : Geometry) (page : Place → Page) (c : ℕ × Complete) (within : c.1.pages ≤ checkpoint_pages g) (none : Entries) (empty : none ≡ no_entries) where
  pub all_parts : replayed g page c ≡ (maps_applied g page c none >>= counted g c >>= log_applied g page c)
  unfolding replayed
  all_parts = ap₂ (λ ps m. after_pages g Map c.1.stamp (checkpoint_at g c.0) 0 ps m >>= counted g c >>= log_applied g page c) (take-pages page (checkpoint_at g c.0) 0 c.1.pages (checkpoint_pages g) within) (sym empty)

  pub maps_refused : (e : OpenError) → IsRefusal g e (maps_applied g page c none) → IsRefusal g e (replayed g page c)
  maps_refused e is = subst (λ r. IsRefusal g e r) (sym all_parts) (bind_refused g e (maps_applied g page c none >>= counted g c) (log_applied g page c) (bind_refused g e (maps_applied g page c none) (counted g c) is))

  module _ (m : Entries) (maps : maps_applied g page c none ≡ Ok m) where
    -- the entries are not as many as the seal says
    pub miscounted : (seal : Place) → seal ≡ checkpoint_at g c.0 c.1.pages → are_totals c.1.seal.totals m ≡ false → replayed g page c ≡ Err (damaged seal)
    miscounted seal here other =
        all_parts
        ∙ ap (λ r. r >>= counted g c >>= log_applied g page c) maps
        ∙ ap (λ b. cond b (Ok m) (Err (damaged (checkpoint_at g c.0 c.1.pages))) >>= log_applied g page c) other
        ∙ ap (λ at. Err (damaged at)) (sym here)

    module _ (same : are_totals c.1.seal.totals m ≡ true) where
      pub counted_maps : (maps_applied g page c none >>= counted g c) ≡ Ok m
      counted_maps = ap (λ r. r >>= counted g c) maps ∙ ap (λ b. cond b (Ok m) (Err (damaged (checkpoint_at g c.0 c.1.pages)))) same

      module _ (page' : Place → Page) (pages : page' ≡ page) where
        pub log_refused : (e : OpenError) → IsRefusal g e (log_applied g page' c m) → IsRefusal g e (replayed g page c)
        log_refused e is = subst (λ r. IsRefusal g e r) (sym all_parts)
            (then_refused g e (maps_applied g page c none >>= counted g c) m (log_applied g page c) counted_maps (subst (λ (p : Place → Page). IsRefusal g e (log_applied g p c m)) pages is))

        pub log_rolled : (n : Entries) → log_applied g page' c m ≡ Ok n → replayed g page c ≡ Ok n
        log_rolled n is = all_parts ∙ ap (λ r. r >>= log_applied g page c) counted_maps ∙ ap (λ (p : Place → Page). log_applied g p c m) (sym pages) ∙ is

-- ---- the whole loading

pub find_refused : (g : Geometry) (page : Place → Page) (e : OpenError) → IsRefusal g e (checkpoint_of g page) → IsRefusal g e (load g page)
unfolding load
find_refused g page e is = bind_refused g e (replayed_entries g page) (λ m. all_whole page (entries m) m) (bind_refused g e (checkpoint_of g page) (replayed g page) is)

module _ (g : Geometry) (page : Place → Page) (c : ℕ × Complete) (there : checkpoint_of g page ≡ Ok c) (page' : Place → Page) (pages : page' ≡ page) where
  pub replay_refused : (e : OpenError) → IsRefusal g e (replayed g page' c) → IsRefusal g e (load g page)
  unfolding load
  replay_refused e is =
      bind_refused g e (replayed_entries g page) (λ m. all_whole page (entries m) m)
      (then_refused g e (checkpoint_of g page) c (replayed g page) there (subst (λ (p : Place → Page). IsRefusal g e (replayed g p c)) pages is))

  module _ (m : Entries) (replay : replayed g page' c ≡ Ok m) where
    entries_are : replayed_entries g page ≡ Ok m
    entries_are = ap (λ r. r >>= replayed g page) there ∙ ap (λ (p : Place → Page). replayed g p c) (sym pages) ∙ replay

    module _ (page'' : Place → Page) (pages' : page'' ≡ page) where
      pub places_refused : (e : OpenError) → IsRefusal g e (all_whole page'' (entries m) m) → IsRefusal g e (load g page)
      unfolding load
      places_refused e is = then_refused g e (replayed_entries g page) m (λ n. all_whole page (entries n) n) entries_are (subst (λ (p : Place → Page). IsRefusal g e (all_whole p (entries m) m)) pages' is)

      pub places_whole : all_whole page'' (entries m) m ≡ Ok m → load g page ≡ Ok m
      unfolding load
      places_whole is = ap (λ r. r >>= λ n. all_whole page (entries n) n) entries_are ∙ ap (λ (p : Place → Page). all_whole p (entries m) m) (sym pages') ∙ is

-- a call that failed after others that only read
pub reads_refused : (U : Type 0) {T : Type 0} (a b c : State) (r : Result T OpenError) (e : OpenError) → IsErrAnd r (λ x. x ≡ e) → ReadsFlash a b false false → ReadsFlash b c (open_failed {T = U} (Err e)) (open_lost {T = U} (Err e)) → ReadsFlash a c (open_failed r) (open_lost r)
reads_refused U a b c (Ok v) e is first later = absurd is
reads_refused U {T} a b c (Err x) e is first later = subst (λ (y : OpenError). ReadsFlash a c (open_failed {T = T} (Err y)) (open_lost {T = T} (Err y))) (sym is) (told e (reads_then a b c _ _ first later))
  where
    told : (e : OpenError) → ReadsFlash a c (open_failed {T = U} (Err e)) (open_lost {T = U} (Err e)) → ReadsFlash a c (open_failed {T = T} (Err e)) (open_lost {T = T} (Err e))
    told NotFormatted is = is
    told (OtherGeometry found wanted) is = is
    told (Damaged block page) is = is
    told FlashFault is = is
    told DiskFault is = is
    told PowerLost is = is
    told OutOfMemory is = is

-- ---- the buckets of the map

-- the buckets stay few, if loading begins with an empty map
pub few_loaded : (empty map : MapValue) → empty.entries ≡ no_entries → empty.spare_pages ≡ 0 → empty.spare_groups ≡ 0 → empty.buckets ≡ 0 → empty.group_buckets ≡ 0 → KeepsFewBuckets empty map → HasFewBuckets map
few_loaded empty map nothing pages groups buckets group_buckets kept =
    kept.few (subst (λ m. IsMap empty.geometry m) (sym nothing) (no_entries-map empty.geometry)) (few_new empty pages groups buckets group_buckets)
