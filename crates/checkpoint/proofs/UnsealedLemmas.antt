-- While the new checkpoint has no seal, the flash stands for the same entries as before.
use Rattle.std.proofs.Common.{◌≡◌, ℕ, zero, suc, ◌+◌, ◌-◌, ◌*◌, ◌<◌, ◌≤◌, Some, Ok, sym, arith, inl, inr, ◌⊎◌}
use Rattle.std.specs.List.{AllByRecursion}
use Rattle.ft_base.specs.declared.geometry.Geometry.{Geometry}
use Rattle.ft_base.specs.declared.block.Place.{Place}
use Rattle.ft_base.specs.declared.block.Page.{Page}
use Rattle.ft_base.specs.declared.block.Page.TheVariants.{Blank, Torn}
use Rattle.ft_base.specs.Layout.{k, first_pool, checkpoint_at, log_at, checkpoint_pages, log_pages}
use Rattle.cache_model.specs.Records.{Entries}
use Rattle.cache_model.specs.Entries.{IsMap}
use Rattle.cache_model.specs.Loading.{Complete, pages_from, checkpoint_in, checkpoint_region, log_region, checkpoint_of, replayed_entries, replayed, load}
use Rattle.cache_model.specs.Laws.{IsLost, AllLost, IsMapOrLost}
use Rattle.cache_model.proofs.RegionLemmas.{lost_checkpoint, maps_alone}
use Rattle.cache_model.proofs.LoadLemmas.{pages_from-same, bind_ok, newest_is, newest_below, load_same}
use Rattle.cache_model.proofs.FitsLemmas.{replayed-map}
use Rattle.cache_model.proofs.CheckpointLemmas.{beside}
use Rattle.checkpoint.specs.Regions.{IsBlockWithin, AreLost, StaysBeside, IsBare, IsUnsealed}
use Rattle.checkpoint.proofs.PlacesLemmas.{checkpoint_within, log_within, checkpoint_alone, log_alone, checkpoint_no_log, pool_no_checkpoint, pool_no_log, other_low}
use Rattle.checkpoint.proofs.ErasingLemmas.{lost_elsewhere}

-- ---- the pages beside the region

pub checkpoint_stays : (g : Geometry) (region : ℕ) (old new : Place → Page) → region < 2 → StaysBeside g (1 - region) old new → checkpoint_region g new region ≡ checkpoint_region g old region
checkpoint_stays g region old new low stays = pages_from-same new old (checkpoint_at g region) 0 (checkpoint_pages g) (λ i within.
    let there = checkpoint_within g region i (omega arith) in
    stays (checkpoint_at g region i) (checkpoint_alone g region _ low there) (checkpoint_no_log g region (1 - region) _ low (other_low region) there))

pub log_stays : (g : Geometry) (region : ℕ) (old new : Place → Page) → region < 2 → StaysBeside g (1 - region) old new → log_region g new region ≡ log_region g old region
log_stays g region old new low stays = pages_from-same new old (log_at g region) 0 (log_pages g) (λ i within.
    let there = log_within g region i (omega arith) in
    stays (log_at g region i) (λ other. checkpoint_no_log g (1 - region) region _ (other_low region) low other there) (log_alone g region _ low there))

pub pool_stays : (g : Geometry) (region : ℕ) (old new : Place → Page) → region < 2 → StaysBeside g region old new → (at : Place) → first_pool g ≤ at.block → new at ≡ old at
pool_stays g region old new low stays at pool = stays at (pool_no_checkpoint g region at.block low pool) (pool_no_log g region at.block low pool)

pub unsealed_stays : (g : Geometry) (region : ℕ) (old new : Place → Page) → IsUnsealed g region old new → StaysBeside g region old new
unsealed_stays g region old new (inl lost) at out out' = lost_elsewhere (region * k g) (k g) old new lost at out
unsealed_stays g region old new (inr bare) at out out' = bare.1 at out out'

-- ---- the region itself

all_lost : (first count : ℕ) (old new : Place → Page) (at : ℕ → Place) (i n : ℕ) → AreLost first count old new → AllLost (pages_from old at i n) (pages_from new at i n)
all_lost first count old new at i zero lost = tt
all_lost first count old new at i (suc n) lost = (by_page (lost (at i)), all_lost first count old new at (i + 1) n lost)
  where
    by_page : (new (at i) ≡ old (at i)) ⊎ (IsBlockWithin first count (at i).block × ((new (at i) ≡ Blank) ⊎ (new (at i) ≡ Torn))) → IsLost (old (at i)) (new (at i))
    by_page (inl same) = inl same
    by_page (inr gone) = inr gone.1

all_bare : (page : Place → Page) (at : ℕ → Place) (i n : ℕ) → ((j : ℕ) → j < i + n → IsMapOrLost (page (at j))) → AllByRecursion IsMapOrLost (pages_from page at i n)
all_bare page at i zero each = tt
all_bare page at i (suc n) each = (each i (omega arith), all_bare page at (i + 1) n (λ j low. each j (omega arith)))

pub bare_incomplete : (g : Geometry) (region : ℕ) (page : Place → Page) (d : Complete) → IsBare g region page → checkpoint_in (checkpoint_region g page region) ≡ Some d → ⊥
bare_incomplete g region page d bare is = maps_alone (checkpoint_region g page region) d (all_bare page (checkpoint_at g region) 0 (checkpoint_pages g) (λ i low. bare.pages i (omega arith))) is

unsealed_was : (g : Geometry) (region : ℕ) (old new : Place → Page) → IsUnsealed g region old new → (d : Complete) → checkpoint_in (checkpoint_region g new region) ≡ Some d → checkpoint_in (checkpoint_region g old region) ≡ Some d
unsealed_was g region old new (inl lost) d is = (lost_checkpoint (checkpoint_region g old region) (checkpoint_region g new region) d (all_lost (region * k g) (k g) old new (checkpoint_at g region) 0 (checkpoint_pages g) lost) is).0
unsealed_was g region old new (inr bare) d is = absurd (bare_incomplete g region new d bare.0 is)

-- ---- loading

entries-map : (g : Geometry) (page : Place → Page) (m : Entries) → replayed_entries g page ≡ Ok m → IsMap g m
entries-map g page m is =
    let b = bind_ok (checkpoint_of g page) (replayed g page) m is in
    replayed-map g page b.0 m b.2

pub unsealed_loads : (g : Geometry) (old new : Place → Page) (c : ℕ × Complete) → checkpoint_of g old ≡ Ok c → IsUnsealed g (1 - c.0) old new → load g new ≡ load g old
unsealed_loads g old new c there unsealed =
    let chosen = newest_is g old c there in
    let low = newest_below g old c chosen in
    let stays = unsealed_stays g (1 - c.0) old new unsealed in
    sym (load_same g old new (beside g old new c (record {
      there = chosen;
      region = checkpoint_stays g c.0 old new low stays;
      log = log_stays g c.0 old new low stays;
      other = unsealed_was g (1 - c.0) old new unsealed;
      places = λ m is a e at. sym (pool_stays g (1 - c.0) old new (other_low c.0) stays e.place ((entries-map g old m is).in_pool a e at).above);
    })))

-- if the region is still complete, its log is unchanged
pub unsealed_log : (g : Geometry) (region : ℕ) (old new : Place → Page) → region < 2 → IsUnsealed g region old new → (d : Complete) → checkpoint_in (checkpoint_region g new region) ≡ Some d → log_region g new region ≡ log_region g old region
unsealed_log g region old new low (inl lost) d is = pages_from-same new old (log_at g region) 0 (log_pages g) (λ i within.
    lost_elsewhere (region * k g) (k g) old new lost (log_at g region i) (λ there. checkpoint_no_log g region region _ low low there (log_within g region i (omega arith))))
unsealed_log g region old new low (inr bare) d is = absurd (bare_incomplete g region new d bare.0 is)
