-- The index that is kept beside the entries: the owner of each page of the pool, how many mapped pages each erase block
-- has, and counts.
use Rattle.std.specs.Prelude.{◌≡◌, ℕ, zero, suc, ◌+◌, ◌<◌, ◌==◌, ◌&&◌, Bool, true, List, map, filter, length, slice_index_or, Option, None, Some}
use Rattle.std.specs.FinMap.{get, remove, entries}
use Rattle.ft_base.specs.declared.geometry.Geometry.{Geometry}
use Rattle.ft_base.specs.Layout.{first_pool}
use Rattle.cache_model.specs.declared.entry.Entry.{Entry}
use Rattle.cache_model.specs.Records.{Entries}
use Rattle.cache_model.specs.Entries.{each_once, blocks_with, page_mapped, IsMap}
use Rattle.mapping.specs.declared.index.LogCounts.{LogCounts}
use Rattle.mapping.specs.declared.index.Index.{Index}
use Rattle.mapping.specs.Numbers.{pool_pages, number_of}

-- how many addresses have an entry that passes a test
abbrev pub tally : (Entry → Bool) → Entries → ℕ
tally test m = length (each_once (map (λ x. x.0) (filter (λ x. test x.1) (entries m))))

abbrev pub is_any : Entry → Bool
is_any e = true

-- the entry stands in this block, and it is a log block
abbrev pub is_mapped_in : ℕ → Entry → Bool
is_mapped_in block e = page_mapped e && (e.place.block == block)

-- the list has the owner of each page of the pool
pub record OwnersAre (g : Geometry) (m : Entries) (owners : List (Option ℕ)) : Type 0 where
  pub long : length owners ≡ pool_pages g
  pub owner : (a : ℕ) (e : Entry) → get m a ≡ Some e → slice_index_or owners (number_of g e.place) None ≡ Some a
  pub owned : (i a : ℕ) → slice_index_or owners i None ≡ Some a → (e : Entry) × (get m a ≡ Some e) × (number_of g e.place ≡ i)

-- how many mapped pages each erase block of the pool has, and how many of these blocks have some
pub record LogsAre (g : Geometry) (m : Entries) (logs : LogCounts) : Type 0 where
  pub long : length logs.pages.items ≡ g.c + g.l + 1
  pub pages : (b : ℕ) → b < g.c + g.l + 1 → slice_index_or logs.pages.items b 0 ≡ tally (is_mapped_in (first_pool g + b)) m
  pub used : logs.used ≡ length (blocks_with page_mapped m)

-- all parts of the index belong to these entries
pub record IsIndex (g : Geometry) (m : Entries) (index : Index) : Type 0 where
  pub owners : OwnersAre g m index.owners.items
  pub logs : LogsAre g m index.logs
  pub held : index.held ≡ tally is_any m
  pub dirty : index.dirty ≡ tally (λ e. e.dirty) m

-- the entries are a map of the geometry, and the index is theirs
pub record IsIndexed (g : Geometry) (m : Entries) (kept : Index) : Type 0 where
  pub map : IsMap g m
  pub index : IsIndex g m kept

-- the entries without the entries of n addresses from `first` on
abbrev pub without_range : Entries → ℕ → ℕ → Entries
without_range m first zero = m
without_range m first (suc n) = remove (without_range m first n) (first + n)
