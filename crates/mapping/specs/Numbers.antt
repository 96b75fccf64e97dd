-- Numbers of the pages of the pool, by which the entries are numbered.
use Rattle.std.specs.Prelude.{◌≡◌, ℕ, ◌+◌, ◌-◌, ◌*◌, ◌/◌, ◌<◌, true, Some}
use Rattle.std.specs.FinMap.{get}
use Rattle.ft_base.specs.declared.geometry.Geometry.{Geometry}
use Rattle.ft_base.specs.declared.block.Place.{Place}
use Rattle.ft_base.specs.Layout.{first_pool}
use Rattle.cache_model.specs.declared.entry.Entry.{Entry}
use Rattle.cache_model.specs.Records.{Entries}
use Rattle.mapping.specs.Counts.{Owns}

-- how many pages the pool has
abbrev pub pool_pages : Geometry → ℕ
pool_pages g = (g.c + g.l + 1) * g.p

-- the number of a page of the pool, block after block
abbrev pub number_of : Geometry → Place → ℕ
number_of g at = (at.block - first_pool g) * g.p + at.page

-- the entry whose page has the number: its address and its place
pub record HasNumber (g : Geometry) (m : Entries) (i : ℕ) (x : ℕ × Place) : Type 0 where
  pub owns : Owns m x.1 x.0
  pub number : number_of g x.1 ≡ i

-- no entry has a page with this number
abbrev pub HasNone : Geometry → Entries → ℕ → Type 0
HasNone g m i = (a : ℕ) (e : Entry) → get m a ≡ Some e → number_of g e.place ≡ i → ⊥

-- each entry has a number below this one
abbrev pub AreNumbered : Geometry → Entries → ℕ → Type 0
AreNumbered g m numbers = (a : ℕ) (e : Entry) → get m a ≡ Some e → number_of g e.place < numbers

-- no entry stands in the erase block
abbrev pub StandsNoneIn : Entries → ℕ → Type 0
StandsNoneIn m block = (a : ℕ) (e : Entry) → get m a ≡ Some e → e.place.block ≡ block → ⊥

-- the erase block is the data block of the group
abbrev pub IsGroupIn : Geometry → Entries → ℕ → ℕ → Type 0
IsGroupIn g m block group = (a : ℕ) × (e : Entry) × (get m a ≡ Some e) × (e.block_mapped ≡ true) × (e.place.block ≡ block)
    × (a / g.p ≡ group)

-- the erase block is not a data block
abbrev pub IsNoDataBlock : Entries → ℕ → Type 0
IsNoDataBlock m block = (a : ℕ) (e : Entry) → get m a ≡ Some e → e.block_mapped ≡ true → e.place.block ≡ block → ⊥
