-- The facts about the entries that are looked for before a change is taken.
use Rattle.std.specs.Prelude.{◌≡◌, ℕ, ◌+◌, ◌*◌, ◌/◌, ◌<◌, ◌≤◌, true, Some}
use Rattle.std.specs.FinMap.{get}
use Rattle.ft_base.specs.declared.geometry.Geometry.{Geometry}
use Rattle.ft_base.specs.Layout.{first_pool, blocks}
use Rattle.cache_model.specs.Records.{Entries, has_bit}
use Rattle.cache_model.specs.declared.entry.Entry.{Entry}

-- the set has one of the first `pages` pages
abbrev pub HasPageBelow : ℕ → ℕ → Type 0
HasPageBelow set pages = (i : ℕ) × (i < pages) × (has_bit set i ≡ true)

-- the present pages of the group are below the size of the volume
abbrev pub EndsBelowSize : Geometry → ℕ → ℕ → Type 0
EndsBelowSize g group present = (i : ℕ) → i < g.p → has_bit present i ≡ true → group * g.p + i < g.size

-- if a page is present, the erase block is one of the pool and has no entry of another group; and the present pages are
-- below the size
pub record BlockMayCome (g : Geometry) (group block present : ℕ) (m : Entries) : Type 0 where
  pub sizes : EndsBelowSize g group present
  pub pool : (i : ℕ) → i < g.p → has_bit present i ≡ true → (first_pool g ≤ block) × (block < blocks g)
  pub foreign : (i : ℕ) → i < g.p → has_bit present i ≡ true → (a : ℕ) (e : Entry) → get m a ≡ Some e → (a / g.p ≡ group → ⊥)
      → e.place.block ≡ block → ⊥
