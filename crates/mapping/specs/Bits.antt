-- Sets of pages of a group, as numbers: the bit of value 2^i for page i.
use Rattle.std.specs.Prelude.{◌≡◌, ℕ, zero, suc, ◌+◌, ◌*◌, ◌/◌, ◌^◌, ◌<◌, ◌&&◌, Bool, true, false, if◌then◌else◌, Option, None, Some, IfSome, IfNone}
use Rattle.std.specs.FinMap.{get}
use Rattle.ft_base.specs.declared.geometry.Geometry.{Geometry}
use Rattle.cache_model.specs.declared.entry.Entry.{Entry}
use Rattle.cache_model.specs.Records.{Entries}
use Rattle.block_map.specs.PageSets.{BlockPages}
use Rattle.mapping.specs.declared.bits.Choice.{Choice}
use Rattle.mapping.specs.declared.bits.Choice.TheVariants.{Held, Dirty, Mapped, MappedDirty}

-- the set of the pages below n that pass a test
abbrev pub set_of : (ℕ → Bool) → ℕ → ℕ
set_of test zero = 0
set_of test (suc n) = set_of test n + (if test n then 2 ^ n else 0)

-- the entry is one of the chosen entries
abbrev pub is_chosen : Choice → Option Entry → Bool
is_chosen choice None = false
is_chosen Held (Some e) = true
is_chosen Dirty (Some e) = e.dirty
is_chosen Mapped (Some e) = e.block_mapped
is_chosen MappedDirty (Some e) = e.block_mapped && e.dirty

-- the chosen pages of a group
abbrev pub chosen_of : Choice → Geometry → Entries → ℕ → ℕ
chosen_of choice g m group = set_of (λ i. is_chosen choice (get m (group * g.p + i))) g.p

-- the entries that the group has in a data block are all in this one
abbrev pub StandIn : Geometry → Entries → ℕ → ℕ → Type 0
StandIn g m group block = (a : ℕ) (e : Entry) → get m a ≡ Some e → e.block_mapped ≡ true → a / g.p ≡ group → e.place.block ≡ block

-- the data block of the group, and its present and dirty pages
pub record IsDataBlock (g : Geometry) (m : Entries) (group : ℕ) (pages : BlockPages) : Type 0 where
  pub stands : StandIn g m group pages.block
  pub present : pages.present ≡ chosen_of Mapped g m group
  pub dirty : pages.dirty ≡ chosen_of MappedDirty g m group
  pub some : 0 < pages.present

-- the data block of the group, or none if it has none
pub record IsBlockOf (g : Geometry) (m : Entries) (group : ℕ) (block : Option BlockPages) : Type 0 where
  pub some : IfSome block (IsDataBlock g m group)
  pub none : IfNone block (chosen_of Mapped g m group ≡ 0)
