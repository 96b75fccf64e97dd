-- Counts and selections of the entries of a map.
use Rattle.std.specs.Prelude.{◌≡◌, ℕ, Bool, length, filter, count_by, Option, None, Some, if◌then◌else◌}
use Rattle.std.specs.FinMap.{get, entries}
use Rattle.ft_base.specs.declared.geometry.Geometry.{Geometry}
use Rattle.ft_base.specs.declared.block.Place.{Place}
use Rattle.cache_model.specs.declared.entry.Entry.{Entry}
use Rattle.cache_model.specs.Records.{Entries}
use Rattle.cache_model.specs.Entries.{groups_with, page_mapped}
use Rattle.mapping.specs.declared.marks.Mark.{Mark}
use Rattle.mapping.specs.declared.marks.Mark.TheVariants.{Dirty, BlockMapped}

abbrev pub held_count : Entries → ℕ
held_count m = length (entries m)

abbrev pub dirty_count : Entries → ℕ
dirty_count m = count_by (λ x. x.1.dirty) (entries m)

abbrev pub page_mapped_count : Entries → ℕ
page_mapped_count m = length (filter (λ x. page_mapped x.1) (entries m))

-- how many groups have a dirty entry, and how many have a data block
abbrev pub dirty_group_count : Geometry → Entries → ℕ
dirty_group_count g m = length (groups_with g (λ e. e.dirty) m)

abbrev pub data_block_count : Geometry → Entries → ℕ
data_block_count g m = length (groups_with g (λ e. e.block_mapped) m)

-- an entry has the mark
abbrev pub has_mark : Mark → Entry → Bool
has_mark Dirty e = e.dirty
has_mark BlockMapped e = e.block_mapped

-- the address has this place
abbrev pub Owns : Entries → Place → ℕ → Type 0
Owns m at a = (e : Entry) × (get m a ≡ Some e) × (e.place ≡ at)

-- the place and the mark that are known of a held address
abbrev pub place_and_mark : Entry → Place × Bool
place_and_mark e = (e.place, e.dirty)

-- the same of an address in a log block, and of no other
abbrev pub place_if_logged : Option Entry → Option (Place × Bool)
place_if_logged None = None
place_if_logged (Some e) = if e.block_mapped then None else Some (place_and_mark e)
