-- The entries that are looked for: in an erase block, or in a group.
use Rattle.std.specs.Prelude.{◌≡◌, ℕ, ◌/◌, ◌<◌, ◌==◌, ◌&&◌, ◌⊎◌, Bool, true, false, not, length, Option, None, Some, if◌then◌else◌}
use Rattle.std.specs.FinMap.{get}
use Rattle.ft_base.specs.declared.geometry.Geometry.{Geometry}
use Rattle.ft_base.specs.declared.block.Place.{Place}
use Rattle.cache_model.specs.declared.entry.Entry.{Entry}
use Rattle.cache_model.specs.Records.{Entries}
use Rattle.cache_model.specs.Entries.{groups_with}
use Rattle.mapping.specs.declared.marks.Mark.{Mark}
use Rattle.mapping.specs.declared.seeking.Sought.{Sought}
use Rattle.mapping.specs.declared.seeking.Sought.TheVariants.{Any, Mapped, MappedBeside, Outside}
use Rattle.mapping.specs.Counts.{has_mark}

-- the entry of an address is one of the entries that are looked for
abbrev pub seeks : Geometry → Sought → ℕ → Entry → Bool
seeks g Any a e = true
seeks g Mapped a e = e.block_mapped
seeks g (MappedBeside lba) a e = not (a == lba) && e.block_mapped
seeks g (Outside group) a e = not (a / g.p == group)

-- such an entry stands in the erase block
abbrev pub IsFoundIn : Geometry → Sought → Entries → ℕ → ℕ → Type 0
IsFoundIn g sought m block a = (e : Entry) × (get m a ≡ Some e) × (e.place.block ≡ block) × (seeks g sought a e ≡ true)

abbrev pub IsNotIn : Geometry → Sought → Entries → ℕ → Type 0
IsNotIn g sought m block = (a : ℕ) (e : Entry) → get m a ≡ Some e → e.place.block ≡ block → seeks g sought a e ≡ true → ⊥

-- such an entry stands at the page
abbrev pub IsFoundAt : Geometry → Sought → Entries → Place → ℕ → Type 0
IsFoundAt g sought m at a = (e : Entry) × (get m a ≡ Some e) × (e.place ≡ at) × (seeks g sought a e ≡ true)

abbrev pub IsNotAt : Geometry → Sought → Entries → Place → Type 0
IsNotAt g sought m at = (a : ℕ) (e : Entry) → get m a ≡ Some e → e.place ≡ at → seeks g sought a e ≡ true → ⊥

-- another address than `lba` has the page
abbrev pub IsTaken : Entries → ℕ → Place → Type 0
IsTaken m lba at = (a : ℕ) × (e : Entry) × (get m a ≡ Some e) × (a ≡ lba → ⊥) × (e.place ≡ at)

-- the entry of the address has the mark
abbrev pub HasMarkAt : Entries → Mark → ℕ → Type 0
HasMarkAt m mark a = (e : Entry) × (get m a ≡ Some e) × (has_mark mark e ≡ true)

-- an entry of the group has the mark
abbrev pub HasMarkIn : Geometry → Entries → Mark → ℕ → Type 0
HasMarkIn g m mark group = (a : ℕ) × (a / g.p ≡ group) × HasMarkAt m mark a

-- this group may come to have the mark or not: it may have it if fewer than C groups have the mark, or this one already
-- does
abbrev pub MayHave : Geometry → Entries → Mark → ℕ → Bool → Type 0
MayHave g m mark group has = (has ≡ false) ⊎ ((length (groups_with g (has_mark mark) m) < g.c) ⊎ HasMarkIn g m mark group)

-- the log block in which an entry stands
abbrev pub log_block : Option Entry → Option ℕ
log_block None = None
log_block (Some e) = if e.block_mapped then None else Some e.place.block
