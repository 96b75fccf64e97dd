-- The bytes of a record, and of a seal's numbers, in a line of 48.
use Rattle.std.specs.Prelude.{◌≡◌, ℕ, ◌+◌, ◌-◌, ◌*◌, ◌<◌, ◌^◌, ◌&&◌, ◌==◌, Bool, true, false, if◌then◌else◌, List, ◌∷◌, [], ◌++◌, take, drop, length, flat_map, Option, None, Some, IsTrue}
use Rattle.std.specs.Int.{w32, w64, w128, to_be_bytes}
use Rattle.ft_base.specs.declared.record.Record.{Record}
use Rattle.ft_base.specs.declared.record.Record.TheVariants.{SetPage, Remove, Clean, SetGroup, RemoveGroup}
use Rattle.cache_model.specs.declared.format.PageKind.{PageKind}
use Rattle.cache_model.specs.declared.format.Seal.{Seal}
use Rattle.cache_model.specs.declared.format.Totals.{Totals}
use Rattle.cache_model.specs.Spelling.{zeros, record_bytes, set_limit, spelled_record, has_widths, is_sound, records_in_range}
use Rattle.cache_model.specs.Reading.{if_spelled, record_in, number}

-- the bytes in front of a record's sets
abbrev pub spelled_front : ℕ → ℕ → ℕ → ℕ → ℕ → List ℕ
spelled_front kind flag page block first = kind ∷ flag ∷ page ∷ 0 ∷ [] ++ to_be_bytes w32 block ++ to_be_bytes w64 first

-- a set of pages, with 16 bytes or with eight
abbrev pub spelled_set : Bool → ℕ → List ℕ
spelled_set true pages = to_be_bytes w128 pages
spelled_set false pages = to_be_bytes w64 pages

-- a record, and zero bytes behind it
abbrev pub spelled_line : Bool → Record → List ℕ
spelled_line wide r = spelled_record wide r ++ zeros (48 - record_bytes wide)

-- the page of a place takes one byte, and a set of pages eight or 16
abbrev pub FitsLine : Bool → Record → Type 0
FitsLine wide (SetPage lba place dirty) = place.page < 256
FitsLine wide (Remove lba) = Unit {0}
FitsLine wide (Clean lba) = Unit {0}
FitsLine wide (SetGroup group block present dirty) = (present < set_limit wide) × (dirty < set_limit wide)
FitsLine wide (RemoveGroup group) = Unit {0}

-- the record that a line spells
unfoldable pub read_line : Bool → List ℕ → Option Record
read_line wide line = if_spelled (spelled_line wide) (λ r. has_widths wide r && is_sound wide r) line (record_in wide line)

-- the line of record i of a page
abbrev pub record_line : Bool → ℕ → List ℕ → List ℕ
record_line wide i page = take (record_bytes wide) (drop (32 + record_bytes wide * i) page) ++ zeros (48 - record_bytes wide)

-- the bytes begin with these records, and a page of this kind may have them
pub record BeginsWith (wide : Bool) (kind : PageKind) (records : List Record) (bytes : List ℕ) : Type 0 where
  pub spelled : take (record_bytes wide * length records) bytes ≡ flat_map (spelled_record wide) records
  pub ranges : IsTrue (records_in_range wide kind records)

-- ---- a seal

-- the totals of a seal, if its format has them
abbrev pub totals_told : ℕ → Totals → Option Totals
totals_told format t = if format == 1 then None else Some t

-- the numbers of the totals take eight bytes each
abbrev pub FitsCounts : Option Totals → Type 0
FitsCounts None = Unit {0}
FitsCounts (Some t) = (t.entries < 2 ^ 64) × (t.dirty < 2 ^ 64)

abbrev pub counts_line : Option Totals → List ℕ
counts_line None = zeros 24
counts_line (Some t) = to_be_bytes w64 t.entries ++ to_be_bytes w64 t.dirty ++ zeros 8

-- the line behind the header of a seal
abbrev pub numbers_line : Seal → Option Totals → List ℕ
numbers_line seal totals = to_be_bytes w32 seal.p ++ to_be_bytes w32 seal.c ++ to_be_bytes w32 seal.l ++ to_be_bytes w32 seal.j
    ++ to_be_bytes w64 seal.size ++ counts_line totals

-- the numbers that a line would be
abbrev pub numbers_in : List ℕ → Seal
numbers_in line = record {
  p = number w32 0 line;
  c = number w32 4 line;
  l = number w32 8 line;
  j = number w32 12 line;
  size = number w64 16 line;
}

abbrev pub counts_in : List ℕ → Totals
counts_in line = record { entries = number w64 24 line; dirty = number w64 32 line }
