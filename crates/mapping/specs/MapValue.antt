-- The parts of a map that the layers above see.
use Rattle.std.specs.Prelude.{ℕ, List, Bool, refl}
use Rattle.std.specs.FinMap.{code}
use Rattle.std.specs.Coded.{Coded, code_by, coded×, coded_ℕ, coded_bool}
use Rattle.ft_base.specs.declared.block.Place.{Place}
use Rattle.ft_base.specs.declared.geometry.Geometry.{Geometry}
use Rattle.ft_base.specs.declared.record.Record.{Record}
use Rattle.ft_base.specs.declared.record.Record.TheVariants.{SetPage, Remove, Clean, SetGroup, RemoveGroup}
use Rattle.cache_model.specs.declared.entry.Entry.{Entry}
use Rattle.cache_model.specs.Records.{Entries}

-- places, entries and maps of entries, as data that can be compared
abbrev pub place_code : Coded Place
place_code = code_by (ℕ × ℕ) (coded× coded_ℕ coded_ℕ) (λ p. (p.block, p.page)) (λ x. record { block = x.0; page = x.1 }) (λ _. refl)

abbrev pub entry_code : Coded Entry
entry_code = code_by (Place × (Bool × Bool)) (coded× place_code (coded× coded_bool coded_bool)) (λ e. (e.place, (e.dirty, e.block_mapped)))
    (λ x. record { place = x.0; dirty = x.1.0; block_mapped = x.1.1 }) (λ _. refl)

abbrev pub entries_code : Coded Entries
entries_code = code coded_ℕ entry_code

-- a map of a geometry: its entries, and for how many changes of a page and of a group it has room. Also the records of
-- a checkpoint in its own order, and the buckets of its page-mapped part and of its groups with a data block
pub record MapValue : Type 0 where
  pub geometry : Geometry
  pub entries : Entries
  pub spare_pages : ℕ
  pub spare_groups : ℕ
  pub records : List Record
  pub buckets : ℕ
  pub group_buckets : ℕ

-- how much room a record takes
abbrev pub pages_taken : Record → ℕ
pages_taken (SetPage lba place dirty) = 1
pages_taken (Remove lba) = 0
pages_taken (Clean lba) = 0
pages_taken (SetGroup group block present dirty) = 0
pages_taken (RemoveGroup group) = 0

abbrev pub groups_taken : Record → ℕ
groups_taken (SetPage lba place dirty) = 0
groups_taken (Remove lba) = 0
groups_taken (Clean lba) = 0
groups_taken (SetGroup group block present dirty) = 1
groups_taken (RemoveGroup group) = 0
