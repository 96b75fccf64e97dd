-- How many buckets there are after a reservation: the old number, or 32 instead of none, doubled as often as the items
-- and the new ones ask, and no oftener. Also what other calls keep.
use Rattle.std.specs.Prelude.{◌≡◌, ◌≤◌, ℕ, ◌+◌, ◌*◌, max}
use Rattle.ft_base.specs.declared.geometry.Geometry.{Geometry}
use Rattle.ft_base.specs.Layout.{most_page_records}
use Rattle.cache_model.specs.Entries.{IsMap}
use Rattle.cache_model.specs.Buckets.{AreFewFor}
use Rattle.sparse_map.specs.Home.{IsDoubledFor}
use Rattle.mapping.specs.Counts.{page_mapped_count, data_block_count}
use Rattle.mapping.specs.MapValue.{MapValue}
use Rattle.mapping.specs.Packed.{HeldValue}

-- the buckets grew for `more` page-mapped addresses, and for `more` groups with a data block
abbrev pub GrewForPages : MapValue → MapValue → ℕ → Type 0
GrewForPages old new more = IsDoubledFor (page_mapped_count old.entries + more) old.buckets new.buckets

abbrev pub GrewForGroups : MapValue → MapValue → ℕ → Type 0
GrewForGroups old new more = IsDoubledFor (data_block_count old.geometry old.entries + more) old.group_buckets new.group_buckets

-- the most groups that room is made for: as many as the records of one page set, or as the pages of an erase block
abbrev pub most_groups : Geometry → ℕ
most_groups g = max most_page_records g.p

-- there is room for at most as many pages as the records of one page set, and for few groups. The buckets are few for
-- all page-mapped addresses, and all groups with a data block, of a map of its geometry, and that room
pub record HasFewBuckets (m : MapValue) : Type 0 where
  pub pages : m.spare_pages ≤ most_page_records
  pub groups : m.spare_groups ≤ most_groups m.geometry
  pub buckets : AreFewFor (m.geometry.l * m.geometry.p + most_page_records) m.buckets
  pub group_buckets : AreFewFor (m.geometry.c + most_groups m.geometry) m.group_buckets

-- a map of its geometry stays one, and if it had few buckets it still has few
pub record KeepsFewBuckets (old new : MapValue) : Type 0 where
  pub is_map : IsMap old.geometry old.entries → IsMap new.geometry new.entries
  pub few : IsMap old.geometry old.entries → HasFewBuckets old → HasFewBuckets new

-- there is no more room than there was
pub record HasNoMoreRoom (old new : MapValue) : Type 0 where
  pub pages : new.spare_pages ≤ old.spare_pages
  pub groups : new.spare_groups ≤ old.spare_groups

-- the numbers of buckets are unchanged
pub record KeepsBuckets (old new : MapValue) : Type 0 where
  pub pages : new.buckets ≡ old.buckets
  pub groups : new.group_buckets ≡ old.group_buckets

-- how the two packed maps within a map grew
abbrev pub LogsGrew : HeldValue → HeldValue → ℕ → Type 0
LogsGrew old new more = IsDoubledFor (page_mapped_count old.entries + more) old.buckets new.buckets

abbrev pub BlocksGrew : HeldValue → HeldValue → ℕ → Type 0
BlocksGrew old new more = IsDoubledFor (data_block_count old.geometry old.entries + more) old.group_buckets new.group_buckets

-- the geometry and the numbers of buckets stay
pub record KeepsTables (old new : HeldValue) : Type 0 where
  pub geometry : new.geometry ≡ old.geometry
  pub buckets : new.buckets ≡ old.buckets
  pub group_buckets : new.group_buckets ≡ old.group_buckets

-- the tables stay, and so does the room for new pages and new data blocks
pub record KeepsReserved (old new : HeldValue) : Type 0 where
  pub tables : KeepsTables old new
  pub pages : new.spare_pages ≡ old.spare_pages
  pub blocks : new.spare_blocks ≡ old.spare_blocks
