-- The entries of two packed maps: log blocks' entries by address, and data blocks by group.
use Rattle.std.specs.Prelude.{[], ◌≡◌, ℕ, ◌/◌, ◌%◌, ◌^◌, ◌≤◌, ◌==◌, ◌&&◌, false, if◌then◌else◌, List, ◌∷◌, ◌++◌, map, Option, None, Some}
use Rattle.std.specs.Ordering.{nat_cmp}
use Rattle.std.specs.FinMap.{FinMap, get, entries}
use Rattle.ft_base.specs.declared.geometry.Geometry.{Geometry}
use Rattle.ft_base.specs.declared.record.Record.{Record}
use Rattle.ft_base.specs.declared.record.Record.TheVariants.{SetPage, SetGroup}
use Rattle.cache_model.specs.declared.entry.Entry.{Entry}
use Rattle.cache_model.specs.Records.{Entries, no_entries, after, has_bit, page_of_group}
use Rattle.block_map.specs.PageSets.{BlockPages, IsSoundBlock}
use Rattle.sparse_map.specs.Packed.{PackedTable, map_of, buckets_of, IsSound}
use Rattle.mapping.specs.MappedPages.{MappedPage}
use Rattle.mapping.specs.Checkpoint.{set_group_of}

-- mapped pages by address, and data blocks by group
abbrev pub Pages : Type 0
Pages = FinMap nat_cmp MappedPage

abbrev pub Blocks : Type 0
Blocks = FinMap nat_cmp BlockPages

-- the records that set them
abbrev pub page_record : ℕ × MappedPage → Record
page_record x = SetPage x.0 x.1.place x.1.dirty

abbrev pub block_record : ℕ × BlockPages → Record
block_record x = SetGroup x.0 x.1.block x.1.present x.1.dirty

-- the entries once all of these data blocks are set
abbrev pub with_data_blocks : Geometry → List (ℕ × BlockPages) → Entries
with_data_blocks g [] = no_entries
with_data_blocks g (x ∷ xs) = after g (block_record x) (with_data_blocks g xs)

abbrev pub with_logs : Geometry → List (ℕ × MappedPage) → Entries → Entries
with_logs g [] m = m
with_logs g (x ∷ xs) m = after g (page_record x) (with_logs g xs m)

unfoldable pub packed_entries : Geometry → Pages → Blocks → Entries
packed_entries g pages blocks = with_logs g (entries pages) (with_data_blocks g (entries blocks))

-- the entry of a page of a data block, if there is one
abbrev pub page_in : Option BlockPages → ℕ → Option Entry
page_in None i = None
page_in (Some b) i = page_of_group b.block b.present b.dirty i

-- each data block has pages, all of them below P, and each of its dirty pages is present
pub record AreBlocks (g : Geometry) (blocks : Blocks) : Type 0 where
  pub sound : (k : ℕ) (b : BlockPages) → get blocks k ≡ Some b → IsSoundBlock b
  pub below : (k : ℕ) (b : BlockPages) → get blocks k ≡ Some b → (i : ℕ) → g.p ≤ i → has_bit b.present i ≡ false

-- no address has a mapped page and a page of a data block
abbrev pub AreDisjoint : Geometry → Pages → Blocks → Type 0
AreDisjoint g pages blocks = (a : ℕ) (x : MappedPage) → get pages a ≡ Some x → page_in (get blocks (a / g.p)) (a % g.p) ≡ None

-- the facts that two packed maps keep
pub record IsPackedMap (g : Geometry) (pages : PackedTable MappedPage) (blocks : PackedTable BlockPages) : Type 0 where
  pub pages_sound : IsSound pages
  pub blocks_sound : IsSound blocks
  pub are_blocks : AreBlocks g (map_of blocks)
  pub apart : AreDisjoint g (map_of pages) (map_of blocks)
  pub few_pages : buckets_of pages ≤ 2 ^ 32
  pub few_blocks : buckets_of blocks ≤ 2 ^ 32

-- the records of a checkpoint: the records of the data blocks, and then the records of the mapped pages, in the order
-- of these lists
abbrev pub records_of : Geometry → Entries → List (ℕ × MappedPage) → List (ℕ × BlockPages) → List Record
records_of g m pages blocks = map (λ x. set_group_of g m x.0) blocks ++ map page_record pages

-- the blocks with this page of the group left out
pub record IsLeftOut (g : Geometry) (old new : Blocks) (group page : ℕ) : Type 0 where
  pub others : (k i : ℕ) → page_in (get new k) i ≡ (if (k == group) && (i == page) then None else page_in (get old k) i)
  pub blocks : AreBlocks g old → AreBlocks g new

-- the parts that the layers within see: the entries, the room for new pages and new blocks, and the records of a
-- checkpoint. Also the buckets of the mapped pages and of the data blocks
pub record HeldValue : Type 0 where
  pub geometry : Geometry
  pub entries : Entries
  pub spare_pages : ℕ
  pub spare_blocks : ℕ
  pub records : List Record
  pub buckets : ℕ
  pub group_buckets : ℕ
