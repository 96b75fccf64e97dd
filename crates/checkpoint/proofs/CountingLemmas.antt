-- A checkpoint has at most as many records as its region has room for.
use Rattle.std.proofs.Common.{◌≡◌, ℕ, ◌+◌, ◌*◌, ◌<◌, ◌≤◌, List, length, map, filter, inl, inr, sym, ◌∙◌, ap, subst, arith, length-append}
use Rattle.std.specs.FinMap.{entries}
use Rattle.std.proofs.lemmas.Bool.{cases_lt}
use Rattle.std.proofs.lemmas.List.{length-map}
use Rattle.ft_base.specs.declared.geometry.Geometry.{Geometry}
use Rattle.ft_base.specs.Layout.{rounded_up, most_records, page_records, pages_for, checkpoint_pages}
use Rattle.cache_model.specs.Records.{Entries}
use Rattle.cache_model.specs.Entries.{groups_with, page_mapped, IsMap}
use Rattle.ft_base.proofs.LayoutLemmas.{k_holds, q_some, up_least, up_more}
use Rattle.ft_base.specs.declared.record.Record.{Record}
use Rattle.mapping.specs.Checkpoint.{IsCheckpointOf, set_group_of, set_page_of}
use Rattle.checkpoint.specs.Regions.{map_pages}
use Rattle.mapping.proofs.FewLemmas.{pages_few}
use Rattle.checkpoint.proofs.PlacesLemmas.{product}

-- one record for each group with a data block, and one for each page-mapped entry
pub records_counted : (g : Geometry) (m : Entries) (records : List Record) → IsCheckpointOf g m records → length records ≡ length (groups_with g (λ e. e.block_mapped) m) + length (filter (λ x. page_mapped x.1) (entries m))
records_counted g m records listed =
    let same = ap length listed.are in
    let both = length-append (map (set_group_of g m) listed.groups) (map set_page_of listed.pages) in
    let in_groups = length-map listed.groups (set_group_of g m) in
    let in_pages = length-map listed.pages set_page_of in
    let once = listed.of_groups.once in
    let once' = listed.of_pages.once in
    omega arith

module _ (g : Geometry) (m : Entries) (is_map : IsMap g m) where
  pub records_few : (records : List Record) → IsCheckpointOf g m records → length records ≤ most_records g
  records_few records listed =
      let count = records_counted g m records listed in
      let few = pages_few g m is_map in
      let few' = is_map.data_blocks in
      omega arith

  pub records_bounded : (records : List Record) → IsCheckpointOf g m records → length records ≤ 8704
  records_bounded records listed =
      let few = records_few records listed in
      let pages = product g.l 64 g.p g.in_range.l_high in
      omega (arith, g.in_range.c_high, g.in_range.p_high)

  -- the map pages and the seal fit the region
  pub maps_fit : (records : List Record) → IsCheckpointOf g m records → map_pages g records < checkpoint_pages g
  maps_fit records listed =
      let more = up_more (length records) (most_records g) (page_records g) (omega (arith, q_some g)) (records_few records listed) in
      let fits : pages_for g (most_records g) ≤ checkpoint_pages g = k_holds g in
      omega (arith, more, fits)

-- before the last map page some records are left
pub more_left : (g : Geometry) (records : List Record) (i pages : ℕ) → pages ≡ map_pages g records → i < pages → page_records g * i < length records
more_left g records i pages count low = elim (cases_lt (page_records g * i) (length records)) [
  | inl less ↦ less
  | inr all ↦
      let few = up_least (length records) (page_records g) i (omega (arith, q_some g)) (omega (arith, all)) in
      absurd (omega (arith, few, count, low))
]

-- a listing of a map of this geometry
pub listing_here : (g' g : Geometry) (m : Entries) (records : List Record) → g' ≡ g → IsCheckpointOf g' m records → IsCheckpointOf g m records
listing_here g' g m records same listed = subst (λ (x : Geometry). IsCheckpointOf x m records) same listed

-- the map pages of this many records, and the seal, fit the region
pub pages_fit : (g' g : Geometry) (m : Entries) (records : List Record) (n pages : ℕ) → pages ≡ rounded_up n (page_records g) → g' ≡ g → IsMap g m → IsCheckpointOf g' m records → n ≡ length records → pages < checkpoint_pages g
pages_fit g' g m records n pages count same is_map listed is = subst (λ k. k < checkpoint_pages g) (sym (count ∙ ap (λ k. rounded_up k (page_records g)) is)) (maps_fit g m is_map records (listing_here g' g m records same listed))
