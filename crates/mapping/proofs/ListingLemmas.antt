-- The records of a checkpoint in the order of the buckets: each data block and each mapped page once.
use Rattle.std.proofs.Common.{◌≡◌, ℕ, zero, suc, ◌+◌, ◌*◌, ◌/◌, ◌%◌, ◌^◌, ◌<◌, ◌≤◌, ◌==◌, ◌||◌, Bool, true, false, cond, not, List, [], ◌∷◌, ◌++◌, length, map}
use Rattle.std.proofs.Common.{filter, Option, Some, None, Result, Ok, Err, OnOk, OnErr, refl, sym, ◌∙◌, ap, ap₂, subst, arith, inl, inr, ◌⊎◌, nat_cmp, nat_le, eqb-true, eq-eqb, ne_eqb}
use Rattle.std.specs.Bool.{then_some}
use Rattle.std.specs.List.{AllByRecursion}
use Rattle.std.specs.FinMap.{get, entries, find}
use Rattle.std.proofs.lemmas.Bool.{cases_Bool, cases_eq, both_ways, or_left, or_right}
use Rattle.std.proofs.lemmas.List.{length-map}
use Rattle.std.proofs.lemmas.Nat.{div-mul-add, mod-mul-add}
use Rattle.std.proofs.lemmas.Option.{same_Some}
use Rattle.ft_base.specs.declared.geometry.Geometry.{Geometry}
use Rattle.ft_base.specs.declared.record.Record.{Record}
use Rattle.cache_model.specs.declared.entry.Entry.{Entry}
use Rattle.cache_model.specs.Records.{has_bit, in_log_block}
use Rattle.cache_model.specs.Entries.{each_once, groups_with, page_mapped}
use Rattle.cache_model.proofs.MapLemmas.{eq_key}
use Rattle.cache_model.proofs.CountLemmas.{member, numbers, same_number, each_once-same, each_once-no_longer}
use Rattle.block_map.specs.PageSets.{BlockPages}
use Rattle.block_map.proofs.PageSetLemmas.{empty_set}
use Rattle.sparse_map.specs.Home.{IsDoubledFor}
use Rattle.sparse_map.specs.Slots.{items_of}
use Rattle.sparse_map.specs.Moved.{IsDistinct}
use Rattle.sparse_map.specs.Packed.{PackedTable, map_of, len_of, buckets_of, IsSound}
use Rattle.sparse_map.proofs.MapLemmas.{get-map_of, IsDistinct-items_of, len_of-items}
use Rattle.mapping.specs.MappedPages.{MappedPage}
use Rattle.mapping.specs.Checkpoint.{set_group_of, set_page_of, IsCheckpointOf}
use Rattle.mapping.specs.Bits.{IsDataBlock}
use Rattle.mapping.specs.Counts.{page_mapped_count, data_block_count}
use Rattle.mapping.specs.Packed.{HeldValue, page_record, block_record, packed_entries, page_in, IsPackedMap, records_of}
use Rattle.mapping.proofs.Words.{entry_in}
use Rattle.cache_model.specs.Buckets.{AreBucketsFor}
use Rattle.mapping.proofs.MarksLemmas.{same_bools, member_from, member_to}
use Rattle.mapping.proofs.PackedLemmas.{get_held, data_block_is}
use Rattle.mapping.proofs.ChosenLemmas.{blocks_as}
use Rattle.mapping.proofs.FewLemmas.{start_or_few}
use Rattle.mapping.proofs.TallyLemmas.{tally_is}
use Rattle.mapping.proofs.SeekingLemmas.{none_some}

-- ---- a list in which no key comes twice

module _ {V : Type 0} where
  keys : List (ℕ × V) → List ℕ
  keys es = map (λ (x : ℕ × V). x.0) es

  member_found : (k : ℕ) (es : List (ℕ × V)) → member k (map (λ (x : ℕ × V). x.0) es) ≡ true → (v : V) × (find nat_cmp k es ≡ Some v)
  member_found k [] t = absurd (cc)
  member_found k (e ∷ es) t = elim (cases_Bool (k == e.0)) [
    | inl y ↦ (e.1, ap (λ b. cond b (Some e.1) (find nat_cmp k es)) (eq_key k e.0 ∙ y))
    | inr f ↦
        let later = member_found k es (rest (e.0 == k) (member k (map (λ (x : ℕ × V). x.0) es)) t (ne_eqb e.0 k (λ s. both_ways (k == e.0) f (eq-eqb k e.0 (sym s))))) in
        (later.0, ap (λ b. cond b (Some e.1) (find nat_cmp k es)) (eq_key k e.0 ∙ f) ∙ later.1)
  ]
    where
      rest : (a b : Bool) → (a || b) ≡ true → a ≡ false → b ≡ true
      rest true b t f = absurd (both_ways true f refl)
      rest false b t f = t

  found_member : (k : ℕ) (v : V) (es : List (ℕ × V)) → find nat_cmp k es ≡ Some v → member k (map (λ (x : ℕ × V). x.0) es) ≡ true
  found_member k v [] is = none_some v is
  found_member k v (e ∷ es) is = elim (cases_Bool (k == e.0)) [
    | inl y ↦ or_left (e.0 == k) (member k (map (λ (x : ℕ × V). x.0) es)) (eq-eqb e.0 k (sym (eqb-true k e.0 y)))
    | inr f ↦ or_right (e.0 == k) (member k (map (λ (x : ℕ × V). x.0) es)) (found_member k v es (sym (ap (λ b. cond b (Some e.1) (find nat_cmp k es)) (eq_key k e.0 ∙ f)) ∙ is))
  ]

  distinct_once : (es : List (ℕ × V)) → IsDistinct es → length (each_once (map (λ (x : ℕ × V). x.0) es)) ≡ length es
  distinct_once [] d = refl
  distinct_once (e ∷ es) d = ap (λ b. length (cond b (each_once (map (λ (x : ℕ × V). x.0) es)) (e.0 ∷ each_once (map (λ (x : ℕ × V). x.0) es)))) (absent (member e.0 (map (λ (x : ℕ × V). x.0) es)) refl) ∙ ap suc (distinct_once es d.1)
    where
      absent : (b : Bool) → member e.0 (map (λ (x : ℕ × V). x.0) es) ≡ b → b ≡ false
      absent false is = refl
      absent true is = let x = member_found e.0 es is in none_some x.0 (sym d.0 ∙ x.1)

  distinct_found : (es : List (ℕ × V)) → IsDistinct es → (P : ℕ → V → Type 0) → ((k : ℕ) (v : V) → find nat_cmp k es ≡ Some v → P k v) → AllByRecursion (λ x. P x.0 x.1) es
  distinct_found [] d P each = tt
  distinct_found (e ∷ es) d P each = (
    each e.0 e.1 (ap (λ b. cond b (Some e.1) (find nat_cmp e.0 es)) (eq_key e.0 e.0 ∙ same_number e.0)),
    distinct_found es d.1 P (λ k v is. each k v (ap (λ b. cond b (Some e.1) (find nat_cmp k es)) (eq_key k e.0 ∙ ne_eqb k e.0 (λ s. none_some v (sym d.0 ∙ ap (λ n. find nat_cmp n es) (sym s) ∙ is))) ∙ is)),
  )

  module _ (t : PackedTable V) (sound : IsSound t) where
    distinct : IsDistinct (items_of t.slots)
    distinct = IsDistinct-items_of t.slots sound.packed.once

    pub all_items : (P : ℕ → V → Type 0) → ((k : ℕ) (v : V) → get (map_of t) k ≡ Some v → P k v) → AllByRecursion (λ x. P x.0 x.1) (items_of t.slots)
    all_items P each = distinct_found (items_of t.slots) distinct P (λ k v is. each k v (get-map_of t k ∙ is))

    pub key_there : (k : ℕ) (v : V) → get (map_of t) k ≡ Some v → member k (map (λ (x : ℕ × V). x.0) (items_of t.slots)) ≡ true
    key_there k v is = found_member k v (items_of t.slots) (sym (get-map_of t k) ∙ is)

    pub there_key : (k : ℕ) → member k (map (λ (x : ℕ × V). x.0) (items_of t.slots)) ≡ true → (v : V) × (get (map_of t) k ≡ Some v)
    there_key k mem = let x = member_found k (items_of t.slots) mem in (x.0, get-map_of t k ∙ x.1)

    pub keys_once : length (each_once (map (λ (x : ℕ × V). x.0) (items_of t.slots))) ≡ length (items_of t.slots)
    keys_once = distinct_once (items_of t.slots) distinct

-- ---- a set that has a page

search_page : (set n : ℕ) → ((i : ℕ) × (i < n) × (has_bit set i ≡ true)) ⊎ ((i : ℕ) → i < n → has_bit set i ≡ false)
search_page set zero = inr (λ i low. absurd (omega arith))
search_page set (suc n) = elim (cases_Bool (has_bit set n)) [
  | inl t ↦ inl (n, omega arith, t)
  | inr f ↦ elim (search_page set n) [
    | inl x ↦ inl (x.0, before x.0 n x.1, x.2)
    | inr none ↦ inr (λ i low. elim (cases_eq i n) [
      | inl same ↦ ap (has_bit set) same ∙ f
      | inr other ↦ none i (omega arith)
    ])
  ]
]
  where
    before : (i n : ℕ) → i < n → i < suc n
    before i n low = omega arith

pub some_page : (set p : ℕ) → 0 < set → ((i : ℕ) → p ≤ i → has_bit set i ≡ false) → (i : ℕ) × (i < p) × (has_bit set i ≡ true)
some_page set p some below = elim (search_page set p) [
  | inl x ↦ x
  | inr none ↦ absurd (let is : set ≡ 0 = empty_set set (λ i. elim (low_or_past i) [ inl low ↦ none i low | inr past ↦ below i past ]) in omega arith)
]
  where
    low_or_past : (i : ℕ) → (i < p) ⊎ (p ≤ i)
    low_or_past i = elim (cases_Bool (nat_le p i)) [ inl t ↦ inr (grind (arith, t)) | inr f ↦ inl (grind (arith, f)) ]

-- ---- the listing

module _ (g : Geometry) (pages : PackedTable MappedPage) (blocks : PackedTable BlockPages) (packed : IsPackedMap g pages blocks) where
  at : (a : ℕ) → get (packed_entries g (map_of pages) (map_of blocks)) a ≡ entry_in (get (map_of pages) a) (page_in (get (map_of blocks) (a / g.p)) (a % g.p))
  at a = get_held g (map_of pages) (map_of blocks) a

  -- a page of a data block is an entry
  block_entry : (k i : ℕ) (b : BlockPages) → get (map_of blocks) k ≡ Some b → i < g.p → has_bit b.present i ≡ true → (e : Entry) × (get (packed_entries g (map_of pages) (map_of blocks)) (k * g.p + i) ≡ Some e) × (e.block_mapped ≡ true)
  block_entry k i b is low t = by_log (get (map_of pages) (k * g.p + i)) refl
    where
      entry : Entry
      entry = record { place = record { block = b.block; page = i }; dirty = has_bit b.dirty i; block_mapped = true }

      here : page_in (get (map_of blocks) ((k * g.p + i) / g.p)) ((k * g.p + i) % g.p) ≡ Some (record { place = record { block = b.block; page = i }; dirty = has_bit b.dirty i; block_mapped = true })
      here = ap₂ (λ j n. page_in (get (map_of blocks) j) n) (div-mul-add k g.p i low) (mod-mul-add k g.p i low) ∙ ap (λ o. page_in o i) is ∙ ap (λ c. then_some c (record { place = record { block = b.block; page = i }; dirty = has_bit b.dirty i; block_mapped = true })) t

      by_log : (o : Option MappedPage) → get (map_of pages) (k * g.p + i) ≡ o → (e : Entry) × (get (packed_entries g (map_of pages) (map_of blocks)) (k * g.p + i) ≡ Some e) × (e.block_mapped ≡ true)
      by_log None none = (record { place = record { block = b.block; page = i }; dirty = has_bit b.dirty i; block_mapped = true }, at (k * g.p + i) ∙ ap₂ entry_in none here, refl)
      by_log (Some x) some = none_some (record { place = record { block = b.block; page = i }; dirty = has_bit b.dirty i; block_mapped = true }) (sym (packed.apart (k * g.p + i) x some) ∙ here)

  -- an entry of a data block has its data block
  mapped_block : (a : ℕ) (e : Entry) → get (packed_entries g (map_of pages) (map_of blocks)) a ≡ Some e → e.block_mapped ≡ true → (b : BlockPages) × (get (map_of blocks) (a / g.p) ≡ Some b)
  mapped_block a e is mapped = by_log (get (map_of pages) a) (sym (at a) ∙ is)
    where
      by_block : (o : Option BlockPages) → get (map_of blocks) (a / g.p) ≡ o → page_in o (a % g.p) ≡ Some e → (b : BlockPages) × (get (map_of blocks) (a / g.p) ≡ Some b)
      by_block None none s = none_some e s
      by_block (Some b) some s = (b, some)

      by_log : (o : Option MappedPage) → entry_in o (page_in (get (map_of blocks) (a / g.p)) (a % g.p)) ≡ Some e → (b : BlockPages) × (get (map_of blocks) (a / g.p) ≡ Some b)
      by_log None s = by_block (get (map_of blocks) (a / g.p)) refl s
      by_log (Some x) s = absurd (both_ways e.block_mapped (ap (λ (f : Entry). f.block_mapped) (sym (same_Some (in_log_block x.place x.dirty) e s))) mapped)

  -- an entry of a log block has its mapped page
  mapped_page : (a : ℕ) (e : Entry) → get (packed_entries g (map_of pages) (map_of blocks)) a ≡ Some e → page_mapped e ≡ true → (x : MappedPage) × (get (map_of pages) a ≡ Some x)
  mapped_page a e is mapped = by_log (get (map_of pages) a) refl (sym (at a) ∙ is)
    where
      of_page : (b : Option BlockPages) → page_in b (a % g.p) ≡ Some e → e.block_mapped ≡ true
      of_page None s = none_some e s
      of_page (Some b) s = shown (has_bit b.present (a % g.p)) s
        where
          shown : (c : Bool) → then_some c (record { place = record { block = b.block; page = a % g.p }; dirty = has_bit b.dirty (a % g.p); block_mapped = true }) ≡ Some e → e.block_mapped ≡ true
          shown true s = ap (λ (f : Entry). f.block_mapped) (sym (same_Some _ e s))
          shown false s = none_some e s

      by_log : (o : Option MappedPage) → get (map_of pages) a ≡ o → entry_in o (page_in (get (map_of blocks) (a / g.p)) (a % g.p)) ≡ Some e → (x : MappedPage) × (get (map_of pages) a ≡ Some x)
      by_log None none s = absurd (both_ways (page_mapped e) (ap not (of_page (get (map_of blocks) (a / g.p)) s)) mapped)
      by_log (Some x) some s = (x, some)

  page_entry : (a : ℕ) (x : MappedPage) → get (map_of pages) a ≡ Some x → get (packed_entries g (map_of pages) (map_of blocks)) a ≡ Some (in_log_block x.place x.dirty)
  page_entry a x is = at a ∙ ap (λ o. entry_in o (page_in (get (map_of blocks) (a / g.p)) (a % g.p))) is

  group_there : (k : ℕ) → member k (map (λ (x : ℕ × BlockPages). x.0) (items_of blocks.slots)) ≡ true → (a : ℕ) × (e : Entry) × (get (packed_entries g (map_of pages) (map_of blocks)) a ≡ Some e) × (e.block_mapped ≡ true) × (a / g.p ≡ k)
  group_there k mem =
      let b = there_key blocks packed.blocks_sound k mem in
      let i = some_page b.0.present g.p (packed.are_blocks.sound k b.0 b.1).some (packed.are_blocks.below k b.0 b.1) in
      let e = block_entry k i.0 b.0 b.1 i.1 i.2 in
      (k * g.p + i.0, e.0, e.1, e.2, div-mul-add k g.p i.0 i.1)

  there_group : (a : ℕ) (e : Entry) → get (packed_entries g (map_of pages) (map_of blocks)) a ≡ Some e → e.block_mapped ≡ true → member (a / g.p) (map (λ (x : ℕ × BlockPages). x.0) (items_of blocks.slots)) ≡ true
  there_group a e is mapped = let b = mapped_block a e is mapped in key_there blocks packed.blocks_sound (a / g.p) b.0 b.1

  groups_count : length (items_of blocks.slots) ≡ length (groups_with g (λ e. e.block_mapped) (packed_entries g (map_of pages) (map_of blocks)))
  groups_count =
      let f : ℕ × Entry → ℕ = λ x. x.0 / g.p in
      let t : Entry → Bool = λ e. e.block_mapped in
      sym (keys_once blocks packed.blocks_sound)
      ∙ each_once-same (map (λ (x : ℕ × BlockPages). x.0) (items_of blocks.slots)) (numbers f t (entries (packed_entries g (map_of pages) (map_of blocks)))) (λ n. same_bools _ _
      (λ mem. let x = group_there n mem in ap (λ k. member k (numbers f t (entries (packed_entries g (map_of pages) (map_of blocks))))) (sym x.4) ∙ member_from f t (packed_entries g (map_of pages) (map_of blocks)) x.0 x.1 x.2 x.3)
      (λ mem. let x = member_to f t (packed_entries g (map_of pages) (map_of blocks)) n mem in ap (λ k. member k (map (λ (x : ℕ × BlockPages). x.0) (items_of blocks.slots))) (sym x.3) ∙ there_group x.0.0 x.0.1 x.1 x.2))

  pages_count : length (items_of pages.slots) ≡ length (filter (λ x. page_mapped x.1) (entries (packed_entries g (map_of pages) (map_of blocks))))
  pages_count =
      sym (keys_once pages packed.pages_sound)
      ∙ each_once-same (map (λ (x : ℕ × MappedPage). x.0) (items_of pages.slots)) (numbers (λ x. x.0) page_mapped (entries (packed_entries g (map_of pages) (map_of blocks)))) (λ n. same_bools _ _
      (λ mem. let x = there_key pages packed.pages_sound n mem in member_from (λ x. x.0) page_mapped (packed_entries g (map_of pages) (map_of blocks)) n (in_log_block x.0.place x.0.dirty) (page_entry n x.0 x.1) refl)
      (λ mem.
      let x = member_to (λ x. x.0) page_mapped (packed_entries g (map_of pages) (map_of blocks)) n mem in
      let y = mapped_page x.0.0 x.0.1 x.1 x.2 in
      ap (λ k. member k (map (λ (x : ℕ × MappedPage). x.0) (items_of pages.slots))) (sym x.3) ∙ key_there pages packed.pages_sound x.0.0 y.0 y.1))
      ∙ tally_is page_mapped (packed_entries g (map_of pages) (map_of blocks))

  items_entries : (xs : List (ℕ × MappedPage)) → AllByRecursion (λ (x : ℕ × MappedPage). get (map_of pages) x.0 ≡ Some x.1) xs
      → AllByRecursion (λ (x : ℕ × Entry). (get (packed_entries g (map_of pages) (map_of blocks)) x.0 ≡ Some x.1) × (page_mapped x.1 ≡ true))
      (map (λ (x : ℕ × MappedPage). (x.0, in_log_block x.1.place x.1.dirty)) xs)
  items_entries [] all = tt
  items_entries (x ∷ xs) all = ((page_entry x.0 x.1 all.0, refl), items_entries xs all.1)

  log_keys : (a : ℕ) (xs : List (ℕ × MappedPage)) → member a (map (λ (x : ℕ × Entry). x.0) (map (λ (x : ℕ × MappedPage). (x.0, in_log_block x.1.place x.1.dirty)) xs)) ≡ member a (map (λ (x : ℕ × MappedPage). x.0) xs)
  log_keys a [] = refl
  log_keys a (x ∷ xs) = ap (λ b. (x.0 == a) || b) (log_keys a xs)

  pages_as : (xs : List (ℕ × MappedPage)) → map page_record xs ≡ map set_page_of (map (λ (x : ℕ × MappedPage). (x.0, in_log_block x.1.place x.1.dirty)) xs)
  pages_as [] = refl
  pages_as (x ∷ xs) = ap (λ (l : List Record). page_record x ∷ l) (pages_as xs)

  groups_as : (f : ℕ → Record) (xs : List (ℕ × BlockPages)) → map (λ (x : ℕ × BlockPages). f x.0) xs ≡ map f (map (λ (x : ℕ × BlockPages). x.0) xs)
  groups_as f [] = refl
  groups_as f (x ∷ xs) = ap (λ (l : List Record). f x.0 ∷ l) (groups_as f xs)

  pub listed : IsCheckpointOf g (packed_entries g (map_of pages) (map_of blocks)) (records_of g (packed_entries g (map_of pages) (map_of blocks)) (items_of pages.slots) (items_of blocks.slots))
  listed = record {
    groups = map (λ (x : ℕ × BlockPages). x.0) (items_of blocks.slots);
    pages = map (λ (x : ℕ × MappedPage). (x.0, in_log_block x.1.place x.1.dirty)) (items_of pages.slots);
    are = ap₂ (λ x y. x ++ y) (groups_as (set_group_of g (packed_entries g (map_of pages) (map_of blocks))) (items_of blocks.slots)) (pages_as (items_of pages.slots));
    of_groups = record { each = group_there; all = there_group; once = length-map (items_of blocks.slots) (λ (x : ℕ × BlockPages). x.0) ∙ groups_count };
    of_pages = record {
      each = items_entries (items_of pages.slots) (all_items pages packed.pages_sound (λ k v. get (map_of pages) k ≡ Some v) (λ k v is. is));
      all = λ a e is t. let x = mapped_page a e is t in log_keys a (items_of pages.slots) ∙ key_there pages packed.pages_sound a x.0 x.1;
      once = length-map (items_of pages.slots) (λ (x : ℕ × MappedPage). (x.0, in_log_block x.1.place x.1.dirty)) ∙ pages_count;
    };
  }

  -- the data blocks and then the mapped pages, as they are offered
  pub records_as : map block_record (items_of blocks.slots) ++ map page_record (items_of pages.slots) ≡ records_of g (packed_entries g (map_of pages) (map_of blocks)) (items_of pages.slots) (items_of blocks.slots)
  records_as = ap (λ (l : List Record). l ++ map page_record (items_of pages.slots)) (sym (blocks_as g (packed_entries g (map_of pages) (map_of blocks)) (items_of blocks.slots)
      (all_items blocks packed.blocks_sound (λ k b. IsDataBlock g (packed_entries g (map_of pages) (map_of blocks)) k b) (λ k b is. data_block_is g (map_of pages) (map_of blocks) packed.are_blocks packed.apart k b is))))

  -- ---- how many there are

  filter_few : (t : ℕ × Entry → Bool) (es : List (ℕ × Entry)) → length (filter t es) ≤ length es
  filter_few t [] = omega arith
  filter_few t (x ∷ es) = let few = filter_few t es in elim (t x) as (λ b. length (cond b (x ∷ filter t es) (filter t es)) ≤ suc (length es)) [ true ↦ omega (arith, few) | false ↦ omega (arith, few) ]

  pub few_log_pages : len_of pages ≤ length (entries (packed_entries g (map_of pages) (map_of blocks)))
  few_log_pages =
      let few = filter_few (λ x. page_mapped x.1) (entries (packed_entries g (map_of pages) (map_of blocks))) in
      let long = len_of-items pages packed.pages_sound.packed.once in
      omega (arith, few, long, pages_count)

  pub few_data_blocks : len_of blocks ≤ length (entries (packed_entries g (map_of pages) (map_of blocks)))
  few_data_blocks =
      let once = each_once-no_longer (numbers (λ x. x.0 / g.p) (λ e. e.block_mapped) (entries (packed_entries g (map_of pages) (map_of blocks)))) in
      let keys = length-map (filter (λ (x : ℕ × Entry). x.1.block_mapped) (entries (packed_entries g (map_of pages) (map_of blocks)))) (λ (x : ℕ × Entry). x.0 / g.p) in
      let few = filter_few (λ x. x.1.block_mapped) (entries (packed_entries g (map_of pages) (map_of blocks))) in
      let long = len_of-items blocks packed.blocks_sound.packed.once in
      omega (arith, few, long, keys, once, groups_count)

  pub log_pages_are : len_of pages ≡ page_mapped_count (packed_entries g (map_of pages) (map_of blocks))
  log_pages_are = len_of-items pages packed.pages_sound.packed.once ∙ pages_count

  pub data_blocks_are : len_of blocks ≡ data_block_count g (packed_entries g (map_of pages) (map_of blocks))
  data_blocks_are = len_of-items blocks packed.blocks_sound.packed.once ∙ groups_count

  pub buckets_bound : AreBucketsFor (packed_entries g (map_of pages) (map_of blocks)) (buckets_of pages)
  buckets_bound = record {
    room = let room = packed.pages_sound.room in let long = len_of-items pages packed.pages_sound.packed.once in omega (arith, room, long, pages_count);
    power = packed.pages_sound.buckets;
  }

  pub lens_few : len_of blocks + len_of pages < 2 ^ 34
  lens_few =
      let room = packed.pages_sound.room in
      let room' = packed.blocks_sound.room in
      let few = packed.few_pages in
      let few' = packed.few_blocks in
      omega (arith, room, room', few, few')

  pub items_few : length (items_of pages.slots) + length (items_of blocks.slots) < 2 ^ 34
  items_few =
      let room = packed.pages_sound.room in
      let room' = packed.blocks_sound.room in
      let few = packed.few_pages in
      let few' = packed.few_blocks in
      let long = len_of-items pages packed.pages_sound.packed.once in
      let long' = len_of-items blocks packed.blocks_sound.packed.once in
      omega (arith, room, room', few, few', long, long')

-- a table that doubled for at most 2^30 keys has at most 2^32 buckets
pub doubled_few : (need narrow wide : ℕ) → need ≤ 2 ^ 30 → narrow ≤ 2 ^ 32 → IsDoubledFor need narrow wide → wide ≤ 2 ^ 32
doubled_few need narrow wide few old doubled = elim (start_or_few need narrow wide doubled) [
  | inl is ↦ subst (λ n. n ≤ 2 ^ 32) (sym is) (start_few (nat_le 32 narrow))
  | inr under ↦ omega (arith, under, few)
]
  where
    start_few : (b : Bool) → cond b narrow 32 ≤ 2 ^ 32
    start_few true = old
    start_few false = omega arith

-- the same, if the call may have failed
pub doubled_or_same : {T E : Type 0} (r : Result T E) (need narrow wide : ℕ) → need ≤ 2 ^ 30 → narrow ≤ 2 ^ 32 → OnOk r (IsDoubledFor need narrow wide) → OnErr r (wide ≡ narrow) → wide ≤ 2 ^ 32
doubled_or_same (Ok x) need narrow wide few old doubled same = doubled_few need narrow wide few old doubled
doubled_or_same (Err e) need narrow wide few old doubled same = omega (arith, same, old)

-- a table whose buckets and room are unchanged shows the same
abbrev pub held_of : Geometry → PackedTable MappedPage → PackedTable BlockPages → HeldValue
held_of g pages blocks = record {
  geometry = g;
  entries = packed_entries g (map_of pages) (map_of blocks);
  spare_pages = pages.spare;
  spare_blocks = blocks.spare;
  records = records_of g (packed_entries g (map_of pages) (map_of blocks)) (items_of pages.slots) (items_of blocks.slots);
  buckets = buckets_of pages;
  group_buckets = buckets_of blocks;
}

pub pages_refused : {T E : Type 0} (r : Result T E) (g : Geometry) (pages new : PackedTable MappedPage) (blocks : PackedTable BlockPages) → map_of new ≡ map_of pages → OnErr r (new.slots ≡ pages.slots) → OnErr r (new.spare ≡ pages.spare) → OnErr r (held_of g new blocks ≡ held_of g pages blocks)
pages_refused (Ok x) g pages new blocks same slots spare = tt
pages_refused (Err e) g pages new blocks same slots spare = λ t. record {
  geometry = g;
  entries = packed_entries g (same t) (map_of blocks);
  spare_pages = spare t;
  spare_blocks = blocks.spare;
  records = records_of g (packed_entries g (same t) (map_of blocks)) (items_of (slots t)) (items_of blocks.slots);
  buckets = length (slots t);
  group_buckets = buckets_of blocks;
}

pub blocks_refused : {T E : Type 0} (r : Result T E) (g : Geometry) (pages : PackedTable MappedPage) (blocks new : PackedTable BlockPages) → map_of new ≡ map_of blocks → OnErr r (new.slots ≡ blocks.slots) → OnErr r (new.spare ≡ blocks.spare) → OnErr r (held_of g pages new ≡ held_of g pages blocks)
blocks_refused (Ok x) g pages blocks new same slots spare = tt
blocks_refused (Err e) g pages blocks new same slots spare = λ t. record {
  geometry = g;
  entries = packed_entries g (map_of pages) (same t);
  spare_pages = pages.spare;
  spare_blocks = spare t;
  records = records_of g (packed_entries g (map_of pages) (same t)) (items_of pages.slots) (items_of (slots t));
  buckets = buckets_of pages;
  group_buckets = length (slots t);
}
