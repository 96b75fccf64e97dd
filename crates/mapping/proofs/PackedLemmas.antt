-- The entries that two packed maps have at an address, and how a change of the maps changes them.
use Rattle.std.proofs.Common.{◌≡◌, ℕ, ◌+◌, ◌-◌, ◌*◌, ◌/◌, ◌%◌, ◌<◌, ◌≤◌, ◌==◌, ◌&&◌, Bool, true, false, cond, not, List, [], ◌∷◌, Option, Some, None, option_map}
use Rattle.std.proofs.Common.{refl, sym, ◌∙◌, ap, ap₂, subst, arith, inl, inr, nat_cmp, eqb-true, eq-eqb, ne_eqb, ◌||◌, is_some, IfSome, IfNone, IsSome, length, map, nat_lt, lt-ltb, ltb-true, le-ltb, length-append}
use Rattle.std.specs.Bool.{then_some}
use Rattle.std.specs.Cmp.{nat_cmp_total}
use Rattle.std.specs.FinMap.{get, insert, remove, entries, find, get-entries, get-empty, same_map, nat_cmp-IsAntisymmetric}
use Rattle.std.proofs.Math.Bool.{and-true, and-false}
use Rattle.std.proofs.lemmas.Bool.{cases_Bool, cases_eq, both_ways, ltb-false}
use Rattle.std.proofs.lemmas.Nat.{div-mul-add, mod-mul-add, div-add-mod', mod_below}
use Rattle.std.proofs.lemmas.Bool.Decides.{nat_tests}
use Rattle.std.proofs.lemmas.List.{length-map}
use Rattle.std.proofs.lemmas.Nat.Bits.{same_from_bits, bit_at-lt}
use Rattle.std.specs.Int.{bit_at}
use Rattle.std.proofs.lemmas.Option.{same_Some}
use Rattle.ft_base.specs.declared.geometry.Geometry.{Geometry}
use Rattle.ft_base.specs.declared.record.Record.TheVariants.{SetPage, Remove, Clean, SetGroup, RemoveGroup}
use Rattle.cache_model.specs.declared.entry.Entry.{Entry}
use Rattle.cache_model.specs.Records.{Entries, no_entries, after, has_bit, in_log_block, page_of_group, cleaned}
use Rattle.cache_model.proofs.CountLemmas.{taken}
use Rattle.cache_model.proofs.StepLemmas.{and_of, get-after}
use Rattle.cache_model.proofs.MapLemmas.{eq_key, get_insert, get_remove}
use Rattle.block_map.specs.PageSets.{BlockPages, IsSoundBlock, IsLeftWithout, IsOnlyPage}
use Rattle.mapping.specs.MappedPages.{MappedPage}
use Rattle.mapping.specs.declared.bits.Choice.TheVariants.{Mapped, MappedDirty}
use Rattle.mapping.specs.Checkpoint.{set_group_of}
use Rattle.mapping.specs.Bits.{is_chosen, chosen_of, IsDataBlock, IsBlockOf}
use Rattle.sparse_map.specs.Slots.{items_of}
use Rattle.sparse_map.specs.Packed.{PackedTable, map_of, len_of, buckets_of, IsSound as IsSoundTable}
use Rattle.sparse_map.proofs.MapLemmas.{len_of-items}
use Rattle.mapping.specs.Packed.{records_of, Pages, Blocks, page_record, block_record, with_data_blocks, with_logs, packed_entries, page_in, AreBlocks, AreDisjoint, IsLeftOut}
use Rattle.mapping.proofs.Words.{entry_in}
use Rattle.mapping.proofs.BitsLemmas.{bit_of_set, set_of_none}
use Rattle.mapping.specs.Counts.{place_if_logged}
use Rattle.mapping.proofs.ChosenLemmas.{stands_some}
use Rattle.mapping.proofs.SeekingLemmas.{none_some}

-- ---- options and tests

-- neither a mapped page nor a page of a data block
none_in : (o : Option MappedPage) (r : Option Entry) → entry_in o r ≡ None → (o ≡ None) × (r ≡ None)
none_in None r is = (refl, is)
none_in (Some x) r is = none_some (in_log_block x.place x.dirty) (sym is)

-- a new key takes one place of the room
pub spare_less : {A : Type 0} (o : Option A) (old new : ℕ) → o ≡ None → new ≡ cond (is_some o) old (old - 1) → 1 ≤ old → new + 1 ≡ old
spare_less o old new none is some =
    let less : new ≡ old - 1 = is ∙ ap (λ x. cond (is_some x) old (old - 1)) none in
    omega arith

-- a group and a page determine an address
pub is_address : (p a lba : ℕ) → (a == lba) ≡ ((a / p == lba / p) && (a % p == lba % p))
is_address p a lba =
    let whole = div-add-mod' a p in
    let whole' = div-add-mod' lba p in
    and_of _ _ _
    (λ t. let same : a ≡ lba = eqb-true _ _ t in (eq-eqb _ _ (ap (λ n. n / p) same), eq-eqb _ _ (ap (λ n. n % p) same)))
    (λ t u. let same : a / p ≡ lba / p = eqb-true _ _ t in let same' : a % p ≡ lba % p = eqb-true _ _ u in eq-eqb _ _ (sym whole ∙ ap₂ (λ x y. x * p + y) same same' ∙ whole'))

-- an address that has no mapped page has none to remove
pub nothing_removed : (pages : Pages) (lba : ℕ) → get pages lba ≡ None → pages ≡ remove pages lba
nothing_removed pages lba none = same_map nat_cmp_total nat_cmp-IsAntisymmetric pages (remove pages lba) (λ q. elim (cases_eq q lba) [
  | inl same ↦ ap (get pages) same ∙ none ∙ sym (ap (get (remove pages lba)) same ∙ get_remove pages lba lba ∙ ap (λ b. cond b None (get pages lba)) (eq-eqb lba lba refl))
  | inr other ↦ sym (get_remove pages lba q ∙ ap (λ b. cond b None (get pages q)) (ne_eqb q lba other))
])

module _ (g : Geometry) where
  some_pages : 0 < g.p
  some_pages = omega (arith, g.in_range.p_low)

  -- ---- the entry at an address

  get_block_list : (xs : List (ℕ × BlockPages)) (q : ℕ) → get (with_data_blocks g xs) q ≡ page_in (find nat_cmp (q / g.p) xs) (q % g.p)
  get_block_list [] q = get-empty nat_cmp q
  get_block_list (x ∷ xs) q =
      let new = page_of_group x.1.block x.1.present x.1.dirty (q % g.p) in
      get-after g (block_record x) (with_data_blocks g xs) q ∙ elim (cases_Bool (q / g.p == x.0)) [
        | inl t ↦ ap (λ b. cond b new (get (with_data_blocks g xs) q)) t ∙ sym (ap (λ b. page_in (cond b (Some x.1) (find nat_cmp (q / g.p) xs)) (q % g.p)) (eq_key (q / g.p) x.0 ∙ t))
        | inr f ↦ ap (λ b. cond b new (get (with_data_blocks g xs) q)) f ∙ get_block_list xs q ∙ sym (ap (λ b. page_in (cond b (Some x.1) (find nat_cmp (q / g.p) xs)) (q % g.p)) (eq_key (q / g.p) x.0 ∙ f))
      ]

  get_log_list : (xs : List (ℕ × MappedPage)) (m : Entries) (q : ℕ) → get (with_logs g xs m) q ≡ entry_in (find nat_cmp q xs) (get m q)
  get_log_list [] m q = refl
  get_log_list (x ∷ xs) m q =
      let new = Some (in_log_block x.1.place x.1.dirty) in
      get-after g (page_record x) (with_logs g xs m) q ∙ elim (cases_Bool (q == x.0)) [
        | inl t ↦ ap (λ b. cond b new (get (with_logs g xs m) q)) t ∙ sym (ap (λ b. entry_in (cond b (Some x.1) (find nat_cmp q xs)) (get m q)) (eq_key q x.0 ∙ t))
        | inr f ↦ ap (λ b. cond b new (get (with_logs g xs m) q)) f ∙ get_log_list xs m q ∙ sym (ap (λ b. entry_in (cond b (Some x.1) (find nat_cmp q xs)) (get m q)) (eq_key q x.0 ∙ f))
      ]

  -- the entry of the mapped page, or else of the group's data block
  pub get_held : (pages : Pages) (blocks : Blocks) (q : ℕ) → get (packed_entries g pages blocks) q ≡ entry_in (get pages q) (page_in (get blocks (q / g.p)) (q % g.p))
  unfolding packed_entries
  get_held pages blocks q =
      get_log_list (entries pages) (with_data_blocks g (entries blocks)) q
      ∙ ap (entry_in (find nat_cmp q (entries pages))) (get_block_list (entries blocks) q)
      ∙ ap₂ (λ x y. entry_in x (page_in y (q % g.p))) (sym (get-entries pages q)) (sym (get-entries blocks (q / g.p)))

  same_held : (pages : Pages) (blocks : Blocks) (m : Entries) → ((q : ℕ) → entry_in (get pages q) (page_in (get blocks (q / g.p)) (q % g.p)) ≡ get m q) → packed_entries g pages blocks ≡ m
  same_held pages blocks m same = same_map nat_cmp_total nat_cmp-IsAntisymmetric (packed_entries g pages blocks) m (λ q. get_held pages blocks q ∙ same q)

  -- ---- nothing is held

  pub nothing_held : (pages : Pages) (blocks : Blocks) → ((q : ℕ) → get pages q ≡ None) → ((k : ℕ) → get blocks k ≡ None) → packed_entries g pages blocks ≡ no_entries
  nothing_held pages blocks none none' = same_held pages blocks no_entries (λ q. ap₂ (λ x y. entry_in x (page_in y (q % g.p))) (none q) (none' (q / g.p)) ∙ sym (get-empty nat_cmp q))

  pub page_absent : (pages : Pages) (blocks : Blocks) (lba : ℕ) → get (packed_entries g pages blocks) lba ≡ None → get pages lba ≡ None
  page_absent pages blocks lba absent = (none_in (get pages lba) (page_in (get blocks (lba / g.p)) (lba % g.p)) (sym (get_held pages blocks lba) ∙ absent)).0

  -- ---- one mapped page more

  module _ (pages pages' : Pages) (blocks : Blocks) (lba : ℕ) (x : MappedPage) (is : pages' ≡ insert pages lba x) where
    page_there : (q : ℕ) → get pages' q ≡ cond (q == lba) (Some x) (get pages q)
    page_there q = ap (λ m. get m q) is ∙ get_insert pages lba x q

    pub page_put : packed_entries g pages' blocks ≡ after g (SetPage lba x.place x.dirty) (packed_entries g pages blocks)
    page_put = same_held pages' blocks (after g (SetPage lba x.place x.dirty) (packed_entries g pages blocks)) (λ q.
        ap (λ o. entry_in o (page_in (get blocks (q / g.p)) (q % g.p))) (page_there q)
        ∙ choose (q == lba) (get pages q) (page_in (get blocks (q / g.p)) (q % g.p))
        ∙ ap (λ o. cond (q == lba) (Some (in_log_block x.place x.dirty)) o) (sym (get_held pages blocks q))
        ∙ sym (get-after g (SetPage lba x.place x.dirty) (packed_entries g pages blocks) q))
      where
        choose : (b : Bool) (o : Option MappedPage) (r : Option Entry) → entry_in (cond b (Some x) o) r ≡ cond b (Some (in_log_block x.place x.dirty)) (entry_in o r)
        choose true o r = refl
        choose false o r = refl

    page_apart : page_in (get blocks (lba / g.p)) (lba % g.p) ≡ None → AreDisjoint g pages blocks → AreDisjoint g pages' blocks
    page_apart none apart a y at = elim (cases_eq a lba) [
      | inl same ↦ ap (λ n. page_in (get blocks (n / g.p)) (n % g.p)) same ∙ none
      | inr other ↦ apart a y (sym (page_there a ∙ ap (λ b. cond b (Some x) (get pages a)) (ne_eqb a lba other)) ∙ at)
    ]

    pub page_put_apart : get (packed_entries g pages blocks) lba ≡ None → AreDisjoint g pages blocks → AreDisjoint g pages' blocks
    page_put_apart absent apart = page_apart (none_in (get pages lba) (page_in (get blocks (lba / g.p)) (lba % g.p)) (sym (get_held pages blocks lba) ∙ absent)).1 apart

    -- the mapped page is clean
    pub page_cleaned : (y : MappedPage) → get pages lba ≡ Some y → x.place ≡ y.place → x.dirty ≡ false → packed_entries g pages' blocks ≡ after g (Clean lba) (packed_entries g pages blocks)
    page_cleaned y at place clean = page_put ∙ same_map nat_cmp_total nat_cmp-IsAntisymmetric (after g (SetPage lba x.place x.dirty) (packed_entries g pages blocks)) (after g (Clean lba) (packed_entries g pages blocks)) (λ q.
        get-after g (SetPage lba x.place x.dirty) (packed_entries g pages blocks) q
        ∙ elim (cases_Bool (q == lba)) [
          | inl t ↦
              let here : get (packed_entries g pages blocks) q ≡ Some (in_log_block y.place y.dirty) = ap (get (packed_entries g pages blocks)) (eqb-true _ _ t) ∙ get_held pages blocks lba ∙ ap (λ o. entry_in o (page_in (get blocks (lba / g.p)) (lba % g.p))) at in
              ap (λ b. cond b (Some (in_log_block x.place x.dirty)) (get (packed_entries g pages blocks) q)) t
              ∙ ap₂ (λ p d. Some (in_log_block p d)) place clean ∙ sym (ap (option_map cleaned) here)
              ∙ sym (ap (λ b. cond b (option_map cleaned (get (packed_entries g pages blocks) q)) (get (packed_entries g pages blocks) q)) t)
          | inr f ↦
              ap (λ b. cond b (Some (in_log_block x.place x.dirty)) (get (packed_entries g pages blocks) q)) f
              ∙ sym (ap (λ b. cond b (option_map cleaned (get (packed_entries g pages blocks) q)) (get (packed_entries g pages blocks) q)) f)
        ]
        ∙ sym (get-after g (Clean lba) (packed_entries g pages blocks) q))

    pub page_cleaned_apart : (y : MappedPage) → get pages lba ≡ Some y → AreDisjoint g pages blocks → AreDisjoint g pages' blocks
    page_cleaned_apart y at apart = page_apart (apart lba y at) apart

  -- ---- one data block more

  free_group : (pages : Pages) (blocks : Blocks) (k : ℕ) → ((i : ℕ) → i < g.p → get (packed_entries g pages blocks) (k * g.p + i) ≡ None) → (q : ℕ) → q / g.p ≡ k → get pages q ≡ None
  free_group pages blocks k free q in_group =
      let whole : k * g.p + q % g.p ≡ q = ap (λ n. n * g.p + q % g.p) (sym in_group) ∙ div-add-mod' q g.p in
      let here : get (packed_entries g pages blocks) q ≡ None = ap (get (packed_entries g pages blocks)) (sym whole) ∙ free (q % g.p) (mod_below q g.p some_pages) in
      (none_in (get pages q) (page_in (get blocks (q / g.p)) (q % g.p)) (sym (get_held pages blocks q) ∙ here)).0

  module _ (pages : Pages) (blocks blocks' : Blocks) (k : ℕ) (b : BlockPages) (is : blocks' ≡ insert blocks k b) where
    block_there : (j : ℕ) → get blocks' j ≡ cond (j == k) (Some b) (get blocks j)
    block_there j = ap (λ m. get m j) is ∙ get_insert blocks k b j

    pub block_put : ((i : ℕ) → i < g.p → get (packed_entries g pages blocks) (k * g.p + i) ≡ None) → packed_entries g pages blocks' ≡ after g (SetGroup k b.block b.present b.dirty) (packed_entries g pages blocks)
    block_put free = same_held pages blocks' (after g (SetGroup k b.block b.present b.dirty) (packed_entries g pages blocks)) (λ q.
        ap (λ o. entry_in (get pages q) (page_in o (q % g.p))) (block_there (q / g.p))
        ∙ elim (cases_Bool (q / g.p == k)) [
          | inl t ↦
              ap (λ c. entry_in (get pages q) (page_in (cond c (Some b) (get blocks (q / g.p))) (q % g.p))) t
              ∙ ap (λ o. entry_in o (page_of_group b.block b.present b.dirty (q % g.p))) (free_group pages blocks k free q (eqb-true _ _ t))
              ∙ sym (ap (λ c. cond c (page_of_group b.block b.present b.dirty (q % g.p)) (get (packed_entries g pages blocks) q)) t)
          | inr f ↦
              ap (λ c. entry_in (get pages q) (page_in (cond c (Some b) (get blocks (q / g.p))) (q % g.p))) f
              ∙ sym (get_held pages blocks q)
              ∙ sym (ap (λ c. cond c (page_of_group b.block b.present b.dirty (q % g.p)) (get (packed_entries g pages blocks) q)) f)
        ]
        ∙ sym (get-after g (SetGroup k b.block b.present b.dirty) (packed_entries g pages blocks) q))

    pub block_put_apart : ((i : ℕ) → i < g.p → get (packed_entries g pages blocks) (k * g.p + i) ≡ None) → AreDisjoint g pages blocks → AreDisjoint g pages blocks'
    block_put_apart free apart a x at = elim (cases_eq (a / g.p) k) [
      | inl same ↦ none_some x (sym (free_group pages blocks k free a same) ∙ at)
      | inr other ↦ ap (λ o. page_in o (a % g.p)) (block_there (a / g.p) ∙ ap (λ c. cond c (Some b) (get blocks (a / g.p))) (ne_eqb (a / g.p) k other)) ∙ apart a x at
    ]

    pub blocks_more : IsSoundBlock b → ((i : ℕ) → g.p ≤ i → has_bit b.present i ≡ false) → AreBlocks g blocks → AreBlocks g blocks'
    blocks_more sound below all = record {
      sound = λ j c at. elim (cases_eq j k) [
        | inl same ↦ subst (λ (x : BlockPages). IsSoundBlock x) (here j c same at) sound
        | inr other ↦ all.sound j c (there j c other at)
      ];
      below = λ j c at. elim (cases_eq j k) [
        | inl same ↦ subst (λ (x : BlockPages). (i : ℕ) → g.p ≤ i → has_bit x.present i ≡ false) (here j c same at) below
        | inr other ↦ all.below j c (there j c other at)
      ];
    }
      where
        here : (j : ℕ) (c : BlockPages) → j ≡ k → get blocks' j ≡ Some c → b ≡ c
        here j c same at = same_Some b c (sym (block_there j ∙ ap (λ t. cond t (Some b) (get blocks j)) (eq-eqb j k same)) ∙ at)

        there : (j : ℕ) (c : BlockPages) → (j ≡ k → ⊥) → get blocks' j ≡ Some c → get blocks j ≡ Some c
        there j c other at = sym (block_there j ∙ ap (λ t. cond t (Some b) (get blocks j)) (ne_eqb j k other)) ∙ at

    -- ---- a block without one of its pages

    pub left_some : (a : BlockPages) (page : ℕ) → get blocks k ≡ Some a → b.block ≡ a.block → IsLeftWithout a.present page b.present → IsLeftWithout a.dirty page b.dirty → IsSoundBlock b → IsLeftOut g blocks blocks' k page
    left_some a page at block present dirty sound = record {
      others = λ j i. ap (λ o. page_in o i) (block_there j) ∙ elim (cases_Bool (j == k)) [
        | inl t ↦
            ap (λ c. page_in (cond c (Some b) (get blocks j)) i) t
            ∙ page_left i (i == page) refl
            ∙ ap (λ o. cond (i == page) None (page_in o i)) (sym (ap (get blocks) (eqb-true _ _ t) ∙ at))
            ∙ sym (ap (λ c. cond (c && (i == page)) None (page_in (get blocks j) i)) t)
        | inr f ↦ ap (λ c. page_in (cond c (Some b) (get blocks j)) i) f ∙ sym (ap (λ c. cond (c && (i == page)) None (page_in (get blocks j) i)) f)
      ];
      blocks = λ all. blocks_more sound (λ i past. present i ∙ ap (λ c. c && not (i == page)) (all.below k a at i past)) all;
    }
      where
        page_left : (i : ℕ) (c : Bool) → (i == page) ≡ c → page_of_group b.block b.present b.dirty i ≡ cond c None (page_of_group a.block a.present a.dirty i)
        page_left i true is' = ap (λ t. then_some t (record { place = record { block = b.block; page = i }; dirty = has_bit b.dirty i; block_mapped = true })) (present i ∙ ap (λ c. has_bit a.present i && not c) is' ∙ and-false (has_bit a.present i))
        page_left i false is' = λ t. then_some ((present i ∙ ap (λ c. has_bit a.present i && not c) is' ∙ and-true (has_bit a.present i)) t)
            (record { place = record { block = block t; page = i }; dirty = (dirty i ∙ ap (λ c. has_bit a.dirty i && not c) is' ∙ and-true (has_bit a.dirty i)) t; block_mapped = true })

    -- ---- a block with one of its pages clean

    clean_page : (a : BlockPages) (lba : ℕ) → k ≡ lba / g.p → get blocks k ≡ Some a → b.block ≡ a.block → b.present ≡ a.present → IsLeftWithout a.dirty (lba % g.p) b.dirty → (q : ℕ)
        → page_in (get blocks' (q / g.p)) (q % g.p) ≡ cond (q == lba) (option_map cleaned (page_in (get blocks (q / g.p)) (q % g.p))) (page_in (get blocks (q / g.p)) (q % g.p))
    clean_page a lba group at block present dirty q =
        ap (λ o. page_in o (q % g.p)) (block_there (q / g.p)) ∙ elim (cases_Bool (q / g.p == k)) [
          | inl t ↦
              let old : get blocks (q / g.p) ≡ Some a = ap (get blocks) (eqb-true _ _ t) ∙ at in
              let same : (q == lba) ≡ (q % g.p == lba % g.p) = is_address g.p q lba ∙ ap (λ n. (q / g.p == n) && (q % g.p == lba % g.p)) (sym group) ∙ ap (λ c. c && (q % g.p == lba % g.p)) t in
              ap (λ c. page_in (cond c (Some b) (get blocks (q / g.p))) (q % g.p)) t
              ∙ cleaned_in (q % g.p) (q % g.p == lba % g.p) refl
              ∙ ap (λ c. cond c (option_map cleaned (page_of_group a.block a.present a.dirty (q % g.p))) (page_of_group a.block a.present a.dirty (q % g.p))) (sym same)
              ∙ ap (λ o. cond (q == lba) (option_map cleaned (page_in o (q % g.p))) (page_in o (q % g.p))) (sym old)
          | inr f ↦
              let same : (q == lba) ≡ false = is_address g.p q lba ∙ ap (λ n. (q / g.p == n) && (q % g.p == lba % g.p)) (sym group) ∙ ap (λ c. c && (q % g.p == lba % g.p)) f in
              ap (λ c. page_in (cond c (Some b) (get blocks (q / g.p))) (q % g.p)) f
              ∙ sym (ap (λ c. cond c (option_map cleaned (page_in (get blocks (q / g.p)) (q % g.p))) (page_in (get blocks (q / g.p)) (q % g.p))) same)
        ]
      where
        clean_of : (c : Bool) (e : Entry) → option_map cleaned (then_some c e) ≡ then_some c (cleaned e)
        clean_of true e = refl
        clean_of false e = refl

        cleaned_in : (i : ℕ) (c : Bool) → (i == lba % g.p) ≡ c → page_of_group b.block b.present b.dirty i ≡ cond c (option_map cleaned (page_of_group a.block a.present a.dirty i)) (page_of_group a.block a.present a.dirty i)
        cleaned_in i true is' =
            (λ t. then_some (has_bit (present t) i) (record { place = record { block = block t; page = i }; dirty = (dirty i ∙ ap (λ c. has_bit a.dirty i && not c) is' ∙ and-false (has_bit a.dirty i)) t; block_mapped = true }))
            ∙ sym (clean_of (has_bit a.present i) (record { place = record { block = a.block; page = i }; dirty = has_bit a.dirty i; block_mapped = true }))
        cleaned_in i false is' = λ t. then_some (has_bit (present t) i) (record { place = record { block = block t; page = i }; dirty = (dirty i ∙ ap (λ c. has_bit a.dirty i && not c) is' ∙ and-true (has_bit a.dirty i)) t; block_mapped = true })

    pub block_cleaned : (a : BlockPages) (lba : ℕ) → k ≡ lba / g.p → get pages lba ≡ None → get blocks k ≡ Some a → b.block ≡ a.block → b.present ≡ a.present → IsLeftWithout a.dirty (lba % g.p) b.dirty → packed_entries g pages blocks' ≡ after g (Clean lba) (packed_entries g pages blocks)
    block_cleaned a lba group none at block present dirty = same_held pages blocks' (after g (Clean lba) (packed_entries g pages blocks)) (λ q.
        ap (entry_in (get pages q)) (clean_page a lba group at block present dirty q)
        ∙ at_address q (q == lba) refl
        ∙ ap (λ o. cond (q == lba) (option_map cleaned o) o) (sym (get_held pages blocks q))
        ∙ sym (get-after g (Clean lba) (packed_entries g pages blocks) q))
      where
        at_address : (q : ℕ) (c : Bool) → (q == lba) ≡ c → entry_in (get pages q)
            (cond c (option_map cleaned (page_in (get blocks (q / g.p)) (q % g.p))) (page_in (get blocks (q / g.p)) (q % g.p))) ≡ cond c
            (option_map cleaned (entry_in (get pages q) (page_in (get blocks (q / g.p)) (q % g.p)))) (entry_in (get pages q) (page_in (get blocks (q / g.p)) (q % g.p)))
        at_address q true is' =
            let no : get pages q ≡ None = ap (get pages) (eqb-true q lba is') ∙ none in
            ap (λ o. entry_in o (option_map cleaned (page_in (get blocks (q / g.p)) (q % g.p)))) no ∙ sym (ap (λ o. option_map cleaned (entry_in o (page_in (get blocks (q / g.p)) (q % g.p)))) no)
        at_address q false is' = refl

    pub block_cleaned_apart : (a : BlockPages) (lba : ℕ) → k ≡ lba / g.p → get blocks k ≡ Some a → b.block ≡ a.block → b.present ≡ a.present → IsLeftWithout a.dirty (lba % g.p) b.dirty → AreDisjoint g pages blocks → AreDisjoint g pages blocks'
    block_cleaned_apart a lba group at block present dirty apart q x held =
        clean_page a lba group at block present dirty q ∙ ap (λ o. cond (q == lba) (option_map cleaned o) o) (apart q x held) ∙ nothing (q == lba)
      where
        nothing : (c : Bool) → cond c (option_map cleaned None) None ≡ None
        nothing true = refl
        nothing false = refl

    pub block_cleaned_blocks : (a : BlockPages) → get blocks k ≡ Some a → b.present ≡ a.present → IsSoundBlock b → AreBlocks g blocks → AreBlocks g blocks'
    block_cleaned_blocks a at present sound all = blocks_more sound (λ i past. ap (λ n. has_bit n i) present ∙ all.below k a at i past) all

  fewer : (blocks blocks' : Blocks) (k : ℕ) → blocks' ≡ remove blocks k → AreBlocks g blocks → AreBlocks g blocks'
  fewer blocks blocks' k is all = record {
    sound = λ j c at. all.sound j c (before j c at);
    below = λ j c at. all.below j c (before j c at);
  }
    where
      before : (j : ℕ) (c : BlockPages) → get blocks' j ≡ Some c → get blocks j ≡ Some c
      before j c at = taken (j == k) (get blocks j) c (sym (ap (λ m. get m j) is ∙ get_remove blocks k j) ∙ at)

  -- a block that has no other page
  pub left_none : (blocks blocks' : Blocks) (k page : ℕ) (a : BlockPages) → blocks' ≡ remove blocks k → get blocks k ≡ Some a → IsOnlyPage a.present page → IsLeftOut g blocks blocks' k page
  left_none blocks blocks' k page a is at only = record {
    others = λ j i. ap (λ o. page_in o i) (ap (λ m. get m j) is ∙ get_remove blocks k j) ∙ elim (cases_Bool (j == k)) [
      | inl t ↦
          ap (λ c. page_in (cond c None (get blocks j)) i) t
          ∙ sym (ap (λ c. cond (c && (i == page)) None (page_in (get blocks j) i)) t
          ∙ ap (λ o. cond (i == page) None (page_in o i)) (ap (get blocks) (eqb-true _ _ t) ∙ at)
          ∙ ap (λ c. cond (i == page) None (then_some c (record { place = record { block = a.block; page = i }; dirty = has_bit a.dirty i; block_mapped = true }))) (only i)
          ∙ nothing (i == page) (record { place = record { block = a.block; page = i }; dirty = has_bit a.dirty i; block_mapped = true }))
      | inr f ↦ ap (λ c. page_in (cond c None (get blocks j)) i) f ∙ sym (ap (λ c. cond (c && (i == page)) None (page_in (get blocks j) i)) f)
    ];
    blocks = fewer blocks blocks' k is;
  }
    where
      nothing : (c : Bool) (e : Entry) → cond c None (then_some c e) ≡ None
      nothing true e = refl
      nothing false e = refl

  -- ---- one address less

  module _ (pages pages' : Pages) (blocks blocks' : Blocks) (lba : ℕ) (is : pages' ≡ remove pages lba) (left : IsLeftOut g blocks blocks' (lba / g.p) (lba % g.p)) where
    page_gone : (q : ℕ) → get pages' q ≡ cond (q == lba) None (get pages q)
    page_gone q = ap (λ m. get m q) is ∙ get_remove pages lba q

    block_gone : (q : ℕ) → page_in (get blocks' (q / g.p)) (q % g.p) ≡ cond (q == lba) None (page_in (get blocks (q / g.p)) (q % g.p))
    block_gone q = left.others (q / g.p) (q % g.p) ∙ ap (λ c. cond c None (page_in (get blocks (q / g.p)) (q % g.p))) (sym (is_address g.p q lba))

    pub removed : packed_entries g pages' blocks' ≡ after g (Remove lba) (packed_entries g pages blocks)
    removed = same_held pages' blocks' (after g (Remove lba) (packed_entries g pages blocks)) (λ q.
        ap₂ entry_in (page_gone q) (block_gone q)
        ∙ both (q == lba) (get pages q) (page_in (get blocks (q / g.p)) (q % g.p))
        ∙ ap (λ o. cond (q == lba) None o) (sym (get_held pages blocks q))
        ∙ sym (get-after g (Remove lba) (packed_entries g pages blocks) q))
      where
        both : (c : Bool) (o : Option MappedPage) (r : Option Entry) → entry_in (cond c None o) (cond c None r) ≡ cond c None (entry_in o r)
        both true o r = refl
        both false o r = refl

    pub removed_apart : AreDisjoint g pages blocks → AreDisjoint g pages' blocks'
    removed_apart apart a x at = block_gone a ∙ by_test (a == lba) (sym (page_gone a) ∙ at)
      where
        by_test : (c : Bool) → cond c None (get pages a) ≡ Some x → cond c None (page_in (get blocks (a / g.p)) (a % g.p)) ≡ None
        by_test true s = refl
        by_test false s = apart a x s

  -- ---- one group less

  module _ (pages pages' : Pages) (blocks blocks' : Blocks) (k : ℕ) (gone : (q : ℕ) → get pages' q ≡ cond (q / g.p == k) None (get pages q)) (is : blocks' ≡ remove blocks k) where
    block_less : (j : ℕ) → get blocks' j ≡ cond (j == k) None (get blocks j)
    block_less j = ap (λ m. get m j) is ∙ get_remove blocks k j

    pub group_removed : packed_entries g pages' blocks' ≡ after g (RemoveGroup k) (packed_entries g pages blocks)
    group_removed = same_held pages' blocks' (after g (RemoveGroup k) (packed_entries g pages blocks)) (λ q.
        ap₂ (λ x y. entry_in x (page_in y (q % g.p))) (gone q) (block_less (q / g.p))
        ∙ both (q / g.p == k) (get pages q) (get blocks (q / g.p)) (q % g.p)
        ∙ ap (λ o. cond (q / g.p == k) None o) (sym (get_held pages blocks q))
        ∙ sym (get-after g (RemoveGroup k) (packed_entries g pages blocks) q))
      where
        both : (c : Bool) (o : Option MappedPage) (r : Option BlockPages) (i : ℕ) → entry_in (cond c None o) (page_in (cond c None r) i) ≡ cond c None (entry_in o (page_in r i))
        both true o r i = refl
        both false o r i = refl

    pub group_removed_apart : AreDisjoint g pages blocks → AreDisjoint g pages' blocks'
    group_removed_apart apart a x at = ap (λ o. page_in o (a % g.p)) (block_less (a / g.p)) ∙ by_test (a / g.p == k) (sym (gone a) ∙ at)
      where
        by_test : (c : Bool) → cond c None (get pages a) ≡ Some x → page_in (cond c None (get blocks (a / g.p))) (a % g.p) ≡ None
        by_test true s = refl
        by_test false s = apart a x s

    pub group_removed_blocks : AreBlocks g blocks → AreBlocks g blocks'
    group_removed_blocks all = fewer blocks blocks' k is all

  -- ---- no entry to be cleaned

  pub clean_nothing : (pages : Pages) (blocks : Blocks) (lba : ℕ) → get pages lba ≡ None → get blocks (lba / g.p) ≡ None → packed_entries g pages blocks ≡ after g (Clean lba) (packed_entries g pages blocks)
  clean_nothing pages blocks lba none none' = same_map nat_cmp_total nat_cmp-IsAntisymmetric (packed_entries g pages blocks) (after g (Clean lba) (packed_entries g pages blocks)) (λ q.
      sym (get-after g (Clean lba) (packed_entries g pages blocks) q ∙ elim (cases_Bool (q == lba)) [
        | inl t ↦
            let here : get (packed_entries g pages blocks) q ≡ None = ap (get (packed_entries g pages blocks)) (eqb-true _ _ t) ∙ get_held pages blocks lba ∙ ap₂ (λ x y. entry_in x (page_in y (lba % g.p))) none none' in
            ap (λ b. cond b (option_map cleaned (get (packed_entries g pages blocks) q)) (get (packed_entries g pages blocks) q)) t ∙ ap (option_map cleaned) here ∙ sym here
        | inr f ↦ ap (λ b. cond b (option_map cleaned (get (packed_entries g pages blocks) q)) (get (packed_entries g pages blocks) q)) f
      ]))

  -- ---- the data block of a group

  module _ (pages : Pages) (blocks : Blocks) (all : AreBlocks g blocks) (apart : AreDisjoint g pages blocks) where
    abbrev held : Entries
    held = packed_entries g pages blocks

    at_page : (k i : ℕ) → i < g.p → get (packed_entries g pages blocks) (k * g.p + i) ≡ entry_in (get pages (k * g.p + i)) (page_in (get blocks k) i)
    at_page k i low = get_held pages blocks (k * g.p + i) ∙ ap₂ (λ j n. entry_in (get pages (k * g.p + i)) (page_in (get blocks j) n)) (div-mul-add k g.p i low) (mod-mul-add k g.p i low)

    -- a page of a group is in its data block exactly when the block has it
    mapped_is : (k i : ℕ) → i < g.p → is_chosen Mapped (get (packed_entries g pages blocks) (k * g.p + i)) ≡ is_chosen Mapped (page_in (get blocks k) i)
    mapped_is k i low = ap (is_chosen Mapped) (at_page k i low) ∙ by_log (get pages (k * g.p + i)) refl
      where
        by_log : (o : Option MappedPage) → get pages (k * g.p + i) ≡ o → is_chosen Mapped (entry_in o (page_in (get blocks k) i)) ≡ is_chosen Mapped (page_in (get blocks k) i)
        by_log None at = refl
        by_log (Some x) at = sym (ap (is_chosen Mapped) (ap₂ (λ j n. page_in (get blocks j) n) (sym (div-mul-add k g.p i low)) (sym (mod-mul-add k g.p i low)) ∙ apart (k * g.p + i) x at))

    dirty_is : (k i : ℕ) → i < g.p → is_chosen MappedDirty (get (packed_entries g pages blocks) (k * g.p + i)) ≡ is_chosen MappedDirty (page_in (get blocks k) i)
    dirty_is k i low = ap (is_chosen MappedDirty) (at_page k i low) ∙ by_log (get pages (k * g.p + i)) refl
      where
        by_log : (o : Option MappedPage) → get pages (k * g.p + i) ≡ o → is_chosen MappedDirty (entry_in o (page_in (get blocks k) i)) ≡ is_chosen MappedDirty (page_in (get blocks k) i)
        by_log None at = refl
        by_log (Some x) at = sym (ap (is_chosen MappedDirty) (ap₂ (λ j n. page_in (get blocks j) n) (sym (div-mul-add k g.p i low)) (sym (mod-mul-add k g.p i low)) ∙ apart (k * g.p + i) x at))

    bit_is : (a b i : ℕ) → has_bit a i ≡ has_bit b i → bit_at a i ≡ bit_at b i
    bit_is a b i same =
        let low = bit_at-lt a i in
        let low' = bit_at-lt b i in
        elim (cases_eq (bit_at a i) 1) [
          | inl one ↦ one ∙ sym (eqb-true (bit_at b i) 1 (sym same ∙ eq-eqb (bit_at a i) 1 one))
          | inr other ↦ elim (cases_eq (bit_at b i) 1) [
            | inl one ↦ absurd (other (eqb-true (bit_at a i) 1 (same ∙ eq-eqb (bit_at b i) 1 one)))
            | inr other' ↦ omega (arith, low, low')
          ]
        ]

    is_low : (i : ℕ) → nat_lt i g.p ≡ true → i < g.p
    is_low i t = ltb-true i g.p t

    is_past : (i : ℕ) → nat_lt i g.p ≡ false → g.p ≤ i
    is_past i f = ltb-false i g.p f

    present_is : (k : ℕ) (b : BlockPages) → get blocks k ≡ Some b → b.present ≡ chosen_of Mapped g (packed_entries g pages blocks) k
    present_is k b at = same_from_bits b.present (chosen_of Mapped g (packed_entries g pages blocks) k)
        (λ i. bit_is b.present (chosen_of Mapped g (packed_entries g pages blocks) k) i
        (sym (bit_of_set (λ n. is_chosen Mapped (get (packed_entries g pages blocks) (k * g.p + n))) g.p i ∙ by_place i (nat_lt i g.p) refl)))
      where
        shown : (i : ℕ) (c : Bool) → is_chosen Mapped (then_some c (record { place = record { block = b.block; page = i }; dirty = has_bit b.dirty i; block_mapped = true })) ≡ c
        shown i true = refl
        shown i false = refl

        by_place : (i : ℕ) (c : Bool) → nat_lt i g.p ≡ c → (c && is_chosen Mapped (get (packed_entries g pages blocks) (k * g.p + i))) ≡ has_bit b.present i
        by_place i true low = mapped_is k i (is_low i low) ∙ ap (λ o. is_chosen Mapped (page_in o i)) at ∙ shown i (has_bit b.present i)
        by_place i false past = sym (all.below k b at i (is_past i past))

    dirty_pages_are : (k : ℕ) (b : BlockPages) → get blocks k ≡ Some b → b.dirty ≡ chosen_of MappedDirty g (packed_entries g pages blocks) k
    dirty_pages_are k b at = same_from_bits b.dirty (chosen_of MappedDirty g (packed_entries g pages blocks) k)
        (λ i. bit_is b.dirty (chosen_of MappedDirty g (packed_entries g pages blocks) k) i
        (sym (bit_of_set (λ n. is_chosen MappedDirty (get (packed_entries g pages blocks) (k * g.p + n))) g.p i ∙ by_place i (nat_lt i g.p) refl)))
      where
        within : (i : ℕ) → has_bit b.dirty i ≡ true → has_bit b.present i ≡ true
        within i t = (all.sound k b at).within i t

        shown : (i : ℕ) (c d : Bool) → (d ≡ true → c ≡ true) → is_chosen MappedDirty (then_some c (record { place = record { block = b.block; page = i }; dirty = d; block_mapped = true })) ≡ d
        shown i true d of = refl
        shown i false true of = of refl
        shown i false false of = refl

        none : (d c : Bool) → (d ≡ true → c ≡ true) → c ≡ false → d ≡ false
        none true c of f = sym (of refl) ∙ f
        none false c of f = refl

        by_place : (i : ℕ) (c : Bool) → nat_lt i g.p ≡ c → (c && is_chosen MappedDirty (get (packed_entries g pages blocks) (k * g.p + i))) ≡ has_bit b.dirty i
        by_place i true low = dirty_is k i (is_low i low) ∙ ap (λ o. is_chosen MappedDirty (page_in o i)) at ∙ shown i (has_bit b.present i) (has_bit b.dirty i) (within i)
        by_place i false past = sym (none (has_bit b.dirty i) (has_bit b.present i) (within i) (all.below k b at i (is_past i past)))

    pub data_block_is : (k : ℕ) (b : BlockPages) → get blocks k ≡ Some b → IsDataBlock g (packed_entries g pages blocks) k b
    data_block_is k b at = record {
      stands = λ a e is mapped in_group. by_log a e in_group mapped (get pages a) (sym (get_held pages blocks a) ∙ is);
      present = present_is k b at;
      dirty = dirty_pages_are k b at;
      some = (all.sound k b at).some;
    }
      where
        of_page : (a : ℕ) (e : Entry) (c : Bool) → then_some c (record { place = record { block = b.block; page = a % g.p }; dirty = has_bit b.dirty (a % g.p); block_mapped = true }) ≡ Some e → e.place.block ≡ b.block
        of_page a e true s = ap (λ (x : Entry). x.place.block) (sym (same_Some _ e s))
        of_page a e false s = none_some e s

        by_log : (a : ℕ) (e : Entry) → a / g.p ≡ k → e.block_mapped ≡ true → (o : Option MappedPage) → entry_in o (page_in (get blocks (a / g.p)) (a % g.p)) ≡ Some e → e.place.block ≡ b.block
        by_log a e in_group mapped None s = of_page a e (has_bit b.present (a % g.p)) (sym (ap (λ o. page_in o (a % g.p)) (ap (get blocks) in_group ∙ at)) ∙ s)
        by_log a e in_group mapped (Some x) s = absurd (both_ways e.block_mapped (ap (λ (y : Entry). y.block_mapped) (sym (same_Some (in_log_block x.place x.dirty) e s))) mapped)

    pub no_data_block : (k : ℕ) → get blocks k ≡ None → chosen_of Mapped g (packed_entries g pages blocks) k ≡ 0
    no_data_block k none = set_of_none (λ i. is_chosen Mapped (get (packed_entries g pages blocks) (k * g.p + i))) g.p (λ i low. mapped_is k i low ∙ ap (λ o. is_chosen Mapped (page_in o i)) none)

    -- a page that the data block has is no mapped page
    pub not_logged : (k i : ℕ) → i < g.p → (e : Entry) → page_in (get blocks k) i ≡ Some e → get pages (k * g.p + i) ≡ None
    not_logged k i low e is = by_log (get pages (k * g.p + i)) refl
      where
        by_log : (o : Option MappedPage) → get pages (k * g.p + i) ≡ o → o ≡ None
        by_log None at = refl
        by_log (Some x) at = none_some e (sym (ap₂ (λ j n. page_in (get blocks j) n) (sym (div-mul-add k g.p i low)) (sym (mod-mul-add k g.p i low)) ∙ apart (k * g.p + i) x at) ∙ is)

    pub not_logged_some : (k i : ℕ) → i < g.p → (o : Option BlockPages) → o ≡ get blocks k → IsSome (page_in o i) → get pages (k * g.p + i) ≡ None
    not_logged_some k i low o told some = by_page (page_in o i) refl some
      where
        by_page : (r : Option Entry) → page_in o i ≡ r → IsSome r → get pages (k * g.p + i) ≡ None
        by_page None is some = absurd (cc)
        by_page (Some e) is some = not_logged k i low e (ap (λ x. page_in x i) (sym told) ∙ is)

    -- the entry of a page of the group: the data block's, or else the mapped page's
    pub page_of_block : (k i : ℕ) → i < g.p → (o : Option BlockPages) → o ≡ get blocks k → (e : Entry) → Some e ≡ page_in o i → Some e ≡ get (packed_entries g pages blocks) (k * g.p + i)
    page_of_block k i low o told e is =
        let here : page_in (get blocks k) i ≡ Some e = ap (λ r. page_in r i) (sym told) ∙ sym is in
        sym here ∙ sym (at_page k i low ∙ ap (λ x. entry_in x (page_in (get blocks k) i)) (not_logged k i low e here))

    pub page_beside_block : (k i : ℕ) → i < g.p → (o : Option BlockPages) → o ≡ get blocks k → None ≡ page_in o i → (x : Option MappedPage) → x ≡ get pages (k * g.p + i) → entry_in x None ≡ get (packed_entries g pages blocks) (k * g.p + i)
    page_beside_block k i low o told none x at = ap₂ (λ y r. entry_in y r) at (none ∙ ap (λ r. page_in r i) told) ∙ sym (at_page k i low)

    -- the data block that the entries tell is the one that is kept
    pub block_told : (k : ℕ) (o : Option BlockPages) → IsBlockOf g (packed_entries g pages blocks) k o → o ≡ get blocks k
    block_told k o is_block = by_kept o is_block.some is_block.none (get blocks k) refl
      where
        same_pages : (a b : BlockPages) → a.block ≡ b.block → a.present ≡ b.present → a.dirty ≡ b.dirty → a ≡ b
        same_pages a b x y z = λ t. record { block = x t; present = y t; dirty = z t }

        by_kept : (o : Option BlockPages) → IfSome o (IsDataBlock g (packed_entries g pages blocks) k) → IfNone o (chosen_of Mapped g (packed_entries g pages blocks) k ≡ 0) → (r : Option BlockPages) → get blocks k ≡ r → o ≡ r
        by_kept None some none None at = refl
        by_kept None some none (Some b) at = absurd (let is = present_is k b at in let more = (all.sound k b at).some in omega (arith, none, is, more))
        by_kept (Some a) some none None at = absurd (let is = some.present in let more = some.some in let empty = no_data_block k at in omega (arith, is, more, empty))
        by_kept (Some a) some none (Some b) at =
            let own = data_block_is k b at in
            let x = stands_some g (packed_entries g pages blocks) k b own in
            ap Some (same_pages a b (sym (some.stands x.0 x.1 x.2 x.4 x.3) ∙ own.stands x.0 x.1 x.2 x.4 x.3) (some.present ∙ sym own.present) (some.dirty ∙ sym own.dirty))

  -- the place and the mark of a mapped page
  pub logged_is : (x : Option MappedPage) (o : Option BlockPages) (i : ℕ) → option_map (λ (y : MappedPage). (y.place, y.dirty)) x ≡ place_if_logged (entry_in x (page_in o i))
  logged_is (Some y) o i = refl
  logged_is None None i = refl
  logged_is None (Some b) i = by_bit (has_bit b.present i)
    where
      by_bit : (c : Bool) → None ≡ place_if_logged (then_some c (record { place = record { block = b.block; page = i }; dirty = has_bit b.dirty i; block_mapped = true }))
      by_bit true = refl
      by_bit false = refl

  pub block_found : (pages : Pages) (blocks : Blocks) → AreBlocks g blocks → AreDisjoint g pages blocks → (k : ℕ) (o : Option BlockPages) → o ≡ get blocks k → IfSome o (IsDataBlock g (packed_entries g pages blocks) k)
  block_found pages blocks all apart k None is = tt
  block_found pages blocks all apart k (Some b) is = data_block_is pages blocks all apart k b (sym is)

  pub block_not_found : (pages : Pages) (blocks : Blocks) → AreBlocks g blocks → AreDisjoint g pages blocks → (k : ℕ) (o : Option BlockPages) → o ≡ get blocks k → IfNone o (chosen_of Mapped g (packed_entries g pages blocks) k ≡ 0)
  block_not_found pages blocks all apart k None is = no_data_block pages blocks all apart k (sym is)
  block_not_found pages blocks all apart k (Some b) is = tt

  -- a group without entries has no data block
  pub block_absent : (pages : Pages) (blocks : Blocks) → AreBlocks g blocks → AreDisjoint g pages blocks → (k : ℕ) → ((i : ℕ) → i < g.p → get (packed_entries g pages blocks) (k * g.p + i) ≡ None) → get blocks k ≡ None
  block_absent pages blocks all apart k free = by_block (get blocks k) refl
    where
      empty_set : chosen_of Mapped g (packed_entries g pages blocks) k ≡ 0
      empty_set = set_of_none (λ i. is_chosen Mapped (get (packed_entries g pages blocks) (k * g.p + i))) g.p (λ i low. ap (is_chosen Mapped) (free i low))

      by_block : (o : Option BlockPages) → get blocks k ≡ o → o ≡ None
      by_block None at = refl
      by_block (Some b) at = absurd (let some = (all.sound k b at).some in let is = (data_block_is pages blocks all apart k b at).present in omega (arith, some, is, empty_set))

  -- ---- how many records a checkpoint has

  pub records_long : (m : Entries) (pages : PackedTable MappedPage) (blocks : PackedTable BlockPages) → IsSoundTable pages → IsSoundTable blocks → length (records_of g m (items_of pages.slots) (items_of blocks.slots)) ≡ len_of blocks + len_of pages
  records_long m pages blocks sound sound' =
      length-append (map (λ (x : ℕ × BlockPages). set_group_of g m x.0) (items_of blocks.slots)) (map page_record (items_of pages.slots))
      ∙ ap₂ (λ x y. x + y)
      (length-map (items_of blocks.slots) (λ (x : ℕ × BlockPages). set_group_of g m x.0) ∙ sym (len_of-items blocks sound'.packed.once))
      (length-map (items_of pages.slots) page_record ∙ sym (len_of-items pages sound.packed.once))

  -- ---- the mapped pages of a group

  -- the mapped pages before page i are removed
  pub record PagesGone (group : ℕ) (old new : PackedTable MappedPage) (i : ℕ) : Type 0 where
    pub gone : (q : ℕ) → get (map_of new) q ≡ cond ((q / g.p == group) && nat_lt (q % g.p) i) None (get (map_of old) q)
    pub spare : new.spare ≡ old.spare
    pub buckets : buckets_of new ≡ buckets_of old
    pub sound : IsSoundTable new

  pub none_gone : (group : ℕ) (old : PackedTable MappedPage) → IsSoundTable old → PagesGone group old old 0
  none_gone group old sound = record { gone = λ q. sym (ap (λ c. cond c None (get (map_of old) q)) (ap (λ c. (q / g.p == group) && c) (le-ltb (q % g.p) 0 (omega arith)) ∙ and-false (q / g.p == group))); spare = refl; buckets = refl; sound = sound }

  pub one_gone : (group i : ℕ) (old now new : PackedTable MappedPage) → i < g.p → PagesGone group old now i → map_of new ≡ remove (map_of now) (group * g.p + i) → new.spare ≡ now.spare → buckets_of new ≡ buckets_of now → IsSoundTable new → PagesGone group old new (i + 1)
  one_gone group i old now new low so_far is spare buckets sound = record {
    gone = λ q.
        ap (λ m. get m q) is ∙ get_remove (map_of now) (group * g.p + i) q
        ∙ ap₂ (λ c o. cond c None o) (here q) (so_far.gone q)
        ∙ joined (q / g.p == group) (q % g.p == i) (nat_lt (q % g.p) i) (nat_lt (q % g.p) (i + 1)) (get (map_of old) q) (one_more (q % g.p) i);
    spare = spare ∙ so_far.spare;
    buckets = buckets ∙ so_far.buckets;
    sound = sound;
  }
    where
      here : (q : ℕ) → (q == group * g.p + i) ≡ ((q / g.p == group) && (q % g.p == i))
      here q = is_address g.p q (group * g.p + i) ∙ ap₂ (λ x y. (q / g.p == x) && (q % g.p == y)) (div-mul-add group g.p i low) (mod-mul-add group g.p i low)

      one_more : (x n : ℕ) → nat_lt x (n + 1) ≡ (nat_lt x n || (x == n))
      one_more x n = grind (arith, nat_tests)

      joined : (a e l l' : Bool) (o : Option MappedPage) → l' ≡ (l || e) → cond (a && e) None (cond (a && l) None o) ≡ cond (a && l') None o
      joined true true true l' o is' = sym (ap (λ c. cond c None o) is')
      joined true true false l' o is' = sym (ap (λ c. cond c None o) is')
      joined true false true l' o is' = sym (ap (λ c. cond c None o) is')
      joined true false false l' o is' = sym (ap (λ c. cond c None o) is')
      joined false e l l' o is' = refl

  -- an address that has no mapped page has none while others are removed
  pub still_none : (group i : ℕ) (old new : PackedTable MappedPage) (q : ℕ) → PagesGone group old new i → get (map_of old) q ≡ None → get (map_of new) q ≡ None
  still_none group i old new q so_far none = so_far.gone q ∙ ap (λ o. cond ((q / g.p == group) && nat_lt (q % g.p) i) None o) none ∙ no_choice ((q / g.p == group) && nat_lt (q % g.p) i)
    where
      no_choice : (b : Bool) → ◌≡◌ {A = Option MappedPage} (cond b None None) None
      no_choice true = refl
      no_choice false = refl

  pub all_gone : (group : ℕ) (old new : PackedTable MappedPage) → PagesGone group old new g.p → (q : ℕ) → get (map_of new) q ≡ cond (q / g.p == group) None (get (map_of old) q)
  all_gone group old new so_far q = so_far.gone q ∙ ap (λ c. cond ((q / g.p == group) && c) None (get (map_of old) q)) (lt-ltb _ _ (mod_below q g.p some_pages)) ∙ ap (λ c. cond c None (get (map_of old) q)) (and-true (q / g.p == group))
