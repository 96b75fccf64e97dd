-- The facts that a map keeps true through a new key, another value and a removal.
use Rattle.std.proofs.Common.{◌≡◌, ◌≢◌, ℕ, ◌+◌, ◌-◌, ◌<◌, ◌≤◌, ◌⊎◌, min, List, [], Option, Some, None, true, length, set, cond, eqb, refl, sym, ap, ◌∙◌, subst, inl, inr, arith}
use Rattle.std.specs.Prelude.{is_some}
use Rattle.std.specs.Ordering.{nat_cmp}
use Rattle.std.specs.FinMap as map
use Rattle.std.specs.FinMap.{find}
use Rattle.std.specs.Prelude.{Vec}
use Rattle.std.specs.Vec.{vec_len, with_items}
use Rattle.std.proofs.lemmas.List.{length-set, nil_from_length, with_items_is}
use Rattle.std.proofs.lemmas.Bool.{cases_eq, eq-eqb, ne_eqb, cond-true, cond-false, false≢true}
use Rattle.sparse_map.specs.declared.group.Group.{Group}
use Rattle.sparse_map.specs.declared.table.Touched.{Touched}
use Rattle.sparse_map.specs.declared.table.Touched.TheVariants.{Nowhere}
use Rattle.sparse_map.specs.declared.map.SparseMap.TheInside.{Inside}
use Rattle.sparse_map.specs.Slots.{slot_at, key_at, items_of}
use Rattle.sparse_map.specs.Home.{buckets_for}
use Rattle.sparse_map.specs.Groups.{all_slots, slots_of, IsTable}
use Rattle.sparse_map.specs.Places.{sizes_of, lacking, past_of}
use Rattle.sparse_map.specs.Packed.{IsPacked, PackedTable, map_of}
use Rattle.sparse_map.specs.Kept.{KeepsTable}
use Rattle.sparse_map.specs.Seen.{seen_of}
use Rattle.sparse_map.specs.Probe.{IsFreeFor}
use Rattle.sparse_map.proofs.BucketLemmas.{set_below, table_set, key_below}
use Rattle.sparse_map.proofs.HomeLemmas.{home_below}
use Rattle.sparse_map.proofs.SlotLemmas.{is_some-key_at, length-items_of-set, length-items_of-le, find-set_new, find-set_value, slot_of_key, not_found, found_where}
use Rattle.sparse_map.proofs.PackedLemmas.{PackedAt-from, PackedAt-to, packed-set_new, packed-set_value, key_inside}
use Rattle.sparse_map.proofs.MapLemmas.{get-map_of, map_of-insert, map_of-remove, kept_long, kept_none, kept_some}

module _ {V : Type 0} (s : List (Option (ℕ × V))) (b k : ℕ) (v : V) (packed : IsPacked s) where
  module _ (has : key_at s b ≡ Some k) where
    pub value_packed : IsPacked (set s b (Some (k, v)))
    value_packed = PackedAt-to (length s) (set s b (Some (k, v))) (length-set s b (Some (k, v))) (packed-set_value (length s) s b k v (PackedAt-from (length s) s refl packed) has)

    pub value_count : length (items_of (set s b (Some (k, v)))) ≡ length (items_of s)
    value_count =
        let changed = length-items_of-set s b (Some (k, v)) (key_inside s b k has) in
        let some : cond (is_some (slot_at s b)) 1 0 ≡ 1 = ap {B = ℕ} (λ x. cond {A = ℕ} x 1 0) (sym (is_some-key_at s b) ∙ ap is_some has) in
        omega (arith, changed, some)

    pub value_found : (q : ℕ) → find nat_cmp q (items_of (set s b (Some (k, v)))) ≡ cond (eqb q k) (Some v) (find nat_cmp q (items_of s))
    value_found q = let old = slot_of_key s b k has in find-set_value s b k packed.once v old.0 (key_inside s b k has) old.1 q

  module _ (place : IsFreeFor s k b) where
    pub new_packed : IsPacked (set s b (Some (k, v)))
    new_packed =
        let some : 0 < length s = omega (arith, place.inside) in
        PackedAt-to (length s) (set s b (Some (k, v))) (length-set s b (Some (k, v)))
        (packed-set_new (length s) s b k v refl (home_below (length s) k some) (PackedAt-from (length s) s refl packed) place)

    pub new_count : length (items_of (set s b (Some (k, v)))) ≡ length (items_of s) + 1
    new_count =
        let changed = length-items_of-set s b (Some (k, v)) place.inside in
        let none : cond (is_some (slot_at s b)) 1 0 ≡ 0 = ap {B = ℕ} (λ o. cond {A = ℕ} (is_some o) 1 0) place.free in
        omega (arith, changed, none)

    pub new_found : (q : ℕ) → find nat_cmp q (items_of (set s b (Some (k, v)))) ≡ cond (eqb q k) (Some v) (find nat_cmp q (items_of s))
    new_found = find-set_new s b k packed.once v place.inside place.free place.absent

module _ {V : Type 0} (bits len spare blanks : ℕ) (touched : Touched) (us : List (Group V)) (kept : KeepsTable bits len spare blanks touched us) where
  -- the same number of buckets, other items
  pub kept_changed : (len_2 spare_2 blanks_2 : ℕ) (touched_2 : Touched) (ws : List (Group V)) → IsTable (buckets_for bits) ws → IsPacked (slots_of (buckets_for bits) ws) → len_2 ≡ length (items_of (slots_of (buckets_for bits) ws))
      → len_2 + spare_2 ≤ len + spare → min spare_2 (lacking spare_2 Nowhere (sizes_of ws)) ≤ blanks_2 → lacking 1 touched_2 (sizes_of ws) ≤ lacking 1 touched (sizes_of us)
      → past_of (sizes_of ws) ≤ past_of (sizes_of us) → blanks_2 ≤ blanks → KeepsTable bits len_2 spare_2 blanks_2 touched_2 ws
  kept_changed len_2 spare_2 blanks_2 touched_2 ws table packed counted less stocked ready short fewer =
      record {
        few = kept.few;
        many = kept.many;
        table = table;
        packed = packed;
        counted = counted;
        room = omega (arith, kept.room, less);
        stocked = stocked;
        ready = omega (arith, ready, kept.ready);
        short = omega (arith, short, kept.short);
        few_blanks = omega (arith, fewer, kept.few_blanks);
      }

  -- a key that is there, or room for one, shows that there are buckets
  pub ready_has_buckets : (t : PackedTable V) (key : ℕ) → slots_of (buckets_for bits) us ≡ t.slots → spare ≡ t.spare → ((map.contains_key (map_of t) key ≡ true) ⊎ (1 ≤ t.spare)) → 0 < bits
  ready_has_buckets t key same room ready = elim ready [
    | inl there ↦ elim (cases_eq bits 0) [
      | inr some ↦ omega arith
      | inl none ↦
          let empty : length t.slots ≡ 0 = sym (ap length same) ∙ kept_none bits len spare blanks touched us kept none in
          let no_items : items_of t.slots ≡ [] = nil_from_length (items_of t.slots) (omega (arith, length-items_of-le t.slots)) in
          absurd (false≢true (sym (ap is_some (get-map_of t key ∙ ap (find nat_cmp key) no_items)) ∙ there))
    ]
    | inr more ↦ kept_some bits len spare blanks touched us kept (omega (arith, kept.room, kept_long bits len spare blanks touched us kept, room, more))
  ]

-- a list written through `as_mut_slice`
pub written : {X Z : Type 0} (v : Vec X Z) (ws : List X) → length ws ≡ vec_len v → (with_items v ws).items ≡ ws
written v ws long = with_items_is v ws long

module _ {V : Type 0} (m : Inside V) (t : PackedTable V) (kept : KeepsTable m.bits m.len m.spare (vec_len m.stock) m.touched m.groups.items)
    (is : ◌≡◌ {A = PackedTable V} (seen_of m.bits m.groups.items m.spare (vec_len m.stock) m.touched m.peak) t) where
  pub seen_ready : (key : ℕ) → ((map.contains_key (map_of t) key ≡ true) ⊎ (1 ≤ t.spare)) → 0 < m.bits
  seen_ready key ready =
      ready_has_buckets m.bits m.len m.spare (vec_len m.stock) m.touched m.groups.items kept t key (ap (λ (x : PackedTable V). x.slots) is) (ap (λ (x : PackedTable V). x.spare) is) ready

  -- a key that is nowhere needs room
  pub absent_needs_room : (key : ℕ) → ((b : ℕ) → key_at (slots_of (buckets_for m.bits) m.groups.items) b ≢ Some key) → ((map.contains_key (map_of t) key ≡ true) ⊎ (1 ≤ t.spare)) → 1 ≤ m.spare
  absent_needs_room key absent ready = elim ready [
    | inl there ↦
        let same : slots_of (buckets_for m.bits) m.groups.items ≡ t.slots = ap (λ (x : PackedTable V). x.slots) is in
        let none = get-map_of t key ∙ ap (λ s. find nat_cmp key (items_of s)) (sym same) ∙ not_found (slots_of (buckets_for m.bits) m.groups.items) key absent in
        absurd (false≢true (sym (ap is_some none) ∙ there))
    | inr more ↦ let same : m.spare ≡ t.spare = ap (λ (x : PackedTable V). x.spare) is in omega arith
  ]

  pub get_there : (b key : ℕ) (v : V) → slot_at (slots_of (buckets_for m.bits) m.groups.items) b ≡ Some (key, v) → map.get (map_of t) key ≡ Some v
  get_there b key v has =
      let same : slots_of (buckets_for m.bits) m.groups.items ≡ t.slots = ap (λ (x : PackedTable V). x.slots) is in
      get-map_of t key ∙ ap (λ s. find nat_cmp key (items_of s)) (sym same) ∙ found_where (slots_of (buckets_for m.bits) m.groups.items) b key v kept.packed.once has

  pub get_absent : (key : ℕ) → ((b : ℕ) → key_at (slots_of (buckets_for m.bits) m.groups.items) b ≢ Some key) → map.get (map_of t) key ≡ None
  get_absent key absent =
      let same : slots_of (buckets_for m.bits) m.groups.items ≡ t.slots = ap (λ (x : PackedTable V). x.slots) is in
      get-map_of t key ∙ ap (λ s. find nat_cmp key (items_of s)) (sym same) ∙ not_found (slots_of (buckets_for m.bits) m.groups.items) key absent

  pub map_changed : (u : PackedTable V) (ws : List (Group V)) → u.slots ≡ slots_of (buckets_for m.bits) ws → (key : ℕ) (v : V)
      → ((q : ℕ) → find nat_cmp q (items_of (slots_of (buckets_for m.bits) ws)) ≡ cond (eqb q key) (Some v) (find nat_cmp q (items_of (slots_of (buckets_for m.bits) m.groups.items))))
      → map_of u ≡ map.insert (map_of t) key v
  map_changed u ws at key v found =
      let same : slots_of (buckets_for m.bits) m.groups.items ≡ t.slots = ap (λ (x : PackedTable V). x.slots) is in
      map_of-insert t u key v
      (λ q. ap (λ s. find nat_cmp q (items_of s)) at ∙ found q ∙ ap (λ s. cond (eqb q key) (Some v) (find nat_cmp q (items_of s))) same)

  pub map_without : (u : PackedTable V) (ws : List (Group V)) → u.slots ≡ slots_of (buckets_for m.bits) ws → (key : ℕ)
      → ((q : ℕ) → find nat_cmp q (items_of (slots_of (buckets_for m.bits) ws)) ≡ cond (eqb q key) None (find nat_cmp q (items_of (slots_of (buckets_for m.bits) m.groups.items))))
      → map_of u ≡ map.remove (map_of t) key
  map_without u ws at key found =
      let same : slots_of (buckets_for m.bits) m.groups.items ≡ t.slots = ap (λ (x : PackedTable V). x.slots) is in
      map_of-remove t u key
      (λ q. ap (λ s. find nat_cmp q (items_of s)) at ∙ found q ∙ ap (λ s. cond (eqb q key) None (find nat_cmp q (items_of s))) same)

  module _ (ws : List (Group V)) (b key : ℕ) (v : V) (e : all_slots ws ≡ set (all_slots m.groups.items) b (Some (key, v))) where
    changed : b < buckets_for m.bits → slots_of (buckets_for m.bits) ws ≡ set (slots_of (buckets_for m.bits) m.groups.items) b (Some (key, v))
    changed lt = set_below (buckets_for m.bits) m.groups.items ws b (Some (key, v)) lt e

    changed_table : b < buckets_for m.bits → IsTable (buckets_for m.bits) ws
    changed_table lt = table_set (buckets_for m.bits) m.groups.items ws b (Some (key, v)) lt e kept.table

    has_below : key_at (slots_of (buckets_for m.bits) m.groups.items) b ≡ Some key → b < buckets_for m.bits
    has_below = key_below (buckets_for m.bits) m.groups.items b key

    free_below : IsFreeFor (slots_of (buckets_for m.bits) m.groups.items) key b → b < buckets_for m.bits
    free_below place = omega (arith, place.inside, kept_long m.bits m.len m.spare (vec_len m.stock) m.touched m.groups.items kept)

    -- the same, as the map's contracts see it
    pub seen_value : key_at (slots_of (buckets_for m.bits) m.groups.items) b ≡ Some key → slots_of (buckets_for m.bits) ws ≡ set t.slots b (Some (key, v))
    seen_value has = changed (has_below has) ∙ ap (λ (x : PackedTable V). set x.slots b (Some (key, v))) is

    pub seen_new_key : IsFreeFor (slots_of (buckets_for m.bits) m.groups.items) key b → slots_of (buckets_for m.bits) ws ≡ set t.slots b (Some (key, v))
    seen_new_key place = changed (free_below place) ∙ ap (λ (x : PackedTable V). set x.slots b (Some (key, v))) is

    pub kept_value : key_at (slots_of (buckets_for m.bits) m.groups.items) b ≡ Some key → sizes_of ws ≡ sizes_of m.groups.items → KeepsTable m.bits m.len m.spare (vec_len m.stock) m.touched ws
    kept_value has sizes =
        kept_changed m.bits m.len m.spare (vec_len m.stock) m.touched m.groups.items kept m.len m.spare (vec_len m.stock) m.touched ws (changed_table (has_below has))
        (subst (λ s. IsPacked s) (sym (changed (has_below has))) (value_packed (slots_of (buckets_for m.bits) m.groups.items) b key v kept.packed has))
        (kept.counted ∙ sym (ap (λ s. length (items_of s)) (changed (has_below has)) ∙ value_count (slots_of (buckets_for m.bits) m.groups.items) b key v kept.packed has))
        (omega arith)
        (subst (λ s. min m.spare (lacking m.spare Nowhere s) ≤ vec_len m.stock) (sym sizes) kept.stocked)
        (omega (arith, ap (lacking 1 m.touched) sizes))
        (omega (arith, ap past_of sizes))
        (omega arith)

    pub map_value : (u : PackedTable V) → u.slots ≡ slots_of (buckets_for m.bits) ws → key_at (slots_of (buckets_for m.bits) m.groups.items) b ≡ Some key → map_of u ≡ map.insert (map_of t) key v
    map_value u at has =
        map_changed u ws at key v (λ q. ap (λ s. find nat_cmp q (items_of s)) (changed (has_below has)) ∙ value_found (slots_of (buckets_for m.bits) m.groups.items) b key v kept.packed has q)

    pub kept_new_key : (blanks : ℕ) (touched : Touched) → IsFreeFor (slots_of (buckets_for m.bits) m.groups.items) key b → 1 ≤ m.spare → vec_len m.stock ≤ blanks + 1
        → ((n : ℕ) → vec_len m.stock + lacking n Nowhere (sizes_of ws) ≤ blanks + lacking (n + 1) Nowhere (sizes_of m.groups.items))
        → lacking 1 touched (sizes_of ws) ≤ lacking 1 m.touched (sizes_of m.groups.items) → past_of (sizes_of ws) ≤ past_of (sizes_of m.groups.items) → blanks ≤ vec_len m.stock
        → KeepsTable m.bits (m.len + 1) (m.spare - 1) blanks touched ws
    kept_new_key blanks touched place more one_less fewer_lack ready short fewer_blanks =
        let before : m.spare - 1 + 1 ≡ m.spare = omega (arith, more) in
        let fewer : vec_len m.stock + lacking (m.spare - 1) Nowhere (sizes_of ws) ≤ blanks + lacking m.spare Nowhere (sizes_of m.groups.items) =
        subst (λ n. vec_len m.stock + lacking (m.spare - 1) Nowhere (sizes_of ws) ≤ blanks + lacking n Nowhere (sizes_of m.groups.items)) before (fewer_lack (m.spare - 1)) in
        kept_changed m.bits m.len m.spare (vec_len m.stock) m.touched m.groups.items kept (m.len + 1) (m.spare - 1) blanks touched ws (changed_table (free_below place))
        (subst (λ s. IsPacked s) (sym (changed (free_below place))) (new_packed (slots_of (buckets_for m.bits) m.groups.items) b key v kept.packed place))
        (let count = ap (λ s. length (items_of s)) (changed (free_below place)) ∙ new_count (slots_of (buckets_for m.bits) m.groups.items) b key v kept.packed place in
        ap (λ n. n + 1) kept.counted ∙ sym count)
        (omega arith)
        (omega (arith, kept.stocked, one_less, fewer, more))
        ready
        short
        fewer_blanks

    pub map_new_key : (u : PackedTable V) → u.slots ≡ slots_of (buckets_for m.bits) ws → IsFreeFor (slots_of (buckets_for m.bits) m.groups.items) key b → map_of u ≡ map.insert (map_of t) key v
    map_new_key u at place =
        map_changed u ws at key v (λ q. ap (λ s. find nat_cmp q (items_of s)) (changed (free_below place)) ∙ new_found (slots_of (buckets_for m.bits) m.groups.items) b key v kept.packed place q)

  -- without a key, among the n buckets that there are
  pub kept_removed : (n : ℕ) → buckets_for m.bits ≡ n → (ws : List (Group V)) → IsTable n ws → IsPacked (slots_of n ws)
      → length (items_of (slots_of n ws)) + 1 ≡ length (items_of (slots_of n m.groups.items))
      → ((n : ℕ) (t : Touched) → lacking n t (sizes_of ws) ≤ lacking n t (sizes_of m.groups.items)) → past_of (sizes_of ws) ≤ past_of (sizes_of m.groups.items)
      → KeepsTable m.bits (m.len - 1) m.spare (vec_len m.stock) m.touched ws
  kept_removed n size ws =
      subst (λ n. IsTable n ws → IsPacked (slots_of n ws) → length (items_of (slots_of n ws)) + 1 ≡ length (items_of (slots_of n m.groups.items))
      → ((n : ℕ) (t : Touched) → lacking n t (sizes_of ws) ≤ lacking n t (sizes_of m.groups.items)) → past_of (sizes_of ws) ≤ past_of (sizes_of m.groups.items)
      → KeepsTable m.bits (m.len - 1) m.spare (vec_len m.stock) m.touched ws) size
      (λ table packed count fewer short.
      kept_changed m.bits m.len m.spare (vec_len m.stock) m.touched m.groups.items kept (m.len - 1) m.spare (vec_len m.stock) m.touched ws
      table
      packed
      (omega (arith, kept.counted, count))
      (omega arith)
      (omega (arith, kept.stocked, fewer m.spare Nowhere))
      (omega (arith, fewer 1 m.touched))
      short
      (omega arith))

-- a map is unchanged by the removal of an absent key
pub absent_stays : {V : Type 0} (t : PackedTable V) (key : ℕ) → ((b : ℕ) → key_at t.slots b ≢ Some key) → map_of t ≡ map.remove (map_of t) key
absent_stays t key absent =
    map_of-remove t t key (λ q. elim (cases_eq q key) [
      | inl e ↦ ap (λ x. find nat_cmp x (items_of t.slots)) e ∙ not_found t.slots key absent ∙ sym (cond-true (eqb q key) _ _ (eq-eqb q key e))
      | inr ne ↦ sym (cond-false (eqb q key) _ _ (ne_eqb q key ne))
    ])
