-- A list of items that is moved into a map, one item and one group at a time; and groups and rooms anew.
use Rattle.std.proofs.Common.{◌≡◌, ℕ, ◌+◌, ◌-◌, ◌*◌, ◌^◌, ◌≤◌, min, List, [], ◌∷◌, ◌++◌, Option, Some, None, true, false, length, cond, refl, sym, ap, ◌∙◌, subst, inl, inr, arith}
use Rattle.std.specs.Prelude.{is_some}
use Rattle.std.specs.Ordering.{nat_cmp}
use Rattle.std.specs.FinMap.{find}
use Rattle.std.specs.List.{flat_map}
use Rattle.std.proofs.lemmas.List.{append-nil, get_or_append_left, get_or-append_right}
use Rattle.std.proofs.lemmas.List.Concat.{flat_map-append}
use Rattle.std.proofs.lemmas.Bool.{cases_lt, cases_eq, cases_Bool, cond-true, cond-false, false≢true}
use Rattle.sparse_map.specs.declared.group.Group.{Group}
use Rattle.sparse_map.specs.declared.table.Touched.{Touched}
use Rattle.sparse_map.specs.declared.table.Touched.TheVariants.{Nowhere}
use Rattle.sparse_map.specs.Home.{IsTableSize, buckets_for}
use Rattle.sparse_map.specs.Slots.{slot_at, key_at, items_of}
use Rattle.sparse_map.specs.Groups.{slots_in, all_slots, slots_of, lists_for, IsTable}
use Rattle.sparse_map.specs.Places.{sizes_of, lacking, past_of}
use Rattle.sparse_map.specs.Packed.{IsPacked}
use Rattle.sparse_map.specs.Kept.{KeepsTable}
use Rattle.sparse_map.specs.Moved.{IsDistinct, after_items}
use Rattle.sparse_map.proofs.HomeLemmas.{some_buckets}
use Rattle.sparse_map.proofs.BucketLemmas.{same_table, table_same}
use Rattle.sparse_map.proofs.SlotLemmas.{find_here, find_later, is_some-key_at}

module _ {V : Type 0} where
  -- ---- a group's items, and the items of the groups after it
  find-append : (q : ℕ) (xs ys : List (ℕ × V)) → find nat_cmp q (xs ++ ys) ≡ cond (is_some (find nat_cmp q xs)) (find nat_cmp q xs) (find nat_cmp q ys)
  find-append q [] ys = refl
  find-append q ((k, v) ∷ xs) ys = elim (cases_eq q k) [
    | inl same ↦
        find_here q k v (xs ++ ys) same
        ∙ sym (ap (λ o. cond (is_some o) o (find nat_cmp q ys)) (find_here q k v xs same))
    | inr ne ↦
        find_later q k v (xs ++ ys) ne
        ∙ find-append q xs ys
        ∙ sym (ap (λ o. cond (is_some o) o (find nat_cmp q ys)) (find_later q k v xs ne))
  ]

  is_some_first : (a b : Option V) → is_some a ≡ true → is_some (cond (is_some a) a b) ≡ true
  is_some_first (Some x) b e = refl
  is_some_first None b e = absurd (false≢true e)

  none_parts : (a b : Option V) → cond (is_some a) a b ≡ None → (a ≡ None) × (b ≡ None)
  none_parts None b e = (refl, e)
  none_parts (Some x) b e = absurd (let wrong : Some x ≡ None = e in cc)

  pub IsDistinct-left : (xs ys : List (ℕ × V)) → IsDistinct (xs ++ ys) → IsDistinct xs
  IsDistinct-left [] ys d = tt
  IsDistinct-left (x ∷ xs) ys d = ((none_parts _ _ (sym (find-append x.0 xs ys) ∙ d.0)).0, IsDistinct-left xs ys d.1)

  pub IsDistinct-right : (xs ys : List (ℕ × V)) → IsDistinct (xs ++ ys) → IsDistinct ys
  IsDistinct-right [] ys d = d
  IsDistinct-right (x ∷ xs) ys d = IsDistinct-right xs ys d.1

  distinct_apart : (xs ys : List (ℕ × V)) (q : ℕ) → IsDistinct (xs ++ ys) → is_some (find nat_cmp q ys) ≡ true → find nat_cmp q xs ≡ None
  distinct_apart [] ys q d there = refl
  distinct_apart ((k, v) ∷ xs) ys q d there = elim (cases_eq q k) [
    | inl same ↦
        let none = (none_parts (find nat_cmp k xs) (find nat_cmp k ys) (sym (find-append k xs ys) ∙ d.0)).1 in
        absurd (false≢true (sym (ap is_some (ap (λ x. find nat_cmp x ys) same ∙ none)) ∙ there))
    | inr ne ↦ find_later q k v xs ne ∙ distinct_apart xs ys q d.1 there
  ]

  -- the values that keys have before and after the items of xs went in
  module _ (before after : ℕ → Option V) (xs ys : List (ℕ × V)) (d : IsDistinct (xs ++ ys)) (moved : (q : ℕ) → after q ≡ after_items xs (before q) q) where
    pub group_fresh : ((q : ℕ) → is_some (find nat_cmp q (xs ++ ys)) ≡ true → before q ≡ None) → (q : ℕ) → is_some (find nat_cmp q ys) ≡ true → after q ≡ None
    group_fresh fresh q there =
        let none = distinct_apart xs ys q d there in
        let both : is_some (find nat_cmp q (xs ++ ys)) ≡ true = ap is_some (find-append q xs ys ∙ ap (λ o. cond (is_some o) o (find nat_cmp q ys)) none) ∙ there in
        moved q ∙ ap (λ o. cond (is_some o) o (before q)) none ∙ fresh q both

    pub group_found : (q : ℕ) → after_items ys (after q) q ≡ after_items (xs ++ ys) (before q) q
    group_found q =
        elim (cases_Bool (is_some (find nat_cmp q ys))) [
          | inl there ↦
              let none = distinct_apart xs ys q d there in
              let both : find nat_cmp q (xs ++ ys) ≡ find nat_cmp q ys = find-append q xs ys ∙ ap (λ o. cond (is_some o) o (find nat_cmp q ys)) none in
              cond-true (is_some (find nat_cmp q ys)) _ _ there
              ∙ sym (ap (λ o. cond (is_some o) o (before q)) both ∙ cond-true (is_some (find nat_cmp q ys)) _ _ there)
          | inr away ↦
              cond-false (is_some (find nat_cmp q ys)) _ _ away
              ∙ moved q
              ∙ sym (ap (λ o. cond (is_some o) o (before q)) (find-append q xs ys) ∙ away_too (find nat_cmp q xs) (find nat_cmp q ys) (before q) away)
        ] where
          away_too : (a b o : Option V) → is_some b ≡ false → cond (is_some (cond (is_some a) a b)) (cond (is_some a) a b) o ≡ cond (is_some a) a o
          away_too (Some x) b o e = refl
          away_too None None o e = refl
          away_too None (Some x) o e = absurd (false≢true (sym e))

  pub group_fresh_first : (before : ℕ → Option V) (xs ys : List (ℕ × V)) → ((q : ℕ) → is_some (find nat_cmp q (xs ++ ys)) ≡ true → before q ≡ None) → (q : ℕ) → is_some (find nat_cmp q xs) ≡ true → before q ≡ None
  group_fresh_first before xs ys fresh q there = fresh q (ap is_some (find-append q xs ys) ∙ is_some_first (find nat_cmp q xs) (find nat_cmp q ys) there)

  -- ---- groups anew
  pub all_slots-push : (us : List (Group V)) (u : Group V) → all_slots (us ++ u ∷ []) ≡ all_slots us ++ slots_in u
  unfolding all_slots
  all_slots-push us u = flat_map-append slots_in us (u ∷ []) ∙ ap (λ r. flat_map slots_in us ++ r) (append-nil (slots_in u))

  pub all_slots-free_none : (us : List (Group V)) → us ≡ [] → (b : ℕ) → slot_at (all_slots us) b ≡ None
  unfolding all_slots
  all_slots-free_none us e b = ap (λ r. slot_at (flat_map slots_in r) b) e

  pub all_slots-free_more : (us : List (Group V)) (u : Group V) → ((b : ℕ) → slot_at (all_slots us) b ≡ None) → ((k : ℕ) → slot_at (slots_in u) k ≡ None) → (b : ℕ) → slot_at (all_slots (us ++ u ∷ [])) b ≡ None
  all_slots-free_more us u free new b =
      ap (λ s. slot_at s b) (all_slots-push us u)
      ∙ elim (cases_lt b (length (all_slots us))) [
        | inl lt ↦ get_or_append_left (all_slots us) (slots_in u) None b lt ∙ free b
        | inr past ↦ get_or-append_right (all_slots us) (slots_in u) (length (all_slots us)) b None refl past ∙ new (b - length (all_slots us))
      ]

  pub packed-free : (s : List (Option (ℕ × V))) → ((b : ℕ) → slot_at s b ≡ None) → IsPacked s
  packed-free s free =
      let no_key : (b : ℕ) → is_some (key_at s b) ≡ false = λ b. is_some-key_at s b ∙ ap is_some (free b) in
      record {
        once = λ a b key is. absurd (false≢true (sym (no_key a) ∙ ap is_some is));
        reached = λ b key q is. absurd (false≢true (sym (no_key b) ∙ ap is_some is));
      }

  pub kept_groups : (bits len spare blanks : ℕ) (us : List (Group V)) → IsTableSize bits → IsTable (2 ^ bits) us → IsPacked (slots_of (2 ^ bits) us) → len ≡ length (items_of (slots_of (2 ^ bits) us))
      → 4 * (len + spare) ≤ 3 * 2 ^ bits → min spare (lacking spare Nowhere (sizes_of us)) ≤ blanks → lacking 1 Nowhere (sizes_of us) ≡ 0
      → past_of (sizes_of us) ≡ 0 → blanks ≤ lists_for (2 ^ bits) → KeepsTable bits len spare blanks Nowhere us
  kept_groups bits len spare blanks us bounds table packed counted room stocked ready short few =
      let size : 2 ^ bits ≡ buckets_for bits = sym (some_buckets bits (omega (arith, bounds.many))) in
      record {
        few = bounds.few;
        many = λ _. bounds.many;
        table = subst (λ n. IsTable n us) size table;
        packed = subst (λ n. IsPacked (slots_of n us)) size packed;
        counted = counted ∙ ap (λ n. length (items_of (slots_of n us))) size;
        room = omega (arith, room, size);
        stocked = stocked;
        ready = ready;
        short = short;
        few_blanks = omega (arith, few, size);
      }

  -- ---- other groups with the same buckets, perhaps with more room
  pub kept_stocked : (bits len spare blanks : ℕ) (touched : Touched) (us ws : List (Group V)) (spare_2 blanks_2 : ℕ) (touched_2 : Touched) → KeepsTable bits len spare blanks touched us → all_slots ws ≡ all_slots us
      → 4 * (len + spare_2) ≤ 3 * buckets_for bits → min spare_2 (lacking spare_2 Nowhere (sizes_of ws)) ≤ blanks_2 → lacking 1 touched_2 (sizes_of ws) ≤ lacking 1 touched (sizes_of us)
      → past_of (sizes_of ws) ≤ past_of (sizes_of us) → blanks_2 ≤ lists_for (buckets_for bits) → KeepsTable bits len spare_2 blanks_2 touched_2 ws
  kept_stocked bits len spare blanks touched us ws spare_2 blanks_2 touched_2 kept all room stocked ready short few =
      let same = same_table (buckets_for bits) us ws all in
      record {
        few = kept.few;
        many = kept.many;
        table = table_same (buckets_for bits) us ws all kept.table;
        packed = subst (λ s. IsPacked s) (sym same) kept.packed;
        counted = kept.counted ∙ ap (λ s. length (items_of s)) (sym same);
        room = room;
        stocked = stocked;
        ready = omega (arith, ready, kept.ready);
        short = omega (arith, short, kept.short);
        few_blanks = few;
      }
