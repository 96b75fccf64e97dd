-- The finite map that a table of buckets holds.
use Rattle.std.proofs.Common.{◌≡◌, ℕ, ◌+◌, ◌*◌, ◌/◌, ◌^◌, ◌<◌, ◌≤◌, List, [], ◌∷◌, Option, Some, None, length, cond, eqb, refl, sym, ap, ◌∙◌, subst, inl, inr, arith, add-one, false}
use Rattle.std.specs.Prelude.{is_some}
use Rattle.std.specs.Ordering.{nat_cmp}
use Rattle.std.specs.Cmp.{unsigned_tied, nat_cmp_total}
use Rattle.std.specs.FinMap as map
use Rattle.std.specs.FinMap.{find, nat_cmp-IsAntisymmetric, same_map, get-from_entries, get-insert, get-remove, len-insert, len-empty}
use Rattle.std.proofs.lemmas.List.{get_or_past}
use Rattle.std.proofs.lemmas.Bool.{cases_eq, cond-false}
use Rattle.sparse_map.specs.declared.group.Group.{Group}
use Rattle.sparse_map.specs.declared.table.Touched.{Touched}
use Rattle.sparse_map.specs.declared.table.Touched.TheVariants.{Nowhere}
use Rattle.sparse_map.specs.Slots.{items_of}
use Rattle.sparse_map.specs.Home.{IsTableSize, buckets_for}
use Rattle.sparse_map.specs.Groups.{all_slots, slots_of, lists_for, IsTable}
use Rattle.sparse_map.specs.Packed.{IsPacked, PackedTable, map_of, len_of, IsSound}
use Rattle.sparse_map.specs.Kept.{KeepsTable, HasFreeBucket}
use Rattle.sparse_map.specs.Seen.{more_free}
use Rattle.sparse_map.specs.Places.{sizes_of, places_of, lacks, lacking, past_most, past_of}
use Rattle.sparse_map.proofs.PlacesLemmas.{sizes-new, no-untouched, length-sizes, past-few}
use Rattle.sparse_map.specs.Moved.{IsDistinct}
use Rattle.sparse_map.proofs.HomeLemmas.{IsSized, shifted_one, sized, some_buckets, no_buckets}
use Rattle.sparse_map.proofs.TableLemmas.{length-all_slots}
use Rattle.sparse_map.proofs.BucketLemmas.{length-slots_of, length-table}
use Rattle.sparse_map.proofs.SlotLemmas.{Once, bucket_of_found, key_of_slot}
use Rattle.std.proofs.lemmas.Nat.{pow_pos}

module _ {V : Type 0} where
  pub get-map_of : (t : PackedTable V) (q : ℕ) → map.get (map_of t) q ≡ find nat_cmp q (items_of t.slots)
  unfolding map_of
  get-map_of t q = get-from_entries nat_cmp_total (items_of t.slots) q

  pub map_of-same : (t u : PackedTable V) → ((q : ℕ) → find nat_cmp q (items_of u.slots) ≡ find nat_cmp q (items_of t.slots)) → map_of u ≡ map_of t
  map_of-same t u same = same_map nat_cmp_total nat_cmp-IsAntisymmetric (map_of u) (map_of t) (λ q. get-map_of u q ∙ same q ∙ sym (get-map_of t q))

  pub map_of-insert : (t u : PackedTable V) (k : ℕ) (v : V) → ((q : ℕ) → find nat_cmp q (items_of u.slots) ≡ cond (eqb q k) (Some v) (find nat_cmp q (items_of t.slots)))
      → map_of u ≡ map.insert (map_of t) k v
  map_of-insert t u k v same =
      same_map nat_cmp_total nat_cmp-IsAntisymmetric (map_of u) (map.insert (map_of t) k v)
      (λ q. get-map_of u q ∙ same q
      ∙ sym (get-insert nat_cmp_total (map_of t) k v q ∙ (λ i. cond (unsigned_tied q k i) (Some v) (get-map_of t q i))))

  pub map_of-remove : (t u : PackedTable V) (k : ℕ) → ((q : ℕ) → find nat_cmp q (items_of u.slots) ≡ cond (eqb q k) None (find nat_cmp q (items_of t.slots)))
      → map_of u ≡ map.remove (map_of t) k
  map_of-remove t u k same =
      same_map nat_cmp_total nat_cmp-IsAntisymmetric (map_of u) (map.remove (map_of t) k)
      (λ q. get-map_of u q ∙ same q
      ∙ sym (get-remove nat_cmp_total (map_of t) k q ∙ (λ i. cond (unsigned_tied q k i) None (get-map_of t q i))))

  pub IsDistinct-items_of : (s : List (Option (ℕ × V))) → Once s → IsDistinct (items_of s)
  unfolding items_of
  IsDistinct-items_of [] once = tt
  IsDistinct-items_of (None ∷ s) once =
      IsDistinct-items_of s (λ a b key ka kb. let e : a + 1 ≡ b + 1 = once (a + 1) (b + 1) key (rw add-one ka) (rw add-one kb) in omega arith)
  IsDistinct-items_of (Some (k, v) ∷ s) once = (
    none_from (find nat_cmp k (items_of s)) refl,
    IsDistinct-items_of s (λ a b key ka kb. let e : a + 1 ≡ b + 1 = once (a + 1) (b + 1) key (rw add-one ka) (rw add-one kb) in omega arith),
  ) where
    none_from : (o : Option V) → find nat_cmp k (items_of s) ≡ o → find nat_cmp k (items_of s) ≡ None
    none_from None e = e
    none_from (Some w) e =
        let r = bucket_of_found s k w e in
        let same : 0 ≡ r.0 + 1 = once 0 (r.0 + 1) k refl (rw add-one (key_of_slot s r.0 k w r.2)) in
        absurd (omega arith)

  len-from_entries : (es : List (ℕ × V)) → IsDistinct es → map.len (map.from_entries {R = nat_cmp} es) ≡ length es
  len-from_entries [] d = len-empty nat_cmp V
  len-from_entries (e ∷ es) d =
      let none : is_some (map.get (map.from_entries {R = nat_cmp} es) e.0) ≡ false = ap is_some (get-from_entries nat_cmp_total es e.0 ∙ d.0) in
      len-insert nat_cmp_total (map.from_entries es) e.0 e.1
      ∙ cond-false (is_some (map.get (map.from_entries {R = nat_cmp} es) e.0)) _ _ none
      ∙ ap (λ n. n + 1) (len-from_entries es d.1)
      ∙ omega arith

  pub len_of-items : (t : PackedTable V) → Once t.slots → len_of t ≡ length (items_of t.slots)
  unfolding map_of
  len_of-items t once = len-from_entries (items_of t.slots) (IsDistinct-items_of t.slots once)

  -- ---- the facts that the fields keep give the facts that hold of every map
  module _ (bits len spare blanks : ℕ) (touched : Touched) (groups : List (Group V)) (kept : KeepsTable bits len spare blanks touched groups) where
    pub kept_long : length (slots_of (buckets_for bits) groups) ≡ buckets_for bits
    kept_long = elim (cases_eq bits 0) [
      | inl none ↦ length-slots_of (buckets_for bits) groups (omega (arith, no_buckets bits none))
      | inr some ↦
          let size : IsTableSize bits = record { many = kept.many (omega arith); few = kept.few } in
          length-table (buckets_for bits) groups (subst (λ n. IsSized n) (sym (some_buckets bits (omega arith))) (sized bits size)) kept.table
    ]

    pub kept_buckets : 0 < bits → length (slots_of (buckets_for bits) groups) ≡ 2 ^ bits
    kept_buckets some = kept_long ∙ some_buckets bits some

    pub kept_none : bits ≡ 0 → length (slots_of (buckets_for bits) groups) ≡ 0
    kept_none none = kept_long ∙ no_buckets bits none

    -- four places a list, and the free places that it may have beyond them, are one for each 8 buckets
    pub kept_few : more_free (buckets_for bits) + 4 * lists_for (buckets_for bits) ≡ buckets_for bits / 8
    unfolding more_free
    kept_few = elim (cases_eq bits 0) [
      | inl none ↦ omega (arith, no_buckets bits none)
      | inr some ↦
          let size : IsTableSize bits = record { many = kept.many (omega arith); few = kept.few } in
          omega (arith, (sized bits size).least, some_buckets bits (omega arith))
    ]

    -- eight for each two lists are at most as many
    pub kept_pairs : 8 * (lists_for (buckets_for bits) / 2) ≤ more_free (buckets_for bits)
    unfolding more_free
    kept_pairs = elim (cases_eq bits 0) [
      | inl none ↦ omega (arith, no_buckets bits none)
      | inr some ↦
          let size : IsTableSize bits = record { many = kept.many (omega arith); few = kept.few } in
          let wide = sized bits size in
          elim wide.whole [ inl half ↦ omega (arith, half, some_buckets bits (omega arith)) | inr whole ↦ omega (arith, whole, wide.least, some_buckets bits (omega arith)) ]
    ]

    pub kept_lists : lists_for (buckets_for bits) < 2 ^ 32
    kept_lists = elim (cases_eq bits 0) [
      | inl none ↦ omega (arith, no_buckets bits none)
      | inr some ↦ omega (arith, (shifted_one bits kept.few).1, some_buckets bits (omega arith))
    ]

    pub kept_some : 0 < length (slots_of (buckets_for bits) groups) → 0 < bits
    kept_some some = elim (cases_eq bits 0) [ inl e ↦ absurd (let none = kept_none e in omega arith) | inr ne ↦ omega arith ]

    pub kept_len : (u : PackedTable V) → u.slots ≡ slots_of (buckets_for bits) groups → len_of u ≡ len
    kept_len u same =
        len_of-items u (subst (λ s. Once s) (sym same) kept.packed.once) ∙ ap (λ s. length (items_of s)) same ∙ sym kept.counted

    pub kept_sound : (u : PackedTable V) → u.slots ≡ slots_of (buckets_for bits) groups → u.spare ≡ spare → u.places ≡ places_of (sizes_of groups) → u.blanks ≡ blanks → IsSound u
    kept_sound u same ready sizes blank =
        let long : length u.slots ≡ length (slots_of (buckets_for bits) groups) = ap length same in
        record {
          packed = subst (λ s. IsPacked s) (sym same) kept.packed;
          room = omega (arith, kept.room, kept_len u same, ready, long, kept_long);
          buckets = λ some. let b = kept_some (omega (arith, some, long)) in (bits, kept.many b, long ∙ kept_buckets b);
          places = omega (arith, past-few (sizes_of groups) kept.short, length-sizes groups, kept.table.count, sizes, long, kept_long);
          blanks = omega (arith, kept.few_blanks, blank, long, kept_long);
        }

    -- a key in a bucket: there are buckets
    pub kept_free : 0 < bits → len < 2 ^ bits
    kept_free some = omega (arith, kept.room, some_buckets bits some, pow_pos bits)

    -- if there are buckets, one is free
    pub kept_free_bucket : (us : List (Group V)) → us ≡ groups → 0 < bits → HasFreeBucket bits us
    kept_free_bucket us is some =
        record {
          size = record { many = kept.many some; few = kept.few };
          table = subst (λ n. IsTable n us) (some_buckets bits some) (subst (λ vs. IsTable (buckets_for bits) vs) (sym is) kept.table);
          packed = subst (λ n. IsPacked (slots_of n us)) (some_buckets bits some) (subst (λ vs. IsPacked (slots_of (buckets_for bits) vs)) (sym is) kept.packed);
          room = omega (arith, kept_free some, kept.counted, ap length (λ i. items_of (slots_of (some_buckets bits some i) (sym is i))));
        }

-- ---- the free places beyond four that the lists of a table may have
module _ (n : ℕ) (size : IsSized n) where
  pub more_free-is : more_free n + 4 * lists_for n ≡ n / 8
  unfolding more_free
  more_free-is = omega (arith, size.least)

  -- eight for each two lists
  pub few_enough : 8 * (lists_for n / 2) ≤ more_free n
  unfolding more_free
  few_enough = elim size.whole [ inl half ↦ omega arith | inr whole ↦ omega (arith, size.least) ]

-- ---- a new map
module _ {V : Type 0} where
  no_slots : (us : List (Group V)) → slots_of 0 us ≡ []
  unfolding slots_of
  no_slots us = refl

  pub buckets-new : (us : List (Group V)) → length (slots_of 0 us) ≡ 0
  buckets-new us = ap length (no_slots us)

  pub map_of-new : (u : PackedTable V) (us : List (Group V)) → u.slots ≡ slots_of 0 us → map_of u ≡ map.empty
  unfolding map_of items_of
  map_of-new u us same = ap (λ s. map.from_entries {R = nat_cmp} (items_of s)) (same ∙ no_slots us)

  pub kept_new : (us : List (Group V)) (blanks : ℕ) → us ≡ [] → blanks ≡ 0 → KeepsTable 0 0 0 blanks Nowhere us
  unfolding items_of
  kept_new us blanks e none_blank =
      let none = no_slots us in
      record {
        few = omega arith;
        many = λ some. absurd (omega arith);
        table = record { count = ap length e; rest = λ b past. get_or_past (all_slots us) b None (omega (arith, length-all_slots us, ap length e)) };
        packed = subst (λ s. IsPacked s) (sym none) (record {
          once = λ a b key is. absurd (let wrong : None ≡ Some key = is in cc);
          reached = λ b key q is. absurd (let wrong : None ≡ Some key = is in cc);
        });
        counted = sym (ap (λ s. length (items_of s)) none);
        room = omega arith;
        stocked = omega arith;
        ready = ap (lacking 1 Nowhere) (sizes-new us e) ∙ no-untouched (lacks 1);
        short = ap past_of (sizes-new us e) ∙ no-untouched past_most;
        few_blanks = omega (arith, none_blank);
      }
