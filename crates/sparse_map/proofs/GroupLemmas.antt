-- What one changed bit and one changed place of the list do to the 64 buckets of a group.
use Rattle.std.proofs.Common.{◌≡◌, ◌≢◌, ℕ, zero, suc, ◌+◌, ◌-◌, ◌*◌, ◌/◌, ◌%◌, ◌^◌, ◌<◌, ◌≤◌, List, [], ◌∷◌, Option, Some, None, length, get_or, set, eqb, true, bit_and, bit_or, count_ones, sym, ap, ◌∙◌, subst, inl, inr, arith}
use Rattle.std.specs.Prelude.{slice_get, insert, remove, is_some, IsSome}
use Rattle.std.specs.Int.{bit_at, bit_not, trailing_zeros, w64}
use Rattle.std.proofs.lemmas.List.{ext_get_or, length-set, get_or_default, get_or-set_same, get_or-set_other, get_or_past}
use Rattle.std.proofs.lemmas.List.Edits.{length-insert, get_or-insert_below, get_or-insert_at, get_or-insert_above, length-remove, get_or-remove_below, get_or-remove_above}
use Rattle.std.proofs.lemmas.List.FromFn.{length-map-range_with_len, get_or-map-range_with_len}
use Rattle.std.proofs.lemmas.Option.{slice_get-get_or}
use Rattle.std.proofs.lemmas.Nat.{or_lt, one_shl, and_le_l, pow_below}
use Rattle.std.proofs.lemmas.Nat.Bits.{bit_at-lt, bit_at-zero, bit_at_set_same, bit_at_set_other, bit_at_clear_same, bit_at_clear_other, bit_at_above, shr_and_one}
use Rattle.std.proofs.lemmas.Bool.{cases_lt, cases_eq, eq-eqb, ne_eqb, cond-true, cond-false, false≢true}
use mathlib.Core.HLevel.{Σ_prop_path}
use Rattle.std.proofs.Common.{Vec, Global}
use native.Mathlib.Nat.{ℕ_set}
use native.Mathlib.Bridge.{le_prop}
use Rattle.std.specs.Vec.{vec_len}
use Rattle.sparse_map.specs.declared.group.Group.{Group}
use Rattle.sparse_map.specs.Slots.{rank, unpacked, group_slots, slot_at}
use Rattle.sparse_map.specs.Groups.{slots_in}
use Rattle.sparse_map.proofs.RankLemmas.{rank_suc, rank_same, rank_one_more, rank_below, rank_grows, rank_of_all, rank_within, rank_at_most, ones_at_most_64, free_bits, none_free, first_within, first_clear, first_passed}

module _ {X : Type 0} where
  pub length-group_slots : (n : ℕ) (xs : List X) → length (group_slots n xs) ≡ 64
  unfolding group_slots
  length-group_slots n xs = length-map-range_with_len (unpacked n xs) 0 64

  pub get_or-group_slots : (n : ℕ) (xs : List X) (k : ℕ) (d : Option X) → k < 64 → get_or (group_slots n xs) k d ≡ unpacked n xs k
  unfolding group_slots
  get_or-group_slots n xs k d lt = get_or-map-range_with_len (unpacked n xs) 0 64 k k d lt (omega arith)

  is_some-slice_get : (xs : List X) (i : ℕ) → i < length xs → is_some (slice_get xs i) ≡ true
  is_some-slice_get [] i lt = absurd (omega arith)
  is_some-slice_get (x ∷ xs) i lt = ap is_some (slice_get-get_or (x ∷ xs) i x lt)

  pub unpacked_occupied : (n : ℕ) (xs : List X) (k : ℕ) → bit_at n k ≡ 1 → unpacked n xs k ≡ slice_get xs (rank n k)
  unpacked_occupied n xs k set = cond-true (eqb (bit_at n k) 1) _ _ (eq-eqb (bit_at n k) 1 set)

  pub unpacked_free : (n : ℕ) (xs : List X) (k : ℕ) → (bit_at n k ≡ 1 → ⊥) → unpacked n xs k ≡ None
  unpacked_free n xs k clear = cond-false (eqb (bit_at n k) 1) _ _ (ne_eqb (bit_at n k) 1 clear)

  -- the item of an occupied bucket, as the code reads it
  pub unpacked_item : (n : ℕ) (xs : List X) (k : ℕ) (d : X) → n < 2 ^ 64 → length xs ≡ count_ones n → k < 64 → bit_at n k ≡ 1 → unpacked n xs k ≡ Some (get_or xs (rank n k) d)
  unpacked_item n xs k d fits counted lt set =
      unpacked_occupied n xs k set ∙ slice_get-get_or xs (rank n k) d (omega (arith, rank_within n k fits lt set))

  same_slots : (m : ℕ) (ys : List X) (n : ℕ) (xs : List X) (k : ℕ) (o : Option X) → k < 64
      → unpacked m ys k ≡ o → ((j : ℕ) → j < 64 → j ≢ k → unpacked m ys j ≡ unpacked n xs j)
      → group_slots m ys ≡ set (group_slots n xs) k o
  same_slots m ys n xs k o lt here others =
      ext_get_or None _ _
      (length-group_slots m ys ∙ sym (length-set (group_slots n xs) k o ∙ length-group_slots n xs))
      (λ j h.
      let within : j < 64 = subst (λ x. j < x) (length-group_slots m ys) h in
      get_or-group_slots m ys j None within
      ∙ elim (cases_eq j k) [
        | inl e ↦
            let inside : k < length (group_slots n xs) = subst (λ x. k < x) (sym (length-group_slots n xs)) lt in
            subst (λ x. unpacked m ys x ≡ get_or (set (group_slots n xs) k o) x None) (sym e) (here ∙ sym (get_or-set_same (group_slots n xs) k o None inside))
        | inr ne ↦ others j within ne ∙ sym (get_or-set_other (group_slots n xs) k j o None ne ∙ get_or-group_slots n xs j None within)
      ])

  module _ (m n k : ℕ) (xs : List X) (fits : n < 2 ^ 64) (counted : length xs ≡ count_ones n) (lt : k < 64) where
    pub slots-insert : (x : X) → bit_at n k ≡ 0 → bit_at m k ≡ 1 → ((i : ℕ) → i ≢ k → bit_at m i ≡ bit_at n i)
        → group_slots m (insert xs (rank n k) x) ≡ set (group_slots n xs) k (Some x)
    slots-insert x clear set_now same =
        let place : rank n k ≤ length xs = omega (arith, rank_at_most n k fits lt) in
        let longer = length-insert xs (rank n k) x place in
        let still : rank m k ≡ rank n k = rank_same m n k (λ i h. same i (λ e. omega arith)) in
        same_slots m (insert xs (rank n k) x) n xs k (Some x) lt
        (unpacked_occupied m _ k set_now
        ∙ ap (slice_get (insert xs (rank n k) x)) still
        ∙ slice_get-get_or (insert xs (rank n k) x) (rank n k) x (omega arith)
        ∙ ap Some (get_or-insert_at xs (rank n k) x x place))
        (λ j h ne. elim (cases_eq (bit_at n j) 1) [
          | inr free ↦ unpacked_free m _ j (λ e. free (sym (same j ne) ∙ e)) ∙ sym (unpacked_free n xs j free)
          | inl taken ↦
              let inside : rank n j < length xs = omega (arith, rank_within n j fits h taken) in
              let as_before = unpacked_occupied n xs j taken ∙ slice_get-get_or xs (rank n j) x inside in
              unpacked_occupied m _ j (same j ne ∙ taken)
              ∙ elim (cases_lt j k) [
                | inl below ↦
                    let at : rank m j ≡ rank n j = rank_same m n j (λ i l. same i (λ e. omega arith)) in
                    ap (slice_get (insert xs (rank n k) x)) at
                    ∙ slice_get-get_or (insert xs (rank n k) x) (rank n j) x (omega arith)
                    ∙ ap Some (get_or-insert_below xs (rank n k) x x (rank n j) (rank_below n j k below taken) place)
                    ∙ sym as_before
                | inr above ↦
                    let later : k < j = omega arith in
                    let at : rank m j ≡ rank n j + 1 = rank_one_more m n k same set_now clear j later in
                    ap (slice_get (insert xs (rank n k) x)) at
                    ∙ slice_get-get_or (insert xs (rank n k) x) (rank n j + 1) x (omega arith)
                    ∙ ap Some (get_or-insert_above xs (rank n k) x x (rank n j) (rank_grows n k j (omega arith)) place)
                    ∙ sym as_before
              ]
        ])

    pub slots-remove : (d : X) → bit_at n k ≡ 1 → bit_at m k ≡ 0 → ((i : ℕ) → i ≢ k → bit_at m i ≡ bit_at n i)
        → group_slots m (remove xs (rank n k)) ≡ set (group_slots n xs) k None
    slots-remove d taken_k clear same =
        let place : rank n k < length xs = omega (arith, rank_within n k fits lt taken_k) in
        let shorter = length-remove xs (rank n k) place in
        same_slots m (remove xs (rank n k)) n xs k None lt
        (unpacked_free m _ k (λ e. let z : 0 ≡ 1 = sym clear ∙ e in omega arith))
        (λ j h ne. elim (cases_eq (bit_at n j) 1) [
          | inr free ↦ unpacked_free m _ j (λ e. free (sym (same j ne) ∙ e)) ∙ sym (unpacked_free n xs j free)
          | inl taken ↦
              let inside : rank n j < length xs = omega (arith, rank_within n j fits h taken) in
              let as_before = unpacked_occupied n xs j taken ∙ slice_get-get_or xs (rank n j) d inside in
              unpacked_occupied m _ j (same j ne ∙ taken)
              ∙ elim (cases_lt j k) [
                | inl below ↦
                    let at : rank m j ≡ rank n j = rank_same m n j (λ i l. same i (λ e. omega arith)) in
                    let first : rank n j < rank n k = rank_below n j k below taken in
                    ap (slice_get (remove xs (rank n k))) at
                    ∙ slice_get-get_or (remove xs (rank n k)) (rank n j) d (omega arith)
                    ∙ ap Some (get_or-remove_below xs (rank n k) d (rank n j) first place)
                    ∙ sym as_before
                | inr above ↦
                    let later : k < j = omega arith in
                    let at : rank n j ≡ rank m j + 1 = rank_one_more n m k (λ i e. sym (same i e)) taken_k clear j later in
                    let after : rank n k < rank n j = rank_below n k j later taken_k in
                    slice_get-get_or (remove xs (rank n k)) (rank m j) d (omega arith)
                    ∙ ap Some (get_or-remove_above xs (rank n k) d (rank m j) (omega arith) place ∙ ap (λ p. get_or xs p d) (sym at))
                    ∙ sym as_before
              ]
        ])

    pub slots-replace : (x : X) → bit_at n k ≡ 1 → group_slots n (set xs (rank n k) x) ≡ set (group_slots n xs) k (Some x)
    slots-replace x taken_k =
        let place : rank n k < length xs = omega (arith, rank_within n k fits lt taken_k) in
        let long = length-set xs (rank n k) x in
        same_slots n (set xs (rank n k) x) n xs k (Some x) lt
        (unpacked_occupied n _ k taken_k
        ∙ slice_get-get_or (set xs (rank n k) x) (rank n k) x (omega arith)
        ∙ ap Some (get_or-set_same xs (rank n k) x x place))
        (λ j h ne. elim (cases_eq (bit_at n j) 1) [
          | inr free ↦ unpacked_free n _ j free ∙ sym (unpacked_free n xs j free)
          | inl taken ↦
              let inside : rank n j < length xs = omega (arith, rank_within n j fits h taken) in
              let apart : rank n j ≢ rank n k = elim (cases_lt j k) [
                | inl below ↦ λ e. let p = rank_below n j k below taken in omega arith
                | inr above ↦ λ e. let p = rank_below n k j (omega arith) taken_k in omega arith
              ] in
              unpacked_occupied n _ j taken
              ∙ slice_get-get_or (set xs (rank n k) x) (rank n j) x (omega arith)
              ∙ ap Some (get_or-set_other xs (rank n k) (rank n j) x x apart)
              ∙ sym (unpacked_occupied n xs j taken ∙ slice_get-get_or xs (rank n j) x inside)
        ])

  pub slots-none : (xs : List X) (k : ℕ) → get_or (group_slots 0 xs) k None ≡ None
  slots-none xs k =
      elim (cases_lt k 64) [
        | inl within ↦
            get_or-group_slots 0 xs k None within
            ∙ unpacked_free 0 xs k (λ e. let z : 0 ≡ 1 = sym (bit_at-zero k) ∙ e in omega arith)
        | inr past ↦ get_or_past (group_slots 0 xs) k None (subst (λ x. x ≤ k) (sym (length-group_slots 0 xs)) past)
      ]

  -- the item of an occupied bucket, as an index read it
  pub unpacked_read : (n : ℕ) (xs : List X) (k i : ℕ) (x : X) → n < 2 ^ 64 → length xs ≡ count_ones n → k < 64 → bit_at n k ≡ 1 → i ≡ rank n k → x ≡ get_or xs i x → unpacked n xs k ≡ Some x
  unpacked_read n xs k i x fits counted lt set at read =
      unpacked_item n xs k x fits counted lt set ∙ ap Some (ap (λ p. get_or xs p x) (sym at) ∙ sym read)

-- whether a bucket is occupied, by its bit and by what it has
module _ {X : Type 0} (n : ℕ) (xs : List X) (k : ℕ) (fits : n < 2 ^ 64) (counted : length xs ≡ count_ones n) (lt : k < 64) where
  pub bit_of_some : IsSome (get_or (group_slots n xs) k None) → bit_at n k ≡ 1
  bit_of_some some = elim (cases_eq (bit_at n k) 1) [
    | inl e ↦ e
    | inr ne ↦ absurd (false≢true (sym (ap is_some (get_or-group_slots n xs k None lt ∙ unpacked_free n xs k ne)) ∙ some))
  ]

  pub some_of_bit : bit_at n k ≡ 1 → is_some (get_or (group_slots n xs) k None) ≡ true
  some_of_bit set =
      ap is_some (get_or-group_slots n xs k None lt ∙ unpacked_occupied n xs k set)
      ∙ is_some-slice_get xs (rank n k) (omega (arith, rank_within n k fits lt set))

  pub bit_of_none : get_or (group_slots n xs) k None ≡ None → bit_at n k ≡ 0
  bit_of_none none = elim (cases_eq (bit_at n k) 1) [
    | inl set ↦ absurd (false≢true (sym (ap is_some none) ∙ some_of_bit set))
    | inr ne ↦ omega (arith, bit_at-lt n k)
  ]

  pub slot_free : (bit_at n k ≡ 1 → ⊥) → get_or (group_slots n xs) k None ≡ None
  slot_free ne = get_or-group_slots n xs k None lt ∙ unpacked_free n xs k ne

  pub slot_read : (i : ℕ) (x : X) → bit_at n k ≡ 1 → i ≡ rank n k → x ≡ get_or xs i x → get_or (group_slots n xs) k None ≡ Some x
  slot_read i x set at read = get_or-group_slots n xs k None lt ∙ unpacked_read n xs k i x fits counted lt set at read

  -- the code's test
  pub is_some-bit : eqb (bit_and (n / 2 ^ k) 1) 1 ≡ is_some (get_or (group_slots n xs) k None)
  is_some-bit = ap (λ b. eqb b 1) (shr_and_one n k) ∙ elim (cases_eq (bit_at n k) 1) [
    | inl set ↦ eq-eqb (bit_at n k) 1 set ∙ sym (some_of_bit set)
    | inr ne ↦ ne_eqb (bit_at n k) 1 ne ∙ sym (ap is_some (slot_free ne))
  ]

-- bit k of n as the code sets and clears it
unfoldable pub with_bit : ℕ → ℕ → ℕ
with_bit n k = bit_or n (1 * 2 ^ k % 2 ^ 64)

unfoldable pub without_bit : ℕ → ℕ → ℕ
without_bit n k = bit_and n (bit_not w64 (1 * 2 ^ k % 2 ^ 64))

module _ (n k : ℕ) (fits : n < 2 ^ 64) (lt : k < 64) where
  pub with_bit-same : bit_at (with_bit n k) k ≡ 1
  unfolding with_bit
  with_bit-same = bit_at_set_same w64 n k lt

  pub with_bit-other : (i : ℕ) → i ≢ k → bit_at (with_bit n k) i ≡ bit_at n i
  unfolding with_bit
  with_bit-other = bit_at_set_other w64 n k lt

  pub with_bit-fits : with_bit n k < 2 ^ 64
  unfolding with_bit
  with_bit-fits = or_lt 64 n _ fits (subst (λ x. x < 2 ^ 64) (sym (one_shl k 64 lt)) (pow_below k 64 lt))

  pub without_bit-same : bit_at (without_bit n k) k ≡ 0
  unfolding without_bit
  without_bit-same = bit_at_clear_same w64 n k lt

  pub without_bit-fits : without_bit n k < 2 ^ 64
  unfolding without_bit
  without_bit-fits = let small : without_bit n k ≤ n = and_le_l n _ in omega arith

  pub without_bit-other : (i : ℕ) → i ≢ k → bit_at (without_bit n k) i ≡ bit_at n i
  unfolding without_bit
  without_bit-other i ne = elim (cases_lt i 64) [
    | inl low ↦ bit_at_clear_other w64 n k lt i low ne
    | inr high ↦ bit_at_above (without_bit n k) 64 i without_bit-fits high ∙ sym (bit_at_above n 64 i fits high)
  ]

  pub count-with_bit : bit_at n k ≡ 0 → count_ones (with_bit n k) ≡ count_ones n + 1
  count-with_bit clear =
      sym (rank_of_all _ with_bit-fits)
      ∙ rank_one_more (with_bit n k) n k with_bit-other with_bit-same clear 64 lt
      ∙ ap (λ x. x + 1) (rank_of_all n fits)

  pub count-without_bit : bit_at n k ≡ 1 → count_ones n ≡ count_ones (without_bit n k) + 1
  count-without_bit set =
      sym (rank_of_all n fits)
      ∙ rank_one_more n (without_bit n k) k (λ i ne. sym (without_bit-other i ne)) set without_bit-same 64 lt
      ∙ ap (λ x. x + 1) (rank_of_all _ without_bit-fits)

-- the same, for a group
module _ {V : Type 0} (u : Group V) (k : ℕ) (lt : k < 64) where
  pub taken : IsSome (slot_at (slots_in u) k) → bit_at u.occupied k ≡ 1
  taken = bit_of_some u.occupied u.items.items k u.fits u.counted lt

  pub untaken : slot_at (slots_in u) k ≡ None → bit_at u.occupied k ≡ 0
  untaken = bit_of_none u.occupied u.items.items k u.fits u.counted lt

  pub is_taken : eqb (bit_and (u.occupied / 2 ^ k) 1) 1 ≡ is_some (slot_at (slots_in u) k)
  is_taken = is_some-bit u.occupied u.items.items k u.fits u.counted lt

  pub place_of : IsSome (slot_at (slots_in u) k) → rank u.occupied k < vec_len u.items
  place_of some = omega (arith, rank_within u.occupied k u.fits lt (taken some), u.counted, u.items.ok.0)

  pub place_for : rank u.occupied k ≤ vec_len u.items
  place_for = omega (arith, rank_at_most u.occupied k u.fits lt, u.counted, u.items.ok.0)

  pub item_read : (i : ℕ) (x : ℕ × V) → IsSome (slot_at (slots_in u) k) → i ≡ rank u.occupied k → x ≡ get_or u.items.items i x → slot_at (slots_in u) k ≡ Some x
  item_read i x some at read = slot_read u.occupied u.items.items k u.fits u.counted lt i x (taken some) at read

  -- a new item at the rank of a free bucket
  pub inserted_counted : (place : ℕ) (item : ℕ × V) (ys : List (ℕ × V)) → slot_at (slots_in u) k ≡ None → place ≤ vec_len u.items
      → ys ≡ insert u.items.items place item → length ys ≡ count_ones (with_bit u.occupied k)
  inserted_counted place item ys free within is =
      ap length is
      ∙ length-insert u.items.items place item (omega (arith, within, u.items.ok.0))
      ∙ ap (λ x. x + 1) u.counted
      ∙ sym (count-with_bit u.occupied k u.fits lt (untaken free))

  pub inserted_slots : (place : ℕ) (item : ℕ × V) (ys : List (ℕ × V)) → slot_at (slots_in u) k ≡ None → place ≡ rank u.occupied k
      → ys ≡ insert u.items.items place item → group_slots (with_bit u.occupied k) ys ≡ set (slots_in u) k (Some item)
  inserted_slots place item ys free at is =
      ap (group_slots (with_bit u.occupied k)) (is ∙ ap (λ p. insert u.items.items p item) at)
      ∙ slots-insert (with_bit u.occupied k) u.occupied k u.items.items u.fits u.counted lt item (untaken free)
      (with_bit-same u.occupied k u.fits lt) (with_bit-other u.occupied k u.fits lt)

  -- a group with a free bucket has fewer than 64 items
  pub free_below_64 : slot_at (slots_in u) k ≡ None → vec_len u.items < 64
  free_below_64 free =
      let more = count-with_bit u.occupied k u.fits lt (untaken free) in
      omega (arith, more, ones_at_most_64 (with_bit u.occupied k) (with_bit-fits u.occupied k u.fits lt), u.counted, u.items.ok.0)

-- the free buckets of a group from one on
module _ {V : Type 0} (u : Group V) (from : ℕ) where
  pub all_taken : free_bits u.occupied from ≡ 0 → (j : ℕ) → from ≤ j → j < 64 → IsSome (slot_at (slots_in u) j)
  all_taken none j le lt = some_of_bit u.occupied u.items.items j u.fits u.counted lt (none_free u.occupied from u.fits none j le lt)

  pub first_free_is : (some : 0 < free_bits u.occupied from) → slot_at (slots_in u) (from + trailing_zeros w64 (free_bits u.occupied from)) ≡ None
  first_free_is some =
      let clear = first_clear u.occupied from u.fits some in
      slot_free u.occupied u.items.items (from + trailing_zeros w64 (free_bits u.occupied from)) u.fits u.counted (first_within u.occupied from u.fits some)
      (λ e. let wrong : 0 ≡ 1 = sym clear ∙ e in omega arith)

  pub taken_before : (some : 0 < free_bits u.occupied from) → (j : ℕ) → from ≤ j → j < from + trailing_zeros w64 (free_bits u.occupied from) → IsSome (slot_at (slots_in u) j)
  taken_before some j le lt =
      some_of_bit u.occupied u.items.items j u.fits u.counted (omega (arith, lt, first_within u.occupied from u.fits some)) (first_passed u.occupied from u.fits some j le lt)

-- in a run of occupied buckets each counts one more
pub rank_in_run : {V : Type 0} (u : Group V) (from end : ℕ) → end ≤ 64 → ((j : ℕ) → from ≤ j → j < end → IsSome (slot_at (slots_in u) j))
    → (d : ℕ) → from + d ≤ end → rank u.occupied (from + d) ≡ rank u.occupied from + d
rank_in_run u from end le some zero to =
    let same : from + 0 ≡ from = omega arith in
    ap (rank u.occupied) same ∙ omega arith
rank_in_run u from end le some (suc d) to =
    let one : from + suc d ≡ from + d + 1 = omega arith in
    let before = rank_in_run u from end le some d (omega arith) in
    let bit = taken u (from + d) (omega arith) (some (from + d) (omega arith) (omega arith)) in
    ap (rank u.occupied) one ∙ omega (arith, rank_suc u.occupied (from + d), before, bit)

-- the same, from a bucket on to another
pub rank_on_run : {V : Type 0} (u : Group V) (from end place k : ℕ) → end ≤ 64 → ((j : ℕ) → from ≤ j → j < end → IsSome (slot_at (slots_in u) j))
    → place ≡ rank u.occupied from → from ≤ k → k ≤ end → place + (k - from) ≡ rank u.occupied k
rank_on_run u from end place k le some at start to =
    let whole : from + (k - from) ≡ k = omega arith in
    ap (λ x. x + (k - from)) at ∙ sym (rank_in_run u from end le some (k - from) (omega arith)) ∙ ap (rank u.occupied) whole

pub rank_on_run_few : {V : Type 0} (u : Group V) (from end place k : ℕ) → end ≤ 64 → ((j : ℕ) → from ≤ j → j < end → IsSome (slot_at (slots_in u) j))
    → place ≡ rank u.occupied from → from ≤ k → k ≤ end → k < 64 → place + (k - from) ≤ 64
rank_on_run_few u from end place k le some at start to lt =
    omega (arith, rank_on_run u from end place k le some at start to, rank_at_most u.occupied k u.fits lt, ones_at_most_64 u.occupied u.fits)

-- two groups with the same number and the same list are the same
abbrev GroupFacts : {V : Type 0} → ℕ × Vec (ℕ × V) Global → Type 0
GroupFacts p = (p.0 < 2 ^ 64) × (length p.1.items ≡ count_ones p.0)

GroupFacts-prop : {V : Type 0} (p : ℕ × Vec (ℕ × V) Global) → IsProp (GroupFacts p)
GroupFacts-prop p = λ x y i. (le_prop x.0 y.0 i, ℕ_set _ _ x.1 y.1 i)

pub same_group : {V : Type 0} (u w : Group V) → u.occupied ≡ w.occupied → u.items ≡ w.items → u ≡ w
same_group {V} u w bits items =
    let pairs : ◌≡◌ {A = (p : ℕ × Vec (ℕ × V) Global) × GroupFacts p} ((u.occupied, u.items), (u.fits, u.counted)) ((w.occupied, w.items), (w.fits, w.counted)) =
    Σ_prop_path GroupFacts-prop (λ i. (bits i, items i)) in
    λ i. record { occupied = (pairs i).0.0; items = (pairs i).0.1; fits = (pairs i).1.0; counted = (pairs i).1.1 }

-- the item that an index read, at the default that the loan's definition has
pub read_at_rank : {V : Type 0} (u : Group V) (k place : ℕ) (read : ℕ × V) (w : V) → k < 64 → IsSome (slot_at (slots_in u) k) → place ≡ rank u.occupied k → read ≡ get_or u.items.items place read
    → read ≡ get_or u.items.items (rank u.occupied k) (0, w)
read_at_rank u k place read w lt some at is =
    is ∙ ap (λ p. get_or u.items.items p read) at ∙ get_or_default u.items.items (rank u.occupied k) read (0, w) (omega (arith, place_of u k lt some, u.items.ok.0))
