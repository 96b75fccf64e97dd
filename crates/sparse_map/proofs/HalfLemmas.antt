-- The lower and the upper 32 buckets of a group, with their parts of the list.
use Rattle.std.proofs.Common.{◌≡◌, ℕ, zero, suc, ◌+◌, ◌*◌, ◌/◌, ◌%◌, ◌^◌, ◌<◌, ◌≤◌, List, [], ◌∷◌, ◌++◌, None, length, take, drop, count_ones, refl, sym, ap, ◌∙◌, inl, inr, arith}
use Rattle.std.specs.Prelude.{slice_get}
use Rattle.std.specs.Int.{bit_at}
use Rattle.std.proofs.lemmas.List.{length-take-le, length-drop, take_all, take-append-drop, drop_at}
use Rattle.std.proofs.lemmas.List.FromFn.{take-map-range_with_len}
use Rattle.std.proofs.lemmas.Bool.{cases_eq}
use Rattle.std.proofs.lemmas.Nat.{ones_cat, shr_split, shr-shr, mod_below, pow_pos}
use Rattle.std.proofs.lemmas.Nat.Bits.{bit_at_cat_low}
use Rattle.sparse_map.specs.declared.group.Group.{Group}
use Rattle.sparse_map.specs.Slots.{rank, unpacked, group_slots, slot_at, items_of, group}
use Rattle.sparse_map.specs.Groups.{slots_in}
use Rattle.sparse_map.proofs.RankLemmas.{rank_zero, rank_suc, rank_same, rank_below, rank_grows, rank_of_all}
use Rattle.sparse_map.proofs.GroupLemmas.{length-group_slots, get_or-group_slots, unpacked_occupied, unpacked_free}
use Rattle.sparse_map.proofs.ItemLemmas.{items_of-append, items_below, items_of-group_slots}

-- ---- the bits of both halves
low_bit : (n k : ℕ) → k < 32 → bit_at (n % 2 ^ 32) k ≡ bit_at n k
low_bit n k lt = sym (bit_at_cat_low (n / 2 ^ 32) 32 (n % 2 ^ 32) k lt) ∙ ap (λ x. bit_at x k) (shr_split n 32)

high_bit : (n k : ℕ) → bit_at (n / 2 ^ 32) k ≡ bit_at n (32 + k)
high_bit n k = ap (λ x. x % 2) (shr-shr n 32 k)

low_rank : (n k : ℕ) → k ≤ 32 → rank (n % 2 ^ 32) k ≡ rank n k
low_rank n k le = rank_same (n % 2 ^ 32) n k (λ i h. low_bit n i (omega arith))

high_rank : (n k : ℕ) → rank n 32 + rank (n / 2 ^ 32) k ≡ rank n (32 + k)
high_rank n zero = omega (arith, rank_zero (n / 2 ^ 32))
high_rank n (suc k) =
    let one : suc k ≡ k + 1 = omega arith in
    let next : 32 + suc k ≡ 32 + k + 1 = omega arith in
    let before = high_rank n k in
    ap (λ x. rank n 32 + rank (n / 2 ^ 32) x) one
    ∙ omega (arith, rank_suc (n / 2 ^ 32) k, rank_suc n (32 + k), high_bit n k, before)
    ∙ ap (rank n) (sym next)

pub low_count : (n : ℕ) → count_ones (n % 2 ^ 32) ≡ rank n 32
unfolding rank
low_count n = refl

high_count : (n : ℕ) → count_ones (n / 2 ^ 32) + rank n 32 ≡ count_ones n
high_count n =
    let low = low_count n in
    let small : n % 2 ^ 32 < 2 ^ 32 = mod_below n (2 ^ 32) (pow_pos 32) in
    ap (λ x. count_ones (n / 2 ^ 32) + x) (sym low)
    ∙ sym (ones_cat 32 (n / 2 ^ 32) (n % 2 ^ 32) small)
    ∙ ap count_ones (shr_split n 32)

module _ {X : Type 0} where
  slice_get-take : (xs : List X) (r i : ℕ) → i < r → slice_get (take r xs) i ≡ slice_get xs i
  slice_get-take xs zero i lt = absurd (omega arith)
  slice_get-take [] (suc r) i lt = refl
  slice_get-take (x ∷ xs) (suc r) zero lt = refl
  slice_get-take (x ∷ xs) (suc r) (suc i) lt = slice_get-take xs r i (omega arith)

  slice_get-drop : (xs : List X) (r i : ℕ) → slice_get (drop r xs) i ≡ slice_get xs (r + i)
  slice_get-drop xs zero i = let same : i ≡ 0 + i = omega arith in ap (slice_get xs) same
  slice_get-drop [] (suc r) i = refl
  slice_get-drop (x ∷ xs) (suc r) i = slice_get-drop xs r i ∙ ap (slice_get (x ∷ xs)) (let same : suc (r + i) ≡ suc r + i = omega arith in same)

  low_unpacked : (n : ℕ) (xs : List X) (k : ℕ) → k < 32 → unpacked (n % 2 ^ 32) (take (rank n 32) xs) k ≡ unpacked n xs k
  low_unpacked n xs k lt = elim (cases_eq (bit_at n k) 1) [
    | inl set ↦
        unpacked_occupied (n % 2 ^ 32) _ k (low_bit n k lt ∙ set)
        ∙ ap (slice_get (take (rank n 32) xs)) (low_rank n k (omega arith))
        ∙ slice_get-take xs (rank n 32) (rank n k) (rank_below n k 32 lt set)
        ∙ sym (unpacked_occupied n xs k set)
    | inr clear ↦ unpacked_free (n % 2 ^ 32) _ k (λ e. clear (sym (low_bit n k lt) ∙ e)) ∙ sym (unpacked_free n xs k clear)
  ]

  high_unpacked : (n : ℕ) (xs : List X) (k : ℕ) → unpacked (n / 2 ^ 32) (drop (rank n 32) xs) k ≡ unpacked n xs (32 + k)
  high_unpacked n xs k = elim (cases_eq (bit_at n (32 + k)) 1) [
    | inl set ↦
        unpacked_occupied (n / 2 ^ 32) _ k (high_bit n k ∙ set)
        ∙ slice_get-drop xs (rank n 32) (rank (n / 2 ^ 32) k)
        ∙ ap (slice_get xs) (high_rank n k)
        ∙ sym (unpacked_occupied n xs (32 + k) set)
    | inr clear ↦ unpacked_free (n / 2 ^ 32) _ k (λ e. clear (sym (high_bit n k) ∙ e)) ∙ sym (unpacked_free n xs (32 + k) clear)
  ]

  low_items : (n : ℕ) (xs : List X) → items_of (take 32 (group_slots n xs)) ≡ take (rank n 32) xs
  unfolding group_slots
  low_items n xs = ap items_of (take-map-range_with_len (unpacked n xs) 0 64 32 (omega arith)) ∙ items_below n xs 32

  high_items : (n : ℕ) (xs : List X) → n < 2 ^ 64 → length xs ≡ count_ones n → items_of (drop 32 (group_slots n xs)) ≡ drop (rank n 32) xs
  high_items n xs fits counted =
      let s = group_slots n xs in
      let split : items_of (take 32 s) ++ items_of (drop 32 s) ≡ xs =
      sym (items_of-append (take 32 s) (drop 32 s)) ∙ ap items_of (take-append-drop 32 s) ∙ items_of-group_slots n xs fits counted in
      let few : rank n 32 ≤ length xs = omega (arith, rank_grows n 32 64 (omega arith), rank_of_all n fits, counted) in
      let long : length (items_of (take 32 s)) ≡ rank n 32 = ap length (low_items n xs) ∙ length-take-le (rank n 32) xs few in
      sym (drop_at (items_of (take 32 s)) (items_of (drop 32 s)) (rank n 32) long) ∙ ap (drop (rank n 32)) split

-- ---- the same, of a group and of its list as it is split
module _ {V : Type 0} (u : Group V) (low : ℕ) (is : low ≡ u.occupied % 2 ^ 32) (ones : ℕ) (one : ones ≡ count_ones low) where
  ones_is : ones ≡ rank u.occupied 32
  ones_is = one ∙ ap count_ones is ∙ low_count u.occupied

  pub split_within : ones ≤ length u.items.items
  split_within = omega (arith, ones_is, rank_grows u.occupied 32 64 (omega arith), rank_of_all u.occupied u.fits, u.counted)

  pub lower_placed : (k : ℕ) → k < 32 → unpacked low (take ones u.items.items) k ≡ slot_at (slots_in u) (32 * 0 + k)
  lower_placed k lt =
      let within : 32 * 0 + k < 64 = omega arith in
      let at : k ≡ 32 * 0 + k = omega arith in
      (λ i. unpacked (is i) (take (ones_is i) u.items.items) k)
      ∙ low_unpacked u.occupied u.items.items k lt
      ∙ ap (unpacked u.occupied u.items.items) at
      ∙ sym (get_or-group_slots u.occupied u.items.items (32 * 0 + k) None within)

  pub lower_items : take ones u.items.items ≡ items_of (group (slots_in u) 0)
  lower_items = ap (λ r. take r u.items.items) ones_is ∙ sym (low_items u.occupied u.items.items)

  pub upper_counted : length (drop ones u.items.items) ≡ count_ones (u.occupied / 2 ^ 32)
  upper_counted = omega (arith, length-drop ones u.items.items, ones_is, u.counted, high_count u.occupied)

  pub upper_placed : (k : ℕ) → k < 32 → unpacked (u.occupied / 2 ^ 32) (drop ones u.items.items) k ≡ slot_at (slots_in u) (32 * 1 + k)
  upper_placed k lt =
      let within : 32 * 1 + k < 64 = omega arith in
      let at : 32 + k ≡ 32 * 1 + k = omega arith in
      ap (λ r. unpacked (u.occupied / 2 ^ 32) (drop r u.items.items) k) ones_is
      ∙ high_unpacked u.occupied u.items.items k
      ∙ ap (unpacked u.occupied u.items.items) at
      ∙ sym (get_or-group_slots u.occupied u.items.items (32 * 1 + k) None within)

  pub upper_items : drop ones u.items.items ≡ items_of (group (slots_in u) 1)
  upper_items =
      let rest : length (drop 32 (slots_in u)) ≤ 32 = omega (arith, length-drop 32 (slots_in u), length-group_slots u.occupied u.items.items) in
      ap (λ r. drop r u.items.items) ones_is
      ∙ sym (high_items u.occupied u.items.items u.fits u.counted)
      ∙ ap items_of (sym (take_all 32 (drop 32 (slots_in u)) rest))
