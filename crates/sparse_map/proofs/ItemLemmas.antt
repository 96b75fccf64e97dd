-- The items of a group's buckets are its list, and the items of the table are the items of its groups.
use Rattle.std.proofs.Common.{◌≡◌, ℕ, zero, suc, ◌+◌, ◌^◌, ◌<◌, List, [], ◌∷◌, ◌++◌, Option, length, take, map, count_ones, refl, sym, ap, ◌∙◌, subst, inl, inr, arith, add-one}
use Rattle.std.specs.Prelude.{slice_get}
use Rattle.std.specs.Int.{bit_at}
use Rattle.std.specs.List.{range_with_len, flat_map}
use Rattle.std.specs.Option.{option_to_list}
use Rattle.std.proofs.lemmas.List.{append-nil, take_all}
use Rattle.std.proofs.lemmas.List.Concat.{flat_map-append}
use Rattle.std.proofs.lemmas.List.FromFn.{map-range_with_len_more}
use Rattle.std.proofs.lemmas.Bool.{cases_eq}
use Rattle.std.proofs.lemmas.Nat.Bits.{bit_at-lt}
use Rattle.sparse_map.specs.declared.group.Group.{Group}
use Rattle.sparse_map.specs.Slots.{rank, unpacked, group_slots, items_of}
use Rattle.sparse_map.specs.Groups.{slots_in, all_slots}
use Rattle.sparse_map.proofs.RankLemmas.{rank_zero, rank_suc, rank_of_all}
use Rattle.sparse_map.proofs.GroupLemmas.{unpacked_occupied, unpacked_free}

module _ {X : Type 0} where
  pub items_of-append : (s t : List (Option X)) → items_of (s ++ t) ≡ items_of s ++ items_of t
  unfolding items_of
  items_of-append s t = flat_map-append option_to_list s t

  items_of-one : (o : Option X) → items_of (o ∷ []) ≡ option_to_list o
  unfolding items_of
  items_of-one o = append-nil (option_to_list o)

  items_of-nil : items_of {X = X} [] ≡ []
  unfolding items_of
  items_of-nil = refl

  take_one_more : (xs : List X) (i : ℕ) → take (i + 1) xs ≡ take i xs ++ option_to_list (slice_get xs i)
  take_one_more [] zero = refl
  take_one_more [] (suc i) = rw add-one refl
  take_one_more (x ∷ xs) zero = refl
  take_one_more (x ∷ xs) (suc i) =
      let more = take_one_more xs i in
      rw add-one (ap (λ r. x ∷ r) (rw add-one at more))

  pub items_below : (n : ℕ) (xs : List X) (k : ℕ) → items_of (map (unpacked n xs) (range_with_len 0 k)) ≡ take (rank n k) xs
  unfolding items_of
  items_below n xs zero = sym (ap (λ r. take r xs) (rank_zero n))
  items_below n xs (suc k) =
      let one : suc k ≡ k + 1 = omega arith in
      let step : items_of (map (unpacked n xs) (range_with_len 0 (k + 1))) ≡ take (rank n k) xs ++ option_to_list (unpacked n xs k) =
      ap items_of (map-range_with_len_more (unpacked n xs) 0 k k (omega arith))
      ∙ items_of-append (map (unpacked n xs) (range_with_len 0 k)) (unpacked n xs k ∷ [])
      ∙ (λ i. items_below n xs k i ++ items_of-one (unpacked n xs k) i) in
      let here : take (rank n k) xs ++ option_to_list (unpacked n xs k) ≡ take (rank n (k + 1)) xs = elim (cases_eq (bit_at n k) 1) [
        | inl set ↦
            let counts : rank n k + 1 ≡ rank n (k + 1) = omega (arith, rank_suc n k) in
            ap (λ o. take (rank n k) xs ++ option_to_list o) (unpacked_occupied n xs k set)
            ∙ sym (take_one_more xs (rank n k))
            ∙ ap (λ r. take r xs) counts
        | inr clear ↦
            let counts : rank n k ≡ rank n (k + 1) = omega (arith, rank_suc n k, bit_at-lt n k) in
            ap (λ o. take (rank n k) xs ++ option_to_list o) (unpacked_free n xs k clear)
            ∙ append-nil (take (rank n k) xs)
            ∙ ap (λ r. take r xs) counts
      ] in
      subst (λ m. items_of (map (unpacked n xs) (range_with_len 0 m)) ≡ take (rank n m) xs) (sym one) (step ∙ here)

  pub items_of-group_slots : (n : ℕ) (xs : List X) → n < 2 ^ 64 → length xs ≡ count_ones n → items_of (group_slots n xs) ≡ xs
  unfolding group_slots
  items_of-group_slots n xs fits counted =
      items_below n xs 64 ∙ take_all (rank n 64) xs (omega (arith, counted, rank_of_all n fits))

module _ {V : Type 0} where
  pub items_of-slots_in : (u : Group V) → items_of (slots_in u) ≡ u.items.items
  items_of-slots_in u = items_of-group_slots u.occupied u.items.items u.fits u.counted

  pub items_of-all_slots : (us : List (Group V)) → items_of (all_slots us) ≡ flat_map (λ u. u.items.items) us
  unfolding all_slots
  items_of-all_slots [] = items_of-nil
  items_of-all_slots (u ∷ us) =
      items_of-append (slots_in u) (flat_map slots_in us) ∙ (λ i. items_of-slots_in u i ++ items_of-all_slots us i)
