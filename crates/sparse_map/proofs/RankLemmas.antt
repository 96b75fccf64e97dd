-- How many occupied buckets lie below a bucket, and how that number changes when one bit changes.
use Rattle.std.proofs.Common.{◌≡◌, ◌≢◌, ℕ, zero, suc, ◌+◌, ◌-◌, ◌*◌, ◌/◌, ◌%◌, ◌^◌, ◌<◌, ◌≤◌, sym, ap, ◌∙◌, subst, inl, inr, arith, bit_and, count_ones}
use Rattle.std.specs.Int.{bit_at, bit_not, trailing_zeros, w64}
use Rattle.std.proofs.lemmas.Nat.{ones_cat, mod-pow-add, mod_below, pow_pos, one_shl, and_mask, ones_le_self, zero_from_ones, ones-le, shr_le, shr-shr}
use Rattle.std.proofs.lemmas.Nat.Bits.{bit_at-lt, bit_at-zero, bit_at_above, bit_at_not, bit_at-trailing_zeros}
use Rattle.std.proofs.lemmas.Bool.{cases_lt, cases_eq}
use Rattle.std.proofs.Math.Nat.{mod-eq_of_lt}
use Rattle.sparse_map.specs.Slots.{rank}

-- the rank as the code computes it
pub rank_by_mask : (n k : ℕ) → k < 64 → count_ones (bit_and n (1 * 2 ^ k % 2 ^ 64 - 1)) ≡ rank n k
unfolding rank
rank_by_mask n k lt = ap (λ x. count_ones (bit_and n (x - 1))) (one_shl k 64 lt) ∙ ap count_ones (and_mask n k)

pub rank_zero : (n : ℕ) → rank n 0 ≡ 0
unfolding rank
rank_zero n =
    let none : n % 2 ^ 0 ≡ 0 = omega arith in
    let few : count_ones 0 ≤ 0 = ones_le_self 0 in
    ap count_ones none ∙ omega arith

ones_of_bit : (b : ℕ) → b < 2 → count_ones b ≡ b
ones_of_bit b lt =
    let most : count_ones b ≤ b = ones_le_self b in
    elim (cases_eq (count_ones b) 0) [ inl e ↦ e ∙ sym (zero_from_ones b e) | inr ne ↦ omega arith ]

pub rank_suc : (n k : ℕ) → rank n (k + 1) ≡ rank n k + bit_at n k
unfolding rank
rank_suc n k =
    let one_first : k + 1 ≡ 1 + k = omega arith in
    ap (λ x. count_ones (n % 2 ^ x)) one_first
    ∙ ap count_ones (mod-pow-add n 1 k)
    ∙ ones_cat k (n / 2 ^ k % 2) (n % 2 ^ k) (mod_below n (2 ^ k) (pow_pos k))
    ∙ ap (λ x. x + count_ones (n % 2 ^ k)) (ones_of_bit (bit_at n k) (bit_at-lt n k))
    ∙ omega arith

-- numbers with the same bits below k
pub rank_same : (m n k : ℕ) → ((i : ℕ) → i < k → bit_at m i ≡ bit_at n i) → rank m k ≡ rank n k
rank_same m n zero same = rank_zero m ∙ sym (rank_zero n)
rank_same m n (suc k) same =
    let before = rank_same m n k (λ i h. same i (omega arith)) in
    let here = same k (omega arith) in
    let one : suc k ≡ k + 1 = omega arith in
    ap (rank m) one ∙ rank_suc m k ∙ (λ i. before i + here i) ∙ sym (rank_suc n k) ∙ ap (rank n) (sym one)

-- the numbers differ only in bit k, which m has: from k on m counts one more
pub rank_one_more : (m n k : ℕ) → ((i : ℕ) → i ≢ k → bit_at m i ≡ bit_at n i) → bit_at m k ≡ 1 → bit_at n k ≡ 0
    → (j : ℕ) → k < j → rank m j ≡ rank n j + 1
rank_one_more m n k same set clear zero lt = absurd (omega arith)
rank_one_more m n k same set clear (suc j) lt =
    let one : suc j ≡ j + 1 = omega arith in
    let goal : rank m (j + 1) ≡ rank n (j + 1) + 1 =
    elim (cases_eq j k) [
      | inl e ↦
          let below : rank m j ≡ rank n j = rank_same m n j (λ i h. same i (λ p. omega arith)) in
          let m_bit : bit_at m j ≡ 1 = subst (λ x. bit_at m x ≡ 1) (sym e) set in
          let n_bit : bit_at n j ≡ 0 = subst (λ x. bit_at n x ≡ 0) (sym e) clear in
          omega (arith, rank_suc m j, rank_suc n j)
      | inr ne ↦
          let before : rank m j ≡ rank n j + 1 = rank_one_more m n k same set clear j (omega arith) in
          let here : bit_at m j ≡ bit_at n j = same j ne in
          omega (arith, rank_suc m j, rank_suc n j)
    ] in
    subst (λ x. rank m x ≡ rank n x + 1) (sym one) goal

pub rank_grows : (n i j : ℕ) → i ≤ j → rank n i ≤ rank n j
rank_grows n i zero le = let e : i ≡ 0 = omega arith in subst (λ x. rank n x ≤ rank n 0) (sym e) (omega arith)
rank_grows n i (suc j) le =
    elim (cases_lt j i) [
      | inl lt ↦ let e : i ≡ suc j = omega arith in subst (λ x. rank n x ≤ rank n (suc j)) (sym e) (omega arith)
      | inr ge ↦
          let before = rank_grows n i j ge in
          let one : suc j ≡ j + 1 = omega arith in
          subst (λ x. rank n i ≤ rank n x) (sym one) (omega (arith, rank_suc n j))
    ]

-- an occupied bucket counts below each later one
pub rank_below : (n i j : ℕ) → i < j → bit_at n i ≡ 1 → rank n i < rank n j
rank_below n i j lt set = omega (arith, rank_suc n i, rank_grows n (i + 1) j (omega arith))

pub rank_of_all : (n : ℕ) → n < 2 ^ 64 → rank n 64 ≡ count_ones n
unfolding rank
rank_of_all n lt = ap count_ones (mod-eq_of_lt lt)

pub rank_within : (n k : ℕ) → n < 2 ^ 64 → k < 64 → bit_at n k ≡ 1 → rank n k < count_ones n
rank_within n k fits lt set = omega (arith, rank_below n k 64 lt set, rank_of_all n fits)

pub rank_at_most : (n k : ℕ) → n < 2 ^ 64 → k < 64 → rank n k ≤ count_ones n
rank_at_most n k fits lt = omega (arith, rank_grows n k 64 (omega arith), rank_of_all n fits)

pub ones_at_most_64 : (n : ℕ) → n < 2 ^ 64 → count_ones n ≤ 64
ones_at_most_64 n lt = ones-le 64 n lt

-- ---- the free buckets from a bucket on, as the code has them
abbrev pub free_bits : ℕ → ℕ → ℕ
free_bits n from = bit_not w64 n / 2 ^ from

free_bits-fit : (n from : ℕ) → free_bits n from < 2 ^ 64
free_bits-fit n from = let le = shr_le (bit_not w64 n) from in omega (arith, le)

free_bits-at : (n from j : ℕ) → n < 2 ^ 64 → from ≤ j → j < 64 → bit_at (free_bits n from) (j - from) ≡ 1 - bit_at n j
free_bits-at n from j fits le lt =
    let whole : from + (j - from) ≡ j = omega arith in
    ap (λ x. x % 2) (shr-shr (bit_not w64 n) from (j - from))
    ∙ ap (bit_at (bit_not w64 n)) whole
    ∙ bit_at_not w64 n j fits lt

pub none_free : (n from : ℕ) → n < 2 ^ 64 → free_bits n from ≡ 0 → (j : ℕ) → from ≤ j → j < 64 → bit_at n j ≡ 1
none_free n from fits none j le lt =
    let at = free_bits-at n from j fits le lt in
    let zero_there : bit_at (free_bits n from) (j - from) ≡ 0 = ap (λ x. bit_at x (j - from)) none ∙ bit_at-zero (j - from) in
    let below = bit_at-lt n j in
    omega (arith, at, zero_there, below)

module _ (n from : ℕ) (fits : n < 2 ^ 64) (some : 0 < free_bits n from) where
  pub first_within : from + trailing_zeros w64 (free_bits n from) < 64
  first_within = elim (cases_lt (from + trailing_zeros w64 (free_bits n from)) 64) [
    | inl lt ↦ lt
    | inr past ↦
        let t = trailing_zeros w64 (free_bits n from) in
        let set = (bit_at-trailing_zeros w64 (free_bits n from) some (free_bits-fit n from)).1 in
        let small : bit_not w64 n < 2 ^ 64 = omega arith in
        let clear : bit_at (free_bits n from) t ≡ 0 = ap (λ x. x % 2) (shr-shr (bit_not w64 n) from t) ∙ bit_at_above (bit_not w64 n) 64 (from + t) small past in
        absurd (let wrong : 1 ≡ 0 = sym set ∙ clear in omega arith)
  ]

  pub first_clear : bit_at n (from + trailing_zeros w64 (free_bits n from)) ≡ 0
  first_clear =
      let t = trailing_zeros w64 (free_bits n from) in
      let set = (bit_at-trailing_zeros w64 (free_bits n from) some (free_bits-fit n from)).1 in
      let at = free_bits-at n from (from + t) fits (omega arith) first_within in
      let same : from + t - from ≡ t = omega arith in
      let there : bit_at (free_bits n from) (from + t - from) ≡ 1 = ap (bit_at (free_bits n from)) same ∙ set in
      omega (arith, at, there)

  pub first_passed : (j : ℕ) → from ≤ j → j < from + trailing_zeros w64 (free_bits n from) → bit_at n j ≡ 1
  first_passed j le lt =
      let at = free_bits-at n from j fits le (omega (arith, lt, first_within)) in
      let clear = (bit_at-trailing_zeros w64 (free_bits n from) some (free_bits-fit n from)).2 (j - from) (omega (arith, le, lt)) in
      let below = bit_at-lt n j in
      omega (arith, at, clear, below)
