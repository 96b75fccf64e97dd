-- The last bytes of a page, in the list of all pages' last bytes.
use Rattle.std.proofs.Common.{◌≡◌, ◌≢◌, ◌<◌, ◌≤◌, ◌+◌, ◌*◌, ◌==◌, ◌&&◌, ◌⊎◌, ℕ, Bool, true, false, List, [], length, slice_set, slice_index_or, inl, inr, refl, sym, ◌∙◌, ap, arith, cond}
use Rattle.std.proofs.Math.Nat.{mul-le-mul_right}
use Rattle.std.proofs.lemmas.Bool.{cases_eq, cases_order}
use Rattle.std.proofs.lemmas.Bool.Decides.{nat_tests}
use Rattle.std.proofs.lemmas.List.{get_or-set_other}
use Rattle.std.proofs.lemmas.Grind.{get_or-set_at}
use Rattle.ft_base.specs.declared.block.Place.{Place}
use Rattle.ft_base.specs.Contents.{same_place}

-- no two pages have one number
before : (n b c p q : ℕ) → p < n → b < c → b * n + p ≡ c * n + q → ⊥
before n b c p q small less same =
    let more : (b + 1) * n ≤ c * n = mul-le-mul_right n (omega (arith, less)) in
    absurd (omega (arith, more, same, small))

one_block : (n b c p q : ℕ) → p < n → q < n → b * n + p ≡ c * n + q → b ≡ c
one_block n b c p q p_small q_small same = by_order (cases_order b c)
  where
    by_order : (b ≡ c) ⊎ ((b < c) ⊎ (c < b)) → b ≡ c
    by_order (inl is) = is
    by_order (inr (inl less)) = absurd (before n b c p q p_small less same)
    by_order (inr (inr more)) = absurd (before n c b q p q_small more (sym same))

same_number : (b c n p q : ℕ) → b ≡ c → b * n + p ≡ c * n + q → p ≡ q
same_number b c n p q is same =
    let block : b * n ≡ c * n = ap (λ k. k * n) is in
    omega (arith, block, same)

pub put_at : (all : List (List ℕ)) (n : ℕ) (at q : Place) (last : List ℕ) → at.page < n → q.page < n → at.block * n + at.page < length all
    → slice_index_or (slice_set all (at.block * n + at.page) last) (q.block * n + q.page) [] ≡ cond (same_place at q) last (slice_index_or all (q.block * n + q.page) [])
put_at all n at q last at_small q_small within = by_number (cases_eq (q.block * n + q.page) (at.block * n + at.page))
  where
    i : ℕ
    i = at.block * n + at.page

    j : ℕ
    j = q.block * n + q.page

    chosen : Bool → List ℕ
    chosen t = cond t last (slice_index_or all j [])

    by_number : (j ≡ i) ⊎ (j ≢ i) → slice_index_or (slice_set all i last) j [] ≡ chosen (same_place at q)
    by_number (inl same) =
        let block : q.block ≡ at.block = one_block n q.block at.block q.page at.page q_small at_small same in
        let number : q.page ≡ at.page = same_number q.block at.block n q.page at.page block same in
        let test : same_place at q ≡ true = grind (arith, nat_tests, block, number) in
        get_or-set_at all i j last [] same within ∙ sym (ap chosen test)
    by_number (inr apart) = get_or-set_other all i j last [] apart ∙ sym (ap chosen (unlike (at.block == q.block) (at.page == q.page) refl refl))
      where
        unlike : (s t : Bool) → at.block == q.block ≡ s → at.page == q.page ≡ t → (s && t) ≡ false
        unlike true true block page =
            let b : at.block ≡ q.block = grind (arith, nat_tests, block) in
            let p : at.page ≡ q.page = grind (arith, nat_tests, page) in
            let whole : q.block * n ≡ at.block * n = ap (λ k. k * n) (sym b) in
            absurd (apart (omega (arith, whole, p)))
        unlike true false block page = refl
        unlike false t block page = refl

pub number_within : (blocks n b p len : ℕ) → b < blocks → p < n → len ≡ blocks * n → b * n + p < len
number_within blocks n b p len block page all =
    let more : (b + 1) * n ≤ blocks * n = mul-le-mul_right n (omega (arith, block)) in
    omega (arith, more, page, all)
