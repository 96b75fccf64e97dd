-- Bytes that are sixteen bytes, over and over.
use Rattle.std.proofs.Common.{◌≡◌, ◌<◌, ◌≤◌, ◌+◌, ◌-◌, ◌%◌, ℕ, min, zero, suc, inl, inr, List, length, length-take, length-drop, get_or, take, drop, map, replicate, slice_index, ap, sym, ◌∙◌, refl, arith}
use Rattle.std.proofs.lemmas.Bool.{cases_lt}
use Rattle.std.proofs.lemmas.List.{ext_get_or, get_or-drop, get_or-replicate, get_or-take, length-replicate}
use Rattle.std.proofs.lemmas.List.FromFn.{fill_by_all, get_or-map-range_with_len, length-map-range_with_len}
use Rattle.std.specs.List.{CopiedTo, SameBelow, range_with_len}

-- the bytes up to this place are the sixteen bytes, over and over; the place is the end or a multiple of sixteen
pub record FilledTo (hd out : List ℕ) (done : ℕ) : Type 0 where
  pub within : done ≤ length out
  pub whole : done < length out → (16 ≤ done) × (done % 16 ≡ 0)
  pub bytes : (k : ℕ) → k < done → get_or out k 0 ≡ get_or hd (k % 16) 0

pub filled_first : (hd out : List ℕ) (n : ℕ) → n ≡ min (length out) 16 → SameBelow hd out n → FilledTo hd out n
filled_first hd out n is same = record {
  within = omega arith;
  whole = λ more. (omega arith, omega arith);
  bytes = λ k below. same k 0 below ∙ ap (λ j. get_or hd j 0) (omega arith);
}

pub filled_more : (hd was now : List ℕ) (done end : ℕ) → FilledTo hd was done → done < length was → length now ≡ length was → end ≡ min (done + done) (length was) → SameBelow was now done → CopiedTo was now 0 done (end - done) → FilledTo hd now end
filled_more hd was now done end filled more long is front copy =
    let whole = filled.whole more in
    record {
      within = omega arith;
      whole = λ further. (omega (arith, whole.0), omega (arith, whole.1));
      bytes = λ k below. elim (cases_lt k done) [
        | inl early ↦ front k 0 early ∙ filled.bytes k early
        | inr late ↦
            let back : k - done < done = omega arith in
            let round : (k - done) % 16 ≡ k % 16 = omega (arith, whole.1) in
            let from : 0 + (k - done) ≡ k - done = omega arith in
            copy k 0 late (omega arith) ∙ ap (λ j. get_or was j 0) from ∙ filled.bytes (k - done) back ∙ ap (λ j. get_or hd j 0) round
      ];
    }

-- so many bytes of the sixteen, over and over
abbrev pub filled : List ℕ → ℕ → List ℕ
filled hd n = map (λ i. slice_index hd (i % 16)) (range_with_len 0 n)

at_filled : (hd bs : List ℕ) → bs ≡ filled hd (length bs) → (k : ℕ) → k < length bs → get_or bs k 0 ≡ get_or hd (k % 16) 0
at_filled hd bs is k below = ap (λ l. get_or l k 0) is ∙ get_or-map-range_with_len (λ i. slice_index hd (i % 16)) 0 (length bs) k k 0 below (omega arith)

-- bytes that begin with the sixteen, and that are each the byte sixteen places before them
filled_below : (hd bs : List ℕ) → ((k : ℕ) → k < 16 → k < length bs → get_or bs k 0 ≡ get_or hd k 0) → ((k : ℕ) → 16 + k < length bs → get_or bs (16 + k) 0 ≡ get_or bs k 0) → (n k : ℕ) → k < n → k < length bs → get_or bs k 0 ≡ get_or hd (k % 16) 0
filled_below hd bs first next zero k below within = absurd (omega arith)
filled_below hd bs first next (suc n) k below within = elim (cases_lt k 16) [
  | inl early ↦ first k early within ∙ ap (λ j. get_or hd j 0) (omega arith)
  | inr late ↦
      let there : k ≡ 16 + (k - 16) = omega arith in
      let round : (k - 16) % 16 ≡ k % 16 = omega arith in
      ap (λ j. get_or bs j 0) there ∙ next (k - 16) (omega arith) ∙ filled_below hd bs first next n (k - 16) (omega arith) (omega arith) ∙ ap (λ j. get_or hd j 0) round
]

pub filled_of_parts : (hd bs : List ℕ) (n : ℕ) → n ≡ min (length bs) 16 → take n bs ≡ take n hd → take (length bs - n) (drop n bs) ≡ take (length bs - n) bs → bs ≡ filled hd (length bs)
filled_of_parts hd bs n is front back =
    let first : (k : ℕ) → k < 16 → k < length bs → get_or bs k 0 ≡ get_or hd k 0 = λ k low within.
    let below : k < n = omega arith in
    sym (get_or-take n bs k 0 below) ∙ ap (λ l. get_or l k 0) front ∙ get_or-take n hd k 0 below in
    let next : (k : ℕ) → 16 + k < length bs → get_or bs (16 + k) 0 ≡ get_or bs k 0 = λ k within.
    let all : 16 + k ≡ n + k = omega arith in
    let below : k < length bs - n = omega arith in
    ap (λ j. get_or bs j 0) all ∙ sym (get_or-drop n bs k 0) ∙ sym (get_or-take (length bs - n) (drop n bs) k 0 below) ∙ ap (λ l. get_or l k 0) back ∙ get_or-take (length bs - n) bs k 0 below in
    fill_by_all (λ i. slice_index hd (i % 16)) bs (length bs) 0 refl (λ k below. filled_below hd bs first next (length bs) k below below)

pub front_of_filled : (hd bs : List ℕ) (n : ℕ) → length hd ≡ 16 → n ≡ min (length bs) 16 → bs ≡ filled hd (length bs) → take n bs ≡ take n hd
front_of_filled hd bs n long is filled_is =
    let ours : length (take n bs) ≡ n = omega (arith, length-take n bs) in
    let heads : length (take n hd) ≡ n = omega (arith, length-take n hd) in
    ext_get_or 0 (take n bs) (take n hd) (ours ∙ sym heads) (λ k inside.
    let below : k < n = omega arith in
    let small : k % 16 ≡ k = omega arith in
    get_or-take n bs k 0 below ∙ at_filled hd bs filled_is k (omega arith) ∙ ap (λ j. get_or hd j 0) small ∙ sym (get_or-take n hd k 0 below))

pub rest_of_filled : (hd bs : List ℕ) (n : ℕ) → n ≡ min (length bs) 16 → bs ≡ filled hd (length bs) → take (length bs - n) (drop n bs) ≡ take (length bs - n) bs
rest_of_filled hd bs n is filled_is =
    let m : ℕ = length bs - n in
    let ours : length (take m (drop n bs)) ≡ m = omega (arith, length-take m (drop n bs), length-drop n bs) in
    let theirs : length (take m bs) ≡ m = omega (arith, length-take m bs) in
    ext_get_or 0 (take m (drop n bs)) (take m bs) (ours ∙ sym theirs) (λ k inside.
    let below : k < m = omega arith in
    let round : (n + k) % 16 ≡ k % 16 = omega arith in
    get_or-take m (drop n bs) k 0 below ∙ get_or-drop n bs k 0 ∙ at_filled hd bs filled_is (n + k) (omega arith) ∙ ap (λ j. get_or hd j 0) round ∙ sym (at_filled hd bs filled_is k (omega arith)) ∙ sym (get_or-take m bs k 0 below))

-- zeros over and over are zeros
pub filled_zeros : (m : ℕ) → filled (replicate 16 0) m ≡ replicate m 0
filled_zeros m =
    let long : length (filled (replicate 16 0) m) ≡ m = length-map-range_with_len (λ i. slice_index (replicate 16 0) (i % 16)) 0 m in
    ext_get_or 0 (filled (replicate 16 0) m) (replicate m 0) (long ∙ sym (length-replicate m 0)) (λ k inside.
    let below : k < m = omega arith in
    get_or-map-range_with_len (λ i. slice_index (replicate 16 0) (i % 16)) 0 m k k 0 below (omega arith) ∙ get_or-replicate 16 (k % 16) 0 0 (omega arith) ∙ sym (get_or-replicate m k 0 0 below))
