-- The exclusive or of two lists, cut anywhere.
use Rattle.std.proofs.Common.{◌≡◌, ◌≤◌, ◌<◌, ◌+◌, ◌-◌, ℕ, zero, suc, List, [], ◌∷◌, ◌++◌, length, take, drop, get_or, bit_xor, arith, refl, sym, ap, ◌∙◌}
use Rattle.std.proofs.lemmas.List.{ext_get_or, take-take, drop-take, drop-drop, drop_at, length-take-le}
use Rattle.std.proofs.lemmas.List.{take_rest, append-nil, drop_all, length-drop}
use borrow.Rule.Slice.PartMut.{put_mid}
use Rattle.std.proofs.lemmas.Simd.{length-chunk, length-zip2, get_or-zip2, take_more_put_chunk, put_chunk_is}
use Rattle.std.specs.Simd.Lanes.{chunk, put_chunk, zip2}
use Rattle.lanes.specs.Kernels.{xor_of}

-- the part before a cut and the part after it are joined each by itself
pub xor_of_cut : (n : ℕ) (xs ys : List ℕ) → length xs ≡ length ys → xor_of xs ys ≡ xor_of (take n xs) (take n ys) ++ xor_of (drop n xs) (drop n ys)
xor_of_cut zero xs ys same = refl
xor_of_cut (suc n) [] ys same = refl
xor_of_cut (suc n) (x ∷ xs) [] same = absurd (omega arith)
xor_of_cut (suc n) (x ∷ xs) (y ∷ ys) same = ap (λ (l : List ℕ). bit_xor x y ∷ l) (xor_of_cut n xs ys (omega arith))

-- a list that is joined at every place is the exclusive or
pub xor_of_by_places : (was from now : List ℕ) → length was ≡ length from → length now ≡ length was
    → ((k : ℕ) → k < length was → get_or now k 0 ≡ bit_xor (get_or was k 0) (get_or from k 0)) → now ≡ xor_of was from
xor_of_by_places was from now same len at =
    let lz : length (xor_of was from) ≡ length was = length-zip2 bit_xor was from same in
    ext_get_or 0 now (xor_of was from) (len ∙ sym lz)
    (λ k lt. at k (omega arith) ∙ sym (get_or-zip2 bit_xor was from k 0 0 0 (omega arith) (omega arith)))

-- the front of the list that one vector more of it has joined
pub front_more : (was from now : List ℕ) (i : ℕ) → length was ≡ length from → length now ≡ length was → i + 16 ≤ length now
    → take i now ≡ xor_of (take i was) (take i from) → drop i now ≡ drop i was
    → take (i + 16) (put_chunk i now (zip2 bit_xor (chunk i 16 now) (chunk i 16 from))) ≡ xor_of (take (i + 16) was) (take (i + 16) from)
front_more was from now i same len room front back =
    let ln : length (chunk i 16 now) ≡ 16 = length-chunk i 16 now room in
    let lf : length (chunk i 16 from) ≡ 16 = length-chunk i 16 from (omega arith) in
    let z = zip2 bit_xor (chunk i 16 now) (chunk i 16 from) in
    let lz : length z ≡ 16 = length-zip2 bit_xor (chunk i 16 now) (chunk i 16 from) (ln ∙ sym lf) ∙ ln in
    let lw : length (take (i + 16) was) ≡ i + 16 = length-take-le (i + 16) was (omega arith) in
    let lt : length (take (i + 16) from) ≡ i + 16 = length-take-le (i + 16) from (omega arith) in
    let cut = xor_of_cut i (take (i + 16) was) (take (i + 16) from) (lw ∙ sym lt) in
    take_more_put_chunk i now z (i + 16) (omega arith) (omega arith)
    ∙ ap (λ (l : List ℕ). l ++ z) front
    ∙ ap (λ (l : List ℕ). xor_of (take i was) (take i from) ++ xor_of (take 16 l) (chunk i 16 from)) back
    ∙ sym (rw (take-take i (i + 16) was (omega arith), take-take i (i + 16) from (omega arith), drop-take i 16 was, drop-take i 16 from) at cut)

-- what lies behind that vector stays
pub back_more : (was from now : List ℕ) (i : ℕ) → length was ≡ length from → length now ≡ length was → i + 16 ≤ length now
    → drop i now ≡ drop i was
    → drop (i + 16) (put_chunk i now (zip2 bit_xor (chunk i 16 now) (chunk i 16 from))) ≡ drop (i + 16) was
back_more was from now i same len room back =
    let ln : length (chunk i 16 now) ≡ 16 = length-chunk i 16 now room in
    let lf : length (chunk i 16 from) ≡ 16 = length-chunk i 16 from (omega arith) in
    let z = zip2 bit_xor (chunk i 16 now) (chunk i 16 from) in
    let lz : length z ≡ 16 = length-zip2 bit_xor (chunk i 16 now) (chunk i 16 from) (ln ∙ sym lf) ∙ ln in
    let li : length (take i now) ≡ i = length-take-le i now (omega arith) in
    rw (put_chunk_is i now z (omega arith), lz, ← drop-drop 16 i (take i now ++ (z ++ drop 16 (drop i now))), drop_at (take i now) (z ++ drop 16 (drop i now)) i li, drop_at z (drop 16 (drop i now)) 16 lz, back, drop-drop 16 i was) refl

-- the front as joined, and then the rest as joined
pub xor_of_parts : (was from now rest : List ℕ) (n : ℕ) → length was ≡ length from → length now ≡ length was → n ≤ length now
    → take n now ≡ xor_of (take n was) (take n from) → drop n now ≡ drop n was
    → rest ≡ xor_of (take (length now - n) (drop n now)) (take (length from - n) (drop n from))
    → put_mid n (length now - n) now rest ≡ xor_of was from
xor_of_parts was from now rest n same len within front back joined =
    let short : length (drop n now) ≤ length now - n = omega (arith, length-drop n now) in
    let nothing : drop (length now - n) (drop n now) ≡ [] = drop_all (length now - n) (drop n now) short in
    let tail : rest ≡ xor_of (drop n was) (drop n from) = rw (take_rest now n, take_rest from n, back) at joined in
    ap (λ (l : List ℕ). take n now ++ (rest ++ l)) nothing ∙ rw (append-nil rest, front, tail, ← xor_of_cut n was from same) refl
