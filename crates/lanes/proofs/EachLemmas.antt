-- Loops that pass whole vectors whose lanes all fail a test.
use Rattle.std.proofs.Common.{◌≡◌, ◌≢◌, ◌≤◌, ◌<◌, ◌+◌, ℕ, List, length, take, drop, map, Bool, true, false, not, nat_eq, arith, inl, inr, subst, IsTrue, ◌↔◌}
use Rattle.std.proofs.lemmas.Bool.{cases_lt, cases_Bool, eqb-true}
use Rattle.std.proofs.lemmas.List.{get_or-take, length-take-le, take-append-drop}
use Rattle.std.proofs.lemmas.List.Elements.{All-weaker, All-append, All-drop}
use Rattle.std.proofs.lemmas.Simd.{none_from_empty_mask}
use Rattle.std.specs.List.{All}
use Rattle.std.specs.Simd.Lanes.{mask_l, chunk}
use Rattle.lanes.specs.Kernels.{IsEach}

-- one vector more in which no lane passes the test
pub All-take_vector : (p : ℕ → Bool) (xs : List ℕ) (i n : ℕ) → i + n ≤ length xs → All (λ x. p x ≡ false) (take i xs)
    → mask_l (map p (chunk i n xs)) ≡ 0 → All (λ x. p x ≡ false) (take (i + n) xs)
All-take_vector p xs i n room front empty k d lt =
    let short : length (take (i + n) xs) ≡ i + n = length-take-le (i + n) xs room in
    let inside : k < i + n = omega arith in
    let within : i ≤ length xs = omega arith in
    let all : length (take i xs) ≡ i = length-take-le i xs within in
    rw (get_or-take (i + n) xs k d inside) (elim (cases_lt k i) [
      | inl below ↦ rw (get_or-take i xs k d below) at (front k d (omega arith))
      | inr at ↦ none_from_empty_mask p xs i n d room empty k at inside
    ])

-- the test of a lane for another byte
abbrev pub differs : ℕ → ℕ → Bool
differs a b = not (nat_eq a b)

same_unless_differs : (b x : ℕ) → differs x b ≡ false → x ≡ b
same_unless_differs b x h = elim (cases_Bool (nat_eq x b)) [
  | inl t ↦ eqb-true x b t
  | inr f ↦ let bad : true ≡ false = rw f at h in cc
]

differs_not_at_same : (b x : ℕ) → x ≡ b → differs x b ≡ false
differs_not_at_same b x h = elim (cases_Bool (nat_eq x b)) [
  | inl t ↦ rw t
  | inr f ↦ grind arith
]

pub IsEach-take_vector : (byte : ℕ) (xs : List ℕ) (i n : ℕ) → i + n ≤ length xs → IsEach byte (take i xs)
    → mask_l (map (λ x. differs x byte) (chunk i n xs)) ≡ 0 → IsEach byte (take (i + n) xs)
IsEach-take_vector byte xs i n room front empty =
    All-weaker (λ x. differs x byte ≡ false) (λ x. x ≡ byte) (same_unless_differs byte) (take (i + n) xs)
    (All-take_vector (λ x. differs x byte) xs i n room
    (All-weaker (λ x. x ≡ byte) (λ x. differs x byte ≡ false) (differs_not_at_same byte) (take i xs) front) empty)

other_unless_equal : (v x : ℕ) → nat_eq x v ≡ false → x ≢ v
other_unless_equal v x h e = grind arith

unequal_at_other : (v x : ℕ) → x ≢ v → nat_eq x v ≡ false
unequal_at_other v x h = grind arith

pub All-other_take_vector : (v : ℕ) (xs : List ℕ) (i n : ℕ) → i + n ≤ length xs → All (λ x. x ≢ v) (take i xs)
    → mask_l (map (λ x. nat_eq x v) (chunk i n xs)) ≡ 0 → All (λ x. x ≢ v) (take (i + n) xs)
All-other_take_vector v xs i n room front empty =
    All-weaker (λ x. nat_eq x v ≡ false) (λ x. x ≢ v) (other_unless_equal v) (take (i + n) xs)
    (All-take_vector (λ x. nat_eq x v) xs i n room
    (All-weaker (λ x. x ≢ v) (λ x. nat_eq x v ≡ false) (unequal_at_other v) (take i xs) front) empty)

-- if the front has only this byte, the whole has only this byte exactly when the rest has
pub IsEach_by_rest : (byte : ℕ) (xs : List ℕ) (i : ℕ) (b : Bool) → IsEach byte (take i xs) → (IsTrue b ↔ IsEach byte (drop i xs))
    → (IsTrue b ↔ IsEach byte xs)
IsEach_by_rest byte xs i b front rest = (
  λ t. subst (λ (ys : List ℕ). IsEach byte ys) (take-append-drop i xs) (All-append (λ x. x ≡ byte) (take i xs) (drop i xs) front (rest.0 t)),
  λ all. rest.1 (All-drop (λ x. x ≡ byte) i xs all),
)
