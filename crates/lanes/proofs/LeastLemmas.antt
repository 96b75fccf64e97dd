-- The least of a list, by parts and by lanes.
use Rattle.std.proofs.Common.{◌≡◌, ◌≢◌, ◌≤◌, ◌<◌, ◌+◌, ℕ, zero, suc, List, [], ◌∷◌, ◌++◌, length, take, min, cond, Bool, true, false, nat_eq, ltb, get_or, arith, refl, sym, ap, ◌∙◌, inl, inr, Some, None, IsNone, IfSome, ◌↔◌, position, fold, subst, Option}
use Rattle.std.proofs.lemmas.Bool.{cases_lt, eqb-true}
use Rattle.std.proofs.lemmas.List.{take-take, drop-take, take-append-drop}
use Rattle.std.proofs.lemmas.List.Elements.{All-tail, All-head}
use Rattle.std.proofs.lemmas.List.Sums.{fold-append, position_or_len_is, fails_before_first, passes_at_first}
use Rattle.std.specs.List.{All, Contains, position_or_len}
use Rattle.std.specs.Simd.Lanes.{zip2, sel_l, chunk}
use Rattle.lanes.specs.Kernels.{least_of, IsFirstLeast}

-- a start may be taken in before or after
pub fold-min_start : (a b : ℕ) (xs : List ℕ) → fold min (min a b) xs ≡ min a (fold min b xs)
fold-min_start a b [] = refl
fold-min_start a b (x ∷ xs) =
    let regroup : min (min a b) x ≡ min a (min b x) = omega arith in
    ap (λ n. fold min n xs) regroup ∙ fold-min_start a (min b x) xs

-- the least of a list is the least of its first and the rest
pub least_of-cons : (x : ℕ) (xs : List ℕ) → least_of (x ∷ xs) ≡ min x (least_of xs)
least_of-cons x xs =
    let turn : min 65535 x ≡ min x 65535 = omega arith in
    ap (λ n. fold min n xs) turn ∙ fold-min_start x 65535 xs

pub least_of-bound : (xs : List ℕ) → least_of xs ≤ 65535
least_of-bound [] = omega arith
least_of-bound (x ∷ xs) = rw (least_of-cons x xs) (omega (arith, least_of-bound xs))

pub least_of-append : (xs ys : List ℕ) → least_of (xs ++ ys) ≡ min (least_of xs) (least_of ys)
least_of-append xs ys =
    let capped : least_of xs ≡ min (least_of xs) 65535 = omega (arith, least_of-bound xs) in
    fold-append min 65535 xs ys ∙ ap (λ n. fold min n ys) capped ∙ fold-min_start (least_of xs) 65535 ys

-- the lesser of two vectors, lane by lane
pub least_of-lanes : (xs ys : List ℕ) → length xs ≡ length ys → least_of (sel_l (zip2 ltb xs ys) xs ys) ≡ min (least_of xs) (least_of ys)
least_of-lanes [] [] same = omega arith
least_of-lanes [] (y ∷ ys) same = absurd (omega arith)
least_of-lanes (x ∷ xs) [] same = absurd (omega arith)
least_of-lanes (x ∷ xs) (y ∷ ys) same =
    let rest = least_of-lanes xs ys (omega arith) in
    let one : cond (ltb x y) x y ≡ min x y = grind arith in
    rw (least_of-cons (cond (ltb x y) x y) (sel_l (zip2 ltb xs ys) xs ys), least_of-cons x xs, least_of-cons y ys, rest, one) (omega arith)

pub length-lanes : (xs ys : List ℕ) → length xs ≡ length ys → length (sel_l (zip2 ltb xs ys) xs ys) ≡ length xs
length-lanes [] ys same = refl
length-lanes (x ∷ xs) [] same = absurd (omega arith)
length-lanes (x ∷ xs) (y ∷ ys) same = ap (λ n. suc n) (length-lanes xs ys (omega arith))

pub take_cut : (i n : ℕ) (xs : List ℕ) → take (i + n) xs ≡ take i xs ++ chunk i n xs
take_cut i n xs =
    let within : i ≤ i + n = omega arith in
    sym (rw (take-take i (i + n) xs within, drop-take i n xs) at (take-append-drop i (take (i + n) xs)))

-- no count is below the least
pub least_of-least : (xs : List ℕ) → All (λ x. least_of xs ≤ x) xs
least_of-least [] k d lt = absurd (omega arith)
least_of-least (x ∷ xs) zero d lt = rw (least_of-cons x xs) (omega arith)
least_of-least (x ∷ xs) (suc k) d lt = rw (least_of-cons x xs) (omega (arith, least_of-least xs k d (omega arith)))

-- the least is one of the counts, if there are any
pub least_of_reached : (xs : List ℕ) → All (λ x. x ≤ 65535) xs → xs ≢ [] → Contains xs (least_of xs)
least_of_reached [] small some = absurd (some refl)
least_of_reached (x ∷ []) small some =
    let x_small : x ≤ 65535 = All-head (λ y. y ≤ 65535) x [] small in
    let least : least_of (x ∷ []) ≡ x = omega arith in
    (0, omega arith, sym least)
least_of_reached (x ∷ y ∷ ys) small some =
    let there = least_of_reached (y ∷ ys) (All-tail (λ z. z ≤ 65535) x (y ∷ ys) small) (λ e. cc) in
    elim (cases_lt x (least_of (y ∷ ys))) [
      | inl less ↦
          let least : least_of (x ∷ y ∷ ys) ≡ x = least_of-cons x (y ∷ ys) ∙ omega arith in
          (0, omega arith, sym least)
      | inr more ↦
          let least : least_of (x ∷ y ∷ ys) ≡ least_of (y ∷ ys) = least_of-cons x (y ∷ ys) ∙ omega arith in
          subst (λ (n : ℕ). Contains (x ∷ y ∷ ys) n) (sym least) (suc there.0, omega (arith, there.1), there.2)
    ]

-- the first place that passes is the position
pub position_at : (p : ℕ → Bool) (xs : List ℕ) (i : ℕ) → i < length xs → ((k : ℕ) → k < i → p (get_or xs k 0) ≡ false)
    → p (get_or xs i 0) ≡ true → Some i ≡ position p xs
position_at p xs i inside before here =
    let at : position_or_len p xs ≡ i = position_or_len_is p xs i 0 (omega arith) before (λ _. here) in
    let yes : ltb i (length xs) ≡ true = grind arith in
    rw (at, yes) refl

pub position_none : (p : ℕ → Bool) (xs : List ℕ) → ((k : ℕ) → k < length xs → p (get_or xs k 0) ≡ false) → None ≡ position p xs
position_none p xs before =
    let at : position_or_len p xs ≡ length xs = position_or_len_is p xs (length xs) 0 (omega arith) before (λ lt. absurd (omega arith)) in
    let no : ltb (length xs) (length xs) ≡ false = grind arith in
    rw (at, no) refl

-- the position of the least is its first place
pub IsFirstLeast-position : (xs : List ℕ) → position_or_len (λ x. nat_eq x (least_of xs)) xs < length xs
    → IsFirstLeast xs (position_or_len (λ x. nat_eq x (least_of xs)) xs)
IsFirstLeast-position xs inside =
    let p : ℕ → Bool = λ x. nat_eq x (least_of xs) in
    let here : get_or xs (position_or_len p xs) 0 ≡ least_of xs = eqb-true _ (least_of xs) (passes_at_first p xs 0 inside) in
    record {
      within = inside;
      least = λ k d lt. omega (arith, here, least_of-least xs k d lt);
      first = λ k lt.
          let other : nat_eq (get_or xs k 0) (least_of xs) ≡ false = fails_before_first p xs k 0 lt in
          let above = least_of-least xs k 0 (omega arith) in
          grind (arith, here, above, other);
    }

-- a list whose counts all differ from their least is empty
pub nil_from_no_position : (xs : List ℕ) → All (λ x. x ≤ 65535) xs → length xs ≤ position_or_len (λ x. nat_eq x (least_of xs)) xs → xs ≡ []
nil_from_no_position [] small none = refl
nil_from_no_position (x ∷ xs) small none =
    let p : ℕ → Bool = λ y. nat_eq y (least_of (x ∷ xs)) in
    let there = least_of_reached (x ∷ xs) small (λ e. cc) in
    let other : nat_eq (get_or (x ∷ xs) there.0 (least_of (x ∷ xs))) (least_of (x ∷ xs)) ≡ false = fails_before_first p (x ∷ xs) there.0 (least_of (x ∷ xs)) (omega (arith, there.1)) in
    absurd (grind (arith, other, there.2))

pub least_by_position : (xs : List ℕ) (r : Option ℕ) → All (λ x. x ≤ 65535) xs → r ≡ position (λ x. nat_eq x (least_of xs)) xs
    → (IsNone r ↔ (xs ≡ [])) × IfSome r (IsFirstLeast xs)
least_by_position xs r small is =
    let p : ℕ → Bool = λ x. nat_eq x (least_of xs) in
    elim (cases_lt (position_or_len p xs) (length xs)) [
      | inl inside ↦
          let yes : ltb (position_or_len p xs) (length xs) ≡ true = grind arith in
          let some : r ≡ Some (position_or_len p xs) = rw yes at is in
          rw some ((λ h. absurd (cc), λ e. absurd (omega (arith, ap length e))), IsFirstLeast-position xs inside)
      | inr past ↦
          let no : ltb (position_or_len p xs) (length xs) ≡ false = grind arith in
          let none : r ≡ None = rw no at is in
          rw none ((λ _. nil_from_no_position xs small past, λ _. refl), tt)
    ]
