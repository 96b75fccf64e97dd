-- How the sizes of the lists change with one group.
use Rattle.std.proofs.Common.{◌≡◌, ℕ, zero, suc, ◌+◌, ◌-◌, ◌*◌, ◌/◌, ◌^◌, ◌<◌, ◌≤◌, ◌⊎◌, min, max, List, [], ◌∷◌, length, get_or, set, take, cond, refl, sym, ap, ◌∙◌, subst, inl, inr, arith}
use Rattle.std.specs.List.{All, sum_by}
use Rattle.std.specs.Vec.{vec_len, vec_capacity}
use Rattle.std.proofs.lemmas.List.{get_or-map, get_or_past, get_or-set_same, get_or-set_other, set-set, set-get_or, take_all, length-append}
use Rattle.std.proofs.lemmas.List.Sums.{sum_by-set, sum_by-cons, sum_by_more, get_or-le-sum_by, sum_by-le-sum_by}
use Rattle.std.proofs.lemmas.List.Elements.{All-head, All-tail}
use Rattle.std.proofs.lemmas.Bool.{cases_lt, cases_eq, lt-ltb, le-ltb}
use Rattle.sparse_map.specs.declared.group.Group.{Group}
use Rattle.sparse_map.specs.declared.table.Touched.{Touched}
use Rattle.sparse_map.specs.declared.table.Touched.TheVariants.{Nowhere, In, Anywhere}
use Rattle.sparse_map.specs.Trimmed.{MayBeTouched, IsTrimmed, IsReady}
use Rattle.sparse_map.specs.Moved.{items_in}
use Rattle.sparse_map.specs.Places.{list_size, sizes_of, places_of, extra, lacks, sum_untouched, loose_of, lacking, past_most, past_of, IsBoundedBy}

-- ---- a list that has no place for n more items
pub lacks-no : (n : ℕ) (x : ℕ × ℕ) → min 64 (x.0 + n) ≤ x.1 → lacks n x ≡ 0
unfolding lacks
lacks-no n x le = ap (λ b. cond b 1 0) (le-ltb x.1 (min 64 (x.0 + n)) le)

pub lacks-yes : (n : ℕ) (x : ℕ × ℕ) → x.1 < min 64 (x.0 + n) → lacks n x ≡ 1
unfolding lacks
lacks-yes n x lt = ap (λ b. cond b 1 0) (lt-ltb x.1 (min 64 (x.0 + n)) lt)

lacks-most : (n : ℕ) (x : ℕ × ℕ) → lacks n x ≤ 1
lacks-most n x = elim (cases_lt x.1 (min 64 (x.0 + n))) [
  | inl lt ↦ omega (arith, lacks-yes n x lt)
  | inr le ↦ omega (arith, lacks-no n x le)
]

pub lacks-le : (n m : ℕ) (x y : ℕ × ℕ) → (x.1 < min 64 (x.0 + n) → y.1 < min 64 (y.0 + m)) → lacks n x ≤ lacks m y
lacks-le n m x y more = elim (cases_lt x.1 (min 64 (x.0 + n))) [
  | inl lt ↦ let one = lacks-yes n x lt in let other = lacks-yes m y (more lt) in omega (arith, one, other)
  | inr le ↦ omega (arith, lacks-no n x le)
]

lacks-next : (n m : ℕ) → n ≤ m → (x : ℕ × ℕ) → lacks n x ≤ lacks m x
lacks-next n m le x = lacks-le n m x x (λ lt. omega (arith, lt, le))

-- ---- one size in a list of sizes
places-set : (s : List (ℕ × ℕ)) (i : ℕ) (x : ℕ × ℕ) → i < length s → places_of (set s i x) + (get_or s i (64, 64)).1 ≡ places_of s + x.1
unfolding places_of
places-set s i x inside = sum_by-set (λ y. y.1) s i x (64, 64) inside

module _ (f : ℕ × ℕ → ℕ) (s : List (ℕ × ℕ)) (i : ℕ) (x : ℕ × ℕ) (inside : i < length s) where
  one-set : sum_by f (set s i x) + f (get_or s i (64, 64)) ≡ sum_by f s + f x
  one-set = sum_by-set f s i x (64, 64) inside

  one-within : f (get_or s i (64, 64)) ≤ sum_by f s
  one-within = get_or-le-sum_by f s i (64, 64) inside

  one-here : (j : ℕ) → j ≡ i → f (get_or (set s i x) j (64, 64)) ≡ f x
  one-here j e = ap (λ k. f (get_or (set s i x) k (64, 64))) e ∙ ap f (get_or-set_same s i x (64, 64) inside)

  one-there : (j : ℕ) → j ≡ i → f (get_or s j (64, 64)) ≡ f (get_or s i (64, 64))
  one-there j e = ap (λ k. f (get_or s k (64, 64))) e

  untouched-set : (g : Touched) (n : ℕ) → f x ≤ f (get_or s i (64, 64)) + n → sum_untouched f g (set s i x) ≤ sum_untouched f g s + n
  unfolding sum_untouched
  untouched-set Nowhere n le = omega (arith, one-set, le)
  untouched-set (In b) n le = elim (cases_eq (b / 64) i) [
    | inl e ↦ omega (arith, one-set, one-here (b / 64) e, one-there (b / 64) e, one-within)
    | inr ne ↦
        let same : f (get_or (set s i x) (b / 64) (64, 64)) ≡ f (get_or s (b / 64) (64, 64)) = ap f (get_or-set_other s i (b / 64) x (64, 64) ne) in
        omega (arith, one-set, same, le)
  ]
  untouched-set Anywhere n le = omega arith

  untouched-at : (g : Touched) → MayBeTouched g i → sum_untouched f g (set s i x) ≤ sum_untouched f g s
  unfolding sum_untouched
  untouched-at Nowhere may = absurd may
  untouched-at (In b) may = omega (arith, one-set, one-here (b / 64) (sym may), one-there (b / 64) (sym may), one-within)
  untouched-at Anywhere may = omega arith

  untouched-fitted : (b : ℕ) → i ≡ b / 64 → sum_untouched f Nowhere (set s i x) ≤ sum_untouched f (In b) s + f x
  unfolding sum_untouched
  untouched-fitted b e = omega (arith, one-set, one-there (b / 64) (sym e), one-within)

  untouched-less : f x + 1 ≤ f (get_or s i (64, 64)) → sum_untouched f Nowhere (set s i x) + 1 ≤ sum_untouched f Nowhere s
  unfolding sum_untouched
  untouched-less le = omega (arith, one-set, le)

  -- the sum by f after the change, and the sum by a larger h before it
  sum-next : (h : ℕ × ℕ → ℕ) (d : ℕ) → ((y : ℕ × ℕ) → f y ≤ h y) → f (64, 64) ≡ 0 → h (64, 64) ≡ 0 → f x + d ≤ h (get_or s i (64, 64)) → sum_by f (set s i x) + d ≤ sum_by h s
  sum-next h d less none none_2 le =
      let rest = sum_by-le-sum_by f h (set s i (64, 64)) less in
      let first = sum_by-set f s i (64, 64) (64, 64) inside in
      let second = sum_by-set h s i (64, 64) (64, 64) inside in
      omega (arith, one-set, rest, first, second, none, none_2, le)

-- set one way and back again
set_back : (s : List (ℕ × ℕ)) (i : ℕ) (x y : ℕ × ℕ) → y ≡ get_or s i (64, 64) → set (set s i x) i y ≡ s
set_back s i x y is = set-set s i x y ∙ ap (set s i) is ∙ set-get_or s i (64, 64)

-- if more groups may have been touched, no more is counted
pub untouched-wider : (f : ℕ × ℕ → ℕ) (s : List (ℕ × ℕ)) (g h : Touched) → ((i : ℕ) → MayBeTouched g i → MayBeTouched h i) → sum_untouched f h s ≤ sum_untouched f g s
unfolding sum_untouched
untouched-wider f s Nowhere Nowhere more = omega arith
untouched-wider f s Nowhere (In c) more = omega arith
untouched-wider f s Nowhere Anywhere more = omega arith
untouched-wider f s (In b) Nowhere more = absurd (more (b / 64) refl)
untouched-wider f s (In b) (In c) more =
    let e : b / 64 ≡ c / 64 = more (b / 64) refl in
    let same : f (get_or s (b / 64) (64, 64)) ≡ f (get_or s (c / 64) (64, 64)) = ap (λ j. f (get_or s j (64, 64))) e in
    omega (arith, same)
untouched-wider f s (In b) Anywhere more = omega arith
untouched-wider f s Anywhere Nowhere more = absurd (more 0 tt)
untouched-wider f s Anywhere (In c) more = let first : 0 ≡ c / 64 = more 0 tt in let second : 1 ≡ c / 64 = more 1 tt in absurd (omega arith)
untouched-wider f s Anywhere Anywhere more = omega arith

-- a bucket of no group
pub untouched-past : (f : ℕ × ℕ → ℕ) (s : List (ℕ × ℕ)) (b : ℕ) → f (64, 64) ≡ 0 → length s ≤ b / 64 → sum_untouched f Nowhere s ≤ sum_untouched f (In b) s
unfolding sum_untouched
untouched-past f s b none past =
    let here : f (get_or s (b / 64) (64, 64)) ≡ 0 = ap f (get_or_past s (b / 64) (64, 64) past) ∙ none in
    omega (arith, here)

pub extra-full : extra (64, 64) ≡ 0
unfolding extra
extra-full = refl

pub lacks-full : (n : ℕ) → lacks n (64, 64) ≡ 0
lacks-full n = lacks-no n (64, 64) (omega arith)

pub no-places : places_of [] ≡ 0
unfolding places_of
no-places = refl

pub places-none : (V : Type 0) → places_of (sizes_of {V = V} []) ≡ 0
unfolding places_of sizes_of
places-none V = refl

pub bounded : (beyond n : ℕ) → min n (2 ^ 64 - 1) ≤ beyond → IsBoundedBy beyond n
unfolding IsBoundedBy
bounded beyond n le = le

pub bounds : (beyond n : ℕ) → IsBoundedBy beyond n → min n (2 ^ 64 - 1) ≤ beyond
unfolding IsBoundedBy
bounds beyond n is = is

pub loose-anywhere : (s : List (ℕ × ℕ)) → loose_of Anywhere s ≡ 0
unfolding sum_untouched
loose-anywhere s = refl

pub loose-none : (V : Type 0) → loose_of Nowhere (sizes_of {V = V} []) ≡ 0
unfolding sum_untouched sizes_of
loose-none V = refl

pub no-untouched : (f : ℕ × ℕ → ℕ) → sum_untouched f Nowhere [] ≡ 0
unfolding sum_untouched
no-untouched f = refl

-- ---- how many lists have no place for n more items
pub lacking-at_most : (n : ℕ) (s : List (ℕ × ℕ)) → lacking n Nowhere s ≤ length s
unfolding sum_untouched
lacking-at_most n [] = omega arith
lacking-at_most n (x ∷ s) = omega (arith, sum_by-cons (lacks n) x s, lacks-most n x, lacking-at_most n s)

pub lacking-le : (n m : ℕ) (s : List (ℕ × ℕ)) → n ≤ m → lacking n Nowhere s ≤ lacking m Nowhere s
unfolding sum_untouched
lacking-le n m s le = sum_by-le-sum_by (lacks n) (lacks m) s (lacks-next n m le)

-- ---- the places past 65
pub past-le : (x y : ℕ × ℕ) → x.1 ≤ max y.1 65 → past_most x ≤ past_most y
unfolding past_most
past-le x y le = omega (arith, le)

-- if there are no places past 65, each list has at most 65
pub past-few : (s : List (ℕ × ℕ)) → past_of s ≡ 0 → places_of s ≤ 65 * length s
unfolding places_of sum_untouched past_most
past-few [] none = omega arith
past-few (x ∷ s) none =
    let places = sum_by-cons (λ (y : ℕ × ℕ). y.1) x s in
    let past = sum_by-cons past_most x s in
    let later : past_of s ≡ 0 = omega (arith, past, none) in
    omega (arith, places, past, none, past-few s later)

-- no blank list is needed for one new key if no list is full, or if there is a blank list for each group
pub stocked_for : (spare blanks : ℕ) (s : List (ℕ × ℕ)) → (min spare (length s) ≤ blanks) ⊎ ((spare ≤ 1) × (lacking 1 Nowhere s ≡ 0)) → min spare (lacking spare Nowhere s) ≤ blanks
stocked_for spare blanks s enough = elim enough [
  | inl all ↦ omega (arith, all, lacking-at_most spare s)
  | inr one ↦ elim (cases_eq spare 1) [
    | inl e ↦ subst (λ n. min n (lacking n Nowhere s) ≤ blanks) (sym e) (omega (arith, one.1))
    | inr ne ↦ omega (arith, one.0, ne)
  ]
]

-- blank lists for one new key stay enough if no list becomes full
pub stocked_still : (spare blanks blanks_2 : ℕ) (s r : List (ℕ × ℕ)) → spare ≤ 1 → lacking 1 Nowhere r ≤ lacking 1 Nowhere s → min spare (lacking spare Nowhere s) ≤ blanks → blanks ≤ blanks_2 → min spare (lacking spare Nowhere r) ≤ blanks_2
stocked_still spare blanks blanks_2 s r one fewer stocked more = elim (cases_eq spare 1) [
  | inl e ↦
      let before : min 1 (lacking 1 Nowhere s) ≤ blanks = subst (λ n. min n (lacking n Nowhere s) ≤ blanks) e stocked in
      subst (λ n. min n (lacking n Nowhere r) ≤ blanks_2) (sym e) (omega (arith, fewer, before, more))
  | inr ne ↦ omega (arith, one, ne)
]

module _ {V : Type 0} where
  sizes-set : (us : List (Group V)) (i : ℕ) (w : Group V) → sizes_of (set us i w) ≡ set (sizes_of us) i (list_size w)
  unfolding sizes_of
  sizes-set [] i w = refl
  sizes-set (u ∷ us) zero w = refl
  sizes-set (u ∷ us) (suc i) w = ap (λ s. list_size u ∷ s) (sizes-set us i w)

  pub length-sizes : (us : List (Group V)) → length (sizes_of us) ≡ length us
  unfolding sizes_of
  length-sizes [] = refl
  length-sizes (u ∷ us) = omega (arith, length-sizes us)

  sum_groups : (f : ℕ × ℕ → ℕ) (us : List (Group V)) → sum_by f (sizes_of us) ≡ sum_by (λ g. f (list_size g)) us
  unfolding sizes_of
  sum_groups f [] = refl
  sum_groups f (u ∷ us) =
      sum_by-cons f (list_size u) (sizes_of us)
      ∙ ap (λ n. f (list_size u) + n) (sum_groups f us)
      ∙ sym (sum_by-cons (λ (x : Group V). f (list_size x)) u us)

  -- the sum over the first lists and one more
  sum-more : (f : ℕ × ℕ → ℕ) (us : List (Group V)) (i : ℕ) (u e : Group V) → i < length us → u ≡ get_or us i e
      → sum_by f (sizes_of (take (i + 1) us)) ≡ sum_by f (sizes_of (take i us)) + f (list_size u)
  sum-more f us i u e inside is =
      let more = sum_by_more (λ (x : Group V). f (list_size x)) us i e inside in
      let here : f (list_size (get_or us i e)) ≡ f (list_size u) = ap (λ (x : Group V). f (list_size x)) (sym is) in
      omega (arith, sum_groups f (take (i + 1) us), sum_groups f (take i us), more, here)

  -- the places of the first lists and of one more, and the free ones beyond four
  pub places-more : (us : List (Group V)) (i : ℕ) (u e : Group V) → i < length us → u ≡ get_or us i e → places_of (sizes_of (take (i + 1) us)) ≡ places_of (sizes_of (take i us)) + vec_capacity u.items
  unfolding places_of
  places-more us i u e inside is = sum-more (λ s. s.1) us i u e inside is

  pub loose-more : (us : List (Group V)) (i : ℕ) (u e : Group V) → i < length us → u ≡ get_or us i e
      → loose_of Nowhere (sizes_of (take (i + 1) us)) ≡ loose_of Nowhere (sizes_of (take i us)) + (vec_capacity u.items - (vec_len u.items + 4))
  unfolding sum_untouched extra
  loose-more us i u e inside is = sum-more extra us i u e inside is

  pub loose-all : (us : List (Group V)) (n : ℕ) → n ≡ length us → loose_of Nowhere (sizes_of (take n us)) ≡ loose_of Nowhere (sizes_of us)
  loose-all us n is = ap (λ l. loose_of Nowhere (sizes_of l)) (take_all n us (omega (arith, is)))

  pub places-all : (us : List (Group V)) (n : ℕ) → n ≡ length us → places_of (sizes_of (take n us)) ≡ places_of (sizes_of us)
  places-all us n is = ap (λ l. places_of (sizes_of l)) (take_all n us (omega (arith, is)))

  pub sizes-new : (us : List (Group V)) → us ≡ [] → sizes_of us ≡ []
  unfolding sizes_of
  sizes-new us e = rw e refl

  pub extra-most : (u w : Group V) (n : ℕ) → vec_capacity w.items ≤ vec_capacity u.items → vec_len u.items ≤ vec_len w.items + n → extra (list_size w) ≤ extra (list_size u) + n
  unfolding extra
  extra-most u w n capacity len = omega arith

  pub extra-few : (u w : Group V) → vec_len w.items ≡ vec_len u.items → vec_capacity w.items ≤ max (vec_capacity u.items) (vec_len w.items + 4) → extra (list_size w) ≤ extra (list_size u)
  unfolding extra
  extra-few u w len few = omega arith

  pub extra-less : (u w : Group V) (left : ℕ) → vec_capacity w.items ≡ vec_capacity u.items → vec_len w.items ≡ vec_len u.items + 1 → left ≡ vec_capacity w.items - vec_len w.items → 4 ≤ left
      → extra (list_size w) + 1 ≤ extra (list_size u)
  unfolding extra
  extra-less u w left capacity len is few = omega arith

  pub extra-is : (w : Group V) (n : ℕ) → n ≡ vec_capacity w.items - (vec_len w.items + 4) → extra (list_size w) ≡ n
  unfolding extra
  extra-is w n is = sym is

  pub extra-none : (w : Group V) → IsTrimmed w → extra (list_size w) ≡ 0
  unfolding extra
  extra-none w trimmed = omega (arith, trimmed)

  pub lacks-none : (w : Group V) → IsReady w → lacks 1 (list_size w) ≡ 0
  lacks-none w ready = lacks-no 1 (list_size w) ready

  pub lacks-room : (u w : Group V) → vec_len w.items ≡ vec_len u.items → min (vec_capacity u.items) (vec_len u.items + 4) ≤ vec_capacity w.items → lacks 1 (list_size w) ≤ lacks 1 (list_size u)
  lacks-room u w len room = lacks-le 1 1 (list_size w) (list_size u) (λ lt. omega (arith, lt, len, room))

  -- each list counts nothing, so all do
  pub none-counted : (f : ℕ × ℕ → ℕ) (P : Group V → Type 0) → ((u : Group V) → P u → f (list_size u) ≡ 0) → (us : List (Group V)) → All P us → sum_untouched f Nowhere (sizes_of us) ≡ 0
  unfolding sum_untouched sizes_of
  none-counted f P none [] all = refl
  none-counted f P none (u ∷ us) all =
      let here : f (list_size u) ≡ 0 = none u (All-head P u us all) in
      let later : sum_by f (sizes_of us) ≡ 0 = none-counted f P none us (All-tail P u us all) in
      omega (arith, sum_by-cons f (list_size u) (sizes_of us), here, later)

  -- the places of all lists are the items, four for each list, and the loose places
  pub places-bound : (us : List (Group V)) → places_of (sizes_of us) ≤ length (items_in us) + 4 * length us + loose_of Nowhere (sizes_of us)
  unfolding places_of sum_untouched sizes_of extra
  places-bound [] = omega arith
  places-bound (u ∷ us) =
      let long : length (items_in (u ∷ us)) ≡ length u.items.items + length (items_in us) = length-append u.items.items (items_in us) in
      let places = sum_by-cons (λ (y : ℕ × ℕ). y.1) (list_size u) (sizes_of us) in
      let extras = sum_by-cons extra (list_size u) (sizes_of us) in
      let rest = places-bound us in
      omega (arith, long, places, extras, rest, u.items.ok.0)

  -- ---- one group in a list of groups
  module _ (us : List (Group V)) (i : ℕ) (u e w : Group V) (inside : i < length us) (is : u ≡ get_or us i e) where
    inside_sizes : i < length (sizes_of us)
    inside_sizes = omega (arith, length-sizes us)

    pub size-at : get_or (sizes_of us) i (64, 64) ≡ list_size u
    unfolding sizes_of
    size-at = get_or-map list_size us i e (64, 64) inside ∙ ap list_size (sym is)

    pub places_in-set : places_of (sizes_of (set us i w)) + vec_capacity u.items ≡ places_of (sizes_of us) + vec_capacity w.items
    places_in-set =
        let now : places_of (sizes_of (set us i w)) ≡ places_of (set (sizes_of us) i (list_size w)) = ap places_of (sizes-set us i w) in
        let before : (get_or (sizes_of us) i (64, 64)).1 ≡ vec_capacity u.items = ap (λ (y : ℕ × ℕ). y.1) size-at in
        omega (arith, places-set (sizes_of us) i (list_size w) inside_sizes, now, before)

    pub untouched_in-set : (f : ℕ × ℕ → ℕ) (g : Touched) (n : ℕ) → f (list_size w) ≤ f (list_size u) + n → sum_untouched f g (sizes_of (set us i w)) ≤ sum_untouched f g (sizes_of us) + n
    untouched_in-set f g n le =
        let now : sum_untouched f g (sizes_of (set us i w)) ≡ sum_untouched f g (set (sizes_of us) i (list_size w)) = ap (sum_untouched f g) (sizes-set us i w) in
        let before : f (get_or (sizes_of us) i (64, 64)) ≡ f (list_size u) = ap f size-at in
        let most : f (list_size w) ≤ f (get_or (sizes_of us) i (64, 64)) + n = omega (arith, le, before) in
        omega (arith, untouched-set f (sizes_of us) i (list_size w) inside_sizes g n most, now)

    pub untouched_in-at : (f : ℕ × ℕ → ℕ) (g : Touched) → MayBeTouched g i → sum_untouched f g (sizes_of (set us i w)) ≤ sum_untouched f g (sizes_of us)
    untouched_in-at f g may =
        let now : sum_untouched f g (sizes_of (set us i w)) ≡ sum_untouched f g (set (sizes_of us) i (list_size w)) = ap (sum_untouched f g) (sizes-set us i w) in
        omega (arith, untouched-at f (sizes_of us) i (list_size w) inside_sizes g may, now)

    pub untouched_in-fitted : (f : ℕ × ℕ → ℕ) (b : ℕ) → i ≡ b / 64 → sum_untouched f Nowhere (sizes_of (set us i w)) ≤ sum_untouched f (In b) (sizes_of us) + f (list_size w)
    untouched_in-fitted f b at =
        let now : sum_untouched f Nowhere (sizes_of (set us i w)) ≡ sum_untouched f Nowhere (set (sizes_of us) i (list_size w)) = ap (sum_untouched f Nowhere) (sizes-set us i w) in
        omega (arith, untouched-fitted f (sizes_of us) i (list_size w) inside_sizes b at, now)

    pub untouched_in-less : (f : ℕ × ℕ → ℕ) → f (list_size w) + 1 ≤ f (list_size u) → sum_untouched f Nowhere (sizes_of (set us i w)) + 1 ≤ sum_untouched f Nowhere (sizes_of us)
    untouched_in-less f le =
        let now : sum_untouched f Nowhere (sizes_of (set us i w)) ≡ sum_untouched f Nowhere (set (sizes_of us) i (list_size w)) = ap (sum_untouched f Nowhere) (sizes-set us i w) in
        let before : f (get_or (sizes_of us) i (64, 64)) ≡ f (list_size u) = ap f size-at in
        let less : f (list_size w) + 1 ≤ f (get_or (sizes_of us) i (64, 64)) = omega (arith, le, before) in
        omega (arith, untouched-less f (sizes_of us) i (list_size w) inside_sizes less, now)

    -- one place less is asked for of each list, and w in place of u has one item more, or a long list
    pub lacking_in-next : (n d : ℕ) → lacks n (list_size w) + d ≤ lacks (n + 1) (list_size u) → lacking n Nowhere (sizes_of (set us i w)) + d ≤ lacking (n + 1) Nowhere (sizes_of us)
    unfolding sum_untouched
    lacking_in-next n d le =
        let now : sum_by (lacks n) (sizes_of (set us i w)) ≡ sum_by (lacks n) (set (sizes_of us) i (list_size w)) = ap (sum_by (lacks n)) (sizes-set us i w) in
        let before : lacks (n + 1) (get_or (sizes_of us) i (64, 64)) ≡ lacks (n + 1) (list_size u) = ap (lacks (n + 1)) size-at in
        let most : lacks n (list_size w) + d ≤ lacks (n + 1) (get_or (sizes_of us) i (64, 64)) = omega (arith, le, before) in
        let next = sum-next (lacks n) (sizes_of us) i (list_size w) inside_sizes (lacks (n + 1)) d (lacks-next n (n + 1) (omega arith)) (lacks-full n) (lacks-full (n + 1)) most in
        omega (arith, next, now)

    pub lacking-one : (n : ℕ) → lacks n (list_size u) ≤ lacking n Nowhere (sizes_of us)
    unfolding sum_untouched
    lacking-one n =
        let here : lacks n (get_or (sizes_of us) i (64, 64)) ≡ lacks n (list_size u) = ap (lacks n) size-at in
        omega (arith, here, one-within (lacks n) (sizes_of us) i (list_size w) inside_sizes)

    pub sizes-same : vec_len w.items ≡ vec_len u.items → vec_capacity w.items ≡ vec_capacity u.items → sizes_of (set us i w) ≡ sizes_of us
    sizes-same len capacity =
        sizes-set us i w
        ∙ ap (set (sizes_of us) i) ((λ j. (len j, capacity j)) ∙ sym size-at)
        ∙ set-get_or (sizes_of us) i (64, 64)

  -- ---- a group that loses an item and then gets one
  pub sizes-back : (us ws : List (Group V)) (i : ℕ) (u e v x f w : Group V) → i < length us → u ≡ get_or us i e → sizes_of ws ≡ sizes_of (set us i v) → i < length ws → x ≡ get_or ws i f
      → vec_len v.items + 1 ≡ vec_len u.items → vec_capacity v.items ≡ vec_capacity u.items → vec_len w.items ≡ vec_len x.items + 1 → vec_capacity w.items ≡ vec_capacity x.items
      → sizes_of (set ws i w) ≡ sizes_of us
  sizes-back us ws i u e v x f w inside is between inside_2 is_2 less same more same_2 =
      let there : sizes_of ws ≡ set (sizes_of us) i (list_size v) = between ∙ sizes-set us i v in
      let seen : list_size x ≡ list_size v =
      sym (size-at ws i x f w inside_2 is_2) ∙ ap (λ s. get_or s i (64, 64)) there ∙ get_or-set_same (sizes_of us) i (list_size v) (64, 64) (inside_sizes us i u e w inside is) in
      let len : vec_len w.items ≡ vec_len u.items = more ∙ ap (λ (y : ℕ × ℕ). y.0 + 1) seen ∙ less in
      let capacity : vec_capacity w.items ≡ vec_capacity u.items = same_2 ∙ ap (λ (y : ℕ × ℕ). y.1) seen ∙ same in
      sizes-set ws i w
      ∙ ap (λ s. set s i (list_size w)) there
      ∙ set_back (sizes_of us) i (list_size v) (list_size w) ((λ j. (len j, capacity j)) ∙ sym (size-at us i u e w inside is))
