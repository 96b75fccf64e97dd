-- The buckets that keys take when they go in one after another, and how they are counted.
use Rattle.std.proofs.Common.{◌≡◌, ℕ, zero, suc, ◌+◌, ◌/◌, ◌<◌, ◌≤◌, Bool, true, false, List, [], ◌∷◌, ◌++◌, Option, Some, None, length, get_or, set, map, refl, sym, ap, ◌∙◌, subst, inl, inr, arith}
use Rattle.std.specs.Prelude.{is_some, IsSome, replicate}
use Rattle.std.specs.Vec.{vec_len, vec_capacity}
use Rattle.std.proofs.lemmas.List.{map-set, get_or-map, get_or-set_same, set-get_or}
use Rattle.std.proofs.lemmas.Bool.{cases_lt, cond-true, cond-false}
use Rattle.sparse_map.specs.declared.group.Group.{Group}
use Rattle.sparse_map.specs.Home.{home, steps}
use Rattle.sparse_map.specs.Slots.{slot_at, key_at}
use Rattle.sparse_map.specs.Probe.{IsFreeFor}
use Rattle.sparse_map.specs.Plan.{Plan, planned, first_unmarked, with_key, with_items, CanCount, lens_of, rooms_of}
use Rattle.sparse_map.proofs.RoundLemmas.{next, next_below, steps_self, steps_below, steps_same, steps-next}
use Rattle.sparse_map.proofs.SlotLemmas.{is_some-key_at}

-- ---- the walk over marks
pub unmarked_here : (n m at : ℕ) (marks : List Bool) → get_or marks at false ≡ false → first_unmarked n m at marks ≡ at
unfolding first_unmarked
unmarked_here n zero at marks free = refl
unmarked_here n (suc m) at marks free = cond-false (get_or marks at false) (first_unmarked n m (next n at) marks) at free

pub unmarked_next : (n m at : ℕ) (marks : List Bool) → get_or marks at false ≡ true → first_unmarked n (suc m) at marks ≡ first_unmarked n m (next n at) marks
unfolding first_unmarked
unmarked_next n m at marks taken = cond-true (get_or marks at false) (first_unmarked n m (next n at) marks) at taken

pub unmarked_none : (n at : ℕ) (marks : List Bool) → first_unmarked n 0 at marks ≡ at
unfolding first_unmarked
unmarked_none n at marks = refl

pub mark_at : {X : Type 0} (s : List (Option X)) (q : ℕ) → get_or (map is_some s) q false ≡ is_some (get_or s q None)
mark_at [] q = refl
mark_at (o ∷ s) zero = refl
mark_at (o ∷ s) (suc q) = mark_at s q

-- no bucket occupied, no mark
pub no_marks : {X : Type 0} (s : List (Option X)) → ((b : ℕ) → get_or s b None ≡ None) → map is_some s ≡ replicate (length s) false
no_marks [] free = refl
no_marks (None ∷ s) free = ap (λ r. false ∷ r) (no_marks s (λ b. free (suc b)))
no_marks (Some x ∷ s) free = absurd (let wrong : Some x ≡ None = free 0 in cc)

module _ {V : Type 0} (n : ℕ) (s : List (Option (ℕ × V))) (key b : ℕ) (long : length s ≡ n) (home_in : home n key < n) (place : IsFreeFor s key b) where
  way : (q : ℕ) → q < n → steps n (home n key) q < steps n (home n key) b → IsSome (key_at s q)
  way = subst (λ m. (q : ℕ) → q < m → steps m (home m key) q < steps m (home m key) b → IsSome (key_at s q)) long place.reached

  inside_n : b < n
  inside_n = subst (λ m. b < m) long place.inside

  walk : (m at : ℕ) → at < n → steps n (home n key) at ≤ steps n (home n key) b → steps n (home n key) b < steps n (home n key) at + m → first_unmarked n m at (map is_some s) ≡ b
  walk zero at inside le lt = absurd (omega arith)
  walk (suc m) at inside le lt = elim (cases_lt (steps n (home n key) at) (steps n (home n key) b)) [
    | inl less ↦
        let here : get_or (map is_some s) at false ≡ true = mark_at s at ∙ sym (is_some-key_at s at) ∙ way at inside less in
        let below = steps_below n (home n key) b home_in inside_n in
        let one : steps n (home n key) (next n at) ≡ steps n (home n key) at + 1 = steps-next n (home n key) at home_in inside (omega (arith, below, less)) in
        unmarked_next n m at (map is_some s) here ∙ walk m (next n at) (next_below n at inside) (omega (arith, one, less)) (omega (arith, one, lt))
    | inr more ↦
        let same : at ≡ b = steps_same n (home n key) at b home_in inside inside_n (omega (arith, le, more)) in
        let free : get_or (map is_some s) at false ≡ false = mark_at s at ∙ ap (λ x. is_some (slot_at s x)) same ∙ ap is_some place.free in
        unmarked_here n (suc m) at (map is_some s) free ∙ same
  ]

  pub first_unmarked-is : first_unmarked n n (home n key) (map is_some s) ≡ b
  first_unmarked-is =
      let start = steps_self n (home n key) in
      let below = steps_below n (home n key) b home_in inside_n in
      walk n (home n key) home_in (omega (arith, start)) (omega (arith, start, below))

-- ---- one count more
one_more : (c : List ℕ) (j i : ℕ) → get_or c i 0 ≤ get_or (set c j (get_or c j 0 + 1)) i 0
one_more [] j i = omega arith
one_more (x ∷ c) zero zero = omega arith
one_more (x ∷ c) zero (suc i) = omega arith
one_more (x ∷ c) (suc j) zero = omega arith
one_more (x ∷ c) (suc j) (suc i) = one_more c j i

one_at_most : (c : List ℕ) (j i : ℕ) → get_or (set c j (get_or c j 0 + 1)) i 0 ≤ get_or c i 0 + 1
one_at_most [] j i = omega arith
one_at_most (x ∷ c) zero zero = omega arith
one_at_most (x ∷ c) zero (suc i) = omega arith
one_at_most (x ∷ c) (suc j) zero = omega arith
one_at_most (x ∷ c) (suc j) (suc i) = one_at_most c j i

count_grows : (n : ℕ) (p : Plan) (key i : ℕ) → get_or p.counts i 0 ≤ get_or (with_key n p key).counts i 0
unfolding with_key
count_grows n p key i = one_more p.counts (first_unmarked n n (home n key) p.marks / 64) i

pub can_count : (n : ℕ) (p : Plan) (key more : ℕ) → CanCount (more + 1) p.counts → CanCount more (with_key n p key).counts
unfolding with_key
can_count n p key more small = λ i. omega (arith, one_at_most p.counts (first_unmarked n n (home n key) p.marks / 64) i, small i)

-- the count of the group that the key goes into
pub count_here : (n : ℕ) (p : Plan) (key b : ℕ) → first_unmarked n n (home n key) p.marks ≡ b → b / 64 < length p.counts → get_or (with_key n p key).counts (b / 64) 0 ≡ get_or p.counts (b / 64) 0 + 1
unfolding with_key
count_here n p key b is inside =
    ap (λ x. get_or (set p.counts (x / 64) (get_or p.counts (x / 64) 0 + 1)) (b / 64) 0) is
    ∙ get_or-set_same p.counts (b / 64) (get_or p.counts (b / 64) 0 + 1) 0 inside

pub with_key-at : (n : ℕ) (p : Plan) (key b : ℕ) → first_unmarked n n (home n key) p.marks ≡ b → with_key n p key ≡ planned (set p.marks b true) (set p.counts (b / 64) (get_or p.counts (b / 64) 0 + 1))
unfolding with_key
with_key-at n p key b is = ap (λ x. planned (set p.marks x true) (set p.counts (x / 64) (get_or p.counts (x / 64) 0 + 1))) is

-- ---- many keys
module _ {V : Type 0} (n : ℕ) where
  pub with_items-append : (p : Plan) (xs ys : List (ℕ × V)) → with_items n p (xs ++ ys) ≡ with_items n (with_items n p xs) ys
  with_items-append p [] ys = refl
  with_items-append p (x ∷ xs) ys = with_items-append (with_key n p x.0) xs ys

  pub counts_grow : (p : Plan) (es : List (ℕ × V)) (i : ℕ) → get_or p.counts i 0 ≤ get_or (with_items n p es).counts i 0
  counts_grow p [] i = omega arith
  counts_grow p (e ∷ es) i =
      let first = count_grows n p e.0 i in
      let later = counts_grow (with_key n p e.0) es i in
      omega (arith, first, later)

  pub can_count_items : (p : Plan) (es : List (ℕ × V)) (more : ℕ) → CanCount (length es + more) p.counts → CanCount more (with_items n p es).counts
  can_count_items p [] more small = λ i. omega (arith, small i)
  can_count_items p (e ∷ es) more small =
      can_count_items (with_key n p e.0) es more (can_count n p e.0 (length es + more) (λ i. omega (arith, small i)))

module _ {V : Type 0} where
  -- ---- one group in place of another, with one item more or as many
  module _ (us : List (Group V)) (i : ℕ) (u e w : Group V) (inside : i < length us) (is : u ≡ get_or us i e) where
    pub len_at : get_or (lens_of us) i 0 ≡ vec_len u.items
    len_at = get_or-map (λ (g : Group V). vec_len g.items) us i e 0 inside ∙ ap (λ (g : Group V). vec_len g.items) (sym is)

    pub room_at : get_or (rooms_of us) i 0 ≡ vec_capacity u.items
    room_at = get_or-map (λ (g : Group V). vec_capacity g.items) us i e 0 inside ∙ ap (λ (g : Group V). vec_capacity g.items) (sym is)

    pub lens_of-set : vec_len w.items ≡ vec_len u.items + 1 → lens_of (set us i w) ≡ set (lens_of us) i (get_or (lens_of us) i 0 + 1)
    lens_of-set more =
        map-set (λ (g : Group V). vec_len g.items) us i w
        ∙ ap (set (lens_of us) i) (more ∙ ap (λ x. x + 1) (sym len_at))

    pub rooms_of-set : vec_capacity w.items ≡ vec_capacity u.items → rooms_of (set us i w) ≡ rooms_of us
    rooms_of-set same =
        map-set (λ (g : Group V). vec_capacity g.items) us i w
        ∙ ap (set (rooms_of us) i) (same ∙ sym room_at)
        ∙ set-get_or (rooms_of us) i 0

    pub lens_of-set_same : vec_len w.items ≡ vec_len u.items → lens_of (set us i w) ≡ lens_of us
    lens_of-set_same same =
        map-set (λ (g : Group V). vec_len g.items) us i w
        ∙ ap (set (lens_of us) i) (same ∙ sym len_at)
        ∙ set-get_or (lens_of us) i 0
