-- Steps round the table.
use Rattle.std.proofs.Common.{◌≡◌, ◌≢◌, ℕ, ◌+◌, ◌-◌, ◌<◌, ◌≤◌, ◌⊎◌, cond, eqb, ap, ◌∙◌, inl, inr, arith}
use Rattle.std.proofs.lemmas.Bool.{cases_lt, cases_eq, eq-eqb, ne_eqb}
use Rattle.sparse_map.specs.Home.{steps}
use Rattle.sparse_map.proofs.HomeLemmas.{steps_ahead, steps_round}

-- the bucket after b, as the code computes it
abbrev pub next : ℕ → ℕ → ℕ
next n b = cond (eqb (b + 1) n) 0 (b + 1)

pub steps_cases : (n a b : ℕ) → ((a ≤ b) × (steps n a b ≡ b - a)) ⊎ ((b < a) × (steps n a b ≡ b + n - a))
steps_cases n a b = elim (cases_lt b a) [ inl lt ↦ inr (lt, steps_round n a b lt) | inr le ↦ inl (le, steps_ahead n a b le) ]

pub next_cases : (n b : ℕ) → ((b + 1 ≡ n) × (next n b ≡ 0)) ⊎ ((b + 1 ≢ n) × (next n b ≡ b + 1))
next_cases n b = elim (cases_eq (b + 1) n) [
  | inl e ↦ inl (e, ap (λ t. cond t 0 (b + 1)) (eq-eqb (b + 1) n e))
  | inr ne ↦ inr (ne, ap (λ t. cond t 0 (b + 1)) (ne_eqb (b + 1) n ne))
]

pub next_below : (n b : ℕ) → b < n → next n b < n
next_below n b lt = elim (next_cases n b) [ inl c ↦ omega (arith, c.0, c.1) | inr c ↦ let ne = c.0 in omega (arith, ne, c.1) ]

pub steps_self : (n a : ℕ) → steps n a a ≡ 0
steps_self n a = let le : a ≤ a = omega arith in steps_ahead n a a le ∙ omega arith

pub steps_below : (n a b : ℕ) → a < n → b < n → steps n a b < n
steps_below n a b la lb = elim (steps_cases n a b) [ inl c ↦ omega (arith, c.0, c.1) | inr c ↦ omega (arith, c.0, c.1) ]

pub steps_same : (n a b c : ℕ) → a < n → b < n → c < n → steps n a b ≡ steps n a c → b ≡ c
steps_same n a b c la lb lc e =
    elim (steps_cases n a b) [
      | inl x ↦ elim (steps_cases n a c) [ inl y ↦ omega (arith, x.0, x.1, y.0, y.1) | inr y ↦ omega (arith, x.0, x.1, y.0, y.1) ]
      | inr x ↦ elim (steps_cases n a c) [ inl y ↦ omega (arith, x.0, x.1, y.0, y.1) | inr y ↦ omega (arith, x.0, x.1, y.0, y.1) ]
    ]

pub steps-next : (n a b : ℕ) → a < n → b < n → steps n a b + 1 < n → steps n a (next n b) ≡ steps n a b + 1
steps-next n a b la lb short =
    let goal : (m : ℕ) → m < n → ((b + 1 ≡ n) × (m ≡ 0)) ⊎ ((b + 1 ≢ n) × (m ≡ b + 1)) → steps n a m ≡ steps n a b + 1 =
    λ m lm way.
    elim (steps_cases n a b) [
      | inl x ↦ elim (steps_cases n a m) [
        | inl y ↦ elim way [ inl z ↦ omega (arith, x.0, x.1, y.0, y.1, z.0, z.1) | inr z ↦ let ne = z.0 in omega (arith, x.0, x.1, y.0, y.1, ne, z.1) ]
        | inr y ↦ elim way [ inl z ↦ omega (arith, x.0, x.1, y.0, y.1, z.0, z.1) | inr z ↦ let ne = z.0 in omega (arith, x.0, x.1, y.0, y.1, ne, z.1) ]
      ]
      | inr x ↦ elim (steps_cases n a m) [
        | inl y ↦ elim way [ inl z ↦ omega (arith, x.0, x.1, y.0, y.1, z.0, z.1) | inr z ↦ let ne = z.0 in omega (arith, x.0, x.1, y.0, y.1, ne, z.1) ]
        | inr y ↦ elim way [ inl z ↦ omega (arith, x.0, x.1, y.0, y.1, z.0, z.1) | inr z ↦ let ne = z.0 in omega (arith, x.0, x.1, y.0, y.1, ne, z.1) ]
      ]
    ] in
    goal (next n b) (next_below n b lb) (next_cases n b)

-- the way from a to b and the way on from there to c are the way from a to c, unless they go round more than once
pub steps_join : (n a b c : ℕ) → a < n → b < n → c < n → steps n a b + steps n b c < n → steps n a b + steps n b c ≡ steps n a c
steps_join n a b c la lb lc short =
    elim (steps_cases n a b) [
      | inl x ↦ elim (steps_cases n b c) [
        | inl y ↦ elim (steps_cases n a c) [ inl z ↦ omega (arith, x.0, x.1, y.0, y.1, z.0, z.1) | inr z ↦ omega (arith, x.0, x.1, y.0, y.1, z.0, z.1) ]
        | inr y ↦ elim (steps_cases n a c) [ inl z ↦ omega (arith, x.0, x.1, y.0, y.1, z.0, z.1) | inr z ↦ omega (arith, x.0, x.1, y.0, y.1, z.0, z.1) ]
      ]
      | inr x ↦ elim (steps_cases n b c) [
        | inl y ↦ elim (steps_cases n a c) [ inl z ↦ omega (arith, x.0, x.1, y.0, y.1, z.0, z.1) | inr z ↦ omega (arith, x.0, x.1, y.0, y.1, z.0, z.1) ]
        | inr y ↦ elim (steps_cases n a c) [ inl z ↦ omega (arith, x.0, x.1, y.0, y.1, z.0, z.1) | inr z ↦ omega (arith, x.0, x.1, y.0, y.1, z.0, z.1) ]
      ]
    ]

-- if b lies on the way from a to c
pub steps_over : (n a b c : ℕ) → a < n → b < n → c < n → steps n a b ≤ steps n a c → steps n a b + steps n b c ≡ steps n a c
steps_over n a b c la lb lc le =
    elim (steps_cases n a b) [
      | inl x ↦ elim (steps_cases n b c) [
        | inl y ↦ elim (steps_cases n a c) [ inl z ↦ omega (arith, x.0, x.1, y.0, y.1, z.0, z.1) | inr z ↦ omega (arith, x.0, x.1, y.0, y.1, z.0, z.1) ]
        | inr y ↦ elim (steps_cases n a c) [ inl z ↦ omega (arith, x.0, x.1, y.0, y.1, z.0, z.1) | inr z ↦ omega (arith, x.0, x.1, y.0, y.1, z.0, z.1) ]
      ]
      | inr x ↦ elim (steps_cases n b c) [
        | inl y ↦ elim (steps_cases n a c) [ inl z ↦ omega (arith, x.0, x.1, y.0, y.1, z.0, z.1) | inr z ↦ omega (arith, x.0, x.1, y.0, y.1, z.0, z.1) ]
        | inr y ↦ elim (steps_cases n a c) [ inl z ↦ omega (arith, x.0, x.1, y.0, y.1, z.0, z.1) | inr z ↦ omega (arith, x.0, x.1, y.0, y.1, z.0, z.1) ]
      ]
    ]

-- ---- the buckets from b on that are reached without going round. A bucket on the way from b, fewer than d steps on,
-- is one of the d buckets from b on
pub steps_near : (n a b d q : ℕ) → a < n → b + d ≤ n → q < n → steps n a b ≤ steps n a q → steps n a q < steps n a b + d → (b ≤ q) × (q < b + d)
steps_near n a b d q la ld lq le lt =
    elim (steps_cases n a b) [
      | inl x ↦ elim (steps_cases n a q) [
        | inl y ↦ (omega (arith, x.0, x.1, y.0, y.1), omega (arith, x.0, x.1, y.0, y.1))
        | inr y ↦ absurd (omega (arith, x.0, x.1, y.0, y.1))
      ]
      | inr x ↦ elim (steps_cases n a q) [
        | inl y ↦ absurd (omega (arith, x.0, x.1, y.0, y.1))
        | inr y ↦ (omega (arith, x.0, x.1, y.0, y.1), omega (arith, x.0, x.1, y.0, y.1))
      ]
    ]

pub steps_at_most : (n a b r : ℕ) → a < n → b ≤ r → steps n a r ≤ steps n a b + (r - b)
steps_at_most n a b r la le =
    elim (steps_cases n a b) [
      | inl x ↦ elim (steps_cases n a r) [ inl y ↦ omega (arith, x.0, x.1, y.0, y.1) | inr y ↦ omega (arith, x.0, x.1, y.0, y.1) ]
      | inr x ↦ elim (steps_cases n a r) [ inl y ↦ omega (arith, x.0, x.1, y.0, y.1) | inr y ↦ omega (arith, x.0, x.1, y.0, y.1) ]
    ]

steps_far : (n a b l : ℕ) → a < n → b ≤ l → l < n → steps n a b + (l - b) < n → steps n a l ≡ steps n a b + (l - b)
steps_far n a b l la le ll short =
    elim (steps_cases n a b) [
      | inl x ↦ elim (steps_cases n a l) [ inl y ↦ omega (arith, x.0, x.1, y.0, y.1) | inr y ↦ omega (arith, x.0, x.1, y.0, y.1) ]
      | inr x ↦ elim (steps_cases n a l) [ inl y ↦ omega (arith, x.0, x.1, y.0, y.1) | inr y ↦ omega (arith, x.0, x.1, y.0, y.1) ]
    ]

-- the bucket after the last one of them
pub steps_past : (n a b l : ℕ) → a < n → b ≤ l → l < n → steps n a b + (l - b) + 1 < n → steps n a (next n l) ≡ steps n a b + (l - b) + 1
steps_past n a b l la le ll short =
    let far = steps_far n a b l la le ll (omega (arith, short)) in
    let on = steps-next n a l la ll (omega (arith, far, short)) in
    omega (arith, far, on)
