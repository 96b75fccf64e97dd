-- The home of a key as the code computes it, steps round the table, and the doubling of buckets.
use Rattle.std.proofs.Common.{◌≡◌, ℕ, ◌+◌, ◌-◌, ◌*◌, ◌/◌, ◌%◌, ◌^◌, ◌<◌, ◌≤◌, ◌⊎◌, min, if◌then◌else◌, eqb, leb, refl, sym, ap, ◌∙◌, subst, inl, inr, arith}
use Rattle.std.proofs.lemmas.Nat.{shl-shr, shr-shr, shr_below, pow-add, mod_below, one_shl, div_below}
use Rattle.std.proofs.lemmas.Bool.{cases_lt, cases_eq, le-leb, lt-leb, eq-eqb, ne_eqb, cond-true, cond-false}
use Rattle.std.proofs.Math.Nat.{mul_comm, mul_assoc, pow-le-pow_right, mul-lt-mul_of_pos_right}
use Rattle.sparse_map.specs.Home.{home, steps, buckets_for, IsTableSize, IsDoubledFor}
use Rattle.sparse_map.specs.Groups.{lists_for}

shift_is_scale : (p b c : ℕ) → p / 2 ^ c ≡ p * 2 ^ b / 2 ^ (b + c)
shift_is_scale p b c = ap (λ x. x / 2 ^ c) (sym (shl-shr p b)) ∙ shr-shr (p * 2 ^ b) b c

shifted : (p b n : ℕ) → b ≤ n → p / 2 ^ (n - b) ≡ p * 2 ^ b / 2 ^ n
shifted p b n le = let e : b + (n - b) ≡ n = omega arith in shift_is_scale p b (n - b) ∙ ap (λ x. p * 2 ^ b / 2 ^ x) e

below_shift : (p b n : ℕ) → b ≤ n → p < 2 ^ n → p / 2 ^ (n - b) < 2 ^ b
below_shift p b n le lt =
    let e : n ≡ b + (n - b) = omega arith in
    shr_below p b (n - b) (subst (λ x. p < 2 ^ x) e lt)

pub home_is_top_bits : (b key : ℕ) → b ≤ 64 → key * 0x9E37_79B9_7F4A_7C15 % 2 ^ 64 / 2 ^ (64 - b) ≡ home (2 ^ b) key
unfolding home
home_is_top_bits b key le = shifted (key * 0x9E37_79B9_7F4A_7C15 % 2 ^ 64) b 64 le

pub top_bits_below : (b key : ℕ) → b ≤ 64 → key * 0x9E37_79B9_7F4A_7C15 % 2 ^ 64 / 2 ^ (64 - b) < 2 ^ b
top_bits_below b key le = below_shift _ b 64 le (mod_below (key * 0x9E37_79B9_7F4A_7C15) (2 ^ 64) (omega arith))

pub steps_ahead : (n a b : ℕ) → a ≤ b → steps n a b ≡ b - a
unfolding steps
steps_ahead n a b le = cond-true (leb a b) _ _ (le-leb a b le)

pub steps_round : (n a b : ℕ) → b < a → steps n a b ≡ b + n - a
unfolding steps
steps_round n a b lt = cond-false (leb a b) _ _ (lt-leb a b lt)

-- the doublings up to 2 ^ bits buckets were all needed
pub record GrewFor (need narrow bits : ℕ) : Type 0 where
  pub doublings : ℕ
  pub is : 2 ^ bits ≡ (if leb 32 narrow then narrow else 32) * 2 ^ doublings
  pub needed : (k : ℕ) → k < doublings → 3 * ((if leb 32 narrow then narrow else 32) * 2 ^ k) < 4 * need

pub grew_none : (need bits : ℕ) → 5 ≤ bits → GrewFor need (2 ^ bits) bits
grew_none need bits le =
    let wide : 32 ≤ 2 ^ bits = pow-le-pow_right {n = 2} (omega arith) le in
    let is : 2 ^ bits ≡ (if leb 32 (2 ^ bits) then 2 ^ bits else 32) * 2 ^ 0 = rw (le-leb 32 (2 ^ bits) wide) (omega arith) in
    record { doublings = 0; is = is; needed = λ k h. absurd (omega arith) }

pub grew_from_none : (need : ℕ) → GrewFor need 0 5
grew_from_none need = record { doublings = 0; is = refl; needed = λ k h. absurd (omega arith) }

pub grew_more : (need narrow bits : ℕ) → GrewFor need narrow bits → 3 * 2 ^ bits < 4 * need → GrewFor need narrow (bits + 1)
grew_more need narrow bits grew more =
    let start : ℕ = if leb 32 narrow then narrow else 32 in
    record {
      doublings = grew.doublings + 1;
      is = pow-add 2 bits 1 ∙ ap (λ x. x * 2) grew.is ∙ mul_assoc start (2 ^ grew.doublings) 2 ∙ ap (λ x. start * x) (sym (pow-add 2 grew.doublings 1));
      needed = λ k h. elim (cases_lt k grew.doublings) [
        | inl lt ↦ grew.needed k lt
        | inr ge ↦ let e : k ≡ grew.doublings = omega arith in subst (λ x. 3 * (start * 2 ^ x) < 4 * need) (sym e) (subst (λ x. 3 * x < 4 * need) grew.is more)
      ];
    }

pub grew_enough : (need narrow bits : ℕ) → GrewFor need narrow bits → 4 * need ≤ 3 * 2 ^ bits → IsDoubledFor need narrow (2 ^ bits)
grew_enough need narrow bits grew enough = record { doublings = grew.doublings; is = grew.is; enough = enough; needed = grew.needed }

-- a table of 2^31 buckets has room for any need
pub below_thirty_one : (need bits : ℕ) → need ≤ 2 ^ 30 → bits ≤ 31 → 3 * 2 ^ bits < 4 * need → bits + 1 ≤ 31
below_thirty_one need bits small le more =
    elim (cases_eq bits 31) [
      | inl e ↦ absurd (let at : 3 * 2 ^ 31 < 4 * need = subst (λ x. 3 * 2 ^ x < 4 * need) e more in omega arith)
      | inr ne ↦ omega arith
    ]

-- how many buckets there are, by the number of bits that the struct keeps, which is 0 if there are none
pub grew_at_zero : (need bits wide : ℕ) → bits ≡ 0 → wide ≡ 5 → GrewFor need (if eqb bits 0 then 0 else 2 ^ bits) wide
grew_at_zero need bits wide none five =
    rw (eq-eqb bits 0 none) (subst (λ x. GrewFor need 0 x) (sym five) (grew_from_none need))

pub grew_at_some : (need bits wide : ℕ) → 5 ≤ bits → wide ≡ bits → GrewFor need (if eqb bits 0 then 0 else 2 ^ bits) wide
grew_at_some need bits wide some same =
    let other : bits ≡ 0 → ⊥ = λ e. omega arith in
    rw (ne_eqb bits 0 other) (subst (λ x. GrewFor need (2 ^ bits) x) (sym same) (grew_none need bits some))

pub five_or_more : (bits : ℕ) → bits ≡ 0 ⊎ 5 ≤ bits → (bits ≡ 0 → ⊥) → 5 ≤ bits
five_or_more bits some other = elim some [ inl e ↦ absurd (other e) | inr le ↦ le ]

-- the code's test, when `1 << bits` does not wrap
pub tested : (need bits : ℕ) → bits ≤ 31 → 3 * (1 * 2 ^ bits % 2 ^ 64) < 4 * need → 3 * 2 ^ bits < 4 * need
tested need bits few h = let lt : bits < 64 = omega arith in subst (λ x. 3 * x < 4 * need) (one_shl bits 64 lt) h

pub shifted_one : (bits : ℕ) → bits ≤ 31 → (1 * 2 ^ bits % 2 ^ 64 ≡ 2 ^ bits) × (2 ^ bits ≤ 2 ^ 31)
shifted_one bits few =
    let lt : bits < 64 = omega arith in
    let most : 2 ^ bits ≤ 2 ^ 31 = pow-le-pow_right {n = 2} (omega arith) few in
    (one_shl bits 64 lt, most)

scaled_below : (p n m : ℕ) → 0 < n → 0 < m → p < m → p * n / m < n
scaled_below p n m some_n some_m lt = div_below (p * n) m n some_m (subst (λ x. p * n < x) (mul_comm m n) (mul-lt-mul_of_pos_right lt some_n))

pub home_below : (n key : ℕ) → 0 < n → home n key < n
unfolding home
home_below n key some = scaled_below (key * 0x9E37_79B9_7F4A_7C15 % 2 ^ 64) n (2 ^ 64) some (omega arith) (mod_below (key * 0x9E37_79B9_7F4A_7C15) (2 ^ 64) (omega arith))

pub some_buckets : (bits : ℕ) → 0 < bits → buckets_for bits ≡ 2 ^ bits
some_buckets bits some = cond-false (eqb bits 0) 0 (2 ^ bits) (ne_eqb bits 0 (λ e. omega arith))

pub no_buckets : (bits : ℕ) → bits ≡ 0 → buckets_for bits ≡ 0
no_buckets bits none = cond-true (eqb bits 0) 0 (2 ^ bits) (eq-eqb bits 0 none)

pub has_buckets : (bits b : ℕ) → b < buckets_for bits → 0 < bits
has_buckets bits b lt = elim (cases_eq bits 0) [ inl none ↦ absurd (omega (arith, no_buckets bits none)) | inr some ↦ omega arith ]

-- ---- the sizes of tables: 32 buckets, or whole groups of 64
pub record IsSized (n : ℕ) : Type 0 where
  pub least : 32 ≤ n
  pub whole : (n ≡ 32) ⊎ (n % 64 ≡ 0)

pub sized : (bits : ℕ) → IsTableSize bits → IsSized (2 ^ bits)
sized bits size =
    record {
      least = pow-le-pow_right {n = 2} (omega arith) size.many;
      whole = elim (cases_eq bits 5) [
        | inl five ↦ inl (ap (λ b. 2 ^ b) five)
        | inr more ↦
            let e : 6 + (bits - 6) ≡ bits = omega (arith, size.many, more) in
            let is : 64 * 2 ^ (bits - 6) ≡ 2 ^ bits = sym (pow-add 2 6 (bits - 6)) ∙ ap (λ b. 2 ^ b) e in
            inr (omega (arith, is))
      ];
    }

module _ (n : ℕ) (size : IsSized n) where
  -- the groups have a bucket for each of them
  pub sized_long : n ≤ 64 * lists_for n
  sized_long = elim size.whole [ inl half ↦ omega arith | inr whole ↦ omega (arith, size.least) ]

  -- the buckets of a group end with the table, or before
  pub width_within : (b : ℕ) → b < n → b - b % 64 + min n 64 ≤ n
  width_within b lt = elim size.whole [ inl half ↦ omega arith | inr whole ↦ omega (arith, size.least) ]

  pub below_width : (b : ℕ) → b < n → b % 64 < min n 64
  below_width b lt = elim size.whole [ inl half ↦ omega arith | inr whole ↦ omega (arith, size.least) ]

  pub halves : n % 32 ≡ 0
  halves = elim size.whole [ inl half ↦ omega arith | inr whole ↦ omega arith ]
