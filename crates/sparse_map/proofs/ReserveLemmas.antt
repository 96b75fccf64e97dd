-- The facts that a reservation keeps and makes.
use Rattle.std.proofs.Common.{◌≡◌, ◌≢◌, ℕ, ◌+◌, ◌*◌, ◌^◌, ◌<◌, ◌≤◌, max, List, Option, Some, None, Result, Ok, Err, length, cond, leb, eqb, refl, sym, ap, ◌∙◌, subst, inl, inr, arith}
use Rattle.std.specs.Prelude.{is_some, OnOk, OnErr}
use Rattle.std.specs.Ordering.{nat_cmp}
use Rattle.std.specs.FinMap as map
use Rattle.std.specs.FinMap.{find}
use Rattle.std.proofs.lemmas.Nat.{pow_pos, pow-add}
use Rattle.std.proofs.lemmas.Bool.{cases_lt, cases_eq, le-leb, lt-leb, eq-eqb, ne_eqb, cond-true, cond-false}
use Rattle.std.proofs.Math.Nat.{le-mul_of_pos_right, pow-le-pow_right}
use Rattle.sparse_map.specs.declared.group.Group.{Group}
use Rattle.sparse_map.specs.Home.{IsDoubledFor}
use Rattle.sparse_map.specs.Slots.{items_of}
use Rattle.sparse_map.specs.Groups.{slots_of, IsEmptyFrom}
use Rattle.sparse_map.specs.Packed.{IsPacked, PackedTable, map_of, len_of, buckets_of, lists_of, IsSound}
use Rattle.sparse_map.specs.Moved.{IsDistinct, items_in}
use Rattle.sparse_map.proofs.BucketLemmas.{items_of-groups}
use Rattle.sparse_map.proofs.MapLemmas.{map_of-same, IsDistinct-items_of}

pub on_ok : {T E : Type 0} (r : Result T E) (P : Type 0) → P → OnOk r P
on_ok (Ok x) P p = p
on_ok (Err e) P p = tt

pub on_err_both : {T E : Type 0} (r : Result T E) (P Q : Type 0) → P → OnErr r Q → OnErr r (P × Q)
on_err_both (Ok x) P Q p q = tt
on_err_both (Err e) P Q p q = (p, q)

pub on_ok_always : {T E : Type 0} (r : Result T E) (P Q : Type 0) → OnOk r Q → OnOk r (P → Q)
on_ok_always (Ok x) P Q q = λ p. q
on_ok_always (Err e) P Q q = tt

-- powers of two of different exponents differ
pub same_exponent : (a b : ℕ) → 2 ^ a ≡ 2 ^ b → a ≡ b
same_exponent a b e = elim (cases_lt a b) [
  | inl less ↦ absurd (let grows = grown a b less in omega (arith, e, grows, pow_pos a))
  | inr more ↦ elim (cases_lt b a) [
    | inl less ↦ absurd (let grows = grown b a less in omega (arith, e, grows, pow_pos b))
    | inr least ↦ omega arith
  ]
] where
  grown : (x y : ℕ) → x < y → 2 * 2 ^ x ≤ 2 ^ y
  grown x y less =
      let up : 2 ^ (x + 1) ≤ 2 ^ y = pow-le-pow_right {n = 2} (omega arith) (omega arith) in
      let one : 2 ^ (x + 1) ≡ 2 ^ x * 2 = pow-add 2 x 1 in
      omega (arith, up, one)

-- other bits give another number of buckets
pub other_buckets : (bits wide : ℕ) → bits ≢ wide → cond (eqb bits 0) 0 (2 ^ bits) ≢ 2 ^ wide
other_buckets bits wide other e = elim (cases_eq bits 0) [
  | inl none ↦ let zero_is = sym (cond-true (eqb bits 0) 0 (2 ^ bits) (eq-eqb bits 0 none)) ∙ e in omega (arith, zero_is, pow_pos wide)
  | inr some ↦ other (same_exponent bits wide (sym (cond-false (eqb bits 0) 0 (2 ^ bits) (ne_eqb bits 0 some)) ∙ e))
]

-- doubling makes no table smaller
pub doubled_grows : (need narrow wide : ℕ) → IsDoubledFor need narrow wide → narrow ≤ wide
doubled_grows need narrow wide d =
    let start : ℕ = cond (leb 32 narrow) narrow 32 in
    let more : start ≤ start * 2 ^ d.doublings = le-mul_of_pos_right start (pow_pos d.doublings) in
    let least : narrow ≤ start = elim (cases_lt narrow 32) [
      | inl lt ↦ let e : start ≡ 32 = cond-false (leb 32 narrow) narrow 32 (lt-leb 32 narrow lt) in omega arith
      | inr le ↦ let e : start ≡ narrow = cond-true (leb 32 narrow) narrow 32 (le-leb 32 narrow le) in omega arith
    ] in
    omega (arith, d.is)

module _ {V : Type 0} where
  pub map_of-slots : (t u : PackedTable V) → u.slots ≡ t.slots → map_of u ≡ map_of t
  map_of-slots t u same = map_of-same t u (λ q. ap (λ s. find nat_cmp q (items_of s)) same)

  pub sound_same : (t u : PackedTable V) → IsSound t → u.slots ≡ t.slots → u.spare ≡ t.spare → u.places ≤ 65 * lists_of u → u.blanks ≤ lists_of u → IsSound u
  sound_same t u sound same ready places blanks =
      let long : buckets_of u ≡ buckets_of t = ap length same in
      let len : len_of u ≡ len_of t = ap map.len (map_of-slots t u same) in
      record {
        packed = subst (λ s. IsPacked s) (sym same) sound.packed;
        room = omega (arith, sound.room, long, len, ready);
        buckets = subst (λ m. 0 < m → (b : ℕ) × (5 ≤ b) × (m ≡ 2 ^ b)) (sym long) sound.buckets;
        places = places;
        blanks = blanks;
      }

  pub sound_stocked : {T E : Type 0} (r : Result T E) (t u : PackedTable V) (n : ℕ) → IsSound t → 4 * (len_of t + n) ≤ 3 * buckets_of t → u.slots ≡ t.slots
      → OnOk r (u.spare ≡ max t.spare n) → OnErr r (u.spare ≡ t.spare) → u.places ≤ 65 * lists_of u → u.blanks ≤ lists_of u → IsSound u
  sound_stocked (Err e) t u n sound room same ok err places blanks = sound_same t u sound same err places blanks
  sound_stocked (Ok x) t u n sound room same ok err places blanks =
      let long : buckets_of u ≡ buckets_of t = ap length same in
      let len : len_of u ≡ len_of t = ap map.len (map_of-slots t u same) in
      record {
        packed = subst (λ s. IsPacked s) (sym same) sound.packed;
        room = omega (arith, room, sound.room, long, len, ok);
        buckets = subst (λ m. 0 < m → (b : ℕ) × (5 ≤ b) × (m ≡ 2 ^ b)) (sym long) sound.buckets;
        places = places;
        blanks = blanks;
      }

  pub sound_either : {T E : Type 0} (r : Result T E) (t u : PackedTable V) → IsSound t → OnOk r (IsSound u) → OnErr r (u ≡ t) → IsSound u
  sound_either (Err e) t u sound ok err = subst (λ x. IsSound x) (sym err) sound
  sound_either (Ok x) t u sound ok err = ok

  -- ---- if the buckets doubled, or nothing changed
  module _ {T E : Type 0} (r : Result T E) (t u : PackedTable V) (err : OnErr r (u ≡ t)) where
    pub loose_either : OnOk r (u.loose ≡ 0) → u.loose ≤ t.loose
    loose_either ok = by_case r err ok where
      by_case : (r : Result T E) → OnErr r (u ≡ t) → OnOk r (u.loose ≡ 0) → u.loose ≤ t.loose
      by_case (Ok x) same none = omega (arith, none)
      by_case (Err e) same none = let kept = ap (λ (x : PackedTable V). x.loose) same in omega (arith, kept)

    pub stays_either : (n : ℕ) → buckets_of t ≢ n → OnOk r (buckets_of u ≡ n) → buckets_of u ≡ buckets_of t → u.slots ≡ t.slots
    stays_either n other ok level = by_case r err ok where
      by_case : (r : Result T E) → OnErr r (u ≡ t) → OnOk r (buckets_of u ≡ n) → u.slots ≡ t.slots
      by_case (Ok x) same wide = absurd (other (sym level ∙ wide))
      by_case (Err e) same wide = ap (λ (x : PackedTable V). x.slots) same

    pub peak_either : (n : ℕ) → buckets_of t ≢ n → OnOk r (buckets_of u ≡ n) → buckets_of u ≡ buckets_of t → u.peak ≡ t.peak
    peak_either n other ok level = by_case r err ok where
      by_case : (r : Result T E) → OnErr r (u ≡ t) → OnOk r (buckets_of u ≡ n) → u.peak ≡ t.peak
      by_case (Ok x) same wide = absurd (other (sym level ∙ wide))
      by_case (Err e) same wide = ap (λ (x : PackedTable V). x.peak) same

    pub as_before : OnErr r ((u.slots ≡ t.slots) × (u.spare ≡ t.spare))
    as_before = by_case r err where
      by_case : (r : Result T E) → OnErr r (u ≡ t) → OnErr r ((u.slots ≡ t.slots) × (u.spare ≡ t.spare))
      by_case (Ok x) same = tt
      by_case (Err e) same = (ap (λ (x : PackedTable V). x.slots) same, ap (λ (x : PackedTable V). x.spare) same)

    pub no_more : (n : ℕ) → OnErr r ((u.places ≤ t.places) × (u.blanks ≤ max t.blanks n))
    no_more n = by_case r err where
      by_case : (r : Result T E) → OnErr r (u ≡ t) → OnErr r ((u.places ≤ t.places) × (u.blanks ≤ max t.blanks n))
      by_case (Ok x) same = tt
      by_case (Err e) same =
          let places = ap (λ (x : PackedTable V). x.places) same in
          let blanks = ap (λ (x : PackedTable V). x.blanks) same in
          (omega (arith, places), omega (arith, blanks))

  -- ---- moving the items of all groups into an empty map
  pub items_in-IsDistinct : (n : ℕ) (us : List (Group V)) → IsEmptyFrom n us → IsPacked (slots_of n us) → IsDistinct (items_in us)
  items_in-IsDistinct n us rest packed = subst (λ es. IsDistinct es) (items_of-groups n us rest) (IsDistinct-items_of (slots_of n us) packed.once)

  pub after_none : (o : Option V) → cond (is_some o) o None ≡ o
  after_none None = refl
  after_none (Some x) = refl
