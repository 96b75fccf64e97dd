-- The items of a table of buckets, the items that are found among them, and how one change shows there.
use Rattle.std.proofs.Common.{◌≡◌, ◌≢◌, ℕ, zero, suc, ◌+◌, ◌<◌, ◌≤◌, true, List, [], ◌∷◌, Option, Some, None, length, set, cond, eqb, refl, sym, ap, ◌∙◌, inl, inr, arith, add-one, zero-add}
use Rattle.std.specs.Prelude.{is_some, IsSome, option_map}
use Rattle.std.specs.Ordering.{nat_cmp, eq_by_cmp}
use Rattle.std.specs.Cmp.{unsigned_tied}
use Rattle.std.specs.FinMap.{find}
use Rattle.std.specs.List.{flat_map}
use Rattle.std.specs.Option.{option_to_list}
use Rattle.std.proofs.lemmas.List.{get_or_past, get_or-set_same, get_or-set_other, length-set}
use Rattle.std.proofs.lemmas.Bool.{cases_lt, cases_eq, eq-eqb, ne_eqb, cond-true, cond-false, false≢true}
use Rattle.std.proofs.lemmas.Option.{same_Some, some_pair_parts}
use Rattle.sparse_map.specs.Slots.{slot_at, key_at, items_of, exchanged}

-- ---- the items that are found
module _ {V : Type 0} where
  pub find_here : (q k : ℕ) (v : V) (es : List (ℕ × V)) → q ≡ k → find nat_cmp q ((k, v) ∷ es) ≡ Some v
  find_here q k v es e = cond-true (eq_by_cmp nat_cmp q k) _ _ (unsigned_tied q k ∙ eq-eqb q k e)

  pub find_later : (q k : ℕ) (v : V) (es : List (ℕ × V)) → q ≢ k → find nat_cmp q ((k, v) ∷ es) ≡ find nat_cmp q es
  find_later q k v es ne = cond-false (eq_by_cmp nat_cmp q k) _ _ (unsigned_tied q k ∙ ne_eqb q k ne)

  pub items_of-none : (s : List (Option (ℕ × V))) → items_of (None ∷ s) ≡ items_of s
  unfolding items_of
  items_of-none s = refl

  pub items_of-some : (e : ℕ × V) (s : List (Option (ℕ × V))) → items_of (Some e ∷ s) ≡ e ∷ items_of s
  unfolding items_of
  items_of-some e s = refl

  pub items_of-nil : items_of {X = ℕ × V} [] ≡ []
  unfolding items_of
  items_of-nil = refl

  -- buckets none of which is occupied
  pub items_of-free : (s : List (Option (ℕ × V))) → ((b : ℕ) → slot_at s b ≡ None) → items_of s ≡ []
  items_of-free [] free = items_of-nil
  items_of-free (None ∷ s) free = items_of-none s ∙ items_of-free s (λ b. free (suc b))
  items_of-free (Some e ∷ s) free = absurd (let wrong : Some e ≡ None = free 0 in cc)

  -- a key that is found stands in a bucket
  pub bucket_of_found : (s : List (Option (ℕ × V))) (q : ℕ) (v : V) → find nat_cmp q (items_of s) ≡ Some v → (b : ℕ) × (b < length s) × (slot_at s b ≡ Some (q, v))
  unfolding items_of
  bucket_of_found [] q v is = absurd (let wrong : None ≡ Some v = is in cc)
  bucket_of_found (None ∷ s) q v is = let r = bucket_of_found s q v is in (r.0 + 1, omega (arith, r.1), rw add-one r.2)
  bucket_of_found (Some (k, w) ∷ s) q v is = elim (cases_eq q k) [
    | inl e ↦ (0, omega arith, ap Some (λ i. (sym e i, same_Some w v (sym (find_here q k w (flat_map option_to_list s) e) ∙ is) i)))
    | inr ne ↦ let r = bucket_of_found s q v (sym (find_later q k w (flat_map option_to_list s) ne) ∙ is) in (r.0 + 1, omega (arith, r.1), rw add-one r.2)
  ]

  -- a key in a bucket is found
  pub found_of_bucket : (s : List (Option (ℕ × V))) (b q : ℕ) (v : V) → slot_at s b ≡ Some (q, v) → is_some (find nat_cmp q (items_of s)) ≡ true
  unfolding items_of
  found_of_bucket [] b q v is = absurd (let wrong : None ≡ Some (q, v) = is in cc)
  found_of_bucket (None ∷ s) zero q v is = absurd (cc)
  found_of_bucket (None ∷ s) (suc b) q v is = found_of_bucket s b q v is
  found_of_bucket (Some (k, w) ∷ s) zero q v is = let e = (some_pair_parts k q w v is).0 in ap is_some (find_here q k w (flat_map option_to_list s) (sym e))
  found_of_bucket (Some (k, w) ∷ s) (suc b) q v is = elim (cases_eq q k) [
    | inl e ↦ ap is_some (find_here q k w (flat_map option_to_list s) e)
    | inr ne ↦ ap is_some (find_later q k w (flat_map option_to_list s) ne) ∙ found_of_bucket s b q v is
  ]

  -- ---- the key in a bucket
  pub key_of_slot : (s : List (Option (ℕ × V))) (b q : ℕ) (v : V) → slot_at s b ≡ Some (q, v) → key_at s b ≡ Some q
  key_of_slot s b q v is = ap (option_map (λ e. e.0)) is

  item_of_key : (o : Option (ℕ × V)) (q : ℕ) → option_map (λ e. e.0) o ≡ Some q → (v : V) × (o ≡ Some (q, v))
  item_of_key None q is = absurd (let wrong : None ≡ Some q = is in cc)
  item_of_key (Some (k, v)) q is = let e : k ≡ q = same_Some k q is in (v, ap (λ x. Some (x, v)) e)

  pub slot_of_key : (s : List (Option (ℕ × V))) (b q : ℕ) → key_at s b ≡ Some q → (v : V) × (slot_at s b ≡ Some (q, v))
  slot_of_key s b q is = item_of_key (slot_at s b) q is

  is_some_mapped : (o : Option (ℕ × V)) → is_some (option_map (λ e. e.0) o) ≡ is_some o
  is_some_mapped None = refl
  is_some_mapped (Some e) = refl

  pub is_some-key_at : (s : List (Option (ℕ × V))) (b : ℕ) → is_some (key_at s b) ≡ is_some (slot_at s b)
  is_some-key_at s b = is_some_mapped (slot_at s b)

  pub inside_of_some : (s : List (Option (ℕ × V))) (b : ℕ) → IsSome (slot_at s b) → b < length s
  inside_of_some s b some = elim (cases_lt b (length s)) [
    | inl lt ↦ lt
    | inr past ↦ absurd (false≢true (sym (ap is_some (get_or_past s b None past)) ∙ some))
  ]

  -- ---- tables in which no key stands twice
  abbrev pub Once : List (Option (ℕ × V)) → Type 0
  Once s = (a b key : ℕ) → key_at s a ≡ Some key → key_at s b ≡ Some key → a ≡ b

  pub found_where : (s : List (Option (ℕ × V))) (b q : ℕ) (v : V) → Once s → slot_at s b ≡ Some (q, v) → find nat_cmp q (items_of s) ≡ Some v
  found_where s b q v once is = known (find nat_cmp q (items_of s)) refl where
    known : (o : Option V) → find nat_cmp q (items_of s) ≡ o → o ≡ Some v
    known None e = absurd (false≢true (sym (ap is_some e) ∙ found_of_bucket s b q v is))
    known (Some w) e =
        let r = bucket_of_found s q w e in
        let same : r.0 ≡ b = once r.0 b q (key_of_slot s r.0 q w r.2) (key_of_slot s b q v is) in
        let both : Some (q, w) ≡ Some (q, v) = sym r.2 ∙ ap (slot_at s) same ∙ is in
        ap Some (ap (λ (e : ℕ × V). e.1) (same_Some (q, w) (q, v) both))

  pub not_found : (s : List (Option (ℕ × V))) (q : ℕ) → ((b : ℕ) → key_at s b ≢ Some q) → find nat_cmp q (items_of s) ≡ None
  not_found s q absent = known (find nat_cmp q (items_of s)) refl where
    known : (o : Option V) → find nat_cmp q (items_of s) ≡ o → o ≡ None
    known None e = refl
    known (Some w) e = let r = bucket_of_found s q w e in absurd (absent r.0 (key_of_slot s r.0 q w r.2))

  -- the item of key q that stands in s stands in t
  abbrev pub WithinAt : ℕ → List (Option (ℕ × V)) → List (Option (ℕ × V)) → Type 0
  WithinAt q s t = (b : ℕ) (v : V) → slot_at s b ≡ Some (q, v) → (c : ℕ) × (slot_at t c ≡ Some (q, v))

  pub same_found : (s t : List (Option (ℕ × V))) (q : ℕ) → Once t → WithinAt q s t → WithinAt q t s → find nat_cmp q (items_of t) ≡ find nat_cmp q (items_of s)
  same_found s t q once there back = known (find nat_cmp q (items_of s)) refl where
    known : (o : Option V) → find nat_cmp q (items_of s) ≡ o → find nat_cmp q (items_of t) ≡ o
    known (Some v) e =
        let r = bucket_of_found s q v e in
        let at = there r.0 v r.2 in
        found_where t at.0 q v once at.1
    known None e = not_found t q (λ b is.
        let v = slot_of_key t b q is in
        let at = back b v.0 v.1 in
        false≢true (sym (ap is_some e) ∙ found_of_bucket s at.0 q v.0 at.1))

-- ---- one bucket changed, and two exchanged
module _ {V : Type 0} where
  length-items_of-cons : (o : Option (ℕ × V)) (s : List (Option (ℕ × V))) → length (items_of (o ∷ s)) ≡ cond (is_some o) 1 0 + length (items_of s)
  length-items_of-cons None s = ap length (items_of-none s) ∙ sym (zero-add (length (items_of s)))
  length-items_of-cons (Some e) s = ap length (items_of-some e s) ∙ omega arith

  -- how the number of items changes with one bucket
  pub length-items_of-set : (s : List (Option (ℕ × V))) (b : ℕ) (o : Option (ℕ × V)) → b < length s
      → length (items_of (set s b o)) + cond (is_some (slot_at s b)) 1 0 ≡ length (items_of s) + cond (is_some o) 1 0
  length-items_of-set [] b o lt = absurd (omega arith)
  length-items_of-set (x ∷ s) zero o lt = omega (arith, length-items_of-cons o s, length-items_of-cons x s)
  length-items_of-set (x ∷ s) (suc b) o lt =
      omega (arith, length-items_of-cons x (set s b o), length-items_of-cons x s, length-items_of-set s b o (omega arith))

  pub length-items_of-le : (s : List (Option (ℕ × V))) → length (items_of s) ≤ length s
  length-items_of-le [] = let e = ap length (items_of-nil {V = V}) in omega (arith, e)
  length-items_of-le (None ∷ s) = omega (arith, length-items_of-cons None s, length-items_of-le s)
  length-items_of-le (Some e ∷ s) = omega (arith, length-items_of-cons (Some e) s, length-items_of-le s)

  -- a table with no free bucket has as many items as buckets
  pub length-items_of-full : (s : List (Option (ℕ × V))) → ((b : ℕ) → b < length s → IsSome (slot_at s b)) → length (items_of s) ≡ length s
  length-items_of-full [] full = ap length (items_of-nil {V = V})
  length-items_of-full (None ∷ s) full = absurd (false≢true (full 0 (omega arith)))
  length-items_of-full (Some e ∷ s) full =
      let rest = length-items_of-full s (λ b lt. full (suc b) (omega arith)) in
      omega (arith, length-items_of-cons (Some e) s, rest)

  module _ (s : List (Option (ℕ × V))) (a b : ℕ) (la : a < length s) (lb : b < length s) (apart : a ≢ b) where
    pub exchanged_at_second : slot_at (exchanged s a b) b ≡ slot_at s a
    exchanged_at_second = get_or-set_same (set s a (slot_at s b)) b (slot_at s a) None (omega (arith, length-set s a (slot_at s b)))

    pub exchanged_at_first : slot_at (exchanged s a b) a ≡ slot_at s b
    exchanged_at_first =
        get_or-set_other (set s a (slot_at s b)) b a (slot_at s a) None apart ∙ get_or-set_same s a (slot_at s b) None la

    pub exchanged_elsewhere : (c : ℕ) → c ≢ a → c ≢ b → slot_at (exchanged s a b) c ≡ slot_at s c
    exchanged_elsewhere c na nb =
        get_or-set_other (set s a (slot_at s b)) b c (slot_at s a) None nb ∙ get_or-set_other s a c (slot_at s b) None na

    -- the bucket, before the exchange, of the item in bucket c after it, and the other way round
    pub partner : ℕ → ℕ
    partner c = cond (eqb c a) b (cond (eqb c b) a c)

    pub slot_at-exchanged : (c : ℕ) → slot_at (exchanged s a b) c ≡ slot_at s (partner c)
    unfolding partner
    slot_at-exchanged c = elim (cases_eq c a) [
      | inl e ↦ ap (slot_at (exchanged s a b)) e ∙ exchanged_at_first ∙ ap (slot_at s) (sym (cond-true (eqb c a) _ _ (eq-eqb c a e)))
      | inr na ↦ elim (cases_eq c b) [
        | inl e ↦
            ap (slot_at (exchanged s a b)) e ∙ exchanged_at_second
            ∙ ap (slot_at s) (sym (cond-false (eqb c a) _ _ (ne_eqb c a na) ∙ cond-true (eqb c b) _ _ (eq-eqb c b e)))
        | inr nb ↦
            exchanged_elsewhere c na nb
            ∙ ap (slot_at s) (sym (cond-false (eqb c a) _ _ (ne_eqb c a na) ∙ cond-false (eqb c b) _ _ (ne_eqb c b nb)))
      ]
    ]

    pub partner-first : partner a ≡ b
    unfolding partner
    partner-first = cond-true (eqb a a) _ _ (eq-eqb a a refl)

    pub partner-second : partner b ≡ a
    unfolding partner
    partner-second = cond-false (eqb b a) _ _ (ne_eqb b a (λ e. apart (sym e))) ∙ cond-true (eqb b b) _ _ (eq-eqb b b refl)

    pub partner-other : (c : ℕ) → c ≢ a → c ≢ b → partner c ≡ c
    unfolding partner
    partner-other c na nb = cond-false (eqb c a) _ _ (ne_eqb c a na) ∙ cond-false (eqb c b) _ _ (ne_eqb c b nb)

    pub partner-partner : (c : ℕ) → partner (partner c) ≡ c
    partner-partner c = elim (cases_eq c a) [
      | inl e ↦ ap (λ x. partner (partner x)) e ∙ ap partner partner-first ∙ partner-second ∙ sym e
      | inr na ↦ elim (cases_eq c b) [
        | inl e ↦ ap (λ x. partner (partner x)) e ∙ ap partner partner-second ∙ partner-first ∙ sym e
        | inr nb ↦ ap partner (partner-other c na nb) ∙ partner-other c na nb
      ]
    ]

    pub Once-exchanged : Once s → Once (exchanged s a b)
    Once-exchanged once c d key kc kd =
        let pc = sym (ap (option_map (λ e. e.0)) (slot_at-exchanged c)) ∙ kc in
        let pd = sym (ap (option_map (λ e. e.0)) (slot_at-exchanged d)) ∙ kd in
        let same = once (partner c) (partner d) key pc pd in
        sym (partner-partner c) ∙ ap partner same ∙ partner-partner d

    pub WithinAt-exchanged : (q : ℕ) → WithinAt q s (exchanged s a b)
    WithinAt-exchanged q c v is = (partner c, slot_at-exchanged (partner c) ∙ ap (slot_at s) (partner-partner c) ∙ is)

    pub exchanged-WithinAt : (q : ℕ) → WithinAt q (exchanged s a b) s
    exchanged-WithinAt q c v is = (partner c, sym (slot_at-exchanged c) ∙ is)

    pub length-exchanged : length (exchanged s a b) ≡ length s
    length-exchanged = length-set (set s a (slot_at s b)) b (slot_at s a) ∙ length-set s a (slot_at s b)

    pub length-items_of-exchanged : length (items_of (exchanged s a b)) ≡ length (items_of s)
    length-items_of-exchanged =
        let one = length-items_of-set s a (slot_at s b) la in
        let two = length-items_of-set (set s a (slot_at s b)) b (slot_at s a) (omega (arith, length-set s a (slot_at s b))) in
        let still : slot_at (set s a (slot_at s b)) b ≡ slot_at s b = get_or-set_other s a b (slot_at s b) None (λ e. apart (sym e)) in
        let count = ap {B = ℕ} (λ o. cond (is_some o) 1 0) still in
        omega (arith, one, two, count)

-- ---- one bucket set
module _ {V : Type 0} (s : List (Option (ℕ × V))) (b : ℕ) (o : Option (ℕ × V)) (lb : b < length s) where
  pub slot_at-set_same : slot_at (set s b o) b ≡ o
  slot_at-set_same = get_or-set_same s b o None lb

  pub slot_at-set_other : (c : ℕ) → c ≢ b → slot_at (set s b o) c ≡ slot_at s c
  slot_at-set_other c ne = get_or-set_other s b c o None ne

  -- an item stays if its key is neither the old item's nor the new item's
  pub WithinAt-set : (q : ℕ) → ((v : V) → slot_at s b ≢ Some (q, v)) → WithinAt q s (set s b o)
  WithinAt-set q other c v is = elim (cases_eq c b) [
    | inl e ↦ absurd (other v (sym (ap (slot_at s) e) ∙ is))
    | inr ne ↦ (c, slot_at-set_other c ne ∙ is)
  ]

  pub set-WithinAt : (q : ℕ) → ((v : V) → o ≢ Some (q, v)) → WithinAt q (set s b o) s
  set-WithinAt q other c v is = elim (cases_eq c b) [
    | inl e ↦ absurd (other v (sym slot_at-set_same ∙ sym (ap (slot_at (set s b o)) e) ∙ is))
    | inr ne ↦ (c, sym (slot_at-set_other c ne) ∙ is)
  ]

  -- no key stands twice if the new key stands nowhere else
  pub Once-set : Once s → ((q c : ℕ) → c ≢ b → option_map (λ e. e.0) o ≡ Some q → key_at s c ≢ Some q) → Once (set s b o)
  Once-set once new c d key kc kd = elim (cases_eq c b) [
    | inl ec ↦ elim (cases_eq d b) [
      | inl ed ↦ ec ∙ sym ed
      | inr nd ↦
          let at : option_map (λ e. e.0) o ≡ Some key = sym (ap (option_map (λ e. e.0)) (ap (slot_at (set s b o)) ec ∙ slot_at-set_same)) ∙ kc in
          absurd (new key d nd at (sym (ap (option_map (λ e. e.0)) (slot_at-set_other d nd)) ∙ kd))
    ]
    | inr nc ↦ elim (cases_eq d b) [
      | inl ed ↦
          let at : option_map (λ e. e.0) o ≡ Some key = sym (ap (option_map (λ e. e.0)) (ap (slot_at (set s b o)) ed ∙ slot_at-set_same)) ∙ kd in
          absurd (new key c nc at (sym (ap (option_map (λ e. e.0)) (slot_at-set_other c nc)) ∙ kc))
      | inr nd ↦ once c d key (sym (ap (option_map (λ e. e.0)) (slot_at-set_other c nc)) ∙ kc) (sym (ap (option_map (λ e. e.0)) (slot_at-set_other d nd)) ∙ kd)
    ]
  ]

-- the items that are found after a key went into a free bucket, got another value, or was removed
module _ {V : Type 0} (s : List (Option (ℕ × V))) (b k : ℕ) (once : Once s) where
  apart_key : (q : ℕ) (v w : V) → q ≢ k → ◌≡◌ {A = Option (ℕ × V)} (Some (k, w)) (Some (q, v)) → ⊥
  apart_key q v w ne is = ne (sym (some_pair_parts k q w v is).0)

  pub find-set_new : (v : V) → b < length s → slot_at s b ≡ None → ((c : ℕ) → key_at s c ≢ Some k)
      → (q : ℕ) → find nat_cmp q (items_of (set s b (Some (k, v)))) ≡ cond (eqb q k) (Some v) (find nat_cmp q (items_of s))
  find-set_new v lb free absent q =
      let once_then : Once (set s b (Some (k, v))) = Once-set s b (Some (k, v)) lb once (λ p c ne is at. absent c (at ∙ sym is)) in
      elim (cases_eq q k) [
        | inl e ↦
            ap (λ x. find nat_cmp x (items_of (set s b (Some (k, v))))) e
            ∙ found_where (set s b (Some (k, v))) b k v once_then (slot_at-set_same s b (Some (k, v)) lb)
            ∙ sym (cond-true (eqb q k) _ _ (eq-eqb q k e))
        | inr ne ↦
            same_found s (set s b (Some (k, v))) q once_then
            (WithinAt-set s b (Some (k, v)) lb q (λ w is. let wrong : None ≡ Some (q, w) = sym free ∙ is in cc))
            (set-WithinAt s b (Some (k, v)) lb q (λ w. apart_key q w v ne))
            ∙ sym (cond-false (eqb q k) _ _ (ne_eqb q k ne))
      ]

  pub find-set_value : (v w : V) → b < length s → slot_at s b ≡ Some (k, w)
      → (q : ℕ) → find nat_cmp q (items_of (set s b (Some (k, v)))) ≡ cond (eqb q k) (Some v) (find nat_cmp q (items_of s))
  find-set_value v w lb is q =
      let old : key_at s b ≡ Some k = key_of_slot s b k w is in
      let once_then : Once (set s b (Some (k, v))) = Once-set s b (Some (k, v)) lb once (λ p c ne at has. ne (once c b k (has ∙ sym at) old)) in
      elim (cases_eq q k) [
        | inl e ↦
            ap (λ x. find nat_cmp x (items_of (set s b (Some (k, v))))) e
            ∙ found_where (set s b (Some (k, v))) b k v once_then (slot_at-set_same s b (Some (k, v)) lb)
            ∙ sym (cond-true (eqb q k) _ _ (eq-eqb q k e))
        | inr ne ↦
            same_found s (set s b (Some (k, v))) q once_then
            (WithinAt-set s b (Some (k, v)) lb q (λ u has. apart_key q u w ne (sym is ∙ has)))
            (set-WithinAt s b (Some (k, v)) lb q (λ u. apart_key q u v ne))
            ∙ sym (cond-false (eqb q k) _ _ (ne_eqb q k ne))
      ]

  pub find-set_none : (w : V) → b < length s → slot_at s b ≡ Some (k, w)
      → (q : ℕ) → find nat_cmp q (items_of (set s b None)) ≡ cond (eqb q k) None (find nat_cmp q (items_of s))
  find-set_none w lb is q =
      let old : key_at s b ≡ Some k = key_of_slot s b k w is in
      let once_then : Once (set s b None) = Once-set s b None lb once (λ p c ne at has. let wrong : None ≡ Some p = at in cc) in
      elim (cases_eq q k) [
        | inl e ↦
            ap (λ x. find nat_cmp x (items_of (set s b None))) e
            ∙ not_found (set s b None) k (λ c has. elim (cases_eq c b) [
              | inl same ↦
                  let wrong : None ≡ Some k = sym (ap (option_map (λ e. e.0)) (ap (slot_at (set s b None)) same ∙ slot_at-set_same s b None lb)) ∙ has in
                  cc
              | inr other ↦ other (once c b k (sym (ap (option_map (λ e. e.0)) (slot_at-set_other s b None lb c other)) ∙ has) old)
            ])
            ∙ sym (cond-true (eqb q k) _ _ (eq-eqb q k e))
        | inr ne ↦
            same_found s (set s b None) q once_then
            (WithinAt-set s b None lb q (λ u has. apart_key q u w ne (sym is ∙ has)))
            (set-WithinAt s b None lb q (λ u wrong. cc))
            ∙ sym (cond-false (eqb q k) _ _ (ne_eqb q k ne))
      ]
