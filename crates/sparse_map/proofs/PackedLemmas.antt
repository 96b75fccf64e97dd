-- The packed law through a change of the table, and the two walks round it.
use Rattle.std.proofs.Common.{◌≡◌, ◌≢◌, ℕ, ◌+◌, ◌-◌, ◌<◌, ◌≤◌, List, Option, Some, None, false, length, set, sym, ap, ◌∙◌, subst, inl, inr, arith}
use Rattle.std.specs.Prelude.{is_some, IsSome, option_map}
use Rattle.std.proofs.lemmas.Bool.{cases_lt, cases_eq, false≢true}
use Rattle.sparse_map.specs.Home.{home, steps}
use Rattle.sparse_map.specs.Slots.{slot_at, key_at, items_of}
use Rattle.sparse_map.specs.Packed.{IsPacked}
use Rattle.sparse_map.specs.Probe.{IsFreeFor, IsFirstFree}
use Rattle.sparse_map.proofs.RoundLemmas.{next, next_below, steps_self, steps_below, steps_same, steps_near, steps_at_most, steps_past}
use Rattle.sparse_map.proofs.SlotLemmas.{Once, Once-set, slot_at-set_same, slot_at-set_other, is_some-key_at, inside_of_some, length-items_of-full}

module _ {V : Type 0} where
  pub key_inside : (s : List (Option (ℕ × V))) (b k : ℕ) → key_at s b ≡ Some k → b < length s
  key_inside s b k is = inside_of_some s b (sym (is_some-key_at s b) ∙ ap is_some is)

  -- the law at a number of buckets
  pub record PackedAt (n : ℕ) (s : List (Option (ℕ × V))) : Type 0 where
    pub once : Once s
    pub reached : (b key q : ℕ) → key_at s b ≡ Some key → q < n → steps n (home n key) q ≤ steps n (home n key) b → IsSome (key_at s q)

  pub PackedAt-from : (n : ℕ) (s : List (Option (ℕ × V))) → length s ≡ n → IsPacked s → PackedAt n s
  PackedAt-from n s long packed = subst (λ m. PackedAt m s) long (record { once = packed.once; reached = packed.reached })

  pub PackedAt-to : (n : ℕ) (s : List (Option (ℕ × V))) → length s ≡ n → PackedAt n s → IsPacked s
  PackedAt-to n s long packed =
      let at : PackedAt (length s) s = subst (λ m. PackedAt m s) (sym long) packed in
      record { once = at.once; reached = at.reached }

  key_at-set_same : (s : List (Option (ℕ × V))) (b : ℕ) (o : Option (ℕ × V)) → b < length s → key_at (set s b o) b ≡ option_map (λ e. e.0) o
  key_at-set_same s b o lb = ap (option_map (λ e. e.0)) (slot_at-set_same s b o lb)

  key_at-set_other : (s : List (Option (ℕ × V))) (b : ℕ) (o : Option (ℕ × V)) (c : ℕ) → b < length s → c ≢ b → key_at (set s b o) c ≡ key_at s c
  key_at-set_other s b o c lb ne = ap (option_map (λ e. e.0)) (slot_at-set_other s b o lb c ne)

  -- a bucket that stays occupied
  still_some : (s : List (Option (ℕ × V))) (b : ℕ) (e : ℕ × V) (q : ℕ) → b < length s → IsSome (key_at s q) → IsSome (key_at (set s b (Some e)) q)
  still_some s b e q lb some = elim (cases_eq q b) [
    | inl same ↦ ap (λ x. is_some (key_at (set s b (Some e)) x)) same ∙ ap is_some (key_at-set_same s b (Some e) lb)
    | inr ne ↦ ap is_some (key_at-set_other s b (Some e) q lb ne) ∙ some
  ]

  -- a new key at the first free bucket on its way
  pub packed-set_new : (n : ℕ) (s : List (Option (ℕ × V))) (b k : ℕ) (v : V) → length s ≡ n → home n k < n → PackedAt n s → IsFreeFor s k b → PackedAt n (set s b (Some (k, v)))
  packed-set_new n s b k v long home_in packed place =
      let lb = place.inside in
      let way : (q : ℕ) → q < n → steps n (home n k) q < steps n (home n k) b → IsSome (key_at s q) =
      subst (λ m. (q : ℕ) → q < m → steps m (home m k) q < steps m (home m k) b → IsSome (key_at s q)) long place.reached in
      record {
        once = Once-set s b (Some (k, v)) lb packed.once (λ p c ne is at. place.absent c (at ∙ sym is));
        reached = λ c key q has inside on. elim (cases_eq c b) [
          | inl e ↦
              let key_is : Some key ≡ Some k = sym has ∙ ap (key_at (set s b (Some (k, v)))) e ∙ key_at-set_same s b (Some (k, v)) lb in
              let same : key ≡ k = cc in
              let on_way : steps n (home n k) q ≤ steps n (home n k) b = subst (λ x. steps n (home n x) q ≤ steps n (home n x) b) same (subst (λ x. steps n (home n key) q ≤ steps n (home n key) x) e on) in
              elim (cases_lt (steps n (home n k) q) (steps n (home n k) b)) [
                | inl less ↦ still_some s b (k, v) q lb (way q inside less)
                | inr more ↦
                    let at : q ≡ b = steps_same n (home n k) q b home_in inside (subst (λ m. b < m) long lb) (omega arith) in
                    ap (λ x. is_some (key_at (set s b (Some (k, v))) x)) at ∙ ap is_some (key_at-set_same s b (Some (k, v)) lb)
              ]
          | inr ne ↦ still_some s b (k, v) q lb (packed.reached c key q (sym (key_at-set_other s b (Some (k, v)) c lb ne) ∙ has) inside on)
        ];
      }

  -- another value for a key
  pub packed-set_value : (n : ℕ) (s : List (Option (ℕ × V))) (b k : ℕ) (v : V) → PackedAt n s → key_at s b ≡ Some k → PackedAt n (set s b (Some (k, v)))
  packed-set_value n s b k v packed is =
      let lb = key_inside s b k is in
      let same : (c : ℕ) → key_at (set s b (Some (k, v))) c ≡ key_at s c = λ c. elim (cases_eq c b) [
        | inl e ↦ ap (key_at (set s b (Some (k, v)))) e ∙ key_at-set_same s b (Some (k, v)) lb ∙ sym is ∙ ap (key_at s) (sym e)
        | inr ne ↦ key_at-set_other s b (Some (k, v)) c lb ne
      ] in
      record {
        once = λ c d key kc kd. packed.once c d key (sym (same c) ∙ kc) (sym (same d) ∙ kd);
        reached = λ c key q has inside on. ap is_some (same q) ∙ packed.reached c key q (sym (same c) ∙ has) inside on;
      }

-- ---- a walk round the table: `passed` buckets from `from` on are as P says, and `bucket` is next
pub record Passing (n : ℕ) (P : ℕ → Type 0) (from bucket passed : ℕ) : Type 0 where
  pub inside : bucket < n
  pub walked : passed < n → steps n from bucket ≡ passed
  pub all : (q : ℕ) → q < n → steps n from q < passed → P q

pub passing_start : (n : ℕ) (P : ℕ → Type 0) (from : ℕ) → from < n → Passing n P from from 0
passing_start n P from inside =
    record { inside = inside; walked = λ _. steps_self n from; all = λ q lq less. absurd (omega arith) }

module _ (n : ℕ) (P : ℕ → Type 0) (from bucket passed : ℕ) (start : from < n) (walk : Passing n P from bucket passed) (more : passed < n) where
  -- the buckets up to r, but without r
  up_to : (r : ℕ) → bucket ≤ r → r ≤ n → ((q : ℕ) → bucket ≤ q → q < r → P q) → (q : ℕ) → q < n → steps n from q < passed + (r - bucket) → P q
  up_to r le lr here q lq less = elim (cases_lt (steps n from q) passed) [
    | inl before ↦ walk.all q lq before
    | inr later ↦
        let at = walk.walked more in
        let near = steps_near n from bucket (r - bucket) q start (omega arith) lq (omega (arith, at, later)) (omega (arith, at, less)) in
        here q near.0 (omega (arith, near.1))
  ]

  on_way : (r : ℕ) → bucket ≤ r → r < n → ((q : ℕ) → bucket ≤ q → q < r → P q) → (q : ℕ) → q < n → steps n from q < steps n from r → P q
  on_way r le lr here q lq less =
      let at = walk.walked more in
      let far = steps_at_most n from bucket r start le in
      up_to r le (omega arith) here q lq (omega (arith, at, far, less))

  pub passing_more : (l : ℕ) → bucket ≤ l → l < n → ((q : ℕ) → bucket ≤ q → q < l + 1 → P q) → Passing n P from (next n l) (passed + (l + 1 - bucket))
  passing_more l le ll here =
      let at = walk.walked more in
      record {
        inside = next_below n l ll;
        walked = λ short. let on = steps_past n from bucket l start le ll (omega (arith, at, short)) in omega (arith, on, at);
        all = up_to (l + 1) (omega arith) (omega arith) here;
      }

module _ {V : Type 0} where
  -- the bucket is occupied, and by another key
  abbrev pub HasOther : List (Option (ℕ × V)) → ℕ → ℕ → Type 0
  HasOther s key q = IsSome (key_at s q) × (key_at s q ≢ Some key)

  pub passing_free : (n : ℕ) (s : List (Option (ℕ × V))) (from bucket passed : ℕ) → from < n → Passing n (λ q. IsSome (key_at s q)) from bucket passed → passed < n
      → (r : ℕ) → length s ≡ n → bucket ≤ r → r < n → slot_at s r ≡ None → ((q : ℕ) → bucket ≤ q → q < r → IsSome (key_at s q)) → IsFirstFree s from r
  passing_free n s from bucket passed start walk more r long le lr free here =
      record {
        inside = subst (λ m. r < m) (sym long) lr;
        free = free;
        passed = subst (λ m. (q : ℕ) → q < m → steps m from q < steps m from r → IsSome (key_at s q)) (sym long)
            (on_way n (λ q. IsSome (key_at s q)) from bucket passed start walk more r le lr here);
      }

  -- a look-up that comes to a free bucket
  pub probing_free : (n : ℕ) (s : List (Option (ℕ × V))) (key bucket passed : ℕ) → home n key < n → Passing n (HasOther s key) (home n key) bucket passed → passed < n
      → (r : ℕ) → length s ≡ n → PackedAt n s → bucket ≤ r → r < n → slot_at s r ≡ None → ((q : ℕ) → bucket ≤ q → q < r → HasOther s key q) → IsFreeFor s key r
  probing_free n s key bucket passed start walk more r long packed le lr free here =
      let others = on_way n (HasOther s key) (home n key) bucket passed start walk more r le lr here in
      record {
        inside = subst (λ m. r < m) (sym long) lr;
        free = free;
        reached = subst (λ m. (q : ℕ) → q < m → steps m (home m key) q < steps m (home m key) r → IsSome (key_at s q)) (sym long) (λ q lq less. (others q lq less).0);
        absent = λ q has.
            let lq : q < n = subst (λ m. q < m) long (key_inside s q key has) in
            elim (cases_lt (steps n (home n key) q) (steps n (home n key) r)) [
              | inl less ↦ (others q lq less).1 has
              | inr later ↦
                  let none : is_some (key_at s r) ≡ false = is_some-key_at s r ∙ ap is_some free in
                  false≢true (sym none ∙ packed.reached q key r has lr later)
            ];
      }

  pub passing_full : (n : ℕ) (P : ℕ → Type 0) (s : List (Option (ℕ × V))) (from bucket passed : ℕ) → ((q : ℕ) → P q → IsSome (key_at s q)) → length s ≡ n → from < n → n ≤ passed → length (items_of s) < n → Passing n P from bucket passed → ⊥
  passing_full n P s from bucket passed some long start end room walk =
      let full = length-items_of-full s (λ b lb.
      let inside : b < n = subst (λ m. b < m) long lb in
      let below = steps_below n from b start inside in
      sym (is_some-key_at s b) ∙ some b (walk.all b inside (omega (arith, below, end)))) in
      omega arith

  -- no bucket has the key: it would go into the first free bucket from its home on
  pub free_for_new : (s : List (Option (ℕ × V))) (key b : ℕ) → IsFirstFree s (home (length s) key) b → ((q : ℕ) → key_at s q ≢ Some key) → IsFreeFor s key b
  free_for_new s key b first absent = record { inside = first.inside; free = first.free; reached = first.passed; absent = absent }
