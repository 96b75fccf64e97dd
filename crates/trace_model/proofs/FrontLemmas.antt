-- A write line that was cut: its first blocks and the block writes before it tell all.
use Rattle.std.proofs.Common.{◌≡◌, ◌≢◌, ◌⊎◌, refl, ℕ, zero, suc, ◌+◌, ◌-◌, ◌<◌, ◌≤◌, ◌==◌, ◌||◌, arith, inl, inr, true, false, cond, List, drop, ap, sym, ◌∙◌, subst, eqb-true}
use Rattle.std.proofs.lemmas.Bool.{cases_Bool, false≢true}
use Rattle.std.proofs.lemmas.Bool.Decides.{nat_tests}
use Rattle.ft_base.specs.PlainDisk.{BlockWrite, PlainDisk}
use Rattle.ft_base.specs.Pattern.{pat}
use Rattle.trace_model.specs.Run.{disk_written, with_blocks}
use Rattle.trace_model.specs.Lost.{IsFrom, IsFront, IsLeastLost, IsRightBeside, LooksLost, is_written}
use Rattle.trace_model.proofs.LossLemmas.{drop_own, drop_past}

-- at each address of a request its block is there
in_front : (lba tag n i : ℕ) (ws : List BlockWrite) → i < n → disk_written (with_blocks lba tag n ws) (lba + i) ≡ pat (lba + i) tag
in_front lba tag zero i ws within = absurd (omega arith)
in_front lba tag (suc n) i ws within = elim (cases_Bool (lba + n == lba + i)) [
  | inl t ↦ ap (λ b. cond b (pat (lba + n) tag) (disk_written (with_blocks lba tag n ws) (lba + i))) t ∙ ap (λ a. pat a tag) (eqb-true (lba + n) (lba + i) t)
  | inr f ↦ ap (λ b. cond b (pat (lba + n) tag) (disk_written (with_blocks lba tag n ws) (lba + i))) f ∙ in_front lba tag n i ws (below f)
]
  where
    below : (lba + n == lba + i) ≡ false → i < n
    below f = by (order i n)
      where
        order : (x y : ℕ) → (x < y) ⊎ (y ≤ x)
        order x zero = inr (omega arith)
        order zero (suc y) = inl (omega arith)
        order (suc x) (suc y) = elim (order x y) [ inl l ↦ inl (omega arith) | inr l ↦ inr (omega arith) ]

        by : (i < n) ⊎ (n ≤ i) → i < n
        by (inl l) = l
        by (inr l) = let same : i ≡ n = omega arith in let t : (lba + n == lba + i) ≡ true = grind (arith, nat_tests) in absurd (false≢true (sym f ∙ t))

named_front : (lba tag n i : ℕ) (ws : List BlockWrite) → i < n → is_written (with_blocks lba tag n ws) (lba + i) ≡ true
named_front lba tag zero i ws within = absurd (omega arith)
named_front lba tag (suc n) i ws within = elim (cases_Bool (lba + n == lba + i)) [
  | inl t ↦ ap (λ b. b || is_written (with_blocks lba tag n ws) (lba + i)) t
  | inr f ↦ ap (λ b. b || is_written (with_blocks lba tag n ws) (lba + i)) f ∙ named_front lba tag n i ws (below f)
]
  where
    below : (lba + n == lba + i) ≡ false → i < n
    below f = by (order i n)
      where
        order : (x y : ℕ) → (x < y) ⊎ (y ≤ x)
        order x zero = inr (omega arith)
        order zero (suc y) = inl (omega arith)
        order (suc x) (suc y) = elim (order x y) [ inl l ↦ inl (omega arith) | inr l ↦ inr (omega arith) ]

        by : (i < n) ⊎ (n ≤ i) → i < n
        by (inl l) = l
        by (inr l) = let same : i ≡ n = omega arith in let t : (lba + n == lba + i) ≡ true = grind (arith, nat_tests) in absurd (false≢true (sym f ∙ t))

-- an address is one of the request's, or its block is as it was before the request
which : (lba tag n : ℕ) (ws : List BlockWrite) (a : ℕ) → IsFrom lba n a ⊎ ((IsFrom lba n a → ⊥) × (is_written (with_blocks lba tag n ws) a ≡ is_written ws a) × (disk_written (with_blocks lba tag n ws) a ≡ disk_written ws a))
which lba tag zero ws a = inr (λ is. absurd (let low = is.1 in omega arith), refl, refl)
which lba tag (suc n) ws a = elim (cases_Bool (lba + n == a)) [
  | inl t ↦ inl (n, (let l : n < suc n = omega arith in l), sym (eqb-true (lba + n) a t))
  | inr f ↦ elim (which lba tag n ws a) [
    | inl is ↦ inl (is.0, (let low = is.1 in omega arith), is.2)
    | inr other ↦ inr (
      λ is. not_here f other.0 is,
      ap (λ b. b || is_written (with_blocks lba tag n ws) a) f ∙ other.1,
      ap (λ b. cond b (pat (lba + n) tag) (disk_written (with_blocks lba tag n ws) a)) f ∙ other.2,
    )
  ]
]
  where
    not_here : (lba + n == a) ≡ false → (IsFrom lba n a → ⊥) → IsFrom lba (suc n) a → ⊥
    not_here f none is = by (order is.0 n)
      where
        order : (x y : ℕ) → (x < y) ⊎ (y ≤ x)
        order x zero = inr (omega arith)
        order zero (suc y) = inl (omega arith)
        order (suc x) (suc y) = elim (order x y) [ inl l ↦ inl (omega arith) | inr l ↦ inr (omega arith) ]

        by : (is.0 < n) ⊎ (n ≤ is.0) → ⊥
        by (inl l) = none (is.0, l, is.2)
        by (inr l) =
            let low = is.1 in
            let same : is.0 ≡ n = omega arith in
            let here : lba + n ≡ a = ap (λ k. lba + k) (sym same) ∙ sym is.2 in
            let t : (lba + n == a) ≡ true = grind (arith, nat_tests) in
            false≢true (sym f ∙ t)

module _ (lba tag count f : ℕ) (ws : List BlockWrite) (disk : PlainDisk) (front : IsFront lba tag count f disk) where
  -- more blocks than are there do not look right
  not_longer : (k : ℕ) → k ≤ count → f < count - k → LooksLost (with_blocks lba tag count ws) disk k → ⊥
  not_longer k le more looks =
      let rest = drop_own k lba tag count ws le in
      front.not_next (omega arith) (looks (lba + f) (ap (λ (l : List BlockWrite). is_written l (lba + f)) rest ∙ named_front lba tag (count - k) f ws more)
      ∙ ap (λ (l : List BlockWrite). disk_written l (lba + f)) rest ∙ in_front lba tag (count - k) f ws more)

  -- if the others are there, nothing before the request was lost
  pub front_counts : IsRightBeside lba f ws disk → IsLeastLost (with_blocks lba tag count ws) disk (count - f)
  front_counts beside =
      let most = front.most in
      let back : count - (count - f) ≡ f = omega arith in
      let rest : drop (count - f) (with_blocks lba tag count ws) ≡ with_blocks lba tag f ws = drop_own (count - f) lba tag count ws (omega arith) ∙ ap (λ n. with_blocks lba tag n ws) back in
      record {
        looks = λ a named. elim (which lba tag f ws a) [
          | inl is ↦ ap disk is.2 ∙ front.there is.0 is.1 ∙ sym (ap (λ (l : List BlockWrite). disk_written l a) rest ∙ ap (disk_written (with_blocks lba tag f ws)) is.2 ∙ in_front lba tag f is.0 ws is.1)
          | inr other ↦
              beside a (sym other.1 ∙ sym (ap (λ (l : List BlockWrite). is_written l a) rest) ∙ named) other.0
              ∙ sym (ap (λ (l : List BlockWrite). disk_written l a) rest ∙ other.2)
        ];
        least = λ n less. not_longer n (omega arith) (omega arith);
      }

  -- else no block of the request counts
  pub front_lost : (IsRightBeside lba f ws disk → ⊥) → (m : ℕ) → IsLeastLost ws disk m → IsLeastLost (with_blocks lba tag count ws) disk (count + m)
  front_lost not m found =
      let past : count + m - count ≡ m = omega arith in
      let rest : drop (count + m) (with_blocks lba tag count ws) ≡ drop m ws = drop_past (count + m) lba tag count ws (omega arith) ∙ ap (λ n. drop n ws) past in
      record {
        looks = subst (λ (l : List BlockWrite). (a : ℕ) → is_written l a ≡ true → disk a ≡ disk_written l a) (sym rest) found.looks;
        least = λ n less looks. by n less looks (order n count);
      }
    where
      order : (x y : ℕ) → (x < y) ⊎ (y ≤ x)
      order x zero = inr (omega arith)
      order zero (suc y) = inl (omega arith)
      order (suc x) (suc y) = elim (order x y) [ inl l ↦ inl (omega arith) | inr l ↦ inr (omega arith) ]

      by : (n : ℕ) → n < count + m → LooksLost (with_blocks lba tag count ws) disk n → (n < count) ⊎ (count ≤ n) → ⊥
      by n less looks (inr ge) =
          found.least (n - count) (omega arith) (subst (λ (l : List BlockWrite). (a : ℕ) → is_written l a ≡ true → disk a ≡ disk_written l a) (drop_past n lba tag count ws ge) looks)
      by n less looks (inl low) = elim (order f (count - n)) [
        | inl more ↦ not_longer n (omega arith) more looks
        | inr no_more ↦ not (λ a named out.
            let own = drop_own n lba tag count ws (omega arith) in
            elim (which lba tag (count - n) ws a) [
              | inl is ↦ absurd (out (is.0, (let l = is.1 in omega arith), is.2))
              | inr other ↦
                  looks a (ap (λ (l : List BlockWrite). is_written l a) own ∙ other.1 ∙ named)
                  ∙ ap (λ (l : List BlockWrite). disk_written l a) own ∙ other.2
            ])
      ]
