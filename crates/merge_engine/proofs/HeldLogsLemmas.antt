-- The log blocks that are left once those without an entry are out of use.
use Rattle.std.proofs.Common.{◌≡◌, ◌⊎◌, ℕ, zero, suc, ◌+◌, ◌<◌, ◌≤◌, ◌==◌, ◌&&◌, ◌||◌, nat_eq, Bool, true, false, not, cond, List, [], ◌∷◌, filter, length, slice_get, Some, inl, inr, refl, sym, ◌∙◌, ap, subst, arith, eqb-true, ne_eqb}
use Rattle.std.proofs.lemmas.Bool.{cases_Bool, cases_lt, or_right}
use Rattle.std.proofs.lemmas.Map.Views.{any-filter_same}
use Rattle.cache_model.specs.Records.{Entries}
use Rattle.cache_model.proofs.CountLemmas.{same_number}
use Rattle.mapping.specs.Numbers.{StandsNoneIn}
use Rattle.log_blocks.specs.Logs.{is_in, without_block}
use Rattle.merge_engine.specs.declared.parts.Parts.{Parts}
use Rattle.merge_engine.specs.LogSteps.{AreHeldLogs}
use Rattle.merge_engine.specs.Steps.{CanBeginLog}
use Rattle.merge_engine.proofs.GiveBackLemmas.{in_place}

-- ---- lists of blocks

filter_none : (xs : List ℕ) → filter (λ x. true) xs ≡ xs
filter_none [] = refl
filter_none (x ∷ xs) = ap (λ l. x ∷ l) (filter_none xs)

filter_twice : (p q : ℕ → Bool) (xs : List ℕ) → filter p (filter q xs) ≡ filter (λ x. p x && q x) xs
filter_twice p q [] = refl
filter_twice p q (x ∷ xs) =
    let rest = filter_twice p q xs in
    let left = filter (λ x. p x && q x) xs in
    elim (q x) as (λ b. filter p (cond b (x ∷ filter q xs) (filter q xs)) ≡ cond (p x && b) (x ∷ left) left) [
      | true ↦ elim (p x) as (λ b. cond b (x ∷ filter p (filter q xs)) (filter p (filter q xs)) ≡ cond (b && true) (x ∷ left) left) [
        | true ↦ ap (λ l. x ∷ l) rest
        | false ↦ rest
      ]
      | false ↦ elim (p x) as (λ b. filter p (filter q xs) ≡ cond (b && false) (x ∷ left) left) [
        | true ↦ rest
        | false ↦ rest
      ]
    ]

is_in_kept : (p : ℕ → Bool) (b : ℕ) (xs : List ℕ) → is_in b xs ≡ true → p b ≡ true → is_in b (filter p xs) ≡ true
is_in_kept p b xs there t = any-filter_same (nat_eq b) p true (λ k same. ap p (sym (eqb-true b k same)) ∙ t) xs ∙ there

-- all are kept, or one isn't
kept_all : (p : ℕ → Bool) (xs : List ℕ) → (filter p xs ≡ xs) ⊎ ((b : ℕ) × (is_in b xs ≡ true) × (p b ≡ false))
kept_all p [] = inl refl
kept_all p (x ∷ xs) = elim (cases_Bool (p x)) [
  | inl t ↦ elim (kept_all p xs) [
    | inl same ↦ inl (ap (λ b. cond b (x ∷ filter p xs) (filter p xs)) t ∙ ap (λ l. x ∷ l) same)
    | inr one ↦ inr (one.0, or_right (one.0 == x) (is_in one.0 xs) one.1, one.2)
  ]
  | inr f ↦ inr (x, ap (λ b. b || is_in x xs) (same_number x), f)
]

-- before a block that is taken out, the blocks keep their places
earlier : (xs : List ℕ) (block i k : ℕ) → slice_get xs i ≡ Some block → k < i → ((j c : ℕ) → j < i → slice_get xs j ≡ Some c → c ≡ block → ⊥) → slice_get (without_block block xs) k ≡ slice_get xs k
earlier [] block i k at low apart = refl
earlier (x ∷ xs) block zero k at low apart = absurd (omega (arith, low))
earlier (x ∷ xs) block (suc i) zero at low apart = ap (λ b. slice_get (cond (not b) (x ∷ without_block block xs) (without_block block xs)) 0) (ne_eqb block x (λ same. apart 0 x (omega arith) refl (sym same)))
earlier (x ∷ xs) block (suc i) (suc k) at low apart =
    ap (λ b. slice_get (cond (not b) (x ∷ without_block block xs) (without_block block xs)) (suc k)) (ne_eqb block x (λ same. apart 0 x (omega arith) refl (sym same)))
    ∙ earlier xs block i k at (omega (arith, low)) (λ j c less is. apart (suc j) c (omega (arith, less)) is)

-- ---- as far as the loop has come

-- only blocks without an entry are out of the list, and some entry stands in each of the first i
pub record HeldSoFar (m : Entries) (old new : List ℕ) (i : ℕ) : Type 0 where
  pub holds : ℕ → Bool
  pub left : new ≡ filter holds old
  pub unheld : (b : ℕ) → is_in b old ≡ true → holds b ≡ false → StandsNoneIn m b
  pub looked : (k b : ℕ) → k < i → slice_get new k ≡ Some b → StandsNoneIn m b → ⊥

pub held_first : (m : Entries) (old : List ℕ) → HeldSoFar m old old 0
held_first m old = record {
  holds = λ b. true;
  left = sym (filter_none old);
  unheld = λ b there f. absurd (cc);
  looked = λ k b low at none. absurd (omega (arith, low));
}

module _ (m : Entries) (old mid : List ℕ) (i block : ℕ) (at : Some block ≡ slice_get mid i) (so_far : HeldSoFar m old mid i) where
  -- no entry stands in the next block, and it is taken out
  pub held_given : (new : List ℕ) → new ≡ without_block block mid → StandsNoneIn m block → HeldSoFar m old new i
  held_given new is none = record {
    holds = λ b. not (block == b) && so_far.holds b;
    left = is ∙ ap (without_block block) so_far.left ∙ filter_twice (λ b. not (block == b)) so_far.holds old;
    unheld = λ b there f. elim (cases_Bool (block == b)) [
      | inl t ↦ subst (λ n. StandsNoneIn m n) (eqb-true block b t) none
      | inr other ↦ so_far.unheld b there (ap (λ c. not c && so_far.holds b) (sym other) ∙ f)
    ];
    looked = λ k b low there. so_far.looked k b low (sym (stays k low) ∙ ap (λ l. slice_get l k) (sym is) ∙ there);
  }
    where
      stays : (k : ℕ) → k < i → slice_get (without_block block mid) k ≡ slice_get mid k
      stays k low = earlier mid block i k (sym at) low (λ j c less there same. so_far.looked j c less there (subst (λ n. StandsNoneIn m n) (sym same) none))

  -- some entry stands in the next block
  pub held_passed : (StandsNoneIn m block → ⊥) → HeldSoFar m old mid (i + 1)
  held_passed some = record {
    holds = so_far.holds;
    left = so_far.left;
    unheld = so_far.unheld;
    looked = λ k b low there none. elim (cases_lt k i) [
      | inl before ↦ so_far.looked k b before there none
      | inr last ↦
          let number : k ≡ i = omega (arith, low, last) in
          let both : Some b ≡ Some block = sym there ∙ ap (slice_get mid) number ∙ sym at in
          let one : b ≡ block = cc in
          some (subst (λ n. StandsNoneIn m n) one none)
    ];
  }

-- all blocks were looked at
pub held_all : (m : Entries) (old new : List ℕ) (i : ℕ) → length new ≤ i → HeldSoFar m old new i → AreHeldLogs m old new
held_all m old new i past so_far = record {
  holds = so_far.holds;
  left = so_far.left;
  unheld = λ b there. (
    so_far.unheld b there,
    λ none. elim (cases_Bool (so_far.holds b)) [
      | inl t ↦
          let at = in_place new b (ap (is_in b) so_far.left ∙ is_in_kept so_far.holds b old there t) in
          absurd (so_far.looked at.0 b (omega (arith, at.1, past)) at.2 none)
      | inr f ↦ f
    ],
  );
}

-- ---- the conclusions

-- if fewer than L are left, one can be begun without a merge
pub can_from : (old : Parts) (left : List ℕ) → AreHeldLogs old.map.entries old.log_blocks.used left → length left < old.geometry.l → CanBeginLog old
can_from old left held few = elim (kept_all held.holds old.log_blocks.used) [
  | inl same ↦ let all : length left ≡ length old.log_blocks.used = ap (λ (l : List ℕ). length l) (held.left ∙ same) in inl (omega (arith, few, all))
  | inr one ↦ inr (one.0, one.1, (held.unheld one.0 one.1).0 one.2)
]

-- if none can be begun without a merge, all are left
pub all_left : (old : Parts) (left : List ℕ) → AreHeldLogs old.map.entries old.log_blocks.used left → (CanBeginLog old → ⊥) → left ≡ old.log_blocks.used
all_left old left held cannot = elim (kept_all held.holds old.log_blocks.used) [
  | inl same ↦ held.left ∙ same
  | inr one ↦ absurd (cannot (inr (one.0, one.1, (held.unheld one.0 one.1).0 one.2)))
]
