-- One look at each block write finds the least number.
use Rattle.std.proofs.Common.{◌≡◌, ◌⊎◌, refl, ℕ, zero, suc, ◌<◌, ◌==◌, ◌||◌, arith, inl, inr, Bool, true, false, cond, List, [], ◌∷◌, ap, sym, ◌∙◌, subst, eqb-true}
use Rattle.std.specs.List.{list_any}
use Rattle.std.proofs.lemmas.Bool.{cases_Bool, false≢true, and_parts, and_from}
use Rattle.std.proofs.lemmas.Bool.Decides.{nat_tests}
use Rattle.ft_base.specs.PlainDisk.{BlockWrite, PlainDisk}
use Rattle.trace_model.specs.Run.{disk_written}
use Rattle.trace_model.specs.declared.lost.Looked.{Looked}
use Rattle.trace_model.specs.Lost.{AreLooked, IsLeastLost, LooksLost, first_right, is_written, look_right}

named_in : List ℕ → ℕ → Bool
named_in named a = list_any (λ n. n == a) named

same_number : (a : ℕ) → (a == a) ≡ true
same_number a = grind (arith, nat_tests)

true_or : (b : Bool) → (true || b) ≡ true
true_or b = refl

-- if they look right, the disk has the block of the newest one, at each address that no newer one wrote
right_is : (named : List ℕ) (ls : List Looked) (ws : List BlockWrite) (disk : PlainDisk) → AreLooked ls ws disk → look_right named ls ≡ true
    → (a : ℕ) → is_written ws a ≡ true → list_any (λ n. n == a) named ≡ false → disk a ≡ disk_written ws a
right_is named [] [] disk looked right a is none = absurd (false≢true is)
right_is named [] (w ∷ ws) disk looked right a is none = absurd looked
right_is named (l ∷ ls) [] disk looked right a is none = absurd looked
right_is named (l ∷ ls) (w ∷ ws) disk looked right a is none =
    let p = and_parts (list_any (λ n. n == l.lba) named || l.shows) (look_right (l.lba ∷ named) ls) right in
    elim (cases_Bool (w.lba == a)) [
      | inl t ↦
          let here : l.lba ≡ a = looked.0.0 ∙ eqb-true w.lba a t in
          let free : list_any (λ n. n == l.lba) named ≡ false = ap (λ k. list_any (λ n. n == k) named) here ∙ none in
          let shows : l.shows ≡ true = sym (ap (λ b. b || l.shows) free) ∙ p.0 in
          ap disk (sym (eqb-true w.lba a t)) ∙ looked.0.1.0 shows ∙ sym (ap (λ b. cond b w.block (disk_written ws a)) t)
      | inr f ↦
          let rest : is_written ws a ≡ true = sym (ap (λ b. b || is_written ws a) f) ∙ is in
          let other : (l.lba == a) ≡ false = ap (λ k. k == a) looked.0.0 ∙ f in
          let free : list_any (λ n. n == a) (l.lba ∷ named) ≡ false = ap (λ b. b || list_any (λ n. n == a) named) other ∙ none in
          right_is (l.lba ∷ named) ls ws disk looked.1 p.1 a rest free ∙ sym (ap (λ b. cond b w.block (disk_written ws a)) f)
    ]

-- and the converse
is_right : (named : List ℕ) (ls : List Looked) (ws : List BlockWrite) (disk : PlainDisk) → AreLooked ls ws disk
    → ((a : ℕ) → is_written ws a ≡ true → list_any (λ n. n == a) named ≡ false → disk a ≡ disk_written ws a) → look_right named ls ≡ true
is_right named [] [] disk looked has = refl
is_right named [] (w ∷ ws) disk looked has = absurd looked
is_right named (l ∷ ls) [] disk looked has = absurd looked
is_right named (l ∷ ls) (w ∷ ws) disk looked has = and_from _ _ own (is_right (l.lba ∷ named) ls ws disk looked.1 (λ a is none. by a is none (cases_Bool (l.lba == a))))
  where
    own : (list_any (λ n. n == l.lba) named || l.shows) ≡ true
    own = elim (cases_Bool (list_any (λ n. n == l.lba) named)) [
      | inl t ↦ ap (λ b. b || l.shows) t
      | inr f ↦
          let named_is : list_any (λ n. n == w.lba) named ≡ false = ap (λ k. list_any (λ n. n == k) named) (sym looked.0.0) ∙ f in
          let at : disk w.lba ≡ disk_written (w ∷ ws) w.lba = has w.lba (ap (λ b. b || is_written ws w.lba) (same_number w.lba)) named_is in
          let block : disk w.lba ≡ w.block = at ∙ ap (λ b. cond b w.block (disk_written ws w.lba)) (same_number w.lba) in
          ap (λ b. b || l.shows) f ∙ looked.0.1.1 block
    ]

    by : (a : ℕ) → is_written ws a ≡ true → list_any (λ n. n == a) (l.lba ∷ named) ≡ false → ((l.lba == a) ≡ true) ⊎ ((l.lba == a) ≡ false) → disk a ≡ disk_written ws a
    by a is none (inl t) = absurd (false≢true (sym none ∙ ap (λ b. b || list_any (λ n. n == a) named) t))
    by a is none (inr f) =
        let free : list_any (λ n. n == a) named ≡ false = sym (ap (λ b. b || list_any (λ n. n == a) named) f) ∙ none in
        let other : (w.lba == a) ≡ false = ap (λ k. k == a) (sym looked.0.0) ∙ f in
        has a (turned (w.lba == a) is) free ∙ ap (λ b. cond b w.block (disk_written ws a)) other
      where
        turned : (b : Bool) → is_written ws a ≡ true → (b || is_written ws a) ≡ true
        turned true e = refl
        turned false e = e

-- the first number that looks right is the least
pub first_is_least : (ls : List Looked) (ws : List BlockWrite) (disk : PlainDisk) → AreLooked ls ws disk → IsLeastLost ws disk (first_right ls)
first_is_least [] [] disk looked = record { looks = λ a is. absurd (false≢true is); least = λ n less. absurd (omega arith) }
first_is_least [] (w ∷ ws) disk looked = absurd looked
first_is_least (l ∷ ls) [] disk looked = absurd looked
first_is_least (l ∷ ls) (w ∷ ws) disk looked = elim (cases_Bool (look_right [] (l ∷ ls))) [
  | inl t ↦ subst (IsLeastLost (w ∷ ws) disk) (sym (ap (λ b. cond b 0 (suc (first_right ls))) t))
      (record { looks = λ a is. right_is [] (l ∷ ls) (w ∷ ws) disk looked t a is refl; least = λ n less. absurd (omega arith) })
  | inr f ↦
      let rest = first_is_least ls ws disk looked.1 in
      subst (IsLeastLost (w ∷ ws) disk) (sym (ap (λ b. cond b 0 (suc (first_right ls))) f))
      (record { looks = rest.looks; least = λ n less. not_less rest f n less })
]
  where
    not_less : IsLeastLost ws disk (first_right ls) → look_right [] (l ∷ ls) ≡ false → (n : ℕ) → n < suc (first_right ls) → LooksLost (w ∷ ws) disk n → ⊥
    not_less rest f zero less looks = false≢true (sym f ∙ is_right [] (l ∷ ls) (w ∷ ws) disk looked (λ a is none. looks a is))
    not_less rest f (suc n) less looks = rest.least n (omega arith) looks
