-- What is kept of one block, after another has changed.
use Rattle.std.proofs.Common.{◌≡◌, ◌≢◌, ◌<◌, ◌==◌, ℕ, zero, suc, true, false, List, [], ◌∷◌, ◌++◌, refl, length, slice_set, slice_index_or, inl, inr, sym, ◌∙◌, ap, arith, cond}
use Rattle.std.proofs.lemmas.Bool.{cases_eq}
use Rattle.std.proofs.lemmas.Bool.Decides.{nat_tests}
use Rattle.std.proofs.lemmas.List.{get_or-set_other}
use Rattle.std.proofs.lemmas.Grind.{get_or-set_at}
use Rattle.parity_media.specs.declared.parities.Parity.{Parity}
use Rattle.parity_media.specs.declared.parities.Parities.{Parities}
use Rattle.parity_media.specs.Kept.{parity_of, OneChanged}

-- one of a list is put
pub set_one : (all : List Parity) (n q : ℕ) (value none : Parity) → n < length all
    → slice_index_or (slice_set all n value) q none ≡ cond (q == n) value (slice_index_or all q none)
set_one all n q value none within = elim (cases_eq q n) [
  | inl same ↦
      let test : q == n ≡ true = grind (arith, nat_tests, same) in
      get_or-set_at all n q value none same within ∙ sym (ap (λ t. cond t value (slice_index_or all q none)) test)
  | inr apart ↦
      let test : q == n ≡ false = grind (arith, nat_tests, apart) in
      get_or-set_other all n q value none apart ∙ sym (ap (λ t. cond t value (slice_index_or all q none)) test)
]

-- one more at the end
pub push_alike : (all : List Parity) (value none : Parity) (q : ℕ) → value ≡ none → ((k : ℕ) → slice_index_or all k none ≡ none) → slice_index_or (all ++ value ∷ []) q none ≡ none
push_alike [] value none zero is alike = is
push_alike [] value none (suc q) is alike = refl
push_alike (one ∷ all) value none zero is alike = alike 0
push_alike (one ∷ all) value none (suc q) is alike = push_alike all value none q is (λ k. alike (suc k))

-- the one that has changed, and the others
pub one_here : (old new : Parities) (number : ℕ) (parity : Parity) → OneChanged old new number parity → parity_of new number ≡ parity
one_here old new number parity changed =
    let test : number == number ≡ true = grind (arith, nat_tests) in
    changed.each number ∙ ap (λ t. cond t parity (parity_of old number)) test

pub one_else : (old new : Parities) (number : ℕ) (parity : Parity) → OneChanged old new number parity → (q : ℕ) → q ≢ number → parity_of new q ≡ parity_of old q
one_else old new number parity changed q apart =
    let test : q == number ≡ false = grind (arith, nat_tests, apart) in
    changed.each q ∙ ap (λ t. cond t parity (parity_of old q)) test
