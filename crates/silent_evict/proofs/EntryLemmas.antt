-- The facts about the entries whose pages have the first numbers.
use Rattle.std.proofs.Common.{◌≡◌, ℕ, ◌+◌, ◌<◌, ◌≤◌, Some, inl, inr, sym, ◌∙◌, ap, subst, arith}
use Rattle.std.specs.FinMap.{get}
use Rattle.std.proofs.lemmas.Bool.{cases_lt}
use Rattle.ft_base.specs.declared.geometry.Geometry.{Geometry}
use Rattle.ft_base.specs.declared.block.Place.{Place}
use Rattle.cache_model.specs.declared.entry.Entry.{Entry}
use Rattle.cache_model.specs.Records.{Entries}
use Rattle.cache_model.specs.Entries.{IsMap, InPool}
use Rattle.mapping.specs.Numbers.{number_of, HasNumber, HasNone, AreNumbered}
use Rattle.mapping.proofs.NumbersLemmas.{number_tells}

-- something holds of each entry with one of the first i numbers
pub record EachBefore (g : Geometry) (m : Entries) (P : ℕ → Entry → Type 0) (i : ℕ) : Type 0 where
  pub each : (a : ℕ) (e : Entry) → number_of g e.place < i → get m a ≡ Some e → P a e

module _ (g : Geometry) (m : Entries) where
  -- the entry of the next number
  pub each_more : IsMap g m → (P Q : ℕ → Entry → Type 0) (i lba : ℕ) (at : Place) → EachBefore g m P i → ((a : ℕ) (e : Entry) → P a e → Q a e) → HasNumber g m i (lba, at) → ((e : Entry) → get m lba ≡ Some e → Q lba e) → EachBefore g m Q (i + 1)
  each_more is_map P Q i lba at before more has here = record {
    each = λ a e low is. elim (cases_lt (number_of g e.place) i) [
      | inl less ↦ more a e (before.each a e less is)
      | inr high ↦
          let same : number_of g e.place ≡ i = omega arith in
          let pool : InPool g at = subst (λ p. InPool g p) has.owns.2 (is_map.in_pool lba has.owns.0 has.owns.1) in
          let place : e.place ≡ at = number_tells g e.place at (is_map.in_pool a e is) pool (same ∙ sym has.number) in
          let address : a ≡ lba = is_map.apart a lba e has.owns.0 is has.owns.1 (place ∙ sym has.owns.2) in
          subst (λ n. Q n e) (sym address) (here e (ap (get m) (sym address) ∙ is))
    ];
  }

  -- no entry has the next number
  pub each_passed : (P : ℕ → Entry → Type 0) (i : ℕ) → EachBefore g m P i → HasNone g m i → EachBefore g m P (i + 1)
  each_passed P i before none = record {
    each = λ a e low is. elim (cases_lt (number_of g e.place) i) [
      | inl less ↦ before.each a e less is
      | inr high ↦ absurd (none a e is (omega arith))
    ];
  }

  pub each_entry : (P : ℕ → Entry → Type 0) (i numbers : ℕ) → AreNumbered g m numbers → numbers ≤ i → EachBefore g m P i → (a : ℕ) (e : Entry) → get m a ≡ Some e → P a e
  each_entry P i numbers all past before a e is = before.each a e (let low = all a e is in omega arith) is
