-- Entries by the numbers of their pages.
use Rattle.std.proofs.Common.{◌≡◌, ℕ, ◌+◌, ◌<◌, ◌==◌, nat_lt, Bool, true, cond, List, [], ◌∷◌, length, Some, refl, sym, ◌∙◌, ap, subst, arith, nat_cmp, inl, inr, eqb-true, eq-eqb, ne_eqb, lt-ltb, count_by}
use Rattle.std.specs.List.{AllByRecursion}
use Rattle.std.specs.Ordering.{is_lt}
use Rattle.std.specs.FinMap.{FinMap, get, entries, entries_sorted, find, is_sorted, get-entries}
use Rattle.std.specs.FinMap.Entries.{below_all}
use Rattle.std.proofs.lemmas.Bool.{cases_Bool, and_parts, both_ways}
use Rattle.std.proofs.lemmas.Bool.Decides.{nat_tests}
use Rattle.std.proofs.lemmas.List.Sums.{sum_by-cons}
use Rattle.ft_base.specs.declared.geometry.Geometry.{Geometry}
use Rattle.ft_base.specs.declared.block.Place.{Place}
use Rattle.cache_model.specs.declared.entry.Entry.{Entry}
use Rattle.cache_model.specs.Records.{Entries}
use Rattle.cache_model.specs.Entries.{IsMap}
use Rattle.cache_model.proofs.MapLemmas.{less_key, holds, all_entries, eq_key}
use Rattle.mapping.specs.Numbers.{number_of, HasNumber}
use Rattle.mapping.proofs.NumbersLemmas.{number_tells}

-- ---- one number, one place

-- entries with one number have one address
pub one_address : (g : Geometry) (m : Entries) → IsMap g m → (a b : ℕ) (e f : Entry) → get m a ≡ Some e → get m b ≡ Some f → number_of g e.place ≡ number_of g f.place → a ≡ b
one_address g m is_map a b e f there there' is = is_map.apart a b e f there there' (number_tells g e.place f.place (is_map.in_pool a e there) (is_map.in_pool b f there') is)

pub same_entry : (m : Entries) (a b : ℕ) (e f : Entry) → a ≡ b → get m a ≡ Some e → get m b ≡ Some f → e ≡ f
same_entry m a b e f same there there' = let both : Some e ≡ Some f = sym there ∙ ap (get m) same ∙ there' in cc

-- a fact that is true of the one entry with a number
pub the_entry : (g : Geometry) (m : Entries) → IsMap g m → (i a : ℕ) (at : Place) (has : HasNumber g m i (a, at)) (P : ℕ × Entry → Type 0) → P (a, has.owns.0) → (b : ℕ) (f : Entry) → get m b ≡ Some f → number_of g f.place ≡ i → P (b, f)
the_entry g m is_map i a at has P here b f there number =
    let own : number_of g has.owns.0.place ≡ i = ap (number_of g) has.owns.2 ∙ has.number in
    let address : a ≡ b = one_address g m is_map a b has.owns.0 f has.owns.1 there (own ∙ sym number) in
    let entry : has.owns.0 ≡ f = same_entry m a b has.owns.0 f address has.owns.1 there in
    subst (λ (n : ℕ). P (n, f)) address (subst (λ (e : Entry). P (a, e)) entry here)

-- ---- ascending entries

pub sorted_entries : {X : Type 0} (m : FinMap nat_cmp X) → is_sorted nat_cmp (entries m) ≡ true
sorted_entries m = holds (is_sorted nat_cmp (entries m)) (entries_sorted m)

-- ---- how many entries have a number, and how many a number below one

-- the number that a test adds to a count
abbrev pub one_if : Bool → ℕ
one_if b = cond b 1 0

module _ {X : Type 0} (n : ℕ × X → ℕ) where
  abbrev pub below : ℕ → List (ℕ × X) → ℕ
  below i es = count_by (λ x. nat_lt (n x) i) es

  abbrev here : ℕ → List (ℕ × X) → ℕ
  here i es = count_by (λ x. n x == i) es

  pub below_none : (es : List (ℕ × X)) → below 0 es ≡ 0
  below_none [] = refl
  below_none (x ∷ es) =
      let cons = sum_by-cons (λ (y : ℕ × X). one_if (nat_lt (n y) 0)) x es in
      let rest = below_none es in
      let none : one_if (nat_lt (n x) 0) ≡ 0 = never (n x) in
      omega arith
    where
      never : (k : ℕ) → one_if (nat_lt k 0) ≡ 0
      never k = grind (arith, nat_tests)

  below_more : (i : ℕ) (es : List (ℕ × X)) → below (i + 1) es ≡ below i es + here i es
  below_more i [] = refl
  below_more i (x ∷ es) =
      let more = sum_by-cons (λ (y : ℕ × X). one_if (nat_lt (n y) (i + 1))) x es in
      let less = sum_by-cons (λ (y : ℕ × X). one_if (nat_lt (n y) i)) x es in
      let one = sum_by-cons (λ (y : ℕ × X). one_if (n y == i)) x es in
      let rest = below_more i es in
      let first = split (n x) i in
      omega arith
    where
      split : (k i : ℕ) → one_if (nat_lt k (i + 1)) ≡ one_if (nat_lt k i) + one_if (k == i)
      split k i = grind (arith, nat_tests)

  below_all_of : (i : ℕ) (es : List (ℕ × X)) → AllByRecursion (λ x. n x < i) es → below i es ≡ length es
  below_all_of i [] all = refl
  below_all_of i (x ∷ es) all =
      let cons = sum_by-cons (λ (y : ℕ × X). one_if (nat_lt (n y) i)) x es in
      let rest = below_all_of i es all.1 in
      let first : one_if (nat_lt (n x) i) ≡ 1 = ap one_if (lt-ltb (n x) i all.0) in
      omega arith

  here_none : (i : ℕ) (es : List (ℕ × X)) → AllByRecursion (λ x. n x ≡ i → ⊥) es → here i es ≡ 0
  here_none i [] all = refl
  here_none i (x ∷ es) all =
      let cons = sum_by-cons (λ (y : ℕ × X). one_if (n y == i)) x es in
      let rest = here_none i es all.1 in
      let first : one_if (n x == i) ≡ 0 = ap one_if (ne_eqb (n x) i all.0) in
      omega arith

  -- behind the one entry that has the number, no other entry has it
  others : (i a k : ℕ) (es : List (ℕ × X)) → a ≡ k → below_all nat_cmp k es ≡ true → AllByRecursion (λ x. n x ≡ i → x.0 ≡ a) es → AllByRecursion (λ x. n x ≡ i → ⊥) es
  others i a k [] same low all = tt
  others i a k (x ∷ es) same low all =
      let parts = and_parts (is_lt (nat_cmp k x.0)) (below_all nat_cmp k es) low in
      let less = less_key k x.0 parts.0 in
      (λ its. let is = all.0 its in absurd (omega arith), others i a k es same parts.1 all.1)

  here_one : (i a : ℕ) (es : List (ℕ × X)) → is_sorted nat_cmp es ≡ true → AllByRecursion (λ x. n x ≡ i → x.0 ≡ a) es → (e : X) → find nat_cmp a es ≡ Some e → n (a, e) ≡ i → here i es ≡ 1
  here_one i a [] sorted all e is number = absurd (cc)
  here_one i a (x ∷ es) sorted all e is number =
      let parts = and_parts (below_all nat_cmp x.0 es) (is_sorted nat_cmp es) sorted in
      let cons = sum_by-cons (λ (y : ℕ × X). one_if (n y == i)) x es in
      elim (cases_Bool (a == x.0)) [
        | inl t ↦
            let same : a ≡ x.0 = eqb-true a x.0 t in
            let there : Some x.1 ≡ Some e = sym (ap (λ b. cond b (Some x.1) (find nat_cmp a es)) (eq_key a x.0 ∙ t)) ∙ is in
            let entry : x.1 ≡ e = cc in
            let pair : ◌≡◌ {A = ℕ × X} x (a, e) = λ k. (sym same k, entry k) in
            let its : n x ≡ i = ap n pair ∙ number in
            let first : one_if (n x == i) ≡ 1 = ap one_if (eq-eqb (n x) i its) in
            let rest = here_none i es (others i a x.0 es same parts.0 all.1) in
            omega arith
        | inr f ↦
            let rest = here_one i a es parts.1 all.1 e (sym (ap (λ b. cond b (Some x.1) (find nat_cmp a es)) (eq_key a x.0 ∙ f)) ∙ is) number in
            let first : one_if (n x == i) ≡ 0 = ap one_if (ne_eqb (n x) i (λ its. both_ways (a == x.0) f (eq-eqb a x.0 (sym (all.0 its))))) in
            omega arith
      ]

abbrev pub number : Geometry → ℕ × Entry → ℕ
number g x = number_of g x.1.place

module _ (g : Geometry) (m : Entries) where
  -- one more entry has a number below the next one
  pub one_more : IsMap g m → (a i : ℕ) (e : Entry) → get m a ≡ Some e → number_of g e.place ≡ i → below (number g) (i + 1) (entries m) ≡ below (number g) i (entries m) + 1
  one_more is_map a i e is its =
      let more = below_more (number g) i (entries m) in
      let one = here_one (number g) i a (entries m) (sorted_entries m) (all_entries m (λ b f. number_of g f.place ≡ i → b ≡ a) (λ b f there same. one_address g m is_map b a f e there is (same ∙ sym its))) e (sym (get-entries m a) ∙ is) its in
      omega arith

  pub none_more : (i : ℕ) → ((a : ℕ) (e : Entry) → get m a ≡ Some e → number_of g e.place ≡ i → ⊥) → below (number g) (i + 1) (entries m) ≡ below (number g) i (entries m)
  none_more i never =
      let more = below_more (number g) i (entries m) in
      let none = here_none (number g) i (entries m) (all_entries m (λ a e. number_of g e.place ≡ i → ⊥) never) in
      omega arith

  pub all_below : (i : ℕ) → ((a : ℕ) (e : Entry) → get m a ≡ Some e → number_of g e.place < i) → below (number g) i (entries m) ≡ length (entries m)
  all_below i each = below_all_of (number g) i (entries m) (all_entries m (λ a e. number_of g e.place < i) each)
