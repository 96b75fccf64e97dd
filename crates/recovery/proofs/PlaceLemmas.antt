-- The places of entries, looked at in ascending order of address.
use Rattle.std.proofs.Common.{◌≡◌, ℕ, ◌+◌, ◌-◌, ◌<◌, ◌≤◌, ◌==◌, Bool, true, false, cond, List, [], ◌∷◌, ◌++◌, length, take, get_or, Option, Some, None, Result, Ok, Err, refl, sym, ◌∙◌, ap, subst, arith, inl, inr, nat_cmp}
use Rattle.std.specs.Option.{option_map, is_some, IfSome, IfNone}
use Rattle.std.specs.Cmp.{unsigned_tied, nat_cmp_total}
use Rattle.std.specs.List.{AllByRecursion, AllWithin, Contains}
use Rattle.std.specs.List.Sorted.{IsNonDecreasing, IsPermutation, IsSorted}
use Rattle.std.specs.FinMap.{get, remove, len, entries, find, is_sorted, entries_sorted, get-entries, get-empty, get-remove, len-entries, len-remove, empty_of_len}
use Rattle.std.specs.FinMap.Entries.{below_all}
use Rattle.std.proofs.lemmas.Bool.{cases_Bool, cases_lt, cases_eq, cond-true, ne_eqb, and_parts}
use Rattle.std.proofs.lemmas.List.{get_or_default, take_at, length-append}
use Rattle.std.proofs.lemmas.List.Elements.{AllWithin-more, AllWithin-upto, All-from_all_within, All-contains, Contains-push, Contains-append_left}
use Rattle.std.proofs.lemmas.List.Sorted.{Contains-permutation, IsNonDecreasingBy-from_sort}
use Rattle.std.proofs.lemmas.Option.{same_Some}
use Rattle.ft_base.specs.declared.geometry.Geometry.{Geometry}
use Rattle.ft_base.specs.declared.block.Place.{Place}
use Rattle.ft_base.specs.declared.block.Page.{Page}
use Rattle.cache_model.specs.declared.entry.Entry.{Entry}
use Rattle.cache_model.specs.Records.{Entries}
use Rattle.cache_model.specs.Entries.{IsMap, InPool}
use Rattle.cache_model.specs.Loading.{Refusal, is_whole, all_whole}
use Rattle.cache_model.specs.Loading.Refusal.{Damaged as damaged}
use Rattle.cache_model.proofs.MapLemmas.{holds, eq_key, all_entries, find_below}
use Rattle.mapping.specs.Counts.{place_and_mark}
use Rattle.mapping.specs.Numbers.{number_of, HasNumber, HasNone, AreNumbered}
use Rattle.mapping.proofs.NumbersLemmas.{number_tells}
use Rattle.op_log.specs.declared.error.OpenError.{OpenError}
use Rattle.op_log.specs.Refusals.{IsRefusal}
use Rattle.checkpoint.proofs.SealedLemmas.{all_whole-from}
use Rattle.recovery.specs.Addresses.{HasAddresses}
use Rattle.recovery.proofs.RefusalLemmas.{test_refused}

-- ---- the addresses, in the order of the pages

-- the addresses whose pages have numbers below i are in the list; and a map that lacks as many addresses as the list
-- has has all others
pub record Gathered (g : Geometry) (m : Entries) (addresses : List ℕ) (i : ℕ) : Type 0 where
  pub each : (a : ℕ) (e : Entry) → get m a ≡ Some e → number_of g e.place < i → Contains addresses a
  pub left : Entries
  pub fewer : len left + length addresses ≡ len m
  pub others : (a : ℕ) (e : Entry) → get m a ≡ Some e → i ≤ number_of g e.place → get left a ≡ Some e

pub gathered_none : (g : Geometry) (m : Entries) (addresses : List ℕ) → addresses ≡ [] → Gathered g m addresses 0
gathered_none g m addresses none = record {
  each = λ a e is low. absurd (omega (arith, low));
  left = m;
  fewer = omega (arith, ap length none);
  others = λ a e is low. is;
}

-- without an address that it has a map is smaller by one
one_less : (m : Entries) (a : ℕ) (e : Entry) → get m a ≡ Some e → len (remove m a) + 1 ≡ len m
one_less m a e is =
    let less : len (remove m a) ≡ len m - 1 = len-remove nat_cmp_total m a ∙ cond-true (is_some (get m a)) (len m - 1) (len m) (ap is_some is) in
    elim (cases_eq (len m) 0) [
      | inl none ↦ absurd (let gone : None ≡ Some e = sym (ap (λ (n : Entries). get n a) (empty_of_len m none) ∙ get-empty nat_cmp a) ∙ is in cc)
      | inr some ↦ omega (arith, less, some)
    ]

-- the entry of the next number, and that it isn't listed yet
next_left : (g : Geometry) (m : Entries) (addresses : List ℕ) (i lba : ℕ) (at : Place) (o : Option (ℕ × Place)) → Gathered g m addresses i → IfSome o (HasNumber g m i) → o ≡ Some (lba, at)
    → (f : Entry) × (get m lba ≡ Some f) × (number_of g f.place ≡ i)
next_left g m addresses i lba at o so here is =
    let has : HasNumber g m i (lba, at) = subst (λ (x : Option (ℕ × Place)). IfSome x (HasNumber g m i)) is here in
    (has.owns.0, has.owns.1, ap (number_of g) has.owns.2 ∙ has.number)

pub gathered_room : (g : Geometry) (m : Entries) (addresses : List ℕ) (i lba : ℕ) (at : Place) (o : Option (ℕ × Place)) → Gathered g m addresses i → IfSome o (HasNumber g m i) → o ≡ Some (lba, at) → length addresses < length (entries m)
gathered_room g m addresses i lba at o so here is =
    let next = next_left g m addresses i lba at o so here is in
    let one = one_less so.left lba next.0 (so.others lba next.0 next.1 (omega (arith, next.2))) in
    omega (arith, one, so.fewer, len-entries m)

pub gathered_more : (g : Geometry) (m : Entries) (addresses new : List ℕ) (i lba : ℕ) (at : Place) (o : Option (ℕ × Place)) → IsMap g m → Gathered g m addresses i → IfSome o (HasNumber g m i) → o ≡ Some (lba, at) → new ≡ addresses ++ lba ∷ [] → Gathered g m new (i + 1)
gathered_more g m addresses new i lba at o is_map so here is pushed = record {
  each = λ a e held low. subst (λ (l : List ℕ). Contains l a) (sym pushed) (elim (cases_lt (number_of g e.place) i) [
    | inl before ↦ Contains-append_left addresses (lba ∷ []) a (so.each a e held before)
    | inr past ↦
        let has : HasNumber g m i (lba, at) = subst (λ (x : Option (ℕ × Place)). IfSome x (HasNumber g m i)) is here in
        let f = has.owns.0 in
        let place : f.place ≡ at = has.owns.2 in
        let number : number_of g e.place ≡ i = omega (arith, low, past) in
        let number' : number_of g f.place ≡ i = ap (number_of g) place ∙ has.number in
        let places = number_tells g e.place f.place (is_map.in_pool a e held) (is_map.in_pool lba f has.owns.1) (number ∙ sym number') in
        let same : a ≡ lba = is_map.apart a lba e f held has.owns.1 places in
        subst (λ n. Contains (addresses ++ lba ∷ []) n) (sym same) (Contains-push addresses lba)
  ]);
  left = remove so.left lba;
  fewer =
      let next = next_left g m addresses i lba at o so here is in
      let one = one_less so.left lba next.0 (so.others lba next.0 next.1 (omega (arith, next.2))) in
      omega (arith, one, so.fewer, ap length pushed, length-append addresses (lba ∷ []));
  others = λ a e held low.
      let next = next_left g m addresses i lba at o so here is in
      elim (cases_eq a lba) [
        | inl same ↦
            let value : e ≡ next.0 = same_Some e next.0 (sym held ∙ ap (get m) same ∙ next.1) in
            absurd (omega (arith, low, ap (λ (v : Entry). number_of g v.place) value, next.2))
        | inr ne ↦
            get-remove nat_cmp_total so.left lba a
            ∙ ap (λ b. cond b None (get so.left a)) (unsigned_tied a lba ∙ ne_eqb a lba ne)
            ∙ so.others a e held (omega (arith, low))
      ];
}

pub gathered_past : (g : Geometry) (m : Entries) (addresses : List ℕ) (i : ℕ) (o : Option (ℕ × Place)) → Gathered g m addresses i → IfNone o (HasNone g m i) → o ≡ None → Gathered g m addresses (i + 1)
gathered_past g m addresses i o so here is =
    let none : HasNone g m i = subst (λ (x : Option (ℕ × Place)). IfNone x (HasNone g m i)) is here in
    record {
      each = λ a e held low. elim (cases_lt (number_of g e.place) i) [
        | inl before ↦ so.each a e held before
        | inr past ↦ let number : number_of g e.place ≡ i = omega (arith, low, past) in absurd (none a e held number)
      ];
      left = so.left;
      fewer = so.fewer;
      others = λ a e held low. so.others a e held (omega (arith, low));
    }

pub gathered_all : (g : Geometry) (m : Entries) (addresses : List ℕ) (numbers i : ℕ) → AreNumbered g m numbers → numbers ≤ i → Gathered g m addresses i → HasAddresses m addresses
gathered_all g m addresses numbers i all past so a e held = let low = all a e held in so.each a e held (omega (arith, low, past))

-- the addresses are in the list after it is sorted
pub has_sorted : (m : Entries) (addresses given sorted items : List ℕ) → given ≡ addresses → IsPermutation given sorted → items ≡ sorted
    → HasAddresses m addresses → HasAddresses m items
has_sorted m addresses given sorted items from moved is has a e held =
    subst (λ (l : List ℕ). Contains l a) (sym is)
    (Contains-permutation given sorted a moved (subst (λ (l : List ℕ). Contains l a) (sym from) (has a e held)))

-- the items of a list that was overwritten by equally many items
pub written_back : (items sorted rest : List ℕ) (n : ℕ) → items ≡ take n (sorted ++ rest) → length sorted ≡ n → items ≡ sorted
written_back items sorted rest n is len = is ∙ take_at sorted rest n len

pub rises : (sorted items : List ℕ) → items ≡ sorted → IsSorted nat_cmp sorted → IsNonDecreasing items
rises sorted items is up = subst (λ (l : List ℕ). IsNonDecreasing l) (sym is) (IsNonDecreasingBy-from_sort (λ x. x) sorted up)

-- ---- an address

-- the entry of an address that has a place
held_at : (m : Entries) (a : ℕ) (at : Place) (dirty : Bool) → Some (at, dirty) ≡ option_map place_and_mark (get m a) → (e : Entry) × (get m a ≡ Some e) × (e.place ≡ at)
held_at m a at dirty is = by_case (get m a) refl is
  where
    by_case : (o : Option Entry) → get m a ≡ o → Some (at, dirty) ≡ option_map place_and_mark o → (e : Entry) × (get m a ≡ Some e) × (e.place ≡ at)
    by_case None there is' = absurd (cc)
    by_case (Some e) there is' =
        let pair : place_and_mark e ≡ (at, dirty) = cc in
        (e, there, ap (λ (q : Place × Bool). q.0) pair)

pub place_in_pool : (g : Geometry) (m : Entries) (a : ℕ) (at : Place) (dirty : Bool) → IsMap g m → Some (at, dirty) ≡ option_map place_and_mark (get m a) → InPool g at
place_in_pool g m a at dirty is_map is = let held = held_at m a at dirty is in subst (λ q. InPool g q) held.2 (is_map.in_pool a held.0 held.1)

-- ---- the addresses, in ascending order

-- the page of the address is whole, if it has one
abbrev pub IsWholeAt : (Place → Page) → Entries → ℕ → Type 0
IsWholeAt page m a = (e : Entry) → get m a ≡ Some e → is_whole (page e.place) ≡ true

-- the pages of the first i addresses are whole
pub record Looked (page : Place → Page) (m : Entries) (addresses : List ℕ) (i : ℕ) : Type 0 where
  pub whole : AllWithin (IsWholeAt page m) addresses 0 i

module _ (page : Place → Page) (m : Entries) (addresses : List ℕ) (i d : ℕ) (looked : Looked page m addresses i) (within : i < length addresses) where
  -- an address by any default
  by_default : IsWholeAt page m (get_or addresses i d) → (e : ℕ) → IsWholeAt page m (get_or addresses i e)
  by_default here e = subst (λ n. IsWholeAt page m n) (get_or_default addresses i d e within) here

  pub looked_more : (page' : Place → Page) (at : Place) (dirty : Bool) → page' ≡ page → Some (at, dirty) ≡ option_map place_and_mark (get m (get_or addresses i d)) → is_whole (page' at) ≡ true → Looked page m addresses (i + 1)
  looked_more page' at dirty pages is whole =
      let held = held_at m (get_or addresses i d) at dirty is in
      let here : is_whole (page at) ≡ true = ap (λ (p : Place → Page). is_whole (p at)) (sym pages) ∙ whole in
      record {
        whole = AllWithin-more (IsWholeAt page m) addresses 0 i looked.whole (by_default (λ e is'.
            let same = same_Some e held.0 (sym is' ∙ held.1) in
            ap (λ (v : Entry). is_whole (page v.place)) same ∙ ap (λ q. is_whole (page q)) held.2 ∙ here));
      }

  pub looked_past : None ≡ option_map place_and_mark (get m (get_or addresses i d)) → Looked page m addresses (i + 1)
  looked_past none = record { whole = AllWithin-more (IsWholeAt page m) addresses 0 i looked.whole (by_default (λ e is'. absurd (no_value e (none ∙ ap (option_map place_and_mark) is')))) }
    where
      no_value : (e : Entry) → None ≡ Some (place_and_mark e) → ⊥
      no_value e is = cc

-- ---- the answer

-- if all pages before the page of an address are whole, its own page decides
module _ (page : Place → Page) (x : Entries) (a : ℕ) (v : Entry) where
  decided : (es : List (ℕ × Entry)) → is_sorted nat_cmp es ≡ true → AllByRecursion (λ e. e.0 < a → is_whole (page e.1.place) ≡ true) es → find nat_cmp a es ≡ Some v → (r : Result Entries Refusal) × (all_whole page es x ≡ cond (is_whole (page v.place)) r (Err (damaged v.place)))
  decided [] sorted before is = absurd (cc)
  decided (e ∷ es) sorted before is =
      let parts = and_parts (below_all nat_cmp e.0 es) (is_sorted nat_cmp es) sorted in
      elim (cases_Bool (a == e.0)) [
        | inl t ↦
            let value : Some e.1 ≡ Some v = sym (ap (λ b. cond b (Some e.1) (find nat_cmp a es)) (eq_key a e.0 ∙ t)) ∙ is in
            (all_whole page es x, ap (λ (w : Entry). cond (is_whole (page w.place)) (all_whole page es x) (Err (damaged w.place))) (same_Some e.1 v value))
        | inr f ↦
            let there : find nat_cmp a es ≡ Some v = sym (ap (λ b. cond b (Some e.1) (find nat_cmp a es)) (eq_key a e.0 ∙ f)) ∙ is in
            let rest = decided es parts.1 before.1 there in
            (rest.0, ap (λ b. cond b (all_whole page es x) (Err (damaged e.1.place))) (before.0 (find_below e.0 es parts.0 a v there)) ∙ rest.1)
      ]

module _ (page : Place → Page) (m : Entries) (addresses : List ℕ) (has : HasAddresses m addresses) (i : ℕ) (looked : Looked page m addresses i) where
  pub looked_all : length addresses ≤ i → all_whole page (entries m) m ≡ Ok m
  looked_all past = all_whole-from page (entries m) m (all_entries m (λ a e. is_whole (page e.place) ≡ true) (λ a e is. whole_at a (has a e is) e is))
    where
      whole_at : (a : ℕ) → Contains addresses a → IsWholeAt page m a
      whole_at a there = All-contains (IsWholeAt page m) addresses a (All-from_all_within (IsWholeAt page m) addresses (AllWithin-upto (IsWholeAt page m) addresses 0 i (length addresses) past looked.whole)) there

  module _ (up : IsNonDecreasing addresses) (d : ℕ) (within : i < length addresses) (at : Place) (dirty : Bool) (is : Some (at, dirty) ≡ option_map place_and_mark (get m (get_or addresses i d))) where
    -- the addresses below this one stand before it
    whole_below : (a : ℕ) (e : Entry) → get m a ≡ Some e → a < get_or addresses i d → is_whole (page e.place) ≡ true
    whole_below a e held low =
        let there = has a e held in
        elim (cases_lt there.0 i) [
          | inl before ↦ subst (λ n. IsWholeAt page m n) there.2 (looked.whole there.0 a (omega arith) before) e held
          | inr past ↦
              let high : get_or addresses i a ≤ get_or addresses there.0 a = up i there.0 a past there.1 in
              let same = get_or_default addresses i d a within in
              absurd (omega (arith, low, high, same, there.2))
        ]

    next_place : (r : Result Entries Refusal) × (all_whole page (entries m) m ≡ cond (is_whole (page at)) r (Err (damaged at)))
    next_place =
        let a = get_or addresses i d in
        let held = held_at m a at dirty is in
        let found = decided page m a held.0 (entries m) (holds _ (entries_sorted m)) (all_entries m (λ b e. b < a → is_whole (page e.place) ≡ true) whole_below) (sym (get-entries m a) ∙ held.1) in
        (found.0, found.1 ∙ ap (λ q. cond (is_whole (page q)) found.0 (Err (damaged q))) held.2)

    pub looked_refused : (g : Geometry) (page' : Place → Page) (e : OpenError) → page' ≡ page → IsRefusal g e (cond (is_whole (page' at)) (Ok at) (Err (damaged at))) → IsRefusal g e (all_whole page (entries m) m)
    looked_refused g page' e pages refused =
        let refused' = subst (λ (p : Place → Page). IsRefusal g e (cond (is_whole (p at)) (Ok at) (Err (damaged at)))) pages refused in
        subst (λ r. IsRefusal g e r) (sym next_place.1) (test_refused g e (is_whole (page at)) at next_place.0 (damaged at) refused')

    pub looked_damaged : is_whole (page at) ≡ false → all_whole page (entries m) m ≡ Err (damaged at)
    looked_damaged torn = next_place.1 ∙ ap (λ b. cond b next_place.0 (Err (damaged at))) torn
