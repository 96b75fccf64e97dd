-- The dirty addresses of a range, found from the entries.
use Rattle.std.proofs.Common.{◌≡◌, ℕ, suc, ◌+◌, ◌*◌, ◌-◌, ◌<◌, ◌≤◌, ◌&&◌, nat_le, nat_lt, ◌==◌, Bool, true, false, cond, T, List, [], ◌∷◌, ◌++◌, length}
use Rattle.std.proofs.Common.{get_or, take, drop, map, filter, count_by, Option, Some, None, refl, sym, ◌∙◌, ap, subst, arith, nat_cmp, inl, inr, lt-ltb, eqb-true, ne_eqb, eq-eqb, append_assoc, length-append}
use Rattle.std.specs.Option.{option_map, unwrap_or}
use Rattle.std.specs.List.{AllByRecursion}
use Rattle.std.specs.List.Sorted.{IsPermutation, IsNonDecreasingBy}
use Rattle.std.specs.Ordering.{eq_by_cmp, is_lt}
use Rattle.std.specs.Cmp.{nat_cmp_total}
use Rattle.std.proofs.lemmas.Bool.{cases_Bool, and_parts, both_ways, false≢true}
use Rattle.std.proofs.lemmas.Bool.Decides.{nat_tests}
use Rattle.std.proofs.lemmas.List.Sums.{sum_by-cons, sum_by_push}
use Rattle.std.proofs.lemmas.List.Sorted.{sum_by-IsPermutation}
use Rattle.std.proofs.Math.ListN.{drop_of_length-le}
use Rattle.std.proofs.Math.Seq.{drop-append_seam, take-append_seam}
use Rattle.std.proofs.lemmas.List.{append-nil, take_all}
use borrow.Rule.Slice.PartMut.{mid_of, post_of, put_mid}
use Rattle.std.specs.FinMap.{FinMap, get, entries, entries_sorted, find, is_sorted, get-entries, nat_cmp-IsAntisymmetric}
use Rattle.std.specs.FinMap.Entries.{below_all, same_entries}
use Rattle.ft_base.specs.declared.geometry.Geometry.{Geometry}
use Rattle.ft_base.specs.declared.block.Place.{Place}
use Rattle.ft_base.specs.Contents.{Contents}
use Rattle.cache_model.specs.declared.entry.Entry.{Entry}
use Rattle.cache_model.specs.Records.{Entries}
use Rattle.cache_model.specs.Entries.{IsMap}
use Rattle.cache_model.specs.Cache.{dirty_between}
use Rattle.cache_model.specs.CacheList.{Held, CacheList}
use Rattle.cache_model.proofs.MapLemmas.{eq_key}
use Rattle.mapping.specs.Numbers.{number_of, HasNumber, AreNumbered}
use Rattle.ssc.specs.declared.cache.Ssc.{Ssc}
use Rattle.ssc.specs.CacheState.{Holds, entries_of}
use Rattle.mapping.specs.declared.bits.Choice.TheVariants.{Dirty}
use Rattle.mapping.specs.Bits.{chosen_of, is_chosen, set_of}
use Rattle.ssc.specs.Listed.{dirty_pages, is_held_dirty, is_dirty_from, times_listed, AddsListed, AddsNumber, IsListedAt, listed}
use Rattle.ssc.proofs.HoldsLemmas.{held_none, held_some}
use Rattle.ssc.proofs.NumberLemmas.{one_address, one_if, sorted_entries, the_entry}
use Rattle.cache_model.proofs.MapLemmas.{less_key}

-- ---- one entry

module _ (g : Geometry) (m : Entries) (is_map : IsMap g m) (i a from end : ℕ) (at : Place) (is : HasNumber g m i (a, at)) where
  pub not_dirty : ((e : Entry) × (get m a ≡ Some e) × (e.dirty ≡ true) → ⊥) → IsListedAt g m from end i None
  not_dirty never = the_entry g m is_map i a at is (λ x. is_dirty_from from end x ≡ false) (elim (cases_Bool is.owns.0.dirty) [
    | inl t ↦ absurd (never (is.owns.0, is.owns.1, t))
    | inr f ↦ ap (λ b. b && nat_le from a && nat_lt a end) f
  ])

  pub not_low : a < from → IsListedAt g m from end i None
  not_low low = the_entry g m is_map i a at is (λ x. is_dirty_from from end x ≡ false) (outside is.owns.0.dirty)
    where
      outside : (dirty : Bool) → (dirty && nat_le from a && nat_lt a end) ≡ false
      outside dirty = grind (arith, nat_tests)

  pub not_high : end ≤ a → IsListedAt g m from end i None
  not_high high = the_entry g m is_map i a at is (λ x. is_dirty_from from end x ≡ false) (outside is.owns.0.dirty)
    where
      outside : (dirty : Bool) → (dirty && nat_le from a && nat_lt a end) ≡ false
      outside dirty = grind (arith, nat_tests)

-- ---- along the numbers

-- how often an address is listed, whose page has a number below the end
abbrev pub times_below : Geometry → ℕ → ℕ → ℕ → ℕ → Option Entry → ℕ
times_below g from to end a None = 0
times_below g from to end a (Some e) = one_if (is_dirty_from from to (a, e) && nat_lt (number_of g e.place) end)

-- the old items come first, and then once each listed address whose page has a number below the end
pub record ListedSoFar (g : Geometry) (m : Entries) (from to end : ℕ) (old now : List ℕ) : Type 0 where
  pub found : List ℕ
  pub items : now ≡ old ++ found
  pub each : (a : ℕ) → count_by (λ n. n == a) found ≡ times_below g from to end a (get m a)

pub listed_none : (g : Geometry) (m : Entries) (from to : ℕ) (old : List ℕ) → ListedSoFar g m from to 0 old old
listed_none g m from to old = record { found = []; items = sym (append-nil old); each = λ a. none a (get m a) }
  where
    below_zero : (n : ℕ) → nat_lt n 0 ≡ false
    below_zero n = grind (arith, nat_tests)

    never : (b : Bool) (n : ℕ) → 0 ≡ one_if (b && nat_lt n 0)
    never true n = sym (ap one_if (below_zero n))
    never false n = refl

    none : (a : ℕ) (o : Option Entry) → 0 ≡ times_below g from to 0 a o
    none a None = refl
    none a (Some e) = never (is_dirty_from from to (a, e)) (number_of g e.place)

-- an address whose page has another number, or that isn't listed
times_same : (g : Geometry) (from to end a : ℕ) (o : Option Entry) → ((e : Entry) → o ≡ Some e → number_of g e.place ≡ end → is_dirty_from from to (a, e) ≡ false) → times_below g from to (end + 1) a o ≡ times_below g from to end a o
times_same g from to end a None other = refl
times_same g from to end a (Some e) other = by (is_dirty_from from to (a, e)) (number_of g e.place) (other e refl)
  where
    apart : (n : ℕ) → (n ≡ end → ⊥) → nat_lt n (end + 1) ≡ nat_lt n end
    apart n other = grind (arith, nat_tests)

    by : (b : Bool) (n : ℕ) → (n ≡ end → b ≡ false) → one_if (b && nat_lt n (end + 1)) ≡ one_if (b && nat_lt n end)
    by true n other = ap one_if (apart n (λ is. false≢true (sym (other is))))
    by false n other = refl

times_one : (g : Geometry) (from to end a : ℕ) (e : Entry) → number_of g e.place ≡ end → is_dirty_from from to (a, e) ≡ true → times_below g from to (end + 1) a (Some e) ≡ times_below g from to end a (Some e) + 1
times_one g from to end a e number shows = by (is_dirty_from from to (a, e)) (number_of g e.place) shows number
  where
    here : (n : ℕ) → n ≡ end → one_if (nat_lt n (end + 1)) ≡ one_if (nat_lt n end) + 1
    here n number = grind (arith, nat_tests)

    by : (b : Bool) (n : ℕ) → b ≡ true → n ≡ end → one_if (b && nat_lt n (end + 1)) ≡ one_if (b && nat_lt n end) + 1
    by true n is number = here n number
    by false n is number = absurd (cc)

pub listed_more : (g : Geometry) (m : Entries) (from to end : ℕ) (old now new : List ℕ) → IsMap g m → ListedSoFar g m from to end old now → AddsNumber g m from to end now new → ListedSoFar g m from to (end + 1) old new
listed_more g m from to end old now new is_map so_far (None, other, is) = record {
  found = so_far.found;
  items = is ∙ append-nil now ∙ so_far.items;
  each = λ a. so_far.each a ∙ sym (times_same g from to end a (get m a) (λ e there number. other a e there number));
}
listed_more g m from to end old now new is_map so_far (Some lba, (e, there, number, shows), is) = record {
  found = so_far.found ++ lba ∷ [];
  items = is ∙ ap (λ l. l ++ lba ∷ []) so_far.items ∙ append_assoc old so_far.found (lba ∷ []);
  each = λ a.
      let push = sum_by_push (λ n. one_if (n == a)) so_far.found lba in
      let before = so_far.each a in
      elim (cases_Bool (lba == a)) [
        | inl t ↦
            let same : lba ≡ a = eqb-true lba a t in
            let here : get m a ≡ Some e = ap (get m) (sym same) ∙ there in
            let one = times_one g from to end a e number (ap (λ n. is_dirty_from from to (n, e)) (sym same) ∙ shows) in
            let added : one_if (lba == a) ≡ 1 = ap one_if t in
            let was : times_below g from to end a (get m a) ≡ times_below g from to end a (Some e) = ap (times_below g from to end a) here in
            let now : times_below g from to (end + 1) a (get m a) ≡ times_below g from to (end + 1) a (Some e) = ap (times_below g from to (end + 1) a) here in
            omega arith
        | inr f ↦
            let same = times_same g from to end a (get m a) (λ f' there' number'. absurd (both_ways (lba == a) f (eq-eqb lba a (one_address g m is_map lba a e f' there there' (number ∙ sym number'))))) in
            let added : one_if (lba == a) ≡ 0 = ap one_if f in
            omega arith
      ];
}

-- all entries have a number below the end
pub listed_all : (g : Geometry) (m : Entries) (from to end : ℕ) (old now : List ℕ) → AreNumbered g m end → ListedSoFar g m from to end old now → AddsListed from to m old now
listed_all g m from to end old now numbered so_far = record {
  found = so_far.found;
  items = so_far.items;
  each = λ a. so_far.each a ∙ whole a (get m a) (λ e there. numbered a e there);
}
  where
    drop_test : (b c : Bool) → c ≡ true → one_if (b && c) ≡ one_if b
    drop_test true c t = ap one_if t
    drop_test false c t = refl

    whole : (a : ℕ) (o : Option Entry) → ((e : Entry) → o ≡ Some e → number_of g e.place < end) → times_below g from to end a o ≡ times_listed from to a o
    whole a None low = refl
    whole a (Some e) low = drop_test (is_dirty_from from to (a, e)) (nat_lt (number_of g e.place) end) (lt-ltb _ _ (low e refl))

-- the old items are still the front
pub listed_front : (g : Geometry) (m : Entries) (from to end : ℕ) (old now : List ℕ) → ListedSoFar g m from to end old now → take (length old) now ≡ old
listed_front g m from to end old now so_far = ap (take (length old)) so_far.items ∙ take-append_seam old so_far.found

-- ---- how often each number is in a list

-- a fact that holds of each member holds of a number that is counted
all_counted : (P : ℕ → Type 0) (ns : List ℕ) (a : ℕ) → AllByRecursion P ns → 1 ≤ count_by (λ n. n == a) ns → P a
all_counted P [] a all some = absurd (omega arith)
all_counted P (n ∷ ns) a all some = elim (cases_Bool (n == a)) [
  | inl t ↦ subst P (eqb-true n a t) all.0
  | inr f ↦ all_counted P ns a all.1 (let cons = sum_by-cons (λ k. one_if (k == a)) n ns in let none : one_if (n == a) ≡ 0 = ap one_if f in omega arith)
]

-- no number is above one that comes later
abbrev Rises : List ℕ → Type 0
Rises [] = Unit {0}
Rises (n ∷ ns) = AllByRecursion (λ k. n ≤ k) ns × Rises ns

-- the first is counted
first_counted : (n : ℕ) (ns : List ℕ) → 1 ≤ count_by (λ k. k == n) (n ∷ ns)
first_counted n ns = let cons = sum_by-cons (λ k. one_if (k == n)) n ns in let one : one_if (n == n) ≡ 1 = ap one_if (eq-eqb n n refl) in omega arith

-- two such lists that have each number equally often are equal
same_rising : (ns ks : List ℕ) → Rises ns → Rises ks → ((a : ℕ) → count_by (λ n. n == a) ns ≡ count_by (λ n. n == a) ks) → ns ≡ ks
same_rising [] [] up up' same = refl
same_rising [] (k ∷ ks) up up' same = let some = first_counted k ks in let none = same k in absurd (omega arith)
same_rising (n ∷ ns) [] up up' same = let some = first_counted n ns in let none = same n in absurd (omega arith)
same_rising (n ∷ ns) (k ∷ ks) up up' same =
    let low = all_counted (λ a. n ≤ a) (n ∷ ns) k (omega arith, up.0) (let some = first_counted k ks in let is = same k in omega arith) in
    let low' = all_counted (λ a. k ≤ a) (k ∷ ks) n (omega arith, up'.0) (let some = first_counted n ns in let is = same n in omega arith) in
    let first : n ≡ k = omega arith in
    let rest = same_rising ns ks up.1 up'.1 (λ a.
    let cons = sum_by-cons (λ b. one_if (b == a)) n ns in
    let cons' = sum_by-cons (λ b. one_if (b == a)) k ks in
    let is = same a in
    let one : one_if (n == a) ≡ one_if (k == a) = ap (λ b. one_if (b == a)) first in
    omega arith) in
    ap (λ l. n ∷ l) rest ∙ ap (λ b. b ∷ ks) first

-- ---- the listed entries

-- a number, or nothing
abbrev if_listed : Bool → ℕ → ℕ
if_listed b n = cond b n 0

module _ (from end : ℕ) where
  split : (x : ℕ × Entry) (es : List (ℕ × Entry)) (a : ℕ) → count_by (λ n. n == a) (listed from end (x ∷ es)) ≡ if_listed (is_dirty_from from end x) (one_if (x.0 == a)) + count_by (λ n. n == a) (listed from end es)
  split x es a = by (is_dirty_from from end x)
    where
      by : (b : Bool) → count_by (λ n. n == a) (map (λ (y : ℕ × Entry). y.0) (cond b (x ∷ filter (is_dirty_from from end) es) (filter (is_dirty_from from end) es))) ≡ if_listed b (one_if (x.0 == a)) + count_by (λ n. n == a) (listed from end es)
      by true = sum_by-cons (λ n. one_if (n == a)) x.0 (listed from end es)
      by false = omega arith

  either_zero : (b : Bool) → if_listed b 0 ≡ 0
  either_zero true = refl
  either_zero false = refl

  -- an address below all others
  none_below : (es : List (ℕ × Entry)) (a k : ℕ) → a ≡ k → below_all nat_cmp k es ≡ true → count_by (λ n. n == a) (listed from end es) ≡ 0
  none_below [] a k same low = refl
  none_below (x ∷ es) a k same low =
      let parts = and_parts (is_lt (nat_cmp k x.0)) (below_all nat_cmp k es) low in
      let less = less_key k x.0 parts.0 in
      let rest = none_below es a k same parts.1 in
      let whole = split x es a in
      let first : if_listed (is_dirty_from from end x) (one_if (x.0 == a)) ≡ 0 = ap (λ b. if_listed (is_dirty_from from end x) (one_if b)) (ne_eqb x.0 a (λ is. absurd (omega arith))) ∙ either_zero (is_dirty_from from end x) in
      omega arith

  times_there : (es : List (ℕ × Entry)) → is_sorted nat_cmp es ≡ true → (a : ℕ) → count_by (λ n. n == a) (listed from end es) ≡ times_listed from end a (find nat_cmp a es)
  times_there [] sorted a = refl
  times_there (x ∷ es) sorted a =
      let parts = and_parts (below_all nat_cmp x.0 es) (is_sorted nat_cmp es) sorted in
      let whole = split x es a in
      elim (cases_Bool (a == x.0)) [
        | inl t ↦
            let same : a ≡ x.0 = eqb-true a x.0 t in
            let rest = none_below es a x.0 same parts.0 in
            let found : times_listed from end a (find nat_cmp a (x ∷ es)) ≡ times_listed from end a (Some x.1) = ap (λ b. times_listed from end a (cond b (Some x.1) (find nat_cmp a es))) (eq_key a x.0 ∙ t) in
            let first : if_listed (is_dirty_from from end x) (one_if (x.0 == a)) ≡ times_listed from end a (Some x.1) = ap (λ b. if_listed (is_dirty_from from end x) (one_if b)) (eq-eqb x.0 a (sym same)) ∙ ap (λ n. one_if (is_dirty_from from end (n, x.1))) (sym same) in
            omega arith
        | inr f ↦
            let rest = times_there es parts.1 a in
            let found : times_listed from end a (find nat_cmp a (x ∷ es)) ≡ times_listed from end a (find nat_cmp a es) = ap (λ b. times_listed from end a (cond b (Some x.1) (find nat_cmp a es))) (eq_key a x.0 ∙ f) in
            let first : if_listed (is_dirty_from from end x) (one_if (x.0 == a)) ≡ 0 = ap (λ b. if_listed (is_dirty_from from end x) (one_if b)) (ne_eqb x.0 a (λ is. both_ways (a == x.0) f (eq-eqb a x.0 (sym is)))) ∙ either_zero (is_dirty_from from end x) in
            omega arith
      ]

  above_all : (es : List (ℕ × Entry)) (k : ℕ) → below_all nat_cmp k es ≡ true → AllByRecursion (λ n. k ≤ n) (listed from end es)
  above_all [] k low = tt
  above_all (x ∷ es) k low =
      let parts = and_parts (is_lt (nat_cmp k x.0)) (below_all nat_cmp k es) low in
      by (is_dirty_from from end x) (less_key k x.0 parts.0) (above_all es k parts.1)
    where
      by : (b : Bool) → k < x.0 → AllByRecursion (λ n. k ≤ n) (listed from end es) → AllByRecursion (λ n. k ≤ n) (map (λ (y : ℕ × Entry). y.0) (cond b (x ∷ filter (is_dirty_from from end) es) (filter (is_dirty_from from end) es)))
      by true less rest = (omega arith, rest)
      by false less rest = rest

  listed_rises : (es : List (ℕ × Entry)) → is_sorted nat_cmp es ≡ true → Rises (listed from end es)
  listed_rises [] sorted = tt
  listed_rises (x ∷ es) sorted =
      let parts = and_parts (below_all nat_cmp x.0 es) (is_sorted nat_cmp es) sorted in
      by (is_dirty_from from end x) (above_all es x.0 parts.0) (listed_rises es parts.1)
    where
      by : (b : Bool) → AllByRecursion (λ n. x.0 ≤ n) (listed from end es) → Rises (listed from end es) → Rises (map (λ (y : ℕ × Entry). y.0) (cond b (x ∷ filter (is_dirty_from from end) es) (filter (is_dirty_from from end) es)))
      by true low rest = (low, rest)
      by false low rest = rest

-- a sorted list rises
rises_sorted : (ns : List ℕ) → IsNonDecreasingBy (λ n. n) ns → Rises ns
rises_sorted [] up = tt
rises_sorted (n ∷ ns) up = (later ns (λ i low. up 0 (suc i) 0 (omega arith) (omega arith)), rises_sorted ns (λ i j d le low. up (suc i) (suc j) d (omega arith) (omega arith)))
  where
    later : (ks : List ℕ) → ((i : ℕ) → i < length ks → n ≤ get_or ks i 0) → AllByRecursion (λ k. n ≤ k) ks
    later [] each = tt
    later (k ∷ ks) each = (each 0 (omega arith), later ks (λ i low. each (suc i) (omega arith)))

-- the sorted addresses are the addresses of the entries
pub sorted_listed : (from end : ℕ) (m : Entries) (found sorted : List ℕ) → ((a : ℕ) → count_by (λ n. n == a) found ≡ times_listed from end a (get m a)) → IsPermutation found sorted → IsNonDecreasingBy (λ n. n) sorted → sorted ≡ listed from end (entries m)
sorted_listed from end m found sorted each moved up = same_rising sorted (listed from end (entries m)) (rises_sorted sorted up) (listed_rises from end (entries m) (sorted_entries m)) (λ a.
    sum_by-IsPermutation (λ n. one_if (n == a)) found sorted moved
    ∙ each a
    ∙ ap (times_listed from end a) (get-entries m a)
    ∙ sym (times_there from end (entries m) (sorted_entries m) a))

-- ---- a list whose last part is sorted

module _ (before len : ℕ) (old found now items sorted : List ℕ) (shows : now ≡ items) (is : items ≡ old ++ found) (len_is : len ≡ length items) (before_is : before ≡ length old) where
  abbrev after : List ℕ
  after = put_mid before (length now - before) now sorted

  tail : drop before now ≡ found
  tail = ap (drop before) (shows ∙ is) ∙ ap (λ n. drop n (old ++ found)) before_is ∙ drop-append_seam old found

  count : length now ≡ length old + length found
  count = ap (λ (l : List ℕ). length l) (shows ∙ is) ∙ length-append old found

  few : length found ≤ length now - before
  few = let all = count in omega arith

  pub part_is : mid_of before (length now - before) now ≡ found
  part_is = ap (take (length now - before)) tail ∙ take_all (length now - before) found few

  pub sorted_part : length sorted ≡ length found → take len (after ++ drop (length after) items) ≡ old ++ sorted
  sorted_part same =
      let front : take before now ≡ old = ap (take before) (shows ∙ is) ∙ ap (λ n. take n (old ++ found)) before_is ∙ take-append_seam old found in
      let past : post_of before (length now - before) now ≡ [] = ap (drop (length now - before)) tail ∙ drop_of_length-le found {i = length now - before} few in
      let parts : after ≡ old ++ sorted = ap (λ l. l ++ (sorted ++ post_of before (length now - before) now)) front ∙ ap (λ l. old ++ (sorted ++ l)) past ∙ ap (λ l. old ++ l) (append-nil sorted) in
      let sum : length after ≡ length old + length sorted = ap (λ (l : List ℕ). length l) parts ∙ length-append old sorted in
      let all = count in
      let showing : length now ≡ length items = ap (λ (l : List ℕ). length l) shows in
      let same_len : len ≡ length after = omega arith in
      ap (λ n. take n (after ++ drop (length after) items)) same_len ∙ take-append_seam after (drop (length after) items) ∙ parts

-- ---- the list of the cache has the same marks

abbrev pub marks : {X : Type 0} → (X → Bool) → List (ℕ × X) → List (ℕ × Bool)
marks dirty es = map (λ x. (x.0, dirty x.1)) es

pub find_marks : {X : Type 0} (dirty : X → Bool) (q : ℕ) (es : List (ℕ × X)) → find nat_cmp q (marks dirty es) ≡ option_map dirty (find nat_cmp q es)
find_marks dirty q [] = refl
find_marks dirty q (e ∷ es) = by (eq_by_cmp nat_cmp q e.0) (find_marks dirty q es)
  where
    by : (b : Bool) → find nat_cmp q (marks dirty es) ≡ option_map dirty (find nat_cmp q es) → cond b (Some (dirty e.1)) (find nat_cmp q (marks dirty es)) ≡ option_map dirty (cond b (Some e.1) (find nat_cmp q es))
    by true rest = refl
    by false rest = rest

below_marks : {X : Type 0} (dirty : X → Bool) (k : ℕ) (es : List (ℕ × X)) → below_all nat_cmp k (marks dirty es) ≡ below_all nat_cmp k es
below_marks dirty k [] = refl
below_marks dirty k (e ∷ es) = ap (λ b. is_lt (nat_cmp k e.0) && b) (below_marks dirty k es)

sorted_marks : {X : Type 0} (dirty : X → Bool) (es : List (ℕ × X)) → is_sorted nat_cmp (marks dirty es) ≡ is_sorted nat_cmp es
sorted_marks dirty [] = refl
sorted_marks dirty (e ∷ es) = ap (λ b. b && is_sorted nat_cmp (marks dirty es)) (below_marks dirty e.0 es) ∙ ap (λ b. below_all nat_cmp e.0 es && b) (sorted_marks dirty es)

pub marks_sorted : {X : Type 0} (dirty : X → Bool) (m : FinMap nat_cmp X) → T (is_sorted nat_cmp (marks dirty (entries m)))
marks_sorted dirty m = subst T (sym (sorted_marks dirty (entries m))) (entries_sorted m)

pub same_marks : (m : Entries) (s : CacheList) → ((a : ℕ) → option_map (λ (h : Held). h.dirty) (get s a) ≡ option_map (λ (e : Entry). e.dirty) (get m a)) → marks (λ (h : Held). h.dirty) (entries s) ≡ marks (λ (e : Entry). e.dirty) (entries m)
same_marks m s same = same_entries nat_cmp nat_cmp_total nat_cmp-IsAntisymmetric _ _ (marks_sorted (λ (h : Held). h.dirty) s) (marks_sorted (λ (e : Entry). e.dirty) m) (λ q.
    find_marks (λ (h : Held). h.dirty) q (entries s) ∙ ap (option_map (λ (h : Held). h.dirty)) (sym (get-entries s q))
    ∙ same q
    ∙ sym (find_marks (λ (e : Entry). e.dirty) q (entries m) ∙ ap (option_map (λ (e : Entry). e.dirty)) (sym (get-entries m q))))

abbrev pub marked_between : ℕ → ℕ → List (ℕ × Bool) → List ℕ
marked_between from end es = map (λ x. x.0) (filter (λ x. x.1 && nat_le from x.0 && nat_lt x.0 end) es)

pub by_marks : {X : Type 0} (dirty : X → Bool) (from end : ℕ) (es : List (ℕ × X)) → map (λ x. x.0) (filter (λ x. dirty x.1 && nat_le from x.0 && nat_lt x.0 end) es) ≡ marked_between from end (marks dirty es)
by_marks dirty from end [] = refl
by_marks dirty from end (e ∷ es) = by (dirty e.1 && nat_le from e.0 && nat_lt e.0 end) (by_marks dirty from end es)
  where
    by : (b : Bool) → map (λ x. x.0) (filter (λ x. dirty x.1 && nat_le from x.0 && nat_lt x.0 end) es) ≡ marked_between from end (marks dirty es)
        → map (λ x. x.0) (cond b (e ∷ filter (λ x. dirty x.1 && nat_le from x.0 && nat_lt x.0 end) es) (filter (λ x. dirty x.1 && nat_le from x.0 && nat_lt x.0 end) es)) ≡ map (λ x. x.0)
        (cond b ((e.0, dirty e.1) ∷ filter (λ x. x.1 && nat_le from x.0 && nat_lt x.0 end) (marks dirty es)) (filter (λ x. x.1 && nat_le from x.0 && nat_lt x.0 end) (marks dirty es)))
    by true rest = ap (λ l. e.0 ∷ l) rest
    by false rest = rest

length_marks : {X : Type 0} (dirty : X → Bool) (es : List (ℕ × X)) → length (marks dirty es) ≡ length es
length_marks dirty [] = refl
length_marks dirty (e ∷ es) = ap suc (length_marks dirty es)

-- the dirty entries are the entries of a list that is dirty at the same addresses
pub listed_alike : (m : Entries) (s : CacheList) → ((a : ℕ) → option_map (λ (h : Held). h.dirty) (get s a) ≡ option_map (λ (e : Entry). e.dirty) (get m a)) → (from count : ℕ) → listed from (from + count) (entries m) ≡ dirty_between from count s
listed_alike m s alike from count =
    by_marks (λ (e : Entry). e.dirty) from (from + count) (entries m)
    ∙ ap (marked_between from (from + count)) (sym (same_marks m s alike))
    ∙ sym (by_marks (λ (h : Held). h.dirty) from (from + count) (entries s))

module _ (c : Ssc) (contents : Contents) (s : CacheList) (holds : Holds c contents s) where
  pub dirty_alike : (a : ℕ) → option_map (λ (h : Held). h.dirty) (get s a) ≡ option_map (λ (e : Entry). e.dirty) (get (entries_of c) a)
  dirty_alike a = by (get (entries_of c) a) refl
    where
      by : (o : Option Entry) → get (entries_of c) a ≡ o → option_map (λ (h : Held). h.dirty) (get s a) ≡ option_map (λ (e : Entry). e.dirty) o
      by None is = ap (option_map (λ (h : Held). h.dirty)) (held_none c contents s a holds is)
      by (Some e) is = let h = held_some c contents s a e holds is in ap (option_map (λ (h : Held). h.dirty)) h.1 ∙ ap Some h.2

  pub listed_is : (from count : ℕ) → listed from (from + count) (entries (entries_of c)) ≡ dirty_between from count s
  listed_is from count = listed_alike (entries_of c) s dirty_alike from count

  -- there are as many entries as held blocks
  pub held_same : length (entries (entries_of c)) ≡ length (entries s)
  held_same =
      sym (length_marks (λ (e : Entry). e.dirty) (entries (entries_of c)))
      ∙ ap (λ (l : List (ℕ × Bool)). length l) (sym (same_marks (entries_of c) s dirty_alike))
      ∙ length_marks (λ (h : Held). h.dirty) (entries s)

  -- the same pages of a group are dirty
  pub pages_same : (g : Geometry) (group : ℕ) → chosen_of Dirty g (entries_of c) group ≡ dirty_pages g s group
  pages_same g group = ap (λ (test : ℕ → Bool). set_of test g.p) (λ k i. alike (group * g.p + i) k)
    where
      chosen_is : (o : Option Entry) → is_chosen Dirty o ≡ unwrap_or (option_map (λ (e : Entry). e.dirty) o) false
      chosen_is None = refl
      chosen_is (Some e) = refl

      alike : (a : ℕ) → is_chosen Dirty (get (entries_of c) a) ≡ is_held_dirty s a
      alike a = chosen_is (get (entries_of c) a) ∙ ap (λ (o : Option Bool). unwrap_or o false) (sym (dirty_alike a))
