-- What a search finds among sorted pairs, and what an edit at that place does to the counts.
use Rattle.std.proofs.Common.{◌≡◌, ◌≢◌, ℕ, zero, suc, ◌+◌, ◌-◌, ◌<◌, ◌≤◌, ◌==◌, cond, List, [], ◌∷◌, length, get_or, set, Result, Ok, Err, IfOk, IfErr, refl, sym, ◌∙◌, ap, subst, inl, inr, arith, ne_eqb}
use Rattle.std.specs.List.{insert, remove}
use Rattle.std.specs.List.Sorted.{IsSearchInRange, IsBinarySearchResult, IsNonDecreasingBy}
use Rattle.std.specs.Ordering.{nat_cmp, ordering_index}
use Rattle.std.proofs.lemmas.Cmp.{ranked}
use Rattle.std.proofs.lemmas.List.Sorted.{IsNonDecreasingBy-from_default}
use Rattle.std.proofs.lemmas.List.Edits.{length-insert, get_or-insert_below, get_or-insert_at, get_or-insert_above, length-remove, get_or-remove_below, get_or-remove_above}
use Rattle.std.proofs.lemmas.Bool.{cases_lt}
use Rattle.std.proofs.lemmas.Bool.Decides.{nat_tests}
use Rattle.std.proofs.lemmas.Grind.{common_steps}
use Rattle.mapping.specs.DirtyGroups.{Pairs, count_of, group_at, count_at, IsCounted, IsAt, IsGapFor, SetsOnly}

-- ---- what is counted in a list of pairs

-- no pair before place i has the group
abbrev pub NoneBefore : Pairs → ℕ → ℕ → Type 0
NoneBefore xs k i = (j : ℕ) → j < i → group_at xs j ≢ k

-- the new list has the count v at the group k, and is as the old one at any other
abbrev pub CountsAfter : Pairs → Pairs → ℕ → ℕ → Type 0
CountsAfter old new k v = (q : ℕ) → count_of new q ≡ cond (k == q) v (count_of old q)

none_in_tail : (x : ℕ × ℕ) (xs : Pairs) (k i : ℕ) → NoneBefore (x ∷ xs) k (suc i) → NoneBefore xs k i
none_in_tail x xs k i none j lt = none (suc j) (omega arith)

at_in_tail : (x : ℕ × ℕ) (xs : Pairs) (k i : ℕ) → IsAt (x ∷ xs) k (suc i) → IsAt xs k i
at_in_tail x xs k i is_at = record { within = omega (arith, is_at.within); has_group = is_at.has_group }

pub count_absent : (xs : Pairs) (k : ℕ) → NoneBefore xs k (length xs) → count_of xs k ≡ 0
count_absent [] k none = refl
count_absent (x ∷ xs) k none = grind (arith, nat_tests, none 0 (omega arith), count_absent xs k (none_in_tail x xs k _ none))

pub count_present : (xs : Pairs) (k i : ℕ) → IsAt xs k i → NoneBefore xs k i → count_of xs k ≡ count_at xs i
count_present [] k i is_at none = absurd (omega (arith, is_at.within))
count_present (x ∷ xs) k zero is_at none = grind (arith, nat_tests, is_at.has_group)
count_present (x ∷ xs) k (suc i) is_at none = grind (arith, nat_tests, none 0 (omega arith), count_present xs k i (at_in_tail x xs k i is_at) (none_in_tail x xs k i none))

pub count_set : (xs : Pairs) (k v i : ℕ) → IsAt xs k i → NoneBefore xs k i → CountsAfter xs (set xs i (k, v)) k v
count_set [] k v i is_at none q = absurd (omega (arith, is_at.within))
count_set (x ∷ xs) k v zero is_at none q = grind (arith, nat_tests, is_at.has_group)
count_set (x ∷ xs) k v (suc i) is_at none q = grind (arith, nat_tests, none 0 (omega arith), count_set xs k v i (at_in_tail x xs k i is_at) (none_in_tail x xs k i none) q)

pub count_insert : (xs : Pairs) (k v i : ℕ) → NoneBefore xs k i → CountsAfter xs (insert xs i (k, v)) k v
count_insert xs k v zero none q = refl
count_insert [] k v (suc i) none q = refl
count_insert (x ∷ xs) k v (suc i) none q = grind (arith, nat_tests, none 0 (omega arith), count_insert xs k v i (none_in_tail x xs k i none) q)

pub count_remove : (xs : Pairs) (k i : ℕ) → IsAt xs k i → (q : ℕ) → q ≢ k → count_of (remove xs i) q ≡ count_of xs q
count_remove [] k i is_at q apart = absurd (omega (arith, is_at.within))
count_remove (x ∷ xs) k zero is_at q apart = grind (arith, nat_tests, is_at.has_group)
count_remove (x ∷ xs) k (suc i) is_at q apart = ap (λ n. cond (x.0 == q) x.1 n) (count_remove xs k i (at_in_tail x xs k i is_at) q apart)

sets_only : (old new : Pairs) (k v : ℕ) → CountsAfter old new k v → SetsOnly old new k v
sets_only old new k v counts = record { here = grind (arith, nat_tests, counts k); others = λ q apart. grind (arith, nat_tests, counts q) }

-- a pair more or none, by its count
pub one_of : (k : ℕ) → 0 < k → ◌≡◌ {A = ℕ} (cond (k == 0) 0 1) 1
one_of k some = ap (λ b. cond b 0 1) (ne_eqb k 0 (λ e. absurd (omega (arith, some, e))))

pub none_of : (k : ℕ) → k ≡ 0 → ◌≡◌ {A = ℕ} (cond (k == 0) 0 1) 0
none_of k is = ap (λ j. cond (j == 0) 0 1) is

-- ---- a search by group

module _ (xs : Pairs) (all : IsCounted xs) (k : ℕ) where
  comparisons_rise : IsNonDecreasingBy (λ pair. ordering_index (nat_cmp pair.0 k)) xs
  comparisons_rise = IsNonDecreasingBy-from_default (λ pair. ordering_index (nat_cmp pair.0 k)) xs (0, 0) (λ i j le within.
      let rise : group_at xs i ≤ group_at xs j = grind (arith, all.rise i j, λ (same : i ≡ j). ap (group_at xs) same) in
      grind (arith, nat_tests))

  pub searched : (r : Result ℕ ℕ) → IsSearchInRange r (length xs) → IsBinarySearchResult (λ pair. nat_cmp pair.0 k) xs r → record { found : IfOk r (IsAt xs k); absent : IfErr r (IsGapFor xs k) }
  searched (Ok at) within equal = record { found = record { within = within; has_group = ranked _ k _ (sym (equal (0, 0))) }; absent = tt }
  searched (Err at) within parted = record {
    found = tt;
    absent = record {
      within = within;
      lower = λ j lt. ranked _ k _ (sym ((parted comparisons_rise).0 j (0, 0) (omega arith) lt));
      higher = λ j le lt. ranked _ k _ (sym ((parted comparisons_rise).1 j (0, 0) le lt));
    };
  }

-- ---- edits at the place of a group

module _ (xs : Pairs) (all : IsCounted xs) (k at : ℕ) (is_at : IsAt xs k at) where
  none_before : NoneBefore xs k at
  none_before j lt same = omega (arith, all.rise j at lt is_at.within, is_at.has_group)

  pub count_here : count_of xs k ≡ count_at xs at
  count_here = count_present xs k at is_at none_before

  pub some_here : 0 < count_of xs k
  some_here = let here = count_here in let some = all.some at is_at.within in omega (arith, here, some)

  pub set_only : (v : ℕ) → SetsOnly xs (set xs at (k, v)) k v
  set_only v = sets_only _ _ k v (count_set xs k v at is_at none_before)

  pub set_counted : (v : ℕ) → 0 < v → IsCounted (set xs at (k, v))
  set_counted v some = record {
    rise = λ i j lt within. grind (arith, common_steps, all.rise i j, all.rise i at, all.rise at j, is_at.within, is_at.has_group);
    some = λ i within. grind (arith, common_steps, all.some i, is_at.within);
  }

  below_left : (i : ℕ) → i < at → get_or (remove xs at) i (0, 0) ≡ get_or xs i (0, 0)
  below_left i low = get_or-remove_below xs at (0, 0) i low is_at.within

  above_left : (i : ℕ) → at ≤ i → get_or (remove xs at) i (0, 0) ≡ get_or xs (i + 1) (0, 0)
  above_left i high = get_or-remove_above xs at (0, 0) i high is_at.within

  pub remove_only : SetsOnly xs (remove xs at) k 0
  remove_only = record {
    here = count_absent (remove xs at) k (λ j within same.
        let long = length-remove xs at is_at.within in
        elim (cases_lt j at) [
          | inl low ↦ let is = ap (λ (x : ℕ × ℕ). x.0) (below_left j low) in omega (arith, all.rise j at low is_at.within, is_at.has_group, is, same)
          | inr high ↦ let is = ap (λ (x : ℕ × ℕ). x.0) (above_left j high) in omega (arith, all.rise at (j + 1) (omega arith) (omega (arith, long, within)), is_at.has_group, is, same)
        ]);
    others = λ q apart. count_remove xs k at is_at q apart;
  }

  pub remove_counted : IsCounted (remove xs at)
  remove_counted = record {
    rise = λ i j lt within.
        let long = length-remove xs at is_at.within in
        let key = λ (x : ℕ × ℕ). x.0 in
        let below : (i : ℕ) → i < at → group_at (remove xs at) i ≡ group_at xs i = λ i low. ap key (below_left i low) in
        let above : (i : ℕ) → at ≤ i → group_at (remove xs at) i ≡ group_at xs (i + 1) = λ i high. ap key (above_left i high) in
        grind (arith, below i, above i, below j, above j, all.rise i j, all.rise i (j + 1), all.rise (i + 1) (j + 1));
    some = λ i within.
        let long = length-remove xs at is_at.within in
        let count = λ (x : ℕ × ℕ). x.1 in
        let below : (i : ℕ) → i < at → count_at (remove xs at) i ≡ count_at xs i = λ i low. ap count (below_left i low) in
        let above : (i : ℕ) → at ≤ i → count_at (remove xs at) i ≡ count_at xs (i + 1) = λ i high. ap count (above_left i high) in
        grind (arith, below i, above i, all.some i, all.some (i + 1));
  }

-- ---- an edit where no pair has the group

module _ (xs : Pairs) (k at : ℕ) (gap : IsGapFor xs k at) where
  pub none_here : count_of xs k ≡ 0
  none_here = count_absent xs k (λ j lt same. grind (arith, gap.lower j, gap.higher j))

  pub same_only : SetsOnly xs xs k 0
  same_only = record { here = none_here; others = λ q apart. refl }

  pub insert_only : (v : ℕ) → SetsOnly xs (insert xs at (k, v)) k v
  insert_only v = sets_only _ _ k v (count_insert xs k v at (λ j lt same. omega (arith, gap.lower j lt)))

  pub insert_counted : (v : ℕ) → 0 < v → IsCounted xs → IsCounted (insert xs at (k, v))
  insert_counted v some all = record {
    rise = λ i j lt within.
        let new = insert xs at (k, v) in
        let key = λ (x : ℕ × ℕ). x.0 in
        let length_new = length-insert xs at (k, v) gap.within in
        let key_below : (i : ℕ) → i < at → group_at new i ≡ group_at xs i = λ i below. ap key (get_or-insert_below xs at (k, v) (0, 0) i below gap.within) in
        let key_here : (i : ℕ) → i ≡ at → group_at new i ≡ k = λ i here. rw here (ap key (get_or-insert_at xs at (k, v) (0, 0) gap.within)) in
        let key_above : (i : ℕ) → at < i → group_at new i ≡ group_at xs (i - 1) = λ i above. subst (λ q. group_at new q ≡ group_at xs (i - 1)) {x = i - 1 + 1} (omega arith) (ap key (get_or-insert_above xs at (k, v) (0, 0) (i - 1) (omega arith) gap.within)) in
        grind (arith, key_below i, key_here i, key_above i, key_below j, key_here j, key_above j, all.rise i j, all.rise i (j - 1), all.rise (i - 1) (j - 1), gap.lower i, gap.higher (j - 1));
    some = λ i within.
        let new = insert xs at (k, v) in
        let count = λ (x : ℕ × ℕ). x.1 in
        let length_new = length-insert xs at (k, v) gap.within in
        let below : (i : ℕ) → i < at → count_at new i ≡ count_at xs i = λ i below. ap count (get_or-insert_below xs at (k, v) (0, 0) i below gap.within) in
        let here : (i : ℕ) → i ≡ at → count_at new i ≡ v = λ i here. rw here (ap count (get_or-insert_at xs at (k, v) (0, 0) gap.within)) in
        let above : (i : ℕ) → at < i → count_at new i ≡ count_at xs (i - 1) = λ i above. subst (λ q. count_at new q ≡ count_at xs (i - 1)) {x = i - 1 + 1} (omega arith) (ap count (get_or-insert_above xs at (k, v) (0, 0) (i - 1) (omega arith) gap.within)) in
        grind (arith, below i, here i, above i, all.some i, all.some (i - 1));
  }
