-- The records of a checkpoint, offered one after another.
use Rattle.std.proofs.Common.{◌≡◌, ℕ, ◌+◌, ◌-◌, ◌*◌, ◌<◌, ◌≤◌, List, [], ◌∷◌, ◌++◌, length, get_or, take, drop, map, Option, refl, sym, ◌∙◌, ap, ap₂, subst, arith, inl, inr, ◌⊎◌, length-append, append-nil, append_assoc}
use Rattle.std.proofs.lemmas.Bool.{cases_lt}
use Rattle.std.proofs.lemmas.List.{get_or_append_left, take_more, take_all, take-append-drop, length-map, length-drop, length-take-le, get_or-take, get_or-drop, same_lists, map-append}
use Rattle.std.proofs.Math.Seq.{take-append-add}
use Rattle.ft_base.specs.declared.record.Record.{Record}
use Rattle.sparse_map.specs.Slots.{items_of, group}
use Rattle.sparse_map.proofs.ItemLemmas.{items_of-append}
use Rattle.mapping.specs.Checkpoint.{HasWindow}

-- ---- the window

pub window_none : (from : ℕ) (out : List Record) → HasWindow [] from out
window_none from out = record { at = λ j d low high. absurd (omega arith) }

-- records that lie outside of the window
pub skipped : (records more out : List Record) (from : ℕ) → (length records + length more ≤ from) ⊎ (from + length out ≤ length records) → HasWindow records from out → HasWindow (records ++ more) from out
skipped records more out from past has = record {
  at = λ j d low within room.
      let longer = length-append records more in
      elim (cases_lt j (length records)) [
        | inl low' ↦ has.at j d low low' room ∙ sym (get_or_append_left records more d j low')
        | inr high ↦ absurd (outside past j low high within room longer)
      ];
}
  where
    outside : (length records + length more ≤ from) ⊎ (from + length out ≤ length records) → (j : ℕ) → from ≤ j → length records ≤ j → j < length (records ++ more) → j < from + length out → length (records ++ more) ≡ length records + length more → ⊥
    outside (inl before) j low high within room longer = absurd (omega arith)
    outside (inr after) j low high within room longer = absurd (omega arith)

-- ---- a list of items

module _ {X : Type 0} (f : X → Record) where
  -- the records of the first i items are offered
  pub record ItemsOffered (items : List X) (before from : ℕ) (old now : List Record) (i at : ℕ) : Type 0 where
    pub at_is : at ≡ before + i
    pub window : (records : List Record) → length records ≡ before → HasWindow records from old → HasWindow (records ++ map f (take i items)) from now

  pub items_none : (items : List X) (before from : ℕ) (out : List Record) → ItemsOffered items before from out out 0 before
  items_none items before from out = record { at_is = omega arith; window = λ records long has. subst (λ (l : List Record). HasWindow l from out) (sym (append-nil records)) has }

  pub items_more : (items : List X) (before from : ℕ) (old now now' : List Record) (i at : ℕ) (d : X) → i < length items → ItemsOffered items before from old now i at
      → ((records : List Record) → length records ≡ at → HasWindow records from now → HasWindow (records ++ f (get_or items i d) ∷ []) from now')
      → ItemsOffered items before from old now' (i + 1) (at + 1)
  items_more items before from old now now' i at d within so_far offer =
      let x = get_or items i d in
      let more : map f (take (i + 1) items) ≡ map f (take i items) ++ f (get_or items i d) ∷ [] = ap (map f) (take_more items i d within) ∙ map-append f (take i items) (get_or items i d ∷ []) in
      let count : length (map f (take i items)) ≡ i = length-map (take i items) f ∙ length-take-le i items (omega arith) in
      let is = so_far.at_is in
      record {
        at_is = omega (arith, is);
        window = λ records long has. subst (λ (l : List Record). HasWindow l from now') (append_assoc records (map f (take i items)) (f (get_or items i d) ∷ []) ∙ ap (λ (l : List Record). records ++ l) (sym more))
            (offer (records ++ map f (take i items)) (length-append records (map f (take i items)) ∙ ap₂ (λ a b. a + b) long count ∙ sym is) (so_far.window records long has));
      }

  pub items_all : (items : List X) (before from : ℕ) (old now : List Record) (i at : ℕ) → length items ≤ i → ItemsOffered items before from old now i at → (records : List Record) → length records ≡ before → HasWindow records from old → HasWindow (records ++ map f items) from now
  items_all items before from old now i at all so_far records long has = subst (λ (l : List X). HasWindow (records ++ map f l) from now) (take_all i items all) (so_far.window records long has)

  pub items_skipped : (items : List X) (before from : ℕ) (out : List Record) → (before + length items ≤ from) ⊎ (from + length out ≤ before) → (records : List Record) → length records ≡ before → HasWindow records from out → HasWindow (records ++ map f items) from out
  items_skipped items before from out past records long has = skipped records (map f items) out from (by_side past) has
    where
      same : length (map f items) ≡ length items
      same = length-map items f

      by_side : (before + length items ≤ from) ⊎ (from + length out ≤ before) → (length records + length (map f items) ≤ from) ⊎ (from + length out ≤ length records)
      by_side (inl low) = inl (omega (arith, same, long, low))
      by_side (inr high) = inr (omega (arith, long, high))

-- ---- the items of a table, group by group

no_items : {X : Type 0} → items_of {X = X} [] ≡ []
unfolding items_of
no_items = refl

module _ {X : Type 0} (f : X → Record) (slots : List (Option X)) where
  -- the records of the items in the first i groups of buckets are offered
  pub record GroupsOffered (before from : ℕ) (old now : List Record) (i at : ℕ) : Type 0 where
    pub at_is : at ≡ before + length (items_of (take (32 * i) slots))
    pub window : (records : List Record) → length records ≡ before → HasWindow records from old → HasWindow (records ++ map f (items_of (take (32 * i) slots))) from now

  none_taken : items_of (take (32 * 0) slots) ≡ []
  none_taken = ap (λ n. items_of (take n slots)) start ∙ no_items
    where
      start : 32 * 0 ≡ 0
      start = omega arith

  pub groups_none : (before from : ℕ) (out : List Record) → GroupsOffered before from out out 0 before
  groups_none before from out = record {
    at_is = nothing before ∙ ap (λ (l : List X). before + length l) (sym none_taken);
    window = λ records long has. subst (λ (l : List X). HasWindow (records ++ map f l) from out) (sym none_taken) (subst (λ (l : List Record). HasWindow l from out) (sym (append-nil records)) has);
  }
    where
      nothing : (n : ℕ) → n ≡ n + 0
      nothing n = omega arith

  one_group : (i : ℕ) → 32 * i ≤ length slots → items_of (take (32 * (i + 1)) slots) ≡ items_of (take (32 * i) slots) ++ items_of (group slots i)
  one_group i within =
      let split : 32 * (i + 1) ≡ 32 * i + 32 = omega arith in
      let front : length (take (32 * i) slots) ≡ 32 * i = length-take-le (32 * i) slots within in
      ap (λ n. items_of (take n slots)) (split ∙ ap (λ n. n + 32) (sym front))
      ∙ ap (λ (l : List (Option X)). items_of (take (length (take (32 * i) slots) + 32) l)) (sym (take-append-drop (32 * i) slots))
      ∙ ap items_of (take-append-add (take (32 * i) slots) (drop (32 * i) slots) 32)
      ∙ items_of-append (take (32 * i) slots) (take 32 (drop (32 * i) slots))

  pub groups_more : (before from : ℕ) (old now now' : List Record) (i at : ℕ) (items : List X) → 32 * i < length slots → items ≡ items_of (group slots i) → GroupsOffered before from old now i at
      → ((records : List Record) → length records ≡ at → HasWindow records from now → HasWindow (records ++ map f items) from now') → GroupsOffered before from old now' (i + 1) (at + length items)
  groups_more before from old now now' i at items within are so_far offer =
      let front = items_of (take (32 * i) slots) in
      let more : items_of (take (32 * (i + 1)) slots) ≡ items_of (take (32 * i) slots) ++ items = one_group i (omega arith) ∙ ap (λ (l : List X). items_of (take (32 * i) slots) ++ l) (sym are) in
      record {
        at_is = ap (λ n. n + length items) so_far.at_is ∙ moved before (length (items_of (take (32 * i) slots))) (length items) ∙ ap (λ n. before + n) (sym (length-append (items_of (take (32 * i) slots)) items)) ∙ ap (λ (l : List X). before + length l) (sym more);
        window = λ records long has. subst (λ (l : List Record). HasWindow l from now')
            (append_assoc records (map f (items_of (take (32 * i) slots))) (map f items) ∙ ap (λ (l : List Record). records ++ l) (sym (map-append f (items_of (take (32 * i) slots)) items) ∙ ap (map f) (sym more)))
            (offer (records ++ map f (items_of (take (32 * i) slots))) (length-append records (map f (items_of (take (32 * i) slots))) ∙ ap₂ (λ a b. a + b) long (length-map (items_of (take (32 * i) slots)) f) ∙ sym so_far.at_is) (so_far.window records long has));
      }
    where
      moved : (a b c : ℕ) → (a + b) + c ≡ a + (b + c)
      moved a b c = omega arith

  -- no more are offered than there are
  pub groups_few : (before from : ℕ) (old now : List Record) (i at : ℕ) (items : List X) → 32 * i < length slots → items ≡ items_of (group slots i) → GroupsOffered before from old now i at → at + length items ≤ before + length (items_of slots)
  groups_few before from old now i at items within are so_far =
      let more : items_of (take (32 * (i + 1)) slots) ≡ items_of (take (32 * i) slots) ++ items = one_group i (omega arith) ∙ ap (λ (l : List X). items_of (take (32 * i) slots) ++ l) (sym are) in
      let whole : items_of slots ≡ items_of (take (32 * (i + 1)) slots) ++ items_of (drop (32 * (i + 1)) slots) = ap items_of (sym (take-append-drop (32 * (i + 1)) slots)) ∙ items_of-append (take (32 * (i + 1)) slots) (drop (32 * (i + 1)) slots) in
      let long : length (items_of slots) ≡ length (items_of (take (32 * (i + 1)) slots)) + length (items_of (drop (32 * (i + 1)) slots)) = ap length whole ∙ length-append (items_of (take (32 * (i + 1)) slots)) (items_of (drop (32 * (i + 1)) slots)) in
      let part : length (items_of (take (32 * (i + 1)) slots)) ≡ length (items_of (take (32 * i) slots)) + length items = ap length more ∙ length-append (items_of (take (32 * i) slots)) items in
      let is = so_far.at_is in
      omega (arith, long, part, is)

  all_taken : (i : ℕ) → length slots ≤ 32 * i → items_of (take (32 * i) slots) ≡ items_of slots
  all_taken i all = ap items_of (take_all (32 * i) slots all)

  pub groups_count : (before from : ℕ) (old now : List Record) (i at : ℕ) → length slots ≤ 32 * i → GroupsOffered before from old now i at → at ≡ before + length (items_of slots)
  groups_count before from old now i at all so_far = so_far.at_is ∙ ap (λ (l : List X). before + length l) (all_taken i all)

  pub groups_all : (before from : ℕ) (old now : List Record) (i at : ℕ) → length slots ≤ 32 * i → GroupsOffered before from old now i at → (records : List Record) → length records ≡ before → HasWindow records from old → HasWindow (records ++ map f (items_of slots)) from now
  groups_all before from old now i at all so_far records long has = subst (λ (l : List X). HasWindow (records ++ map f l) from now) (all_taken i all) (so_far.window records long has)

-- ---- a part of the records

pub part_is : (all two : List Record) (from n : ℕ) → HasWindow all from two → n ≤ length two → from ≤ length all → n ≤ length all - from → take n two ≡ take n (drop from all)
part_is all two from n has room start left =
    let tail : length (drop from all) ≡ length all - from = length-drop from all in
    let here : length (take n two) ≡ n = length-take-le n two room in
    let there : length (take n (drop from all)) ≡ n = length-take-le n (drop from all) (omega (arith, tail)) in
    same_lists (take n two) (take n (drop from all)) (here ∙ sym there) (λ k d low.
    let low' : k < n = omega (arith, here) in
    get_or-take n two k d low' ∙ ap (λ i. get_or two i d) (back from k) ∙ has.at (from + k) d (omega arith) (omega arith) (omega arith) ∙ sym (get_or-take n (drop from all) k d low' ∙ get_or-drop from all k d))
  where
    back : (a b : ℕ) → b ≡ (a + b) - a
    back a b = omega arith
