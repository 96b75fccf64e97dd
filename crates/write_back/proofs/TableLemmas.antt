-- The table of the dirty groups: how a write, a group that is written back, and an opening change it.
use Rattle.std.proofs.Common.{◌≡◌, ◌⊎◌, ℕ, zero, suc, ◌+◌, ◌-◌, ◌/◌, ◌≤◌, ◌<◌, ◌==◌, nat_le, not, ◌&&◌, ◌||◌, Bool, true, false, cond, if◌then◌else◌, List, [], ◌∷◌}
use Rattle.std.proofs.Common.{◌++◌, length, get_or, take, map, filter, slice_get, Some, Ordering, Less, Equal, Greater, inl, inr, refl, sym, ◌∙◌, ap, subst, arith, nat_cmp, eqb-true, eq-eqb, take_all}
use Rattle.std.specs.List.{AllByRecursion, list_any}
use Rattle.std.specs.Ordering.{match_ordering}
use Rattle.std.specs.FinMap.{get, entries}
use Rattle.std.proofs.lemmas.Bool.{cases_Bool, false≢true, false_from_ne_true, not-true, and_from, and_parts, or_cases, or_left, or_parts, or_right}
use Rattle.std.proofs.lemmas.Bool.Decides.{nat_tests}
use Rattle.std.proofs.lemmas.List.{take_more}
use Rattle.ft_base.specs.declared.geometry.Geometry.{Geometry}
use Rattle.ft_base.specs.Table.{Table, Waiting, is_full, is_of, last_size, lbas_of, put_first, table_of, with_lba, without_last}
use Rattle.ft_volume.specs.Volume.{dirty_lbas}
use Rattle.cache_model.specs.declared.entry.Entry.{Entry}
use Rattle.cache_model.specs.Records.{Entries}
use Rattle.cache_model.specs.Cache.{IsFull, dirty_groups}
use Rattle.cache_model.specs.CacheList.{CacheList, Held}
use Rattle.cache_model.specs.Entries.{IsMap, each_once}
use Rattle.cache_model.proofs.CountLemmas.{all_members, each_once-le, each_once-same, member, member_of, member_once, same_number, equals_turned}
use Rattle.cache_model.proofs.MapLemmas.{all_entries, by_get}
use Rattle.dirty_table.specs.Groups.{has, oldest_of, touched, without_first}
use Rattle.mapping.proofs.MarksLemmas.{same_bools}
use Rattle.merge_engine.specs.Loaded.{AreAscending}
use Rattle.cached_disk.specs.Kept.{waiting_in}
use Rattle.cached_disk.proofs.AddressLemmas.{ascending_same, filter_ascending, has_lba, has_lba-filter, has_lba-with, lbas_dirty, lbas_has, lbas_in, with_ascending}
use Rattle.write_back.specs.Left.{AreApart, IsExact, in_group, out_of_group}

-- ---- a list of distinct groups, one that is touched, and one that is taken out

pub has_member : (n : ℕ) (xs : List ℕ) → has n xs ≡ member n xs
has_member n [] = refl
has_member n (x ∷ xs) = ap (λ b. b || has n xs) (equals_turned n x) ∙ ap (λ b. (x == n) || b) (has_member n xs)

-- a list of distinct groups has each once
pub once_apart : (xs : List ℕ) → AreApart xs → each_once xs ≡ xs
once_apart [] apart = refl
once_apart (x ∷ xs) apart = ap (λ b. cond b (each_once xs) (x ∷ each_once xs)) apart.0 ∙ ap (λ l. x ∷ l) (once_apart xs apart.1)

has_without : (n q : ℕ) (xs : List ℕ) → (q == n) ≡ false → has q (without_first n xs) ≡ has q xs
has_without n q [] other = refl
has_without n q (x ∷ xs) other = elim (cases_Bool (n == x)) [
  | inl here ↦ ap (λ b. has q (cond b xs (x ∷ without_first n xs))) here ∙ sym (ap (λ b. b || has q xs) (ap (λ k. q == k) (sym (eqb-true n x here)) ∙ other))
  | inr later ↦ ap (λ b. has q (cond b xs (x ∷ without_first n xs))) later ∙ ap (λ b. (q == x) || b) (has_without n q xs other)
]

has_gone : (n : ℕ) (xs : List ℕ) → AreApart xs → has n (without_first n xs) ≡ false
has_gone n [] apart = refl
has_gone n (x ∷ xs) apart = elim (cases_Bool (n == x)) [
  | inl here ↦ ap (λ b. has n (cond b xs (x ∷ without_first n xs))) here ∙ has_member n xs ∙ ap (λ k. member k xs) (eqb-true n x here) ∙ apart.0
  | inr later ↦ ap (λ b. has n (cond b xs (x ∷ without_first n xs))) later ∙ ap (λ b. b || has n (without_first n xs)) later ∙ has_gone n xs apart.1
]

has_other : (n q : ℕ) (xs : List ℕ) → AreApart xs → has q (without_first n xs) ≡ true → (q == n) ≡ false
has_other n q xs apart there = false_from_ne_true (q == n) (λ here. false≢true (sym (has_gone n xs apart) ∙ ap (λ k. has k (without_first n xs)) (sym (eqb-true q n here)) ∙ there))

has_touched : (n q : ℕ) (xs : List ℕ) → has q (touched n xs) ≡ ((q == n) || has q xs)
has_touched n q xs = elim (cases_Bool (q == n)) [
  | inl here ↦ ap (λ b. b || has q (without_first n xs)) here ∙ sym (ap (λ b. b || has q xs) here)
  | inr other ↦ ap (λ b. (q == n) || b) (has_without n q xs other)
]

pub without_apart : (n : ℕ) (xs : List ℕ) → AreApart xs → AreApart (without_first n xs)
without_apart n [] apart = tt
without_apart n (x ∷ xs) apart = elim (cases_Bool (n == x)) [
  | inl here ↦ subst (λ b. AreApart (cond b xs (x ∷ without_first n xs))) (sym here) apart.1
  | inr later ↦ subst (λ b. AreApart (cond b xs (x ∷ without_first n xs))) (sym later) (sym (has_member x (without_first n xs)) ∙ has_without n x xs (equals_turned x n ∙ later) ∙ has_member x xs ∙ apart.0, without_apart n xs apart.1)
]

pub touched_apart : (n : ℕ) (xs : List ℕ) → AreApart xs → AreApart (touched n xs)
touched_apart n xs apart = (sym (has_member n (without_first n xs)) ∙ has_gone n xs apart, without_apart n xs apart)

-- ---- the groups of a list of addresses

pub exact_touched : (p : ℕ) (order lbas : List ℕ) (a : ℕ) → IsExact p order lbas → IsExact p (touched (a / p) order) (with_lba a lbas)
exact_touched p order lbas a exact = record {
  all = λ x there. elim (or_cases (a == x) (has_lba x lbas) (sym (has_lba-with x a lbas) ∙ there)) [
    | inl here ↦ has_touched (a / p) (x / p) order ∙ or_left (x / p == a / p) (has (x / p) order) (ap (λ k. x / p == k / p) (eqb-true a x here) ∙ same_number (x / p))
    | inr later ↦ has_touched (a / p) (x / p) order ∙ or_right (x / p == a / p) (has (x / p) order) (exact.all x later)
  ];
  only = λ n there. elim (or_cases (n == a / p) (has n order) (sym (has_touched (a / p) n order) ∙ there)) [
    | inl here ↦ (a, has_lba-with a a lbas ∙ or_left (a == a) (has_lba a lbas) (same_number a), sym (eqb-true n (a / p) here))
    | inr later ↦ let x = exact.only n later in (x.0, has_lba-with x.0 a lbas ∙ or_right (a == x.0) (has_lba x.0 lbas) x.1, x.2)
  ];
}

pub exact_without : (p : ℕ) (order lbas : List ℕ) (n : ℕ) → AreApart order → IsExact p order lbas → IsExact p (without_first n order) (out_of_group p n lbas)
exact_without p order lbas n apart exact = record {
  all = λ x there.
      let parts = and_parts (has_lba x lbas) (not (x / p == n)) (sym (has_lba-filter (λ a. not (a / p == n)) x lbas) ∙ there) in
      has_without n (x / p) order (not-true (x / p == n) parts.1) ∙ exact.all x parts.0;
  only = λ m there.
      let other = has_other n m order apart there in
      let x = exact.only m (sym (has_without n m order other) ∙ there) in
      (x.0, has_lba-filter (λ a. not (a / p == n)) x.0 lbas ∙ and_from (has_lba x.0 lbas) (not (x.0 / p == n)) x.1 (ap not (ap (λ k. k == n) x.2 ∙ other)), x.2);
}

-- ---- the table of groups in an order, each with its own of these addresses

abbrev row : ℕ → List ℕ → Waiting
row n lbas = record { group = n; lbas = lbas }

pub length_waiting : (p : ℕ) (order lbas : List ℕ) → length (waiting_in p order lbas) ≡ length order
length_waiting p [] lbas = refl
length_waiting p (n ∷ order) lbas = ap suc (length_waiting p order lbas)

any_waiting : (p n : ℕ) (order lbas : List ℕ) → list_any (is_of n) (waiting_in p order lbas) ≡ has n order
any_waiting p n [] lbas = refl
any_waiting p n (x ∷ order) lbas = ap (λ b. b || list_any (is_of n) (waiting_in p order lbas)) (equals_turned x n) ∙ ap (λ b. (n == x) || b) (any_waiting p n order lbas)

pub full_waiting : (p c n : ℕ) (order lbas : List ℕ) → is_full c n (waiting_in p order lbas) ≡ (if has n order then false else nat_le c (length order))
full_waiting p c n order lbas = ap (λ b. cond b false (nat_le c (length (waiting_in p order lbas)))) (any_waiting p n order lbas) ∙ ap (λ k. cond (has n order) false (nat_le c k)) (length_waiting p order lbas)

-- the oldest is the last
one_less : (k : ℕ) → suc (suc k) - 1 ≡ suc (suc k - 1)
one_less k = omega arith

oldest_next : (x y : ℕ) (order : List ℕ) → oldest_of (x ∷ y ∷ order) ≡ oldest_of (y ∷ order)
oldest_next x y order = ap (slice_get (x ∷ y ∷ order)) (one_less (length order))

oldest_one : (x n : ℕ) → oldest_of (x ∷ []) ≡ Some n → x ≡ n
oldest_one x n is = let same : Some x ≡ Some n = is in cc

oldest_has : (n : ℕ) (order : List ℕ) → oldest_of order ≡ Some n → member n order ≡ true
oldest_has n [] is = absurd (cc)
oldest_has n (x ∷ []) is = or_left (x == n) false (eq-eqb x n (oldest_one x n is))
oldest_has n (x ∷ y ∷ order) is = or_right (x == n) (member n (y ∷ order)) (oldest_has n (y ∷ order) (sym (oldest_next x y order) ∙ is))

pub last_length : (p : ℕ) (order lbas : List ℕ) (n : ℕ) → oldest_of order ≡ Some n → last_size (waiting_in p order lbas) ≡ length (in_group p n lbas)
last_length p [] lbas n is = absurd (cc)
last_length p (x ∷ []) lbas n is = ap (λ k. length (in_group p k lbas)) (oldest_one x n is)
last_length p (x ∷ y ∷ order) lbas n is = last_length p (y ∷ order) lbas n (sym (oldest_next x y order) ∙ is)

-- a filter within another
filter_within : (t u : ℕ → Bool) → ((a : ℕ) → t a ≡ true → u a ≡ true) → (ns : List ℕ) → filter t (filter u ns) ≡ filter t ns
filter_within t u also [] = refl
filter_within t u also (n ∷ ns) = elim (cases_Bool (u n)) [
  | inl pass ↦ ap (λ b. filter t (cond b (n ∷ filter u ns) (filter u ns))) pass ∙ ap (λ l. cond (t n) (n ∷ l) l) (filter_within t u also ns)
  | inr fail ↦
      ap (λ b. filter t (cond b (n ∷ filter u ns) (filter u ns))) fail
      ∙ filter_within t u also ns
      ∙ sym (ap (λ b. cond b (n ∷ filter t ns) (filter t ns)) (false_from_ne_true (t n) (λ pass. false≢true (sym fail ∙ also n pass))))
]

others_kept : (p x n : ℕ) (lbas : List ℕ) → (x == n) ≡ false → in_group p x (out_of_group p n lbas) ≡ in_group p x lbas
others_kept p x n lbas other = filter_within (λ a. a / p == x) (λ a. not (a / p == n)) (λ a is. ap not (ap (λ k. k == n) (eqb-true (a / p) x is) ∙ other)) lbas

pub last_waiting : (p : ℕ) (order lbas : List ℕ) (n : ℕ) → AreApart order → oldest_of order ≡ Some n → waiting_in p (without_first n order) (out_of_group p n lbas) ≡ without_last (waiting_in p order lbas)
last_waiting p [] lbas n apart is = absurd (cc)
last_waiting p (x ∷ []) lbas n apart is = ap (λ b. waiting_in p (cond b [] (x ∷ [])) (out_of_group p n lbas)) (eq-eqb n x (sym (oldest_one x n is)))
last_waiting p (x ∷ y ∷ order) lbas n apart is =
    let later : oldest_of (y ∷ order) ≡ Some n = sym (oldest_next x y order) ∙ is in
    let other : (x == n) ≡ false = false_from_ne_true (x == n) (λ here. false≢true (sym apart.0 ∙ ap (λ k. member k (y ∷ order)) (eqb-true x n here) ∙ oldest_has n (y ∷ order) later)) in
    ap (λ b. waiting_in p (cond b (y ∷ order) (x ∷ without_first n (y ∷ order))) (out_of_group p n lbas)) (equals_turned n x ∙ other)
    ∙ ap (λ l. row x l ∷ waiting_in p (without_first n (y ∷ order)) (out_of_group p n lbas)) (others_kept p x n lbas other)
    ∙ ap (λ t. row x (in_group p x lbas) ∷ t) (last_waiting p (y ∷ order) lbas n apart.1 later)

-- ---- a group gets an address

-- the groups but one, if each other group has the same addresses in both lists
module _ (p n : ℕ) (lbas new : List ℕ) (same : (m : ℕ) → (m == n) ≡ false → in_group p m lbas ≡ in_group p m new) where
  abbrev others : List ℕ → Table
  others order = filter (λ w. not (is_of n w)) (waiting_in p order lbas)

  none_filtered : (order : List ℕ) → member n order ≡ false → others order ≡ waiting_in p order new
  none_filtered [] none = refl
  none_filtered (x ∷ order) none =
      let parts = or_parts (x == n) (member n order) none in
      ap (λ b. cond (not b) (row x (in_group p x lbas) ∷ others order) (others order)) parts.0
      ∙ ap (λ l. row x l ∷ others order) (same x parts.0)
      ∙ ap (λ t. row x (in_group p x new) ∷ t) (none_filtered order parts.1)

  one_filtered : (order : List ℕ) → AreApart order → others order ≡ waiting_in p (without_first n order) new
  one_filtered [] apart = refl
  one_filtered (x ∷ order) apart = elim (cases_Bool (x == n)) [
    | inl here ↦
        ap (λ b. cond (not b) (row x (in_group p x lbas) ∷ others order) (others order)) here
        ∙ none_filtered order (ap (λ k. member k order) (sym (eqb-true x n here)) ∙ apart.0)
        ∙ sym (ap (λ b. waiting_in p (cond b order (x ∷ without_first n order)) new) (equals_turned n x ∙ here))
    | inr other ↦
        ap (λ b. cond (not b) (row x (in_group p x lbas) ∷ others order) (others order)) other
        ∙ ap (λ l. row x l ∷ others order) (same x other)
        ∙ ap (λ t. row x (in_group p x new) ∷ t) (one_filtered order apart.1)
        ∙ sym (ap (λ b. waiting_in p (cond b order (x ∷ without_first n order)) new) (equals_turned n x ∙ other))
  ]

-- the addresses of a group
lbas_there : (p n : ℕ) (order lbas : List ℕ) → has n order ≡ true → lbas_of n (waiting_in p order lbas) ≡ in_group p n lbas
lbas_there p n [] lbas there = absurd (false≢true there)
lbas_there p n (x ∷ order) lbas there = elim (cases_Bool (x == n)) [
  | inl here ↦ ap (λ b. cond b (in_group p x lbas) (lbas_of n (waiting_in p order lbas))) here ∙ ap (λ k. in_group p k lbas) (eqb-true x n here)
  | inr other ↦ ap (λ b. cond b (in_group p x lbas) (lbas_of n (waiting_in p order lbas))) other ∙ lbas_there p n order lbas (sym (ap (λ b. b || has n order) (equals_turned n x ∙ other)) ∙ there)
]

lbas_nowhere : (p n : ℕ) (order lbas : List ℕ) → has n order ≡ false → lbas_of n (waiting_in p order lbas) ≡ []
lbas_nowhere p n [] lbas none = refl
lbas_nowhere p n (x ∷ order) lbas none =
    let parts = or_parts (n == x) (has n order) none in
    ap (λ b. cond b (in_group p x lbas) (lbas_of n (waiting_in p order lbas))) (equals_turned x n ∙ parts.0) ∙ lbas_nowhere p n order lbas parts.1

filter_none : (t : ℕ → Bool) (ns : List ℕ) → ((a : ℕ) → has_lba a ns ≡ true → t a ≡ false) → filter t ns ≡ []
filter_none t [] never = refl
filter_none t (n ∷ ns) never = ap (λ b. cond b (n ∷ filter t ns) (filter t ns)) (never n (or_left (n == n) (has_lba n ns) (same_number n))) ∙ filter_none t ns (λ a there. never a (or_right (n == a) (has_lba a ns) there))

lbas_are : (p n : ℕ) (order lbas : List ℕ) → IsExact p order lbas → lbas_of n (waiting_in p order lbas) ≡ in_group p n lbas
lbas_are p n order lbas exact = elim (cases_Bool (has n order)) [
  | inl there ↦ lbas_there p n order lbas there
  | inr none ↦ lbas_nowhere p n order lbas none ∙ sym (filter_none (λ a. a / p == n) lbas (λ a there. false_from_ne_true (a / p == n) (λ is. false≢true (sym none ∙ ap (λ k. has k order) (sym (eqb-true (a / p) n is)) ∙ exact.all a there))))
]

-- an address that passes, and one that does not
filter_with : (t : ℕ → Bool) (a : ℕ) (ns : List ℕ) → AreAscending ns → t a ≡ true → filter t (with_lba a ns) ≡ with_lba a (filter t ns)
filter_with t a ns up pass = ascending_same (filter t (with_lba a ns)) (with_lba a (filter t ns)) (filter_ascending t (with_lba a ns) (with_ascending a ns up)) (with_ascending a (filter t ns) (filter_ascending t ns up)) (λ x.
    has_lba-filter t x (with_lba a ns)
    ∙ ap (λ b. b && t x) (has_lba-with x a ns)
    ∙ by x (a == x) (λ same. ap t (sym (eqb-true a x same)) ∙ pass)
    ∙ ap (λ b. (a == x) || b) (sym (has_lba-filter t x ns))
    ∙ sym (has_lba-with x a (filter t ns)))
  where
    by : (x : ℕ) (b : Bool) → (b ≡ true → t x ≡ true) → ((b || has_lba x ns) && t x) ≡ (b || (has_lba x ns && t x))
    by x true is = is refl
    by x false is = refl

filter_with_other : (t : ℕ → Bool) (a : ℕ) (ns : List ℕ) → t a ≡ false → filter t (with_lba a ns) ≡ filter t ns
filter_with_other t a [] fail = ap (λ b. cond b (a ∷ []) []) fail
filter_with_other t a (n ∷ ns) fail = by (nat_cmp a n) (filter_with_other t a ns fail)
  where
    by : (o : Ordering) → filter t (with_lba a ns) ≡ filter t ns → filter t (match_ordering o (a ∷ n ∷ ns) (n ∷ ns) (n ∷ with_lba a ns)) ≡ filter t (n ∷ ns)
    by Less rest = ap (λ b. cond b (a ∷ filter t (n ∷ ns)) (filter t (n ∷ ns))) fail
    by Equal rest = refl
    by Greater rest = ap (λ l. cond (t n) (n ∷ l) l) rest

pub put_waiting : (p : ℕ) (order lbas : List ℕ) (a : ℕ) → AreApart order → IsExact p order lbas → AreAscending lbas → put_first (a / p) a (waiting_in p order lbas) ≡ waiting_in p (touched (a / p) order) (with_lba a lbas)
put_waiting p order lbas a apart exact up =
    let same = λ (m : ℕ) (other : (m == a / p) ≡ false). sym (filter_with_other (λ x. x / p == m) a lbas (equals_turned (a / p) m ∙ other)) in
    ap (λ l. row (a / p) (with_lba a l) ∷ filter (λ w. not (is_of (a / p) w)) (waiting_in p order lbas)) (lbas_are p (a / p) order lbas exact)
    ∙ ap (λ l. row (a / p) l ∷ filter (λ w. not (is_of (a / p) w)) (waiting_in p order lbas)) (sym (filter_with (λ x. x / p == a / p) a lbas up (same_number (a / p))))
    ∙ ap (λ t. row (a / p) (in_group p (a / p) (with_lba a lbas)) ∷ t) (one_filtered p (a / p) lbas (with_lba a lbas) same order apart)

-- ---- the dirty groups of a list of held blocks

module _ (g : Geometry) (s : CacheList) (order : List ℕ) (apart : AreApart order) (exact : IsExact g.p order (lbas_in s)) where
  abbrev all_groups : List ℕ
  all_groups = map (λ x. x.0 / g.p) (filter (λ x. x.1.dirty) (entries s))

  groups_has : (n : ℕ) → member n all_groups ≡ member n order
  groups_has n = same_bools (member n all_groups) (member n order) from into
    where
      from : member n all_groups ≡ true → member n order ≡ true
      from there =
          let x = member_of (λ (x : ℕ × Held). x.0 / g.p) (λ (h : Held). h.dirty) (λ x. get s x.0 ≡ Some x.1) (entries s) n (all_entries s (λ a h. get s a ≡ Some h) (λ a h at. at)) there in
          ap (λ k. member k order) (sym x.3) ∙ sym (has_member (x.0.0 / g.p) order) ∙ exact.all x.0.0 (lbas_has s x.0.0 (x.0.1, x.1, x.2))

      into : member n order ≡ true → member n all_groups ≡ true
      into there =
          let x = exact.only n (has_member n order ∙ there) in
          let dirty = lbas_dirty s x.0 x.1 in
          ap (λ k. member k all_groups) (sym x.2) ∙ by_get s (λ a h. h.dirty ≡ true → member (a / g.p) all_groups ≡ true) (all_members (λ (x : ℕ × Held). x.0 / g.p) (λ (h : Held). h.dirty) (entries s)) x.0 dirty.0 dirty.1 dirty.2

  few_are : length (dirty_groups g s) ≡ length order
  few_are = each_once-same all_groups order groups_has ∙ ap (λ (l : List ℕ). length l) (once_apart order apart)

  with_one : (n : ℕ) → length (each_once (n ∷ dirty_groups g s)) ≡ length (each_once (n ∷ order))
  with_one n = each_once-same (n ∷ dirty_groups g s) (n ∷ order) (λ q. ap (λ b. (n == q) || b) (member_once q all_groups ∙ groups_has q))

pub few_exact : (g : Geometry) (s : CacheList) (order : List ℕ) → AreApart order → IsExact g.p order (lbas_in s) → length (dirty_groups g s) ≡ length order
few_exact g s order apart exact = few_are g s order apart exact

-- one more group, which is there, or has room
one_fits : (n c : ℕ) (xs : List ℕ) → AreApart xs → (has n xs ≡ true) ⊎ (length xs < c) → length xs ≤ c → length (each_once (n ∷ xs)) ≤ c
one_fits n c xs apart (inl there) few = subst (λ (k : ℕ). k ≤ c) (sym (ap (λ b. length (cond b (each_once xs) (n ∷ each_once xs))) (sym (has_member n xs) ∙ there) ∙ ap (λ (l : List ℕ). length l) (once_apart xs apart))) few
one_fits n c xs apart (inr less) few = by (member n xs) (ap (λ (l : List ℕ). length l) (once_apart xs apart))
  where
    by : (b : Bool) → length (each_once xs) ≡ length xs → length (cond b (each_once xs) (n ∷ each_once xs)) ≤ c
    by true same = omega (arith, same, few)
    by false same = omega (arith, same, less)

pub not_full_exact : (g : Geometry) (s : CacheList) (order : List ℕ) (lba : ℕ) → AreApart order → IsExact g.p order (lbas_in s) → (has (lba / g.p) order ≡ true) ⊎ (length order < g.c) → length order ≤ g.c → IsFull g s lba → ⊥
not_full_exact g s order lba apart exact room few full =
    let same = with_one g s order apart exact (lba / g.p) in
    let fits = one_fits (lba / g.p) g.c order apart room few in
    omega (arith, same, fits, full)

-- ---- the table of a cache that was opened, along its dirty addresses

-- the groups of the first i addresses, in order
pub record IsTableSoFar (p : ℕ) (lbas : List ℕ) (i : ℕ) (groups : List ℕ) : Type 0 where
  pub apart : AreApart groups
  pub exact : IsExact p groups (take i lbas)
  pub order : waiting_in p groups (take i lbas) ≡ table_of p [] (take i lbas)

none_exact : (p : ℕ) → IsExact p [] []
none_exact p = record { all = λ a there. absurd (false≢true there); only = λ n there. absurd (false≢true there) }

pub so_far_none : (p : ℕ) (lbas : List ℕ) (i : ℕ) (order : List ℕ) → i ≡ 0 → order ≡ [] → IsTableSoFar p lbas i order
so_far_none p lbas i order start none = subst (λ (k : ℕ). IsTableSoFar p lbas k order) (sym start) (subst (λ (l : List ℕ). IsTableSoFar p lbas 0 l) (sym none) (record { apart = tt; exact = none_exact p; order = refl }))

all_at : (P : ℕ → Type 0) (ns : List ℕ) (i : ℕ) → AllByRecursion P ns → i < length ns → P (get_or ns i 0)
all_at P [] i all within = absurd (omega (arith, within))
all_at P (n ∷ ns) zero all within = all.0
all_at P (n ∷ ns) (suc i) all within = all_at P ns i all.1 (omega (arith, within))

all_take : (P : ℕ → Type 0) (i : ℕ) (ns : List ℕ) → AllByRecursion P ns → AllByRecursion P (take i ns)
all_take P zero ns all = tt
all_take P (suc i) [] all = tt
all_take P (suc i) (n ∷ ns) all = (all.0, all_take P i ns all.1)

take_ascending : (i : ℕ) (ns : List ℕ) → AreAscending ns → AreAscending (take i ns)
take_ascending zero ns up = tt
take_ascending (suc i) [] up = tt
take_ascending (suc i) (n ∷ ns) up = (all_take (λ k. n < k) i ns up.0, take_ascending i ns up.1)

-- the addresses that stand before an address are below it
before_below : (i : ℕ) (ns : List ℕ) → AreAscending ns → i < length ns → AllByRecursion (λ k. k < get_or ns i 0) (take i ns)
before_below zero ns up within = tt
before_below (suc i) [] up within = tt
before_below (suc i) (n ∷ ns) up within = (all_at (λ k. n < k) ns i up.0 (omega (arith, within)), before_below i ns up.1 (omega (arith, within)))

cmp_above : (a n : ℕ) → n < a → nat_cmp a n ≡ Greater
cmp_above a n above = grind (arith, nat_tests)

-- an address above all others comes last
with_last : (a : ℕ) (ns : List ℕ) → AllByRecursion (λ k. k < a) ns → with_lba a ns ≡ ns ++ a ∷ []
with_last a [] all = refl
with_last a (n ∷ ns) all = ap (λ o. match_ordering o (a ∷ n ∷ ns) (n ∷ ns) (n ∷ with_lba a ns)) (cmp_above a n all.0) ∙ ap (λ l. n ∷ l) (with_last a ns all.1)

table_of-push : (p : ℕ) (t : Table) (ns : List ℕ) (a : ℕ) → table_of p t (ns ++ a ∷ []) ≡ put_first (a / p) a (table_of p t ns)
table_of-push p t [] a = refl
table_of-push p t (n ∷ ns) a = table_of-push p (put_first (n / p) n t) ns a

pub so_far_more : (p : ℕ) (lbas : List ℕ) (i : ℕ) (order : List ℕ) → AreAscending lbas → i < length lbas → IsTableSoFar p lbas i order → IsTableSoFar p lbas (i + 1) (touched (get_or lbas i 0 / p) order)
so_far_more p lbas i order up within so_far = record {
  apart = touched_apart (lba / p) order so_far.apart;
  exact = subst (λ (l : List ℕ). IsExact p (touched (lba / p) order) l) (sym more) (exact_touched p order (take i lbas) lba so_far.exact);
  order =
      ap (λ (l : List ℕ). waiting_in p (touched (lba / p) order) l) more
      ∙ sym (put_waiting p order (take i lbas) lba so_far.apart so_far.exact (take_ascending i lbas up))
      ∙ ap (λ (t : Table). put_first (lba / p) lba t) so_far.order
      ∙ sym (ap (λ (l : List ℕ). table_of p [] l) (take_more lbas i 0 within) ∙ table_of-push p [] (take i lbas) lba);
}
  where
    lba : ℕ
    lba = get_or lbas i 0

    more : take (i + 1) lbas ≡ with_lba lba (take i lbas)
    more = take_more lbas i 0 within ∙ sym (with_last lba (take i lbas) (before_below i lbas up within))

member_map : (f : ℕ → ℕ) (a : ℕ) (ns : List ℕ) → member a ns ≡ true → member (f a) (map f ns) ≡ true
member_map f a [] there = absurd (false≢true there)
member_map f a (n ∷ ns) there = elim (or_cases (n == a) (member a ns) there) [
  | inl here ↦ or_left (f n == f a) (member (f a) (map f ns)) (ap (λ k. f n == f k) (sym (eqb-true n a here)) ∙ same_number (f n))
  | inr later ↦ or_right (f n == f a) (member (f a) (map f ns)) (member_map f a ns later)
]

member_take : (a i : ℕ) (ns : List ℕ) → member a (take i ns) ≡ true → member a ns ≡ true
member_take a zero ns there = absurd (false≢true there)
member_take a (suc i) [] there = absurd (false≢true there)
member_take a (suc i) (n ∷ ns) there = elim (or_cases (n == a) (member a (take i ns)) there) [
  | inl here ↦ or_left (n == a) (member a ns) here
  | inr later ↦ or_right (n == a) (member a ns) (member_take a i ns later)
]

member_at : (i : ℕ) (ns : List ℕ) → i < length ns → member (get_or ns i 0) ns ≡ true
member_at i [] within = absurd (omega (arith, within))
member_at zero (n ∷ ns) within = or_left (n == n) (member n ns) (same_number n)
member_at (suc i) (n ∷ ns) within = or_right (n == get_or ns i 0) (member (get_or ns i 0) ns) (member_at i ns (omega (arith, within)))

module _ (p : ℕ) (lbas : List ℕ) (i : ℕ) (order : List ℕ) (so_far : IsTableSoFar p lbas i order) where
  among_all : (n : ℕ) → member n order ≡ true → member n (map (λ a. a / p) lbas) ≡ true
  among_all n there =
      let x = so_far.exact.only n (has_member n order ∙ there) in
      ap (λ k. member k (map (λ a. a / p) lbas)) (sym x.2) ∙ member_map (λ a. a / p) x.0 lbas (member_take x.0 i lbas x.1)

  -- there are at most as many groups as all addresses have, so the next address has room for its own
  pub so_far_room : (c : ℕ) → i < length lbas → length (each_once (map (λ a. a / p) lbas)) ≤ c → (has (get_or lbas i 0 / p) order ≡ true) ⊎ (length order < c)
  so_far_room c within few = elim (cases_Bool (has n order)) [
    | inl there ↦ inl there
    | inr none ↦
        let fewer = each_once-le (n ∷ order) (map (λ a. a / p) lbas) (λ q there. elim (or_cases (n == q) (member q order) there) [
          | inl here ↦ ap (λ k. member k (map (λ a. a / p) lbas)) (sym (eqb-true n q here)) ∙ member_map (λ a. a / p) (get_or lbas i 0) lbas (member_at i lbas within)
          | inr later ↦ among_all q later
        ]) in
        let long = ap (λ (l : List ℕ). length l) (once_apart (n ∷ order) (sym (has_member n order) ∙ none, so_far.apart)) in
        inr (omega (arith, fewer, long, few))
  ]
    where
      n : ℕ
      n = get_or lbas i 0 / p

  -- at the end it is the table of all addresses
  pub so_far_exact : length lbas ≤ i → IsExact p order lbas
  so_far_exact past = subst (λ (l : List ℕ). IsExact p order l) (take_all i lbas past) so_far.exact

  pub so_far_order : length lbas ≤ i → waiting_in p order lbas ≡ table_of p [] lbas
  so_far_order past = subst (λ (l : List ℕ). waiting_in p order l ≡ table_of p [] l) (take_all i lbas past) so_far.order

pub map_twice : {X : Type 0} (f : X → ℕ) (g : ℕ → ℕ) (es : List X) → map g (map f es) ≡ map (λ x. g (f x)) es
map_twice f g [] = refl
map_twice f g (x ∷ es) = ap (λ l. g (f x) ∷ l) (map_twice f g es)

-- a cache has at most as many dirty groups as it may have
pub few_lbas : (g : Geometry) (m : Entries) → IsMap g m → length (each_once (map (λ a. a / g.p) (dirty_lbas m))) ≤ g.c
few_lbas g m map = subst (λ (l : List ℕ). length (each_once l) ≤ g.c) (sym (map_twice (λ (x : ℕ × Entry). x.0) (λ a. a / g.p) (filter (λ (x : ℕ × Entry). x.1.dirty) (entries m)))) map.dirty_groups
