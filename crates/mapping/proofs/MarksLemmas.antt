-- The entries that are looked for, and counts of marked groups.
use Rattle.std.proofs.Common.{◌≡◌, ◌↔◌, IsTrue, ℕ, zero, suc, ◌+◌, ◌/◌, ◌<◌, ◌≤◌, ◌==◌, Bool, true, false, cond, List, [], ◌∷◌, length, Some, refl, sym, ◌∙◌, ap, arith, inl, inr, subst}
use Rattle.std.specs.FinMap.{get, entries}
use Rattle.std.proofs.lemmas.Bool.{cases_Bool, or_left, both_ways, cases_eq}
use Rattle.std.proofs.lemmas.Bool.Decides.{nat_tests}
use Rattle.ft_base.specs.declared.geometry.Geometry.{Geometry}
use Rattle.cache_model.specs.declared.entry.Entry.{Entry}
use Rattle.cache_model.specs.Records.{Entries}
use Rattle.cache_model.specs.Entries.{each_once, groups_with}
use Rattle.cache_model.proofs.MapLemmas.{all_entries, by_get}
use Rattle.cache_model.proofs.CountLemmas.{member, numbers, all_members, member_of, counts_beside, others, member_others, member_self, one_and_others, same_number}
use Rattle.mapping.specs.declared.marks.Mark.{Mark}
use Rattle.mapping.specs.Counts.{has_mark}
use Rattle.mapping.proofs.Words.{count_range}
use Rattle.mapping.specs.Seeking.{HasMarkIn, MayHave}

pub same_bools : (a b : Bool) → (a ≡ true → b ≡ true) → (b ≡ true → a ≡ true) → a ≡ b
same_bools true b f h = sym (f refl)
same_bools false true f h = h refl
same_bools false false f h = refl

-- ---- numbers of the entries of a map

module _ (f : ℕ × Entry → ℕ) (t : Entry → Bool) (m : Entries) where
  pub member_from : (a : ℕ) (e : Entry) → get m a ≡ Some e → t e ≡ true → member (f (a, e)) (numbers f t (entries m)) ≡ true
  member_from a e is y = by_get m (λ a e. t e ≡ true → member (f (a, e)) (numbers f t (entries m)) ≡ true) (all_members f t (entries m)) a e is y

  pub member_to : (n : ℕ) → member n (numbers f t (entries m)) ≡ true → (x : ℕ × Entry) × (get m x.0 ≡ Some x.1) × (t x.1 ≡ true) × (f x ≡ n)
  member_to n is = member_of f t (λ x. get m x.0 ≡ Some x.1) (entries m) n (all_entries m (λ a e. get m a ≡ Some e) (λ a e is. is)) is

-- ---- counts of marked groups, when one group alone changes

-- the relation of a map to another that differs in one group alone, and whether that group then has the mark
pub record ChangesGroup (g : Geometry) (mark : Mark) (group : ℕ) (old new : Entries) (has : Bool) : Type 0 where
  pub others : (a : ℕ) → (a / g.p ≡ group → ⊥) → get new a ≡ get old a
  pub there : has ≡ true → (a : ℕ) × (e : Entry) × (get new a ≡ Some e) × (a / g.p ≡ group) × (has_mark mark e ≡ true)
  pub from : (a : ℕ) (e : Entry) → get new a ≡ Some e → a / g.p ≡ group → has_mark mark e ≡ true → has ≡ true

-- whether the group counts
pub counts_group : (g : Geometry) (mark : Mark) (m : Entries) (group : ℕ) → (member group (numbers (λ x. x.0 / g.p) (has_mark mark) (entries m)) ≡ true → HasMarkIn g m mark group) × (HasMarkIn g m mark group → member group (numbers (λ x. x.0 / g.p) (has_mark mark) (entries m)) ≡ true)
counts_group g mark m group = (
  λ mem. let x = member_to (λ x. x.0 / g.p) (has_mark mark) m group mem in (x.0.0, x.3, (x.0.1, x.1, x.2)),
  λ x. ap (λ k. member k (numbers (λ x. x.0 / g.p) (has_mark mark) (entries m))) (sym x.1) ∙ member_from (λ x. x.0 / g.p) (has_mark mark) m x.0 x.2.0 x.2.1 x.2.2,
)

-- the count of the groups, before and after
pub group_counts : (g : Geometry) (mark : Mark) (group : ℕ) (old new : Entries) (had has : Bool) → ((a : ℕ) → (a / g.p ≡ group → ⊥) → get new a ≡ get old a)
    → ((had ≡ true → HasMarkIn g old mark group) × (HasMarkIn g old mark group → had ≡ true)) → ((has ≡ true → HasMarkIn g new mark group) × (HasMarkIn g new mark group → has ≡ true))
    → length (groups_with g (has_mark mark) new) + cond had 1 0 ≡ length (groups_with g (has_mark mark) old) + cond has 1 0
group_counts g mark group old new had has others before after =
    let f : ℕ × Entry → ℕ = λ x. x.0 / g.p in
    let t : Entry → Bool = λ e. has_mark mark e in
    let xs = numbers f t (entries old) in
    let ys = numbers f t (entries new) in
    let alike = λ (n : ℕ) (apart : n ≡ group → ⊥). same_bools (member n xs) (member n ys)
    (λ mem. let x = member_to f t old n mem in ap (λ k. member k ys) (sym x.3) ∙ member_from f t new x.0.0 x.0.1 (others x.0.0 (λ s. apart (sym x.3 ∙ s)) ∙ x.1) x.2)
    (λ mem. let x = member_to f t new n mem in ap (λ k. member k xs) (sym x.3) ∙ member_from f t old x.0.0 x.0.1 (sym (others x.0.0 (λ s. apart (sym x.3 ∙ s))) ∙ x.1) x.2) in
    let was : had ≡ member group xs = same_bools had (member group xs) (λ h. (counts_group g mark old group).1 (before.0 h)) (λ h. before.1 ((counts_group g mark old group).0 h)) in
    let is : member group ys ≡ has = same_bools (member group ys) has (λ h. after.1 ((counts_group g mark new group).0 h)) (λ h. (counts_group g mark new group).1 (after.0 h)) in
    ap (λ b. length (each_once ys) + cond b 1 0) was ∙ counts_beside group xs ys alike ∙ ap (λ b. length (each_once xs) + cond b 1 0) is

-- a count after a change of one group
pub recounted : (had has : Bool) (n d d' x : ℕ) → n ≡ d → d' + cond had 1 0 ≡ d + cond has 1 0 → x + cond had 1 0 ≡ n + cond has 1 0 → x ≡ d'
recounted true true n d d' x is sum sum' = omega arith
recounted true false n d d' x is sum sum' = omega arith
recounted false true n d d' x is sum sum' = omega arith
recounted false false n d d' x is sum sum' = omega arith

pub some_counted : (ns : List ℕ) (n : ℕ) → member n ns ≡ true → 0 < length (each_once ns)
some_counted [] n t = absurd (cc)
some_counted (k ∷ ns) n t = elim (cases_Bool (member k ns)) [
  | inl m ↦ subst (λ b. 0 < length (cond b (each_once ns) (k ∷ each_once ns))) (sym m) (some_counted ns k m)
  | inr f ↦ subst (λ b. 0 < length (cond b (each_once ns) (k ∷ each_once ns))) (sym f) (omega arith)
]

pub counts_some : (g : Geometry) (mark : Mark) (m : Entries) (group n : ℕ) (had : Bool) → n ≡ length (groups_with g (has_mark mark) m) → (had ≡ true → HasMarkIn g m mark group) → had ≡ true → 1 ≤ n
counts_some g mark m group n had is before t = let some = some_counted (numbers (λ x. x.0 / g.p) (has_mark mark) (entries m)) group ((counts_group g mark m group).1 (before t)) in omega (arith, is, some)

-- the group may have the mark from now on exactly when at most C groups then have it
pub may_have_fits : (g : Geometry) (mark : Mark) (group : ℕ) (old new : Entries) (has : Bool) → ChangesGroup g mark group old new has → length (groups_with g (has_mark mark) old) ≤ g.c
    → (MayHave g old mark group has → length (groups_with g (has_mark mark) new) ≤ g.c) × (length (groups_with g (has_mark mark) new) ≤ g.c → MayHave g old mark group has)
may_have_fits g mark group old new has change few =
    let had = member group (numbers (λ x. x.0 / g.p) (has_mark mark) (entries old)) in
    let sum = group_counts g mark group old new had has change.others (counts_group g mark old group) ((λ t. let x = change.there t in (x.0, x.3, (x.1, x.2, x.4))), λ x. change.from x.0 x.2.0 x.2.1 x.1 x.2.2) in (
      λ may. by_case (length (groups_with g (has_mark mark) old)) (length (groups_with g (has_mark mark) new)) had has may (counts_group g mark old group).1 sum few refl,
      λ fits. by_bits (length (groups_with g (has_mark mark) old)) (length (groups_with g (has_mark mark) new)) had has (counts_group g mark old group).0 sum fits refl,
    )
  where
    one_of : (b : Bool) → b ≡ true → ◌≡◌ {A = ℕ} (cond b 1 0) 1
    one_of b t = ap (λ c. cond c 1 0) t

    none_of : (b : Bool) → b ≡ false → ◌≡◌ {A = ℕ} (cond b 1 0) 0
    none_of b f = ap (λ c. cond c 1 0) f

    bit_few : (b : Bool) → cond b 1 0 ≤ 1
    bit_few true = omega arith
    bit_few false = omega arith

    by_case : (d d' : ℕ) (had has : Bool) → MayHave g old mark group has → (HasMarkIn g old mark group → had ≡ true) → d' + cond had 1 0 ≡ d + cond has 1 0 → d ≤ g.c → length (groups_with g (has_mark mark) old) ≡ d → d' ≤ g.c
    by_case d d' had has (inl f) there sum few is = let no_one = none_of has f in omega (arith, sum, few, no_one)
    by_case d d' had has (inr (inl low)) there sum few is = let one = bit_few has in omega (arith, sum, low, one, is)
    by_case d d' had has (inr (inr x)) there sum few is = let one = one_of had (there x) in let most = bit_few has in omega (arith, sum, few, one, most)

    by_bits : (d d' : ℕ) (had has : Bool) → (had ≡ true → HasMarkIn g old mark group) → d' + cond had 1 0 ≡ d + cond has 1 0 → d' ≤ g.c → length (groups_with g (has_mark mark) old) ≡ d → MayHave g old mark group has
    by_bits d d' had false there sum fits is = inl refl
    by_bits d d' true true there sum fits is = inr (inr (there refl))
    by_bits d d' false true there sum fits is = inr (inl (omega (arith, sum, fits, is)))

-- when the group may have it
module _ (g : Geometry) (m : Entries) (mark : Mark) (group : ℕ) (has : Bool) where
  pub may_without : has ≡ false → IsTrue true ↔ MayHave g m mark group has
  may_without f = (λ t. inl f, λ may. refl)

  pub may_where_room : (now : ℕ) → now ≡ length (groups_with g (has_mark mark) m) → now < g.c → IsTrue true ↔ MayHave g m mark group has
  may_where_room now is low = (λ t. inr (inl (omega arith)), λ may. refl)

  pub may_where_full : (now : ℕ) (b : Bool) → has ≡ true → now ≡ length (groups_with g (has_mark mark) m) → g.c ≤ now → (IsTrue b ↔ HasMarkIn g m mark group) → IsTrue b ↔ MayHave g m mark group has
  may_where_full now b t is full marked = (
    λ u. inr (inr (marked.0 u)),
    λ may. elim may [
      | inl f ↦ absurd (both_ways has f t)
      | inr other ↦ elim other [
        | inl low ↦ absurd (omega (arith, is, full, low))
        | inr x ↦ marked.1 x
      ]
    ],
  )

-- ---- numbers within a range

pub count_alike : (p q : ℕ → Bool) (from n : ℕ) → ((k : ℕ) → from ≤ k → p k ≡ q k) → count_range p from n ≡ count_range q from n
count_alike p q from zero same = refl
count_alike p q from (suc n) same = ap (λ b. cond b 1 0 + count_range p (from + 1) n) (same from (omega arith)) ∙ ap (λ k. cond (q from) 1 0 + k) (count_alike p q (from + 1) n (λ k le. same k (omega arith)))

pub range_counts : (n from : ℕ) (xs : List ℕ) → ((k : ℕ) → member k xs ≡ true → (from ≤ k) × (k < from + n)) → length (each_once xs) ≡ count_range (λ k. member k xs) from n
range_counts zero from [] within = refl
range_counts zero from (x ∷ xs) within = absurd (let p = within x (or_left (x == x) (member x xs) (same_number x)) in omega (arith, p.0, p.1))
range_counts (suc n) from xs within =
    one_and_others from xs
    ∙ ap (λ k. cond (member from xs) 1 0 + k) (range_counts n (from + 1) (others from xs) (λ k mem. let q = inside k mem in (q.0, q.1)) ∙ count_alike (λ k. member k (others from xs)) (λ k. member k xs) (from + 1) n (λ k le. member_others from k xs (apart k le)))
  where
    apart : (k : ℕ) → from + 1 ≤ k → (k == from) ≡ false
    apart k le = grind (arith, nat_tests)

    inside : (k : ℕ) → member k (others from xs) ≡ true → (from + 1 ≤ k) × (k < from + 1 + n)
    inside k mem = elim (cases_eq k from) [
      | inl same ↦ absurd (both_ways (member k (others from xs)) (ap (λ j. member j (others from xs)) same ∙ member_self from xs) mem)
      | inr other ↦
          let p = within k (sym (member_others from k xs (differ k other)) ∙ mem) in
          let low = p.0 in
          let high = p.1 in
          (omega arith, omega arith)
    ]
      where
        differ : (k : ℕ) → (k ≡ from → ⊥) → (k == from) ≡ false
        differ k other = grind (arith, nat_tests)
