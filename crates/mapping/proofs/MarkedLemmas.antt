-- How many addresses of each group are dirty, when one group alone changes.
use Rattle.std.proofs.Common.{◌≡◌, ◌≢◌, ◌↔◌, ◌⊎◌, IsTrue, ℕ, zero, suc, ◌+◌, ◌-◌, ◌/◌, ◌^◌, ◌<◌, ◌≤◌, ◌==◌, nat_lt, Bool, true, false, cond, not, List, [], ◌∷◌, length, filter, Option, Some, None, refl, sym, ◌∙◌, ap, ap₂, subst, arith, inl, inr, eqb-true, eq-eqb, ne_eqb, lt-ltb, ltb-true, nat_cmp}
use Rattle.std.specs.Cmp.{nat_cmp_total}
use Rattle.std.specs.FinMap.{get, entries, retain_keys, from_sorted, entries_sorted, get-empty, get-entries, get-from_sorted, entries-from_sorted, same_map, nat_cmp-IsAntisymmetric}
use Rattle.std.specs.FinMap.Entries.{is_sorted-where_key, find-where_key}
use Rattle.std.proofs.lemmas.Bool.{cases_Bool, cases_eq, both_ways}
use Rattle.ft_base.specs.declared.geometry.Geometry.{Geometry}
use Rattle.cache_model.specs.declared.entry.Entry.{Entry}
use Rattle.cache_model.specs.Records.{Entries, no_entries, is_in_group}
use Rattle.cache_model.specs.Entries.{IsMap, groups_with}
use Rattle.cache_model.proofs.MapLemmas.{get_retain}
use Rattle.cache_model.proofs.CountLemmas.{numbers, taken}
use Rattle.mapping.specs.declared.marks.Mark.{Mark}
use Rattle.mapping.specs.declared.marks.Mark.TheVariants.{Dirty}
use Rattle.mapping.specs.declared.bits.Choice.TheVariants.{Dirty as DirtyPages}
use Rattle.mapping.specs.Bits.{chosen_of}
use Rattle.mapping.specs.Counts.{has_mark, dirty_group_count}
use Rattle.mapping.specs.DirtyGroups.{DirtyCounts, count_of, SetsOnly}
use Rattle.mapping.specs.Index.{tally}
use Rattle.mapping.specs.MarkedGroups.{dirty_in, AreDirtyGroups}
use Rattle.mapping.specs.Seeking.{HasMarkIn}
use Rattle.mapping.proofs.ChosenLemmas.{chosen_some}
use Rattle.mapping.proofs.MarksLemmas.{member_from, member_to, some_counted, group_counts}
use Rattle.mapping.proofs.TallyLemmas.{tally_is, tally_none, tally_few, counted_some, no_groups}

abbrev is_dirty : Entry → Bool
is_dirty e = e.dirty

-- ---- a group and the others

split_list : (t : Entry → Bool) (p : ℕ → Bool) (es : List (ℕ × Entry)) → length (filter (λ x. t x.1) es) ≡ length (filter (λ x. t x.1) (filter (λ x. p x.0) es)) + length (filter (λ x. t x.1) (filter (λ x. not (p x.0)) es))
split_list t p [] = refl
split_list t p (x ∷ es) =
    let all = filter (λ (y : ℕ × Entry). t y.1) es in
    let ins = filter (λ (y : ℕ × Entry). p y.0) es in
    let outs = filter (λ (y : ℕ × Entry). not (p y.0)) es in
    let rest = split_list t p es in
    elim (p x.0) as (λ b. length (cond (t x.1) (x ∷ all) all) ≡ length (filter (λ (y : ℕ × Entry). t y.1) (cond b (x ∷ ins) ins)) + length (filter (λ (y : ℕ × Entry). t y.1) (cond (not b) (x ∷ outs) outs))) [
      | true ↦ elim (t x.1) as (λ b. length (cond b (x ∷ all) all) ≡ length (cond b (x ∷ filter (λ (y : ℕ × Entry). t y.1) ins) (filter (λ (y : ℕ × Entry). t y.1) ins)) + length (filter (λ (y : ℕ × Entry). t y.1) outs)) [ true ↦ omega (arith, rest) | false ↦ rest ]
      | false ↦ elim (t x.1) as (λ b. length (cond b (x ∷ all) all) ≡ length (filter (λ (y : ℕ × Entry). t y.1) ins) + length (cond b (x ∷ filter (λ (y : ℕ × Entry). t y.1) outs) (filter (λ (y : ℕ × Entry). t y.1) outs))) [ true ↦ omega (arith, rest) | false ↦ rest ]
    ]

kept_entries : (m : Entries) (p : ℕ → Bool) → entries (retain_keys m p) ≡ filter (λ x. p x.0) (entries m)
kept_entries m p =
    let own = filter (λ (x : ℕ × Entry). p x.0) (entries m) in
    let sorted = is_sorted-where_key nat_cmp p (entries m) (entries_sorted m) in
    ap entries (same_map nat_cmp_total nat_cmp-IsAntisymmetric (retain_keys m p) (from_sorted own) (λ q.
    get_retain m p q
    ∙ ap (λ o. cond (p q) o None) (get-entries m q)
    ∙ sym (find-where_key nat_cmp p q (λ x t. ap p (sym (nat_cmp-IsAntisymmetric q x t))) (entries m))
    ∙ sym (get-from_sorted nat_cmp own q sorted)))
    ∙ entries-from_sorted nat_cmp own sorted

tally_kept : (t : Entry → Bool) (m : Entries) (p : ℕ → Bool) → tally t (retain_keys m p) ≡ length (filter (λ x. t x.1) (filter (λ x. p x.0) (entries m)))
tally_kept t m p = tally_is t (retain_keys m p) ∙ ap (λ (es : List (ℕ × Entry)). length (filter (λ (x : ℕ × Entry). t x.1) es)) (kept_entries m p)

tally_split : (t : Entry → Bool) (m : Entries) (p : ℕ → Bool) → tally t m ≡ tally t (retain_keys m p) + tally t (retain_keys m (λ a. not (p a)))
tally_split t m p = tally_is t m ∙ split_list t p (entries m) ∙ ap₂ (λ x y. x + y) (sym (tally_kept t m p)) (sym (tally_kept t m (λ a. not (p a))))

-- maps that are alike where a test holds
kept_same : (m n : Entries) (p : ℕ → Bool) → ((a : ℕ) → p a ≡ true → get n a ≡ get m a) → retain_keys n p ≡ retain_keys m p
kept_same m n p same = same_map nat_cmp_total nat_cmp-IsAntisymmetric (retain_keys n p) (retain_keys m p) (λ q. get_retain n p q ∙ by_test q ∙ sym (get_retain m p q))
  where
    by_test : (q : ℕ) → cond (p q) (get n q) None ≡ cond (p q) (get m q) None
    by_test q = elim (cases_Bool (p q)) [
      | inl t ↦ ap (λ b. cond b (get n q) None) t ∙ same q t ∙ sym (ap (λ b. cond b (get m q) None) t)
      | inr f ↦ ap (λ b. cond b (get n q) None) f ∙ sym (ap (λ b. cond b (get m q) None) f)
    ]

not_in : (g : Geometry) (group a : ℕ) → not (is_in_group g group a) ≡ true → a / g.p ≡ group → ⊥
not_in g group a t same = both_ways (not (is_in_group g group a)) (ap not (eq-eqb (a / g.p) group same)) t

pub dirty_few : (g : Geometry) (m : Entries) (group : ℕ) → IsMap g m → dirty_in g m group ≤ 73856
dirty_few g m group is_map =
    let all = tally_split is_dirty m (is_in_group g group) in
    let few = tally_few g is_dirty m is_map in
    omega (arith, all, few)

module _ (g : Geometry) (m n : Entries) (group : ℕ) (others : (a : ℕ) → (a / g.p ≡ group → ⊥) → get n a ≡ get m a) where
  -- the count of the group changes as the count of all does
  pub dirty_here : dirty_in g n group + tally (λ e. e.dirty) m ≡ dirty_in g m group + tally (λ e. e.dirty) n
  dirty_here =
      let before = tally_split is_dirty m (is_in_group g group) in
      let after = tally_split is_dirty n (is_in_group g group) in
      let rest = ap (tally is_dirty) (kept_same m n (λ a. not (is_in_group g group a)) (λ a t. others a (not_in g group a t))) in
      omega (arith, before, after, rest)

  pub dirty_elsewhere : (k : ℕ) → k ≢ group → dirty_in g n k ≡ dirty_in g m k
  dirty_elsewhere k apart = ap (tally is_dirty) (kept_same m n (is_in_group g k) (λ a t. others a (λ s. apart (sym (eqb-true _ _ t) ∙ s))))

  -- the count that the count of all gives
  module _ (before count now : ℕ) (before_is : before ≡ tally (λ e. e.dirty) m) (now_is : now ≡ tally (λ e. e.dirty) n) (count_is : count ≡ dirty_in g m group) where
    pub count_enough : before ≤ count + now
    count_enough = let here = dirty_here in omega (arith, here, before_is, now_is, count_is)

    pub count_now : (x : ℕ) → x + before ≡ count + now → x ≡ dirty_in g n group
    count_now x sum = let here = dirty_here in omega (arith, here, before_is, now_is, count_is, sum)

    pub count_few : IsMap g m → IsMap g n → count + now < 2 ^ 32
    count_few is_map is_map' =
        let few = dirty_few g m group is_map in
        let few' = tally_few g is_dirty n is_map' in
        omega (arith, few, few', now_is, count_is)

-- ---- whether a group is dirty

module _ (g : Geometry) (m : Entries) (group : ℕ) where
  pub dirty_marked : (0 < dirty_in g m group → HasMarkIn g m Dirty group) × (HasMarkIn g m Dirty group → 0 < dirty_in g m group)
  dirty_marked = (
    λ some.
        let own = retain_keys m (is_in_group g group) in
        let k = counted_some (numbers (λ (x : ℕ × Entry). x.0) is_dirty (entries own)) some in
        let x = member_to (λ (x : ℕ × Entry). x.0) is_dirty own k.0 k.1 in
        let here = sym (get_retain m (is_in_group g group) x.0.0) ∙ x.1 in
        (x.0.0, eqb-true _ _ (in_group (is_in_group g group x.0.0) (get m x.0.0) x.0.1 here), (x.0.1, there (is_in_group g group x.0.0) (get m x.0.0) x.0.1 here, x.2)),
    λ x.
        let own = retain_keys m (is_in_group g group) in
        let here : get own x.0 ≡ Some x.2.0 = get_retain m (is_in_group g group) x.0 ∙ ap (λ b. cond b (get m x.0) None) (eq-eqb (x.0 / g.p) group x.1) ∙ x.2.1 in
        some_counted (numbers (λ (x : ℕ × Entry). x.0) is_dirty (entries own)) x.0 (member_from (λ (x : ℕ × Entry). x.0) is_dirty own x.0 x.2.0 here x.2.2),
  )
    where
      in_group : (b : Bool) (o : Option Entry) (e : Entry) → cond b o None ≡ Some e → b ≡ true
      in_group true o e is = refl
      in_group false o e is = absurd (cc)

      there : (b : Bool) (o : Option Entry) (e : Entry) → cond b o None ≡ Some e → o ≡ Some e
      there true o e is = is
      there false o e is = absurd (cc)

  pub some_marked : (n : ℕ) → n ≡ dirty_in g m group → IsTrue (nat_lt 0 n) ↔ HasMarkIn g m Dirty group
  some_marked n is = (
    λ t. dirty_marked.0 (subst (λ k. 0 < k) is (ltb-true 0 n t)),
    λ x. lt-ltb 0 n (subst (λ k. 0 < k) (sym is) (dirty_marked.1 x)),
  )

  -- then no page of it is in the set of the dirty ones
  pub no_dirty_pages : dirty_in g m group ≡ 0 → 0 ≡ chosen_of DirtyPages g m group
  no_dirty_pages none = elim (cases_eq (chosen_of DirtyPages g m group) 0) [
    | inl empty ↦ sym empty
    | inr other ↦ absurd (let x = chosen_some g m group DirtyPages other in let some = dirty_marked.1 (x.0, x.3, (x.1, x.2, x.4)) in omega (arith, some, none))
  ]

-- ---- the counts that are kept

pub none_dirty : (g : Geometry) (group : ℕ) → dirty_in g no_entries group ≡ 0
none_dirty g group = ap (tally is_dirty) (same_map nat_cmp_total nat_cmp-IsAntisymmetric (retain_keys no_entries (is_in_group g group)) no_entries (λ q. get_retain no_entries (is_in_group g group) q ∙ ap (λ o. cond (is_in_group g group q) o None) (get-empty _ q) ∙ no_choice (is_in_group g group q) ∙ sym (get-empty _ q)))
    ∙ tally_none is_dirty
  where
    no_choice : (b : Bool) → ◌≡◌ {A = Option Entry} (cond b None None) None
    no_choice true = refl
    no_choice false = refl

pub no_marked : (g : Geometry) (dirty : DirtyCounts) → dirty ≡ record { pairs = []; room = g.c } → AreDirtyGroups g no_entries dirty
no_marked g dirty is = subst (λ (d : DirtyCounts). AreDirtyGroups g no_entries d) (sym is) (record {
  each = λ group. sym (none_dirty g group);
  many = sym (no_groups g is_dirty);
  room = omega arith;
})

module _ (g : Geometry) (m n : Entries) (group : ℕ) (others : (a : ℕ) → (a / g.p ≡ group → ⊥) → get n a ≡ get m a) (old : DirtyCounts) (all : AreDirtyGroups g m old) (now : ℕ) (now_is : now ≡ dirty_in g n group) where
  abbrev had : Bool
  had = nat_lt 0 (count_of old.pairs group)

  abbrev has : Bool
  has = nat_lt 0 now

  groups_after : dirty_group_count g n + cond had 1 0 ≡ dirty_group_count g m + cond has 1 0
  groups_after = group_counts g Dirty group m n had has others (some_marked g m group (count_of old.pairs group) (all.each group)) (some_marked g n group now now_is)

  -- a group that becomes dirty has room
  pub has_room : IsMap g n → (now ≡ 0) ⊎ ((0 < count_of old.pairs group) ⊎ (length old.pairs < old.room))
  has_room is_map = by_counts now (count_of old.pairs group) refl refl
    where
      by_counts : (k j : ℕ) → now ≡ k → count_of old.pairs group ≡ j → (now ≡ 0) ⊎ ((0 < count_of old.pairs group) ⊎ (length old.pairs < old.room))
      by_counts zero j is is' = inl is
      by_counts (suc k) (suc j) is is' = inr (inl (omega arith))
      by_counts (suc k) zero is is' =
          let fresh : dirty_group_count g n + 0 ≡ dirty_group_count g m + 1 = sym (ap (λ j. dirty_group_count g n + cond (nat_lt 0 j) 1 0) is') ∙ groups_after ∙ ap (λ j. dirty_group_count g m + cond (nat_lt 0 j) 1 0) is
          ∙ ap (λ b. dirty_group_count g m + cond b 1 0) (lt-ltb 0 (suc k) (omega arith)) in
          let many = all.many in
          let room = all.room in
          let few = is_map.dirty_groups in
          inr (inr (omega (arith, fresh, many, room, few)))

  pub counted_after : (new : DirtyCounts) → SetsOnly old.pairs new.pairs group now
      → length new.pairs + cond (count_of old.pairs group == 0) 0 1 ≡ length old.pairs + cond (now == 0) 0 1
      → old.room ≤ new.room → AreDirtyGroups g n new
  counted_after new sets len room = record {
    each = λ k. elim (cases_eq k group) [
      | inl same ↦ ap (count_of new.pairs) same ∙ sets.here ∙ now_is ∙ ap (dirty_in g n) (sym same)
      | inr other ↦ sets.others k other ∙ all.each k ∙ sym (dirty_elsewhere g m n group others k other)
    ];
    many =
        let before = turned (count_of old.pairs group) in
        let after = turned now in
        let groups = groups_after in
        let many = all.many in
        omega (arith, before, after, groups, many, len);
    room = let enough = all.room in omega (arith, enough, room);
  }
    where
      turned : (k : ℕ) → ◌≡◌ {A = ℕ} (cond (k == 0) 0 1) (cond (nat_lt 0 k) 1 0)
      turned zero = refl
      turned (suc k) = ap (λ b. cond b 0 1) (ne_eqb (suc k) 0 (λ e. absurd (omega arith))) ∙ sym (ap (λ b. cond b 1 0) (lt-ltb 0 (suc k) (omega arith)))
