-- The entries without the entries of a range of addresses.
use Rattle.std.proofs.Common.{◌≡◌, ℕ, zero, suc, ◌+◌, ◌-◌, ◌*◌, ◌/◌, ◌%◌, ◌<◌, ◌≤◌, ◌==◌, Option, None, refl, sym, ◌∙◌, ap, subst, arith, inl, inr, ◌⊎◌, add-one, ne_eqb}
use Rattle.std.specs.Cmp.{nat_cmp_total}
use Rattle.std.specs.FinMap.{get, remove, same_map, nat_cmp-IsAntisymmetric}
use Rattle.std.proofs.lemmas.Bool.{cases_eq, cases_lt, cond-false}
use Rattle.std.proofs.lemmas.Nat.{div-add-mod', mod_below}
use Rattle.ft_base.specs.declared.geometry.Geometry.{Geometry}
use Rattle.ft_base.specs.declared.record.Record.{Record}
use Rattle.ft_base.specs.declared.record.Record.TheVariants.{SetPage, Remove, Clean, SetGroup, RemoveGroup}
use Rattle.cache_model.specs.declared.entry.Entry.{Entry}
use Rattle.cache_model.specs.Records.{Entries, after}
use Rattle.cache_model.proofs.Words.{after_at}
use Rattle.cache_model.specs.Entries.{IsMap}
use Rattle.cache_model.proofs.StepLemmas.{get-after}
use Rattle.mapping.specs.declared.index.Index.{Index}
use Rattle.mapping.specs.Index.{IsIndex, without_range}
use Rattle.mapping.specs.declared.ranges.Span.{Span}
use Rattle.mapping.specs.Ranges.{first_of, count_of, group_of, start_of, IsSpanOf}
use Rattle.mapping.proofs.CountsLemmas.{div_mono}
use Rattle.mapping.proofs.TallyLemmas.{not_there, others_there, absent_same, without_map}

abbrev pub IsOutside : ℕ → ℕ → ℕ → Type 0
IsOutside first n q = (q < first) ⊎ (first + n ≤ q)

fewer : (first n q : ℕ) → IsOutside first (suc n) q → IsOutside first n q × (q ≡ first + n → ⊥)
fewer first n q (inl low) = (inl low, λ s. absurd (omega arith))
fewer first n q (inr high) = (inr (omega arith), λ s. absurd (omega arith))

pub outside : (m : Entries) (first n q : ℕ) → IsOutside first n q → get (without_range m first n) q ≡ get m q
outside m first zero q out = refl
outside m first (suc n) q out = let p = fewer first n q out in others_there (without_range m first n) (first + n) q p.1 ∙ outside m first n q p.0

pub inside : (m : Entries) (first n q : ℕ) → first ≤ q → q < first + n → get (without_range m first n) q ≡ None
inside m first zero q low high = absurd (omega arith)
inside m first (suc n) q low high = elim (cases_eq q (first + n)) [
  | inl same ↦ ap (get (remove (without_range m first n) (first + n))) same ∙ not_there (without_range m first n) (first + n)
  | inr other ↦ others_there (without_range m first n) (first + n) q other ∙ inside m first n q low (omega arith)
]

pub still_map : (g : Geometry) (m : Entries) (first n : ℕ) → IsMap g m → IsMap g (without_range m first n)
still_map g m first zero is_map = is_map
still_map g m first (suc n) is_map = without_map g (without_range m first n) (first + n) (still_map g m first n is_map)

pub next_there : (m : Entries) (first n : ℕ) → get (without_range m first n) (first + n) ≡ get m (first + n)
next_there m first n = outside m first n (first + n) (inr (omega arith))

one_more : (m : Entries) (first n : ℕ) → remove (without_range m first n) (first + n) ≡ without_range m first (n + 1)
one_more m first n = ap (without_range m first) (sym (add-one n))

-- an address with an entry, and one without
pub next_left : (g : Geometry) (m : Entries) (first n : ℕ) (index : Index) → IsIndex g (remove (without_range m first n) (first + n)) index → IsIndex g (without_range m first (n + 1)) index
next_left g m first n index all = subst (λ (x : Entries). IsIndex g x index) (one_more m first n) all

pub next_absent : (g : Geometry) (m : Entries) (first n : ℕ) (index : Index) → get m (first + n) ≡ None → IsIndex g (without_range m first n) index → IsIndex g (without_range m first (n + 1)) index
next_absent g m first n index none all = subst (λ (x : Entries). IsIndex g x index) (sym (absent_same (without_range m first n) (first + n) (next_there m first n ∙ none)) ∙ one_more m first n) all

pub last_there : (g : Geometry) (m : Entries) (first n : ℕ) (index : Index) → IsIndex g (without_range m first (n + 1)) index → IsIndex g (remove (without_range m first n) (first + n)) index
last_there g m first n index all = subst (λ (x : Entries). IsIndex g x index) (sym (one_more m first n)) all

pub last_absent : (g : Geometry) (m : Entries) (first n : ℕ) (index : Index) → get m (first + n) ≡ None → IsIndex g (without_range m first (n + 1)) index → IsIndex g (without_range m first n) index
last_absent g m first n index none all = subst (λ (x : Entries). IsIndex g x index) (sym (one_more m first n) ∙ absent_same (without_range m first n) (first + n) (next_there m first n ∙ none)) all

-- the entry of a page of a group, by its address
pub there : (h g : Geometry) (m : Entries) (span : Span) (n : ℕ) (o : Option Entry) → h ≡ g → o ≡ get m (span.group * h.p + (span.first + n)) → o ≡ get m (start_of g span + n)
there h g m span n o same is = is ∙ ap (λ (x : Geometry). get m (span.group * x.p + (span.first + n))) same ∙ ap (get m) (turned (span.group * g.p) span.first n)
  where
    turned : (a b c : ℕ) → a + (b + c) ≡ a + b + c
    turned a b c = omega arith

-- the pages that a change of an address, and one of a group, concern
pub page_is : (g : Geometry) (change : Record) (lba : ℕ) (span : Span) → group_of g change ≡ lba / g.p → first_of g change ≡ lba → count_of g change ≡ 1 → lba < g.size
    → span.group ≡ lba / g.p → start_of g span ≡ lba → span.count ≡ 1 → span.first < g.p → IsSpanOf g change span
page_is g change lba span of_group of_first of_count low group first count within = record {
  group = group ∙ sym of_group;
  first = first ∙ sym of_first;
  count = count ∙ sym of_count;
  inside = record {
    reach = subst (λ n. n ≤ (g.size - 1) / g.p) (sym group) (div_mono lba (g.size - 1) g.p (omega (arith, g.in_range.p_low)) (omega (arith, low)));
    within = omega (arith, count, within);
  };
}

pub pages_are : (g : Geometry) (change : Record) (group : ℕ) (span : Span) → group_of g change ≡ group → first_of g change ≡ group * g.p → count_of g change ≡ g.p → group ≤ (g.size - 1) / g.p
    → span ≡ record { group = group; first = 0; count = g.p } → IsSpanOf g change span
pages_are g change group span of_group of_first of_count reach is = subst (λ (s : Span). IsSpanOf g change s) (sym is) (record {
  group = sym of_group;
  first = no_more (group * g.p) ∙ sym of_first;
  count = sym of_count;
  inside = record { reach = reach; within = omega arith };
})
  where
    no_more : (n : ℕ) → n + 0 ≡ n
    no_more n = omega arith

-- maps that are alike outside of a range
pub same_without : (m n : Entries) (first k : ℕ) → ((q : ℕ) → IsOutside first k q → get m q ≡ get n q) → without_range m first k ≡ without_range n first k
same_without m n first k same = same_map nat_cmp_total nat_cmp-IsAntisymmetric (without_range m first k) (without_range n first k) (λ q. elim (cases_lt q first) [
  | inl low ↦ beside q (inl low)
  | inr high ↦ elim (cases_lt q (first + k)) [
    | inl within ↦ inside m first k q high within ∙ sym (inside n first k q high within)
    | inr past ↦ beside q (inr past)
  ]
])
  where
    beside : (q : ℕ) → IsOutside first k q → get (without_range m first k) q ≡ get (without_range n first k) q
    beside q out = outside m first k q out ∙ same q out ∙ sym (outside n first k q out)

-- ---- the addresses that a record changes

not_one : (lba q : ℕ) → IsOutside lba 1 q → q ≡ lba → ⊥
not_one lba q (inl low) s = absurd (omega arith)
not_one lba q (inr high) s = absurd (omega arith)

not_group : (g : Geometry) (group q : ℕ) → IsOutside (group * g.p) g.p q → q / g.p ≡ group → ⊥
not_group g group q out s =
    let whole : group * g.p + q % g.p ≡ q = ap (λ n. n * g.p + q % g.p) (sym s) ∙ div-add-mod' q g.p in
    let low = mod_below q g.p (omega (arith, g.in_range.p_low)) in
    by_side out whole low
  where
    by_side : IsOutside (group * g.p) g.p q → group * g.p + q % g.p ≡ q → q % g.p < g.p → ⊥
    by_side (inl below) whole low = absurd (omega arith)
    by_side (inr past) whole low = absurd (omega arith)

-- outside of its addresses a record changes nothing
pub after_outside : (g : Geometry) (change : Record) (m : Entries) (q : ℕ) → IsOutside (first_of g change) (count_of g change) q → get m q ≡ get (after g change m) q
after_outside g change m q out = sym (get-after g change m q ∙ by_change change out)
  where
    by_change : (change : Record) → IsOutside (first_of g change) (count_of g change) q → after_at g change (get m) q ≡ get m q
    by_change (SetPage lba place dirty) out = cond-false (q == lba) _ _ (ne_eqb q lba (not_one lba q out))
    by_change (Remove lba) out = cond-false (q == lba) _ _ (ne_eqb q lba (not_one lba q out))
    by_change (Clean lba) out = cond-false (q == lba) _ _ (ne_eqb q lba (not_one lba q out))
    by_change (SetGroup group block present dirty) out = cond-false (q / g.p == group) _ _ (ne_eqb (q / g.p) group (not_group g group q out))
    by_change (RemoveGroup group) out = cond-false (q / g.p == group) _ _ (ne_eqb (q / g.p) group (not_group g group q out))

-- beside its addresses the entries before a record and after it are the same
pub around : (g : Geometry) (change : Record) (old new : Entries) (first count : ℕ) (index : Index) → first ≡ first_of g change → count ≡ count_of g change → new ≡ after g change old → IsIndex g (without_range old first count) index → IsIndex g (without_range new first count) index
around g change old new first count index from many is all = subst (λ (x : Entries). IsIndex g x index)
    (same_without old new first count (λ q out. after_outside g change old q (subst (λ k. IsOutside k (count_of g change) q) from (subst (λ k. IsOutside first k q) many out)) ∙ ap (λ (x : Entries). get x q) (sym is))) all

-- in other groups a record changes nothing
pub after_elsewhere : (g : Geometry) (change : Record) (m : Entries) (q : ℕ) → (q / g.p ≡ group_of g change → ⊥) → get (after g change m) q ≡ get m q
after_elsewhere g change m q apart = get-after g change m q ∙ by_change change apart
  where
    by_change : (change : Record) → (q / g.p ≡ group_of g change → ⊥) → after_at g change (get m) q ≡ get m q
    by_change (SetPage lba place dirty) apart = cond-false (q == lba) _ _ (ne_eqb q lba (λ s. apart (ap (λ n. n / g.p) s)))
    by_change (Remove lba) apart = cond-false (q == lba) _ _ (ne_eqb q lba (λ s. apart (ap (λ n. n / g.p) s)))
    by_change (Clean lba) apart = cond-false (q == lba) _ _ (ne_eqb q lba (λ s. apart (ap (λ n. n / g.p) s)))
    by_change (SetGroup group block present dirty) apart = cond-false (q / g.p == group) _ _ (ne_eqb (q / g.p) group apart)
    by_change (RemoveGroup group) apart = cond-false (q / g.p == group) _ _ (ne_eqb (q / g.p) group apart)
