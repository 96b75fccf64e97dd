-- How counts of entries change with one address.
use Rattle.std.proofs.Common.{◌≡◌, ℕ, zero, suc, length-append, ◌+◌, ◌-◌, ◌/◌, ◌<◌, ◌≤◌, ◌==◌, ◌&&◌, Bool, true, false, cond, not, List, [], ◌∷◌, length, get_or, set, replicate, map, filter, Option, Some, None, refl, sym, ◌∙◌, ap, ap₂, subst, arith, inl, inr, nat_cmp, eqb-true, eq-eqb, ne_eqb}
use Rattle.std.specs.List.{AllByRecursion}
use Rattle.std.specs.Ordering.{is_lt}
use Rattle.std.specs.Cmp.{nat_cmp_total}
use Rattle.std.specs.FinMap.{get, remove, entries, from_entries, entries_sorted, get-entries, get-from_entries, get-empty, same_map, nat_cmp-IsAntisymmetric, is_sorted}
use Rattle.std.specs.FinMap.Entries.{below_all}
use Rattle.std.proofs.lemmas.Bool.{cases_Bool, cases_eq, and_parts, and_from, both_ways, or_left, not-true}
use Rattle.std.proofs.lemmas.List.{length-map, length-set, length-replicate, get_or-set_same, get_or-set_other, get_or_default}
use Rattle.std.proofs.lemmas.Option.{same_Some}
use Rattle.ft_base.specs.declared.geometry.Geometry.{Geometry}
use Rattle.ft_base.specs.Layout.{first_pool}
use Rattle.cache_model.specs.declared.entry.Entry.{Entry}
use Rattle.cache_model.specs.Records.{Entries, no_entries}
use Rattle.cache_model.specs.Entries.{each_once, groups_with, blocks_with, page_mapped, IsMap}
use Rattle.cache_model.proofs.MapLemmas.{holds, get_remove, less_key}
use Rattle.cache_model.proofs.FitsLemmas.{no_entries-nil}
use Rattle.cache_model.proofs.CountLemmas.{member, numbers, same_number, each_once-same, counts_beside, less-map, member_of, each_once-no_longer, taken}
use Rattle.ft_base.specs.declared.record.Record.{Record}
use Rattle.mapping.specs.Checkpoint.{IsCheckpointOf, set_group_of, set_page_of}
use Rattle.mapping.specs.Numbers.{pool_pages, number_of}
use Rattle.mapping.specs.declared.index.LogCounts.{LogCounts}
use Rattle.mapping.specs.declared.index.Index.{Index}
use Rattle.mapping.specs.Index.{tally, is_any, is_mapped_in, OwnersAre, LogsAre, IsIndex}
use Rattle.mapping.proofs.MarksLemmas.{same_bools, member_from, member_to, some_counted}
use Rattle.mapping.proofs.NumbersLemmas.{number_below, number_tells, pages_few, pool_end}
use Rattle.mapping.proofs.PoolLemmas.{few_entries}
use Rattle.mapping.proofs.SeekingLemmas.{none_some}

-- ---- how many numbers there are

pub counted_some : (ns : List ℕ) → 0 < length (each_once ns) → (n : ℕ) × (member n ns ≡ true)
counted_some [] some = absurd (omega arith)
counted_some (k ∷ ns) some = (k, or_left (k == k) (member k ns) (same_number k))

-- ---- how many entries pass

abbrev pub shows : (Entry → Bool) → Option Entry → Bool
shows t None = false
shows t (Some e) = t e

pub member_is : (t : Entry → Bool) (m : Entries) (a : ℕ) → member a (numbers (λ x. x.0) t (entries m)) ≡ shows t (get m a)
member_is t m a = by_entry (get m a) refl
  where
    by_entry : (o : Option Entry) → get m a ≡ o → member a (numbers (λ x. x.0) t (entries m)) ≡ shows t o
    by_entry None is = same_bools (member a (numbers (λ x. x.0) t (entries m))) false
        (λ mem. let x = member_to (λ x. x.0) t m a mem in none_some x.0.1 (sym is ∙ ap (get m) (sym x.3) ∙ x.1))
        (λ f. absurd (both_ways false refl f))
    by_entry (Some e) is = same_bools (member a (numbers (λ x. x.0) t (entries m))) (t e)
        (λ mem. let x = member_to (λ x. x.0) t m a mem in ap t (same_Some e x.0.1 (sym is ∙ ap (get m) (sym x.3) ∙ x.1)) ∙ x.2)
        (λ y. member_from (λ x. x.0) t m a e is y)

-- two maps that differ at one address
pub tally_beside : (t : Entry → Bool) (m n : Entries) (a : ℕ) → ((q : ℕ) → (q ≡ a → ⊥) → get n q ≡ get m q) → tally t n + cond (shows t (get m a)) 1 0 ≡ tally t m + cond (shows t (get n a)) 1 0
tally_beside t m n a same =
    ap (λ b. tally t n + cond b 1 0) (sym (member_is t m a))
    ∙ counts_beside a (numbers (λ x. x.0) t (entries m)) (numbers (λ x. x.0) t (entries n)) (λ q apart. member_is t m q ∙ ap (shows t) (sym (same q apart)) ∙ sym (member_is t n q))
    ∙ ap (λ b. tally t m + cond b 1 0) (member_is t n a)

pub not_there : (m : Entries) (a : ℕ) → get (remove m a) a ≡ None
not_there m a = get_remove m a a ∙ ap (λ b. cond b None (get m a)) (same_number a)

pub others_there : (m : Entries) (a q : ℕ) → (q ≡ a → ⊥) → get (remove m a) q ≡ get m q
others_there m a q apart = get_remove m a q ∙ ap (λ b. cond b None (get m q)) (ne_eqb q a apart)

pub absent_same : (m : Entries) (a : ℕ) → get m a ≡ None → remove m a ≡ m
absent_same m a none = same_map nat_cmp_total nat_cmp-IsAntisymmetric (remove m a) m (λ q. elim (cases_eq q a) [
  | inl same ↦ ap (get (remove m a)) same ∙ not_there m a ∙ sym none ∙ ap (get m) (sym same)
  | inr other ↦ others_there m a q other
])

-- without an entry
pub tally_without : (t : Entry → Bool) (m : Entries) (a : ℕ) (e : Entry) → get m a ≡ Some e → tally t (remove m a) + cond (t e) 1 0 ≡ tally t m
tally_without t m a e is =
    ap (λ o. tally t (remove m a) + cond (shows t o) 1 0) (sym is)
    ∙ tally_beside t m (remove m a) a (others_there m a)
    ∙ ap (λ o. tally t m + cond (shows t o) 1 0) (not_there m a) ∙ no_more (tally t m)
  where
    no_more : (k : ℕ) → k + 0 ≡ k
    no_more k = omega arith

-- a map has at most as many entries as the pool has pages
pub from_its_entries : (m : Entries) → from_entries {R = nat_cmp} (entries m) ≡ m
from_its_entries m = same_map nat_cmp_total nat_cmp-IsAntisymmetric (from_entries (entries m)) m (λ q. get-from_entries nat_cmp_total (entries m) q ∙ sym (get-entries m q))

pub few_held : (g : Geometry) (m : Entries) → IsMap g m → length (entries m) ≤ 73856
few_held g m is_map =
    let few = few_entries g (entries m) (record { sorted = holds (is_sorted nat_cmp (entries m)) (entries_sorted m) }) (subst (λ (n : Entries). IsMap g n) (sym (from_its_entries m)) is_map) in
    omega (arith, few, pages_few g)

filter_few : (t : Entry → Bool) (es : List (ℕ × Entry)) → length (filter (λ x. t x.1) es) ≤ length es
filter_few t [] = omega arith
filter_few t (x ∷ es) =
    let few = filter_few t es in
    elim (t x.1) as (λ b. length (cond b (x ∷ filter (λ x. t x.1) es) (filter (λ x. t x.1) es)) ≤ suc (length es)) [ true ↦ omega (arith, few) | false ↦ omega (arith, few) ]

key_count : (es : List (ℕ × Entry)) → length (map (λ (x : ℕ × Entry). x.0) es) ≡ length es
key_count [] = refl
key_count (x ∷ es) = ap suc (key_count es)

pub tally_few : (g : Geometry) (t : Entry → Bool) (m : Entries) → IsMap g m → tally t m ≤ 73856
tally_few g t m is_map =
    let once = each_once-no_longer (numbers (λ x. x.0) t (entries m)) in
    let keys = key_count (filter (λ x. t x.1) (entries m)) in
    let few = filter_few t (entries m) in
    omega (arith, few_held g m is_map)

-- the addresses of a map's entries all differ
pub above : (k : ℕ) (es : List (ℕ × Entry)) → below_all nat_cmp k es ≡ true → AllByRecursion (λ y. k < y.0) es
above k [] below = tt
above k (e ∷ es) below =
    let p = and_parts (is_lt (nat_cmp k e.0)) (below_all nat_cmp k es) below in
    (less_key k e.0 p.0, above k es p.1)

all_counted : (t : Entry → Bool) (es : List (ℕ × Entry)) → is_sorted nat_cmp es ≡ true → length (each_once (numbers (λ x. x.0) t es)) ≡ length (filter (λ x. t x.1) es)
all_counted t [] sorted = refl
all_counted t (e ∷ es) sorted =
    let p = and_parts (below_all nat_cmp e.0 es) (is_sorted nat_cmp es) sorted in
    let rest = all_counted t es p.1 in
    elim (cases_Bool (t e.1)) [
      | inl y ↦
          ap (λ b. length (each_once (map (λ (x : ℕ × Entry). x.0) (cond b (e ∷ filter (λ x. t x.1) es) (filter (λ x. t x.1) es))))) y
          ∙ ap (λ b. length (cond b (each_once (numbers (λ x. x.0) t es)) (e.0 ∷ each_once (numbers (λ x. x.0) t es)))) (absent (member e.0 (numbers (λ x. x.0) t es)) refl p.0)
          ∙ ap suc rest ∙ sym (ap (λ b. length (cond b (e ∷ filter (λ x. t x.1) es) (filter (λ x. t x.1) es))) y)
      | inr f ↦
          ap (λ b. length (each_once (map (λ (x : ℕ × Entry). x.0) (cond b (e ∷ filter (λ x. t x.1) es) (filter (λ x. t x.1) es))))) f
          ∙ rest ∙ sym (ap (λ b. length (cond b (e ∷ filter (λ x. t x.1) es) (filter (λ x. t x.1) es))) f)
    ]
  where
    absent : (b : Bool) → member e.0 (numbers (λ x. x.0) t es) ≡ b → below_all nat_cmp e.0 es ≡ true → b ≡ false
    absent false is below = refl
    absent true is below = absurd (let x = member_of (λ x. x.0) t (λ y. e.0 < y.0) es e.0 (above e.0 es below) is in let low = x.1 in let same = x.3 in omega arith)

pub tally_is : (t : Entry → Bool) (m : Entries) → tally t m ≡ length (filter (λ x. t x.1) (entries m))
tally_is t m = all_counted t (entries m) (holds (is_sorted nat_cmp (entries m)) (entries_sorted m))

pub all_pass : (es : List (ℕ × Entry)) → length (filter (λ (x : ℕ × Entry). is_any x.1) es) ≡ length es
all_pass [] = refl
all_pass (x ∷ es) = ap suc (all_pass es)

-- a checkpoint has few records
pub records_few : (g : Geometry) (m : Entries) (records : List Record) → IsMap g m → IsCheckpointOf g m records → length records ≤ 74368
records_few g m records is_map x =
    let long : length records ≡ length (map (set_group_of g m) x.groups) + length (map set_page_of x.pages) = ap length x.are ∙ length-append (map (set_group_of g m) x.groups) (map set_page_of x.pages) in
    let groups = length-map x.groups (set_group_of g m) in
    let pages = length-map x.pages set_page_of in
    let once = x.of_groups.once in
    let once' = x.of_pages.once in
    let some = is_map.data_blocks in
    let c = g.in_range.c_high in
    let few = filter_few page_mapped (entries m) in
    let held = few_held g m is_map in
    omega (arith, long, groups, pages, once, once', some, c, few, held)

pub tally_none : (t : Entry → Bool) → tally t no_entries ≡ 0
tally_none t = ap (λ (es : List (ℕ × Entry)). length (each_once (map (λ (x : ℕ × Entry). x.0) (filter (λ x. t x.1) es)))) no_entries-nil

pub no_groups : (g : Geometry) (t : Entry → Bool) → length (groups_with g t no_entries) ≡ 0
no_groups g t = ap (λ (es : List (ℕ × Entry)). length (each_once (map (λ (x : ℕ × Entry). x.0 / g.p) (filter (λ (x : ℕ × Entry). t x.1) es)))) no_entries-nil

-- ---- without an entry it is a map still

pub without_map : (g : Geometry) (m : Entries) (a : ℕ) → IsMap g m → IsMap g (remove m a)
without_map g m a is_map = less-map g (remove m a) m (record { entry = λ q e is. (e, taken (q == a) (get m q) e (sym (get_remove m a q) ∙ is), (refl, refl, λ t. t)) }) is_map

-- ---- the blocks that have mapped pages

log_member : (m : Entries) (x : ℕ) → member x (numbers (λ x. x.1.place.block) page_mapped (entries m)) ≡ not (tally (is_mapped_in x) m == 0)
log_member m x = same_bools (member x (numbers (λ x. x.1.place.block) page_mapped (entries m))) (not (tally (is_mapped_in x) m == 0))
    (λ mem.
    let y = member_to (λ x. x.1.place.block) page_mapped m x mem in
    let some = some_counted (numbers (λ x. x.0) (is_mapped_in x) (entries m)) y.0.0 (member_from (λ x. x.0) (is_mapped_in x) m y.0.0 y.0.1 y.1 (and_from _ _ y.2 (eq-eqb _ _ y.3))) in
    ap not (ne_eqb (tally (is_mapped_in x) m) 0 (λ e. absurd (omega arith))))
    (λ t.
    let some : 0 < tally (is_mapped_in x) m = positive (tally (is_mapped_in x) m) t in
    let n = counted_some (numbers (λ x. x.0) (is_mapped_in x) (entries m)) some in
    let y = member_to (λ x. x.0) (is_mapped_in x) m n.0 n.1 in
    let p = and_parts (page_mapped y.0.1) (y.0.1.place.block == x) y.2 in
    ap (λ k. member k (numbers (λ x. x.1.place.block) page_mapped (entries m))) (sym (eqb-true _ _ p.1)) ∙ member_from (λ x. x.1.place.block) page_mapped m y.0.0 y.0.1 y.1 p.0)
  where
    positive : (n : ℕ) → not (n == 0) ≡ true → 0 < n
    positive n t = elim (cases_eq n 0) [
      | inl e ↦ absurd (both_ways (not (n == 0)) (ap not (eq-eqb n 0 e)) t)
      | inr other ↦ omega arith
    ]

-- without a mapped page: its block may have had no other one
pub used_without : (m : Entries) (a : ℕ) (e : Entry) → get m a ≡ Some e → page_mapped e ≡ true → length (blocks_with page_mapped (remove m a)) + cond (tally (is_mapped_in e.place.block) (remove m a) == 0) 1 0 ≡ length (blocks_with page_mapped m)
used_without m a e is mapped =
    let f : ℕ × Entry → ℕ = λ x. x.1.place.block in
    let x = e.place.block in
    let beside = counts_beside x (numbers f page_mapped (entries m)) (numbers f page_mapped (entries (remove m a))) (λ n apart. same_bools (member n (numbers f page_mapped (entries m))) (member n (numbers f page_mapped (entries (remove m a))))
    (λ mem.
    let y = member_to f page_mapped m n mem in
    ap (λ k. member k (numbers f page_mapped (entries (remove m a)))) (sym y.3) ∙ member_from f page_mapped (remove m a) y.0.0 y.0.1 (others_there m a y.0.0 (λ s. apart (sym y.3 ∙ ap (λ (z : Entry). z.place.block) (same_Some y.0.1 e (sym y.1 ∙ ap (get m) s ∙ is)))) ∙ y.1) y.2)
    (λ mem.
    let y = member_to f page_mapped (remove m a) n mem in
    ap (λ k. member k (numbers f page_mapped (entries m))) (sym y.3) ∙ member_from f page_mapped m y.0.0 y.0.1 (sym (others_there m a y.0.0 (λ s. none_some y.0.1 (sym (not_there m a) ∙ ap (get (remove m a)) (sym s) ∙ y.1))) ∙ y.1) y.2)) in
    let had : member x (numbers f page_mapped (entries m)) ≡ true = member_from f page_mapped m a e is mapped in
    summed (member x (numbers f page_mapped (entries m))) (member x (numbers f page_mapped (entries (remove m a)))) (tally (is_mapped_in x) (remove m a) == 0) (length (blocks_with page_mapped (remove m a))) (length (blocks_with page_mapped m)) had (log_member (remove m a) x) beside
  where
    summed : (b c d : Bool) (n k : ℕ) → b ≡ true → c ≡ not d → n + cond b 1 0 ≡ k + cond c 1 0 → n + cond d 1 0 ≡ k
    summed true true true n k is is' sum = absurd (both_ways false refl (sym is'))
    summed true true false n k is is' sum = omega arith
    summed true false true n k is is' sum = omega arith
    summed true false false n k is is' sum = absurd (both_ways false refl is')
    summed false c d n k is is' sum = absurd (both_ways false refl is)

-- without a page of a data block
pub used_same : (m : Entries) (a : ℕ) (e : Entry) → get m a ≡ Some e → e.block_mapped ≡ true → length (blocks_with page_mapped (remove m a)) ≡ length (blocks_with page_mapped m)
used_same m a e is mapped =
    let f : ℕ × Entry → ℕ = λ x. x.1.place.block in
    each_once-same (numbers f page_mapped (entries (remove m a))) (numbers f page_mapped (entries m)) (λ n. same_bools (member n (numbers f page_mapped (entries (remove m a)))) (member n (numbers f page_mapped (entries m)))
    (λ mem.
    let y = member_to f page_mapped (remove m a) n mem in
    ap (λ k. member k (numbers f page_mapped (entries m))) (sym y.3) ∙ member_from f page_mapped m y.0.0 y.0.1 (sym (others_there m a y.0.0 (λ s. none_some y.0.1 (sym (not_there m a) ∙ ap (get (remove m a)) (sym s) ∙ y.1))) ∙ y.1) y.2)
    (λ mem.
    let y = member_to f page_mapped m n mem in
    ap (λ k. member k (numbers f page_mapped (entries (remove m a)))) (sym y.3)
    ∙ member_from f page_mapped (remove m a) y.0.0 y.0.1 (others_there m a y.0.0
    (λ s. both_ways y.0.1.block_mapped (not-true y.0.1.block_mapped y.2) (ap (λ (z : Entry). z.block_mapped) (same_Some y.0.1 e (sym y.1 ∙ ap (get m) s ∙ is)) ∙ mapped)) ∙ y.1) y.2))

log_tally_same : (m : Entries) (a x : ℕ) (e : Entry) → get m a ≡ Some e → is_mapped_in x e ≡ false → tally (is_mapped_in x) (remove m a) ≡ tally (is_mapped_in x) m
log_tally_same m a x e is f =
    let sum : tally (is_mapped_in x) (remove m a) + cond (is_mapped_in x e) 1 0 ≡ tally (is_mapped_in x) m = tally_without (is_mapped_in x) m a e is in
    let none : ◌≡◌ {A = ℕ} (cond (is_mapped_in x e) 1 0) 0 = ap (λ b. cond b 1 0) f in
    omega (arith, sum, none)

-- one block less is used if its last page is removed, and one more if its first is added
pub one_less : (x used : ℕ) → x ≡ 0 → 1 ≤ used → used - 1 + cond (x == 0) 1 0 ≡ used
one_less x used none some = let yes : ◌≡◌ {A = ℕ} (cond (x == 0) 1 0) 1 = ap (λ b. cond b 1 0) (eq-eqb x 0 none) in omega (arith, yes)

pub none_less : (x used : ℕ) → (x ≡ 0 → ⊥) → used + cond (x == 0) 1 0 ≡ used
none_less x used some = let zero_of : ◌≡◌ {A = ℕ} (cond (x == 0) 1 0) 0 = ap (λ b. cond b 1 0) (ne_eqb x 0 some) in omega (arith, zero_of)

pub one_more : (x used : ℕ) → x ≡ 0 → used + 1 ≡ used + cond (x == 0) 1 0
one_more x used none = let yes : ◌≡◌ {A = ℕ} (cond (x == 0) 1 0) 1 = ap (λ b. cond b 1 0) (eq-eqb x 0 none) in omega (arith, yes)

left_is : (n o l l' c c' : ℕ) → n + c ≡ o → o ≡ l → l' + c' ≡ l → c ≡ c' → n ≡ l'
left_is n o l l' c c' e f h k = omega arith

more_is : (n o l l' c c' : ℕ) → n ≡ o + c → o ≡ l' → l' + c' ≡ l → c ≡ c' → n ≡ l
more_is n o l l' c c' e f h k = omega arith

-- ---- the counts of mapped pages

module _ (g : Geometry) (m : Entries) (is_map : IsMap g m) (a : ℕ) (e : Entry) (is : get m a ≡ Some e) where
  b : ℕ
  b = e.place.block - first_pool g

  pub low : e.place.block - first_pool g < g.c + g.l + 1
  low =
      let pool = is_map.in_pool a e is in
      let above = pool.above in
      let below = pool.below in
      omega (arith, pool_end g)

  whole : first_pool g + (e.place.block - first_pool g) ≡ e.place.block
  whole = let above = (is_map.in_pool a e is).above in omega arith

  mapped_not : e.block_mapped ≡ true → (x : ℕ) → is_mapped_in x e ≡ false
  mapped_not t x = ap (λ c. not c && (e.place.block == x)) t

  log_is : page_mapped e ≡ true → is_mapped_in (first_pool g + (e.place.block - first_pool g)) e ≡ true
  log_is t = and_from _ _ t (eq-eqb _ _ (sym whole))

  log_not : (c : ℕ) → (c ≡ e.place.block - first_pool g → ⊥) → is_mapped_in (first_pool g + c) e ≡ false
  log_not c apart = never (page_mapped e) (e.place.block == first_pool g + c) (ne_eqb _ _ (λ s. apart (other s)))
    where
      never : (x y : Bool) → y ≡ false → (x && y) ≡ false
      never true y f = f
      never false y f = refl

      other : e.place.block ≡ first_pool g + c → c ≡ e.place.block - first_pool g
      other s = omega arith

  -- a page of a data block changes none of the counts
  pub logs_same_without : (logs : LogCounts) → e.block_mapped ≡ true → LogsAre g m logs → LogsAre g (remove m a) logs
  logs_same_without logs t old = record {
    long = old.long;
    pages = λ c within. old.pages c within ∙ sym (log_tally_same m a (first_pool g + c) e is (mapped_not t (first_pool g + c)));
    used = old.used ∙ sym (used_same m a e is t);
  }

  pub logs_same_with : (logs : LogCounts) → e.block_mapped ≡ true → LogsAre g (remove m a) logs → LogsAre g m logs
  logs_same_with logs t old = record {
    long = old.long;
    pages = λ c within. old.pages c within ∙ log_tally_same m a (first_pool g + c) e is (mapped_not t (first_pool g + c));
    used = old.used ∙ used_same m a e is t;
  }

  one_page_more : page_mapped e ≡ true → tally (is_mapped_in (first_pool g + (e.place.block - first_pool g))) (remove m a) + 1 ≡ tally (is_mapped_in (first_pool g + (e.place.block - first_pool g))) m
  one_page_more t = ap (λ c. tally (is_mapped_in (first_pool g + (e.place.block - first_pool g))) (remove m a) + cond c 1 0) (sym (log_is t)) ∙ tally_without (is_mapped_in (first_pool g + (e.place.block - first_pool g))) m a e is

  -- the count of the entry's block
  pub count_here : (logs : LogCounts) → page_mapped e ≡ true → LogsAre g m logs → get_or logs.pages.items (e.place.block - first_pool g) 0 ≡ tally (is_mapped_in (first_pool g + (e.place.block - first_pool g))) (remove m a) + 1
  count_here logs t old = old.pages (e.place.block - first_pool g) low ∙ sym (one_page_more t)

  pub count_few : (logs : LogCounts) → LogsAre g (remove m a) logs → get_or logs.pages.items (e.place.block - first_pool g) 0 ≤ 73856
  count_few logs old = let few = tally_few g (is_mapped_in (first_pool g + (e.place.block - first_pool g))) (remove m a) (without_map g m a is_map) in let is = old.pages (e.place.block - first_pool g) low in omega arith

  -- if the entry's block has no other mapped page, the block is no longer used
  pub used_here : page_mapped e ≡ true → length (blocks_with page_mapped (remove m a)) + cond (tally (is_mapped_in (first_pool g + (e.place.block - first_pool g))) (remove m a) == 0) 1 0 ≡ length (blocks_with page_mapped m)
  used_here t = ap (λ x. length (blocks_with page_mapped (remove m a)) + cond (tally (is_mapped_in x) (remove m a) == 0) 1 0) whole ∙ used_without m a e is t

  pub logs_without : (old new : LogCounts) → page_mapped e ≡ true → LogsAre g m old
      → new.pages.items ≡ set old.pages.items (e.place.block - first_pool g) (get_or old.pages.items (e.place.block - first_pool g) 0 - 1)
      → new.used + cond (get_or old.pages.items (e.place.block - first_pool g) 0 - 1 == 0) 1 0 ≡ old.used → LogsAre g (remove m a) new
  logs_without old new t all items used = record {
    long = ap length items ∙ length-set old.pages.items (e.place.block - first_pool g) _ ∙ all.long;
    pages = λ c within. ap (λ (l : List ℕ). get_or l c 0) items ∙ elim (cases_eq c (e.place.block - first_pool g)) [
      | inl same ↦
          ap (λ k. get_or (set old.pages.items (e.place.block - first_pool g) (get_or old.pages.items (e.place.block - first_pool g) 0 - 1)) k 0) same
          ∙ get_or-set_same old.pages.items (e.place.block - first_pool g) _ 0 (omega (arith, all.long, low))
          ∙ count_left ∙ ap (λ k. tally (is_mapped_in (first_pool g + k)) (remove m a)) (sym same)
      | inr other ↦ get_or-set_other old.pages.items (e.place.block - first_pool g) c _ 0 other ∙ all.pages c within ∙ sym (log_tally_same m a (first_pool g + c) e is (log_not c other))
    ];
    used = left_is new.used old.used (length (blocks_with page_mapped m)) (length (blocks_with page_mapped (remove m a))) (cond (get_or old.pages.items (e.place.block - first_pool g) 0 - 1 == 0) 1 0)
        (cond (tally (is_mapped_in (first_pool g + (e.place.block - first_pool g))) (remove m a) == 0) 1 0) used all.used (used_here t) (ap (λ k. cond (k == 0) 1 0) count_left);
  }
    where
      count_left : get_or old.pages.items (e.place.block - first_pool g) 0 - 1 ≡ tally (is_mapped_in (first_pool g + (e.place.block - first_pool g))) (remove m a)
      count_left = let here = count_here old t all in omega arith

  pub logs_with : (old new : LogCounts) → page_mapped e ≡ true → LogsAre g (remove m a) old
      → new.pages.items ≡ set old.pages.items (e.place.block - first_pool g) (get_or old.pages.items (e.place.block - first_pool g) 0 + 1)
      → new.used ≡ old.used + cond (get_or old.pages.items (e.place.block - first_pool g) 0 == 0) 1 0 → LogsAre g m new
  logs_with old new t all items used = record {
    long = ap length items ∙ length-set old.pages.items (e.place.block - first_pool g) _ ∙ all.long;
    pages = λ c within. ap (λ (l : List ℕ). get_or l c 0) items ∙ elim (cases_eq c (e.place.block - first_pool g)) [
      | inl same ↦
          ap (λ k. get_or (set old.pages.items (e.place.block - first_pool g) (get_or old.pages.items (e.place.block - first_pool g) 0 + 1)) k 0) same
          ∙ get_or-set_same old.pages.items (e.place.block - first_pool g) _ 0 (omega (arith, all.long, low))
          ∙ ap (λ k. k + 1) (all.pages (e.place.block - first_pool g) low) ∙ one_page_more t ∙ ap (λ k. tally (is_mapped_in (first_pool g + k)) m) (sym same)
      | inr other ↦ get_or-set_other old.pages.items (e.place.block - first_pool g) c _ 0 other ∙ all.pages c within ∙ log_tally_same m a (first_pool g + c) e is (log_not c other)
    ];
    used = more_is new.used old.used (length (blocks_with page_mapped m)) (length (blocks_with page_mapped (remove m a))) (cond (get_or old.pages.items (e.place.block - first_pool g) 0 == 0) 1 0)
        (cond (tally (is_mapped_in (first_pool g + (e.place.block - first_pool g))) (remove m a) == 0) 1 0) used all.used (used_here t)
        (ap (λ k. cond (k == 0) 1 0) (all.pages (e.place.block - first_pool g) low));
  }

  -- ---- the same, by the numbers that the code reads

  read_is : (logs : LogCounts) (first x : ℕ) → first ≡ first_pool g → x ≡ get_or logs.pages.items (e.place.block - first) x → length logs.pages.items ≡ g.c + g.l + 1 → x ≡ get_or logs.pages.items (e.place.block - first_pool g) 0
  read_is logs first x is_first read long = read ∙ ap (λ n. get_or logs.pages.items (e.place.block - n) x) is_first ∙ get_or_default logs.pages.items (e.place.block - first_pool g) x 0 (omega (arith, long, low))

  pub left_some : (logs : LogCounts) (first x : ℕ) → page_mapped e ≡ true → first ≡ first_pool g → x ≡ get_or logs.pages.items (e.place.block - first) x → LogsAre g m logs → 1 ≤ x
  left_some logs first x t is_first read all = let here = count_here logs t all in let same = read_is logs first x is_first read all.long in omega (arith, here, same)

  pub used_some : (logs : LogCounts) → page_mapped e ≡ true → LogsAre g m logs → 1 ≤ logs.used
  used_some logs t all = let some = some_counted (numbers (λ (x : ℕ × Entry). x.1.place.block) page_mapped (entries m)) e.place.block (member_from (λ (x : ℕ × Entry). x.1.place.block) page_mapped m a e is t) in let count = all.used in omega (arith, some, count)

  pub left_logs : (old new : LogCounts) (first x : ℕ) → page_mapped e ≡ true → first ≡ first_pool g → x ≡ get_or old.pages.items (e.place.block - first) x
      → new.pages.items ≡ set old.pages.items (e.place.block - first) (x - 1) → new.used + cond (x - 1 == 0) 1 0 ≡ old.used → LogsAre g m old → LogsAre g (remove m a) new
  left_logs old new first x t is_first read items used all =
      let same = read_is old first x is_first read all.long in
      logs_without old new t all (items ∙ ap₂ (λ n y. set old.pages.items (e.place.block - n) (y - 1)) is_first same) (ap (λ y. new.used + cond (y - 1 == 0) 1 0) (sym same) ∙ used)

  pub entered_few : (logs : LogCounts) (first x : ℕ) → first ≡ first_pool g → x ≡ get_or logs.pages.items (e.place.block - first) x → LogsAre g (remove m a) logs → x ≤ 73856
  entered_few logs first x is_first read all = let few = count_few logs all in let same = read_is logs first x is_first read all.long in omega (arith, few, same)

  pub used_few : (logs : LogCounts) → LogsAre g (remove m a) logs → logs.used ≤ 64
  used_few logs all = let few = (without_map g m a is_map).log_blocks in let count = all.used in omega (arith, few, count, g.in_range.l_high)

  pub entered_logs : (old new : LogCounts) (first x : ℕ) → page_mapped e ≡ true → first ≡ first_pool g → x ≡ get_or old.pages.items (e.place.block - first) x
      → new.pages.items ≡ set old.pages.items (e.place.block - first) (x + 1) → new.used ≡ old.used + cond (x == 0) 1 0 → LogsAre g (remove m a) old → LogsAre g m new
  entered_logs old new first x t is_first read items used all =
      let same = read_is old first x is_first read all.long in
      logs_with old new t all (items ∙ ap₂ (λ n y. set old.pages.items (e.place.block - n) (y + 1)) is_first same) (used ∙ ap (λ y. old.used + cond (y == 0) 1 0) same)

  -- ---- the owners

  at_number : number_of g e.place < pool_pages g
  at_number = number_below g e.place (is_map.in_pool a e is)

  pub owners_without : (old new : List (Option ℕ)) → OwnersAre g m old → new ≡ set old (number_of g e.place) None → OwnersAre g (remove m a) new
  owners_without old new all items = record {
    long = ap length items ∙ length-set old (number_of g e.place) None ∙ all.long;
    owner = λ q f held. elim (cases_eq q a) [
      | inl same ↦ none_some f (sym (not_there m a) ∙ ap (get (remove m a)) (sym same) ∙ held)
      | inr other ↦
          let before = sym (others_there m a q other) ∙ held in
          ap (λ (l : List (Option ℕ)). get_or l (number_of g f.place) None) items
          ∙ get_or-set_other old (number_of g e.place) (number_of g f.place) None None (λ s. other (same_Some q a (sym (all.owner q f before) ∙ ap (λ n. get_or old n None) s ∙ all.owner a e is)))
          ∙ all.owner q f before
    ];
    owned = λ i q there. elim (cases_eq i (number_of g e.place)) [
      | inl same ↦ none_some q (sym (get_or-set_same old (number_of g e.place) None None (omega (arith, all.long, at_number))) ∙ ap (λ n. get_or (set old (number_of g e.place) None) n None) (sym same) ∙ ap (λ (l : List (Option ℕ)). get_or l i None) (sym items) ∙ there)
      | inr other ↦
          let f = all.owned i q (sym (ap (λ (l : List (Option ℕ)). get_or l i None) items ∙ get_or-set_other old (number_of g e.place) i None None other) ∙ there) in
          (f.0, others_there m a q (λ s. other (sym f.2 ∙ ap (λ (x : Entry). number_of g x.place) (same_Some f.0 e (sym f.1 ∙ ap (get m) s ∙ is)))) ∙ f.1, f.2)
    ];
  }

  pub owners_with : (old new : List (Option ℕ)) → OwnersAre g (remove m a) old → new ≡ set old (number_of g e.place) (Some a) → OwnersAre g m new
  owners_with old new all items = record {
    long = ap length items ∙ length-set old (number_of g e.place) (Some a) ∙ all.long;
    owner = λ q f held. elim (cases_eq q a) [
      | inl same ↦
          let is' : f ≡ e = same_Some f e (sym held ∙ ap (get m) same ∙ is) in
          ap₂ (λ (l : List (Option ℕ)) n. get_or l n None) items (ap (λ (x : Entry). number_of g x.place) is')
          ∙ get_or-set_same old (number_of g e.place) (Some a) None (omega (arith, all.long, at_number)) ∙ ap Some (sym same)
      | inr other ↦
          ap (λ (l : List (Option ℕ)). get_or l (number_of g f.place) None) items
          ∙ get_or-set_other old (number_of g e.place) (number_of g f.place) (Some a) None (λ s. other (is_map.apart q a f e held is (number_tells g f.place e.place (is_map.in_pool q f held) (is_map.in_pool a e is) s)))
          ∙ all.owner q f (others_there m a q other ∙ held)
    ];
    owned = λ i q there. elim (cases_eq i (number_of g e.place)) [
      | inl same ↦
          let is' : q ≡ a = same_Some q a (sym there ∙ ap₂ (λ (l : List (Option ℕ)) n. get_or l n None) items same ∙ get_or-set_same old (number_of g e.place) (Some a) None (omega (arith, all.long, at_number))) in
          (e, ap (get m) is' ∙ is, sym same)
      | inr other ↦
          let f = all.owned i q (sym (ap (λ (l : List (Option ℕ)). get_or l i None) items ∙ get_or-set_other old (number_of g e.place) i (Some a) None other) ∙ there) in
          elim (cases_eq q a) [
            | inl same ↦ none_some f.0 (sym (not_there m a) ∙ ap (get (remove m a)) (sym same) ∙ f.1)
            | inr apart ↦ (f.0, sym (others_there m a q apart) ∙ f.1, f.2)
          ]
    ];
  }

  -- ---- the whole index

  pub held_some : (index : Index) → IsIndex g m index → 1 ≤ index.held
  held_some index all = let sum : tally is_any (remove m a) + 1 ≡ tally is_any m = tally_without is_any m a e is in let count = all.held in omega (arith, sum, count)

  pub dirty_some : (index : Index) → IsIndex g m index → cond e.dirty 1 0 ≤ index.dirty
  dirty_some index all = let sum : tally (λ e. e.dirty) (remove m a) + cond e.dirty 1 0 ≡ tally (λ e. e.dirty) m = tally_without (λ e. e.dirty) m a e is in let count = all.dirty in omega (arith, sum, count)

  pub held_few : (index : Index) → IsIndex g (remove m a) index → index.held ≤ 73856
  held_few index all = let few = tally_few g is_any (remove m a) (without_map g m a is_map) in let count = all.held in omega (arith, few, count)

  pub dirty_few : (index : Index) → IsIndex g (remove m a) index → index.dirty ≤ 73856
  dirty_few index all = let few = tally_few g (λ e. e.dirty) (remove m a) (without_map g m a is_map) in let count = all.dirty in omega (arith, few, count)

  pub index_without : (old new : Index) (n : ℕ) → n ≡ number_of g e.place → new.owners.items ≡ set old.owners.items n None → LogsAre g (remove m a) new.logs → new.held ≡ old.held - 1 → new.dirty ≡ old.dirty - cond e.dirty 1 0 → IsIndex g m old → IsIndex g (remove m a) new
  index_without old new n number owners logs held dirty all = record {
    owners = owners_without old.owners.items new.owners.items all.owners (owners ∙ ap (λ k. set old.owners.items k None) number);
    logs = logs;
    held = let sum : tally is_any (remove m a) + 1 ≡ tally is_any m = tally_without is_any m a e is in let count = all.held in omega (arith, sum, count, held);
    dirty = let sum : tally (λ e. e.dirty) (remove m a) + cond e.dirty 1 0 ≡ tally (λ e. e.dirty) m = tally_without (λ e. e.dirty) m a e is in let count = all.dirty in omega (arith, sum, count, dirty);
  }

  pub index_with : (old new : Index) (n : ℕ) → n ≡ number_of g e.place → new.owners.items ≡ set old.owners.items n (Some a) → LogsAre g m new.logs → new.held ≡ old.held + 1 → new.dirty ≡ old.dirty + cond e.dirty 1 0 → IsIndex g (remove m a) old → IsIndex g m new
  index_with old new n number owners logs held dirty all = record {
    owners = owners_with old.owners.items new.owners.items all.owners (owners ∙ ap (λ k. set old.owners.items k (Some a)) number);
    logs = logs;
    held = let sum : tally is_any (remove m a) + 1 ≡ tally is_any m = tally_without is_any m a e is in let count = all.held in omega (arith, sum, count, held);
    dirty = let sum : tally (λ e. e.dirty) (remove m a) + cond e.dirty 1 0 ≡ tally (λ e. e.dirty) m = tally_without (λ e. e.dirty) m a e is in let count = all.dirty in omega (arith, sum, count, dirty);
  }

pub bit_few : (b : Bool) (n : ℕ) → n ≡ cond b 1 0 → n ≤ 1
bit_few true n is = omega arith
bit_few false n is = omega arith

-- ---- the index of no entries

pub no_index : (g : Geometry) (index : Index) (nobody : Option ℕ) → nobody ≡ None → index.owners.items ≡ replicate (pool_pages g) nobody → index.logs.pages.items ≡ replicate (g.c + g.l + 1) 0 → index.logs.used ≡ 0 → index.held ≡ 0 → index.dirty ≡ 0 → IsIndex g no_entries index
no_index g index nobody is_none owners logs used held dirty = record {
  owners = record {
    long = ap length owners ∙ length-replicate (pool_pages g) nobody;
    owner = λ a e is. none_some e (sym (get-empty nat_cmp a) ∙ is);
    owned = λ i a there. absurd (no_owner (get_or_replicate (pool_pages g) nobody i is_none) (sym (ap (λ (l : List (Option ℕ)). get_or l i None) owners) ∙ there));
  };
  logs = record {
    long = ap length logs ∙ length-replicate (g.c + g.l + 1) 0;
    pages = λ b within. ap (λ (l : List ℕ). get_or l b 0) logs ∙ zeros (g.c + g.l + 1) b ∙ sym (tally_none (is_mapped_in (first_pool g + b)));
    used = used ∙ sym (ap (λ (es : List (ℕ × Entry)). length (each_once (map (λ (x : ℕ × Entry). x.1.place.block) (filter (λ (x : ℕ × Entry). page_mapped x.1) es)))) no_entries-nil);
  };
  held = held ∙ sym (tally_none is_any);
  dirty = dirty ∙ sym (tally_none (λ e. e.dirty));
}
  where
    get_or_replicate : (n : ℕ) (nobody : Option ℕ) (i : ℕ) → nobody ≡ None → get_or (replicate n nobody) i None ≡ None
    get_or_replicate zero nobody i is = refl
    get_or_replicate (suc n) nobody zero is = is
    get_or_replicate (suc n) nobody (suc i) is = get_or_replicate n nobody i is

    zeros : (n i : ℕ) → ◌≡◌ {A = ℕ} (get_or (replicate n 0) i 0) 0
    zeros zero i = refl
    zeros (suc n) zero = refl
    zeros (suc n) (suc i) = zeros n i

    no_owner : {o : Option ℕ} {a : ℕ} → o ≡ None → o ≡ Some a → ⊥
    no_owner is there = cc
