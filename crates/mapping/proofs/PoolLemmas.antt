-- A map has no more entries than its pool has pages.
use Rattle.std.proofs.Common.{◌≡◌, ℕ, zero, suc, ◌+◌, ◌-◌, ◌*◌, ◌/◌, ◌%◌, ◌<◌, ◌≤◌, ◌==◌, Bool, true, false, cond, List, [], ◌∷◌, length, get_or, map, refl, sym, ◌∙◌, ap, subst, arith, inl, inr, nat_cmp, eqb-true}
use Rattle.std.specs.FinMap.{from_entries}
use Rattle.std.proofs.lemmas.Bool.{cases_Bool, or_cases}
use Rattle.std.proofs.lemmas.Nat.{div-mul-add, mod-mul-add, mul-add-lt}
use Rattle.std.proofs.lemmas.List.{get_or-map, length-map}
use Rattle.std.proofs.Math.Nat.{mul_comm}
use Rattle.ft_base.specs.declared.geometry.Geometry.{Geometry}
use Rattle.ft_base.specs.Layout.{first_pool}
use Rattle.cache_model.specs.declared.entry.Entry.{Entry}
use Rattle.cache_model.specs.Entries.{each_once, IsMap}
use Rattle.cache_model.proofs.CountLemmas.{member}
use Rattle.mapping.proofs.Words.{Ascends}
use Rattle.mapping.proofs.Words.{count_range}
use Rattle.mapping.proofs.AscendingLemmas.{Items, spare_item, get_here, keys_rise}
use Rattle.mapping.proofs.MarksLemmas.{range_counts}
use Rattle.mapping.proofs.NumbersLemmas.{pool_end}

count_most : (test : ℕ → Bool) (from n : ℕ) → count_range test from n ≤ n
count_most test from zero = omega arith
count_most test from (suc n) = with_one (test from) (count_range test (from + 1) n) (count_most test (from + 1) n)
  where
    with_one : (b : Bool) (k : ℕ) → k ≤ n → cond b 1 0 + k ≤ suc n
    with_one true k le = omega arith
    with_one false k le = omega arith

member_index : (n : ℕ) (ns : List ℕ) → member n ns ≡ true → (i : ℕ) × (i < length ns) × (get_or ns i 0 ≡ n)
member_index n [] t = absurd (cc)
member_index n (m ∷ ns) t = elim (or_cases (m == n) (member n ns) t) [
  | inl here ↦ (0, omega arith, eqb-true _ _ here)
  | inr later ↦ let p = member_index n ns later in (suc p.0, omega (arith, p.1), p.2)
]

-- numbers that all differ are each counted
all_differ : (ns : List ℕ) → ((i j : ℕ) → i < j → j < length ns → get_or ns i 0 ≡ get_or ns j 0 → ⊥) → length (each_once ns) ≡ length ns
all_differ [] differ = refl
all_differ (n ∷ ns) differ = elim (cases_Bool (member n ns)) [
  | inl t ↦ absurd (let p = member_index n ns t in differ 0 (suc p.0) (omega arith) (omega (arith, p.1)) (sym p.2))
  | inr f ↦ ap (λ b. length (cond b (each_once ns) (n ∷ each_once ns))) f ∙ ap suc (all_differ ns (λ i j lt within. differ (suc i) (suc j) (omega arith) (omega arith)))
]

module _ (g : Geometry) (items : Items) (up : Ascends items) (is_map : IsMap g (from_entries {R = nat_cmp} items)) where
  -- the number of a page of the pool
  number_of : ℕ × Entry → ℕ
  number_of x = (x.1.place.block - first_pool g) * g.p + x.1.place.page

  item : ℕ → ℕ × Entry
  item i = get_or items i spare_item

  number_at : (i : ℕ) → i < length items → get_or (map number_of items) i 0 ≡ number_of (item i)
  unfolding item
  number_at i low = get_or-map number_of items i spare_item 0 low

  apart_at : (i j : ℕ) → i < j → j < length items → number_of (item i) ≡ number_of (item j) → ⊥
  unfolding item number_of
  apart_at i j lt low same =
      let x = get_or items i spare_item in
      let y = get_or items j spare_item in
      let at_x = get_here items i spare_item up (omega arith) in
      let at_y = get_here items j spare_item up low in
      let pool = is_map.in_pool x.0 x.1 at_x in
      let pool' = is_map.in_pool y.0 y.1 at_y in
      let blocks_same : x.1.place.block - first_pool g ≡ y.1.place.block - first_pool g =
      sym (div-mul-add (x.1.place.block - first_pool g) g.p x.1.place.page pool.page) ∙ ap (λ n. n / g.p) same ∙ div-mul-add (y.1.place.block - first_pool g) g.p y.1.place.page pool'.page in
      let pages_same : x.1.place.page ≡ y.1.place.page =
      sym (mod-mul-add (x.1.place.block - first_pool g) g.p x.1.place.page pool.page) ∙ ap (λ n. n % g.p) same ∙ mod-mul-add (y.1.place.block - first_pool g) g.p y.1.place.page pool'.page in
      let above = pool.above in
      let above' = pool'.above in
      let block_same : x.1.place.block ≡ y.1.place.block = omega arith in
      let place_same : x.1.place ≡ y.1.place = λ t. record { block = block_same t; page = pages_same t } in
      let address_same = is_map.apart x.0 y.0 x.1 y.1 at_x at_y place_same in
      let rise = keys_rise items i j spare_item up.sorted lt low in
      absurd (omega arith)

  number_low : (i : ℕ) → i < length items → number_of (item i) < (g.c + g.l + 1) * g.p
  unfolding item number_of
  number_low i low =
      let x = get_or items i spare_item in
      let pool = is_map.in_pool x.0 x.1 (get_here items i spare_item up low) in
      let above = pool.above in
      let below = pool.below in
      let offset : x.1.place.block - first_pool g < g.c + g.l + 1 = omega (arith, pool_end g) in
      subst (λ n. (x.1.place.block - first_pool g) * g.p + x.1.place.page < n) (mul_comm g.p (g.c + g.l + 1)) (mul-add-lt (x.1.place.block - first_pool g) g.p x.1.place.page (g.c + g.l + 1) offset pool.page)

  -- no more entries than pages of the pool
  pub few_entries : length items ≤ (g.c + g.l + 1) * g.p
  few_entries =
      let ns = map number_of items in
      let long : length ns ≡ length items = length-map items number_of in
      let all : length (each_once ns) ≡ length ns = all_differ ns (λ i j lt low same. apart_at i j lt (omega (arith, long)) (sym (number_at i (omega (arith, long))) ∙ same ∙ number_at j (omega (arith, long)))) in
      let counted = range_counts ((g.c + g.l + 1) * g.p) 0 ns (λ k mem.
      let p = member_index k ns mem in
      let low = number_low p.0 (omega (arith, p.1, long)) in
      let is : number_of (item p.0) ≡ k = sym (number_at p.0 (omega (arith, p.1, long))) ∙ p.2 in
      (omega arith, omega (arith, low, is))) in
      let most = count_most (λ k. member k ns) 0 ((g.c + g.l + 1) * g.p) in
      omega (arith, long, all, counted, most)
