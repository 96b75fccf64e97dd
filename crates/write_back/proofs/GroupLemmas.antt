-- The dirty addresses of a group, page by page.
use Rattle.std.proofs.Common.{◌≡◌, ◌⊎◌, ℕ, ◌+◌, ◌*◌, ◌/◌, ◌%◌, ◌<◌, ◌==◌, ◌&&◌, ◌||◌, Bool, true, false, List, [], ◌∷◌, ◌++◌, Option, Some, None, inl, inr, refl, sym, ◌∙◌, ap, subst, arith, eqb-true, eq-eqb, lt-ltb}
use Rattle.std.specs.FinMap.{get}
use Rattle.std.specs.Option.{option_map, unwrap_or}
use Rattle.std.proofs.lemmas.Bool.{and_from, and_parts, cases_lt, false≢true, or_cases, or_left, or_right}
use Rattle.std.proofs.lemmas.List.Folds.{list_any-append}
use Rattle.std.proofs.lemmas.Nat.{div-add-mod', div-mul-add, mod-mul-add, mod_below}
use Rattle.ft_base.specs.Contents.{Contents}
use Rattle.ft_base.specs.declared.geometry.Geometry.{Geometry}
use Rattle.block_map.specs.PageSets.{has_page}
use Rattle.cache_model.specs.CacheList.{CacheList, Held}
use Rattle.log_blocks.specs.Logs.{is_in}
use Rattle.mapping.proofs.BitsLemmas.{bit_of_set}
use Rattle.mapping.proofs.MarksLemmas.{same_bools}
use Rattle.merge_engine.specs.Loaded.{AreAscending}
use Rattle.merge_engine.proofs.LoadedLemmas.{ascending-push}
use Rattle.ssc.specs.CacheState.{Holds, geometry_of}
use Rattle.ssc.specs.Listed.{dirty_pages, is_held_dirty}
use Rattle.cached_disk.specs.declared.disk.CachedDisk.{CachedDisk}
use Rattle.cached_disk.specs.Kept.{IsDirtyIn, IsLeft, dirty_of, is_down}
use Rattle.cached_disk.proofs.AddressLemmas.{ascending_same, filter_ascending, holds_lbas, lbas_ascending}
use Rattle.write_back.specs.Left.{in_group}
use Rattle.write_back.specs.Cleaning.{is_among}
use Rattle.write_back.proofs.CopyLemmas.{dirty_is, is_dirty}
use Rattle.write_back.proofs.CleaningLemmas.{among_filter}

-- ---- lists of addresses

or_none : (b : Bool) → (b || false) ≡ b
or_none true = refl
or_none false = refl

among_push : (lbas : List ℕ) (n a : ℕ) → is_among (lbas ++ n ∷ []) a ≡ (is_among lbas a || (n == a))
among_push lbas n a = list_any-append (λ k. k == a) lbas (n ∷ []) ∙ ap (λ b. is_among lbas a || b) (or_none (n == a))

in_among : (n : ℕ) (xs : List ℕ) → is_in n xs ≡ true → is_among xs n ≡ true
in_among n [] there = there
in_among n (x ∷ xs) there = elim (or_cases (n == x) (is_in n xs) there) [
  | inl same ↦ or_left (x == n) (is_among xs n) (eq-eqb x n (sym (eqb-true n x same)))
  | inr later ↦ or_right (x == n) (is_among xs n) (in_among n xs later)
]

-- ---- the pages of a group, one after the other

-- these are the addresses of the group's pages below this one that are among the others, ascending
pub record GroupSoFar (p group page : ℕ) (others lbas : List ℕ) : Type 0 where
  pub ascend : AreAscending lbas
  pub each : (a : ℕ) → is_among lbas a ≡ true → (a / p ≡ group) × (a % p < page) × (is_among others a ≡ true)
  pub all : (a : ℕ) → a / p ≡ group → a % p < page → is_among others a ≡ true → is_among lbas a ≡ true

module _ (p group page : ℕ) (others lbas : List ℕ) (low : page < p) (so_far : GroupSoFar p group page others lbas) where
  whole_address : (a : ℕ) → a / p ≡ group → group * p + a % p ≡ a
  whole_address a own = ap (λ k. k * p + a % p) (sym own) ∙ div-add-mod' a p

  this_page : (a : ℕ) → a / p ≡ group → a % p < page + 1 → (a % p < page) ⊎ (group * p + page ≡ a)
  this_page a own below = elim (cases_lt (a % p) page) [
    | inl less ↦ inl less
    | inr more ↦ inr (let last : page ≡ a % p = omega (arith, more, below) in ap (λ k. group * p + k) last ∙ whole_address a own)
  ]

  pub group_passed : is_among others (group * p + page) ≡ false → GroupSoFar p group (page + 1) others lbas
  group_passed clean = record {
    ascend = so_far.ascend;
    each = λ a there. let x = so_far.each a there in let below = x.1 in (x.0, omega (arith, below), x.2);
    all = λ a own below dirty. elim (this_page a own below) [
      | inl less ↦ so_far.all a own less dirty
      | inr here ↦ absurd (false≢true (sym clean ∙ ap (λ k. is_among others k) here ∙ dirty))
    ];
  }

  pub group_pushed : is_among others (group * p + page) ≡ true → GroupSoFar p group (page + 1) others (lbas ++ (group * p + page) ∷ [])
  group_pushed dirty = record {
    ascend = ascending-push lbas (group * p + page) so_far.ascend (λ n there.
        let x = so_far.each n (in_among n lbas there) in
        let below = x.1 in
        let whole = whole_address n x.0 in
        omega (arith, below, whole));
    each = λ a there. elim (or_cases (is_among lbas a) (group * p + page == a) (sym (among_push lbas (group * p + page) a) ∙ there)) [
      | inl was ↦ let x = so_far.each a was in let below = x.1 in (x.0, omega (arith, below), x.2)
      | inr own ↦
          let last = mod-mul-add group p page low in
          subst (λ (k : ℕ). (k / p ≡ group) × (k % p < page + 1) × (is_among others k ≡ true)) (eqb-true (group * p + page) a own) (div-mul-add group p page low, omega (arith, last), dirty)
    ];
    all = λ a own below dirty_there. among_push lbas (group * p + page) a ∙ elim (this_page a own below) [
      | inl less ↦ or_left (is_among lbas a) (group * p + page == a) (so_far.all a own less dirty_there)
      | inr here ↦ or_right (is_among lbas a) (group * p + page == a) (eq-eqb (group * p + page) a here)
    ];
  }

-- once all pages were looked at
group_whole : (p group : ℕ) (others lbas : List ℕ) → 0 < p → AreAscending others → GroupSoFar p group p others lbas → lbas ≡ in_group p group others
group_whole p group others lbas some ascend so_far = ascending_same lbas (in_group p group others) so_far.ascend (filter_ascending (λ a. a / p == group) others ascend) (λ a.
    same_bools (is_among lbas a) (is_among (in_group p group others) a) (from a) (into a))
  where
    from : (a : ℕ) → is_among lbas a ≡ true → is_among (in_group p group others) a ≡ true
    from a there = let x = so_far.each a there in among_filter (λ k. k / p == group) others a ∙ and_from (a / p == group) (is_among others a) (eq-eqb (a / p) group x.0) x.2

    into : (a : ℕ) → is_among (in_group p group others) a ≡ true → is_among lbas a ≡ true
    into a there =
        let parts = and_parts (a / p == group) (is_among others a) (sym (among_filter (λ k. k / p == group) others a) ∙ there) in
        so_far.all a (eqb-true (a / p) group parts.0) (mod_below a p some) parts.1

-- ---- the bits of a group's dirty pages

held_dirty : (s : CacheList) (a : ℕ) → is_held_dirty s a ≡ true → IsDirtyIn s a
held_dirty s a is = by (get s a) refl is
  where
    by : (o : Option Held) → get s a ≡ o → unwrap_or (option_map (λ (h : Held). h.dirty) o) false ≡ true → IsDirtyIn s a
    by None at is = absurd (false≢true is)
    by (Some h) at is = (h, at, is)

dirty_held : (s : CacheList) (a : ℕ) → IsDirtyIn s a → is_held_dirty s a ≡ true
dirty_held s a dirty = ap (λ (o : Option Held). unwrap_or (option_map (λ (h : Held). h.dirty) o) false) dirty.1 ∙ dirty.2

module _ (v : CachedDisk) (contents : Contents) (left : IsLeft v contents) (up : is_down v ≡ false) (group : ℕ) where
  pub bit_dirty : (bits : ℕ) → ((x : Contents) (s : CacheList) → Holds v.cache x s → bits ≡ dirty_pages (geometry_of v.cache) s group) → (page : ℕ) → page < v.options.geometry.p
      → has_page bits page ≡ is_among (dirty_of v) (group * v.options.geometry.p + page)
  bit_dirty bits are page low =
      let g = v.options.geometry in
      let held = left.held in
      let is = left.up up in
      let lba = group * g.p + page in
      ap (λ n. has_page n page) (are contents held is.holds ∙ ap (λ (k : Geometry). dirty_pages k held group) left.own)
      ∙ bit_of_set (λ i. is_held_dirty held (group * g.p + i)) g.p page
      ∙ ap (λ b. b && is_held_dirty held lba) (lt-ltb page g.p low)
      ∙ same_bools (is_held_dirty held lba) (is_among (dirty_of v) lba) (λ there. is_dirty v contents held is lba (held_dirty held lba there)) (λ there. dirty_held held lba (dirty_is v contents held is lba there))

  pub group_listed : (lbas : List ℕ) → GroupSoFar v.options.geometry.p group v.options.geometry.p (dirty_of v) lbas → lbas ≡ in_group v.options.geometry.p group (dirty_of v)
  group_listed lbas so_far =
      let g = v.options.geometry in
      let some : 0 < g.p = (let low = g.in_range.p_low in omega (arith, low)) in
      let ascend = subst (λ (l : List ℕ). AreAscending l) (sym (holds_lbas v.cache contents left.held (left.up up).holds)) (lbas_ascending left.held) in
      group_whole g.p group (dirty_of v) lbas some ascend so_far
