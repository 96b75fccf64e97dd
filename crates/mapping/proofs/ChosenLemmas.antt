-- The chosen pages of a group, and how many there are.
use Rattle.std.proofs.Common.{◌≡◌, ℕ, zero, suc, ◌+◌, ◌*◌, ◌/◌, ◌%◌, ◌^◌, ◌<◌, ◌≤◌, ◌==◌, Bool, true, false, cond, Option, Some, None, IfSome, IfNone, is_some, List, [], ◌∷◌, map, inl, inr, lt-ltb, add-one, refl, sym, ◌∙◌, ap, subst, arith}
use Rattle.std.proofs.Math.Nat.{pow-le-pow_right, div-add-mod}
use Rattle.std.proofs.lemmas.Nat.{mod_below, div-mul-add}
use Rattle.std.proofs.lemmas.Nat.Bits.{bit_at-zero}
use Rattle.std.proofs.lemmas.Bool.{cases_Bool, cases_lt, cases_eq, both_ways, and_from, le-ltb}
use Rattle.std.specs.FinMap.{get}
use Rattle.std.specs.List.{AllByRecursion}
use Rattle.std.proofs.lemmas.Option.{same_Some, none-some}
use Rattle.ft_base.specs.declared.geometry.Geometry.{Geometry}
use Rattle.ft_base.specs.declared.record.Record.TheVariants.{SetGroup}
use Rattle.cache_model.specs.declared.entry.Entry.{Entry}
use Rattle.cache_model.specs.Records.{Entries}
use Rattle.cache_model.specs.Spelling.{is_wide, page_limit}
use Rattle.block_map.specs.PageSets.{BlockPages, has_page, page_count}
use Rattle.block_map.proofs.PageSetLemmas.{page_count-more, page_count-none, page_count-ones}
use Rattle.mapping.specs.declared.bits.Choice.{Choice}
use Rattle.mapping.specs.declared.bits.Choice.TheVariants.{Mapped}
use Rattle.mapping.specs.declared.marks.Mark.TheVariants.{BlockMapped}
use Rattle.mapping.specs.Bits.{set_of, is_chosen, chosen_of, IsDataBlock}
use Rattle.mapping.specs.Candidates.{IsCandidate, pages_held}
use Rattle.mapping.specs.Checkpoint.{block_or, block_below, set_group_of}
use Rattle.mapping.specs.Packed.{block_record}
use Rattle.mapping.specs.Seeking.{HasMarkIn}
use Rattle.mapping.proofs.BitsLemmas.{set_below, bit_of_set}

-- the pages of an erase block are the pages that a record of format 2 spells
pub pages_spelled : (g : Geometry) → g.p ≤ page_limit (is_wide 2 g.p)
pages_spelled g = elim (cases_lt 64 g.p) [
  | inl many ↦ subst (λ wide. g.p ≤ page_limit wide) (sym (lt-ltb 64 g.p many)) g.in_range.p_high
  | inr few ↦ subst (λ wide. g.p ≤ page_limit wide) (sym (le-ltb 64 g.p few)) few
]

-- ---- sets of pages

-- a set that isn't empty has a page
some_page : (test : ℕ → Bool) (n : ℕ) → (set_of test n ≡ 0 → ⊥) → (i : ℕ) × (i < n) × (test i ≡ true)
some_page test zero some = absurd (some refl)
some_page test (suc n) some = elim (cases_Bool (test n)) [
  | inl t ↦ (n, omega arith, t)
  | inr f ↦
      let rest = some_page test n (λ none. some (ap (λ b. set_of test n + cond b (2 ^ n) 0) f ∙ nothing_more (set_of test n) ∙ none)) in
      (rest.0, omega (arith, rest.1), rest.2)
]
  where
    nothing_more : (n : ℕ) → n + 0 ≡ n
    nothing_more n = omega arith

page_count-suc : (width set : ℕ) → page_count (suc width) set ≡ page_count width set + cond (has_page set width) 1 0
page_count-suc width set = ap (λ n. page_count n set) (sym (add-one width)) ∙ page_count-more width set

page_count-empty : (width : ℕ) → page_count width 0 ≡ 0
page_count-empty zero = page_count-none 0
page_count-empty (suc width) = page_count-suc width 0 ∙ ap (λ n. n + cond (has_page 0 width) 1 0) (page_count-empty width) ∙ ap (λ n. 0 + cond (n == 1) 1 0) (bit_at-zero width)

pub page_count-most : (width set : ℕ) → page_count width set ≤ width
page_count-most zero set = omega (arith, page_count-none set)
page_count-most (suc width) set = one_more (has_page set width) (page_count width set) (page_count (suc width) set) (page_count-suc width set) (page_count-most width set)
  where
    one_more : (b : Bool) (n more : ℕ) → more ≡ n + cond b 1 0 → n ≤ width → more ≤ suc width
    one_more true n more is low = omega arith
    one_more false n more is low = omega arith

pub page_count-some : (width set page : ℕ) → page < width → has_page set page ≡ true → 1 ≤ page_count width set
page_count-some zero set page within here = absurd (omega arith)
page_count-some (suc width) set page within here = elim (cases_Bool (has_page set width)) [
  | inl t ↦ let more : page_count (suc width) set ≡ page_count width set + 1 = page_count-suc width set ∙ ap (λ b. page_count width set + cond b 1 0) t in omega arith
  | inr f ↦
      let below : page < width = lower page within here f in
      let some = page_count-some width set page below here in
      omega (arith, page_count-suc width set)
]
  where
    lower : (page : ℕ) → page < suc width → has_page set page ≡ true → has_page set width ≡ false → page < width
    lower page within here f = elim (cases_lt page width) [
      | inl low ↦ low
      | inr high ↦ let same : page ≡ width = omega arith in absurd (both_ways (has_page set width) f (ap (has_page set) (sym same) ∙ here))
    ]

-- ---- the data block that has the pages of a group

pub block_is : (m : Entries) (first n i : ℕ) (e : Entry) → i < n → get m (first + i) ≡ Some e → e.block_mapped ≡ true → ((j : ℕ) (f : Entry) → j < n → get m (first + j) ≡ Some f → f.block_mapped ≡ true → f.place.block ≡ e.place.block) → block_below m first n ≡ e.place.block
block_is m first zero i e low at mapped same = absurd (omega arith)
block_is m first (suc n) i e low at mapped same = by_last (get m (first + n)) refl (λ below. block_is m first n i e below at mapped (λ j f low'. same j f (omega arith)))
  where
    by_last : (o : Option Entry) → get m (first + n) ≡ o → (i < n → block_below m first n ≡ e.place.block) → block_or o (block_below m first n) ≡ e.place.block
    by_last None is rest = rest (elim (cases_eq i n) [
      | inl s ↦ absurd (none-some e (sym (sym at ∙ ap (λ k. get m (first + k)) s ∙ is)))
      | inr other ↦ omega arith
    ])
    by_last (Some f) is rest = elim (cases_Bool f.block_mapped) [
      | inl t ↦ ap (λ b. cond b f.place.block (block_below m first n)) t ∙ same n f (omega arith) is t
      | inr f' ↦ ap (λ b. cond b f.place.block (block_below m first n)) f' ∙ rest (elim (cases_eq i n) [
        | inl s ↦ absurd (both_ways e.block_mapped (ap (λ (x : Entry). x.block_mapped) (same_Some e f (sym at ∙ ap (λ k. get m (first + k)) s ∙ is)) ∙ f') mapped)
        | inr other ↦ omega arith
      ])
    ]

-- ---- a group

module _ (g : Geometry) (m : Entries) (group : ℕ) where
  pub own_address : (a : ℕ) → a / g.p ≡ group → group * g.p + a % g.p ≡ a
  own_address a in_group = own_page (a / g.p) g.p (a % g.p) a in_group (div-add-mod a g.p)
    where
      product_turned : (q p r : ℕ) → q * p + r ≡ p * q + r
      product_turned q p r = omega arith

      own_page : (q p r a : ℕ) → q ≡ group → p * q + r ≡ a → group * p + r ≡ a
      own_page q p r a same is = ap (λ n. n * p + r) (sym same) ∙ product_turned q p r ∙ is

  -- a chosen address of the group is in the set
  not_empty : (choice : Choice) (a : ℕ) (e : Entry) → get m a ≡ Some e → a / g.p ≡ group → is_chosen choice (Some e) ≡ true → has_page (chosen_of choice g m group) (a % g.p) ≡ true
  not_empty choice a e there in_group t =
      let within : a % g.p < g.p = mod_below a g.p (omega (arith, g.in_range.p_low)) in
      let address : group * g.p + a % g.p ≡ a = own_address a in_group in
      bit_of_set (λ i. is_chosen choice (get m (group * g.p + i))) g.p (a % g.p)
      ∙ and_from _ _ (lt-ltb _ _ within) (ap (λ k. is_chosen choice (get m k)) address ∙ ap (is_chosen choice) there ∙ t)

  -- if the set is empty, no address is chosen
  pub chosen_none : (choice : Choice) → chosen_of choice g m group ≡ 0 → (a : ℕ) (e : Entry) → get m a ≡ Some e → a / g.p ≡ group → is_chosen choice (Some e) ≡ false
  chosen_none choice empty a e there in_group = elim (cases_Bool (is_chosen choice (Some e))) [
    | inl t ↦
        let here = not_empty choice a e there in_group t in
        let no : has_page 0 (a % g.p) ≡ false = ap (λ n. n == 1) (bit_at-zero (a % g.p)) in
        absurd (both_ways (has_page 0 (a % g.p)) no (ap (λ n. has_page n (a % g.p)) (sym empty) ∙ here))
    | inr f ↦ f
  ]

  -- if the set isn't empty, some address is chosen
  pub chosen_some : (choice : Choice) → (chosen_of choice g m group ≡ 0 → ⊥) → (a : ℕ) × (e : Entry) × (get m a ≡ Some e) × (a / g.p ≡ group) × (is_chosen choice (Some e) ≡ true)
  chosen_some choice some =
      let page = some_page (λ i. is_chosen choice (get m (group * g.p + i))) g.p some in
      let found = entry_of (group * g.p + page.0) (get m (group * g.p + page.0)) refl page.2 in
      (group * g.p + page.0, found.0, found.1, div-mul-add group g.p page.0 page.1, found.2)
    where
      entry_of : (a : ℕ) (o : Option Entry) → get m a ≡ o → is_chosen choice o ≡ true → (e : Entry) × (get m a ≡ Some e) × (is_chosen choice (Some e) ≡ true)
      entry_of a None there t = absurd (let f : is_chosen choice None ≡ false = refl in both_ways (is_chosen choice None) f t)
      entry_of a (Some e) there t = (e, there, t)

  -- no chosen page is past the last of an erase block
  pub chosen_below : (choice : Choice) → chosen_of choice g m group < 2 ^ g.p
  chosen_below choice = set_below (λ i. is_chosen choice (get m (group * g.p + i))) g.p

  -- so their set is one that a record spells
  pub chosen_short : (choice : Choice) → chosen_of choice g m group < 2 ^ page_limit (is_wide 2 g.p)
  chosen_short choice = wider (page_limit (is_wide 2 g.p)) (pages_spelled g) (chosen_below choice)
    where
      wider : (limit : ℕ) → g.p ≤ limit → {n : ℕ} → n < 2 ^ g.p → n < 2 ^ limit
      wider limit within small = let more : 2 ^ g.p ≤ 2 ^ limit = pow-le-pow_right (omega arith) within in omega arith

  -- the pages of a set of 128 are the pages of the group
  pub pages_held-count : (set n : ℕ) → set ≡ chosen_of Mapped g m group → n ≡ page_count 128 set → n ≡ pages_held g m group
  pages_held-count set n is counted =
      let pages = chosen_of Mapped g m group in
      let small = chosen_below Mapped in
      let high : g.p ≤ 128 = omega (arith, g.in_range.p_high) in
      let wider : 2 ^ g.p ≤ 2 ^ 128 = pow-le-pow_right (omega arith) high in
      counted ∙ ap (page_count 128) is ∙ sym (page_count-ones 128 pages (omega arith)) ∙ page_count-ones g.p pages small

  pub pages_held-none : chosen_of Mapped g m group ≡ 0 → 0 ≡ pages_held g m group
  pages_held-none empty = sym (ap (page_count g.p) empty ∙ page_count-empty g.p)

  pub pages_held-some : IsCandidate g m group → 1 ≤ pages_held g m group
  pages_held-some candidate =
      let found = candidate.some in
      let within : found.0 % g.p < g.p = mod_below found.0 g.p (omega (arith, g.in_range.p_low)) in
      page_count-some g.p (chosen_of Mapped g m group) (found.0 % g.p) within (not_empty Mapped found.0 found.1 found.2 found.3 found.4)

  -- ---- the data block

  pub stands_some : (b : BlockPages) → IsDataBlock g m group b → (a : ℕ) × (e : Entry) × (get m a ≡ Some e) × (a / g.p ≡ group) × (e.block_mapped ≡ true)
  stands_some b block = chosen_some Mapped (λ none. let some = block.some in let is = block.present in omega arith)

  -- whether the group has a data block
  pub has_data_block : (o : Option BlockPages) (has : Bool) → has ≡ is_some o → IfSome o (IsDataBlock g m group) → IfNone o (chosen_of Mapped g m group ≡ 0) → (has ≡ true → HasMarkIn g m BlockMapped group) × (HasMarkIn g m BlockMapped group → has ≡ true)
  has_data_block None has is some none = (λ t. absurd (both_ways has is t), λ x. absurd (both_ways x.2.0.block_mapped (chosen_none Mapped none x.0 x.2.0 x.2.1 x.1) x.2.2))
  has_data_block (Some b) has is some none = (λ t. let x = stands_some b some in (x.0, x.3, (x.1, x.2, x.4)), λ x. is)

  -- the record that sets the data block
  pub set_group_is : (b : BlockPages) → IsDataBlock g m group b → set_group_of g m group ≡ block_record (group, b)
  set_group_is b block =
      let x = stands_some b block in
      let low : x.0 % g.p < g.p = mod_below x.0 g.p (omega (arith, g.in_range.p_low)) in
      let here = block.stands x.0 x.1 x.2 x.4 x.3 in
      let there : get m (group * g.p + x.0 % g.p) ≡ Some x.1 = ap (get m) (own_address x.0 x.3) ∙ x.2 in
      let is : block_below m (group * g.p) g.p ≡ b.block =
      block_is m (group * g.p) g.p (x.0 % g.p) x.1 low there x.4 (λ j f low' at mapped. block.stands (group * g.p + j) f at mapped (div-mul-add group g.p j low') ∙ sym here) ∙ here in
      λ t. SetGroup group (is t) (sym block.present t) (sym block.dirty t)

-- the records that set the data blocks of a list
pub blocks_as : (g : Geometry) (m : Entries) (xs : List (ℕ × BlockPages)) → AllByRecursion (λ (x : ℕ × BlockPages). IsDataBlock g m x.0 x.1) xs → map (λ (x : ℕ × BlockPages). set_group_of g m x.0) xs ≡ map block_record xs
blocks_as g m [] all = refl
blocks_as g m (x ∷ xs) all = λ t. set_group_is g m x.0 x.1 all.0 t ∷ blocks_as g m xs all.1 t
