-- A map page may have the records of a checkpoint.
use Rattle.std.proofs.Common.{◌≡◌, ℕ, ◌+◌, ◌*◌, ◌/◌, ◌%◌, ◌<◌, ◌≤◌, ◌==◌, bit_and, true, List, [], ◌∷◌, map, Some, refl, ◌∙◌, ap, subst, arith, inl, inr, min, eqb-true, eq-eqb, lt-ltb}
use Rattle.std.specs.Int.{bit_at}
use Rattle.std.specs.List.{AllByRecursion, list_all, list_any}
use Rattle.std.specs.FinMap.{get}
use Rattle.std.proofs.lemmas.Bool.{cases_eq, and_from, or_left, or_right, both_ways}
use Rattle.std.proofs.lemmas.Nat.{div-add-mod', mod_below}
use Rattle.std.proofs.lemmas.Nat.Bits.{bit_at-zero, bit_at-lt, bit_at_and, same_from_bits}
use Rattle.ft_base.specs.declared.geometry.Geometry.{Geometry}
use Rattle.ft_base.specs.declared.record.Record.{Record}
use Rattle.cache_model.specs.declared.entry.Entry.{Entry}
use Rattle.cache_model.specs.declared.format.PageKind.TheVariants.{Map}
use Rattle.cache_model.specs.Records.{Entries, has_bit}
use Rattle.cache_model.specs.Entries.{page_mapped, IsMap}
use Rattle.cache_model.specs.Spelling.{is_wide, may_stand_in, page_limit}
use Rattle.cache_model.proofs.CountLemmas.{same_number}
use Rattle.mapping.specs.declared.bits.Choice.TheVariants.{Mapped, MappedDirty}
use Rattle.mapping.specs.Bits.{is_chosen, chosen_of}
use Rattle.mapping.specs.Checkpoint.{IsCheckpointOf, set_group_of, set_page_of}
use Rattle.mapping.proofs.AscendingLemmas.{Items}
use Rattle.mapping.proofs.BitsLemmas.{bit_of_set, dirty_within}
use Rattle.mapping.proofs.ChosenLemmas.{chosen_short, pages_spelled}
use Rattle.checkpoint.specs.Regions.{part}
use Rattle.checkpoint.proofs.ListsLemmas.{all-append, all-part}

-- a set with the bits of another, and others
both_bits : (a b : ℕ) → ((i : ℕ) → has_bit b i ≡ true → has_bit a i ≡ true) → bit_and a b ≡ b
both_bits a b within = same_from_bits (bit_and a b) b (λ i. bit_at_and a b i ∙ least (bit_at a i) (bit_at b i) (bit_at-lt b i) (λ t. eqb-true _ _ (within i (eq-eqb _ _ t))))
  where
    least : (x y : ℕ) → y < 2 → (y ≡ 1 → x ≡ 1) → min x y ≡ y
    least x y low same = elim (cases_eq y 1) [
      | inl one ↦ let e = same one in omega arith
      | inr other ↦ omega arith
    ]

module _ (g : Geometry) (m : Entries) (is_map : IsMap g m) where
  some_present : (a : ℕ) (e : Entry) → get m a ≡ Some e → e.block_mapped ≡ true → 0 < chosen_of Mapped g m (a / g.p)
  some_present a e at mapped =
      let low : a % g.p < g.p = mod_below a g.p (omega (arith, g.in_range.p_low)) in
      let here : get m (a / g.p * g.p + a % g.p) ≡ Some e = ap (get m) (div-add-mod' a g.p) ∙ at in
      let set : has_bit (chosen_of Mapped g m (a / g.p)) (a % g.p) ≡ true = bit_of_set (λ i. is_chosen Mapped (get m (a / g.p * g.p + i))) g.p (a % g.p) ∙ and_from _ _ (lt-ltb _ _ low) (ap (is_chosen Mapped) here ∙ mapped) in
      not_none (chosen_of Mapped g m (a / g.p)) (a % g.p) set
    where
      not_none : (n i : ℕ) → has_bit n i ≡ true → 0 < n
      not_none n i set = elim (cases_eq n 0) [
        | inl none ↦ absurd (both_ways (has_bit n i) (ap (λ k. has_bit k i) none ∙ ap (λ k. k == 1) (bit_at-zero i)) set)
        | inr some ↦ omega arith
      ]

  sound_group : (a : ℕ) (e : Entry) → get m a ≡ Some e → e.block_mapped ≡ true → may_stand_in (is_wide 2 g.p) Map (set_group_of g m (a / g.p)) ≡ true
  sound_group a e at mapped =
      let some = lt-ltb _ _ (some_present a e at mapped) in
      let within = eq-eqb _ _ (both_bits (chosen_of Mapped g m (a / g.p)) (chosen_of MappedDirty g m (a / g.p)) (dirty_within g m (a / g.p))) in
      and_from _ _ (and_from _ _ (and_from _ _ some within) (lt-ltb _ _ (chosen_short g m (a / g.p) Mapped))) refl

  sound_page : (a : ℕ) (e : Entry) → get m a ≡ Some e → may_stand_in (is_wide 2 g.p) Map (set_page_of (a, e)) ≡ true
  sound_page a e at = and_from _ _ (lt-ltb _ _ (below (page_limit (is_wide 2 g.p)) (pages_spelled g) (is_map.in_pool a e at).page)) refl
    where
      below : (limit : ℕ) → g.p ≤ limit → {n : ℕ} → n < g.p → n < limit
      below limit within low = omega arith

  groups_sound : (groups : List ℕ) → ((k : ℕ) → list_any (λ n. n == k) groups ≡ true → (a : ℕ) × (e : Entry) × (get m a ≡ Some e) × (e.block_mapped ≡ true) × (a / g.p ≡ k)) → list_all (may_stand_in (is_wide 2 g.p) Map) (map (set_group_of g m) groups) ≡ true
  groups_sound [] each = refl
  groups_sound (n ∷ groups) each =
      let here = each n (or_left (n == n) (list_any (λ k. k == n) groups) (same_number n)) in
      let sound : may_stand_in (is_wide 2 g.p) Map (set_group_of g m n) ≡ true = subst (λ k. may_stand_in (is_wide 2 g.p) Map (set_group_of g m k) ≡ true) here.4 (sound_group here.0 here.1 here.2 here.3) in
      and_from _ _ sound (groups_sound groups (λ k there. each k (or_right (n == k) (list_any (λ j. j == k) groups) there)))

  pages_sound : (pages : Items) → AllByRecursion (λ x. (get m x.0 ≡ Some x.1) × (page_mapped x.1 ≡ true)) pages → list_all (may_stand_in (is_wide 2 g.p) Map) (map set_page_of pages) ≡ true
  pages_sound [] each = refl
  pages_sound (x ∷ pages) each = and_from _ _ (sound_page x.0 x.1 each.0.0) (pages_sound pages each.1)

  pub records_sound : (records : List Record) → IsCheckpointOf g m records → list_all (may_stand_in (is_wide 2 g.p) Map) records ≡ true
  records_sound records listed =
      ap (list_all (may_stand_in (is_wide 2 g.p) Map)) listed.are
      ∙ all-append (may_stand_in (is_wide 2 g.p) Map) (map (set_group_of g m) listed.groups) (map set_page_of listed.pages) (groups_sound listed.groups listed.of_groups.each) (pages_sound listed.pages listed.of_pages.each)

  pub part_sound : (records : List Record) → IsCheckpointOf g m records → (i : ℕ) → list_all (may_stand_in (is_wide 2 g.p) Map) (part g records i) ≡ true
  part_sound records listed i = all-part g (may_stand_in (is_wide 2 g.p) Map) records i (records_sound records listed)
