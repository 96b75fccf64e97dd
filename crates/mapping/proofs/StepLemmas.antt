-- A change made in two steps: the old entries are removed, and the new ones are put in.
use Rattle.std.proofs.Common.{◌≡◌, ℕ, ◌+◌, ◌*◌, ◌/◌, ◌%◌, ◌^◌, ◌<◌, ◌≤◌, ◌==◌, Bool, true, false, cond, bit_and, Option, Some, None, refl, sym, ◌∙◌, ap, ap₂, eq-eqb}
use Rattle.std.specs.Bool.{then_some}
use Rattle.std.specs.Cmp.{nat_cmp_total}
use Rattle.std.specs.FinMap.{get, same_map, nat_cmp-IsAntisymmetric}
use Rattle.std.proofs.lemmas.Nat.{div-mul-add}
use Rattle.std.proofs.lemmas.Nat.Bits.{bit_at-zero, bit_at_above}
use Rattle.ft_base.specs.declared.geometry.Geometry.{Geometry}
use Rattle.ft_base.specs.declared.block.Place.{Place}
use Rattle.ft_base.specs.declared.record.Record.{Record}
use Rattle.ft_base.specs.declared.record.Record.TheVariants.{SetPage, Remove, Clean, SetGroup, RemoveGroup}
use Rattle.cache_model.specs.declared.entry.Entry.{Entry}
use Rattle.cache_model.specs.Entries.{Fits}
use Rattle.cache_model.specs.Records.{Entries, after, has_bit, in_log_block, page_of_group}
use Rattle.cache_model.proofs.StepLemmas.{get-after}
use Rattle.cache_model.proofs.CountLemmas.{same_number}
use Rattle.block_map.specs.PageSets.{IsWithin}
use Rattle.mapping.specs.MappedPages.{NamesPage}
use Rattle.mapping.proofs.GroupFits.{both_bits, from_both}
use Rattle.mapping.proofs.MarksLemmas.{same_bools}

covered : (b : Bool) (x y : Option Entry) → cond b x (cond b None y) ≡ cond b x y
covered true x y = refl
covered false x y = refl

module _ (g : Geometry) (m : Entries) where
  -- ---- a page

  pub page_absent : (lba : ℕ) → get (after g (Remove lba) m) lba ≡ None
  page_absent lba = get-after g (Remove lba) m lba ∙ ap (λ b. cond b None (get m lba)) (same_number lba)

  pub page_anew : (lba : ℕ) (at : Place) (dirty : Bool) → after g (SetPage lba at dirty) (after g (Remove lba) m) ≡ after g (SetPage lba at dirty) m
  page_anew lba at dirty = same_map nat_cmp_total nat_cmp-IsAntisymmetric (after g (SetPage lba at dirty) (after g (Remove lba) m)) (after g (SetPage lba at dirty) m) (λ q.
      get-after g (SetPage lba at dirty) (after g (Remove lba) m) q
      ∙ ap (λ o. cond (q == lba) (Some (in_log_block at dirty)) o) (get-after g (Remove lba) m q)
      ∙ covered (q == lba) (Some (in_log_block at dirty)) (get m q)
      ∙ sym (get-after g (SetPage lba at dirty) m q))

  pub names_page : (change : Record) → Fits g change m → NamesPage g change
  names_page (SetPage lba place dirty) fits =
      (fits.leaves.in_pool lba (in_log_block place dirty) (get-after g (SetPage lba place dirty) m lba ∙ ap (λ b. cond b (Some (in_log_block place dirty)) (get m lba)) (same_number lba))).page
  names_page (Remove lba) fits = tt
  names_page (Clean lba) fits = tt
  names_page (SetGroup group block present dirty) fits = tt
  names_page (RemoveGroup group) fits = tt

  -- ---- a group

  pub group_absent : (k i : ℕ) → i < g.p → get (after g (RemoveGroup k) m) (k * g.p + i) ≡ None
  group_absent k i low = get-after g (RemoveGroup k) m (k * g.p + i) ∙ ap (λ b. cond b None (get m (k * g.p + i))) (eq-eqb _ _ (div-mul-add k g.p i low))

  pub group_anew : (k block present dirty : ℕ) → after g (SetGroup k block present (bit_and dirty present)) (after g (RemoveGroup k) m) ≡ after g (SetGroup k block present dirty) m
  group_anew k block present dirty = same_map nat_cmp_total nat_cmp-IsAntisymmetric (after g (SetGroup k block present (bit_and dirty present)) (after g (RemoveGroup k) m)) (after g (SetGroup k block present dirty) m) (λ q.
      get-after g (SetGroup k block present (bit_and dirty present)) (after g (RemoveGroup k) m) q
      ∙ ap₂ (λ x o. cond (q / g.p == k) x o) (page_same (q % g.p) (has_bit present (q % g.p)) refl) (get-after g (RemoveGroup k) m q)
      ∙ covered (q / g.p == k) (page_of_group block present dirty (q % g.p)) (get m q)
      ∙ sym (get-after g (SetGroup k block present dirty) m q))
    where
      dirty_same : (i : ℕ) → has_bit present i ≡ true → has_bit (bit_and dirty present) i ≡ has_bit dirty i
      dirty_same i there = same_bools (has_bit (bit_and dirty present) i) (has_bit dirty i) (λ t. (both_bits dirty present i t).0) (λ t. from_both dirty present i t there)

      page_same : (i : ℕ) (b : Bool) → has_bit present i ≡ b → page_of_group block present (bit_and dirty present) i ≡ page_of_group block present dirty i
      page_same i true is = λ t. then_some (has_bit present i) (record { place = record { block = block; page = i }; dirty = dirty_same i is t; block_mapped = true })
      page_same i false is = ap (λ b. then_some b (record { place = record { block = block; page = i }; dirty = has_bit (bit_and dirty present) i; block_mapped = true })) is
          ∙ sym (ap (λ b. then_some b (record { place = record { block = block; page = i }; dirty = has_bit dirty i; block_mapped = true })) is)

  -- a data block without pages is no data block
  pub group_of_none : (k block present dirty : ℕ) → present ≡ 0 → after g (RemoveGroup k) m ≡ after g (SetGroup k block present dirty) m
  group_of_none k block present dirty none = same_map nat_cmp_total nat_cmp-IsAntisymmetric (after g (RemoveGroup k) m) (after g (SetGroup k block present dirty) m) (λ q.
      get-after g (RemoveGroup k) m q
      ∙ ap (λ x. cond (q / g.p == k) x (get m q)) (sym (no_page (q % g.p)))
      ∙ sym (get-after g (SetGroup k block present dirty) m q))
    where
      no_page : (i : ℕ) → page_of_group block present dirty i ≡ None
      no_page i = ap (λ b. then_some b (record { place = record { block = block; page = i }; dirty = has_bit dirty i; block_mapped = true })) (ap (λ n. has_bit n i) none ∙ ap (λ n. n == 1) (bit_at-zero i))

pub dirty_within : (dirty present : ℕ) → IsWithin (bit_and dirty present) present
dirty_within dirty present i t = (both_bits dirty present i t).1

pub none_from : (present p i : ℕ) → present < 2 ^ p → p ≤ i → has_bit present i ≡ false
none_from present p i small past = ap (λ n. n == 1) (bit_at_above present p i small past)
