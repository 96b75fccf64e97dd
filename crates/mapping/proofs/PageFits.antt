-- The tests of a page decide whether it fits.
use Rattle.std.proofs.Common.{◌≡◌, ◌↔◌, ℕ, ◌+◌, ◌-◌, ◌/◌, ◌<◌, ◌≤◌, ◌==◌, nat_le, nat_lt, ◌&&◌, Bool, true, false, cond, not, length, get_or, Option, Some, None, IsTrue, refl, sym, ◌∙◌, ap, arith, inl, inr, eq-eqb, ne_eqb, leb-true, le-leb, ltb-true, lt-ltb}
use Rattle.std.specs.Cmp.{nat_cmp_total}
use Rattle.std.specs.FinMap.{get, remove, same_map, nat_cmp-IsAntisymmetric}
use Rattle.std.proofs.lemmas.Bool.{and_parts, and_from, both_ways, false≢true, not-true, cases_Bool, cases_eq}
use Rattle.std.proofs.lemmas.List.{get_or_default}
use Rattle.std.proofs.lemmas.Option.{same_Some}
use Rattle.ft_base.specs.declared.geometry.Geometry.{Geometry}
use Rattle.ft_base.specs.declared.block.Place.{Place}
use Rattle.ft_base.specs.declared.record.Record.TheVariants.{SetPage}
use Rattle.ft_base.specs.Layout.{first_pool, blocks}
use Rattle.cache_model.specs.declared.entry.Entry.{Entry}
use Rattle.cache_model.specs.Records.{Entries, after, in_log_block}
use Rattle.cache_model.specs.Entries.{groups_with, blocks_with, page_mapped, in_pool, InPool, IsMap, Fits}
use Rattle.cache_model.proofs.CountLemmas.{count_le}
use Rattle.mapping.specs.declared.index.LogCounts.{LogCounts}
use Rattle.mapping.specs.declared.marks.Mark.TheVariants.{Dirty}
use Rattle.mapping.specs.declared.seeking.Sought.TheVariants.{MappedBeside}
use Rattle.mapping.specs.Index.{tally, is_mapped_in, LogsAre}
use Rattle.mapping.specs.Seeking.{IsFoundIn, IsNotIn, IsTaken, MayHave, log_block}
use Rattle.mapping.proofs.NumbersLemmas.{pool_end}
use Rattle.mapping.proofs.MarksLemmas.{ChangesGroup, may_have_fits}
use Rattle.mapping.proofs.TallyLemmas.{not_there, others_there, tally_without, used_without, used_same, absent_same}
use Rattle.mapping.proofs.FittingLemmas.{page_cases, page_here, page_other, page_fits, fits_page}
use Rattle.mapping.proofs.SeekingLemmas.{none_some}

-- a test answers false if the fact doesn't hold
pub refused : {P : Type 0} → (P → ⊥) → IsTrue false ↔ P
refused not = (λ t. absurd (false≢true t), λ p. absurd (not p))

-- ---- log blocks beside an address

module _ (g : Geometry) (m : Entries) (lba : ℕ) where
  -- the address has a mapped page in this block, or it has one in another, or none
  pub own_page : (block : ℕ) → Some block ≡ log_block (get m lba) → (e : Entry) × (get m lba ≡ Some e) × (page_mapped e ≡ true) × (e.place.block ≡ block)
  own_page block is = by_entry (get m lba) refl is
    where
      by_entry : (o : Option Entry) → get m lba ≡ o → Some block ≡ log_block o → (e : Entry) × (get m lba ≡ Some e) × (page_mapped e ≡ true) × (e.place.block ≡ block)
      by_entry None at s = none_some block (sym s)
      by_entry (Some e) at s = elim (cases_Bool e.block_mapped) [
        | inl t ↦ none_some block (sym (s ∙ ap (λ b. cond b None (Some e.place.block)) t))
        | inr f ↦ (e, at, ap not f, sym (same_Some block e.place.block (s ∙ ap (λ b. cond b None (Some e.place.block)) f)))
      ]

  pub beside_own : (block : ℕ) → Some block ≡ log_block (get m lba) → tally (is_mapped_in block) m - 1 ≡ tally (is_mapped_in block) (remove m lba)
  beside_own block is =
      let x = own_page block is in
      let there : is_mapped_in block x.0 ≡ true = and_from _ _ x.2 (eq-eqb _ _ x.3) in
      let one : ◌≡◌ {A = ℕ} (cond (is_mapped_in block x.0) 1 0) 1 = ap (λ b. cond b 1 0) there in
      let sum : tally (is_mapped_in block) (remove m lba) + cond (is_mapped_in block x.0) 1 0 ≡ tally (is_mapped_in block) m = tally_without (is_mapped_in block) m lba x.0 x.1 in
      omega (arith, one, sum)

  pub beside_other : (block : ℕ) (own : Option ℕ) → own ≡ log_block (get m lba) → (own ≡ Some block → ⊥) → tally (is_mapped_in block) m ≡ tally (is_mapped_in block) (remove m lba)
  beside_other block own is other = by_entry (get m lba) refl is
    where
      not_in : (e : Entry) → own ≡ log_block (Some e) → is_mapped_in block e ≡ false
      not_in e s = elim (cases_Bool e.block_mapped) [
        | inl t ↦ ap (λ b. not b && (e.place.block == block)) t
        | inr f ↦ ap (λ b. not b && (e.place.block == block)) f ∙ ne_eqb e.place.block block (λ same. other (s ∙ ap (λ b. cond b None (Some e.place.block)) f ∙ ap Some same))
      ]

      by_entry : (o : Option Entry) → get m lba ≡ o → own ≡ log_block o → tally (is_mapped_in block) m ≡ tally (is_mapped_in block) (remove m lba)
      by_entry None at s = ap (tally (is_mapped_in block)) (sym (absent_same m lba at))
      by_entry (Some e) at s =
          let nothing : ◌≡◌ {A = ℕ} (cond (is_mapped_in block e) 1 0) 0 = ap (λ b. cond b 1 0) (not_in e s) in
          let sum : tally (is_mapped_in block) (remove m lba) + cond (is_mapped_in block e) 1 0 ≡ tally (is_mapped_in block) m = tally_without (is_mapped_in block) m lba e at in
          omega (arith, nothing, sum)

  -- the count that the list has for a block of the pool
  pub count_read : (logs : LogCounts) (block first x : ℕ) → LogsAre g m logs → first ≡ first_pool g → first_pool g ≤ block → block < blocks g → x ≡ get_or logs.pages.items (block - first) x → x ≡ tally (is_mapped_in block) m
  count_read logs block first x all is above below read =
      let low : block - first_pool g < g.c + g.l + 1 = omega (arith, pool_end g) in
      let whole : first_pool g + (block - first_pool g) ≡ block = omega arith in
      read ∙ ap (λ n. get_or logs.pages.items (block - n) x) is ∙ get_or_default logs.pages.items (block - first_pool g) x 0 (omega (arith, all.long, low)) ∙ all.pages (block - first_pool g) low ∙ ap (λ n. tally (is_mapped_in n) m) whole

  pub own_counted : (block : ℕ) → Some block ≡ log_block (get m lba) → 1 ≤ tally (is_mapped_in block) m
  own_counted block is =
      let x = own_page block is in
      let there : is_mapped_in block x.0 ≡ true = and_from _ _ x.2 (eq-eqb _ _ x.3) in
      let one : ◌≡◌ {A = ℕ} (cond (is_mapped_in block x.0) 1 0) 1 = ap (λ b. cond b 1 0) there in
      let sum : tally (is_mapped_in block) (remove m lba) + cond (is_mapped_in block x.0) 1 0 ≡ tally (is_mapped_in block) m = tally_without (is_mapped_in block) m lba x.0 x.1 in
      omega (arith, one, sum)

  -- how many blocks are used beside it
  pub used_none : None ≡ log_block (get m lba) → length (blocks_with page_mapped m) ≡ length (blocks_with page_mapped (remove m lba))
  used_none is = by_entry (get m lba) refl is
    where
      by_entry : (o : Option Entry) → get m lba ≡ o → None ≡ log_block o → length (blocks_with page_mapped m) ≡ length (blocks_with page_mapped (remove m lba))
      by_entry None at s = ap (λ (n : Entries). length (blocks_with page_mapped n)) (sym (absent_same m lba at))
      by_entry (Some e) at s = elim (cases_Bool e.block_mapped) [
        | inl t ↦ sym (used_same m lba e at t)
        | inr f ↦ none_some e.place.block (s ∙ ap (λ b. cond b None (Some e.place.block)) f)
      ]

  used_sum : (block : ℕ) → Some block ≡ log_block (get m lba) → length (blocks_with page_mapped (remove m lba)) + cond (tally (is_mapped_in block) (remove m lba) == 0) 1 0 ≡ length (blocks_with page_mapped m)
  used_sum block is = let x = own_page block is in ap (λ n. length (blocks_with page_mapped (remove m lba)) + cond (tally (is_mapped_in n) (remove m lba) == 0) 1 0) (sym x.3) ∙ used_without m lba x.0 x.1 x.2

  pub used_less : (block : ℕ) → Some block ≡ log_block (get m lba) → tally (is_mapped_in block) (remove m lba) ≡ 0 → length (blocks_with page_mapped m) ≡ length (blocks_with page_mapped (remove m lba)) + 1
  used_less block is empty =
      let sum = used_sum block is in
      let one : ◌≡◌ {A = ℕ} (cond (tally (is_mapped_in block) (remove m lba) == 0) 1 0) 1 = ap (λ b. cond b 1 0) (eq-eqb _ _ empty) in
      omega (arith, sum, one)

  pub used_still : (block : ℕ) → Some block ≡ log_block (get m lba) → (tally (is_mapped_in block) (remove m lba) ≡ 0 → ⊥) → length (blocks_with page_mapped m) ≡ length (blocks_with page_mapped (remove m lba))
  used_still block is some =
      let sum = used_sum block is in
      let nothing : ◌≡◌ {A = ℕ} (cond (tally (is_mapped_in block) (remove m lba) == 0) 1 0) 0 = ap (λ b. cond b 1 0) (ne_eqb _ _ some) in
      omega (arith, sum, nothing)

-- ---- a page

module _ (g : Geometry) (m : Entries) (is_map : IsMap g m) (lba : ℕ) (at : Place) (dirty : Bool) where
  abbrev new : Entries
  new = after g (SetPage lba at dirty) m

  pub pool_is : in_pool g at ≡ true → InPool g at
  pool_is t =
      let p = and_parts (nat_le (first_pool g) at.block && nat_lt at.block (blocks g)) (nat_lt at.page g.p) t in
      let q = and_parts (nat_le (first_pool g) at.block) (nat_lt at.block (blocks g)) p.0 in
      record { above = leb-true _ _ q.0; below = ltb-true _ _ q.1; page = ltb-true _ _ p.1 }

  pub no_pool : in_pool g at ≡ false → Fits g (SetPage lba at dirty) m → ⊥
  no_pool f fits =
      let p = (fits_page g m is_map lba at dirty fits).pool in
      both_ways (in_pool g at) f (and_from _ _ (and_from _ _ (le-leb _ _ p.above) (lt-ltb _ _ p.below)) (lt-ltb _ _ p.page))

  other_is : (b : ℕ) → not (b == lba) ≡ true → b ≡ lba → ⊥
  other_is b t same = both_ways (b == lba) (not-true (b == lba) t) (eq-eqb b lba same)

  pub taken : IsTaken m lba at → Fits g (SetPage lba at dirty) m → ⊥
  taken x fits = ((fits_page g m is_map lba at dirty fits).apart x.0 x.1 x.2 x.3).0 x.4

  pub of_other : (a : ℕ) → IsFoundIn g (MappedBeside lba) m at.block a → Fits g (SetPage lba at dirty) m → ⊥
  of_other a x fits =
      let p = and_parts (not (a == lba)) x.0.block_mapped x.3 in
      ((fits_page g m is_map lba at dirty fits).apart a x.0 x.1 (other_is a p.0)).1 p.1 x.2

  -- without the address the new map is the old one
  without_new : remove new lba ≡ remove m lba
  without_new = same_map nat_cmp_total nat_cmp-IsAntisymmetric (remove new lba) (remove m lba) (λ q. elim (cases_eq q lba) [
    | inl same ↦ ap (get (remove new lba)) same ∙ not_there new lba ∙ sym (not_there m lba) ∙ ap (get (remove m lba)) (sym same)
    | inr other ↦ others_there new lba q other ∙ page_other g m is_map lba at dirty q other ∙ sym (others_there m lba q other)
  ])

  logs_sum : length (blocks_with page_mapped (remove m lba)) + cond (tally (is_mapped_in at.block) (remove m lba) == 0) 1 0 ≡ length (blocks_with page_mapped new)
  logs_sum = ap (λ (n : Entries). length (blocks_with page_mapped n) + cond (tally (is_mapped_in at.block) n == 0) 1 0) (sym without_new) ∙ used_without new lba (in_log_block at dirty) (page_here g m is_map lba at dirty) refl

  pub logs_more : tally (is_mapped_in at.block) (remove m lba) ≡ 0 → length (blocks_with page_mapped (remove m lba)) + 1 ≡ length (blocks_with page_mapped (after g (SetPage lba at dirty) m))
  logs_more empty =
      let sum = logs_sum in
      let one : ◌≡◌ {A = ℕ} (cond (tally (is_mapped_in at.block) (remove m lba) == 0) 1 0) 1 = ap (λ b. cond b 1 0) (eq-eqb _ _ empty) in
      omega (arith, sum, one)

  pub logs_same : (tally (is_mapped_in at.block) (remove m lba) ≡ 0 → ⊥) → length (blocks_with page_mapped (remove m lba)) ≡ length (blocks_with page_mapped (after g (SetPage lba at dirty) m))
  logs_same some =
      let sum = logs_sum in
      let nothing : ◌≡◌ {A = ℕ} (cond (tally (is_mapped_in at.block) (remove m lba) == 0) 1 0) 0 = ap (λ b. cond b 1 0) (ne_eqb _ _ some) in
      omega (arith, sum, nothing)

  pub too_many_logs : (n : ℕ) → n ≡ length (blocks_with page_mapped (after g (SetPage lba at dirty) m)) → g.l < n → Fits g (SetPage lba at dirty) m → ⊥
  too_many_logs n is over fits = let most = (fits_page g m is_map lba at dirty fits).log_blocks in absurd (omega (arith, most, is, over))

-- ---- the dirty groups

module _ (g : Geometry) (m : Entries) (is_map : IsMap g m) (lba : ℕ) (at : Place) where
  dirty_page : ChangesGroup g Dirty (lba / g.p) m (after g (SetPage lba at true) m) true
  dirty_page = record {
    others = λ a apart. page_other g m is_map lba at true a (λ same. apart (ap (λ n. n / g.p) same));
    there = λ t. (lba, in_log_block at true, page_here g m is_map lba at true, refl, refl);
    from = λ a e at_a in_group marked. refl;
  }

  clean_page : length (groups_with g (λ e. e.dirty) (after g (SetPage lba at false) m)) ≤ g.c
  clean_page =
      let fewer = count_le (λ x. x.0 / g.p) (λ e. e.dirty) (λ x. x.0 / g.p) (λ e. e.dirty) (after g (SetPage lba at false) m) m (λ a e is t. elim (page_cases g m is_map lba at false a e is) [
        | inl p ↦ absurd (both_ways e.dirty (ap (λ (x : Entry). x.dirty) p.1) t)
        | inr p ↦ (e, p.1, t, refl)
      ]) in
      let most = is_map.dirty_groups in
      omega (arith, fewer, most)

  pub dirty_decides : (dirty : Bool) → (MayHave g m Dirty (lba / g.p) dirty → length (groups_with g (λ e. e.dirty) (after g (SetPage lba at dirty) m)) ≤ g.c) × (length (groups_with g (λ e. e.dirty) (after g (SetPage lba at dirty) m)) ≤ g.c → MayHave g m Dirty (lba / g.p) dirty)
  dirty_decides true = may_have_fits g Dirty (lba / g.p) m (after g (SetPage lba at true) m) true dirty_page is_map.dirty_groups
  dirty_decides false = (λ may. clean_page, λ fits. inl refl)

  -- all tests passed but the last
  pub page_decides : (dirty b : Bool) (n : ℕ) → lba < g.size → InPool g at → (IsTaken m lba at → ⊥) → IsNotIn g (MappedBeside lba) m at.block
      → n ≡ length (blocks_with page_mapped (after g (SetPage lba at dirty) m)) → n ≤ g.l → ((b ≡ true → MayHave g m Dirty (lba / g.p) dirty) × (MayHave g m Dirty (lba / g.p) dirty → b ≡ true))
      → IsTrue b ↔ Fits g (SetPage lba at dirty) m
  page_decides dirty b n low pool free own is most may = (
    λ t. page_fits g m is_map lba at dirty (record {
      low = low;
      pool = pool;
      apart = λ a f held other. (λ same. free (a, f, held, other, same), λ mapped same. own a f held same (and_from _ _ (ap not (ne_eqb a lba other)) mapped));
      log_blocks = omega (arith, is, most);
      dirty_groups = (dirty_decides dirty).0 (may.0 t);
    }),
    λ fits. may.1 ((dirty_decides dirty).1 (fits_page g m is_map lba at dirty fits).dirty_groups),
  )
