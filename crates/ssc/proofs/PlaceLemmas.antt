-- A new page of a log block may take an address.
use Rattle.std.proofs.Common.{◌≡◌, ℕ, ◌/◌, ◌<◌, ◌≤◌, ◌==◌, Bool, true, ◌∷◌, length, Some, refl, sym, ◌∙◌, ap, subst, arith, inl, inr, eq-eqb}
use Rattle.std.specs.FinMap.{get, entries}
use Rattle.std.proofs.lemmas.Bool.{cases_Bool, or_left, or_right, both_ways, not-true}
use Rattle.ft_base.specs.declared.geometry.Geometry.{Geometry}
use Rattle.ft_base.specs.declared.block.Block.{Block}
use Rattle.ft_base.specs.declared.block.Place.{Place}
use Rattle.ft_base.specs.declared.block.Page.{Page}
use Rattle.ft_base.specs.declared.record.Record.TheVariants.{SetPage}
use Rattle.ft_base.specs.Contents.{Contents}
use Rattle.cache_model.specs.declared.entry.Entry.{Entry}
use Rattle.cache_model.specs.Records.{Entries, after}
use Rattle.cache_model.specs.Entries.{each_once, groups_with, blocks_with, page_mapped, Fits, IsMap, InPool}
use Rattle.cache_model.proofs.CountLemmas.{member, numbers, each_once-le, each_once-no_longer, count_le, member_once}
use Rattle.mapping.proofs.FittingLemmas.{page_cases, page_fits}
use Rattle.log_blocks.specs.Logs.{IsInUse}
use Rattle.merge_engine.specs.declared.parts.Parts.{Parts}
use Rattle.merge_engine.specs.Agreement.{PartsAgree}
use Rattle.merge_engine.specs.Steps.{IsNewPage, HasRoomFor}
use Rattle.merge_engine.proofs.FreeLemmas.{member-used}
use Rattle.merge_engine.proofs.TakeLemmas.{agree_map}
use Rattle.merge_engine.proofs.RoleLemmas.{log_page_mapped}
use Rattle.ssc.proofs.DirtyLemmas.{member_from, member_to}
use Rattle.merge_engine.proofs.GaveLemmas.{dirty_numbers}

module _ (parts : Parts) (contents : Contents) (agree : PartsAgree parts contents) (page : Place → Page) (at : Place) (lba : ℕ) (block : Block) (fresh : IsNewPage parts page at lba block) (dirty : Bool) where
  abbrev g : Geometry
  g = parts.geometry

  abbrev m : Entries
  m = parts.map.entries

  abbrev new : Entries
  new = after parts.geometry (SetPage lba at dirty) parts.map.entries

  is_map : IsMap parts.geometry parts.map.entries
  is_map = agree_map parts contents agree

  in_pool : InPool parts.geometry at
  in_pool = let pool = agree.sound.roles.in_pool at.block fresh.in_use in record { above = pool.0; below = pool.1; page = fresh.in_block }

  -- page-mapped entries stand in log blocks that are in use, and there are at most L of these
  in_log_blocks : (a : ℕ) (e : Entry) → get new a ≡ Some e → page_mapped e ≡ true → IsInUse parts.log_blocks e.place.block
  in_log_blocks a e is t = elim (page_cases g m is_map lba at dirty a e is) [
    | inl p ↦ subst (λ (x : Entry). IsInUse parts.log_blocks x.place.block) (sym p.1) fresh.in_use
    | inr p ↦ agree.sound.roles.page_mapped a e p.1 (not-true e.block_mapped t)
  ]

  logs : length (blocks_with page_mapped new) ≤ g.l
  logs =
      let within = each_once-le (numbers (λ (x : ℕ × Entry). x.1.place.block) page_mapped (entries new)) parts.log_blocks.used (λ n mem.
      let x = member_to (λ (x : ℕ × Entry). x.1.place.block) page_mapped new n mem in
      member-used n parts.log_blocks.used (subst (λ k. IsInUse parts.log_blocks k) x.3 (in_log_blocks x.0.0 x.0.1 x.1 x.2))) in
      let most = each_once-no_longer parts.log_blocks.used in
      let few : length parts.log_blocks.used ≤ g.l = subst (λ (h : Geometry). length parts.log_blocks.used ≤ h.l) agree.sound.of_one.log_blocks agree.sound.log_blocks.few in
      omega arith

  groups : (dirty ≡ true → HasRoomFor g m lba) → length (groups_with g (λ e. e.dirty) new) ≤ g.c
  groups may = elim (cases_Bool dirty) [
    | inl t ↦
        let more = each_once-le (dirty_numbers g new) ((lba / g.p) ∷ each_once (dirty_numbers g m)) (λ n mem.
        let x = member_to (λ (x : ℕ × Entry). x.0 / g.p) (λ (e : Entry). e.dirty) new n mem in
        elim (page_cases g m is_map lba at dirty x.0.0 x.0.1 x.1) [
          | inl p ↦ or_left ((lba / g.p) == n) (member n (each_once (dirty_numbers g m))) (eq-eqb _ _ (ap (λ k. k / g.p) (sym p.0) ∙ x.3))
          | inr p ↦ or_right ((lba / g.p) == n) (member n (each_once (dirty_numbers g m))) (member_once n (dirty_numbers g m) ∙ ap (λ k. member k (dirty_numbers g m)) (sym x.3) ∙ member_from (λ (x : ℕ × Entry). x.0 / g.p) (λ (e : Entry). e.dirty) m x.0.0 x.0.1 p.1 x.2)
        ]) in
        let few = may t in
        omega (arith, more, few)
    | inr f ↦
        let fewer = count_le (λ x. x.0 / g.p) (λ e. e.dirty) (λ x. x.0 / g.p) (λ e. e.dirty) new m (λ a e is t. elim (page_cases g m is_map lba at dirty a e is) [
          | inl p ↦ absurd (both_ways dirty f (sym (ap (λ (x : Entry). x.dirty) p.1) ∙ t))
          | inr p ↦ (e, p.1, t, refl)
        ]) in
        let most = is_map.dirty_groups in
        omega (arith, fewer, most)
  ]

  pub new_page_fits : lba < g.size → (dirty ≡ true → HasRoomFor g m lba) → Fits g (SetPage lba at dirty) m
  new_page_fits low may = page_fits g m is_map lba at dirty (record {
    low = low;
    pool = in_pool;
    apart = λ b f is other. (
      λ same. fresh.unused b f is same,
      λ mapped same. log_page_mapped parts agree.sound.roles b f is (subst (λ n. IsInUse parts.log_blocks n) (sym same) fresh.in_use) mapped,
    );
    log_blocks = logs;
    dirty_groups = groups may;
  })
