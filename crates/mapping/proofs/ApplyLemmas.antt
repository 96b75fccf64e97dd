-- How a change of one group changes the facts that are kept beside the entries.
use Rattle.std.proofs.Common.{◌≡◌, ◌↔◌, ℕ, ◌+◌, ◌/◌, ◌≤◌, Bool, true, cond, Option, IfSome, IfNone, is_some, IsTrue, sym, ◌∙◌, ap, subst}
use Rattle.std.specs.FinMap.{get}
use Rattle.ft_base.specs.declared.geometry.Geometry.{Geometry}
use Rattle.ft_base.specs.declared.record.Record.{Record}
use Rattle.cache_model.specs.Records.{Entries, after}
use Rattle.cache_model.specs.Entries.{IsMap, Fits}
use Rattle.block_map.specs.PageSets.{BlockPages}
use Rattle.mapping.specs.declared.bits.Choice.TheVariants.{Mapped}
use Rattle.mapping.specs.declared.marks.Mark.TheVariants.{Dirty, BlockMapped}
use Rattle.mapping.specs.Bits.{chosen_of, IsDataBlock}
use Rattle.mapping.specs.Candidates.{ChangesOne}
use Rattle.mapping.specs.Counts.{data_block_count}
use Rattle.mapping.specs.Ranges.{group_of}
use Rattle.mapping.specs.Seeking.{HasMarkIn}
use Rattle.mapping.proofs.ChosenLemmas.{has_data_block}
use Rattle.mapping.proofs.MarksLemmas.{group_counts, recounted, counts_some}
use Rattle.mapping.proofs.RangeLemmas.{after_elsewhere}

-- in other groups a change changes nothing
pub others_same : (g : Geometry) (change : Record) (m n : Entries) (group : ℕ) → n ≡ after g change m → group ≡ group_of g change → (a : ℕ) → (a / g.p ≡ group → ⊥) → get n a ≡ get m a
others_same g change m n group is own a apart = ap (λ (x : Entries). get x a) is ∙ after_elsewhere g change m a (λ s. apart (s ∙ sym own))

pub one_change : (g h h' : Geometry) (change : Record) (m n : Entries) (group : ℕ) (before now : Option BlockPages) (dirty : Bool) → h ≡ g → h' ≡ g → IsMap g m → Fits g change m → n ≡ after g change m → group ≡ group_of g change
    → IfSome before (IsDataBlock h m group) → IfNone before (chosen_of Mapped h m group ≡ 0) → IfSome now (IsDataBlock h' n group) → IfNone now (chosen_of Mapped h' n group ≡ 0) → (IsTrue dirty ↔ HasMarkIn g n Dirty group) → ChangesOne g m n group before now dirty
one_change g h h' change m n group before now dirty same same' is_map fits is own had absent has none marked = record {
  old_map = is_map;
  new_map = subst (λ (x : Entries). IsMap g x) (sym is) fits.leaves;
  others = others_same g change m n group is own;
  had_block = subst (λ (x : Geometry). IfSome before (IsDataBlock x m group)) same had;
  had_none = subst (λ (x : Geometry). IfNone before (chosen_of Mapped x m group ≡ 0)) same absent;
  has_block = subst (λ (x : Geometry). IfSome now (IsDataBlock x n group)) same' has;
  has_none = subst (λ (x : Geometry). IfNone now (chosen_of Mapped x n group ≡ 0)) same' none;
  is_dirty = marked;
}

module _ (g : Geometry) (m n : Entries) (group : ℕ) (before now : Option BlockPages) (dirty : Bool) (change : ChangesOne g m n group before now dirty) where
  pub blocks_recounted : (had has : Bool) (k x : ℕ) → had ≡ is_some before → has ≡ is_some now → k ≡ data_block_count g m → x + cond had 1 0 ≡ k + cond has 1 0 → x ≡ data_block_count g n
  blocks_recounted had has k x was here is sum = recounted had has k (data_block_count g m) (data_block_count g n) x is
      (group_counts g BlockMapped group m n had has change.others (has_data_block g m group before had was change.had_block change.had_none) (has_data_block g n group now has here change.has_block change.has_none)) sum

-- if a group counts, the count is at least 1
pub some_blocks : (g h : Geometry) (m : Entries) (group : ℕ) (before : Option BlockPages) (had : Bool) (k : ℕ) → h ≡ g → had ≡ is_some before → IfSome before (IsDataBlock h m group) → IfNone before (chosen_of Mapped h m group ≡ 0) → k ≡ data_block_count g m → (had ≡ true → 1 ≤ k)
some_blocks g h m group before had k same was some none is t = counts_some g BlockMapped m group k had is
    (has_data_block g m group before had was (subst (λ (x : Geometry). IfSome before (IsDataBlock x m group)) same some) (subst (λ (x : Geometry). IfNone before (chosen_of Mapped x m group ≡ 0)) same none)).0 t
