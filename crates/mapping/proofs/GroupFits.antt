-- The tests of a data block decide whether it fits.
use Rattle.std.proofs.Common.{◌≡◌, ◌↔◌, ℕ, ◌+◌, ◌-◌, ◌*◌, ◌/◌, ◌%◌, ◌^◌, ◌<◌, ◌≤◌, ◌==◌, nat_le, min, Bool, true, false, not, bit_and, IsTrue, refl, sym, ◌∙◌, ap, subst, arith, inl, inr, eqb-true, eq-eqb, ne_eqb, nat_lt, ltb-true, lt-ltb, leb-true, le-leb}
use Rattle.std.specs.Int.{bit_at}
use Rattle.std.proofs.lemmas.Bool.{both_ways, not-true}
use Rattle.std.proofs.lemmas.Nat.{div-mul-add, mod_below, pow_pos}
use Rattle.std.proofs.lemmas.Nat.Bits.{bit_at_and, bit_at-lt}
use Rattle.ft_base.specs.declared.geometry.Geometry.{Geometry}
use Rattle.ft_base.specs.declared.record.Record.TheVariants.{SetGroup, Remove, Clean, RemoveGroup}
use Rattle.ft_base.specs.Layout.{first_pool, blocks}
use Rattle.cache_model.specs.declared.entry.Entry.{Entry}
use Rattle.cache_model.specs.Records.{Entries, after, has_bit}
use Rattle.cache_model.specs.Entries.{IsMap, IsInReach, Fits}
use Rattle.cache_model.proofs.CountLemmas.{remove_fits, clean_fits, remove_group_fits}
use Rattle.std.proofs.Math.Nat.{lt-div-mul-add, div-eq_of_lt}
use Rattle.mapping.specs.declared.marks.Mark.TheVariants.{Dirty, BlockMapped}
use Rattle.mapping.specs.declared.seeking.Sought.TheVariants.{Outside}
use Rattle.mapping.specs.Seeking.{IsFoundIn, IsNotIn, MayHave}
use Rattle.mapping.specs.Fitting.{HasPageBelow, EndsBelowSize, BlockMayCome}
use Rattle.mapping.proofs.MarksLemmas.{ChangesGroup, may_have_fits}
use Rattle.mapping.proofs.FittingLemmas.{page_entry, group_cases, group_here, group_other, group_fits, fits_group}

-- ---- bits

pub both_bits : (a b i : ℕ) → has_bit (bit_and a b) i ≡ true → (has_bit a i ≡ true) × (has_bit b i ≡ true)
both_bits a b i t =
    let is : min (bit_at a i) (bit_at b i) ≡ 1 = sym (bit_at_and a b i) ∙ eqb-true _ _ t in
    let low = bit_at-lt a i in
    let low' = bit_at-lt b i in
    let one : bit_at a i ≡ 1 = omega (arith, is, low, low') in
    let one' : bit_at b i ≡ 1 = omega (arith, is, low, low') in
    (eq-eqb _ _ one, eq-eqb _ _ one')

pub from_both : (a b i : ℕ) → has_bit a i ≡ true → has_bit b i ≡ true → has_bit (bit_and a b) i ≡ true
from_both a b i t u =
    let one : bit_at a i ≡ 1 = eqb-true _ _ t in
    let one' : bit_at b i ≡ 1 = eqb-true _ _ u in
    eq-eqb _ _ (bit_at_and a b i ∙ ap (λ n. min n (bit_at b i)) one ∙ ap (min 1) one')

-- ---- the block

module _ (g : Geometry) (m : Entries) (group block present : ℕ) where
  foreign_is : (a : ℕ) → not (a / g.p == group) ≡ true → a / g.p ≡ group → ⊥
  foreign_is a t same = both_ways (a / g.p == group) (not-true (a / g.p == group) t) (eq-eqb _ _ same)

  pub held_by_others : (a : ℕ) → HasPageBelow present g.p → IsFoundIn g (Outside group) m block a → BlockMayCome g group block present m → ⊥
  held_by_others a has x may = may.foreign has.0 has.1 has.2 a x.0 x.1 (foreign_is a x.3) x.2

  pub block_decides : (b : Bool) → first_pool g ≤ block → block < blocks g → IsNotIn g (Outside group) m block → ((b ≡ true → EndsBelowSize g group present) × (EndsBelowSize g group present → b ≡ true)) → IsTrue b ↔ BlockMayCome g group block present m
  block_decides b above below none ends = (
    λ t. record {
      sizes = ends.0 t;
      pool = λ i low there. (above, below);
      foreign = λ i low there a e is other same. none a e is same (ap not (ne_eqb _ _ other));
    },
    λ may. ends.1 may.sizes,
  )

-- ---- the change

module _ (g : Geometry) (old : Entries) (is_map : IsMap g old) (group block present dirty : ℕ) where
  abbrev new : Entries
  new = after g (SetGroup group block present dirty) old

  some_pages : 0 < g.p
  some_pages = omega (arith, g.in_range.p_low)

  mapped_change : (has : Bool) → ((has ≡ true → HasPageBelow present g.p) × (HasPageBelow present g.p → has ≡ true)) → ChangesGroup g BlockMapped group old new has
  mapped_change has is = record {
    others = group_other g old is_map group block present dirty;
    there = λ t. let p = is.0 t in (group * g.p + p.0, page_entry g old is_map group block present dirty p.0, group_here g old is_map group block present dirty p.0 p.1 p.2, div-mul-add group g.p p.0 p.1, refl);
    from = λ a e at in_group marked. elim (group_cases g old is_map group block present dirty a e at) [
      | inl p ↦ is.1 (a % g.p, mod_below a g.p some_pages, p.1)
      | inr p ↦ absurd (p.0 in_group)
    ];
  }

  dirty_change : (has : Bool) → ((has ≡ true → HasPageBelow (bit_and present dirty) g.p) × (HasPageBelow (bit_and present dirty) g.p → has ≡ true)) → ChangesGroup g Dirty group old new has
  dirty_change has is = record {
    others = group_other g old is_map group block present dirty;
    there = λ t.
        let p = is.0 t in
        let q = both_bits present dirty p.0 p.2 in
        (group * g.p + p.0, page_entry g old is_map group block present dirty p.0, group_here g old is_map group block present dirty p.0 p.1 q.0, div-mul-add group g.p p.0 p.1, q.1);
    from = λ a e at in_group marked. elim (group_cases g old is_map group block present dirty a e at) [
      | inl p ↦ is.1 (a % g.p, mod_below a g.p some_pages, from_both present dirty (a % g.p) p.1 (ap (λ (x : Entry). x.dirty) (sym p.2) ∙ marked))
      | inr p ↦ absurd (p.0 in_group)
    ];
  }

  pub no_block : (BlockMayCome g group block present old → ⊥) → Fits g (SetGroup group block present dirty) old → ⊥
  no_block not fits = let may = fits_group g old is_map group block present dirty fits in not (record { sizes = may.sizes; pool = may.pool; foreign = may.foreign })

  pub too_many_blocks : (has b : Bool) → ((has ≡ true → HasPageBelow present g.p) × (HasPageBelow present g.p → has ≡ true)) → ((b ≡ true → MayHave g old BlockMapped group has) × (MayHave g old BlockMapped group has → b ≡ true)) → b ≡ false → Fits g (SetGroup group block present dirty) old → ⊥
  too_many_blocks has b is may f fits = both_ways b f (may.1 ((may_have_fits g BlockMapped group old (after g (SetGroup group block present dirty) old) has (mapped_change has is) is_map.data_blocks).1 (fits_group g old is_map group block present dirty fits).data_blocks))

  pub group_decides : (has has' b b' : Bool) → IsInReach g (SetGroup group block present dirty) → BlockMayCome g group block present old
      → ((has ≡ true → HasPageBelow present g.p) × (HasPageBelow present g.p → has ≡ true)) → ((b ≡ true → MayHave g old BlockMapped group has) × (MayHave g old BlockMapped group has → b ≡ true))
      → b ≡ true → ((has' ≡ true → HasPageBelow (bit_and present dirty) g.p) × (HasPageBelow (bit_and present dirty) g.p → has' ≡ true))
      → ((b' ≡ true → MayHave g old Dirty group has') × (MayHave g old Dirty group has' → b' ≡ true)) → IsTrue b' ↔ Fits g (SetGroup group block present dirty) old
  group_decides has has' b b' reach come is may t is' may' =
      let blocks_fit = (may_have_fits g BlockMapped group old (after g (SetGroup group block present dirty) old) has (mapped_change has is) is_map.data_blocks).0 (may.0 t) in
      let decide = may_have_fits g Dirty group old (after g (SetGroup group block present dirty) old) has' (dirty_change has' is') is_map.dirty_groups in (
        λ u. group_fits g old is_map group block present dirty (record { reach = reach; sizes = come.sizes; pool = come.pool; foreign = come.foreign; data_blocks = blocks_fit; dirty_groups = decide.0 (may'.0 u) }),
        λ fits. may'.1 (decide.1 (fits_group g old is_map group block present dirty fits).dirty_groups),
      )

-- ---- sets of the first pages

pub set_below : (set pages : ℕ) → ((set / 2 ^ pages == 0) ≡ true → set < 2 ^ pages) × (set < 2 ^ pages → (set / 2 ^ pages == 0) ≡ true)
set_below set pages = (
  λ t. let none : set / 2 ^ pages ≡ 0 = eqb-true _ _ t in below none (lt-div-mul-add {a = set} {b = 2 ^ pages} (pow_pos pages)),
  λ low. eq-eqb _ _ (div-eq_of_lt low),
)
  where
    below : set / 2 ^ pages ≡ 0 → set < set / 2 ^ pages * 2 ^ pages + 2 ^ pages → set < 2 ^ pages
    below none lt = let here : set < 0 * 2 ^ pages + 2 ^ pages = subst (λ n. set < n * 2 ^ pages + 2 ^ pages) none lt in omega arith

-- ---- records that remove or clean

pub remove_decides : (g : Geometry) (m : Entries) (lba : ℕ) → IsMap g m → (nat_lt lba g.size ≡ true → Fits g (Remove lba) m) × (Fits g (Remove lba) m → nat_lt lba g.size ≡ true)
remove_decides g m lba is_map = (λ t. remove_fits g lba m is_map (ltb-true _ _ t), λ fits. lt-ltb _ _ fits.in_reach)

pub clean_decides : (g : Geometry) (m : Entries) (lba : ℕ) → IsMap g m → (nat_lt lba g.size ≡ true → Fits g (Clean lba) m) × (Fits g (Clean lba) m → nat_lt lba g.size ≡ true)
clean_decides g m lba is_map = (λ t. clean_fits g lba m is_map (ltb-true _ _ t), λ fits. lt-ltb _ _ fits.in_reach)

pub remove_group_decides : (g : Geometry) (m : Entries) (group : ℕ) → IsMap g m → (nat_le group ((g.size - 1) / g.p) ≡ true → Fits g (RemoveGroup group) m) × (Fits g (RemoveGroup group) m → nat_le group ((g.size - 1) / g.p) ≡ true)
remove_group_decides g m group is_map = (λ t. remove_group_fits g group m is_map (leb-true _ _ t), λ fits. le-leb _ _ fits.in_reach)
