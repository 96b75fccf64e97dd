-- The pool's entry for a block, as a place in its list.
use Rattle.std.proofs.Common.{◌≡◌, ◌≢◌, ℕ, ◌<◌, ◌≤◌, ◌+◌, ◌-◌, List, length, get_or, set, replicate, inl, inr, sym, ◌∙◌, ap, subst, arith}
use Rattle.std.proofs.lemmas.Bool.{cases_lt, cases_eq}
use Rattle.std.proofs.lemmas.List.{get_or_read, get_or-set_same, get_or-set_other, get_or-replicate, get_or_past, length-replicate}
use Rattle.ft_base.specs.declared.geometry.Geometry.{Geometry}
use Rattle.ft_base.specs.Layout.{first_pool}
use Rattle.block_pool.specs.declared.pool.Pool.TheInside.{Inside}
use Rattle.block_pool.specs.declared.pool.PoolBlock.{PoolBlock}
use Rattle.block_pool.specs.Pool.{IsInPool, PoolValue, pool_block, unused}

-- these are the fields of the pool
pub record AreFieldsOf (pool : PoolValue) (fields : Inside) : Type 0 where
  pub value : record { geometry = fields.geometry; blocks = fields.blocks.items } ≡ pool
  pub first : fields.first ≡ first_pool fields.geometry
  pub count : length fields.blocks.items ≡ fields.geometry.c + fields.geometry.l + 1

-- the place of a block in the list, counted from the first
abbrev pub place : Inside → ℕ → ℕ
place fields block = block - fields.first

-- the pool with another entry at the place of a block
abbrev pub with_entry : Inside → ℕ → PoolBlock → PoolValue
with_entry fields block entry = record { geometry = fields.geometry; blocks = set fields.blocks.items (place fields block) entry }

module _ (pool : PoolValue) (fields : Inside) (are : AreFieldsOf pool fields) (block : ℕ) (in_pool : IsInPool pool.geometry block) where
  pub place_below : place fields block < length fields.blocks.items
  place_below =
      let here : IsInPool fields.geometry block = subst (λ (p : PoolValue). IsInPool p.geometry block) (sym are.value) in_pool in
      omega (arith, are.first, are.count, here.0, here.1)

  pub first_low : fields.first ≤ block
  first_low =
      let here : IsInPool fields.geometry block = subst (λ (p : PoolValue). IsInPool p.geometry block) (sym are.value) in_pool in
      omega (arith, are.first, here.0)

  -- the entry that is read at the block's place
  pub pool_block-read : (found : PoolBlock) → found ≡ get_or fields.blocks.items (place fields block) found → found ≡ pool_block pool block
  unfolding pool_block
  pool_block-read found is =
      rw (← are.value, ← are.first) (get_or_read fields.blocks.items (place fields block) found place_below is unused)

  -- the block after a write at its place
  pub pool_block-with_same : (entry : PoolBlock) → pool_block (with_entry fields block entry) block ≡ entry
  unfolding pool_block
  pool_block-with_same entry = rw (← are.first) (get_or-set_same fields.blocks.items (place fields block) entry unused place_below)

  -- a part that the entry leaves unchanged stays for every block
  pub part-with : {A : Type 0} (part : PoolBlock → A) (entry : PoolBlock) → part entry ≡ part (pool_block pool block)
      → (other : ℕ) → part (pool_block (with_entry fields block entry) other) ≡ part (pool_block pool other)
  unfolding pool_block
  part-with part entry same other =
      let was = rw (← are.value, ← are.first) at same in
      elim (cases_eq (place fields other) (place fields block)) [
        | inl at ↦
            rw (← are.value, ← are.first, at) (ap part (get_or-set_same fields.blocks.items (place fields block) entry unused place_below) ∙ was)
        | inr apart ↦
            rw (← are.value, ← are.first) (ap part (get_or-set_other fields.blocks.items (place fields block) (place fields other) entry unused apart))
      ]

-- another block of the pool after a write
pub pool_block-with_other : (pool : PoolValue) (fields : Inside) → AreFieldsOf pool fields → (block other : ℕ) (entry : PoolBlock)
    → IsInPool pool.geometry block → IsInPool pool.geometry other → other ≢ block → pool_block (with_entry fields block entry) other ≡ pool_block pool other
unfolding pool_block
pool_block-with_other pool fields are block other entry in_pool other_in_pool apart =
    let low = first_low pool fields are block in_pool in
    let other_low = first_low pool fields are other other_in_pool in
    let places : place fields other ≢ place fields block = λ same. apart (omega (arith, same, low, other_low)) in
    rw (← are.value, ← are.first) (get_or-set_other fields.blocks.items (place fields block) (place fields other) entry unused places)

-- each block of a new pool
pub pool_block-replicate : (g : Geometry) (blocks : List PoolBlock) (count block : ℕ) → blocks ≡ replicate count unused
    → pool_block (record { geometry = g; blocks = blocks }) block ≡ unused
unfolding pool_block
pool_block-replicate g blocks count block are =
    rw are (elim (cases_lt (block - first_pool g) count) [
      | inl within ↦ get_or-replicate count (block - first_pool g) unused unused within
      | inr past ↦ get_or_past (replicate count unused) (block - first_pool g) unused (omega (arith, length-replicate count unused))
    ])
