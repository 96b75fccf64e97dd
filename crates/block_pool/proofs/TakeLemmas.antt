-- The block that is taken next, found by a walk over the pool.
use Rattle.std.proofs.Common.{◌≡◌, ℕ, ◌<◌, ◌≤◌, Option, Some, None, sym, arith}
use Rattle.block_pool.specs.Pool.{PoolValue, IsFree, IsNextTaken, erases_of}

-- no free block below a number is taken before this one
pub record IsFirstBelow (pool : PoolValue) (end block : ℕ) : Type 0 where
  pub fewest : (other : ℕ) → other < end → IsFree pool other → erases_of pool block ≤ erases_of pool other
  pub lowest : (other : ℕ) → other < end → IsFree pool other → erases_of pool other ≡ erases_of pool block → block ≤ other

-- among the blocks below a number this one is taken
pub record IsNextBelow (pool : PoolValue) (end block : ℕ) : Type 0 where
  pub free : IsFree pool block
  pub below : block < end
  pub first : IsFirstBelow pool end block

-- the result of a walk below a number: the block to take, or that none is free
abbrev pub IsFoundBelow : PoolValue → ℕ → Option ℕ → Type 0
IsFoundBelow pool end None = (other : ℕ) → other < end → IsFree pool other → ⊥
IsFoundBelow pool end (Some block) = IsNextBelow pool end block

-- ---- for callers

-- only one block is the next
pub IsNextTaken-is_one : (pool : PoolValue) (a b : ℕ) → IsNextTaken pool a → IsNextTaken pool b → a ≡ b
IsNextTaken-is_one pool a b first second =
    let a_fewest = first.fewest b second.free in
    let b_fewest = second.fewest a first.free in
    let same : erases_of pool a ≡ erases_of pool b = omega (arith, a_fewest, b_fewest) in
    let a_low = first.lowest b second.free (sym same) in
    let b_low = second.lowest a first.free same in
    omega (arith, a_low, b_low)
