-- The pool: its erase blocks, each with a role and the count of its erases since opening.
use Rattle.std.specs.Prelude.{◌≡◌, ◌≢◌, ◌≤◌, ◌<◌, ◌-◌, ℕ, Bool, true, List, slice_index_or, None}
use Rattle.ft_base.specs.declared.geometry.Geometry.{Geometry}
use Rattle.ft_base.specs.Contents.{Flash, set}
use Rattle.ft_base.specs.Count.{bumped}
use Rattle.ft_base.specs.Layout as layout
use Rattle.ft_media.specs.Media.{PagesErased}
use Rattle.block_pool.specs.declared.pool.PoolBlock.{PoolBlock}
use Rattle.block_pool.specs.declared.pool.Role.{Role}
use Rattle.block_pool.specs.declared.pool.Role.TheVariants.{Free}

-- the numbers of the cache, and the blocks of the pool from its first one on
pub record PoolValue : Type 0 where
  pub geometry : Geometry
  pub blocks : List PoolBlock

-- the erase block is one of the pool
abbrev pub IsInPool : Geometry → ℕ → Type 0
IsInPool g block = (layout.first_pool g ≤ block) × (block < layout.blocks g)

-- a block that is free and was never erased
abbrev pub unused : PoolBlock
unused = record { role = Free; erases = 0 }

-- the pool's entry for its block of this number
unfoldable pub pool_block : PoolValue → ℕ → PoolBlock
pool_block pool block = slice_index_or pool.blocks (block - layout.first_pool pool.geometry) unused

-- what the block is used for
abbrev pub role_of : PoolValue → ℕ → Role
role_of pool block = (pool_block pool block).role

-- how often the block was erased since opening
abbrev pub erases_of : PoolValue → ℕ → ℕ
erases_of pool block = (pool_block pool block).erases

-- a block of the pool that is free
abbrev pub IsFree : PoolValue → ℕ → Type 0
IsFree pool block = IsInPool pool.geometry block × (role_of pool block ≡ Free)

-- the free block with the fewest erases, and of several such blocks the one with the lowest number
pub record IsNextTaken (pool : PoolValue) (block : ℕ) : Type 0 where
  pub free : IsFree pool block
  pub fewest : (other : ℕ) → IsFree pool other → erases_of pool block ≤ erases_of pool other
  pub lowest : (other : ℕ) → IsFree pool other → erases_of pool other ≡ erases_of pool block → block ≤ other

-- the block was erased once more, and no other block was
pub record ErasedOnce (old new : PoolValue) (block : ℕ) : Type 0 where
  pub this : erases_of new block ≡ bumped (erases_of old block)
  pub others : (other : ℕ) → IsInPool old.geometry other → other ≢ block → erases_of new other ≡ erases_of old other

-- whatever the answer is, only pages of the block that is taken next may be lost; if the flash failed, only that block
-- is no longer ready
pub record ErasesNext (pool : PoolValue) (old new : Flash) (was_failed : Bool) : Type 0 where
  pub block : ℕ
  pub taken : IsNextTaken pool block
  pub pages : PagesErased old new block
  pub not_ready : was_failed ≡ true → new.next ≡ set old.next block None
