-- The uses of the erase blocks of a map that was loaded.
use Rattle.std.specs.Prelude.{◌≡◌, ◌⊎◌, ◌↔◌, ◌<◌, ℕ, Bool, false, List, [], ◌∷◌, None, Some, if◌then◌else◌}
use Rattle.std.specs.List.{AllByRecursion}
use Rattle.std.specs.FinMap.{get}
use Rattle.ft_base.specs.declared.geometry.Geometry.{Geometry}
use Rattle.cache_model.specs.declared.entry.Entry.{Entry}
use Rattle.cache_model.specs.Records.{Entries}
use Rattle.mapping.specs.Numbers.{number_of}
use Rattle.block_pool.specs.Pool.{PoolValue, IsInPool, role_of}
use Rattle.block_pool.specs.declared.pool.Role.{Role}
use Rattle.block_pool.specs.declared.pool.Role.TheVariants.{Free, Data, Log}
use Rattle.log_blocks.specs.Logs.{LogBlocksValue, AreSoundLogs, IsInUse}
use Rattle.merge_engine.specs.Agreement.{IsDataBlockOf}

-- some entry stands in the erase block as in a log block
abbrev pub IsLogBlockOf : Entries → ℕ → Type 0
IsLogBlockOf m block = (a : ℕ) × (e : Entry) × (get m a ≡ Some e) × (e.block_mapped ≡ false) × (e.place.block ≡ block)

-- the role that an entry gives its erase block
abbrev pub role_for : Bool → Role
role_for block_mapped = if block_mapped then Data else Log

-- the erase block has the role that some entry in it says
abbrev pub IsUsedAs : Entries → ℕ → Role → Type 0
IsUsedAs m block role = (a : ℕ) × (e : Entry) × (get m a ≡ Some e) × (e.place.block ≡ block) × (role ≡ role_for e.block_mapped)

-- the blocks of the entries with the first i numbers have the roles that these say. Every other block is free, or has
-- the role that an entry in it says
pub record RolesSoFar (g : Geometry) (m : Entries) (pool : PoolValue) (i : ℕ) : Type 0 where
  pub seen : (a : ℕ) (e : Entry) → get m a ≡ Some e → number_of g e.place < i → role_of pool e.place.block ≡ role_for e.block_mapped
  pub rest : (b : ℕ) → IsInPool g b → (role_of pool b ≡ Free) ⊎ IsUsedAs m b (role_of pool b)

-- each block of the pool has the role that the entries in it say
pub record RolesOf (g : Geometry) (m : Entries) (pool : PoolValue) : Type 0 where
  pub data_blocks : (b : ℕ) → IsInPool g b → (role_of pool b ≡ Data) ↔ IsDataBlockOf m b
  pub log_blocks : (b : ℕ) → IsInPool g b → (role_of pool b ≡ Log) ↔ IsLogBlockOf m b

-- the log blocks of the pool are the log blocks in use
abbrev pub AreInUse : Geometry → PoolValue → LogBlocksValue → Type 0
AreInUse g pool logs = (b : ℕ) → IsInUse logs b ↔ (IsInPool g b × (role_of pool b ≡ Log))

-- each number is below the numbers behind it
abbrev pub AreAscending : List ℕ → Type 0
AreAscending [] = Unit {0}
AreAscending (n ∷ ns) = AllByRecursion (λ k. n < k) ns × AreAscending ns

-- log blocks as a load finds them: in the order of their numbers, and none is open
pub record AreFoundLogs (logs : LogBlocksValue) : Type 0 where
  pub sound : AreSoundLogs logs
  pub ascending : AreAscending logs.used
  pub none_open : logs.open_block ≡ None
  pub closed : logs.room ≡ 0
