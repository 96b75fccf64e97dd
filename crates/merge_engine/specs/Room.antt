-- The groups that give way to make room.
use Rattle.std.specs.Prelude.{◌≡◌, ◌⊎◌, ◌<◌, ◌≤◌, ◌==◌, ◌/◌, ℕ, Bool, true, false, if◌then◌else◌, Option, None, Some, length}
use Rattle.std.specs.FinMap.{get}
use Rattle.ft_base.specs.declared.geometry.Geometry.{Geometry}
use Rattle.ft_base.specs.declared.block.Place.{Place}
use Rattle.ft_base.specs.declared.block.Page.{Page}
use Rattle.cache_model.specs.declared.entry.Entry.{Entry}
use Rattle.cache_model.specs.Records.{Entries}
use Rattle.cache_model.specs.Cache.{IsWhollyClean, groups}
use Rattle.cache_model.specs.CacheList.{CacheList}
use Rattle.cache_model.specs.Stands.{FlashStandsFor}
use Rattle.mapping.specs.Counts.{data_block_count}
use Rattle.silent_evict.specs.Candidates.{HasDataBlock, IsCandidate, IsVictim}

-- v is s without some wholly clean groups. They gave room because there were more than C groups, and at least C are
-- left
pub record GaveRoom (g : Geometry) (s v : CacheList) : Type 0 where
  pub gone : ℕ → Bool
  pub stays : (a : ℕ) → get v a ≡ (if gone (a / g.p) then None else get s a)
  pub clean : (group : ℕ) → gone group ≡ true → IsWhollyClean g s group
  pub too_many : g.c < length (groups g s)
  pub left : g.c ≤ length (groups g v)

-- the list stayed, or gave room
abbrev pub GivesRoom : Geometry → CacheList → CacheList → Type 0
GivesRoom g s v = (v ≡ s) ⊎ GaveRoom g s v

-- the group has no data block, and C others have one
pub record LacksRoom (g : Geometry) (m : Entries) (group : ℕ) : Type 0 where
  pub none : HasDataBlock g m group → ⊥
  pub full : data_block_count g m ≡ g.c

-- no group has a data block and no dirty address
abbrev pub HasNoCandidate : Geometry → Entries → Type 0
HasNoCandidate g m = (group : ℕ) → IsCandidate g m group → ⊥

-- the group that gives way when this one is merged: none if there is room, else a victim, and the group itself if there
-- is no victim
abbrev pub MakesWay : Geometry → Entries → ℕ → Option ℕ → Type 0
MakesWay g m group None = HasDataBlock g m group ⊎ (data_block_count g m < g.c)
MakesWay g m group (Some gone) = LacksRoom g m group × (IsVictim g m gone ⊎ ((gone ≡ group) × HasNoCandidate g m))

abbrev pub is_group : Option ℕ → ℕ → Bool
is_group None group = false
is_group (Some one) group = group == one

-- v is s without the group that gives way
pub record GaveWay (g : Geometry) (m : Entries) (group : ℕ) (s v : CacheList) : Type 0 where
  pub gone : Option ℕ
  pub given_up : MakesWay g m group gone
  pub stays : (a : ℕ) → get v a ≡ (if is_group gone (a / g.p) then None else get s a)

-- the flash stands for the list without the buffered changes, or for the list, which may have given room
abbrev pub FlashStandsForGiven : Geometry → (Place → Page) → CacheList → CacheList → Type 0
FlashStandsForGiven g page durable list = FlashStandsFor g page durable ⊎ ((v : CacheList) × GivesRoom g list v × FlashStandsFor g page v)

-- ---- the entries that stay

-- a group was merged. Each entry of another group stays, except entries of the group that gave way; and at least as
-- many data blocks are in use
pub record MergesBeside (g : Geometry) (group : ℕ) (old new : Entries) : Type 0 where
  pub gone : Option ℕ
  pub given_up : MakesWay g old group gone
  pub others : (a : ℕ) → (a / g.p ≡ group → ⊥) → get new a ≡ (if is_group gone (a / g.p) then None else get old a)
  pub no_fewer : data_block_count g old ≤ data_block_count g new

-- an address of the group stands in the erase block as in a log block
abbrev pub HasPageIn : Geometry → Entries → ℕ → ℕ → Type 0
HasPageIn g m block group = (a : ℕ) × (e : Entry) × (get m a ≡ Some e) × (a / g.p ≡ group) × (e.block_mapped ≡ false) × (e.place.block ≡ block)

-- a log block was freed. Each entry of a group with no page in it stays, unless the group gave way. At least as many
-- data blocks are in use, and all C if a group gave way
pub record FreesGroups (g : Geometry) (block : ℕ) (old new : Entries) : Type 0 where
  pub gone : ℕ → Bool
  pub others : (a : ℕ) → (HasPageIn g old block (a / g.p) → ⊥) → get new a ≡ (if gone (a / g.p) then None else get old a)
  pub no_fewer : data_block_count g old ≤ data_block_count g new
  pub full : (group : ℕ) → gone group ≡ true → data_block_count g new ≡ g.c
