-- Switch merges: a log block whose pages hold a group in order becomes the group's data block.
use Rattle.std.specs.Prelude.{◌≡◌, ◌⊎◌, ◌+◌, ◌*◌, ◌<◌, ℕ}
use Rattle.ft_base.specs.declared.geometry.Geometry.{Geometry}
use Rattle.cache_model.specs.Records.{Entries}
use Rattle.mapping.specs.Counts.{Owns}
use Rattle.log_blocks.specs.Logs.{LogBlocksValue, IsInUse, released}
use Rattle.merge_engine.specs.declared.parts.Parts.{Parts}
use Rattle.merge_engine.specs.Merges.{moved}

-- the addresses from this one on stand in order in the first `pages` pages of the erase block
abbrev pub IsInOrderUpTo : Entries → ℕ → ℕ → ℕ → Type 0
IsInOrderUpTo m first block pages = (page : ℕ) → page < pages → Owns m (record { block = block; page = page }) (first + page)

-- all addresses of the group stand in order in the pages of the erase block
abbrev pub IsInOrder : Geometry → Entries → ℕ → ℕ → Type 0
IsInOrder g m group block = IsInOrderUpTo m (group * g.p) block g.p

-- the erase block is a log block whose pages hold the group's addresses in order
pub record CanSwitch (parts : Parts) (group block : ℕ) : Type 0 where
  pub in_use : IsInUse parts.log_blocks block
  pub in_order : IsInOrder parts.geometry parts.map.entries group block

-- no log block can become the group's data block without a copy
abbrev pub CannotSwitch : Parts → ℕ → Type 0
CannotSwitch parts group = (block : ℕ) → CanSwitch parts group block → ⊥

-- the log block became the group's data block. It no longer is a log block, and all blocks of the group stand in it,
-- with their old marks
pub record IsSwitched (old new : Parts) (group block : ℕ) : Type 0 where
  pub log_blocks : new.log_blocks ≡ released block old.log_blocks
  pub entries : new.map.entries ≡ moved old.geometry old.map.entries group block

-- the log blocks stayed, or the log block that could become the group's data block is out of the list
abbrev pub LogsStayOrSwitch : Parts → ℕ → LogBlocksValue → Type 0
LogsStayOrSwitch old group logs = (logs ≡ old.log_blocks)
    ⊎ ((block : ℕ) × CanSwitch old group block × (logs ≡ released block old.log_blocks))

-- the log blocks stayed, or only this one is out of the list
abbrev pub LogsStayOrLose : ℕ → LogBlocksValue → LogBlocksValue → Type 0
LogsStayOrLose block old new = (new ≡ old) ⊎ (IsInUse old block × (new ≡ released block old))
