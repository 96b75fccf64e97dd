-- The state that the steps of the commands leave.
use Rattle.std.specs.Prelude.{◌≡◌, ◌⊎◌, ◌<◌, ◌≤◌, ◌+◌, ◌-◌, ℕ, Bool, List, [], ◌∷◌, ◌++◌, length}
use Rattle.std.specs.FinMap.{insert}
use Rattle.ft_base.specs.Contents.{Contents}
use Rattle.ft_base.specs.Layout.{page_records}
use Rattle.ft_base.specs.declared.block.Place.{Place}
use Rattle.ft_base.specs.declared.block.Page.{Page}
use Rattle.ft_base.specs.declared.geometry.Geometry.{Geometry}
use Rattle.ft_base.specs.declared.record.Record.{Record}
use Rattle.ft_base.specs.declared.record.Record.TheVariants.{SetPage}
use Rattle.ft_media.specs.State.{State}
use Rattle.ft_media.specs.Passes.{ProgramsPages}
use Rattle.cache_model.specs.CacheList.{CacheList, Held}
use Rattle.cache_model.specs.Stands.{FlashStandsFor}
use Rattle.op_log.specs.Log.{LogValue, pushed}
use Rattle.recovery.specs.declared.loading.Loaded.{Loaded}
use Rattle.merge_engine.specs.declared.parts.Parts.{Parts}
use Rattle.merge_engine.specs.Agreement.{PartsAgree, AreOfOne, Lists, RolesAgree}
use Rattle.merge_engine.specs.Loaded.{AreFoundLogs}
use Rattle.merge_engine.specs.Room.{GivesRoom}
use Rattle.merge_engine.specs.Steps.{HasLogBlock}
pub use Rattle.merge_engine.specs.Merges.{FlashStandsForEither}
use Rattle.ssc.specs.Commands.{FlashStandsForOne}

-- a step that turned one list into another is buffered. It comes behind all buffered changes, or alone if the old list
-- was committed first; or it is committed with all of them
abbrev pub ListsAfter : List Record → Record → Parts → (Place → Page) → CacheList → CacheList → CacheList → Type 0
ListsAfter buffered own parts page durable before list =
    ((parts.log.buffered ≡ buffered ++ own ∷ []) × Lists parts page list durable)
    ⊎ ((parts.log.buffered ≡ own ∷ []) × Lists parts page list before)
    ⊎ ((parts.log.buffered ≡ []) × Lists parts page list list)

-- v is the list; or the list after it gave room, if no log block was available without a merge
pub record LeftOf (old : Parts) (list v : CacheList) : Type 0 where
  pub gives : GivesRoom old.geometry list v
  pub inside : HasLogBlock old → v ≡ list

-- a step was buffered or committed: on the old list, or on the list that was left once all changes were committed
abbrev pub ListsWritten : Parts → Record → Parts → (Place → Page) → CacheList → CacheList → (CacheList → CacheList) → Type 0
ListsWritten old own new page durable list step =
    ListsAfter old.log.buffered own new page durable list (step list)
    ⊎ ((v : CacheList) × LeftOf old list v × ListsAfter [] own new page v v (step v))

-- a block was put at an address, at some page
abbrev pub PutsBlock : Parts → ℕ → Held → Parts → (Place → Page) → CacheList → CacheList → Type 0
PutsBlock old lba block new page durable list = (at : Place)
    × ListsWritten old (SetPage lba at block.dirty) new page durable list (λ s. insert s lba block)

-- the change is buffered behind all buffered changes
abbrev pub IsPushed : Parts → ℕ → Bool → Parts → Type 0
IsPushed old lba dirty new = (at : Place) × (new.log ≡ pushed (SetPage lba at dirty) old.log)

-- one page of the open log block is used; if no page was left, another log block was opened first
pub record TakesLogPage (old new : Parts) : Type 0 where
  pub inside : 1 ≤ old.log_blocks.room → new.log_blocks ≡ record old.log_blocks { room = old.log_blocks.room - 1 }
  pub opened : old.log_blocks.room ≡ 0 → new.log_blocks.room + 1 ≡ old.geometry.p

-- at least n pages were programmed, one of them in the open log block
pub record PutsPages (n : ℕ) (old new : Parts) (before after : State) : Type 0 where
  pub programs : ProgramsPages n before after
  pub log_page : TakesLogPage old new

-- the flash that a crash may leave of a step. It stands for the list without the buffered changes, or for the list that
-- is left, before the step or after it
abbrev pub FlashStandsForStep : Geometry → (Place → Page) → CacheList → CacheList → (CacheList → CacheList) → Type 0
FlashStandsForStep g page durable list step = FlashStandsFor g page durable
    ⊎ ((v : CacheList) × GivesRoom g list v × FlashStandsForEither g page v (step v))

-- a step at an address may be made: the flash is as the parts left it, and their log has room for one more record
pub record MayStep (parts : Parts) (contents : Contents) (a : ℕ) : Type 0 where
  pub agree : PartsAgree parts contents
  pub lba : a < parts.geometry.size
  pub few : length parts.log.buffered < page_records parts.log.geometry

-- the flash that a crash may leave once a block was put at an address, whatever the answer is, and whenever power goes
-- off
pub record LeavesPut (old : Parts) (before after : Place → Page) (lba : ℕ) (block : Held) : Type 0 where
  pub stands : (list durable : CacheList) → Lists old before list durable
      → FlashStandsForStep old.geometry after durable list (λ s. insert s lba block)
  -- if a log block is available without a merge, nothing gives way
  pub kept : HasLogBlock old → (list durable : CacheList) → Lists old before list durable
      → FlashStandsForOne old.geometry after durable list (insert list lba block)

-- the log of a checkpoint that was found: none of its pages is read, and nothing is buffered
abbrev pub log_found : Geometry → ℕ → ℕ → LogValue
log_found g region era = record { geometry = g; region = region; era = era; next = 0; buffered = [] }

-- the parts over the loaded entries. Their log belongs to the checkpoint that counts, with none of its pages read and
-- nothing buffered. The log blocks are in the order of their numbers, with none open
pub record IsLoadedAs (g : Geometry) (loaded : Loaded) (parts : Parts) : Type 0 where
  pub of_one : AreOfOne parts
  pub geometry : parts.geometry ≡ g
  pub map : parts.map ≡ loaded.map
  pub log : parts.log ≡ log_found g loaded.region loaded.era
  pub roles : RolesAgree parts
  pub log_blocks : AreFoundLogs parts.log_blocks
