-- The answers of the commands, and the lists that they leave.
use Rattle.std.specs.Prelude.{◌≡◌, ◌⊎◌, ◌/◌, ℕ, Bool, true, false, List, [], ◌∷◌, ◌++◌, length, Option, None, Some, Result, Ok, Err, ⊤}
use Rattle.std.specs.FinMap.{get}
use Rattle.ft_base.specs.declared.block.Block.{Block}
use Rattle.ft_base.specs.declared.block.Place.{Place}
use Rattle.ft_base.specs.declared.block.Page.{Page}
use Rattle.ft_base.specs.declared.geometry.Geometry.{Geometry}
use Rattle.ft_base.specs.Contents.{Contents, Image, Now}
use Rattle.cache_model.specs.Cache.{Buffered, IsFull, Vanish, dirty_groups, with_group}
use Rattle.cache_model.specs.CacheList.{CacheList, Held}
use Rattle.cache_model.specs.Stands.{FlashStandsFor}
use Rattle.ssc.specs.declared.cache.Ssc.{Ssc}
use Rattle.ssc.specs.declared.error.SscError.{SscError}
use Rattle.ssc.specs.declared.error.SscError.TheVariants.{Full, FlashFault, PowerLost, OutOfMemory}
use Rattle.ssc.specs.CacheState.{Holds, geometry_of}

-- the flash that a crash may leave of a command. It stands for the list before without the buffered changes, for that
-- whole list, or for the list after the step
pub data FlashStandsForOne (g : Geometry) (page : Place → Page) (undone before after : CacheList) : Type 0 where
  AsUndone : FlashStandsFor g page undone → FlashStandsForOne g page undone before after
  AsBefore : FlashStandsFor g page before → FlashStandsForOne g page undone before after
  AsAfter : FlashStandsFor g page after → FlashStandsForOne g page undone before after

-- whatever the command answers, and whenever power goes off, every image stands for one of these
abbrev pub ImagesOf : Ssc → Contents → CacheList → CacheList → CacheList → Type 0
ImagesOf c contents undone before after = (x : Image) → Now contents x
    → FlashStandsForOne (geometry_of c) x.page undone before after

-- the flash that a crash may leave of a write at an address. It stands for the list before without the buffered
-- changes. Or it stands for the list from which clean groups may have given way, before the step or after it
pub data FlashStandsForWrite (g : Geometry) (page : Place → Page) (undone before : CacheList) (a : ℕ)
    (step : CacheList → CacheList) : Type 0 where
  AsUndone : FlashStandsFor g page undone → FlashStandsForWrite g page undone before a step
  AsLeft : (v : CacheList) → Vanish g before a v → FlashStandsFor g page v → FlashStandsForWrite g page undone before a step
  AsWritten : (v : CacheList) → Vanish g before a v → FlashStandsFor g page (step v) → FlashStandsForWrite g page undone before a step

-- whatever a write answers, and whenever power goes off, every image stands for one of these
abbrev pub ImagesOfWrite : Ssc → Contents → CacheList → CacheList → ℕ → (CacheList → CacheList) → Type 0
ImagesOfWrite c contents undone before a step = (x : Image) → Now contents x
    → FlashStandsForWrite (geometry_of c) x.page undone before a step

-- the cache holds the list after the step, from which clean groups may have given way before
pub record HoldsWritten (c : Ssc) (contents : Contents) (before : CacheList) (a : ℕ) (step : CacheList → CacheList) : Type 0 where
  pub left : CacheList
  pub vanish : Vanish (geometry_of c) before a left
  pub holds : Holds c contents (step left)

-- the answer is `Full` if the dirty groups, counting the address's, are more than C, and only then; it says how many
-- they are
abbrev pub FullExactly : Geometry → CacheList → ℕ → {T : Type 0} → Result T SscError → Type 0
FullExactly g s a (Err (Full n limit)) = IsFull g s a × (n ≡ length (with_group (a / g.p) (dirty_groups g s))) × (limit ≡ g.c)
FullExactly g s a (Err FlashFault) = IsFull g s a → ⊥
FullExactly g s a (Err PowerLost) = IsFull g s a → ⊥
FullExactly g s a (Err OutOfMemory) = IsFull g s a → ⊥
FullExactly g s a (Ok done) = IsFull g s a → ⊥

-- the buffered changes after a command that may be buffered itself: the old ones, or none, and then its own; or none
abbrev pub PendsWith : List Buffered → List Buffered → Buffered → Type 0
PendsWith old new own = (new ≡ old ++ own ∷ []) ⊎ (new ≡ own ∷ []) ⊎ (new ≡ [])

-- the cache holds the list after the step. The step waits behind all changes that waited, and nothing gave way before it; or it
-- waits alone, or not at all, and then clean groups may have given way before it
pub record HoldsBuffered (c : Ssc) (contents : Contents) (before : CacheList) (beside : List Buffered) (a : ℕ)
    (step : CacheList → CacheList) (own : CacheList → Buffered) : Type 0 where
  pub left : CacheList
  pub vanish : Vanish (geometry_of c) before a left
  pub holds : Holds c contents (step left)
  pub pends : ((left ≡ before) × (holds.waiting ≡ beside ++ own left ∷ [])) ⊎ (holds.waiting ≡ own left ∷ []) ⊎ (holds.waiting ≡ [])

-- the cache holds the list after a step. The step waits behind all changes that waited, or alone, or not at all
pub record HoldsPending (c : Ssc) (contents : Contents) (after : CacheList) (beside : List Buffered) (own : Buffered) : Type 0 where
  pub holds : Holds c contents after
  pub pends : PendsWith beside holds.waiting own

-- the address is held
abbrev pub IsHeldIn : CacheList → ℕ → Type 0
IsHeldIn s a = (h : Held) × (get s a ≡ Some h)

-- the address is held, and dirty
abbrev pub IsDirtyIn : CacheList → ℕ → Type 0
IsDirtyIn s a = (h : Held) × (get s a ≡ Some h) × (h.dirty ≡ true)

-- a read answers true with the block exactly when the address is held
abbrev pub ReadOf : Option Held → Bool → Block → Type 0
ReadOf None found block = found ≡ false
ReadOf (Some h) found block = (found ≡ true) × (block ≡ h.block)

-- this holds, unless a read found the block
abbrev pub UnlessFound : Result Bool SscError → Type 0 → Type 0
UnlessFound (Ok true) holds = ⊤
UnlessFound (Ok false) holds = holds
UnlessFound (Err e) holds = holds
