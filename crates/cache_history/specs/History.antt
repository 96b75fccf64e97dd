-- The history of a cache, command by command, and the lists of held blocks that it may then have.
use Rattle.std.specs.Prelude.{◌≡◌, ◌⊎◌, ℕ, ◌&&◌, ◌==◌, Bool, true, false, List, [], ◌∷◌, Some}
use Rattle.std.specs.List.{list_any}
use Rattle.std.specs.FinMap.{get, empty}
use Rattle.ft_base.specs.declared.block.Block.{Block}
use Rattle.ft_base.specs.declared.geometry.Geometry.{Geometry}
use Rattle.cache_model.specs.Cache.{Vanish, written_dirty, written_clean, evicted, made_clean}
use Rattle.cache_model.specs.CacheList.{Held, CacheList}
use Rattle.ssc.specs.Commands.{IsHeldIn}
use Rattle.cache_history.specs.declared.kind.Kind.{Kind}
use Rattle.cache_history.specs.declared.kind.Kind.TheVariants.{WriteDirty, WriteLater, WriteClean, Evict, Clean, Commit, Checkpoint}

-- a command that is given; commit and checkpoint ignore the address, and only writes use the block
pub record Given : Type 0 where
  pub kind : Kind
  pub address : ℕ
  pub block : Block

abbrev pub given : Kind → ℕ → Block → Given
given kind address block = record { kind = kind; address = address; block = block }

-- a command answered `Ok`. Or it failed because of a device or of power, and the cache was opened again. Or there was a
-- crash between two commands, and an opening
pub data CacheEvent : Type 0 where
  Answered : Given → CacheEvent
  Refused : Given → CacheEvent
  Crashed : CacheEvent

-- ---- the lists

-- the list after a command of each kind
abbrev pub stepped_by : Kind → ℕ → Block → CacheList → CacheList
stepped_by WriteDirty a block s = written_dirty a block s
stepped_by WriteLater a block s = written_dirty a block s
stepped_by WriteClean a block s = written_clean a block s
stepped_by Evict a block s = evicted a s
stepped_by Clean a block s = made_clean a s
stepped_by Commit a block s = s
stepped_by Checkpoint a block s = s

abbrev pub stepped : Given → CacheList → CacheList
stepped x s = stepped_by x.kind x.address x.block s

-- the list that is held, and the list that a crash would leave
pub record TwoLists : Type 0 where
  pub now : CacheList
  pub durable : CacheList

-- if nothing is buffered, they are one list
abbrev pub both_alike : CacheList → TwoLists
both_alike s = record { now = s; durable = s }

-- a command of this kind, with all buffered changes, is on the flash when it answers `Ok`. For a clean write and an
-- evict this holds if the address was held
abbrev pub IsAtOnce : Kind → ℕ → CacheList → Type 0
IsAtOnce WriteDirty a s = Unit {0}
IsAtOnce WriteLater a s = ⊥
IsAtOnce WriteClean a s = IsHeldIn s a
IsAtOnce Evict a s = IsHeldIn s a
IsAtOnce Clean a s = ⊥
IsAtOnce Commit a s = Unit {0}
IsAtOnce Checkpoint a s = Unit {0}

-- the list that is left for the step of a command: a write may first let wholly clean groups go, and nothing gives way
-- to another command
abbrev pub LeftByKind : Geometry → Kind → ℕ → CacheList → CacheList → Type 0
LeftByKind g WriteDirty a s v = Vanish g s a v
LeftByKind g WriteLater a s v = Vanish g s a v
LeftByKind g WriteClean a s v = Vanish g s a v
LeftByKind g Evict a s v = v ≡ s
LeftByKind g Clean a s v = v ≡ s
LeftByKind g Commit a s v = v ≡ s
LeftByKind g Checkpoint a s v = v ≡ s

abbrev pub LeftBy : Geometry → Given → CacheList → CacheList → Type 0
LeftBy g x s v = LeftByKind g x.kind x.address s v

-- after `Ok` the step was made on the list that was left. A crash would leave the list that it would have left before, if
-- nothing gave way. Or it would leave the list before the step or after it
pub record AfterAnswer (g : Geometry) (x : Given) (old new : TwoLists) : Type 0 where
  pub left : CacheList
  pub left_by : LeftBy g x old.now left
  pub now : new.now ≡ stepped x left
  pub durable : ((left ≡ old.now) × (new.durable ≡ old.durable)) ⊎ (new.durable ≡ left) ⊎ (new.durable ≡ new.now)
  pub at_once : IsAtOnce x.kind x.address old.now → new.durable ≡ new.now

-- after an error and an opening, the list is the one that a crash would have left before. Or it is the list that was
-- left for the step, before the step or after it
pub record AfterRefusal (g : Geometry) (x : Given) (old new : TwoLists) : Type 0 where
  pub left : CacheList
  pub left_by : LeftBy g x old.now left
  pub now : (new.now ≡ old.durable) ⊎ (new.now ≡ left) ⊎ (new.now ≡ stepped x left)
  pub durable : new.durable ≡ new.now

-- after a crash and an opening the list is the one that the crash left
pub record AfterCrash (old new : TwoLists) : Type 0 where
  pub now : new.now ≡ old.durable
  pub durable : new.durable ≡ old.durable

abbrev pub After : Geometry → CacheEvent → TwoLists → TwoLists → Type 0
After g (Answered x) old new = AfterAnswer g x old new
After g (Refused x) old new = AfterRefusal g x old new
After g Crashed old new = AfterCrash old new

-- the lists after these events, the newest first, beginning with these lists
abbrev pub LivedFrom : Geometry → TwoLists → List CacheEvent → TwoLists → Type 0
LivedFrom g start [] l = l ≡ start
LivedFrom g start (event ∷ events) l = (before : TwoLists) × LivedFrom g start events before × After g event before l

-- the lists after these events, beginning with an empty cache
abbrev pub Lived : Geometry → List CacheEvent → TwoLists → Type 0
Lived g events l = LivedFrom g (both_alike empty) events l

-- ---- the events of an address

abbrev pub is_write : Kind → Bool
is_write WriteDirty = true
is_write WriteLater = true
is_write WriteClean = true
is_write Evict = false
is_write Clean = false
is_write Commit = false
is_write Checkpoint = false

-- after a command of this kind the address may no longer be held, or not be dirty
abbrev pub may_undirty : Kind → Bool
may_undirty WriteDirty = false
may_undirty WriteLater = false
may_undirty WriteClean = true
may_undirty Evict = true
may_undirty Clean = true
may_undirty Commit = false
may_undirty Checkpoint = false

abbrev pub is_change : Kind → Bool
is_change WriteDirty = true
is_change WriteLater = true
is_change WriteClean = true
is_change Evict = true
is_change Clean = true
is_change Commit = false
is_change Checkpoint = false

-- a command of one of these kinds at the address
abbrev pub names : (Kind → Bool) → ℕ → Given → Bool
names kinds a x = kinds x.kind && (a == x.address)

-- the event comes from such a command, whatever it answered
abbrev pub concerns : (Kind → Bool) → ℕ → CacheEvent → Bool
concerns kinds a (Answered x) = names kinds a x
concerns kinds a (Refused x) = names kinds a x
concerns kinds a Crashed = false

-- no event is such a command
abbrev pub NoneIs : (Kind → Bool) → ℕ → List CacheEvent → Type 0
NoneIs kinds a events = list_any (concerns kinds a) events ≡ false

-- a crash can't bring back what was there before a write of this kind that answered `Ok`
abbrev pub is_write_for_good : Kind → Bool
is_write_for_good WriteDirty = true
is_write_for_good WriteLater = false
is_write_for_good WriteClean = true
is_write_for_good Evict = false
is_write_for_good Clean = false
is_write_for_good Commit = false
is_write_for_good Checkpoint = false

-- the block of the newest write of the address, since the list was `start`, that answered `Ok` and can't be taken back; or of
-- a later one that failed or may be only buffered; or the list's block, if there was no such write
abbrev pub IsNewest : CacheList → ℕ → Block → List CacheEvent → Type 0
IsNewest start a block [] = (h : Held) × (get start a ≡ Some h) × (block ≡ h.block)
IsNewest start a block (Answered x ∷ older) = ((names is_write a x ≡ true) × (block ≡ x.block))
    ⊎ ((names is_write_for_good a x ≡ false) × IsNewest start a block older)
IsNewest start a block (Refused x ∷ older) = ((names is_write a x ≡ true) × (block ≡ x.block)) ⊎ IsNewest start a block older
IsNewest start a block (Crashed ∷ older) = IsNewest start a block older
