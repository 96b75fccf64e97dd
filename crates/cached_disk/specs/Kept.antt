-- A cache over a disk, and the media that it leaves.
use Rattle.std.specs.Prelude.{◌≡◌, ◌⊎◌, ◌<◌, ◌≤◌, ◌+◌, ◌/◌, ◌==◌, ◌||◌, ℕ, Bool, true, false, List, [], ◌∷◌, length, map, filter, Ok, Result, OnOk, OnErr, IfErr, IsErrOf, ⊤}
use Rattle.std.specs.List.{AllByRecursion, list_any}
use Rattle.std.specs.FinMap.{get}
use Rattle.std.specs.Option.{is_some}
use Rattle.ft_base.specs.Contents.{Contents, Values}
use Rattle.ft_base.specs.Count.{RoseBy}
use Rattle.ft_base.specs.Layout.{log_pages}
use Rattle.ft_base.specs.PlainDisk.{BlockWrite, PlainDisk, after_writes}
use Rattle.ft_base.specs.Table.{Table, table_of}
use Rattle.ft_base.specs.Told.{Told}
use Rattle.ft_base.specs.declared.block.Page.{Page}
use Rattle.ft_base.specs.declared.block.Place.{Place}
use Rattle.ft_base.specs.declared.geometry.Geometry.{Geometry}
use Rattle.ft_base.specs.declared.told.Mode.{Mode}
use Rattle.ft_base.specs.declared.told.Ack.TheVariants.{Write as AtWrite}
use Rattle.ft_base.specs.declared.told.Mode.TheVariants.{Through}
use Rattle.ft_media.specs.Fitted.{KeepsReady}
use Rattle.ft_media.specs.Media.{flush_counted}
use Rattle.ft_media.specs.Passes.{Passes}
use Rattle.ft_media.specs.State.{State}
use Rattle.ft_volume.specs.Opening.{ImageIs, Opens, Suits}
use Rattle.ft_volume.specs.Volume.{Call, Finds, Goes, HasCause, IsFixed, StandForAny, VolumeState, dirty_lbas, fixes, opening_flushes, told_for, volume_lost}
use Rattle.ft_volume.specs.Standing.{StandFor}
use Rattle.ft_volume.specs.declared.options.Options.{Options}
use Rattle.ft_volume.specs.declared.volume.VolumeError.{VolumeError}
use Rattle.ft_volume.specs.declared.volume.VolumeError.TheVariants.{OutOfVolume}
use Rattle.cache_model.specs.Loading.{load}
use Rattle.cache_model.specs.Records.{Entries}
pub use Rattle.ssc.specs.Commands.{IsDirtyIn}
use Rattle.cache_model.specs.Cache.{Buffered, Cleaned, Inserted, Written, dirty_between, is_write, owed_of, undo}
use Rattle.cache_model.specs.CacheList.{Agrees, CacheList, vol}
use Rattle.cache_model.specs.Stands.{FlashStandsFor}
use Rattle.op_log.specs.Log.{FitsOn}
use Rattle.op_log.specs.Refusals.{open_failed, open_lost}
use Rattle.op_log.specs.declared.error.OpenError.{OpenError}
use Rattle.ssc.specs.declared.cache.Ssc.{Ssc}
use Rattle.ssc.specs.CacheState.{Holds, IsUp, entries_of, geometry_of, log_room, open_room, pending}
use Rattle.cached_disk.specs.declared.disk.CachedDisk.{CachedDisk}
use Rattle.cached_disk.specs.Errors.{CausedBy, IsOpenRefusal, disk_failed}

-- the cache or the disk was given up, so the volume is opened again first
abbrev pub is_down : CachedDisk → Bool
is_down v = v.down || v.cache.stopped

abbrev pub told_of : CachedDisk → Told
told_of v = told_for v.mode v.options

-- both were made with the same options and mode
abbrev pub IsMadeAs : CachedDisk → CachedDisk → Type 0
IsMadeAs old new = (new.options ≡ old.options) × (new.mode ≡ old.mode)

-- the dirty addresses that the cache holds, ascending
abbrev pub dirty_of : CachedDisk → List ℕ
dirty_of v = dirty_lbas (entries_of v.cache)

-- these groups in this order, each with its own addresses among these
abbrev pub waiting_in : ℕ → List ℕ → List ℕ → Table
waiting_in p order lbas = map (λ n. record { group = n; lbas = filter (λ a. a / p == n) lbas }) order

-- the state of the volume at this moment, with its dirty groups in this order, as if nothing were owed
abbrev pub state_in : List ℕ → CachedDisk → VolumeState
state_in order v = record {
  told = told_of v;
  down = is_down v;
  owed = [];
  held = λ a. is_some (get (entries_of v.cache) a);
  table = waiting_in v.options.geometry.p order (dirty_of v);
  log_room = log_room v.cache;
  open_room = open_room v.cache;
  buffered = length (pending v.cache);
}

-- the flash has these entries
abbrev pub Loads : Told → (Place → Page) → Entries → Type 0
Loads told page m = load told.geometry page ≡ Ok m

-- the buffered change is a block that came clean
abbrev pub IsInserted : Buffered → Type 0
IsInserted (Inserted a) = ⊤
IsInserted (Cleaned a) = ⊥
IsInserted (Written a old) = ⊥

-- the changes that a crash may undo: if the volume writes through, undoing them makes no block dirty; and none of them is a write
-- if each write is on the media when it answers
pub record MayUndo (told : Told) (q : List Buffered) : Type 0 where
  pub through : told.mode ≡ Through → AllByRecursion IsInserted q
  pub at_write : told.ack ≡ AtWrite → list_any is_write q ≡ false

-- the list agrees with the disk, and so does each list that is left when the buffered changes are undone, from the last one on
abbrev pub EachAgrees : List Buffered → CacheList → (ℕ → Values) → Type 0
EachAgrees [] s disk = Agrees s disk
EachAgrees (b ∷ bs) s disk = Agrees (undo (b ∷ bs) s) disk × EachAgrees bs s disk

-- the flash stands for this list, which agrees with the disk
pub record IsBeneath (told : Told) (contents : Contents) (list : CacheList) : Type 0 where
  pub flash : FlashStandsFor told.geometry contents.flash.page list
  pub agrees : Agrees list contents.disk
  pub suits : Suits told.mode list

-- the cache holds this list, which agrees with the disk, as does each list without the last changes. Only dirty blocks may wait
-- for a flush, in this list and in the one that a crash leaves
pub record IsHeld (v : CachedDisk) (contents : Contents) (list : CacheList) : Type 0 where
  pub holds : Holds v.cache contents list
  pub agrees : EachAgrees holds.waiting list contents.disk
  pub settled : (a : ℕ) → ((contents.disk a).earlier ≡ []) ⊎ IsDirtyIn list a
  pub beneath : (a : ℕ) → ((contents.disk a).earlier ≡ []) ⊎ IsDirtyIn (undo holds.waiting list) a
  pub suits : Suits v.mode list
  pub may_undo : MayUndo (told_of v) (pending v.cache)

-- the contents are the ones that the volume left: a crash leaves the list beneath, and while the volume is up it holds
-- a list
pub record IsLeft (v : CachedDisk) (contents : Contents) : Type 0 where
  pub own : geometry_of v.cache ≡ v.options.geometry
  pub shape : FitsOn v.options.geometry contents.shape
  pub list : CacheList
  pub beneath : IsBeneath (told_of v) contents list
  pub held : CacheList
  pub up : is_down v ≡ false → IsHeld v contents held

-- the volume may serve a call: the contents are the ones that it left, and it is up
pub record MayServe (v : CachedDisk) (contents : Contents) : Type 0 where
  pub left : IsLeft v contents
  pub up : is_down v ≡ false

-- ---- the writes that are owed

-- none while the volume is down; else the writes that wait beside the list that the cache holds
abbrev pub OwesIn : Bool → CachedDisk → Contents → List BlockWrite → Type 0
OwesIn true v contents owed = owed ≡ []
OwesIn false v contents owed = (s : CacheList) × (is : IsHeld v contents s) × (owed ≡ owed_of is.holds.waiting s)

abbrev pub Owes : CachedDisk → Contents → List BlockWrite → Type 0
Owes v contents owed = OwesIn (is_down v) v contents owed

-- after a step that writes no block: the media stand for the same plain disk, and the same writes are owed; or the owed
-- writes are on the media too; or the volume is down, and they are lost
abbrev pub KeepsOwed : Told → Contents → Bool → List BlockWrite → List BlockWrite → PlainDisk → Type 0
KeepsOwed told after down owed left base =
    ((left ≡ owed) × StandFor (ImageIs told) after base)
    ⊎ ((left ≡ []) × StandFor (ImageIs told) after (after_writes owed base))
    ⊎ ((down ≡ true) × (left ≡ []) × StandFor (ImageIs told) after base)

-- this holds whichever writes were owed
abbrev pub StaysOwing : CachedDisk → CachedDisk → Contents → Contents → Type 0
StaysOwing old new before after = (owed : List BlockWrite) → Owes old before owed
    → (left : List BlockWrite) × Owes new after left × ((base : PlainDisk) → StandFor (ImageIs (told_of old)) before base
    → KeepsOwed (told_of old) after (is_down new) owed left base)

-- the plain disk of a list over a disk, below the size
abbrev pub IsVolume : Geometry → CacheList → Contents → PlainDisk → Type 0
IsVolume g s contents d = (a : ℕ) → a < g.size → vol s (λ lba. (contents.disk lba).newest) a ≡ d a

-- ---- the effects of a call

-- a call that makes no block dirty or clean, and its effects, whatever it answers
pub record Serves {T : Type 0} (call : Call) (old new : CachedDisk) (before after : State) (result : Result T VolumeError) : Type 0 where
  pub left : IsLeft new after.contents
  pub keeps : StaysOwing old new before.contents after.contents
  pub found : OnOk result ((owed : List BlockWrite) → Owes old before.contents owed
      → (base : PlainDisk) → StandFor (ImageIs (told_of old)) before.contents base → Finds call (after_writes owed base))
  pub goes : (order : List ℕ) → Goes (state_in order old) (state_in order new) before after result
  pub dirty : is_down new ≡ false → dirty_of new ≡ dirty_of old
  pub made : IsMadeAs old new
  pub within : IsErrOf result OutOfVolume → ⊥

-- after `Ok` n blocks were written to the disk, else at most n; and none was read from it
pub record WritesDisk (n : ℕ) (before after : State) (result : Result (Unit {0}) VolumeError) : Type 0 where
  pub exact : OnOk result (RoseBy n before.counts.disk_writes after.counts.disk_writes)
  pub most : after.counts.disk_writes ≤ before.counts.disk_writes + n
  pub reads : after.counts.disk_reads ≡ before.counts.disk_reads

-- no counted call of the disk was made
pub record AsksNoDisk (before after : State) : Type 0 where
  pub disk_reads : after.counts.disk_reads ≡ before.counts.disk_reads
  pub disk_writes : after.counts.disk_writes ≡ before.counts.disk_writes
  pub disk_flushes : after.counts.disk_flushes ≡ before.counts.disk_flushes

-- ---- the effects of an opening

-- an opening neither reads nor writes a block of the disk, and flushes it once at most; and power and the faults change
-- as its answer says
pub record OnlyOpens {T : Type 0} (before after : State) (result : Result T OpenError) : Type 0 where
  pub ready : OnOk result (KeepsReady before after)
  pub disk_reads : after.counts.disk_reads ≡ before.counts.disk_reads
  pub disk_writes : after.counts.disk_writes ≡ before.counts.disk_writes
  pub disk_flushes : after.counts.disk_flushes ≤ before.counts.disk_flushes + 1
  pub cause : CausedBy before.faults after.faults (open_failed result) (disk_failed result) (open_lost result)
  pub passes : Passes before after (open_lost result)

-- an opening of flash of this geometry, whatever it answers, and whenever power goes off
pub record IsOpening {T : Type 0} (g : Geometry) (before after : State) (result : Result T OpenError) : Type 0 where
  pub opens : Opens g before.contents after.contents (disk_failed result) (open_lost result)
  pub refused : IfErr result (λ e. IsOpenRefusal g e (load g before.contents.flash.page))
  pub goes : OnlyOpens before after result

-- the disk was flushed, and nothing else was written
pub record OnlyFlushed (before after : State) : Type 0 where
  pub flash : after.contents.flash ≡ before.contents.flash
  pub counts : after.counts ≡ flush_counted before.counts

-- after `Err` an opening has only read, apart from the flush of the disk, unless a device failed or power was lost
abbrev pub WritesNothingRefused : {T : Type 0} → State → State → Result T OpenError → Type 0
WritesNothingRefused before after result = OnErr result (open_failed result ≡ false → disk_failed result ≡ false → open_lost result ≡ false
    → OnlyFlushed before after)

-- the opened media stand for the plain disk that the flash and the disk were
abbrev pub StandsOpened : Told → Contents → Contents → Type 0
StandsOpened told before after = (s : CacheList) → FlashStandsFor told.geometry before.flash.page s
    → (d : PlainDisk) → IsVolume told.geometry s before d → StandFor (ImageIs told) after d

-- a cache that was opened over media that stood for a list: it holds that list
pub record IsOpenCache (g : Geometry) (old new : Contents) (c : Ssc) : Type 0 where
  pub geometry : geometry_of c ≡ g
  pub holds : (s : CacheList) → FlashStandsFor g old.flash.page s → Holds c new s
  pub loads : load g old.flash.page ≡ Ok (entries_of c)
  pub nothing_waits : pending c ≡ []
  pub up : IsUp c new
  pub goes : c.stopped ≡ false
  pub log : log_room c ≡ log_pages g
  pub closed : open_room c ≡ 0

-- a volume that was made with this mode and these options, and opened over flash that stood for this list
pub record IsFresh (mode : Mode) (options : Options) (s : CacheList) (v : CachedDisk) : Type 0 where
  pub made : v.options ≡ options
  pub written : v.mode ≡ mode
  pub up : is_down v ≡ false
  pub held : (a : ℕ) → is_some (get (entries_of v.cache) a) ≡ is_some (get s a)
  pub dirty : dirty_of v ≡ dirty_between 0 options.geometry.size s
  pub log : log_room v.cache ≡ log_pages options.geometry
  pub closed : open_room v.cache ≡ 0
  pub nothing_waits : pending v.cache ≡ []

-- in this order the dirty groups stand as if each dirty block had been written, ascending
abbrev pub IsOrderOf : List ℕ → CachedDisk → Type 0
IsOrderOf order v = waiting_in v.options.geometry.p order (dirty_of v) ≡ table_of v.options.geometry.p [] (dirty_of v)

-- the volume was opened again if it was down
pub record Reopens {T : Type 0} (old new : CachedDisk) (before after : State) (result : Result T VolumeError) : Type 0 where
  pub made : IsMadeAs old new
  pub same : is_down old ≡ false → (new ≡ old) × (after ≡ before)
  pub up : OnOk result (is_down new ≡ false)
  pub opens : OnOk result (is_down old ≡ true → (m : Entries) → Loads (told_of old) before.contents.flash.page m
      → (entries_of new.cache ≡ m) × (log_room new.cache ≡ log_pages old.options.geometry) × (open_room new.cache ≡ 0)
      × (pending new.cache ≡ []))
  pub refused : OnErr result ((is_down old ≡ true) × (is_down new ≡ true))
  pub disk_reads : after.counts.disk_reads ≡ before.counts.disk_reads
  pub disk_writes : after.counts.disk_writes ≡ before.counts.disk_writes
  pub disk_flushes : after.counts.disk_flushes ≤ before.counts.disk_flushes + opening_flushes (is_down old)
  pub fixed : (bases : List PlainDisk) → StandForAny (ImageIs (told_of old)) before.contents bases
      → IsFixed (ImageIs (told_of old)) after.contents (fixes result) bases
  pub ready : OnOk result (KeepsReady before after)
  pub within : IsErrOf result OutOfVolume → ⊥
  pub cause : HasCause before.faults after.faults result
  pub passes : Passes before after (volume_lost result)
