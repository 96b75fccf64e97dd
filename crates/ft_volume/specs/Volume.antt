-- What a volume is, and what each of its calls does.
use Rattle.std.specs.Prelude.{◌≡◌, ◌⊎◌, ◌≤◌, ◌+◌, ◌*◌, ◌/◌, ℕ, Bool, true, false, List, ◌∷◌, ◌++◌, length, take, drop, if◌then◌else◌, nat_le, ◌==◌, map, filter, Result, Ok, Err, OnOk, OnErr, IsErrOf, ⊤, []}
use Rattle.std.specs.List.{list_any}
use Rattle.std.specs.FinMap.{entries, get}
use Rattle.std.specs.Option.{is_some}
use Rattle.ft_base.specs.Contents.{Contents, Image, Now}
use Rattle.ft_base.specs.Count.{Rose, RoseBy}
use Rattle.ft_base.specs.Layout.{log_pages, page_records}
use Rattle.ft_base.specs.PlainDisk.{PlainDisk, BlockWrite, after_writes}
use Rattle.ft_base.specs.Table.{Table, table_of, table_written, backs_written, table_idled, backs_idled, goes_back, is_full, without_last}
use Rattle.ft_base.specs.Told.{Told}
use Rattle.ft_base.specs.declared.block.Block.{Block}
use Rattle.ft_base.specs.declared.block.Page.{Page}
use Rattle.ft_base.specs.declared.block.Place.{Place}
use Rattle.ft_base.specs.declared.told.Mode.{Mode}
use Rattle.ft_base.specs.declared.told.Mode.TheVariants.{Back, Through}
use Rattle.ft_base.specs.declared.told.Ack.{Ack}
use Rattle.ft_base.specs.declared.told.Ack.TheVariants.{Write as AtWrite, Flush as AtFlush}
use Rattle.cache_model.specs.Records.{Entries}
use Rattle.ft_media.specs.Fitted.{KeepsReady}
use Rattle.ft_media.specs.Media.{program_counted}
use Rattle.ft_media.specs.Passes.{Passes}
use Rattle.ft_media.specs.Reads.{ReadsFlash}
use Rattle.ft_media.specs.State.{State, Faults}
use Rattle.ft_volume.specs.declared.options.Options.{Options}
use Rattle.ft_volume.specs.declared.volume.Idled.{Idled}
use Rattle.ft_volume.specs.declared.volume.Idled.TheVariants.{Nothing, Cleaned, Checkpointed}
use Rattle.ft_volume.specs.declared.volume.VolumeError.{VolumeError}
use Rattle.ft_volume.specs.declared.volume.VolumeError.TheVariants.{FlashFault, DiskFault, PowerLost, OutOfMemory, OutOfVolume}
use Rattle.ft_volume.specs.Standing.{StandFor}

-- a volume that writes through has each write on the media when it answers
abbrev pub ack_for : Mode → Ack → Ack
ack_for Back ack = ack
ack_for Through ack = AtWrite

-- what a volume of this mode, made with these options, says of itself
abbrev pub told_for : Mode → Options → Told
told_for mode options = record { geometry = options.geometry; dirty = options.dirty; mode = mode; ack = ack_for mode options.ack }

-- a volume at one moment. While it is down, nothing is said of the held addresses and the waiting blocks
pub record VolumeState : Type 0 where
  pub told : Told
  -- the next call opens it again
  pub down : Bool
  -- the writes that were acknowledged and are not on the media, the oldest first. Their blocks lie on the media, so
  -- `owing` puts them here
  pub owed : List BlockWrite
  -- the addresses whose blocks the cache has
  pub held : ℕ → Bool
  -- the blocks that the disk lacks
  pub table : Table
  -- pages left of the log
  pub log_room : ℕ
  -- pages left of the open log block
  pub open_room : ℕ
  -- changes of the cache that are only buffered: a crash may undo them, and doesn't change the plain disk by that
  pub buffered : ℕ

-- a call, with the block that it read or writes
pub data Call : Type 0 where
  Reads : ℕ → Block → Call
  Writes : ℕ → Block → Call
  Flushes : Call
  Idles : Call
  Reports : Call

abbrev pub writes_of : Call → List BlockWrite
writes_of (Reads lba block) = []
writes_of (Writes lba block) = record { lba = lba; block = block } ∷ []
writes_of Flushes = []
writes_of Idles = []
writes_of Reports = []

-- ---- what images stand for

-- it is one of these
abbrev pub IsAny : {A : Type 0} → (A → Type 0) → List A → Type 0
IsAny is [] = ⊥
IsAny is (x ∷ xs) = is x ⊎ IsAny is xs

-- each image that a crash may leave now stands for one of these
abbrev pub StandForAny : (Image → PlainDisk → Type 0) → Contents → List PlainDisk → Type 0
StandForAny stands contents ds = (x : Image) → Now contents x → IsAny (stands x) ds

-- one of these is the plain disk for which each image that a crash may leave stands
abbrev pub StandForOneOf : (Image → PlainDisk → Type 0) → Contents → List PlainDisk → Type 0
StandForOneOf stands contents ds = IsAny (StandFor stands contents) ds

-- the same of two plain disks
abbrev pub StandForEither : (Image → PlainDisk → Type 0) → Contents → PlainDisk → PlainDisk → Type 0
StandForEither stands contents d e = (x : Image) → Now contents x → stands x d ⊎ stands x e

abbrev pub StandForOne : (Image → PlainDisk → Type 0) → Contents → PlainDisk → PlainDisk → Type 0
StandForOne stands contents d e = StandFor stands contents d ⊎ StandFor stands contents e

-- reads answer this plain disk: the media, with the owed writes over them
pub record IsDisk (stands : Told → Image → PlainDisk → Type 0) (v : VolumeState) (contents : Contents) (d : PlainDisk) : Type 0 where
  pub base : PlainDisk
  pub media : StandFor (stands v.told) contents base
  pub over : after_writes v.owed base ≡ d

-- ---- what a call does to the plain disk

-- what the call finds on the plain disk
abbrev pub Finds : Call → PlainDisk → Type 0
Finds (Reads lba block) d = block ≡ d lba
Finds (Writes lba block) d = ⊤
Finds Flushes d = ⊤
Finds Idles d = ⊤
Finds Reports d = ⊤

-- the plain disks for which the media may come to stand in the call: unchanged, with the owed writes, or with the
-- call's own write as well
abbrev pub stages : List BlockWrite → List BlockWrite → PlainDisk → List PlainDisk
stages owed writes base = base ∷ after_writes owed base ∷ after_writes writes (after_writes owed base) ∷ []

-- the first of these writes are on the media, and the others are owed
pub record LeavesOwed (stands : Image → PlainDisk → Type 0) (contents : Contents) (owed all : List BlockWrite)
    (base : PlainDisk) : Type 0 where
  pub kept : ℕ
  pub owes : owed ≡ drop kept all
  pub media : StandFor stands contents (after_writes (take kept all) base)

-- after this answer one plain disk alone is possible
abbrev pub fixes : {T : Type 0} → Result T VolumeError → Bool
fixes (Ok value) = true
fixes (Err PowerLost) = true
fixes (Err e) = false

-- a call that found this plain disk on the media
pub record WasDone {T : Type 0} (stands : Told → Image → PlainDisk → Type 0) (call : Call) (old new : VolumeState) (after : Contents)
    (result : Result T VolumeError) (base : PlainDisk) : Type 0 where
  pub images : StandForAny (stands new.told) after (stages old.owed (writes_of call) base)
  pub lost : IsErrOf result PowerLost → StandForOneOf (stands new.told) after (stages old.owed (writes_of call) base)
  pub done : OnOk result (LeavesOwed (stands new.told) after new.owed (old.owed ++ writes_of call) base)
  pub found : OnOk result (Finds call (after_writes old.owed base))
  -- on `Err` it wrote nothing, if it stays up or the error is `OutOfMemory`
  pub up : OnErr result (new.down ≡ false → LeavesOwed (stands new.told) after new.owed old.owed base)
  pub memory : IsErrOf result OutOfMemory → LeavesOwed (stands new.told) after new.owed old.owed base

-- the opening failed and the volume is down, or the address is outside of the volume: each of these plain disks is
-- still possible
pub record IsUnopened {T : Type 0} (stands : Told → Image → PlainDisk → Type 0) (old new : VolumeState) (after : Contents)
    (result : Result T VolumeError) (bases : List PlainDisk) : Type 0 where
  pub fixes : fixes result ≡ false
  pub inside : (IsErrOf result OutOfVolume → ⊥) → (old.down ≡ true) × (new.down ≡ true)
  pub images : StandForAny (stands new.told) after bases

-- a call fixes one of the plain disks that were possible, unless its opening fails or its address is outside
abbrev pub Done : {T : Type 0} → (Told → Image → PlainDisk → Type 0) → Call → VolumeState → VolumeState → Contents → Contents
    → Result T VolumeError → Type 0
Done stands call old new before after result = (bases : List PlainDisk) → StandForAny (stands old.told) before bases
    → IsAny (WasDone stands call old new after result) bases ⊎ IsUnopened stands old new after result bases

-- a cut fixes one of them too
abbrev pub Fixes : (Told → Image → PlainDisk → Type 0) → VolumeState → VolumeState → Contents → Contents → Type 0
Fixes stands old new before after = (bases : List PlainDisk) → StandForAny (stands old.told) before bases
    → StandForOneOf (stands new.told) after bases

-- the volume at this moment, and these writes are owed
abbrev pub owing : VolumeState → List BlockWrite → VolumeState
owing v owed = record v { owed = owed }

-- whichever writes were owed before a call, some are owed after it, and the call did this to the plain disk
abbrev pub DoneOwing : {T : Type 0} → (List BlockWrite → Type 0) → (List BlockWrite → Type 0)
    → (Told → Image → PlainDisk → Type 0) → Call → VolumeState → VolumeState → Contents → Contents → Result T VolumeError → Type 0
DoneOwing was is stands call old new before after result = (owed : List BlockWrite) → was owed
    → (left : List BlockWrite) × is left × Done stands call (owing old owed) (owing new left) before after result

-- a call that found one plain disk, and nothing was owed before or after it
pub record WasOne {T : Type 0} (stands : Image → PlainDisk → Type 0) (call : Call) (after : Contents) (result : Result T VolumeError)
    (d : PlainDisk) : Type 0 where
  pub kept : writes_of call ≡ [] → StandFor stands after d
  pub found : OnOk result (Finds call d)
  pub done : OnOk result (StandFor stands after (after_writes (writes_of call) d))
  pub images : StandForEither stands after d (after_writes (writes_of call) d)
  pub one : IsErrOf result PowerLost → StandForOne stands after d (after_writes (writes_of call) d)
  pub memory : IsErrOf result OutOfMemory → StandFor stands after d

-- ---- what every call does

-- the call answered PowerLost
abbrev pub volume_lost : {T : Type 0} → Result T VolumeError → Bool
volume_lost (Err PowerLost) = true
volume_lost (Err e) = false
volume_lost (Ok value) = false

-- the answer names a fault of the media
abbrev pub blames_media : {T : Type 0} → Result T VolumeError → Bool
blames_media (Ok value) = false
blames_media (Err FlashFault) = true
blames_media (Err DiskFault) = true
blames_media (Err PowerLost) = true
blames_media (Err OutOfMemory) = false
blames_media (Err OutOfVolume) = false

-- each fault has its cause, and none is hidden
pub record HasCause {T : Type 0} (old new : Faults) (result : Result T VolumeError) : Type 0 where
  pub flash : old.flash ≤ new.flash
  pub disk : old.disk ≤ new.disk
  pub cuts : old.cuts ≤ new.cuts
  pub flash_fault : IsErrOf result FlashFault → Rose old.flash new.flash
  pub disk_fault : IsErrOf result DiskFault → Rose old.disk new.disk
  pub power_lost : IsErrOf result PowerLost → Rose old.cuts new.cuts
  pub none : blames_media result ≡ false → new ≡ old

-- what every call does, whatever its purpose
pub record Goes {T : Type 0} (old new : VolumeState) (before after : State) (result : Result T VolumeError) : Type 0 where
  pub told : new.told ≡ old.told
  pub up : OnOk result (new.down ≡ false)
  pub lost : before.power.on ≡ true → IsErrOf result PowerLost → new.down ≡ true
  pub memory : IsErrOf result OutOfMemory → old.down ≡ false → new.down ≡ false
  -- if the volume is up, each erase block that was ready is still ready, and after a fault of the disk the disk is
  -- unchanged
  pub ready : new.down ≡ false → KeepsReady before after
  pub disk : IsErrOf result DiskFault → old.down ≡ false → new.down ≡ false → after.contents.disk ≡ before.contents.disk
  pub cause : HasCause before.faults after.faults result
  pub passes : Passes before after (volume_lost result)

-- after calls the volume owns the contents of the media, and says that it was made with the same options
abbrev pub StaysOwner : (Contents → Type 0) → Contents → VolumeState → VolumeState → Type 0
StaysOwner owns after old new = owns after × (new.told ≡ old.told)

-- a device write that failed leaves the volume down
pub record FaultDowns {T : Type 0} (result : Result T VolumeError) (down : Bool) : Type 0 where
  pub flash : IsErrOf result FlashFault → down ≡ true
  pub disk : IsErrOf result DiskFault → down ≡ true

-- ---- a volume once it is up

-- the dirty addresses, ascending
abbrev pub dirty_lbas : Entries → List ℕ
dirty_lbas m = map (λ x. x.0) (filter (λ x. x.1.dirty) (entries m))

-- the volume is opened over flash that has these entries; its log is empty then, no log block is open, and nothing is
-- buffered
abbrev pub opened : VolumeState → Entries → VolumeState
opened old m = record old {
  down = false;
  held = λ a. is_some (get m a);
  table = table_of old.told.geometry.p [] (dirty_lbas m);
  log_room = log_pages old.told.geometry;
  open_room = 0;
  buffered = 0;
}

-- if the volume is down, it is opened first
abbrev pub opened_of : VolumeState → Entries → VolumeState
opened_of old m = if old.down then opened old m else old

-- the addresses of these entries are held, and no others
abbrev pub IsHeldBy : Entries → (ℕ → Bool) → Type 0
IsHeldBy m held = (a : ℕ) → held a ≡ is_some (get m a)

-- a checkpoint was just made: the log is empty, and nothing is buffered
pub record IsCheckpointed (v : VolumeState) : Type 0 where
  pub log : v.log_room ≡ log_pages v.told.geometry
  pub nothing : v.buffered ≡ 0

-- ---- the cost of a call on a volume that is up, or that the call opened

abbrev pub table_after : Call → Told → Table → Table
table_after (Reads lba block) told t = t
table_after (Writes lba block) told t = table_written told.mode told lba t
table_after Flushes told t = t
table_after Idles told t = table_idled told t
table_after Reports told t = t

-- how many blocks go to the disk in the call
abbrev pub backs_of : Call → Told → Table → ℕ
backs_of (Reads lba block) told t = 0
backs_of (Writes lba block) told t = backs_written told.mode told lba t
backs_of Flushes told t = 0
backs_of Idles told t = backs_idled told t
backs_of Reports told t = 0

-- how many blocks may be read from the disk in the call
abbrev pub misses : Call → (ℕ → Bool) → ℕ
misses (Reads lba block) held = if held lba then 0 else 1
misses (Writes lba block) held = 0
misses Flushes held = 0
misses Idles held = 0
misses Reports held = 0

-- the address is the call's own
abbrev pub IsOwn : Call → ℕ → Type 0
IsOwn (Reads lba block) a = a ≡ lba
IsOwn (Writes lba block) a = a ≡ lba
IsOwn Flushes a = ⊥
IsOwn Idles a = ⊥
IsOwn Reports a = ⊥

-- the groups of these addresses, and of the call's own address, are among these few groups
pub record LieIn (told : Told) (call : Call) (held : ℕ → Bool) (groups : List ℕ) : Type 0 where
  pub few : length groups ≤ told.geometry.c
  pub all : (a : ℕ) → (held a ≡ true) ⊎ IsOwn call a → list_any (λ k. k == a / told.geometry.p) groups ≡ true

-- the addresses that are held after an answer: the call's own, and else only ones that were held; all of those if few
-- groups are held
pub record HoldsAfter (told : Told) (call : Call) (old new : ℕ → Bool) : Type 0 where
  pub own : (a : ℕ) → IsOwn call a → new a ≡ true
  pub only : (a : ℕ) → new a ≡ true → (old a ≡ true) ⊎ IsOwn call a
  pub stays : (groups : List ℕ) → LieIn told call old groups → (a : ℕ) → old a ≡ true → new a ≡ true

-- writes that may be owed are committed before a group is written back
abbrev pub commits_first : Ack → Bool
commits_first AtWrite = false
commits_first AtFlush = true

-- whether a call may have used the log before it fails
abbrev pub may_log : Ack → Call → Bool
may_log ack (Reads lba block) = false
may_log ack (Writes lba block) = true
may_log ack Flushes = true
may_log ack Idles = commits_first ack
may_log ack Reports = true

-- a call that failed, after which the volume is still up. If the call can't have used the log, nothing has changed. Else
-- the table is unchanged or lacks its last group. The same addresses are held, except that the call's own may be dropped
pub record StaysUp (call : Call) (old new : VolumeState) : Type 0 where
  pub same : may_log old.told.ack call ≡ false → new ≡ old
  pub table : (new.table ≡ old.table) ⊎ (new.table ≡ without_last old.table)
  pub held : (a : ℕ) → (new.held a ≡ old.held a) ⊎ (IsOwn call a × (new.held a ≡ false))

pub record Costs {T : Type 0} (call : Call) (old new : VolumeState) (before after : State) (result : Result T VolumeError) : Type 0 where
  pub table : OnOk result (new.table ≡ table_after call old.told old.table)
  pub held : OnOk result (HoldsAfter old.told call old.held new.held)
  pub disk_writes : OnOk result (RoseBy (backs_of call old.told old.table) before.counts.disk_writes after.counts.disk_writes)
  pub most_writes : after.counts.disk_writes ≤ before.counts.disk_writes + backs_of call old.told old.table
  pub most_reads : after.counts.disk_reads ≤ before.counts.disk_reads + misses call old.held
  pub refused : OnErr result (new.down ≡ false → StaysUp call old new)

-- ---- what a call asks of the devices

-- how often a write flushes the disk: one for a group that is written back, and one for a block that is written through
abbrev pub flushes_written : Mode → Told → ℕ → Table → ℕ
flushes_written Back told a t = if is_full told.geometry.c (a / told.geometry.p) t then 1 else 0
flushes_written Through told a t = 1

abbrev pub flushes_of : Call → Told → Table → ℕ
flushes_of (Reads lba block) told t = 0
flushes_of (Writes lba block) told t = flushes_written told.mode told lba t
flushes_of Flushes told t = 0
flushes_of Idles told t = if goes_back told.mode told.dirty (length t) then 1 else 0
flushes_of Reports told t = 0

-- an opening flushes the disk once
abbrev pub opening_flushes : Bool → ℕ
opening_flushes down = if down then 1 else 0

-- the call reads an address that is held, and the volume is up
abbrev pub FindsHeld : Call → VolumeState → Type 0
FindsHeld (Reads lba block) v = (v.down ≡ false) × (v.held lba ≡ true)
FindsHeld (Writes lba block) v = ⊥
FindsHeld Flushes v = ⊥
FindsHeld Idles v = ⊥
FindsHeld Reports v = ⊥

-- the call writes to a volume that is up and writes back, and the table and the open log block have room
pub record HasRoom (told : Told) (lba : ℕ) (v : VolumeState) : Type 0 where
  pub up : v.down ≡ false
  pub back : told.mode ≡ Back
  pub table : is_full told.geometry.c (lba / told.geometry.p) v.table ≡ false
  pub block : 1 ≤ v.open_room

-- the write is on the media when it answers, and the log has room for its record too
pub record CommitsInRoom (told : Told) (lba : ℕ) (v : VolumeState) : Type 0 where
  pub room : HasRoom told lba v
  pub ack : told.ack ≡ AtWrite
  pub log : 1 ≤ v.log_room

-- the write may be owed, and its record is not the last one that the buffer takes
pub record BuffersInRoom (told : Told) (lba : ℕ) (v : VolumeState) : Type 0 where
  pub room : HasRoom told lba v
  pub ack : told.ack ≡ AtFlush
  pub buffered : v.buffered + 2 ≤ page_records told.geometry

-- of a call that writes to this volume
abbrev pub IsWriteIn : (Told → ℕ → VolumeState → Type 0) → Call → VolumeState → Type 0
IsWriteIn finds (Reads lba block) v = ⊥
IsWriteIn finds (Writes lba block) v = finds v.told lba v
IsWriteIn finds Flushes v = ⊥
IsWriteIn finds Idles v = ⊥
IsWriteIn finds Reports v = ⊥

-- the flash failed
abbrev pub flash_failed : {T : Type 0} → Result T VolumeError → Bool
flash_failed (Err FlashFault) = true
flash_failed (Err e) = false
flash_failed (Ok value) = false

-- the device calls of a call, on a volume that was `old`, and was `up` once it was up: how often it flushes the disk at
-- most, whatever it answers. A read that finds its address held only reads the flash, and changes nothing. A write that
-- finds room programs a page for its block and one for its record, or only the first if its record is buffered. It makes
-- no other device write
pub record AsksDevices {T : Type 0} (call : Call) (old up new : VolumeState) (before after : State) (result : Result T VolumeError)
    : Type 0 where
  pub flushes : after.counts.disk_flushes ≤ before.counts.disk_flushes + (opening_flushes old.down + flushes_of call up.told up.table)
  pub found : FindsHeld call old → (new ≡ old) × ReadsFlash before after (flash_failed result) (volume_lost result)
  pub two_programs : OnOk result (IsWriteIn CommitsInRoom call old → after.counts ≡ program_counted (program_counted before.counts))
  pub one_program : OnOk result (IsWriteIn BuffersInRoom call old → after.counts ≡ program_counted before.counts)

-- ---- the answer of an idle step, for this many dirty groups and this many pages left of the log

abbrev pub idled_of : Told → ℕ → ℕ → Idled
idled_of told groups room = if goes_back told.mode told.dirty groups then Cleaned else
    (if nat_le (2 * room) (log_pages told.geometry) then Checkpointed else Nothing)

-- ---- an opening within a call

-- whether one of these plain disks was fixed
abbrev pub IsFixed : (Image → PlainDisk → Type 0) → Contents → Bool → List PlainDisk → Type 0
IsFixed stands contents true ds = StandForOneOf stands contents ds
IsFixed stands contents false ds = StandForAny stands contents ds

-- if the volume is down it is opened, before the call does its work
pub record ComesUp {T : Type 0} (stands : Told → Image → PlainDisk → Type 0) (loads : Told → (Place → Page) → Entries → Type 0)
    (old new : VolumeState) (before after : State) (result : Result T VolumeError) : Type 0 where
  pub told : new.told ≡ old.told
  pub owed : new.owed ≡ old.owed
  pub same : old.down ≡ false → (new ≡ old) × (after ≡ before)
  pub up : OnOk result (new.down ≡ false)
  pub opens : OnOk result ((m : Entries) → loads old.told before.contents.flash.page m → new ≡ opened_of old m)
  pub refused : OnErr result ((old.down ≡ true) × (new.down ≡ true))
  -- whatever it answers, it neither reads nor writes a block of the disk
  pub disk_reads : after.counts.disk_reads ≡ before.counts.disk_reads
  pub disk_writes : after.counts.disk_writes ≡ before.counts.disk_writes
  pub disk_flushes : after.counts.disk_flushes ≤ before.counts.disk_flushes + opening_flushes old.down
  pub fixed : (bases : List PlainDisk) → StandForAny (stands old.told) before.contents bases
      → IsFixed (stands new.told) after.contents (fixes result) bases
  pub ready : OnOk result (KeepsReady before after)
  pub within : IsErrOf result OutOfVolume → ⊥
  pub cause : HasCause before.faults after.faults result
  pub passes : Passes before after (volume_lost result)
