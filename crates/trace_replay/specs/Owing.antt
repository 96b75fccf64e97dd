-- Which of a run's block writes are on the media, if a volume owes the newest of them.
use Rattle.std.specs.Prelude.{◌≡◌, ◌≢◌, ◌≤◌, false, Bool, OnOk, ◌+◌, ◌-◌, ℕ, zero, suc, List, [], ◌∷◌, ◌++◌, length, drop, map, reverse, slice_get, Some, Result, IfOk, ⊤}
use Rattle.ft_base.specs.Contents.{Contents, Image, Now}
use Rattle.ft_base.specs.Pattern.{pat}
use Rattle.ft_base.specs.PlainDisk.{BlockWrite, PlainDisk, after_writes}
use Rattle.ft_base.specs.StreamState.{SinkState, SourceState}
use Rattle.ft_base.specs.declared.told.Ack.TheVariants as ack
use Rattle.ft_media.specs.State.{Power, State}
use Rattle.ft_volume.specs.Standing.{StandFor}
use Rattle.ft_volume.specs.Volume.{VolumeState}
use Rattle.trace_model.specs.declared.answer.Answer.{Answer}
use Rattle.trace_model.specs.declared.line.Line.{Line}
use Rattle.trace_model.specs.declared.line.Line.TheVariants as line
use Rattle.trace_model.specs.declared.ran.Ran.{Ran}
use Rattle.trace_model.specs.Backs.{IsUncut}
use Rattle.trace_model.specs.Fits.{FitsLine, FitsLost, armed_after, block_count, is_cut, kept_since_flush}
use Rattle.trace_model.specs.Lost.{IsLeastLost}
use Rattle.trace_model.specs.Readings.{Reading}
use Rattle.trace_model.specs.Run.{answers_of, disk_without, disk_written, end_answers, read_backs, touched_after, with_blocks, with_line, writes_after}
use Rattle.trace_model.specs.SoFar.{as_ran}
use Rattle.trace_replay.specs.declared.ended.Ended.{Ended}
use Rattle.trace_replay.specs.declared.recent.Recent.{Recent}
use Rattle.trace_replay.specs.Ends.{BreaksThrough, SaysThrough}
use Rattle.trace_replay.specs.Events.{Breaks, Event, Says, ScriptState}
use Rattle.trace_replay.specs.Said.{TellsStops, TookPart}
use Rattle.trace_replay.specs.Spends.{IsQuiet, SpendsAtMost, Spent, steps_of}
use Rattle.trace_replay.specs.Went.{Blamed}

-- ---- what is owed; the newest of these block writes is the first

-- of these block writes the newest are owed, this many at most. Whatever a crash leaves stands for the disk of the
-- others
pub record Owing (owes : List BlockWrite → Type 0) (stands : Image → PlainDisk → Type 0) (contents : Contents) (most : ℕ)
    (writes : List BlockWrite) : Type 0 where
  pub recent : List BlockWrite
  pub older : List BlockWrite
  pub all : writes ≡ recent ++ older
  pub is_owed : owes (reverse recent)
  pub few : length recent ≤ most
  pub media : StandFor stands contents (disk_written older)

-- each image that a crash may leave stands for the disk of these block writes without the newest, this many at most
abbrev pub StandForOlder : (Image → PlainDisk → Type 0) → Contents → ℕ → List BlockWrite → Type 0
StandForOlder stands contents most writes = (x : Image) → Now contents x → (lost : ℕ) × (lost ≤ most) × stands x (disk_written (drop lost writes))

-- the same number is missing in all of them
abbrev pub StandForOneOlder : (Image → PlainDisk → Type 0) → Contents → ℕ → List BlockWrite → Type 0
StandForOneOlder stands contents most writes = (lost : ℕ) × (lost ≤ most) × StandFor stands contents (disk_written (drop lost writes))

-- reads show this plain disk: the media, with the owed writes over them
pub record ShowsDisk (owes : List BlockWrite → Type 0) (stands : Image → PlainDisk → Type 0) (contents : Contents) (disk : PlainDisk) : Type 0 where
  pub owed : List BlockWrite
  pub base : PlainDisk
  pub is_owed : owes owed
  pub media : StandFor stands contents base
  pub over : after_writes owed base ≡ disk

-- nothing is owed, and whatever a crash leaves stands for one plain disk
pub record IsClear (owes : List BlockWrite → Type 0) (stands : Image → PlainDisk → Type 0) (contents : Contents) : Type 0 where
  pub nothing_owed : owes []
  pub disk : PlainDisk
  pub media : StandFor stands contents disk

-- calls made `count` block writes, the `own` ones. If no stop cut them, some of all are owed. After a cut nothing is
-- owed, and the newest may be lost
pub record GoesOwing {T : Type 0} (cuts : T → ℕ) (count : ℕ) (own : List BlockWrite → List BlockWrite) (was is : List BlockWrite → Type 0)
    (before after : Image → PlainDisk → Type 0) (old new : Contents) (result : Result T Ended) : Type 0 where
  pub done : IfOk result (λ v. cuts v ≡ 0 → (most : ℕ) → (writes : List BlockWrite) → Owing was before old most writes
      → Owing is after new (most + count) (own writes))
  pub nothing : IfOk result (λ v. 1 ≤ cuts v → is [])
  pub cut : IfOk result (λ v. 1 ≤ cuts v → (most : ℕ) → (writes : List BlockWrite) → Owing was before old most writes
      → StandForOneOlder after new (most + count) (own writes))
  pub images : (most : ℕ) → (writes : List BlockWrite) → Owing was before old most writes → StandForOlder after new (most + count) (own writes)

-- ---- the block writes that a run keeps to read them back

abbrev pub most_lost : ℕ
most_lost = 126

-- the blocks of a request join the block writes before, the newest first
abbrev pub with_recent : ℕ → ℕ → ℕ → List Recent → List Recent
with_recent lba tag zero recent = recent
with_recent lba tag (suc n) recent = (record { lba = lba + n; tag = tag }) ∷ with_recent lba tag n recent

abbrev pub written : List Recent → List BlockWrite
written recent = map (λ r. record { lba = r.lba; block = pat r.lba r.tag }) recent

-- the newest block writes after these lines are kept. They came after the last flush, and whatever is owed is among
-- them
pub record OwesRun (owes : List BlockWrite → Type 0) (stands : Image → PlainDisk → Type 0) (contents : Contents) (recent : List Recent)
    (run : List Ran) : Type 0 where
  pub older : List BlockWrite
  pub all : writes_after run ≡ written recent ++ older
  pub few : length recent ≤ most_lost
  pub since : length recent ≤ kept_since_flush run
  pub owing : Owing owes stands contents (length recent) (writes_after run)

-- a fact of each run that left the rig's stops and the writes that are kept as they are now
abbrev pub IfRan : (List BlockWrite → Type 0) → (Image → PlainDisk → Type 0) → State → List Recent → (List Ran → Type 0) → Type 0
IfRan owes stands now recent fact = (run : List Ran) → OwesRun owes stands now.contents recent run → now.power.stops ≡ armed_after run
    → fact run

-- the disk has the block of the write at this place
abbrev pub IsWrittenAt : List Recent → ℕ → PlainDisk → Type 0
IsWrittenAt recent place disk = (r : Recent) → slice_get recent place ≡ Some r → disk r.lba ≡ pat r.lba r.tag

-- reading back tells that of a request's blocks the first `kept` count, and that of the block writes before it `lost`
-- are lost: the fewest with which the disk reads as it does
pub record IsReadBack (lba count tag : ℕ) (recent : List Recent) (disk : PlainDisk) (kept lost : ℕ) : Type 0 where
  pub most : kept ≤ count
  pub front : 1 ≤ lost → kept ≡ 0
  pub least : IsLeastLost (with_blocks lba tag count (written recent)) disk (count - kept + lost)

-- ---- a line of a run, if writes are on the media only after a flush

-- what became of the line fits, and the rest is owed as before
pub record BecameOwing (owes : List BlockWrite → Type 0) (stands : Image → PlainDisk → Type 0) (contents : Contents) (recent : List Recent)
    (line : Line) (cuts kept lost : ℕ) (run : List Ran) : Type 0 where
  pub fits : FitsLine ack.Flush line cuts kept lost (disk_without lost run)
  pub cut : is_cut line ≡ false → cuts ≡ 0 → lost ≡ 0
  pub losses : FitsLost ack.Flush run lost
  pub owed : OwesRun owes stands contents recent (as_ran line cuts kept lost ∷ run)

-- the answers of a line that reads were gathered
abbrev pub IsGathered : Line → List Answer → PlainDisk → Type 0
IsGathered (line.Read lba count) answers disk = answers ≡ read_backs lba count disk
IsGathered other answers disk = ⊤

-- whatever a crash leaves stands for the plain disk with all block writes of these lines and this one, without the
-- newest. None that came before the kept ones is missing
abbrev pub StandForLater : (Image → PlainDisk → Type 0) → Contents → List Recent → Line → List Ran → Type 0
StandForLater stands contents recent line run = StandForOlder stands contents (length recent + block_count line)
    (with_line line (block_count line) (writes_after run))

-- a line that begins with this power can be cut this often, this many of its block writes can count, and this many
-- before it can be lost
pub record CanBecomeOwing (line : Line) (cuts kept lost : ℕ) (power : Power) (run : List Ran) : Type 0 where
  pub few : cuts ≤ length power.stops
  pub spends : cuts ≡ 0 → power.stops ≢ [] → block_count line ≤ power.rest
  pub fits : FitsLine ack.Flush line cuts kept lost (disk_without lost run)
  pub cut : is_cut line ≡ false → cuts ≡ 0 → lost ≡ 0
  pub losses : FitsLost ack.Flush run lost

-- after `Ok` the steps of a line, which was not cut, were made. Unless the line cuts power, never more than these were
-- made
pub record SpendsOwing {T E : Type 0} (line : Line) (v w : VolumeState) (before after : State) (result : Result T E) : Type 0 where
  pub done : OnOk result (IsQuiet v before → IsUncut line → Spent (steps_of line) v w before after)
  pub most : IsQuiet v before → is_cut line ≡ false → SpendsAtMost (steps_of line) v before after

-- the end line of these lines was said, and whatever a crash leaves stands for their plain disk without the lost block
-- writes
pub record IsFlushed {P : Type 0} (came : SourceState → SinkState → List Event → P → Type 0) (x y : P) (stands : Image → PlainDisk → Type 0)
    (contents : Contents) (cuts lost : ℕ) (run : List Ran) : Type 0 where
  pub said : SaysThrough came x y (touched_after run) (disk_without lost run) (end_answers run cuts lost)
  pub cut : cuts ≡ 0 → lost ≡ 0
  pub losses : FitsLost ack.Flush run lost
  pub disk : StandFor stands contents (disk_without lost run)

module _ {P : Type 0} (tells : P → ScriptState) (came : SourceState → SinkState → List Event → P → Type 0)
    (broke : SourceState → SinkState → List Event → Event → P → Type 0)
    (knows : SourceState → P → ℕ → List Reading → Bool → Type 0) where
  -- within a line, before the last of its answers was taken
  pub record EndsOwing (e : Ended) (x y : P) (old new : State) (line : Line) (run : List Ran) : Type 0 where
    pub blamed : Blamed tells came broke knows e x y old new
    pub cuts : ℕ
    pub kept : ℕ
    pub lost : ℕ
    pub can : CanBecomeOwing line cuts kept lost old.power run
    pub part : TookPart e (Says came x y) (Breaks came broke x y) (answers_of (as_ran line cuts kept lost) (disk_without lost run))
    pub proper : part.rest ≡ [] → answers_of (as_ran line cuts kept lost) (disk_without lost run) ≡ []
    pub stops : TellsStops e part.front 0 old new old.power.stops

  -- after the last line, before the end line was taken
  pub record EndsFlushed (e : Ended) (x y : P) (old new : State) (run : List Ran) : Type 0 where
    pub blamed : Blamed tells came broke knows e x y old new
    pub cuts : ℕ
    pub lost : ℕ
    pub few : cuts ≤ length old.power.stops
    pub cut : cuts ≡ 0 → lost ≡ 0
    pub losses : FitsLost ack.Flush run lost
    pub part : TookPart e (SaysThrough came x y (touched_after run) (disk_without lost run))
        (BreaksThrough came broke x y (touched_after run) (disk_without lost run)) (end_answers run cuts lost)
    pub proper : part.rest ≡ [] → ⊥
    pub stops : TellsStops e part.front 0 old new old.power.stops
