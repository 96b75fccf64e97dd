-- What inspect prints, and what it leaves.
use Rattle.std.specs.Prelude.{◌≡◌, ◌≢◌, ◌⊎◌, ◌≤◌, ◌<◌, ◌++◌, ℕ, Bool, true, List, [], ◌∷◌, length, take, drop, codes, decimal, Option, Some, None, Result, Ok, Err}
use Rattle.std.specs.Io.KnownBytes.{Appends}
use Rattle.ft_base.specs.Contents.{Contents, Image}
use Rattle.ft_base.specs.Count.{Rose}
use Rattle.ft_base.specs.PlainDisk.{BlockWrite, PlainDisk, empty}
use Rattle.ft_base.specs.StreamState.{SinkState}
use Rattle.ft_base.specs.Told.{Told}
use Rattle.ft_base.specs.declared.block.Page.{Page}
use Rattle.ft_base.specs.declared.block.Place.{Place}
use Rattle.ft_base.specs.declared.geometry.Geometry.{Geometry}
use Rattle.cache_model.specs.Loading.{load}
use Rattle.cache_model.specs.Records.{Entries}
use Rattle.ft_media.specs.Passes.{NeverFall}
use Rattle.ft_media.specs.State.{State}
use Rattle.ft_volume.specs.Reported.{IsReport}
use Rattle.ft_volume.specs.Standing.{StandFor}
use Rattle.ft_volume.specs.declared.volume.Report.{Report}
use Rattle.trace_model.specs.declared.answer.Answer.{Answer}
use Rattle.trace_model.specs.declared.line.Line.{Line}
use Rattle.trace_model.specs.declared.ran.Ran.{Ran}
use Rattle.trace_model.specs.Backs.{AreUncut}
use Rattle.trace_model.specs.Fits.{block_count}
use Rattle.trace_model.specs.Readings.{Reading}
use Rattle.trace_model.specs.Run.{after_line, lines_of}
use Rattle.trace_model.specs.Text.{line_feed}
use Rattle.trace_replay.specs.declared.ended.Ended.{Ended}
use Rattle.trace_replay.specs.declared.ended.Ended.TheVariants as ended
use Rattle.trace_replay.specs.Commands.{TellsRefusal, TellsRefusalPart, is_end}
use Rattle.trace_replay.specs.Said.{RoseAtLeast}
use Rattle.trace_replay.specs.Theorem.{EndsPart, EndsRefused, EndsUnread, RunsWhole}

-- ---- the text

-- the four lines of a report
unfoldable pub report_text : Report → List ℕ
report_text r = codes "held " ++ (decimal r.held ++ (line_feed
    ++ (codes "dirty groups " ++ (decimal r.dirty_groups
    ++ (line_feed ++ (codes "buckets " ++ (decimal r.buckets
    ++ (line_feed ++ (codes "scrubbed " ++ (decimal r.scrubbed ++ line_feed))))))))))

-- flash is loaded as these entries
abbrev pub LoadsAs : Geometry → (Place → Page) → Entries → Type 0
LoadsAs g page m = load g page ≡ Ok m

-- the report is one of the entries that the flash has now
pub record IsReportOf (g : Geometry) (loads : (Place → Page) → Entries → Type 0) (now : State) (report : Report) : Type 0 where
  pub entries : Entries
  pub loaded : loads now.contents.flash.page entries
  pub is : IsReport g entries report

-- its text was printed and nothing else
abbrev pub Prints : Report → SinkState → SinkState → Type 0
Prints report old new = Appends old.taken new.taken (report_text report)

-- a report of what the flash has now was printed, and nothing else
pub record PrintsReport (g : Geometry) (loads : (Place → Page) → Entries → Type 0) (now : State) (old new : SinkState) : Type 0 where
  pub report : Report
  pub is : IsReportOf g loads now report
  pub printed : Prints report old new

-- of such a report a front was printed, not all of it
pub record PrintsFront (g : Geometry) (loads : (Place → Page) → Entries → Type 0) (now : State) (old new : SinkState) : Type 0 where
  pub report : Report
  pub is : IsReportOf g loads now report
  pub count : ℕ
  pub short : count < length (report_text report)
  pub printed : Appends old.taken new.taken (take count (report_text report))

-- ---- asking for a report

-- a volume may be asked for a report now: it owns what is on the media and owes nothing, the media stand for some plain
-- disk, and power is on
pub record CanReport (owned : Contents → Type 0) (owes : Contents → List BlockWrite → Type 0) (stands : Image → PlainDisk → Type 0)
    (now : State) : Type 0 where
  pub owns : owned now.contents
  pub nothing_owed : owes now.contents []
  pub disk : PlainDisk
  pub stood : StandFor stands now.contents disk
  pub on : now.power.on ≡ true

-- after so many cuts of it: power is on, the shape and what lies beneath stay, no block of the disk was read or
-- written, no count fell, and of the stops those that cut it are gone, each of which was counted
pub record Asks (cuts : ℕ) (old new : State) : Type 0 where
  pub on : new.power.on ≡ true
  pub shape : new.contents.shape ≡ old.contents.shape
  pub lent : new.lent ≡ old.lent
  pub counts : NeverFall old.counts new.counts
  pub disk_reads : new.counts.disk_reads ≡ old.counts.disk_reads
  pub disk_writes : new.counts.disk_writes ≡ old.counts.disk_writes
  pub flash : old.faults.flash ≤ new.faults.flash
  pub disk : old.faults.disk ≤ new.faults.disk
  pub later : old.faults.cuts ≤ new.faults.cuts
  pub few : cuts ≤ length old.power.stops
  pub stops : new.power.stops ≡ drop cuts old.power.stops
  pub risen : RoseAtLeast cuts old.faults.cuts new.faults.cuts

-- a stop cut it where it gave no report
abbrev pub cuts_by : Result (Option Report) Ended → ℕ
cuts_by (Ok None) = 1
cuts_by (Ok (Some report)) = 0
cuts_by (Err e) = 0

-- ---- a whole run

-- the plain disk after all block writes of these lines, in the order of the trace, where this was the plain disk before
abbrev pub disk_over : List Line → PlainDisk → PlainDisk
disk_over [] disk = disk
disk_over (line ∷ later) disk = disk_over later (after_line line (block_count line) disk)

-- of all that is answered nothing was printed; a report was, in place of the end line
abbrev pub TellsReport : Report → SinkState → SinkState → List Ran → List Answer → Type 0
TellsReport report old new run answers = Prints report old new

-- every line was run, over what is known of them; a report of the entries that the flash has at the end was printed and
-- nothing else; and where no stop and no cut line was run, or power was not cut, the media stand for the plain disk
-- after all block writes of the lines
pub record Inspects (o : Told) (reads : ℕ → List Reading → Bool → Type 0) (loads : (Place → Page) → Entries → Type 0) (old new : SinkState)
    (stands : Image → PlainDisk → Type 0) (first now : State) : Type 0 where
  pub report : Report
  pub is : IsReportOf o.geometry loads now report
  pub whole : RunsWhole o reads (TellsReport report old new) stands first now
  pub uncut : AreUncut whole.run ⊎ (Rose first.faults.cuts now.faults.cuts → ⊥)
      → StandFor stands now.contents (disk_over (lines_of whole.run) empty)

-- ---- any other end

-- of the next answer a front was printed: of a refusal, or of a report in place of the end line
abbrev pub TellsInspectPart : Geometry → ((Place → Page) → Entries → Type 0) → State → SinkState → SinkState → List Ran → List Answer
    → Option Answer → Type 0
TellsInspectPart g loads now old new run answers None = ⊥
TellsInspectPart g loads now old new run answers (Some next) = TellsRefusalPart old new run answers (Some next)
    ⊎ ((is_end next ≡ true) × PrintsFront g loads now old new)

-- it ended so before all of its text was printed: the media are the plain disk after the lines that were run, with
-- first block writes of the next one; and where the sink did not fail nothing was printed
pub record EndsInspecting (o : Told) (reads : ℕ → List Reading → Bool → Type 0) (loads : (Place → Page) → Entries → Type 0)
    (old new : SinkState) (stands : Image → PlainDisk → Type 0) (first now : State) (e : Ended) : Type 0 where
  pub part : EndsPart o reads (TellsRefusal old new) (TellsInspectPart o.geometry loads now old new) stands first now e
  pub silent : e ≢ ended.Sink → Appends old.taken new.taken []

-- how an inspection ended that gave this result
module _ (o : Told) (reads : ℕ → List Reading → Bool → Type 0) (loads : (Place → Page) → Entries → Type 0) (old new : SinkState)
    (stands : Image → PlainDisk → Type 0) (first now : State) where
  abbrev pub EndsInspectedAt : Ended → Type 0
  EndsInspectedAt ended.Trace = EndsRefused o reads (TellsRefusal old new) stands first now
  EndsInspectedAt ended.Source = EndsUnread o reads (TellsRefusal old new) stands first now
  EndsInspectedAt ended.Sink = EndsInspecting o reads loads old new stands first now ended.Sink
  EndsInspectedAt ended.Flash = EndsInspecting o reads loads old new stands first now ended.Flash
  EndsInspectedAt ended.Disk = EndsInspecting o reads loads old new stands first now ended.Disk
  EndsInspectedAt ended.Memory = EndsInspecting o reads loads old new stands first now ended.Memory

  abbrev pub EndsInspected : Result (Unit {0}) Ended → Type 0
  EndsInspected (Ok done) = Inspects o reads loads old new stands first now
  EndsInspected (Err e) = EndsInspectedAt e
