-- A script over several disks: what it prints for its events, and the relation that holds of it
use Rattle.std.proofs.Common.{arith}
use Rattle.std.specs.Prelude.{◌≡◌, ◌<◌, ◌-◌, ◌^◌, ℕ, suc, true, List, [], ◌∷◌, ◌++◌, length, map, Some, Ok, Err}
use Rattle.ft_base.specs.PlainDisk.{BlockWrite}
use Rattle.ft_base.specs.StreamState.{SinkState, SourceState}
use Rattle.trace_model.specs.declared.answer.Answer.{Answer}
use Rattle.trace_model.specs.declared.answer.Answer.TheVariants as answer
use Rattle.trace_model.specs.declared.line.Line.{Line}
use Rattle.trace_model.specs.declared.line.Line.TheVariants as line
use Rattle.trace_model.specs.Readings.{Reading, accepted}
use Rattle.trace_replay.specs.declared.reader.Reader.{Reader}
use Rattle.trace_replay.specs.Events.{Event, lines_given, touched_in}
use Rattle.trace_replay.specs.Events.Event.{Gave, Took, Touched}
use Rattle.trace_replay.specs.Forms.{Form}
use Rattle.trace_replay.specs.Reader.{CameTo}
use Rattle.many_disks.specs.declared.line.ManyLine.{ManyLine}
use Rattle.many_disks.specs.declared.line.ManyLine.TheVariants.{Disk, Plain}
use Rattle.many_disks.specs.declared.tally.Tally.{Tally}
use Rattle.many_disks.specs.Lines.{ManyReading, chosen_in, many_of, many_readings}
use Rattle.many_disks.specs.Printing.{Adds}
use Rattle.many_disks.specs.Readings.{volume_readings}
use Rattle.many_disks.specs.Tally.{AreOnOneDisk, AreTalliesOf, ends_by}
use Rattle.many_disks.specs.Told.{Printed, PrintedPart, choice_at, next_printed, own, printed_text, start_at}
use Rattle.many_disks.specs.Told.Printed.{Told}

-- ---- a line over several disks as a line of a `Reader`

-- each line over several disks as a line that no other one has. These lines stand for what was read, and are never run
abbrev pub code : ManyLine → Line
code (Disk disk) = line.Write disk 0 0
code (Plain (line.Write lba count tag)) = line.Write lba count (suc tag)
code (Plain other) = other

abbrev pub coded_reading : ManyReading → Reading
coded_reading (Ok many) = Ok (code many)
coded_reading (Err cause) = Err cause

-- the form of lines over this many disks of equal size
abbrev pub coded : ℕ → Form
coded disks share number bytes = coded_reading (many_of share disks bytes)

-- a line that is accepted
abbrev pub accepted_many : ManyLine → ManyReading
accepted_many many = Ok many

-- if the source says its bytes, these are its first lines
abbrev pub BeginsWith : ℕ → ℕ → SourceState → List ManyLine → Type 0
BeginsWith share disks s many = (bytes : List ℕ) → s.left ≡ Some bytes
    → (left : List ManyReading) × (many_readings share disks true bytes ≡ map accepted_many many ++ left)

-- ---- what is printed for the events of a script

-- what is printed for an answer after these lines and blocks: the end of each disk for the end line, and another answer
-- with the addresses of the disk with this first block
abbrev pub took_printed : ℕ → ℕ → ℕ → List Line → List BlockWrite → Answer → List Printed
took_printed share disks start lines blocks (answer.End writes reads touched digest) = ends_by share disks lines blocks
took_printed share disks start lines blocks other = Told (own start other) ∷ []

-- what is printed for an event, if the trace has these readings. A line that chooses a disk is printed when it is given
abbrev pub event_printed : ℕ → ℕ → List ManyReading → List Line → List BlockWrite → Event → List Printed
event_printed share disks readings lines blocks (Gave line) = next_printed true (choice_at readings (length lines))
event_printed share disks readings lines blocks (Took answer) = took_printed share disks (start_at share readings (length lines)) lines blocks answer
event_printed share disks readings lines blocks (Touched lba block) = []

-- the same for events in turn
abbrev pub events_printed : ℕ → ℕ → List ManyReading → List Line → List BlockWrite → List Event → List Printed
events_printed share disks readings lines blocks [] = []
events_printed share disks readings lines blocks (event ∷ events) = event_printed share disks readings lines blocks event
    ++ events_printed share disks readings (lines ++ lines_given (event ∷ [])) (blocks ++ touched_in (event ∷ [])) events

-- the same for all events of a script that gave these lines
abbrev pub script_printed : ℕ → ℕ → List ManyLine → List Event → List Printed
script_printed share disks many e = events_printed share disks (map accepted_many many) [] [] e

-- ---- the relations

-- these lines were given of that source, the lines and blocks of each disk were counted, and that was printed
pub record CameMany (share disks : ℕ) (r : Reader) (chosen : ℕ) (tallies : List Tally) (now : SourceState) (taken : SinkState)
    (s : SourceState) (b : SinkState) (e : List Event) : Type 0 where
  pub many : List ManyLine
  pub size : r.size ≡ share
  pub read : CameTo (coded disks) s (map code many) now r
  pub given : volume_readings share 0 (map accepted_many many) ≡ map accepted (lines_given e)
  pub choice : chosen ≡ chosen_in 0 (map accepted_many many)
  pub one_disk : AreOnOneDisk share (lines_given e)
  pub tally : AreTalliesOf share 0 (lines_given e) (touched_in e) tallies
  pub said : Adds b taken (printed_text (script_printed share disks many e))

-- these lines come first in that source, and what they and their answers say was printed. Then the sink failed within
-- what is printed for one more event
pub record BrokeMany (share disks : ℕ) (now : SinkState) (s : SourceState) (b : SinkState) (e : List Event) (event : Event) : Type 0 where
  pub many : List ManyLine
  pub begins : BeginsWith share disks s many
  pub given : volume_readings share 0 (map accepted_many many) ≡ map accepted (lines_given (e ++ event ∷ []))
  pub one_disk : AreOnOneDisk share (lines_given e)
  pub said : PrintedPart b now (script_printed share disks many e)
      (printed_text (event_printed share disks (map accepted_many many) (lines_given e) (touched_in e) event))

-- no trace has more lines than bytes
pub few_bytes : (count : ℕ) → 4294967296 - count < 2 ^ 64
few_bytes count = omega arith
