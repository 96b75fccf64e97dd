-- What several plain disks answer to the lines of a trace, whenever power stops.
use Rattle.std.specs.Prelude.{◌≡◌, ◌<◌, ◌==◌, ◌+◌, ◌-◌, ◌*◌, ◌/◌, ℕ, Bool, true, false, if◌then◌else◌, List, [], ◌∷◌, ◌++◌, length, take, drop, map, flat_map, codes, decimal, Option, Some, None, Ok}
use Rattle.std.specs.List.{range_with_len}
use Rattle.std.specs.Int.{w64, to_be_bytes}
use Rattle.std.specs.Io.KnownBytes.{Appends}
use Rattle.sha2.specs.Sha256.{sha256}
use Rattle.ft_base.specs.PlainDisk.{PlainDisk}
use Rattle.ft_base.specs.StreamState.{SinkState, SourceState}
use Rattle.trace_model.specs.declared.answer.Answer.{Answer}
use Rattle.trace_model.specs.declared.answer.Answer.TheVariants as answer
use Rattle.trace_model.specs.declared.line.Line.{Line}
use Rattle.trace_model.specs.declared.line.Line.TheVariants as line
use Rattle.trace_model.specs.declared.ran.Ran.{Ran}
use Rattle.trace_model.specs.Run.{answers_of, disk_without, reads_in, touched_after, writes_in}
use Rattle.trace_model.specs.Text.{line_feed, text_of}
use Rattle.many_disks.specs.Lines.{ManyReading, chosen_in, many_readings}
use Rattle.many_disks.specs.declared.line.ManyLine.TheVariants.{Disk}

-- ---- the printed text

-- a printed line: a disk that was chosen, or an answer with the addresses of its disk
pub data Printed : Type 0 where
  Chose : (disk : ℕ) → Printed
  Told : (answer : Answer) → Printed

abbrev pub printed_text_of : Printed → List ℕ
printed_text_of (Chose disk) = codes "disk " ++ (decimal disk ++ line_feed)
printed_text_of (Told answer) = text_of answer

abbrev pub printed_text : List Printed → List ℕ
printed_text lines = flat_map printed_text_of lines

-- ---- the lines that were run

-- an answer with the addresses of the disk whose first block is this block of the volume
abbrev pub own : ℕ → Answer → Answer
own start (answer.Wrote lba count) = answer.Wrote (lba - start) count
own start (answer.ReadBack lba tag) = answer.ReadBack (lba - start) tag
own start other = other

-- the disk that the first of these lines chooses
abbrev pub choice_in : List ManyReading → Option ℕ
choice_in (Ok (Disk disk) ∷ readings) = Some disk
choice_in other = None

-- the disk that the line after the first `n` lines chooses, and the first block of the disk that is chosen before it
abbrev pub choice_at : List ManyReading → ℕ → Option ℕ
choice_at readings n = choice_in (drop n readings)

abbrev pub start_at : ℕ → List ManyReading → ℕ → ℕ
start_at share readings n = chosen_in 0 (take n readings) * share

-- what is printed for a line: the disk that it chooses, or its answers
abbrev pub line_printed : Option ℕ → ℕ → List Answer → List Printed
line_printed (Some disk) start answers = Chose disk ∷ []
line_printed None start answers = map (λ a. Told (own start a)) answers

-- what is printed for these lines, of which the trace has these readings
abbrev pub run_printed : ℕ → List ManyReading → List Ran → List Printed
run_printed share readings [] = []
run_printed share readings (ran ∷ earlier) = run_printed share readings earlier
    ++ line_printed (choice_at readings (length earlier)) (start_at share readings (length earlier))
    (answers_of ran (disk_without ran.lost earlier))

-- ---- the end of each disk

-- a line names addresses of another disk than this one
abbrev pub is_beside : ℕ → ℕ → Line → Bool
is_beside share disk (line.Write lba count tag) = if (lba / share) == disk then false else true
is_beside share disk (line.Read lba count) = if (lba / share) == disk then false else true
is_beside share disk other = false

-- the lines without the writes and reads of the other disks
abbrev pub own_lines : ℕ → ℕ → List Ran → List Ran
own_lines share disk [] = []
own_lines share disk (ran ∷ earlier) = if is_beside share disk ran.line then own_lines share disk earlier
    else ran ∷ own_lines share disk earlier

-- the digest of these addresses of the volume and their blocks, each address as that of a disk with this first block
abbrev pub own_digest : ℕ → List ℕ → PlainDisk → List ℕ
own_digest start addresses disk = sha256 (flat_map (λ a. to_be_bytes w64 (a - start) ++ (disk a).0) addresses)

-- the end line of a disk, by its own lines and the blocks of the volume
abbrev pub own_end : ℕ → List Ran → PlainDisk → Answer
own_end start run disk = answer.End (writes_in run) (reads_in run) (length (touched_after run)) (own_digest start (touched_after run) disk)

-- the end of each disk, when the `lost` newest block writes were lost
abbrev pub ends_printed : ℕ → ℕ → ℕ → List Ran → List Printed
ends_printed share disks lost run = flat_map (λ disk. Chose disk
    ∷ Told (own_end (disk * share) (own_lines share disk run) (disk_without lost run)) ∷ []) (range_with_len 0 disks)

-- ---- the answers after these lines

-- what is printed for an answer, when so many block writes were said to be lost before it
abbrev pub answer_printed : ℕ → ℕ → ℕ → ℕ → List Ran → Answer → List Printed
answer_printed share disks start lost run (answer.End writes reads touched digest) = ends_printed share disks lost run
answer_printed share disks start lost run other = Told (own start other) ∷ []

-- how many block writes are lost, as far as this answer says it
abbrev pub lost_by : ℕ → Answer → ℕ
lost_by lost (answer.Lost count) = count
lost_by lost other = lost

abbrev pub answers_printed : ℕ → ℕ → ℕ → ℕ → List Ran → List Answer → List Printed
answers_printed share disks start lost run [] = []
answers_printed share disks start lost run (a ∷ answers) = answer_printed share disks start lost run a
    ++ answers_printed share disks start (lost_by lost a) run answers

-- how many are lost after these answers
abbrev pub lost_after : List Answer → ℕ → ℕ
lost_after [] lost = lost
lost_after (a ∷ answers) lost = lost_after answers (lost_by lost a)

-- the disk that the next line chooses, if that line was given
abbrev pub next_printed : Bool → Option ℕ → List Printed
next_printed true (Some disk) = Chose disk ∷ []
next_printed given other = []

abbrev pub given_count : Bool → ℕ
given_count true = 1
given_count false = 0

-- what is printed: for these lines, for the next line if it was given, and for these answers
abbrev pub all_printed : ℕ → ℕ → List ManyReading → List Ran → Bool → List Answer → List Printed
all_printed share disks readings run given answers = run_printed share readings run
    ++ (next_printed given (choice_at readings (length run))
    ++ answers_printed share disks (start_at share readings (length run + given_count given)) 0 run answers)

-- ---- what was printed

-- if the source says its bytes, that was printed, and the next line was given or not
abbrev pub TellsMany : ℕ → ℕ → SourceState → SinkState → SinkState → List Ran → List Answer → Type 0
TellsMany share disks s old new run answers = (bytes : List ℕ) → s.left ≡ Some bytes → (given : Bool)
    × Appends old.taken new.taken (printed_text (all_printed share disks (many_readings share disks true bytes) run given answers))

-- that was printed, and then a proper front of this text
abbrev pub PrintedPart : SinkState → SinkState → List Printed → List ℕ → Type 0
PrintedPart old new lines next = (n : ℕ) × (n < length next) × Appends old.taken new.taken (printed_text lines ++ take n next)

-- if the source says its bytes, that was printed, and a part of the next answer; or a part of the line for the disk that
-- the next line chooses
abbrev pub TellsManyPart : ℕ → ℕ → SourceState → SinkState → SinkState → List Ran → List Answer → Option Answer → Type 0
TellsManyPart share disks s old new run answers None = (bytes : List ℕ) → s.left ≡ Some bytes
    → PrintedPart old new (all_printed share disks (many_readings share disks true bytes) run false answers)
    (printed_text (next_printed true (choice_at (many_readings share disks true bytes) (length run))))
TellsManyPart share disks s old new run answers (Some next) = (bytes : List ℕ) → s.left ≡ Some bytes → (given : Bool)
    × PrintedPart old new (all_printed share disks (many_readings share disks true bytes) run given answers)
    (printed_text (answer_printed share disks (start_at share (many_readings share disks true bytes) (length run + given_count given))
    (lost_after answers 0) run next))
