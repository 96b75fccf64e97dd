-- How far a run came: the lines that were run, and the answers that may come next.
use Rattle.std.specs.Prelude.{◌≡◌, ℕ, ◌+◌, ◌≤◌, nat_le, Bool, true, false, ◌&&◌, if◌then◌else◌, List, [], ◌∷◌, ◌++◌, length, map, drop, Option, Some, None, Ok, Err, ⊤}
use Rattle.ft_base.specs.PlainDisk.{BlockWrite, PlainDisk}
use Rattle.ft_base.specs.Told.{Told}
use Rattle.ft_base.specs.declared.told.Ack.TheVariants.{Write}
use Rattle.trace_model.specs.declared.line.Line.{Line}
use Rattle.trace_model.specs.declared.line.Line.TheVariants as line
use Rattle.trace_model.specs.declared.line.LineError.{LineError}
use Rattle.trace_model.specs.declared.line.LineError.TheVariants.{TooManyStops}
use Rattle.trace_model.specs.declared.answer.Answer.{Answer}
use Rattle.trace_model.specs.declared.answer.Answer.TheVariants as answer
use Rattle.trace_model.specs.declared.ran.Ran.{Ran}
use Rattle.trace_model.specs.Readings.{Reading, accepted}
use Rattle.trace_model.specs.Run.{answers_of, disk_without, disk_written, end_answers, lines_of, with_line, writes_after}
use Rattle.trace_model.specs.Fits.{FitsRun, FitsEnd, FitsNext, armed_after, block_count, kept_since_flush}

-- ---- refusals

abbrev pub is_stop : Line → Bool
is_stop (line.Stop after outcome) = true
is_stop other = false

-- why a line is refused when `armed` stops are armed
abbrev pub refusal_when : ℕ → Line → Option LineError
refusal_when armed line = if is_stop line && nat_le 16 armed then Some TooManyStops else None

-- why a line is refused after these lines, if it is
abbrev pub refusal_of : List Ran → Line → Option LineError
refusal_of run line = refusal_when (length (armed_after run)) line

-- none of these lines had to be refused
abbrev pub NoneRefused : List Ran → Type 0
NoneRefused [] = ⊤
NoneRefused (ran ∷ earlier) = (refusal_of earlier ran.line ≡ None) × NoneRefused earlier

-- why the next line is refused, if it is
abbrev pub next_refusal : List Ran → List Reading → Option LineError
next_refusal run [] = None
next_refusal run (Err cause ∷ left) = Some cause
next_refusal run (Ok line ∷ left) = refusal_of run line

-- the answer that says a refusal
abbrev pub refusal : List Ran → LineError → List Answer
refusal run cause = answer.Refused (length (lines_of run) + 1) cause ∷ []

-- ---- how far a run came

-- of all known readings, these lines were run, as they can be, and these readings are left
pub record WasRun (o : Told) (all : List Reading) (run : List Ran) (left : List Reading) : Type 0 where
  pub lines : all ≡ map accepted (lines_of run) ++ left
  pub accepted : NoneRefused run
  pub fits : FitsRun o.ack run

-- a line, and what became of it
abbrev pub as_ran : Line → ℕ → ℕ → ℕ → Ran
as_ran line cuts kept lost = record { line = line; cuts = cuts; kept = kept; lost = lost }

-- the answers of a line that comes next, however often it is cut
pub record AnswersLine (o : Told) (run : List Ran) (line : Line) (answers : List Answer) : Type 0 where
  pub cuts : ℕ
  pub kept : ℕ
  pub lost : ℕ
  pub fits : FitsNext o.ack (as_ran line cuts kept lost) run
  pub told : answers ≡ answers_of (as_ran line cuts kept lost) (disk_without lost run)

-- the answers that come after the last line, however often the reads of the end are cut
pub record AnswersEnd (o : Told) (run : List Ran) (answers : List Answer) : Type 0 where
  pub cuts : ℕ
  pub lost : ℕ
  pub fits : FitsEnd o.ack run cuts lost
  pub told : answers ≡ end_answers run cuts lost

-- the answers to a line: its refusal or its own answers
abbrev pub AnswersTo : Told → Option LineError → List Ran → Line → List Answer → Type 0
AnswersTo o (Some cause) run line answers = answers ≡ refusal run cause
AnswersTo o None run line answers = AnswersLine o run line answers

-- the answers that may come next. The next line gives its answers or its refusal. The end comes after the last line.
-- If no more is known, there is no answer
abbrev pub MayTell : Told → Bool → List Ran → List Reading → List Answer → Type 0
MayTell o true run [] answers = AnswersEnd o run answers
MayTell o false run [] answers = answers ≡ []
MayTell o whole run (Err cause ∷ left) answers = answers ≡ refusal run cause
MayTell o whole run (Ok line ∷ left) answers = AnswersTo o (refusal_of run line) run line answers

-- ---- the next line

-- the lines that were begun, with this line if it is not refused
abbrev pub begun_unless : Option LineError → Line → List Ran → List Ran
begun_unless None line run = as_ran line 0 0 0 ∷ run
begun_unless (Some cause) line run = run

-- the lines that were begun: the lines that were run, and the next line, of which nothing counts
abbrev pub begun : List Ran → List Reading → List Ran
begun run [] = run
begun run (Err cause ∷ left) = run
begun run (Ok line ∷ left) = begun_unless (refusal_of run line) line run

-- the block writes of a line that is not refused
abbrev pub blocks_unless : Option LineError → Line → ℕ
blocks_unless None line = block_count line
blocks_unless (Some cause) line = 0

-- the block writes of the next line
abbrev pub next_blocks : List Ran → List Reading → ℕ
next_blocks run [] = 0
next_blocks run (Err cause ∷ left) = 0
next_blocks run (Ok line ∷ left) = blocks_unless (refusal_of run line) line

-- the block writes after these lines, without the `lost` newest ones, and then the first `n` of the next line
abbrev pub writes_within : List Ran → List Reading → ℕ → ℕ → List BlockWrite
writes_within run [] lost n = drop lost (writes_after run)
writes_within run (Err cause ∷ left) lost n = drop lost (writes_after run)
writes_within run (Ok line ∷ left) lost n = with_line line n (drop lost (writes_after run))

abbrev pub disk_within : List Ran → List Reading → ℕ → ℕ → PlainDisk
disk_within run left lost n = disk_written (writes_within run left lost n)

-- within the next line, `n` of its block writes can be there, and `lost` of the block writes before it can be lost
pub record MayRemain (o : Told) (run : List Ran) (left : List Reading) (lost n : ℕ) : Type 0 where
  pub blocks : n ≤ next_blocks run left
  pub none : o.ack ≡ Write → lost ≡ 0
  pub since : lost ≤ kept_since_flush run
  pub front : 1 ≤ lost → n ≡ 0
