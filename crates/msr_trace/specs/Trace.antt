-- What a whole trace in the form of MSR Cambridge says.
use Rattle.std.proofs.Common.{refl, sym, ap, ◌∙◌, arith}
use Rattle.std.proofs.lemmas.Bool.Decides.{nat_tests}
use Rattle.std.specs.Prelude.{◌≡◌, ℕ, ◌<◌, nat_lt, Bool, true, if◌then◌else◌, List, [], ◌∷◌, ◌++◌, length, map, Ok, Err}
use Rattle.ft_base.specs.StreamState.{SourceState}
use Rattle.trace_model.specs.declared.line.Line.{Line}
use Rattle.trace_model.specs.declared.line.LineError.{LineError}
use Rattle.trace_model.specs.declared.line.LineError.TheVariants.{LineTooLong}
use Rattle.trace_model.specs.Readings.{Reading, accepted}
use Rattle.trace_replay.specs.Forms.{ReadsBy, readings_by}
use Rattle.msr_trace.specs.Msr.{msr_line, records_of, records_say}

-- the lines before the first that is refused
abbrev pub before_refusal : List Reading → List Line
before_refusal [] = []
before_refusal (Ok line ∷ readings) = line ∷ before_refusal readings
before_refusal (Err cause ∷ readings) = []

-- the lines of a trace in this form, for a volume with this number of blocks, up to the first that is refused
abbrev pub msr_lines : ℕ → List ℕ → List Line
msr_lines size bytes = before_refusal (readings_by (msr_line size) true bytes)

-- for this many lines, a source was read so far that these readings of such a trace's lines are known; the flag says
-- whether they are all
abbrev pub ReadsMsr : ℕ → SourceState → SourceState → ℕ → List Reading → Bool → Type 0
ReadsMsr size = ReadsBy (msr_line size)

all_before : (lines : List Line) → before_refusal (map accepted lines) ≡ lines
all_before [] = refl
all_before (line ∷ lines) = ap (λ (r : List Line). line ∷ r) (all_before lines)

-- if all lines are accepted, they are the trace's lines
pub lines_of_all : (size : ℕ) (old new : SourceState) (n : ℕ) (lines : List Line) (reads : ReadsMsr size old new n (map accepted lines) true)
    → msr_lines size reads.bytes ≡ lines
lines_of_all size old new n lines reads = ap before_refusal (sym reads.says) ∙ all_before lines

before_one : (lines : List Line) (cause : LineError) (left : List Reading) → before_refusal (map accepted lines ++ Err cause ∷ left) ≡ lines
before_one [] cause left = refl
before_one (line ∷ lines) cause left = ap (λ (r : List Line). line ∷ r) (before_one lines cause left)

-- if a line is refused, the lines before it are the trace's lines
pub lines_of_front : (size : ℕ) (old new : SourceState) (n : ℕ) (lines : List Line) (cause : LineError) (left : List Reading)
    (reads : ReadsMsr size old new n (map accepted lines ++ Err cause ∷ left) true) → msr_lines size reads.bytes ≡ lines
lines_of_front size old new n lines cause left reads = ap before_refusal (sym reads.says) ∙ before_one lines cause left

-- a line of more than 200 bytes is refused for its length
pub long_refused : (size number : ℕ) (line : List ℕ) → 200 < length line → msr_line size number line ≡ Err LineTooLong
long_refused size number line long =
    let test : nat_lt 200 (length line) ≡ true = grind (arith, nat_tests) in
    ap (λ (t : Bool). if t then Err LineTooLong else records_say size number (records_of line)) test
