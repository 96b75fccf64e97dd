-- The trace of a sweep: its length limit, and the readings of its lines.
use Rattle.std.specs.Prelude.{◌≡◌, ◌≤◌, ◌+◌, ◌⊎◌, ℕ, nat_le, nat_lt, Bool, true, false, if◌then◌else◌, List, [], ◌∷◌, ◌++◌, length, map, take, sum_by, All, slice_index_or, Ok, Err}
use Rattle.std.specs.Coded.{×_prop, Π_prop, Unit-prop, le_prop}
use Rattle.std.specs.Io.KnownBytes.{Consumes, IsAtEnd}
use Rattle.ft_base.specs.Count.{Rose}
use Rattle.ft_base.specs.StreamState.{SourceState}
use Rattle.trace_model.specs.declared.line.Line.{Line}
use Rattle.trace_model.specs.declared.line.Line.TheVariants.{Write, Read, Flush, Idle, Stop, Cut, Nothing}
use Rattle.trace_model.specs.declared.line.LineError.{LineError}
use Rattle.trace_model.specs.declared.line.LineError.TheVariants.{BadWord, TooLong}
use Rattle.trace_model.specs.Lines.{IsRunnable, line_of, lines_in}
use Rattle.trace_model.specs.Readings.{Reading, accepted, unended}

-- the trace of a sweep has at most this many bytes
unfoldable pub byte_limit : ℕ
byte_limit = 4096

-- its lines write and read at most this many blocks together
abbrev pub block_limit : ℕ
block_limit = 256

-- how many blocks a line writes or reads
abbrev pub blocks_in_line : Line → ℕ
blocks_in_line (Write lba count tag) = count
blocks_in_line (Read lba count) = count
blocks_in_line other = 0

-- how many blocks these lines write and read together
abbrev pub blocks_in : List Line → ℕ
blocks_in lines = sum_by blocks_in_line lines

-- the reading of a line behind `before` blocks. A sweep cuts power itself, so it takes no line that does, and no more
-- blocks than the limit
abbrev pub line_behind : ℕ → Line → Reading
line_behind before (Stop after outcome) = Err BadWord
line_behind before (Cut outcome) = Err BadWord
line_behind before other = if nat_le (before + blocks_in_line other) block_limit then Ok other else Err TooLong

-- a reading behind `before` blocks; a line that is refused by itself keeps its cause
abbrev pub reading_behind : ℕ → Reading → Reading
reading_behind before (Ok line) = line_behind before line
reading_behind before (Err cause) = Err cause

-- how many blocks the reading adds
abbrev pub blocks_added : Reading → ℕ
blocks_added (Ok line) = blocks_in_line line
blocks_added (Err cause) = 0

-- the readings of these lines, one behind the other
abbrev pub readings_behind : ℕ → List Reading → List Reading
readings_behind before [] = []
readings_behind before (reading ∷ readings) = reading_behind before reading ∷ readings_behind
    (before + blocks_added (reading_behind before reading)) readings

-- the readings of these lines of a sweep's trace
abbrev pub lines_say : ℕ → List (List ℕ) → List Reading
lines_say size lines = readings_behind 0 (map (line_of size) lines)

-- the readings that are known of a sweep's trace when these bytes of it were read; the flag says whether they are all
-- its bytes. The line with the first byte past the limit is too long, whatever it says
abbrev pub sweep_readings : ℕ → Bool → List ℕ → List Reading
sweep_readings size whole bytes = if nat_lt byte_limit (length bytes) then lines_say size (lines_in false (take byte_limit bytes)) ++ Err
    TooLong ∷ [] else if whole then lines_say size (lines_in true bytes) else lines_say size (lines_in false bytes) ++ unended bytes

-- a source was read so far that these readings of a sweep's trace are known. It was read to its end, to a fault, or
-- to the first byte past the limit, and no further
pub record SweepReads (size : ℕ) (old new : SourceState) (known : List Reading) (whole : Bool) : Type 0 where
  pub bytes : List ℕ
  pub taken : Consumes old.left new.left bytes
  pub says : known ≡ sweep_readings size whole bytes
  pub most : length bytes ≤ byte_limit + 1
  pub end : whole ≡ true → IsAtEnd new.left × (length bytes ≤ byte_limit)
  pub far : whole ≡ false → (length bytes ≡ byte_limit + 1) ⊎ Rose old.faults new.faults

-- the first of these readings that is a refusal has this number, counted from 1, and this cause
pub record RefusesFirst (known : List Reading) (number : ℕ) (cause : LineError) : Type 0 where
  pub lines : List Line
  pub left : List Reading
  pub front : known ≡ map accepted lines ++ Err cause ∷ left
  pub place : number ≡ length lines + 1

-- a line that a sweep runs: it can be run, and doesn't cut power
abbrev pub IsSweepLine : ℕ → Line → Type 0
IsSweepLine size (Stop after outcome) = ⊥
IsSweepLine size (Cut outcome) = ⊥
IsSweepLine size other = IsRunnable size other

pub IsSweepLine-prop : (size : ℕ) (l : Line) → IsProp (IsSweepLine size l)
IsSweepLine-prop size (Write lba count tag) = ×_prop le_prop le_prop
IsSweepLine-prop size (Read lba count) = ×_prop le_prop le_prop
IsSweepLine-prop size Flush = Unit-prop
IsSweepLine-prop size Idle = Unit-prop
IsSweepLine-prop size (Stop after outcome) = λ h. absurd h
IsSweepLine-prop size (Cut outcome) = λ h. absurd h
IsSweepLine-prop size Nothing = Unit-prop

pub AreSweepLines-prop : (size : ℕ) (lines : List Line) → IsProp (All (IsSweepLine size) lines)
AreSweepLines-prop size lines = Π_prop (λ k. Π_prop (λ d. Π_prop (λ h. IsSweepLine-prop size (slice_index_or lines k d))))
