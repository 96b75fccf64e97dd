-- The lines of the volume that a trace over several disks says.
use Rattle.std.specs.Prelude.{◌≡◌, ◌≤◌, ◌<◌, ◌*◌, ℕ, Bool, true, false, List, [], ◌∷◌, ◌++◌, length, Ok, Err}
use Rattle.std.specs.Io.KnownBytes.{Consumes, IsAtEnd}
use Rattle.ft_base.specs.StreamState.{SourceState}
use Rattle.trace_model.specs.Readings.{Reading, past_feeds, read_ahead, trace_limit, unended}
use Rattle.trace_model.specs.declared.line.Line.TheVariants as line
use Rattle.many_disks.specs.Lines.{ManyReading, chosen_after, many_readings, shifted}
use Rattle.many_disks.specs.declared.line.ManyLine.TheVariants.{Disk, Plain}

-- what a line does to the volume if this disk is chosen; a line that chooses a disk does nothing
abbrev pub volume_reading : ℕ → ℕ → ManyReading → Reading
volume_reading share chosen (Ok (Disk disk)) = Ok line.Nothing
volume_reading share chosen (Ok (Plain line)) = Ok (shifted (chosen * share) line)
volume_reading share chosen (Err cause) = Err cause

-- the same of lines in turn
abbrev pub volume_readings : ℕ → ℕ → List ManyReading → List Reading
volume_readings share chosen [] = []
volume_readings share chosen (reading ∷ readings) = volume_reading share chosen reading
    ∷ volume_readings share (chosen_after chosen reading) readings

-- the readings that are known of a trace's lines when these bytes of it were read; the flag says whether they are all
-- its bytes. Disk 0 is chosen at the start
abbrev pub known_readings : ℕ → ℕ → Bool → List ℕ → List Reading
known_readings share disks true bytes = volume_readings share 0 (many_readings share disks true bytes)
known_readings share disks false bytes = volume_readings share 0 (many_readings share disks false bytes) ++ unended bytes

-- a source was read so far that, for this many of its lines, these readings are known. They are the readings of all
-- its lines if it ended below the limit. At most `read_ahead` bytes were read past the line feeds of these lines
pub record ReadsMany (share disks : ℕ) (old new : SourceState) (lines : ℕ) (known : List Reading) (whole : Bool) : Type 0 where
  pub bytes : List ℕ
  pub taken : Consumes old.left new.left bytes
  pub says : known ≡ known_readings share disks whole bytes
  pub most : length bytes ≤ trace_limit
  pub ahead : length (past_feeds lines bytes) ≤ read_ahead
  pub end : whole ≡ true → IsAtEnd new.left × (length bytes < trace_limit)
