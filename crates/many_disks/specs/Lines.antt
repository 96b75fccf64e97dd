-- What the lines of a trace say when there are several disks.
use Rattle.std.specs.Prelude.{ℕ, ◌+◌, ◌-◌, ◌*◌, ◌≤◌, ◌==◌, ◌&&◌, nat_lt, Bool, if◌then◌else◌, List, [], ◌∷◌, length, map, slice_index, codes, bytes_eq, Option, Some, None, Result, Ok, Err}
use Rattle.std.specs.Io.BufRead.{strip_last}
use Rattle.trace_model.specs.Lines.{IsRunnable, lines_in, number_in, split_words, words_say}
use Rattle.trace_model.specs.declared.line.Line.{Line}
use Rattle.trace_model.specs.declared.line.Line.TheVariants as line
use Rattle.trace_model.specs.declared.line.LineError.{LineError}
use Rattle.trace_model.specs.declared.line.LineError.TheVariants as error
use Rattle.many_disks.specs.declared.line.ManyLine.{ManyLine}
use Rattle.many_disks.specs.declared.line.ManyLine.TheVariants.{Disk, Plain}

-- what a line says, or why it is refused
abbrev pub ManyReading : Type 0
ManyReading = Result ManyLine LineError

-- the disk with this number, or the cause if there is none
abbrev pub disk_or_refused : Option ℕ → ManyReading
disk_or_refused None = Err error.BadNumber
disk_or_refused (Some disk) = Ok (Disk disk)

-- what the words after `disk` say; the disks are numbered from 0
abbrev pub disk_line : ℕ → List (List ℕ) → ManyReading
disk_line disks (word ∷ []) = disk_or_refused (number_in 0 (disks - 1) word)
disk_line disks other = Err error.BadCount

-- a line that chooses no disk
abbrev pub plain_line : Result Line LineError → ManyReading
plain_line (Ok line) = Ok (Plain line)
plain_line (Err cause) = Err cause

-- what the words of a line say, for disks of `share` blocks each; with one disk, `disk` is no word
abbrev pub many_words : ℕ → ℕ → List (List ℕ) → ManyReading
many_words share disks [] = Ok (Plain line.Nothing)
many_words share disks (word ∷ words) = if nat_lt 1 disks && bytes_eq word (codes "disk") then disk_line disks words
    else plain_line (words_say share (word ∷ words))

-- what a line says with the addresses of its disk, or the first refusal that applies
abbrev pub many_of : ℕ → ℕ → List ℕ → ManyReading
many_of share disks bytes = if nat_lt 200 (length bytes) then Err error.LineTooLong
    else if slice_index bytes 0 == 35 then Ok (Plain line.Nothing)
    else many_words share disks (split_words (strip_last 13 bytes))

-- the same line with its addresses `by` blocks further on
abbrev pub shifted : ℕ → Line → Line
shifted by (line.Write lba count tag) = line.Write (by + lba) count tag
shifted by (line.Read lba count) = line.Read (by + lba) count
shifted by other = other

-- the same reading with the addresses of the volume, if this disk is chosen
abbrev pub at_volume : ℕ → ℕ → ManyReading → ManyReading
at_volume share chosen (Ok (Plain line)) = Ok (Plain (shifted (chosen * share) line))
at_volume share chosen other = other

-- a line that can be run for disks of `share` blocks each
abbrev pub IsRunnableMany : ℕ → ℕ → ManyLine → Type 0
IsRunnableMany share disks (Disk disk) = disk + 1 ≤ disks
IsRunnableMany share disks (Plain line) = IsRunnable share line

-- ---- all lines of a trace

-- what the lines of these bytes say, each with the addresses of its disk
abbrev pub many_readings : ℕ → ℕ → Bool → List ℕ → List ManyReading
many_readings share disks whole bytes = map (many_of share disks) (lines_in whole bytes)

-- the disk that is chosen after a line
abbrev pub chosen_after : ℕ → ManyReading → ℕ
chosen_after chosen (Ok (Disk disk)) = disk
chosen_after chosen other = chosen

-- the disk that is chosen after these lines, if this one is before them
abbrev pub chosen_in : ℕ → List ManyReading → ℕ
chosen_in chosen [] = chosen
chosen_in chosen (reading ∷ readings) = chosen_in (chosen_after chosen reading) readings
