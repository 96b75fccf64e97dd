-- One disk by itself, when power is never cut.
use Rattle.std.specs.Prelude.{ℕ, ◌==◌, ◌*◌, ◌/◌, ◌&&◌, Bool, true, false, if◌then◌else◌, List, [], ◌∷◌, flat_map}
use Rattle.std.specs.List.{range_with_len}
use Rattle.ft_base.specs.Told.{Told}
use Rattle.trace_model.specs.Backs.{AreUncut}
use Rattle.trace_model.specs.Readings.{Reading}
use Rattle.trace_model.specs.SoFar.{WasRun}
use Rattle.trace_model.specs.declared.answer.Answer.{Answer}
use Rattle.trace_model.specs.declared.answer.Answer.TheVariants as answer
use Rattle.trace_model.specs.declared.line.Line.{Line}
use Rattle.trace_model.specs.declared.line.Line.TheVariants as line
use Rattle.trace_model.specs.declared.ran.Ran.{Ran}
use Rattle.trace_model.specs.Run.{disk_after}
use Rattle.many_disks.specs.Readings.{known_readings}
use Rattle.many_disks.specs.Told.{Printed, own_end, own_lines}
use Rattle.many_disks.specs.Told.Printed.{Chose, Told as Answered}

-- these are the lines that were run of a trace over several disks, and none of them is a stop line or a cut line
pub record WereRunUncut (o : Told) (share disks : ℕ) (bytes : List ℕ) (run : List Ran) (left : List Reading) : Type 0 where
  pub lines : WasRun o (known_readings share disks true bytes) run left
  pub uncut : AreUncut run

-- a line writes or reads
abbrev pub is_request : Line → Bool
is_request (line.Write lba count tag) = true
is_request (line.Read lba count) = true
is_request other = false

-- an answer says that blocks were written, or says a block that was read
abbrev pub is_of_request : Answer → Bool
is_of_request (answer.Wrote lba count) = true
is_of_request (answer.ReadBack lba tag) = true
is_of_request other = false

-- the same, at addresses of this disk
abbrev pub is_of_disk : ℕ → ℕ → Answer → Bool
is_of_disk share disk (answer.Wrote lba count) = (lba / share) == disk
is_of_disk share disk (answer.ReadBack lba tag) = (lba / share) == disk
is_of_disk share disk other = false

-- of what was printed, these answers while this disk was chosen; `chosen` is chosen before the first line
abbrev pub printed_while : ℕ → ℕ → List Printed → List Answer
printed_while disk chosen [] = []
printed_while disk chosen (Chose next ∷ lines) = printed_while disk next lines
printed_while disk chosen (Answered answer ∷ lines) = if (chosen == disk) && is_of_request answer then answer ∷ printed_while disk chosen lines
    else printed_while disk chosen lines

-- the end of each disk, as if its own lines alone were run
abbrev pub ends_alone : ℕ → ℕ → List Ran → List Printed
ends_alone share disks run = flat_map (λ disk. Chose disk
    ∷ Answered (own_end (disk * share) (own_lines share disk run) (disk_after (own_lines share disk run))) ∷ []) (range_with_len 0 disks)
