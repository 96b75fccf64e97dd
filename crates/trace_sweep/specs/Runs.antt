-- The runs of a sweep, and the text that they print.
use Rattle.std.specs.Prelude.{◌≡◌, ◌+◌, ℕ, List, [], ◌∷◌, ◌++◌, length, map, drop, codes, decimal, ⊤}
use Rattle.ft_base.specs.Contents.{Image}
use Rattle.ft_base.specs.PlainDisk.{PlainDisk}
use Rattle.ft_base.specs.Told.{Told}
use Rattle.ft_base.specs.declared.power.Outcome.{Outcome}
use Rattle.ft_media.specs.State.{State}
use Rattle.ft_volume.specs.Standing.{StandFor}
use Rattle.trace_model.specs.declared.line.Line.{Line}
use Rattle.trace_model.specs.declared.line.Line.TheVariants.{Stop}
use Rattle.trace_model.specs.declared.ran.Ran.{Ran}
use Rattle.trace_model.specs.Fits.{FitsEnd, armed_after}
use Rattle.trace_model.specs.Readings.{accepted}
use Rattle.trace_model.specs.Run.{cuts_in, disk_without, end_answers, told}
use Rattle.trace_model.specs.SoFar.{WasRun}
use Rattle.trace_model.specs.Text.{line_feed, text}

-- one run: what became of its lines, and of the reads of its end
pub record Swept : Type 0 where
  pub run : List Ran
  pub cuts : ℕ
  pub lost : ℕ

-- power is cut in this device write, counted from 1, and in the second one after that
abbrev pub stops_at : ℕ → Outcome → List Line
stops_at number outcome = Stop number outcome ∷ Stop 2 outcome ∷ []

-- these lines can become this, when power is cut in this device write
pub record IsSwept (o : Told) (outcome : Outcome) (lines : List Line) (number : ℕ) (s : Swept) : Type 0 where
  pub lines_run : WasRun o (map accepted (stops_at number outcome ++ lines)) s.run []
  pub fits : FitsEnd o.ack s.run s.cuts s.lost

-- one run for each device write, in their order; the newest is the first of the list
abbrev pub AreSwept : Told → Outcome → List Line → List Swept → Type 0
AreSwept o outcome lines [] = ⊤
AreSwept o outcome lines (s ∷ earlier) = IsSwept o outcome lines (length earlier + 1) s × AreSwept o outcome lines earlier

-- ---- the text

-- the line of a run with power cut in this device write
unfoldable pub at_text : ℕ → List ℕ
at_text number = codes "at " ++ (decimal number ++ line_feed)

-- the line of this many device writes
unfoldable pub swept_text : ℕ → List ℕ
swept_text count = codes "swept " ++ (decimal count ++ line_feed)

-- the answers of a plain disk in this run
abbrev pub run_text : Swept → List ℕ
run_text s = text (told s.run ++ end_answers s.run s.cuts s.lost)

-- the text of one run, and of all runs, one behind the other
abbrev pub text_at : ℕ → Swept → List ℕ
text_at number s = at_text number ++ run_text s

abbrev pub sweep_text : List Swept → List ℕ
sweep_text [] = []
sweep_text (s ∷ earlier) = sweep_text earlier ++ text_at (length earlier + 1) s

-- ---- the media that are left

-- how often power was cut in these runs
abbrev pub cuts_swept : List Swept → ℕ
cuts_swept [] = 0
cuts_swept (s ∷ earlier) = cuts_swept earlier + (cuts_in s.run + s.cuts)

-- the media stand for the plain disk of the newest run, and the stops that are armed are the stops that did not cut
-- it
pub record LeavesSwept (stands : Image → PlainDisk → Type 0) (now : State) (s : Swept) : Type 0 where
  pub disk : StandFor stands now.contents (disk_without s.lost s.run)
  pub stops : now.power.stops ≡ drop s.cuts (armed_after s.run)

abbrev pub LeavesNewest : (Image → PlainDisk → Type 0) → State → List Swept → Type 0
LeavesNewest stands now [] = ⊤
LeavesNewest stands now (s ∷ earlier) = LeavesSwept stands now s
