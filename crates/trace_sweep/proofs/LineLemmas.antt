-- The lines of a sweep: each can be run, and no line cuts power.
use Rattle.std.proofs.Common.{◌≤◌, ℕ, List, [], ◌∷◌, All, arith}
use Rattle.std.proofs.lemmas.List.Elements.{All-cons, All-nil, All-weaker}
use Rattle.ft_base.specs.declared.power.Outcome.{Outcome}
use Rattle.held_trace.specs.Sweep.{IsSweepLine}
use Rattle.trace_model.specs.declared.line.Line.{Line}
use Rattle.trace_model.specs.declared.line.Line.TheVariants as line
use Rattle.trace_model.specs.Backs.{IsUncut}
use Rattle.trace_model.specs.Lines.{IsRunnable}
use Rattle.trace_sweep.specs.Runs.{stops_at}

runnable_line : (size : ℕ) (l : Line) → IsSweepLine size l → IsRunnable size l
runnable_line size (line.Stop after outcome) is = absurd is
runnable_line size (line.Cut outcome) is = absurd is
runnable_line size (line.Write lba count tag) is = is
runnable_line size (line.Read lba count) is = is
runnable_line size line.Flush is = is
runnable_line size line.Idle is = is
runnable_line size line.Nothing is = is

uncut_line : (size : ℕ) (l : Line) → IsSweepLine size l → IsUncut l
uncut_line size (line.Stop after outcome) is = absurd is
uncut_line size (line.Cut outcome) is = absurd is
uncut_line size (line.Write lba count tag) is = tt
uncut_line size (line.Read lba count) is = tt
uncut_line size line.Flush is = tt
uncut_line size line.Idle is = tt
uncut_line size line.Nothing is = tt

pub runnable_lines : (size : ℕ) (lines : List Line) → All (IsSweepLine size) lines → All (IsRunnable size) lines
runnable_lines size lines all = All-weaker (IsSweepLine size) (IsRunnable size) (runnable_line size) lines all

pub uncut_lines : (size : ℕ) (lines : List Line) → All (IsSweepLine size) lines → All IsUncut lines
uncut_lines size lines all = All-weaker (IsSweepLine size) IsUncut (uncut_line size) lines all

-- the two stops can be armed
pub runnable_stops : (size number : ℕ) (outcome : Outcome) → 1 ≤ number → All (IsRunnable size) (stops_at number outcome)
runnable_stops size number outcome first =
    All-cons (IsRunnable size) (line.Stop number outcome) (line.Stop 2 outcome ∷ []) first (All-cons (IsRunnable size) (line.Stop 2 outcome) [] (omega arith) (All-nil (IsRunnable size)))
