-- A script over lines that are held, and the relation that holds of it
use Rattle.std.proofs.Common.{arith}
use Rattle.std.proofs.lemmas.List.{length-append, length-drop}
use Rattle.std.specs.Coded.{×_prop, Π_prop, Unit-prop, le_prop}
use Rattle.std.specs.Prelude.{◌≡◌, ◌++◌, ◌+◌, ◌<◌, ◌^◌, ℕ, zero, suc, List, [], ◌∷◌, None, All, length, map, drop, slice_index_or}
use Rattle.ft_base.specs.StreamState.{SinkState, SourceState}
use Rattle.ft_base.specs.declared.power.Outcome.{Outcome}
use Rattle.ft_base.specs.declared.power.Outcome.TheVariants as outcome
use Rattle.trace_model.specs.declared.line.Line.{Line}
use Rattle.trace_model.specs.declared.line.Line.TheVariants as line
use Rattle.trace_model.specs.Lines.{IsRunnable}
use Rattle.trace_model.specs.Readings.{accepted}
use Rattle.trace_replay.specs.Events.{Event, answers_in, lines_given}
use Rattle.trace_replay.specs.Said.{Said}

-- the lines that are left when `given` lines were given
abbrev pub held_left : List Line → List Line → ℕ → List Line
held_left first lines given = drop given (first ++ lines)

-- this many lines were given; these and the lines that are left are all lines; and each answer was said
pub record CameHeld (all left : List Line) (given : ℕ) (now b : SinkState) (e : List Event) : Type 0 where
  pub lines : map accepted all ≡ map accepted (lines_given e) ++ map accepted left
  pub numbered : given ≡ length (lines_given e)
  pub said : Said b now (answers_in e)

pub IsRunnable-prop : (size : ℕ) (l : Line) → IsProp (IsRunnable size l)
IsRunnable-prop size (line.Write lba count tag) = ×_prop le_prop le_prop
IsRunnable-prop size (line.Read lba count) = ×_prop le_prop le_prop
IsRunnable-prop size line.Flush = Unit-prop
IsRunnable-prop size line.Idle = Unit-prop
IsRunnable-prop size (line.Stop after outcome) = le_prop
IsRunnable-prop size (line.Cut outcome) = Unit-prop
IsRunnable-prop size line.Nothing = Unit-prop

pub AreRunnable-prop : (size : ℕ) (lines : List Line) → IsProp (All (IsRunnable size) lines)
AreRunnable-prop size lines = Π_prop (λ k. Π_prop (λ d. Π_prop (λ h. IsRunnable-prop size (slice_index_or lines k d))))

-- the lines that are left are few if all lines are few
pub few_held : (first lines : List Line) (given : ℕ) → length first + length lines < 2 ^ 64 → length (held_left first lines given) < 2 ^ 64
few_held first lines given few =
    let left = length-drop given (first ++ lines) in
    let both = length-append first lines in
    omega (arith, few)

-- how many of these lines arm a stop
abbrev pub stops_held : List Line → ℕ
stops_held [] = 0
stops_held (line.Stop after outcome ∷ lines) = 1 + stops_held lines
stops_held (other ∷ lines) = stops_held lines

-- ---- lines as numbers, so that a source state can stand for them

abbrev pub outcome_number : Outcome → ℕ
outcome_number outcome.Blank = 0
outcome_number outcome.Whole = 1
outcome_number outcome.Torn = 2
outcome_number outcome.Mixed = 3

abbrev pub outcome_of : ℕ → Outcome
outcome_of zero = outcome.Blank
outcome_of (suc zero) = outcome.Whole
outcome_of (suc (suc zero)) = outcome.Torn
outcome_of (suc (suc (suc more))) = outcome.Mixed

-- four numbers for each line
abbrev pub numbers_of : List Line → List ℕ
numbers_of [] = []
numbers_of (line.Write lba count tag ∷ lines) = 0 ∷ lba ∷ count ∷ tag ∷ numbers_of lines
numbers_of (line.Read lba count ∷ lines) = 1 ∷ lba ∷ count ∷ 0 ∷ numbers_of lines
numbers_of (line.Flush ∷ lines) = 2 ∷ 0 ∷ 0 ∷ 0 ∷ numbers_of lines
numbers_of (line.Idle ∷ lines) = 3 ∷ 0 ∷ 0 ∷ 0 ∷ numbers_of lines
numbers_of (line.Stop after outcome ∷ lines) = 4 ∷ after ∷ outcome_number outcome ∷ 0 ∷ numbers_of lines
numbers_of (line.Cut outcome ∷ lines) = 5 ∷ outcome_number outcome ∷ 0 ∷ 0 ∷ numbers_of lines
numbers_of (line.Nothing ∷ lines) = 6 ∷ 0 ∷ 0 ∷ 0 ∷ numbers_of lines

abbrev pub line_numbered : ℕ → ℕ → ℕ → ℕ → Line
line_numbered zero a b c = line.Write a b c
line_numbered (suc zero) a b c = line.Read a b
line_numbered (suc (suc zero)) a b c = line.Flush
line_numbered (suc (suc (suc zero))) a b c = line.Idle
line_numbered (suc (suc (suc (suc zero)))) a b c = line.Stop a (outcome_of b)
line_numbered (suc (suc (suc (suc (suc zero))))) a b c = line.Cut (outcome_of a)
line_numbered (suc (suc (suc (suc (suc (suc more)))))) a b c = line.Nothing

abbrev pub lines_numbered : List ℕ → List Line
lines_numbered (kind ∷ a ∷ b ∷ c ∷ numbers) = line_numbered kind a b c ∷ lines_numbered numbers
lines_numbered other = []

-- no source is read; such a state stands for the lines
abbrev pub stand_in : List Line → SourceState
stand_in lines = record { left = None; faults = 0; lent = numbers_of lines }
