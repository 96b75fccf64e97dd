-- Facts about a trace that is held.
use Rattle.std.proofs.Common.{◌≡◌, ◌≤◌, ℕ, false, All, length, refl, arith}
use Rattle.trace_model.specs.declared.line.Line.{Line}
use Rattle.trace_model.specs.declared.line.Line.TheVariants.{Write, Read, Flush, Idle, Stop, Cut, Nothing}
use Rattle.trace_model.specs.Lines.{IsRunnable}
use Rattle.trace_model.specs.SoFar.{is_stop}
use Rattle.held_trace.specs.declared.held.HeldTrace.{HeldTrace}
use Rattle.held_trace.specs.Held.{lines_of, size_of}
use Rattle.held_trace.specs.Sweep.{IsSweepLine, blocks_in}

pub all_sweepable : (t : HeldTrace) → All (IsSweepLine (size_of t)) (lines_of t)
all_sweepable t = t.sweepable

pub lines_few : (t : HeldTrace) → length (lines_of t) ≤ 4096
lines_few t = omega arith

pub blocks_few : (t : HeldTrace) → blocks_in (lines_of t) ≤ 256
blocks_few t = let counted = t.counted in let few = t.few_blocks in omega arith

-- a line that a sweep runs can be run
pub sweepable_runs : (size : ℕ) (l : Line) → IsSweepLine size l → IsRunnable size l
sweepable_runs size (Write lba count tag) so = so
sweepable_runs size (Read lba count) so = so
sweepable_runs size Flush so = tt
sweepable_runs size Idle so = tt
sweepable_runs size (Stop after outcome) so = absurd so
sweepable_runs size (Cut outcome) so = absurd so
sweepable_runs size Nothing so = tt

-- a line that a sweep runs arms no stop
pub sweepable_unarmed : (size : ℕ) (l : Line) → IsSweepLine size l → is_stop l ≡ false
sweepable_unarmed size (Write lba count tag) so = refl
sweepable_unarmed size (Read lba count) so = refl
sweepable_unarmed size Flush so = refl
sweepable_unarmed size Idle so = refl
sweepable_unarmed size (Stop after outcome) so = absurd so
sweepable_unarmed size (Cut outcome) so = refl
sweepable_unarmed size Nothing so = refl
