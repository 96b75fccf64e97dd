-- What is known of a trace, by how far it was read.
use Rattle.std.proofs.Common.{◌≡◌, ◌≤◌, ℕ, true, false, List, length, refl, sym, inl, inr, arith}
use Rattle.std.specs.Io.KnownBytes.{Consumes, IsAtEnd}
use Rattle.ft_base.specs.Count.{Rose}
use Rattle.ft_base.specs.StreamState.{SourceState}
use Rattle.trace_model.specs.Readings.{Reading}
use Rattle.held_trace.specs.declared.front.ReadTo.{ReadTo}
use Rattle.held_trace.specs.declared.front.ReadTo.TheVariants.{End, Fault, Limit}
use Rattle.held_trace.specs.Front.{IsFrontTo, is_whole}
use Rattle.held_trace.specs.Sweep.{SweepReads, sweep_readings}
use Rattle.held_trace.proofs.SweepLemmas.{reads_part, reads_whole}

module _ (size : ℕ) (old new : SourceState) (bytes : List ℕ) (taken : Consumes old.left new.left bytes) (X Y : Type 0) where
  -- these readings are known
  pub known_to : (to : ReadTo) → IsFrontTo to (length bytes) → (to ≡ End → IsAtEnd new.left × X) → (to ≡ Fault → Rose old.faults new.faults × Y) → SweepReads size old new (sweep_readings size (is_whole to) bytes) (is_whole to)
  known_to End few end fault = reads_whole size old new bytes (sweep_readings size true bytes) taken refl few (end refl).0
  known_to Fault few end fault = let within : length bytes ≤ 4096 = few in reads_part size old new bytes (sweep_readings size false bytes) taken refl (omega arith) (inr (fault refl).0)
  known_to Limit long end fault = let all : length bytes ≡ 4097 = long in reads_part size old new bytes (sweep_readings size false bytes) taken refl (omega arith) (inl long)

  -- the readings of a whole trace
  pub known_at_end : (known : List Reading) (to : ReadTo) → IsFrontTo to (length bytes) → (to ≡ End → IsAtEnd new.left × X) → to ≡ End → sweep_readings size true bytes ≡ known → SweepReads size old new known true
  known_at_end known End few end is says = reads_whole size old new bytes known taken (sym says) few (end refl).0
  known_at_end known Fault few end is says = absurd (cc)
  known_at_end known Limit long end is says = absurd (cc)

  -- the readings of a trace that a fault ended
  pub known_at_fault : (known : List Reading) (to : ReadTo) → IsFrontTo to (length bytes) → (to ≡ Fault → Rose old.faults new.faults × Y) → to ≡ Fault → sweep_readings size false bytes ≡ known → SweepReads size old new known false
  known_at_fault known End few fault is says = absurd (cc)
  known_at_fault known Fault few fault is says = let within : length bytes ≤ 4096 = few in reads_part size old new bytes known taken (sym says) (omega arith) (inr (fault refl).0)
  known_at_fault known Limit long fault is says = absurd (cc)
