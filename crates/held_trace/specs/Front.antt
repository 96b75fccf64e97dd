-- How far a trace was read.
use Rattle.std.specs.Prelude.{◌≡◌, ◌≤◌, ℕ, Bool, true, false}
use Rattle.held_trace.specs.declared.front.ReadTo.{ReadTo}
use Rattle.held_trace.specs.declared.front.ReadTo.TheVariants.{End, Fault, Limit}

-- this many bytes were read when reading stopped
abbrev pub IsFrontTo : ReadTo → ℕ → Type 0
IsFrontTo End count = count ≤ 4096
IsFrontTo Fault count = count ≤ 4096
IsFrontTo Limit count = count ≡ 4097

-- the bytes are all of the trace
abbrev pub is_whole : ReadTo → Bool
is_whole End = true
is_whole other = false
