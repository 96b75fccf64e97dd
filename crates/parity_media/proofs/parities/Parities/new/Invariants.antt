use Rattle.std.proofs.Common.{◌≡◌, ℕ, length, slice_index_or}
use Rattle.parity_media.specs.Kept.{new_parity}
use Rattle.parity_media.proofs.parities.Parities.new.Given as goal

abbrev pub invariant-loop : goal.invariant-loop
invariant-loop l = record {
  count : length l.each.items ≡ l.counter;
  each : (b : ℕ) → slice_index_or l.each.items b new_parity ≡ new_parity;
}
