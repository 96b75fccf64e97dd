use Rattle.std.proofs.Common.{◌≡◌, ◌<◌, ℕ, get_or, false, nat_eq}
use Rattle.lanes.proofs.place_of.Given as goal

abbrev pub invariant-loop-place : goal.invariant-loop-place
invariant-loop-place l = (k : ℕ) → k < l.place → nat_eq (get_or l.counts k 0) l.value ≡ false
