use Rattle.std.proofs.Common.{◌≡◌, ℕ, ◌+◌, ◌*◌}
use Rattle.std.specs.FinMap.{get}
use Rattle.mapping.specs.declared.bits.Choice.TheVariants.{Held, Dirty}
use Rattle.mapping.specs.Bits.{is_chosen}
use Rattle.mapping.proofs.BitsLemmas.{SetSoFar}
use Rattle.mapping.proofs.sets.both_sets.Given as goal

-- the pages so far
abbrev pub invariant-loop-page : goal.invariant-loop-page
invariant-loop-page l = SetSoFar (λ i. is_chosen Held (get l.held.entries (l.group * l.geometry.p + i))) l.page l.held_set × SetSoFar (λ i. is_chosen Dirty (get l.held.entries (l.group * l.geometry.p + i))) l.page l.dirty_set
