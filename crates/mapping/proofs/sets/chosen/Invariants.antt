use Rattle.std.proofs.Common.{◌+◌, ◌*◌}
use Rattle.std.specs.FinMap.{get}
use Rattle.mapping.specs.Bits.{is_chosen}
use Rattle.mapping.proofs.BitsLemmas.{SetSoFar}
use Rattle.mapping.proofs.sets.chosen.Given as goal

-- the pages so far
abbrev pub invariant-loop-page : goal.invariant-loop-page
invariant-loop-page l = SetSoFar (λ i. is_chosen l.choice (get l.held.entries (l.group * l.geometry.p + i))) l.page l.set
