use Rattle.std.proofs.Common.{◌≡◌}
use Rattle.std.specs.Vec.{vec_capacity}
use Rattle.mapping.specs.Counts.{held_count}
use Rattle.recovery.proofs.PlaceLemmas.{Gathered}
use Rattle.recovery.proofs.places.held_addresses.Given as goal

-- the addresses whose pages were passed are in the list, which has room for all
abbrev pub invariant-loop-i : goal.invariant-loop-i
invariant-loop-i l = record {
  gathered : Gathered l.map.geometry l.map.entries l.addresses.items l.i;
  room : vec_capacity l.addresses ≡ held_count l.map.entries;
}
