use Rattle.std.proofs.Common.{◌≡◌, ◌^◌, ◌-◌, min, take}
use Rattle.sparse_map.specs.Places.{sizes_of, places_of}
use Rattle.sparse_map.proofs.table.places_of.Given as goal

abbrev pub invariant-loop-group : goal.invariant-loop-group
invariant-loop-group g l = l.places ≡ min (places_of (sizes_of (take l.group-index l.groups))) (2 ^ 64 - 1)
