use Rattle.std.proofs.Common.{◌≡◌, ◌^◌, ◌-◌, min, take}
use Rattle.sparse_map.specs.declared.table.Touched.TheVariants.{Nowhere}
use Rattle.sparse_map.specs.Places.{sizes_of, loose_of}
use Rattle.sparse_map.proofs.table.beyond_of.Given as goal

abbrev pub invariant-loop-group : goal.invariant-loop-group
invariant-loop-group g l = l.beyond ≡ min (loose_of Nowhere (sizes_of (take l.group-index l.groups))) (2 ^ 64 - 1)
