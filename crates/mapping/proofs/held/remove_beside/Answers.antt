use Rattle.std.proofs.Common.{IsSome, refl, subst}
use Rattle.sparse_map.specs.Packed.{map_of}
use Rattle.mapping.proofs.PackedLemmas.{nothing_removed}
use Rattle.mapping.proofs.held.remove_beside.Goals as goal

pub returns-in-Some-clause-map : goal.returns-in-Some-clause-map
returns-in-Some-clause-map c = nothing_removed (map_of c.args.pages.now) c.args.lba (c.requires.apart (subst IsSome c.in-Some.ensures refl))
