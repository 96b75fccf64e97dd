use Rattle.std.proofs.Common.{arith}
use Rattle.sparse_map.specs.declared.table.Touched.TheVariants.{Nowhere}
use Rattle.sparse_map.specs.Places.{sizes_of, extra}
use Rattle.sparse_map.proofs.PlacesLemmas.{untouched-wider}
use Rattle.sparse_map.proofs.table.trim_due.Goals as goal

pub returns-clause-counted : goal.returns-clause-counted
returns-clause-counted g c =
    λ t was. omega (arith, untouched-wider extra (sizes_of c.trim_all.new.groups) Nowhere t (λ i may. absurd may), c.in_ok-trim_all.ensures.none_loose)
