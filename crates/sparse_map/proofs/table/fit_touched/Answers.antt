use Rattle.std.proofs.Common.{ap, arith}
use Rattle.sparse_map.specs.Places.{sizes_of, loose_of}
use Rattle.sparse_map.proofs.PlacesLemmas.{loose-anywhere}
use Rattle.sparse_map.proofs.table.fit_touched.Goals as goal

pub returns-then-not-all-clause-counted : goal.returns-then-not-all-clause-counted
returns-then-not-all-clause-counted g c =
    let any = ap (λ t. loose_of t (sizes_of c.fit_all.new.groups)) c.in-Anywhere.is in
    omega (arith, any, loose-anywhere (sizes_of c.fit_all.new.groups))
