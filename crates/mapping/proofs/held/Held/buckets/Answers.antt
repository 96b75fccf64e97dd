use Rattle.std.proofs.Common.{subst, sym}
use Rattle.sparse_map.specs.Packed.{map_of}
use Rattle.cache_model.specs.Buckets.{AreBucketsFor}
use Rattle.mapping.specs.Packed.{packed_entries}
use Rattle.mapping.proofs.ListingLemmas.{buckets_bound}
use Rattle.mapping.proofs.held.Held.buckets.Goals as goal

pub returns-clause-bound : goal.returns-clause-bound
returns-clause-bound c = rw (← c.self.view_is) (subst (λ n. AreBucketsFor (packed_entries c.self.inside.geometry (map_of c.self.inside.pages) (map_of c.self.inside.blocks)) n)
    (sym c.buckets.ensures.buckets) (buckets_bound c.self.inside.geometry c.self.inside.pages c.self.inside.blocks c.self.invariant))
