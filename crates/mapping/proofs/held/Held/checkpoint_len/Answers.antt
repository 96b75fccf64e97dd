use Rattle.std.proofs.Common.{◌+◌, ◌<◌, ◌^◌, ap₂, sym, ◌∙◌, arith, rules}
use Rattle.sparse_map.specs.Packed.{map_of}
use Rattle.mapping.specs.Packed.{packed_entries}
use Rattle.mapping.proofs.PackedLemmas.{records_long}
use Rattle.mapping.proofs.ListingLemmas.{listed, lens_few}
use Rattle.mapping.proofs.held.Held.checkpoint_len.Goals as goal

pub overflow_add-result : goal.overflow_add-result
overflow_add-result c =
    let few = lens_few c.self.inside.geometry c.self.inside.pages c.self.inside.blocks c.self.invariant in
    let small : c.len.result + c.len-2.result < 2 ^ 64 = omega (arith, few, c.len.ensures.len, c.len-2.ensures.len) in
    search rules

pub returns-clause-count : goal.returns-clause-count
returns-clause-count c = rw (← c.self.view_is) (ap₂ (λ a b. a + b) c.len.ensures.len c.len-2.ensures.len
    ∙ sym (records_long c.self.inside.geometry (packed_entries c.self.inside.geometry (map_of c.self.inside.pages) (map_of c.self.inside.blocks))
    c.self.inside.pages c.self.inside.blocks c.self.invariant.pages_sound c.self.invariant.blocks_sound))

pub returns-clause-listing : goal.returns-clause-listing
returns-clause-listing c = rw (← c.self.view_is) (listed c.self.inside.geometry c.self.inside.pages c.self.inside.blocks c.self.invariant)
