use Rattle.std.proofs.Common.{ap, ◌∙◌, arith, length}
use Rattle.std.proofs.lemmas.List.Edits.{length-swap}
use Rattle.sparse_map.proofs.GroupLemmas.{place_of}
use Rattle.sparse_map.proofs.RankedLemmas.{slots-exchanged}
use Rattle.sparse_map.proofs.group.Group.exchange.Goals as goal

pub swap-requires-clause-i_in_bounds : goal.swap-requires-clause-i_in_bounds
swap-requires-clause-i_in_bounds g c = omega (arith, c.requires.k_place, place_of c.args.self.now c.args.k c.requires.k_within c.requires.k_occupied)

pub swap-requires-clause-j_in_bounds : goal.swap-requires-clause-j_in_bounds
swap-requires-clause-j_in_bounds g c = omega (arith, c.requires.l_place, place_of c.args.self.now c.args.l c.requires.l_within c.requires.l_occupied)

pub invariant_of-self : goal.invariant_of-self
invariant_of-self g c =
    let u = c.args.self.now in
    record {
      fits = u.fits;
      counted = ap length c.swap.ensures.items ∙ length-swap u.items.items c.args.k_place c.args.l_place ∙ u.counted;
    }

pub returns-clause-slots : goal.returns-clause-slots
returns-clause-slots g c =
    slots-exchanged c.args.self.now c.args.k c.args.l c.args.k_place c.args.l_place c.swap.new.self.items
    c.requires.k_within c.requires.l_within c.requires.k_occupied c.requires.l_occupied c.requires.k_place c.requires.l_place c.swap.ensures.by_index
