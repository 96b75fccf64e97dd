use Rattle.std.proofs.Common.{arith}
use Rattle.sparse_map.proofs.GroupLemmas.{place_for, with_bit, with_bit-fits, inserted_counted, inserted_slots}
use Rattle.sparse_map.proofs.group.Group.insert_late.Goals as goal

pub insert_from_end-requires-clause-within : goal.insert_from_end-requires-clause-within
insert_from_end-requires-clause-within g c = omega (arith, place_for c.args.self.now c.args.k c.requires.within)

pub invariant_of-self : goal.invariant_of-self
unfolding with_bit
invariant_of-self g c =
    let u = c.args.self.now in
    let k = c.args.k in
    let lt = c.requires.within in
    record {
      fits = with_bit-fits u.occupied k u.fits lt;
      counted = inserted_counted u k lt c.args.place c.args.item c.insert_from_end.new.items.items c.requires.free (omega (arith, place_for u k lt)) c.insert_from_end.ensures.items;
    }

pub returns-clause-slots : goal.returns-clause-slots
unfolding with_bit
returns-clause-slots g c =
    inserted_slots c.args.self.now c.args.k c.requires.within c.args.place c.args.item c.insert_from_end.new.items.items c.requires.free c.requires.place
    c.insert_from_end.ensures.items
