use Rattle.std.proofs.Common.{ap, ◌∙◌, arith, length}
use Rattle.std.proofs.lemmas.List.Edits.{length-remove}
use Rattle.std.specs.Prelude.{remove}
use Rattle.sparse_map.specs.Slots.{group_slots}
use Rattle.sparse_map.proofs.GroupLemmas.{taken, place_of, item_read, without_bit, without_bit-same, without_bit-fits, without_bit-other, count-without_bit, slots-remove}
use Rattle.sparse_map.proofs.RankLemmas.{rank_same}
use Rattle.sparse_map.proofs.group.Group.remove.Goals as goal

pub remove-requires : goal.remove-requires
remove-requires g c = omega (arith, place_of c.args.self.now c.args.k c.requires.within c.requires.occupied)

pub invariant_of-self : goal.invariant_of-self
unfolding without_bit
invariant_of-self g c =
    let u = c.args.self.now in
    let k = c.args.k in
    let lt = c.requires.within in
    let place = place_of u k lt c.requires.occupied in
    let shorter = length-remove u.items.items c.args.place (omega (arith, u.items.ok.0)) in
    let fewer = count-without_bit u.occupied k u.fits lt (taken u k lt c.requires.occupied) in
    record {
      fits = without_bit-fits u.occupied k u.fits lt;
      counted = ap length c.remove.ensures.items ∙ omega (arith, u.counted);
    }

pub returns-clause-item : goal.returns-clause-item
returns-clause-item g c =
    item_read c.args.self.now c.args.k c.requires.within c.args.place c.remove.result c.requires.occupied c.requires.place c.remove.ensures.value

pub returns-clause-slots : goal.returns-clause-slots
unfolding without_bit
returns-clause-slots g c =
    let u = c.args.self.now in
    let k = c.args.k in
    let lt = c.requires.within in
    let items = c.remove.ensures.items ∙ ap (λ p. remove u.items.items p) c.requires.place in
    ap (group_slots (without_bit u.occupied k)) items
    ∙ slots-remove (without_bit u.occupied k) u.occupied k u.items.items u.fits u.counted lt c.remove.result (taken u k lt c.requires.occupied) (without_bit-same u.occupied k u.fits lt) (without_bit-other u.occupied k u.fits lt)

pub returns-clause-rank : goal.returns-clause-rank
unfolding without_bit
returns-clause-rank g c =
    let u = c.args.self.now in
    let k = c.args.k in
    rank_same (without_bit u.occupied k) u.occupied k (λ i lt. without_bit-other u.occupied k u.fits c.requires.within i (λ e. omega arith))
