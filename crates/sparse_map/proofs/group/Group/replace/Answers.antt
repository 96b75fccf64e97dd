use Rattle.std.proofs.Common.{ap, ◌∙◌, arith, set}
use Rattle.sparse_map.specs.Slots.{rank, group_slots}
use Rattle.sparse_map.proofs.GroupLemmas.{taken, place_of, item_read, slots-replace}
use Rattle.sparse_map.proofs.group.Group.replace.Goals as goal

pub index_mut-requires : goal.index_mut-requires
index_mut-requires g c = omega (arith, place_of c.args.self.now c.args.k c.requires.within c.requires.occupied)

pub returns-clause-item : goal.returns-clause-item
returns-clause-item g c =
    item_read c.args.self.now c.args.k c.requires.within c.args.place c.replace.result c.requires.occupied c.requires.place
    (rw c.replace.ensures.value c.index_mut.ensures.value)

pub returns-clause-slots : goal.returns-clause-slots
returns-clause-slots g c =
    let u = c.args.self.now in
    ap (λ p. group_slots u.occupied (set u.items.items p c.replace.new.dest)) c.requires.place
    ∙ ap (λ x. group_slots u.occupied (set u.items.items (rank u.occupied c.args.k) x)) c.replace.ensures.after
    ∙ slots-replace u.occupied u.occupied c.args.k u.items.items u.fits u.counted c.requires.within c.args.item (taken u c.args.k c.requires.within c.requires.occupied)
