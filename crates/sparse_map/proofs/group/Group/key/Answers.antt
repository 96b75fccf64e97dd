use Rattle.std.proofs.Common.{ap, sym, arith, rules}
use Rattle.std.specs.Prelude.{option_map, IsSome}
use Rattle.sparse_map.specs.Slots.{slot_at}
use Rattle.sparse_map.specs.Groups.{slots_in}
use Rattle.sparse_map.proofs.GroupLemmas.{place_of, item_read}
use Rattle.sparse_map.proofs.group.Group.key.Goals as goal

pub index-requires : goal.index-requires
index-requires g c =
    let some : IsSome (slot_at (slots_in c.args.self.now) c.args.k) = search rules in
    omega (arith, place_of c.args.self.now c.args.k c.requires.within some)

pub returns : goal.returns
returns g c =
    let some : IsSome (slot_at (slots_in c.args.self.now) c.args.k) = search rules in
    ap (option_map (λ e. e.0)) (sym (item_read c.args.self.now c.args.k c.requires.within c.args.place c.index.result.now some c.requires.place c.index.ensures))
