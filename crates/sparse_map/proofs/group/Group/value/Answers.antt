use Rattle.std.proofs.Common.{ap, arith}
use Rattle.std.specs.Prelude.{option_map}
use Rattle.sparse_map.proofs.GroupLemmas.{place_of, item_read}
use Rattle.sparse_map.proofs.group.Group.value.Goals as goal

pub index-requires : goal.index-requires
index-requires g c = omega (arith, place_of c.args.self.now c.args.k c.requires.within c.requires.occupied)

pub returns : goal.returns
returns g c =
    ap (option_map (λ e. e.1)) (item_read c.args.self.now c.args.k c.requires.within c.args.place c.index.result.now c.requires.occupied c.requires.place c.index.ensures)
