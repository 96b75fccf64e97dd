use Rattle.std.proofs.Common.{sym, refl}
use Rattle.std.specs.FinMap.{empty}
use Rattle.sparse_map.specs.Packed.{map_of}
use Rattle.mapping.proofs.PackedLemmas.{left_some, left_none}
use Rattle.mapping.proofs.held.take_out.Goals as goal

pub returns-in-Some-without-clause-left : goal.returns-in-Some-without-clause-left
returns-in-Some-without-clause-left c =
    left_some c.args.geometry.now empty (map_of c.args.blocks.now) (map_of c.insert_ready.new.self) c.args.group c.in-Some-without.rest c.insert_ready.ensures.map c.in-Some.block c.args.page
    (sym c.in-Some.ensures) c.in-Some-without.ensures.block c.in-Some-without.ensures.present c.in-Some-without.ensures.dirty c.in-Some-without.ensures.sound

pub returns-in-None-clause-left : goal.returns-in-None-clause-left
returns-in-None-clause-left c = left_none c.args.geometry.now (map_of c.args.blocks.now) (map_of c.remove.new.self) c.args.group c.args.page c.in-Some.block c.remove.ensures.map (sym c.in-Some.ensures) (c.in-None.ensures.none.0 refl)
