use Rattle.mapping.proofs.SeekingLemmas.{none_stands}
use Rattle.mapping.proofs.map.Map.stands_none_in.Goals as goal

pub returns : goal.returns
returns c = rw (← c.self.view_is) (none_stands c.self.inside.geometry c.self.inside.held.entries c.args.block c.found_in.result c.is_none.result c.is_none.ensures c.found_in.ensures.some c.found_in.ensures.none)
