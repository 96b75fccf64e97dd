use Rattle.std.specs.FinMap.{get}
use Rattle.ssc.proofs.CommandLemmas.{entry_there}
use Rattle.ssc.proofs.cache.Ssc.is_held.Goals as goal

pub returns : goal.returns
returns c = entry_there (get c.args.self.now.parts.map.entries c.args.lba) c.place.result c.is_some.result c.place.ensures.place c.is_some.ensures
