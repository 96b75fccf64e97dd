use Rattle.std.proofs.Common.{◌∙◌}
use Rattle.silent_evict.proofs.GroupLemmas.{pages_held-count, pages_held-none}
use Rattle.silent_evict.proofs.plain.pages_held.Goals as goal

pub returns-in-Some : goal.returns-in-Some
returns-in-Some c = pages_held-count c.args.map.now.geometry c.args.map.now.entries c.args.group _ _ (c.present.ensures.set ∙ c.in-Some.ensures.some.present) c.count.ensures

pub returns-in-None : goal.returns-in-None
returns-in-None c = pages_held-none c.args.map.now.geometry c.args.map.now.entries c.args.group c.in-None.ensures.none
