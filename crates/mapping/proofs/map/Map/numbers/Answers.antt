use Rattle.std.proofs.Common.{subst, sym}
use Rattle.mapping.specs.Numbers.{AreNumbered}
use Rattle.mapping.proofs.NumbersLemmas.{are_numbered}
use Rattle.mapping.proofs.map.Map.numbers.Goals as goal

pub returns-clause-each : goal.returns-clause-each
returns-clause-each c = rw (← c.self.view_is) (subst (λ n. AreNumbered c.self.inside.geometry c.self.inside.held.entries n) (sym c.pool_pages.ensures.count) (are_numbered c.self.inside.geometry c.self.inside.held.entries c.self.invariant.is_map))
