use Rattle.std.proofs.Common.{ℕ, subst, sym}
use Rattle.mapping.specs.Counts.{Owns}
use Rattle.mapping.specs.MapValue.{MapValue}
use Rattle.mapping.proofs.NumbersLemmas.{none_there}
use Rattle.mapping.proofs.map.Map.nth.Goals as goal

pub returns-in-None-clause-none : goal.returns-in-None-clause-none
returns-in-None-clause-none c = rw (← c.self.view_is) (none_there c.self.inside.geometry c.self.inside.held.entries c.pool_place-at.result c.args.i c.self.invariant.is_map c.pool_place-at.ensures.pool c.pool_place-at.ensures.number
    (subst (λ (v : MapValue). (a : ℕ) → Owns v.entries c.pool_place-at.result a → ⊥) (sym c.self.view_is) c.in-None.ensures.none))
