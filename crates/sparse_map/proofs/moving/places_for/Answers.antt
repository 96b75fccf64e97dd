use Rattle.std.proofs.Common.{refl, inl, inr, arith}
use Rattle.sparse_map.proofs.moving.places_for.Goals as goal

pub returns-then-is_heir-clause-fit : goal.returns-then-is_heir-clause-fit
returns-then-is_heir-clause-fit c = inr (c.if-is_heir.ensures.0 refl)

pub returns-clause-fit : goal.returns-clause-fit
returns-clause-fit c = inl (omega arith)
