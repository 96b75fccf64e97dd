use Rattle.mapping.proofs.BitsLemmas.{chosen_beyond}
use Rattle.mapping.proofs.sets.chosen_any.Goals as goal

pub returns-then-group-geometry : goal.returns-then-group-geometry
returns-then-group-geometry c = chosen_beyond c.args.geometry.now c.args.held.now.entries c.args.choice c.args.group c.requires.map c.if-group-geometry.true
