use Rattle.mapping.specs.declared.bits.Choice.TheVariants.{Held, Dirty}
use Rattle.mapping.proofs.BitsLemmas.{chosen_beyond}
use Rattle.mapping.proofs.sets.page_sets.Goals as goal

pub returns-then-group-geometry : goal.returns-then-group-geometry
returns-then-group-geometry c = record {
  held = chosen_beyond c.args.geometry.now c.args.held.now.entries Held c.args.group c.requires.map c.if-group-geometry.true;
  dirty = chosen_beyond c.args.geometry.now c.args.held.now.entries Dirty c.args.group c.requires.map c.if-group-geometry.true;
}
