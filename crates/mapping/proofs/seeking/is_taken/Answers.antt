use Rattle.mapping.proofs.SeekingLemmas.{taken_is}
use Rattle.mapping.proofs.seeking.is_taken.Goals as goal

pub returns-in-Some : goal.returns-in-Some
returns-in-Some c = taken_is c.args.geometry.now c.args.held.now.entries c.requires.indexed.map c.args.index.now.owners.items c.requires.indexed.index.owners c.args.at c.requires.pool c.args.lba c.in-Some.owner c.in-Some.ensures
