use Rattle.std.proofs.Common.{sym, ◌∙◌}
use Rattle.mapping.proofs.SeekingLemmas.{found_there}
use Rattle.mapping.proofs.seeking.found_at.Goals as goal

pub returns-then-is_sought-clause-some : goal.returns-then-is_sought-clause-some
returns-then-is_sought-clause-some c = found_there c.args.geometry.now c.args.held.now.entries c.requires.indexed.map c.args.index.now.owners.items c.requires.indexed.index.owners c.args.at c.requires.pool c.args.sought c.in-Some.owner c.in-Some-entry.entry
    (sym c.in-Some.is ∙ c.owner.ensures) (sym c.entry.ensures ∙ c.in-Some-entry.is) (sym c.is_sought.ensures ∙ c.if-is_sought.true)
