use Rattle.std.proofs.Common.{inl, inr, rules}
use Rattle.flashtier_words.specs.Matching.{value_of}
use Rattle.flashtier_words.proofs.ValueLemmas.{no_dirty}
use Rattle.flashtier_words.proofs.settings.dirty_of.Goals as goal

pub returns-then-dirty-lt1-clause-none : goal.returns-then-dirty-lt1-clause-none
returns-then-dirty-lt1-clause-none c = λ dirty.
    no_dirty (value_of c.args.matches.now) c.args.data_blocks c.in_ok-dirty.dirty dirty (search rules) c.requires c.in_ok-dirty.ensures.some
    (elim c.then-dirty-lt1.either [ inl below ↦ inl below | inr above ↦ inr above.1 ])
