use Rattle.std.proofs.Common.{inl, inr, rules}
use Rattle.flashtier_words.specs.Matching.{value_of}
use Rattle.flashtier_words.proofs.ValueLemmas.{no_count}
use Rattle.flashtier_words.proofs.settings.count_of.Goals as goal

pub returns-then-count-lt1-clause-none : goal.returns-then-count-lt1-clause-none
returns-then-count-lt1-clause-none c = λ count.
    no_count (value_of c.args.matches.now) c.in_ok-count.count count (search rules) c.in_ok-count.ensures.some
    (elim c.then-count-lt1.either [ inl below ↦ inl below | inr above ↦ inr above.1 ])
