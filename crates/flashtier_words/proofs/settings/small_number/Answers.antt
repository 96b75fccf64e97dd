use Rattle.std.proofs.Common.{rules}
use Rattle.flashtier_words.specs.Matching.{value_of}
use Rattle.flashtier_words.proofs.ValueLemmas.{narrowed_none}
use Rattle.flashtier_words.proofs.settings.small_number.Goals as goal

pub returns-clause-none : goal.returns-clause-none
returns-clause-none c =
    rw c.ok.ensures.value (
    narrowed_none c.args.default (value_of c.args.matches.now c.args.name.now) c.in_ok-number.number c.try_from.result (search rules)
    (rw c.from.ensures at c.in_ok-number.ensures.some) c.try_from.ensures)
