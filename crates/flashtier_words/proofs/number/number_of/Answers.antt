use Rattle.std.proofs.lemmas.Bool.{iff_false}
use Rattle.flashtier_words.proofs.NumberLemmas.{digits_begin, parsed_none, parsed_some}
use Rattle.flashtier_words.proofs.number.number_of.Goals as goal

pub returns-then-not-begins_as_number-clause-none : goal.returns-then-not-begins_as_number-clause-none
returns-then-not-begins_as_number-clause-none c = λ n small is. iff_false c.begins_as_number.ensures c.if-not-begins_as_number.true (digits_begin c.args.word.now n small is)

pub returns-clause-some : goal.returns-clause-some
returns-clause-some c = rw c.ok.ensures.value (parsed_some c.args.word.now c.parse.result c.parse.ensures.value.0 (c.begins_as_number.ensures.0 c.if-not-begins_as_number.false))

pub returns-clause-none : goal.returns-clause-none
returns-clause-none c = rw c.ok.ensures.value (parsed_none c.args.word.now c.parse.result c.parse.ensures.value.0)
