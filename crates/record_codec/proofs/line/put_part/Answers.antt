use Rattle.std.proofs.Common.{rules}
use Rattle.std.proofs.lemmas.Slice.{overwrites}
use Rattle.record_codec.proofs.line.put_part.Goals as goal

pub returns-clause-tail : goal.returns-clause-tail
returns-clause-tail c = search (rules, overwrites)
