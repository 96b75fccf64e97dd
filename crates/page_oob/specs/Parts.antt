-- What spare bytes say, as a tuple.
use Rattle.std.specs.Prelude.{ℕ}
use Rattle.cache_model.specs.declared.format.SpareKind.{SpareKind}
use Rattle.cache_model.specs.Spelling.{SpareFields}

abbrev pub parts : SpareFields → SpareKind × ℕ × ℕ
parts fields = (fields.kind, fields.era, fields.address)
