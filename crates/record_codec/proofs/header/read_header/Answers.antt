use Rattle.std.proofs.Common.{sym, ◌∙◌, ap}
use Rattle.std.proofs.lemmas.Bool.{both_ways}
use Rattle.cache_model.specs.Reading.{header_in}
use Rattle.cache_model.proofs.SpellingLemmas.{any_header_read}
use Rattle.record_codec.proofs.HeaderLemmas.{no_any_header}
use Rattle.record_codec.proofs.header.read_header.Goals as goal

pub returns-then-has_header-clause-value : goal.returns-then-has_header-clause-value
returns-then-has_header-clause-value c = sym (any_header_read c.args.page.now.0 c.header_in-header.result (c.has_header.ensures.0 c.if-has_header.true))

pub returns-clause-value : goal.returns-clause-value
returns-clause-value c = no_any_header c.args.page.now.0 c.header_in-header.result (c.header_in-header.ensures ∙ ap header_in c.header_line.ensures) (λ is. both_ways _ c.if-has_header.false (c.has_header.ensures.1 is))
