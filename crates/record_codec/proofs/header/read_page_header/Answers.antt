use Rattle.std.proofs.Common.{sym, ◌∙◌, ap}
use Rattle.std.proofs.lemmas.Bool.{both_ways}
use Rattle.cache_model.specs.Reading.{header_in}
use Rattle.cache_model.proofs.SpellingLemmas.{header_read}
use Rattle.record_codec.proofs.HeaderLemmas.{no_header}
use Rattle.record_codec.proofs.header.read_page_header.Goals as goal

pub returns-then-has_page_header-clause-value : goal.returns-then-has_page_header-clause-value
returns-then-has_page_header-clause-value c = sym (header_read c.args.page.now.0 c.header_in-header.result (c.has_page_header.ensures.0 c.if-has_page_header.true))

pub returns-clause-value : goal.returns-clause-value
returns-clause-value c = no_header c.args.page.now.0 c.header_in-header.result (c.header_in-header.ensures ∙ ap header_in c.header_line.ensures) (λ is. both_ways _ c.if-has_page_header.false (c.has_page_header.ensures.1 is))
