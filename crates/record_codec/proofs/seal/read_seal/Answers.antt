use Rattle.std.proofs.Common.{sym, ◌∙◌, ap}
use Rattle.std.proofs.lemmas.Bool.{both_ways}
use Rattle.cache_model.specs.Reading.{header_in}
use Rattle.cache_model.proofs.SpellingLemmas.{seal_read}
use Rattle.record_codec.proofs.SealLemmas.{no_seal, numbers_are, totals_are, seal_match}
use Rattle.record_codec.proofs.seal.read_seal.Goals as goal

pub returns-then-has_seal-clause-value : goal.returns-then-has_seal-clause-value
returns-then-has_seal-clause-value c = sym (seal_read c.args.page.now.0 c.header_in-header.result c.numbers_in-seal.result c.totals_in-totals.result (c.has_seal.ensures.0 c.if-has_seal.true))

pub returns-then-has_seal-clause-grammar : goal.returns-then-has_seal-clause-grammar
returns-then-has_seal-clause-grammar c = c.has_seal.ensures.0 c.if-has_seal.true

pub returns-clause-value : goal.returns-clause-value
returns-clause-value c =
    let there = c.header_in-header.ensures ∙ ap header_in c.header_line.ensures in
    no_seal c.args.page.now.0 c.header_in-header.result c.numbers_in-seal.result c.totals_in-totals.result there
    (c.numbers_in-seal.ensures ∙ numbers_are c.args.page.now.0 c.line_at-line.result c.line_at-line.ensures)
    (c.totals_in-totals.ensures ∙ totals_are c.args.page.now.0 c.line_at-line.result c.header_in-header.result c.line_at-line.ensures there) (λ is. both_ways _ c.if-has_seal.false (c.has_seal.ensures.1 is))

pub returns-clause-grammar : goal.returns-clause-grammar
returns-clause-grammar c = seal_match c.args.page.now.0 _ (returns-clause-value c)
