use Rattle.record_codec.proofs.SealLemmas.{has_seal_is, other_numbers}
use Rattle.record_codec.proofs.seal.has_seal.Goals as goal

pub returns-then-not-same_numbers : goal.returns-then-not-same_numbers
returns-then-not-same_numbers c = (
  λ t. absurd (cc),
  λ is. absurd (other_numbers c.args.page.now.0 c.spelled_numbers.result c.line_at.result c.args.header.now c.args.seal.now c.args.totals.now c.eq-same_numbers.result c.spelled_numbers.ensures.spelled c.line_at.ensures c.eq-same_numbers.ensures c.if-not-same_numbers.true is),
)

pub returns : goal.returns
returns c =
    has_seal_is c.args.page.now.0 c.spelled_header.result c.spelled_numbers.result c.header_line.result c.line_at.result c.args.header.now c.args.seal.now c.args.totals.now c.eq-same_header.result c.eq-same_numbers.result c.heads_seal.result c.has_totals.result
    c.is_zero_from.result c.spelled_header.ensures.spelled c.spelled_numbers.ensures.spelled c.header_line.ensures c.line_at.ensures c.eq-same_header.ensures c.if-not-same_header.false c.eq-same_numbers.ensures c.if-not-same_numbers.false
    c.heads_seal.ensures c.if-not-heads_seal.false c.has_totals.ensures c.if-not-has_totals.false c.spelled_header.ensures.sequence c.spelled_header.ensures.count c.spelled_numbers.ensures.widths c.is_zero_from.ensures
