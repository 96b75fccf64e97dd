use Rattle.record_codec.proofs.HeaderLemmas.{has_header_is}
use Rattle.record_codec.proofs.header.has_header.Goals as goal

pub returns : goal.returns
returns c = has_header_is c.args.page.now.0 c.spelled_header.result c.header_line.result c.args.header.now c.eq-same.result c.is_in_range.result c.spelled_header.ensures.spelled c.header_line.ensures c.eq-same.ensures c.if-not-same.false c.is_in_range.ensures
