use Rattle.record_codec.proofs.HeaderLemmas.{page_header_of}
use Rattle.record_codec.proofs.header.has_page_header.Goals as goal

pub returns : goal.returns
returns c = page_header_of c.args.page.now.0 c.args.header.now c.is_log_or_map.result c.has_header.result c.if-not-is_log_or_map.false c.is_log_or_map.ensures c.has_header.ensures
