use Rattle.std.proofs.Common.{◌≤◌, arith, take}
use Rattle.std.proofs.lemmas.Bool.{both_ways}
use Rattle.cache_model.specs.Spelling.{most_records_of}
use Rattle.cache_model.proofs.SpellingLemmas.{header_spelled}
use Rattle.record_codec.proofs.PageLemmas.{counted, none_begin, too_many, when_read, when_refused, no_records, value_from}
use Rattle.record_codec.proofs.page.read_records.Goals as goal

pub returns-then-not-has_page_header-clause-value : goal.returns-then-not-has_page_header-clause-value
returns-then-not-has_page_header-clause-value c = λ head. absurd (both_ways c.has_page_header.result c.if-not-has_page_header.true (c.has_page_header.ensures.1 (header_spelled c.args.page.now.0 c.args.header.now head)))

pub returns-then-count-most_records-clause-outside : goal.returns-then-count-most_records-clause-outside
returns-then-count-most_records-clause-outside c =
    too_many c.args.p c.args.page.now.0 c.args.header.now c.is_wide-wide.result c.most_records.result c.is_wide-wide.ensures c.most_records.ensures c.if-count-most_records.true

pub returns-then-count-most_records-clause-value : goal.returns-then-count-most_records-clause-value
returns-then-count-most_records-clause-value c = no_records c.args.p c.args.page.now.0 c.args.header.now
    (too_many c.args.p c.args.page.now.0 c.args.header.now c.is_wide-wide.result c.most_records.result c.is_wide-wide.ensures c.most_records.ensures c.if-count-most_records.true)

pub returns-then-not-read_lines-clause-outside : goal.returns-then-not-read_lines-clause-outside
returns-then-not-read_lines-clause-outside c = none_begin c.args.p c.args.page.now.0 c.args.header.now c.is_wide-wide.result c.is_wide-wide.ensures c.if-not-read_lines.ensures.outside

pub returns-then-not-read_lines-clause-value : goal.returns-then-not-read_lines-clause-value
returns-then-not-read_lines-clause-value c = no_records c.args.p c.args.page.now.0 c.args.header.now (none_begin c.args.p c.args.page.now.0 c.args.header.now c.is_wide-wide.result c.is_wide-wide.ensures c.if-not-read_lines.ensures.outside)

pub returns-clause-read : goal.returns-clause-read
returns-clause-read c =
    let head = c.has_page_header.ensures.0 c.if-not-has_page_header.false in
    let few : c.args.header.now.count ≤ most_records_of c.is_wide-wide.result = omega (arith, c.if-count-most_records.false, c.most_records.ensures) in
    when_read c.args.p c.args.page.now.0 c.args.header.now (take c.args.header.now.count c.read_lines.new.out) c.is_wide-wide.result c.record_at.result c.is_zero_from.result
    (record { width = c.is_wide-wide.ensures; place = c.record_at.ensures.place; test = c.is_zero_from.ensures })
    (counted c.args.page.now.0 c.args.header.now c.read_lines.new.out head c.read_lines.array_long) head few c.if-not-read_lines.ensures.read

pub returns-clause-outside : goal.returns-clause-outside
returns-clause-outside c = when_refused c.args.p c.args.page.now.0 c.args.header.now c.is_wide-wide.result c.record_at.result c.is_zero_from.result
    (record { width = c.is_wide-wide.ensures; place = c.record_at.ensures.place; test = c.is_zero_from.ensures })

pub returns-clause-value : goal.returns-clause-value
returns-clause-value c = value_from c.args.p c.args.page.now.0 c.args.header.now (take c.args.header.now.count c.read_lines.new.out) c.is_zero_from.result (returns-clause-read c) (returns-clause-outside c)
