use Rattle.record_codec.proofs.PageLemmas.{header_put, page_written}
use Rattle.record_codec.proofs.page.write_page.Goals as goal

pub returns : goal.returns
returns c =
    page_written c.args.p c.put_part.new.out.0 c.put_records.new.out.0 c.put_zeros.new.out.0 c.args.header.now c.args.changes.now c.is_wide-wide.result c.record_at.result c.is_wide-wide.ensures
    (record {
      head = header_put c.put_part.new.out.0 c.spelled_header-front.result c.args.header.now c.spelled_header-front.ensures.spelled c.put_part.ensures.front;
      records = c.put_records.ensures.front;
      place = c.record_at.ensures.place;
      rest = c.put_zeros.ensures;
      widths = c.put_records.ensures.widths;
    })
    (record {
      format = c.requires.format;
      kind = c.requires.kind;
      era = c.requires.era;
      sequence = c.spelled_header-front.ensures.sequence;
      count_is = c.requires.count;
      some = c.requires.some;
      room = c.requires.room;
    })
    c.requires.changes
