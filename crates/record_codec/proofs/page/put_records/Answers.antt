use Rattle.record_codec.proofs.PageLemmas.{fits_at, none_so_far, records_more}
use Rattle.record_codec.proofs.page.put_records.Goals as goal

pub put_record-requires-clause-fits : goal.put_record-requires-clause-fits
put_record-requires-clause-fits c = fits_at c.args.wide c.args.kind c.args.changes.now c.loop-i.i _ c.loop-i-test.true c.requires.changes

pub loop-i-init : goal.loop-i-init
loop-i-init c = none_so_far c.args.wide c.args.out.now.0

pub loop-i-preserved : goal.loop-i-preserved
loop-i-preserved c =
    records_more c.args.wide c.args.out.now.0 c.loop-i.out.0 c.put_record.new.out.0 c.args.changes.now c.loop-i.i _ c.loop-i-test.true c.loop-i.invariant c.put_record.ensures.widths c.put_record.ensures.front
