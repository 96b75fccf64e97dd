use Rattle.std.proofs.Common.{sym, ◌∙◌, arith}
use Rattle.std.proofs.lemmas.List.{length-set}
use Rattle.record_codec.proofs.PageLemmas.{line_refused, kind_refused, begins_more}
use Rattle.record_codec.proofs.WidthLemmas.{most_few}
use Rattle.record_codec.proofs.page.read_lines.Goals as goal

pub returns-in_default-clause-outside : goal.returns-in_default-clause-outside
returns-in_default-clause-outside c = line_refused c.args.wide c.args.kind c.args.page.now.0 c.loop-i.i c.args.count c.read_record.result c.loop-i-test.true c.read_record.ensures c.in_default.is

pub returns-then-not-goes_on-clause-outside : goal.returns-then-not-goes_on-clause-outside
returns-then-not-goes_on-clause-outside c = kind_refused c.args.wide c.args.kind c.args.page.now.0 c.loop-i.i c.args.count c.in-Some.change c.goes_on.result c.loop-i-test.true (sym c.in-Some.is ∙ c.read_record.ensures) c.goes_on.ensures c.if-not-goes_on.true

pub loop-i-preserved : goal.loop-i-preserved
loop-i-preserved c = record {
  long = length-set _ _ _ ∙ c.loop-i.invariant.long;
  begins = begins_more c.args.wide c.args.kind c.args.page.now.0 c.loop-i.out c.loop-i.i c.in-Some.change c.goes_on.result (omega (arith, c.loop-i.invariant.long, most_few c.args.wide, c.loop-i-test.true, c.requires)) (sym c.in-Some.is ∙ c.read_record.ensures) c.goes_on.ensures c.if-not-goes_on.false c.loop-i.invariant.begins;
}
