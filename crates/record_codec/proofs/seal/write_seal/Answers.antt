use Rattle.std.proofs.Common.{◌∙◌, ap, subst, Option}
use Rattle.cache_model.specs.declared.format.Totals.{Totals}
use Rattle.record_codec.specs.Lines.{numbers_line, totals_told, FitsCounts}
use Rattle.record_codec.proofs.SealLemmas.{seal_written, seal_header, told_in_range}
use Rattle.record_codec.proofs.seal.write_seal.Goals as goal

pub returns : goal.returns
returns c =
    let told = totals_told c.args.header.now.format c.args.totals.now in record {
      spelled = seal_written c.put_part.new.out.0 c.put_part-2.new.out.0 c.put_zeros.new.out.0 c.spelled_header-front.result c.spelled_numbers-numbers.result c.args.header.now c.args.seal.now told
          c.spelled_header-front.ensures.spelled (c.spelled_numbers-numbers.ensures.spelled ∙ ap (numbers_line c.args.seal.now) c.told.ensures) c.put_part.ensures.front c.put_part-2.ensures.front c.put_zeros.ensures;
      header = seal_header c.args.header.now c.requires.format c.requires.kind c.requires.era c.spelled_header-front.ensures.sequence c.spelled_header-front.ensures.count;
      ranges = c.spelled_numbers-numbers.ensures.widths;
      totals_range = told_in_range c.args.header.now.format c.args.totals.now c.requires.format (subst (λ (t : Option Totals). FitsCounts t) c.told.ensures c.spelled_numbers-numbers.ensures.counts);
    }
