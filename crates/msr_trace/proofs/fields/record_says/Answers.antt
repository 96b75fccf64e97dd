use Rattle.std.proofs.Common.{◌∙◌, rules}
use Rattle.csv.specs.Records.{fields_of}
use Rattle.msr_trace.proofs.RecordLemmas.{seven_fields}
use Rattle.msr_trace.proofs.fields.record_says.Goals as goal

pub returns-clause-line : goal.returns-clause-line
returns-clause-line c =
    c.request.ensures.line
    ∙ seven_fields c.args.size c.args.number (fields_of c.args.fields.now) c.field-kind.result.now c.field-offset.result.now c.field-bytes.result.now (search rules) c.field-kind.ensures c.field-offset.ensures c.field-bytes.ensures
