use Rattle.msr_trace.proofs.RecordLemmas.{no_field}
use Rattle.csv.specs.Records.{fields_of}
use Rattle.std.proofs.Common.{sym, ap, ◌∙◌}
use Rattle.std.specs.Prelude.{option_map}
use Rattle.msr_trace.proofs.fields.field.Goals as goal

pub unreachable-requires : goal.unreachable-requires
unreachable-requires c = no_field (fields_of c.args.fields.now) c.args.place c.requires.within (sym c.get.ensures.value ∙ ap (option_map (λ s. s.now)) c.in-None.is)
