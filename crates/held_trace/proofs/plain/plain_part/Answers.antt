use Rattle.std.proofs.Common.{List, [], ◌∷◌, ◌++◌, Err, true, false, sym, ap, ◌∙◌, append-nil}
use Rattle.trace_model.specs.declared.line.LineError.TheVariants.{LineTooLong}
use Rattle.trace_model.specs.Lines.{lines_in}
use Rattle.trace_model.specs.Readings.{Reading}
use Rattle.held_trace.specs.Sweep.{lines_say}
use Rattle.held_trace.proofs.SweepLemmas.{ok_weaker, readings_part}
use Rattle.held_trace.proofs.plain.plain_part.Goals as goal

pub returns-then-is_over_long : goal.returns-then-is_over_long
returns-then-is_over_long c =
    ok_weaker c.with_refusal.result _ _ (λ more is.
    is
    ∙ ap (λ (z : List Reading). z ++ Err LineTooLong ∷ []) c.in_ok-readings.ensures
    ∙ sym (readings_part c.args.size c.args.bytes.now true c.requires (sym c.if-is_over_long.true ∙ c.is_over_long.ensures))) c.with_refusal.ensures

pub returns : goal.returns
returns c =
    c.in_ok-readings.ensures
    ∙ sym (append-nil (lines_say c.args.size (lines_in false c.args.bytes.now)))
    ∙ sym (readings_part c.args.size c.args.bytes.now false c.requires (sym c.if-is_over_long.false ∙ c.is_over_long.ensures))
