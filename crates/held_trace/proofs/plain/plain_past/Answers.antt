use Rattle.std.proofs.Common.{ℕ, List, [], ◌∷◌, ◌++◌, Err, false, sym, ap, ◌∙◌}
use Rattle.trace_model.specs.declared.line.LineError.TheVariants.{TooLong}
use Rattle.trace_model.specs.Lines.{lines_in}
use Rattle.trace_model.specs.Readings.{Reading}
use Rattle.held_trace.specs.Sweep.{lines_say}
use Rattle.held_trace.proofs.SweepLemmas.{ok_weaker, readings_past}
use Rattle.held_trace.proofs.plain.plain_past.Goals as goal

pub returns : goal.returns
returns c =
    ok_weaker c.with_refusal.result _ _ (λ more is whole.
    is
    ∙ ap (λ (z : List Reading). z ++ Err TooLong ∷ []) (c.in_ok-readings.ensures ∙ ap (λ (bs : List ℕ). lines_say c.args.size (lines_in false bs)) c.first_bytes.ensures.front)
    ∙ sym (readings_past c.args.size whole c.args.bytes.now c.requires)) c.with_refusal.ensures
