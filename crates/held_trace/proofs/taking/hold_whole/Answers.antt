use Rattle.std.proofs.Common.{List, Err, sym, ap, subst, ◌∙◌}
use Rattle.trace_model.specs.Readings.{Reading}
use Rattle.held_trace.specs.declared.taking.TakeError.{TakeError}
use Rattle.held_trace.specs.declared.taking.TakeError.TheVariants as take_error
use Rattle.held_trace.specs.Sweep.{RefusesFirst}
use Rattle.held_trace.proofs.SweepLemmas.{readings_whole, same_error}
use Rattle.held_trace.proofs.taking.hold_whole.Goals as goal

pub returns-in-Ok-clause-held : goal.returns-in-Ok-clause-held
returns-in-Ok-clause-held c =
    let held = rw c.in-Ok.is at c.hold_lines.ensures.held in readings_whole c.args.held.size c.args.trace.now c.requires.few ∙ held

pub returns-in-Err-clause-refused : goal.returns-in-Err-clause-refused
returns-in-Err-clause-refused c = λ line cause named.
    subst (λ (z : List Reading). RefusesFirst z line cause) (sym (readings_whole c.args.held.size c.args.trace.now c.requires.few)) (c.hold_lines.ensures.refused line cause (c.in-Err.is ∙ ap (λ (e : TakeError). Err e) (same_error c.in-Err.error (take_error.Refused line cause) named)))
