use Rattle.std.proofs.Common.{nat_lt, true, false, Err, refl, sym, ap, ◌∙◌, append-nil}
use Rattle.trace_model.specs.declared.line.LineError.TheVariants.{LineTooLong}
use Rattle.trace_model.specs.Lines.{lines_in}
use Rattle.held_trace.specs.declared.taking.TakeError.{TakeError}
use Rattle.held_trace.specs.Sweep.{lines_say, sweep_readings}
use Rattle.trace_model.specs.Readings.{since_feed}
use Rattle.held_trace.proofs.SweepLemmas.{readings_part, refused_known, refused_named}
use Rattle.held_trace.proofs.taking.after_fault.Goals as goal

pub returns-in-Err-clause-refused : goal.returns-in-Err-clause-refused
returns-in-Err-clause-refused c = λ line cause named.
    refused_known _ _ _ line cause
    (readings_part c.args.held.size c.args.front.now (nat_lt 200 (since_feed 0 c.args.front.now)) c.requires.few refl)
    (c.hold_lines.ensures.refused line cause (c.in-Err.is ∙ ap (λ (e : TakeError). Err e) named))

pub returns-then-is_over_long-clause-refused : goal.returns-then-is_over_long-clause-refused
returns-then-is_over_long-clause-refused c = λ line cause named.
    let held = rw c.in_default.is at c.hold_lines.ensures.held in
    refused_named (lines_say c.args.held.size (lines_in false c.args.front.now)) (sweep_readings c.args.held.size false c.args.front.now) c.hold_lines.new.self.lines.items c.refusal.result LineTooLong line cause held
    (readings_part c.args.held.size c.args.front.now true c.requires.few (sym c.if-is_over_long.true ∙ c.is_over_long.ensures))
    c.refusal.ensures named

pub returns-clause-source : goal.returns-clause-source
returns-clause-source c = λ named.
    let held = rw c.in_default.is at c.hold_lines.ensures.held in (
      c.hold_lines.new.self.lines.items,
      readings_part c.args.held.size c.args.front.now false c.requires.few (sym c.if-is_over_long.false ∙ c.is_over_long.ensures)
          ∙ append-nil (lines_say c.args.held.size (lines_in false c.args.front.now))
          ∙ held,
    )
