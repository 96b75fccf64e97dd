use Rattle.std.proofs.Common.{◌≡◌, ◌<◌, ◌++◌, ◌∷◌, [], length, take, ℕ, List, false, Err, sym, ap, ◌∙◌, arith}
use Rattle.trace_model.specs.declared.line.LineError.TheVariants.{TooLong}
use Rattle.trace_model.specs.Lines.{lines_in}
use Rattle.held_trace.specs.declared.taking.TakeError.{TakeError}
use Rattle.held_trace.specs.Sweep.{lines_say, sweep_readings}
use Rattle.held_trace.proofs.SweepLemmas.{readings_past, refused_known, refused_named}
use Rattle.held_trace.proofs.taking.past_limit.Goals as goal

-- the known readings, by the bytes that are looked at
known_is : (size : ℕ) (front first : List ℕ) → 4096 < length front → first ≡ take 4096 front → sweep_readings size false front ≡ lines_say size (lines_in false first) ++ Err TooLong ∷ []
known_is size front first long is = readings_past size false front long ∙ ap (λ (bs : List ℕ). lines_say size (lines_in false bs) ++ Err TooLong ∷ []) (sym is)

pub returns-in-Err-clause-refused : goal.returns-in-Err-clause-refused
returns-in-Err-clause-refused c = λ line cause named.
    refused_known _ _ _ line cause
    (known_is c.args.held.size c.args.front.now c.first_bytes.result.now (omega arith) c.first_bytes.ensures.front)
    (c.hold_lines.ensures.refused line cause (c.in-Err.is ∙ ap (λ (e : TakeError). Err e) named))

pub returns-clause-refused : goal.returns-clause-refused
returns-clause-refused c = λ line cause named.
    let held = rw c.in_default.is at c.hold_lines.ensures.held in
    refused_named (lines_say c.args.held.size (lines_in false c.first_bytes.result.now)) (sweep_readings c.args.held.size false c.args.front.now) c.hold_lines.new.self.lines.items c.refusal.result TooLong line cause held
    (known_is c.args.held.size c.args.front.now c.first_bytes.result.now (omega arith) c.first_bytes.ensures.front)
    c.refusal.ensures named
