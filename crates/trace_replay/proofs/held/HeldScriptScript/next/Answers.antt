use Rattle.std.proofs.Common.{◌≡◌, ◌≤◌, ◌+◌, ◌++◌, List, Some, length, slice_get, inl, refl, sym, ap, ◌∙◌, subst, arith}
use Rattle.std.proofs.lemmas.Bool.Decides.{nat_tests}
use Rattle.std.proofs.lemmas.Option.{get_or_from_slice_get}
use Rattle.sha2.specs.Hashers.{Holds256}
use Rattle.trace_model.specs.declared.line.Line.{Line}
use Rattle.trace_model.specs.declared.line.LineError.TheVariants.{TooManyStops}
use Rattle.trace_model.specs.declared.answer.Answer.TheVariants as answer
use Rattle.trace_model.specs.Lines.{IsRunnable}
use Rattle.trace_replay.specs.declared.ended.Ended.TheVariants as ended
use Rattle.trace_replay.specs.Held.{held_left}
use Rattle.trace_replay.proofs.HeldLemmas.{get_left, get_none, held_all, held_gave, held_none, held_refused, held_said_none, held_says, held_says_part}
use Rattle.trace_replay.proofs.StreamLemmas.{at_memory, at_sink, gave_bytes, none_bytes, refused_bytes, same_error}
use Rattle.trace_replay.proofs.held.HeldScriptScript.next.Goals.{else-is_stop-via-then-is_stop+else-armed-ge-STOP_LIMIT, else-is_stop-via-else-is_stop}
use Rattle.trace_replay.proofs.held.HeldScriptScript.next.Goals as goal

-- no line is left
pub returns-in_default-clause-end : goal.returns-in_default-clause-end
returns-in_default-clause-end g c = λ _.
    let self = c.args.self.now in (
      λ s b e came. (held_none _ _ _ _ b e came.0, subst (Holds256 self.digest.hasher) (sym (none_bytes e)) came.1),
      λ s b e came. (held_all _ _ _ _ b e came.0 (get_none (self.first.now ++ self.lines.now) self.given (sym c.line_at.ensures ∙ c.in_default.is)), refl),
    )

-- the line is a stop, and as many stops are armed as can be
pub returns-in-Ok-clause-refused : goal.returns-in-Ok-clause-refused
returns-in-Ok-clause-refused g c = λ _ s b e came.
    let self = c.args.self.now in
    let left = get_left (self.first.now ++ self.lines.now) self.given c.in-Some.line (sym c.line_at.ensures ∙ c.in-Some.is) in
    let many : 16 ≤ c.args.armed = grind (arith, nat_tests, c.if-armed-ge-STOP_LIMIT.true) in (
      TooManyStops,
      held_refused _ _ _ _ b e came.0 _ s _ c.args.armed c.in-Some.line (held_left self.first.now self.lines.now (self.given + 1)) (refl, refl) left.1 (sym c.is_stop.ensures ∙ c.if-is_stop.true) many,
      (
        held_says _ _ _ _ b e came.0 (g.O.Sink.state c.say.new.sink) (self.given + 1) TooManyStops refl c.in-Ok.ensures.ok,
        subst (Holds256 self.digest.hasher) (sym (refused_bytes e TooManyStops)) came.1,
      ),
    )

pub returns-in-Err-clause-sink : goal.returns-in-Err-clause-sink
returns-in-Err-clause-sink g c = λ is.
    let self = c.args.self.now in
    let left = get_left (self.first.now ++ self.lines.now) self.given c.in-Some.line (sym c.line_at.ensures ∙ c.in-Some.is) in
    let many : 16 ≤ c.args.armed = grind (arith, nat_tests, c.if-armed-ge-STOP_LIMIT.true) in (
      c.in-Err.ensures.rose (let same = same_error c.in-Err.ended ended.Sink is in cc),
      λ s b e came. inl (
        TooManyStops,
        held_refused _ _ _ _ b e came.0 _ s _ c.args.armed c.in-Some.line (held_left self.first.now self.lines.now (self.given + 1)) (refl, refl) left.1 (sym c.is_stop.ensures ∙ c.if-is_stop.true) many,
        held_says_part _ _ _ _ b e came.0 (g.O.Sink.state c.say.new.sink) (self.given + 1) TooManyStops refl
            (at_sink c.in-Err.ended (g.O.Sink.state self.sink.now) (g.O.Sink.state c.say.new.sink) (answer.Refused (self.given + 1) TooManyStops) (same_error c.in-Err.ended ended.Sink is) c.in-Err.ensures.part),
      ),
    )

pub returns-in-Err-clause-memory : goal.returns-in-Err-clause-memory
returns-in-Err-clause-memory g c = λ is.
    let self = c.args.self.now in
    let left = get_left (self.first.now ++ self.lines.now) self.given c.in-Some.line (sym c.line_at.ensures ∙ c.in-Some.is) in
    let many : 16 ≤ c.args.armed = grind (arith, nat_tests, c.if-armed-ge-STOP_LIMIT.true) in (
      λ s b e came. (
        held_said_none _ _ _ _ b e came.0 (g.O.Sink.state c.say.new.sink)
            (at_memory c.in-Err.ended (g.O.Sink.state self.sink.now) (g.O.Sink.state c.say.new.sink) (answer.Refused (self.given + 1) TooManyStops) (same_error c.in-Err.ended ended.Memory is) c.in-Err.ensures.part),
        subst (Holds256 self.digest.hasher) (sym (none_bytes e)) came.1,
      ),
      λ _ s b e came. (
        TooManyStops,
        held_refused _ _ _ _ b e came.0 _ s _ c.args.armed c.in-Some.line (held_left self.first.now self.lines.now (self.given + 1)) (refl, refl) left.1 (sym c.is_stop.ensures ∙ c.if-is_stop.true) many,
      ),
    )

-- the line is given
pub returns-else-is_stop-clause-line : goal.returns-else-is_stop-clause-line
returns-else-is_stop-clause-line g c =
    let self = c.args.self.now in
    let xs : List Line = self.first.now ++ self.lines.now in
    let l = c.in-Some.line in
    let at : slice_get xs self.given ≡ Some l = sym c.line_at.ensures ∙ c.in-Some.is in
    let left = get_left xs self.given l at in
    let long = ap (λ (ys : List Line). length ys) left.1 in (
      subst (IsRunnable self.size) (get_or_from_slice_get xs self.given l l at) (self.runnable self.given l left.0),
      omega (arith, long),
      λ stop. elim c.else-is_stop.branch [
        | else-is_stop-via-then-is_stop+else-armed-ge-STOP_LIMIT w ↦ (grind (arith, nat_tests, w.if-armed-ge-STOP_LIMIT))
        | else-is_stop-via-else-is_stop w ↦ absurd (let same = sym stop ∙ sym c.is_stop.ensures ∙ w.if-is_stop.false in cc)
      ],
      λ s b e came. (
        held_gave _ _ _ _ b e came.0 l (held_left self.first.now self.lines.now (self.given + 1)) left.1,
        subst (Holds256 self.digest.hasher) (sym (gave_bytes e l)) came.1,
      ),
    )
