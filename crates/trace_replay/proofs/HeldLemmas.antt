-- A script over lines that are held, one event after the other.
use Rattle.std.proofs.Common.{◌≡◌, ◌≤◌, ◌<◌, ◌+◌, ◌++◌, ℕ, zero, suc, Bool, true, false, nat_le, List, [], ◌∷◌, map, drop, length, slice_get, Some, None, Ok, Err, inl, inr, refl, sym, ap, ◌∙◌, subst, append_assoc, arith, if◌then◌else◌, ◌&&◌}
use Rattle.std.proofs.lemmas.Bool.{cases_Bool}
use Rattle.std.proofs.lemmas.Bool.Decides.{nat_tests}
use Rattle.std.proofs.lemmas.List.{append-nil, drop_more, length-append, length-drop, map-append}
use Rattle.std.proofs.lemmas.Option.{get_or_from_slice_get, slice_get_within}
use Rattle.ft_base.specs.declared.block.Block.{Block}
use Rattle.ft_base.specs.StreamState.{SinkState, SourceState}
use Rattle.trace_model.specs.declared.answer.Answer.{Answer}
use Rattle.trace_model.specs.declared.answer.Answer.TheVariants as answer
use Rattle.trace_model.specs.declared.line.Line.{Line}
use Rattle.trace_model.specs.declared.line.LineError.TheVariants.{TooManyStops}
use Rattle.trace_model.specs.Readings.{Reading, accepted}
use Rattle.trace_model.specs.Fits.{armed_after, arming}
use Rattle.trace_model.specs.Run.{lines_of}
use Rattle.trace_model.specs.SoFar.{is_stop, next_refusal}
use Rattle.trace_model.specs.declared.line.Line.TheVariants as line
use Rattle.trace_model.specs.declared.line.LineError.{LineError}
use Rattle.trace_model.specs.declared.ran.Ran.{Ran}
use Rattle.ft_base.specs.declared.power.Stop.{Stop}
use Rattle.trace_replay.specs.Events.{Event, NextRefused, answers_in, lines_given, refusal_after, refused_for, taking}
use Rattle.trace_replay.specs.Events.Event.{Gave, Took, Touched}
use Rattle.trace_replay.specs.Held.{CameHeld, lines_numbered, numbers_of, outcome_number, outcome_of, stops_held}
use Rattle.ft_base.specs.declared.power.Outcome.{Outcome}
use Rattle.ft_base.specs.declared.power.Outcome.TheVariants as outcome
use Rattle.trace_replay.specs.Said.{Said, SaidPart}
use Rattle.trace_replay.specs.Stream.{BrokeStream}
use Rattle.trace_replay.proofs.GivenLemmas.{answers_in-append, answers_in-taking, lines_given-append, lines_given-taking}
use Rattle.trace_replay.proofs.SaidLemmas.{said_none, said_then, said_part-then}

-- ---- the line after the first ones

pub get_front : (xs ys : List Line) (i : ℕ) → i < length xs → slice_get (xs ++ ys) i ≡ slice_get xs i
get_front [] ys i less = absurd (omega arith)
get_front (x ∷ xs) ys zero less = refl
get_front (x ∷ xs) ys (suc i) less = get_front xs ys i (omega (arith, less))

pub get_behind : (xs ys : List Line) (i k : ℕ) → i ≡ length xs + k → slice_get (xs ++ ys) i ≡ slice_get ys k
get_behind [] ys i k is = ap (slice_get ys) (omega (arith, is))
get_behind (x ∷ xs) ys zero k is = absurd (omega (arith, is))
get_behind (x ∷ xs) ys (suc i) k is = get_behind xs ys i k (omega (arith, is))

-- there is such a line, and it is the first of the lines that are left
pub get_left : (xs : List Line) (i : ℕ) (l : Line) → slice_get xs i ≡ Some l → (i < length xs) × (drop i xs ≡ l ∷ drop (i + 1) xs)
get_left xs i l is = (slice_get_within xs i l is, drop_more xs i l (slice_get_within xs i l is) ∙ ap (λ (y : Line). y ∷ drop (i + 1) xs) (get_or_from_slice_get xs i l l is))

pub get_none : (xs : List Line) (i : ℕ) → slice_get xs i ≡ None → drop i xs ≡ []
get_none [] zero is = refl
get_none [] (suc i) is = refl
get_none (x ∷ xs) zero is = absurd (cc)
get_none (x ∷ xs) (suc i) is = get_none xs i is

-- ---- lines as numbers

outcome_same : (o : Outcome) → outcome_of (outcome_number o) ≡ o
outcome_same outcome.Blank = refl
outcome_same outcome.Whole = refl
outcome_same outcome.Torn = refl
outcome_same outcome.Mixed = refl

pub lines_same : (lines : List Line) → lines_numbered (numbers_of lines) ≡ lines
lines_same [] = refl
lines_same (line.Write lba count tag ∷ lines) = ap (λ (r : List Line). line.Write lba count tag ∷ r) (lines_same lines)
lines_same (line.Read lba count ∷ lines) = ap (λ (r : List Line). line.Read lba count ∷ r) (lines_same lines)
lines_same (line.Flush ∷ lines) = ap (λ (r : List Line). line.Flush ∷ r) (lines_same lines)
lines_same (line.Idle ∷ lines) = ap (λ (r : List Line). line.Idle ∷ r) (lines_same lines)
lines_same (line.Stop after o ∷ lines) = ap (λ (k : Outcome). line.Stop after k ∷ lines_numbered (numbers_of lines)) (outcome_same o) ∙ ap (λ (r : List Line). line.Stop after o ∷ r) (lines_same lines)
lines_same (line.Cut o ∷ lines) = ap (λ (k : Outcome). line.Cut k ∷ lines_numbered (numbers_of lines)) (outcome_same o) ∙ ap (λ (r : List Line). line.Cut o ∷ r) (lines_same lines)
lines_same (line.Nothing ∷ lines) = ap (λ (r : List Line). line.Nothing ∷ r) (lines_same lines)

-- ---- the relation then

pub held_first : (lines : List Line) (b : SinkState) → CameHeld (lines_numbered (numbers_of lines)) lines 0 b b []
held_first lines b = record { lines = ap (map accepted) (lines_same lines); numbered = refl; said = said_none b }

module _ (all left : List Line) (n : ℕ) (x b : SinkState) (e : List Event) (came : CameHeld all left n x b e) where
  -- saying something changes nothing of the lines
  held_more : (y : SinkState) (more : List Event) → lines_given more ≡ [] → Said b y (answers_in (e ++ more)) → CameHeld all left n y b (e ++ more)
  held_more y more none said = record {
    lines = came.lines ∙ ap (λ (ls : List Line). map accepted ls ++ map accepted left) (sym same);
    numbered = came.numbered ∙ ap (λ (ls : List Line). length ls) (sym same);
    said = said;
  }
    where
      same : lines_given (e ++ more) ≡ lines_given e
      same = lines_given-append e more ∙ ap (λ (r : List Line). lines_given e ++ r) none ∙ append-nil (lines_given e)

  -- these events say nothing
  held_silent : (more : List Event) → lines_given more ≡ [] → answers_in more ≡ [] → CameHeld all left n x b (e ++ more)
  held_silent more given none = held_more x more given (subst (λ (r : List Answer). Said b x r) (sym (answers_in-append e more ∙ ap (λ (r : List Answer). answers_in e ++ r) none ∙ append-nil (answers_in e))) came.said)

  pub held_none : CameHeld all left n x b (e ++ [])
  held_none = held_silent [] refl refl

  pub held_said_none : (y : SinkState) → Said x y [] → CameHeld all left n y b (e ++ [])
  held_said_none y said = held_more y [] refl (subst (λ (r : List Answer). Said b y r) (sym (answers_in-append e [])) (said_then b x y (answers_in e) [] came.said said))

  pub held_touched : (lba : ℕ) (block : Block) → CameHeld all left n x b (e ++ Touched lba block ∷ [])
  held_touched lba block = held_silent (Touched lba block ∷ []) refl refl

  -- answers that were said
  pub held_takes : (y : SinkState) (given : List Answer) → Said x y given → CameHeld all left n y b (e ++ taking given)
  held_takes y given said = held_more y (taking given) (lines_given-taking given) (subst (λ (r : List Answer). Said b y r) (sym (answers_in-append e (taking given) ∙ ap (λ (r : List Answer). answers_in e ++ r) (answers_in-taking given))) (said_then b x y (answers_in e) given came.said said))

  -- some answers were said, and a part of the next one
  pub held_breaks : (y : SinkState) (given : List Answer) (next : Answer) → SaidPart x y given (Some next) → BrokeStream b y (e ++ taking given) (Took next)
  held_breaks y given next part = subst (λ (r : List Answer). SaidPart b y r (Some next)) (sym (answers_in-append e (taking given) ∙ ap (λ (r : List Answer). answers_in e ++ r) (answers_in-taking given))) (said_part-then b x y (answers_in e) given (Some next) came.said part)

  pub held_broke : (y : SinkState) (given : Answer) → SaidPart x y [] (Some given) → BrokeStream b y e (Took given)
  held_broke y given part = subst (λ (r : List Answer). SaidPart b y r (Some given)) (append-nil (answers_in e)) (said_part-then b x y (answers_in e) [] (Some given) came.said part)

  -- the next line was given
  pub held_gave : (l : Line) (after : List Line) → left ≡ l ∷ after → CameHeld all after (n + 1) x b (e ++ Gave l ∷ [])
  held_gave l after is = record {
    lines =
        came.lines
        ∙ ap (λ (r : List Line). map accepted (lines_given e) ++ map accepted r) is
        ∙ sym (append_assoc (map accepted (lines_given e)) (accepted l ∷ []) (map accepted after))
        ∙ ap (λ (r : List Reading). r ++ map accepted after) (sym (map-append accepted (lines_given e) (l ∷ [])) ∙ ap (map accepted) (sym (lines_given-append e (Gave l ∷ []))));
    numbered =
        let more = ap (λ (ls : List Line). length ls) (lines_given-append e (Gave l ∷ [])) in
        let long = length-append (lines_given e) (l ∷ []) in
        let so_far = came.numbered in
        omega (arith, more, long, so_far);
    said = subst (λ (r : List Answer). Said b x r) (sym (answers_in-append e (Gave l ∷ []) ∙ append-nil (answers_in e))) came.said;
  }

  -- the number of the next line
  pub held_number : (k : ℕ) (cause : LineError) → k ≡ n + 1 → answer.Refused k cause ≡ refusal_after e cause
  held_number k cause is = ap (λ (j : ℕ). answer.Refused j cause) (is ∙ ap (λ (j : ℕ). j + 1) came.numbered)

  -- the refusal of the next line was said, all of it or a part
  pub held_says : (y : SinkState) (k : ℕ) (cause : LineError) → k ≡ n + 1 → Said x y (answer.Refused k cause ∷ []) → CameHeld all left n y b (e ++ taking (refusal_after e cause ∷ []))
  held_says y k cause is said = held_takes y (refusal_after e cause ∷ []) (subst (λ (given : Answer). Said x y (given ∷ [])) (held_number k cause is) said)

  pub held_says_part : (y : SinkState) (k : ℕ) (cause : LineError) → k ≡ n + 1 → SaidPart x y [] (Some (answer.Refused k cause)) → BrokeStream b y e (Took (refusal_after e cause))
  held_says_part y k cause is part = held_broke y (refusal_after e cause) (subst (λ (given : Answer). SaidPart x y [] (Some given)) (held_number k cause is) part)

  -- all lines were given
  pub held_all : left ≡ [] → map accepted (lines_given e) ≡ map accepted all
  held_all none = sym (came.lines ∙ ap (λ (r : List Line). map accepted (lines_given e) ++ map accepted r) none ∙ append-nil (map accepted (lines_given e)))

  -- the next line is a stop, and as many stops are armed as can be
  pub held_refused : {P : Type 0} (knows : SourceState → P → ℕ → List Reading → Bool → Type 0) (s : SourceState) (now : P) (armed : ℕ) (l : Line) (after : List Line) → knows s now (length (lines_given e)) (map accepted all) true
      → left ≡ l ∷ after → is_stop l ≡ true → 16 ≤ armed → NextRefused knows s now e armed TooManyStops
  held_refused knows s now armed l after known is stop many = record {
    all = map accepted all;
    whole = true;
    next = Ok l;
    left = map accepted after;
    known = known;
    front = came.lines ∙ ap (λ (r : List Line). map accepted (lines_given e) ++ map accepted r) is;
    why =
        let full : nat_le 16 armed ≡ true = grind (arith, nat_tests) in
        ap (λ (t : Bool). if t && nat_le 16 armed then Some TooManyStops else None) stop ∙ ap (λ (t : Bool). if t then Some TooManyStops else None) full;
  }

-- ---- lines that arm few stops

stops_more : (xs ys : List Line) → stops_held (xs ++ ys) ≡ stops_held xs + stops_held ys
stops_more [] ys = omega arith
stops_more (line.Stop after outcome ∷ xs) ys = let rest = stops_more xs ys in omega (arith, rest)
stops_more (line.Write lba count tag ∷ xs) ys = stops_more xs ys
stops_more (line.Read lba count ∷ xs) ys = stops_more xs ys
stops_more (line.Flush ∷ xs) ys = stops_more xs ys
stops_more (line.Idle ∷ xs) ys = stops_more xs ys
stops_more (line.Cut outcome ∷ xs) ys = stops_more xs ys
stops_more (line.Nothing ∷ xs) ys = stops_more xs ys

armed_one : (l : Line) (stops : List Stop) → length (arming l stops) ≤ length stops + stops_held (l ∷ [])
armed_one (line.Stop after outcome) stops = let long = length-append stops ((record { after = after; outcome = outcome }) ∷ []) in omega (arith, long)
armed_one (line.Write lba count tag) stops = omega arith
armed_one (line.Read lba count) stops = omega arith
armed_one line.Flush stops = omega arith
armed_one line.Idle stops = omega arith
armed_one (line.Cut outcome) stops = omega arith
armed_one line.Nothing stops = omega arith

-- no more stops are armed than there are lines that arm one
armed_few : (run : List Ran) → length (armed_after run) ≤ stops_held (lines_of run)
armed_few [] = omega arith
armed_few (ran ∷ earlier) =
    let rest = armed_few earlier in
    let left = length-drop ran.cuts (armed_after earlier) in
    let one = armed_one ran.line (drop ran.cuts (armed_after earlier)) in
    let both = stops_more (lines_of earlier) (ran.line ∷ []) in
    omega (arith, rest, left, one, both)

one_stop : (l : Line) → is_stop l ≡ true → stops_held (l ∷ []) ≡ 1
one_stop (line.Stop after outcome) is = refl
one_stop (line.Write lba count tag) is = absurd (cc)
one_stop (line.Read lba count) is = absurd (cc)
one_stop line.Flush is = absurd (cc)
one_stop line.Idle is = absurd (cc)
one_stop (line.Cut outcome) is = absurd (cc)
one_stop line.Nothing is = absurd (cc)

stops_front : (l : Line) (lines : List Line) → stops_held (l ∷ []) ≤ stops_held (l ∷ lines)
stops_front l lines = let both = stops_more (l ∷ []) lines in omega (arith, both)

-- so the next line is not refused
refused_never : (lines ran : List Line) (before armed : ℕ) (next : Reading) (left : List Reading) → map accepted lines ≡ map accepted ran ++ next ∷ left → before ≤ 16 → armed ≤ before + stops_held ran → before + stops_held lines ≤ 16
    → (cause : LineError) → refused_for armed next ≡ Some cause → ⊥
refused_never [] [] before armed next left front some few most cause why = cc
refused_never [] (r ∷ ran) before armed next left front some few most cause why = cc
refused_never (l ∷ lines) [] before armed (Err e) left front some few most cause why = cc
refused_never (l ∷ lines) [] before armed (Ok next) left front some few most cause why = elim (cases_Bool (is_stop next)) [
  | inl stop ↦
      let same : l ≡ next = cc in
      let one : stops_held (l ∷ []) ≡ 1 = ap (λ (k : Line). stops_held (k ∷ [])) same ∙ one_stop next stop in
      let first = stops_front l lines in
      let free : nat_le 16 armed ≡ false = (let less : armed < 16 = omega (arith, one, first, few, most) in grind (arith, nat_tests)) in
      let bad : None ≡ Some cause = sym (ap (λ (t : Bool). if t && nat_le 16 armed then Some TooManyStops else None) stop ∙ ap (λ (t : Bool). if t then Some TooManyStops else None) free) ∙ why in
      cc
  | inr other ↦ let bad : None ≡ Some cause = sym (ap (λ (t : Bool). if t && nat_le 16 armed then Some TooManyStops else None) other) ∙ why in cc
]
refused_never (l ∷ lines) (r ∷ ran) before armed next left front some few most cause why =
    let same : l ≡ r = cc in
    let one : stops_held (l ∷ []) ≡ stops_held (r ∷ []) = ap (λ (k : Line). stops_held (k ∷ [])) same in
    let all = stops_more (l ∷ []) lines in
    let given = stops_more (r ∷ []) ran in
    refused_never lines ran (before + stops_held (l ∷ [])) armed next left (cc) (omega (arith, all, most)) (omega (arith, one, given, few)) (omega (arith, all, most)) cause why

-- no line is refused in a run over them
pub held_never : (lines : List Line) (run : List Ran) (left : List Reading) (cause : LineError) → stops_held lines ≤ 16 → map accepted lines ≡ map accepted (lines_of run) ++ left → next_refusal run left ≡ Some cause → ⊥
held_never lines run [] cause most front why = cc
held_never lines run (Err e ∷ left) cause most front why = refused_never lines (lines_of run) 0 (length (armed_after run)) (Err e) left front (omega arith) (let few = armed_few run in omega (arith, few)) (omega (arith, most)) cause why
held_never lines run (Ok l ∷ left) cause most front why = refused_never lines (lines_of run) 0 (length (armed_after run)) (Ok l) left front (omega arith) (let few = armed_few run in omega (arith, few)) (omega (arith, most)) cause why
