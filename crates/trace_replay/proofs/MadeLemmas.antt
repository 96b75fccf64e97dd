-- A script over a made trace, one event after the other, and what a run of that script says.
use Rattle.std.proofs.Common.{◌≡◌, ◌+◌, ◌-◌, ◌≤◌, ◌<◌, ◌++◌, ℕ, zero, suc, Bool, true, false, not, nat_lt, List, [], ◌∷◌, length, map, refl, sym, ap, ◌∙◌, subst, append_assoc, Option, Some, None, IfSome, Result, Ok, Err, IfErr, IsErrOf, take, inl, inr, arith}
use Rattle.std.specs.Io.KnownBytes.{Appends}
use Rattle.std.specs.List.{list_all}
use Rattle.std.proofs.lemmas.Bool.{and_parts, cases_Bool}
use Rattle.std.proofs.lemmas.List.{append-nil, map-append}
use Rattle.std.proofs.lemmas.List.Elements.{filter-append}
use Rattle.ft_base.specs.declared.block.Block.{Block}
use Rattle.ft_base.specs.StreamState.{SinkState, SourceState}
use Rattle.trace_gen.specs.declared.trace.TraceGen.{TraceGen}
use Rattle.trace_gen.specs.Left.{lines_left}
use Rattle.trace_gen.specs.Made as made
use Rattle.trace_gen.specs.Made.{IsMadeLine, drawn, line_of_kind, lines_made}
use Rattle.trace_model.specs.declared.answer.Answer.{Answer}
use Rattle.trace_model.specs.declared.line.Line.{Line}
use Rattle.trace_model.specs.declared.line.Line.TheVariants as line
use Rattle.trace_model.specs.declared.line.LineError.{LineError}
use Rattle.trace_model.specs.declared.ran.Ran.{Ran}
use Rattle.trace_model.specs.Lines.{IsRunnable}
use Rattle.trace_model.specs.Readings.{Reading, accepted}
use Rattle.trace_model.specs.Run.{lines_of}
use Rattle.trace_model.specs.SoFar.{is_stop, next_refusal}
use Rattle.trace_model.specs.Text.{text, text_of}
use Rattle.trace_replay.specs.declared.ended.Ended.{Ended}
use Rattle.trace_replay.specs.declared.ended.Ended.TheVariants as ended
use Rattle.trace_replay.specs.Commands.{Gives, TellsEndPart, ends_in, is_end}
use Rattle.trace_replay.specs.Events.{BreaksAfter, Event, SaysAlone, answers_in, events_of, lines_given}
use Rattle.trace_replay.specs.Events.Event.{Gave, Took, Touched}
use Rattle.trace_replay.specs.Made.{BrokeMade, CameMade, stand_in}
use Rattle.trace_replay.specs.Said.{Said, SaidPart, Takes}
use Rattle.trace_gen.proofs.MadeLemmas.{length-lines_made}
use Rattle.trace_replay.proofs.EndLineLemmas.{no_line}
use Rattle.trace_replay.proofs.GivenLemmas.{answers_in-append, lines_given-append}
use Rattle.trace_replay.proofs.SaidLemmas.{said_none, said_on, said_part-then, said_then}
use Rattle.trace_replay.proofs.ToldLemmas.{said_of}

-- ---- a line of a made trace

pub made_runs : (size : ℕ) (l : Line) → IsMadeLine size l → IsRunnable size l
made_runs size (line.Write lba count tag) is = (is.0.some, is.0.within)
made_runs size (line.Read lba count) is = (is.some, is.within)
made_runs size line.Flush is = tt
made_runs size line.Idle is = tt
made_runs size (line.Stop after outcome) is = absurd is
made_runs size (line.Cut outcome) is = tt
made_runs size line.Nothing is = tt

pub made_goes_on : (size : ℕ) (l : Line) → IsMadeLine size l → is_stop l ≡ false
made_goes_on size (line.Write lba count tag) is = refl
made_goes_on size (line.Read lba count) is = refl
made_goes_on size line.Flush is = refl
made_goes_on size line.Idle is = refl
made_goes_on size (line.Stop after outcome) is = absurd is
made_goes_on size (line.Cut outcome) is = refl
made_goes_on size line.Nothing is = refl

-- ---- an event more

end_alone : (a : Answer) → is_end a ≡ true → ends_in (a ∷ []) ≡ a ∷ []
end_alone a is = rw is refl

no_end_alone : (a : Answer) → is_end a ≡ false → ends_in (a ∷ []) ≡ []
no_end_alone a is = rw is refl

ends_more : (e more : List Event) → ends_in (answers_in (e ++ more)) ≡ ends_in (answers_in e) ++ ends_in (answers_in more)
ends_more e more = ap ends_in (answers_in-append e more) ∙ filter-append is_end (answers_in e) (answers_in more)

module _ (left : List Line) (x : SinkState) (s : SourceState) (b : SinkState) (e : List Event) (came : CameMade left x s b e) where
  -- saying something changes nothing of the lines
  made_more : (y : SinkState) (more : List Event) → lines_given more ≡ [] → Said b y (ends_in (answers_in (e ++ more))) → CameMade left y s b (e ++ more)
  made_more y more none said = record {
    lines = came.lines ∙ ap (λ (ls : List Line). map accepted ls ++ map accepted left) (sym same);
    said = said;
  }
    where
      same : lines_given (e ++ more) ≡ lines_given e
      same = lines_given-append e more ∙ ap (λ (r : List Line). lines_given e ++ r) none ∙ append-nil (lines_given e)

  -- these events say no end line
  made_silent : (more : List Event) → lines_given more ≡ [] → ends_in (answers_in more) ≡ [] → CameMade left x s b (e ++ more)
  made_silent more given none =
      made_more x more given (subst (λ (r : List Answer). Said b x r) (sym (ends_more e more ∙ ap (λ (r : List Answer). ends_in (answers_in e) ++ r) none ∙ append-nil (ends_in (answers_in e)))) came.said)

  pub made_none : CameMade left x s b (e ++ [])
  made_none = made_silent [] refl refl

  pub made_touched : (lba : ℕ) (block : Block) → CameMade left x s b (e ++ Touched lba block ∷ [])
  made_touched lba block = made_silent (Touched lba block ∷ []) refl refl

  pub made_unsaid : (a : Answer) → is_end a ≡ false → CameMade left x s b (e ++ Took a ∷ [])
  made_unsaid a is = made_silent (Took a ∷ []) refl (no_end_alone a is)

  pub made_said : (y : SinkState) (a : Answer) → is_end a ≡ true → Said x y (a ∷ []) → CameMade left y s b (e ++ Took a ∷ [])
  made_said y a is said =
      made_more y (Took a ∷ []) refl (
      subst (λ (r : List Answer). Said b y r) (sym (ends_more e (Took a ∷ []) ∙ ap (λ (r : List Answer). ends_in (answers_in e) ++ r) (end_alone a is)))
      (said_then b x y (ends_in (answers_in e)) (a ∷ []) came.said said))

  pub made_gave : (l : Line) (after : List Line) → left ≡ l ∷ after → CameMade after x s b (e ++ Gave l ∷ [])
  made_gave l after is = record {
    lines =
        came.lines
        ∙ ap (λ (r : List Line). map accepted (lines_given e) ++ map accepted r) is
        ∙ sym (append_assoc (map accepted (lines_given e)) (accepted l ∷ []) (map accepted after))
        ∙ ap (λ (r : List Reading). r ++ map accepted after) (sym (map-append accepted (lines_given e) (l ∷ [])) ∙ ap (map accepted) (sym (lines_given-append e (Gave l ∷ []))));
    said = subst (λ (r : List Answer). Said b x r) (sym (ends_more e (Gave l ∷ []) ∙ append-nil (ends_in (answers_in e)))) came.said;
  }

  -- the relation if the sink failed
  pub made_broke : (y : SinkState) (a : Answer) → is_end a ≡ true → SaidPart x y [] (Some a) → BrokeMade b y e (Took a)
  made_broke y a is part = (is, subst (λ (r : List Answer). SaidPart b y r (Some a)) (append-nil (ends_in (answers_in e))) (said_part-then b x y (ends_in (answers_in e)) [] (Some a) came.said part))

pub if_both : (r : Option Line) (P Q S : Line → Type 0) → ((l : Line) → P l → Q l → S l) → IfSome r P → IfSome r Q → IfSome r S
if_both None P Q S both first next = tt
if_both (Some l) P Q S both first next = both l first next

pub at_err : {T : Type 0} (r : Result T Ended) (p q : Ended → Type 0) → IfErr r p → ((e : Ended) → r ≡ Err e → p e → q e) → IfErr r q
at_err (Ok value) p q holds follows = tt
at_err (Err e) p q holds follows = follows e refl holds

-- the sink failed within the text of an answer
pub sink_part : {T : Type 0} (r : Result T Ended) (x y : SinkState) (a : Answer) → IsErrOf r ended.Sink → IfErr r (λ e. Takes e (Said x y) (SaidPart x y) [] (a ∷ [])) → SaidPart x y [] (Some a)
sink_part (Ok value) x y a is takes = absurd (cc)
sink_part (Err e) x y a is takes = let sink : e ≡ ended.Sink = cc in subst (λ (f : Ended). Takes f (Said x y) (SaidPart x y) [] (a ∷ [])) sink takes

-- one line fewer is left
pub one_less : (xs ys : List Line) (l : Line) → xs ≡ l ∷ ys → length ys + 1 ≤ length xs
one_less xs ys l is = let long : length xs ≡ suc (length ys) = ap length is in omega (arith, long)

-- ---- from the start

-- no more lines are left than the trace has
pub few_left : (g : TraceGen) (most : ℕ) → g.count < most → length (lines_left g) < most
few_left g most few =
    let left = length-lines_made g.size g.hot (g.given + 1) (g.count - g.given) g.words in
    omega (arith, left)

pub made_first : (g : TraceGen) (b : SinkState) → CameMade (lines_left g) b (stand_in g) b []
made_first g b = record { lines = refl; said = said_none b }

-- ---- what a run says

ends_told : (run : List Ran) (answers : List Answer) (more : List Event) → answers_in more ≡ answers → ends_in (answers_in (events_of run ++ more)) ≡ ends_in answers
ends_told run answers more is = said_of is_end no_line run answers more is

-- if the sink took this text in the end
pub told_end : (x y : SinkState) (taken : Option (List ℕ)) (faults : ℕ) → y.taken ≡ taken → y.faults ≡ faults → (run : List Ran) (answers : List Answer) (more : List Event) → answers_in more ≡ answers → Said x y (ends_in (answers_in (events_of run ++ more)))
    → Appends x.taken taken (text (ends_in answers)) × (faults ≡ x.faults)
told_end x y taken faults same_taken same_faults run answers more is said = said_on x y taken faults same_taken same_faults _ (subst (λ (r : List Answer). Said x y r) (ends_told run answers more is) said)

-- a part of one more answer, if the sink failed
abbrev pub BrokenBy : SinkState → SinkState → List Ran → List Answer → Option Answer → Type 0
BrokenBy x y run answers None = (line : Line) × (more : List Event) × SaysAlone answers more × BrokeMade x y (events_of run ++ more) (Gave line)
BrokenBy x y run answers (Some next) = (more : List Event) × BreaksAfter run answers next more × BrokeMade x y (events_of run ++ more) (Took next)

pub shown_end : (x y : SinkState) (taken : Option (List ℕ)) → y.taken ≡ taken → (run : List Ran) (answers : List Answer) (next : Option Answer) → BrokenBy x y run answers next → TellsEndPart x (record { taken = taken; faults = 0; lent = [] }) run answers next
shown_end x y taken same run answers None part = absurd part.3
shown_end x y taken same run answers (Some next) part =
    let shown = subst (λ (r : List Answer). SaidPart x y r (Some next)) (ends_told run answers part.0 part.1.said) part.2.1 in
    (part.2.0, (shown.0, shown.1, subst (λ (z : Option (List ℕ)). Appends x.taken z (text (ends_in answers) ++ take shown.0 (text_of next))) same shown.2))

-- ---- nothing is refused

abbrev goes_on : Line → Bool
goes_on l = not (is_stop l)

kind_goes_on : (kind first count number : ℕ) → goes_on (line_of_kind kind first count number) ≡ true
kind_goes_on kind first count number = elim (cases_Bool (nat_lt kind 50)) [
  | inl writes ↦ rw writes refl
  | inr other ↦ elim (cases_Bool (nat_lt kind 90)) [
    | inl reads ↦ rw (other, reads) refl
    | inr rest ↦ elim (cases_Bool (nat_lt kind 97)) [
      | inl idle ↦ rw (other, rest, idle) refl
      | inr flush ↦ rw (other, rest, flush) refl
    ]
  ]
]

all_go_on : (size hot number count : ℕ) (g : _) → list_all goes_on (lines_made size hot number count g) ≡ true
unfolding made.lines_made
all_go_on size hot number zero g = refl
all_go_on size hot number (suc count) g = rw (kind_goes_on _ _ _ number) (all_go_on size hot (number + 1) count (drawn g).1)

not_refused : (run : List Ran) (lines ran : List Line) (left : List Reading) (cause : LineError) → list_all goes_on lines ≡ true → map accepted lines ≡ map accepted ran ++ left → next_refusal run left ≡ Some cause → ⊥
not_refused run lines ran [] cause go front why = cc
not_refused run [] [] (next ∷ left) cause go front why = cc
not_refused run (l ∷ lines) [] (Err e ∷ left) cause go front why = cc
not_refused run (l ∷ lines) [] (Ok next ∷ left) cause go front why =
    let same : l ≡ next = cc in
    elim (cases_Bool (is_stop next)) [
      | inl stop ↦ let bad : false ≡ true = rw (same, stop) at go in cc
      | inr other ↦ let bad : None ≡ Some cause = rw other at why in cc
    ]
not_refused run [] (r ∷ ran) (next ∷ left) cause go front why = cc
not_refused run (l ∷ lines) (r ∷ ran) (next ∷ left) cause go front why =
    not_refused run lines ran (next ∷ left) cause (and_parts (goes_on l) (list_all goes_on lines) go).1 (cc) why

-- so no line of a made trace is refused
pub never_refused : (g : TraceGen) (run : List Ran) (all left : List Reading) (given : ℕ) (whole : Bool) (cause : LineError) → Gives (lines_left g) given all whole → all ≡ map accepted (lines_of run) ++ left → next_refusal run left ≡ Some cause → ⊥
never_refused g run all left given whole cause gives front why =
    not_refused run (lines_left g) (lines_of run) left cause (all_go_on g.size g.hot (g.given + 1) (g.count - g.given) g.words) (sym gives.0 ∙ front) why
