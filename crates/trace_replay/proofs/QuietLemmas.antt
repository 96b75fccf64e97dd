-- A script that says nothing but a refusal, one event after the other, and what a run of that script says.
use Rattle.std.proofs.Common.{filter, ◌≡◌, ◌+◌, ◌++◌, ℕ, Bool, true, false, List, [], ◌∷◌, length, map, take, refl, sym, ap, ◌∙◌, subst, Option, Some, None}
use Rattle.std.specs.Io.KnownBytes.{Appends, Keeps}
use Rattle.std.proofs.lemmas.List.{append-nil}
use Rattle.std.proofs.lemmas.List.Elements.{filter-append}
use Rattle.sha2.specs.Hashers.{Holds256}
use Rattle.sha2.specs.declared.Sha256.{Sha256}
use Rattle.ft_base.specs.StreamState.{SinkState, SourceState}
use Rattle.trace_model.specs.declared.answer.Answer.{Answer}
use Rattle.trace_model.specs.declared.answer.Answer.TheVariants as answer
use Rattle.trace_model.specs.declared.line.Line.{Line}
use Rattle.trace_model.specs.declared.line.LineError.{LineError}
use Rattle.trace_model.specs.declared.ran.Ran.{Ran}
use Rattle.trace_model.specs.Readings.{Reading, accepted}
use Rattle.trace_model.specs.Run.{end_answers, end_of, lost_told, stopped}
use Rattle.trace_model.specs.Text.{text, text_of}
use Rattle.trace_replay.specs.declared.reader.Reader.{Reader}
use Rattle.trace_replay.specs.Commands.{TellsRefusalPart, is_refusal, refusals_in}
use Rattle.trace_replay.specs.Events.{BreaksAfter, Event, NextRefused, SaysAlone, answers_in, events_of, lines_given, refusal_after, taking, told_bytes}
use Rattle.trace_replay.specs.Events.Event.{Gave, Took, Touched}
use Rattle.trace_replay.specs.Forms.{Form, ReadsBy, Says}
use Rattle.trace_replay.specs.Quiet.{given_heard, heard, is_heard, lines_heard}
use Rattle.trace_replay.specs.Said.{Said, SaidPart}
use Rattle.trace_replay.specs.Stream.{BrokeStream, CameStream}
use Rattle.trace_replay.proofs.SaidLemmas.{said_on}
use Rattle.trace_replay.proofs.ToldLemmas.{SkipsLines, none_lost, none_stopped, said_of}

-- ---- the events that are heard

heard_more : (e more : List Event) → heard (e ++ more) ≡ heard e ++ heard more
heard_more e more = filter-append is_heard e more

heard_alone : (event : Event) → is_heard event ≡ true → heard (event ∷ []) ≡ event ∷ []
heard_alone event is = rw is refl

unheard_alone : (event : Event) → is_heard event ≡ false → heard (event ∷ []) ≡ []
unheard_alone event is = rw is refl

refusal_heard : (e : List Event) (cause : LineError) → refusal_after (heard e) cause ≡ refusal_after e cause
refusal_heard e cause = ap (λ (lines : List Line). answer.Refused (length lines + 1) cause) (lines_heard e)

-- ---- what is known of the lines

pub reads_heard : (form : Says) (s a : SourceState) (e : List Event) (whole : Bool) → ReadsBy form s a (length (lines_given (heard e))) (map accepted (lines_given (heard e))) whole
    → ReadsBy form s a (length (lines_given e)) (map accepted (lines_given e)) whole
reads_heard form s a e whole reads = subst (λ (lines : List Line). ReadsBy form s a (length lines) (map accepted lines) whole) (lines_heard e) reads

-- if the next line is refused among the lines that were heard, it is refused among all lines
pub refused_heard : {P Q : Type 0} (knows : SourceState → P → ℕ → List Reading → Bool → Type 0) {knew : SourceState → Q → ℕ → List Reading → Bool → Type 0} (now : P) {was : Q} (s : SourceState) (e : List Event) (armed : ℕ) (cause : LineError)
    → ((lines : ℕ) (all : List Reading) (whole : Bool) → knew s was lines all whole → knows s now lines all whole) → NextRefused knew s was (heard e) armed cause → NextRefused knows s now e armed cause
refused_heard knows now s e armed cause known refused = record {
  all = refused.all;
  whole = refused.whole;
  next = refused.next;
  left = refused.left;
  known = subst (λ (lines : List Line). knows s now (length lines) refused.all refused.whole) (lines_heard e) (known _ _ _ refused.known);
  front = given_heard refused.all (refused.next ∷ refused.left) e refused.front;
  why = refused.why;
}

-- ---- the relation on the stream that takes the events that are heard

-- the stream came by these events
abbrev pub Stands : Form → Reader → SourceState → SinkState → Sha256 → SourceState → SinkState → List Event → Type 0
Stands form r a x h s b es = CameStream form r a x s b es × Holds256 h (told_bytes es)

module _ (form : Form) (r : Reader) (a : SourceState) (x : SinkState) (h : Sha256) (s : SourceState) (b : SinkState) (e : List Event) where
  pub stands_heard : (more : List Event) → Stands form r a x h s b (heard e ++ heard more) → Stands form r a x h s b (heard (e ++ more))
  stands_heard more is = subst (λ (es : List Event). Stands form r a x h s b es) (sym (heard_more e more)) is

  pub stands_unheard : (event : Event) → is_heard event ≡ false → Stands form r a x h s b (heard e) → Stands form r a x h s b (heard (e ++ event ∷ []))
  stands_unheard event not is = stands_heard (event ∷ []) (subst (λ (es : List Event). Stands form r a x h s b es) (sym (ap (λ (es : List Event). heard e ++ es) (unheard_alone event not) ∙ append-nil (heard e))) is)

  pub stands_took : (given : Answer) → is_refusal given ≡ true → Stands form r a x h s b (heard e ++ Took given ∷ []) → Stands form r a x h s b (heard (e ++ Took given ∷ []))
  stands_took given is took = stands_heard (Took given ∷ []) (subst (λ (es : List Event). Stands form r a x h s b (heard e ++ es)) (sym (heard_alone (Took given) is)) took)

  -- the next line is refused, and that was said
  pub stands_refused : (cause : LineError) → Stands form r a x h s b (heard e ++ taking (refusal_after (heard e) cause ∷ [])) → Stands form r a x h s b (heard (e ++ taking (refusal_after e cause ∷ [])))
  stands_refused cause said = stands_took (refusal_after e cause) refl (subst (λ (given : Answer). Stands form r a x h s b (heard e ++ Took given ∷ [])) (refusal_heard e cause) said)

-- or a part of the refusal was said
pub broke_refusal : (b y : SinkState) (e : List Event) (cause : LineError) → BrokeStream b y (heard e) (Took (refusal_after (heard e) cause)) → BrokeStream b y (heard e) (Took (refusal_after e cause))
broke_refusal b y e cause broke = subst (λ (given : Answer). BrokeStream b y (heard e) (Took given)) (refusal_heard e cause) broke

-- ---- what a run says

no_line : SkipsLines is_refusal
no_line = record { wrote = λ lba count. refl; stopped = refl; kept = λ kept count. refl; lost = λ _. refl; read = λ lba tag. refl; flushed = refl; idle = refl; cut = refl }

refusals_heard : (e : List Event) → answers_in (heard e) ≡ refusals_in (answers_in e)
refusals_heard [] = refl
refusals_heard (Gave l ∷ e) = refusals_heard e
refusals_heard (Took (answer.Refused n cause) ∷ e) = ap (λ (r : List Answer). answer.Refused n cause ∷ r) (refusals_heard e)
refusals_heard (Took other ∷ e) = refusals_heard e
refusals_heard (Touched lba block ∷ e) = refusals_heard e

refusals_told : (run : List Ran) (answers : List Answer) (more : List Event) → answers_in more ≡ answers → answers_in (heard (events_of run ++ more)) ≡ refusals_in answers
refusals_told run answers more is = refusals_heard (events_of run ++ more) ∙ said_of is_refusal no_line run answers more is

pub told_refusal : (x y : SinkState) (taken : Option (List ℕ)) (faults : ℕ) → y.taken ≡ taken → y.faults ≡ faults → (run : List Ran) (answers : List Answer) (more : List Event) → answers_in more ≡ answers → Said x y (answers_in (heard (events_of run ++ more)))
    → Appends x.taken taken (text (refusals_in answers)) × (faults ≡ x.faults)
told_refusal x y taken faults same_taken same_faults run answers more is said = said_on x y taken faults same_taken same_faults _ (subst (λ (r : List Answer). Said x y r) (refusals_told run answers more is) said)

-- a part of one more answer, if the sink failed
abbrev pub BrokenBy : SinkState → SinkState → List Ran → List Answer → Option Answer → Type 0
BrokenBy x y run answers None = (line : Line) × (more : List Event) × SaysAlone answers more × ((is_heard (Gave line) ≡ true) × BrokeStream x y (heard (events_of run ++ more)) (Gave line))
BrokenBy x y run answers (Some next) = (more : List Event) × BreaksAfter run answers next more × ((is_refusal next ≡ true) × BrokeStream x y (heard (events_of run ++ more)) (Took next))

pub shown_refusal : (x y : SinkState) (taken : Option (List ℕ)) → y.taken ≡ taken → (run : List Ran) (answers : List Answer) (next : Option Answer) → BrokenBy x y run answers next
    → TellsRefusalPart x (record { taken = taken; faults = 0; lent = [] }) run answers next
shown_refusal x y taken same run answers None part = absurd part.3.1
shown_refusal x y taken same run answers (Some next) part =
    let shown = subst (λ (r : List Answer). SaidPart x y r (Some next)) (refusals_told run answers part.0 part.1.said) part.2.1 in
    (part.2.0, (shown.0, shown.1, subst (λ (z : Option (List ℕ)). Appends x.taken z (text (refusals_in answers) ++ take shown.0 (text_of next))) same shown.2))

-- the answers of the end hold no refusal, so nothing was said
pub told_nothing : (a b : Option (List ℕ)) (run : List Ran) (cuts lost : ℕ) → Appends a b (text (refusals_in (end_answers run cuts lost))) → Keeps a b
told_nothing a b run cuts lost said = keeps a b (subst (λ (r : List Answer). Appends a b (text r)) none said)
  where
    none : refusals_in (end_answers run cuts lost) ≡ []
    none =
        filter-append is_refusal (stopped cuts) (lost_told lost ++ end_of lost run ∷ [])
        ∙ ap (λ (r : List Answer). r ++ filter is_refusal (lost_told lost ++ end_of lost run ∷ [])) (none_stopped is_refusal no_line cuts)
        ∙ filter-append is_refusal (lost_told lost) (end_of lost run ∷ [])
        ∙ ap (λ (r : List Answer). r ++ []) (none_lost is_refusal no_line lost)

    keeps : (a b : Option (List ℕ)) → Appends a b [] → Keeps a b
    keeps None b said = tt
    keeps (Some xs) None said = absurd said
    keeps (Some xs) (Some ys) said = said ∙ append-nil xs
