-- The runs of a sweep, one behind the other, and how a run breaks off.
use Rattle.std.proofs.Common.{◌≡◌, ◌⊎◌, inl, inr, true, ◌≤◌, ◌<◌, ℕ, ◌+◌, List, [], ◌∷◌, ◌++◌, length, take, Option, Some, None, Result, Ok, Err, OnOk, OnErr, IfErr, IsErrOf, refl, sym, ◌∙◌, subst, append_assoc, arith}
use Rattle.std.proofs.KnownBytes.{Appends-nil, Appends-trans}
use Rattle.std.proofs.lemmas.List.{append-nil}
use Rattle.std.specs.Io.KnownBytes.{Appends}
use Rattle.std.specs.Result.{IsErrAnd}
use Rattle.ft_base.specs.Count.{Rose}
use Rattle.ft_base.specs.Contents.{Image}
use Rattle.ft_base.specs.PlainDisk.{PlainDisk}
use Rattle.ft_base.specs.StreamState.{SinkState}
use Rattle.ft_base.specs.Told.{Told}
use Rattle.ft_base.specs.declared.power.Outcome.{Outcome}
use Rattle.ft_media.specs.State.{State}
use Rattle.trace_model.specs.declared.answer.Answer.{Answer}
use Rattle.trace_model.specs.declared.line.Line.{Line}
use Rattle.trace_model.specs.declared.ran.Ran.{Ran}
use Rattle.trace_model.specs.Run.{told}
use Rattle.trace_model.specs.SoFar.{WasRun}
use Rattle.trace_model.specs.Text.{text, text_of}
use Rattle.trace_replay.specs.declared.ended.Ended.{Ended}
use Rattle.trace_replay.specs.declared.ended.Ended.TheVariants as ended
use Rattle.trace_replay.specs.Causes.{EndHasCauseUntraced, KeepsStreamsUntraced}
use Rattle.trace_replay.specs.Commands.{Gives}
use Rattle.trace_replay.specs.Said.{NoneFailed, Tells, TellsPart}
use Rattle.trace_replay.specs.Theorem.{EndsAs, EndsPart, RunsWhole}
use Rattle.trace_replay.proofs.CutsLemmas.{counts_none, counts_then, failed_then, none_failed}
use Rattle.trace_replay.proofs.ExitLemmas.{exit_as, rose_later}
use Rattle.trace_replay.proofs.FromLemmas.{before_itself, part_from}
use Rattle.cache_run.proofs.CostLemmas.{printed_only}
use Rattle.cache_run.proofs.CountLemmas.{ends_on, exit_back}
use Rattle.cache_run.specs.Begun.{IsUnbegun}
use Rattle.cache_run.specs.Fitted.{fitted_for}
use Rattle.trace_sweep.specs.Ends.{BreaksAt, BreaksOver, PrintsPart, TellsBehind, TellsPartBehind}
use Rattle.trace_sweep.specs.Runs.{Swept, at_text, stops_at, sweep_text}
use Rattle.trace_sweep.specs.SoFar.{BreaksSweep, HasSwept, RunsAt}

-- ---- streams and rig, one step behind the other

pub streams_then : {a b c : SinkState} {old mid now : State} → KeepsStreamsUntraced a b old mid → KeepsStreamsUntraced b c mid now → KeepsStreamsUntraced a c old now
streams_then {old = old} {mid = mid} {now = now} first next = record {
  counts = counts_then old.counts mid.counts now.counts first.counts next.counts;
  sink_later = (let p = first.sink_later in let q = next.sink_later in omega (arith, p, q));
  flash_later = (let p = first.flash_later in let q = next.flash_later in omega (arith, p, q));
  disk_later = (let p = first.disk_later in let q = next.disk_later in omega (arith, p, q));
  lent = record { sink_lent = next.lent.sink_lent ∙ first.lent.sink_lent; rig_lent = next.lent.rig_lent ∙ first.lent.rig_lent };
}

-- the rig does nothing while a line is printed
pub streams_printed : {a b : SinkState} (now : State) → a.faults ≤ b.faults → b.lent ≡ a.lent → KeepsStreamsUntraced a b now now
streams_printed now later lent = record { counts = counts_none now.counts; sink_later = later; flash_later = omega arith; disk_later = omega arith; lent = record { sink_lent = lent; rig_lent = refl } }

-- nothing failed so far
pub record NothingFailed (a b : SinkState) (old mid : State) : Type 0 where
  pub sink : b.faults ≡ a.faults
  pub devices : NoneFailed old mid

pub nothing_none : (a : SinkState) (old : State) → NothingFailed a a old old
nothing_none a old = record { sink = refl; devices = none_failed old }

pub nothing_then : {a b c : SinkState} {old mid now : State} → NothingFailed a b old mid → NothingFailed b c mid now → NothingFailed a c old now
nothing_then {old = old} {mid = mid} {now = now} first next = record { sink = next.sink ∙ first.sink; devices = failed_then old mid now first.devices next.devices }

-- so says a whole run
pub nothing_by : {a b : SinkState} {old now : State} → EndHasCauseUntraced {T = Unit {0}} (Ok tt) a b old now → NothingFailed a b old now
nothing_by causes = record { sink = causes.sink_stays (λ is. cc); devices = causes.none_failed (λ is. cc) (λ is. cc) }

pub causes_then : {T : Type 0} {r : Result T Ended} {a b c : SinkState} {old mid now : State} → KeepsStreamsUntraced a b old mid → NothingFailed a b old mid → EndHasCauseUntraced r b c mid now → EndHasCauseUntraced r a c old now
causes_then {old = old} {mid = mid} {now = now} first sound causes = record {
  not_trace = causes.not_trace;
  not_source = causes.not_source;
  sink = λ is. rose_later _ _ _ first.sink_later (causes.sink is);
  flash = λ is. rose_later _ _ _ first.flash_later (causes.flash is);
  disk = λ is. rose_later _ _ _ first.disk_later (causes.disk is);
  sink_stays = λ not. causes.sink_stays not ∙ sound.sink;
  none_failed = λ flash disk. failed_then old mid now sound.devices (causes.none_failed flash disk);
}

-- a line could not be printed whole
pub causes_printed : {a b : SinkState} {now : State} (r s : Result (Unit {0}) Ended) (from : Ended) → IsErrAnd s (λ e. e ≡ from) → r ≡ Err from → OnErr r (IsErrOf r ended.Sink ⊎ IsErrOf r ended.Memory)
    → (IsErrOf r ended.Sink → Rose a.faults b.faults) → ((IsErrOf r ended.Sink → ⊥) → b.faults ≡ a.faults) → EndHasCauseUntraced s a b now now
causes_printed {now = now} r s from is was only rose stays = record {
  not_trace = λ k. printed_only r ended.Trace (λ no. cc) (λ no. cc) only (was ∙ exit_back s from ended.Trace is k);
  not_source = λ k. printed_only r ended.Source (λ no. cc) (λ no. cc) only (was ∙ exit_back s from ended.Source is k);
  sink = λ k. rose (was ∙ exit_back s from ended.Sink is k);
  flash = λ k. absurd (printed_only r ended.Flash (λ no. cc) (λ no. cc) only (was ∙ exit_back s from ended.Flash is k));
  disk = λ k. absurd (printed_only r ended.Disk (λ no. cc) (λ no. cc) only (was ∙ exit_back s from ended.Disk is k));
  sink_stays = λ not. stays (λ k. not (exit_as s r from ended.Sink is was k));
  none_failed = λ _ _. none_failed now;
}

-- ---- a part of the text behind more

pub prints_then : (e : Ended) (a b c : SinkState) (before line : List ℕ) → Appends a.taken b.taken before → PrintsPart e [] line b c → PrintsPart e before line a c
prints_then ended.Sink a b c before line first part = (part.0, part.1, Appends-trans a.taken b.taken c.taken before (take part.0 line) first part.2)
prints_then ended.Trace a b c before line first part = subst (Appends a.taken c.taken) (append-nil before) (Appends-trans a.taken b.taken c.taken before [] first part)
prints_then ended.Source a b c before line first part = subst (Appends a.taken c.taken) (append-nil before) (Appends-trans a.taken b.taken c.taken before [] first part)
prints_then ended.Flash a b c before line first part = subst (Appends a.taken c.taken) (append-nil before) (Appends-trans a.taken b.taken c.taken before [] first part)
prints_then ended.Disk a b c before line first part = subst (Appends a.taken c.taken) (append-nil before) (Appends-trans a.taken b.taken c.taken before [] first part)
prints_then ended.Memory a b c before line first part = subst (Appends a.taken c.taken) (append-nil before) (Appends-trans a.taken b.taken c.taken before [] first part)

module _ (a b c : SinkState) (before behind : List ℕ) (first : Appends a.taken b.taken before) where
  tells_then : (run : List Ran) (answers : List Answer) → TellsBehind behind b c run answers → TellsBehind (before ++ behind) a c run answers
  tells_then run answers says =
      subst (Appends a.taken c.taken) (sym (append_assoc before behind (text (told run ++ answers)))) (Appends-trans a.taken b.taken c.taken before (behind ++ text (told run ++ answers)) first says)

  tells_part_then : (run : List Ran) (answers : List Answer) (next : Option Answer) → TellsPartBehind behind b c run answers next → TellsPartBehind (before ++ behind) a c run answers next
  tells_part_then run answers None part = part
  tells_part_then run answers (Some next) part = (
    part.0,
    part.1,
    subst (Appends a.taken c.taken) (sym (append_assoc before behind (text (told run ++ answers) ++ take part.0 (text_of next))))
        (Appends-trans a.taken b.taken c.taken before (behind ++ (text (told run ++ answers) ++ take part.0 (text_of next))) first part.2),
  )

-- a run's text holds nothing but its own lines
tells_itself : (a b c : SinkState) (before : List ℕ) → Appends a.taken b.taken before → (run : List Ran) (answers : List Answer) → Tells b c run answers → TellsBehind before a c run answers
tells_itself a b c before first run answers says = Appends-trans a.taken b.taken c.taken before (text (told run ++ answers)) first says.0

tells_part_itself : (a b c : SinkState) (before : List ℕ) → Appends a.taken b.taken before → (run : List Ran) (answers : List Answer) (next : Option Answer) → TellsPart b c run answers next → TellsPartBehind before a c run answers next
tells_part_itself a b c before first run answers None part = part
tells_part_itself a b c before first run answers (Some next) part =
    (part.0, part.1, Appends-trans a.taken b.taken c.taken before (text (told run ++ answers) ++ take part.0 (text_of next)) first part.2)

module _ {o : Told} {outcome : Outcome} {lines : List Line} {stands : Image → PlainDisk → Type 0} where
  over_then : (number : ℕ) (a b c : SinkState) (before behind : List ℕ) (now : State) (e : Ended) → Appends a.taken b.taken before → BreaksOver o outcome lines number behind b c stands now e
      → BreaksOver o outcome lines number (before ++ behind) a c stands now e
  over_then number a b c before behind now e first over = record {
    first = over.first;
    ended = part_from o (Gives (stops_at number outcome ++ lines)) (Gives (stops_at number outcome ++ lines)) (TellsBehind behind b c) (TellsBehind (before ++ behind) a c) stands stands
        (fitted_for o.geometry over.first) (fitted_for o.geometry over.first) now (λ n all w gives. gives) (tells_then a b c before behind first) (λ x d stood. stood) (before_itself (fitted_for o.geometry over.first))
        (TellsPartBehind behind b c) (TellsPartBehind (before ++ behind) a c) (tells_part_then a b c before behind first) e over.ended;
    on = over.on;
  }

  pub breaks_then : (number : ℕ) (a b c : SinkState) (before : List ℕ) (now : State) (e : Ended) → Appends a.taken b.taken before → BreaksAt o outcome lines number [] b c stands now e
      → BreaksAt o outcome lines number before a c stands now e
  breaks_then number a b c before now e first (inl part) = inl (prints_then e a b c before (at_text number) first part)
  breaks_then number a b c before now e first (inr (inl unbegun)) = inr (inl (unbegun.0, Appends-trans a.taken b.taken c.taken before (at_text number) first unbegun.1))
  breaks_then number a b c before now e first (inr (inr over)) = inr (inr (over_then number a b c before (at_text number) now e first over))

  -- ---- whole runs

  pub none_swept : (x : SinkState) (old : State) → HasSwept o outcome lines x x stands old old []
  none_swept x old = record { swept = tt; printed = Appends-nil x.taken; risen = λ low. omega arith; left = tt }

  pub has_more : (x m y : SinkState) (old mid now : State) (runs : List Swept) → HasSwept o outcome lines x m stands old mid runs
      → (at : RunsAt o outcome lines m y stands mid now (length runs + 1)) → HasSwept o outcome lines x y stands old now (at.s ∷ runs)
  has_more x m y old mid now runs has at = record {
    swept = (at.is, has.swept);
    printed = Appends-trans x.taken m.taken y.taken _ _ has.printed at.printed;
    risen = λ low. (let next = at.risen low in let before = has.risen (omega (arith, next, low)) in omega (arith, next, before));
    left = at.left;
  }

  -- these runs, and a part of the next one
  pub breaks_more : (count : ℕ) (x m y : SinkState) (old mid now : State) (runs : List Swept) (e : Ended) → length runs < count → HasSwept o outcome lines x m stands old mid runs
      → BreaksAt o outcome lines (length runs + 1) [] m y stands now e → BreaksSweep o outcome lines x y stands old now count e
  breaks_more count x m y old mid now runs e few has part = record { runs = runs; few = few; swept = has.swept; part = breaks_then (length runs + 1) x m y (sweep_text runs) now e has.printed part }

-- ---- one run

-- a run ended with this error, behind its own line
module _ (o : Told) (outcome : Outcome) (lines : List Line) (number : ℕ) {S : Type 0} (x m y : SinkState) (s z : S) (same : z ≡ s → y ≡ m) (stands : Image → PlainDisk → Type 0) (old now : State)
    (first : Appends x.taken m.taken (at_text number)) where
  abbrev Ends : Result (Unit {0}) Ended → Type 0
  Ends r = IsUnbegun r (tt {0}) (tt {0}) s z old now
      ⊎ EndsAs o (Gives (stops_at number outcome ++ lines)) (Tells m y) (TellsPart m y) stands (fitted_for o.geometry old) now r

  whole_at : RunsWhole o (Gives (stops_at number outcome ++ lines)) (Tells m y) stands (fitted_for o.geometry old) now → RunsAt o outcome lines x y stands old now number
  whole_at ran = record {
    s = record { run = ran.run; cuts = ran.cuts; lost = ran.lost };
    is = record { lines_run = subst (λ all. WasRun o all ran.run []) ran.trace.0 ran.lines; fits = ran.leaves.fits };
    printed = Appends-trans x.taken m.taken y.taken (at_text number) _ first ran.printed.0;
    risen = ran.leaves.risen;
    left = record { disk = ran.leaves.disk; stops = ran.leaves.stops };
  }

  pub run_whole : (r : Result (Unit {0}) Ended) → Ends r → OnOk r (RunsAt o outcome lines x y stands old now number)
  run_whole (Ok done) (inl unbegun) = absurd (elim unbegun.only [ inl is ↦ cc | inr (inl is) ↦ cc | inr (inr is) ↦ cc ])
  run_whole (Ok done) (inr ran) = whole_at ran
  run_whole (Err e) ends = tt

  -- power is on behind it
  pub run_on : (r : Result (Unit {0}) Ended) → Ends r → old.power.on ≡ true → ((IsErrOf r ended.Memory → ⊥) → now.power.on ≡ true) → now.power.on ≡ true
  run_on r (inr ran) was on = ends_on o (Gives (stops_at number outcome ++ lines)) (Tells m y) (TellsPart m y) stands (fitted_for o.geometry old) now r ran
  run_on r (inl unbegun) was on = elim unbegun.only [
    | inl flash ↦ on (λ is. cc)
    | inr (inl disk) ↦ on (λ is. cc)
    | inr (inr memory) ↦ elim (unbegun.memory memory) [
      | inl same ↦ subst (λ (s : State). s.power.on ≡ true) (sym same) was
      | inr two ↦ two.0
    ]
  ]

  part_at : (e : Ended) → EndsPart o (Gives (stops_at number outcome ++ lines)) (Tells m y) (TellsPart m y) stands (fitted_for o.geometry old) now e → BreaksAt o outcome lines number [] x y stands now e
  part_at e ends = inr (inr (record {
    first = old;
    ended = part_from o (Gives (stops_at number outcome ++ lines)) (Gives (stops_at number outcome ++ lines)) (Tells m y) (TellsBehind (at_text number) x y) stands stands
        (fitted_for o.geometry old) (fitted_for o.geometry old) now (λ n all w gives. gives) (tells_itself x m y (at_text number) first) (λ image d stood. stood) (before_itself (fitted_for o.geometry old))
        (TellsPart m y) (TellsPartBehind (at_text number) x y) (tells_part_itself x m y (at_text number) first) e ends;
    on = ends.rig.on;
  }))

  unbegun_at : (e : Ended) → IsUnbegun {T = Unit {0}} (Err e) (tt {0}) (tt {0}) s z old now → BreaksAt o outcome lines number [] x y stands now e
  unbegun_at e unbegun = inr (inl (
    (λ is. elim unbegun.only [ inl flash ↦ cc | inr (inl disk) ↦ cc | inr (inr memory) ↦ cc ]),
    subst (λ (k : SinkState). Appends x.taken k.taken (at_text number)) (sym (same unbegun.sink)) first,
  ))

  pub run_part : (r : Result (Unit {0}) Ended) → Ends r → (IsErrOf r ended.Trace → ⊥) → (IsErrOf r ended.Source → ⊥) → IfErr r (λ e. BreaksAt o outcome lines number [] x y stands now e)
  run_part (Ok done) ends not_trace not_source = tt
  run_part (Err e) (inl unbegun) not_trace not_source = unbegun_at e unbegun
  run_part (Err ended.Trace) (inr ends) not_trace not_source = absurd (not_trace refl)
  run_part (Err ended.Source) (inr ends) not_trace not_source = absurd (not_source refl)
  run_part (Err ended.Sink) (inr ends) not_trace not_source = part_at ended.Sink ends
  run_part (Err ended.Flash) (inr ends) not_trace not_source = part_at ended.Flash ends
  run_part (Err ended.Disk) (inr ends) not_trace not_source = part_at ended.Disk ends
  run_part (Err ended.Memory) (inr ends) not_trace not_source = part_at ended.Memory ends
