-- What the lines of a run ask for, one event after the other, and what is said of them at the end.
use Rattle.std.proofs.Common.{◌≡◌, ◌+◌, ◌++◌, ℕ, Bool, List, [], ◌∷◌, Option, Some, Result, Ok, Err, OnOk, IfErr, IfSome, IsErrOf, refl, sym, ap, ◌∙◌, subst, arith}
use Rattle.std.specs.Prelude.{sum_by}
use Rattle.std.proofs.lemmas.List.{append-nil}
use Rattle.std.proofs.lemmas.List.Sums.{sum_by_push}
use Rattle.ft_base.specs.Contents.{Image}
use Rattle.ft_base.specs.PlainDisk.{PlainDisk}
use Rattle.ft_base.specs.StreamState.{SourceState}
use Rattle.ft_base.specs.Told.{Told}
use Rattle.ft_media.specs.State.{State}
use Rattle.trace_model.specs.declared.answer.Answer.{Answer}
use Rattle.trace_model.specs.declared.answer.Answer.TheVariants as answer
use Rattle.trace_model.specs.declared.line.Line.{Line}
use Rattle.trace_model.specs.declared.line.LineError.{LineError}
use Rattle.trace_model.specs.declared.ran.Ran.{Ran}
use Rattle.trace_model.specs.Fits.{block_count}
use Rattle.trace_model.specs.Readings.{Reading}
use Rattle.trace_replay.specs.declared.asked.Asked.{Asked}
use Rattle.trace_replay.specs.declared.ended.Ended.{Ended}
use Rattle.trace_replay.specs.Asked.{EndsLines, IsAskedBy, IsAskedIn, IsTotal, RunsLines, asked_reads, asked_writes, power_cut, power_cuts, read_blocks}
use Rattle.trace_replay.specs.Events.{Event, NextRefused, answers_in, events_of, lines_given, refusal_after, taking}
use Rattle.trace_replay.specs.Events.Event.{Gave, Took}
use Rattle.trace_replay.specs.Theorem.{EndsEarly}
use Rattle.trace_replay.proofs.FromLemmas.{before_itself, lines_from}
use Rattle.trace_replay.proofs.GivenLemmas.{answers_in-append, answers_in-run, lines_given-append, lines_given-run}

-- what holds of an option holds of what it has
pub at_some : {A : Type 0} (P : A → Type 0) (o : Option A) (x : A) → o ≡ Some x → IfSome o P → P x
at_some {A = A} P o x is holds = subst (λ (k : Option A). IfSome k P) is holds

-- an end is the same one, whatever would have been answered
pub err_also : (e x : Ended) → IsErrOf {T = Asked} (Err e) x → IsErrOf {T = Unit {0}} (Err e) x
err_also e x is = let same : e ≡ x = cc in ap Err same

pub err_asked : (e x : Ended) → IsErrOf {T = Unit {0}} (Err e) x → IsErrOf {T = Asked} (Err e) x
err_asked e x is = let same : e ≡ x = cc in ap Err same

-- ---- what was asked

total_is : (m n : ℕ) (count : Option ℕ) → m ≡ n → IsTotal m count → IsTotal n count
total_is m n count same = subst (λ k. IsTotal k count) same

sum_line : (f : Line → ℕ) (e : List Event) (l : Line) → sum_by f (lines_given e) + f l ≡ sum_by f (lines_given (e ++ Gave l ∷ []))
sum_line f e l = sym (ap (sum_by f) (lines_given-append e (Gave l ∷ [])) ∙ sum_by_push f (lines_given e) l)

sum_answer : (f : Answer → ℕ) (e : List Event) (a : Answer) → sum_by f (answers_in e) + f a ≡ sum_by f (answers_in (e ++ Took a ∷ []))
sum_answer f e a = sym (ap (sum_by f) (answers_in-append e (Took a ∷ [])) ∙ sum_by_push f (answers_in e) a)

lines_still : (e more : List Event) → lines_given more ≡ [] → lines_given e ≡ lines_given (e ++ more)
lines_still e more none = sym (lines_given-append e more ∙ ap (λ (r : List Line). lines_given e ++ r) none ∙ append-nil (lines_given e))

answers_still : (e more : List Event) → answers_in more ≡ [] → answers_in e ≡ answers_in (e ++ more)
answers_still e more none = sym (answers_in-append e more ∙ ap (λ (r : List Answer). answers_in e ++ r) none ∙ append-nil (answers_in e))

-- a line was given
pub asked_gave : (e : List Event) (l : Line) (old new : Asked) → ((n : ℕ) → IsTotal n old.written → IsTotal (n + block_count l) new.written) → ((n : ℕ) → IsTotal n old.read → IsTotal (n + read_blocks l) new.read) → new.cuts ≡ old.cuts
    → IsAskedIn e old → IsAskedIn (e ++ Gave l ∷ []) new
asked_gave e l old new written read cuts asked = record {
  written = total_is _ _ new.written (sum_line block_count e l) (written _ asked.written);
  read = total_is _ _ new.read (sum_line read_blocks e l) (read _ asked.read);
  cuts = subst (λ (count : Option ℕ). IsTotal (power_cuts (answers_in (e ++ Gave l ∷ []))) count) (sym cuts) (total_is _ _ old.cuts (ap power_cuts (answers_still e (Gave l ∷ []) refl)) asked.cuts);
}

-- an answer was taken
pub asked_took : (e : List Event) (a : Answer) (old new : Asked) → new.written ≡ old.written → new.read ≡ old.read → ((n : ℕ) → IsTotal n old.cuts → IsTotal (n + power_cut a) new.cuts) → IsAskedIn e old → IsAskedIn (e ++ Took a ∷ []) new
asked_took e a old new written read cuts asked = record {
  written = subst (λ (count : Option ℕ). IsTotal (asked_writes (lines_given (e ++ Took a ∷ []))) count) (sym written) (total_is _ _ old.written (ap asked_writes (lines_still e (Took a ∷ []) refl)) asked.written);
  read = subst (λ (count : Option ℕ). IsTotal (asked_reads (lines_given (e ++ Took a ∷ []))) count) (sym read) (total_is _ _ old.read (ap asked_reads (lines_still e (Took a ∷ []) refl)) asked.read);
  cuts = total_is _ _ new.cuts (sum_answer power_cut e a) (cuts _ asked.cuts);
}

-- nothing that is counted happened
pub asked_still : (e more : List Event) (asked : Asked) → lines_given more ≡ [] → answers_in more ≡ [] → IsAskedIn e asked → IsAskedIn (e ++ more) asked
asked_still e more asked no_line no_answer is = record {
  written = total_is _ _ asked.written (ap asked_writes (lines_still e more no_line)) is.written;
  read = total_is _ _ asked.read (ap asked_reads (lines_still e more no_line)) is.read;
  cuts = total_is _ _ asked.cuts (ap power_cuts (answers_still e more no_answer)) is.cuts;
}

-- a line was refused
pub asked_refused : (e : List Event) (cause : LineError) (asked : Asked) → IsAskedIn e asked → IsAskedIn (e ++ taking (refusal_after e cause ∷ [])) asked
asked_refused e cause asked is = asked_took e (refusal_after e cause) asked asked refl refl (λ n counted. total_is n (n + 0) asked.cuts (omega arith) counted) is

-- the end line is taken
pub asked_end : (e : List Event) (writes reads touched : ℕ) (digest : List ℕ) (asked : Asked) → IsAskedIn e asked → IsAskedIn (e ++ taking (answer.End writes reads touched digest ∷ [])) asked
asked_end e writes reads touched digest asked is = asked_took e (answer.End writes reads touched digest) asked asked refl refl (λ n counted. total_is n (n + 0) asked.cuts (omega arith) counted) is

-- what a script knows, another knows that gives its lines
pub refused_also : {P Q : Type 0} (knew : SourceState → Q → ℕ → List Reading → Bool → Type 0) (knows : SourceState → P → ℕ → List Reading → Bool → Type 0) (was : Q) (now : P) (s : SourceState) (e : List Event) (armed : ℕ) (cause : LineError)
    → ((lines : ℕ) (all : List Reading) (whole : Bool) → knew s was lines all whole → knows s now lines all whole) → NextRefused knew s was e armed cause → NextRefused knows s now e armed cause
refused_also knew knows was now s e armed cause known refused = record {
  all = refused.all;
  whole = refused.whole;
  next = refused.next;
  left = refused.left;
  known = known _ _ _ refused.known;
  front = refused.front;
  why = refused.why;
}

-- of the events of a run
pub asked_run : (run : List Ran) (asked : Asked) → IsAskedIn (events_of run) asked → IsAskedBy run asked
asked_run run asked is = record {
  written = total_is _ _ asked.written (ap asked_writes (lines_given-run run)) is.written;
  read = total_is _ _ asked.read (ap asked_reads (lines_given-run run)) is.read;
  cuts = total_is _ _ asked.cuts (ap power_cuts (answers_in-run run)) is.cuts;
}

-- ---- how a run of the lines ended

module _ (o : Told) (reads : ℕ → List Reading → Bool → Type 0) (says : List Ran → List Answer → Type 0) (short : List Ran → List Answer → Option Answer → Type 0) (stands : Image → PlainDisk → Type 0) (first now : State) where
  pub ends_lines : (of : List Ran → Type 0) (r : Result (Unit {0}) Ended) → OnOk r ((runs : RunsLines o reads says stands first now) × of runs.run) → IfErr r (EndsEarly o reads says short stands first now)
      → EndsLines o reads says short stands first now (λ done run. of run) r
  ends_lines of (Ok done) whole early = whole
  ends_lines of (Err e) whole early = early

-- ---- over what else was read and said, for another reading of the images

module _ (o : Told) (reads more : ℕ → List Reading → Bool → Type 0) (stands images : Image → PlainDisk → Type 0) (first now : State) (known : (lines : ℕ) (all : List Reading) (whole : Bool) → reads lines all whole → more lines all whole)
    (stood : (x : Image) (d : PlainDisk) → stands x d → images x d) where
  unfoldable pub runs_from : (says tells : List Ran → List Answer → Type 0) (runs : RunsLines o reads says stands first now) → tells runs.run [] → RunsLines o more tells images first now
  runs_from says tells runs printed = record {
    all = runs.all;
    run = runs.run;
    trace = known _ _ _ runs.trace;
    lines = runs.lines;
    printed = printed;
    leaves = lines_from o stands images first first now stood (before_itself first) runs.run [] runs.leaves;
    backs = runs.backs;
    reads_no_more = runs.reads_no_more;
  }
