-- What holds at a status, from what a run answered.
use Rattle.std.proofs.Common.{◌≡◌, ◌⊎◌, ◌≤◌, inl, inr, ℕ, true, Result, Ok, Err, OnOk, IsErrOf, refl, sym, ap, ◌∙◌, arith}
use Rattle.ft_base.specs.StreamState.{SinkState, SourceState}
use Rattle.ft_media.specs.State.{State}
use Rattle.flashtier_words.specs.declared.command.Command.{Command}
use Rattle.flashtier_words.specs.declared.devices.Parity.TheVariants.{Off}
use Rattle.trace_replay.specs.Lent.{KeepsLent}
use Rattle.std.specs.Io.KnownBytes.{IsAtEnd}
use Rattle.trace_replay.specs.Causes.{EndHasCause, EndHasCauseUntraced}
use Rattle.trace_replay.specs.declared.ended.Ended.{Ended}
use Rattle.trace_replay.specs.declared.ended.Ended.TheVariants.{Trace, Source, Sink, Flash, Disk, Memory}
use Rattle.cache_run.specs.Begun.{IsUnbegun}
use Rattle.cache_run.specs.Status.{status_of}
use Rattle.trace_sweep.specs.Causes.{SweepHasCause}
use Rattle.flashtier_run.specs.Ends.{EndsCommand, IsOverOne}
use Rattle.flashtier_run.specs.Runs.{IsMade, IsRead, IsSwept, Runs, RunsEveryLine}
use Rattle.flashtier_run.specs.Status.{StatusHasCause}

pub at_ok : {A : Type 0} (r : Result (Unit {0}) Ended) → OnOk r A → status_of r ≡ 0 → A
at_ok (Ok done) a is = a
at_ok (Err Trace) a is = absurd (omega (arith, is))
at_ok (Err Source) a is = absurd (omega (arith, is))
at_ok (Err Sink) a is = absurd (omega (arith, is))
at_ok (Err Flash) a is = absurd (omega (arith, is))
at_ok (Err Disk) a is = absurd (omega (arith, is))
at_ok (Err Memory) a is = absurd (omega (arith, is))

pub at_trace : {A : Type 0} (r : Result (Unit {0}) Ended) → (IsErrOf r Trace → A) → status_of r ≡ 2 → A
at_trace (Ok done) a is = absurd (omega (arith, is))
at_trace (Err Trace) a is = a refl
at_trace (Err Source) a is = absurd (omega (arith, is))
at_trace (Err Sink) a is = absurd (omega (arith, is))
at_trace (Err Flash) a is = absurd (omega (arith, is))
at_trace (Err Disk) a is = absurd (omega (arith, is))
at_trace (Err Memory) a is = absurd (omega (arith, is))

pub at_source : {A : Type 0} (r : Result (Unit {0}) Ended) → (IsErrOf r Source → A) → status_of r ≡ 3 → A
at_source (Ok done) a is = absurd (omega (arith, is))
at_source (Err Trace) a is = absurd (omega (arith, is))
at_source (Err Source) a is = a refl
at_source (Err Sink) a is = absurd (omega (arith, is))
at_source (Err Flash) a is = absurd (omega (arith, is))
at_source (Err Disk) a is = absurd (omega (arith, is))
at_source (Err Memory) a is = absurd (omega (arith, is))

pub at_sink : {A : Type 0} (r : Result (Unit {0}) Ended) → (IsErrOf r Sink → A) → status_of r ≡ 4 → A
at_sink (Ok done) a is = absurd (omega (arith, is))
at_sink (Err Trace) a is = absurd (omega (arith, is))
at_sink (Err Source) a is = absurd (omega (arith, is))
at_sink (Err Sink) a is = a refl
at_sink (Err Flash) a is = absurd (omega (arith, is))
at_sink (Err Disk) a is = absurd (omega (arith, is))
at_sink (Err Memory) a is = absurd (omega (arith, is))

pub at_flash : {A : Type 0} (r : Result (Unit {0}) Ended) → (IsErrOf r Flash → A) → status_of r ≡ 5 → A
at_flash (Ok done) a is = absurd (omega (arith, is))
at_flash (Err Trace) a is = absurd (omega (arith, is))
at_flash (Err Source) a is = absurd (omega (arith, is))
at_flash (Err Sink) a is = absurd (omega (arith, is))
at_flash (Err Flash) a is = a refl
at_flash (Err Disk) a is = absurd (omega (arith, is))
at_flash (Err Memory) a is = absurd (omega (arith, is))

pub at_disk : {A : Type 0} (r : Result (Unit {0}) Ended) → (IsErrOf r Disk → A) → status_of r ≡ 6 → A
at_disk (Ok done) a is = absurd (omega (arith, is))
at_disk (Err Trace) a is = absurd (omega (arith, is))
at_disk (Err Source) a is = absurd (omega (arith, is))
at_disk (Err Sink) a is = absurd (omega (arith, is))
at_disk (Err Flash) a is = absurd (omega (arith, is))
at_disk (Err Disk) a is = a refl
at_disk (Err Memory) a is = absurd (omega (arith, is))

-- no run ends with the status of words that are no command
pub not_one : (r : Result (Unit {0}) Ended) (n : ℕ) → n ≡ status_of r → n ≡ 1 → ⊥
not_one (Ok done) n is one = omega (arith, is, one)
not_one (Err Trace) n is one = omega (arith, is, one)
not_one (Err Source) n is one = omega (arith, is, one)
not_one (Err Sink) n is one = omega (arith, is, one)
not_one (Err Flash) n is one = omega (arith, is, one)
not_one (Err Disk) n is one = omega (arith, is, one)
not_one (Err Memory) n is one = omega (arith, is, one)

-- where memory was not refused
pub unless_memory : {A : Type 0} (r : Result (Unit {0}) Ended) (n : ℕ) → n ≡ status_of r → ((IsErrOf r Memory → ⊥) → A) → (n ≡ 7 → ⊥) → A
unless_memory (Ok done) n is a other = a (λ so. cc)
unless_memory (Err Trace) n is a other = a (λ so. cc)
unless_memory (Err Source) n is a other = a (λ so. cc)
unless_memory (Err Sink) n is a other = a (λ so. cc)
unless_memory (Err Flash) n is a other = a (λ so. cc)
unless_memory (Err Disk) n is a other = a (λ so. cc)
unless_memory (Err Memory) n is a other = absurd (other is)

-- ---- why it ended so, and that it ran every line where nothing failed

module _ (r : Result (Unit {0}) Ended) (n : ℕ) (is : n ≡ status_of r) (a b : SourceState) (x y : SinkState) (old new : State) where
  -- a trace was read
  pub status_cause : SweepHasCause r a b x y old new → StatusHasCause n a b x y old new
  status_cause causes = record {
    source = λ so. at_source r causes.source (sym is ∙ so);
    sink = λ so. at_sink r causes.sink (sym is ∙ so);
    flash = λ so. at_flash r causes.flash (sym is ∙ so);
    disk = λ so. at_disk r causes.disk (sym is ∙ so);
  }

  -- no trace was
  pub status_untraced : EndHasCauseUntraced r x y old new → StatusHasCause n a b x y old new
  status_untraced causes = record {
    source = λ so. absurd (at_source r causes.not_source (sym is ∙ so));
    sink = λ so. at_sink r causes.sink (sym is ∙ so);
    flash = λ so. at_flash r causes.flash (sym is ∙ so);
    disk = λ so. at_disk r causes.disk (sym is ∙ so);
  }

stays_ok : {A : Type 0} (r : Result (Unit {0}) Ended) → ((IsErrOf r Source → ⊥) → A) → OnOk r A
stays_ok (Ok done) stays = stays (λ is. cc)
stays_ok (Err e) stays = tt

-- the causes of a run are causes of a sweep
pub swept_cause : (r : Result (Unit {0}) Ended) (a b : SourceState) (x y : SinkState) (old new : State) → EndHasCause r a b x y old new → SweepHasCause r a b x y old new
swept_cause r a b x y old new causes = record {
  source = causes.source;
  sink = causes.sink;
  flash = causes.flash;
  disk = causes.disk;
  source_stays = stays_ok r causes.source_stays;
  sink_stays = causes.sink_stays;
  none_failed = causes.none_failed;
}

-- the status of a run in which nothing failed
pub unfailed : (r : Result (Unit {0}) Ended) (n : ℕ) → n ≡ status_of r → (IsErrOf r Source → ⊥) → (IsErrOf r Sink → ⊥) → (IsErrOf r Flash → ⊥) → (IsErrOf r Disk → ⊥) → (n ≡ 0) ⊎ (n ≡ 2) ⊎ (n ≡ 7)
unfailed (Ok done) n is source sink flash disk = inl is
unfailed (Err Trace) n is source sink flash disk = inr (inl is)
unfailed (Err Source) n is source sink flash disk = absurd (source refl)
unfailed (Err Sink) n is source sink flash disk = absurd (sink refl)
unfailed (Err Flash) n is source sink flash disk = absurd (flash refl)
unfailed (Err Disk) n is source sink flash disk = absurd (disk refl)
unfailed (Err Memory) n is source sink flash disk = inr (inr is)

untold : (r : Result (Unit {0}) Ended) (n : ℕ) → n ≡ status_of r → (IsErrOf r Trace → ⊥) → (n ≡ 0) ⊎ (n ≡ 2) ⊎ (n ≡ 7) → (n ≡ 0) ⊎ (n ≡ 7)
untold r n is not_trace (inl done) = inl done
untold r n is not_trace (inr (inl refused)) = absurd (at_trace r not_trace (sym is ∙ refused))
untold r n is not_trace (inr (inr memory)) = inr memory

-- ---- a command that ran

known : (r : Result (Unit {0}) Ended) (n : ℕ) → n ≡ status_of r → n ≤ 7
known (Ok done) n is = omega (arith, is)
known (Err Trace) n is = omega (arith, is)
known (Err Source) n is = omega (arith, is)
known (Err Sink) n is = omega (arith, is)
known (Err Flash) n is = omega (arith, is)
known (Err Disk) n is = omega (arith, is)
known (Err Memory) n is = omega (arith, is)

module _ (command : Command) (r : Result (Unit {0}) Ended) (n : ℕ) (is : n ≡ status_of r) (a b : SourceState) (x y : SinkState) (old new : State) where
  every_read : (IsMade command → ⊥) → SweepHasCause r a b x y old new → RunsEveryLine command n a b x y old new
  every_read read causes = record {
    complete = λ _ source sink flash disk. unfailed r n is (λ so. source (causes.source so)) (λ so. sink (causes.sink so)) (λ so. flash (causes.flash so)) (λ so. disk (causes.disk so));
    complete_made = λ made sink flash disk. absurd (read made);
  }

  every_made : (IsRead command → ⊥) → EndHasCauseUntraced r x y old new → RunsEveryLine command n a b x y old new
  every_made made causes = record {
    complete = λ read source sink flash disk. absurd (made read);
    complete_made = λ _ sink flash disk. untold r n is causes.not_trace (unfailed r n is causes.not_source (λ so. sink (causes.sink so)) (λ so. flash (causes.flash so)) (λ so. disk (causes.disk so)));
  }

module _ {I O R : Type 0} (command : Command) (end : Result (Unit {0}) Ended) (n : ℕ) (is : n ≡ status_of end) (i j : I) (o p : O) (r s : R) (a b : SourceState) (x y : SinkState) (old new : State) where
  -- a trace was read
  runs_any : (IsMade command → ⊥) → (IsOverOne command × IsUnbegun end i j o p old new) ⊎ EndsCommand a b x y old new command end → OnOk end (IsAtEnd b.left) → SweepHasCause end a b x y old new
      → ((IsErrOf end Source → ⊥) → (IsSwept command → n ≡ 0) → b.faults ≡ a.faults) → ((IsErrOf end Memory → ⊥) → (new.power.on ≡ true) ⊎ (IsSwept command × (s ≡ r))) → KeepsLent a b x y old new → Runs Off command n i j o p r s a b x y old new
  runs_any read ends at_end causes stays on lent = record {
    ends = record {
      end = end;
      is = is;
      so = ends;
      source_stays = λ not swept. stays (λ so. not (is ∙ ap status_of so)) swept;
      sink_stays = λ not. causes.sink_stays (λ so. not (is ∙ ap status_of so));
      none_failed = λ flash disk. causes.none_failed (λ so. flash (is ∙ ap status_of so)) (λ so. disk (is ∙ ap status_of so));
    };
    end = λ _ done. at_ok end at_end (sym is ∙ done);
    unused = λ made. absurd (read made);
    known = known end n is;
    other = not_one end n is;
    causes = status_cause end n is a b x y old new causes;
    on = λ memory. unless_memory end n is on memory;
    lent = lent;
    lines = every_read command end n is a b x y old new read causes;
  }

  -- as its lines were run
  pub runs_read : (IsMade command → ⊥) → (IsOverOne command × IsUnbegun end i j o p old new) ⊎ EndsCommand a b x y old new command end → OnOk end (IsAtEnd b.left) → EndHasCause end a b x y old new
      → ((IsErrOf end Memory → ⊥) → (new.power.on ≡ true) ⊎ (IsSwept command × (s ≡ r))) → KeepsLent a b x y old new → Runs Off command n i j o p r s a b x y old new
  runs_read read ends at_end causes on lent = runs_any read ends at_end (swept_cause end a b x y old new causes) (λ not swept. causes.source_stays not) on lent

  -- whole, before it was swept
  pub runs_swept : IsSwept command → (IsMade command → ⊥) → (IsOverOne command × IsUnbegun end i j o p old new) ⊎ EndsCommand a b x y old new command end → OnOk end (IsAtEnd b.left) → SweepHasCause end a b x y old new
      → ((IsErrOf end Memory → ⊥) → (new.power.on ≡ true) ⊎ (IsSwept command × (s ≡ r))) → KeepsLent a b x y old new → Runs Off command n i j o p r s a b x y old new
  runs_swept swept read ends at_end causes on lent = runs_any read ends at_end causes (λ not zero. at_ok end causes.source_stays (sym is ∙ zero swept)) on lent

  -- one was made
  pub runs_made : (IsRead command → ⊥) → j ≡ i → b.faults ≡ a.faults → (IsOverOne command × IsUnbegun end i j o p old new) ⊎ EndsCommand a b x y old new command end → EndHasCauseUntraced end x y old new
      → ((IsErrOf end Memory → ⊥) → new.power.on ≡ true) → KeepsLent a b x y old new → Runs Off command n i j o p r s a b x y old new
  runs_made made same stays ends causes on lent = record {
    ends = record {
      end = end;
      is = is;
      so = ends;
      source_stays = λ _ _. stays;
      sink_stays = λ not. causes.sink_stays (λ so. not (is ∙ ap status_of so));
      none_failed = λ flash disk. causes.none_failed (λ so. flash (is ∙ ap status_of so)) (λ so. disk (is ∙ ap status_of so));
    };
    end = λ read. absurd (made read);
    unused = λ _. same;
    known = known end n is;
    other = not_one end n is;
    causes = status_untraced end n is a b x y old new causes;
    on = λ memory. inl (unless_memory end n is on memory);
    lent = lent;
    lines = every_made command end n is a b x y old new made causes;
  }

-- ---- before the volume was made

-- where there was no source to read, it is as before
pub unbegun_source : {I O : Type 0} {r : Result (Unit {0}) Ended} {a : I} {x y : O} {old now : State} → IsUnbegun r (tt {0}) (tt {0}) x y old now → IsUnbegun r a a x y old now
unbegun_source none = record { only = none.only; source = refl; sink = none.sink; counts = none.counts; disk_reads = none.disk_reads; disk_writes = none.disk_writes; unarmed = none.unarmed; memory = none.memory }
