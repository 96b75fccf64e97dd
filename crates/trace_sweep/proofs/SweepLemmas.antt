-- How the lines of a held trace were swept.
use Rattle.std.proofs.Common.{◌≡◌, ◌≢◌, ◌⊎◌, inl, inr, ℕ, Bool, List, [], length, true, Result, Ok, Err, OnOk, IfErr, OnErr, IsErrOf, refl, sym, ◌∙◌, subst, arith}
use Rattle.std.proofs.KnownBytes.{Appends-nil, Appends-trans}
use Rattle.std.specs.Io.KnownBytes.{Appends}
use Rattle.std.specs.Result.{IsErrAnd}
use Rattle.ft_base.specs.Count.{Rose}
use Rattle.ft_base.specs.Contents.{Image}
use Rattle.ft_base.specs.PlainDisk.{PlainDisk}
use Rattle.ft_base.specs.StreamState.{SinkState, SourceState}
use Rattle.ft_base.specs.Told.{Told}
use Rattle.ft_base.specs.declared.power.Outcome.{Outcome}
use Rattle.ft_media.specs.Passes.{NeverFall}
use Rattle.ft_media.specs.State.{State}
use Rattle.trace_model.specs.declared.line.Line.{Line}
use Rattle.trace_model.specs.Readings.{Reading}
use Rattle.trace_replay.specs.declared.ended.Ended.{Ended}
use Rattle.trace_replay.specs.declared.ended.Ended.TheVariants as ended
use Rattle.trace_replay.specs.Causes.{EndHasCauseUntraced}
use Rattle.trace_replay.specs.Said.{NoneFailed}
use Rattle.trace_replay.proofs.CutsLemmas.{none_failed}
use Rattle.trace_replay.proofs.ExitLemmas.{exit_as}
use Rattle.cache_run.proofs.CountLemmas.{exit_back}
use Rattle.cache_run.specs.Counted.{CountsWrites}
use Rattle.trace_sweep.specs.Causes.{SweepHasCause}
use Rattle.trace_sweep.specs.Ends.{EndsHeld, EndsTaken, EndsSweeping, IsCount, PrintsPart, SweepsLines}
use Rattle.trace_sweep.specs.Runs.{Swept, sweep_text, swept_text}
use Rattle.trace_sweep.specs.SoFar.{BreaksSweep, HasSwept}
use Rattle.trace_sweep.proofs.RunLemmas.{prints_then}

pub is_count : {o : Told} {lines : List Line} {first counted now : State} (count : ℕ) → CountsWrites o lines count first counted → NeverFall counted.counts now.counts → IsCount o lines first now count
is_count {counted = counted} count writes later = record {
  counted = counted;
  writes = writes;
  later = later;
  least = writes.from.least;
  most =
      let exact = writes.from.exact in
      let p1 = writes.new.before.counts.programs in let e1 = writes.new.before.counts.erases in let w1 = writes.new.before.counts.disk_writes in let f1 = writes.new.before.counts.disk_flushes in
      let p2 = later.programs in let e2 = later.erases in let w2 = later.disk_writes in let f2 = later.disk_flushes in
      omega (arith, exact, p1, e1, w1, f1, p2, e2, w2, f2);
}

module _ {o : Told} {outcome : Outcome} {lines : List Line} {stands : Image → PlainDisk → Type 0} {first counted now : State} (x m y : SinkState) (count : ℕ) (writes : CountsWrites o lines count first counted) (later : NeverFall counted.counts now.counts) where
  -- the sweep broke off
  broken : (e : Ended) → now.power.on ≡ true → BreaksSweep o outcome lines x y stands counted now count e → EndsSweeping o outcome lines x y stands first now e
  broken e on breaks = record {
    runs = breaks.runs;
    count = count;
    counts = is_count count writes later;
    swept = breaks.swept;
    part = inl (breaks.few, breaks.part);
    on = on;
  }

  pub ends_broken : (e : Ended) → (IsErrOf {T = Unit {0}} (Err e) ended.Trace → ⊥) → (IsErrOf {T = Unit {0}} (Err e) ended.Source → ⊥) → now.power.on ≡ true
      → BreaksSweep o outcome lines x y stands counted now count e → EndsHeld o outcome lines x y stands first now (Err e)
  ends_broken ended.Trace not_trace not_source on breaks = absurd (not_trace refl)
  ends_broken ended.Source not_trace not_source on breaks = absurd (not_source refl)
  ends_broken ended.Sink not_trace not_source on breaks = broken ended.Sink on breaks
  ends_broken ended.Flash not_trace not_source on breaks = inr (broken ended.Flash on breaks)
  ends_broken ended.Disk not_trace not_source on breaks = inr (broken ended.Disk on breaks)
  ends_broken ended.Memory not_trace not_source on breaks = inr (broken ended.Memory on breaks)

  -- all runs were made
  module _ (on : now.power.on ≡ true) (runs : List Swept) (long : length runs ≡ count) (has : HasSwept o outcome lines x m stands counted now runs) where
    whole : Appends m.taken y.taken (swept_text count) → SweepsLines o outcome lines x y stands first now
    whole printed = record {
      runs = runs;
      counts = subst (λ (n : ℕ). IsCount o lines first now n) (sym long) (is_count count writes later);
      swept = has.swept;
      printed = Appends-trans x.taken m.taken y.taken (sweep_text runs) (swept_text (length runs)) has.printed (subst (λ (n : ℕ). Appends m.taken y.taken (swept_text n)) (sym long) printed);
      risen = λ low.
          let runs_cut = has.risen low in
          let counting = writes.from.cuts (omega (arith, runs_cut, low)) in
          let begun = writes.new.before.none_failed.later in
          omega (arith, runs_cut, counting, begun);
      left = has.left;
      on = on;
    }

    last_part : (e : Ended) → PrintsPart e [] (swept_text count) m y → EndsSweeping o outcome lines x y stands first now e
    last_part e part = record {
      runs = runs;
      count = count;
      counts = is_count count writes later;
      swept = has.swept;
      part = inr (long, prints_then e x m y (sweep_text runs) (swept_text count) has.printed part);
      on = on;
    }

    pub ends_last : (r : Result (Unit {0}) Ended) → OnOk r (Appends m.taken y.taken (swept_text count)) → IfErr r (λ e. PrintsPart e [] (swept_text count) m y)
        → OnErr r (IsErrOf r ended.Sink ⊎ IsErrOf r ended.Memory) → EndsHeld o outcome lines x y stands first now r
    ends_last (Ok done) printed part only = whole printed
    ends_last (Err ended.Sink) printed part only = last_part ended.Sink part
    ends_last (Err ended.Memory) printed part only = inr (last_part ended.Memory part)
    ends_last (Err ended.Trace) printed part only = absurd (elim only [ inl is ↦ cc | inr is ↦ cc ])
    ends_last (Err ended.Source) printed part only = absurd (elim only [ inl is ↦ cc | inr is ↦ cc ])
    ends_last (Err ended.Flash) printed part only = inr (last_part ended.Flash part)
    ends_last (Err ended.Disk) printed part only = inr (last_part ended.Disk part)

-- ---- the first run could not be counted

no_count : {T : Type 0} (r : Result T Ended) (k : Ended) → (ended.Flash ≡ k → ⊥) → (ended.Disk ≡ k → ⊥) → (ended.Memory ≡ k → ⊥) → OnErr r (IsErrOf r ended.Flash ⊎ IsErrOf r ended.Disk ⊎ IsErrOf r ended.Memory) → IsErrOf r k → ⊥
no_count (Ok done) k flash disk memory only is = absurd (cc)
no_count (Err e) k flash disk memory (inl at) is = flash (let same : ended.Flash ≡ k = cc (at, is) in same)
no_count (Err e) k flash disk memory (inr (inl at)) is = disk (let same : ended.Disk ≡ k = cc (at, is) in same)
no_count (Err e) k flash disk memory (inr (inr at)) is = memory (let same : ended.Memory ≡ k = cc (at, is) in same)

as_counted : {T : Type 0} (r : Result T Ended) (s : Result (Unit {0}) Ended) (from k : Ended) → IsErrAnd s (λ e. e ≡ from) → r ≡ Err from → IsErrOf s k → IsErrOf r k
as_counted r s from k is was same = was ∙ exit_back s from k is same

pub causes_counting : {T : Type 0} {x : SinkState} {old now : State} (r : Result T Ended) (s : Result (Unit {0}) Ended) (from : Ended) → IsErrAnd s (λ e. e ≡ from) → r ≡ Err from → OnErr r (IsErrOf r ended.Flash ⊎ IsErrOf r ended.Disk ⊎ IsErrOf r ended.Memory)
    → (IsErrOf r ended.Flash → Rose old.faults.flash now.faults.flash) → (IsErrOf r ended.Disk → Rose old.faults.disk now.faults.disk) → ((IsErrOf r ended.Flash → ⊥) → (IsErrOf r ended.Disk → ⊥) → NoneFailed old now) → EndHasCauseUntraced s x x old now
causes_counting r s from is was only flash disk sound = record {
  not_trace = λ k. no_count r ended.Trace (λ no. cc) (λ no. cc) (λ no. cc) only (as_counted r s from ended.Trace is was k);
  not_source = λ k. no_count r ended.Source (λ no. cc) (λ no. cc) (λ no. cc) only (as_counted r s from ended.Source is was k);
  sink = λ k. absurd (no_count r ended.Sink (λ no. cc) (λ no. cc) (λ no. cc) only (as_counted r s from ended.Sink is was k));
  flash = λ k. flash (as_counted r s from ended.Flash is was k);
  disk = λ k. disk (as_counted r s from ended.Disk is was k);
  sink_stays = λ _. refl;
  none_failed = λ f d. sound (λ k. f (exit_as s r from ended.Flash is was k)) (λ k. d (exit_as s r from ended.Disk is was k));
}

-- how the sweep ended then
module _ (o : Told) (outcome : Outcome) (lines : List Line) (stands : Image → PlainDisk → Type 0) {first now : State} {T : Type 0} (x : SinkState) (r : Result T Ended) (from : Ended)
    (was : r ≡ Err from) (only : OnErr r (IsErrOf r ended.Flash ⊎ IsErrOf r ended.Disk ⊎ IsErrOf r ended.Memory)) (on : (IsErrOf r ended.Memory → ⊥) → now.power.on ≡ true)
    (memory : IsErrOf r ended.Memory → (now ≡ first) ⊎ (now.power.on ≡ true)) where
  pub ends_counting : (s : Result (Unit {0}) Ended) → IsErrAnd s (λ e. e ≡ from) → EndsHeld o outcome lines x x stands first now s
  ends_counting (Ok done) is = absurd is
  ends_counting (Err ended.Trace) is = absurd (no_count r ended.Trace (λ no. cc) (λ no. cc) (λ no. cc) only (as_counted r (Err ended.Trace) from ended.Trace is was refl))
  ends_counting (Err ended.Source) is = absurd (no_count r ended.Source (λ no. cc) (λ no. cc) (λ no. cc) only (as_counted r (Err ended.Source) from ended.Source is was refl))
  ends_counting (Err ended.Sink) is = absurd (no_count r ended.Sink (λ no. cc) (λ no. cc) (λ no. cc) only (as_counted r (Err ended.Sink) from ended.Sink is was refl))
  ends_counting (Err ended.Flash) is = inl (record { other = λ k. cc; printed = (Appends-nil x.taken, refl); on = λ _. on (λ k. (let no = exit_as {T = Unit {0}} (Err ended.Flash) r from ended.Memory is was k in cc)); memory = λ k. cc })
  ends_counting (Err ended.Disk) is = inl (record { other = λ k. cc; printed = (Appends-nil x.taken, refl); on = λ _. on (λ k. (let no = exit_as {T = Unit {0}} (Err ended.Disk) r from ended.Memory is was k in cc)); memory = λ k. cc })
  ends_counting (Err ended.Memory) is = inl (record { other = λ k. cc; printed = (Appends-nil x.taken, refl); on = λ other. absurd (other refl); memory = λ _. memory (as_counted r (Err ended.Memory) from ended.Memory is was refl) })

-- ---- the trace could not be taken

module _ (reads : List Reading → Bool → Type 0) {T : Type 0} (x y : SinkState) where
  not_flash : (r : Result T Ended) → OnErr r (EndsTaken reads x y r) → IsErrOf r ended.Flash → ⊥
  not_flash (Ok done) ends is = cc
  not_flash (Err ended.Flash) ends is = ends
  not_flash (Err ended.Trace) ends is = cc
  not_flash (Err ended.Source) ends is = cc
  not_flash (Err ended.Sink) ends is = cc
  not_flash (Err ended.Disk) ends is = cc
  not_flash (Err ended.Memory) ends is = cc

  not_disk : (r : Result T Ended) → OnErr r (EndsTaken reads x y r) → IsErrOf r ended.Disk → ⊥
  not_disk (Ok done) ends is = cc
  not_disk (Err ended.Disk) ends is = ends
  not_disk (Err ended.Trace) ends is = cc
  not_disk (Err ended.Source) ends is = cc
  not_disk (Err ended.Sink) ends is = cc
  not_disk (Err ended.Flash) ends is = cc
  not_disk (Err ended.Memory) ends is = cc

no_ok : (A : Type 0) (s : Result (Unit {0}) Ended) (q : Ended → Type 0) → IsErrAnd s q → OnOk s A
no_ok A (Ok done) q is = absurd is
no_ok A (Err e) q is = tt

pub causes_taken : {T : Type 0} {a b : SourceState} {x y : SinkState} {now : State} (reads : List Reading → Bool → Type 0) (r : Result T Ended) (s : Result (Unit {0}) Ended) (from : Ended) → IsErrAnd s (λ e. e ≡ from) → r ≡ Err from → OnErr r (EndsTaken reads x y r)
    → (IsErrOf r ended.Source → Rose a.faults b.faults) → (IsErrOf r ended.Sink → Rose x.faults y.faults) → ((IsErrOf r ended.Sink → ⊥) → y.faults ≡ x.faults) → SweepHasCause s a b x y now now
causes_taken {x = x} {y = y} {now = now} reads r s from is was ends source sink stays = record {
  source = λ k. source (as_counted r s from ended.Source is was k);
  sink = λ k. sink (as_counted r s from ended.Sink is was k);
  flash = λ k. absurd (not_flash reads x y r ends (as_counted r s from ended.Flash is was k));
  disk = λ k. absurd (not_disk reads x y r ends (as_counted r s from ended.Disk is was k));
  source_stays = no_ok _ s (λ e. e ≡ from) is;
  sink_stays = λ not. stays (λ k. not (exit_as s r from ended.Sink is was k));
  none_failed = λ _ _. none_failed now;
}
