-- What ends a run within a line, if writes are on the media only after a flush.
use Rattle.std.proofs.Common.{◌≡◌, ℕ, zero, suc, ◌+◌, Bool, false, List, [], ◌++◌, Result, Ok, Err, OnOk, drop, refl, sym, ap, ◌∙◌, subst, append_assoc, arith}
use Rattle.std.proofs.lemmas.List.{append-nil}
use Rattle.ft_base.specs.PlainDisk.{PlainDisk}
use Rattle.ft_base.specs.StreamState.{SinkState, SourceState}
use Rattle.ft_base.specs.declared.power.Outcome.{Outcome}
use Rattle.ft_base.specs.declared.told.Ack.TheVariants as ack
use Rattle.ft_media.specs.State.{State}
use Rattle.ft_volume.specs.Volume.{VolumeState}
use Rattle.trace_model.specs.declared.answer.Answer.{Answer}
use Rattle.trace_model.specs.declared.line.Line.{Line}
use Rattle.trace_model.specs.declared.line.Line.TheVariants as line
use Rattle.trace_model.specs.declared.ran.Ran.{Ran}
use Rattle.trace_model.specs.Backs.{IsUncut}
use Rattle.trace_model.specs.Fits.{FitsLine, FitsLost, block_count, is_cut}
use Rattle.trace_model.specs.Readings.{Reading}
use Rattle.trace_model.specs.Run.{disk_without, lost_told, own_answers, stopped}
use Rattle.trace_model.proofs.FitLemmas.{lost_none}
use Rattle.trace_replay.specs.declared.ended.Ended.{Ended}
use Rattle.trace_replay.specs.Ends.{RunsLine}
use Rattle.trace_replay.specs.Events as events
use Rattle.trace_replay.specs.Events.{Event, ScriptState}
use Rattle.trace_replay.specs.Owing as owing
use Rattle.trace_replay.specs.Owing.{BecameOwing, CanBecomeOwing, SpendsOwing}
use Rattle.trace_replay.specs.Said.{stops_in}
use Rattle.trace_replay.specs.Saying as saying
use Rattle.trace_replay.specs.Spends.{IsQuiet, SpendsAtMost, SpendsSteps, Spent, Step, steps_of}
use Rattle.trace_replay.specs.Went as went
use Rattle.trace_replay.proofs.CutsLemmas.{stops_saying, stops_then}
use Rattle.trace_replay.proofs.SpendsLemmas.{at_most_more}
use Rattle.trace_replay.proofs.WentLemmas.{blamed_after, blamed_saying, takes_after, takes_longer}
use Rattle.trace_replay.proofs.WithinLemmas.{own_stops, right_empty, within_write}

-- ---- what a line spends

-- whatever a call answers, no more than its steps were made
steps_most : {T E : Type 0} (steps : List Step) (v w : VolumeState) (a b : State) (r : Result T E) → SpendsSteps steps v w a b r → IsQuiet v a → SpendsAtMost steps v a b
steps_most steps v w a b (Ok value) spends quiet = (spends.done quiet).most
steps_most steps v w a b (Err e) spends quiet = spends.ended quiet

steps_done : {T E : Type 0} (steps : List Step) (v w : VolumeState) (a b : State) (r : Result T E) (uncut : Type 0) → SpendsSteps steps v w a b r → OnOk r (IsQuiet v a → uncut → Spent steps v w a b)
steps_done steps v w a b (Ok value) uncut spends = λ quiet _. spends.done quiet
steps_done steps v w a b (Err e) uncut spends = tt

pub owing_spends : {T E : Type 0} (l : Line) (v w : VolumeState) (a b : State) (r : Result T E) → SpendsSteps (steps_of l) v w a b r → SpendsOwing l v w a b r
owing_spends l v w a b r spends = record { done = steps_done (steps_of l) v w a b r (IsUncut l) spends; most = λ quiet _. steps_most (steps_of l) v w a b r spends quiet }

-- a line that cuts power leaves nothing quiet
pub on_ok_any : {T E : Type 0} (r : Result T E) (p : Type 0) → p → OnOk r p
on_ok_any (Ok value) p holds = holds
on_ok_any (Err e) p holds = tt

pub cut_spends : {T E : Type 0} (o : Outcome) (v w : VolumeState) (a b : State) (r : Result T E) → SpendsOwing (line.Cut o) v w a b r
cut_spends o v w a b r = record { done = on_ok_any r _ (λ quiet uncut. absurd uncut); most = λ quiet other. absurd (cc) }

-- ---- what is said

pub none_lost : (lost : ℕ) → stops_in (lost_told lost) ≡ 0
none_lost zero = refl
none_lost (suc n) = refl

-- nothing is due
none_due : (front rest : List Answer) → [] ≡ front ++ rest → rest ≡ []
none_due front rest both = right_empty front rest (sym both)

module _ {P : Type 0} (tells : P → ScriptState) (came : SourceState → SinkState → List Event → P → Type 0) (broke : SourceState → SinkState → List Event → Event → P → Type 0) (knows : SourceState → P → ℕ → List Reading → Bool → Type 0) where
  abbrev Said : P → P → List Answer → Type 0
  Said x y answers = events.Says came x y answers

  abbrev EndsCut : Ended → P → P → State → State → Type 0
  EndsCut e x y a b = went.EndsCut tells came broke knows e x y a b

  abbrev EndsOwing : Ended → P → P → State → State → Line → List Ran → Type 0
  EndsOwing e x y a b l run = owing.EndsOwing tells came broke knows e x y a b l run

  abbrev EndsSaying : Ended → P → P → List Answer → Type 0
  EndsSaying e x y due = saying.EndsSaying tells came broke knows e x y due

  -- only cuts were answered so far, of a line that writes nothing
  pub owing_within : (e : Ended) (x y : P) (a b : State) (l : Line) (run : List Ran) → block_count l ≡ 0 → ((cuts : ℕ) → own_answers l cuts 0 (disk_without 0 run) ≡ [] → ⊥) → (ends : EndsCut e x y a b) → FitsLine ack.Flush l ends.cuts 0 0 (disk_without 0 run) → EndsOwing e x y a b l run
  owing_within e x y a b l run none some ends fits =
      let own = own_answers l ends.cuts 0 (disk_without 0 run) in
      record {
        blamed = ends.blamed;
        cuts = ends.cuts;
        kept = 0;
        lost = 0;
        can = record { few = ends.few; spends = λ _ _. omega arith; fits = fits; cut = λ _ _. refl; losses = lost_none ack.Flush run 0 refl };
        part = record {
          front = ends.part.front;
          rest = ends.part.rest ++ own;
          both = ap (λ (r : List Answer). r ++ own) ends.part.both ∙ append_assoc ends.part.front ends.part.rest own;
          taken = takes_longer tells came broke knows e x y ends.part.front ends.part.rest own ends.part.taken;
        };
        proper = λ empty. absurd (some ends.cuts (right_empty ends.part.rest own empty));
        stops = ends.stops;
      }

  -- only cuts were answered so far, of a write
  pub owing_write : (e : Ended) (x y : P) (a b : State) (lba count tag : ℕ) (run : List Ran) → EndsCut e x y a b → EndsOwing e x y a b (line.Write lba count tag) run
  owing_write e x y a b lba count tag run ends =
      let within = within_write tells came broke knows e x y a b lba count tag (disk_without 0 run) ends in
      record {
        blamed = within.blamed;
        cuts = within.cuts;
        kept = within.kept;
        lost = 0;
        can = record { few = within.can.few; spends = within.can.spends; fits = within.can.fits; cut = λ _ _. refl; losses = lost_none ack.Flush run 0 refl };
        part = within.part;
        proper = within.proper;
        stops = within.stops;
      }

  -- the stops after a line whose answers were not all taken: it arms none
  plain_stops : (e : Ended) (y z : P) (a b : State) (l : Line) (cuts kept lost : ℕ) (d : PlainDisk) → RunsLine l cuts a b → FitsLine ack.Flush l cuts kept lost d → (is_cut l ≡ false → cuts ≡ 0 → lost ≡ 0) → EndsSaying e y z (lost_told lost ++ own_answers l cuts kept d) → b.power.stops ≡ drop cuts a.power.stops
  plain_stops e y z a b (line.Write lba count tag) cuts kept lost d runs fits cut ends = runs.stops
  plain_stops e y z a b (line.Read lba count) cuts kept lost d runs fits cut ends = runs.stops
  plain_stops e y z a b line.Flush cuts kept lost d runs fits cut ends = runs.stops
  plain_stops e y z a b line.Idle cuts kept lost d runs fits cut ends = runs.stops
  plain_stops e y z a b (line.Cut outcome) cuts kept lost d runs fits cut ends = runs.stops
  plain_stops e y z a b line.Nothing cuts kept lost d runs fits cut ends = runs.stops
  plain_stops e y z a b (line.Stop after outcome) cuts kept lost d runs fits cut ends =
      let none : lost ≡ 0 = cut refl fits in
      let due : lost_told lost ++ [] ≡ [] = ap (λ n. lost_told n ++ []) none in
      absurd (ends.proper (none_due ends.part.front ends.part.rest (sym due ∙ ends.part.both)))

  -- within the line's own answers
  pub owing_said : (e : Ended) (x y z : P) (a b : State) (l : Line) (cuts kept lost : ℕ) (run : List Ran) → RunsLine l cuts a b → FitsLine ack.Flush l cuts kept lost (disk_without lost run) → (is_cut l ≡ false → cuts ≡ 0 → lost ≡ 0) → FitsLost ack.Flush run lost
      → went.KeepsFrame tells came broke knows x y a b → Said x y (stopped cuts) → EndsSaying e y z (lost_told lost ++ own_answers l cuts kept (disk_without lost run)) → EndsOwing e x z a b l run
  owing_said e x y z a b l cuts kept lost run runs fits cut losses goes said ends =
      let part = ends.part in
      let own = own_answers l cuts kept (disk_without lost run) in
      let sum : stops_in (lost_told lost ++ own) ≡ stops_in part.front + stops_in part.rest = ap stops_in part.both ∙ stops_then part.front part.rest in
      let two = stops_then (lost_told lost) own in
      let first = none_lost lost in
      let next = own_stops l cuts kept (disk_without lost run) in
      record {
        blamed = blamed_after tells came broke knows e x y z a b b goes (blamed_saying tells came broke knows e y z b b (lost_told lost ++ own) ends);
        cuts = cuts;
        kept = kept;
        lost = lost;
        can = record { few = runs.few; spends = λ none some. let rest = runs.rest none some in omega arith; fits = fits; cut = cut; losses = losses };
        part = record {
          front = stopped cuts ++ part.front;
          rest = part.rest;
          both = ap (λ (r : List Answer). stopped cuts ++ r) part.both ∙ sym (append_assoc (stopped cuts) part.front part.rest);
          taken = takes_after tells came broke knows x y z (stopped cuts) said e part.front part.rest part.taken;
        };
        proper = λ empty. absurd (ends.proper empty);
        stops = stops_saying e cuts a b part.front ends.only (omega arith) (λ below. let rose = runs.risen below in omega arith) runs.none_failed
            (plain_stops e y z a b l cuts kept lost (disk_without lost run) runs fits cut ends);
      }

-- ---- steps after none

pub to_end : (steps : List Step) (v : VolumeState) (a b : State) → SpendsAtMost (steps ++ []) v a b → SpendsAtMost steps v a b
to_end steps v a b most = subst (λ (l : List Step). SpendsAtMost l v a b) (append-nil steps) most

pub none_more : (steps : List Step) (v : VolumeState) (a b : State) → SpendsAtMost [] v a b → SpendsAtMost steps v a b
none_more steps v a b most = to_end steps v a b (at_most_more steps [] v a b most)

pub spent_end : (steps : List Step) (v w : VolumeState) (a b : State) → Spent (steps ++ []) v w a b → Spent steps v w a b
spent_end steps v w a b spent = subst (λ (l : List Step). Spent l v w a b) (append-nil steps) spent
