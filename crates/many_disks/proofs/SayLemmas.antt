-- Answers that are printed together with the addresses of a disk.
use Rattle.std.proofs.Common.{◌≡◌, ◌⊎◌, ◌++◌, ◌∷◌, [], ℕ, Bool, false, List, Some, Result, Ok, Err, OnOk, OnErr, IfErr, IsErrOf, inl, inr, map, refl, sym, ap, ◌∙◌, subst, append_assoc}
use Rattle.std.proofs.lemmas.List.{append-nil}
use Rattle.ft_base.specs.Count.{Rose}
use Rattle.ft_base.specs.StreamState.{SinkState, SourceState}
use Rattle.trace_model.specs.declared.answer.Answer.{Answer}
use Rattle.trace_model.specs.Readings.{Reading}
use Rattle.trace_replay.specs.declared.ended.Ended.{Ended}
use Rattle.trace_replay.specs.declared.ended.Ended.TheVariants as ended
use Rattle.trace_replay.specs.Commands.{is_end}
use Rattle.trace_replay.specs.Events as events
use Rattle.trace_replay.specs.Events.{Event, ScriptState}
use Rattle.trace_replay.specs.Events.Event.{Took}
use Rattle.trace_replay.specs.Said as printed
use Rattle.trace_replay.specs.Said.{SaidFront, SaidPart, Takes}
use Rattle.trace_replay.specs.Saying as saying
use Rattle.many_disks.specs.Told.{own}
use Rattle.many_disks.proofs.PrintedLemmas.{HasNoEnd}

-- the answers that are printed as the front and the rest
record Split (start : ℕ) (due front rest : List Answer) : Type 0 where
  pub before : List Answer
  pub after : List Answer
  pub both : due ≡ before ++ after
  pub front_is : map (own start) before ≡ front
  pub rest_is : map (own start) after ≡ rest

split_own : (start : ℕ) (due front rest : List Answer) → map (own start) due ≡ front ++ rest → Split start due front rest
split_own start due [] rest is = record { before = []; after = due; both = refl; front_is = refl; rest_is = is }
split_own start [] (f ∷ front) rest is = absurd (cc)
split_own start (a ∷ due) (f ∷ front) rest is =
    let first : own start a ≡ f = cc in
    let others : map (own start) due ≡ front ++ rest = cc in
    let so = split_own start due front rest others in
    record {
      before = a ∷ so.before;
      after = so.after;
      both = ap (λ (xs : List Answer). a ∷ xs) so.both;
      front_is = ap (λ (x : Answer). x ∷ map (own start) so.before) first ∙ ap (λ (xs : List Answer). f ∷ xs) so.front_is;
      rest_is = so.rest_is;
    }

no_end-front : (xs ys : List Answer) → HasNoEnd (xs ++ ys) → HasNoEnd xs
no_end-front [] ys none = tt
no_end-front (x ∷ xs) ys none = (none.0, no_end-front xs ys none.1)

no_end-rest : (xs ys : List Answer) → HasNoEnd (xs ++ ys) → HasNoEnd ys
no_end-rest [] ys none = none
no_end-rest (x ∷ xs) ys none = no_end-rest xs ys none.1

module _ {P : Type 0} (tells : P → ScriptState) (came : SourceState → SinkState → List Event → P → Type 0) (broke : SourceState → SinkState → List Event → Event → P → Type 0) (knows : SourceState → P → ℕ → List Reading → Bool → Type 0)
    (p q : P) (x y : SinkState) (start : ℕ)
    (took : (answers : List Answer) → HasNoEnd answers → printed.Said x y (map (own start) answers) → events.Says came p q answers)
    (broken : (answers : List Answer) (next : Answer) → HasNoEnd answers → is_end next ≡ false → SaidPart x y (map (own start) answers) (Some (own start next)) → (s : SourceState) → (b : SinkState) → (e : List Event) → came s b e p → broke s b (e ++ events.taking answers) (Took next) q) where
  takes_own : (e : Ended) (before after : List Answer) → HasNoEnd before → HasNoEnd after → (after ≡ [] → ⊥) → Takes e (printed.Said x y) (SaidPart x y) (map (own start) before) (map (own start) after) → Takes e (events.Says came p q) (events.Breaks came broke p q) before after
  takes_own ended.Sink before [] none others proper taken = absurd (proper refl)
  takes_own ended.Sink before (next ∷ after) none others proper taken = broken before next none others.0 taken
  takes_own ended.Trace before after none others proper taken = took before none taken
  takes_own ended.Source before after none others proper taken = took before none taken
  takes_own ended.Flash before after none others proper taken = took before none taken
  takes_own ended.Disk before after none others proper taken = took before none taken
  takes_own ended.Memory before after none others proper taken = took before none taken

  -- answers, as far as they were printed
  pub says_own : (due : List Answer) (result : Result (Unit {0}) Ended) → HasNoEnd due → saying.GoesScript tells came broke knows p q → OnOk result (printed.Said x y (map (own start) due)) → IfErr result (λ e. SaidFront e x y (map (own start) due))
      → OnErr result (IsErrOf result ended.Sink ⊎ IsErrOf result ended.Memory) → (IsErrOf result ended.Sink → Rose (tells p).sink_faults (tells q).sink_faults) → saying.SaysSo tells came broke knows p q due result
  says_own due (Ok done) none goes said front only rose = record { goes = goes; done = took due none said; ended = tt }
  says_own due (Err e) none goes said front only rose =
      let part = front.part in
      let so = split_own start due part.front part.rest part.both in
      let all = subst HasNoEnd so.both none in
      let proper : so.after ≡ [] → ⊥ = λ is. front.proper (sym so.rest_is ∙ ap (map (own start)) is) in
      record {
        goes = goes;
        done = tt;
        ended = record {
          only = elim only [ inl is ↦ inl (cc) | inr is ↦ inr (cc) ];
          rose = λ is. rose (ap Err is);
          part = record {
            front = so.before;
            rest = so.after;
            both = so.both;
            taken = takes_own e so.before so.after (no_end-front so.before so.after all) (no_end-rest so.before so.after all) proper
                (subst (λ (xs : List Answer). Takes e (printed.Said x y) (SaidPart x y) (map (own start) so.before) xs) (sym so.rest_is)
                (subst (λ (xs : List Answer). Takes e (printed.Said x y) (SaidPart x y) xs part.rest) (sym so.front_is) part.taken));
          };
          proper = proper;
        };
      }

-- ---- answers, one after the other

taking_then : (xs ys : List Answer) → events.taking (xs ++ ys) ≡ events.taking xs ++ events.taking ys
taking_then [] ys = refl
taking_then (x ∷ xs) ys = ap (λ (r : List Event). Took x ∷ r) (taking_then xs ys)

module _ {P : Type 0} (came : SourceState → SinkState → List Event → P → Type 0) where
  pub says_none : (p : P) → events.Says came p p []
  says_none p = λ s b e here. subst (λ (z : List Event). came s b z p) (sym (append-nil e)) here

  pub says_then : (p q v : P) (xs ys : List Answer) → events.Says came p q xs → events.Says came q v ys → events.Says came p v (xs ++ ys)
  says_then p q v xs ys first next = λ s b e here.
      subst (λ (z : List Event). came s b z v) (append_assoc e (events.taking xs) (events.taking ys) ∙ ap (λ (r : List Event). e ++ r) (sym (taking_then xs ys))) (next s b (e ++ events.taking xs) (first s b e here))
