-- The end of a run, if writes are on the media only after a flush.
use Rattle.std.proofs.Common.{◌≡◌, ◌⊎◌, inl, inr, ℕ, zero, suc, ◌+◌, Bool, List, [], ◌∷◌, ◌++◌, Option, Some, None, length, refl, sym, ap, ◌∙◌, subst, append_assoc, arith}
use Rattle.std.proofs.lemmas.List.{append-nil}
use Rattle.sha2.specs.Sha256.{sha256}
use Rattle.ft_base.specs.Count.{Rose}
use Rattle.ft_base.specs.PlainDisk.{PlainDisk}
use Rattle.ft_base.specs.StreamState.{SinkState, SourceState}
use Rattle.ft_base.specs.declared.told.Ack.TheVariants as ack
use Rattle.ft_media.specs.State.{State}
use Rattle.trace_model.specs.declared.answer.Answer.{Answer}
use Rattle.trace_model.specs.declared.answer.Answer.TheVariants as answer
use Rattle.trace_model.specs.declared.ran.Ran.{Ran}
use Rattle.trace_model.specs.Fits.{FitsLost}
use Rattle.trace_model.specs.Readings.{Reading}
use Rattle.trace_model.specs.Run.{digest_of, disk_without, end_of, lost_told, reads_in, stopped, touched_after, writes_in}
use Rattle.trace_model.proofs.FitLemmas.{lost_none}
use Rattle.trace_replay.specs.declared.ended.Ended.{Ended}
use Rattle.trace_replay.specs.declared.ended.Ended.TheVariants as ended
use Rattle.trace_replay.specs.declared.tally.Tally.{Tally}
use Rattle.trace_replay.specs.Ends as ends
use Rattle.trace_replay.specs.Events as events
use Rattle.trace_replay.specs.Events.{Event, ScriptState, TookBlocks, blocks_of, taking, told_bytes, touched_in}
use Rattle.trace_replay.specs.Events.Event.{Took}
use Rattle.trace_replay.specs.Owing as owing
use Rattle.trace_replay.specs.Ran.{IsTallyOf}
use Rattle.trace_replay.specs.Said.{Cuts, Takes, stops_in}
use Rattle.trace_replay.specs.Saying as saying
use Rattle.trace_replay.specs.Went as went
use Rattle.trace_replay.proofs.CutsLemmas.{left_after, stopped_add, stops_after, stops_saying, stops_then}
use Rattle.trace_replay.proofs.EndingLemmas.{failed_by, takes_through}
use Rattle.trace_replay.proofs.EndLineLemmas.{NoEnd, broken_alone, broken_end, broken_past, none_cuts, none_front, none_losses, none_next, said_alone, said_early, said_end, said_past, told_bytes-touched, took_past, took_then}
use Rattle.trace_replay.proofs.GivenLemmas.{told_bytes-append, told_bytes-taking}
use Rattle.trace_replay.proofs.OwingEndLemmas.{none_lost}
use Rattle.trace_replay.proofs.WentLemmas.{blamed_after, blamed_saying}

-- the end line of these counts
pub end_tally : (run : List Ran) (counted : Tally) (lost : ℕ) → IsTallyOf run counted → answer.End counted.writes counted.reads (length counted.touched.keys) (digest_of counted.touched.keys (disk_without lost run)) ≡ end_of lost run
end_tally run counted lost tally =
    let d = disk_without lost run in
    ap (λ n. answer.End n counted.reads (length counted.touched.keys) (digest_of counted.touched.keys d)) tally.writes
    ∙ ap (λ n. answer.End (writes_in run) n (length counted.touched.keys) (digest_of counted.touched.keys d)) tally.reads
    ∙ ap (λ (xs : List ℕ). answer.End (writes_in run) (reads_in run) (length xs) (digest_of xs d)) tally.touched

-- the first answer at the end, after the cuts, and the others
abbrev first_last : ℕ → Answer → Answer
first_last zero end = end
first_last (suc n) end = answer.Lost (suc n)

abbrev others_last : ℕ → Answer → List Answer
others_last zero end = []
others_last (suc n) end = end ∷ []

both_last : (lost : ℕ) (end : Answer) → first_last lost end ∷ others_last lost end ≡ lost_told lost ++ end ∷ []
both_last zero end = refl
both_last (suc n) end = refl

module _ {P : Type 0} (tells : P → ScriptState) (came : SourceState → SinkState → List Event → P → Type 0) (broke : SourceState → SinkState → List Event → Event → P → Type 0) (knows : SourceState → P → ℕ → List Reading → Bool → Type 0) where
  abbrev Said : P → P → List Answer → Type 0
  Said x y answers = events.Says came x y answers

  abbrev Goes : P → P → State → State → Type 0
  Goes x y a b = went.KeepsFrame tells came broke knows x y a b

  abbrev EndsFlushed : Ended → P → P → State → State → List Ran → Type 0
  EndsFlushed e x y a b run = owing.EndsFlushed tells came broke knows e x y a b run

  -- these answers were taken, and these addresses and their blocks
  abbrev TouchedThen : P → P → List Answer → List ℕ → PlainDisk → Type 0
  TouchedThen x y answers addresses d = (s : SourceState) → (b : SinkState) → (e : List Event) → came s b e x → (more : List Event) × TookBlocks answers addresses d more × came s b (e ++ more) y

  -- after cuts that were answered
  pub touched_after_cuts : (x y z : P) (n m : ℕ) (addresses : List ℕ) (d : PlainDisk) → Said x y (stopped n) → saying.SaysTouched came y z m addresses d → saying.SaysTouched came x z (n + m) addresses d
  touched_after_cuts x y z n m addresses d said touched = λ s b e here.
      let next = touched s b (e ++ taking (stopped n)) (said s b e here) in (
        taking (stopped n) ++ next.0,
        subst (λ (r : List Answer). TookBlocks r addresses d (taking (stopped n) ++ next.0)) (stopped_add n m) (took_past (stopped n) (stopped m) addresses d next.0 next.1),
        subst (λ (r : List Event). came s b r z) (append_assoc e (taking (stopped n)) next.0) next.2,
      )

  -- and then these answers
  pub touched_then : (x y z : P) (fs ys : List Answer) (addresses : List ℕ) (d : PlainDisk) → TouchedThen x y fs addresses d → Said y z ys → TouchedThen x z (fs ++ ys) addresses d
  touched_then x y z fs ys addresses d first said = λ s b e here.
      let before = first s b e here in (
        before.0 ++ taking ys,
        took_then fs ys addresses d before.0 before.1,
        subst (λ (r : List Event). came s b r z) (append_assoc e before.0 (taking ys)) (said s b (e ++ before.0) before.2),
      )

  -- ---- the end line

  module _ (x y z : P) (fs : List Answer) (no_end : NoEnd fs) (addresses : List ℕ) (d : PlainDisk) (first : TouchedThen x y fs addresses d) (writes reads touched : ℕ) (count : touched ≡ length addresses) where
    abbrev last : Answer
    last = answer.End writes reads (length addresses) (digest_of addresses d)

    same_last : (e more : List Event) → told_bytes e ≡ [] → touched_in more ≡ blocks_of d addresses → answer.End writes reads touched (sha256 (told_bytes (e ++ more))) ≡ last
    same_last e more none is =
        ap (λ k. answer.End writes reads k (sha256 (told_bytes (e ++ more)))) count
        ∙ ap (λ (r : List ℕ). answer.End writes reads (length addresses) (sha256 r)) (told_bytes-append e more ∙ ap (λ (r : List ℕ). r ++ told_bytes more) none ∙ told_bytes-touched more d addresses is)

    pub last_said : ((s : SourceState) → (b : SinkState) → (e : List Event) → came s b e y → came s b (e ++ taking (answer.End writes reads touched (sha256 (told_bytes e)) ∷ [])) z) → ends.SaysThrough came x z addresses d (fs ++ last ∷ [])
    last_said next = λ s b e here none.
        let before = first s b e here in (
          before.0 ++ Took last ∷ [],
          said_end fs last addresses d before.0 refl before.1,
          subst (λ (r : List Event). came s b r z) (ap (λ (k : Answer). (e ++ before.0) ++ Took k ∷ []) (same_last e before.0 none before.1.touched) ∙ append_assoc e before.0 (Took last ∷ [])) (next s b (e ++ before.0) before.2),
        )

    -- the run ended at the end line
    pub last_unsaid : (e : Ended)
        → (failed_by e ≡ failed_by ended.Sink → Rose (tells y).sink_faults (tells z).sink_faults × ((s : SourceState) → (b : SinkState) → (v : List Event) → came s b v y → broke s b v (Took (answer.End writes reads touched (sha256 (told_bytes v)))) z))
        → (failed_by e ≡ failed_by ended.Memory → Said y z [])
        → (failed_by e ≡ failed_by ended.Sink) ⊎ (failed_by e ≡ failed_by ended.Memory)
        → ((e ≡ ended.Sink) ⊎ (e ≡ ended.Memory)) × (e ≡ ended.Sink → Rose (tells y).sink_faults (tells z).sink_faults) × Takes e (ends.SaysThrough came x z addresses d) (ends.BreaksThrough came broke x z addresses d) fs (last ∷ [])
    last_unsaid ended.Sink sink memory only =
        let why = sink refl in (
          inl refl,
          (λ _. why.0),
          λ s b v here none.
              let before = first s b v here in (
                before.0,
                broken_end fs last addresses d before.0 no_end before.1,
                subst (λ (k : Answer). broke s b (v ++ before.0) (Took k) z) (same_last v before.0 none before.1.touched) (why.1 s b (v ++ before.0) before.2),
              ),
        )
    last_unsaid ended.Memory sink memory only = (
      inr refl,
      (λ is. cc),
      λ s b v here none.
          let before = first s b v here in (
            before.0,
            said_early fs addresses addresses d d before.0 no_end before.1,
            subst (λ (r : List Event). came s b r z) (append-nil (v ++ before.0)) (memory refl s b (v ++ before.0) before.2),
          ),
    )
    last_unsaid ended.Trace sink memory only = absurd (elim only [ inl is ↦ cc | inr is ↦ cc ])
    last_unsaid ended.Source sink memory only = absurd (elim only [ inl is ↦ cc | inr is ↦ cc ])
    last_unsaid ended.Flash sink memory only = absurd (elim only [ inl is ↦ cc | inr is ↦ cc ])
    last_unsaid ended.Disk sink memory only = absurd (elim only [ inl is ↦ cc | inr is ↦ cc ])

  -- ---- ends

  module _ (addresses : List ℕ) (d : PlainDisk) where
    through_said : (x y : P) (answers : List Answer) → NoEnd answers → Said x y answers → ends.SaysThrough came x y addresses d answers
    through_said x y answers no_end said = λ s b e here none. (taking answers, said_alone answers addresses d no_end, said s b e here)

    through_broken : (x y : P) (answers : List Answer) (next : Answer) → NoEnd (answers ++ next ∷ []) → events.Breaks came broke x y answers (Some next) → ends.BreaksThrough came broke x y addresses d answers (Some next)
    through_broken x y answers next no_end breaks = λ s b e here none. (taking answers, broken_alone answers next addresses d no_end, breaks s b e here)

    -- answers that come before the end line
    takes_early : (e : Ended) (x y : P) (front rest more : List Answer) → NoEnd (front ++ rest) → Takes e (Said x y) (events.Breaks came broke x y) front rest
        → Takes e (ends.SaysThrough came x y addresses d) (ends.BreaksThrough came broke x y addresses d) front (rest ++ more)
    takes_early ended.Sink x y front [] more no_end taken = absurd taken
    takes_early ended.Sink x y front (next ∷ after) more no_end taken = through_broken x y front next (none_next front next after no_end) taken
    takes_early ended.Trace x y front rest more no_end taken = through_said x y front (none_front front rest no_end) taken
    takes_early ended.Source x y front rest more no_end taken = through_said x y front (none_front front rest no_end) taken
    takes_early ended.Flash x y front rest more no_end taken = through_said x y front (none_front front rest no_end) taken
    takes_early ended.Disk x y front rest more no_end taken = through_said x y front (none_front front rest no_end) taken
    takes_early ended.Memory x y front rest more no_end taken = through_said x y front (none_front front rest no_end) taken

    module _ (x y : P) (xs : List Answer) (no_end : NoEnd xs) (said : Said x y xs) (z : P) where
      no_bytes : (e : List Event) → told_bytes e ≡ [] → told_bytes (e ++ taking xs) ≡ []
      no_bytes e none = told_bytes-append e (taking xs) ∙ ap (λ (r : List ℕ). r ++ told_bytes (taking xs)) none ∙ told_bytes-taking xs

      through_on : (ys : List Answer) → ends.SaysThrough came y z addresses d ys → ends.SaysThrough came x z addresses d (xs ++ ys)
      through_on ys next = λ s b e here none.
          let more = next s b (e ++ taking xs) (said s b e here) (no_bytes e none) in
          (taking xs ++ more.0, said_past xs ys addresses d more.0 no_end more.1, subst (λ (r : List Event). came s b r z) (append_assoc e (taking xs) more.0) more.2)

      broken_on : (ys : List Answer) (next : Option Answer) → ends.BreaksThrough came broke y z addresses d ys next → ends.BreaksThrough came broke x z addresses d (xs ++ ys) next
      broken_on ys None breaks = breaks
      broken_on ys (Some next) breaks = λ s b e here none.
          let more = breaks s b (e ++ taking xs) (said s b e here) (no_bytes e none) in
          (taking xs ++ more.0, broken_past xs ys next addresses d more.0 no_end more.1, subst (λ (r : List Event). broke s b r (Took next) z) (append_assoc e (taking xs) more.0) more.2)

      takes_on : (e : Ended) (front rest more : List Answer) → Takes e (ends.SaysThrough came y z addresses d) (ends.BreaksThrough came broke y z addresses d) front rest
          → Takes e (ends.SaysThrough came x z addresses d) (ends.BreaksThrough came broke x z addresses d) (xs ++ front) (rest ++ more)
      takes_on ended.Sink front [] more taken = absurd taken
      takes_on ended.Sink front (next ∷ after) more taken = broken_on front (Some next) taken
      takes_on ended.Trace front rest more taken = through_on front taken
      takes_on ended.Source front rest more taken = through_on front taken
      takes_on ended.Flash front rest more taken = through_on front taken
      takes_on ended.Disk front rest more taken = through_on front taken
      takes_on ended.Memory front rest more taken = through_on front taken

  -- these addresses are those of the run
  of_run : (e : Ended) (x z : P) (run : List Ran) (lost : ℕ) (addresses : List ℕ) → addresses ≡ touched_after run → (front rest : List Answer)
      → Takes e (ends.SaysThrough came x z addresses (disk_without lost run)) (ends.BreaksThrough came broke x z addresses (disk_without lost run)) front rest
      → Takes e (ends.SaysThrough came x z (touched_after run) (disk_without lost run)) (ends.BreaksThrough came broke x z (touched_after run) (disk_without lost run)) front rest
  of_run e x z run lost addresses same front rest taken =
      subst (λ (keys : List ℕ). Takes e (ends.SaysThrough came x z keys (disk_without lost run)) (ends.BreaksThrough came broke x z keys (disk_without lost run)) front rest) same taken

  empty_last : (rest more : List Answer) (one : Answer) → rest ++ one ∷ more ≡ [] → ⊥
  empty_last [] more one none = cc
  empty_last (x ∷ rest) more one none = cc

  -- within the flush, or within reading back
  pub flush_ended : (e : Ended) (x y : P) (a b : State) (run : List Ran) → went.EndsCut tells came broke knows e x y a b → EndsFlushed e x y a b run
  flush_ended e x y a b run cut =
      let last = end_of 0 run in
      record {
        blamed = cut.blamed;
        cuts = cut.cuts;
        lost = 0;
        few = cut.few;
        cut = λ _. refl;
        losses = lost_none ack.Flush run 0 refl;
        part = record {
          front = cut.part.front;
          rest = cut.part.rest ++ last ∷ [];
          both = ap (λ (r : List Answer). r ++ last ∷ []) cut.part.both ∙ append_assoc cut.part.front cut.part.rest (last ∷ []);
          taken = takes_early (touched_after run) (disk_without 0 run) e x y cut.part.front cut.part.rest (last ∷ []) (subst (λ (r : List Answer). NoEnd r) cut.part.both (none_cuts cut.cuts)) cut.part.taken;
        };
        proper = λ none. empty_last cut.part.rest [] last none;
        stops = cut.stops;
      }

  -- within the reads of the end
  pub reads_ended : (e : Ended) (x y z : P) (a b c : State) (run : List Ran) (n lost : ℕ) (addresses : List ℕ) → addresses ≡ touched_after run → (n ≡ 0 → lost ≡ 0) → FitsLost ack.Flush run lost → went.GoesCut tells came broke knows n 0 x y a b
      → ((end : Answer) → ends.EndsEnd tells came broke knows e y z b c addresses (disk_without lost run) end) → EndsFlushed e x z a c run
  reads_ended e x y z a b c run n lost addresses same none losses first next_any =
      let last = end_of lost run in
      let next = next_any (first_last lost last) in
      let front = next.part.front in
      record {
        blamed = blamed_after tells came broke knows e x y z a b c first.goes next.blamed;
        cuts = n + next.cuts;
        lost = lost;
        few = let few = next.few in let all = left_after n 0 a b first.cut in omega arith;
        cut = λ zero_cuts. none (omega arith);
        losses = losses;
        part = record {
          front = stopped n ++ front;
          rest = next.part.rest ++ others_last lost last;
          both = ap (λ (r : List Answer). r ++ (lost_told lost ++ last ∷ [])) (sym (stopped_add n next.cuts)) ∙ append_assoc (stopped n) (stopped next.cuts) (lost_told lost ++ last ∷ [])
              ∙ ap (λ (r : List Answer). stopped n ++ r)
              (ap (λ (r : List Answer). stopped next.cuts ++ r) (sym (both_last lost last)) ∙ sym (append_assoc (stopped next.cuts) (first_last lost last ∷ []) (others_last lost last)) ∙ ap (λ (r : List Answer). r ++ others_last lost last) next.part.both ∙ append_assoc front next.part.rest (others_last lost last))
              ∙ sym (append_assoc (stopped n) front (next.part.rest ++ others_last lost last));
          taken = of_run e x z run lost addresses same (stopped n ++ front) (next.part.rest ++ others_last lost last) (takes_on addresses (disk_without lost run) x y (stopped n) (none_cuts n) first.said z e front next.part.rest (others_last lost last) next.part.taken);
        };
        proper = λ empty. next.proper (left_none next.part.rest (others_last lost last) empty);
        stops = stops_after e n 0 a b c front first.cut next.stops;
      }
    where
      left_none : (xs ys : List Answer) → xs ++ ys ≡ [] → xs ≡ []
      left_none [] ys empty = refl
      left_none (v ∷ xs) ys empty = absurd (cc)

  -- while it was said how many are lost
  pub losses_ended : (e : Ended) (x y z : P) (a c : State) (run : List Ran) (n lost : ℕ) (addresses : List ℕ) → (n ≡ 0 → lost ≡ 0) → FitsLost ack.Flush run lost → saying.SaysTouched came x y n addresses (disk_without lost run) → Goes x y a c → Cuts n 0 a c
      → saying.EndsSaying tells came broke knows e y z (lost_told lost) → EndsFlushed e x z a c run
  losses_ended e x y z a c run n lost addresses none losses first goes cut ends =
      let last = end_of lost run in
      let part = ends.part in
      record {
        blamed = blamed_after tells came broke knows e x y z a c c goes (blamed_saying tells came broke knows e y z c c (lost_told lost) ends);
        cuts = n;
        lost = lost;
        few = cut.few;
        cut = none;
        losses = losses;
        part = record {
          front = stopped n ++ part.front;
          rest = part.rest ++ last ∷ [];
          both = ap (λ (r : List Answer). stopped n ++ (r ++ last ∷ [])) part.both ∙ ap (λ (r : List Answer). stopped n ++ r) (append_assoc part.front part.rest (last ∷ [])) ∙ sym (append_assoc (stopped n) part.front (part.rest ++ last ∷ []));
          taken = takes_through tells came broke knows x y z n addresses (disk_without lost run) first (touched_after run) e part.front part.rest (last ∷ []) (subst (λ (r : List Answer). NoEnd r) part.both (none_losses lost)) part.taken;
        };
        proper = λ empty. empty_last part.rest [] last empty;
        stops = stops_saying e n a c part.front ends.only (front_stops part.front part.rest part.both) cut.risen cut.none_failed cut.stops;
      }
    where
      front_stops : (front rest : List Answer) → lost_told lost ≡ front ++ rest → stops_in front ≡ 0
      front_stops front rest both =
          let sum : stops_in (lost_told lost) ≡ stops_in front + stops_in rest = ap stops_in both ∙ stops_then front rest in
          let zero_stops = none_lost lost in
          omega arith

  -- at the end line
  pub last_ended : (e : Ended) (x y z : P) (a c : State) (run : List Ran) (n lost : ℕ) (addresses : List ℕ) (last : Answer) → addresses ≡ touched_after run → (n ≡ 0 → lost ≡ 0) → FitsLost ack.Flush run lost → last ≡ end_of lost run → Goes x y a c → Cuts n 0 a c
      → ((e ≡ ended.Sink) ⊎ (e ≡ ended.Memory)) × (e ≡ ended.Sink → Rose (tells y).sink_faults (tells z).sink_faults) × Takes e (ends.SaysThrough came x z addresses (disk_without lost run)) (ends.BreaksThrough came broke x z addresses (disk_without lost run)) (stopped n ++ lost_told lost) (last ∷ []) → EndsFlushed e x z a c run
  last_ended e x y z a c run n lost addresses last same none losses is goes cut why =
      record {
        blamed = record {
          sink = λ sink. let rose = why.1 sink in let later = goes.sink in omega arith;
          flash = λ flash. absurd (elim why.0 [ inl sink ↦ cc | inr memory ↦ cc ]);
          disk = λ disk. absurd (elim why.0 [ inl sink ↦ cc | inr memory ↦ cc ]);
          not_trace = λ trace. elim why.0 [ inl sink ↦ cc | inr memory ↦ cc ];
          not_source = λ source. elim why.0 [ inl sink ↦ cc | inr memory ↦ cc ];
        };
        cuts = n;
        lost = lost;
        few = cut.few;
        cut = none;
        losses = losses;
        part = record {
          front = stopped n ++ lost_told lost;
          rest = last ∷ [];
          both = ap (λ (k : Answer). stopped n ++ (lost_told lost ++ k ∷ [])) (sym is) ∙ sym (append_assoc (stopped n) (lost_told lost) (last ∷ []));
          taken = of_run e x z run lost addresses same (stopped n ++ lost_told lost) (last ∷ []) why.2;
        };
        proper = λ empty. cc;
        stops = stops_saying e n a c (lost_told lost) why.0 (none_lost lost) cut.risen cut.none_failed cut.stops;
      }
