-- From the events of a script to the lines that are printed.
use Rattle.std.proofs.Common.{◌≡◌, ◌+◌, ◌++◌, ◌∷◌, [], ℕ, zero, suc, Bool, true, false, inl, inr, List, length, map, refl, sym, ap, ◌∙◌, subst, arith}
use Rattle.std.proofs.lemmas.Bool.{cases_Bool}
use Rattle.std.proofs.lemmas.List.{append-nil, length-append}
use Rattle.std.specs.List.{list_any}
use Rattle.ft_base.specs.PlainDisk.{BlockWrite}
use Rattle.ft_base.specs.declared.told.Ack.{Ack}
use Rattle.trace_model.specs.declared.answer.Answer.{Answer}
use Rattle.trace_model.specs.declared.answer.Answer.TheVariants as answer
use Rattle.trace_model.specs.declared.line.Line.{Line}
use Rattle.trace_model.specs.declared.ran.Ran.{Ran}
use Rattle.trace_model.specs.Fits.{FitsRun}
use Rattle.trace_model.specs.Readings.{Reading, accepted}
use Rattle.trace_model.specs.Run.{disk_without, lines_of, lost_told, stopped, touched_after}
use Rattle.trace_replay.specs.Commands.{is_end}
use Rattle.trace_replay.specs.Events.{BeforeEnd, Event, GivesFew, TookEach, answers_in, blocks_of, events_of, lines_given, touched_in}
use Rattle.trace_replay.specs.Events.Event.{Gave, Took, Touched}
use Rattle.trace_replay.proofs.GivenLemmas.{answers_in-append, lines_given-append, lines_given-run}
use Rattle.trace_replay.proofs.EndLineLemmas.{touched_in-append, touched_in-run}
use Rattle.many_disks.specs.Lines.{ManyReading}
use Rattle.many_disks.specs.Readings.{volume_readings}
use Rattle.many_disks.specs.Script.{events_printed, took_printed}
use Rattle.many_disks.specs.Tally.{AreOnOneDisk}
use Rattle.many_disks.specs.Told.{Printed, all_printed, answer_printed, answers_printed, choice_at, given_count, lost_after, lost_by, next_printed, own, run_printed, start_at}
use Rattle.many_disks.specs.Told.Printed.{Told}
use Rattle.many_disks.proofs.OwnLemmas.{ends_by-run}
use Rattle.many_disks.proofs.PrintedLemmas.{HasNoEnd, events_printed-append, length-lines_of, no_end-any, no_end-append, no_end-lost, no_end-stopped, printed_same, run_events, told_as}

-- ---- answers

-- with the addresses of the disk with this first block
abbrev told_from : ℕ → List Answer → List Printed
told_from start answers = map (λ a. Told (own start a)) answers

answer_told : (share disks start lost : ℕ) (run : List Ran) (a : Answer) → is_end a ≡ false → answer_printed share disks start lost run a ≡ Told (own start a) ∷ []
answer_told share disks start lost run (answer.End writes reads touched digest) none = absurd (cc)
answer_told share disks start lost run (answer.Wrote lba count) none = refl
answer_told share disks start lost run answer.Stopped none = refl
answer_told share disks start lost run (answer.Kept kept count) none = refl
answer_told share disks start lost run (answer.Lost count) none = refl
answer_told share disks start lost run (answer.ReadBack lba tag) none = refl
answer_told share disks start lost run answer.Flushed none = refl
answer_told share disks start lost run answer.Idle none = refl
answer_told share disks start lost run answer.Cut none = refl
answer_told share disks start lost run (answer.Refused line cause) none = refl

-- answers with no end line, and then others
answers_front : (share disks start lost : ℕ) (run : List Ran) (xs ys : List Answer) → HasNoEnd xs → answers_printed share disks start lost run (xs ++ ys) ≡ told_from start xs ++ answers_printed share disks start (lost_after xs lost) run ys
answers_front share disks start lost run [] ys none = refl
answers_front share disks start lost run (x ∷ xs) ys none =
    ap (λ (ps : List Printed). ps ++ answers_printed share disks start (lost_by lost x) run (xs ++ ys)) (answer_told share disks start lost run x none.0)
    ∙ ap (λ (ps : List Printed). Told (own start x) ∷ ps) (answers_front share disks start (lost_by lost x) run xs ys none.1)

answers_all : (share disks start lost : ℕ) (run : List Ran) (xs : List Answer) → HasNoEnd xs → answers_printed share disks start lost run xs ≡ told_from start xs
answers_all share disks start lost run xs none =
    ap (answers_printed share disks start lost run) (sym (append-nil xs)) ∙ answers_front share disks start lost run xs [] none ∙ append-nil (told_from start xs)

-- the block writes that are lost after cuts
lost_after-stopped : (cuts lost : ℕ) (ys : List Answer) → lost_after (stopped cuts ++ ys) lost ≡ lost_after ys lost
lost_after-stopped zero lost ys = refl
lost_after-stopped (suc n) lost ys = lost_after-stopped n lost ys

lost_after-told : (lost : ℕ) → lost_after (lost_told lost) 0 ≡ lost
lost_after-told zero = refl
lost_after-told (suc n) = refl

no_end_before : (run : List Ran) (before : List Event) → BeforeEnd run before → HasNoEnd (answers_in before)
no_end_before run before so = subst HasNoEnd (sym so.told) (no_end-append (stopped so.cuts) (lost_told so.lost) (no_end-stopped so.cuts) (no_end-lost so.lost))

lost_before : (run : List Ran) (before : List Event) (so : BeforeEnd run before) → lost_after (answers_in before) 0 ≡ so.lost
lost_before run before so = ap (λ (xs : List Answer). lost_after xs 0) so.told ∙ lost_after-stopped so.cuts 0 (lost_told so.lost) ∙ lost_after-told so.lost

-- ---- events after a run

module _ (share disks : ℕ) (readings : List ManyReading) where
  -- no line was given, and no end line was taken
  events_quiet : (ls : List Line) (bs : List BlockWrite) (events : List Event) → lines_given events ≡ [] → HasNoEnd (answers_in events) → events_printed share disks readings ls bs events ≡ told_from (start_at share readings (length ls)) (answers_in events)
  events_quiet ls bs [] given none = refl
  events_quiet ls bs (Gave line ∷ events) given none = absurd (cc)
  events_quiet ls bs (Took a ∷ events) given none =
      let start = start_at share readings (length ls) in
      ap (λ (ps : List Printed). ps ++ events_printed share disks readings (ls ++ []) (bs ++ []) events) (told_as share disks start ls bs a none.0)
      ∙ ap (λ (ps : List Printed). Told (own start a) ∷ ps) (printed_same share disks readings (ls ++ []) ls (bs ++ []) bs events (append-nil ls) (append-nil bs) ∙ events_quiet ls bs events given none.1)
  events_quiet ls bs (Touched lba block ∷ events) given none =
      printed_same share disks readings (ls ++ []) ls _ (bs ++ (record { lba = lba; block = block }) ∷ []) events (append-nil ls) refl
      ∙ events_quiet ls (bs ++ (record { lba = lba; block = block }) ∷ []) events given none

module _ (share disks : ℕ) (readings : List ManyReading) (ack : Ack) (run : List Ran) (left : List Reading) (same : volume_readings share 0 readings ≡ map accepted (lines_of run) ++ left) (fits : FitsRun ack run) (on : AreOnOneDisk share (lines_of run)) where
  events_then : (more : List Event) → events_printed share disks readings [] [] (events_of run ++ more) ≡ run_printed share readings run ++ events_printed share disks readings (lines_of run) [] more
  events_then more =
      events_printed-append share disks readings [] [] (events_of run) more
      ∙ ap (λ (ps : List Printed). ps ++ events_printed share disks readings (lines_given (events_of run)) (touched_in (events_of run)) more) (run_events share disks readings ack run left same fits)
      ∙ ap (λ (ps : List Printed). run_printed share readings run ++ ps) (printed_same share disks readings _ (lines_of run) _ [] more (lines_given-run run) (touched_in-run run))

  start_run : start_at share readings (length (lines_of run)) ≡ start_at share readings (length run + 0)
  start_run = ap (start_at share readings) (let long = length-lines_of run in omega arith)

  start_next : (line : Line) → start_at share readings (length (lines_of run ++ line ∷ [])) ≡ start_at share readings (length run + 1)
  start_next line = ap (start_at share readings) (let long = length-lines_of run in let more = length-append (lines_of run) (line ∷ []) in omega arith)

  -- no line was given after the run, and no end line was taken
  printed_quiet : (more : List Event) → lines_given more ≡ [] → HasNoEnd (answers_in more) → events_printed share disks readings [] [] (events_of run ++ more) ≡ all_printed share disks readings run false (answers_in more)
  printed_quiet more given none =
      events_then more
      ∙ ap (λ (ps : List Printed). run_printed share readings run ++ ps)
      (events_quiet share disks readings (lines_of run) [] more given none
      ∙ ap (λ start. told_from start (answers_in more)) start_run
      ∙ sym (answers_all share disks (start_at share readings (length run + 0)) 0 run (answers_in more) none))

  -- one line was given
  printed_given : (line : Line) (rest : List Event) → lines_given rest ≡ [] → HasNoEnd (answers_in rest) → events_printed share disks readings [] [] (events_of run ++ Gave line ∷ rest) ≡ all_printed share disks readings run true (answers_in rest)
  printed_given line rest given none =
      events_then (Gave line ∷ rest)
      ∙ ap (λ (ps : List Printed). run_printed share readings run ++ ps)
      (ap (λ n. next_printed true (choice_at readings n) ++ events_printed share disks readings (lines_of run ++ line ∷ []) [] rest) (length-lines_of run)
      ∙ ap (λ (ps : List Printed). next_printed true (choice_at readings (length run)) ++ ps)
      (events_quiet share disks readings (lines_of run ++ line ∷ []) [] rest given none
      ∙ ap (λ start. told_from start (answers_in rest)) (start_next line)
      ∙ sym (answers_all share disks (start_at share readings (length run + 1)) 0 run (answers_in rest) none)))

  -- the end line as it is printed
  end_told : (start lost : ℕ) (a : Answer) → took_printed share disks start (lines_of run) (blocks_of (disk_without lost run) (touched_after run)) a ≡ answer_printed share disks start lost run a
  end_told start lost (answer.End writes reads touched digest) = ends_by-run share lost run on disks
  end_told start lost (answer.Wrote lba count) = refl
  end_told start lost answer.Stopped = refl
  end_told start lost (answer.Kept kept count) = refl
  end_told start lost (answer.Lost count) = refl
  end_told start lost (answer.ReadBack lba tag) = refl
  end_told start lost answer.Flushed = refl
  end_told start lost answer.Idle = refl
  end_told start lost answer.Cut = refl
  end_told start lost (answer.Refused line cause) = refl

  -- an answer that comes after such events
  end_event : (start : ℕ) (ls : List Line) (before : List Event) (so : BeforeEnd run before) (a : Answer) → ls ≡ lines_of run → took_printed share disks start ls (touched_in before) a ≡ answer_printed share disks start (lost_after (answers_in before) 0) run a
  end_event start ls before so a lines =
      ap (λ (l : List Line). took_printed share disks start l (touched_in before) a) lines
      ∙ ap (λ (bs : List BlockWrite). took_printed share disks start (lines_of run) bs a) so.touched
      ∙ end_told start so.lost a
      ∙ ap (λ lost. answer_printed share disks start lost run a) (sym (lost_before run before so))

  -- the end line was taken
  printed_end : (before : List Event) (a : Answer) → BeforeEnd run before → events_printed share disks readings [] [] (events_of run ++ (before ++ Took a ∷ [])) ≡ all_printed share disks readings run false (answers_in before ++ a ∷ [])
  printed_end before a so =
      let start = start_at share readings (length run + 0) in
      let lines : lines_of run ++ lines_given before ≡ lines_of run = ap (λ (ls : List Line). lines_of run ++ ls) so.none ∙ append-nil (lines_of run) in
      events_then (before ++ Took a ∷ [])
      ∙ ap (λ (ps : List Printed). run_printed share readings run ++ ps)
      (events_printed-append share disks readings (lines_of run) [] before (Took a ∷ [])
      ∙ ap (λ (ps : List Printed). ps ++ events_printed share disks readings (lines_of run ++ lines_given before) (touched_in before) (Took a ∷ [])) (events_quiet share disks readings (lines_of run) [] before so.none (no_end_before run before so) ∙ ap (λ s. told_from s (answers_in before)) start_run)
      ∙ ap (λ (ps : List Printed). told_from start (answers_in before) ++ (ps ++ []))
      (ap (λ (ls : List Line). took_printed share disks (start_at share readings (length ls)) (lines_of run ++ lines_given before) (touched_in before) a) lines
      ∙ ap (λ s. took_printed share disks s (lines_of run ++ lines_given before) (touched_in before) a) start_run
      ∙ end_event start (lines_of run ++ lines_given before) before so a lines)
      ∙ sym (answers_front share disks start 0 run (answers_in before) (a ∷ []) (no_end_before run before so)))

  -- ---- however it was

  pub printed_all : (more : List Event) (answers : List Answer) → answers_in more ≡ answers → TookEach run answers more → GivesFew more → (given : Bool) × (events_printed share disks readings [] [] (events_of run ++ more) ≡ all_printed share disks readings run given answers)
  printed_all more answers is (inl none) (inl given) = (false, printed_quiet more given (subst HasNoEnd (sym is) (no_end-any answers none)) ∙ ap (all_printed share disks readings run false) is)
  printed_all more answers is (inl none) (inr (line, rest, first, given)) =
      let told : answers_in rest ≡ answers = ap answers_in (sym first) ∙ is in (
        true,
        ap (λ (es : List Event). events_printed share disks readings [] [] (events_of run ++ es)) first
            ∙ printed_given line rest given (subst HasNoEnd (sym told) (no_end-any answers none))
            ∙ ap (all_printed share disks readings run true) told,
      )
  printed_all more answers is (inr (a, before, last, so)) few =
      let told : answers_in before ++ a ∷ [] ≡ answers = sym (answers_in-append before (Took a ∷ [])) ∙ ap answers_in (sym last) ∙ is in (
        false,
        ap (λ (es : List Event). events_printed share disks readings [] [] (events_of run ++ es)) last
            ∙ printed_end before a so
            ∙ ap (all_printed share disks readings run false) told,
      )

  -- the next answer, of which a part was printed
  pub record PrintedNext (more : List Event) (answers : List Answer) (next : Answer) : Type 0 where
    pub given : Bool
    pub all : events_printed share disks readings [] [] (events_of run ++ more) ≡ all_printed share disks readings run given answers
    pub event : took_printed share disks (start_at share readings (length (lines_given (events_of run ++ more)))) (lines_given (events_of run ++ more)) (touched_in (events_of run ++ more)) next
        ≡ answer_printed share disks (start_at share readings (length run + given_count given)) (lost_after answers 0) run next

  lines_then : (more : List Event) → lines_given (events_of run ++ more) ≡ lines_of run ++ lines_given more
  lines_then more = lines_given-append (events_of run) more ∙ ap (λ (ls : List Line). ls ++ lines_given more) (lines_given-run run)

  touched_then : (more : List Event) → touched_in (events_of run ++ more) ≡ touched_in more
  touched_then more = touched_in-append (events_of run) more ∙ ap (λ (bs : List BlockWrite). bs ++ touched_in more) (touched_in-run run)

  -- an answer that is no end line
  event_told : (more : List Event) (start lost : ℕ) (next : Answer) → is_end next ≡ false → start_at share readings (length (lines_given (events_of run ++ more))) ≡ start
      → took_printed share disks (start_at share readings (length (lines_given (events_of run ++ more)))) (lines_given (events_of run ++ more)) (touched_in (events_of run ++ more)) next
      ≡ answer_printed share disks start lost run next
  event_told more start lost next other is =
      told_as share disks (start_at share readings (length (lines_given (events_of run ++ more)))) (lines_given (events_of run ++ more)) (touched_in (events_of run ++ more)) next other
      ∙ ap (λ s. Told (own s next) ∷ []) is
      ∙ sym (answer_told share disks start lost run next other)

  next_other : (more : List Event) (answers : List Answer) (next : Answer) → answers_in more ≡ answers → HasNoEnd answers → is_end next ≡ false → GivesFew more → PrintedNext more answers next
  next_other more answers next is none other (inl given) = record {
    given = false;
    all = printed_quiet more given (subst HasNoEnd (sym is) none) ∙ ap (all_printed share disks readings run false) is;
    event = event_told more (start_at share readings (length run + 0)) (lost_after answers 0) next other
        (ap (λ (ls : List Line). start_at share readings (length ls)) (lines_then more ∙ ap (λ (ls : List Line). lines_of run ++ ls) given ∙ append-nil (lines_of run)) ∙ start_run);
  }
  next_other more answers next is none other (inr (line, rest, first, given)) =
      let told : answers_in rest ≡ answers = ap answers_in (sym first) ∙ is in
      record {
        given = true;
        all =
            ap (λ (es : List Event). events_printed share disks readings [] [] (events_of run ++ es)) first
            ∙ printed_given line rest given (subst HasNoEnd (sym told) none)
            ∙ ap (all_printed share disks readings run true) told;
        event = event_told more (start_at share readings (length run + 1)) (lost_after answers 0) next other
            (ap (λ (ls : List Line). start_at share readings (length ls)) (lines_then more ∙ ap (λ (es : List Event). lines_of run ++ lines_given es) first ∙ ap (λ (ls : List Line). lines_of run ++ line ∷ ls) given) ∙ start_next line);
      }

  next_end : (more : List Event) (answers : List Answer) (next : Answer) → answers_in more ≡ answers → BeforeEnd run more → PrintedNext more answers next
  next_end more answers next is so =
      let lines : lines_given (events_of run ++ more) ≡ lines_of run = lines_then more ∙ ap (λ (ls : List Line). lines_of run ++ ls) so.none ∙ append-nil (lines_of run) in
      record {
        given = false;
        all = printed_quiet more so.none (no_end_before run more so) ∙ ap (all_printed share disks readings run false) is;
        event =
            ap (λ (ls : List Line). took_printed share disks (start_at share readings (length ls)) (lines_given (events_of run ++ more)) (touched_in (events_of run ++ more)) next) lines
            ∙ ap (λ start. took_printed share disks start (lines_given (events_of run ++ more)) (touched_in (events_of run ++ more)) next) start_run
            ∙ ap (λ (bs : List BlockWrite). took_printed share disks (start_at share readings (length run + 0)) (lines_given (events_of run ++ more)) bs next) (touched_then more)
            ∙ end_event (start_at share readings (length run + 0)) (lines_given (events_of run ++ more)) more so next lines
            ∙ ap (λ (xs : List Answer). answer_printed share disks (start_at share readings (length run + 0)) (lost_after xs 0) run next) is;
      }

  pub printed_next : (more : List Event) (answers : List Answer) (next : Answer) → answers_in more ≡ answers → list_any is_end answers ≡ false → (is_end next ≡ true → BeforeEnd run more) → GivesFew more → PrintedNext more answers next
  printed_next more answers next is none before few = elim (cases_Bool (is_end next)) [
    | inl ends ↦ next_end more answers next is (before ends)
    | inr other ↦ next_other more answers next is (no_end-any answers none) other few
  ]

  -- no answer comes next
  pub printed_none : (more : List Event) (answers : List Answer) → answers_in more ≡ answers → list_any is_end answers ≡ false → lines_given more ≡ [] → events_printed share disks readings [] [] (events_of run ++ more) ≡ all_printed share disks readings run false answers
  printed_none more answers is none given = printed_quiet more given (subst HasNoEnd (sym is) (no_end-any answers none)) ∙ ap (all_printed share disks readings run false) is
