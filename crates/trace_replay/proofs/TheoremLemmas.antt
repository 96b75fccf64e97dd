-- How a run ends: the records of the theorem from what the lines left.
use Rattle.std.proofs.Common.{◌≡◌, ◌≤◌, ◌+◌, ◌-◌, ◌∷◌, ◌++◌, [], ℕ, Bool, true, false, List, Option, Some, None, Ok, Err, map, drop, inl, inr, length, refl, sym, ap, ◌∙◌, subst, append_assoc, arith}
use Rattle.std.proofs.lemmas.Bool.{cases_lt}
use Rattle.std.proofs.lemmas.List.{append-nil, length_push}
use Rattle.ft_base.specs.Contents.{Contents, Image}
use Rattle.ft_base.specs.PlainDisk.{BlockWrite, PlainDisk}
use Rattle.ft_base.specs.StreamState.{SinkState, SourceState}
use Rattle.ft_base.specs.Told.{Told}
use Rattle.ft_base.specs.declared.power.Outcome.{Outcome}
use Rattle.ft_base.specs.declared.power.Stop.{Stop}
use Rattle.ft_base.specs.declared.told.Ack.{Ack}
use Rattle.ft_base.specs.declared.told.Ack.TheVariants as ack
use Rattle.ft_media.specs.Passes.{NeverFall}
use Rattle.ft_media.specs.State.{State}
use Rattle.ft_volume.specs.Volume.{VolumeState}
use Rattle.ft_volume.specs.Standing.{StandFor}
use Rattle.trace_model.specs.declared.answer.Answer.{Answer}
use Rattle.trace_model.specs.declared.answer.Answer.TheVariants as answer
use Rattle.trace_model.specs.declared.line.Line.{Line}
use Rattle.trace_model.specs.declared.line.Line.TheVariants as line
use Rattle.trace_model.specs.declared.line.LineError.{LineError}
use Rattle.trace_model.specs.declared.ran.Ran.{Ran}
use Rattle.trace_model.specs.Backs.{AreUncut, wrote_in}
use Rattle.trace_model.specs.Fits.{FitsEnd, FitsLost, FitsNext, armed_after, block_count, is_cut, kept_since_flush}
use Rattle.trace_model.specs.Readings.{Reading, accepted}
use Rattle.trace_model.specs.Run.{after_line, answers_of, cuts_in, digest_of, disk_after, disk_without, disk_written, with_line, end_answers, end_of, lines_of, reads_in, stopped, touched_after, writes_after, writes_in}
use Rattle.trace_model.specs.SoFar.{AnswersTo, MayTell, WasRun, as_ran, begun, begun_unless, blocks_unless, disk_within, next_refusal, refusal, refusal_of}
use Rattle.trace_model.proofs.LossLemmas.{drop_own, drop_past}
use Rattle.trace_model.proofs.RunLemmas.{disk_line, disk_without-none}
use Rattle.trace_replay.specs.declared.ended.Ended.{Ended}
use Rattle.trace_replay.specs.declared.ended.Ended.TheVariants as ended
use Rattle.trace_replay.specs.declared.recent.Recent.{Recent}
use Rattle.trace_replay.specs.declared.tally.Tally.{Tally}
use Rattle.trace_replay.specs.AsMade.{IsAsMade}
use Rattle.trace_replay.specs.Asked.{RunsLines}
use Rattle.trace_replay.specs.Ends.{BreaksThrough, CanBecome, EndsEnd, EndsWithin, SaysThrough, StandForPart}
use Rattle.trace_replay.specs.Events.{Breaks, BreaksBy, BreaksNext, CameBy, Event, KnowsGiven, KnowsLines, NextRefused, NextSaid, Says, ScriptState, events_of, lines_given, refusal_after, refused_for, taking}
use Rattle.trace_replay.specs.Events.Event.{Gave, Took}
use Rattle.trace_replay.specs.Owing.{EndsFlushed, EndsOwing, IsFlushed, StandForLater, StandForOlder}
use Rattle.trace_replay.specs.Ran.{IsTallyOf, RanSoFar}
use Rattle.trace_replay.specs.Said.{Cuts, RoseAtLeast, Takes, TellsStops, TookPart}
use Rattle.trace_replay.specs.Spends.{IsQuiet, SpendsAtMost, Spent, fresh, steps_after, steps_of, touches_each}
use Rattle.trace_replay.specs.Theorem.{EndsEarly, EndsPart, EndsRefused, EndsUnread, LeavesLines, LeavesRig, RunsWhole, StandForNext, spent_by}
use Rattle.trace_replay.proofs.BacksLemmas.{end_reads_few, end_writes_back, end_writes_none, lines_read_no_more, lines_write_back, reads_few, writes_none}
use Rattle.trace_replay.proofs.CutsLemmas.{counts_none, counts_then, failed_then}
use Rattle.trace_replay.proofs.EndLineLemmas.{NoEnd, after_end, after_given, after_nothing, none_front, none_line, none_next, within_end, within_given}
use Rattle.trace_replay.proofs.FromLemmas.{takes_within}
use Rattle.trace_replay.proofs.GivenLemmas.{given_left, lines_given-next, lines_given-run, next_left, told_bytes-run}
use Rattle.trace_replay.proofs.OwingLemmas.{older_owing}
use Rattle.trace_replay.proofs.RanLemmas.{can_next, can_next_owing, can_some, so_far_none}
use Rattle.trace_replay.proofs.SpendsLemmas.{run_begun, run_end, run_most, run_then}

-- ---- the media

the_none : (n : ℕ) → n ≤ 0 → n ≡ 0
the_none n within = omega arith

-- a line without its newest block writes
drop_line : (l : Line) (n : ℕ) (ws : List BlockWrite) → block_count l ≤ n → drop n (with_line l (block_count l) ws) ≡ drop (n - block_count l) ws
drop_line (line.Write lba count tag) n ws past = drop_past n lba tag count ws past
drop_line (line.Read lba count) n ws past = ap (λ k. drop k ws) (omega arith)
drop_line line.Flush n ws past = ap (λ k. drop k ws) (omega arith)
drop_line line.Idle n ws past = ap (λ k. drop k ws) (omega arith)
drop_line (line.Stop after outcome) n ws past = ap (λ k. drop k ws) (omega arith)
drop_line (line.Cut outcome) n ws past = ap (λ k. drop k ws) (omega arith)
drop_line line.Nothing n ws past = ap (λ k. drop k ws) (omega arith)

keep_line : (l : Line) (n : ℕ) (ws : List BlockWrite) → n ≤ block_count l → drop n (with_line l (block_count l) ws) ≡ with_line l (block_count l - n) ws
keep_line (line.Write lba count tag) n ws within = drop_own n lba tag count ws within
keep_line (line.Read lba count) n ws within = ap (λ k. drop k ws) (the_none n within)
keep_line line.Flush n ws within = ap (λ k. drop k ws) (the_none n within)
keep_line line.Idle n ws within = ap (λ k. drop k ws) (the_none n within)
keep_line (line.Stop after outcome) n ws within = ap (λ k. drop k ws) (the_none n within)
keep_line (line.Cut outcome) n ws within = ap (λ k. drop k ws) (the_none n within)
keep_line line.Nothing n ws within = ap (λ k. drop k ws) (the_none n within)

after_none : (l : Line) (d : PlainDisk) → after_line l 0 d ≡ d
after_none (line.Write lba count tag) d = refl
after_none (line.Read lba count) d = refl
after_none line.Flush d = refl
after_none line.Idle d = refl
after_none (line.Stop after outcome) d = refl
after_none (line.Cut outcome) d = refl
after_none line.Nothing d = refl

none_within : (run : List Ran) (left : List Reading) (lost : ℕ) → disk_within run left lost 0 ≡ disk_without lost run
none_within run [] lost = refl
none_within run (Err cause ∷ left) lost = refl
none_within run (Ok l ∷ left) lost = disk_line l 0 (drop lost (writes_after run)) ∙ after_none l (disk_without lost run)

-- nothing of the next line was written
pub media_none : (o : Told) (stands : Image → PlainDisk → Type 0) (contents : Contents) (run : List Ran) (left : List Reading) → StandFor stands contents (disk_after run) → StandForNext o stands contents run left
media_none o stands contents run left stood x now = (0, 0, record { blocks = omega arith; none = λ _. refl; since = omega arith; front = λ _. refl }, subst (λ (d : PlainDisk). stands x d) (sym (none_within run left 0 ∙ disk_without-none 0 run refl)) (stood x now))

-- nothing of the next line was written, and some block writes before it may be missing
media_older : (o : Told) (stands : Image → PlainDisk → Type 0) (contents : Contents) (run : List Ran) (left : List Reading) (most : ℕ) → most ≤ kept_since_flush run → (o.ack ≡ ack.Write → most ≡ 0) → StandForOlder stands contents most (writes_after run) → StandForNext o stands contents run left
media_older o stands contents run left most since none older x now =
    let is = older x now in
    let few = is.1 in (
      is.0,
      0,
      record { blocks = omega arith; none = λ acked. (let no = none acked in omega arith); since = omega arith; front = λ _. refl },
      subst (λ (d : PlainDisk). stands x d) (sym (none_within run left is.0)) is.2,
    )

-- some first blocks of the next line were written, or some before it are missing
media_later : (o : Told) (stands : Image → PlainDisk → Type 0) (contents : Contents) (run : List Ran) (recent : List Recent) (l : Line) (left : List Reading) → o.ack ≡ ack.Flush → refusal_of run l ≡ None → length recent ≤ kept_since_flush run → StandForLater stands contents recent l run
    → StandForNext o stands contents run (Ok l ∷ left)
media_later o stands contents run recent l left acked none since later x now =
    let is = later x now in
    elim (cases_lt (block_count l) is.0) [
      | inl past ↦
          let lost : ℕ = is.0 - block_count l in
          let few = is.1 in (
            lost,
            0,
            record { blocks = omega arith; none = λ at_write. absurd (cc); since = omega arith; front = λ _. refl },
            subst (λ (d : PlainDisk). stands x d) (ap disk_written (drop_line l is.0 (writes_after run) (omega arith)) ∙ sym (none_within run (Ok l ∷ left) lost)) is.2,
          )
      | inr within ↦
          let kept : ℕ = block_count l - is.0 in (
            0,
            kept,
            record { blocks = subst (λ (r : Option LineError). kept ≤ blocks_unless r l) (sym none) (omega arith); none = λ _. refl; since = omega arith; front = λ some. absurd (omega arith) },
            subst (λ (d : PlainDisk). stands x d) (ap disk_written (keep_line l is.0 (writes_after run) within)) is.2,
          )
    ]

-- some first blocks of the next line were written
media_line : (o : Told) (stands : Image → PlainDisk → Type 0) (contents : Contents) (run : List Ran) (l : Line) (left : List Reading) → refusal_of run l ≡ None → StandForPart stands contents l (disk_after run) → StandForNext o stands contents run (Ok l ∷ left)
media_line o stands contents run l left none part x now =
    let is = part x now in
    let disk : disk_within run (Ok l ∷ left) 0 is.0 ≡ after_line l is.0 (disk_after run) = disk_line l is.0 (drop 0 (writes_after run)) ∙ ap (after_line l is.0) (disk_without-none 0 run refl) in (
      0,
      is.0,
      record { blocks = subst (λ (r : Option LineError). is.0 ≤ blocks_unless r l) (sym none) is.1; none = λ _. refl; since = omega arith; front = λ some. absurd (omega arith) },
      subst (λ (d : PlainDisk). stands x d) (sym disk) is.2,
    )

-- ---- the answers that may be given

some_is : (x y : LineError) → ◌≡◌ {A = Option LineError} (Some x) (Some y) → x ≡ y
some_is x y same = cc

-- a refusal, if the next line is refused
may_refuse : (o : Told) (run : List Ran) (whole : Bool) (left : List Reading) (cause : LineError) → next_refusal run left ≡ Some cause → MayTell o whole run left (refusal run cause)
may_refuse o run true [] cause is = absurd (cc)
may_refuse o run false [] cause is = absurd (cc)
may_refuse o run true (Err e ∷ left) cause is = ap (refusal run) (some_is cause e (sym is))
may_refuse o run false (Err e ∷ left) cause is = ap (refusal run) (some_is cause e (sym is))
may_refuse o run true (Ok l ∷ left) cause is = subst (λ (r : Option LineError). AnswersTo o r run l (refusal run cause)) (sym is) refl
may_refuse o run false (Ok l ∷ left) cause is = subst (λ (r : Option LineError). AnswersTo o r run l (refusal run cause)) (sym is) refl

-- the answers of the next line, if it is not refused
may_answer : (o : Told) (run : List Ran) (whole : Bool) (l : Line) (left : List Reading) (answers : List Answer) → AnswersTo o (refusal_of run l) run l answers → MayTell o whole run (Ok l ∷ left) answers
may_answer o run true l left answers tells = tells
may_answer o run false l left answers tells = tells

-- the line that is refused when `armed` stops are armed
refused_next : (run : List Ran) (armed : ℕ) (next : Reading) (left : List Reading) (cause : LineError) → armed ≡ length (armed_after run) → refused_for armed next ≡ Some cause → next_refusal run (next ∷ left) ≡ Some cause
refused_next run armed (Err e) left cause same is = is
refused_next run armed (Ok l) left cause same is = subst (λ n. refused_for n (Ok l) ≡ Some cause) same is

-- ---- an end

-- no block write is lost
none_lost : (acked : Ack) (run : List Ran) → FitsLost acked run 0
none_lost acked run = record { none = λ _. refl; few = omega arith; since = omega arith; first = λ some. absurd (omega arith) }

pub run_part : (o : Told) (reads : ℕ → List Reading → Bool → Type 0) (says : List Ran → List Answer → Type 0) (short : List Ran → List Answer → Option Answer → Type 0) (stands : Image → PlainDisk → Type 0)
    (first now : State) (e : Ended) → (e ≡ ended.Trace → ⊥) → (e ≡ ended.Source → ⊥) → EndsPart o reads says short stands first now e → EndsEarly o reads says short stands first now e
run_part o reads says short stands first now ended.Trace not_trace not_source ends = absurd (not_trace refl)
run_part o reads says short stands first now ended.Source not_trace not_source ends = absurd (not_source refl)
run_part o reads says short stands first now ended.Sink not_trace not_source ends = ends
run_part o reads says short stands first now ended.Flash not_trace not_source ends = ends
run_part o reads says short stands first now ended.Disk not_trace not_source ends = ends
run_part o reads says short stands first now ended.Memory not_trace not_source ends = ends

-- by how it ended
pub early_by : (o : Told) (reads : ℕ → List Reading → Bool → Type 0) (says : List Ran → List Answer → Type 0) (short : List Ran → List Answer → Option Answer → Type 0) (stands : Image → PlainDisk → Type 0)
    (first now : State) (e : Ended) → (e ≡ ended.Trace → EndsRefused o reads says stands first now) → (e ≡ ended.Source → EndsUnread o reads says stands first now)
    → ((e ≡ ended.Trace → ⊥) → (e ≡ ended.Source → ⊥) → EndsPart o reads says short stands first now e) → EndsEarly o reads says short stands first now e
early_by o reads says short stands first now ended.Trace refused unread part = refused refl
early_by o reads says short stands first now ended.Source refused unread part = unread refl
early_by o reads says short stands first now ended.Sink refused unread part = part (λ is. cc) (λ is. cc)
early_by o reads says short stands first now ended.Flash refused unread part = part (λ is. cc) (λ is. cc)
early_by o reads says short stands first now ended.Disk refused unread part = part (λ is. cc) (λ is. cc)
early_by o reads says short stands first now ended.Memory refused unread part = part (λ is. cc) (λ is. cc)

module _ (o : Told) {owes : List BlockWrite → Type 0} (stands : Image → PlainDisk → Type 0) (first a : State) (counted : Tally) {recent : List Recent} (v : VolumeState) (run : List Ran) (so_far : RanSoFar o owes stands first a counted recent v run) where
  lines_left : (all left : List Reading) → all ≡ map accepted (lines_of run) ++ left → WasRun o all run left
  lines_left all left front = record { lines = front; accepted = so_far.accepted; fits = so_far.fits }

  programs_to : (b : State) → NeverFall a.counts b.counts → RoseAtLeast (wrote_in run) first.counts.programs b.counts.programs
  programs_to b counts = λ below. let later = counts.programs in let rose = so_far.programs (omega arith) in omega arith

  -- what the lines that were begun leave by then
  rig_of : (lines : List Ran) (b : State) → b.power.on ≡ true → b.contents.shape ≡ first.contents.shape → NeverFall a.counts b.counts → (AreUncut run → SpendsAtMost (steps_after lines) (fresh o) first b) → LeavesRig o first b run lines
  rig_of lines b on shape counts most = record { on = on; shape = shape; counts = counts_then first.counts a.counts b.counts so_far.counts counts; programs = programs_to b counts; reads = reads_few o run lines first b most; writes = writes_none o run lines first b most so_far.dirty }

  rig_here : LeavesRig o first a run run
  rig_here = rig_of run a so_far.on so_far.shape (counts_none a.counts) (run_most o first a v run so_far.spent)

  -- before a step of the next line was made
  rig_before : (left : List Reading) → LeavesRig o first a run (begun run left)
  rig_before [] = rig_here
  rig_before (Err cause ∷ left) = rig_here
  rig_before (Ok l ∷ left) = rig_unless (refusal_of run l)
    where
      rig_unless : (why : Option LineError) → LeavesRig o first a run (begun_unless why l run)
      rig_unless None = rig_of (as_ran l 0 0 0 ∷ run) a so_far.on so_far.shape (counts_none a.counts) (run_begun o first a v run so_far.spent (steps_of l))
      rig_unless (Some cause) = rig_here

  -- what counts for the calls of the disk
  cut_rig : (outcome : Outcome) (lines : List Ran) (b : State) → b.power.on ≡ true → b.contents.shape ≡ first.contents.shape → NeverFall first.counts b.counts → RoseAtLeast (wrote_in run) first.counts.programs b.counts.programs → LeavesRig o first b (as_ran (line.Cut outcome) 0 0 0 ∷ run) lines
  cut_rig outcome lines b on shape counts programs = record {
    on = on;
    shape = shape;
    counts = counts;
    programs = λ below. let rose = programs below in omega arith;
    reads = record { few = λ uncut. absurd uncut.0 };
    writes = record { none = λ uncut. absurd uncut.0 };
  }

  spent_any : (k : Ack) (lines : List Ran) (b : State) (left : List Reading) → LeavesRig o first b run lines → LeavesRig o first b (spent_by k run left) lines
  spent_any ack.Write lines b left rig = rig
  spent_any ack.Flush lines b [] rig = rig
  spent_any ack.Flush lines b (Err cause ∷ left) rig = rig
  spent_any ack.Flush lines b (Ok (line.Write lba count tag) ∷ left) rig = rig
  spent_any ack.Flush lines b (Ok (line.Read lba count) ∷ left) rig = rig
  spent_any ack.Flush lines b (Ok line.Flush ∷ left) rig = rig
  spent_any ack.Flush lines b (Ok line.Idle ∷ left) rig = rig
  spent_any ack.Flush lines b (Ok (line.Stop after outcome) ∷ left) rig = rig
  spent_any ack.Flush lines b (Ok line.Nothing ∷ left) rig = rig
  spent_any ack.Flush lines b (Ok (line.Cut outcome) ∷ left) rig = cut_rig outcome lines b rig.on rig.shape rig.counts rig.programs

  media_here : (left : List Reading) → StandForNext o stands a.contents run left
  media_here left = media_older o stands a.contents run left (length recent) so_far.owed.since (λ acked. ap (λ (l : List Recent). length l) (so_far.none acked)) (older_owing owes stands a.contents (length recent) (writes_after run) so_far.owed.owing)

  leaves_lines : (left : List Reading) → LeavesLines o stands first a run left
  leaves_lines left = record { rig = rig_here; media = media_here left; stops = so_far.stops; risen = so_far.risen; none_failed = so_far.none_failed; ready = so_far.ready }

  -- some answer may be given to whatever line comes next
  tells_some : (whole : Bool) (left : List Reading) → (due : List Answer) × MayTell o whole run left due
  tells_some true [] = (end_answers run 0 0, record { cuts = 0; lost = 0; fits = record { few = omega arith; cut = λ _. refl; losses = none_lost o.ack run }; told = refl })
  tells_some false [] = ([], refl)
  tells_some whole (Err cause ∷ left) = (refusal run cause, may_refuse o run whole (Err cause ∷ left) cause refl)
  tells_some whole (Ok l ∷ left) = let some = tells_line (refusal_of run l) in (some.0, may_answer o run whole l left some.0 some.1)
    where
      tells_line : (r : Option LineError) → (due : List Answer) × AnswersTo o r run l due
      tells_line (Some cause) = (refusal run cause, refl)
      tells_line None =
          let can = can_some a.power (disk_after run) l a.power.stops refl in
          (answers_of (as_ran l can.0 can.1 0) (disk_without 0 run), record { cuts = can.0; kept = can.1; lost = 0; fits = can_next o stands first a counted v run so_far l can.0 can.1 can.2; told = refl })

  -- before any answer of the next line was taken
  ends_before : (reads : ℕ → List Reading → Bool → Type 0) (says : List Ran → List Answer → Type 0) (short : List Ran → List Answer → Option Answer → Type 0) (e : Ended) (given : ℕ) (all : List Reading)
      (whole : Bool) (left : List Reading) (due : List Answer) → length (lines_of run) ≤ given → given ≤ length (lines_of run) + 1 → reads given all whole → all ≡ map accepted (lines_of run) ++ left → MayTell o whole run left due → Takes e (says run) (short run) [] due
      → EndsPart o reads says short stands first a e
  ends_before reads says short e given all whole left due after next trace front may taken = record {
    all = all;
    whole = whole;
    run = run;
    left = left;
    due = due;
    given = given;
    after = after;
    next = next;
    trace = trace;
    lines = lines_left all left front;
    may = may;
    part = record { front = []; rest = due; both = refl; taken = taken };
    proper = λ none. none;
    stops = record {
      risen = λ below. let one = so_far.risen below in omega arith;
      none_failed = λ _. so_far.none_failed;
      only = λ _. refl;
      queue = λ _. so_far.stops;
      fell = (0, omega arith, omega arith, so_far.stops);
    };
    media = media_here left;
    rig = spent_any o.ack (begun run left) a left (rig_before left);
  }

  stops_then : (e : Ended) (front : List Answer) (b : State) → TellsStops e front 0 a b a.power.stops → TellsStops e front (cuts_in run) first b (armed_after run)
  stops_then e front b tells = record {
    risen = λ below. let two = tells.risen below in let one = so_far.risen (omega arith) in omega arith;
    none_failed = λ other. failed_then first a b so_far.none_failed (tells.none_failed other);
    only = tells.only;
    queue = λ device. tells.queue device ∙ ap (drop (length front)) so_far.stops;
    fell = let fell = tells.fell in (fell.0, fell.1, fell.2, fell.3 ∙ ap (drop fell.0) so_far.stops);
  }

  -- the end line of these counts
  abbrev counted_end : Answer
  counted_end = answer.End counted.writes counted.reads (length counted.touched.keys) (digest_of counted.touched.keys (disk_after run))

  end_is : counted_end ≡ end_of 0 run
  end_is =
      ap (λ n. answer.End n counted.reads (length counted.touched.keys) (digest_of counted.touched.keys (disk_after run))) so_far.tally.writes
      ∙ ap (λ n. answer.End (writes_in run) n (length counted.touched.keys) (digest_of counted.touched.keys (disk_after run))) so_far.tally.reads
      ∙ ap (λ (xs : List ℕ). answer.End (writes_in run) (reads_in run) (length xs) (digest_of xs (disk_after run))) so_far.tally.touched
      ∙ ap (λ (d : PlainDisk). answer.End (writes_in run) (reads_in run) (length (touched_after run)) (digest_of (touched_after run) d)) (sym (disk_without-none 0 run refl))

  -- ---- over a script

  module _ {P : Type 0} (tells : P → ScriptState) (came : SourceState → SinkState → List Event → P → Type 0) (broke : SourceState → SinkState → List Event → Event → P → Type 0) (knows : SourceState → P → ℕ → List Reading → Bool → Type 0) (s : SourceState) (b : SinkState) (x y : P) where
    -- if the next line was given
    module _ (l : Line) (come : came s b (events_of run ++ Gave l ∷ []) x) (given : KnowsGiven knows s x (events_of run ++ Gave l ∷ [])) (knew : (lines : ℕ) (all : List Reading) (whole : Bool) → knows s x lines all whole → knows s y lines all whole) where
      says_next : (answers : List Answer) → NoEnd answers → Says came x y answers → CameBy came s b y run answers
      says_next answers no_end says = (Gave l ∷ taking answers, after_given run l answers no_end, subst (λ (r : List Event). came s b r y) (append_assoc (events_of run) (Gave l ∷ []) (taking answers)) (says s b (events_of run ++ Gave l ∷ []) come))

      breaks_next : (answers : List Answer) (next : Answer) → NoEnd (answers ++ next ∷ []) → Breaks came broke x y answers (Some next) → BreaksBy broke s b y run answers (Some next)
      breaks_next answers next no_end breaks = (Gave l ∷ taking answers, within_given run l answers next no_end, subst (λ (r : List Event). broke s b r (Took next) y) (append_assoc (events_of run) (Gave l ∷ []) (taking answers)) (breaks s b (events_of run ++ Gave l ∷ []) come))

      given_next : length (lines_given (events_of run ++ Gave l ∷ [])) ≡ length (lines_of run) + 1
      given_next = ap length (lines_given-next run l) ∙ length_push (lines_of run) l

      left_next : given.all ≡ map accepted (lines_of run) ++ Ok l ∷ given.left
      left_next = next_left run l given.all given.left given.front

      -- the run ended within that line
      ends_line : (more : Image → PlainDisk → Type 0) (c : State) (e : Ended) (cuts kept lost : ℕ) → FitsNext o.ack (as_ran l cuts kept lost) run → refusal_of run l ≡ None
          → (e ≡ ended.Trace → ⊥) → (e ≡ ended.Source → ⊥) → (took : TookPart e (Says came x y) (Breaks came broke x y) (answers_of (as_ran l cuts kept lost) (disk_without lost run))) → (took.rest ≡ [] → answers_of (as_ran l cuts kept lost) (disk_without lost run) ≡ [])
          → TellsStops e took.front 0 a c a.power.stops → ((left : List Reading) → StandForNext o more c.contents run (Ok l ∷ left)) → ((left : List Reading) → LeavesRig o first c (spent_by o.ack run (Ok l ∷ left)) (as_ran l 0 0 0 ∷ run))
          → EndsEarly o (knows s y) (CameBy came s b y) (BreaksBy broke s b y) more first c e
      ends_line more c e cuts kept lost fits none not_trace not_source took proper stops media rig = run_part o _ _ _ more first c e not_trace not_source (record {
        all = given.all;
        whole = given.whole;
        run = run;
        left = Ok l ∷ given.left;
        due = answers_of (as_ran l cuts kept lost) (disk_without lost run);
        given = length (lines_given (events_of run ++ Gave l ∷ []));
        after = let many = given_next in omega (arith, many);
        next = let many = given_next in omega (arith, many);
        trace = knew _ given.all given.whole given.known;
        lines = lines_left given.all (Ok l ∷ given.left) left_next;
        may = may_answer o run given.whole l given.left _ (subst (λ (r : Option LineError). AnswersTo o r run l (answers_of (as_ran l cuts kept lost) (disk_without lost run))) (sym none)
            (record { cuts = cuts; kept = kept; lost = lost; fits = fits; told = refl }));
        part = record {
          front = took.front;
          rest = took.rest;
          both = took.both;
          taken = takes_within e (Says came x y) (CameBy came s b y run) (Breaks came broke x y) (BreaksBy broke s b y run) (answers_of (as_ran l cuts kept lost) (disk_without lost run))
              (λ front rest both. says_next front (none_front front rest (subst (λ (r : List Answer). NoEnd r) both (none_line (as_ran l cuts kept lost) (disk_without lost run)))))
              (λ _ never. absurd never)
              (λ front next after both. breaks_next front next (none_next front next after (subst (λ (r : List Answer). NoEnd r) both (none_line (as_ran l cuts kept lost) (disk_without lost run)))))
              took.front took.rest took.both took.taken;
        };
        proper = proper;
        stops = stops_then e took.front c stops;
        media = media given.left;
        rig = subst (λ (why : Option LineError). LeavesRig o first c (spent_by o.ack run (Ok l ∷ given.left)) (begun_unless why l run)) (sym none) (rig given.left);
      })

      -- each write is on the media when it answers
      pub ends_within : (more : Image → PlainDisk → Type 0) (c : State) (e : Ended) → refusal_of run l ≡ None → c.power.on ≡ true → c.contents.shape ≡ a.contents.shape → NeverFall a.counts c.counts
          → (IsQuiet v a → SpendsAtMost (steps_of l) v a c) → EndsWithin tells came broke knows e x y a c l (disk_after run) → StandForPart more c.contents l (disk_after run)
          → EndsEarly o (knows s y) (CameBy came s b y) (BreaksBy broke s b y) more first c e
      ends_within more c e none on shape counts most within part =
          let same : disk_after run ≡ disk_without 0 run = sym (disk_without-none 0 run refl) in
          let there = subst (λ (d : PlainDisk). (took : TookPart e (Says came x y) (Breaks came broke x y) (answers_of (as_ran l within.cuts within.kept 0) d)) × (took.rest ≡ [] → answers_of (as_ran l within.cuts within.kept 0) d ≡ []) × TellsStops e took.front 0 a c a.power.stops)
          same (within.part, within.proper, within.stops) in
          ends_line more c e within.cuts within.kept 0 (can_next o stands first a counted v run so_far l within.cuts within.kept within.can) none within.blamed.not_trace within.blamed.not_source
          there.0 there.1 there.2 (λ left. media_line o more c.contents run l left none part)
          (λ left. spent_any o.ack (as_ran l 0 0 0 ∷ run) c (Ok l ∷ left) (rig_of (as_ran l 0 0 0 ∷ run) c on (shape ∙ so_far.shape) counts (run_end o first a v run so_far.spent (steps_of l) c most)))

      -- writes are on the media only after a flush
      pub ends_owing : (more : Image → PlainDisk → Type 0) (c : State) (e : Ended) → o.ack ≡ ack.Flush → refusal_of run l ≡ None → c.power.on ≡ true → c.contents.shape ≡ a.contents.shape → NeverFall a.counts c.counts
          → (IsQuiet v a → is_cut l ≡ false → SpendsAtMost (steps_of l) v a c) → EndsOwing tells came broke knows e x y a c l run → StandForLater more c.contents recent l run
          → EndsEarly o (knows s y) (CameBy came s b y) (BreaksBy broke s b y) more first c e
      ends_owing more c e acked none on shape counts most ends later =
          ends_line more c e ends.cuts ends.kept ends.lost (can_next_owing o stands first a counted v run so_far l ends.cuts ends.kept ends.lost acked ends.can) none ends.blamed.not_trace ends.blamed.not_source
          ends.part ends.proper ends.stops (λ left. media_later o more c.contents run recent l left acked none so_far.owed.since later)
          (λ left. subst (λ (k : Ack). LeavesRig o first c (spent_by k run (Ok l ∷ left)) (as_ran l 0 0 0 ∷ run)) (sym acked) (rig_owing l on (shape ∙ so_far.shape) counts most left))
        where
          by : (m : Line) → is_cut m ≡ false → c.power.on ≡ true → c.contents.shape ≡ first.contents.shape → NeverFall a.counts c.counts → (IsQuiet v a → is_cut m ≡ false → SpendsAtMost (steps_of m) v a c) → LeavesRig o first c run (as_ran m 0 0 0 ∷ run)
          by m plain on_now same never few = rig_of (as_ran m 0 0 0 ∷ run) c on_now same never (run_end o first a v run so_far.spent (steps_of m) c (λ quiet. few quiet plain))

          rig_owing : (m : Line) → c.power.on ≡ true → c.contents.shape ≡ first.contents.shape → NeverFall a.counts c.counts → (IsQuiet v a → is_cut m ≡ false → SpendsAtMost (steps_of m) v a c) → (left : List Reading) → LeavesRig o first c (spent_by ack.Flush run (Ok m ∷ left)) (as_ran m 0 0 0 ∷ run)
          rig_owing (line.Cut outcome) on_now same never few left = cut_rig outcome (as_ran (line.Cut outcome) 0 0 0 ∷ run) c on_now same (counts_then first.counts a.counts c.counts so_far.counts never) (programs_to c never)
          rig_owing (line.Write lba count tag) on_now same never few left = by (line.Write lba count tag) refl on_now same never few
          rig_owing (line.Read lba count) on_now same never few left = by (line.Read lba count) refl on_now same never few
          rig_owing line.Flush on_now same never few left = by line.Flush refl on_now same never few
          rig_owing line.Idle on_now same never few left = by line.Idle refl on_now same never few
          rig_owing (line.Stop after outcome) on_now same never few left = by (line.Stop after outcome) refl on_now same never few
          rig_owing line.Nothing on_now same never few left = by line.Nothing refl on_now same never few

      -- memory ran out before the line was counted
      pub ends_uncounted : came s b (events_of run ++ Gave l ∷ []) y → EndsEarly o (knows s y) (CameBy came s b y) (BreaksBy broke s b y) stands first a ended.Memory
      ends_uncounted now =
          let some = tells_some given.whole (Ok l ∷ given.left) in
          run_part o _ _ _ stands first a ended.Memory (λ is. cc) (λ is. cc)
          (ends_before (knows s y) (CameBy came s b y) (BreaksBy broke s b y) ended.Memory _ given.all given.whole (Ok l ∷ given.left) some.0 (let many = given_next in omega (arith, many)) (let many = given_next in omega (arith, many)) (knew _ given.all given.whole given.known) left_next some.1 (Gave l ∷ [], after_given run l [] refl, now))

    -- ---- if no line was given

    left_here : (e : List Event) (all left : List Reading) → e ≡ events_of run → all ≡ map accepted (lines_given e) ++ left → all ≡ map accepted (lines_of run) ++ left
    left_here e all left same front = given_left e run all left (ap lines_given same ∙ lines_given-run run) front

    all_given : (all : List Reading) → all ≡ map accepted (lines_given (events_of run)) → all ≡ map accepted (lines_of run) ++ []
    all_given all is = left_here (events_of run) all [] refl (is ∙ sym (append-nil (map accepted (lines_given (events_of run)))))

    given_here : length (lines_given (events_of run)) ≡ length (lines_of run)
    given_here = ap length (lines_given-run run)

    given_silent : length (lines_given (events_of run ++ [])) ≡ length (lines_of run)
    given_silent = ap (λ (e : List Event). length (lines_given e)) (append-nil (events_of run)) ∙ given_here

    said_is : (cause : LineError) → refusal_after (events_of run) cause ∷ [] ≡ refusal run cause
    said_is cause = ap (λ (ls : List Line). answer.Refused (length ls + 1) cause ∷ []) (lines_given-run run)

    -- the next line was refused, and the refusal was said
    pub ends_trace : (armed : ℕ) (cause : LineError) → armed ≡ length a.power.stops → NextRefused knows s y (events_of run) armed cause → came s b (events_of run ++ taking (refusal_after (events_of run) cause ∷ [])) y → EndsRefused o (knows s y) (CameBy came s b y) stands first a
    ends_trace armed cause armed_is next now = record {
      all = next.all;
      whole = next.whole;
      run = run;
      left = next.next ∷ next.left;
      cause = cause;
      trace = subst (λ n. knows s y n next.all next.whole) given_here next.known;
      lines = lines_left next.all (next.next ∷ next.left) (left_here (events_of run) next.all (next.next ∷ next.left) refl next.front);
      why = refused_next run armed next.next next.left cause (armed_is ∙ ap (λ (q : List Stop). length q) so_far.stops) next.why;
      printed = (taking (refusal_after (events_of run) cause ∷ []), record { said = said_is cause; end = inl refl; few = inl refl }, now);
      leaves = leaves_lines (next.next ∷ next.left);
    }

    -- the source failed
    pub ends_source : KnowsLines knows s y (events_of run) false → came s b (events_of run ++ []) y → EndsUnread o (knows s y) (CameBy came s b y) stands first a
    ends_source known now = record {
      all = map accepted (lines_given (events_of run));
      run = run;
      trace = subst (λ n. knows s y n (map accepted (lines_given (events_of run))) false) given_here known;
      lines = lines_left _ [] (all_given _ refl);
      printed = ([], after_nothing run, now);
      leaves = leaves_lines [];
    }

    -- every line was run, and nothing was done after the last line
    pub ends_all : KnowsLines knows s y (events_of run) true → came s b (events_of run) y → (runs : RunsLines o (knows s y) (CameBy came s b y) stands first a) × came s b (events_of runs.run) y
    ends_all known now = (
      record {
        all = map accepted (lines_given (events_of run));
        run = run;
        trace = subst (λ n. knows s y n (map accepted (lines_given (events_of run))) true) given_here known;
        lines = lines_left _ [] (all_given _ refl);
        printed = ([], after_nothing run, subst (λ (r : List Event). came s b r y) (sym (append-nil (events_of run))) now);
        leaves = leaves_lines [];
        backs = lines_write_back o run first a v so_far.spent;
        reads_no_more = lines_read_no_more o run first a v so_far.spent;
      },
      now,
    )

    -- the sink failed while a refusal was said
    pub ends_sink : (armed : ℕ) (cause : LineError) → armed ≡ length a.power.stops → NextRefused knows s y (events_of run) armed cause
        → broke s b (events_of run) (Took (refusal_after (events_of run) cause)) y → EndsPart o (knows s y) (CameBy came s b y) (BreaksBy broke s b y) stands first a ended.Sink
    ends_sink armed cause armed_is next broken =
        let why = refused_next run armed next.next next.left cause (armed_is ∙ ap (λ (q : List Stop). length q) so_far.stops) next.why in
        ends_before (knows s y) (CameBy came s b y) (BreaksBy broke s b y) ended.Sink _ next.all next.whole (next.next ∷ next.left) (refusal run cause) (let many = given_here in omega (arith, many)) (let many = given_here in omega (arith, many)) next.known
        (left_here (events_of run) next.all (next.next ∷ next.left) refl next.front) (may_refuse o run next.whole (next.next ∷ next.left) cause why) (
          [],
          record { said = refl; no_end = refl; end = λ is. absurd (cc); few = inl refl },
          subst (λ (r : List Event). broke s b r (Took (answer.Refused (length (lines_of run) + 1) cause)) y) (sym (append-nil (events_of run)))
              (subst (λ (ls : List Line). broke s b (events_of run) (Took (answer.Refused (length ls + 1) cause)) y) (lines_given-run run) broken),
        )

    -- or while something was said for a line that has no answer
    pub ends_said : NextSaid knows s y (events_of run) → broke s b (events_of run) (Gave line.Nothing) y → EndsPart o (knows s y) (CameBy came s b y) (BreaksBy broke s b y) stands first a ended.Sink
    ends_said next broken =
        let can : CanBecome line.Nothing 0 0 a.power (disk_after run) = record { few = omega arith; spends = λ _ _. omega arith; fits = refl } in
        let none : AnswersTo o (refusal_of run line.Nothing) run line.Nothing [] = record { cuts = 0; kept = 0; lost = 0; fits = can_next o stands first a counted v run so_far line.Nothing 0 0 can; told = refl } in
        ends_before (knows s y) (CameBy came s b y) (BreaksBy broke s b y) ended.Sink _ next.all next.whole (Ok line.Nothing ∷ next.left) [] (let many = given_here in omega (arith, many)) (let many = given_here in omega (arith, many)) next.known
        (left_here (events_of run) next.all (Ok line.Nothing ∷ next.left) refl next.front) (may_answer o run next.whole line.Nothing next.left [] none) (
          line.Nothing,
          [],
          record { said = refl; no_end = refl; none = refl },
          subst (λ (r : List Event). broke s b r (Gave line.Nothing) y) (sym (append-nil (events_of run))) broken,
        )

    -- the sink failed in one of these two ways
    pub ends_asked : (armed : ℕ) → armed ≡ length a.power.stops → BreaksNext knows broke s b (events_of run) armed y → EndsPart o (knows s y) (CameBy came s b y) (BreaksBy broke s b y) stands first a ended.Sink
    ends_asked armed armed_is broken = elim broken [
      | inl refused ↦ ends_sink armed refused.0 armed_is refused.1 refused.2
      | inr said ↦ ends_said said.0 said.1
    ]

    -- memory ran out before the next line
    pub ends_memory : KnowsGiven knows s y (events_of run ++ []) → came s b (events_of run ++ []) y → EndsPart o (knows s y) (CameBy came s b y) (BreaksBy broke s b y) stands first a ended.Memory
    ends_memory given now =
        let some = tells_some given.whole given.left in
        ends_before (knows s y) (CameBy came s b y) (BreaksBy broke s b y) ended.Memory _ given.all given.whole given.left some.0 (let many = given_silent in omega (arith, many)) (let many = given_silent in omega (arith, many)) given.known (left_here (events_of run ++ []) given.all given.left (append-nil (events_of run)) given.front) some.1 ([], after_nothing run, now)

    -- ---- the end line

    module _ (come : came s b (events_of run) x) (known : KnowsLines knows s x (events_of run) true) (knew : (lines : ℕ) (all : List Reading) (whole : Bool) → knows s x lines all whole → knows s y lines all whole)
        (more : Image → PlainDisk → Type 0) (c : State) (on : c.power.on ≡ true) (shape : c.contents.shape ≡ a.contents.shape) (counts : NeverFall a.counts c.counts) where
      through : (cuts lost : ℕ) (answers after : List Answer) → end_answers run cuts lost ≡ answers ++ after → SaysThrough came x y (touched_after run) (disk_without lost run) answers → CameBy came s b y run answers
      through cuts lost answers after both says =
          let is = says s b (events_of run) come (told_bytes-run run) in
          (is.0, after_end run cuts lost answers after is.0 both is.1, is.2)

      broken_through : (cuts lost : ℕ) (answers : List Answer) (next : Answer) (after : List Answer) → end_answers run cuts lost ≡ answers ++ next ∷ after → BreaksThrough came broke x y (touched_after run) (disk_without lost run) answers (Some next)
          → BreaksBy broke s b y run answers (Some next)
      broken_through cuts lost answers next after both breaks =
          let is = breaks s b (events_of run) come (told_bytes-run run) in
          (is.0, within_end run cuts lost answers next after is.0 both is.1, is.2)

      rig_end : (AreUncut run → SpendsAtMost (touches_each (touched_after run) ++ steps_after run) (fresh o) first c) → LeavesRig o first c run run
      rig_end most = record { on = on; shape = shape ∙ so_far.shape; counts = counts_then first.counts a.counts c.counts so_far.counts counts; programs = programs_to c counts; reads = end_reads_few o run first c most; writes = end_writes_none o run first c most so_far.dirty }

      -- the end line was said
      ends_done : (w : VolumeState) (cuts lost : ℕ) → FitsEnd o.ack run cuts lost → StandFor more c.contents (disk_without lost run) → (IsQuiet v a → Spent (touches_each counted.touched.keys) v w a c) → Cuts cuts 0 a c → SaysThrough came x y (touched_after run) (disk_without lost run) (end_answers run cuts lost)
          → RunsWhole o (knows s y) (CameBy came s b y) more first c
      ends_done w cuts lost fits stood again cut said =
          let spent = run_then o first a v run so_far.spent (touches_each (touched_after run)) w c (λ quiet. subst (λ (keys : List ℕ). Spent (touches_each keys) v w a c) so_far.tally.touched (again quiet)) in
          record {
            all = map accepted (lines_given (events_of run));
            run = run;
            cuts = cuts;
            lost = lost;
            trace = subst (λ n. knows s y n (map accepted (lines_given (events_of run))) true) given_here (knew _ _ true known);
            lines = lines_left _ [] (all_given _ refl);
            printed = through cuts lost (end_answers run cuts lost) [] (sym (append-nil (end_answers run cuts lost))) said;
            leaves = record {
              rig = rig_end (λ uncut. (spent uncut).most);
              fits = fits;
              disk = stood;
              stops = cut.stops ∙ ap (drop cuts) so_far.stops;
              risen = λ below. let two = cut.risen below in let one = so_far.risen (omega arith) in omega arith;
              none_failed = failed_then first a c so_far.none_failed cut.none_failed;
              ready = λ none block ready. cut.ready (omega arith) block (so_far.ready (omega arith) block ready);
            };
            backs = end_writes_back o run first c w spent;
          }

      pub ends_whole : (w : VolumeState) (cuts : ℕ) → StandFor more c.contents (disk_after run) → (IsQuiet v a → Spent (touches_each counted.touched.keys) v w a c) → Cuts cuts 0 a c
          → SaysThrough came x y counted.touched.keys (disk_after run) (stopped cuts ++ answer.End counted.writes counted.reads (length counted.touched.keys) (digest_of counted.touched.keys (disk_after run)) ∷ [])
          → RunsWhole o (knows s y) (CameBy came s b y) more first c
      ends_whole w cuts stood again cut said =
          ends_done w cuts 0 (record { few = subst (λ (q : List Stop). cuts ≤ length q) so_far.stops cut.few; cut = λ _. refl; losses = none_lost o.ack run }) (subst (λ (d : PlainDisk). StandFor more c.contents d) (sym (disk_without-none 0 run refl)) stood) again cut
          (subst (λ (z : Answer). SaysThrough came x y (touched_after run) (disk_without 0 run) (stopped cuts ++ z ∷ [])) end_is
          (subst (λ (d : PlainDisk). SaysThrough came x y (touched_after run) d (stopped cuts ++ counted_end ∷ [])) (sym (disk_without-none 0 run refl))
          (subst (λ (keys : List ℕ). SaysThrough came x y keys (disk_after run) (stopped cuts ++ counted_end ∷ [])) so_far.tally.touched said)))

      -- the run ended within the end line
      ends_last : (e : Ended) (cuts lost : ℕ) → FitsEnd o.ack run cuts lost → ((left : List Reading) → StandForNext o more c.contents run left) → (IsQuiet v a → SpendsAtMost (touches_each counted.touched.keys) v a c)
          → (took : TookPart e (SaysThrough came x y (touched_after run) (disk_without lost run)) (BreaksThrough came broke x y (touched_after run) (disk_without lost run)) (end_answers run cuts lost)) → (took.rest ≡ [] → ⊥) → TellsStops e took.front 0 a c a.power.stops
          → EndsPart o (knows s y) (CameBy came s b y) (BreaksBy broke s b y) more first c e
      ends_last e cuts lost fits media again took proper stops = record {
        all = map accepted (lines_given (events_of run));
        whole = true;
        run = run;
        left = [];
        due = end_answers run cuts lost;
        given = length (lines_given (events_of run));
        after = let many = given_here in omega (arith, many);
        next = let many = given_here in omega (arith, many);
        trace = knew _ _ true known;
        lines = lines_left _ [] (all_given _ refl);
        may = record { cuts = cuts; lost = lost; fits = fits; told = refl };
        part = record {
          front = took.front;
          rest = took.rest;
          both = took.both;
          taken = takes_within e (SaysThrough came x y (touched_after run) (disk_without lost run)) (CameBy came s b y run) (BreaksThrough came broke x y (touched_after run) (disk_without lost run)) (BreaksBy broke s b y run) (end_answers run cuts lost)
              (through cuts lost) (λ _ never. absurd never) (broken_through cuts lost) took.front took.rest took.both took.taken;
        };
        proper = λ none. absurd (proper none);
        stops = stops_then e took.front c stops;
        media = media [];
        rig = spent_any o.ack run c [] (rig_end (run_end o first a v run so_far.spent (touches_each (touched_after run)) c (λ quiet. subst (λ (keys : List ℕ). SpendsAtMost (touches_each keys) v a c) so_far.tally.touched (again quiet))));
      }

      -- the answers of the end were taken, but not all
      abbrev EndsBy : Ended → List ℕ → PlainDisk → ℕ → Answer → Type 0
      EndsBy e keys d cuts z = (took : TookPart e (SaysThrough came x y keys d) (BreaksThrough came broke x y keys d) (stopped cuts ++ z ∷ [])) × (took.rest ≡ [] → ⊥) × TellsStops e took.front 0 a c a.power.stops

      pub ends_end : (e : Ended) → StandFor more c.contents (disk_after run) → (IsQuiet v a → SpendsAtMost (touches_each counted.touched.keys) v a c)
          → EndsEnd tells came broke knows e x y a c counted.touched.keys (disk_after run) (answer.End counted.writes counted.reads (length counted.touched.keys) (digest_of counted.touched.keys (disk_after run)))
          → EndsPart o (knows s y) (CameBy came s b y) (BreaksBy broke s b y) more first c e
      ends_end e stood again ends =
          let there = subst (λ (z : Answer). EndsBy e (touched_after run) (disk_without 0 run) ends.cuts z) end_is
          (subst (λ (d : PlainDisk). EndsBy e (touched_after run) d ends.cuts counted_end) (sym (disk_without-none 0 run refl))
          (subst (λ (keys : List ℕ). EndsBy e keys (disk_after run) ends.cuts counted_end) so_far.tally.touched (ends.part, ends.proper, ends.stops))) in
          ends_last e ends.cuts 0 (record { few = subst (λ (q : List Stop). ends.cuts ≤ length q) so_far.stops ends.few; cut = λ _. refl; losses = none_lost o.ack run }) (λ left. media_none o more c.contents run left stood) again
          there.0 there.1 there.2

      -- the same, if writes are on the media only after a flush
      pub ends_flushed : (w : VolumeState) (cuts lost : ℕ) → o.ack ≡ ack.Flush → IsFlushed came x y more c.contents cuts lost run → (IsQuiet v a → Spent (touches_each counted.touched.keys) v w a c) → Cuts cuts 0 a c → RunsWhole o (knows s y) (CameBy came s b y) more first c
      ends_flushed w cuts lost acked is again cut =
          ends_done w cuts lost (record { few = subst (λ (q : List Stop). cuts ≤ length q) so_far.stops cut.few; cut = is.cut; losses = subst (λ (k : Ack). FitsLost k run lost) (sym acked) is.losses }) is.disk again cut is.said

      pub ends_unflushed : (e : Ended) → o.ack ≡ ack.Flush → StandForOlder more c.contents (kept_since_flush run) (writes_after run) → (IsQuiet v a → SpendsAtMost (touches_each counted.touched.keys) v a c) → EndsFlushed tells came broke knows e x y a c run → EndsPart o (knows s y) (CameBy came s b y) (BreaksBy broke s b y) more first c e
      ends_unflushed e acked older again ends =
          ends_last e ends.cuts ends.lost (record { few = subst (λ (q : List Stop). ends.cuts ≤ length q) so_far.stops ends.few; cut = ends.cut; losses = subst (λ (k : Ack). FitsLost k run ends.lost) (sym acked) ends.losses })
          (λ left. media_older o more c.contents run left (kept_since_flush run) (omega arith) (λ at_write. absurd (cc)) older) again ends.part ends.proper ends.stops

-- memory ran out before a line was asked for
pub ends_begun : (o : Told) (owes : List BlockWrite → Type 0) (stands : Told → Image → PlainDisk → Type 0) (first : State) (counted : Tally) (v : VolumeState) → v.told ≡ o → IsAsMade owes stands v first → IsTallyOf [] counted
    → {P : Type 0} (tells : P → ScriptState) (came : SourceState → SinkState → List Event → P → Type 0) (broke : SourceState → SinkState → List Event → Event → P → Type 0) (knows : SourceState → P → ℕ → List Reading → Bool → Type 0) (s : SourceState) (b : SinkState) (x : P)
    → came s b [] x → KnowsGiven knows s x [] → EndsEarly o (knows s x) (CameBy came s b x) (BreaksBy broke s b x) (stands v.told) first first ended.Memory
ends_begun o owes stands first counted v told fresh tally tells came broke knows s b x come given =
    ends_memory o (stands v.told) first first counted v [] (so_far_none o owes (stands v.told) first counted v told (record { up = fresh.up; on = fresh.on; unarmed = fresh.unarmed }) fresh.table fresh.held (subst (λ (t : Told). t.dirty ≤ t.geometry.c) told fresh.dirty) fresh.nothing_owed fresh.empty tally [] refl)
    tells came broke knows s b x x given come
