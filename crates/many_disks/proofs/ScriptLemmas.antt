-- A script over several disks, one event after the other.
use Rattle.std.proofs.Common.{◌≡◌, ◌≤◌, ◌<◌, ◌+◌, ◌*◌, ◌/◌, ◌++◌, ◌∷◌, [], ℕ, true, false, List, Some, Result, Ok, Err, OnOk, IsErrOf, length, map, take, refl, sym, ap, ◌∙◌, subst, append_assoc, arith}
use Rattle.std.proofs.Math.Nat.{mul-le-mul_right}
use Rattle.std.proofs.lemmas.List.{append-nil, map-append}
use Rattle.std.proofs.lemmas.List.Concat.{flat_map-append}
use Rattle.std.proofs.lemmas.Nat.{div-add-mod', div-mul-add, le-div}
use Rattle.std.specs.Io.KnownBytes.{Appends}
use Rattle.ft_base.proofs.AppendsLemmas.{appends_none, appends_then}
use Rattle.ft_base.specs.PlainDisk.{BlockWrite}
use Rattle.ft_base.specs.StreamState.{SinkState, SourceState}
use Rattle.ft_base.specs.declared.block.Block.{Block}
use Rattle.trace_model.specs.declared.answer.Answer.{Answer}
use Rattle.trace_model.specs.declared.answer.Answer.TheVariants as answer
use Rattle.trace_model.specs.declared.line.Line.{Line}
use Rattle.trace_model.specs.declared.line.Line.TheVariants as line
use Rattle.trace_model.specs.Lines.{IsRunnable}
use Rattle.trace_model.specs.Readings.{Reading, accepted}
use Rattle.trace_model.specs.Text.{text, text_of}
use Rattle.trace_replay.specs.declared.ended.Ended.{Ended}
use Rattle.trace_replay.specs.declared.ended.Ended.TheVariants as ended
use Rattle.trace_replay.specs.declared.reader.Reader.{Reader}
use Rattle.trace_replay.specs.Commands.{is_end}
use Rattle.trace_replay.specs.Events.{Event, lines_given, taking, touched_in}
use Rattle.trace_replay.specs.Events.Event.{Gave, Took, Touched}
use Rattle.trace_replay.specs.Pending.{line_so_far}
use Rattle.trace_replay.specs.Said.{Said, SaidPart}
use Rattle.trace_replay.specs.Reader.{CameTo, StandsAtLine}
use Rattle.trace_replay.proofs.EndLineLemmas.{touched_in-append, touched_in-taking}
use Rattle.trace_replay.proofs.GivenLemmas.{lines_given-append, lines_given-taking}
use Rattle.many_disks.specs.declared.line.ManyLine.{ManyLine}
use Rattle.many_disks.specs.declared.line.ManyLine.TheVariants.{Disk, Plain}
use Rattle.many_disks.specs.declared.tally.Tally.{Tally}
use Rattle.many_disks.specs.Known.{as_many, length-coded, volume_readings-append}
use Rattle.many_disks.specs.Lines.{ManyReading, chosen_after, chosen_in, many_of, shifted}
use Rattle.many_disks.specs.Printing.{Adds, Prints}
use Rattle.many_disks.specs.Readings.{volume_reading, volume_readings}
use Rattle.many_disks.specs.Script.{BrokeMany, CameMany, accepted_many, code, coded, event_printed, events_printed, script_printed, took_printed}
use Rattle.many_disks.specs.Tally.{AreOnOneDisk, AreTalliesOf, IsOnOneDisk, ends_by}
use Rattle.many_disks.specs.Told.{Printed, choice_at, choice_in, next_printed, own, printed_text, printed_text_of, start_at}
use Rattle.many_disks.specs.Told.Printed.{Chose, Told}
use Rattle.many_disks.proofs.OwnLemmas.{on_one-then}
use Rattle.many_disks.proofs.PrintedLemmas.{HasNoEnd, events_longer, events_printed-append, told_as, told_each}
use Rattle.many_disks.proofs.ReadLemmas.{begins_came, begins_next}

-- ---- the disk that is chosen

chosen_in-append : (c : ℕ) (xs ys : List ManyReading) → chosen_in c (xs ++ ys) ≡ chosen_in (chosen_in c xs) ys
chosen_in-append c [] ys = refl
chosen_in-append c (x ∷ xs) ys = chosen_in-append (chosen_after c x) xs ys

take_all : (c : ℕ) (xs : List ManyReading) → chosen_in c (take (length xs) xs) ≡ chosen_in c xs
take_all c [] = refl
take_all c (x ∷ xs) = take_all (chosen_after c x) xs

choice_here : (xs : List ManyReading) (x : ManyReading) → choice_at (xs ++ x ∷ []) (length xs) ≡ choice_in (x ∷ [])
choice_here [] x = refl
choice_here (y ∷ xs) x = choice_here xs x

-- ---- a line of one disk

-- a line that can be run for a disk lies on one disk of the volume
within_one : (share chosen lba count : ℕ) → (1 ≤ count) × (lba + count ≤ share) → (k : ℕ) → k + 1 ≤ count → ((chosen * share + lba) + k) / share ≡ (chosen * share + lba) / share
within_one share chosen lba count runnable k less =
    let some = runnable.0 in
    let within = runnable.1 in
    let same : (chosen * share + lba) + k ≡ chosen * share + (lba + k) = omega arith in
    ap (λ n. n / share) same ∙ div-mul-add chosen share (lba + k) (omega arith) ∙ sym (div-mul-add chosen share lba (omega arith))

pub on_one_disk : (share chosen : ℕ) (l : Line) → IsRunnable share l → IsOnOneDisk share (shifted (chosen * share) l)
on_one_disk share chosen (line.Write lba count tag) runnable = within_one share chosen lba count runnable
on_one_disk share chosen (line.Read lba count) runnable = within_one share chosen lba count runnable
on_one_disk share chosen line.Flush runnable = tt
on_one_disk share chosen line.Idle runnable = tt
on_one_disk share chosen (line.Stop after outcome) runnable = tt
on_one_disk share chosen (line.Cut outcome) runnable = tt
on_one_disk share chosen line.Nothing runnable = tt

-- it can be run for the volume
pub runnable_volume : (share chosen size : ℕ) (l : Line) → chosen * share + share ≤ size → IsRunnable share l → IsRunnable size (shifted (chosen * share) l)
runnable_volume share chosen size (line.Write lba count tag) fits runnable = (runnable.0, let within = runnable.1 in omega arith)
runnable_volume share chosen size (line.Read lba count) fits runnable = (runnable.0, let within = runnable.1 in omega arith)
runnable_volume share chosen size line.Flush fits runnable = tt
runnable_volume share chosen size line.Idle fits runnable = tt
runnable_volume share chosen size (line.Stop after outcome) fits runnable = runnable
runnable_volume share chosen size (line.Cut outcome) fits runnable = tt
runnable_volume share chosen size line.Nothing fits runnable = tt

-- ---- texts

own_text : (start : ℕ) (answers : List Answer) → printed_text (map (λ a. Told (own start a)) answers) ≡ text (map (own start) answers)
own_text start [] = refl
own_text start (a ∷ answers) = ap (λ (bs : List ℕ). text_of (own start a) ++ bs) (own_text start answers)

one_text : (p : Printed) → printed_text (p ∷ []) ≡ printed_text_of p
one_text p = append-nil (printed_text_of p)

-- ---- what is printed

pub adds_none : (x : SinkState) → Adds x x []
adds_none x = (appends_none x.taken, refl)

adds_then : (a b c : SinkState) (xs ys : List ℕ) → Adds a b xs → Adds b c ys → Adds a c (xs ++ ys)
adds_then a b c xs ys first next = (appends_then a.taken b.taken c.taken xs ys first.0 next.0, next.1 ∙ first.1)

-- ---- the relation then

module _ (share disks : ℕ) (r : Reader) (chosen : ℕ) (tallies : List Tally) (a : SourceState) (x : SinkState) (s : SourceState) (b : SinkState) (e : List Event) (came : CameMany share disks r chosen tallies a x s b e) where
  abbrev rs : List ManyReading
  rs = map accepted_many came.many

  abbrev ls : List Line
  ls = lines_given e

  abbrev bs : List BlockWrite
  bs = touched_in e

  -- so many lines were given
  long_readings : length rs ≡ length ls
  long_readings = sym (length-coded came.many) ∙ as_many share came.many ls came.given

  -- the first block of the chosen disk
  start_now : start_at share rs (length ls) ≡ chosen * share
  start_now =
      ap (start_at share rs) (sym long_readings)
      ∙ ap (λ c. c * share) (take_all 0 rs ∙ sym came.choice)

  -- more was printed
  said_more : (y : SinkState) (more : List Event) → Adds x y (printed_text (events_printed share disks rs ls bs more)) → Adds b y (printed_text (script_printed share disks came.many (e ++ more)))
  said_more y more appends =
      subst (Adds b y)
      (sym (ap printed_text (events_printed-append share disks rs [] [] e more) ∙ flat_map-append printed_text_of (script_printed share disks came.many e) (events_printed share disks rs ls bs more)))
      (adds_then b x y (printed_text (script_printed share disks came.many e)) (printed_text (events_printed share disks rs ls bs more)) came.said appends)

  lines_quiet : (more : List Event) → lines_given more ≡ [] → lines_given (e ++ more) ≡ ls
  lines_quiet more none = lines_given-append e more ∙ ap (λ (l : List Line). ls ++ l) none ∙ append-nil ls

  blocks_quiet : (more : List Event) → touched_in more ≡ [] → touched_in (e ++ more) ≡ bs
  blocks_quiet more none = touched_in-append e more ∙ ap (λ (w : List BlockWrite). bs ++ w) none ∙ append-nil bs

  -- more of the source was read
  pub came_read : (q : Reader) (z : SourceState) → q.size ≡ r.size → CameTo (coded disks) s (map code came.many) z q → CameMany share disks q chosen tallies z x s b e
  came_read q z size read = record {
    many = came.many;
    size = size ∙ came.size;
    read = read;
    given = came.given;
    choice = came.choice;
    one_disk = came.one_disk;
    tally = came.tally;
    said = came.said;
  }

  -- no line was given, and no block was taken
  came_quiet : (y : SinkState) (more : List Event) → lines_given more ≡ [] → touched_in more ≡ [] → Adds x y (printed_text (events_printed share disks rs ls bs more)) → CameMany share disks r chosen tallies a y s b (e ++ more)
  came_quiet y more none_given none_touched appends = record {
    many = came.many;
    size = came.size;
    read = came.read;
    given = came.given ∙ ap (map accepted) (sym (lines_quiet more none_given));
    choice = came.choice;
    one_disk = subst (AreOnOneDisk share) (sym (lines_quiet more none_given)) came.one_disk;
    tally = subst (λ (w : List BlockWrite). AreTalliesOf share 0 (lines_given (e ++ more)) w tallies) (sym (blocks_quiet more none_touched))
        (subst (λ (l : List Line). AreTalliesOf share 0 l bs tallies) (sym (lines_quiet more none_given)) came.tally);
    said = said_more y more appends;
  }

  pub came_none : (y : SinkState) → Adds x y [] → CameMany share disks r chosen tallies a y s b (e ++ [])
  came_none y appends = came_quiet y [] refl refl appends

  -- what is printed for answers
  answers_text : (answers : List Answer) → HasNoEnd answers → printed_text (events_printed share disks rs ls bs (taking answers)) ≡ text (map (own (chosen * share)) answers)
  answers_text answers none =
      ap printed_text (told_each share disks rs ls bs answers none ∙ ap (λ start. map (λ o. Told (own start o)) answers) start_now)
      ∙ own_text (chosen * share) answers

  pub came_answers : (y : SinkState) (answers : List Answer) → HasNoEnd answers → Adds x y (text (map (own (chosen * share)) answers)) → CameMany share disks r chosen tallies a y s b (e ++ taking answers)
  came_answers y answers none appends = came_quiet y (taking answers) (lines_given-taking answers) (touched_in-taking answers) (subst (Adds x y) (sym (answers_text answers none)) appends)

  pub came_took : (y : SinkState) (one : Answer) → Adds x y (printed_text (took_printed share disks (chosen * share) ls bs one)) → CameMany share disks r chosen tallies a y s b (e ++ taking (one ∷ []))
  came_took y one appends = came_quiet y (taking (one ∷ [])) refl refl
      (subst (Adds x y)
      (ap (λ start. printed_text (took_printed share disks start ls bs one)) (sym start_now) ∙ ap printed_text (sym (append-nil (took_printed share disks (start_at share rs (length ls)) ls bs one)))) appends)

  -- a block was taken
  pub came_touched : (lba : ℕ) (block : Block) (more : List Tally) → AreTalliesOf share 0 ls (bs ++ (record { lba = lba; block = block }) ∷ []) more → CameMany share disks r chosen more a x s b (e ++ Touched lba block ∷ [])
  came_touched lba block more are =
      let event = Touched lba block ∷ [] in
      record {
        many = came.many;
        size = came.size;
        read = came.read;
        given = came.given ∙ ap (map accepted) (sym (lines_quiet event refl));
        choice = came.choice;
        one_disk = subst (AreOnOneDisk share) (sym (lines_quiet event refl)) came.one_disk;
        tally = subst (λ (w : List BlockWrite). AreTalliesOf share 0 (lines_given (e ++ event)) w more) (sym (touched_in-append e event))
            (subst (λ (l : List Line). AreTalliesOf share 0 l (bs ++ (record { lba = lba; block = block }) ∷ []) more) (sym (lines_quiet event refl)) are);
        said = said_more x event (adds_none x);
      }

  -- ---- a line more

  many_then : (m : ManyLine) → map accepted_many (came.many ++ m ∷ []) ≡ rs ++ accepted_many m ∷ []
  many_then m = map-append accepted_many came.many (m ∷ [])

  lines_then : (l : Line) → lines_given (e ++ Gave l ∷ []) ≡ ls ++ l ∷ []
  lines_then l = lines_given-append e (Gave l ∷ [])

  given_then : (m : ManyLine) (l : Line) → volume_reading share (chosen_in 0 rs) (accepted_many m) ≡ accepted l → volume_readings share 0 (map accepted_many (came.many ++ m ∷ [])) ≡ map accepted (lines_given (e ++ Gave l ∷ []))
  given_then m l is =
      ap (volume_readings share 0) (many_then m)
      ∙ volume_readings-append share 0 rs (accepted_many m ∷ [])
      ∙ ap (λ (xs : List Reading). xs ++ volume_reading share (chosen_in 0 rs) (accepted_many m) ∷ []) came.given
      ∙ ap (λ (reading : Reading). map accepted ls ++ reading ∷ []) is
      ∙ sym (ap (map accepted) (lines_then l) ∙ map-append accepted ls (l ∷ []))

  -- what was printed before it
  printed_before : (m : ManyLine) → script_printed share disks (came.many ++ m ∷ []) e ≡ script_printed share disks came.many e
  printed_before m =
      ap (λ (xs : List ManyReading). events_printed share disks xs [] [] e) (many_then m)
      ∙ events_longer share disks rs (accepted_many m ∷ []) [] [] e (let long = long_readings in omega arith)

  -- what is printed for it
  printed_here : (m : ManyLine) (l : Line) → event_printed share disks (map accepted_many (came.many ++ m ∷ [])) ls bs (Gave l) ≡ next_printed true (choice_in (accepted_many m ∷ []))
  printed_here m l =
      ap (λ (xs : List ManyReading). next_printed true (choice_at xs (length ls))) (many_then m)
      ∙ ap (λ n. next_printed true (choice_at (rs ++ accepted_many m ∷ []) n)) (sym long_readings)
      ∙ ap (next_printed true) (choice_here rs (accepted_many m))

  pub came_gave : (m : ManyLine) (l : Line) (q : Reader) (now : ℕ) (more : List Tally) (y : SinkState) → q.size ≡ r.size → CameTo (coded disks) s (map code came.many ++ code m ∷ []) a q
      → volume_reading share (chosen_in 0 rs) (accepted_many m) ≡ accepted l → now ≡ chosen_after (chosen_in 0 rs) (accepted_many m) → IsOnOneDisk share l → AreTalliesOf share 0 (ls ++ l ∷ []) bs more
      → Adds x y (printed_text (next_printed true (choice_in (accepted_many m ∷ [])))) → CameMany share disks q now more a y s b (e ++ Gave l ∷ [])
  came_gave m l q now more y size read is now_is on are appends = record {
    many = came.many ++ m ∷ [];
    size = size ∙ came.size;
    read = subst (λ (xs : List Line). CameTo (coded disks) s xs a q) (sym (map-append code came.many (m ∷ []))) read;
    given = given_then m l is;
    choice = now_is ∙ sym (ap (chosen_in 0) (many_then m) ∙ chosen_in-append 0 rs (accepted_many m ∷ []));
    one_disk = subst (AreOnOneDisk share) (sym (lines_then l)) (on_one-then share ls (l ∷ []) came.one_disk (on, tt));
    tally = subst (λ (w : List BlockWrite). AreTalliesOf share 0 (lines_given (e ++ Gave l ∷ [])) w more) (sym (blocks_quiet (Gave l ∷ []) refl))
        (subst (λ (xs : List Line). AreTalliesOf share 0 xs bs more) (sym (lines_then l)) are);
    said = subst (Adds b y) (sym printed) (adds_then b x y (printed_text (script_printed share disks came.many e)) (printed_text (next_printed true (choice_in (accepted_many m ∷ [])))) came.said appends);
  }
    where
      printed : printed_text (script_printed share disks (came.many ++ m ∷ []) (e ++ Gave l ∷ [])) ≡ printed_text (script_printed share disks came.many e) ++ printed_text (next_printed true (choice_in (accepted_many m ∷ [])))
      printed =
          ap printed_text (events_printed-append share disks (map accepted_many (came.many ++ m ∷ [])) [] [] e (Gave l ∷ [])
          ∙ ap (λ (ps : List Printed). ps ++ (event_printed share disks (map accepted_many (came.many ++ m ∷ [])) ls bs (Gave l) ++ [])) (printed_before m)
          ∙ ap (λ (ps : List Printed). script_printed share disks came.many e ++ (ps ++ [])) (printed_here m l)
          ∙ ap (λ (ps : List Printed). script_printed share disks came.many e ++ ps) (append-nil (next_printed true (choice_in (accepted_many m ∷ [])))))
          ∙ flat_map-append printed_text_of (script_printed share disks came.many e) (next_printed true (choice_in (accepted_many m ∷ [])))

  -- a line of the chosen disk
  pub came_plain : (l : Line) (q : Reader) (more : List Tally) → q.size ≡ r.size → CameTo (coded disks) s (map code came.many ++ code (Plain l) ∷ []) a q → IsRunnable share l
      → AreTalliesOf share 0 (ls ++ shifted (chosen * share) l ∷ []) bs more → CameMany share disks q chosen more a x s b (e ++ Gave (shifted (chosen * share) l) ∷ [])
  came_plain l q more size read runnable are = came_gave (Plain l) (shifted (chosen * share) l) q chosen more x size read
      (ap (λ c. accepted (shifted (c * share) l)) (sym came.choice)) came.choice (on_one_disk share chosen l runnable) are (adds_none x)

  -- a line that chooses a disk
  pub came_disk : (disk : ℕ) (q : Reader) (y : SinkState) → q.size ≡ r.size → CameTo (coded disks) s (map code came.many ++ code (Disk disk) ∷ []) a q
      → AreTalliesOf share 0 (ls ++ line.Nothing ∷ []) bs tallies → Adds x y (printed_text_of (Chose disk)) → CameMany share disks q disk tallies a y s b (e ++ Gave line.Nothing ∷ [])
  came_disk disk q y size read are appends = came_gave (Disk disk) line.Nothing q disk tallies y size read refl refl tt are (subst (Adds x y) (sym (one_text (Chose disk))) appends)

  -- ---- the sink failed

  -- within the line that says which disk is chosen
  pub broke_disk : (disk : ℕ) (y : SinkState) (n : ℕ) → StandsAtLine r → many_of r.size disks (line_so_far r.pending) ≡ Ok (Disk disk) → n < length (printed_text_of (Chose disk)) → Appends x.taken y.taken (take n (printed_text_of (Chose disk))) → BrokeMany share disks y s b e (Gave line.Nothing)
  broke_disk disk y n stands is less appends =
      let here : printed_text_of (Chose disk) ≡ printed_text (event_printed share disks (map accepted_many (came.many ++ Disk disk ∷ [])) ls bs (Gave line.Nothing)) = sym (ap printed_text (printed_here (Disk disk) line.Nothing) ∙ one_text (Chose disk)) in
      record {
        many = came.many ++ Disk disk ∷ [];
        begins = begins_next share disks r chosen tallies a x s b e came (Disk disk) stands is;
        given = given_then (Disk disk) line.Nothing refl;
        one_disk = came.one_disk;
        said = (
          n,
          subst (λ (t : List ℕ). n < length t) here less,
          subst (λ (t : List ℕ). Appends b.taken y.taken (printed_text (script_printed share disks (came.many ++ Disk disk ∷ []) e) ++ take n t)) here
              (subst (λ (ps : List Printed). Appends b.taken y.taken (printed_text ps ++ take n (printed_text_of (Chose disk)))) (sym (printed_before (Disk disk)))
              (appends_then b.taken x.taken y.taken (printed_text (script_printed share disks came.many e)) (take n (printed_text_of (Chose disk))) came.said.0 appends)),
        );
      }

  -- within the text of an answer, after others
  pub broke_took : (y : SinkState) (given : List Answer) (next : Answer) (n : ℕ) → HasNoEnd given → n < length (printed_text (took_printed share disks (chosen * share) ls bs next))
      → Appends x.taken y.taken (text (map (own (chosen * share)) given) ++ take n (printed_text (took_printed share disks (chosen * share) ls bs next))) → BrokeMany share disks y s b (e ++ taking given) (Took next)
  broke_took y given next n none less appends =
      let more = taking given in
      let lines = lines_quiet more (lines_given-taking given) in
      let blocks = blocks_quiet more (touched_in-taking given) in
      let own_answers = text (map (own (chosen * share)) given) in
      let part = take n (printed_text (took_printed share disks (chosen * share) ls bs next)) in
      let here : printed_text (took_printed share disks (chosen * share) ls bs next) ≡ printed_text (event_printed share disks rs (lines_given (e ++ more)) (touched_in (e ++ more)) (Took next)) =
      ap (λ start. printed_text (took_printed share disks start ls bs next)) (sym start_now)
      ∙ ap (λ (xs : List Line). printed_text (took_printed share disks (start_at share rs (length xs)) xs bs next)) (sym lines)
      ∙ ap (λ (w : List BlockWrite). printed_text (took_printed share disks (start_at share rs (length (lines_given (e ++ more)))) (lines_given (e ++ more)) w next)) (sym blocks) in
      let before : printed_text (script_printed share disks came.many (e ++ more)) ≡ printed_text (script_printed share disks came.many e) ++ own_answers =
      ap printed_text (events_printed-append share disks rs [] [] e more)
      ∙ flat_map-append printed_text_of (script_printed share disks came.many e) (events_printed share disks rs ls bs more)
      ∙ ap (λ (t : List ℕ). printed_text (script_printed share disks came.many e) ++ t) (answers_text given none) in
      record {
        many = came.many;
        begins = begins_came share disks r chosen tallies a x s b e came;
        given = came.given ∙ ap (map accepted) (sym (lines_given-append (e ++ more) (Took next ∷ []) ∙ append-nil (lines_given (e ++ more)) ∙ lines));
        one_disk = subst (AreOnOneDisk share) (sym lines) came.one_disk;
        said = (
          n,
          subst (λ (t : List ℕ). n < length t) here less,
          subst (λ (t : List ℕ). Appends b.taken y.taken (printed_text (script_printed share disks came.many (e ++ more)) ++ take n t)) here
              (subst (Appends b.taken y.taken) (sym (append_assoc (printed_text (script_printed share disks came.many e)) own_answers part) ∙ ap (λ (t : List ℕ). t ++ part) (sym before))
              (appends_then b.taken x.taken y.taken (printed_text (script_printed share disks came.many e)) (own_answers ++ part) came.said.0 appends)),
        );
      }

-- ---- at the start

pub came_first : (share disks : ℕ) (r : Reader) (tallies : List Tally) (a : SourceState) (x : SinkState) → r.size ≡ share → CameTo (coded disks) a [] a r → AreTalliesOf share 0 [] [] tallies → CameMany share disks r 0 tallies a x a x []
came_first share disks r tallies a x size read are = record {
  many = [];
  size = size;
  read = read;
  given = refl;
  choice = refl;
  one_disk = tt;
  tally = are;
  said = adds_none x;
}

-- ---- the blocks of the disks

-- a disk ends within the volume
pub start_within : (chosen share disks size : ℕ) → chosen < disks → disks * share ≤ size → chosen * share + share ≤ size
start_within chosen share disks size below within =
    let more : (chosen + 1) * share ≤ disks * share = mul-le-mul_right share (omega arith) in
    omega (arith, more)

-- each disk has a block
pub some_share : (size disks : ℕ) → 1 ≤ disks → disks ≤ size → 1 ≤ size / disks
some_share size disks some shared = le-div 1 size disks (omega arith) (omega arith)

pub share_within : (size disks : ℕ) → disks * (size / disks) ≤ size
share_within size disks = let whole = div-add-mod' size disks in omega (arith, whole)

-- ---- the end of each disk

took_end : (share disks start : ℕ) (ls : List Line) (bs : List BlockWrite) (one : Answer) → is_end one ≡ true → took_printed share disks start ls bs one ≡ ends_by share disks ls bs
took_end share disks start ls bs (answer.End writes reads touched digest) is = refl
took_end share disks start ls bs (answer.Wrote lba count) is = absurd (cc)
took_end share disks start ls bs answer.Stopped is = absurd (cc)
took_end share disks start ls bs (answer.Kept kept count) is = absurd (cc)
took_end share disks start ls bs (answer.Lost count) is = absurd (cc)
took_end share disks start ls bs (answer.ReadBack lba tag) is = absurd (cc)
took_end share disks start ls bs answer.Flushed is = absurd (cc)
took_end share disks start ls bs answer.Idle is = absurd (cc)
took_end share disks start ls bs answer.Cut is = absurd (cc)
took_end share disks start ls bs (answer.Refused line cause) is = absurd (cc)

module _ (share disks : ℕ) (r : Reader) (chosen : ℕ) (tallies : List Tally) (a : SourceState) (x y : SinkState) (one : List Event → Answer) (ends : (e : List Event) → is_end (one e) ≡ true) where
  -- each disk's end was printed, or a part of that
  abbrev PrintsEnds : Result (Unit {0}) Ended → Type 0
  PrintsEnds result = (ls : List Line) → (bs : List BlockWrite) → AreTalliesOf share 0 ls bs tallies → Prints x y (printed_text (ends_by share disks ls bs)) result

  pub ends_took : (result : Result (Unit {0}) Ended) → PrintsEnds result → OnOk result ((s : SourceState) → (b : SinkState) → (e : List Event) → CameMany share disks r chosen tallies a x s b e → CameMany share disks r chosen tallies a y s b (e ++ Took (one e) ∷ []))
  ends_took (Err failed) prints = tt
  ends_took (Ok done) prints = λ s b e came.
      came_took share disks r chosen tallies a x s b e came y (one e)
      (subst (λ (ps : List Printed). Adds x y (printed_text ps)) (sym (took_end share disks (chosen * share) (lines_given e) (touched_in e) (one e) (ends e))) (prints (lines_given e) (touched_in e) came.tally).done)

  pub ends_broke : (result : Result (Unit {0}) Ended) → PrintsEnds result → IsErrOf result ended.Sink → (s : SourceState) (b : SinkState) (e : List Event) → CameMany share disks r chosen tallies a x s b e → BrokeMany share disks y s b e (Took (one e))
  ends_broke result prints is s b e came =
      let same = took_end share disks (chosen * share) (lines_given e) (touched_in e) (one e) (ends e) in
      let part = (prints (lines_given e) (touched_in e) came.tally).part is in
      subst (λ (events : List Event). BrokeMany share disks y s b events (Took (one e))) (append-nil e)
      (broke_took share disks r chosen tallies a x s b e came y [] (one e) part.0 tt
      (subst (λ (ps : List Printed). part.0 < length (printed_text ps)) (sym same) part.1)
      (subst (λ (ps : List Printed). Appends x.taken y.taken (take part.0 (printed_text ps))) (sym same) part.2))

  pub ends_none : (result : Result (Unit {0}) Ended) → PrintsEnds result → IsErrOf result ended.Memory → (s : SourceState) (b : SinkState) (e : List Event) → CameMany share disks r chosen tallies a x s b e → CameMany share disks r chosen tallies a y s b (e ++ [])
  ends_none result prints is s b e came = came_none share disks r chosen tallies a x s b e came y ((prints (lines_given e) (touched_in e) came.tally).none is)

-- ---- an answer

module _ (share disks : ℕ) (r : Reader) (chosen : ℕ) (tallies : List Tally) (a : SourceState) (x y : SinkState) (one given : Answer) (other : is_end one ≡ false) (is : given ≡ own (chosen * share) one) where
  pub answer_took : Said x y (given ∷ []) → (s : SourceState) (b : SinkState) (e : List Event) → CameMany share disks r chosen tallies a x s b e → CameMany share disks r chosen tallies a y s b (e ++ Took one ∷ [])
  answer_took said s b e came = came_answers share disks r chosen tallies a x s b e came y (one ∷ []) (other, tt) (subst (λ (o : Answer). Said x y (o ∷ [])) is said)

  pub answer_broke : SaidPart x y [] (Some given) → (s : SourceState) (b : SinkState) (e : List Event) → CameMany share disks r chosen tallies a x s b e → BrokeMany share disks y s b e (Took one)
  answer_broke part s b e came =
      let same : text_of given ≡ printed_text (took_printed share disks (chosen * share) (lines_given e) (touched_in e) one) =
      ap text_of is ∙ sym (ap printed_text (told_as share disks (chosen * share) (lines_given e) (touched_in e) one other) ∙ one_text (Told (own (chosen * share) one))) in
      subst (λ (events : List Event). BrokeMany share disks y s b events (Took one)) (append-nil e)
      (broke_took share disks r chosen tallies a x s b e came y [] one part.0 tt
      (subst (λ (t : List ℕ). part.0 < length t) same part.1)
      (subst (λ (t : List ℕ). Appends x.taken y.taken (take part.0 t)) same part.2))

-- ---- answers together

module _ (share disks : ℕ) (r : Reader) (chosen : ℕ) (tallies : List Tally) (a : SourceState) (x y : SinkState) where
  pub answers_took : (answers : List Answer) → HasNoEnd answers → Said x y (map (own (chosen * share)) answers) → (s : SourceState) (b : SinkState) (e : List Event) → CameMany share disks r chosen tallies a x s b e → CameMany share disks r chosen tallies a y s b (e ++ taking answers)
  answers_took answers none said s b e came = came_answers share disks r chosen tallies a x s b e came y answers none said

  pub answers_broke : (answers : List Answer) (next : Answer) → HasNoEnd answers → is_end next ≡ false → SaidPart x y (map (own (chosen * share)) answers) (Some (own (chosen * share) next)) → (s : SourceState) (b : SinkState) (e : List Event) → CameMany share disks r chosen tallies a x s b e → BrokeMany share disks y s b (e ++ taking answers) (Took next)
  answers_broke answers next none other part s b e came =
      let same : text_of (own (chosen * share) next) ≡ printed_text (took_printed share disks (chosen * share) (lines_given e) (touched_in e) next) =
      sym (ap printed_text (told_as share disks (chosen * share) (lines_given e) (touched_in e) next other) ∙ one_text (Told (own (chosen * share) next))) in
      broke_took share disks r chosen tallies a x s b e came y answers next part.0 none
      (subst (λ (t : List ℕ). part.0 < length t) same part.1)
      (subst (λ (t : List ℕ). Appends x.taken y.taken (text (map (own (chosen * share)) answers) ++ take part.0 t)) same part.2)
