-- From what a script over several disks did to what was printed.
use Rattle.std.proofs.Common.{◌≡◌, ◌≤◌, ◌<◌, ◌++◌, ◌∷◌, [], ℕ, Bool, true, false, List, Option, Some, None, length, map, take, sym, ap, ◌∙◌, subst, append_assoc, arith}
use Rattle.std.proofs.lemmas.List.{append-nil, length-append, map-append}
use Rattle.std.specs.Io.KnownBytes.{Appends}
use Rattle.ft_base.specs.StreamState.{SinkState, SourceState}
use Rattle.ft_base.specs.declared.told.Ack.{Ack}
use Rattle.trace_model.specs.declared.answer.Answer.{Answer}
use Rattle.trace_model.specs.declared.line.Line.{Line}
use Rattle.trace_model.specs.declared.ran.Ran.{Ran}
use Rattle.trace_model.specs.Fits.{FitsRun}
use Rattle.trace_model.specs.Readings.{Reading, accepted}
use Rattle.trace_model.specs.Run.{lines_of}
use Rattle.trace_replay.specs.declared.reader.Reader.{Reader}
use Rattle.trace_replay.specs.Events.{BreaksAfter, Event, SaysAfter, SaysAlone, events_of, lines_given, touched_in}
use Rattle.trace_replay.specs.Events.Event.{Gave, Took}
use Rattle.trace_replay.proofs.GivenLemmas.{lines_given-append, lines_given-run}
use Rattle.trace_replay.proofs.StreamLemmas.{lent_apart}
use Rattle.many_disks.specs.declared.line.ManyLine.{ManyLine}
use Rattle.many_disks.specs.declared.tally.Tally.{Tally}
use Rattle.many_disks.specs.Known.{as_many, length-coded, volume_readings-append}
use Rattle.many_disks.specs.Lines.{ManyReading, chosen_in, many_readings}
use Rattle.many_disks.specs.Readings.{ReadsMany, volume_readings}
use Rattle.many_disks.specs.Script.{BrokeMany, CameMany, accepted_many, event_printed, events_printed, script_printed}
use Rattle.many_disks.specs.Tally.{AreOnOneDisk}
use Rattle.many_disks.specs.Told.{Printed, PrintedPart, TellsMany, TellsManyPart, all_printed, choice_at, next_printed, printed_text}
use Rattle.many_disks.proofs.OwnLemmas.{on_one-append}
use Rattle.many_disks.proofs.PrintedLemmas.{event_longer, events_longer, length-lines_of}
use Rattle.many_disks.proofs.ReadLemmas.{begins_came}
use Rattle.many_disks.proofs.TellLemmas.{printed_all, printed_next, printed_none}

-- so many lines were given
long_given : (share : ℕ) (many : List ManyLine) (lines : List Line) → volume_readings share 0 (map accepted_many many) ≡ map accepted lines → length (map accepted_many many) ≡ length lines
long_given share many lines given = sym (length-coded many) ∙ as_many share many lines given

module _ (share disks : ℕ) (run : List Ran) (more : List Event) (many : List ManyLine) (left : List ManyReading) (readings : List ManyReading) (begins : readings ≡ map accepted_many many ++ left) where
  -- the lines of the run come first
  run_first : (lines : List Line) → volume_readings share 0 (map accepted_many many) ≡ map accepted (lines_of run ++ lines) → (rest : List Reading) × (volume_readings share 0 readings ≡ map accepted (lines_of run) ++ rest)
  run_first lines given = (
    map accepted lines ++ volume_readings share (chosen_in 0 (map accepted_many many)) left,
    ap (volume_readings share 0) begins
        ∙ volume_readings-append share 0 (map accepted_many many) left
        ∙ ap (λ (rs : List Reading). rs ++ volume_readings share (chosen_in 0 (map accepted_many many)) left) (given ∙ map-append accepted (lines_of run) lines)
        ∙ append_assoc (map accepted (lines_of run)) (map accepted lines) (volume_readings share (chosen_in 0 (map accepted_many many)) left),
  )

  -- what was printed for the lines that were given is printed for them in the whole trace
  printed_whole : length (lines_given (events_of run ++ more)) ≤ length (map accepted_many many) → script_printed share disks many (events_of run ++ more) ≡ events_printed share disks readings [] [] (events_of run ++ more)
  printed_whole within =
      sym (ap (λ (rs : List ManyReading). events_printed share disks rs [] [] (events_of run ++ more)) begins
      ∙ events_longer share disks (map accepted_many many) left [] [] (events_of run ++ more) (omega arith))

lines_after : (run : List Ran) (more : List Event) → lines_given (events_of run ++ more) ≡ lines_of run ++ lines_given more
lines_after run more = lines_given-append (events_of run) more ∙ ap (λ (ls : List Line). ls ++ lines_given more) (lines_given-run run)

on_one_run : (share : ℕ) (run : List Ran) (more : List Event) → AreOnOneDisk share (lines_given (events_of run ++ more)) → AreOnOneDisk share (lines_of run)
on_one_run share run more on = (on_one-append share (lines_of run) (lines_given more) (subst (AreOnOneDisk share) (lines_after run more) on)).0

-- ---- what was printed

-- a part of the same lines and the same text
part_is : (x y : SinkState) (lines same : List Printed) (next other : List Printed) → lines ≡ same → next ≡ other → PrintedPart x y lines (printed_text next) → PrintedPart x y same (printed_text other)
part_is x y lines same next other first then part = (
  part.0,
  subst (λ (ps : List Printed). part.0 < length (printed_text ps)) then part.1,
  subst (λ (ps : List Printed). Appends x.taken y.taken (printed_text same ++ take part.0 (printed_text ps))) then
      (subst (λ (ps : List Printed). Appends x.taken y.taken (printed_text ps ++ take part.0 (printed_text next))) first part.2),
)

module _ (share disks : ℕ) (ack : Ack) (s : SourceState) (x y : SinkState) (run : List Ran) (answers : List Answer) (more : List Event) (fits : FitsRun ack run) where
  pub tells_many : (r : Reader) (chosen : ℕ) (tallies : List Tally) (now : SourceState) → SaysAfter run answers more → CameMany share disks r chosen tallies now y s x (events_of run ++ more) → TellsMany share disks s x y run answers
  tells_many r chosen tallies now after came bytes is =
      let e = events_of run ++ more in
      let begins = begins_came share disks r chosen tallies now y s x e came bytes is in
      let readings = many_readings share disks true bytes in
      let long = long_given share came.many (lines_given e) came.given in
      let first = run_first share disks run more came.many begins.0 readings begins.1 (lines_given more) (came.given ∙ ap (map accepted) (lines_after run more)) in
      let all = printed_all share disks readings ack run first.0 first.1 fits (on_one_run share run more came.one_disk) more answers after.said after.end after.few in
      (all.0, subst (λ (ps : List Printed). Appends x.taken y.taken (printed_text ps)) (printed_whole share disks run more came.many begins.0 readings begins.1 (omega arith) ∙ all.1) came.said.0)

  -- a front of the text of an answer
  tells_next : (next : Answer) → BreaksAfter run answers next more → BrokeMany share disks y s x (events_of run ++ more) (Took next) → TellsManyPart share disks s x y run answers (Some next)
  tells_next next after broke bytes is =
      let e = events_of run ++ more in
      let begins = broke.begins bytes is in
      let readings = many_readings share disks true bytes in
      let lines : lines_given (e ++ Took next ∷ []) ≡ lines_given e = lines_given-append e (Took next ∷ []) ∙ append-nil (lines_given e) in
      let given = broke.given ∙ ap (map accepted) lines in
      let long = long_given share broke.many (lines_given e) given in
      let first = run_first share disks run more broke.many begins.0 readings begins.1 (lines_given more) (given ∙ ap (map accepted) (lines_after run more)) in
      let all = printed_next share disks readings ack run first.0 first.1 fits (on_one_run share run more broke.one_disk) more answers next after.said after.no_end after.end after.few in
      let text = printed_whole share disks run more broke.many begins.0 readings begins.1 (omega arith) ∙ all.all in
      let event : event_printed share disks (map accepted_many broke.many) (lines_given e) (touched_in e) (Took next) ≡ event_printed share disks readings (lines_given e) (touched_in e) (Took next) =
      sym (ap (λ (rs : List ManyReading). event_printed share disks rs (lines_given e) (touched_in e) (Took next)) begins.1
      ∙ event_longer share disks (map accepted_many broke.many) begins.0 (lines_given e) (touched_in e) (Took next) (omega arith)) in
      (all.given, part_is x y (script_printed share disks broke.many e) _ (event_printed share disks (map accepted_many broke.many) (lines_given e) (touched_in e) (Took next)) _ text (event ∙ all.event) broke.said)

  -- a front of the line that says which disk is chosen
  tells_none : (line : Line) → SaysAlone answers more → BrokeMany share disks y s x (events_of run ++ more) (Gave line) → TellsManyPart share disks s x y run answers None
  tells_none line after broke bytes is =
      let e = events_of run ++ more in
      let event = Gave line in
      let begins = broke.begins bytes is in
      let readings = many_readings share disks true bytes in
      let lines = lines_given-append e (event ∷ []) in
      let long = long_given share broke.many (lines_given (e ++ event ∷ [])) broke.given in
      let longer = ap length lines ∙ length-append (lines_given e) (line ∷ []) in
      let given = broke.given ∙ ap (map accepted) (lines ∙ ap (λ (ls : List Line). ls ++ line ∷ []) (lines_after run more) ∙ append_assoc (lines_of run) (lines_given more) (line ∷ [])) in
      let first = run_first share disks run more broke.many begins.0 readings begins.1 (lines_given more ++ line ∷ []) given in
      let all = printed_none share disks readings ack run first.0 first.1 fits (on_one_run share run more broke.one_disk) more answers after.said after.no_end after.none in
      let text = printed_whole share disks run more broke.many begins.0 readings begins.1 (omega arith) ∙ all in
      let here : event_printed share disks (map accepted_many broke.many) (lines_given e) (touched_in e) event ≡ next_printed true (choice_at readings (length run)) =
      sym (ap (λ (rs : List ManyReading). event_printed share disks rs (lines_given e) (touched_in e) event) begins.1
      ∙ event_longer share disks (map accepted_many broke.many) begins.0 (lines_given e) (touched_in e) event (omega arith))
      ∙ ap (λ (ls : List Line). next_printed true (choice_at readings (length ls))) (lines_after run more ∙ ap (λ (ls : List Line). lines_of run ++ ls) after.none ∙ append-nil (lines_of run))
      ∙ ap (λ n. next_printed true (choice_at readings n)) (length-lines_of run) in
      part_is x y (script_printed share disks broke.many e) (all_printed share disks readings run false answers) (event_printed share disks (map accepted_many broke.many) (lines_given e) (touched_in e) event) (next_printed true (choice_at readings (length run))) text here broke.said

-- ---- however the script said it

-- the same of a sink that took the same
pub tells_same : (share disks : ℕ) (s : SourceState) (x y z : SinkState) (run : List Ran) (answers : List Answer) → y.taken ≡ z.taken → TellsMany share disks s x y run answers → TellsMany share disks s x z run answers
tells_same share disks s x y z run answers same tells bytes is =
    let told = tells bytes is in
    (told.0, subst (λ (t : Option (List ℕ)). Appends x.taken t (printed_text (all_printed share disks (many_readings share disks true bytes) run told.0 answers))) same told.1)

part_same : (x y z : SinkState) (lines : List Printed) (next : List ℕ) → y.taken ≡ z.taken → PrintedPart x y lines next → PrintedPart x z lines next
part_same x y z lines next same part = (part.0, part.1, subst (λ (t : Option (List ℕ)). Appends x.taken t (printed_text lines ++ take part.0 next)) same part.2)

pub tells_part-same : (share disks : ℕ) (s : SourceState) (x y z : SinkState) (run : List Ran) (answers : List Answer) (next : Option Answer) → y.taken ≡ z.taken → TellsManyPart share disks s x y run answers next → TellsManyPart share disks s x z run answers next
tells_part-same share disks s x y z run answers None same tells = λ bytes is. part_same x y z _ _ same (tells bytes is)
tells_part-same share disks s x y z run answers (Some next) same tells = λ bytes is. let told = tells bytes is in (told.0, part_same x y z _ _ same told.1)

-- the sink failed within the text of an answer, or within the line that says which disk is chosen
abbrev pub BrokeBy : ℕ → ℕ → SourceState → SinkState → SinkState → List Ran → List Answer → Option Answer → Type 0
BrokeBy share disks s x y run answers None = (line : Line) × (more : List Event) × SaysAlone answers more × BrokeMany share disks y s x (events_of run ++ more) (Gave line)
BrokeBy share disks s x y run answers (Some next) = (more : List Event) × BreaksAfter run answers next more × BrokeMany share disks y s x (events_of run ++ more) (Took next)

pub tells_part : (share disks : ℕ) (ack : Ack) (s : SourceState) (x y : SinkState) (run : List Ran) (answers : List Answer) (next : Option Answer) → FitsRun ack run → BrokeBy share disks s x y run answers next → TellsManyPart share disks s x y run answers next
tells_part share disks ack s x y run answers None fits (line, more, after, broke) = tells_none share disks ack s x y run answers more fits line after broke
tells_part share disks ack s x y run answers (Some next) fits (more, after, broke) = tells_next share disks ack s x y run answers more fits next after broke

-- ---- the script when it is handed back

-- what lies beneath it, with its numbers
pub many_lent : (p q u v k m j n : ℕ) (a c b d : List ℕ) → p ∷ q ∷ k ∷ m ∷ length a ∷ a ++ b ≡ u ∷ v ∷ j ∷ n ∷ length c ∷ c ++ d → (p ≡ u) × (q ≡ v) × (k ≡ j) × (m ≡ n) × (a ≡ c) × (b ≡ d)
many_lent p q u v k m j n a c b d is =
    let rest : k ∷ m ∷ length a ∷ a ++ b ≡ j ∷ n ∷ length c ∷ c ++ d = cc in
    let apart = lent_apart m n a c b d k j rest in
    (cc, cc, apart.0, apart.1, apart.2, apart.3)

module _ (p q share disks : ℕ) (same_share : p ≡ share) (same_disks : q ≡ disks) (s : SourceState) where
  pub reads_back : (a z : SourceState) → a ≡ z → (lines : ℕ) (all : List Reading) (whole : Bool) → ReadsMany p q s a lines all whole → ReadsMany share disks s z lines all whole
  reads_back a z same lines all whole reads =
      subst (λ n. ReadsMany n disks s z lines all whole) same_share
      (subst (λ n. ReadsMany p n s z lines all whole) same_disks
      (subst (λ (t : SourceState). ReadsMany p q s t lines all whole) same reads))

  -- a sink that took these bytes
  abbrev pub took : Option (List ℕ) → SinkState
  took taken = record { taken = taken; faults = 0; lent = [] }

  pub tells_back : (x y : SinkState) (taken : Option (List ℕ)) → y.taken ≡ taken → (run : List Ran) (answers : List Answer) → TellsMany p q s x y run answers → TellsMany share disks s x (took taken) run answers
  tells_back x y taken same run answers tells =
      subst (λ n. TellsMany n disks s x (took taken) run answers) same_share
      (subst (λ n. TellsMany p n s x (took taken) run answers) same_disks (tells_same p q s x y (took taken) run answers same tells))

  pub part_back : (x y : SinkState) (taken : Option (List ℕ)) → y.taken ≡ taken → (run : List Ran) (answers : List Answer) (next : Option Answer) → TellsManyPart p q s x y run answers next → TellsManyPart share disks s x (took taken) run answers next
  part_back x y taken same run answers next tells =
      subst (λ n. TellsManyPart n disks s x (took taken) run answers next) same_share
      (subst (λ n. TellsManyPart p n s x (took taken) run answers next) same_disks (tells_part-same p q s x y (took taken) run answers next same tells))
