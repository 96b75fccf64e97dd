-- What a script prints for its events.
use Rattle.std.proofs.Common.{◌≡◌, ◌≤◌, ◌+◌, ◌*◌, ◌++◌, ◌∷◌, [], ◌==◌, ◌||◌, ℕ, zero, suc, add-one, Bool, true, false, if◌then◌else◌, inl, inr, List, Option, Some, None, Ok, Err, length, map, take, refl, sym, ap, ◌∙◌, subst, append_assoc, arith}
use Rattle.std.proofs.lemmas.List.{append-nil, length-append, map-append, take-append-le}
use Rattle.std.proofs.lemmas.Bool.{cases_Bool}
use Rattle.std.specs.List.{list_any, range_with_len}
use Rattle.ft_base.specs.Pattern.{tag_in}
use Rattle.ft_base.specs.PlainDisk.{BlockWrite, PlainDisk}
use Rattle.ft_base.specs.declared.told.Ack.{Ack}
use Rattle.trace_model.specs.declared.answer.Answer.{Answer}
use Rattle.trace_model.specs.declared.answer.Answer.TheVariants as answer
use Rattle.trace_model.specs.declared.line.Line.{Line}
use Rattle.trace_model.specs.declared.line.Line.TheVariants as line
use Rattle.trace_model.specs.declared.ran.Ran.{Ran}
use Rattle.trace_model.specs.Fits.{FitsLine, FitsNext, FitsRun, is_cut}
use Rattle.trace_model.specs.Readings.{Reading, accepted}
use Rattle.trace_model.specs.Run.{answers_of, disk_without, lines_of, lost_told, own_answers, stopped}
use Rattle.trace_replay.specs.Commands.{is_end}
use Rattle.trace_replay.specs.Events.{Event, events_of, lines_given, taking, touched_in}
use Rattle.trace_replay.specs.Events.Event.{Gave, Took, Touched}
use Rattle.trace_replay.proofs.GivenLemmas.{lines_given-run}
use Rattle.many_disks.specs.declared.line.ManyLine.TheVariants.{Disk, Plain}
use Rattle.many_disks.specs.Lines.{ManyReading, chosen_after, chosen_in}
use Rattle.many_disks.specs.Readings.{volume_readings}
use Rattle.many_disks.specs.Script.{event_printed, events_printed, took_printed}
use Rattle.many_disks.specs.Told.{Printed, choice_at, choice_in, line_printed, next_printed, own, run_printed, start_at}
use Rattle.many_disks.specs.Told.Printed.{Chose, Told}

-- ---- some events, and then others

given_first : (x : Event) (xs : List Event) → lines_given (x ∷ []) ++ lines_given xs ≡ lines_given (x ∷ xs)
given_first (Gave line) xs = refl
given_first (Took answer) xs = refl
given_first (Touched lba block) xs = refl

touched_first : (x : Event) (xs : List Event) → touched_in (x ∷ []) ++ touched_in xs ≡ touched_in (x ∷ xs)
touched_first (Gave line) xs = refl
touched_first (Took answer) xs = refl
touched_first (Touched lba block) xs = refl

module _ (share disks : ℕ) (readings : List ManyReading) where
  -- the same events after the same lines and blocks
  pub printed_same : (ls ms : List Line) (bs cs : List BlockWrite) (events : List Event) → ls ≡ ms → bs ≡ cs → events_printed share disks readings ls bs events ≡ events_printed share disks readings ms cs events
  printed_same ls ms bs cs events lines blocks = ap (λ (l : List Line). events_printed share disks readings l bs events) lines ∙ ap (λ (b : List BlockWrite). events_printed share disks readings ms b events) blocks

  pub events_printed-append : (ls : List Line) (bs : List BlockWrite) (xs ys : List Event) → events_printed share disks readings ls bs (xs ++ ys) ≡ events_printed share disks readings ls bs xs
      ++ events_printed share disks readings (ls ++ lines_given xs) (bs ++ touched_in xs) ys
  events_printed-append ls bs [] ys = printed_same ls (ls ++ []) bs (bs ++ []) ys (sym (append-nil ls)) (sym (append-nil bs))
  events_printed-append ls bs (x ∷ xs) ys =
      let first = event_printed share disks readings ls bs x in
      ap (λ (ps : List Printed). first ++ ps) (events_printed-append (ls ++ lines_given (x ∷ [])) (bs ++ touched_in (x ∷ [])) xs ys)
      ∙ sym (append_assoc first (events_printed share disks readings (ls ++ lines_given (x ∷ [])) (bs ++ touched_in (x ∷ [])) xs) (events_printed share disks readings ((ls ++ lines_given (x ∷ [])) ++ lines_given xs) ((bs ++ touched_in (x ∷ [])) ++ touched_in xs) ys))
      ∙ ap (λ (ps : List Printed). events_printed share disks readings ls bs (x ∷ xs) ++ ps)
      (printed_same _ _ _ _ ys (append_assoc ls (lines_given (x ∷ [])) (lines_given xs) ∙ ap (λ (l : List Line). ls ++ l) (given_first x xs)) (append_assoc bs (touched_in (x ∷ [])) (touched_in xs) ∙ ap (λ (b : List BlockWrite). bs ++ b) (touched_first x xs)))

-- ---- more readings behind those that were given

choice_first : (x : ManyReading) (xs ys : List ManyReading) → choice_in (x ∷ xs) ≡ choice_in (x ∷ ys)
choice_first (Ok (Disk disk)) xs ys = refl
choice_first (Ok (Plain line)) xs ys = refl
choice_first (Err cause) xs ys = refl

pub choice_longer : (readings left : List ManyReading) (n : ℕ) → n + 1 ≤ length readings → choice_at (readings ++ left) n ≡ choice_at readings n
choice_longer [] left n within = absurd (omega arith)
choice_longer (x ∷ xs) left zero within = choice_first x (xs ++ left) xs
choice_longer (x ∷ xs) left (suc n) within = choice_longer xs left n (omega arith)

pub start_longer : (share : ℕ) (readings left : List ManyReading) (n : ℕ) → n ≤ length readings → start_at share (readings ++ left) n ≡ start_at share readings n
start_longer share readings left n within = ap (λ (rs : List ManyReading). chosen_in 0 rs * share) (take-append-le n readings left within)

module _ (share disks : ℕ) (readings left : List ManyReading) where
  pub event_longer : (ls : List Line) (bs : List BlockWrite) (event : Event) → length ls + length (lines_given (event ∷ [])) ≤ length readings → event_printed share disks (readings ++ left) ls bs event ≡ event_printed share disks readings ls bs event
  event_longer ls bs (Gave line) within = ap (next_printed true) (choice_longer readings left (length ls) (omega arith))
  event_longer ls bs (Took answer) within = ap (λ start. took_printed share disks start ls bs answer) (start_longer share readings left (length ls) (omega arith))
  event_longer ls bs (Touched lba block) within = refl

  pub events_longer : (ls : List Line) (bs : List BlockWrite) (events : List Event) → length ls + length (lines_given events) ≤ length readings → events_printed share disks (readings ++ left) ls bs events ≡ events_printed share disks readings ls bs events
  events_longer ls bs [] within = refl
  events_longer ls bs (x ∷ xs) within =
      let long = ap length (sym (given_first x xs)) ∙ length-append (lines_given (x ∷ [])) (lines_given xs) in
      let longer = length-append ls (lines_given (x ∷ [])) in
      ap (λ (ps : List Printed). ps ++ events_printed share disks (readings ++ left) (ls ++ lines_given (x ∷ [])) (bs ++ touched_in (x ∷ [])) xs) (event_longer ls bs x (omega arith))
      ∙ ap (λ (ps : List Printed). event_printed share disks readings ls bs x ++ ps) (events_longer (ls ++ lines_given (x ∷ [])) (bs ++ touched_in (x ∷ [])) xs (omega arith))

-- ---- answers alone

-- no end line is among these answers
abbrev pub HasNoEnd : List Answer → Type 0
HasNoEnd [] = Unit {0}
HasNoEnd (answer ∷ answers) = (is_end answer ≡ false) × HasNoEnd answers

pub no_end-append : (xs ys : List Answer) → HasNoEnd xs → HasNoEnd ys → HasNoEnd (xs ++ ys)
no_end-append [] ys first next = next
no_end-append (x ∷ xs) ys first next = (first.0, no_end-append xs ys first.1 next)

pub no_end-any : (xs : List Answer) → list_any is_end xs ≡ false → HasNoEnd xs
no_end-any [] none = tt
no_end-any (x ∷ xs) none = elim (cases_Bool (is_end x)) [
  | inl ends ↦ absurd (let both : true ≡ false = sym (ap (λ (t : Bool). t || list_any is_end xs) ends) ∙ none in cc)
  | inr other ↦ (other, no_end-any xs (sym (ap (λ (t : Bool). t || list_any is_end xs) other) ∙ none))
]

pub no_end-stopped : (cuts : ℕ) → HasNoEnd (stopped cuts)
no_end-stopped zero = tt
no_end-stopped (suc n) = (refl, no_end-stopped n)

pub no_end-lost : (lost : ℕ) → HasNoEnd (lost_told lost)
no_end-lost zero = tt
no_end-lost (suc n) = (refl, tt)

no_end-reads : (disk : PlainDisk) (addresses : List ℕ) → HasNoEnd (map (λ a. answer.ReadBack a (tag_in (disk a))) addresses)
no_end-reads disk [] = tt
no_end-reads disk (a ∷ addresses) = (refl, no_end-reads disk addresses)

no_end-write : (t : Bool) (lba count kept : ℕ) → is_end (if t then answer.Wrote lba count else answer.Kept kept count) ≡ false
no_end-write true lba count kept = refl
no_end-write false lba count kept = refl

no_end-own : (l : Line) (cuts kept : ℕ) (disk : PlainDisk) → HasNoEnd (own_answers l cuts kept disk)
no_end-own (line.Write lba count tag) cuts kept disk = (no_end-write (cuts == 0) lba count kept, tt)
no_end-own (line.Read lba count) cuts kept disk = no_end-reads disk (range_with_len lba count)
no_end-own line.Flush cuts kept disk = (refl, tt)
no_end-own line.Idle cuts kept disk = (refl, tt)
no_end-own (line.Cut outcome) cuts kept disk = (refl, tt)
no_end-own (line.Stop after outcome) cuts kept disk = tt
no_end-own line.Nothing cuts kept disk = tt

no_end-answers_of : (ran : Ran) (disk : PlainDisk) → HasNoEnd (answers_of ran disk)
no_end-answers_of ran disk =
    no_end-append (stopped ran.cuts) (lost_told ran.lost ++ own_answers ran.line ran.cuts ran.kept disk) (no_end-stopped ran.cuts)
    (no_end-append (lost_told ran.lost) (own_answers ran.line ran.cuts ran.kept disk) (no_end-lost ran.lost) (no_end-own ran.line ran.cuts ran.kept disk))

-- the printed line of an answer that is no end line
pub told_as : (share disks start : ℕ) (ls : List Line) (bs : List BlockWrite) (a : Answer) → is_end a ≡ false → took_printed share disks start ls bs a ≡ Told (own start a) ∷ []
told_as share disks start ls bs (answer.End writes reads touched digest) none = absurd (cc)
told_as share disks start ls bs (answer.Wrote lba count) none = refl
told_as share disks start ls bs answer.Stopped none = refl
told_as share disks start ls bs (answer.Kept kept count) none = refl
told_as share disks start ls bs (answer.Lost count) none = refl
told_as share disks start ls bs (answer.ReadBack lba tag) none = refl
told_as share disks start ls bs answer.Flushed none = refl
told_as share disks start ls bs answer.Idle none = refl
told_as share disks start ls bs answer.Cut none = refl
told_as share disks start ls bs (answer.Refused line cause) none = refl

-- answers that are no end lines, and then other events
pub told_each : (share disks : ℕ) (readings : List ManyReading) (ls : List Line) (bs : List BlockWrite) (answers : List Answer) → HasNoEnd answers
    → events_printed share disks readings ls bs (taking answers) ≡ map (λ a. Told (own (start_at share readings (length ls)) a)) answers
told_each share disks readings ls bs [] none = refl
told_each share disks readings ls bs (a ∷ answers) none =
    let start = start_at share readings (length ls) in
    ap (λ (ps : List Printed). ps ++ events_printed share disks readings (ls ++ []) (bs ++ []) (taking answers)) (told_as share disks start ls bs a none.0)
    ∙ ap (λ (ps : List Printed). Told (own start a) ∷ ps) (printed_same share disks readings (ls ++ []) ls (bs ++ []) bs (taking answers) (append-nil ls) (append-nil bs) ∙ told_each share disks readings ls bs answers none.1)

-- ---- the disk that a line chooses

-- a line that chooses no disk leaves the chosen one
chosen_stays : (c : ℕ) (readings : List ManyReading) (n : ℕ) → choice_at readings n ≡ None → chosen_in c (take (suc n) readings) ≡ chosen_in c (take n readings)
chosen_stays c [] zero none = refl
chosen_stays c [] (suc n) none = refl
chosen_stays c (Ok (Disk disk) ∷ readings) zero none = absurd (cc)
chosen_stays c (Ok (Plain line) ∷ readings) zero none = refl
chosen_stays c (Err cause ∷ readings) zero none = refl
chosen_stays c (reading ∷ readings) (suc n) none = chosen_stays (chosen_after c reading) readings n none

pub start_stays : (share : ℕ) (readings : List ManyReading) (n : ℕ) → choice_at readings n ≡ None → start_at share readings (n + 1) ≡ start_at share readings n
start_stays share readings n none = ap (λ k. start_at share readings k) (add-one n) ∙ ap (λ c. c * share) (chosen_stays 0 readings n none)

-- a line that chooses a disk does nothing to the volume
pub nothing_at : (share c : ℕ) (readings : List ManyReading) (ls : List Line) (l : Line) (left : List Reading) (disk : ℕ) → volume_readings share c readings ≡ map accepted ls ++ Ok l ∷ left → choice_at readings (length ls) ≡ Some disk → l ≡ line.Nothing
nothing_at share c [] [] l left disk same some = absurd (cc)
nothing_at share c [] (m ∷ ls) l left disk same some = absurd (cc)
nothing_at share c (Ok (Disk d) ∷ readings) [] l left disk same some = (let first : accepted line.Nothing ≡ accepted l = cc in cc)
nothing_at share c (Ok (Plain m) ∷ readings) [] l left disk same some = absurd (cc)
nothing_at share c (Err cause ∷ readings) [] l left disk same some = absurd (cc)
nothing_at share c (reading ∷ readings) (m ∷ ls) l left disk same some =
    let rest : volume_readings share (chosen_after c reading) readings ≡ map accepted ls ++ Ok l ∷ left = cc in
    nothing_at share (chosen_after c reading) readings ls l left disk rest some

-- ---- a run

pub length-lines_of : (run : List Ran) → length (lines_of run) ≡ length run
length-lines_of [] = refl
length-lines_of (ran ∷ earlier) = let before = length-lines_of earlier in let more = length-append (lines_of earlier) (ran.line ∷ []) in omega arith

-- such a line has no answers
no_answers : (ack : Ack) (ran : Ran) (earlier : List Ran) (disk : PlainDisk) → FitsNext ack ran earlier → ran.line ≡ line.Nothing → answers_of ran disk ≡ []
no_answers ack ran earlier disk fits is =
    let line : FitsLine ack line.Nothing ran.cuts ran.kept ran.lost (disk_without ran.lost earlier) = subst (λ (l : Line). FitsLine ack l ran.cuts ran.kept ran.lost (disk_without ran.lost earlier)) is fits.line in
    let uncut : ran.cuts ≡ 0 = line in
    let kept : ran.lost ≡ 0 = fits.cut (ap is_cut is) uncut in
    ap (λ n. stopped n ++ (lost_told ran.lost ++ own_answers ran.line ran.cuts ran.kept disk)) uncut
    ∙ ap (λ n. lost_told n ++ own_answers ran.line ran.cuts ran.kept disk) kept
    ∙ ap (λ (l : Line). own_answers l ran.cuts ran.kept disk) is

module _ (share disks : ℕ) (readings : List ManyReading) (ack : Ack) where
  -- the next line, and its answers
  line_by : (ran : Ran) (earlier : List Ran) (left : List Reading) → volume_readings share 0 readings ≡ map accepted (lines_of earlier) ++ Ok ran.line ∷ left → FitsNext ack ran earlier → (choice : Option ℕ) → choice_at readings (length earlier) ≡ choice
      → next_printed true choice ++ map (λ a. Told (own (start_at share readings (length earlier + 1)) a)) (answers_of ran (disk_without ran.lost earlier))
      ≡ line_printed choice (start_at share readings (length earlier)) (answers_of ran (disk_without ran.lost earlier))
  line_by ran earlier left same fits None is = ap (λ start. map (λ a. Told (own start a)) (answers_of ran (disk_without ran.lost earlier))) (start_stays share readings (length earlier) is)
  line_by ran earlier left same fits (Some disk) is =
      let long = length-lines_of earlier in
      let nothing = nothing_at share 0 readings (lines_of earlier) ran.line left disk same (ap (choice_at readings) long ∙ is) in
      ap (λ (answers : List Answer). Chose disk ∷ map (λ a. Told (own (start_at share readings (length earlier + 1)) a)) answers) (no_answers ack ran earlier (disk_without ran.lost earlier) fits nothing)

  pub run_events : (run : List Ran) (left : List Reading) → volume_readings share 0 readings ≡ map accepted (lines_of run) ++ left → FitsRun ack run → events_printed share disks readings [] [] (events_of run) ≡ run_printed share readings run
  run_events [] left same fits = refl
  run_events (ran ∷ earlier) left same fits =
      let answers = answers_of ran (disk_without ran.lost earlier) in
      let long = length-lines_of earlier in
      let front : volume_readings share 0 readings ≡ map accepted (lines_of earlier) ++ Ok ran.line ∷ left = same ∙ ap (λ (rs : List Reading). rs ++ left) (map-append accepted (lines_of earlier) (ran.line ∷ [])) ∙ append_assoc (map accepted (lines_of earlier)) (Ok ran.line ∷ []) left in
      events_printed-append share disks readings [] [] (events_of earlier) (Gave ran.line ∷ taking answers)
      ∙ ap (λ (ps : List Printed). ps ++ events_printed share disks readings (lines_given (events_of earlier)) (touched_in (events_of earlier)) (Gave ran.line ∷ taking answers)) (run_events earlier (Ok ran.line ∷ left) front fits.1)
      ∙ ap (λ (ps : List Printed). run_printed share readings earlier ++ ps)
      (printed_same share disks readings _ (lines_of earlier) _ (touched_in (events_of earlier)) (Gave ran.line ∷ taking answers) (lines_given-run earlier) refl
      ∙ ap (λ (ps : List Printed). next_printed true (choice_at readings (length (lines_of earlier))) ++ ps) (told_each share disks readings (lines_of earlier ++ ran.line ∷ []) (touched_in (events_of earlier) ++ []) answers (no_end-answers_of ran (disk_without ran.lost earlier)))
      ∙ ap (λ n. next_printed true (choice_at readings (length (lines_of earlier))) ++ map (λ a. Told (own (start_at share readings n) a)) answers) (length-append (lines_of earlier) (ran.line ∷ []))
      ∙ ap (λ n. next_printed true (choice_at readings n) ++ map (λ a. Told (own (start_at share readings (n + 1)) a)) answers) long
      ∙ line_by ran earlier left front fits.0 (choice_at readings (length earlier)) refl)
