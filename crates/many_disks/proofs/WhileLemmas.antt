-- What is printed while a disk is chosen.
use Rattle.std.proofs.Common.{◌≡◌, refl, sym, ap, ap₂, subst, ◌∙◌, ℕ, inl, inr, ◌*◌, ◌==◌, ◌&&◌, eqb-true, Bool, true, false, if◌then◌else◌, List, [], ◌∷◌, ◌++◌, length, map, take, filter, Ok, Err, is_ok}
use Rattle.std.proofs.lemmas.Bool.{cases_Bool, eqb-false, false≢true}
use Rattle.std.proofs.lemmas.List.{map-append}
use Rattle.std.proofs.lemmas.List.Elements.{filter-append}
use Rattle.ft_base.specs.PlainDisk.{PlainDisk}
use Rattle.trace_model.specs.Readings.{accepted}
use Rattle.trace_model.specs.Run.{answers_of, disk_after, disk_without, own_answers, told}
use Rattle.trace_model.specs.declared.answer.Answer.{Answer}
use Rattle.trace_model.specs.declared.answer.Answer.TheVariants as answer
use Rattle.trace_model.specs.declared.line.Line.{Line}
use Rattle.trace_model.specs.declared.line.Line.TheVariants as line
use Rattle.trace_model.specs.declared.ran.Ran.{Ran}
use Rattle.many_disks.specs.Alone.{is_of_disk, is_of_request, printed_while}
use Rattle.many_disks.specs.Lines.{ManyReading, chosen_after, chosen_in}
use Rattle.many_disks.specs.Readings.{volume_reading}
use Rattle.many_disks.specs.Told.{Printed, choice_at, choice_in, line_printed, own, own_lines, run_printed, start_at}
use Rattle.many_disks.specs.Told.Printed.{Chose, Told as Answered}
use Rattle.many_disks.specs.declared.line.ManyLine.TheVariants.{Disk, Plain}
use Rattle.many_disks.proofs.AloneLemmas.{AreAnswersAt, AreQuiet, answers_alone, answers_at, answers_quiet, none_beside, requests_there}
use Rattle.many_disks.proofs.FollowLemmas.{SaysLine, SaysRun, chosen-more, same_line, says_at}

-- the disk that is chosen after these printed lines
abbrev last_in : ℕ → List Printed → ℕ
last_in chosen [] = chosen
last_in chosen (Chose next ∷ lines) = last_in next lines
last_in chosen (Answered a ∷ lines) = last_in chosen lines

last_in-append : (chosen : ℕ) (lines more : List Printed) → last_in chosen (lines ++ more) ≡ last_in (last_in chosen lines) more
last_in-append chosen [] more = refl
last_in-append chosen (Chose next ∷ lines) more = last_in-append next lines more
last_in-append chosen (Answered a ∷ lines) more = last_in-append chosen lines more

one_more : (b : Bool) (a : Answer) (whole front back : List Answer) → whole ≡ front ++ back → (if b then a ∷ whole else whole) ≡ (if b then a ∷ front else front) ++ back
one_more true a whole front back both = ap (λ (answers : List Answer). a ∷ answers) both
one_more false a whole front back both = both

while-append : (disk chosen : ℕ) (lines more : List Printed) → printed_while disk chosen (lines ++ more) ≡ printed_while disk chosen lines ++ printed_while disk (last_in chosen lines) more
while-append disk chosen [] more = refl
while-append disk chosen (Chose next ∷ lines) more = while-append disk next lines more
while-append disk chosen (Answered a ∷ lines) more = one_more ((chosen == disk) && is_of_request a) a _ _ _ (while-append disk chosen lines more)

-- ---- one line

-- the answers of a line as they are printed
abbrev as_printed : ℕ → List Answer → List Printed
as_printed start answers = map (λ a. Answered (own start a)) answers

last_told : (chosen start : ℕ) (answers : List Answer) → last_in chosen (as_printed start answers) ≡ chosen
last_told chosen start [] = refl
last_told chosen start (a ∷ answers) = last_told chosen start answers

keep : (b : Bool) (a : Answer) (some same : List Answer) → b ≡ true → some ≡ same → (if b && true then a ∷ some else some) ≡ a ∷ same
keep true a some same chosen is = ap (λ (answers : List Answer). a ∷ answers) is
keep false a some same chosen is = absurd (false≢true chosen)

skip : (b : Bool) (a : Answer) (some same : List Answer) → some ≡ same → (if b && false then a ∷ some else some) ≡ same
skip true a some same is = is
skip false a some same is = is

-- all answers of requests, if the disk is chosen
while_chosen : (disk chosen start : ℕ) (answers : List Answer) → (chosen == disk) ≡ true → printed_while disk chosen (as_printed start answers) ≡ map (own start) (filter is_of_request answers)
while_chosen disk chosen start [] is = refl
while_chosen disk chosen start (a ∷ answers) is = by a (while_chosen disk chosen start answers is)
  where
    by : (a : Answer) → printed_while disk chosen (as_printed start answers) ≡ map (own start) (filter is_of_request answers)
        → printed_while disk chosen (as_printed start (a ∷ answers)) ≡ map (own start) (filter is_of_request (a ∷ answers))
    by (answer.Wrote lba count) rest = keep (chosen == disk) _ _ _ is rest
    by (answer.ReadBack lba tag) rest = keep (chosen == disk) _ _ _ is rest
    by answer.Stopped rest = skip (chosen == disk) _ _ _ rest
    by (answer.Kept kept count) rest = skip (chosen == disk) _ _ _ rest
    by (answer.Lost count) rest = skip (chosen == disk) _ _ _ rest
    by answer.Flushed rest = skip (chosen == disk) _ _ _ rest
    by answer.Idle rest = skip (chosen == disk) _ _ _ rest
    by answer.Cut rest = skip (chosen == disk) _ _ _ rest
    by (answer.End writes reads touched digest) rest = skip (chosen == disk) _ _ _ rest
    by (answer.Refused n cause) rest = skip (chosen == disk) _ _ _ rest

pass : (b r : Bool) (a : Answer) (some : List Answer) → b ≡ false → some ≡ [] → (if b && r then a ∷ some else some) ≡ []
pass true r a some other none = absurd (false≢true (sym other))
pass false r a some other none = none

-- and none, if another one is
while_other : (disk chosen start : ℕ) (answers : List Answer) → (chosen == disk) ≡ false → printed_while disk chosen (as_printed start answers) ≡ []
while_other disk chosen start [] is = refl
while_other disk chosen start (a ∷ answers) is = pass (chosen == disk) (is_of_request (own start a)) _ _ is (while_other disk chosen start answers is)

-- answers on the chosen disk
while_told : (share disk chosen : ℕ) (answers : List Answer) → AreAnswersAt share chosen answers
    → printed_while disk chosen (as_printed (chosen * share) answers) ≡ map (own (disk * share)) (filter (is_of_disk share disk) answers)
while_told share disk chosen answers at = elim (cases_Bool (chosen == disk)) [
  | inl is ↦
      let same : chosen ≡ disk = eqb-true chosen disk is in
      while_chosen disk chosen (chosen * share) answers is
      ∙ ap₂ (λ (d : ℕ) (kept : List Answer). map (own (d * share)) kept) same (sym (requests_there share disk answers (subst (λ d. AreAnswersAt share d answers) same at)))
  | inr is ↦
      while_other disk chosen (chosen * share) answers is
      ∙ ap (map (own (disk * share))) (sym (none_beside share chosen disk answers (eqb-false chosen disk is) at))
]

module _ (share disks : ℕ) (readings : List ManyReading) where
  -- a line of a run
  while_line : (disk n kept : ℕ) (l : Line) (plain : PlainDisk) → SaysLine share disks readings n l
      → printed_while disk (chosen_in 0 (take n readings)) (line_printed (choice_at readings n) (start_at share readings n) (own_answers l 0 kept plain))
      ≡ map (own (disk * share)) (filter (is_of_disk share disk) (own_answers l 0 kept plain))
  while_line disk n kept l plain it =
      ap (λ choice. printed_while disk chosen (line_printed choice (chosen * share) (own_answers l 0 kept plain))) (ap choice_in it.here)
      ∙ by it.reading it.says
    where
      chosen : ℕ
      chosen = chosen_in 0 (take n readings)

      by : (reading : ManyReading) → volume_reading share chosen reading ≡ accepted l
          → printed_while disk chosen (line_printed (choice_in (reading ∷ it.rest)) (chosen * share) (own_answers l 0 kept plain)) ≡ map (own (disk * share)) (filter (is_of_disk share disk) (own_answers l 0 kept plain))
      by (Err cause) says = absurd (false≢true (ap is_ok says))
      by (Ok (Disk next)) says = ap (λ (m : Line). map (own (disk * share)) (filter (is_of_disk share disk) (own_answers m 0 kept plain))) (same_line line.Nothing l says)
      by (Ok (Plain own_line)) says = while_told share disk chosen (own_answers l 0 kept plain) (answers_at share chosen l kept plain (says_at share disks n readings l it))

  last_line : (n : ℕ) (l : Line) (answers : List Answer) → (it : SaysLine share disks readings n l)
      → last_in (chosen_in 0 (take n readings)) (line_printed (choice_at readings n) (start_at share readings n) answers) ≡ chosen_after (chosen_in 0 (take n readings)) it.reading
  last_line n l answers it =
      ap (λ choice. last_in chosen (line_printed choice (chosen * share) answers)) (ap choice_in it.here)
      ∙ by it.reading
    where
      chosen : ℕ
      chosen = chosen_in 0 (take n readings)

      by : (reading : ManyReading) → last_in chosen (line_printed (choice_in (reading ∷ it.rest)) (chosen * share) answers) ≡ chosen_after chosen reading
      by (Err cause) = last_told chosen (chosen * share) answers
      by (Ok (Disk next)) = refl
      by (Ok (Plain own_line)) = last_told chosen (chosen * share) answers

  -- ---- all lines

  last_run : (run : List Ran) → SaysRun share disks readings run → last_in 0 (run_printed share readings run) ≡ chosen_in 0 (take (length run) readings)
  last_run [] says = refl
  last_run (ran ∷ earlier) says =
      let n = length earlier in
      let printed = line_printed (choice_at readings n) (start_at share readings n) (answers_of ran (disk_without ran.lost earlier)) in
      last_in-append 0 (run_printed share readings earlier) printed
      ∙ ap (λ chosen. last_in chosen printed) (last_run earlier says.1)
      ∙ last_line n ran.line (answers_of ran (disk_without ran.lost earlier)) says.0
      ∙ sym (chosen-more 0 n readings says.0.rest says.0.reading says.0.here)

  while_run : (disk : ℕ) (run : List Ran) → SaysRun share disks readings run → AreQuiet share run → printed_while disk 0 (run_printed share readings run) ≡ map (own (disk * share)) (filter (is_of_disk share disk) (told run))
  while_run disk [] says quiet = refl
  while_run disk (ran ∷ earlier) says quiet =
      let n = length earlier in
      let printed = line_printed (choice_at readings n) (start_at share readings n) (answers_of ran (disk_without ran.lost earlier)) in
      let on = is_of_disk share disk in
      let newest : answers_of ran (disk_without ran.lost earlier) ≡ own_answers ran.line 0 ran.kept (disk_after earlier) = answers_quiet share ran earlier quiet.0 in
      let newest_while : printed_while disk (last_in 0 (run_printed share readings earlier)) printed ≡ map (own (disk * share)) (filter on (answers_of ran (disk_without ran.lost earlier))) =
      ap₂ (λ (chosen : ℕ) (answers : List Answer). printed_while disk chosen (line_printed (choice_at readings n) (start_at share readings n) answers)) (last_run earlier says.1) newest
      ∙ while_line disk n ran.kept ran.line (disk_after earlier) says.0
      ∙ ap (λ answers. map (own (disk * share)) (filter on answers)) (sym newest) in
      while-append disk 0 (run_printed share readings earlier) printed
      ∙ ap₂ (λ (xs ys : List Answer). xs ++ ys) (while_run disk earlier says.1 quiet.1) newest_while
      ∙ sym (map-append (own (disk * share)) (filter on (told earlier)) (filter on (answers_of ran (disk_without ran.lost earlier))))
      ∙ ap (map (own (disk * share))) (sym (filter-append on (told earlier) (answers_of ran (disk_without ran.lost earlier))))

  -- what is printed of requests while a disk is chosen are the answers of its own lines, at its own addresses
  pub while_alone : (disk : ℕ) (run : List Ran) → SaysRun share disks readings run → AreQuiet share run
      → printed_while disk 0 (run_printed share readings run) ≡ map (own (disk * share)) (filter is_of_request (told (own_lines share disk run)))
  while_alone disk run says quiet = while_run disk run says quiet ∙ ap (map (own (disk * share))) (answers_alone share disk run quiet)
