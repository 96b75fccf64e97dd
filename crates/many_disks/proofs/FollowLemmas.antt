-- Each line of a trace over several disks names addresses of one disk.
use Rattle.std.proofs.Common.{◌≡◌, refl, sym, ap, subst, ◌∙◌, ℕ, zero, suc, ◌+◌, ◌*◌, ◌/◌, ◌<◌, ◌≤◌, arith, List, [], ◌∷◌, ◌++◌, length, map, take, drop, Ok, Err, IfOk, is_ok, append_assoc, length-append}
use Rattle.std.proofs.Math.Seq.{drop-append_seam}
use Rattle.std.proofs.lemmas.Bool.{false≢true}
use Rattle.std.proofs.lemmas.List.{length-map, map-append}
use Rattle.std.proofs.lemmas.Nat.{div-mul-add}
use Rattle.trace_model.specs.Lines.{IsRunnable}
use Rattle.trace_model.specs.Readings.{Reading, accepted}
use Rattle.trace_model.specs.Run.{lines_of}
use Rattle.trace_model.specs.declared.line.Line.{Line}
use Rattle.trace_model.specs.declared.line.Line.TheVariants as line
use Rattle.trace_model.specs.declared.ran.Ran.{Ran}
use Rattle.many_disks.specs.Lines.{IsRunnableMany, ManyReading, chosen_after, chosen_in, many_of, shifted}
use Rattle.many_disks.specs.Readings.{volume_reading, volume_readings}
use Rattle.many_disks.specs.declared.line.ManyLine.TheVariants.{Disk, Plain}
use Rattle.many_disks.proofs.RunnableLemmas.{many_run}

-- ---- the lines of the volume, one by one

-- each of these lines can be run, if it is accepted
abbrev pub AreRunnable : ℕ → ℕ → List ManyReading → Type 0
AreRunnable share disks [] = Unit {0}
AreRunnable share disks (reading ∷ readings) = IfOk reading (IsRunnableMany share disks) × AreRunnable share disks readings

pub many_runnable : (share disks : ℕ) (lines : List (List ℕ)) → AreRunnable share disks (map (many_of share disks) lines)
many_runnable share disks [] = tt
many_runnable share disks (bytes ∷ lines) = (many_run share disks bytes, many_runnable share disks lines)

runnable_drop : (share disks n : ℕ) (readings : List ManyReading) → AreRunnable share disks readings → AreRunnable share disks (drop n readings)
runnable_drop share disks zero readings runs = runs
runnable_drop share disks (suc n) [] runs = tt
runnable_drop share disks (suc n) (reading ∷ readings) runs = runnable_drop share disks n readings runs.1

-- the line after the first `n` lines of a trace says this line of the volume
pub record SaysLine (share disks : ℕ) (readings : List ManyReading) (n : ℕ) (line : Line) : Type 0 where
  pub reading : ManyReading
  pub rest : List ManyReading
  pub here : drop n readings ≡ reading ∷ rest
  pub says : volume_reading share (chosen_in 0 (take n readings)) reading ≡ accepted line
  pub runs : IfOk reading (IsRunnableMany share disks)

-- the first lines of a trace say the lines of this run
abbrev pub SaysRun : ℕ → ℕ → List ManyReading → List Ran → Type 0
SaysRun share disks readings [] = Unit {0}
SaysRun share disks readings (ran ∷ earlier) = SaysLine share disks readings (length earlier) ran.line × SaysRun share disks readings earlier

volume-drop : (share chosen n : ℕ) (readings : List ManyReading) → drop n (volume_readings share chosen readings) ≡ volume_readings share (chosen_in chosen (take n readings)) (drop n readings)
volume-drop share chosen zero readings = refl
volume-drop share chosen (suc n) [] = refl
volume-drop share chosen (suc n) (reading ∷ readings) = volume-drop share (chosen_after chosen reading) n readings

pub length-lines : (run : List Ran) → length (lines_of run) ≡ length run
length-lines [] = refl
length-lines (ran ∷ earlier) = let before = length-lines earlier in length-append (lines_of earlier) (ran.line ∷ []) ∙ omega (arith, before)

-- the readings of a run, up to its newest line
split-newest : (ran : Ran) (earlier : List Ran) (left : List Reading) → map accepted (lines_of (ran ∷ earlier)) ++ left ≡ map accepted (lines_of earlier) ++ (accepted ran.line ∷ left)
split-newest ran earlier left =
    ap (λ xs. xs ++ left) (map-append accepted (lines_of earlier) (ran.line ∷ []))
    ∙ append_assoc (map accepted (lines_of earlier)) (accepted ran.line ∷ []) left

drop-newest : (ran : Ran) (earlier : List Ran) (left : List Reading) → drop (length earlier) (map accepted (lines_of earlier) ++ (accepted ran.line ∷ left)) ≡ accepted ran.line ∷ left
drop-newest ran earlier left =
    ap (λ n. drop n (map accepted (lines_of earlier) ++ (accepted ran.line ∷ left))) (sym (length-lines earlier) ∙ sym (length-map (lines_of earlier) accepted))
    ∙ drop-append_seam (map accepted (lines_of earlier)) (accepted ran.line ∷ left)

abbrev first_or : {X : Type 0} → X → List X → X
first_or any [] = any
first_or any (x ∷ xs) = x

first_same : {X : Type 0} (x y : X) (xs ys : List X) → x ∷ xs ≡ y ∷ ys → x ≡ y
first_same x y xs ys same = ap (first_or x) same

says_line : (share disks n : ℕ) (readings : List ManyReading) (l : Line) (left : List Reading) → volume_readings share (chosen_in 0 (take n readings)) (drop n readings) ≡ accepted l ∷ left
    → AreRunnable share disks (drop n readings) → SaysLine share disks readings n l
says_line share disks n readings l left = by (drop n readings) refl
  where
    by : (readings_left : List ManyReading) → drop n readings ≡ readings_left → volume_readings share (chosen_in 0 (take n readings)) readings_left ≡ accepted l ∷ left
        → AreRunnable share disks readings_left → SaysLine share disks readings n l
    by [] here is runs = let long = ap length is in absurd (omega (arith, long))
    by (reading ∷ rest) here is runs = record {
      reading = reading;
      rest = rest;
      here = here;
      says = first_same _ _ _ _ is;
      runs = runs.0;
    }

pub says_run : (share disks : ℕ) (readings : List ManyReading) (run : List Ran) (left : List Reading) → AreRunnable share disks readings → volume_readings share 0 readings ≡ map accepted (lines_of run) ++ left
    → SaysRun share disks readings run
says_run share disks readings [] left runs is = tt
says_run share disks readings (ran ∷ earlier) left runs is =
    let n = length earlier in
    let whole = is ∙ split-newest ran earlier left in
    let at = sym (volume-drop share 0 n readings) ∙ ap (drop n) whole ∙ drop-newest ran earlier left in (
      says_line share disks n readings ran.line left at (runnable_drop share disks n readings runs),
      says_run share disks readings earlier (accepted ran.line ∷ left) runs whole,
    )

-- the disk that is chosen after one line more
pub chosen-more : (chosen n : ℕ) (readings rest : List ManyReading) (reading : ManyReading) → drop n readings ≡ reading ∷ rest
    → chosen_in chosen (take (suc n) readings) ≡ chosen_after (chosen_in chosen (take n readings)) reading
chosen-more chosen zero [] rest reading here = let long = ap length here in absurd (omega (arith, long))
chosen-more chosen zero (first ∷ readings) rest reading here = ap (chosen_after chosen) (first_same _ _ _ _ here)
chosen-more chosen (suc n) [] rest reading here = let long = ap length here in absurd (omega (arith, long))
chosen-more chosen (suc n) (first ∷ readings) rest reading here = chosen-more (chosen_after chosen first) n readings rest reading here

-- ---- addresses of one disk

-- these blocks lie on this disk
pub record IsSpan (share disk lba count : ℕ) : Type 0 where
  pub first : (lba / share) ≡ disk
  pub each : (i : ℕ) → i < count → ((lba + i) / share) ≡ disk

-- a line names no address of another disk
abbrev pub IsAt : ℕ → ℕ → Line → Type 0
IsAt share disk (line.Write lba count tag) = IsSpan share disk lba count
IsAt share disk (line.Read lba count) = IsSpan share disk lba count
IsAt share disk other = Unit {0}

pub spans : (share disk lba count : ℕ) → 1 ≤ count → lba + count ≤ share → IsSpan share disk (disk * share + lba) count
spans share disk lba count some fits = record {
  first = div-mul-add disk share lba (omega (arith, some, fits));
  each = λ i within.
      let less : lba + i < share = omega (arith, within, fits) in
      let same : (disk * share + lba) + i ≡ disk * share + (lba + i) = omega arith in
      ap (λ a. a / share) same ∙ div-mul-add disk share (lba + i) less;
}

-- a line that can be run, at the addresses of a disk
pub shifted_is_at : (share disk : ℕ) (l : Line) → IsRunnable share l → IsAt share disk (shifted (disk * share) l)
shifted_is_at share disk (line.Write lba count tag) runs = spans share disk lba count runs.0 runs.1
shifted_is_at share disk (line.Read lba count) runs = spans share disk lba count runs.0 runs.1
shifted_is_at share disk line.Flush runs = tt
shifted_is_at share disk line.Idle runs = tt
shifted_is_at share disk (line.Stop after outcome) runs = tt
shifted_is_at share disk (line.Cut outcome) runs = tt
shifted_is_at share disk line.Nothing runs = tt

abbrev line_or : Line → Reading → Line
line_or any (Ok l) = l
line_or any (Err cause) = any

pub same_line : (l m : Line) → accepted l ≡ accepted m → l ≡ m
same_line l m same = ap (line_or l) same

-- a line of a trace names addresses of the disk that is chosen before it
pub says_at : (share disks n : ℕ) (readings : List ManyReading) (l : Line) → SaysLine share disks readings n l → IsAt share (chosen_in 0 (take n readings)) l
says_at share disks n readings l it = by it.reading it.says it.runs
  where
    by : (reading : ManyReading) → volume_reading share (chosen_in 0 (take n readings)) reading ≡ accepted l → IfOk reading (IsRunnableMany share disks) → IsAt share (chosen_in 0 (take n readings)) l
    by (Err cause) says runs = absurd (false≢true (ap is_ok says))
    by (Ok (Disk disk)) says runs = subst (IsAt share (chosen_in 0 (take n readings))) (same_line line.Nothing l says) tt
    by (Ok (Plain own)) says runs = subst (IsAt share (chosen_in 0 (take n readings))) (same_line _ l says) (shifted_is_at share (chosen_in 0 (take n readings)) own runs)
