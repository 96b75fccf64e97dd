-- A line that is accepted can be run.
use Rattle.std.proofs.Common.{ℕ, ◌+◌, ◌-◌, ◌^◌, ◌<◌, ◌≤◌, ◌==◌, ◌&&◌, ◌≡◌, refl, arith, Bool, true, false, nat_le, nat_lt, List, [], ◌∷◌, length, slice_index, codes, bytes_eq, if◌then◌else◌, Option, Some, None, Result, Ok, Err, IfOk, subst}
use Rattle.std.specs.Io.BufRead.{strip_last}
use Rattle.std.proofs.lemmas.Bool.Decides.{nat_tests}
use Rattle.trace_model.specs.declared.line.Line.{Line}
use Rattle.trace_model.specs.declared.line.Line.TheVariants as line
use Rattle.trace_model.specs.declared.line.LineError.{LineError}
use Rattle.trace_model.specs.declared.line.LineError.TheVariants as error
use Rattle.trace_model.specs.Lines.{IsRunnable, alone, cut_line, in_volume, is_number, last, number_in, or_refused, outcome_of, read_request, split_words, stop_line, value_from, words_say, write_line}
use Rattle.many_disks.specs.Lines.{IsRunnableMany, ManyReading, disk_line, disk_or_refused, many_of, many_words, plain_line}

-- what is said can be run
abbrev Runs : ℕ → Result Line LineError → Type 0
Runs size reading = IfOk reading (IsRunnable size)

either : {T : Type 0} (P : T → Type 0) (b : Bool) (x y : Result T LineError) → IfOk x P → IfOk y P → IfOk (if b then x else y) P
either P true x y first second = first
either P false x y first second = second

-- a number that was read is within its bounds
abbrev IsWithin : ℕ → ℕ → Option ℕ → Type 0
IsWithin low high None = Unit {0}
IsWithin low high (Some n) = (low ≤ n) × (n ≤ high)

within : (low high n : ℕ) (b : Bool) → b ≡ (nat_le low n && nat_le n high) → IsWithin low high (if b then Some n else None)
within low high n true is = (grind (arith, nat_tests), grind (arith, nat_tests))
within low high n false is = tt

number_within : (low high : ℕ) (word : List ℕ) → IsWithin low high (number_in low high word)
number_within low high word = by (is_number word)
  where
    by : (b : Bool) → IsWithin low high (if b && nat_le low (value_from 0 word) && nat_le (value_from 0 word) high then Some (value_from 0 word) else None)
    by true = within low high (value_from 0 word) (nat_le low (value_from 0 word) && nat_le (value_from 0 word) high) refl
    by false = tt

or_runs : {T : Type 0} (size : ℕ) (cause : LineError) (o : Option T) (next : T → Result Line LineError) → ((value : T) → o ≡ Some value → Runs size (next value)) → Runs size (or_refused cause o next)
or_runs size cause None next rest = tt
or_runs size cause (Some value) next rest = rest value refl

count_some : (o : Option ℕ) (high count : ℕ) → IsWithin 1 high o → o ≡ Some count → 1 ≤ count
count_some o high count bounds is = (subst (IsWithin 1 high) is bounds).0

inside : (size lba count : ℕ) (l : Line) → (lba + count ≤ size → IsRunnable size l) → Runs size (in_volume size lba count l)
inside size lba count l runs = by (nat_le (lba + count) size) refl
  where
    by : (b : Bool) → nat_le (lba + count) size ≡ b → Runs size (if b then Ok l else Err error.OutOfVolume)
    by true is = runs (grind (arith, nat_tests))
    by false is = tt

write_runs : (size : ℕ) (words : List (List ℕ)) → Runs size (write_line size words)
write_runs size [] = tt
write_runs size (a ∷ []) = tt
write_runs size (a ∷ n ∷ []) = tt
write_runs size (a ∷ n ∷ t ∷ more ∷ words) = tt
write_runs size (a ∷ n ∷ t ∷ []) =
    or_runs size error.BadNumber (number_in 0 last a) _ (λ lba any. or_runs size error.BadNumber (number_in 1 65536 n) _ (λ count is. or_runs size error.BadNumber (number_in 1 last t) _ (λ tag any_tag. inside size lba count (line.Write lba count tag) (λ fits. (
      count_some _ 65536 count (number_within 1 65536 n) is,
      fits,
    )))))

read_runs : (size : ℕ) (words : List (List ℕ)) → Runs size (read_request size words)
read_runs size [] = tt
read_runs size (a ∷ []) = tt
read_runs size (a ∷ n ∷ more ∷ words) = tt
read_runs size (a ∷ n ∷ []) =
    or_runs size error.BadNumber (number_in 0 last a) _ (λ lba any. or_runs size error.BadNumber (number_in 1 65536 n) _ (λ count is. inside size lba count (line.Read lba count) (λ fits. (
      count_some _ 65536 count (number_within 1 65536 n) is,
      fits,
    ))))

alone_runs : (size : ℕ) (l : Line) (words : List (List ℕ)) → IsRunnable size l → Runs size (alone l words)
alone_runs size l [] runs = runs
alone_runs size l (word ∷ words) runs = tt

stop_runs : (size : ℕ) (words : List (List ℕ)) → Runs size (stop_line words)
stop_runs size [] = tt
stop_runs size (k ∷ []) = tt
stop_runs size (k ∷ o ∷ more ∷ words) = tt
stop_runs size (k ∷ o ∷ []) =
    or_runs size error.BadNumber (number_in 1 (2 ^ 32 - 1) k) _ (λ after is. or_runs size error.BadWord (outcome_of o) _ (λ outcome any.
    count_some _ (2 ^ 32 - 1) after (number_within 1 (2 ^ 32 - 1) k) is))

cut_runs : (size : ℕ) (words : List (List ℕ)) → Runs size (cut_line words)
cut_runs size [] = tt
cut_runs size (o ∷ more ∷ words) = tt
cut_runs size (o ∷ []) = or_runs size error.BadWord (outcome_of o) _ (λ outcome any. tt)

words_run : (size : ℕ) (words : List (List ℕ)) → Runs size (words_say size words)
words_run size [] = tt
words_run size (word ∷ words) =
    either (IsRunnable size) (bytes_eq word (codes "w")) _ _ (write_runs size words)
    (either (IsRunnable size) (bytes_eq word (codes "r")) _ _ (read_runs size words)
    (either (IsRunnable size) (bytes_eq word (codes "f")) _ _ (alone_runs size line.Flush words tt)
    (either (IsRunnable size) (bytes_eq word (codes "i")) _ _ (alone_runs size line.Idle words tt)
    (either (IsRunnable size) (bytes_eq word (codes "stop")) _ _ (stop_runs size words)
    (either (IsRunnable size) (bytes_eq word (codes "cut")) _ _ (cut_runs size words) tt)))))

-- ---- with several disks

abbrev RunsMany : ℕ → ℕ → ManyReading → Type 0
RunsMany share disks reading = IfOk reading (IsRunnableMany share disks)

plain_runs : (share disks : ℕ) (reading : Result Line LineError) → Runs share reading → RunsMany share disks (plain_line reading)
plain_runs share disks (Ok l) runs = runs
plain_runs share disks (Err cause) runs = tt

disk_runs : (share disks : ℕ) (words : List (List ℕ)) → 1 < disks → RunsMany share disks (disk_line disks words)
disk_runs share disks [] many = tt
disk_runs share disks (word ∷ more ∷ words) many = tt
disk_runs share disks (word ∷ []) many = by (number_in 0 (disks - 1) word) (number_within 0 (disks - 1) word)
  where
    by : (o : Option ℕ) → IsWithin 0 (disks - 1) o → RunsMany share disks (disk_or_refused o)
    by None bounds = tt
    by (Some disk) bounds = let most = bounds.1 in omega (arith, many, most)

many_words_run : (share disks : ℕ) (words : List (List ℕ)) → RunsMany share disks (many_words share disks words)
many_words_run share disks [] = tt
many_words_run share disks (word ∷ words) = by (nat_lt 1 disks) refl (bytes_eq word (codes "disk"))
  where
    by : (b : Bool) → nat_lt 1 disks ≡ b → (c : Bool) → RunsMany share disks (if b && c then disk_line disks words else plain_line (words_say share (word ∷ words)))
    by false is c = plain_runs share disks (words_say share (word ∷ words)) (words_run share (word ∷ words))
    by true is false = plain_runs share disks (words_say share (word ∷ words)) (words_run share (word ∷ words))
    by true is true = disk_runs share disks words (grind (arith, nat_tests))

-- what a line says can be run, if it is accepted
pub many_run : (share disks : ℕ) (bytes : List ℕ) → IfOk (many_of share disks bytes) (IsRunnableMany share disks)
many_run share disks bytes =
    either (IsRunnableMany share disks) (nat_lt 200 (length bytes)) _ _ tt
    (either (IsRunnableMany share disks) (slice_index bytes 0 == 35) _ _ tt (many_words_run share disks (split_words (strip_last 13 bytes))))
