-- A line that chooses a disk, and any other line.
use Rattle.std.proofs.Common.{◌≡◌, refl, ℕ, ◌<◌, ◌≤◌, ◌==◌, ◌&&◌, arith, Bool, true, false, if◌then◌else◌, nat_lt, List, [], ◌∷◌, length, slice_index, codes, bytes_eq, Result, Ok, Err, ap, sym, ◌∙◌}
use Rattle.std.specs.Io.BufRead.{strip_last}
use Rattle.std.proofs.lemmas.Bool.{false≢true}
use Rattle.std.proofs.lemmas.Bool.Decides.{nat_tests}
use Rattle.trace_model.specs.Lines.{line_of, split_words, words_say}
use Rattle.trace_model.specs.declared.line.Line.{Line}
use Rattle.trace_model.specs.declared.line.Line.TheVariants as line
use Rattle.trace_model.specs.declared.line.LineError.{LineError}
use Rattle.trace_model.specs.declared.line.LineError.TheVariants as error
use Rattle.many_disks.specs.Lines.{ManyReading, disk_line, many_of, many_words, plain_line}
use Rattle.many_disks.specs.declared.line.ManyLine.TheVariants.{Plain}

by_words : (long comment : Bool) (many : ManyReading) (one : Result Line LineError) → (long ≡ false → comment ≡ false → many ≡ plain_line one)
    → (if long then Err error.LineTooLong else if comment then Ok (Plain line.Nothing) else many)
    ≡ plain_line (if long then Err error.LineTooLong else if comment then Ok line.Nothing else one)
by_words true comment many one words = refl
by_words false true many one words = refl
by_words false false many one words = words refl refl

-- a line chooses no disk if its words choose none
pub plain_by_words : (share disks : ℕ) (bytes : List ℕ) → (nat_lt 200 (length bytes) ≡ false → (slice_index bytes 0 == 35) ≡ false
    → many_words share disks (split_words (strip_last 13 bytes)) ≡ plain_line (words_say share (split_words (strip_last 13 bytes))))
    → many_of share disks bytes ≡ plain_line (line_of share bytes)
plain_by_words share disks bytes words = by_words (nat_lt 200 (length bytes)) (slice_index bytes 0 == 35) _ _ words

-- with one disk no words choose one
pub plain_words : (share disks : ℕ) (words : List (List ℕ)) → nat_lt 1 disks ≡ false → many_words share disks words ≡ plain_line (words_say share words)
plain_words share disks [] one = refl
plain_words share disks (word ∷ words) one = ap (λ b. if b then disk_line disks words else plain_line (words_say share (word ∷ words))) (ap (λ b. b && bytes_eq word (codes "disk")) one)

is_one : (disks : ℕ) → disks ≡ 1 → nat_lt 1 disks ≡ false
is_one disks one = ap (nat_lt 1) one

pub is_less : (a b : ℕ) → a < b → nat_lt a b ≡ true
is_less a b less = grind (arith, nat_tests)

pub is_not_less : (a b : ℕ) → b ≤ a → nat_lt a b ≡ false
is_not_less a b most = grind (arith, nat_tests)

-- a line chooses no disk if there is one, if it is too long, or if it is a comment
pub plain_of_one : (share disks : ℕ) (bytes : List ℕ) → disks ≡ 1 → many_of share disks bytes ≡ plain_line (line_of share bytes)
plain_of_one share disks bytes one = plain_by_words share disks bytes (λ short said. plain_words share disks (split_words (strip_last 13 bytes)) (is_one disks one))

pub plain_if_long : (share disks : ℕ) (bytes : List ℕ) → 200 < length bytes → many_of share disks bytes ≡ plain_line (line_of share bytes)
plain_if_long share disks bytes long = plain_by_words share disks bytes (λ short said. absurd (false≢true (sym short ∙ is_less 200 (length bytes) long)))

pub plain_comment : (share disks : ℕ) (bytes : List ℕ) → (slice_index bytes 0 == 35) ≡ true → many_of share disks bytes ≡ plain_line (line_of share bytes)
plain_comment share disks bytes comment = plain_by_words share disks bytes (λ short said. absurd (false≢true (sym said ∙ comment)))

-- a line of which the first word is `disk` chooses one
chosen_by : (long comment many disk : Bool) (refused nothing chosen plain : ManyReading) → long ≡ false → comment ≡ false → many ≡ true → disk ≡ true
    → (if long then refused else if comment then nothing else if many && disk then chosen else plain) ≡ chosen
chosen_by long comment many disk refused nothing chosen plain a b c d =
    ap (λ x. if x then refused else if comment then nothing else if many && disk then chosen else plain) a
    ∙ ap (λ x. if x then nothing else if many && disk then chosen else plain) b
    ∙ ap (λ x. if x && disk then chosen else plain) c
    ∙ ap (λ x. if x then chosen else plain) d

pub chooses_disk : (share disks : ℕ) (bytes word : List ℕ) (words : List (List ℕ)) → 1 < disks → length bytes ≤ 200 → (slice_index bytes 0 == 35) ≡ false
    → split_words (strip_last 13 bytes) ≡ word ∷ words → bytes_eq word (codes "disk") ≡ true → many_of share disks bytes ≡ disk_line disks words
chooses_disk share disks bytes word words more short said split disk =
    ap (λ ws. if nat_lt 200 (length bytes) then Err error.LineTooLong else if slice_index bytes 0 == 35 then Ok (Plain line.Nothing) else many_words share disks ws) split
    ∙ chosen_by (nat_lt 200 (length bytes)) (slice_index bytes 0 == 35) (nat_lt 1 disks) (bytes_eq word (codes "disk")) _ _ _ _ (is_not_less 200 (length bytes) short) said (is_less 1 disks more) disk
