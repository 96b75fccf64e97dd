-- Readings of a trace's lines, in any form of spelling
use Rattle.std.proofs.Common.{refl, ap, ◌∙◌, arith, if◌then◌else◌}
use Rattle.std.proofs.lemmas.Bool.Decides.{nat_tests}
use Rattle.std.specs.Prelude.{◌≡◌, ℕ, ◌+◌, ◌<◌, ◌≤◌, ◌==◌, nat_lt, Bool, true, false, List, [], ◌∷◌, ◌++◌, length, map, slice_index, Ok, Err}
use Rattle.std.specs.Io.BufRead.{strip_last}
use Rattle.std.specs.Io.KnownBytes.{Consumes, IsAtEnd}
use Rattle.ft_base.specs.StreamState.{SourceState}
use Rattle.trace_model.specs.declared.line.Line.TheVariants as line_kind
use Rattle.trace_model.specs.declared.line.LineError.TheVariants.{LineTooLong}
use Rattle.trace_model.specs.Lines.{line_of, lines_in, split_words, words_say}
use Rattle.trace_model.specs.Readings.{Reading, Reads, past_feeds, read_ahead, readings_in, trace_limit, unended}

-- what the line with a number says, by the number and its bytes
abbrev pub Says : Type 0
Says = ℕ → List ℕ → Reading

-- a form of lines: what they say for a volume with this number of blocks
abbrev pub Form : Type 0
Form = ℕ → Says

-- what each of these lines says, when `before` lines come before them
abbrev pub each_says : Says → ℕ → List (List ℕ) → List Reading
each_says says before [] = []
each_says says before (line ∷ lines) = says (before + 1) line ∷ each_says says (before + 1) lines

-- the readings that are known of a trace's lines when these bytes of it were read; the flag says whether they are all
-- its bytes
abbrev pub readings_by : Says → Bool → List ℕ → List Reading
readings_by says true bytes = each_says says 0 (lines_in true bytes)
readings_by says false bytes = each_says says 0 (lines_in false bytes) ++ unended bytes

-- a source was read so far that, for this many of its lines, these readings are known. They are the readings of all
-- its lines if it ended below the limit. At most `read_ahead` bytes were read past the line feeds of these lines
pub record ReadsBy (form : Says) (old new : SourceState) (lines : ℕ) (known : List Reading) (whole : Bool) : Type 0 where
  pub bytes : List ℕ
  pub taken : Consumes old.left new.left bytes
  pub says : known ≡ readings_by form whole bytes
  pub most : length bytes ≤ trace_limit
  pub ahead : length (past_feeds lines bytes) ≤ read_ahead
  pub end : whole ≡ true → IsAtEnd new.left × (length bytes < trace_limit)

-- the form of `read_line`, in which a line's number doesn't matter
abbrev pub text_form : Form
text_form size number bytes = line_of size bytes

text_says : (size before : ℕ) (lines : List (List ℕ)) → each_says (text_form size) before lines ≡ map (line_of size) lines
text_says size before [] = refl
text_says size before (line ∷ lines) = ap (λ (r : List Reading). line_of size line ∷ r) (text_says size (before + 1) lines)

text_readings : (size : ℕ) (whole : Bool) (bytes : List ℕ) → readings_by (text_form size) whole bytes ≡ readings_in size whole bytes
text_readings size true bytes = text_says size 0 (lines_in true bytes)
text_readings size false bytes = ap (λ (r : List Reading). r ++ unended bytes) (text_says size 0 (lines_in false bytes))

-- the readings that are known of lines in the form of `read_line`
pub reads_text : (size : ℕ) (old new : SourceState) (lines : ℕ) (known : List Reading) (whole : Bool)
    → ReadsBy (text_form size) old new lines known whole → Reads size old new lines known whole
reads_text size old new lines known whole reads = record {
  bytes = reads.bytes;
  taken = reads.taken;
  says = reads.says ∙ text_readings size whole reads.bytes;
  most = reads.most;
  ahead = reads.ahead;
  end = reads.end;
}

-- it refuses a line of more than 200 bytes
pub long_text : (size number : ℕ) (line : List ℕ) → 200 < length line → text_form size number line ≡ Err LineTooLong
long_text size number line long =
    let test : nat_lt 200 (length line) ≡ true = grind (arith, nat_tests) in
    ap (λ (t : Bool). if t then Err LineTooLong else if slice_index line 0 == 35 then Ok line_kind.Nothing else words_say size (split_words (strip_last 13 line))) test
