-- The readings of the lines of a sweep's trace, one after the other.
use Rattle.std.proofs.Common.{◌≡◌, ◌<◌, ◌≤◌, ◌+◌, ◌∷◌, ◌++◌, [], ℕ, nat_lt, Bool, true, false, List, Option, Some, None, Result, Ok, Err, IfOk, IsErrOf, map, length, take, drop, ◌⊎◌, inl, inr, refl, sym, ap, ◌∙◌, subst, append_assoc, arith, if◌then◌else◌}
use Rattle.std.specs.Io.KnownBytes.{Consumes, IsAtEnd}
use Rattle.ft_base.specs.Count.{Rose}
use Rattle.ft_base.specs.StreamState.{SourceState}
use Rattle.held_trace.specs.declared.held.HeldTrace.{HeldTrace}
use Rattle.held_trace.specs.declared.taking.TakeError.{TakeError}
use Rattle.held_trace.specs.declared.taking.TakeError.TheVariants as take_error
use Rattle.std.proofs.Math.Seq.{take-add}
use Rattle.std.proofs.lemmas.List.{append-nil}
use Rattle.std.proofs.lemmas.Bool.Decides.{nat_tests}
use Rattle.trace_model.specs.declared.line.Line.{Line}
use Rattle.trace_model.specs.declared.line.LineError.{LineError}
use Rattle.trace_model.specs.declared.line.LineError.TheVariants.{LineTooLong, TooLong}
use Rattle.trace_model.specs.Lines.{line_of, lines_in}
use Rattle.trace_model.specs.Readings as readings
use Rattle.trace_model.specs.Readings.{Reading, accepted, since_feed, trace_limit, unended}
use Rattle.held_trace.specs.Sweep as sweep
use Rattle.held_trace.specs.Sweep.{RefusesFirst, SweepReads, blocks_added, blocks_in_line, byte_limit, lines_say, reading_behind, readings_behind, sweep_readings}

pub limit_is : byte_limit ≡ 4096
unfolding sweep.byte_limit
limit_is = refl

trace_limit_is : trace_limit ≡ 4294967296
unfolding readings.trace_limit
trace_limit_is = refl

accepted_then : (xs ys : List Line) → map accepted (xs ++ ys) ≡ map accepted xs ++ map accepted ys
accepted_then [] ys = refl
accepted_then (x ∷ xs) ys = ap (λ (r : List Reading). accepted x ∷ r) (accepted_then xs ys)

-- ---- one line after the other

-- the readings of these lines, which stand behind lines whose readings are known
abbrev pub SaidSo : ℕ → List Reading → List Reading → ℕ → List (List ℕ) → Type 0
SaidSo size all said before lines = all ≡ said ++ readings_behind before (map (line_of size) lines)

-- one line more is known
pub said_more : (size : ℕ) (all said more : List Reading) (before after : ℕ) (lines left : List (List ℕ)) (spelled : List ℕ) (r : Reading) → SaidSo size all said before lines → lines ≡ spelled ∷ left → reading_behind before (line_of size spelled) ≡ r → more ≡ said ++ r ∷ [] → after ≡ before + blocks_added r → SaidSo size all more after left
said_more size all said more before after lines left spelled r so is reads more_is after_is =
    so
    ∙ ap (λ ls. said ++ readings_behind before (map (line_of size) ls)) is
    ∙ ap (λ (z : Reading). said ++ z ∷ readings_behind (before + blocks_added z) (map (line_of size) left)) reads
    ∙ ap (λ (n : ℕ). said ++ r ∷ readings_behind n (map (line_of size) left)) (sym after_is)
    ∙ sym (append_assoc said (r ∷ []) (readings_behind after (map (line_of size) left)))
    ∙ ap (λ (z : List Reading). z ++ readings_behind after (map (line_of size) left)) (sym more_is)

-- one line more is accepted
pub held_more : (size : ℕ) (all : List Reading) (held more : List Line) (before after : ℕ) (lines left : List (List ℕ)) (spelled : List ℕ) (l : Line) → SaidSo size all (map accepted held) before lines → lines ≡ spelled ∷ left → reading_behind before (line_of size spelled) ≡ Ok l → more ≡ held ++ l ∷ [] → after ≡ before + blocks_in_line l → SaidSo size all (map accepted more) after left
held_more size all held more before after lines left spelled l so is reads more_is after_is =
    said_more size all (map accepted held) (map accepted more) before after lines left spelled (Ok l) so is reads (ap (map accepted) more_is ∙ accepted_then held (l ∷ [])) after_is

-- no line is left
pub said_all : (size : ℕ) (all said : List Reading) (before : ℕ) (lines : List (List ℕ)) → SaidSo size all said before lines → lines ≡ [] → all ≡ said
said_all size all said before lines so none = so ∙ ap (λ ls. said ++ readings_behind before (map (line_of size) ls)) none ∙ append-nil said

-- the next line is refused
pub next_refused : (size : ℕ) (all : List Reading) (held : List Line) (before : ℕ) (lines left : List (List ℕ)) (spelled : List ℕ) (number : ℕ) (cause : LineError) → SaidSo size all (map accepted held) before lines → lines ≡ spelled ∷ left → reading_behind before (line_of size spelled) ≡ Err cause → number ≡ length held + 1 → RefusesFirst all number cause
next_refused size all held before lines left spelled number cause so is reads place = record {
  lines = held;
  left = readings_behind (before + 0) (map (line_of size) left);
  front =
      so
      ∙ ap (λ ls. map accepted held ++ readings_behind before (map (line_of size) ls)) is
      ∙ ap (λ (z : Reading). map accepted held ++ z ∷ readings_behind (before + blocks_added z) (map (line_of size) left)) reads;
  place = place;
}

-- ---- all readings that are known

short_is : (bytes : List ℕ) → length bytes ≤ 4096 → nat_lt byte_limit (length bytes) ≡ false
short_is bytes few = let is = limit_is in grind (arith, nat_tests)

long_is : (bytes : List ℕ) → 4096 < length bytes → nat_lt byte_limit (length bytes) ≡ true
long_is bytes long = let is = limit_is in grind (arith, nat_tests)

pub readings_whole : (size : ℕ) (bytes : List ℕ) → length bytes ≤ 4096 → sweep_readings size true bytes ≡ lines_say size (lines_in true bytes)
readings_whole size bytes few = ap (λ (t : Bool). if t then lines_say size (lines_in false (take byte_limit bytes)) ++ Err TooLong ∷ [] else lines_say size (lines_in true bytes)) (short_is bytes few)

-- bytes within a sweep's limit are never too long for a replay
unended_is : (bytes : List ℕ) → length bytes ≤ 4096 → unended bytes ≡ (if nat_lt 200 (since_feed 0 bytes) then Err LineTooLong ∷ [] else [])
unended_is bytes few = ap (λ (t : Bool). if nat_lt 200 (since_feed 0 bytes) then Err LineTooLong ∷ [] else if t then [] else Err TooLong ∷ []) below
  where
    below : nat_lt (length bytes) trace_limit ≡ true
    below = let is = trace_limit_is in grind (arith, nat_tests)

pub readings_part : (size : ℕ) (bytes : List ℕ) (over : Bool) → length bytes ≤ 4096 → over ≡ nat_lt 200 (since_feed 0 bytes) → sweep_readings size false bytes ≡ lines_say size (lines_in false bytes) ++ (if over then Err LineTooLong ∷ [] else [])
readings_part size bytes over few is =
    ap (λ (t : Bool). if t then lines_say size (lines_in false (take byte_limit bytes)) ++ Err TooLong ∷ [] else lines_say size (lines_in false bytes) ++ unended bytes) (short_is bytes few)
    ∙ ap (λ (z : List Reading). lines_say size (lines_in false bytes) ++ z) (unended_is bytes few)
    ∙ ap (λ (t : Bool). lines_say size (lines_in false bytes) ++ (if t then Err LineTooLong ∷ [] else [])) (sym is)

pub readings_past : (size : ℕ) (whole : Bool) (bytes : List ℕ) → 4096 < length bytes → sweep_readings size whole bytes ≡ lines_say size (lines_in false (take 4096 bytes)) ++ Err TooLong ∷ []
readings_past size whole bytes long =
    ap (λ (t : Bool). if t then lines_say size (lines_in false (take byte_limit bytes)) ++ Err TooLong ∷ [] else if whole then lines_say size (lines_in true bytes) else lines_say size (lines_in false bytes) ++ unended bytes) (long_is bytes long)
    ∙ ap (λ (n : ℕ). lines_say size (lines_in false (take n bytes)) ++ Err TooLong ∷ []) limit_is

-- ---- the first refused line

-- a line that is refused stays the first, whatever comes behind it
pub refused_then : (all more : List Reading) (number : ℕ) (cause : LineError) → RefusesFirst all number cause → RefusesFirst (all ++ more) number cause
refused_then all more number cause so = record {
  lines = so.lines;
  left = so.left ++ more;
  front = ap (λ (z : List Reading). z ++ more) so.front ∙ append_assoc (map accepted so.lines) (Err cause ∷ so.left) more;
  place = so.place;
}

-- the line behind the held lines is refused
pub refused_behind : (all : List Reading) (held : List Line) (cause : LineError) → all ≡ map accepted held → RefusesFirst (all ++ Err cause ∷ []) (length held + 1) cause
refused_behind all held cause is = record {
  lines = held;
  left = [];
  front = ap (λ (z : List Reading). z ++ Err cause ∷ []) is;
  place = refl;
}

-- the same, as an answer names it
pub refused_named : (all known : List Reading) (held : List Line) (error : TakeError) (kind : LineError) (number : ℕ) (cause : LineError) → all ≡ map accepted held → known ≡ all ++ Err kind ∷ [] → error ≡ take_error.Refused (length held + 1) kind → error ≡ take_error.Refused number cause → RefusesFirst known number cause
refused_named all known held error kind number cause is known_is error_is named =
    let place : length held + 1 ≡ number = cc in
    let same : kind ≡ cause = cc in
    subst (λ (n : ℕ). RefusesFirst known n cause) place (subst (λ (k : LineError). RefusesFirst known (length held + 1) k) same (subst (λ (z : List Reading). RefusesFirst z (length held + 1) kind) (sym known_is) (refused_behind all held kind is)))

pub refused_known : (all more known : List Reading) (number : ℕ) (cause : LineError) → known ≡ all ++ more → RefusesFirst all number cause → RefusesFirst known number cause
refused_known all more known number cause is so = subst (λ (z : List Reading). RefusesFirst z number cause) (sym is) (refused_then all more number cause so)

pub same_error : (error named : TakeError) → IsErrOf {T = HeldTrace} {E = TakeError} (Err error) named → error ≡ named
same_error error named is = cc

pub ok_weaker : {T E : Type 0} (r : Result T E) (P Q : T → Type 0) → ((x : T) → P x → Q x) → IfOk r P → IfOk r Q
ok_weaker (Ok x) P Q f h = f x h
ok_weaker (Err e) P Q f h = tt

-- ---- the bytes that were taken of the source

pub reads_whole : (size : ℕ) (old new : SourceState) (bytes : List ℕ) (known : List Reading) → Consumes old.left new.left bytes → known ≡ sweep_readings size true bytes → length bytes ≤ 4096 → IsAtEnd new.left → SweepReads size old new known true
reads_whole size old new bytes known taken says few at_end =
    let limit = limit_is in
    record {
      bytes = bytes;
      taken = taken;
      says = says;
      most = omega arith;
      end = λ _. (at_end, omega arith);
      far = λ part. absurd (cc);
    }

pub reads_part : (size : ℕ) (old new : SourceState) (bytes : List ℕ) (known : List Reading) → Consumes old.left new.left bytes → known ≡ sweep_readings size false bytes → length bytes ≤ 4097 → (length bytes ≡ 4097) ⊎ Rose old.faults new.faults → SweepReads size old new known false
reads_part size old new bytes known taken says few far =
    let limit = limit_is in
    record {
      bytes = bytes;
      taken = taken;
      says = says;
      most = omega arith;
      end = λ whole. absurd (cc);
      far = λ _. elim far [ inl long ↦ inl (omega arith) | inr rose ↦ inr rose ];
    }

-- a further piece behind the bytes that were taken
pub consumes_more : (a b c : Option (List ℕ)) (count n : ℕ) (old new : List ℕ) → Consumes a b (take count old) → Consumes b c (take n (drop count new)) → take count new ≡ take count old → Consumes a c (take (count + n) new)
consumes_more None b c count n old new first next same = tt
consumes_more (Some xs) None c count n old new first next same = absurd first
consumes_more (Some xs) (Some ys) None count n old new first next same = absurd next
consumes_more (Some xs) (Some ys) (Some zs) count n old new first next same =
    first
    ∙ ap (λ (r : List ℕ). r ++ ys) (sym same)
    ∙ ap (λ (r : List ℕ). take count new ++ r) next
    ∙ sym (append_assoc (take count new) (take n (drop count new)) zs)
    ∙ ap (λ (r : List ℕ). r ++ zs) (sym (take-add count n new))
