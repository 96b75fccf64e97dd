-- What is known of the lines of a trace over several disks, when a script gave some of them
use Rattle.std.proofs.Common.{refl, sym, ap, ◌∙◌, subst}
use Rattle.std.specs.Prelude.{◌≡◌, ◌+◌, ℕ, zero, suc, nat_lt, Bool, true, false, if◌then◌else◌, List, [], ◌∷◌, ◌++◌, length, map, Ok, Err}
use Rattle.ft_base.specs.StreamState.{SinkState, SourceState}
use Rattle.trace_model.specs.declared.line.Line.{Line}
use Rattle.trace_model.specs.declared.line.Line.TheVariants as line
use Rattle.trace_model.specs.declared.line.LineError.TheVariants.{LineTooLong, TooLong}
use Rattle.trace_model.specs.Lines.{lines_in}
use Rattle.trace_model.specs.Readings.{Reading, accepted, since_feed, trace_limit, unended}
use Rattle.trace_replay.specs.declared.reader.Reader.{Reader}
use Rattle.trace_replay.specs.Events.{Event, KnowsGiven, lines_given}
use Rattle.trace_replay.specs.Forms.{ReadsBy, each_says, readings_by}
use Rattle.trace_replay.specs.Pending.{few_rest, rest_of}
use Rattle.trace_replay.specs.Reader.{first_given, known_so, left_in}
use Rattle.many_disks.specs.declared.line.ManyLine.{ManyLine}
use Rattle.many_disks.specs.declared.line.ManyLine.TheVariants.{Disk, Plain}
use Rattle.many_disks.specs.declared.tally.Tally.{Tally}
use Rattle.many_disks.specs.Lines.{ManyReading, chosen_after, chosen_in, many_of, many_readings}
use Rattle.many_disks.specs.Readings.{ReadsMany, known_readings, volume_reading, volume_readings}
use Rattle.many_disks.specs.Script.{CameMany, accepted_many, code, coded, coded_reading}

-- ---- what a code stands for

abbrev pub decode : Line → ManyLine
decode (line.Write lba count zero) = Disk lba
decode (line.Write lba count (suc tag)) = Plain (line.Write lba count tag)
decode other = Plain other

abbrev pub decoded : Reading → ManyReading
decoded (Ok line) = Ok (decode line)
decoded (Err cause) = Err cause

pub decode-code : (many : ManyLine) → decode (code many) ≡ many
decode-code (Disk disk) = refl
decode-code (Plain (line.Write lba count tag)) = refl
decode-code (Plain (line.Read lba count)) = refl
decode-code (Plain line.Flush) = refl
decode-code (Plain line.Idle) = refl
decode-code (Plain (line.Stop after outcome)) = refl
decode-code (Plain (line.Cut outcome)) = refl
decode-code (Plain line.Nothing) = refl

decoded-coded_reading : (reading : ManyReading) → decoded (coded_reading reading) ≡ reading
decoded-coded_reading (Ok many) = ap accepted_many (decode-code many)
decoded-coded_reading (Err cause) = refl

pub decoded_all : (readings : List ManyReading) → map decoded (map coded_reading readings) ≡ readings
decoded_all [] = refl
decoded_all (reading ∷ readings) = ap (λ (r : ManyReading). r ∷ map decoded (map coded_reading readings)) (decoded-coded_reading reading) ∙ ap (λ (rs : List ManyReading). reading ∷ rs) (decoded_all readings)

-- the codes of accepted lines, and then other readings
pub decoded_front : (many : List ManyLine) (left : List Reading) → map decoded (map accepted (map code many) ++ left) ≡ map accepted_many many ++ map decoded left
decoded_front [] left = refl
decoded_front (one ∷ many) left = ap (λ (r : ManyReading). r ∷ map decoded (map accepted (map code many) ++ left)) (ap accepted_many (decode-code one)) ∙ ap (λ (rs : List ManyReading). accepted_many one ∷ rs) (decoded_front many left)

decoded_then : (xs ys : List Reading) → map decoded (xs ++ ys) ≡ map decoded xs ++ map decoded ys
decoded_then [] ys = refl
decoded_then (x ∷ xs) ys = ap (λ (rs : List ManyReading). decoded x ∷ rs) (decoded_then xs ys)

-- ---- the readings of the volume

-- the lines of the volume that coded readings say, if this disk is chosen
abbrev pub volume_of : ℕ → ℕ → List Reading → List Reading
volume_of share chosen readings = volume_readings share chosen (map decoded readings)

pub volume_readings-append : (share chosen : ℕ) (xs ys : List ManyReading) → volume_readings share chosen (xs ++ ys) ≡ volume_readings share chosen xs ++ volume_readings share (chosen_in chosen xs) ys
volume_readings-append share chosen [] ys = refl
volume_readings-append share chosen (x ∷ xs) ys = ap (λ (rs : List Reading). volume_reading share chosen x ∷ rs) (volume_readings-append share (chosen_after chosen x) xs ys)

pub length-volume_readings : (share chosen : ℕ) (xs : List ManyReading) → length (volume_readings share chosen xs) ≡ length xs
length-volume_readings share chosen [] = refl
length-volume_readings share chosen (x ∷ xs) = ap suc (length-volume_readings share (chosen_after chosen x) xs)

each_says-coded : (disks share before : ℕ) (lines : List (List ℕ)) → each_says (coded disks share) before lines ≡ map coded_reading (map (many_of share disks) lines)
each_says-coded disks share before [] = refl
each_says-coded disks share before (line ∷ lines) = ap (λ (rs : List Reading). coded_reading (many_of share disks line) ∷ rs) (each_says-coded disks share (before + 1) lines)

-- what is known of a line that no line feed ended names no disk
unended_by : (share chosen : ℕ) (t u : Bool) → (let rs : List Reading = if t then Err LineTooLong ∷ [] else if u then [] else Err TooLong ∷ [] in volume_of share chosen rs ≡ rs)
unended_by share chosen true u = refl
unended_by share chosen false true = refl
unended_by share chosen false false = refl

unended_volume : (share chosen : ℕ) (bytes : List ℕ) → volume_of share chosen (unended bytes) ≡ unended bytes
unended_volume share chosen bytes = unended_by share chosen (nat_lt 200 (since_feed 0 bytes)) (nat_lt (length bytes) trace_limit)

pub readings_coded : (disks share : ℕ) (whole : Bool) (bytes : List ℕ) → map decoded (each_says (coded disks share) 0 (lines_in whole bytes)) ≡ many_readings share disks whole bytes
readings_coded disks share whole bytes = ap (map decoded) (each_says-coded disks share 0 (lines_in whole bytes)) ∙ decoded_all (map (many_of share disks) (lines_in whole bytes))

volume_known : (disks share : ℕ) (whole : Bool) (bytes : List ℕ) → volume_of share 0 (readings_by (coded disks share) whole bytes) ≡ known_readings share disks whole bytes
volume_known disks share true bytes = ap (volume_readings share 0) (readings_coded disks share true bytes)
volume_known disks share false bytes =
    ap (volume_readings share 0) (decoded_then (each_says (coded disks share) 0 (lines_in false bytes)) (unended bytes))
    ∙ ap (λ (rs : List ManyReading). volume_readings share 0 (rs ++ map decoded (unended bytes))) (readings_coded disks share false bytes)
    ∙ volume_readings-append share 0 (many_readings share disks false bytes) (map decoded (unended bytes))
    ∙ ap (λ (rs : List Reading). volume_readings share 0 (many_readings share disks false bytes) ++ rs) (unended_volume share (chosen_in 0 (many_readings share disks false bytes)) bytes)

-- what is known of coded lines is known of the lines of the volume
pub reads_many : (share disks : ℕ) (s a : SourceState) (lines : ℕ) (all : List Reading) (whole : Bool) → ReadsBy (coded disks share) s a lines all whole → ReadsMany share disks s a lines (volume_of share 0 all) whole
reads_many share disks s a lines all whole reads = record {
  bytes = reads.bytes;
  taken = reads.taken;
  says = ap (volume_of share 0) reads.says ∙ volume_known disks share whole reads.bytes;
  most = reads.most;
  ahead = reads.ahead;
  end = reads.end;
}

-- the lines of the volume come first that these lines say
pub volume_front : (share : ℕ) (many : List ManyLine) (left : List Reading) → volume_of share 0 (map accepted (map code many) ++ left) ≡ volume_readings share 0 (map accepted_many many) ++ volume_of share (chosen_in 0 (map accepted_many many)) left
volume_front share many left = ap (volume_readings share 0) (decoded_front many left) ∙ volume_readings-append share 0 (map accepted_many many) (map decoded left)

-- ---- by a script's relation

pub length-coded : (many : List ManyLine) → length (map code many) ≡ length (map accepted_many many)
length-coded [] = refl
length-coded (one ∷ many) = ap suc (length-coded many)

length-accepted : (lines : List Line) → length (map accepted lines) ≡ length lines
length-accepted [] = refl
length-accepted (line ∷ lines) = ap suc (length-accepted lines)

-- as many lines of the volume were given as lines of the trace
pub as_many : (share : ℕ) (many : List ManyLine) (lines : List Line) → volume_readings share 0 (map accepted_many many) ≡ map accepted lines → length (map code many) ≡ length lines
as_many share many lines given = length-coded many ∙ sym (length-volume_readings share 0 (map accepted_many many)) ∙ ap length given ∙ length-accepted lines

module _ (share disks : ℕ) (r : Reader) (chosen : ℕ) (tallies : List Tally) (now : SourceState) (taken : SinkState) (s : SourceState) (b : SinkState) (e : List Event) (came : CameMany share disks r chosen tallies now taken s b e) where
  -- what is known when this is known of the coded lines
  pub knows_coded : (all : List Reading) (whole : Bool) → ReadsBy (coded disks r.size) s now (length (map code came.many)) all whole → ReadsMany share disks s now (length (lines_given e)) (volume_of share 0 all) whole
  knows_coded all whole reads =
      subst (λ n. ReadsMany share disks s now n (volume_of share 0 all) whole) (as_many share came.many (lines_given e) came.given)
      (reads_many share disks s now _ all whole (subst (λ n. ReadsBy (coded disks n) s now (length (map code came.many)) all whole) came.size reads))

  -- the lines that were given come first
  pub front_coded : (all left : List Reading) → all ≡ map accepted (map code came.many) ++ left → volume_of share 0 all ≡ map accepted (lines_given e) ++ volume_of share (chosen_in 0 (map accepted_many came.many)) left
  front_coded all left front =
      ap (volume_of share 0) front
      ∙ volume_front share came.many left
      ∙ ap (λ (rs : List Reading). rs ++ volume_of share (chosen_in 0 (map accepted_many came.many)) left) came.given

  -- at least the lines that were given are known
  pub known_many : {P : Type 0} (knows : SourceState → P → ℕ → List Reading → Bool → Type 0) (v : P)
      → ((lines : ℕ) (all : List Reading) (whole : Bool) → ReadsMany share disks s now lines all whole → knows s v lines all whole) → KnowsGiven knows s v e
  known_many knows v reads = record {
    all = volume_of share 0 (readings_by (coded disks r.size) r.ended (came.read.bytes ++ rest_of r.pending));
    whole = r.ended;
    left = volume_of share (chosen_in 0 (map accepted_many came.many)) (left_in (coded disks r.size) (length (map code came.many)) r.ended came.read.bytes (rest_of r.pending));
    known = reads _ _ _ (knows_coded _ _ (known_so _ _ _ _ _ _ _ _ (few_rest r.pending) came.read));
    front = front_coded _ _ (first_given _ _ _ _ _ _ _ _ came.read);
  }
