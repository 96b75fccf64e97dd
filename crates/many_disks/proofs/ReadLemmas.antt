-- What the bytes that were read say of the next line and of the lines that were given.
use Rattle.std.proofs.Common.{◌≡◌, ◌<◌, ◌+◌, ◌++◌, ◌∷◌, ◌==◌, [], ℕ, zero, suc, nat_lt, slice_index, Bool, true, false, if◌then◌else◌, inl, inr, List, Option, Some, None, Ok, Err, length, map, refl, sym, ap, ◌∙◌, subst, append_assoc, arith}
use Rattle.std.proofs.lemmas.Bool.Decides.{nat_tests}
use Rattle.std.proofs.lemmas.List.{append-nil, map-append}
use Rattle.std.specs.Io.BufRead.{strip_last}
use Rattle.std.specs.Io.KnownBytes.{Consumes, IsAtEnd}
use Rattle.ft_base.specs.StreamState.{SinkState, SourceState}
use Rattle.trace_model.specs.declared.line.Line.{Line}
use Rattle.trace_model.specs.declared.line.Line.TheVariants as line
use Rattle.trace_model.specs.declared.line.LineError.{LineError}
use Rattle.trace_model.specs.declared.line.LineError.TheVariants.{LineTooLong}
use Rattle.trace_model.specs.Lines.{lines_in, onto_ended, onto_first, split_words}
use Rattle.trace_model.specs.Readings.{Reading, accepted, unended}
use Rattle.trace_text.proofs.SplitLemmas.{onto_line}
use Rattle.trace_replay.specs.declared.reader.Reader.{Reader}
use Rattle.trace_replay.specs.Events.{Event, NextRefused, NextSaid, lines_given, refused_for}
use Rattle.trace_replay.specs.Forms.{Form, ReadsBy, each_says, readings_by}
use Rattle.trace_replay.specs.Pending.{ahead, few_rest, line_so_far, past_next, rest_of}
use Rattle.trace_replay.specs.Reader.{CameTo, ReadSo, RefusesNext, StandsAtLine, first_given, known_so, left_in}
use Rattle.trace_replay.proofs.PendingLemmas.{none_front}
use Rattle.trace_replay.proofs.ReaderLemmas.{RefusesLong, read_last, read_line, rest_held}
use Rattle.many_disks.specs.declared.line.ManyLine.{ManyLine}
use Rattle.many_disks.specs.declared.line.ManyLine.TheVariants.{Disk, Plain}
use Rattle.many_disks.specs.declared.next.Next.TheVariants as next
use Rattle.many_disks.specs.declared.tally.Tally.{Tally}
use Rattle.many_disks.specs.Known.{decoded, decoded_front, front_coded, knows_coded, readings_coded, volume_of}
use Rattle.many_disks.specs.Lines.{ManyReading, chosen_after, chosen_in, many_of, many_readings, many_words}
use Rattle.many_disks.specs.Readings.{ReadsMany, volume_reading, volume_readings}
use Rattle.many_disks.specs.Script.{BeginsWith, CameMany, accepted_many, code, coded, coded_reading}

-- ---- a line that was gathered whole

line_first : (whole : Bool) (line after : List ℕ) → lines_in false line ≡ [] → lines_in whole (line ++ 10 ∷ after) ≡ line ∷ lines_in whole after
line_first whole [] after none = refl
line_first whole (b ∷ line) after none =
    let both = none_front b line none in
    ap (λ (t : Bool). if t then [] ∷ lines_in whole (line ++ 10 ∷ after) else if whole then onto_first b (lines_in whole (line ++ 10 ∷ after)) else onto_ended b (lines_in whole (line ++ 10 ∷ after))) both.0
    ∙ ap (λ ls. if whole then onto_first b ls else onto_ended b ls) (line_first whole line after both.1)
    ∙ onto_line whole b line (lines_in whole after)

line_last : (line : List ℕ) → lines_in false line ≡ [] → 0 < length line → lines_in true line ≡ line ∷ []
line_last [] none some = absurd (omega arith)
line_last (b ∷ []) none some =
    let both = none_front b [] none in
    ap (λ (t : Bool). if t then [] ∷ [] else onto_first b []) both.0
line_last (b ∷ c ∷ line) none some =
    let both = none_front b (c ∷ line) none in
    ap (λ (t : Bool). if t then [] ∷ lines_in true (c ∷ line) else onto_first b (lines_in true (c ∷ line))) both.0
    ∙ ap (onto_first b) (line_last (c ∷ line) both.1 (omega arith))

module _ (form : Form) (r : Reader) (s a : SourceState) (lines : List Line) (so : CameTo form s lines a r) where
  says_next : (line : List ℕ) → form r.size (length lines + 1) line ≡ form r.size (r.lines + 1) line
  says_next line = ap (λ n. form r.size (n + 1) line) (sym so.numbered)

  -- it is the first of those that are left
  pub next_left : StandsAtLine r → (left : List Reading) × (left_in (form r.size) (length lines) r.ended so.bytes (rest_of r.pending) ≡ form r.size (r.lines + 1) (line_so_far r.pending) ∷ left)
  next_left (inl stands) =
      let line = line_so_far r.pending in
      let after = past_next r.pending in
      let behind = each_says (form r.size) (length lines + 1) (lines_in false after) ++ unended (so.bytes ++ rest_of r.pending) in (
        behind,
        ap (λ (w : Bool). left_in (form r.size) (length lines) w so.bytes (rest_of r.pending)) stands.0
            ∙ ap (λ (bs : List ℕ). each_says (form r.size) (length lines) (lines_in false (line ++ bs)) ++ unended (so.bytes ++ rest_of r.pending)) stands.1
            ∙ ap (λ ls. each_says (form r.size) (length lines) ls ++ unended (so.bytes ++ rest_of r.pending)) (line_first false line after r.pending.unended)
            ∙ ap (λ (reading : Reading). reading ∷ behind) (says_next line),
      )
  next_left (inr stands) =
      let line = line_so_far r.pending in (
        [],
        ap (λ (w : Bool). left_in (form r.size) (length lines) w so.bytes (rest_of r.pending)) stands.0
            ∙ ap (λ (bs : List ℕ). each_says (form r.size) (length lines) (lines_in true bs)) (rest_held line (ahead r.pending) stands.1)
            ∙ ap (each_says (form r.size) (length lines)) (line_last line r.pending.unended stands.2)
            ∙ ap (λ (reading : Reading). reading ∷ []) (says_next line),
      )

  -- the same bytes, when it counts as given
  pub passed_so : StandsAtLine r → (l : Line) → form r.size (r.lines + 1) (line_so_far r.pending) ≡ Ok l → (rest : List ℕ) × (count : ℕ) × (number : ℕ) × ReadSo (form r.size) r.ended rest count number s a (lines ++ l ∷ [])
  passed_so (inl stands) l is = (
    past_next r.pending,
    _,
    _,
    read_line (form r.size) r.ended (rest_of r.pending) r.bytes r.lines s a lines so (line_so_far r.pending) (past_next r.pending) l _ _ stands.0
        (ap (λ (bs : List ℕ). line_so_far r.pending ++ bs) stands.1) r.pending.unended is refl refl,
  )
  passed_so (inr stands) l is = (
    [],
    _,
    _,
    read_last (form r.size) r.ended (rest_of r.pending) r.bytes r.lines s a lines so (line_so_far r.pending) [] l _ _ stands.0
        (rest_held (line_so_far r.pending) (ahead r.pending) stands.1) refl r.pending.unended stands.2 is refl refl,
  )

-- ---- the first lines of a source

consumed_is : (x y : Option (List ℕ)) (all bytes : List ℕ) → x ≡ Some all → Consumes x y bytes → (left : List ℕ) × (y ≡ Some left) × (all ≡ bytes ++ left)
consumed_is None y all bytes is taken = absurd (cc)
consumed_is (Some xs) None all bytes is taken = absurd taken
consumed_is (Some xs) (Some ys) all bytes is taken = (ys, refl, (let same : xs ≡ all = cc in sym same ∙ taken))

none_left : (y : Option (List ℕ)) (left : List ℕ) → y ≡ Some left → IsAtEnd y → left ≡ []
none_left None left is end = absurd (cc)
none_left (Some ys) left is end = (let same : ys ≡ left = cc in sym same ∙ end)

-- the readings of lines, by their codes
front_read : (disks share : ℕ) (bytes : List ℕ) (many : List ManyLine) (left : List Reading) → each_says (coded disks share) 0 (lines_in true bytes) ≡ map accepted (map code many) ++ left → many_readings share disks true bytes ≡ map accepted_many many ++ map decoded left
front_read disks share bytes many left is = sym (readings_coded disks share true bytes) ∙ ap (map decoded) is ∙ decoded_front many left

begins_by : (disks share : ℕ) (ended : Bool) (rest : List ℕ) (count number : ℕ) (s now : SourceState) (many : List ManyLine) (so : ReadSo (coded disks share) ended rest count number s now (map code many))
    → (all left : List ℕ) → now.left ≡ Some left → all ≡ (so.bytes ++ rest) ++ left → (readings : List ManyReading) × (many_readings share disks true all ≡ map accepted_many many ++ readings)
begins_by disks share true rest count number s now many so all left now_is is =
    let whole = so.whole refl in
    let same : all ≡ so.bytes ++ rest = is ∙ ap (λ (bs : List ℕ). (so.bytes ++ rest) ++ bs) (none_left now.left left now_is whole.at_end) ∙ append-nil (so.bytes ++ rest) in
    (_, front_read disks share all many _ (ap (λ (bs : List ℕ). each_says (coded disks share) 0 (lines_in true bs)) same ∙ whole.says))
begins_by disks share false rest count number s now many so all left now_is is =
    (_, front_read disks share all many _ (ap (λ (bs : List ℕ). each_says (coded disks share) 0 (lines_in true bs)) (is ∙ append_assoc so.bytes rest left) ∙ (so.within refl).says true (rest ++ left)))

pub begins_so : (disks share : ℕ) (ended : Bool) (rest : List ℕ) (count number : ℕ) (s now : SourceState) (many : List ManyLine) → ReadSo (coded disks share) ended rest count number s now (map code many) → BeginsWith share disks s many
begins_so disks share ended rest count number s now many so bytes is =
    let taken = consumed_is s.left now.left bytes (so.bytes ++ rest) is so.taken in
    begins_by disks share ended rest count number s now many so bytes taken.0 taken.1 taken.2

-- ---- the form of lines over several disks

-- it refuses a line of more than 200 bytes
pub long_coded : (disks share : ℕ) → RefusesLong (coded disks share)
long_coded disks share number bytes long =
    let test : nat_lt 200 (length bytes) ≡ true = grind (arith, nat_tests) in
    ap coded_reading (ap (λ (t : Bool). if t then Err LineTooLong else if slice_index bytes 0 == 35 then Ok (Plain line.Nothing) else many_words share disks (split_words (strip_last 13 bytes))) test)

-- one refusal, for one cause
pub same_refusal : (x y : LineError) → next.Refused x ≡ next.Refused y → x ≡ y
same_refusal x y is = cc

-- a code is refused as the line of the volume
refused_volume : (share chosen armed : ℕ) (reading : Reading) → refused_for armed (volume_reading share chosen (decoded reading)) ≡ refused_for armed reading
refused_volume share chosen armed (Err cause) = refl
refused_volume share chosen armed (Ok (line.Write lba count zero)) = refl
refused_volume share chosen armed (Ok (line.Write lba count (suc tag))) = refl
refused_volume share chosen armed (Ok (line.Read lba count)) = refl
refused_volume share chosen armed (Ok line.Flush) = refl
refused_volume share chosen armed (Ok line.Idle) = refl
refused_volume share chosen armed (Ok (line.Stop after outcome)) = refl
refused_volume share chosen armed (Ok (line.Cut outcome)) = refl
refused_volume share chosen armed (Ok line.Nothing) = refl

-- ---- by a script's relation

module _ (share disks : ℕ) (r : Reader) (chosen : ℕ) (tallies : List Tally) (now : SourceState) (taken : SinkState) (s : SourceState) (b : SinkState) (e : List Event) (came : CameMany share disks r chosen tallies now taken s b e) where
  pub begins_came : BeginsWith share disks s came.many
  begins_came = subst (λ n. BeginsWith n disks s came.many) came.size (begins_so disks r.size r.ended (rest_of r.pending) r.bytes r.lines s now came.many came.read)

  -- the lines that were given are all that are known
  pub knows_lines : (whole : Bool) → ReadsBy (coded disks r.size) s now (length (map code came.many)) (map accepted (map code came.many)) whole → ReadsMany share disks s now (length (lines_given e)) (map accepted (lines_given e)) whole
  knows_lines whole known =
      subst (λ (rs : List Reading). ReadsMany share disks s now (length (lines_given e)) rs whole)
      (front_coded share disks r chosen tallies now taken s b e came (map accepted (map code came.many)) [] (sym (append-nil (map accepted (map code came.many)))) ∙ append-nil (map accepted (lines_given e)))
      (knows_coded share disks r chosen tallies now taken s b e came _ whole known)

  module _ {P : Type 0} (knows : SourceState → P → ℕ → List Reading → Bool → Type 0) (v : P)
      (reads : (lines : ℕ) (all : List Reading) (whole : Bool) → ReadsMany share disks s now lines all whole → knows s v lines all whole) where
    -- the next line is refused
    pub next_refused : (armed : ℕ) (cause : LineError) → RefusesNext (coded disks r.size) s now (map code came.many) armed cause → NextRefused knows s v e armed cause
    next_refused armed cause refuses =
        let c = chosen_in 0 (map accepted_many came.many) in
        record {
          all = volume_of share 0 refuses.all;
          whole = refuses.whole;
          next = volume_reading share c (decoded refuses.next);
          left = volume_readings share (chosen_after c (decoded refuses.next)) (map decoded refuses.left);
          known = reads _ _ _ (knows_coded share disks r chosen tallies now taken s b e came refuses.all refuses.whole refuses.known);
          front = front_coded share disks r chosen tallies now taken s b e came refuses.all (refuses.next ∷ refuses.left) refuses.front;
          why = refused_volume share c armed refuses.next ∙ refuses.why;
        }

    -- the next line chooses a disk
    pub next_said : (disk : ℕ) → StandsAtLine r → many_of r.size disks (line_so_far r.pending) ≡ Ok (Disk disk) → NextSaid knows s v e
    next_said disk stands is =
        let next = next_left (coded disks) r s now (map code came.many) came.read stands in
        let all = readings_by (coded disks r.size) r.ended (came.read.bytes ++ rest_of r.pending) in
        record {
          all = volume_of share 0 all;
          whole = r.ended;
          left = volume_readings share disk (map decoded next.0);
          known = reads _ _ _ (knows_coded share disks r chosen tallies now taken s b e came _ _ (known_so _ _ _ _ _ _ _ _ (few_rest r.pending) came.read));
          front = front_coded share disks r chosen tallies now taken s b e came all (coded_reading (Ok (Disk disk)) ∷ next.0)
              (first_given _ _ _ _ _ _ _ _ came.read ∙ ap (λ (rs : List Reading). map accepted (map code came.many) ++ rs) (next.1 ∙ ap (λ (m : ManyReading). coded_reading m ∷ next.0) is));
        }

  -- the lines that were given, and this one, come first
  pub begins_next : (m : ManyLine) → StandsAtLine r → many_of r.size disks (line_so_far r.pending) ≡ Ok m → BeginsWith share disks s (came.many ++ m ∷ [])
  begins_next m stands is =
      let passed = passed_so (coded disks) r s now (map code came.many) came.read stands (code m) (ap coded_reading is) in
      subst (λ n. BeginsWith n disks s (came.many ++ m ∷ [])) came.size
      (begins_so disks r.size r.ended passed.0 passed.1 passed.2 s now (came.many ++ m ∷ [])
      (subst (λ (ls : List Line). ReadSo (coded disks r.size) r.ended passed.0 passed.1 passed.2 s now ls) (sym (map-append code came.many (m ∷ []))) passed.3))
