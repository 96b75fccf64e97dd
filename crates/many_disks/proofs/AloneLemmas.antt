-- A disk by itself, when power is never cut.
use Rattle.std.proofs.Common.{◌≡◌, refl, sym, ap, ap₂, subst, ◌∙◌, ℕ, zero, suc, ◌+◌, ◌-◌, ◌*◌, ◌/◌, ◌<◌, ◌≤◌, ◌==◌, eq-eqb, ne_eqb, eqb-true, arith, ◌&&◌, not, Bool, true, false, if◌then◌else◌, List, [], ◌∷◌, ◌++◌, length, take, drop, append-nil, filter, flat_map, All}
use Rattle.std.specs.List.{range_with_len}
use Rattle.std.specs.Ordering.{nat_cmp}
use Rattle.std.specs.Int.{w64, to_be_bytes}
use Rattle.sha2.specs.Sha256.{sha256}
use Rattle.std.proofs.lemmas.Bool.{false≢true}
use Rattle.std.proofs.lemmas.List.Elements.{All-nil, All-head, All-tail, filter-append}
use Rattle.std.proofs.lemmas.Map.Views.{All-insert_key}
use Rattle.ft_base.specs.Pattern.{pat, tag_in}
use Rattle.ft_base.specs.PlainDisk.{PlainDisk}
use Rattle.ft_base.specs.Told.{Told}
use Rattle.ft_base.specs.declared.block.Block.{Block}
use Rattle.ft_base.specs.declared.power.Stop.{Stop}
use Rattle.ft_base.specs.declared.told.Ack.{Ack}
use Rattle.trace_model.specs.Backs.{AreUncut, IsUncut}
use Rattle.trace_model.specs.Fits.{FitsEnd, FitsLine, FitsRun, armed_after, arming, is_cut}
use Rattle.trace_model.specs.Lines.{lines_in}
use Rattle.trace_model.specs.Readings.{Reading}
use Rattle.trace_model.specs.Run.{after_blocks, after_line, answers_of, disk_after, disk_without, end_answers, lost_told, own_answers, read_backs, reads_in, stopped, told, touched_after, touching, with_each, writes_in}
use Rattle.trace_model.specs.declared.answer.Answer.{Answer}
use Rattle.trace_model.specs.declared.answer.Answer.TheVariants as answer
use Rattle.trace_model.specs.declared.line.Line.{Line}
use Rattle.trace_model.specs.declared.line.Line.TheVariants as line
use Rattle.trace_model.specs.declared.ran.Ran.{Ran}
use Rattle.trace_model.proofs.RunLemmas.{disk_after-line}
use Rattle.many_disks.specs.Alone.{WereRunUncut, ends_alone, is_request, is_of_disk, is_of_request}
use Rattle.many_disks.specs.Lines.{ManyReading, chosen_in, many_readings, shifted}
use Rattle.many_disks.specs.Told.Printed.{Chose, Told as Answered}
use Rattle.many_disks.specs.Told.{Printed, answers_printed, ends_printed, is_beside, own_end, own_lines}
use Rattle.many_disks.proofs.FollowLemmas.{IsAt, IsSpan, SaysRun, many_runnable, says_at, says_run}

-- ---- lines that nothing cut

-- no more blocks count than a write has
abbrev KeepsMost : Line → ℕ → Type 0
KeepsMost (line.Write lba count tag) kept = kept ≤ count
KeepsMost other kept = Unit {0}

-- a line was not cut, lost nothing, and names addresses of one disk
pub record IsQuiet (share : ℕ) (ran : Ran) : Type 0 where
  pub cuts : ran.cuts ≡ 0
  pub lost : ran.lost ≡ 0
  pub most : KeepsMost ran.line ran.kept
  pub disk : ℕ
  pub one : IsAt share disk ran.line

abbrev pub AreQuiet : ℕ → List Ran → Type 0
AreQuiet share [] = Unit {0}
AreQuiet share (ran ∷ earlier) = IsQuiet share ran × AreQuiet share earlier

keeps_most : (ack : Ack) (l : Line) (cuts kept lost : ℕ) (disk : PlainDisk) → FitsLine ack l cuts kept lost disk → KeepsMost l kept
keeps_most ack (line.Write lba count tag) cuts kept lost disk fits = fits.most
keeps_most ack (line.Read lba count) cuts kept lost disk fits = tt
keeps_most ack line.Flush cuts kept lost disk fits = tt
keeps_most ack line.Idle cuts kept lost disk fits = tt
keeps_most ack (line.Stop after outcome) cuts kept lost disk fits = tt
keeps_most ack (line.Cut outcome) cuts kept lost disk fits = tt
keeps_most ack line.Nothing cuts kept lost disk fits = tt

no_cut : (l : Line) → IsUncut l → is_cut l ≡ false
no_cut (line.Stop after outcome) uncut = absurd uncut
no_cut (line.Cut outcome) uncut = absurd uncut
no_cut (line.Write lba count tag) uncut = refl
no_cut (line.Read lba count) uncut = refl
no_cut line.Flush uncut = refl
no_cut line.Idle uncut = refl
no_cut line.Nothing uncut = refl

none_armed : (l : Line) (stops : List Stop) → IsUncut l → arming l stops ≡ stops
none_armed (line.Stop after outcome) stops uncut = absurd uncut
none_armed (line.Cut outcome) stops uncut = absurd uncut
none_armed (line.Write lba count tag) stops uncut = refl
none_armed (line.Read lba count) stops uncut = refl
none_armed line.Flush stops uncut = refl
none_armed line.Idle stops uncut = refl
none_armed line.Nothing stops uncut = refl

-- without a stop line and a cut line no stop is armed, and nothing is cut
uncut_quiet : (ack : Ack) (share disks : ℕ) (readings : List ManyReading) (run : List Ran) → FitsRun ack run → AreUncut run → SaysRun share disks readings run → (armed_after run ≡ []) × AreQuiet share run
uncut_quiet ack share disks readings [] fits uncut says = (refl, tt)
uncut_quiet ack share disks readings (ran ∷ earlier) fits uncut says =
    let before = uncut_quiet ack share disks readings earlier fits.1 uncut.1 says.1 in
    let long : length (armed_after earlier) ≡ 0 = ap length before.0 in
    let few = fits.0.few in
    let none : ran.cuts ≡ 0 = omega (arith, long, few) in
    let newest : IsQuiet share ran = record {
      cuts = none;
      lost = fits.0.cut (no_cut ran.line uncut.0) none;
      most = keeps_most ack ran.line ran.cuts ran.kept ran.lost _ fits.0.line;
      disk = chosen_in 0 (take (length earlier) readings);
      one = says_at share disks (length earlier) readings ran.line says.0;
    } in (
      none_armed ran.line _ uncut.0 ∙ ap₂ (λ (n : ℕ) (stops : List Stop). drop n stops) none before.0,
      (newest, before.1),
    )

pub none_armed_after : (ack : Ack) (share disks : ℕ) (readings : List ManyReading) (run : List Ran) → FitsRun ack run → AreUncut run → SaysRun share disks readings run → armed_after run ≡ []
none_armed_after ack share disks readings run fits uncut says = (uncut_quiet ack share disks readings run fits uncut says).0

pub are_quiet : (ack : Ack) (share disks : ℕ) (readings : List ManyReading) (run : List Ran) → FitsRun ack run → AreUncut run → SaysRun share disks readings run → AreQuiet share run
are_quiet ack share disks readings run fits uncut says = (uncut_quiet ack share disks readings run fits uncut says).1

-- ---- lines of another disk

apart : (b : Bool) → (if b then false else true) ≡ true → b ≡ false
apart true is = sym is
apart false is = refl

alike : (b : Bool) → (if b then false else true) ≡ false → b ≡ true
alike true is = refl
alike false is = sym is

negated : (b : Bool) → (if b then false else true) ≡ (true && not b)
negated true = refl
negated false = refl

-- a request that lies on a disk is beside each other disk
span_beside : (share disk at lba count : ℕ) → IsSpan share at lba count → (if (lba / share) == disk then false else true) ≡ true → at ≡ disk → ⊥
span_beside share disk at lba count span is same = false≢true (sym (apart _ is) ∙ eq-eqb (lba / share) disk (span.first ∙ same))

span_on : (share disk at lba count : ℕ) → IsSpan share at lba count → (if (lba / share) == disk then false else true) ≡ false → at ≡ disk
span_on share disk at lba count span is = sym span.first ∙ eqb-true (lba / share) disk (alike _ is)

-- a line is beside a disk exactly if it is a request on another one
pub beside_is : (share disk at : ℕ) (l : Line) → IsAt share at l → is_beside share disk l ≡ (is_request l && not (at == disk))
beside_is share disk at (line.Write lba count tag) span = ap (λ d. if d == disk then false else true) span.first ∙ negated (at == disk)
beside_is share disk at (line.Read lba count) span = ap (λ d. if d == disk then false else true) span.first ∙ negated (at == disk)
beside_is share disk at line.Flush span = refl
beside_is share disk at line.Idle span = refl
beside_is share disk at (line.Stop after outcome) span = refl
beside_is share disk at (line.Cut outcome) span = refl
beside_is share disk at line.Nothing span = refl

pub shifted_request : (by : ℕ) (l : Line) (b : Bool) → (is_request (shifted by l) && not b) ≡ (is_request l && not b)
shifted_request by (line.Write lba count tag) b = refl
shifted_request by (line.Read lba count) b = refl
shifted_request by line.Flush b = refl
shifted_request by line.Idle b = refl
shifted_request by (line.Stop after outcome) b = refl
shifted_request by (line.Cut outcome) b = refl
shifted_request by line.Nothing b = refl

-- ---- the plain disk

-- a block that is the same on two disks is the same on both after a request
same_blocks : (lba tag n a : ℕ) (first second : PlainDisk) → first a ≡ second a → after_blocks lba tag n first a ≡ after_blocks lba tag n second a
same_blocks lba tag zero a first second same = same
same_blocks lba tag (suc n) a first second same = ap (λ b. if (lba + n) == a then pat (lba + n) tag else b) (same_blocks lba tag n a first second same)

same_line : (l : Line) (kept a : ℕ) (first second : PlainDisk) → first a ≡ second a → after_line l kept first a ≡ after_line l kept second a
same_line (line.Write lba count tag) kept a first second same = same_blocks lba tag kept a first second same
same_line (line.Read lba count) kept a first second same = same
same_line line.Flush kept a first second same = same
same_line line.Idle kept a first second same = same
same_line (line.Stop after outcome) kept a first second same = same
same_line (line.Cut outcome) kept a first second same = same
same_line line.Nothing kept a first second same = same

-- a request beside an address leaves its block
beside_blocks : (lba tag n a : ℕ) (disk : PlainDisk) → ((i : ℕ) → i < n → lba + i ≡ a → ⊥) → after_blocks lba tag n disk a ≡ disk a
beside_blocks lba tag zero a disk other = refl
beside_blocks lba tag (suc n) a disk other =
    ap (λ b. if b then pat (lba + n) tag else after_blocks lba tag n disk a) (ne_eqb (lba + n) a (other n (omega arith)))
    ∙ beside_blocks lba tag n a disk (λ i within. other i (omega (arith, within)))

beside_line : (share disk at : ℕ) (l : Line) (kept a : ℕ) (plain : PlainDisk) → IsAt share at l → KeepsMost l kept → is_beside share disk l ≡ true → (a / share) ≡ disk → after_line l kept plain a ≡ plain a
beside_line share disk at (line.Write lba count tag) kept a plain span most is on =
    beside_blocks lba tag kept a plain (λ i within same. span_beside share disk at lba count span is
    (sym (span.each i (omega (arith, within, most))) ∙ ap (λ n. n / share) same ∙ on))
beside_line share disk at (line.Read lba count) kept a plain span most is on = refl
beside_line share disk at line.Flush kept a plain span most is on = refl
beside_line share disk at line.Idle kept a plain span most is on = refl
beside_line share disk at (line.Stop after outcome) kept a plain span most is on = refl
beside_line share disk at (line.Cut outcome) kept a plain span most is on = refl
beside_line share disk at line.Nothing kept a plain span most is on = refl

-- the lines of a disk after one line more
own_beside : (share disk : ℕ) (ran : Ran) (earlier : List Ran) → is_beside share disk ran.line ≡ true → own_lines share disk (ran ∷ earlier) ≡ own_lines share disk earlier
own_beside share disk ran earlier is = ap (λ b. if b then own_lines share disk earlier else ran ∷ own_lines share disk earlier) is

own_on : (share disk : ℕ) (ran : Ran) (earlier : List Ran) → is_beside share disk ran.line ≡ false → own_lines share disk (ran ∷ earlier) ≡ ran ∷ own_lines share disk earlier
own_on share disk ran earlier is = ap (λ b. if b then own_lines share disk earlier else ran ∷ own_lines share disk earlier) is

-- at the addresses of a disk the plain disk is that after its own lines
pub disk_alone : (share disk : ℕ) (run : List Ran) → AreQuiet share run → (a : ℕ) → (a / share) ≡ disk → disk_after run a ≡ disk_after (own_lines share disk run) a
disk_alone share disk [] quiet a on = refl
disk_alone share disk (ran ∷ earlier) quiet a on = by (is_beside share disk ran.line) refl (disk_alone share disk earlier quiet.1 a on)
  where
    by : (b : Bool) → is_beside share disk ran.line ≡ b → disk_after earlier a ≡ disk_after (own_lines share disk earlier) a → disk_after (ran ∷ earlier) a ≡ disk_after (own_lines share disk (ran ∷ earlier)) a
    by true is before =
        ap (λ (d : PlainDisk). d a) (disk_after-line ran earlier quiet.0.lost)
        ∙ beside_line share disk quiet.0.disk ran.line ran.kept a (disk_after earlier) quiet.0.one quiet.0.most is on
        ∙ before
        ∙ ap (λ (lines : List Ran). disk_after lines a) (sym (own_beside share disk ran earlier is))
    by false is before =
        ap (λ (d : PlainDisk). d a) (disk_after-line ran earlier quiet.0.lost)
        ∙ same_line ran.line ran.kept a (disk_after earlier) (disk_after (own_lines share disk earlier)) before
        ∙ ap (λ (d : PlainDisk). d a) (sym (disk_after-line ran (own_lines share disk earlier) quiet.0.lost))
        ∙ ap (λ (lines : List Ran). disk_after lines a) (sym (own_on share disk ran earlier is))

-- ---- the answers

-- a line that was not cut and lost nothing gives its own answers alone
pub answers_quiet : (share : ℕ) (ran : Ran) (earlier : List Ran) → IsQuiet share ran → answers_of ran (disk_without ran.lost earlier) ≡ own_answers ran.line 0 ran.kept (disk_after earlier)
answers_quiet share ran earlier quiet =
    ap (λ (c : ℕ). stopped c ++ (lost_told ran.lost ++ own_answers ran.line c ran.kept (disk_without ran.lost earlier))) quiet.cuts
    ∙ ap (λ (m : ℕ). lost_told m ++ own_answers ran.line 0 ran.kept (disk_without m earlier)) quiet.lost

-- the blocks of a request that are read are the same on two disks with the same blocks there
same_reads : (lba n : ℕ) (first second : PlainDisk) → ((i : ℕ) → i < n → first (lba + i) ≡ second (lba + i)) → read_backs lba n first ≡ read_backs lba n second
same_reads lba zero first second same = refl
same_reads lba (suc n) first second same =
    let here : lba + 0 ≡ lba = omega arith in
    ap₂ (λ (b : Block) (answers : List Answer). answer.ReadBack lba (tag_in b) ∷ answers) (subst (λ a. first a ≡ second a) here (same 0 (omega arith)))
    (same_reads (lba + 1) n first second (λ i within.
    let next : lba + (i + 1) ≡ (lba + 1) + i = omega arith in
    subst (λ a. first a ≡ second a) next (same (i + 1) (omega (arith, within)))))

-- a line answers the same on two disks with the same blocks at its addresses
same_answers : (share at : ℕ) (l : Line) (kept : ℕ) (first second : PlainDisk) → IsAt share at l → ((a : ℕ) → (a / share) ≡ at → first a ≡ second a) → own_answers l 0 kept first ≡ own_answers l 0 kept second
same_answers share at (line.Write lba count tag) kept first second span same = refl
same_answers share at (line.Read lba count) kept first second span same = same_reads lba count first second (λ i within. same (lba + i) (span.each i within))
same_answers share at line.Flush kept first second span same = refl
same_answers share at line.Idle kept first second span same = refl
same_answers share at (line.Stop after outcome) kept first second span same = refl
same_answers share at (line.Cut outcome) kept first second span same = refl
same_answers share at line.Nothing kept first second span same = refl

-- answers that name addresses of a disk only
abbrev IsAnswerAt : ℕ → ℕ → Answer → Type 0
IsAnswerAt share disk (answer.Wrote lba count) = (lba / share) ≡ disk
IsAnswerAt share disk (answer.ReadBack lba tag) = (lba / share) ≡ disk
IsAnswerAt share disk other = Unit {0}

abbrev pub AreAnswersAt : ℕ → ℕ → List Answer → Type 0
AreAnswersAt share disk [] = Unit {0}
AreAnswersAt share disk (a ∷ answers) = IsAnswerAt share disk a × AreAnswersAt share disk answers

reads_at : (share disk lba n : ℕ) (plain : PlainDisk) → ((i : ℕ) → i < n → ((lba + i) / share) ≡ disk) → AreAnswersAt share disk (read_backs lba n plain)
reads_at share disk lba zero plain each = tt
reads_at share disk lba (suc n) plain each =
    let here : lba + 0 ≡ lba = omega arith in (
      subst (λ a. (a / share) ≡ disk) here (each 0 (omega arith)),
      reads_at share disk (lba + 1) n plain (λ i within.
          let next : lba + (i + 1) ≡ (lba + 1) + i = omega arith in
          subst (λ a. (a / share) ≡ disk) next (each (i + 1) (omega (arith, within)))),
    )

pub answers_at : (share disk : ℕ) (l : Line) (kept : ℕ) (plain : PlainDisk) → IsAt share disk l → AreAnswersAt share disk (own_answers l 0 kept plain)
answers_at share disk (line.Write lba count tag) kept plain span = (span.first, tt)
answers_at share disk (line.Read lba count) kept plain span = reads_at share disk lba count plain span.each
answers_at share disk line.Flush kept plain span = (tt, tt)
answers_at share disk line.Idle kept plain span = (tt, tt)
answers_at share disk (line.Stop after outcome) kept plain span = tt
answers_at share disk (line.Cut outcome) kept plain span = (tt, tt)
answers_at share disk line.Nothing kept plain span = tt

one_more : (p q : Bool) (a : Answer) (first second : List Answer) → p ≡ q → first ≡ second → (if p then a ∷ first else first) ≡ (if q then a ∷ second else second)
one_more p q a first second test rest = ap₂ (λ (b : Bool) (answers : List Answer). if b then a ∷ answers else answers) test rest

-- of answers on one disk those of requests are those of requests on the disk
pub requests_there : (share disk : ℕ) (answers : List Answer) → AreAnswersAt share disk answers → filter (is_of_disk share disk) answers ≡ filter is_of_request answers
requests_there share disk [] at = refl
requests_there share disk (a ∷ answers) at = by a at.0 (requests_there share disk answers at.1)
  where
    by : (a : Answer) → IsAnswerAt share disk a → filter (is_of_disk share disk) answers ≡ filter is_of_request answers → filter (is_of_disk share disk) (a ∷ answers) ≡ filter is_of_request (a ∷ answers)
    by (answer.Wrote lba count) on rest = one_more _ _ (answer.Wrote lba count) _ _ (eq-eqb (lba / share) disk on) rest
    by (answer.ReadBack lba tag) on rest = one_more _ _ (answer.ReadBack lba tag) _ _ (eq-eqb (lba / share) disk on) rest
    by answer.Stopped on rest = rest
    by (answer.Kept kept count) on rest = rest
    by (answer.Lost count) on rest = rest
    by answer.Flushed on rest = rest
    by answer.Idle on rest = rest
    by answer.Cut on rest = rest
    by (answer.End writes reads touched digest) on rest = rest
    by (answer.Refused n cause) on rest = rest

-- and there are none of other disks
pub none_beside : (share at disk : ℕ) (answers : List Answer) → (at ≡ disk → ⊥) → AreAnswersAt share at answers → filter (is_of_disk share disk) answers ≡ []
none_beside share at disk [] other each = refl
none_beside share at disk (a ∷ answers) other each = by a each.0 (none_beside share at disk answers other each.1)
  where
    by : (a : Answer) → IsAnswerAt share at a → filter (is_of_disk share disk) answers ≡ [] → filter (is_of_disk share disk) (a ∷ answers) ≡ []
    by (answer.Wrote lba count) on rest = one_more _ _ (answer.Wrote lba count) _ _ (ne_eqb (lba / share) disk (λ same. other (sym on ∙ same))) rest
    by (answer.ReadBack lba tag) on rest = one_more _ _ (answer.ReadBack lba tag) _ _ (ne_eqb (lba / share) disk (λ same. other (sym on ∙ same))) rest
    by answer.Stopped on rest = rest
    by (answer.Kept kept count) on rest = rest
    by (answer.Lost count) on rest = rest
    by answer.Flushed on rest = rest
    by answer.Idle on rest = rest
    by answer.Cut on rest = rest
    by (answer.End writes reads touched digest) on rest = rest
    by (answer.Refused n cause) on rest = rest

-- what a line that is beside a disk, or not, says of where it lies
beside_at : (share disk at : ℕ) (l : Line) (kept : ℕ) (plain : PlainDisk) → IsAt share at l → is_beside share disk l ≡ true → filter (is_of_disk share disk) (own_answers l 0 kept plain) ≡ []
beside_at share disk at (line.Write lba count tag) kept plain span is = none_beside share at disk (own_answers (line.Write lba count tag) 0 kept plain) (span_beside share disk at lba count span is) (answers_at share at (line.Write lba count tag) kept plain span)
beside_at share disk at (line.Read lba count) kept plain span is = none_beside share at disk (own_answers (line.Read lba count) 0 kept plain) (span_beside share disk at lba count span is) (answers_at share at (line.Read lba count) kept plain span)
beside_at share disk at line.Flush kept plain span is = refl
beside_at share disk at line.Idle kept plain span is = refl
beside_at share disk at (line.Stop after outcome) kept plain span is = refl
beside_at share disk at (line.Cut outcome) kept plain span is = refl
beside_at share disk at line.Nothing kept plain span is = refl

is_at_own : (share disk at : ℕ) (l : Line) → IsAt share at l → is_beside share disk l ≡ false → IsAt share disk l
is_at_own share disk at (line.Write lba count tag) span is = subst (λ d. IsSpan share d lba count) (span_on share disk at lba count span is) span
is_at_own share disk at (line.Read lba count) span is = subst (λ d. IsSpan share d lba count) (span_on share disk at lba count span is) span
is_at_own share disk at line.Flush span is = tt
is_at_own share disk at line.Idle span is = tt
is_at_own share disk at (line.Stop after outcome) span is = tt
is_at_own share disk at (line.Cut outcome) span is = tt
is_at_own share disk at line.Nothing span is = tt

-- the answers of requests on a disk are those to the disk's own lines
pub answers_alone : (share disk : ℕ) (run : List Ran) → AreQuiet share run → filter (is_of_disk share disk) (told run) ≡ filter is_of_request (told (own_lines share disk run))
answers_alone share disk [] quiet = refl
answers_alone share disk (ran ∷ earlier) quiet = by (is_beside share disk ran.line) refl (answers_alone share disk earlier quiet.1)
  where
    one : filter (is_of_disk share disk) (told (ran ∷ earlier)) ≡ filter (is_of_disk share disk) (told earlier) ++ filter (is_of_disk share disk) (own_answers ran.line 0 ran.kept (disk_after earlier))
    one =
        filter-append (is_of_disk share disk) (told earlier) (answers_of ran (disk_without ran.lost earlier))
        ∙ ap (λ answers. filter (is_of_disk share disk) (told earlier) ++ filter (is_of_disk share disk) answers) (answers_quiet share ran earlier quiet.0)

    other : filter is_of_request (told (ran ∷ own_lines share disk earlier)) ≡ filter is_of_request (told (own_lines share disk earlier)) ++ filter is_of_request (own_answers ran.line 0 ran.kept (disk_after (own_lines share disk earlier)))
    other =
        filter-append is_of_request (told (own_lines share disk earlier)) (answers_of ran (disk_without ran.lost (own_lines share disk earlier)))
        ∙ ap (λ answers. filter is_of_request (told (own_lines share disk earlier)) ++ filter is_of_request answers) (answers_quiet share ran (own_lines share disk earlier) quiet.0)

    by : (b : Bool) → is_beside share disk ran.line ≡ b → filter (is_of_disk share disk) (told earlier) ≡ filter is_of_request (told (own_lines share disk earlier))
        → filter (is_of_disk share disk) (told (ran ∷ earlier)) ≡ filter is_of_request (told (own_lines share disk (ran ∷ earlier)))
    by true is before =
        one
        ∙ ap (λ answers. filter (is_of_disk share disk) (told earlier) ++ answers) (beside_at share disk quiet.0.disk ran.line ran.kept (disk_after earlier) quiet.0.one is)
        ∙ append-nil (filter (is_of_disk share disk) (told earlier))
        ∙ before
        ∙ ap (λ (lines : List Ran). filter is_of_request (told lines)) (sym (own_beside share disk ran earlier is))
    by false is before =
        let at = is_at_own share disk quiet.0.disk ran.line quiet.0.one is in
        one
        ∙ ap₂ (λ (xs ys : List Answer). xs ++ ys) before (
        requests_there share disk (own_answers ran.line 0 ran.kept (disk_after earlier)) (answers_at share disk ran.line ran.kept (disk_after earlier) at)
        ∙ ap (filter is_of_request) (same_answers share disk ran.line ran.kept _ _ at (disk_alone share disk earlier quiet.1)))
        ∙ sym other
        ∙ ap (λ (lines : List Ran). filter is_of_request (told lines)) (sym (own_on share disk ran earlier is))

-- ---- the end line

with_each_at : (share disk lba n : ℕ) (addresses : List ℕ) → ((i : ℕ) → i < n → ((lba + i) / share) ≡ disk) → All (λ a. (a / share) ≡ disk) addresses → All (λ a. (a / share) ≡ disk) (with_each lba n addresses)
with_each_at share disk lba zero addresses each all = all
with_each_at share disk lba (suc n) addresses each all =
    All-insert_key nat_cmp (lba + n) (λ a. (a / share) ≡ disk) (with_each lba n addresses) (with_each_at share disk lba n addresses (λ i within. each i (omega (arith, within))) all) (each n (omega arith))

touching_at : (share disk : ℕ) (l : Line) (addresses : List ℕ) → IsAt share disk l → All (λ a. (a / share) ≡ disk) addresses → All (λ a. (a / share) ≡ disk) (touching l addresses)
touching_at share disk (line.Write lba count tag) addresses span all = with_each_at share disk lba count addresses span.each all
touching_at share disk (line.Read lba count) addresses span all = with_each_at share disk lba count addresses span.each all
touching_at share disk line.Flush addresses span all = all
touching_at share disk line.Idle addresses span all = all
touching_at share disk (line.Stop after outcome) addresses span all = all
touching_at share disk (line.Cut outcome) addresses span all = all
touching_at share disk line.Nothing addresses span all = all

-- the touched addresses of a disk's own lines are addresses of the disk
pub touched_at : (share disk : ℕ) (run : List Ran) → AreQuiet share run → All (λ a. (a / share) ≡ disk) (touched_after (own_lines share disk run))
touched_at share disk [] quiet = All-nil (λ a. (a / share) ≡ disk)
touched_at share disk (ran ∷ earlier) quiet = by (is_beside share disk ran.line) refl (touched_at share disk earlier quiet.1)
  where
    by : (b : Bool) → is_beside share disk ran.line ≡ b → All (λ a. (a / share) ≡ disk) (touched_after (own_lines share disk earlier)) → All (λ a. (a / share) ≡ disk) (touched_after (own_lines share disk (ran ∷ earlier)))
    by true is all = subst (λ (lines : List Ran). All (λ a. (a / share) ≡ disk) (touched_after lines)) (sym (own_beside share disk ran earlier is)) all
    by false is all = subst (λ (lines : List Ran). All (λ a. (a / share) ≡ disk) (touched_after lines)) (sym (own_on share disk ran earlier is))
        (touching_at share disk ran.line _ (is_at_own share disk quiet.0.disk ran.line quiet.0.one is) all)

-- the digest of addresses at which two disks have the same blocks
same_bytes : (share disk start : ℕ) (addresses : List ℕ) (first second : PlainDisk) → All (λ a. (a / share) ≡ disk) addresses → ((a : ℕ) → (a / share) ≡ disk → first a ≡ second a)
    → flat_map (λ a. to_be_bytes w64 (a - start) ++ (first a).0) addresses ≡ flat_map (λ a. to_be_bytes w64 (a - start) ++ (second a).0) addresses
same_bytes share disk start [] first second all same = refl
same_bytes share disk start (a ∷ addresses) first second all same =
    ap₂ (λ (b : Block) (bytes : List ℕ). (to_be_bytes w64 (a - start) ++ b.0) ++ bytes) (same a (All-head (λ a. (a / share) ≡ disk) a addresses all))
    (same_bytes share disk start addresses first second (All-tail (λ a. (a / share) ≡ disk) a addresses all) same)

pub end_alone : (share disk start : ℕ) (run : List Ran) → AreQuiet share run
    → own_end start (own_lines share disk run) (disk_after run) ≡ own_end start (own_lines share disk run) (disk_after (own_lines share disk run))
end_alone share disk start run quiet =
    let own = own_lines share disk run in
    ap (λ bytes. answer.End (writes_in own) (reads_in own) (length (touched_after own)) (sha256 bytes))
    (same_bytes share disk start (touched_after own) (disk_after run) (disk_after own) (touched_at share disk run quiet) (disk_alone share disk run quiet))

same_ends : (share : ℕ) (disks : List ℕ) (run : List Ran) → AreQuiet share run
    → flat_map (λ disk. Chose disk ∷ Answered (own_end (disk * share) (own_lines share disk run) (disk_after run)) ∷ []) disks
    ≡ flat_map (λ disk. Chose disk ∷ Answered (own_end (disk * share) (own_lines share disk run) (disk_after (own_lines share disk run))) ∷ []) disks
same_ends share [] run quiet = refl
same_ends share (disk ∷ disks) run quiet =
    ap₂ (λ (end : Answer) (lines : List Printed). Chose disk ∷ Answered end ∷ lines) (end_alone share disk (disk * share) run quiet) (same_ends share disks run quiet)

-- nothing is cut and nothing lost at the end, and each disk has its end line
pub ends_printed_alone : (ack : Ack) (share disks start cuts lost : ℕ) (run : List Ran) → AreQuiet share run → armed_after run ≡ [] → FitsEnd ack run cuts lost
    → answers_printed share disks start 0 run (end_answers run cuts lost) ≡ ends_alone share disks run
ends_printed_alone ack share disks start cuts lost run quiet unarmed fits =
    let long : length (armed_after run) ≡ 0 = ap length unarmed in
    let few = fits.few in
    let uncut : cuts ≡ 0 = omega (arith, long, few) in
    ap₂ (λ (c m : ℕ). answers_printed share disks start 0 run (end_answers run c m)) uncut (fits.cut uncut)
    ∙ append-nil (ends_printed share disks 0 run)
    ∙ same_ends share (range_with_len 0 disks) run quiet

-- ---- the lines of a trace

pub trace_says : (o : Told) (share disks : ℕ) (bytes : List ℕ) (run : List Ran) (left : List Reading) → WereRunUncut o share disks bytes run left → SaysRun share disks (many_readings share disks true bytes) run
trace_says o share disks bytes run left was = says_run share disks (many_readings share disks true bytes) run left (many_runnable share disks (lines_in true bytes)) was.lines.lines

pub trace_unarmed : (o : Told) (share disks : ℕ) (bytes : List ℕ) (run : List Ran) (left : List Reading) → WereRunUncut o share disks bytes run left → armed_after run ≡ []
trace_unarmed o share disks bytes run left was = none_armed_after o.ack share disks (many_readings share disks true bytes) run was.lines.fits was.uncut (trace_says o share disks bytes run left was)

pub trace_quiet : (o : Told) (share disks : ℕ) (bytes : List ℕ) (run : List Ran) (left : List Reading) → WereRunUncut o share disks bytes run left → AreQuiet share run
trace_quiet o share disks bytes run left was = are_quiet o.ack share disks (many_readings share disks true bytes) run was.lines.fits was.uncut (trace_says o share disks bytes run left was)
