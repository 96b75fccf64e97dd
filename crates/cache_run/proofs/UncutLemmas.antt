-- Lines of which no cut took a part: their plain disk is that after all of their block writes.
use Rattle.std.specs.Prelude.{false}
use Rattle.std.proofs.Common.{◌≡◌, ◌≤◌, ◌<◌, ◌⊎◌, inl, inr, ℕ, ◌+◌, min, List, [], ◌∷◌, ◌++◌, length, drop, refl, sym, ap, ◌∙◌, arith}
use Rattle.std.proofs.Math.Nat.{lt_of_not-le}
use Rattle.ft_base.specs.Count.{Rose, last_count}
use Rattle.ft_base.specs.PlainDisk.{PlainDisk, empty}
use Rattle.ft_base.specs.declared.power.Stop.{Stop}
use Rattle.ft_base.specs.declared.told.Ack.{Ack}
use Rattle.trace_model.specs.declared.line.Line.{Line}
use Rattle.trace_model.specs.declared.line.Line.TheVariants as line
use Rattle.trace_model.specs.declared.ran.Ran.{Ran}
use Rattle.trace_model.specs.Backs.{AreUncut, IsUncut}
use Rattle.trace_model.specs.Fits.{FitsRun, FitsLine, armed_after, arming, block_count, is_cut}
use Rattle.trace_model.specs.Run.{after_line, cut_count, cuts_in, disk_after, lines_of}
use Rattle.trace_model.proofs.RunLemmas.{disk_after-line}
use Rattle.trace_replay.specs.Said.{RoseAtLeast}
use Rattle.cache_run.specs.Inspected.{disk_over}

disk_over-last : (lines : List Line) (l : Line) (disk : PlainDisk) → disk_over (lines ++ l ∷ []) disk ≡ after_line l (block_count l) (disk_over lines disk)
disk_over-last [] l disk = refl
disk_over-last (first ∷ lines) l disk = disk_over-last lines l (after_line first (block_count first) disk)

-- all blocks of a line count that was not cut
line_whole : (ack : Ack) (l : Line) (cuts kept lost : ℕ) (old disk : PlainDisk) → FitsLine ack l cuts kept lost old → cuts ≡ 0 → after_line l kept disk ≡ after_line l (block_count l) disk
line_whole ack (line.Write lba count tag) cuts kept lost old disk fits none = ap (λ k. after_line (line.Write lba count tag) k disk) (fits.whole none)
line_whole ack (line.Read lba count) cuts kept lost old disk fits none = refl
line_whole ack line.Flush cuts kept lost old disk fits none = refl
line_whole ack line.Idle cuts kept lost old disk fits none = refl
line_whole ack (line.Cut outcome) cuts kept lost old disk fits none = refl
line_whole ack (line.Stop after outcome) cuts kept lost old disk fits none = refl
line_whole ack line.Nothing cuts kept lost old disk fits none = refl

-- a line that doesn't cut power is no cut line
not_cut : (l : Line) → cut_count l ≡ 0 → is_cut l ≡ false
not_cut (line.Cut outcome) none = absurd (omega (arith, none))
not_cut (line.Write lba count tag) none = refl
not_cut (line.Read lba count) none = refl
not_cut line.Flush none = refl
not_cut line.Idle none = refl
not_cut (line.Stop after outcome) none = refl
not_cut line.Nothing none = refl

pub disk_after-uncut : (ack : Ack) (run : List Ran) → FitsRun ack run → cuts_in run ≡ 0 → disk_after run ≡ disk_over (lines_of run) empty
disk_after-uncut ack [] fits none = refl
disk_after-uncut ack (ran ∷ earlier) fits none =
    let before : disk_after earlier ≡ disk_over (lines_of earlier) empty = disk_after-uncut ack earlier fits.1 (omega (arith, none)) in
    disk_after-line ran earlier (fits.0.cut (not_cut ran.line (omega (arith, none))) (omega (arith, none)))
    ∙ line_whole ack ran.line ran.cuts ran.kept ran.lost _ (disk_after earlier) fits.0.line (omega (arith, none))
    ∙ ap (λ (d : PlainDisk). after_line ran.line (block_count ran.line) d) before
    ∙ sym (disk_over-last (lines_of earlier) ran.line empty)

-- ---- where none can be cut

none_armed : (l : Line) (stops : List Stop) → IsUncut l → arming l stops ≡ stops
none_armed (line.Stop after outcome) stops uncut = absurd uncut
none_armed (line.Cut outcome) stops uncut = absurd uncut
none_armed (line.Write lba count tag) stops uncut = refl
none_armed (line.Read lba count) stops uncut = refl
none_armed line.Flush stops uncut = refl
none_armed line.Idle stops uncut = refl
none_armed line.Nothing stops uncut = refl

no_cut : (l : Line) → IsUncut l → cut_count l ≡ 0
no_cut (line.Stop after outcome) uncut = absurd uncut
no_cut (line.Cut outcome) uncut = absurd uncut
no_cut (line.Write lba count tag) uncut = refl
no_cut (line.Read lba count) uncut = refl
no_cut line.Flush uncut = refl
no_cut line.Idle uncut = refl
no_cut line.Nothing uncut = refl

drop_none : (n : ℕ) (stops : List Stop) → n ≡ 0 → stops ≡ [] → drop n stops ≡ []
drop_none n stops zero none = ap (λ k. drop k stops) zero ∙ none

-- without a stop line and a cut line no stop is armed, and power is never cut
pub uncut_lines : (ack : Ack) (run : List Ran) → FitsRun ack run → AreUncut run → (armed_after run ≡ []) × (cuts_in run ≡ 0)
uncut_lines ack [] fits uncut = (refl, refl)
uncut_lines ack (ran ∷ earlier) fits uncut =
    let before = uncut_lines ack earlier fits.1 uncut.1 in
    let long : length (armed_after earlier) ≡ 0 = ap length before.0 in
    let few = fits.0.few in
    let none : ran.cuts ≡ 0 = omega (arith, long, few) in
    let own : cut_count ran.line ≡ 0 = no_cut ran.line uncut.0 in
    let earlier_none : cuts_in earlier ≡ 0 = before.1 in (
      none_armed ran.line _ uncut.0 ∙ drop_none ran.cuts (armed_after earlier) none before.0,
      omega (arith, none, own, earlier_none),
    )

-- and where its count did not rise it was not cut
none_risen : (n old new : ℕ) → RoseAtLeast n old new → (Rose old new → ⊥) → n ≡ 0
none_risen n old new risen stands =
    let below : new < min (old + 1) last_count = lt_of_not-le {n = min (old + 1) last_count} {m = new} stands in
    let rose = risen (omega (arith, below)) in
    omega (arith, below, rose)

-- in both cases there was no cut, neither of the lines nor after them
pub uncut_none : (ack : Ack) (run : List Ran) (cuts old new : ℕ) → FitsRun ack run → cuts ≤ length (armed_after run) → RoseAtLeast (cuts_in run + cuts) old new → AreUncut run ⊎ (Rose old new → ⊥) → (cuts_in run ≡ 0) × (cuts ≡ 0)
uncut_none ack run cuts old new fits few risen (inl uncut) =
    let none = uncut_lines ack run fits uncut in
    let long : length (armed_after run) ≡ 0 = ap length none.0 in
    (none.1, omega (arith, long, few))
uncut_none ack run cuts old new fits few risen (inr stands) =
    let none : cuts_in run + cuts ≡ 0 = none_risen (cuts_in run + cuts) old new risen stands in
    (omega (arith, none), omega (arith, none))
