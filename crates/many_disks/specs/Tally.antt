-- What each disk was asked for, by the lines that were given and the blocks that were taken
use Rattle.std.specs.Coded.{×_prop, Unit-prop, le_prop}
use Rattle.std.specs.Prelude.{◌≡◌, ◌==◌, ◌≤◌, ◌+◌, ◌-◌, ◌*◌, ◌/◌, ℕ, if◌then◌else◌, List, [], ◌∷◌, ◌++◌, length, filter, flat_map, sum_by, ⊤}
use Rattle.std.specs.List.{range_with_len}
use Rattle.std.specs.Int.{w64, to_be_bytes}
use Rattle.sha2.specs.Hashers.{Holds256}
use Rattle.sha2.specs.Sha256.{sha256}
use Rattle.ft_base.specs.PlainDisk.{BlockWrite}
use Rattle.trace_model.specs.declared.answer.Answer.{Answer}
use Rattle.trace_model.specs.declared.answer.Answer.TheVariants as answer
use Rattle.trace_model.specs.declared.line.Line.{Line}
use Rattle.trace_model.specs.declared.line.Line.TheVariants as line
use Rattle.trace_model.specs.Run.{read_count, write_count}
use Rattle.many_disks.specs.declared.tally.Tally.{Tally}
use Rattle.many_disks.specs.Told.{Printed, is_beside}
use Rattle.many_disks.specs.Told.Printed.{Chose, Told}

-- the lines without the writes and reads of the other disks
abbrev pub own_given : ℕ → ℕ → List Line → List Line
own_given share disk [] = []
own_given share disk (line ∷ lines) = if is_beside share disk line then own_given share disk lines else line ∷ own_given share disk lines

-- the blocks that lie on this disk
abbrev pub own_blocks : ℕ → ℕ → List BlockWrite → List BlockWrite
own_blocks share disk blocks = filter (λ w. (w.lba / share) == disk) blocks

-- the bytes of these addresses and their blocks, each address as that of a disk with this first block
abbrev pub own_bytes : ℕ → List BlockWrite → List ℕ
own_bytes start blocks = flat_map (λ w. to_be_bytes w64 (w.lba - start) ++ w.block.0) blocks

-- the end line of a disk, after these lines and blocks
abbrev pub end_by : ℕ → ℕ → List Line → List BlockWrite → Answer
end_by share disk lines blocks = answer.End (sum_by write_count (own_given share disk lines)) (sum_by read_count (own_given share disk lines))
    (length (own_blocks share disk blocks)) (sha256 (own_bytes (disk * share) (own_blocks share disk blocks)))

-- the end of a disk, and of each disk
abbrev pub end_printed : ℕ → ℕ → List Line → List BlockWrite → List Printed
end_printed share disk lines blocks = Chose disk ∷ Told (end_by share disk lines blocks) ∷ []

abbrev pub ends_by : ℕ → ℕ → List Line → List BlockWrite → List Printed
ends_by share disks lines blocks = flat_map (λ disk. end_printed share disk lines blocks) (range_with_len 0 disks)

-- ---- what is counted of each disk

-- nothing was counted
pub record IsUncounted (tally : Tally) : Type 0 where
  pub writes : tally.writes ≡ 0
  pub reads : tally.reads ≡ 0
  pub touched : tally.touched ≡ 0
  pub holds : Holds256 tally.hasher []

-- the lines of a disk were counted, and its blocks were taken
pub record IsTallyOf (share disk : ℕ) (lines : List Line) (blocks : List BlockWrite) (tally : Tally) : Type 0 where
  pub writes : tally.writes ≡ sum_by write_count (own_given share disk lines)
  pub reads : tally.reads ≡ sum_by read_count (own_given share disk lines)
  pub touched : tally.touched ≡ length (own_blocks share disk blocks)
  pub holds : Holds256 tally.hasher (own_bytes (disk * share) (own_blocks share disk blocks))

-- the same of each disk from this one on
abbrev pub AreTalliesOf : ℕ → ℕ → List Line → List BlockWrite → List Tally → Type 0
AreTalliesOf share disk lines blocks [] = ⊤
AreTalliesOf share disk lines blocks (tally ∷ tallies) = IsTallyOf share disk lines blocks tally × AreTalliesOf share (disk + 1) lines blocks tallies

-- of each disk at most this many lines were counted
abbrev pub CountAtMost : ℕ → List Tally → Type 0
CountAtMost n [] = ⊤
CountAtMost n (tally ∷ tallies) = (tally.writes + tally.reads ≤ n) × CountAtMost n tallies

pub CountAtMost-prop : (n : ℕ) (tallies : List Tally) → IsProp (CountAtMost n tallies)
CountAtMost-prop n [] = Unit-prop
CountAtMost-prop n (tally ∷ tallies) = ×_prop le_prop (CountAtMost-prop n tallies)

-- the blocks that a line names lie on one disk
abbrev pub IsOnOneDisk : ℕ → Line → Type 0
IsOnOneDisk share (line.Write lba count tag) = (k : ℕ) → k + 1 ≤ count → (lba + k) / share ≡ lba / share
IsOnOneDisk share (line.Read lba count) = (k : ℕ) → k + 1 ≤ count → (lba + k) / share ≡ lba / share
IsOnOneDisk share other = ⊤

abbrev pub AreOnOneDisk : ℕ → List Line → Type 0
AreOnOneDisk share [] = ⊤
AreOnOneDisk share (line ∷ lines) = IsOnOneDisk share line × AreOnOneDisk share lines
