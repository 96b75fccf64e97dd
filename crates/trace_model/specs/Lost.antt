-- The block writes that a power cut lost, found by reading back.
use Rattle.std.specs.Prelude.{◌≡◌, ◌≢◌, ◌≤◌, ◌<◌, ◌+◌, ◌-◌, ◌==◌, ◌&&◌, ◌||◌, ◌↔◌, ℕ, suc, true, Bool, List, [], ◌∷◌, ◌++◌, length, drop, if◌then◌else◌}
use Rattle.std.specs.List.{list_any}
use Rattle.ft_base.specs.PlainDisk.{BlockWrite, PlainDisk}
use Rattle.ft_base.specs.Pattern.{pat}
use Rattle.trace_model.specs.declared.line.Line.TheVariants as line
use Rattle.trace_model.specs.declared.lost.Looked.{Looked}
use Rattle.trace_model.specs.declared.ran.Ran.{Ran}
use Rattle.trace_model.specs.Run.{disk_written, with_blocks, writes_after}
use Rattle.trace_model.specs.Fits.{armed_after, kept_since_flush}
use Rattle.trace_model.specs.SoFar.{as_ran}

-- one of these block writes is to the address
abbrev pub is_written : List BlockWrite → ℕ → Bool
is_written writes a = list_any (λ w. w.lba == a) writes

-- the disk reads as if the `lost` newest of these block writes were lost; the newest comes first. At each address that
-- the others wrote, the disk has the block of the newest of them
abbrev pub LooksLost : List BlockWrite → PlainDisk → ℕ → Type 0
LooksLost writes disk lost = (a : ℕ) → is_written (drop lost writes) a ≡ true → disk a ≡ disk_written (drop lost writes) a

-- the disk reads as if this many were lost, and not as if fewer were
pub record IsLeastLost (writes : List BlockWrite) (disk : PlainDisk) (lost : ℕ) : Type 0 where
  pub looks : LooksLost writes disk lost
  pub least : (n : ℕ) → n < lost → LooksLost writes disk n → ⊥

-- ---- found by one look at each block write

-- of each block write the address, and whether the disk has its block there
abbrev pub AreLooked : List Looked → List BlockWrite → PlainDisk → Type 0
AreLooked [] [] disk = Unit {0}
AreLooked [] (w ∷ ws) disk = ⊥
AreLooked (l ∷ ls) [] disk = ⊥
AreLooked (l ∷ ls) (w ∷ ws) disk = ((l.lba ≡ w.lba) × (l.shows ≡ true ↔ disk w.lba ≡ w.block)) × AreLooked ls ws disk

-- each block is there, or a newer block write is to its address
abbrev pub look_right : List ℕ → List Looked → Bool
look_right named [] = true
look_right named (l ∷ ls) = (list_any (λ n. n == l.lba) named || l.shows) && look_right (l.lba ∷ named) ls

-- the first number of lost block writes with which the others look right
abbrev pub first_right : List Looked → ℕ
first_right [] = 0
first_right (l ∷ ls) = if look_right [] (l ∷ ls) then 0 else suc (first_right ls)

-- a write line was cut after these lines. `recent` are the newest block writes before it, and the disk lacks the
-- newest of all: `truth` of them
pub record WasCut (lba count tag cuts : ℕ) (earlier : List Ran) (recent older : List BlockWrite) (disk : PlainDisk) : Type 0 where
  pub some : 1 ≤ cuts
  pub armed : cuts ≤ length (armed_after earlier)
  pub all : writes_after earlier ≡ recent ++ older
  pub few : length recent ≤ 126
  pub since : length recent ≤ kept_since_flush earlier
  pub truth : ℕ
  pub within : truth ≤ count + length recent
  pub is : (a : ℕ) → disk a ≡ disk_written (drop truth (with_blocks lba tag count recent) ++ older) a

-- the write line that was cut, when the cut lost this many block writes: its own first, and then earlier ones
abbrev pub cut_write : ℕ → ℕ → ℕ → ℕ → ℕ → Ran
cut_write lba count tag cuts lost = as_ran (line.Write lba count tag) cuts (count - lost) (lost - count)

-- ---- found by the first blocks of a request

-- the address is one of `n` addresses from `lba` on
abbrev pub IsFrom : ℕ → ℕ → ℕ → Type 0
IsFrom lba n a = (i : ℕ) × (i < n) × (a ≡ lba + i)

-- the first `f` blocks of a request are there, and the next one is not
pub record IsFront (lba tag count f : ℕ) (disk : PlainDisk) : Type 0 where
  pub most : f ≤ count
  pub there : (i : ℕ) → i < f → disk (lba + i) ≡ pat (lba + i) tag
  pub not_next : f < count → disk (lba + f) ≢ pat (lba + f) tag

-- at each other address, the blocks that earlier block writes left are there
abbrev pub IsRightBeside : ℕ → ℕ → List BlockWrite → PlainDisk → Type 0
IsRightBeside lba f ws disk = (a : ℕ) → is_written ws a ≡ true → (IsFrom lba f a → ⊥) → disk a ≡ disk_written ws a
