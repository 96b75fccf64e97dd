-- What each device write does to a disk when it is done, failed or cut.
use Rattle.std.specs.Prelude.{ℕ, ⊤}
use Rattle.ft_base.specs.declared.block.Block.{Block}
use Rattle.ft_base.specs.Contents.{Values, flushed}
use Rattle.ft_media.specs.Media.{after_write}
use Rattle.ft_media.specs.Rig.{after_cut}
use Rattle.device_calls.specs.declared.ending.Ending.{Ending}
use Rattle.device_calls.specs.declared.ending.Ending.TheVariants as ending

-- the disk after a block write; a write that failed writes nothing
abbrev pub write_left : Ending → (ℕ → Values) → ℕ → Block → ℕ → Values
write_left ending.Done disk lba block = after_write disk lba block
write_left ending.Failed disk lba block = disk
write_left (ending.Cut outcome) disk lba block = after_cut outcome (after_write disk lba block)
write_left ending.Off disk lba block = disk

-- a block write that is done or cut takes memory
abbrev pub TakesMemory : Ending → Type 0
TakesMemory ending.Done = ⊤
TakesMemory (ending.Cut outcome) = ⊤
TakesMemory ending.Failed = ⊥
TakesMemory ending.Off = ⊥

-- the disk after a flush; a flush that failed flushes nothing
abbrev pub flush_left : Ending → (ℕ → Values) → ℕ → Values
flush_left ending.Done disk = λ lba. flushed (disk lba)
flush_left ending.Failed disk = disk
flush_left (ending.Cut outcome) disk = after_cut outcome disk
flush_left ending.Off disk = disk
