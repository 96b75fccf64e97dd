-- What a disk in memory contains.
use Rattle.std.specs.Prelude.{◌≡◌, ◌<◌, ◌≤◌, ◌^◌, ℕ}
use Rattle.ft_base.specs.Count.{last_count}
use Rattle.ft_base.specs.Contents.{Values}
use Rattle.device_calls.specs.declared.calls.Calls.{Calls}
use Rattle.disk_model.specs.declared.disk.MemDisk.{MemDisk}
use Rattle.disk_model.specs.StoreValues.{store_values}

-- how many blocks it has
abbrev pub size_of : MemDisk → ℕ
size_of disk = disk.size

-- for each address the values since the last flush
abbrev pub disk_lists : MemDisk → ℕ → Values
disk_lists disk = store_values disk.store

-- its calls, and how many of them failed
abbrev pub calls_of : MemDisk → Calls
calls_of disk = disk.calls

-- the reads, the writes and the flushes that were done
abbrev pub reads_done : MemDisk → ℕ
reads_done disk = disk.reads

abbrev pub writes_done : MemDisk → ℕ
writes_done disk = disk.writes

abbrev pub flushes_done : MemDisk → ℕ
flushes_done disk = disk.flushes

-- its calls and counts stay
pub record SameNumbers (old new : MemDisk) : Type 0 where
  pub calls : calls_of new ≡ calls_of old
  pub reads : reads_done new ≡ reads_done old
  pub writes : writes_done new ≡ writes_done old
  pub flushes : flushes_done new ≡ flushes_done old

-- the numbers fit their types
pub size_small : (disk : MemDisk) → size_of disk < 2 ^ 64
size_small disk = disk.size_small

pub reads_small : (disk : MemDisk) → reads_done disk ≤ last_count
reads_small disk = disk.reads_small

pub writes_small : (disk : MemDisk) → writes_done disk ≤ last_count
writes_small disk = disk.writes_small

pub flushes_small : (disk : MemDisk) → flushes_done disk ≤ last_count
flushes_small disk = disk.flushes_small
