-- How room is made in the table for a group that is written.
use Rattle.std.specs.Prelude.{◌≡◌, ◌⊎◌, ◌<◌, ◌≤◌, ◌+◌, ℕ, true, length, if◌then◌else◌, Result, OnOk}
use Rattle.ft_base.specs.Table.{Table, is_full, last_size, without_last}
use Rattle.ft_media.specs.Media.{program_counted}
use Rattle.ft_media.specs.Passes.{ProgramsPages}
use Rattle.ft_media.specs.State.{State}
use Rattle.ft_base.specs.Layout.{page_records}
use Rattle.ft_base.specs.declared.told.Ack.{Ack}
use Rattle.ft_base.specs.declared.told.Ack.TheVariants.{Write as AtWrite, Flush as AtFlush}
use Rattle.dirty_table.specs.Groups.{Groups, has}
use Rattle.ssc.specs.declared.cache.Ssc.{Ssc}
use Rattle.ssc.specs.CacheState.{geometry_of, log_room, open_room, pending}

-- the group is in the table, or there is room for it
abbrev pub HasTableRoom : Groups → ℕ → Type 0
HasTableRoom table group = (has group table.order ≡ true) ⊎ (length table.order < table.limit)

-- the table with at most c groups, once this group has room in it
abbrev pub room_made : ℕ → ℕ → Table → Table
room_made c group t = if is_full c group t then without_last t else t

-- the blocks that go to the disk to make room
abbrev pub backs_made : ℕ → ℕ → Table → ℕ
backs_made c group t = if is_full c group t then last_size t else 0

-- the flushes of the disk to make room
abbrev pub flushes_made : ℕ → ℕ → Table → ℕ
flushes_made c group t = if is_full c group t then 1 else 0

-- once a block was put in the cache, at least one page was programmed. If the open log block had room, it was exactly two
-- if the write is committed and the log had room, and exactly one if the write waits and the buffer had room
pub record CostsBlock {E : Type 0} (ack : Ack) (old : Ssc) (before after : State) (result : Result (Unit {0}) E) : Type 0 where
  pub two_programs : ack ≡ AtWrite → OnOk result (1 ≤ open_room old → 1 ≤ log_room old
      → after.counts ≡ program_counted (program_counted before.counts))
  pub one_program : ack ≡ AtFlush → OnOk result (1 ≤ open_room old → length (pending old) + 2 ≤ page_records (geometry_of old)
      → after.counts ≡ program_counted before.counts)
  pub programs : OnOk result (ProgramsPages 1 before after)
