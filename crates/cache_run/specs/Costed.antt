-- What cost prints, and what it leaves.
use Rattle.std.specs.Prelude.{◌≡◌, ◌⊎◌, ◌<◌, ◌+◌, ◌++◌, ℕ, Bool, List, [], length, take, codes, decimal, Result, Ok, Err}
use Rattle.std.specs.Io.KnownBytes.{Appends}
use Rattle.ft_base.specs.Contents.{Image}
use Rattle.ft_base.specs.PlainDisk.{PlainDisk}
use Rattle.ft_base.specs.StreamState.{SinkState}
use Rattle.ft_base.specs.Told.{Told}
use Rattle.ft_media.specs.declared.rig.Counts.{Counts}
use Rattle.ft_media.specs.State.{State}
use Rattle.trace_model.specs.declared.ran.Ran.{Ran}
use Rattle.trace_model.specs.Readings.{Reading}
use Rattle.trace_model.specs.Run.{lines_of, told}
use Rattle.trace_model.specs.Text.{line_feed}
use Rattle.trace_replay.specs.declared.ended.Ended.{Ended}
use Rattle.trace_replay.specs.declared.ended.Ended.TheVariants as ended
use Rattle.trace_replay.specs.Asked.{RunsLines, asked_reads, asked_writes, power_cuts}
use Rattle.trace_replay.specs.Commands.{TellsRefusal, TellsRefusalPart}
use Rattle.trace_replay.specs.Theorem.{EndsEarly}
use Rattle.cache_run.specs.declared.costing.Cost.{Cost}
use Rattle.cache_run.specs.Counted.{IsMadeOn}

-- the four lines of a cost that tell what its lines asked for, and what the flash did
unfoldable pub flash_text : Cost → List ℕ
flash_text c = codes "blocks written " ++ (decimal c.written ++ (line_feed
    ++ (codes "blocks read " ++ (decimal c.read ++ (line_feed
    ++ (codes "flash programs " ++ (decimal c.programs ++ (line_feed
    ++ (codes "flash erases " ++ (decimal c.erases ++ line_feed))))))))))

-- the four lines behind them, which tell what the disk did, and how often power was cut
unfoldable pub disk_text : Cost → List ℕ
disk_text c = codes "disk reads " ++ (decimal c.disk_reads ++ (line_feed
    ++ (codes "disk writes " ++ (decimal c.disk_writes ++ (line_feed
    ++ (codes "disk flushes " ++ (decimal c.disk_flushes ++ (line_feed
    ++ (codes "power cuts " ++ (decimal c.cuts ++ line_feed))))))))))

-- the eight lines of a cost
unfoldable pub cost_text : Cost → List ℕ
cost_text c = flash_text c ++ disk_text c

-- the blocks that these lines write and read, how much each count of the rig rose, and how often power was cut
pub record IsCostOf (run : List Ran) (before after : Counts) (cost : Cost) : Type 0 where
  pub written : cost.written ≡ asked_writes (lines_of run)
  pub read : cost.read ≡ asked_reads (lines_of run)
  pub programs : after.programs ≡ before.programs + cost.programs
  pub erases : after.erases ≡ before.erases + cost.erases
  pub disk_reads : after.disk_reads ≡ before.disk_reads + cost.disk_reads
  pub disk_writes : after.disk_writes ≡ before.disk_writes + cost.disk_writes
  pub disk_flushes : after.disk_flushes ≡ before.disk_flushes + cost.disk_flushes
  pub cuts : cost.cuts ≡ power_cuts (told run)

-- the text of such a cost was printed, and nothing else
pub record TellsCost (old new : SinkState) (first now : State) (run : List Ran) : Type 0 where
  pub cost : Cost
  pub is : IsCostOf run first.counts now.counts cost
  pub printed : Appends old.taken new.taken (cost_text cost)

-- a front of it, not all
pub record TellsCostFront (old new : SinkState) (first now : State) (run : List Ran) : Type 0 where
  pub cost : Cost
  pub is : IsCostOf run first.counts now.counts cost
  pub count : ℕ
  pub short : count < length (cost_text cost)
  pub printed : Appends old.taken new.taken (take count (cost_text cost))

-- what was printed if it ended so behind the last line
abbrev pub TellsCostPart : Ended → SinkState → SinkState → State → State → List Ran → Type 0
TellsCostPart ended.Sink old new first now run = TellsCostFront old new first now run
TellsCostPart ended.Memory old new first now run = Appends old.taken new.taken []
TellsCostPart other old new first now run = ⊥

-- how a run ended of which the cost is told, and which gave this result: with the text of its cost; as any run that
-- prints a refusal alone; or behind its last line, with a front of that text
module _ (o : Told) (reads : ℕ → List Reading → Bool → Type 0) (old new : SinkState) (stands : Image → PlainDisk → Type 0)
    (first now : State) where
  abbrev pub EndsCost : Result (Unit {0}) Ended → Type 0
  EndsCost (Ok done) = RunsLines o reads (λ run answers. TellsCost old new first now run) stands first now
  EndsCost (Err e) = EndsEarly o reads (TellsRefusal old new) (TellsRefusalPart old new) stands first now e
      ⊎ RunsLines o reads (λ run answers. TellsCostPart e old new first now run) stands first now

-- and that from the end of the creation of its volume on, which read no block of the disk and wrote none
pub record EndsCosted (o : Told) (reads : ℕ → List Reading → Bool → Type 0) (x y : SinkState) (stands : Image → PlainDisk → Type 0)
    (old now : State) (result : Result (Unit {0}) Ended) : Type 0 where
  pub made : State
  pub new : IsMadeOn o old made
  pub unread : made.counts.disk_reads ≡ old.counts.disk_reads
  pub unwritten : made.counts.disk_writes ≡ old.counts.disk_writes
  pub ends : EndsCost o reads x y stands made now result
