use Rattle.std.proofs.Common.{◌≡◌, false}
use Rattle.ft_media.specs.Reads.{ReadsFlash}
use Rattle.mapping.specs.Room.{HasNoMoreRoom, KeepsFewBuckets}
use Rattle.op_log.specs.Stamps.{stamped}
use Rattle.op_log.proofs.WalkLemmas.{RolledSoFar}
use Rattle.op_log.proofs.walk.roll.Given as goal

-- the pages so far, and they were only read
abbrev pub invariant-loop-i : goal.invariant-loop-i
invariant-loop-i g l = record {
  geometry : l.map.geometry ≡ l.geometry;
  rolled : RolledSoFar l.geometry l.region (stamped l.format l.era) (g.M.Media.state l.fn.media).contents.flash.page l.fn.map.entries l.i l.map.entries;
  room : HasNoMoreRoom l.fn.map l.map;
  few : KeepsFewBuckets l.fn.map l.map;
  reads : ReadsFlash (g.M.Media.state l.fn.media) (g.M.Media.state l.media) false false;
}
