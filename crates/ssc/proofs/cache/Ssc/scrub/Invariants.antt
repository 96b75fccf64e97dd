use Rattle.std.proofs.Common.{false}
use Rattle.ft_media.specs.Reads.{ReadsFlash}
use Rattle.ssc.specs.CacheState.{entries_of, geometry_of}
use Rattle.ssc.specs.Scrubbed.{IsScrubBelow}
use Rattle.ssc.proofs.cache.Ssc.scrub.Given as goal

-- the media were only read, and the pages so far were looked at
abbrev pub invariant-loop-i : goal.invariant-loop-i
invariant-loop-i g l = record {
  reads : ReadsFlash (g.M.Media.state l.initial.media) (g.M.Media.state l.media) false false;
  so_far : IsScrubBelow (geometry_of l.self) (g.M.Media.state l.initial.media).contents.flash.page (entries_of l.self) l.i l.found;
}
