use Rattle.std.proofs.Common.{◌≡◌, false}
use Rattle.ft_media.specs.Drives.{DrivesFlash}
use Rattle.checkpoint.specs.Counts.{erases_counted}
use Rattle.checkpoint.specs.Regions.{AreLost, AreBlank, NextStays}
use Rattle.checkpoint.proofs.erasing.erase_blocks.Given as goal

abbrev pub invariant-loop-i : goal.invariant-loop-i
invariant-loop-i g l =
    let old = g.M.Media.state l.fn.media in
    let now = g.M.Media.state l.media in
    record {
      blank : AreBlank l.first l.i now.contents.flash;
      next : NextStays l.first l.i old.contents.flash now.contents.flash;
      pages : AreLost l.first l.i old.contents.flash.page now.contents.flash.page;
      programs : now.counts.programs ≡ old.counts.programs;
      counts : now.counts ≡ erases_counted l.i old.counts;
      drives : DrivesFlash old now false false;
    }
