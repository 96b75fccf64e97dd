use Rattle.std.proofs.Common.{false}
use Rattle.ft_media.specs.Reads.{ReadsFlash}
use Rattle.parity_media.specs.Xor.{pages_of, JoinsBut}
use Rattle.parity_media.proofs.rebuild.rebuild.Given as goal

abbrev pub invariant-loop-page : goal.invariant-loop-page
invariant-loop-page g l = record {
  reads : ReadsFlash (g.R.Media.state l.fn.rig) (g.R.Media.state l.rig) false false;
  joins : JoinsBut (pages_of (g.R.Media.state l.fn.rig).contents.flash.page l.at.block) l.at.page l.page l.joined l.joined_spare;
}
