use Rattle.std.proofs.Common.{false}
use Rattle.ft_media.specs.Reads.{ReadsFlash}
use Rattle.recovery.proofs.PlaceLemmas.{Looked}
use Rattle.recovery.proofs.places.look_at_places.Given as goal

-- the places so far are whole, and only reads were made
abbrev pub invariant-loop-lba : goal.invariant-loop-lba
invariant-loop-lba g l = record {
  reads : ReadsFlash (g.M.Media.state l.initial.media) (g.M.Media.state l.media) false false;
  looked : Looked (g.M.Media.state l.initial.media).contents.flash.page l.map.entries l.lba-items l.lba-index;
}
