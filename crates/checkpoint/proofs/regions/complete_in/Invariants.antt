use Rattle.std.proofs.Common.{◌≤◌, ◌*◌, false}
use Rattle.ft_media.specs.Reads.{ReadsFlash}
use Rattle.checkpoint.proofs.WalkLemmas.{WalkedTo}
use Rattle.ft_base.specs.Layout.{most_page_records}
use Rattle.checkpoint.proofs.regions.complete_in.Given as goal

abbrev pub invariant-loop-sequence : goal.invariant-loop-sequence
invariant-loop-sequence g l =
    let old = g.M.Media.state l.fn.media in
    let now = g.M.Media.state l.media in
    record {
      walked : WalkedTo l.geometry l.region old.contents.flash.page l.walk.stamp l.sequence l.walk.records;
      few : l.walk.records ≤ most_page_records * l.sequence;
      reads : ReadsFlash old now false false;
    }
