use Rattle.std.proofs.Common.{◌≡◌, length, false}
use Rattle.ft_media.specs.Drives.{DrivesFlash}
use Rattle.checkpoint.specs.Asked.{IsAskedFor, asked_records}
use Rattle.checkpoint.specs.Counts.{programs_counted}
use Rattle.checkpoint.specs.Regions.{MapsWritten}
use Rattle.checkpoint.proofs.writing.program_maps.Given as goal

abbrev pub invariant-loop-sequence : goal.invariant-loop-sequence
invariant-loop-sequence g l =
    let old = g.M.Media.state l.fn.media in
    let now = g.M.Media.state l.media in
    record {
      maps : MapsWritten l.target.geometry l.target.region l.target.era l.map.records l.sequence old.contents.flash now.contents.flash;
      counts : now.counts ≡ programs_counted l.sequence old.counts;
      drives : DrivesFlash old now false false;
      room : length l.asked ≡ asked_records l.target.geometry;
      asked : IsAskedFor l.target.geometry l.map.records l.sequence l.asked;
    }
