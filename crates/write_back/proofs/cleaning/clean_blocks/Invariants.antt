use Rattle.std.proofs.Common.{◌≡◌, ◌&&◌, ℕ, true, not, take, Ok}
use Rattle.cached_disk.specs.Kept.{dirty_of}
use Rattle.write_back.specs.Cleaning.{IsFlushed, IsOnDisk, Proceeds, is_among}
use Rattle.write_back.proofs.cleaning.clean_blocks.Given as goal

abbrev pub invariant-loop-lba : goal.invariant-loop-lba
invariant-loop-lba g l =
    let now = g.M.Media.state l.media in
    record {
      proceeds : Proceeds 0 l.fn.disk l.disk (g.M.Media.state l.fn.media) now (Ok tt);
      flushed : IsFlushed now.contents;
      copied : (a : ℕ) → is_among l.lbas a ≡ true → IsOnDisk l.disk now.contents a;
      cleaned : (a : ℕ) → is_among (dirty_of l.disk) a ≡ (is_among (dirty_of l.fn.disk) a && not (is_among (take l.lba-index l.lbas) a));
      flushes : now.counts.disk_flushes ≡ (g.M.Media.state l.fn.media).counts.disk_flushes;
    }
