use Rattle.std.proofs.Common.{◌≡◌, ℕ, true, take, Ok}
use Rattle.write_back.specs.Cleaning.{IsOnDisk, Proceeds, is_among}
use Rattle.write_back.proofs.cleaning.copy_blocks.Given as goal

abbrev pub invariant-loop-lba : goal.invariant-loop-lba
invariant-loop-lba g l =
    let now = g.M.Media.state l.media in
    record {
      proceeds : Proceeds l.lba-index l.fn.disk l.disk (g.M.Media.state l.fn.media) now (Ok tt);
      same : l.disk ≡ record l.fn.disk { down = l.disk.down };
      copied : (a : ℕ) → is_among (take l.lba-index l.lbas) a ≡ true → IsOnDisk l.disk now.contents a;
      flushes : now.counts.disk_flushes ≡ (g.M.Media.state l.fn.media).counts.disk_flushes;
    }
