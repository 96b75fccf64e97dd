use Rattle.std.proofs.Common.{◌≡◌, true, Err, sym, subst, ap, arith}
use Rattle.ft_base.specs.Count.{bumped}
use Rattle.ft_media.specs.declared.rig.Counts.{Counts}
use Rattle.ft_volume.specs.declared.volume.VolumeError.{VolumeError}
use Rattle.write_back.specs.Cleaning.{Proceeds}
use Rattle.write_back.proofs.CopyLemmas.{flush_done, flush_on_disk, flush_refused, flush_settles}
use Rattle.write_back.proofs.cleaning.flush_copies.Goals as goal

pub returns-in-Ok-clause-proceeds : goal.returns-in-Ok-clause-proceeds
returns-in-Ok-clause-proceeds g c =
    let e = c.in-Ok.ensures in
    flush_done c.args.disk.now (g.M.Media.state c.args.media.now) (g.M.Media.state c.flush_disk.new.self) c.requires.may.left c.requires.may.up c.requires.settled e.values (record { flash = e.flash; cause = e.cause; device = e.device; passes = e.passes }) e.ok e.counts

pub returns-in-Ok-clause-flushes : goal.returns-in-Ok-clause-flushes
returns-in-Ok-clause-flushes g c = let one : (g.M.Media.state c.flush_disk.new.self).counts.disk_flushes ≡ bumped (g.M.Media.state c.args.media.now).counts.disk_flushes = ap (λ (x : Counts). x.disk_flushes) c.in-Ok.ensures.counts in omega (arith, one)

pub returns-in-Err-clause-flushes : goal.returns-in-Err-clause-flushes
returns-in-Err-clause-flushes g c = let same = ap (λ (x : Counts). x.disk_flushes) c.in-Err.ensures.counts in omega (arith, same)

pub returns-in-Ok-clause-flushed : goal.returns-in-Ok-clause-flushed
returns-in-Ok-clause-flushed g c =
    let e = c.in-Ok.ensures in
    flush_settles c.args.disk.now (g.M.Media.state c.args.media.now) (g.M.Media.state c.flush_disk.new.self) c.requires.may.left c.requires.may.up c.requires.settled e.values (record { flash = e.flash; cause = e.cause; device = e.device; passes = e.passes }) e.ok

pub returns-in-Ok-clause-copied : goal.returns-in-Ok-clause-copied
returns-in-Ok-clause-copied g c =
    let e = c.in-Ok.ensures in
    flush_on_disk c.args.disk.now (g.M.Media.state c.args.media.now) (g.M.Media.state c.flush_disk.new.self) c.requires.may.left c.requires.may.up c.requires.settled e.values (record { flash = e.flash; cause = e.cause; device = e.device; passes = e.passes }) e.ok

pub returns-in-Err-clause-proceeds : goal.returns-in-Err-clause-proceeds
returns-in-Err-clause-proceeds g c =
    let e = c.in-Err.ensures in
    subst (λ (r : VolumeError). Proceeds 0 c.args.disk.now (record c.args.disk.now { down = true }) (g.M.Media.state c.args.media.now) (g.M.Media.state c.flush_disk.new.self) (Err r)) (sym c.disk_error.ensures)
    (flush_refused c.args.disk.now (g.M.Media.state c.args.media.now) (g.M.Media.state c.flush_disk.new.self) c.requires.may.left c.requires.may.up c.requires.settled e.values c.in-Err.error (λ is. e.memory (ap Err is)) (record { flash = e.flash; cause = e.cause; device = e.device; passes = e.passes }) e.counts)
