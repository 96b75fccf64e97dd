use Rattle.std.proofs.Common.{ap}
use Rattle.cached_disk.specs.declared.disk.CachedDisk.{CachedDisk}
use Rattle.write_through.proofs.VolumeLemmas.{through_comes}
use Rattle.write_through.proofs.volume.WriteThrough.bring_up.Goals as goal

pub returns-clause-comes : goal.returns-clause-comes
returns-clause-comes g c = through_comes c.args.self.now.disk c.bring_up.new.self (g.M.Media.state c.args.media.now) (g.M.Media.state c.bring_up.new.media) c.bring_up.result c.requires.mode c.bring_up.ensures.left c.bring_up.ensures.reopens

pub returns-clause-same : goal.returns-clause-same
returns-clause-same g c = λ up. let same = c.bring_up.ensures.reopens.same up in (ap (λ (disk : CachedDisk). record c.args.self.now { disk = disk }) same.0, same.1)
