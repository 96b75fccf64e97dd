use Rattle.std.proofs.Common.{true, refl}
use Rattle.cached_disk.specs.Kept.{told_of}
use Rattle.cached_disk.proofs.ReadLemmas.{owes_down}
use Rattle.cached_disk.proofs.OpenedLemmas.{left_off, one_off}
use Rattle.cached_disk.proofs.disk.CachedDisk.cut.Goals as goal

pub returns-clause-left : goal.returns-clause-left
returns-clause-left g c = left_off c.args.self.now (g.R.Media.state c.args.rig.now) (g.R.Media.state c.cut.new.self) (g.R.Media.state c.power_on.new.self) c.args.outcome c.requires c.cut.ensures c.power_on.ensures

pub returns-clause-disk : goal.returns-clause-disk
returns-clause-disk g c = one_off c.args.self.now (g.R.Media.state c.args.rig.now) (g.R.Media.state c.cut.new.self) (g.R.Media.state c.power_on.new.self) c.args.outcome c.requires c.cut.ensures c.power_on.ensures (told_of c.args.self.now)

pub returns-clause-owes : goal.returns-clause-owes
returns-clause-owes g c = owes_down (record c.args.self.now { down = true }) (g.R.Media.state c.power_on.new.self).contents refl
