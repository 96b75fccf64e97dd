use Rattle.std.proofs.Common.{sym, subst}
use Rattle.ft_volume.specs.Opening.{ImageIs}
use Rattle.ft_volume.specs.Volume.{StandForOneOf}
use Rattle.cached_disk.specs.declared.disk.CachedDisk.{CachedDisk}
use Rattle.cached_disk.specs.Kept.{told_of}
use Rattle.write_back.proofs.volume.WriteBackVolume.cut.Goals as goal

pub returns-clause-disk : goal.returns-clause-disk
returns-clause-disk g c = λ bases any.
    subst (λ (v : CachedDisk). StandForOneOf (ImageIs (told_of v)) (g.R.Media.state c.cut.new.rig).contents bases) (sym c.cut.ensures.same) (c.cut.ensures.disk bases any)
