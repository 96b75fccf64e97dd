use Rattle.write_through.proofs.VolumeLemmas.{cut_one}
use Rattle.write_through.proofs.volume.WriteThroughVolume.cut.Goals as goal

pub returns-clause-disk : goal.returns-clause-disk
returns-clause-disk g c = λ bases any. cut_one c.args.self.now.disk c.cut.new.self (g.R.Media.state c.cut.new.rig).contents bases c.cut.ensures.same (c.cut.ensures.disk bases any)
