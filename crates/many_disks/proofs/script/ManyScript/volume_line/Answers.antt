use Rattle.std.proofs.Common.{arith}
use Rattle.many_disks.proofs.ScriptLemmas.{start_within}
use Rattle.many_disks.proofs.script.ManyScript.volume_line.Goals as goal

pub shifted-requires-clause-within : goal.shifted-requires-clause-within
shifted-requires-clause-within g c =
    let self = c.args.self.now in
    let within = start_within self.chosen self.share self.disks self.size self.choice self.within in
    let sized = self.sized in
    omega (arith, within, sized)
