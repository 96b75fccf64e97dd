use Rattle.std.proofs.Common.{refl}
use Rattle.parity_media.specs.Kept.{parity_blocks, parity_pages}
use Rattle.parity_media.proofs.TiedLemmas.{full_parity}
use Rattle.parity_media.proofs.rig.ParityRig.parity_laws.Goals as goal

pub returns-clause-full : goal.returns-clause-full
returns-clause-full g c =
    let s = c.args.self.now in
    λ b last many ready written.
    full_parity (parity_blocks s.parities) (parity_pages s.parities) (g.R.Media.state s.rig.now).contents s.parities refl refl s.tied (g.met.R.Media.blank_ahead s.rig.now) b last many ready written
