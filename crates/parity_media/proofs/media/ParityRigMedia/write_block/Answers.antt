use Rattle.ft_media.specs.State.{failed, lost}
use Rattle.parity_media.proofs.SinceLemmas.{counted_disk}
use Rattle.parity_media.proofs.TiedLemmas.{tied_stays}
use Rattle.parity_media.proofs.media.ParityRigMedia.write_block.Goals as goal

pub invariant_of-self : goal.invariant_of-self
invariant_of-self g c =
    let e = c.write_block-written.ensures in
    record {
      tied = tied_stays (g.R.Media.state c.args.self.now.rig.now).contents (g.R.Media.state c.write_block-written.new.self).contents (lost c.write_block-written.result) c.args.self.now.parities c.args.self.now.tied e.device.shape e.flash e.crash;
      beneath = counted_disk _ _ c.args.self.now.tally c.count_disk.new.self _ _ c.args.self.now.beneath (failed c.write_block-written.result) (lost c.write_block-written.result) c.count_disk.ensures.failed c.count_disk.ensures.cuts e.cause;
    }
