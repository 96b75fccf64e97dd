use Rattle.std.proofs.Common.{ℕ, ◌∙◌, ap}
use Rattle.ft_base.specs.Contents.{Values}
use Rattle.mem_rig.specs.Rig.{state_of}
use Rattle.test_volumes.proofs.BackLemmas.{alone_may_open}
use Rattle.test_volumes.proofs.back.over_clean.Goals as goal

pub open-requires-clause-agrees : goal.open-requires-clause-agrees
open-requires-clause-agrees c = alone_may_open c.args.options.now (state_of c.hold_clean.new.rig).contents c.args.lba c.block_of-block.result c.in_ok-hold_clean.ensures.alone (ap (λ (f : ℕ → Values). f c.args.lba) c.in_ok-hold_clean.ensures.disk ∙ c.in_ok-put_on_disk.ensures.disk)
