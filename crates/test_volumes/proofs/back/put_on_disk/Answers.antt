use Rattle.std.proofs.Common.{◌∙◌, ap}
use Rattle.ft_base.specs.Contents.{flushed, written}
use Rattle.ft_base.proofs.Images.{set_here}
use Rattle.mem_rig.specs.Rig.{state_of}
use Rattle.test_volumes.proofs.back.put_on_disk.Goals as goal

pub returns-clause-disk : goal.returns-clause-disk
returns-clause-disk c =
    let disk = (state_of c.args.rig.now).contents.disk in
    c.in_ok-flush_disk.ensures.ok c.args.lba ∙ ap flushed (c.in_ok-write_block.ensures.ok c.args.lba ∙ set_here disk c.args.lba (written (disk c.args.lba) c.args.block.now))
