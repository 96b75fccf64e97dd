use Rattle.std.proofs.Common.{rules}
use Rattle.mem_rig.specs.Rig.{state_of}
use Rattle.test_cache.proofs.PartsLemmas.{formatted_agree}
use Rattle.test_cache.proofs.parts.parts_on.Goals as goal

pub returns-in-Ok : goal.returns-in-Ok
returns-in-Ok c =
    formatted_agree c.in-Ok.parts (state_of c.args.rig.now).contents c.args.geometry.now c.in-Ok.ensures.of_one c.in-Ok.ensures.geometry c.requires.shape (search rules) c.in-Ok.ensures.log c.requires.begins c.in-Ok.ensures.roles
    c.in-Ok.ensures.log_blocks.sound c.in-Ok.ensures.log_blocks.closed
