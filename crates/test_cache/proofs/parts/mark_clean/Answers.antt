use Rattle.mem_rig.specs.Rig.{state_of}
use Rattle.test_cache.proofs.parts.mark_clean.Goals as goal

pub returns : goal.returns
returns c = c.note_clean.ensures.agree (state_of c.args.rig.now).contents c.reserve.ensures.agree
