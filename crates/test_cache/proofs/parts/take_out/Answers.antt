use Rattle.mem_rig.specs.Rig.{state_of}
use Rattle.merge_engine.proofs.TakeLemmas.{agree_map}
use Rattle.test_cache.proofs.parts.take_out.Goals as goal

pub put_out-requires-clause-is_map : goal.put_out-requires-clause-is_map
put_out-requires-clause-is_map c = agree_map c.reserve.new.parts (state_of c.args.rig.now).contents c.reserve.ensures.agree

pub returns : goal.returns
returns c = c.put_out.ensures.agree (state_of c.args.rig.now).contents c.reserve.ensures.agree
