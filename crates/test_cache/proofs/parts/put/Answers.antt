use Rattle.mem_rig.specs.Rig.{state_of}
use Rattle.merge_engine.proofs.TakeLemmas.{agree_map}
use Rattle.test_cache.proofs.parts.put.Goals as goal

pub put_page-requires-clause-is_map : goal.put_page-requires-clause-is_map
put_page-requires-clause-is_map c = agree_map c.append.new.cache (state_of c.append.new.media).contents c.in-Ok.ensures.goes.agree

pub returns : goal.returns
returns c = c.put_page.ensures.agree (state_of c.append.new.media).contents c.pattern.new.out c.in-Ok.ensures.goes.agree c.in-Ok.ensures.place
