use Rattle.std.proofs.Common.{arith}
use Rattle.mem_rig.proofs.PowerLemmas.{front_goes}
use Rattle.mem_rig.proofs.supply.Supply.drop_front.Goals as goal

pub returns-clause-front : goal.returns-clause-front
returns-clause-front c = front_goes c.args.self.now.room c.rotate_left.new.self c.args.self.now.armed c.requires (omega arith) c.rotate_left.ensures.after
