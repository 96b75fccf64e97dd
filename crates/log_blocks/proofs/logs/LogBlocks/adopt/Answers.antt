use Rattle.std.proofs.Common.{arith}
use Rattle.log_blocks.proofs.LogsLemmas.{sound_adopted}
use Rattle.log_blocks.proofs.logs.LogBlocks.adopt.Goals as goal

pub invariant_of-self : goal.invariant_of-self
invariant_of-self c =
    let room = c.self.invariant.1 in
    (sound_adopted _ c.args.self.now c.self.view_is c.args.block c.push_reserved.new.self.items c.self.invariant.0 c.push_reserved.ensures.items c.requires.fresh c.requires.few, omega (arith, c.push_reserved.ensures.capacity))

pub returns-clause-sound : goal.returns-clause-sound
returns-clause-sound c =
    sound_adopted _ c.args.self.now c.self.view_is c.args.block c.push_reserved.new.self.items c.self.invariant.0 c.push_reserved.ensures.items c.requires.fresh c.requires.few
