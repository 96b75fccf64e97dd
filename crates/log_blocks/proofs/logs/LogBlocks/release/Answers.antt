use Rattle.std.proofs.Common.{arith, sym}
use Rattle.log_blocks.proofs.LogsLemmas.{sound_released_open, sound_released_other, released_open, released_other}
use Rattle.log_blocks.proofs.logs.LogBlocks.release.Goals as goal

pub invariant_of-self : goal.invariant_of-self
invariant_of-self c =
    let room = c.self.invariant.1 in
    (sound_released_open _ c.args.self.now c.self.view_is c.args.block _ c.self.invariant.0 c.take_out.ensures.items, omega (arith, c.take_out.ensures.capacity))

pub invariant_of-self-else-eq : goal.invariant_of-self-else-eq
invariant_of-self-else-eq c =
    let room = c.self.invariant.1 in
    (sound_released_other _ c.args.self.now c.self.view_is c.args.block _ c.self.invariant.0 c.take_out.ensures.items (sym c.if-eq.ensures), omega (arith, c.take_out.ensures.capacity))

pub returns-then-eq-clause-released : goal.returns-then-eq-clause-released
returns-then-eq-clause-released c =
    released_open _ c.args.self.now c.self.view_is c.args.block _ c.self.invariant.0 c.take_out.ensures.items (sym c.if-eq.ensures)

pub returns-then-eq-clause-sound : goal.returns-then-eq-clause-sound
returns-then-eq-clause-sound c =
    sound_released_open _ c.args.self.now c.self.view_is c.args.block _ c.self.invariant.0 c.take_out.ensures.items

pub returns-else-eq-clause-released : goal.returns-else-eq-clause-released
returns-else-eq-clause-released c =
    released_other _ c.args.self.now c.self.view_is c.args.block _ c.self.invariant.0 c.take_out.ensures.items (sym c.if-eq.ensures)

pub returns-else-eq-clause-sound : goal.returns-else-eq-clause-sound
returns-else-eq-clause-sound c =
    sound_released_other _ c.args.self.now c.self.view_is c.args.block _ c.self.invariant.0 c.take_out.ensures.items (sym c.if-eq.ensures)
