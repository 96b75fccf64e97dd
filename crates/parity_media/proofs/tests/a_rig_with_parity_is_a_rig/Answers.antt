use Rattle.std.proofs.Common.{ap}
use Rattle.ft_media.specs.State.{State}
use Rattle.parity_media.proofs.tests.a_rig_with_parity_is_a_rig.Goals as goal

pub program-requires-clause-ready : goal.program-requires-clause-ready
program-requires-clause-ready g c = ap (λ (s : State). s.contents.flash.next 0) c.in_ok-fit.ensures.ok
