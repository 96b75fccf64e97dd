use Rattle.std.proofs.Common.{ap}
use Rattle.ft_media.specs.State.{State}
use Rattle.test_parity.proofs.filled.fit_and_fill.Goals as goal

pub loop-page-init : goal.loop-page-init
loop-page-init g c = record {
  ready = ap (λ (s : State). s.contents.flash.next 0) c.in_ok-fit.ensures.ok;
  shape = ap (λ (s : State). s.contents.shape) c.in_ok-fit.ensures.ok;
}
