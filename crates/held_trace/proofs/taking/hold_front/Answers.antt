use Rattle.std.proofs.Common.{ℕ, true, sym, ap, ◌∙◌}
use Rattle.held_trace.specs.Sweep.{sweep_readings}
use Rattle.held_trace.proofs.SweepLemmas.{ok_weaker}
use Rattle.held_trace.proofs.taking.hold_front.Goals as goal

pub returns-in-End-clause-held : goal.returns-in-End-clause-held
returns-in-End-clause-held c = ok_weaker c.hold_whole.result _ _ (λ t is. (c.in-End.is, ap (λ (n : ℕ). sweep_readings n true c.args.front.now) (sym c.new-held.ensures.size) ∙ is)) c.hold_whole.ensures.held
