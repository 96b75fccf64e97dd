use Rattle.std.proofs.Common.{◌+◌, ◌∙◌, ap, drop, min}
use Rattle.trace_model.specs.Fits.{armed_after}
use Rattle.trace_model.specs.Plain.{kept_in, safe_after}
use Rattle.trace_model.proofs.FitLemmas.{so_far-more}
use Rattle.trace_model.proofs.fitting.SoFar.run.Goals as goal

pub returns-clause-so_far : goal.returns-clause-so_far
returns-clause-so_far c = λ earlier is.
    so_far-more c.args.ran.now earlier c.args.self.now
    (record { kept = c.run_line.new.kept; safe = c.safe_after-self.result; armed = c.saturating_sub.result + c.stops_of.result; may = c.may_after-self.result })
    (kept_in c.lose.new.self) c.min-self.result c.stops_of.result is c.lose.ensures (c.min-self.ensures ∙ ap (min c.args.self.now.safe) c.count.ensures) c.in_ok-run_line.ensures
    (c.safe_after-self.ensures ∙ ap (safe_after c.args.ran.now.line c.min-self.result) c.count-2.ensures) (ap (λ n. n + c.stops_of.result) c.saturating_sub.ensures) (c.stops_of.ensures.armed (drop c.args.ran.now.cuts (armed_after earlier))) c.may_after-self.ensures
