use Rattle.std.proofs.Common.{sym, ◌∙◌}
use Rattle.held_trace.specs.Sweep.{SweepReads}
use Rattle.trace_replay.proofs.ExitLemmas.{rose_later}
use Rattle.cache_run.proofs.AskLemmas.{ok_any}
use Rattle.trace_sweep.proofs.SweepLemmas.{causes_taken}
use Rattle.trace_sweep.proofs.sweeping.sweep_with.Goals as goal

pub returns-in_err-held-clause-causes : goal.returns-in_err-held-clause-causes
returns-in_err-held-clause-causes g c =
    causes_taken (SweepReads c.size.result (g.I.Source.state c.args.source.now) (g.I.Source.state c.take_trace.new.source))
    c.take_trace.result c.from_residual.result _ c.from_residual.ensures.1 c.in_err-held.was c.take_trace.ensures.ends c.take_trace.ensures.source c.take_trace.ensures.sink c.take_trace.ensures.sink_stays

pub returns-clause-causes : goal.returns-clause-causes
returns-clause-causes g c =
    let causes = c.sweep_lines.ensures.causes in
    record {
      source = λ is. absurd (causes.not_source is);
      sink = λ is. rose_later _ _ _ c.take_trace.ensures.later (causes.sink is);
      flash = causes.flash;
      disk = causes.disk;
      source_stays = ok_any c.sweep_lines.result c.in_ok-held.ensures.source_stays;
      sink_stays = λ not. causes.sink_stays not ∙ c.take_trace.ensures.sink_stays (λ is. (let bad = sym c.in_ok-held.was ∙ is in cc));
      none_failed = causes.none_failed;
    }
