use Rattle.cache_model.specs.Stands.{ImageStandsFor}
use Rattle.cache_run.specs.Ends.{told_by}
use Rattle.std.proofs.Common.{◌∙◌}
use Rattle.trace_replay.specs.declared.ended.Ended.TheVariants as ended
use Rattle.trace_replay.proofs.CutsLemmas.{failed_then}
use Rattle.trace_replay.proofs.ExitLemmas.{rose_later}
use Rattle.cache_run.proofs.CostLemmas.{printed_only}
use Rattle.cache_run.proofs.CountLemmas.{unarmed_lines}
use Rattle.trace_sweep.proofs.LineLemmas.{runnable_lines, uncut_lines}
use Rattle.trace_sweep.proofs.SweepLemmas.{causes_counting, ends_broken, ends_counting, ends_last}
use Rattle.trace_sweep.proofs.sweeping.sweep_lines.Goals as goal

pub invariant_of-sweep : goal.invariant_of-sweep
invariant_of-sweep g c = record {
  runnable = runnable_lines c.args.setup.now.options.geometry.size c.args.lines.now c.requires.lines;
  few = c.requires.few;
  unarmed = unarmed_lines c.args.lines.now (uncut_lines c.args.setup.now.options.geometry.size c.args.lines.now c.requires.lines);
}

pub returns-in-Err-clause-ends : goal.returns-in-Err-clause-ends
returns-in-Err-clause-ends g c = ends_broken (g.O.Sink.state c.args.sink.now) (g.O.Sink.state c.args.sink.now) (g.O.Sink.state c.sweep_each.new.sink) c.in_ok-count.count c.in_ok-count.ensures.counted c.in-Err.ensures.goes.counts c.in-Err.ended c.in-Err.ensures.causes.not_trace c.in-Err.ensures.causes.not_source c.in-Err.ensures.on c.in-Err.ensures.part

pub returns-in-Ok-clause-ends : goal.returns-in-Ok-clause-ends
returns-in-Ok-clause-ends g c =
    let has = c.in-Ok.ensures.whole in
    ends_last (g.O.Sink.state c.args.sink.now) (g.O.Sink.state c.sweep_each.new.sink) (g.O.Sink.state c.print_swept.new.sink) c.in_ok-count.count c.in_ok-count.ensures.counted c.in-Ok.ensures.goes.counts c.in-Ok.ensures.on has.0 has.1 has.2 c.print_swept.result c.print_swept.ensures.printed c.print_swept.ensures.part c.print_swept.ensures.only

-- ---- why it ended

pub returns-in_err-count-clause-causes : goal.returns-in_err-count-clause-causes
returns-in_err-count-clause-causes g c =
    causes_counting c.count_lines.result c.from_residual.result _ c.from_residual.ensures.1 c.in_err-count.was c.count_lines.ensures.only c.count_lines.ensures.flash c.count_lines.ensures.disk c.count_lines.ensures.sound

pub returns-in-Err-clause-causes : goal.returns-in-Err-clause-causes
returns-in-Err-clause-causes g c =
    let causes = c.in-Err.ensures.causes in
    let goes = c.count_lines.ensures.goes in
    record {
      not_trace = causes.not_trace;
      not_source = causes.not_source;
      sink = causes.sink;
      flash = λ is. rose_later _ _ _ goes.flash_later (causes.flash is);
      disk = λ is. rose_later _ _ _ goes.disk_later (causes.disk is);
      sink_stays = causes.sink_stays;
      none_failed = λ flash disk. failed_then _ _ _ (c.in_ok-count.ensures.sound (λ is. cc) (λ is. cc)) (causes.none_failed flash disk);
    }

pub returns-in-Ok-clause-causes : goal.returns-in-Ok-clause-causes
returns-in-Ok-clause-causes g c =
    let causes = c.in-Ok.ensures.causes in
    let only = c.print_swept.ensures.only in
    record {
      not_trace = λ is. printed_only c.print_swept.result ended.Trace (λ no. cc) (λ no. cc) only is;
      not_source = λ is. printed_only c.print_swept.result ended.Source (λ no. cc) (λ no. cc) only is;
      sink = λ is. rose_later _ _ _ c.in-Ok.ensures.goes.sink_later (c.print_swept.ensures.rose is);
      flash = λ is. absurd (printed_only c.print_swept.result ended.Flash (λ no. cc) (λ no. cc) only is);
      disk = λ is. absurd (printed_only c.print_swept.result ended.Disk (λ no. cc) (λ no. cc) only is);
      sink_stays = λ not. c.print_swept.ensures.stays not ∙ causes.sink_stays (λ is. cc);
      none_failed = λ _ _. failed_then _ _ _ (c.in_ok-count.ensures.sound (λ is. cc) (λ is. cc)) (causes.none_failed (λ is. cc) (λ is. cc));
    }

pub returns-in_err-count-clause-ends : goal.returns-in_err-count-clause-ends
returns-in_err-count-clause-ends g c =
    ends_counting (told_by c.args.setup.now) c.args.outcome c.args.lines.now (ImageStandsFor c.args.setup.now.options.geometry) (g.O.Sink.state c.args.sink.now) c.count_lines.result _ c.in_err-count.was c.count_lines.ensures.only c.count_lines.ensures.on c.count_lines.ensures.memory c.from_residual.result c.from_residual.ensures.1
