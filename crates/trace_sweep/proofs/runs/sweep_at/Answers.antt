use Rattle.std.proofs.Common.{sym, ap, ◌∙◌}
use Rattle.cache_model.specs.Stands.{ImageStandsFor}
use Rattle.cache_run.specs.Ends.{told_by}
use Rattle.trace_sweep.proofs.RunLemmas.{causes_printed, causes_then, run_on, run_part, run_whole, streams_printed}
use Rattle.trace_replay.proofs.CutsLemmas.{none_failed}
use Rattle.trace_sweep.proofs.runs.sweep_at.Goals as goal

pub returns-clause-whole : goal.returns-clause-whole
returns-clause-whole g c =
    run_whole (told_by c.args.sweep.now.setup.now) c.args.sweep.now.outcome c.args.sweep.now.lines.now c.args.number
    (g.O.Sink.state c.args.sink.now) (g.O.Sink.state c.print_at.new.sink) (g.O.Sink.state c.replay_lines.new.sink) c.print_at.new.sink c.replay_lines.new.sink (λ same. ap g.O.Sink.state same)
    (ImageStandsFor c.args.sweep.now.setup.now.options.geometry) (g.R.Media.state c.args.rig.now) (g.R.Media.state c.replay_lines.new.rig) c.in_ok-print_at.ensures.printed
    c.replay_lines.result c.replay_lines.ensures.ends

pub returns-clause-part : goal.returns-clause-part
returns-clause-part g c =
    run_part (told_by c.args.sweep.now.setup.now) c.args.sweep.now.outcome c.args.sweep.now.lines.now c.args.number
    (g.O.Sink.state c.args.sink.now) (g.O.Sink.state c.print_at.new.sink) (g.O.Sink.state c.replay_lines.new.sink) c.print_at.new.sink c.replay_lines.new.sink (λ same. ap g.O.Sink.state same)
    (ImageStandsFor c.args.sweep.now.setup.now.options.geometry) (g.R.Media.state c.args.rig.now) (g.R.Media.state c.replay_lines.new.rig) c.in_ok-print_at.ensures.printed
    c.replay_lines.result c.replay_lines.ensures.ends c.replay_lines.ensures.causes.not_trace c.replay_lines.ensures.causes.not_source

pub returns-clause-on : goal.returns-clause-on
returns-clause-on g c =
    run_on (told_by c.args.sweep.now.setup.now) c.args.sweep.now.outcome c.args.sweep.now.lines.now c.args.number
    (g.O.Sink.state c.args.sink.now) (g.O.Sink.state c.print_at.new.sink) (g.O.Sink.state c.replay_lines.new.sink) c.print_at.new.sink c.replay_lines.new.sink (λ same. ap g.O.Sink.state same)
    (ImageStandsFor c.args.sweep.now.setup.now.options.geometry) (g.R.Media.state c.args.rig.now) (g.R.Media.state c.replay_lines.new.rig) c.in_ok-print_at.ensures.printed
    c.replay_lines.result c.replay_lines.ensures.ends c.requires.on c.replay_lines.ensures.on

-- ---- why it ended

pub returns-in_err-print_at-clause-causes : goal.returns-in_err-print_at-clause-causes
returns-in_err-print_at-clause-causes g c =
    causes_printed c.print_at.result c.from_residual.result _ c.from_residual.ensures.1 c.in_err-print_at.was c.print_at.ensures.only c.print_at.ensures.rose c.print_at.ensures.stays

pub returns-clause-causes : goal.returns-clause-causes
returns-clause-causes g c =
    causes_then (streams_printed (g.R.Media.state c.args.rig.now) c.print_at.ensures.later c.print_at.ensures.lent)
    (record { sink = c.print_at.ensures.stays (λ is. (let bad = sym c.in_ok-print_at.was ∙ is in cc)); devices = none_failed (g.R.Media.state c.args.rig.now) })
    c.replay_lines.ensures.causes
