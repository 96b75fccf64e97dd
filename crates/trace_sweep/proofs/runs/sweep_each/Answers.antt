use Rattle.std.proofs.Common.{◌≡◌, ◌<◌, ◌+◌, ℕ, [], ◌∷◌, length, subst, arith}
use Rattle.cache_model.specs.Stands.{ImageStandsFor}
use Rattle.cache_run.specs.Ends.{told_by}
use Rattle.trace_sweep.specs.Ends.{BreaksAt}
use Rattle.trace_sweep.specs.SoFar.{RunsAt}
use Rattle.trace_sweep.proofs.RunLemmas.{breaks_more, causes_then, has_more, nothing_by, nothing_none, nothing_then, streams_then}
use Rattle.trace_sweep.proofs.runs.sweep_each.Goals as goal

pub runs-preserved : goal.runs-preserved
runs-preserved g c =
    let so = c.runs.invariant.has in
    let long : length so.0 ≡ c.runs.number = so.1 in
    let next : c.runs.number + 1 ≡ length so.0 + 1 = omega (arith, long) in
    let at = subst (λ (k : ℕ). RunsAt (told_by c.args.sweep.now.setup.now) c.args.sweep.now.outcome c.args.sweep.now.lines.now (g.O.Sink.state c.runs.sink) (g.O.Sink.state c.sweep_at.new.sink) (ImageStandsFor c.args.sweep.now.setup.now.options.geometry) (g.R.Media.state c.runs.rig) (g.R.Media.state c.sweep_at.new.rig) k) next c.in-Ok.ensures.whole in
    record {
      within = omega arith;
      on = c.in-Ok.ensures.on;
      goes = streams_then c.runs.invariant.goes c.in-Ok.ensures.goes;
      sound = nothing_then c.runs.invariant.sound (nothing_by c.in-Ok.ensures.causes);
      has = (at.s ∷ so.0, omega (arith, long), has_more _ _ _ _ _ _ so.0 so.2 at);
    }

pub returns-in-Err-clause-part : goal.returns-in-Err-clause-part
returns-in-Err-clause-part g c =
    let so = c.runs.invariant.has in
    let long : length so.0 ≡ c.runs.number = so.1 in
    let next : c.runs.number + 1 ≡ length so.0 + 1 = omega (arith, long) in
    let few : length so.0 < c.args.count = omega (arith, long) in
    breaks_more c.args.count _ _ _ _ _ _ so.0 c.in-Err.ended few so.2
    (subst (λ (k : ℕ). BreaksAt (told_by c.args.sweep.now.setup.now) c.args.sweep.now.outcome c.args.sweep.now.lines.now k [] (g.O.Sink.state c.runs.sink) (g.O.Sink.state c.sweep_at.new.sink) (ImageStandsFor c.args.sweep.now.setup.now.options.geometry) (g.R.Media.state c.sweep_at.new.rig) c.in-Err.ended) next c.in-Err.ensures.part)

pub returns-in-Err-clause-causes : goal.returns-in-Err-clause-causes
returns-in-Err-clause-causes g c = causes_then c.runs.invariant.goes c.runs.invariant.sound c.in-Err.ensures.causes

pub returns-clause-causes : goal.returns-clause-causes
returns-clause-causes g c = record {
  not_trace = λ is. cc;
  not_source = λ is. cc;
  sink = λ is. cc;
  flash = λ is. cc;
  disk = λ is. cc;
  sink_stays = λ _. c.runs.invariant.sound.sink;
  none_failed = λ _ _. c.runs.invariant.sound.devices;
}
