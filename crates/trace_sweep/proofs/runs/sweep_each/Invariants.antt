use Rattle.std.proofs.Common.{◌≡◌, ◌≤◌, ◌-◌, List, length, true}
use Rattle.cache_model.specs.Stands.{ImageStandsFor}
use Rattle.cache_run.specs.Ends.{told_by}
use Rattle.trace_replay.specs.Causes.{KeepsStreamsUntraced}
use Rattle.trace_sweep.specs.Runs.{Swept}
use Rattle.trace_sweep.specs.SoFar.{HasSwept}
use Rattle.trace_sweep.proofs.RunLemmas.{NothingFailed}
use Rattle.trace_sweep.proofs.runs.sweep_each.Given as goal

abbrev pub invariant-runs : goal.invariant-runs
invariant-runs g l =
    let x = g.O.Sink.state l.fn.sink in
    let y = g.O.Sink.state l.sink in
    let old = g.R.Media.state l.fn.rig in
    let now = g.R.Media.state l.rig in
    record {
      within : l.number ≤ l.count;
      on : now.power.on ≡ true;
      goes : KeepsStreamsUntraced x y old now;
      sound : NothingFailed x y old now;
      has : (runs : List Swept) × (length runs ≡ l.number)
          × HasSwept (told_by l.sweep.setup.now) l.sweep.outcome l.sweep.lines.now x y (ImageStandsFor l.sweep.setup.now.options.geometry) old now runs;
    }

abbrev pub decreases-runs : goal.decreases-runs
decreases-runs g l = l.count - l.number
