use Rattle.std.proofs.Common.{◌≡◌, ℕ, length}
use Rattle.trace_replay.specs.Said.{NoneFailed}
use Rattle.trace_replay.specs.Went.{Keeps}
use Rattle.cache_run.specs.Inspected.{Asks, CanReport}
use Rattle.cache_run.proofs.reporting.report_through.Given as goal

abbrev pub invariant-again : goal.invariant-again
invariant-again g l =
    let first = g.R.Media.state l.fn.rig in
    let now = g.R.Media.state l.rig in
    let was = g.V.Volume.state l.fn.volume in
    let is = g.V.Volume.state l.volume in
    record {
      can : CanReport (g.V.Volume.owns l.volume) (g.V.Volume.owes l.volume) (g.V.Volume.stands is.told) now;
      told : is.told ≡ was.told;
      kept : Keeps (g.V.Volume.stands was.told) (g.V.Volume.stands is.told) first.contents now.contents;
      sound : NoneFailed first now;
      asks : (cuts : ℕ) × Asks cuts first now × (cuts ≡ 0 → now ≡ first);
    }

abbrev pub decreases-again : goal.decreases-again
decreases-again g l = length (g.R.Media.state l.rig).power.stops
