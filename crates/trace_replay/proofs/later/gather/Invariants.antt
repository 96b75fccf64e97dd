use Rattle.std.proofs.Common.{◌≡◌, ◌≤◌, length}
use Rattle.trace_replay.specs.Owing.{IsClear}
use Rattle.trace_replay.specs.Went.{GoesCut, Keeps}
use Rattle.trace_replay.proofs.later.gather.Given as goal

abbrev pub invariant-again : goal.invariant-again
invariant-again g l =
    let first = g.R.Media.state l.fn.rig in
    let now = g.R.Media.state l.rig in
    let was = g.V.Volume.state l.fn.volume in
    let is = g.V.Volume.state l.volume in
    record {
      owns : g.V.Volume.owns l.volume now.contents;
      told : is.told ≡ was.told;
      clear : IsClear (g.V.Volume.owes l.volume now.contents) (g.V.Volume.stands is.told) now.contents;
      kept : Keeps (g.V.Volume.stands was.told) (g.V.Volume.stands is.told) first.contents now.contents;
      went : GoesCut g.P.Script.state g.P.Script.came g.P.Script.broke g.P.Script.knows l.cuts 0 l.fn.script l.script first now;
      few : length first.power.stops ≤ 16;
    }

abbrev pub decreases-again : goal.decreases-again
decreases-again g l = length (g.R.Media.state l.rig).power.stops
