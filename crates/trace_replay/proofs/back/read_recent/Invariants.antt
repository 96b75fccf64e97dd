use Rattle.std.proofs.Common.{◌≡◌, ◌≤◌, [], take}
use Rattle.ft_base.specs.PlainDisk.{PlainDisk}
use Rattle.ft_volume.specs.Standing.{StandFor}
use Rattle.trace_replay.specs.Owing.{IsClear, IsReadBack}
use Rattle.trace_replay.specs.Went.{GoesCut, Keeps}
use Rattle.trace_replay.proofs.back.read_recent.Given as goal

abbrev pub invariant-loop-i : goal.invariant-loop-i
invariant-loop-i g l =
    let first = g.R.Media.state l.fn.rig in
    let now = g.R.Media.state l.rig in
    let was = g.V.Volume.state l.fn.volume in
    let is = g.V.Volume.state l.volume in
    record {
      owns : g.V.Volume.owns l.volume now.contents;
      told : is.told ≡ was.told;
      clear : IsClear (g.V.Volume.owes l.volume now.contents) (g.V.Volume.stands is.told) now.contents;
      same : l.work.recent ≡ l.fn.work.recent;
      found : (d : PlainDisk) → StandFor (g.V.Volume.stands was.told) first.contents d → IsReadBack l.request.lba l.request.count l.request.tag [] d l.kept 0
          → IsReadBack l.request.lba l.request.count l.request.tag (take l.i l.work.recent) d l.found.kept l.found.lost;
      fewer : l.found.kept ≤ l.kept;
      low : l.found.lost ≤ l.i;
      kept : Keeps (g.V.Volume.stands was.told) (g.V.Volume.stands is.told) first.contents now.contents;
      went : GoesCut g.P.Script.state g.P.Script.came g.P.Script.broke g.P.Script.knows 0 0 l.fn.script l.script first now;
    }
