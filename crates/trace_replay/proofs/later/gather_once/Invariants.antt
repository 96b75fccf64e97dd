use Rattle.std.proofs.Common.{◌≡◌, ℕ, List}
use Rattle.ft_base.specs.PlainDisk.{BlockWrite, PlainDisk}
use Rattle.trace_model.specs.Run.{read_backs}
use Rattle.trace_replay.specs.Owing.{IsClear, Owing, ShowsDisk}
use Rattle.trace_replay.specs.Spends.{IsQuiet, Spent, touches_of}
use Rattle.trace_replay.specs.Went.{GoesCut, Keeps}
use Rattle.trace_replay.proofs.later.gather_once.Given as goal

abbrev pub invariant-loop-i : goal.invariant-loop-i
invariant-loop-i g l =
    let first = g.R.Media.state l.fn.rig in
    let now = g.R.Media.state l.rig in
    let was = g.V.Volume.state l.fn.volume in
    let is = g.V.Volume.state l.volume in
    record {
      owns : g.V.Volume.owns l.volume now.contents;
      told : is.told ≡ was.told;
      clear : IsClear (g.V.Volume.owes l.fn.volume first.contents) (g.V.Volume.stands was.told) first.contents → IsClear (g.V.Volume.owes l.volume now.contents) (g.V.Volume.stands is.told) now.contents;
      shows : (d : PlainDisk) → ShowsDisk (g.V.Volume.owes l.fn.volume first.contents) (g.V.Volume.stands was.told) first.contents d → ShowsDisk (g.V.Volume.owes l.volume now.contents) (g.V.Volume.stands is.told) now.contents d;
      found : (d : PlainDisk) → ShowsDisk (g.V.Volume.owes l.fn.volume first.contents) (g.V.Volume.stands was.told) first.contents d → l.scratch.answers.items ≡ read_backs l.lba l.i d;
      owing : (most : ℕ) → (writes : List BlockWrite) → Owing (g.V.Volume.owes l.fn.volume first.contents) (g.V.Volume.stands was.told) first.contents most writes
          → Owing (g.V.Volume.owes l.volume now.contents) (g.V.Volume.stands is.told) now.contents most writes;
      kept : IsClear (g.V.Volume.owes l.fn.volume first.contents) (g.V.Volume.stands was.told) first.contents → Keeps (g.V.Volume.stands was.told) (g.V.Volume.stands is.told) first.contents now.contents;
      went : GoesCut g.P.Script.state g.P.Script.came g.P.Script.broke g.P.Script.knows 0 0 l.fn.script l.script first now;
      spent : IsQuiet was first → Spent (touches_of l.lba l.i) was is first now;
    }
