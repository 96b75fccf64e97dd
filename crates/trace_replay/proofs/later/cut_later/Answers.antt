use Rattle.std.proofs.Common.{List, refl, subst, arith, drop, ◌∙◌, rules}
use Rattle.ft_base.specs.PlainDisk.{BlockWrite}
use Rattle.trace_model.specs.declared.line.Line.TheVariants as line
use Rattle.trace_model.specs.Run.{disk_written, writes_after}
use Rattle.trace_replay.proofs.ExitLemmas.{at_exit}
use Rattle.trace_replay.proofs.LaterLemmas.{all_none, line_cut}
use Rattle.trace_replay.proofs.LeavesLemmas.{owing_exit}
use Rattle.trace_replay.proofs.OwingLemmas.{all_at, older_one, owing_cut}
use Rattle.trace_replay.proofs.WentLemmas.{goes_then}
use Rattle.trace_replay.proofs.WithinLemmas.{cut_ends, cut_runs, goes_through}
use Rattle.trace_replay.proofs.later.cut_later.Goals as goal

pub settle-requires-clause-may : goal.settle-requires-clause-may
settle-requires-clause-may g c = record {
  can = search rules;
  clear = let some = g.met.V.Volume.owes_some c.cut.new.self _ c.cut.ensures.owns in
      let none = g.met.V.Volume.down_owes_nothing c.cut.new.self _ some.0 c.cut.ensures.owns c.cut.ensures.down some.1 in
      let cut = owing_cut _ g.V.Volume.stands (g.V.Volume.state c.args.volume.now) (g.V.Volume.state c.cut.new.self) _ _ _ _ c.cut.ensures.disk c.requires.may.owing.2 in
      record { nothing_owed = subst (λ (l : List BlockWrite). g.V.Volume.owes c.cut.new.self (g.R.Media.state c.cut.new.rig).contents l) none some.1; disk = _; media = cut.2 };
  recent = all_at c.cut.ensures.told refl c.requires.may.recent;
}

pub returns-in_err-back-clause-leaves : goal.returns-in_err-back-clause-leaves
returns-in_err-back-clause-leaves g c =
    owing_exit _ _ _ _ _ _ _ _ _ _ _ c.from_residual.result _ c.from_residual.ensures.1 (c.settle.ensures.leaves.owner.0, c.settle.ensures.leaves.owner.1 ∙ c.cut.ensures.told)
    (λ run o.
    let cut = owing_cut _ g.V.Volume.stands (g.V.Volume.state c.args.volume.now) (g.V.Volume.state c.cut.new.self) _ _ _ _ c.cut.ensures.disk o.owing in
    let within = cut.1 in
    older_one (g.V.Volume.stands (g.V.Volume.state c.settle.new.volume).told) (g.R.Media.state c.settle.new.rig).contents _ _ (cut.0, omega (arith, within), c.settle.ensures.leaves.kept _ cut.2))

pub returns-in_err-back-clause-ended : goal.returns-in_err-back-clause-ended
returns-in_err-back-clause-ended g c =
    at_exit c.from_residual.result _ _ c.from_residual.ensures.1
    (cut_ends g.P.Script.state g.P.Script.came g.P.Script.broke g.P.Script.knows _ c.args.script.now c.settle.new.script _ _ _ c.args.outcome (g.met.R.Media.is_small c.args.rig.now) c.cut.ensures.through c.in_err-back.ensures.went.ended)

pub returns-in_err-back-clause-goes : goal.returns-in_err-back-clause-goes
returns-in_err-back-clause-goes g c =
    goes_then g.P.Script.state g.P.Script.came g.P.Script.broke g.P.Script.knows _ _ _ _ _ _
    (goes_through g.P.Script.state g.P.Script.came g.P.Script.broke g.P.Script.knows c.args.script.now _ _ c.args.outcome (g.met.R.Media.is_small c.args.rig.now) c.cut.ensures.through) c.settle.ensures.went.goes

pub returns-clause-leaves : goal.returns-clause-leaves
returns-clause-leaves g c = record {
  owner = (c.settle.ensures.leaves.owner.0, c.settle.ensures.leaves.owner.1 ∙ c.cut.ensures.told);
  became = λ run o stops.
      let cut = owing_cut _ g.V.Volume.stands (g.V.Volume.state c.args.volume.now) (g.V.Volume.state c.cut.new.self) _ _ _ _ c.cut.ensures.disk o.owing in
      line_cut (g.V.Volume.owes c.settle.new.volume (g.R.Media.state c.settle.new.rig).contents) (g.V.Volume.stands (g.V.Volume.state c.settle.new.volume).told) (g.R.Media.state c.settle.new.rig).contents run c.args.work.now.recent o.older o.all o.few o.since
      cut.0 c.in_ok-back.back.cuts c.in_ok-back.back.kept c.in_ok-back.back.lost (disk_written (drop cut.0 (writes_after run))) c.in_ok-back.ensures.leaves.clear.nothing_owed (c.settle.ensures.leaves.kept _ cut.2) _ c.in_ok-back.ensures.forgot (line.Cut c.args.outcome)
      (λ k ws. refl) (λ at_write. absurd (cc)) (λ other. absurd (cc)) cut.1 refl (c.in_ok-back.ensures.found _ cut.2);
  images = λ run o.
      let cut = owing_cut _ g.V.Volume.stands (g.V.Volume.state c.args.volume.now) (g.V.Volume.state c.cut.new.self) _ _ _ _ c.cut.ensures.disk o.owing in
      let within = cut.1 in
      older_one (g.V.Volume.stands (g.V.Volume.state c.settle.new.volume).told) (g.R.Media.state c.settle.new.rig).contents _ _ (cut.0, omega (arith, within), c.settle.ensures.leaves.kept _ cut.2);
  recent = all_none (g.V.Volume.state c.args.volume.now).told.geometry.size _ c.in_ok-back.ensures.forgot;
}

pub returns-clause-runs : goal.returns-clause-runs
returns-clause-runs g c = cut_runs c.in_ok-back.back.cuts _ _ _ c.args.outcome (g.met.R.Media.is_small c.args.rig.now) c.cut.ensures.through c.in_ok-back.ensures.went.done.cut

pub returns-clause-goes : goal.returns-clause-goes
returns-clause-goes g c =
    goes_then g.P.Script.state g.P.Script.came g.P.Script.broke g.P.Script.knows _ _ _ _ _ _
    (goes_through g.P.Script.state g.P.Script.came g.P.Script.broke g.P.Script.knows c.args.script.now _ _ c.args.outcome (g.met.R.Media.is_small c.args.rig.now) c.cut.ensures.through) c.settle.ensures.went.goes
