use Rattle.std.proofs.Common.{◌≡◌, ◌+◌, List, ap, refl, subst, arith, length, drop, ◌∙◌}
use Rattle.ft_base.specs.declared.power.Stop.{Stop}
use Rattle.trace_model.specs.Fits.{armed_after}
use Rattle.trace_model.specs.Run.{disk_written, with_blocks, writes_after}
use Rattle.trace_replay.specs.Went.{GoesCut, cut_if}
use Rattle.trace_replay.proofs.CutsLemmas.{left_after}
use Rattle.trace_replay.specs.Spends.{puts_of}
use Rattle.trace_replay.proofs.LaterLemmas.{all_none, all_noted, write_became, write_cut}
use Rattle.trace_replay.proofs.LeavesLemmas.{owing_exit}
use Rattle.trace_replay.proofs.OwingLemmas.{all_at, older_one}
use Rattle.trace_replay.proofs.SpendsLemmas.{never_cut, spends_ends}
use Rattle.trace_replay.proofs.WentLemmas.{ends_after, goes_then, went_ends, went_then}
use Rattle.trace_replay.proofs.later.write_later.Goals as goal

pub settle-requires-clause-may : goal.settle-requires-clause-may
settle-requires-clause-may g c = record {
  can = record { owns = c.write_blocks.ensures.owner.0; on = c.write_blocks.ensures.went.goes.on };
  clear = let one : cut_if c.in_ok-cut.cut ≡ 1 = ap cut_if c.if-not-cut.false in
      let owing = c.in_ok-cut.ensures.owing in
      record { nothing_owed = owing.nothing (omega (arith, one)); disk = _; media = (owing.cut (omega (arith, one)) c.requires.may.owing.0 c.requires.may.owing.1 c.requires.may.owing.2).2 };
  recent = all_at c.write_blocks.ensures.owner.1 refl c.requires.may.recent;
}

pub returns-in_err-cut-clause-leaves : goal.returns-in_err-cut-clause-leaves
returns-in_err-cut-clause-leaves g c =
    owing_exit _ _ _ _ _ _ _ _ _ _ _ c.from_residual.result _ c.from_residual.ensures.1 c.write_blocks.ensures.owner
    (λ run o. c.write_blocks.ensures.owing.images _ _ o.owing)

pub returns-in_err-cut-clause-went : goal.returns-in_err-cut-clause-went
returns-in_err-cut-clause-went g c =
    went_ends g.P.Script.state g.P.Script.came g.P.Script.broke g.P.Script.knows (λ s. s.cuts) c.args.request.count _ _ _ _ c.from_residual.result _ c.from_residual.ensures.1 c.write_blocks.ensures.went.goes c.in_err-cut.ensures.went.ended

pub returns-in_err-cut-clause-spends : goal.returns-in_err-cut-clause-spends
returns-in_err-cut-clause-spends g c = spends_ends (puts_of c.args.request.lba c.args.request.count) _ _ _ _ c.from_residual.result _ c.from_residual.ensures.1 (λ quiet. c.in_err-cut.ensures.spends.ended quiet)

pub returns-then-not-cut-clause-leaves : goal.returns-then-not-cut-clause-leaves
returns-then-not-cut-clause-leaves g c = record {
  owner = c.write_blocks.ensures.owner;
  became = λ run o stops.
      let none : cut_if c.in_ok-cut.cut ≡ 0 = ap cut_if c.if-not-cut.true in
      let owing = c.in_ok-cut.ensures.owing.done none _ _ o.owing in
      write_became (g.V.Volume.owes c.write_blocks.new.volume (g.R.Media.state c.write_blocks.new.rig).contents) (g.V.Volume.stands (g.V.Volume.state c.write_blocks.new.volume).told) (g.R.Media.state c.write_blocks.new.rig).contents run c.args.work.now.recent o.older o.all o.few o.since c.args.request.lba c.args.request.count c.args.request.tag _ c.note.ensures owing
      (g.met.V.Volume.few_owed c.write_blocks.new.volume _ _ c.write_blocks.ensures.owner.0 owing.is_owed);
  images = λ run o. c.write_blocks.ensures.owing.images _ _ o.owing;
  recent = all_noted _ c.args.request.lba c.args.request.tag c.args.request.count c.args.work.now.recent _ c.requires.request c.requires.may.recent c.note.ensures;
}

pub returns-then-not-cut-clause-went : goal.returns-then-not-cut-clause-went
returns-then-not-cut-clause-went g c =
    let none : cut_if c.in_ok-cut.cut ≡ 0 = ap cut_if c.if-not-cut.true in
    record { goes = c.write_blocks.ensures.went.goes; done = subst (λ n. GoesCut g.P.Script.state g.P.Script.came g.P.Script.broke g.P.Script.knows n c.args.request.count c.args.script.now c.write_blocks.new.script (g.R.Media.state c.args.rig.now) (g.R.Media.state c.write_blocks.new.rig)) none c.in_ok-cut.ensures.went.done; ended = tt }

pub returns-in_err-back-clause-leaves : goal.returns-in_err-back-clause-leaves
returns-in_err-back-clause-leaves g c =
    owing_exit _ _ _ _ _ _ _ _ _ _ _ c.from_residual-in_err-back.result _ c.from_residual-in_err-back.ensures.1 (c.settle.ensures.leaves.owner.0, c.settle.ensures.leaves.owner.1 ∙ c.write_blocks.ensures.owner.1)
    (λ run o.
    let one : cut_if c.in_ok-cut.cut ≡ 1 = ap cut_if c.if-not-cut.false in
    let cut = c.in_ok-cut.ensures.owing.cut (omega (arith, one)) _ _ o.owing in
    older_one (g.V.Volume.stands (g.V.Volume.state c.settle.new.volume).told) (g.R.Media.state c.settle.new.rig).contents _ _ (cut.0, cut.1, c.settle.ensures.leaves.kept _ cut.2))

pub returns-in_err-back-clause-went : goal.returns-in_err-back-clause-went
returns-in_err-back-clause-went g c =
    went_ends g.P.Script.state g.P.Script.came g.P.Script.broke g.P.Script.knows (λ s. s.cuts) c.args.request.count _ _ _ _ c.from_residual-in_err-back.result _ c.from_residual-in_err-back.ensures.1
    (goes_then g.P.Script.state g.P.Script.came g.P.Script.broke g.P.Script.knows _ _ _ _ _ _ c.write_blocks.ensures.went.goes c.settle.ensures.went.goes)
    (ends_after g.P.Script.state g.P.Script.came g.P.Script.broke g.P.Script.knows _ (cut_if c.in_ok-cut.cut) c.args.request.count _ _ _ _ _ _ c.in_ok-cut.ensures.went.done c.in_err-back.ensures.went.ended)

pub returns-in_err-back-clause-spends : goal.returns-in_err-back-clause-spends
returns-in_err-back-clause-spends g c =
    let one : cut_if c.in_ok-cut.cut ≡ 1 = ap cut_if c.if-not-cut.false in
    spends_ends (puts_of c.args.request.lba c.args.request.count) _ _ _ _ c.from_residual-in_err-back.result _ c.from_residual-in_err-back.ensures.1
    (λ quiet. absurd (never_cut (cut_if c.in_ok-cut.cut) _ _ c.in_ok-cut.ensures.went.done.cut.few (omega (arith, one)) quiet))

pub returns-clause-leaves : goal.returns-clause-leaves
returns-clause-leaves g c = record {
  owner = (c.settle.ensures.leaves.owner.0, c.settle.ensures.leaves.owner.1 ∙ c.write_blocks.ensures.owner.1);
  became = λ run o stops.
      let one : cut_if c.in_ok-cut.cut ≡ 1 = ap cut_if c.if-not-cut.false in
      let cut = c.in_ok-cut.ensures.owing.cut (omega (arith, one)) _ _ o.owing in
      let left = left_after (cut_if c.in_ok-cut.cut) c.args.request.count _ _ c.in_ok-cut.ensures.went.done.cut in
      let few = c.in_ok-back.ensures.went.done.cut.few in
      let first = c.in_ok-cut.ensures.went.done.cut.few in
      let all : length (g.R.Media.state c.args.rig.now).power.stops ≡ length (armed_after run) = ap (λ (q : List Stop). length q) stops in
      write_cut (g.V.Volume.owes c.settle.new.volume (g.R.Media.state c.settle.new.rig).contents) (g.V.Volume.stands (g.V.Volume.state c.settle.new.volume).told) (g.R.Media.state c.settle.new.rig).contents run c.args.work.now.recent o.older o.all o.few o.since cut.0 (c.in_ok-back.back.cuts + 1) c.in_ok-back.back.kept c.in_ok-back.back.lost
      (disk_written (drop cut.0 (with_blocks c.args.request.lba c.args.request.tag c.args.request.count (writes_after run)))) c.in_ok-back.ensures.leaves.clear.nothing_owed (c.settle.ensures.leaves.kept _ cut.2) _ c.in_ok-back.ensures.forgot c.args.request.lba c.args.request.count c.args.request.tag
      (omega arith) (omega (arith, one, left, few, first, all)) cut.1 refl (c.in_ok-back.ensures.found _ cut.2);
  images = λ run o.
      let one : cut_if c.in_ok-cut.cut ≡ 1 = ap cut_if c.if-not-cut.false in
      let cut = c.in_ok-cut.ensures.owing.cut (omega (arith, one)) _ _ o.owing in
      older_one (g.V.Volume.stands (g.V.Volume.state c.settle.new.volume).told) (g.R.Media.state c.settle.new.rig).contents _ _ (cut.0, cut.1, c.settle.ensures.leaves.kept _ cut.2);
  recent = all_none (g.V.Volume.state c.args.volume.now).told.geometry.size _ c.in_ok-back.ensures.forgot;
}

pub returns-clause-went : goal.returns-clause-went
returns-clause-went g c =
    let one : cut_if c.in_ok-cut.cut ≡ 1 = ap cut_if c.if-not-cut.false in
    let went = went_then g.P.Script.state g.P.Script.came g.P.Script.broke g.P.Script.knows (cut_if c.in_ok-cut.cut) c.in_ok-back.back.cuts c.args.request.count 0 (c.in_ok-back.back.cuts + 1) c.args.request.count _ _ _ _ _ _ c.in_ok-cut.ensures.went.done c.in_ok-back.ensures.went.done (omega (arith, one)) (omega arith) in
    record { goes = went.goes; done = went; ended = tt }

pub returns-clause-spends : goal.returns-clause-spends
returns-clause-spends g c =
    let one : cut_if c.in_ok-cut.cut ≡ 1 = ap cut_if c.if-not-cut.false in
    record { done = λ quiet. absurd (never_cut (cut_if c.in_ok-cut.cut) _ _ c.in_ok-cut.ensures.went.done.cut.few (omega (arith, one)) quiet); ended = tt }
