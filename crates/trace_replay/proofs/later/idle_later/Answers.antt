use Rattle.std.proofs.Common.{◌≡◌, ◌+◌, [], ◌∷◌, refl, subst, arith, drop, ◌∙◌}
use Rattle.trace_model.specs.declared.line.Line.TheVariants as line
use Rattle.trace_model.specs.Run.{disk_written, writes_after}
use Rattle.trace_replay.specs.Went.{GoesCut}
use Rattle.trace_replay.specs.Spends.Step.{Rests}
use Rattle.trace_replay.proofs.LaterLemmas.{all_none, line_became, line_cut}
use Rattle.trace_replay.proofs.LeavesLemmas.{owing_exit}
use Rattle.trace_replay.proofs.OwingLemmas.{all_at, older_one, owing_same}
use Rattle.trace_replay.proofs.SpendsLemmas.{never_cut, spends_ends}
use Rattle.trace_replay.proofs.WentLemmas.{ends_after, goes_then, went_ends, went_then}
use Rattle.trace_replay.proofs.later.idle_later.Goals as goal

pub settle-requires-clause-may : goal.settle-requires-clause-may
settle-requires-clause-may g c = record {
  can = record { owns = c.idle_once.ensures.owner.0; on = c.idle_once.ensures.went.goes.on };
  clear = let one = c.if-cuts-eq0.false in
      let owing = c.in_ok-cuts.ensures.owing in
      record { nothing_owed = owing.nothing (omega (arith, one)); disk = _; media = (owing.cut (omega (arith, one)) c.requires.may.owing.0 c.requires.may.owing.1 c.requires.may.owing.2).2 };
  recent = all_at c.idle_once.ensures.owner.1 refl c.requires.may.recent;
}

pub returns-in_err-cuts-clause-leaves : goal.returns-in_err-cuts-clause-leaves
returns-in_err-cuts-clause-leaves g c =
    owing_exit _ _ _ _ _ _ _ _ _ _ _ c.from_residual.result _ c.from_residual.ensures.1 c.idle_once.ensures.owner
    (λ run o. c.idle_once.ensures.owing.images _ _ o.owing)

pub returns-in_err-cuts-clause-went : goal.returns-in_err-cuts-clause-went
returns-in_err-cuts-clause-went g c =
    went_ends g.P.Script.state g.P.Script.came g.P.Script.broke g.P.Script.knows (λ s. s.cuts) 0 _ _ _ _ c.from_residual.result _ c.from_residual.ensures.1 c.idle_once.ensures.went.goes c.in_err-cuts.ensures.went.ended

pub returns-in_err-cuts-clause-spends : goal.returns-in_err-cuts-clause-spends
returns-in_err-cuts-clause-spends g c = spends_ends (Rests ∷ []) _ _ _ _ c.from_residual.result _ c.from_residual.ensures.1 (λ quiet. c.in_err-cuts.ensures.spends.ended quiet)

pub returns-then-cuts-eq0-clause-leaves : goal.returns-then-cuts-eq0-clause-leaves
returns-then-cuts-eq0-clause-leaves g c = record {
  owner = c.idle_once.ensures.owner;
  became = λ run o stops.
      let none : c.in_ok-cuts.cuts ≡ 0 = c.if-cuts-eq0.true in
      line_became (g.V.Volume.owes c.idle_once.new.volume (g.R.Media.state c.idle_once.new.rig).contents) (g.V.Volume.stands (g.V.Volume.state c.idle_once.new.volume).told) (g.R.Media.state c.idle_once.new.rig).contents run c.args.work.now.recent o.older o.all o.few o.since line.Idle _ refl (λ k ws. refl) (omega arith) (λ _. omega arith) (owing_same _ _ _ _ _ (c.in_ok-cuts.ensures.owing.done none _ _ o.owing));
  images = λ run o. c.idle_once.ensures.owing.images _ _ o.owing;
  recent = c.requires.may.recent;
}

pub returns-then-cuts-eq0-clause-went : goal.returns-then-cuts-eq0-clause-went
returns-then-cuts-eq0-clause-went g c =
    let none : c.in_ok-cuts.cuts ≡ 0 = c.if-cuts-eq0.true in
    record { goes = c.idle_once.ensures.went.goes; done = subst (λ n. GoesCut g.P.Script.state g.P.Script.came g.P.Script.broke g.P.Script.knows n 0 c.args.script.now c.idle_once.new.script (g.R.Media.state c.args.rig.now) (g.R.Media.state c.idle_once.new.rig)) none c.in_ok-cuts.ensures.went.done; ended = tt }

pub returns-in_err-back-clause-leaves : goal.returns-in_err-back-clause-leaves
returns-in_err-back-clause-leaves g c =
    owing_exit _ _ _ _ _ _ _ _ _ _ _ c.from_residual-in_err-back.result _ c.from_residual-in_err-back.ensures.1 (c.settle.ensures.leaves.owner.0, c.settle.ensures.leaves.owner.1 ∙ c.idle_once.ensures.owner.1)
    (λ run o.
    let one = c.if-cuts-eq0.false in
    let cut = c.in_ok-cuts.ensures.owing.cut (omega (arith, one)) _ _ o.owing in
    older_one (g.V.Volume.stands (g.V.Volume.state c.settle.new.volume).told) (g.R.Media.state c.settle.new.rig).contents _ _ (cut.0, cut.1, c.settle.ensures.leaves.kept _ cut.2))

pub returns-in_err-back-clause-went : goal.returns-in_err-back-clause-went
returns-in_err-back-clause-went g c =
    went_ends g.P.Script.state g.P.Script.came g.P.Script.broke g.P.Script.knows (λ s. s.cuts) 0 _ _ _ _ c.from_residual-in_err-back.result _ c.from_residual-in_err-back.ensures.1
    (goes_then g.P.Script.state g.P.Script.came g.P.Script.broke g.P.Script.knows _ _ _ _ _ _ c.idle_once.ensures.went.goes c.settle.ensures.went.goes)
    (ends_after g.P.Script.state g.P.Script.came g.P.Script.broke g.P.Script.knows _ c.in_ok-cuts.cuts 0 _ _ _ _ _ _ c.in_ok-cuts.ensures.went.done c.in_err-back.ensures.went.ended)

pub returns-in_err-back-clause-spends : goal.returns-in_err-back-clause-spends
returns-in_err-back-clause-spends g c =
    let one = c.if-cuts-eq0.false in
    spends_ends (Rests ∷ []) _ _ _ _ c.from_residual-in_err-back.result _ c.from_residual-in_err-back.ensures.1
    (λ quiet. absurd (never_cut c.in_ok-cuts.cuts _ _ c.in_ok-cuts.ensures.went.done.cut.few (omega (arith, one)) quiet))

pub returns-clause-leaves : goal.returns-clause-leaves
returns-clause-leaves g c = record {
  owner = (c.settle.ensures.leaves.owner.0, c.settle.ensures.leaves.owner.1 ∙ c.idle_once.ensures.owner.1);
  became = λ run o stops.
      let one = c.if-cuts-eq0.false in
      let cut = c.in_ok-cuts.ensures.owing.cut (omega (arith, one)) _ _ o.owing in
      let within = cut.1 in
      line_cut (g.V.Volume.owes c.settle.new.volume (g.R.Media.state c.settle.new.rig).contents) (g.V.Volume.stands (g.V.Volume.state c.settle.new.volume).told) (g.R.Media.state c.settle.new.rig).contents run c.args.work.now.recent o.older o.all o.few o.since cut.0 (c.in_ok-back.back.cuts + c.in_ok-cuts.cuts) c.in_ok-back.back.kept c.in_ok-back.back.lost
      (disk_written (drop cut.0 (writes_after run))) c.in_ok-back.ensures.leaves.clear.nothing_owed (c.settle.ensures.leaves.kept _ cut.2) _ c.in_ok-back.ensures.forgot line.Idle
      (λ k ws. refl) (λ at_write. absurd (cc)) (λ _ none. absurd (omega (arith, one, none))) (omega (arith, within)) refl (c.in_ok-back.ensures.found _ cut.2);
  images = λ run o.
      let one = c.if-cuts-eq0.false in
      let cut = c.in_ok-cuts.ensures.owing.cut (omega (arith, one)) _ _ o.owing in
      older_one (g.V.Volume.stands (g.V.Volume.state c.settle.new.volume).told) (g.R.Media.state c.settle.new.rig).contents _ _ (cut.0, cut.1, (c.settle.ensures.leaves.kept _ cut.2));
  recent = all_none (g.V.Volume.state c.args.volume.now).told.geometry.size _ c.in_ok-back.ensures.forgot;
}

pub returns-clause-went : goal.returns-clause-went
returns-clause-went g c =
    let one = c.if-cuts-eq0.false in
    let went = went_then g.P.Script.state g.P.Script.came g.P.Script.broke g.P.Script.knows c.in_ok-cuts.cuts c.in_ok-back.back.cuts 0 0 (c.in_ok-back.back.cuts + c.in_ok-cuts.cuts) 0 _ _ _ _ _ _ c.in_ok-cuts.ensures.went.done c.in_ok-back.ensures.went.done (omega arith) (omega arith) in
    record { goes = went.goes; done = went; ended = tt }

pub returns-clause-spends : goal.returns-clause-spends
returns-clause-spends g c =
    let one = c.if-cuts-eq0.false in
    record { done = λ quiet. absurd (never_cut c.in_ok-cuts.cuts _ _ c.in_ok-cuts.ensures.went.done.cut.few (omega (arith, one)) quiet); ended = tt }
