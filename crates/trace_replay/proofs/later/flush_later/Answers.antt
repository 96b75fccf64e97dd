use Rattle.std.proofs.Common.{◌≡◌, ◌+◌, [], ap, refl, subst, arith, drop, ◌∙◌}
use Rattle.trace_model.specs.declared.line.Line.TheVariants as line
use Rattle.trace_replay.specs.Went.{cut_if}
use Rattle.trace_model.specs.Run.{disk_written, writes_after}
use Rattle.trace_replay.specs.Went.{GoesCut}
use Rattle.trace_replay.proofs.LaterLemmas.{all_none, line_cut, line_flushed}
use Rattle.trace_replay.proofs.LeavesLemmas.{owing_exit}
use Rattle.trace_replay.proofs.OwingLemmas.{all_at, clear_owing, older_one}
use Rattle.trace_replay.proofs.SpendsLemmas.{never_cut, spends_ends}
use Rattle.trace_replay.proofs.WentLemmas.{ends_after, goes_then, went_ends, went_then}
use Rattle.trace_replay.proofs.later.flush_later.Goals as goal

pub settle-requires-clause-may : goal.settle-requires-clause-may
settle-requires-clause-may g c = record {
  can = record { owns = c.flush_once.ensures.owner.0; on = c.flush_once.ensures.went.goes.on };
  clear = let one : cut_if c.in_ok-cut.cut ≡ 1 = ap cut_if c.if-not-cut.false in
      let owing = c.in_ok-cut.ensures.owing in
      record { nothing_owed = owing.nothing (omega (arith, one)); disk = _; media = (owing.cut (omega (arith, one)) c.requires.may.owing.0 c.requires.may.owing.1 c.requires.may.owing.2).2 };
  recent = all_at c.flush_once.ensures.owner.1 refl c.requires.may.recent;
}

pub returns-in_err-cut-clause-leaves : goal.returns-in_err-cut-clause-leaves
returns-in_err-cut-clause-leaves g c =
    owing_exit _ _ _ _ _ _ _ _ _ _ _ c.from_residual.result _ c.from_residual.ensures.1 c.flush_once.ensures.owner
    (λ run o. c.flush_once.ensures.owing.images _ _ o.owing)

pub returns-in_err-cut-clause-went : goal.returns-in_err-cut-clause-went
returns-in_err-cut-clause-went g c =
    went_ends g.P.Script.state g.P.Script.came g.P.Script.broke g.P.Script.knows (λ s. s.cuts) 0 _ _ _ _ c.from_residual.result _ c.from_residual.ensures.1 c.flush_once.ensures.went.goes c.in_err-cut.ensures.went.ended

pub returns-in_err-cut-clause-spends : goal.returns-in_err-cut-clause-spends
returns-in_err-cut-clause-spends g c = spends_ends [] _ _ _ _ c.from_residual.result _ c.from_residual.ensures.1 (λ quiet. c.in_err-cut.ensures.spends.ended quiet)

pub returns-then-not-cut-clause-leaves : goal.returns-then-not-cut-clause-leaves
returns-then-not-cut-clause-leaves g c = record {
  owner = c.flush_once.ensures.owner;
  became = λ run o stops.
      let none : cut_if c.in_ok-cut.cut ≡ 0 = ap cut_if c.if-not-cut.true in
      line_flushed (g.V.Volume.owes c.flush_once.new.volume (g.R.Media.state c.flush_once.new.rig).contents) (g.V.Volume.stands (g.V.Volume.state c.flush_once.new.volume).told) (g.R.Media.state c.flush_once.new.rig).contents run _ c.clear.ensures (c.in_ok-cut.ensures.flushed c.if-not-cut.true _ _ o.owing);
  images = λ run o. c.flush_once.ensures.owing.images _ _ o.owing;
  recent = all_none (g.V.Volume.state c.args.volume.now).told.geometry.size _ c.clear.ensures;
}

pub returns-then-not-cut-clause-went : goal.returns-then-not-cut-clause-went
returns-then-not-cut-clause-went g c =
    let none : cut_if c.in_ok-cut.cut ≡ 0 = ap cut_if c.if-not-cut.true in
    record { goes = c.flush_once.ensures.went.goes; done = subst (λ n. GoesCut g.P.Script.state g.P.Script.came g.P.Script.broke g.P.Script.knows n 0 c.args.script.now c.flush_once.new.script (g.R.Media.state c.args.rig.now) (g.R.Media.state c.flush_once.new.rig)) none c.in_ok-cut.ensures.went.done; ended = tt }

pub returns-in_err-back-clause-leaves : goal.returns-in_err-back-clause-leaves
returns-in_err-back-clause-leaves g c =
    owing_exit _ _ _ _ _ _ _ _ _ _ _ c.from_residual-in_err-back.result _ c.from_residual-in_err-back.ensures.1 (c.settle.ensures.leaves.owner.0, c.settle.ensures.leaves.owner.1 ∙ c.flush_once.ensures.owner.1)
    (λ run o.
    let one : cut_if c.in_ok-cut.cut ≡ 1 = ap cut_if c.if-not-cut.false in
    let cut = c.in_ok-cut.ensures.owing.cut (omega (arith, one)) _ _ o.owing in
    older_one (g.V.Volume.stands (g.V.Volume.state c.settle.new.volume).told) (g.R.Media.state c.settle.new.rig).contents _ _ (cut.0, cut.1, c.settle.ensures.leaves.kept _ cut.2))

pub returns-in_err-back-clause-went : goal.returns-in_err-back-clause-went
returns-in_err-back-clause-went g c =
    went_ends g.P.Script.state g.P.Script.came g.P.Script.broke g.P.Script.knows (λ s. s.cuts) 0 _ _ _ _ c.from_residual-in_err-back.result _ c.from_residual-in_err-back.ensures.1
    (goes_then g.P.Script.state g.P.Script.came g.P.Script.broke g.P.Script.knows _ _ _ _ _ _ c.flush_once.ensures.went.goes c.settle.ensures.went.goes)
    (ends_after g.P.Script.state g.P.Script.came g.P.Script.broke g.P.Script.knows _ (cut_if c.in_ok-cut.cut) 0 _ _ _ _ _ _ c.in_ok-cut.ensures.went.done c.in_err-back.ensures.went.ended)

pub returns-in_err-back-clause-spends : goal.returns-in_err-back-clause-spends
returns-in_err-back-clause-spends g c =
    let one : cut_if c.in_ok-cut.cut ≡ 1 = ap cut_if c.if-not-cut.false in
    spends_ends [] _ _ _ _ c.from_residual-in_err-back.result _ c.from_residual-in_err-back.ensures.1
    (λ quiet. absurd (never_cut (cut_if c.in_ok-cut.cut) _ _ c.in_ok-cut.ensures.went.done.cut.few (omega (arith, one)) quiet))

pub returns-in_err-more-clause-leaves : goal.returns-in_err-more-clause-leaves
returns-in_err-more-clause-leaves g c =
    owing_exit _ _ _ _ _ _ _ _ _ _ _ c.from_residual-in_err-more.result _ c.from_residual-in_err-more.ensures.1 (c.flush_through.ensures.leaves.owner.0, c.flush_through.ensures.leaves.owner.1 ∙ c.settle.ensures.leaves.owner.1 ∙ c.flush_once.ensures.owner.1)
    (λ run o.
    let one : cut_if c.in_ok-cut.cut ≡ 1 = ap cut_if c.if-not-cut.false in
    let cut = c.in_ok-cut.ensures.owing.cut (omega (arith, one)) _ _ o.owing in
    older_one (g.V.Volume.stands (g.V.Volume.state c.flush_through.new.volume).told) (g.R.Media.state c.flush_through.new.rig).contents _ _ (cut.0, cut.1, c.flush_through.ensures.leaves.kept _ (c.settle.ensures.leaves.kept _ cut.2)))

pub returns-in_err-more-clause-went : goal.returns-in_err-more-clause-went
returns-in_err-more-clause-went g c =
    let one : cut_if c.in_ok-cut.cut ≡ 1 = ap cut_if c.if-not-cut.false in
    let went = went_then g.P.Script.state g.P.Script.came g.P.Script.broke g.P.Script.knows (cut_if c.in_ok-cut.cut) c.in_ok-back.back.cuts 0 0 (c.in_ok-back.back.cuts + 1) 0 _ _ _ _ _ _ c.in_ok-cut.ensures.went.done c.in_ok-back.ensures.went.done (omega (arith, one)) (omega arith) in
    went_ends g.P.Script.state g.P.Script.came g.P.Script.broke g.P.Script.knows (λ s. s.cuts) 0 _ _ _ _ c.from_residual-in_err-more.result _ c.from_residual-in_err-more.ensures.1
    (goes_then g.P.Script.state g.P.Script.came g.P.Script.broke g.P.Script.knows _ _ _ _ _ _ went.goes c.flush_through.ensures.went.goes)
    (ends_after g.P.Script.state g.P.Script.came g.P.Script.broke g.P.Script.knows _ (c.in_ok-back.back.cuts + 1) 0 _ _ _ _ _ _ went c.in_err-more.ensures.went.ended)

pub returns-in_err-more-clause-spends : goal.returns-in_err-more-clause-spends
returns-in_err-more-clause-spends g c =
    let one : cut_if c.in_ok-cut.cut ≡ 1 = ap cut_if c.if-not-cut.false in
    spends_ends [] _ _ _ _ c.from_residual-in_err-more.result _ c.from_residual-in_err-more.ensures.1
    (λ quiet. absurd (never_cut (cut_if c.in_ok-cut.cut) _ _ c.in_ok-cut.ensures.went.done.cut.few (omega (arith, one)) quiet))

pub returns-clause-leaves : goal.returns-clause-leaves
returns-clause-leaves g c = record {
  owner = (c.flush_through.ensures.leaves.owner.0, c.flush_through.ensures.leaves.owner.1 ∙ c.settle.ensures.leaves.owner.1 ∙ c.flush_once.ensures.owner.1);
  became = λ run o stops.
      let one : cut_if c.in_ok-cut.cut ≡ 1 = ap cut_if c.if-not-cut.false in
      let cut = c.in_ok-cut.ensures.owing.cut (omega (arith, one)) _ _ o.owing in
      let within = cut.1 in
      line_cut (g.V.Volume.owes c.flush_through.new.volume (g.R.Media.state c.flush_through.new.rig).contents) (g.V.Volume.stands (g.V.Volume.state c.flush_through.new.volume).told) (g.R.Media.state c.flush_through.new.rig).contents run c.args.work.now.recent o.older o.all o.few o.since cut.0 (c.in_ok-back.back.cuts + 1 + c.in_ok-more.more) c.in_ok-back.back.kept c.in_ok-back.back.lost
      (disk_written (drop cut.0 (writes_after run))) c.in_ok-more.ensures.leaves.clear.nothing_owed (c.flush_through.ensures.leaves.kept _ (c.settle.ensures.leaves.kept _ cut.2)) _ c.in_ok-back.ensures.forgot line.Flush
      (λ k ws. refl) tt (λ _ none. absurd (omega (arith, one, none))) (omega (arith, within)) refl (c.in_ok-back.ensures.found _ cut.2);
  images = λ run o.
      let one : cut_if c.in_ok-cut.cut ≡ 1 = ap cut_if c.if-not-cut.false in
      let cut = c.in_ok-cut.ensures.owing.cut (omega (arith, one)) _ _ o.owing in
      older_one (g.V.Volume.stands (g.V.Volume.state c.flush_through.new.volume).told) (g.R.Media.state c.flush_through.new.rig).contents _ _ (cut.0, cut.1, (c.flush_through.ensures.leaves.kept _ (c.settle.ensures.leaves.kept _ cut.2)));
  recent = all_none (g.V.Volume.state c.args.volume.now).told.geometry.size _ c.in_ok-back.ensures.forgot;
}

pub returns-clause-went : goal.returns-clause-went
returns-clause-went g c =
    let one : cut_if c.in_ok-cut.cut ≡ 1 = ap cut_if c.if-not-cut.false in
    let two = went_then g.P.Script.state g.P.Script.came g.P.Script.broke g.P.Script.knows (cut_if c.in_ok-cut.cut) c.in_ok-back.back.cuts 0 0 (c.in_ok-back.back.cuts + 1) 0 _ _ _ _ _ _ c.in_ok-cut.ensures.went.done c.in_ok-back.ensures.went.done (omega (arith, one)) (omega arith) in
    let went = went_then g.P.Script.state g.P.Script.came g.P.Script.broke g.P.Script.knows (c.in_ok-back.back.cuts + 1) c.in_ok-more.more 0 0 (c.in_ok-back.back.cuts + 1 + c.in_ok-more.more) 0 _ _ _ _ _ _ two c.in_ok-more.ensures.went.done refl (omega arith) in
    record { goes = went.goes; done = went; ended = tt }

pub returns-clause-spends : goal.returns-clause-spends
returns-clause-spends g c =
    let one : cut_if c.in_ok-cut.cut ≡ 1 = ap cut_if c.if-not-cut.false in
    record { done = λ quiet. absurd (never_cut (cut_if c.in_ok-cut.cut) _ _ c.in_ok-cut.ensures.went.done.cut.few (omega (arith, one)) quiet); ended = tt }

pub returns-then-not-cut-clause-clear : goal.returns-then-not-cut-clause-clear
returns-then-not-cut-clause-clear g c =
    let clear = clear_owing (g.V.Volume.owes c.flush_once.new.volume (g.R.Media.state c.flush_once.new.rig).contents) (g.V.Volume.stands (g.V.Volume.state c.flush_once.new.volume).told) (g.R.Media.state c.flush_once.new.rig).contents c.requires.may.owing.1 (c.in_ok-cut.ensures.flushed c.if-not-cut.true _ _ c.requires.may.owing.2) in
    record { nothing_owed = clear.0; disk = _; media = clear.1 }
