use Rattle.std.proofs.Common.{◌≡◌, ◌+◌, All, List, ap, refl, sym, ◌∙◌, subst, arith, drop}
use Rattle.ft_base.specs.PlainDisk.{PlainDisk}
use Rattle.trace_model.specs.declared.line.Line.TheVariants as line
use Rattle.trace_replay.specs.Went.{cut_if}
use Rattle.trace_model.specs.Run.{disk_written, read_backs, writes_after}
use Rattle.trace_replay.specs.Went.{GoesCut}
use Rattle.trace_replay.specs.Spends.{touches_of}
use Rattle.trace_replay.proofs.LaterLemmas.{all_none, line_became, line_cut, lost_disk}
use Rattle.trace_replay.proofs.LeavesLemmas.{owing_exit}
use Rattle.trace_replay.proofs.OwingLemmas.{all_at, older_one, owing_same, shows_owing}
use Rattle.trace_replay.proofs.SpendsLemmas.{never_cut, spends_ends}
use Rattle.trace_model.specs.declared.answer.Answer.{Answer}
use Rattle.trace_model.specs.Text.{IsTold}
use Rattle.trace_replay.proofs.WithinLemmas.{backs_told}
use Rattle.trace_replay.proofs.WentLemmas.{ends_after, goes_then, went_ends, went_then}
use Rattle.trace_replay.proofs.later.read_later.Goals as goal

pub settle-requires-clause-may : goal.settle-requires-clause-may
settle-requires-clause-may g c = record {
  can = record { owns = c.gather_once.ensures.owner.0; on = c.gather_once.ensures.went.goes.on };
  clear = let one : cut_if c.in_ok-cut.cut ≡ 1 = ap cut_if c.if-not-cut.false in
      let owing = c.in_ok-cut.ensures.owing in
      record { nothing_owed = owing.nothing (omega (arith, one)); disk = _; media = (owing.cut (omega (arith, one)) c.requires.may.owing.0 c.requires.may.owing.1 c.requires.may.owing.2).2 };
  recent = all_at c.gather_once.ensures.owner.1 refl c.requires.may.recent;
}

pub returns-in_err-cut-clause-leaves : goal.returns-in_err-cut-clause-leaves
returns-in_err-cut-clause-leaves g c =
    owing_exit _ _ _ _ _ _ _ _ _ _ _ c.from_residual.result _ c.from_residual.ensures.1 c.gather_once.ensures.owner
    (λ run o. c.gather_once.ensures.owing.images _ _ o.owing)

pub returns-in_err-cut-clause-went : goal.returns-in_err-cut-clause-went
returns-in_err-cut-clause-went g c =
    went_ends g.P.Script.state g.P.Script.came g.P.Script.broke g.P.Script.knows (λ s. s.cuts) 0 _ _ _ _ c.from_residual.result _ c.from_residual.ensures.1 c.gather_once.ensures.went.goes c.in_err-cut.ensures.went.ended

pub returns-in_err-cut-clause-spends : goal.returns-in_err-cut-clause-spends
returns-in_err-cut-clause-spends g c = spends_ends (touches_of c.args.lba c.args.count) _ _ _ _ c.from_residual.result _ c.from_residual.ensures.1 (λ quiet. c.in_err-cut.ensures.spends.ended quiet)

pub returns-then-not-cut-clause-leaves : goal.returns-then-not-cut-clause-leaves
returns-then-not-cut-clause-leaves g c = record {
  owner = c.gather_once.ensures.owner;
  became = λ run o stops.
      let none : cut_if c.in_ok-cut.cut ≡ 0 = ap cut_if c.if-not-cut.true in
      line_became (g.V.Volume.owes c.gather_once.new.volume (g.R.Media.state c.gather_once.new.rig).contents) (g.V.Volume.stands (g.V.Volume.state c.gather_once.new.volume).told) (g.R.Media.state c.gather_once.new.rig).contents run c.args.work.now.recent o.older o.all o.few o.since (line.Read c.args.lba c.args.count) _ refl (λ k ws. refl) (omega arith) tt (owing_same _ _ _ _ _ (c.in_ok-cut.ensures.owing.done none _ _ o.owing));
  images = λ run o. c.gather_once.ensures.owing.images _ _ o.owing;
  recent = c.requires.may.recent;
}

pub returns-then-not-cut-clause-went : goal.returns-then-not-cut-clause-went
returns-then-not-cut-clause-went g c =
    let none : cut_if c.in_ok-cut.cut ≡ 0 = ap cut_if c.if-not-cut.true in
    record { goes = c.gather_once.ensures.went.goes; done = subst (λ n. GoesCut g.P.Script.state g.P.Script.came g.P.Script.broke g.P.Script.knows n 0 c.args.script.now c.gather_once.new.script (g.R.Media.state c.args.rig.now) (g.R.Media.state c.gather_once.new.rig)) none c.in_ok-cut.ensures.went.done; ended = tt }

pub returns-in_err-back-clause-leaves : goal.returns-in_err-back-clause-leaves
returns-in_err-back-clause-leaves g c =
    owing_exit _ _ _ _ _ _ _ _ _ _ _ c.from_residual-in_err-back.result _ c.from_residual-in_err-back.ensures.1 (c.settle.ensures.leaves.owner.0, c.settle.ensures.leaves.owner.1 ∙ c.gather_once.ensures.owner.1)
    (λ run o.
    let one : cut_if c.in_ok-cut.cut ≡ 1 = ap cut_if c.if-not-cut.false in
    let cut = c.in_ok-cut.ensures.owing.cut (omega (arith, one)) _ _ o.owing in
    older_one (g.V.Volume.stands (g.V.Volume.state c.settle.new.volume).told) (g.R.Media.state c.settle.new.rig).contents _ _ (cut.0, cut.1, c.settle.ensures.leaves.kept _ cut.2))

pub returns-in_err-back-clause-went : goal.returns-in_err-back-clause-went
returns-in_err-back-clause-went g c =
    went_ends g.P.Script.state g.P.Script.came g.P.Script.broke g.P.Script.knows (λ s. s.cuts) 0 _ _ _ _ c.from_residual-in_err-back.result _ c.from_residual-in_err-back.ensures.1
    (goes_then g.P.Script.state g.P.Script.came g.P.Script.broke g.P.Script.knows _ _ _ _ _ _ c.gather_once.ensures.went.goes c.settle.ensures.went.goes)
    (ends_after g.P.Script.state g.P.Script.came g.P.Script.broke g.P.Script.knows _ (cut_if c.in_ok-cut.cut) 0 _ _ _ _ _ _ c.in_ok-cut.ensures.went.done c.in_err-back.ensures.went.ended)

pub returns-in_err-back-clause-spends : goal.returns-in_err-back-clause-spends
returns-in_err-back-clause-spends g c =
    let one : cut_if c.in_ok-cut.cut ≡ 1 = ap cut_if c.if-not-cut.false in
    spends_ends (touches_of c.args.lba c.args.count) _ _ _ _ c.from_residual-in_err-back.result _ c.from_residual-in_err-back.ensures.1
    (λ quiet. absurd (never_cut (cut_if c.in_ok-cut.cut) _ _ c.in_ok-cut.ensures.went.done.cut.few (omega (arith, one)) quiet))

pub returns-in_err-more-clause-leaves : goal.returns-in_err-more-clause-leaves
returns-in_err-more-clause-leaves g c =
    owing_exit _ _ _ _ _ _ _ _ _ _ _ c.from_residual-in_err-more.result _ c.from_residual-in_err-more.ensures.1 (c.gather.ensures.leaves.owner.0, c.gather.ensures.leaves.owner.1 ∙ c.settle.ensures.leaves.owner.1 ∙ c.gather_once.ensures.owner.1)
    (λ run o.
    let one : cut_if c.in_ok-cut.cut ≡ 1 = ap cut_if c.if-not-cut.false in
    let cut = c.in_ok-cut.ensures.owing.cut (omega (arith, one)) _ _ o.owing in
    older_one (g.V.Volume.stands (g.V.Volume.state c.gather.new.volume).told) (g.R.Media.state c.gather.new.rig).contents _ _ (cut.0, cut.1, c.gather.ensures.leaves.kept _ (c.settle.ensures.leaves.kept _ cut.2)))

pub returns-in_err-more-clause-went : goal.returns-in_err-more-clause-went
returns-in_err-more-clause-went g c =
    let one : cut_if c.in_ok-cut.cut ≡ 1 = ap cut_if c.if-not-cut.false in
    let went = went_then g.P.Script.state g.P.Script.came g.P.Script.broke g.P.Script.knows (cut_if c.in_ok-cut.cut) c.in_ok-back.back.cuts 0 0 (c.in_ok-back.back.cuts + 1) 0 _ _ _ _ _ _ c.in_ok-cut.ensures.went.done c.in_ok-back.ensures.went.done (omega (arith, one)) (omega arith) in
    went_ends g.P.Script.state g.P.Script.came g.P.Script.broke g.P.Script.knows (λ s. s.cuts) 0 _ _ _ _ c.from_residual-in_err-more.result _ c.from_residual-in_err-more.ensures.1
    (goes_then g.P.Script.state g.P.Script.came g.P.Script.broke g.P.Script.knows _ _ _ _ _ _ went.goes c.gather.ensures.went.goes)
    (ends_after g.P.Script.state g.P.Script.came g.P.Script.broke g.P.Script.knows _ (c.in_ok-back.back.cuts + 1) 0 _ _ _ _ _ _ went c.in_err-more.ensures.went.ended)

pub returns-in_err-more-clause-spends : goal.returns-in_err-more-clause-spends
returns-in_err-more-clause-spends g c =
    let one : cut_if c.in_ok-cut.cut ≡ 1 = ap cut_if c.if-not-cut.false in
    spends_ends (touches_of c.args.lba c.args.count) _ _ _ _ c.from_residual-in_err-more.result _ c.from_residual-in_err-more.ensures.1
    (λ quiet. absurd (never_cut (cut_if c.in_ok-cut.cut) _ _ c.in_ok-cut.ensures.went.done.cut.few (omega (arith, one)) quiet))

pub returns-clause-leaves : goal.returns-clause-leaves
returns-clause-leaves g c = record {
  owner = (c.gather.ensures.leaves.owner.0, c.gather.ensures.leaves.owner.1 ∙ c.settle.ensures.leaves.owner.1 ∙ c.gather_once.ensures.owner.1);
  became = λ run o stops.
      let one : cut_if c.in_ok-cut.cut ≡ 1 = ap cut_if c.if-not-cut.false in
      let cut = c.in_ok-cut.ensures.owing.cut (omega (arith, one)) _ _ o.owing in
      let within = cut.1 in
      line_cut (g.V.Volume.owes c.gather.new.volume (g.R.Media.state c.gather.new.rig).contents) (g.V.Volume.stands (g.V.Volume.state c.gather.new.volume).told) (g.R.Media.state c.gather.new.rig).contents run c.args.work.now.recent o.older o.all o.few o.since cut.0 (c.in_ok-back.back.cuts + 1 + c.in_ok-more.more) c.in_ok-back.back.kept c.in_ok-back.back.lost
      (disk_written (drop cut.0 (writes_after run))) c.in_ok-more.ensures.leaves.clear.nothing_owed (c.gather.ensures.leaves.kept _ (c.settle.ensures.leaves.kept _ cut.2)) _ c.in_ok-back.ensures.forgot (line.Read c.args.lba c.args.count)
      (λ k ws. refl) tt (λ _ none. absurd (omega (arith, one, none))) (omega (arith, within)) refl (c.in_ok-back.ensures.found _ cut.2);
  images = λ run o.
      let one : cut_if c.in_ok-cut.cut ≡ 1 = ap cut_if c.if-not-cut.false in
      let cut = c.in_ok-cut.ensures.owing.cut (omega (arith, one)) _ _ o.owing in
      older_one (g.V.Volume.stands (g.V.Volume.state c.gather.new.volume).told) (g.R.Media.state c.gather.new.rig).contents _ _ (cut.0, cut.1, (c.gather.ensures.leaves.kept _ (c.settle.ensures.leaves.kept _ cut.2)));
  recent = all_none (g.V.Volume.state c.args.volume.now).told.geometry.size _ c.in_ok-back.ensures.forgot;
}

pub returns-clause-went : goal.returns-clause-went
returns-clause-went g c =
    let one : cut_if c.in_ok-cut.cut ≡ 1 = ap cut_if c.if-not-cut.false in
    let two = went_then g.P.Script.state g.P.Script.came g.P.Script.broke g.P.Script.knows (cut_if c.in_ok-cut.cut) c.in_ok-back.back.cuts 0 0 (c.in_ok-back.back.cuts + 1) 0 _ _ _ _ _ _ c.in_ok-cut.ensures.went.done c.in_ok-back.ensures.went.done (omega (arith, one)) (omega arith) in
    let went = went_then g.P.Script.state g.P.Script.came g.P.Script.broke g.P.Script.knows (c.in_ok-back.back.cuts + 1) c.in_ok-more.more 0 0 (c.in_ok-back.back.cuts + 1 + c.in_ok-more.more) 0 _ _ _ _ _ _ two c.in_ok-more.ensures.went.done refl (omega arith) in
    record { goes = went.goes; done = went; ended = tt }

pub returns-clause-spends : goal.returns-clause-spends
returns-clause-spends g c =
    let one : cut_if c.in_ok-cut.cut ≡ 1 = ap cut_if c.if-not-cut.false in
    record { done = λ quiet. absurd (never_cut (cut_if c.in_ok-cut.cut) _ _ c.in_ok-cut.ensures.went.done.cut.few (omega (arith, one)) quiet); ended = tt }

pub returns-then-not-cut-clause-found : goal.returns-then-not-cut-clause-found
returns-then-not-cut-clause-found g c = λ run o stops. c.in_ok-cut.ensures.found c.if-not-cut.true _ (shows_owing _ _ _ _ _ o.owing)

pub returns-clause-found : goal.returns-clause-found
returns-clause-found g c = λ run o stops.
    let one : cut_if c.in_ok-cut.cut ≡ 1 = ap cut_if c.if-not-cut.false in
    let cut = c.in_ok-cut.ensures.owing.cut (omega (arith, one)) _ _ o.owing in
    let within = cut.1 in
    let d : PlainDisk = disk_written (drop cut.0 (writes_after run)) in
    c.in_ok-more.ensures.found d (c.settle.ensures.leaves.kept _ cut.2)
    ∙ ap (read_backs c.args.lba c.args.count) (lost_disk run c.args.work.now.recent o.older o.all o.few o.since cut.0 c.in_ok-back.back.kept c.in_ok-back.back.lost d (omega (arith, within)) refl (c.in_ok-back.ensures.found _ cut.2))

pub returns-then-not-cut-clause-told : goal.returns-then-not-cut-clause-told
returns-then-not-cut-clause-told g c =
    let d : PlainDisk = disk_written c.requires.may.owing.1 in
    subst (λ (l : List Answer). All IsTold l) (sym (c.in_ok-cut.ensures.found c.if-not-cut.true d (shows_owing _ _ _ _ _ c.requires.may.owing.2))) (backs_told c.args.lba c.args.count d)

pub returns-clause-told : goal.returns-clause-told
returns-clause-told g c =
    let d = c.in_ok-back.ensures.leaves.clear.disk in
    subst (λ (l : List Answer). All IsTold l) (sym (c.in_ok-more.ensures.found d c.in_ok-back.ensures.leaves.clear.media)) (backs_told c.args.lba c.args.count d)
