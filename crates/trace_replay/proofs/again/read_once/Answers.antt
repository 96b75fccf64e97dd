use Rattle.std.proofs.Common.{◌∷◌, [], refl, ap, subst, arith, true, false, Err}
use Rattle.ft_base.specs.Contents.{Contents}
use Rattle.ft_volume.specs.Standing.{StandFor}
use Rattle.ft_volume.specs.Volume.Call.{Reads}
use Rattle.trace_replay.specs.Went.{cut_if}
use Rattle.trace_replay.proofs.OwingLemmas.{call_ends, call_lost, call_ok, clear_kept, clear_lost, clear_ok, shown}
use Rattle.trace_replay.proofs.CallLemmas.{still_contents, was_call}
use Rattle.trace_replay.proofs.WentLemmas.{refused, went_call, went_ends}
use Rattle.trace_replay.proofs.SpendsLemmas.{call_most, call_never_lost, call_spent, spends_ends}
use Rattle.trace_replay.specs.Spends.Step.{Touches}
use Rattle.trace_replay.proofs.again.read_once.Goals as goal

pub returns-in_err-go_on-in-Err-clause-went : goal.returns-in_err-go_on-in-Err-clause-went
returns-in_err-go_on-in-Err-clause-went g c =
    let went = went_call g.P.Script.state g.P.Script.came g.P.Script.broke g.P.Script.knows _ c.in-Err.error c.args.script.now _ (g.R.Media.state c.args.rig.now) (g.R.Media.state c.read.new.rig) _
    (was_call _ _ _ _ c.in-Err.error c.requires.can.on c.in-Err.ensures.goes)
    (λ is. let over = c.in-Err.ensures.outside.0 (ap refused is) in absurd (omega (arith, over, c.requires.within)))
    (λ lost. let said = c.in_err-go_on-in-Err.ensures.said lost in (c.go_on.ensures.powered lost, said.goes, said.ended))
    c.go_on.ensures.same c.in_err-go_on-in-Err.ensures.ended in
    went_ends g.P.Script.state g.P.Script.came g.P.Script.broke g.P.Script.knows cut_if 0 _ _ _ _ c.from_residual.result _ c.from_residual.ensures.1 went.0 went.1.0

pub returns-in_err-go_on-in-Err-clause-spends : goal.returns-in_err-go_on-in-Err-clause-spends
returns-in_err-go_on-in-Err-clause-spends g c =
    spends_ends (Touches c.args.lba ∷ []) _ _ _ _ c.from_residual.result _ c.from_residual.ensures.1
    (λ quiet. call_most (Unit {0}) g.V.Volume.loads (Reads c.args.lba c.read.new.block) (g.V.Volume.state c.args.volume.now) (g.V.Volume.state c.read.new.self) (g.R.Media.state c.args.rig.now)
    (g.R.Media.state c.read.new.rig) c.in-Err.error _ quiet (g.met.V.Volume.can_be_loaded c.args.volume.now _ c.requires.can.owns) c.in-Err.ensures.costs c.in-Err.ensures.goes c.go_on.ensures.same)

pub returns-in_ok-go_on-in-Err-clause-spends : goal.returns-in_ok-go_on-in-Err-clause-spends
returns-in_ok-go_on-in-Err-clause-spends g c = record {
  done = λ quiet. absurd (call_never_lost (Unit {0}) g.V.Volume.loads (Reads c.args.lba c.read.new.block) (g.V.Volume.state c.args.volume.now) (g.V.Volume.state c.read.new.self)
      (g.R.Media.state c.args.rig.now) (g.R.Media.state c.read.new.rig) c.in-Err.error c.in_ok-go_on-in-Err.ensures.lost quiet c.in-Err.ensures.goes);
  ended = tt;
}

pub returns-in-Ok-clause-spends : goal.returns-in-Ok-clause-spends
returns-in-Ok-clause-spends g c = record {
  done = λ quiet. call_spent (Unit {0}) g.V.Volume.loads (Reads c.args.lba c.read.new.block) (g.V.Volume.state c.args.volume.now) (g.V.Volume.state c.read.new.self) (g.R.Media.state c.args.rig.now)
      (g.R.Media.state c.read.new.rig) tt quiet (g.met.V.Volume.can_be_loaded c.args.volume.now _ c.requires.can.owns) c.in-Ok.ensures.costs c.in-Ok.ensures.goes;
  ended = tt;
}

pub returns-in_err-go_on-in-Err-clause-kept : goal.returns-in_err-go_on-in-Err-clause-kept
returns-in_err-go_on-in-Err-clause-kept g c = λ none d stood.
    subst (λ (k : Contents). StandFor (g.V.Volume.stands (g.V.Volume.state c.read.new.self).told) k d) (still_contents c.in-Err.error _ _ c.go_on.ensures.powered c.go_on.ensures.same)
    (clear_kept (g.V.Volume.owes c.args.volume.now (g.R.Media.state c.args.rig.now).contents) (g.V.Volume.owes c.read.new.self (g.R.Media.state c.read.new.rig).contents) g.V.Volume.stands (Reads c.args.lba c.read.new.block) (g.V.Volume.state c.args.volume.now) (g.V.Volume.state c.read.new.self) (g.R.Media.state c.args.rig.now).contents (g.R.Media.state c.read.new.rig).contents _ d refl none c.in-Err.ensures.disk stood)

pub returns-in_ok-go_on-in-Err-clause-kept : goal.returns-in_ok-go_on-in-Err-clause-kept
returns-in_ok-go_on-in-Err-clause-kept g c = λ none d stood.
    subst (λ (k : Contents). StandFor (g.V.Volume.stands (g.V.Volume.state c.read.new.self).told) k d) (still_contents c.in-Err.error _ _ c.go_on.ensures.powered c.go_on.ensures.same)
    (clear_kept (g.V.Volume.owes c.args.volume.now (g.R.Media.state c.args.rig.now).contents) (g.V.Volume.owes c.read.new.self (g.R.Media.state c.read.new.rig).contents) g.V.Volume.stands (Reads c.args.lba c.read.new.block) (g.V.Volume.state c.args.volume.now) (g.V.Volume.state c.read.new.self) (g.R.Media.state c.args.rig.now).contents (g.R.Media.state c.read.new.rig).contents _ d refl none c.in-Err.ensures.disk stood)

pub returns-in-Ok-clause-kept : goal.returns-in-Ok-clause-kept
returns-in-Ok-clause-kept g c = λ none d stood. clear_kept (g.V.Volume.owes c.args.volume.now (g.R.Media.state c.args.rig.now).contents) (g.V.Volume.owes c.read.new.self (g.R.Media.state c.read.new.rig).contents) g.V.Volume.stands (Reads c.args.lba c.read.new.block) (g.V.Volume.state c.args.volume.now) (g.V.Volume.state c.read.new.self) (g.R.Media.state c.args.rig.now).contents (g.R.Media.state c.read.new.rig).contents _ d refl none c.in-Ok.ensures.disk stood

pub returns-in_ok-go_on-in-Err-clause-clear : goal.returns-in_ok-go_on-in-Err-clause-clear
returns-in_ok-go_on-in-Err-clause-clear g c = λ clear.
    clear_lost cut_if (g.V.Volume.owes c.args.volume.now (g.R.Media.state c.args.rig.now).contents) (g.V.Volume.owes c.read.new.self) g.V.Volume.stands (Reads c.args.lba c.read.new.block) (g.V.Volume.state c.args.volume.now) (g.V.Volume.state c.read.new.self) (g.R.Media.state c.args.rig.now).contents (g.R.Media.state c.read.new.rig).contents c.in-Err.error _ c.in_ok-go_on-in-Err.ensures.lost (still_contents c.in-Err.error _ _ c.go_on.ensures.powered c.go_on.ensures.same) refl
    (λ left owed. g.met.V.Volume.down_owes_nothing c.read.new.self _ left c.read.ensures.owns (c.in-Err.ensures.goes.lost c.requires.can.on (ap Err c.in_ok-go_on-in-Err.ensures.lost)) owed) c.in-Err.ensures.disk clear

pub returns-in-Ok-clause-clear : goal.returns-in-Ok-clause-clear
returns-in-Ok-clause-clear g c = λ clear. clear_ok cut_if (g.V.Volume.owes c.args.volume.now (g.R.Media.state c.args.rig.now).contents) (g.V.Volume.owes c.read.new.self) g.V.Volume.stands (Reads c.args.lba c.read.new.block) (g.V.Volume.state c.args.volume.now) (g.V.Volume.state c.read.new.self) (g.R.Media.state c.args.rig.now).contents (g.R.Media.state c.read.new.rig).contents tt refl c.in-Ok.ensures.disk clear

pub returns-in_err-go_on-in-Err-clause-owing : goal.returns-in_err-go_on-in-Err-clause-owing
returns-in_err-go_on-in-Err-clause-owing g c =
    call_ends cut_if (g.V.Volume.owes c.args.volume.now (g.R.Media.state c.args.rig.now).contents) (g.V.Volume.owes c.read.new.self) g.V.Volume.stands (Reads c.args.lba c.read.new.block) (g.V.Volume.state c.args.volume.now) (g.V.Volume.state c.read.new.self) (g.R.Media.state c.args.rig.now).contents (g.R.Media.state c.read.new.rig).contents c.from_residual.result _ c.in-Err.error _ c.from_residual.ensures.1
    (still_contents c.in-Err.error _ _ c.go_on.ensures.powered c.go_on.ensures.same) c.in-Err.ensures.disk

pub returns-in_ok-go_on-in-Err-clause-owing : goal.returns-in_ok-go_on-in-Err-clause-owing
returns-in_ok-go_on-in-Err-clause-owing g c =
    call_lost cut_if (g.V.Volume.owes c.args.volume.now (g.R.Media.state c.args.rig.now).contents) (g.V.Volume.owes c.read.new.self) g.V.Volume.stands (Reads c.args.lba c.read.new.block) (g.V.Volume.state c.args.volume.now) (g.V.Volume.state c.read.new.self) (g.R.Media.state c.args.rig.now).contents (g.R.Media.state c.read.new.rig).contents true c.in-Err.error _ c.in_ok-go_on-in-Err.ensures.lost (still_contents c.in-Err.error _ _ c.go_on.ensures.powered c.go_on.ensures.same) (omega arith)
    (g.met.V.Volume.owes_some c.args.volume.now _ c.requires.can.owns)
    (λ left owed. g.met.V.Volume.down_owes_nothing c.read.new.self _ left c.read.ensures.owns (c.in-Err.ensures.goes.lost c.requires.can.on (ap Err c.in_ok-go_on-in-Err.ensures.lost)) owed) c.in-Err.ensures.disk

pub returns-in-Ok-clause-owing : goal.returns-in-Ok-clause-owing
returns-in-Ok-clause-owing g c = call_ok cut_if (g.V.Volume.owes c.args.volume.now (g.R.Media.state c.args.rig.now).contents) (g.V.Volume.owes c.read.new.self) g.V.Volume.stands (Reads c.args.lba c.read.new.block) (g.V.Volume.state c.args.volume.now) (g.V.Volume.state c.read.new.self) (g.R.Media.state c.args.rig.now).contents (g.R.Media.state c.read.new.rig).contents tt false refl c.in-Ok.ensures.disk

pub returns-in-Ok-clause-found : goal.returns-in-Ok-clause-found
returns-in-Ok-clause-found g c = λ _ d shows. (shown (g.V.Volume.owes c.args.volume.now (g.R.Media.state c.args.rig.now).contents) (g.V.Volume.owes c.read.new.self (g.R.Media.state c.read.new.rig).contents) g.V.Volume.stands (Reads c.args.lba c.read.new.block) (g.V.Volume.state c.args.volume.now) (g.V.Volume.state c.read.new.self) (g.R.Media.state c.args.rig.now).contents (g.R.Media.state c.read.new.rig).contents tt d c.in-Ok.ensures.disk shows).0

pub returns-in-Ok-clause-shows : goal.returns-in-Ok-clause-shows
returns-in-Ok-clause-shows g c = λ _ d shows. (shown (g.V.Volume.owes c.args.volume.now (g.R.Media.state c.args.rig.now).contents) (g.V.Volume.owes c.read.new.self (g.R.Media.state c.read.new.rig).contents) g.V.Volume.stands (Reads c.args.lba c.read.new.block) (g.V.Volume.state c.args.volume.now) (g.V.Volume.state c.read.new.self) (g.R.Media.state c.args.rig.now).contents (g.R.Media.state c.read.new.rig).contents tt d c.in-Ok.ensures.disk shows).1
