use Rattle.std.proofs.Common.{refl, sym, subst, []}
use Rattle.ft_base.specs.Told.{Told}
use Rattle.ft_media.specs.State.{State}
use Rattle.ft_volume.specs.Volume.{Costs, Goes, opened_of}
use Rattle.ft_volume.specs.Standing.{StandFor}
use Rattle.ft_volume.specs.Volume.Call.{Reports}
use Rattle.ft_volume.specs.declared.volume.VolumeError.{VolumeError}
use Rattle.cache_run.specs.Inspected.{Asks}
use Rattle.cache_run.proofs.AskLemmas.{answered, asks_cut, asks_still, at_device, disk_rose, flash_rose, none_failed_at, none_failed_cut, not_lost}
use Rattle.trace_replay.proofs.CutsLemmas.{failed_same}
use Rattle.cache_run.proofs.OwedLemmas.{stays_none}
use Rattle.cache_run.proofs.reporting.report_once.Goals as goal

-- ---- it gave a report

pub returns-in-Ok-clause-kept : goal.returns-in-Ok-clause-kept
returns-in-Ok-clause-kept g c = λ d stood.
    let stays =
    stays_none (g.V.Volume.owes c.args.volume.now (g.R.Media.state c.args.rig.now).contents) (g.V.Volume.owes c.report.new.self (g.R.Media.state c.report.new.rig).contents) g.V.Volume.stands Reports
    (g.V.Volume.state c.args.volume.now) (g.V.Volume.state c.report.new.self) _ _ _ d refl (λ owed. g.met.V.Volume.down_owes_nothing c.report.new.self _ owed c.report.ensures.owns) (λ is. absurd (cc)) c.requires.can.nothing_owed c.in-Ok.ensures.disk stood in
    stays.one.kept refl

pub returns-in-Ok-clause-nothing_owed : goal.returns-in-Ok-clause-nothing_owed
returns-in-Ok-clause-nothing_owed g c =
    let stays =
    stays_none (g.V.Volume.owes c.args.volume.now (g.R.Media.state c.args.rig.now).contents) (g.V.Volume.owes c.report.new.self (g.R.Media.state c.report.new.rig).contents) g.V.Volume.stands Reports
    (g.V.Volume.state c.args.volume.now) (g.V.Volume.state c.report.new.self) _ _ _ c.requires.can.disk refl (λ owed. g.met.V.Volume.down_owes_nothing c.report.new.self _ owed c.report.ensures.owns) (λ is. absurd (cc)) c.requires.can.nothing_owed c.in-Ok.ensures.disk c.requires.can.stood in
    stays.owed

pub returns-in-Ok-clause-asks : goal.returns-in-Ok-clause-asks
returns-in-Ok-clause-asks g c =
    let can = g.met.V.Volume.can_be_loaded c.args.volume.now _ c.requires.can.owns in
    asks_still (g.V.Volume.state c.args.volume.now) (g.V.Volume.state c.report.new.self) (opened_of (g.V.Volume.state c.args.volume.now) can.0) (g.R.Media.state c.args.rig.now) (g.R.Media.state c.report.new.rig) c.requires.can.on _ refl c.in-Ok.ensures.goes (c.in-Ok.ensures.costs can.0 can.1)

pub returns-in-Ok-clause-ready : goal.returns-in-Ok-clause-ready
returns-in-Ok-clause-ready g c = c.in-Ok.ensures.goes.ready c.in-Ok.ensures.goes.up

pub returns-in-Ok-clause-report : goal.returns-in-Ok-clause-report
returns-in-Ok-clause-report g c =
    let can = g.met.V.Volume.can_be_loaded c.report.new.self _ c.report.ensures.owns in
    let loaded = subst (λ (t : Told). g.V.Volume.loads t (g.R.Media.state c.report.new.rig).contents.flash.page can.0) c.in-Ok.ensures.goes.told can.1 in
    record { entries = can.0; loaded = loaded; is = c.in-Ok.ensures.report can.0 loaded }

-- ---- a stop cut it

pub returns-in-Ok-power_again-clause-kept : goal.returns-in-Ok-power_again-clause-kept
returns-in-Ok-power_again-clause-kept g c = λ d stood.
    let stays =
    stays_none (g.V.Volume.owes c.args.volume.now (g.R.Media.state c.args.rig.now).contents) (g.V.Volume.owes c.report.new.self (g.R.Media.state c.report.new.rig).contents) g.V.Volume.stands Reports
    (g.V.Volume.state c.args.volume.now) (g.V.Volume.state c.report.new.self) _ _ _ d refl (λ owed. g.met.V.Volume.down_owes_nothing c.report.new.self _ owed c.report.ensures.owns) c.in-Err.ensures.within c.requires.can.nothing_owed c.in-Err.ensures.disk stood in
    subst (λ (s : State). StandFor (g.V.Volume.stands (g.V.Volume.state c.report.new.self).told) s.contents d) (sym c.in-Ok-power_again.ensures.powered) (stays.one.kept refl)

pub returns-in-Ok-power_again-clause-nothing_owed : goal.returns-in-Ok-power_again-clause-nothing_owed
returns-in-Ok-power_again-clause-nothing_owed g c =
    let stays =
    stays_none (g.V.Volume.owes c.args.volume.now (g.R.Media.state c.args.rig.now).contents) (g.V.Volume.owes c.report.new.self (g.R.Media.state c.report.new.rig).contents) g.V.Volume.stands Reports
    (g.V.Volume.state c.args.volume.now) (g.V.Volume.state c.report.new.self) _ _ _ c.requires.can.disk refl (λ owed. g.met.V.Volume.down_owes_nothing c.report.new.self _ owed c.report.ensures.owns) c.in-Err.ensures.within c.requires.can.nothing_owed c.in-Err.ensures.disk c.requires.can.stood in
    subst (λ (s : State). g.V.Volume.owes c.report.new.self s.contents []) (sym c.in-Ok-power_again.ensures.powered) stays.owed

pub returns-in-Ok-power_again-clause-asks : goal.returns-in-Ok-power_again-clause-asks
returns-in-Ok-power_again-clause-asks g c =
    let can = g.met.V.Volume.can_be_loaded c.args.volume.now _ c.requires.can.owns in
    let u = g.V.Volume.state c.args.volume.now in
    let v = g.V.Volume.state c.report.new.self in
    let w = opened_of u can.0 in
    let a = g.R.Media.state c.args.rig.now in
    let b = g.R.Media.state c.report.new.rig in
    asks_cut u v w a b c.requires.can.on (g.R.Media.state c.power_again.new.rig)
    (subst (λ (e : VolumeError). Goes u v a b (answered e)) c.in-Ok-power_again.ensures.lost c.in-Err.ensures.goes)
    (subst (λ (e : VolumeError). Costs Reports w v a b (answered e)) c.in-Ok-power_again.ensures.lost (c.in-Err.ensures.costs can.0 can.1))
    c.in-Ok-power_again.ensures.powered

-- ---- any other refusal

pub returns-in-Err-power_again-clause-kept : goal.returns-in-Err-power_again-clause-kept
returns-in-Err-power_again-clause-kept g c = λ d stood.
    let stays =
    stays_none (g.V.Volume.owes c.args.volume.now (g.R.Media.state c.args.rig.now).contents) (g.V.Volume.owes c.report.new.self (g.R.Media.state c.report.new.rig).contents) g.V.Volume.stands Reports
    (g.V.Volume.state c.args.volume.now) (g.V.Volume.state c.report.new.self) _ _ _ d refl (λ owed. g.met.V.Volume.down_owes_nothing c.report.new.self _ owed c.report.ensures.owns) c.in-Err.ensures.within c.requires.can.nothing_owed c.in-Err.ensures.disk stood in
    subst (λ (s : State). StandFor (g.V.Volume.stands (g.V.Volume.state c.report.new.self).told) s.contents d) (sym c.in-Err-power_again.ensures.same) (stays.one.kept refl)

pub returns-in-Err-power_again-clause-nothing_owed : goal.returns-in-Err-power_again-clause-nothing_owed
returns-in-Err-power_again-clause-nothing_owed g c =
    let stays =
    stays_none (g.V.Volume.owes c.args.volume.now (g.R.Media.state c.args.rig.now).contents) (g.V.Volume.owes c.report.new.self (g.R.Media.state c.report.new.rig).contents) g.V.Volume.stands Reports
    (g.V.Volume.state c.args.volume.now) (g.V.Volume.state c.report.new.self) _ _ _ c.requires.can.disk refl (λ owed. g.met.V.Volume.down_owes_nothing c.report.new.self _ owed c.report.ensures.owns) c.in-Err.ensures.within c.requires.can.nothing_owed c.in-Err.ensures.disk c.requires.can.stood in
    subst (λ (s : State). g.V.Volume.owes c.report.new.self s.contents []) (sym c.in-Err-power_again.ensures.same) stays.owed

pub returns-in-Err-power_again-clause-asks : goal.returns-in-Err-power_again-clause-asks
returns-in-Err-power_again-clause-asks g c =
    let can = g.met.V.Volume.can_be_loaded c.args.volume.now _ c.requires.can.owns in
    let a = g.R.Media.state c.args.rig.now in
    subst (λ (s : State). Asks 0 a s) (sym c.in-Err-power_again.ensures.same)
    (asks_still (g.V.Volume.state c.args.volume.now) (g.V.Volume.state c.report.new.self) (opened_of (g.V.Volume.state c.args.volume.now) can.0) a (g.R.Media.state c.report.new.rig) c.requires.can.on _
    (not_lost c.in-Err.error c.in-Err-power_again.ensures.other) c.in-Err.ensures.goes (c.in-Err.ensures.costs can.0 can.1))

pub returns-in-Err-power_again-clause-flash : goal.returns-in-Err-power_again-clause-flash
returns-in-Err-power_again-clause-flash g c = λ is. flash_rose _ _ _ _ _ c.in-Err-power_again.ensures.same _ c.in-Err.error c.in-Err-power_again.ended c.in-Err.ensures.goes c.in-Err-power_again.ensures.ended is

pub returns-in-Err-power_again-clause-disk : goal.returns-in-Err-power_again-clause-disk
returns-in-Err-power_again-clause-disk g c = λ is. disk_rose _ _ _ _ _ c.in-Err-power_again.ensures.same _ c.in-Err.error c.in-Err-power_again.ended c.in-Err.ensures.goes c.in-Err-power_again.ensures.ended is

pub returns-in-Err-power_again-clause-only : goal.returns-in-Err-power_again-clause-only
returns-in-Err-power_again-clause-only g c = at_device _ c.in-Err.error _ c.in-Err-power_again.ensures.ended

-- ---- what failed

pub returns-in-Ok-clause-sound : goal.returns-in-Ok-clause-sound
returns-in-Ok-clause-sound g c = λ _ _. failed_same _ _ (c.in-Ok.ensures.goes.cause.none refl)

pub returns-in-Ok-power_again-clause-sound : goal.returns-in-Ok-power_again-clause-sound
returns-in-Ok-power_again-clause-sound g c = λ _ _.
    let u = g.V.Volume.state c.args.volume.now in
    let v = g.V.Volume.state c.report.new.self in
    let a = g.R.Media.state c.args.rig.now in
    let b = g.R.Media.state c.report.new.rig in
    none_failed_cut u v a b (g.R.Media.state c.power_again.new.rig) (subst (λ (e : VolumeError). Goes u v a b (answered e)) c.in-Ok-power_again.ensures.lost c.in-Err.ensures.goes) c.in-Ok-power_again.ensures.powered

pub returns-in-Err-power_again-clause-sound : goal.returns-in-Err-power_again-clause-sound
returns-in-Err-power_again-clause-sound g c = none_failed_at _ _ _ _ _ c.in-Err-power_again.ensures.same _ c.in-Err.error c.in-Err-power_again.ended c.in-Err-power_again.ensures.other c.in-Err.ensures.goes c.in-Err-power_again.ensures.ended
