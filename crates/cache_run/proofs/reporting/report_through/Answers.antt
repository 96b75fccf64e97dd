use Rattle.std.proofs.Common.{◌≡◌, ◌+◌, Option, Ok, Err, IfSome, IsErrOf, refl, sym, ap, ◌∙◌, subst, arith}
use Rattle.std.specs.Option.{OnSome}
use Rattle.ft_base.specs.Told.{Told}
use Rattle.ft_media.specs.Fitted.{KeepsReady}
use Rattle.ft_media.specs.State.{State}
use Rattle.ft_volume.specs.declared.volume.Report.{Report}
use Rattle.trace_replay.specs.declared.ended.Ended.{Ended}
use Rattle.cache_run.specs.Inspected.{Asks, IsReportOf, cuts_by}
use Rattle.cache_run.proofs.AskLemmas.{asks_none, asks_then, fewer_left}
use Rattle.trace_replay.proofs.CutsLemmas.{failed_then, none_failed}
use Rattle.trace_replay.proofs.ExitLemmas.{rose_later}
use Rattle.cache_run.proofs.reporting.report_through.Goals as goal

-- an end is the same one, whatever would have been answered
err_as : {A B : Type 0} (e x : Ended) → IsErrOf {T = A} (Err e) x → IsErrOf {T = B} (Err e) x
err_as e x is = let same : e ≡ x = cc in ap Err same

pub again-init : goal.again-init
again-init g c = record { can = c.requires.can; told = refl; kept = λ d stood. stood; sound = none_failed _; asks = (0, asks_none _ c.requires.can.on, λ none. refl) }

pub again-preserved : goal.again-preserved
again-preserved g c =
    let can = c.again.invariant.can in
    let asks = c.again.invariant.asks in
    let cut : Asks 1 (g.R.Media.state c.again.rig) (g.R.Media.state c.report_once.new.rig) = subst (λ (f : Option Report). Asks (cuts_by (Ok f)) (g.R.Media.state c.again.rig) (g.R.Media.state c.report_once.new.rig)) c.in-Ok-None.field-0-is c.in-Ok-None.ensures.asks in
    record {
      can = record {
        owns = c.report_once.ensures.owner.0;
        nothing_owed = c.report_once.ensures.nothing_owed;
        disk = can.disk;
        stood = c.report_once.ensures.kept can.disk can.stood;
        on = cut.on;
      };
      told = c.report_once.ensures.owner.1 ∙ c.again.invariant.told;
      kept = λ d stood. c.report_once.ensures.kept d (c.again.invariant.kept d stood);
      sound = failed_then _ _ _ c.again.invariant.sound (c.report_once.ensures.sound (λ is. (let bad = sym c.in-Ok-None.is ∙ is in cc)) (λ is. (let bad = sym c.in-Ok-None.is ∙ is in cc)));
      asks = (asks.0 + 1, asks_then asks.0 1 _ _ _ asks.1 cut, λ none. absurd (omega (arith, none)));
    }

pub again-smaller : goal.again-smaller
again-smaller g c =
    let cut : Asks 1 (g.R.Media.state c.again.rig) (g.R.Media.state c.report_once.new.rig) = subst (λ (f : Option Report). Asks (cuts_by (Ok f)) (g.R.Media.state c.again.rig) (g.R.Media.state c.report_once.new.rig)) c.in-Ok-None.field-0-is c.in-Ok-None.ensures.asks in
    let less = fewer_left _ _ cut in
    omega (arith, less)

pub returns-in-Ok-Some-clause-asks : goal.returns-in-Ok-Some-clause-asks
returns-in-Ok-Some-clause-asks g c =
    let asks = c.again.invariant.asks in
    let still : Asks 0 (g.R.Media.state c.again.rig) (g.R.Media.state c.report_once.new.rig) = subst (λ (f : Option Report). Asks (cuts_by (Ok f)) (g.R.Media.state c.again.rig) (g.R.Media.state c.report_once.new.rig)) c.in-Ok-Some.field-0-is c.in-Ok-Some.ensures.asks in
    let ready : KeepsReady (g.R.Media.state c.again.rig) (g.R.Media.state c.report_once.new.rig) = subst (λ (f : Option Report). OnSome f (KeepsReady (g.R.Media.state c.again.rig) (g.R.Media.state c.report_once.new.rig))) c.in-Ok-Some.field-0-is c.in-Ok-Some.ensures.ready in
    (asks.0 + 0, asks_then asks.0 0 _ _ _ asks.1 still, λ none. subst (λ (s : State). KeepsReady s (g.R.Media.state c.report_once.new.rig)) (asks.2 (omega (arith, none))) ready)

pub returns-in-Ok-Some-clause-report : goal.returns-in-Ok-Some-clause-report
returns-in-Ok-Some-clause-report g c =
    let found : IsReportOf (g.V.Volume.state c.again.volume).told.geometry (g.V.Volume.loads (g.V.Volume.state c.again.volume).told) (g.R.Media.state c.report_once.new.rig) c.in-Ok-Some.report =
    subst (λ (f : Option Report). IfSome f (λ report. IsReportOf (g.V.Volume.state c.again.volume).told.geometry (g.V.Volume.loads (g.V.Volume.state c.again.volume).told) (g.R.Media.state c.report_once.new.rig) report)) c.in-Ok-Some.field-0-is c.in-Ok-Some.ensures.report in
    subst (λ (k : Told). IsReportOf k.geometry (g.V.Volume.loads k) (g.R.Media.state c.report_once.new.rig) c.in-Ok-Some.report) c.again.invariant.told found

pub returns-in-Err-clause-asks : goal.returns-in-Err-clause-asks
returns-in-Err-clause-asks g c =
    let asks = c.again.invariant.asks in
    (asks.0 + 0, asks_then asks.0 0 _ _ _ asks.1 c.in-Err.ensures.asks, tt)

pub returns-in-Err-clause-flash : goal.returns-in-Err-clause-flash
returns-in-Err-clause-flash g c = λ is. rose_later _ _ _ c.again.invariant.asks.1.flash (c.in-Err.ensures.flash (err_as c.in-Err.ended _ is))

pub returns-in-Err-clause-disk : goal.returns-in-Err-clause-disk
returns-in-Err-clause-disk g c = λ is. rose_later _ _ _ c.again.invariant.asks.1.disk (c.in-Err.ensures.disk (err_as c.in-Err.ended _ is))

pub returns-in-Ok-Some-clause-sound : goal.returns-in-Ok-Some-clause-sound
returns-in-Ok-Some-clause-sound g c = λ _ _. failed_then _ _ _ c.again.invariant.sound (c.report_once.ensures.sound (λ is. (let bad = sym c.in-Ok-Some.is ∙ is in cc)) (λ is. (let bad = sym c.in-Ok-Some.is ∙ is in cc)))

pub returns-in-Err-clause-sound : goal.returns-in-Err-clause-sound
returns-in-Err-clause-sound g c = λ flash disk. failed_then _ _ _ c.again.invariant.sound (c.in-Err.ensures.sound (λ is. flash (err_as c.in-Err.ended _ is)) (λ is. disk (err_as c.in-Err.ended _ is)))
