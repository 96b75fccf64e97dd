use Rattle.std.proofs.Common.{ap, sym, ◌∙◌, subst}
use Rattle.std.proofs.lemmas.Result.{on_ok_weaker, IfErr-weaker}
use Rattle.ft_base.specs.Told.{Told}
use Rattle.trace_model.specs.Readings.{Reads}
use Rattle.trace_model.specs.Run.{disk_without}
use Rattle.trace_replay.specs.Commands.{TellsRefusal, TellsRefusalPart}
use Rattle.cache_run.specs.Inspected.{PrintsFront, PrintsReport}
use Rattle.cache_run.proofs.InspectLemmas.{early_on, inspected_by, inspected_lines}
use Rattle.trace_replay.proofs.CutsLemmas.{failed_then}
use Rattle.trace_replay.proofs.ExitLemmas.{rose_later}
use Rattle.cache_run.proofs.inspecting.inspect.Goals as goal

-- ---- every line was run

pub tell_report-requires : goal.tell_report-requires
tell_report-requires g c =
    let leaves = c.in-Ok.ensures.ends.leaves in
    record {
      can = record {
        owns = c.replay_quiet.ensures.owner.0;
        nothing_owed = c.in-Ok.ensures.nothing_owed;
        disk = disk_without c.in-Ok.ensures.ends.lost c.in-Ok.ensures.ends.run;
        stood = leaves.disk;
        on = leaves.rig.on;
      };
    }

pub returns-in-Ok-clause-told : goal.returns-in-Ok-clause-told
returns-in-Ok-clause-told g c = c.tell_report.ensures.told ∙ c.replay_quiet.ensures.owner.1

pub returns-in-Ok-clause-ends : goal.returns-in-Ok-clause-ends
returns-in-Ok-clause-ends g c =
    let o = (g.V.Volume.state c.args.volume.now).told in
    let mid = (g.V.Volume.state c.replay_quiet.new.volume).told in
    let after = (g.V.Volume.state c.tell_report.new.volume).told in
    let x = g.O.Sink.state c.args.sink.now in
    let y = g.O.Sink.state c.replay_quiet.new.sink in
    let z = g.O.Sink.state c.tell_report.new.sink in
    let first = g.R.Media.state c.args.rig.now in
    let between = g.R.Media.state c.replay_quiet.new.rig in
    let now = g.R.Media.state c.tell_report.new.rig in
    let asks = c.tell_report.ensures.asks in
    let causes = c.tell_report.ensures.causes in
    inspected_by o _ (g.V.Volume.stands mid) (g.V.Volume.stands after) (g.V.Volume.loads o) x y z first between now
    c.in-Ok.ensures.ends c.in-Ok.ensures.silent asks.0 asks.1 c.tell_report.ensures.kept c.tell_report.result asks.2
    (on_ok_weaker c.tell_report.result (λ prints. subst (λ (k : Told). PrintsReport k.geometry (g.V.Volume.loads k) now y z) c.replay_quiet.ensures.owner.1 prints) c.tell_report.ensures.printed)
    (λ broke. subst (λ (k : Told). PrintsFront k.geometry (g.V.Volume.loads k) now y z) c.replay_quiet.ensures.owner.1 (c.tell_report.ensures.short broke))
    (IfErr-weaker c.tell_report.result _ _ (λ e silent other. ap g.O.Sink.state (silent other)) c.tell_report.ensures.silent)
    causes.none_failed causes.not_trace causes.not_source

pub returns-in-Ok-clause-causes : goal.returns-in-Ok-clause-causes
returns-in-Ok-clause-causes g c =
    let goes = c.replay_quiet.ensures.goes in
    let before = c.replay_quiet.ensures.causes in
    let causes = c.tell_report.ensures.causes in
    record {
      source = λ is. absurd (causes.not_source is);
      sink = λ is. rose_later _ _ _ goes.sink_later (causes.sink is);
      flash = λ is. rose_later _ _ _ goes.flash_later (causes.flash is);
      disk = λ is. rose_later _ _ _ goes.disk_later (causes.disk is);
      source_stays = λ _. before.source_stays (λ is. (let bad = sym c.in-Ok.is ∙ is in cc));
      sink_stays = λ not. causes.sink_stays not ∙ before.sink_stays (λ is. (let bad = sym c.in-Ok.is ∙ is in cc));
      none_failed = λ flash disk. failed_then _ _ _ (before.none_failed (λ is. (let bad = sym c.in-Ok.is ∙ is in cc)) (λ is. (let bad = sym c.in-Ok.is ∙ is in cc))) (causes.none_failed flash disk);
    }

pub returns-in-Ok-clause-on : goal.returns-in-Ok-clause-on
returns-in-Ok-clause-on g c = c.tell_report.ensures.asks.1.on

pub returns-in-Ok-clause-lent : goal.returns-in-Ok-clause-lent
returns-in-Ok-clause-lent g c =
    let lent = c.replay_quiet.ensures.goes.lent in
    record { source_lent = lent.source_lent; sink_lent = c.tell_report.ensures.lent ∙ lent.sink_lent; rig_lent = c.tell_report.ensures.asks.1.lent ∙ lent.rig_lent }

-- ---- it ended before that

pub returns-in-Err-clause-ends : goal.returns-in-Err-clause-ends
returns-in-Err-clause-ends g c =
    let o = (g.V.Volume.state c.args.volume.now).told in
    let mid = (g.V.Volume.state c.replay_quiet.new.volume).told in
    inspected_lines o (Reads o.geometry.size (g.I.Source.state c.args.source.now) (g.I.Source.state c.replay_quiet.new.source)) (g.V.Volume.loads o) (g.V.Volume.stands mid)
    (g.O.Sink.state c.args.sink.now) (g.O.Sink.state c.replay_quiet.new.sink) (g.R.Media.state c.args.rig.now) (g.R.Media.state c.replay_quiet.new.rig) c.in-Err.ended c.in-Err.ensures.ends

pub returns-in-Err-clause-on : goal.returns-in-Err-clause-on
returns-in-Err-clause-on g c =
    let o = (g.V.Volume.state c.args.volume.now).told in
    let mid = (g.V.Volume.state c.replay_quiet.new.volume).told in
    let x = g.O.Sink.state c.args.sink.now in
    let y = g.O.Sink.state c.replay_quiet.new.sink in
    early_on o (Reads o.geometry.size (g.I.Source.state c.args.source.now) (g.I.Source.state c.replay_quiet.new.source)) (TellsRefusal x y) (TellsRefusalPart x y) (g.V.Volume.stands mid)
    (g.R.Media.state c.args.rig.now) (g.R.Media.state c.replay_quiet.new.rig) c.in-Err.ended c.in-Err.ensures.ends

pub returns-in-Err-clause-causes : goal.returns-in-Err-clause-causes
returns-in-Err-clause-causes g c = c.in-Err.ensures.causes

pub returns-in-Err-clause-lent : goal.returns-in-Err-clause-lent
returns-in-Err-clause-lent g c = c.replay_quiet.ensures.goes.lent
