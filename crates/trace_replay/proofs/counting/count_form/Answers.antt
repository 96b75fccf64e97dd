use Rattle.std.proofs.Common.{◌≡◌, [], Err, refl, sym, ap, ◌∙◌, rules}
use Rattle.trace_replay.specs.declared.ended.Ended.TheVariants as ended
use Rattle.trace_replay.proofs.AskedLemmas.{asked_run, err_also, err_asked, runs_from}
use Rattle.trace_replay.proofs.ExitLemmas.{blamed_at}
use Rattle.trace_replay.proofs.FromLemmas.{before_itself, early_failed, early_from, early_says}
use Rattle.trace_replay.proofs.StreamLemmas.{known_by, lent_apart}
use Rattle.trace_replay.proofs.QuietLemmas.{shown_refusal, told_refusal}
use Rattle.trace_replay.proofs.counting.count_form.Goals as goal

pub returns-in-Ok-clause-ends : goal.returns-in-Ok-clause-ends
unfolding runs_from
returns-in-Ok-clause-ends g c =
    let told = (g.V.Volume.state c.args.volume.now).told in
    let a = g.I.Source.state c.args.source.now in
    let x = g.O.Sink.state c.args.sink.now in
    let script = c.run_script.new.script.quiet.stream in
    let apart = lent_apart _ _ _ _ _ _ _ _ c.run_script.ensures.goes.script_lent in
    let same_source : script.source.ghost_name ≡ c.new-stream.result.source.ghost_name = apart.0 in
    let same_sink : script.sink.ghost_name ≡ c.new-stream.result.sink.ghost_name = apart.1 in
    let size : script.reader.size ≡ told.geometry.size = c.run_script.ensures.goes.size ∙ c.new-stream.ensures.size ∙ c.size.ensures in
    let ends = c.in-Ok.ensures.ends a x (c.new-stream.ensures.came, c.new.ensures) in
    let runs = ends.0 in (
      runs_from told _ _ _ _ _ _
          (known_by g.F.LineForm.says script.reader.size told.geometry.size a (g.I.Source.state script.source.now) _ size (search (rules, same_source)))
          (λ y d stood. stood) _ _ runs
          (told_refusal x (g.O.Sink.state script.sink.now) _ _ (search (rules, same_sink)) (search (rules, same_sink)) runs.run [] runs.printed.0 runs.printed.1.said runs.printed.2.0.0.said),
      asked_run runs.run c.run_script.new.script.asked ends.1.1,
    )

pub returns-in-Err-clause-ends : goal.returns-in-Err-clause-ends
returns-in-Err-clause-ends g c =
    let told = (g.V.Volume.state c.args.volume.now).told in
    let a = g.I.Source.state c.args.source.now in
    let x = g.O.Sink.state c.args.sink.now in
    let script = c.run_script.new.script.quiet.stream in
    let apart = lent_apart _ _ _ _ _ _ _ _ c.run_script.ensures.goes.script_lent in
    let same_source : script.source.ghost_name ≡ c.new-stream.result.source.ghost_name = apart.0 in
    let same_sink : script.sink.ghost_name ≡ c.new-stream.result.sink.ghost_name = apart.1 in
    let size : script.reader.size ≡ told.geometry.size = c.run_script.ensures.goes.size ∙ c.new-stream.ensures.size ∙ c.size.ensures in
    early_from told _ _ _ _ _ _ _ _ _
    (known_by g.F.LineForm.says script.reader.size told.geometry.size a (g.I.Source.state script.source.now) _ size (search (rules, same_source)))
    (λ run answers says. told_refusal x (g.O.Sink.state script.sink.now) _ _ (search (rules, same_sink)) (search (rules, same_sink)) run answers says.0 says.1.said says.2.0.0.said)
    (λ y d stood. stood)
    (before_itself _)
    _ _ (shown_refusal x (g.O.Sink.state script.sink.now) _ (search (rules, same_sink)))
    c.in-Err.ended (c.in-Err.ensures.ends a x (c.new-stream.ensures.came, c.new.ensures))

pub returns-in-Err-clause-causes : goal.returns-in-Err-clause-causes
returns-in-Err-clause-causes g c =
    let script = c.run_script.new.script.quiet.stream in
    let apart = lent_apart _ _ _ _ _ _ _ _ c.run_script.ensures.goes.script_lent in
    let same_source : script.source.ghost_name ≡ c.new-stream.result.source.ghost_name = apart.0 in
    let same_sink : script.sink.ghost_name ≡ c.new-stream.result.sink.ghost_name = apart.1 in
    let r = c.run_script.result in
    let blames = c.run_script.ensures.causes in
    let ends = c.in-Err.ensures.ends (g.I.Source.state c.args.source.now) (g.O.Sink.state c.args.sink.now) (c.new-stream.ensures.came, c.new.ensures) in
    record {
      source = λ is. (let rose = (blamed_at r _ _ blames (c.in-Err.is ∙ err_also c.in-Err.ended ended.Source is)).source refl in search (rules, same_source, rose));
      sink = λ is. (let rose = (blamed_at r _ _ blames (c.in-Err.is ∙ err_also c.in-Err.ended ended.Sink is)).sink refl in search (rules, same_sink, rose));
      flash = λ is. (blamed_at r _ _ blames (c.in-Err.is ∙ err_also c.in-Err.ended ended.Flash is)).flash refl;
      disk = λ is. (blamed_at r _ _ blames (c.in-Err.is ∙ err_also c.in-Err.ended ended.Disk is)).disk refl;
      source_stays = λ not. (let same = c.run_script.ensures.told (λ is. not (err_asked c.in-Err.ended ended.Source (sym c.in-Err.is ∙ is))) in search (rules, same_source, same));
      sink_stays = λ not. (let same = (early_says _ _ _ _ _ _ _ c.in-Err.ended ends (λ is. not (ap Err is))).2.2.0.0.said.1 in search (rules, same_sink, same));
      none_failed = λ flash disk. early_failed _ _ _ _ _ _ _ c.in-Err.ended ends (λ is. flash (ap Err is)) (λ is. disk (ap Err is));
    }

pub returns-in-Ok-clause-causes : goal.returns-in-Ok-clause-causes
returns-in-Ok-clause-causes g c =
    let script = c.run_script.new.script.quiet.stream in
    let apart = lent_apart _ _ _ _ _ _ _ _ c.run_script.ensures.goes.script_lent in
    let same_source : script.source.ghost_name ≡ c.new-stream.result.source.ghost_name = apart.0 in
    let same_sink : script.sink.ghost_name ≡ c.new-stream.result.sink.ghost_name = apart.1 in
    let ends = c.in-Ok.ensures.ends (g.I.Source.state c.args.source.now) (g.O.Sink.state c.args.sink.now) (c.new-stream.ensures.came, c.new.ensures) in
    record {
      source = λ is. cc;
      sink = λ is. cc;
      flash = λ is. cc;
      disk = λ is. cc;
      source_stays = λ _. (let same = c.run_script.ensures.told (λ is. (let bad = sym c.in-Ok.is ∙ is in cc)) in search (rules, same_source, same));
      sink_stays = λ _. (let same = ends.0.printed.2.0.0.said.1 in search (rules, same_sink, same));
      none_failed = λ _ _. ends.0.leaves.none_failed;
    }

pub returns-in-Ok-clause-goes : goal.returns-in-Ok-clause-goes
returns-in-Ok-clause-goes g c =
    let script = c.run_script.new.script.quiet.stream in
    let goes = c.run_script.ensures.goes in
    let apart = lent_apart _ _ _ _ _ _ _ _ goes.script_lent in
    let same_source : script.source.ghost_name ≡ c.new-stream.result.source.ghost_name = apart.0 in
    let same_sink : script.sink.ghost_name ≡ c.new-stream.result.sink.ghost_name = apart.1 in
    let source_lent : (g.I.Source.state script.source.now).lent ≡ (g.I.Source.state c.new-stream.result.source.now).lent = apart.2 in
    let sink_lent : (g.O.Sink.state script.sink.now).lent ≡ (g.O.Sink.state c.new-stream.result.sink.now).lent = apart.3 in
    let sink = goes.sink in
    record {
      sink_later = search (rules, same_sink, sink);
      flash_later = goes.flash;
      disk_later = goes.disk;
      lent = record { source_lent = search (rules, same_source, source_lent); sink_lent = search (rules, same_sink, sink_lent); rig_lent = goes.lent };
    }

pub returns-in-Err-clause-goes : goal.returns-in-Err-clause-goes
returns-in-Err-clause-goes g c =
    let script = c.run_script.new.script.quiet.stream in
    let goes = c.run_script.ensures.goes in
    let apart = lent_apart _ _ _ _ _ _ _ _ goes.script_lent in
    let same_source : script.source.ghost_name ≡ c.new-stream.result.source.ghost_name = apart.0 in
    let same_sink : script.sink.ghost_name ≡ c.new-stream.result.sink.ghost_name = apart.1 in
    let source_lent : (g.I.Source.state script.source.now).lent ≡ (g.I.Source.state c.new-stream.result.source.now).lent = apart.2 in
    let sink_lent : (g.O.Sink.state script.sink.now).lent ≡ (g.O.Sink.state c.new-stream.result.sink.now).lent = apart.3 in
    let sink = goes.sink in
    record {
      sink_later = search (rules, same_sink, sink);
      flash_later = goes.flash;
      disk_later = goes.disk;
      lent = record { source_lent = search (rules, same_source, source_lent); sink_lent = search (rules, same_sink, sink_lent); rig_lent = goes.lent };
    }
