use Rattle.std.proofs.Common.{◌≡◌, refl, ◌∙◌, rules}
use Rattle.trace_replay.proofs.ExitLemmas.{blamed_at}
use Rattle.trace_replay.proofs.FromLemmas.{before_itself, ends_failed, ends_from, ends_says}
use Rattle.trace_replay.proofs.StreamLemmas.{known_by, lent_apart, shown_by, told_by}
use Rattle.trace_replay.proofs.replaying.replay_form.Goals as goal

pub returns-clause-ends : goal.returns-clause-ends
returns-clause-ends g c =
    let told = (g.V.Volume.state c.args.volume.now).told in
    let a = g.I.Source.state c.args.source.now in
    let x = g.O.Sink.state c.args.sink.now in
    let script = c.replay_script.new.script in
    let apart = lent_apart _ _ _ _ _ _ _ _ c.replay_script.ensures.goes.script_lent in
    let same_source : script.source.ghost_name ≡ c.new-script.result.source.ghost_name = apart.0 in
    let same_sink : script.sink.ghost_name ≡ c.new-script.result.sink.ghost_name = apart.1 in
    let size : script.reader.size ≡ told.geometry.size = c.replay_script.ensures.goes.size ∙ c.new-script.ensures.size ∙ c.size.ensures in
    ends_from told _ _ _ _ _ _ _ _ _
    (known_by g.F.LineForm.says script.reader.size told.geometry.size a (g.I.Source.state script.source.now) _ size (search (rules, same_source)))
    (λ run answers says. told_by x (g.O.Sink.state script.sink.now) _ _ (search (rules, same_sink)) (search (rules, same_sink)) run answers says.0 says.1.said says.2.0.said)
    (λ y d stood. stood)
    (before_itself _)
    _ _ (shown_by x (g.O.Sink.state script.sink.now) _ (search (rules, same_sink)))
    c.replay_script.result (c.replay_script.ensures.ends a x c.new-script.ensures.came)

pub returns-clause-causes : goal.returns-clause-causes
returns-clause-causes g c =
    let script = c.replay_script.new.script in
    let apart = lent_apart _ _ _ _ _ _ _ _ c.replay_script.ensures.goes.script_lent in
    let same_source : script.source.ghost_name ≡ c.new-script.result.source.ghost_name = apart.0 in
    let same_sink : script.sink.ghost_name ≡ c.new-script.result.sink.ghost_name = apart.1 in
    let r = c.replay_script.result in
    let blames = c.replay_script.ensures.causes in
    let ends = c.replay_script.ensures.ends (g.I.Source.state c.args.source.now) (g.O.Sink.state c.args.sink.now) c.new-script.ensures.came in
    record {
      source = λ is. (let rose = (blamed_at r _ _ blames is).source refl in search (rules, same_source, rose));
      sink = λ is. (let rose = (blamed_at r _ _ blames is).sink refl in search (rules, same_sink, rose));
      flash = λ is. (blamed_at r _ _ blames is).flash refl;
      disk = λ is. (blamed_at r _ _ blames is).disk refl;
      source_stays = λ not. (let same = c.replay_script.ensures.told not in search (rules, same_source, same));
      sink_stays = λ not. (let same = (ends_says _ _ _ _ _ _ _ r ends not).2.2.0.said.1 in search (rules, same_sink, same));
      none_failed = ends_failed _ _ _ _ _ _ _ r ends;
    }

pub returns-clause-lent : goal.returns-clause-lent
returns-clause-lent g c =
    let script = c.replay_script.new.script in
    let goes = c.replay_script.ensures.goes in
    let apart = lent_apart _ _ _ _ _ _ _ _ goes.script_lent in
    let same_source : script.source.ghost_name ≡ c.new-script.result.source.ghost_name = apart.0 in
    let same_sink : script.sink.ghost_name ≡ c.new-script.result.sink.ghost_name = apart.1 in
    let source_lent : (g.I.Source.state script.source.now).lent ≡ (g.I.Source.state c.new-script.result.source.now).lent = apart.2 in
    let sink_lent : (g.O.Sink.state script.sink.now).lent ≡ (g.O.Sink.state c.new-script.result.sink.now).lent = apart.3 in
    record { source_lent = search (rules, same_source, source_lent); sink_lent = search (rules, same_sink, sink_lent); rig_lent = goes.lent }
