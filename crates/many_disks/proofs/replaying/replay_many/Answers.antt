use Rattle.std.proofs.Common.{◌≡◌, ◌/◌, ◌∙◌, refl, ap, rules}
use Rattle.trace_replay.proofs.ExitLemmas.{blamed_at}
use Rattle.trace_replay.proofs.FromLemmas.{before_itself, ends_failed, ends_from, ends_says}
use Rattle.many_disks.proofs.FitsLemmas.{ends_fits}
use Rattle.many_disks.proofs.ReplayLemmas.{many_lent, part_back, reads_back, tells_back, tells_many, tells_part}
use Rattle.many_disks.proofs.replaying.replay_many.Goals as goal

pub returns-clause-ends : goal.returns-clause-ends
returns-clause-ends g c =
    let told = (g.V.Volume.state c.args.volume.now).told in
    let disks = c.args.disks in
    let share = told.geometry.size / disks in
    let a = g.I.Source.state c.args.source.now in
    let x = g.O.Sink.state c.args.sink.now in
    let script = c.replay_script.new.script in
    let z = g.I.Source.state script.source.now in
    let y = g.O.Sink.state script.sink.now in
    let apart = many_lent _ _ _ _ _ _ _ _ _ _ _ _ c.replay_script.ensures.goes.script_lent in
    let same_share : script.share ≡ share = apart.0 ∙ c.new-script.ensures.share ∙ ap (λ n. n / disks) c.size.ensures in
    let same_disks : script.disks ≡ disks = apart.1 ∙ c.new-script.ensures.disks in
    let same_source : script.source.ghost_name ≡ c.new-script.result.source.ghost_name = apart.2 in
    let same_sink : script.sink.ghost_name ≡ c.new-script.result.sink.ghost_name = apart.3 in
    ends_from told _ _ _ _ _ _ _ _ _
    (reads_back script.share script.disks share disks same_share same_disks a z _ (search (rules, same_source)))
    (λ run answers says. tells_back script.share script.disks share disks same_share same_disks a x y _ (search (rules, same_sink)) run answers
    (tells_many script.share script.disks told.ack a x y run answers says.1.0 says.0 script.reader script.chosen script.tallies.each z says.1.1 says.1.2))
    (λ w d stood. stood)
    (before_itself _)
    _ _ (λ run answers next part. part_back script.share script.disks share disks same_share same_disks a x y _ (search (rules, same_sink)) run answers next
    (tells_part script.share script.disks told.ack a x y run answers next part.0 part.1))
    c.replay_script.result (ends_fits told _ _ _ _ _ _ c.replay_script.result (c.replay_script.ensures.ends a x c.new-script.ensures.came))

pub returns-clause-causes : goal.returns-clause-causes
returns-clause-causes g c =
    let script = c.replay_script.new.script in
    let apart = many_lent _ _ _ _ _ _ _ _ _ _ _ _ c.replay_script.ensures.goes.script_lent in
    let same_source : script.source.ghost_name ≡ c.new-script.result.source.ghost_name = apart.2 in
    let same_sink : script.sink.ghost_name ≡ c.new-script.result.sink.ghost_name = apart.3 in
    let r = c.replay_script.result in
    let blames = c.replay_script.ensures.causes in
    let ends = c.replay_script.ensures.ends (g.I.Source.state c.args.source.now) (g.O.Sink.state c.args.sink.now) c.new-script.ensures.came in
    record {
      source = λ is. (let rose = (blamed_at r _ _ blames is).source refl in search (rules, same_source, rose));
      sink = λ is. (let rose = (blamed_at r _ _ blames is).sink refl in search (rules, same_sink, rose));
      flash = λ is. (blamed_at r _ _ blames is).flash refl;
      disk = λ is. (blamed_at r _ _ blames is).disk refl;
      source_stays = λ not. (let same = c.replay_script.ensures.told not in search (rules, same_source, same));
      sink_stays = λ not. (let same = (ends_says _ _ _ _ _ _ _ r ends not).2.2.said.1 in search (rules, same_sink, same));
      none_failed = ends_failed _ _ _ _ _ _ _ r ends;
    }

pub returns-clause-lent : goal.returns-clause-lent
returns-clause-lent g c =
    let script = c.replay_script.new.script in
    let goes = c.replay_script.ensures.goes in
    let apart = many_lent _ _ _ _ _ _ _ _ _ _ _ _ goes.script_lent in
    let same_source : script.source.ghost_name ≡ c.new-script.result.source.ghost_name = apart.2 in
    let same_sink : script.sink.ghost_name ≡ c.new-script.result.sink.ghost_name = apart.3 in
    let source_lent : (g.I.Source.state script.source.now).lent ≡ (g.I.Source.state c.new-script.result.source.now).lent = apart.4 in
    let sink_lent : (g.O.Sink.state script.sink.now).lent ≡ (g.O.Sink.state c.new-script.result.sink.now).lent = apart.5 in
    record { source_lent = search (rules, same_source, source_lent); sink_lent = search (rules, same_sink, sink_lent); rig_lent = goes.lent }
