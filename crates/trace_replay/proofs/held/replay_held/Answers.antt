use Rattle.std.proofs.Common.{◌++◌, ◌≡◌, ◌∙◌, List, ap, map, refl, rules, subst, sym}
use Rattle.trace_model.specs.Readings.{accepted}
use Rattle.trace_replay.proofs.ExitLemmas.{blamed_at}
use Rattle.trace_replay.proofs.FromLemmas.{before_itself, ends_failed, ends_from, ends_says, refused_at, unread_at}
use Rattle.trace_replay.proofs.HeldLemmas.{held_never, lines_same}
use Rattle.trace_replay.proofs.StreamLemmas.{shown_by, told_by}
use Rattle.trace_model.specs.declared.line.Line.{Line}
use Rattle.trace_replay.specs.Commands.{Gives}
use Rattle.trace_replay.specs.Held.{stand_in}
use Rattle.trace_replay.proofs.held.replay_held.Goals as goal

pub returns-clause-causes : goal.returns-clause-causes
returns-clause-causes g c =
    let x = g.O.Sink.state c.args.sink.now in
    let r = c.replay_script.result in
    let blames = c.replay_script.ensures.causes in
    let ends = c.replay_script.ensures.ends (stand_in (c.args.first.now ++ c.args.lines.now)) x c.new-script.ensures.came in
    record {
      not_trace = λ is.
          let refused = refused_at _ _ _ _ _ _ _ r is ends in
          let all = c.args.first.now ++ c.args.lines.now in
          held_never all refused.run refused.left refused.cause c.requires.stops (ap (map accepted) (sym (lines_same all)) ∙ sym refused.trace.0 ∙ refused.lines.lines) refused.why;
      not_source = λ is.
          let unread = unread_at _ _ _ _ _ _ _ r is ends in
          let all = unread.trace.1 in cc;
      sink = λ is. (let rose = (blamed_at r _ _ blames is).sink refl in search (rules, rose));
      flash = λ is. (blamed_at r _ _ blames is).flash refl;
      disk = λ is. (blamed_at r _ _ blames is).disk refl;
      sink_stays = λ not. (let same = (ends_says _ _ _ _ _ _ _ r ends not).2.2.0.said.1 in search (rules, same));
      none_failed = ends_failed _ _ _ _ _ _ _ r ends;
    }

pub returns-clause-ends : goal.returns-clause-ends
returns-clause-ends g c =
    let x = g.O.Sink.state c.args.sink.now in
    ends_from (g.V.Volume.state c.args.volume.now).told _ _ _ _ _ _ _ _ _
    (λ n all w gives. subst (λ (ls : List Line). Gives ls n all w) (lines_same (c.args.first.now ++ c.args.lines.now)) gives)
    (λ run answers says. told_by x (g.O.Sink.state c.replay_script.new.script.sink.now) _ _ (search rules) (search rules) run answers says.0 says.1.said says.2.0.said)
    (λ y d stood. stood)
    (before_itself _)
    _ _ (shown_by x (g.O.Sink.state c.replay_script.new.script.sink.now) _ (search rules))
    c.replay_script.result (c.replay_script.ensures.ends (stand_in (c.args.first.now ++ c.args.lines.now)) x c.new-script.ensures.came)

pub returns-clause-goes : goal.returns-clause-goes
returns-clause-goes g c =
    let script = c.replay_script.new.script in
    let goes = c.replay_script.ensures.goes in
    let lent = goes.script_lent in
    let same_sink : script.sink.ghost_name ≡ c.new-script.result.sink.ghost_name = cc in
    let sink_lent : (g.O.Sink.state script.sink.now).lent ≡ (g.O.Sink.state c.new-script.result.sink.now).lent = cc in
    let sink = goes.sink in
    record {
      counts = goes.counts;
      sink_later = search (rules, same_sink, sink);
      flash_later = goes.flash;
      disk_later = goes.disk;
      lent = record { sink_lent = search (rules, same_sink, sink_lent); rig_lent = goes.lent };
    }
