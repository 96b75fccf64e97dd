use Rattle.std.proofs.Common.{◌+◌, ◌++◌, ◌∷◌, [], ℕ, List, refl, ap, ◌∙◌, subst, append_assoc, arith}
use Rattle.ft_base.specs.PlainDisk.{PlainDisk}
use Rattle.trace_model.specs.declared.answer.Answer.{Answer}
use Rattle.trace_model.specs.Run.{disk_without, end_answers, lost_told, stopped}
use Rattle.trace_replay.specs.Ends.{SaysThrough}
use Rattle.trace_replay.specs.Spends.{touches_each}
use Rattle.trace_replay.proofs.CutsLemmas.{cuts_then}
use Rattle.trace_replay.proofs.EndLineLemmas.{none_before}
use Rattle.trace_replay.proofs.ExitLemmas.{at_exit}
use Rattle.trace_replay.proofs.LaterLemmas.{flush_stands}
use Rattle.trace_replay.proofs.OwingLastLemmas.{end_tally, flush_ended, last_ended, last_said, last_unsaid, losses_ended, reads_ended, touched_after_cuts, touched_then}
use Rattle.trace_replay.proofs.OwingLemmas.{older_one, older_since}
use Rattle.trace_replay.proofs.OwingEndLemmas.{none_more, spent_end, to_end}
use Rattle.trace_replay.proofs.SpendsLemmas.{at_most_then, spends_ends, spent_then}
use Rattle.trace_replay.proofs.WentLemmas.{goes_then}
use Rattle.trace_replay.proofs.WithinLemmas.{goes_script}
use Rattle.trace_replay.proofs.ending.say_end_later.Goals as goal

pub returns-in_err-settled-clause-ends : goal.returns-in_err-settled-clause-ends
returns-in_err-settled-clause-ends g c = at_exit c.from_residual.result _ _ c.from_residual.ensures.1 (λ run o stops tally. flush_ended g.P.Script.state g.P.Script.came g.P.Script.broke g.P.Script.knows _ _ _ _ _ run c.in_err-settled.ensures.went.ended)

pub returns-in_err-settled-clause-images : goal.returns-in_err-settled-clause-images
returns-in_err-settled-clause-images g c = λ run o stops. older_since (g.V.Volume.stands (g.V.Volume.state c.flush_later.new.volume).told) _ _ _ _ o.since (c.flush_later.ensures.leaves.images run o)

pub returns-in_err-settled-clause-spends : goal.returns-in_err-settled-clause-spends
returns-in_err-settled-clause-spends g c =
    spends_ends (touches_each c.args.tally.now.touched.keys) _ _ _ _ c.from_residual.result _ c.from_residual.ensures.1 (λ quiet. none_more (touches_each c.args.tally.now.touched.keys) _ _ _ (c.in_err-settled.ensures.spends.ended quiet))

pub returns-in_err-more-clause-ends : goal.returns-in_err-more-clause-ends
returns-in_err-more-clause-ends g c = at_exit c.from_residual-in_err-more.result _ _ c.from_residual-in_err-more.ensures.1 (λ run o stops tally.
    let became = c.in_ok-settled.ensures.leaves.became run o stops in
    let lost = c.in_ok-settled.settled.lost in
    let d : PlainDisk = disk_without lost run in
    let stood = flush_stands _ (g.V.Volume.stands (g.V.Volume.state c.flush_later.new.volume).told) _ _ run became c.in_ok-settled.ensures.forgot in
    reads_ended g.P.Script.state g.P.Script.came g.P.Script.broke g.P.Script.knows c.in_err-more.field-0.0 _ c.flush_later.new.script _ _ _ _ run c.in_ok-settled.settled.cuts lost c.args.tally.now.touched.keys tally.touched (became.cut refl) became.losses c.in_ok-settled.ensures.went.done
    (λ end. c.in_err-more.ensures.ends d stood end))

pub returns-in_err-more-clause-images : goal.returns-in_err-more-clause-images
returns-in_err-more-clause-images g c = λ run o stops.
    let became = c.in_ok-settled.ensures.leaves.became run o stops in
    let lost = c.in_ok-settled.settled.lost in
    let d : PlainDisk = disk_without lost run in
    let stood = flush_stands _ (g.V.Volume.stands (g.V.Volume.state c.flush_later.new.volume).told) _ _ run became c.in_ok-settled.ensures.forgot in
    older_one (g.V.Volume.stands (g.V.Volume.state c.tell_touched.new.volume).told) (g.R.Media.state c.tell_touched.new.rig).contents _ _ (lost, became.losses.since, c.tell_touched.ensures.leaves.kept d stood)

pub returns-in_err-more-clause-goes : goal.returns-in_err-more-clause-goes
returns-in_err-more-clause-goes g c = goes_then g.P.Script.state g.P.Script.came g.P.Script.broke g.P.Script.knows _ _ _ _ _ _ c.flush_later.ensures.went.goes c.tell_touched.ensures.goes

pub returns-in_err-more-clause-spends : goal.returns-in_err-more-clause-spends
returns-in_err-more-clause-spends g c =
    spends_ends (touches_each c.args.tally.now.touched.keys) _ _ _ _ c.from_residual-in_err-more.result _ c.from_residual-in_err-more.ensures.1
    (λ quiet. let spent = c.in_ok-settled.ensures.spends.done quiet in to_end (touches_each c.args.tally.now.touched.keys) _ _ _ (at_most_then [] _ _ _ _ spent (touches_each c.args.tally.now.touched.keys) _ (c.in_err-more.ensures.spends.ended spent.quiet)))

pub returns-in_err-say_losses-clause-ends : goal.returns-in_err-say_losses-clause-ends
returns-in_err-say_losses-clause-ends g c = at_exit c.from_residual-in_err-say_losses.result _ _ c.from_residual-in_err-say_losses.ensures.1 (λ run o stops tally.
    let became = c.in_ok-settled.ensures.leaves.became run o stops in
    let lost = c.in_ok-settled.settled.lost in
    let d : PlainDisk = disk_without lost run in
    let stood = flush_stands _ (g.V.Volume.stands (g.V.Volume.state c.flush_later.new.volume).told) _ _ run became c.in_ok-settled.ensures.forgot in
    let touched = touched_after_cuts g.P.Script.state g.P.Script.came g.P.Script.broke g.P.Script.knows c.args.script.now c.flush_later.new.script c.tell_touched.new.script c.in_ok-settled.settled.cuts c.in_ok-more.more c.args.tally.now.touched.keys d c.in_ok-settled.ensures.went.done.said (c.in_ok-more.ensures.said d stood) in
    let cuts = cuts_then c.in_ok-settled.settled.cuts c.in_ok-more.more 0 0 _ _ _ c.in_ok-settled.ensures.went.done.cut c.in_ok-more.ensures.cuts in
    losses_ended g.P.Script.state g.P.Script.came g.P.Script.broke g.P.Script.knows c.in_err-say_losses.field-0.0 c.args.script.now c.tell_touched.new.script c.say_losses.new.script _ _ run (c.in_ok-settled.settled.cuts + c.in_ok-more.more) lost c.args.tally.now.touched.keys (λ none. became.cut refl (omega (arith, none))) became.losses touched
    (goes_then g.P.Script.state g.P.Script.came g.P.Script.broke g.P.Script.knows _ _ _ _ _ _ c.flush_later.ensures.went.goes c.tell_touched.ensures.goes) cuts c.in_err-say_losses.ensures.ended)

pub returns-in_err-say_losses-clause-images : goal.returns-in_err-say_losses-clause-images
returns-in_err-say_losses-clause-images g c = λ run o stops.
    let became = c.in_ok-settled.ensures.leaves.became run o stops in
    let lost = c.in_ok-settled.settled.lost in
    let d : PlainDisk = disk_without lost run in
    let stood = flush_stands _ (g.V.Volume.stands (g.V.Volume.state c.flush_later.new.volume).told) _ _ run became c.in_ok-settled.ensures.forgot in
    older_one (g.V.Volume.stands (g.V.Volume.state c.tell_touched.new.volume).told) (g.R.Media.state c.tell_touched.new.rig).contents _ _ (lost, became.losses.since, c.tell_touched.ensures.leaves.kept d stood)

pub returns-in_err-say_losses-clause-goes : goal.returns-in_err-say_losses-clause-goes
returns-in_err-say_losses-clause-goes g c = goes_script g.P.Script.state g.P.Script.came g.P.Script.broke g.P.Script.knows _ _ _ _ _ (goes_then g.P.Script.state g.P.Script.came g.P.Script.broke g.P.Script.knows _ _ _ _ _ _ c.flush_later.ensures.went.goes c.tell_touched.ensures.goes) c.say_losses.ensures.goes

pub returns-in_err-say_losses-clause-spends : goal.returns-in_err-say_losses-clause-spends
returns-in_err-say_losses-clause-spends g c =
    spends_ends (touches_each c.args.tally.now.touched.keys) _ _ _ _ c.from_residual-in_err-say_losses.result _ c.from_residual-in_err-say_losses.ensures.1
    (λ quiet. let spent = c.in_ok-settled.ensures.spends.done quiet in to_end (touches_each c.args.tally.now.touched.keys) _ _ _ (spent_then [] _ _ _ _ spent (touches_each c.args.tally.now.touched.keys) _ _ (c.in_ok-more.ensures.spends.done spent.quiet)).most)

pub returns-in_err-end-clause-ends : goal.returns-in_err-end-clause-ends
returns-in_err-end-clause-ends g c = at_exit c.from_residual-in_err-end.result _ _ c.from_residual-in_err-end.ensures.1 (λ run o stops tally.
    let became = c.in_ok-settled.ensures.leaves.became run o stops in
    let lost = c.in_ok-settled.settled.lost in
    let d : PlainDisk = disk_without lost run in
    let stood = flush_stands _ (g.V.Volume.stands (g.V.Volume.state c.flush_later.new.volume).told) _ _ run became c.in_ok-settled.ensures.forgot in
    let touched = touched_after_cuts g.P.Script.state g.P.Script.came g.P.Script.broke g.P.Script.knows c.args.script.now c.flush_later.new.script c.tell_touched.new.script c.in_ok-settled.settled.cuts c.in_ok-more.more c.args.tally.now.touched.keys d c.in_ok-settled.ensures.went.done.said (c.in_ok-more.ensures.said d stood) in
    let cuts = cuts_then c.in_ok-settled.settled.cuts c.in_ok-more.more 0 0 _ _ _ c.in_ok-settled.ensures.went.done.cut c.in_ok-more.ensures.cuts in
    let after = touched_then g.P.Script.state g.P.Script.came g.P.Script.broke g.P.Script.knows c.args.script.now c.tell_touched.new.script c.say_losses.new.script (stopped (c.in_ok-settled.settled.cuts + c.in_ok-more.more)) (lost_told lost) c.args.tally.now.touched.keys d touched c.in_ok-say_losses.ensures.done in
    last_ended g.P.Script.state g.P.Script.came g.P.Script.broke g.P.Script.knows c.in_err-end.field-0.0 c.args.script.now c.say_losses.new.script c.end.new.self _ _ run (c.in_ok-settled.settled.cuts + c.in_ok-more.more) lost c.args.tally.now.touched.keys _ tally.touched (λ none. became.cut refl (omega (arith, none))) became.losses (end_tally run c.args.tally.now lost tally)
    (goes_script g.P.Script.state g.P.Script.came g.P.Script.broke g.P.Script.knows _ _ _ _ _ (goes_then g.P.Script.state g.P.Script.came g.P.Script.broke g.P.Script.knows _ _ _ _ _ _ c.flush_later.ensures.went.goes c.tell_touched.ensures.goes) c.say_losses.ensures.goes) cuts
    (last_unsaid g.P.Script.state g.P.Script.came g.P.Script.broke g.P.Script.knows c.args.script.now c.say_losses.new.script c.end.new.self _ (none_before (c.in_ok-settled.settled.cuts + c.in_ok-more.more) lost) c.args.tally.now.touched.keys d after _ _ c.len-touched.result c.len-touched.ensures.len c.in_err-end.field-0.0 c.in_err-end.ensures.sink c.in_err-end.ensures.memory c.in_err-end.ensures.only))

pub returns-in_err-end-clause-images : goal.returns-in_err-end-clause-images
returns-in_err-end-clause-images g c = λ run o stops.
    let became = c.in_ok-settled.ensures.leaves.became run o stops in
    let lost = c.in_ok-settled.settled.lost in
    let d : PlainDisk = disk_without lost run in
    let stood = flush_stands _ (g.V.Volume.stands (g.V.Volume.state c.flush_later.new.volume).told) _ _ run became c.in_ok-settled.ensures.forgot in
    older_one (g.V.Volume.stands (g.V.Volume.state c.tell_touched.new.volume).told) (g.R.Media.state c.tell_touched.new.rig).contents _ _ (lost, became.losses.since, c.tell_touched.ensures.leaves.kept d stood)

pub returns-in_err-end-clause-goes : goal.returns-in_err-end-clause-goes
returns-in_err-end-clause-goes g c = goes_script g.P.Script.state g.P.Script.came g.P.Script.broke g.P.Script.knows _ _ _ _ _ (goes_script g.P.Script.state g.P.Script.came g.P.Script.broke g.P.Script.knows _ _ _ _ _ (goes_then g.P.Script.state g.P.Script.came g.P.Script.broke g.P.Script.knows _ _ _ _ _ _ c.flush_later.ensures.went.goes c.tell_touched.ensures.goes) c.say_losses.ensures.goes)
    (record { source = c.end.ensures.no_source; sink = c.end.ensures.goes.later; lent = c.end.ensures.goes.lent; size = c.end.ensures.goes.size; turns = c.end.ensures.goes.turns; knew = c.end.ensures.knew })

pub returns-in_err-end-clause-spends : goal.returns-in_err-end-clause-spends
returns-in_err-end-clause-spends g c =
    spends_ends (touches_each c.args.tally.now.touched.keys) _ _ _ _ c.from_residual-in_err-end.result _ c.from_residual-in_err-end.ensures.1
    (λ quiet. let spent = c.in_ok-settled.ensures.spends.done quiet in to_end (touches_each c.args.tally.now.touched.keys) _ _ _ (spent_then [] _ _ _ _ spent (touches_each c.args.tally.now.touched.keys) _ _ (c.in_ok-more.ensures.spends.done spent.quiet)).most)

pub returns-clause-flushed : goal.returns-clause-flushed
returns-clause-flushed g c = λ run o stops tally.
    let became = c.in_ok-settled.ensures.leaves.became run o stops in
    let lost = c.in_ok-settled.settled.lost in
    let d : PlainDisk = disk_without lost run in
    let stood = flush_stands _ (g.V.Volume.stands (g.V.Volume.state c.flush_later.new.volume).told) _ _ run became c.in_ok-settled.ensures.forgot in
    let touched = touched_after_cuts g.P.Script.state g.P.Script.came g.P.Script.broke g.P.Script.knows c.args.script.now c.flush_later.new.script c.tell_touched.new.script c.in_ok-settled.settled.cuts c.in_ok-more.more c.args.tally.now.touched.keys d c.in_ok-settled.ensures.went.done.said (c.in_ok-more.ensures.said d stood) in
    let after = touched_then g.P.Script.state g.P.Script.came g.P.Script.broke g.P.Script.knows c.args.script.now c.tell_touched.new.script c.say_losses.new.script (stopped (c.in_ok-settled.settled.cuts + c.in_ok-more.more)) (lost_told lost) c.args.tally.now.touched.keys d touched c.in_ok-say_losses.ensures.done in
    let said = last_said g.P.Script.state g.P.Script.came g.P.Script.broke g.P.Script.knows c.args.script.now c.say_losses.new.script c.end.new.self _ (none_before (c.in_ok-settled.settled.cuts + c.in_ok-more.more) lost) c.args.tally.now.touched.keys d after _ _ c.len-touched.result c.len-touched.ensures.len c.in_ok-end.ensures.taken in
    record {
      said = subst (λ (keys : List ℕ). SaysThrough g.P.Script.came c.args.script.now c.end.new.self keys d (end_answers run (c.in_ok-settled.settled.cuts + c.in_ok-more.more) lost)) tally.touched
          (subst (λ (l : List Answer). SaysThrough g.P.Script.came c.args.script.now c.end.new.self c.args.tally.now.touched.keys d l)
          (append_assoc (stopped (c.in_ok-settled.settled.cuts + c.in_ok-more.more)) (lost_told lost) _ ∙ ap (λ (k : Answer). stopped (c.in_ok-settled.settled.cuts + c.in_ok-more.more) ++ (lost_told lost ++ k ∷ [])) (end_tally run c.args.tally.now lost tally)) said);
      cut = λ none. became.cut refl (omega (arith, none));
      losses = became.losses;
      disk = c.tell_touched.ensures.leaves.kept d stood;
    }

pub returns-clause-cuts : goal.returns-clause-cuts
returns-clause-cuts g c = cuts_then c.in_ok-settled.settled.cuts c.in_ok-more.more 0 0 _ _ _ c.in_ok-settled.ensures.went.done.cut c.in_ok-more.ensures.cuts

pub returns-clause-images : goal.returns-clause-images
returns-clause-images g c = λ run o stops.
    let became = c.in_ok-settled.ensures.leaves.became run o stops in
    let lost = c.in_ok-settled.settled.lost in
    let d : PlainDisk = disk_without lost run in
    let stood = flush_stands _ (g.V.Volume.stands (g.V.Volume.state c.flush_later.new.volume).told) _ _ run became c.in_ok-settled.ensures.forgot in
    older_one (g.V.Volume.stands (g.V.Volume.state c.tell_touched.new.volume).told) (g.R.Media.state c.tell_touched.new.rig).contents _ _ (lost, became.losses.since, c.tell_touched.ensures.leaves.kept d stood)

pub returns-clause-goes : goal.returns-clause-goes
returns-clause-goes g c = goes_script g.P.Script.state g.P.Script.came g.P.Script.broke g.P.Script.knows _ _ _ _ _ (goes_script g.P.Script.state g.P.Script.came g.P.Script.broke g.P.Script.knows _ _ _ _ _ (goes_then g.P.Script.state g.P.Script.came g.P.Script.broke g.P.Script.knows _ _ _ _ _ _ c.flush_later.ensures.went.goes c.tell_touched.ensures.goes) c.say_losses.ensures.goes)
    (record { source = c.end.ensures.no_source; sink = c.end.ensures.goes.later; lent = c.end.ensures.goes.lent; size = c.end.ensures.goes.size; turns = c.end.ensures.goes.turns; knew = c.end.ensures.knew })

pub returns-clause-spends : goal.returns-clause-spends
returns-clause-spends g c = record {
  done = λ quiet. (let spent = c.in_ok-settled.ensures.spends.done quiet in spent_end (touches_each c.args.tally.now.touched.keys) _ _ _ _ (spent_then [] _ _ _ _ spent (touches_each c.args.tally.now.touched.keys) _ _ (c.in_ok-more.ensures.spends.done spent.quiet)));
  ended = tt;
}
