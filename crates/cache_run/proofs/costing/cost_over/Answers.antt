use Rattle.std.proofs.Common.{inl, refl, sym, ap, ◌∙◌, subst}
use Rattle.ft_media.specs.Passes.{NeverFall}
use Rattle.ft_media.specs.declared.rig.Counts.{Counts}
use Rattle.trace_replay.specs.Commands.{TellsRefusal, TellsRefusalPart}
use Rattle.trace_replay.specs.Forms.{ReadsBy}
use Rattle.trace_replay.specs.declared.ended.Ended.TheVariants as ended
use Rattle.trace_replay.proofs.ExitLemmas.{rose_later}
use Rattle.cache_run.specs.Costed.{IsCostOf}
use Rattle.cache_run.proofs.CostLemmas.{cause_as, cost_told, cost_unsaid, printed_only}
use Rattle.cache_run.proofs.InspectLemmas.{early_on}
use Rattle.cache_run.proofs.costing.cost_over.Goals as goal

-- ---- every line was run, and its cost can be said

pub cost_of-requires : goal.cost_of-requires
cost_of-requires g c = record {
  never = subst (λ (k : Counts). NeverFall k c.counts.result) (sym c.counts-before.ensures)
      (subst (λ (k : Counts). NeverFall (g.R.Media.state c.args.rig.now).counts k) (sym c.counts.ensures) c.in-Ok.ensures.ends.0.leaves.rig.counts);
}

pub returns-in-Some-clause-ends : goal.returns-in-Some-clause-ends
returns-in-Some-clause-ends g c =
    let ends = c.in-Ok.ensures.ends in
    let first = g.R.Media.state c.args.rig.now in
    let now = g.R.Media.state c.count_form.new.rig in
    let is = c.in-Some.ensures ends.0.run ends.1 in
    cost_told _ _ _ (g.O.Sink.state c.args.sink.now) (g.O.Sink.state c.count_form.new.sink) (g.O.Sink.state c.print_cost.new.sink) first now ends.0 c.in-Some.cost
    (subst (λ (k : Counts). IsCostOf ends.0.run first.counts k c.in-Some.cost) c.counts.ensures (subst (λ (k : Counts). IsCostOf ends.0.run k c.counts.result c.in-Some.cost) c.counts-before.ensures is))
    c.print_cost.result c.print_cost.ensures.printed c.print_cost.ensures.short (λ none. ap (λ s. (g.O.Sink.state s).taken) (c.print_cost.ensures.silent none)) c.print_cost.ensures.only

pub returns-in-Some-clause-causes : goal.returns-in-Some-clause-causes
returns-in-Some-clause-causes g c =
    let only = c.print_cost.ensures.only in
    record {
      source = λ is. absurd (printed_only c.print_cost.result ended.Source (λ no. cc) (λ no. cc) only is);
      sink = λ is. rose_later _ _ _ c.count_form.ensures.goes.sink_later (c.print_cost.ensures.rose is);
      flash = λ is. absurd (printed_only c.print_cost.result ended.Flash (λ no. cc) (λ no. cc) only is);
      disk = λ is. absurd (printed_only c.print_cost.result ended.Disk (λ no. cc) (λ no. cc) only is);
      source_stays = λ _. c.in-Ok.ensures.causes.source_stays (λ is. cc);
      sink_stays = λ not. c.print_cost.ensures.stays not ∙ c.in-Ok.ensures.causes.sink_stays (λ is. cc);
      none_failed = λ _ _. c.in-Ok.ensures.causes.none_failed (λ is. cc) (λ is. cc);
    }

pub returns-in-Some-clause-on : goal.returns-in-Some-clause-on
returns-in-Some-clause-on g c = c.in-Ok.ensures.ends.0.leaves.rig.on

pub returns-in-Some-clause-lent : goal.returns-in-Some-clause-lent
returns-in-Some-clause-lent g c =
    let lent = c.count_form.ensures.goes.lent in
    record { source_lent = lent.source_lent; sink_lent = c.print_cost.ensures.lent ∙ lent.sink_lent; rig_lent = lent.rig_lent }

-- ---- it is more than a number can say

pub returns-in-None-clause-ends : goal.returns-in-None-clause-ends
returns-in-None-clause-ends g c =
    let y = g.O.Sink.state c.count_form.new.sink in
    cost_unsaid _ _ _ (g.O.Sink.state c.args.sink.now) y y (g.R.Media.state c.args.rig.now) (g.R.Media.state c.count_form.new.rig) c.in-Ok.ensures.ends.0 refl

pub returns-in-None-clause-causes : goal.returns-in-None-clause-causes
returns-in-None-clause-causes g c = record {
  source = λ is. absurd (cc);
  sink = λ is. absurd (cc);
  flash = λ is. absurd (cc);
  disk = λ is. absurd (cc);
  source_stays = λ _. c.in-Ok.ensures.causes.source_stays (λ is. cc);
  sink_stays = λ _. c.in-Ok.ensures.causes.sink_stays (λ is. cc);
  none_failed = λ _ _. c.in-Ok.ensures.causes.none_failed (λ is. cc) (λ is. cc);
}

pub returns-in-None-clause-on : goal.returns-in-None-clause-on
returns-in-None-clause-on g c = c.in-Ok.ensures.ends.0.leaves.rig.on

pub returns-in-None-clause-lent : goal.returns-in-None-clause-lent
returns-in-None-clause-lent g c = c.count_form.ensures.goes.lent

-- ---- it ended before that

pub returns-in-Err-clause-ends : goal.returns-in-Err-clause-ends
returns-in-Err-clause-ends g c = inl c.in-Err.ensures.ends

pub returns-in-Err-clause-on : goal.returns-in-Err-clause-on
returns-in-Err-clause-on g c =
    let o = (g.V.Volume.state c.args.volume.now).told in
    let x = g.O.Sink.state c.args.sink.now in
    let y = g.O.Sink.state c.count_form.new.sink in
    early_on o (ReadsBy (g.F.LineForm.says o.geometry.size) (g.I.Source.state c.args.source.now) (g.I.Source.state c.count_form.new.source)) (TellsRefusal x y) (TellsRefusalPart x y)
    (g.V.Volume.stands (g.V.Volume.state c.count_form.new.volume).told) (g.R.Media.state c.args.rig.now) (g.R.Media.state c.count_form.new.rig) c.in-Err.ended c.in-Err.ensures.ends

pub returns-in-Err-clause-causes : goal.returns-in-Err-clause-causes
returns-in-Err-clause-causes g c = cause_as c.in-Err.ended _ _ _ _ _ _ c.in-Err.ensures.causes

pub returns-in-Err-clause-lent : goal.returns-in-Err-clause-lent
returns-in-Err-clause-lent g c = c.count_form.ensures.goes.lent
