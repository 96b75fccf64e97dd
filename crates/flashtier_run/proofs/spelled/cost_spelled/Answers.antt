use Rattle.std.proofs.Common.{inl, inr, subst, sym}
use Rattle.flashtier_words.specs.declared.command.TraceForm.{TraceForm}
use Rattle.trace_replay.specs.Forms.{reads_text}
use Rattle.cache_run.proofs.CostLemmas.{cost_from}
use Rattle.flashtier_run.specs.Ends.{ReadsIn}
use Rattle.flashtier_run.proofs.spelled.cost_spelled.Goals as goal

pub returns-in-Lines-clause-ends : goal.returns-in-Lines-clause-ends
returns-in-Lines-clause-ends g c =
    let size = c.args.setup.now.options.geometry.size in
    let a = g.I.Source.state c.args.source.now in
    let b = g.I.Source.state c.cost_with.new.source in
    elim c.cost_with.ensures.ends [
      | inl none ↦ inl none
      | inr ends ↦ inr (record {
        made = ends.made;
        new = ends.new;
        unread = ends.unread;
        unwritten = ends.unwritten;
        ends = cost_from _ _ (ReadsIn c.args.form size a b) _ _ _ _
            (λ lines all whole known. subst (λ (f : TraceForm). ReadsIn f size a b lines all whole) (sym c.in-Lines.is) (reads_text _ _ _ lines all whole known))
            (λ i d stood. stood) _ _ c.cost_with.result ends.ends;
      })
    ]
