use Rattle.std.proofs.Common.{List, ℕ, sym, ap, ◌∙◌}
use Rattle.trace_replay.specs.Events.{refused_for}
use Rattle.trace_replay.specs.Pending.{line_so_far}
use Rattle.trace_replay.proofs.ReaderLemmas.{as_unread, refuses_at}
use Rattle.trace_replay.proofs.reader.Reader.give.Goals as goal

pub returns-in-Err-clause-refused : goal.returns-in-Err-clause-refused
returns-in-Err-clause-refused g c = λ cause is a s lines so.
    let r = c.args.self.now in (
      so,
      refuses_at g.F.LineForm.says r s a lines so c.requires.stands c.args.armed cause
          (ap (λ n. refused_for c.args.armed (g.F.LineForm.says r.size n (line_so_far r.pending))) (sym c.number.ensures)
          ∙ ap (λ (bytes : List ℕ). refused_for c.args.armed (g.F.LineForm.says r.size c.number.result bytes)) (sym c.line.ensures.held)
          ∙ c.in-Err.ensures.refused cause (as_unread c.in-Err.unread cause is)),
    )
