use Rattle.std.proofs.Common.{ℕ, List, sym, ap, ◌∙◌, subst, rules}
use Rattle.trace_model.specs.declared.line.LineError.TheVariants.{LineTooLong, TooLong}
use Rattle.trace_replay.specs.Events.{refused_for}
use Rattle.trace_replay.specs.Pending.{line_so_far}
use Rattle.trace_replay.specs.Reader.{RefusesNext, StandsAtLine}
use Rattle.trace_replay.proofs.ReaderLemmas.{knows_at_fault, refuses_at, refuses_at_limit, refuses_at_long}
use Rattle.many_disks.specs.Lines.{many_of}
use Rattle.many_disks.specs.Script.{coded, coded_reading}
use Rattle.many_disks.proofs.ReadLemmas.{long_coded, same_refusal}
use Rattle.many_disks.proofs.next.seek_line.Goals as goal

pub returns-in-Ok-clause-came : goal.returns-in-Ok-clause-came
returns-in-Ok-clause-came g c = λ s lines so. c.seek.ensures.came (coded c.args.disks) s lines so

pub returns-in-Err-clause-came : goal.returns-in-Err-clause-came
returns-in-Err-clause-came g c = λ s lines so. c.seek.ensures.came (coded c.args.disks) s lines so

pub returns-in-Err-clause-refused : goal.returns-in-Err-clause-refused
returns-in-Err-clause-refused g c = λ cause is size s lines so.
    let r = c.seek.new.self in
    let b = g.I.Source.state c.seek.new.source in
    let stands : StandsAtLine r = search rules in
    subst (λ k. RefusesNext (coded c.args.disks r.size) s b lines c.args.armed k) (same_refusal c.in-Err.cause cause is)
    (refuses_at (coded c.args.disks) r s b lines so stands c.args.armed c.in-Err.cause
    (ap (λ n. refused_for c.args.armed (coded_reading (many_of n c.args.disks (line_so_far r.pending)))) size
    ∙ ap (λ (bytes : List ℕ). refused_for c.args.armed (coded_reading (many_of c.args.share c.args.disks bytes))) (sym c.line.ensures.held)
    ∙ c.in-Err.ensures.refused))

pub returns-in-End-clause-came : goal.returns-in-End-clause-came
returns-in-End-clause-came g c = λ s lines so. c.seek.ensures.came (coded c.args.disks) s lines so

pub returns-in-Long-clause-came : goal.returns-in-Long-clause-came
returns-in-Long-clause-came g c = λ s lines so. c.seek.ensures.came (coded c.args.disks) s lines so

pub returns-in-Long-clause-refused : goal.returns-in-Long-clause-refused
returns-in-Long-clause-refused g c = λ cause is size s lines so.
    let r = c.seek.new.self in
    let b = g.I.Source.state c.seek.new.source in
    subst (λ k. RefusesNext (coded c.args.disks r.size) s b lines c.args.armed k) (same_refusal LineTooLong cause is)
    (refuses_at_long (coded c.args.disks) r s b lines so (long_coded c.args.disks r.size) c.in-Long.ensures.stands c.args.armed)

pub returns-in-AtLimit-clause-came : goal.returns-in-AtLimit-clause-came
returns-in-AtLimit-clause-came g c = λ s lines so. c.seek.ensures.came (coded c.args.disks) s lines so

pub returns-in-AtLimit-clause-refused : goal.returns-in-AtLimit-clause-refused
returns-in-AtLimit-clause-refused g c = λ cause is size s lines so.
    let r = c.seek.new.self in
    let b = g.I.Source.state c.seek.new.source in
    subst (λ k. RefusesNext (coded c.args.disks r.size) s b lines c.args.armed k) (same_refusal TooLong cause is)
    (refuses_at_limit (coded c.args.disks) r s b lines so c.in-AtLimit.ensures.stands c.args.armed)

pub returns-in-Failed-clause-came : goal.returns-in-Failed-clause-came
returns-in-Failed-clause-came g c = λ s lines so. c.seek.ensures.came (coded c.args.disks) s lines so

pub returns-in-Failed-clause-failed : goal.returns-in-Failed-clause-failed
returns-in-Failed-clause-failed g c = λ _ s lines so. knows_at_fault (coded c.args.disks) c.seek.new.self s (g.I.Source.state c.seek.new.source) lines so c.in-Failed.ensures.stands
