use Rattle.std.proofs.lemmas.Bool.{both_ways}
use Rattle.op_log.proofs.ApplyLemmas.{applied_refused, next_applied}
use Rattle.recovery.proofs.plain.applying.apply_records.Goals as goal

pub returns-then-not-fits-clause-applied : goal.returns-then-not-fits-clause-applied
returns-then-not-fits-clause-applied c =
    applied_refused c.args.changes.now c.loop-change.change-index _ c.loop-change-test.true c.args.map.now c.loop-change.map c.loop-change.invariant (λ fit. both_ways c.fits.result c.if-not-fits.true (c.fits.ensures.1 fit))

pub loop-change-preserved : goal.loop-change-preserved
loop-change-preserved c =
    next_applied c.args.changes.now c.loop-change.change-index _ c.loop-change-test.true c.args.map.now c.loop-change.map c.loop-change.invariant c.reserve.new.self c.apply.new.self c.in_ok-reserve.ensures.geometry c.in_ok-reserve.ensures.entries
    (c.fits.ensures.0 c.if-not-fits.false) c.apply.ensures.geometry c.apply.ensures.entries
