use Rattle.std.proofs.lemmas.Bool.{both_ways}
use Rattle.op_log.proofs.ApplyLemmas.{applied_refused, applied_more}
use Rattle.op_log.proofs.walk.apply_all.Goals as goal

pub returns-then-not-fits-clause-value : goal.returns-then-not-fits-clause-value
returns-then-not-fits-clause-value c =
    applied_refused c.args.changes.now c.loop-change.change-index _ c.loop-change-test.true c.args.map.now c.loop-change.map c.loop-change.invariant.applied (λ fit. both_ways c.fits.result c.if-not-fits.true (c.fits.ensures.1 fit))

pub loop-change-preserved : goal.loop-change-preserved
loop-change-preserved c =
    applied_more c.args.changes.now c.loop-change.change-index _ c.loop-change-test.true c.args.map.now c.loop-change.map c.apply.new.self c.loop-change.invariant (c.fits.ensures.0 c.if-not-fits.false)
    c.apply.ensures.geometry c.apply.ensures.entries c.apply.ensures.pages c.apply.ensures.groups c.apply.ensures.buckets c.apply.ensures.group_buckets
