use Rattle.std.proofs.Common.{◌≡◌, suc, ◌+◌, ◌-◌, ◌<◌, sym, ap, ◌∙◌, subst, arith}
use Rattle.sparse_map.specs.Home.{home}
use Rattle.sparse_map.specs.Plan.{first_unmarked}
use Rattle.sparse_map.proofs.RoundLemmas.{next_below}
use Rattle.sparse_map.proofs.PlanLemmas.{unmarked_here, unmarked_next, unmarked_none}
use Rattle.sparse_map.proofs.plan.first_unmarked.Goals as goal

pub returns-then-not-marks-bucket-clause-first : goal.returns-then-not-marks-bucket-clause-first
returns-then-not-marks-bucket-clause-first c =
    let n = c.bucket_count-buckets.result in
    let e = c.bucket_count-buckets.ensures.count in
    let marks = c.args.marks.now in
    let at = c.loop-step.bucket in
    sym (unmarked_here n (n - c.loop-step._step) at marks c.if-not-marks-bucket.true)
    ∙ c.loop-step.invariant.left
    ∙ ap (λ m. first_unmarked m m (home m c.args.key) marks) e

pub loop-step-preserved : goal.loop-step-preserved
loop-step-preserved c =
    let n = c.bucket_count-buckets.result in
    let marks = c.args.marks.now in
    let at = c.loop-step.bucket in
    let step = c.loop-step._step in
    let more : n - step ≡ suc (n - (step + 1)) = omega (arith, c.loop-step-test.true) in
    let on = c.next_bucket-bucket.ensures in
    record {
      inside = subst (λ b. b < n) (sym on) (next_below n at c.loop-step.invariant.inside);
      left =
          ap (λ b. first_unmarked n (n - (step + 1)) b marks) on
          ∙ sym (unmarked_next n (n - (step + 1)) at marks c.if-not-marks-bucket.false)
          ∙ ap (λ k. first_unmarked n k at marks) (sym more)
          ∙ c.loop-step.invariant.left;
    }

pub returns-clause-first : goal.returns-clause-first
returns-clause-first c =
    let n = c.bucket_count-buckets.result in
    let e = c.bucket_count-buckets.ensures.count in
    let marks = c.args.marks.now in
    let at = c.loop-step.bucket in
    let none : n - c.loop-step._step ≡ 0 = omega arith in
    sym (unmarked_none n at marks)
    ∙ ap (λ k. first_unmarked n k at marks) (sym none)
    ∙ c.loop-step.invariant.left
    ∙ ap (λ m. first_unmarked m m (home m c.args.key) marks) e
