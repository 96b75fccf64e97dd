use Rattle.std.proofs.Common.{◌≤◌, ◌*◌, ◌%◌, ap, arith}
use Rattle.std.proofs.Math.Nat.{mul-le-mul_left}
use Rattle.checkpoint.specs.Asked.{asked_pages}
use Rattle.checkpoint.proofs.asking.place_of.Goals as goal

pub overflow_mul-result : goal.overflow_mul-result
overflow_mul-result c =
    let few : c.args.sequence % asked_pages ≤ 15 = omega arith in
    omega (arith, c.q.ensures.most, mul-le-mul_left c.q.result few)

pub returns-clause-place : goal.returns-clause-place
returns-clause-place c = ap (λ n. n * (c.args.sequence % asked_pages)) c.q.ensures.number

pub returns-clause-within : goal.returns-clause-within
returns-clause-within c =
    let few : c.args.sequence % asked_pages ≤ 15 = omega arith in
    omega (arith, c.q.ensures.number, mul-le-mul_left c.q.result few)
