use Rattle.std.proofs.Common.{◌≡◌, ◌*◌, ap, arith}
use Rattle.ft_base.specs.Layout.{page_records}
use Rattle.checkpoint.proofs.asking.first_of.Goals as goal

pub overflow_mul-result : goal.overflow_mul-result
overflow_mul-result c =
    let same : c.q.result * c.args.sequence ≡ page_records c.args.geometry.now * c.args.sequence = ap (λ n. n * c.args.sequence) c.q.ensures.number in
    omega (arith, same, c.requires)

pub returns : goal.returns
returns c = ap (λ n. n * c.args.sequence) c.q.ensures.number
