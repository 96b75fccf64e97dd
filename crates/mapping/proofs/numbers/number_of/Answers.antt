use Rattle.std.proofs.Common.{◌-◌, ◌*◌, ◌+◌, ◌<◌, subst, sym}
use Rattle.mapping.specs.Numbers.{pool_pages}
use Rattle.mapping.proofs.NumbersLemmas.{number_below}
use Rattle.mapping.proofs.numbers.number_of.Goals as goal

pub returns-clause-below : goal.returns-clause-below
returns-clause-below c = subst (λ n. (c.args.at.block - n) * c.args.geometry.now.p + c.args.at.page < pool_pages c.args.geometry.now) (sym c.first_pool.ensures.place) (number_below c.args.geometry.now c.args.at c.requires)
