use Rattle.std.proofs.Common.{◌<◌, arith}
use Rattle.sparse_map.proofs.RankLemmas.{free_bits, first_within}
use Rattle.sparse_map.proofs.GroupLemmas.{all_taken, first_free_is, taken_before}
use Rattle.sparse_map.proofs.group.Group.first_free.Goals as goal

pub returns-then-free-eq0-clause-none : goal.returns-then-free-eq0-clause-none
returns-then-free-eq0-clause-none g c = all_taken c.args.self.now c.args.from c.if-free-eq0.true

pub returns-clause-within : goal.returns-clause-within
returns-clause-within g c =
    let ne = c.if-free-eq0.false in
    let some : 0 < free_bits c.args.self.now.occupied c.args.from = omega (arith, ne) in
    (omega arith, first_within c.args.self.now.occupied c.args.from c.args.self.now.fits some)

pub returns-clause-free : goal.returns-clause-free
returns-clause-free g c =
    let ne = c.if-free-eq0.false in
    first_free_is c.args.self.now c.args.from (omega (arith, ne))

pub returns-clause-passed : goal.returns-clause-passed
returns-clause-passed g c =
    let ne = c.if-free-eq0.false in
    taken_before c.args.self.now c.args.from (omega (arith, ne))
