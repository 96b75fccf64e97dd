use Rattle.std.proofs.Common.{arith}
use Rattle.sparse_map.proofs.HomeLemmas.{grew_more, grew_at_zero, grew_at_some, five_or_more, below_thirty_one, tested}
use Rattle.sparse_map.proofs.home.bits_for.Goals as goal
use Rattle.sparse_map.proofs.home.bits_for.Goals.{then-bits-eq0, else-bits-eq0}

pub loop-wide-init : goal.loop-wide-init
loop-wide-init c = elim c.if-bits-eq0.branch [
  | then-bits-eq0 w ↦ record { many = omega arith; few = omega arith; grew = grew_at_zero _ _ _ w.if-bits-eq0.true w.wide-is }
  | else-bits-eq0 w ↦
      let some = five_or_more _ c.requires.some w.if-bits-eq0.false in
      record { many = omega arith; few = omega arith; grew = grew_at_some _ _ _ some w.wide-is }
]

pub loop-wide-preserved : goal.loop-wide-preserved
loop-wide-preserved c =
    let h = c.loop-wide.invariant in
    let more = tested _ _ h.few c.loop-wide-test.true in
    record { many = omega arith; few = below_thirty_one _ _ c.requires.room h.few more; grew = grew_more _ _ _ h.grew more }
