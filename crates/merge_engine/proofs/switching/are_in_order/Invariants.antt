use Rattle.mapping.specs.Numbers.{IsNoDataBlock}
use Rattle.merge_engine.specs.Switch.{IsInOrderUpTo}
use Rattle.merge_engine.proofs.switching.are_in_order.Given as goal

abbrev pub invariant-loop-page : goal.invariant-loop-page
invariant-loop-page l = IsNoDataBlock l.cache.map.entries l.block → IsInOrderUpTo l.cache.map.entries l.first l.block l.page
