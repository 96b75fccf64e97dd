use Rattle.std.proofs.Common.{◌≡◌, ◌++◌, drop, cond}
use Rattle.dirty_table.specs.Groups.{without_first}
use Rattle.dirty_table.proofs.plain.removed.Given as goal

abbrev pub invariant-loop-one : goal.invariant-loop-one
invariant-loop-one l =
    l.left.items ++ cond l.found (drop l.one-index l.order) (without_first l.group (drop l.one-index l.order)) ≡ without_first l.group l.order
