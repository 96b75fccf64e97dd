use Rattle.std.proofs.Common.{◌≡◌, ◌++◌, drop}
use Rattle.log_blocks.specs.Logs.{without_block}
use Rattle.log_blocks.proofs.plain.without.Given as goal

abbrev pub invariant-loop-one : goal.invariant-loop-one
invariant-loop-one l = l.left.items ++ without_block l.block (drop l.one-index l.used) ≡ without_block l.block l.used
