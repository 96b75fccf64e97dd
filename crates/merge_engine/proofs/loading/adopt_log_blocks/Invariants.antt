use Rattle.std.proofs.Common.{◌≡◌, None}
use Rattle.merge_engine.specs.Loaded.{AreAscending}
use Rattle.merge_engine.proofs.LoadedLemmas.{AdoptedBelow}
use Rattle.merge_engine.proofs.loading.adopt_log_blocks.Given as goal

-- only the list of log blocks changed, and it has the blocks so far, in the order of their numbers
abbrev pub invariant-loop-block : goal.invariant-loop-block
invariant-loop-block l = record {
  parts : l.parts ≡ record l.initial.parts { log_blocks = l.parts.log_blocks };
  adopted : AdoptedBelow l.initial.parts.geometry l.initial.parts.pool l.parts.log_blocks l.block;
  ascending : AreAscending l.parts.log_blocks.used;
  none_open : l.parts.log_blocks.open_block ≡ None;
}
