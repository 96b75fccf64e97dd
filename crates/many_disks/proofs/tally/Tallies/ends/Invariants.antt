use Rattle.std.proofs.Common.{◌≡◌, ℕ, List}
use Rattle.ft_base.specs.PlainDisk.{BlockWrite}
use Rattle.trace_model.specs.declared.line.Line.{Line}
use Rattle.many_disks.specs.Tally.{AreTalliesOf, ends_by}
use Rattle.many_disks.specs.Told.{printed_text}
use Rattle.many_disks.proofs.tally.Tallies.ends.Given as goal

abbrev pub invariant-loop-disk : goal.invariant-loop-disk
invariant-loop-disk l = (share : ℕ) → (lines : List Line) → (blocks : List BlockWrite) → AreTalliesOf share 0 lines blocks l.self.each → l.text.items ≡ printed_text (ends_by share l.disk lines blocks)
