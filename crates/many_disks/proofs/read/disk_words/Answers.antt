use Rattle.std.proofs.Common.{arith, bytes_eq, ap, sym, ◌∙◌}
use Rattle.std.proofs.lemmas.Grind.{common_steps}
use Rattle.trace_model.specs.Lines.{split_words}
use Rattle.many_disks.proofs.LineLemmas.{chooses_disk, plain_comment, plain_if_long, plain_of_one}
use Rattle.many_disks.proofs.read.disk_words.Goals as goal
use Rattle.many_disks.proofs.read.disk_words.Goals.{then-disks-eq1-via-then-disks-eq1, then-disks-eq1-via-else-disks-eq1+then-bytes-gt200, then-disks-eq1-via-else-disks-eq1+else-bytes-gt200+then-is_comment}

pub returns-then-disks-eq1-clause-none : goal.returns-then-disks-eq1-clause-none
returns-then-disks-eq1-clause-none c = λ share. elim c.then-disks-eq1.branch [
  | then-disks-eq1-via-then-disks-eq1 w ↦ plain_of_one share c.args.disks c.args.bytes.now w.if-disks-eq1.true
  | then-disks-eq1-via-else-disks-eq1+then-bytes-gt200 w ↦ plain_if_long share c.args.disks c.args.bytes.now w.if-bytes-gt200.true
  | then-disks-eq1-via-else-disks-eq1+else-bytes-gt200+then-is_comment w ↦ plain_comment share c.args.disks c.args.bytes.now (sym w.is_comment.ensures ∙ w.if-is_comment.true)
]

pub returns-then-eq-clause-some : goal.returns-then-eq-clause-some
returns-then-eq-clause-some c = λ share. chooses_disk share c.args.disks c.args.bytes.now c.in_ok-word.word.now (split_words c.in_ok-word.words.now)
    (grind (arith, common_steps)) c.if-bytes-gt200.false (sym c.is_comment.ensures ∙ c.if-is_comment.false) (ap split_words (sym c.without_return.ensures) ∙ c.in_ok-word.ensures.split) (ap (bytes_eq c.in_ok-word.word.now) (sym c.as_slice.ensures) ∙ sym c.eq.ensures ∙ c.if-eq.true)
