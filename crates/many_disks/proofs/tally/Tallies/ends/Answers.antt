use Rattle.std.proofs.Common.{◌++◌, List, ℕ, ap, sym, ◌∙◌}
use Rattle.many_disks.specs.Tally.{end_printed}
use Rattle.many_disks.specs.Told.{printed_text}
use Rattle.many_disks.proofs.TallyLemmas.{ends_more}
use Rattle.many_disks.proofs.tally.Tallies.ends.Goals as goal

pub loop-disk-preserved : goal.loop-disk-preserved
loop-disk-preserved c = λ share ls bs are.
    c.in_ok-put_end.ensures share ls bs are
    ∙ ap (λ (xs : List ℕ). xs ++ printed_text (end_printed share c.loop-disk.disk ls bs)) (c.loop-disk.invariant share ls bs are)
    ∙ sym (ends_more share c.loop-disk.disk ls bs)
