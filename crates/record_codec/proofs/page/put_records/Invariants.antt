use Rattle.std.proofs.Common.{take}
use Rattle.record_codec.proofs.PageLemmas.{RecordsSoFar}
use Rattle.record_codec.proofs.page.put_records.Given as goal

-- the records so far, and they have widths
abbrev pub invariant-loop-i : goal.invariant-loop-i
invariant-loop-i l = RecordsSoFar l.wide l.fn.out.0 l.out.0 (take l.i l.changes) l.i
