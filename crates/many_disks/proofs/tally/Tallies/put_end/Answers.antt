use Rattle.std.proofs.Common.{arith}
use Rattle.std.proofs.lemmas.Result.{on_ok_weaker}
use Rattle.many_disks.proofs.TallyLemmas.{end_is, put_both}
use Rattle.many_disks.proofs.tally.Tallies.put_end.Goals as goal

pub returns : goal.returns
returns c = on_ok_weaker c.put_answer.result (λ put share ls bs are.
    put_both c.args.out.now.items c.put_disk.new.out.items c.put_answer.new.out.items share c.args.disk ls bs c.in_ok-end.end c.in_ok-put_disk.ensures.put put
    (end_is share ls bs c.args.self.now.each c.args.disk _ c.in_ok-end.end (omega arith) c.in_ok-end.ensures.end are)) c.put_answer.ensures.put
