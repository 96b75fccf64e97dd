use Rattle.std.proofs.Common.{arith}
use Rattle.many_disks.proofs.TallyLemmas.{count_at, counted_each, counted_few}
use Rattle.many_disks.proofs.tally.Tallies.count.Goals as goal

pub count-requires : goal.count-requires
count-requires c = record { few = count_at 4294967296 c.args.self.now.each c.args.disk _ (omega arith) c.requires.few }

pub returns-clause-counted : goal.returns-clause-counted
returns-clause-counted c = λ share ls bs runnable are. counted_each share ls bs c.args.line.now c.args.self.now.each c.args.disk _ _ runnable (omega arith) c.count.ensures are

pub returns-clause-few : goal.returns-clause-few
returns-clause-few c = λ n are. counted_few n c.args.line.now c.args.self.now.each c.args.disk _ _ (omega arith) c.count.ensures are
