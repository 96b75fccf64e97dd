use Rattle.std.proofs.Common.{◌/◌, refl, arith}
use Rattle.std.proofs.lemmas.Bool.Decides.{nat_tests}
use Rattle.many_disks.proofs.TallyLemmas.{if_took, took_each, took_few, took_none}
use Rattle.many_disks.proofs.tally.Tallies.take.Goals as goal

pub returns-then-disk-clause-taken : goal.returns-then-disk-clause-taken
returns-then-disk-clause-taken c = λ ls bs are. took_none c.args.share ls bs (record { lba = c.args.lba; block = c.args.block.now }) c.args.self.now.each (grind (arith, nat_tests, c.if-disk.true)) are

pub returns-clause-taken : goal.returns-clause-taken
returns-clause-taken c = if_took c.take.result _ _ _ (λ touched holds ls bs are.
    took_each c.args.share ls bs (record { lba = c.args.lba; block = c.args.block.now }) c.args.self.now.each (c.args.lba / c.args.share) _ _ (omega arith) refl c.take.ensures.writes c.take.ensures.reads touched holds are) c.take.ensures.touched c.take.ensures.holds

pub returns-clause-few : goal.returns-clause-few
returns-clause-few c = λ n are. took_few n c.args.self.now.each (c.args.lba / c.args.share) _ _ (omega arith) c.take.ensures.writes c.take.ensures.reads are
