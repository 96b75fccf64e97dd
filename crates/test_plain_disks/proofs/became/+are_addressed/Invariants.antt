use Rattle.std.proofs.Common.{length}
use Rattle.test_plain_disks.proofs.became.+are_addressed.Given as goal

abbrev pub decreases-are_addressed : goal.decreases-are_addressed
decreases-are_addressed l = length l.run.now
