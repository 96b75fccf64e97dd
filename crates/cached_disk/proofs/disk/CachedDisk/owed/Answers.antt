use Rattle.std.proofs.Common.{rules}
use Rattle.cached_disk.proofs.OwedLemmas.{down_owed, later_owed}
use Rattle.cached_disk.proofs.disk.CachedDisk.owed.Goals as goal

pub returns-then-is_down : goal.returns-then-is_down
returns-then-is_down c = λ contents owed owes. down_owed c.args.self.now contents owed owes (search rules)

pub returns : goal.returns
returns c = λ contents owed owes. later_owed c.args.self.now contents owed owes (search rules) c.later.result c.later.ensures
