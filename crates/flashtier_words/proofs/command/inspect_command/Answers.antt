use Rattle.std.proofs.Common.{codes}
use Rattle.flashtier_words.proofs.command.inspect_command.Goals as goal

pub returns-in-None-clause-none : goal.returns-in-None-clause-none
returns-in-None-clause-none c = (rw c.in-None.is at c.in_ok-mode.ensures.none) (codes "inspect")
