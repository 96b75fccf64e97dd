use Rattle.flashtier_run.proofs.WordsLemmas.{makes_spoken, reads_spoken, sweeps_spoken}
use Rattle.flashtier_run.proofs.laws.words_law.Goals as goal

pub returns-clause-read : goal.returns-clause-read
returns-clause-read c = reads_spoken

pub returns-clause-made : goal.returns-clause-made
returns-clause-made c = makes_spoken

pub returns-clause-swept : goal.returns-clause-swept
returns-clause-swept c = sweeps_spoken
