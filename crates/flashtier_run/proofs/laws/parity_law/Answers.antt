use Rattle.flashtier_run.proofs.ParityLemmas.{parity_ran}
use Rattle.flashtier_run.proofs.laws.parity_law.Goals as goal

pub returns : goal.returns
returns c = parity_ran
