use Rattle.fault_laws.proofs.LeftLemmas.{left_opens}
use Rattle.fault_laws.proofs.volume.left_laws.Goals as goal

pub returns-clause-back : goal.returns-clause-back
returns-clause-back c = λ v contents left. left_opens v.disk contents left.disk

pub returns-clause-through : goal.returns-clause-through
returns-clause-through c = λ v contents left. left_opens v.disk contents left.disk
