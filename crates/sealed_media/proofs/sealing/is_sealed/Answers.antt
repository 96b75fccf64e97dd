use Rattle.std.proofs.Common.{arith}
use Rattle.sealed_media.proofs.SealLemmas.{sealed_found, sealed_so}
use Rattle.sealed_media.proofs.sealing.is_sealed.Goals as goal

pub returns-clause-test : goal.returns-clause-test
returns-clause-test c = sealed_found c.args.page.now c.eq.result c.own_seal.result (omega arith) c.eq.ensures c.own_seal.ensures

pub returns-clause-sealed : goal.returns-clause-sealed
returns-clause-sealed c = sealed_so c.args.page.now c.eq.result (returns-clause-test c)
