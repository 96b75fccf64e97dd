use Rattle.std.proofs.Common.{inr}
use Rattle.merge_engine.proofs.GoesLemmas.{room_for_one}
use Rattle.merge_engine.proofs.ResultLemmas.{on_ok_from, ok_at}
use Rattle.ssc.proofs.putting.commit_if_full.Goals as goal

pub returns-clause-lists : goal.returns-clause-lists
returns-clause-lists g c = on_ok_from c.commit.result (λ v is. λ list durable lists.
    inr (ok_at c.commit.result v is c.commit.ensures.kept.nothing_waits, ok_at c.commit.result v is c.commit.ensures.kept.lists list durable lists))

pub returns-clause-few : goal.returns-clause-few
returns-clause-few g c = on_ok_from c.commit.result (λ v is. room_for_one c.commit.new.cache.log (ok_at c.commit.result v is c.commit.ensures.kept.nothing_waits))
