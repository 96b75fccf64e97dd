use Rattle.sparse_map.proofs.RankedLemmas.{ranks_exchanged, some_exchanged}
use Rattle.sparse_map.proofs.table.exchange.Goals as goal

pub returns-then-a-b-clause-occupied : goal.returns-then-a-b-clause-occupied
returns-then-a-b-clause-occupied g c =
    some_exchanged c.args.groups.now c.exchange_within.new.groups c.args.a c.args.b c.requires.a.within c.requires.b.within c.requires.a.occupied c.requires.b.occupied c.exchange_within.ensures.slots

pub returns-then-a-b-clause-ranks : goal.returns-then-a-b-clause-ranks
returns-then-a-b-clause-ranks g c =
    ranks_exchanged c.args.groups.now c.exchange_within.new.groups c.args.a c.args.b c.requires.a.within c.requires.b.within c.requires.a.occupied c.requires.b.occupied c.exchange_within.ensures.slots

pub returns-else-a-b-clause-occupied : goal.returns-else-a-b-clause-occupied
returns-else-a-b-clause-occupied g c =
    some_exchanged c.args.groups.now c.exchange_across.new.groups c.args.a c.args.b c.requires.a.within c.requires.b.within c.requires.a.occupied c.requires.b.occupied c.exchange_across.ensures.slots

pub returns-else-a-b-clause-ranks : goal.returns-else-a-b-clause-ranks
returns-else-a-b-clause-ranks g c =
    ranks_exchanged c.args.groups.now c.exchange_across.new.groups c.args.a c.args.b c.requires.a.within c.requires.b.within c.requires.a.occupied c.requires.b.occupied c.exchange_across.ensures.slots
