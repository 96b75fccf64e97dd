use Rattle.std.proofs.Common.{◌≡◌, ◌/◌, ◌%◌, refl, sym, ap, subst, get_or, arith}
use Rattle.std.specs.Prelude.{IsSome}
use Rattle.sparse_map.specs.Slots.{rank}
use Rattle.sparse_map.proofs.TableLemmas.{slot_of_bucket}
use Rattle.sparse_map.proofs.PlacesLemmas.{sizes-same}
use Rattle.sparse_map.proofs.RankedLemmas.{exchanged_in}
use Rattle.sparse_map.proofs.table.exchange_within.Goals as goal

pub exchange-requires-clause-k_place : goal.exchange-requires-clause-k_place
exchange-requires-clause-k_place g c = c.requires.a.rank c.index-groups-a.result

pub exchange-requires-clause-l_place : goal.exchange-requires-clause-l_place
exchange-requires-clause-l_place g c =
    let read = c.index-groups-a.result in
    let us = c.args.groups.now in
    subst (λ i. c.args.b_rank ≡ rank (get_or us i read).occupied (c.args.b % 64)) (sym c.requires.together) (c.requires.b.rank read)

pub exchange-requires-clause-k_occupied : goal.exchange-requires-clause-k_occupied
exchange-requires-clause-k_occupied g c =
    let read = c.index-groups-a.result in
    let us = c.args.groups.now in
    subst (λ o. IsSome o) (slot_of_bucket us c.args.a (get_or us (c.args.a / 64) read) read c.requires.a.within refl) c.requires.a.occupied

pub exchange-requires-clause-l_occupied : goal.exchange-requires-clause-l_occupied
exchange-requires-clause-l_occupied g c =
    let read = c.index-groups-a.result in
    let us = c.args.groups.now in
    subst (λ o. IsSome o) (slot_of_bucket us c.args.b (get_or us (c.args.a / 64) read) read c.requires.b.within (ap (λ i. get_or us i read) c.requires.together)) c.requires.b.occupied

pub returns-clause-slots : goal.returns-clause-slots
returns-clause-slots g c =
    let read = c.index-groups-a.result in
    let us = c.args.groups.now in
    exchanged_in us c.args.a c.args.b (get_or us (c.args.a / 64) read) read c.exchange.new.self c.requires.a.within c.requires.b.within c.requires.together refl c.exchange.ensures.slots

pub returns-clause-sizes : goal.returns-clause-sizes
returns-clause-sizes g c =
    let read = c.index-groups-a.result in
    let us = c.args.groups.now in
    let inside = c.requires.a.within in
    sizes-same us (c.args.a / 64) (get_or us (c.args.a / 64) read) read c.exchange.new.self (omega arith) refl c.exchange.ensures.len c.exchange.ensures.capacity
