use Rattle.std.proofs.Common.{◌/◌, ◌*◌, ◌^◌, ◌<◌, length, sym, ◌∙◌, arith}
use Rattle.std.specs.Vec.{vec_len, vec_capacity}
use Rattle.std.proofs.lemmas.List.{length-map}
use Rattle.std.proofs.lemmas.Nat.{pow_pos}
use Rattle.sparse_map.specs.declared.group.Group.{Group}
use Rattle.sparse_map.specs.Groups.{slots_of}
use Rattle.sparse_map.specs.Plan.{plan_of, lens_of}
use Rattle.sparse_map.proofs.HomeLemmas.{home_below, sized}
use Rattle.sparse_map.proofs.BucketLemmas.{same_slot, table_long, length-table}
use Rattle.sparse_map.proofs.PlanLemmas.{first_unmarked-is, count_here}
use Rattle.sparse_map.proofs.TakingLemmas.{new_place, placed}
use Rattle.sparse_map.proofs.moving.place.Goals as goal

pub first_free-seat-requires-clause-table : goal.first_free-seat-requires-clause-table
first_free-seat-requires-clause-table g c =
    let ready = c.requires.ready in
    record { size = c.requires.size; table = ready.table; packed = ready.packed; room = omega (arith, ready.room) }

pub put_ready-requires-clause-within : goal.put_ready-requires-clause-within
put_ready-requires-clause-within g c =
    let n = 2 ^ c.args.bits in
    let us = c.args.groups.now in
    let size = sized c.args.bits c.requires.size in
    let table = c.requires.ready.table in
    omega (arith, c.first_free-seat.ensures.first.inside, length-table n us size table, table_long n us size table)

pub put_ready-requires-clause-room : goal.put_ready-requires-clause-room
put_ready-requires-clause-room g c =
    let n = 2 ^ c.args.bits in
    let us = c.args.groups.now in
    let k = c.args.item.0 in
    let b = c.first_free-seat.result.bucket in
    let size = sized c.args.bits c.requires.size in
    let place = new_place n us c.args.item c.home_of.result b size c.requires.ready c.home_of.ensures.home c.first_free-seat.ensures.first in
    let table = c.requires.ready.table in
    let is = first_unmarked-is n (slots_of n us) k b (length-table n us size table) (home_below n k (pow_pos c.args.bits)) place in
    let within : b < 64 * length us = omega (arith, place.inside, length-table n us size table, table_long n us size table) in
    let inside : b / 64 < length (lens_of us) = omega (arith, within, length-map us (λ (g : Group _). vec_len g.items)) in
    let more = count_here n (plan_of n us) k b is inside in
    let fits = c.requires.fits (b / 64) (omega (arith, within, length-map us (λ (g : Group _). vec_capacity g.items))) in
    omega (arith, more, fits)

pub put_ready-requires-clause-free : goal.put_ready-requires-clause-free
put_ready-requires-clause-free g c =
    sym (same_slot (2 ^ c.args.bits) c.args.groups.now c.requires.ready.table.rest c.first_free-seat.result.bucket) ∙ c.first_free-seat.ensures.first.free

pub returns-clause-taken : goal.returns-clause-taken
returns-clause-taken g c =
    let n = 2 ^ c.args.bits in
    let us = c.args.groups.now in
    let b = c.first_free-seat.result.bucket in
    let size = sized c.args.bits c.requires.size in
    let place = new_place n us c.args.item c.home_of.result b size c.requires.ready c.home_of.ensures.home c.first_free-seat.ensures.first in
    placed n us c.put_ready.new.groups b c.args.item size c.requires.ready (home_below n c.args.item.0 (pow_pos c.args.bits)) place
    c.put_ready.ensures.slots c.put_ready.ensures.lens
