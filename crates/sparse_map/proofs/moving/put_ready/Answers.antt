use Rattle.std.proofs.Common.{◌/◌, ◌<◌, Some, length, get_or, refl, sym, ◌∙◌, arith}
use Rattle.sparse_map.proofs.TableLemmas.{slot_of_bucket, set_bucket}
use Rattle.sparse_map.proofs.PlanLemmas.{len_at, room_at, lens_of-set, rooms_of-set}
use Rattle.sparse_map.proofs.moving.put_ready.Goals as goal

pub insert_late-requires-clause-free : goal.insert_late-requires-clause-free
insert_late-requires-clause-free g c =
    let read = c.index-groups-bucket.result in
    let us = c.args.groups.now in
    sym (slot_of_bucket us c.args.bucket (get_or us (c.args.bucket / 64) read) read c.requires.within refl) ∙ c.requires.free

pub insert_late-requires-clause-room : goal.insert_late-requires-clause-room
insert_late-requires-clause-room g c =
    let read = c.index-groups-bucket.result in
    let us = c.args.groups.now in
    let i = c.args.bucket / 64 in
    let u = get_or us i read in
    let inside : i < length us = omega (arith, c.requires.within) in
    omega (arith, c.requires.room, len_at us i u read u inside refl, room_at us i u read u inside refl)

pub returns-clause-slots : goal.returns-clause-slots
returns-clause-slots g c =
    let read = c.index-groups-bucket.result in
    let us = c.args.groups.now in
    set_bucket us c.args.bucket (get_or us (c.args.bucket / 64) read) read c.requires.within refl c.insert_late.new.self (Some c.args.item) c.insert_late.ensures.slots

pub returns-clause-lens : goal.returns-clause-lens
returns-clause-lens g c =
    let read = c.index-groups-bucket.result in
    let us = c.args.groups.now in
    let i = c.args.bucket / 64 in
    lens_of-set us i (get_or us i read) read c.insert_late.new.self (omega (arith, c.requires.within)) refl c.insert_late.ensures.len

pub returns-clause-rooms : goal.returns-clause-rooms
returns-clause-rooms g c =
    let read = c.index-groups-bucket.result in
    let us = c.args.groups.now in
    let i = c.args.bucket / 64 in
    rooms_of-set us i (get_or us i read) read c.insert_late.new.self (omega (arith, c.requires.within)) refl c.insert_late.ensures.capacity

pub insert_late-requires-clause-place : goal.insert_late-requires-clause-place
insert_late-requires-clause-place g c = c.requires.rank c.index-groups-bucket.result
