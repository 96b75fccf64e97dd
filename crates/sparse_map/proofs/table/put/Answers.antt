use Rattle.std.proofs.Common.{◌≡◌, ◌<◌, ◌+◌, ◌%◌, ◌/◌, Some, refl, sym, ap, ◌∙◌, get_or, inl, inr, arith, length, set}
use Rattle.std.proofs.lemmas.List.{get_or-set_same, length-set}
use Rattle.std.specs.Vec.{vec_len, vec_capacity}
use Rattle.std.proofs.lemmas.Bool.{cases_eq}
use Rattle.sparse_map.specs.Slots.{rank, slot_at}
use Rattle.sparse_map.proofs.GroupLemmas.{free_below_64}
use Rattle.sparse_map.proofs.TableLemmas.{slot_of_bucket, set_bucket}
use Rattle.sparse_map.proofs.PlanLemmas.{len_at, room_at}
use Rattle.sparse_map.specs.declared.table.Touched.TheVariants.{Nowhere}
use Rattle.sparse_map.specs.Places.{list_size, sizes_of, extra, lacks, past_most}
use Rattle.sparse_map.proofs.PlacesLemmas.{past-le, untouched-wider, extra-most, extra-less, lacks-le, lacks-no, lacks-yes, places_in-set, untouched_in-set, untouched_in-at, untouched_in-less, lacking_in-next, lacking-one}
use Rattle.sparse_map.proofs.table.put.Goals as goal

pub make_room-grew-requires-clause-below : goal.make_room-grew-requires-clause-below
make_room-grew-requires-clause-below g c =
    let read = c.index-groups-bucket.result in
    let us = c.args.groups.now in
    let u = get_or us (c.args.bucket / 64) read in
    let lt : c.args.bucket % 64 < 64 = omega arith in
    free_below_64 u (c.args.bucket % 64) lt (sym (slot_of_bucket us c.args.bucket u read c.requires.within refl) ∙ c.requires.free)

pub insert-requires-clause-free : goal.insert-requires-clause-free
insert-requires-clause-free g c =
    let read = c.index-groups-bucket.result in
    let us = c.args.groups.now in
    let u = get_or us (c.args.bucket / 64) read in
    ap (λ l. slot_at l (c.args.bucket % 64)) c.make_room-grew.ensures.slots
    ∙ sym (slot_of_bucket us c.args.bucket u read c.requires.within refl)
    ∙ c.requires.free

pub returns-clause-slots : goal.returns-clause-slots
returns-clause-slots g c =
    let read = c.index-groups-bucket.result in
    let us = c.args.groups.now in
    let u = get_or us (c.args.bucket / 64) read in
    set_bucket us c.args.bucket u read c.requires.within refl c.insert.new.self (Some c.args.item)
    (c.insert.ensures.slots ∙ ap (λ l. set l (c.args.bucket % 64) (Some c.args.item)) c.make_room-grew.ensures.slots)

pub returns-clause-places : goal.returns-clause-places
returns-clause-places g c =
    let read = c.index-groups-bucket.result in
    let us = c.args.groups.now in
    let u = get_or us (c.args.bucket / 64) read in
    let inside : c.args.bucket / 64 < length us = omega (arith, c.requires.within) in
    let changed = places_in-set us (c.args.bucket / 64) u read c.insert.new.self inside refl in
    elim c.make_room-grew.ensures.widened [
      | inl kept ↦ omega (arith, changed, c.insert.ensures.capacity, kept.1, kept.2)
      | inr wider ↦ omega (arith, changed, c.insert.ensures.capacity, wider.2, wider.3)
    ]

pub insert-requires-clause-place : goal.insert-requires-clause-place
insert-requires-clause-place g c =
    let read = c.index-groups-bucket.result in
    let us = c.args.groups.now in
    c.requires.rank read ∙ ap (λ n. rank n (c.args.bucket % 64)) (sym c.make_room-grew.ensures.occupied)

pub make_room-grew-requires-clause-stocked : goal.make_room-grew-requires-clause-stocked
make_room-grew-requires-clause-stocked g c =
    let read = c.index-groups-bucket.result in
    let us = c.args.groups.now in
    let i = c.args.bucket / 64 in
    let u = get_or us i read in
    let inside : i < length us = omega (arith, c.requires.within) in
    let lt : c.args.bucket % 64 < 64 = omega arith in
    let below = free_below_64 u (c.args.bucket % 64) lt (sym (slot_of_bucket us c.args.bucket u read c.requires.within refl) ∙ c.requires.free) in
    λ full.
    let one = lacks-yes 1 (list_size u) (omega (arith, full, below)) in
    c.requires.stocked (omega (arith, one, lacking-one us i u read u inside refl 1))

pub returns-clause-fewer_lack : goal.returns-clause-fewer_lack
returns-clause-fewer_lack g c =
    let read = c.index-groups-bucket.result in
    let us = c.args.groups.now in
    let i = c.args.bucket / 64 in
    let u = get_or us i read in
    let w = c.insert.new.self in
    let inside : i < length us = omega (arith, c.requires.within) in
    let lt : c.args.bucket % 64 < 64 = omega arith in
    let below = free_below_64 u (c.args.bucket % 64) lt (sym (slot_of_bucket us c.args.bucket u read c.requires.within refl) ∙ c.requires.free) in
    λ n. elim c.make_room-grew.ensures.widened [
      | inl kept ↦
          let less = lacks-le n (n + 1) (list_size w) (list_size u) (λ lacked. omega (arith, lacked, c.insert.ensures.len, c.make_room-grew.ensures.len, c.insert.ensures.capacity, kept.1)) in
          let fewer = lacking_in-next us i u read w inside refl n 0 (omega (arith, less)) in
          omega (arith, fewer, kept.2)
      | inr wider ↦
          let none = lacks-no n (list_size w) (omega (arith, c.insert.ensures.capacity, wider.2)) in
          let one = lacks-yes (n + 1) (list_size u) (omega (arith, wider.1, below)) in
          let fewer = lacking_in-next us i u read w inside refl n 1 (omega (arith, none, one)) in
          omega (arith, fewer, wider.3)
    ]

pub returns-clause-loose : goal.returns-clause-loose
returns-clause-loose g c =
    let read = c.index-groups-bucket.result in
    let us = c.args.groups.now in
    let i = c.args.bucket / 64 in
    let u = get_or us i read in
    let w = c.insert.new.self in
    let inside : i < length us = omega (arith, c.requires.within) in
    λ before after may more.
    let wider = untouched-wider extra (sizes_of us) before after more in
    elim c.make_room-grew.ensures.widened [
      | inl kept ↦
          let most = extra-most u w 0 (omega (arith, c.insert.ensures.capacity, kept.1)) (omega (arith, c.insert.ensures.len, c.make_room-grew.ensures.len)) in
          omega (arith, wider, untouched_in-set us i u read w inside refl extra after 0 most)
      | inr grew ↦ omega (arith, wider, untouched_in-at us i u read w inside refl extra after (may (c.left_in.ensures.blank grew.0)))
    ]

pub returns-clause-short : goal.returns-clause-short
returns-clause-short g c =
    let read = c.index-groups-bucket.result in
    let us = c.args.groups.now in
    let i = c.args.bucket / 64 in
    let u = get_or us i read in
    let w = c.insert.new.self in
    let inside : i < length us = omega (arith, c.requires.within) in
    elim c.make_room-grew.ensures.widened [
      | inl kept ↦
          let past = past-le (list_size w) (list_size u) (omega (arith, c.insert.ensures.capacity, kept.1)) in
          omega (arith, untouched_in-set us i u read w inside refl past_most Nowhere 0 (omega (arith, past)))
      | inr grew ↦
          let past = past-le (list_size w) (list_size u) (omega (arith, c.insert.ensures.capacity, grew.2)) in
          omega (arith, untouched_in-set us i u read w inside refl past_most Nowhere 0 (omega (arith, past)))
    ]

pub returns-clause-less : goal.returns-clause-less
returns-clause-less g c =
    let read = c.index-groups-bucket.result in
    let us = c.args.groups.now in
    let i = c.args.bucket / 64 in
    let u = get_or us i read in
    let w = c.insert.new.self in
    let inside : i < length us = omega (arith, c.requires.within) in
    λ some. elim c.make_room-grew.ensures.widened [
      | inl kept ↦
          let less = extra-less u w c.left_in.result (omega (arith, c.insert.ensures.capacity, kept.1)) (omega (arith, c.insert.ensures.len, c.make_room-grew.ensures.len))
          (omega (arith, c.left_in.ensures.own kept.0, c.free_places.ensures)) some in
          untouched_in-less us i u read w inside refl extra less
      | inr grew ↦ absurd (omega (arith, c.left_in.ensures.blank grew.0, some))
    ]

pub returns-clause-ready : goal.returns-clause-ready
returns-clause-ready g c =
    let read = c.index-groups-bucket.result in
    let us = c.args.groups.now in
    let i = c.args.bucket / 64 in
    let u = get_or us i read in
    let w = c.insert.new.self in
    let inside : i < length us = omega (arith, c.requires.within) in
    λ before after may more.
    let wider = untouched-wider (lacks 1) (sizes_of us) before after more in
    let none_left : vec_len w.items ≡ vec_capacity w.items → c.left_in.result ≡ 0 =
    λ full. elim c.make_room-grew.ensures.widened [
      | inl kept ↦ omega (arith, c.left_in.ensures.own kept.0, c.free_places.ensures, full)
      | inr grew ↦ c.left_in.ensures.blank grew.0
    ] in
    elim (cases_eq (vec_len w.items) (vec_capacity w.items)) [
      | inl full ↦ omega (arith, wider, untouched_in-at us i u read w inside refl (lacks 1) after (may (none_left full)))
      | inr ne ↦
          let none = lacks-no 1 (list_size w) (omega (arith, ne, c.make_room-grew.ensures.room, c.insert.ensures.len, c.insert.ensures.capacity)) in
          omega (arith, wider, untouched_in-set us i u read w inside refl (lacks 1) after 0 (omega (arith, none)))
    ]

pub returns-clause-free : goal.returns-clause-free
returns-clause-free g c =
    let read = c.index-groups-bucket.result in
    let us = c.args.groups.now in
    let i = c.args.bucket / 64 in
    let u = get_or us i read in
    let w = c.insert.new.self in
    let inside : i < length us = omega (arith, c.requires.within) in
    let within : i < length (set us i w) = omega (arith, length-set us i w, inside) in
    let is = sym (get_or-set_same us i w read inside) in
    let len = len_at (set us i w) i w read w within is in
    let room = room_at (set us i w) i w read w within is in
    let before = room_at us i u read u inside refl in
    let lt : c.args.bucket % 64 < 64 = omega arith in
    let below = free_below_64 u (c.args.bucket % 64) lt (sym (slot_of_bucket us c.args.bucket u read c.requires.within refl) ∙ c.requires.free) in
    record {
      own = λ same. elim c.make_room-grew.ensures.widened [
        | inl kept ↦ omega (arith, len, room, c.left_in.ensures.own kept.0, c.free_places.ensures, c.make_room-grew.ensures.room, c.make_room-grew.ensures.len, c.insert.ensures.len, c.insert.ensures.capacity)
        | inr grew ↦ absurd (omega (arith, same, room, before, c.insert.ensures.capacity, grew.1, grew.2, below))
      ];
      other = λ another. elim c.make_room-grew.ensures.widened [
        | inl kept ↦ absurd (another (omega (arith, room, before, c.insert.ensures.capacity, kept.1)))
        | inr grew ↦ c.left_in.ensures.blank grew.0
      ];
    }
