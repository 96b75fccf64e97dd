use Rattle.std.proofs.Common.{◌≡◌, ◌+◌, ◌<◌, ◌++◌, ◌^◌, length, get_or, refl, sym, ap, ◌∙◌, subst, arith}
use Rattle.std.specs.Prelude.{IfSome}
use Rattle.std.specs.Vec.{vec_len, vec_capacity}
use Rattle.std.specs.Vec.Iter.{into_iter_items}
use Rattle.sparse_map.specs.Moved.{items_in, CanTake, HasTaken}
use Rattle.sparse_map.specs.Plan.{with_items, lens_of, rooms_of, plan_of, RoomsFit}
use Rattle.sparse_map.proofs.HandedOn.{handed_on}
use Rattle.sparse_map.proofs.RankLemmas.{ones_at_most_64}
use Rattle.sparse_map.proofs.TakingLemmas.{Taking, taking_none, taking_all, nothing}
use Rattle.sparse_map.proofs.HeirLemmas.{fit_each}
use Rattle.sparse_map.proofs.TurnLemmas.{AtTurn, made_few, turn_last, turn_inside, turn_heir_inside, turn_heir_clear, turn_ready, turn_has_room, turn_next}
use Rattle.sparse_map.proofs.moving.place_groups.Goals as goal
use Rattle.sparse_map.proofs.moving.place_groups.Goals.{in-Some-heirs, in-None-heirs}

pub loop-group-init : goal.loop-group-init
loop-group-init g c =
    let n = 2 ^ c.args.bits in
    let us = c.args.groups.now in
    let gives = c.into_iter-group-iterator.ensures.into_iter_gives.0 in
    record {
      turn = record {
        taking = subst (λ r. Taking n us (items_in c.args.old.items) us (items_in r)) (sym gives) (taking_none n us (items_in c.args.old.items) c.requires.ready);
        left = gives;
        plan = refl;
        rooms = c.requires.lists.rooms;
        within = omega arith;
        loose = made_few us (with_items n (plan_of n us) (items_in c.args.old.items)).counts c.requires.lists.made (rooms_of c.args.old.items) c.args.heirs.now;
        places = omega arith;
        short = omega arith;
      };
      none = c.requires.held;
      room = c.requires.room;
    }

pub emptied-list-requires : goal.emptied-list-requires
emptied-list-requires g c =
    let u = c.in-Some.group in
    omega (arith, ones_at_most_64 u.occupied u.fits, u.counted, u.items.ok.0, c.loop-group.invariant.none, c.loop-group.invariant.room)

pub bounds-heirs-source : goal.bounds-heirs-source
bounds-heirs-source g c =
    let inside = turn_inside (2 ^ c.args.bits) c.args.groups.now c.args.old.items c.args.heirs.now c.requires.lists c.loop-group.source c.loop-group.groups
    (into_iter_items c.loop-group.group-iterator) (into_iter_items c.next.new.self) c.in-Some.group c.loop-group.invariant.turn c.in-Some.ensures.steps.0 in
    omega (arith, inside, c.requires.lists.handed.level)

pub hand_on-requires-clause-inside : goal.hand_on-requires-clause-inside
hand_on-requires-clause-inside g c =
    subst (λ h. IfSome h (λ q. q < length c.loop-group.groups)) c.in-Some-heirs.is
    (turn_heir_inside (2 ^ c.args.bits) c.args.groups.now c.args.old.items c.args.heirs.now c.requires.lists c.loop-group.source c.loop-group.groups
    (into_iter_items c.loop-group.group-iterator) (into_iter_items c.next.new.self) c.in-Some.group c.loop-group.invariant.turn c.in-Some.ensures.steps.0 c.loop-group.auto.groups)

pub hand_on-requires-clause-clear : goal.hand_on-requires-clause-clear
hand_on-requires-clause-clear g c =
    subst (λ h. IfSome h (λ q. get_or (lens_of c.loop-group.groups) q 0 ≡ 0)) c.in-Some-heirs.is
    (turn_heir_clear (2 ^ c.args.bits) c.args.groups.now c.args.old.items c.args.heirs.now c.requires.lists c.loop-group.source c.loop-group.groups
    (into_iter_items c.loop-group.group-iterator) (into_iter_items c.next.new.self) c.in-Some.group c.loop-group.invariant.turn c.in-Some.ensures.steps.0)

pub place_items-requires-clause-ready : goal.place_items-requires-clause-ready
place_items-requires-clause-ready g c =
    let n = 2 ^ c.args.bits in
    let mid = c.hand_on.new.groups in
    let u = c.in-Some.group in
    let none = nothing c.loop-group.held.items (omega (arith, c.loop-group.invariant.none, c.loop-group.held.ok.0)) in
    let held : c.emptied-list.new.held.items ≡ u.items.items = c.emptied-list.ensures.items ∙ ap (λ r. r ++ u.items.items) none in
    let places = vec_capacity c.emptied-list.result in
    let rooms = c.hand_on.ensures.rooms ∙ ap (λ h. handed_on h places (rooms_of c.loop-group.groups)) (sym c.in-Some-heirs.is) in
    subst (λ es. CanTake n mid es) (sym held)
    (turn_ready (2 ^ c.args.bits) c.args.groups.now c.args.old.items c.args.heirs.now c.requires.lists c.loop-group.source c.loop-group.groups
    (into_iter_items c.loop-group.group-iterator) (into_iter_items c.next.new.self) c.in-Some.group c.loop-group.invariant.turn c.in-Some.ensures.steps.0
    mid places c.hand_on.ensures.slots c.hand_on.ensures.lens rooms c.emptied-list.ensures.capacity)

pub place_items-requires-clause-fits : goal.place_items-requires-clause-fits
place_items-requires-clause-fits g c =
    let n = 2 ^ c.args.bits in
    let mid = c.hand_on.new.groups in
    let u = c.in-Some.group in
    let none = nothing c.loop-group.held.items (omega (arith, c.loop-group.invariant.none, c.loop-group.held.ok.0)) in
    let held : c.emptied-list.new.held.items ≡ u.items.items = c.emptied-list.ensures.items ∙ ap (λ r. r ++ u.items.items) none in
    let places = vec_capacity c.emptied-list.result in
    let rooms = c.hand_on.ensures.rooms ∙ ap (λ h. handed_on h places (rooms_of c.loop-group.groups)) (sym c.in-Some-heirs.is) in
    subst (λ es. RoomsFit (rooms_of mid) (with_items n (plan_of n mid) es).counts) (sym held)
    (turn_has_room (2 ^ c.args.bits) c.args.groups.now c.args.old.items c.args.heirs.now c.requires.lists c.loop-group.source c.loop-group.groups
    (into_iter_items c.loop-group.group-iterator) (into_iter_items c.next.new.self) c.in-Some.group c.loop-group.invariant.turn c.in-Some.ensures.steps.0
    mid places c.hand_on.ensures.slots c.hand_on.ensures.lens rooms c.emptied-list.ensures.capacity)

pub place_list-requires-clause-ready : goal.place_list-requires-clause-ready
place_list-requires-clause-ready g c =
    let now = c.loop-group.groups in
    let places = vec_capacity c.in-Some.group.items in
    turn_ready (2 ^ c.args.bits) c.args.groups.now c.args.old.items c.args.heirs.now c.requires.lists c.loop-group.source c.loop-group.groups
    (into_iter_items c.loop-group.group-iterator) (into_iter_items c.next.new.self) c.in-Some.group c.loop-group.invariant.turn c.in-Some.ensures.steps.0
    now places refl refl (ap (λ h. handed_on h places (rooms_of now)) (sym c.in-None-heirs.is)) refl

pub place_list-requires-clause-fits : goal.place_list-requires-clause-fits
place_list-requires-clause-fits g c =
    let now = c.loop-group.groups in
    let places = vec_capacity c.in-Some.group.items in
    turn_has_room (2 ^ c.args.bits) c.args.groups.now c.args.old.items c.args.heirs.now c.requires.lists c.loop-group.source c.loop-group.groups
    (into_iter_items c.loop-group.group-iterator) (into_iter_items c.next.new.self) c.in-Some.group c.loop-group.invariant.turn c.in-Some.ensures.steps.0
    now places refl refl (ap (λ h. handed_on h places (rooms_of now)) (sym c.in-None-heirs.is)) refl

pub loop-group-preserved : goal.loop-group-preserved
loop-group-preserved g c =
    let n = 2 ^ c.args.bits in
    let us = c.args.groups.now in
    let now = c.loop-group.groups in
    let u = c.in-Some.group in
    let later = into_iter_items c.next.new.self in
    elim c.match-heirs-source.branch [
      | in-Some-heirs w ↦
          let mid = w.hand_on.new.groups in
          let none = nothing c.loop-group.held.items (omega (arith, c.loop-group.invariant.none, c.loop-group.held.ok.0)) in
          let held : w.emptied-list.new.held.items ≡ u.items.items = w.emptied-list.ensures.items ∙ ap (λ r. r ++ u.items.items) none in
          let places = vec_capacity w.emptied-list.result in
          let rooms = w.hand_on.ensures.rooms ∙ ap (λ h. handed_on h places (rooms_of now)) (sym w.in-Some-heirs.is) in
          record {
            turn = subst (λ ws. AtTurn n us c.args.old.items c.args.heirs.now (c.loop-group.source + 1) ws later) (sym w.groups-is)
                (turn_next (2 ^ c.args.bits) c.args.groups.now c.args.old.items c.args.heirs.now c.requires.lists c.loop-group.source c.loop-group.groups
                (into_iter_items c.loop-group.group-iterator) (into_iter_items c.next.new.self) c.in-Some.group c.loop-group.invariant.turn c.in-Some.ensures.steps.0
                mid places w.hand_on.ensures.slots w.hand_on.ensures.lens rooms w.emptied-list.ensures.capacity
                w.place_items.new.groups (subst (λ es. HasTaken n mid w.place_items.new.groups es) held w.place_items.ensures.taken)
                w.place_items.ensures.rooms w.place_items.auto.groups);
            none = ap vec_len w.held-is ∙ w.place_items.ensures.none;
            room = omega (arith, ap vec_capacity w.held-is, w.place_items.ensures.capacity, w.emptied-list.ensures.held_capacity, c.loop-group.invariant.room);
          }
      | in-None-heirs w ↦
          let places = vec_capacity u.items in
          record {
            turn = subst (λ ws. AtTurn n us c.args.old.items c.args.heirs.now (c.loop-group.source + 1) ws later) (sym w.groups-is)
                (turn_next (2 ^ c.args.bits) c.args.groups.now c.args.old.items c.args.heirs.now c.requires.lists c.loop-group.source c.loop-group.groups
                (into_iter_items c.loop-group.group-iterator) (into_iter_items c.next.new.self) c.in-Some.group c.loop-group.invariant.turn c.in-Some.ensures.steps.0
                now places refl refl (ap (λ h. handed_on h places (rooms_of now)) (sym w.in-None-heirs.is)) refl
                w.place_list.new.groups w.place_list.ensures.taken w.place_list.ensures.rooms w.place_list.auto.groups);
            none = ap vec_len w.held-is ∙ c.loop-group.invariant.none;
            room = omega (arith, ap vec_capacity w.held-is, c.loop-group.invariant.room);
          }
    ]

pub returns-clause-taken : goal.returns-clause-taken
returns-clause-taken g c =
    let rest = into_iter_items c.loop-group.group-iterator in
    let none = nothing rest (omega (arith, c.in-None.ensures.steps.0, c.loop-group.group-iterator.rest.ok.0)) in
    taking_all (2 ^ c.args.bits) c.args.groups.now (items_in c.args.old.items) c.loop-group.groups (items_in rest) (ap items_in none) c.loop-group.invariant.turn.taking

pub returns-clause-fit : goal.returns-clause-fit
returns-clause-fit g c =
    let start = plan_of (2 ^ c.args.bits) c.args.groups.now in
    let old = c.args.old.items in
    let turn = c.loop-group.invariant.turn in
    let rest = into_iter_items c.loop-group.group-iterator in
    let none = nothing rest (omega (arith, c.in-None.ensures.steps.0, c.loop-group.group-iterator.rest.ok.0)) in
    let last = turn_last (2 ^ c.args.bits) c.args.groups.now old c.args.heirs.now c.requires.lists c.loop-group.source c.loop-group.groups rest turn none in
    fit_each c.loop-group.groups (with_items (2 ^ c.args.bits) start (items_in old)).counts last.lens last.fit

pub returns-clause-few : goal.returns-clause-few
returns-clause-few g c =
    let rest = into_iter_items c.loop-group.group-iterator in
    let none = nothing rest (omega (arith, c.in-None.ensures.steps.0, c.loop-group.group-iterator.rest.ok.0)) in
    let last = turn_last (2 ^ c.args.bits) c.args.groups.now c.args.old.items c.args.heirs.now c.requires.lists c.loop-group.source c.loop-group.groups rest c.loop-group.invariant.turn none in
    last.few c.loop-group.auto.groups

pub returns-clause-more : goal.returns-clause-more
returns-clause-more g c =
    let rest = into_iter_items c.loop-group.group-iterator in
    let none = nothing rest (omega (arith, c.in-None.ensures.steps.0, c.loop-group.group-iterator.rest.ok.0)) in
    let last = turn_last (2 ^ c.args.bits) c.args.groups.now c.args.old.items c.args.heirs.now c.requires.lists c.loop-group.source c.loop-group.groups rest c.loop-group.invariant.turn none in
    last.more c.loop-group.auto.groups

pub returns-clause-short : goal.returns-clause-short
returns-clause-short g c =
    let rest = into_iter_items c.loop-group.group-iterator in
    let none = nothing rest (omega (arith, c.in-None.ensures.steps.0, c.loop-group.group-iterator.rest.ok.0)) in
    let last = turn_last (2 ^ c.args.bits) c.args.groups.now c.args.old.items c.args.heirs.now c.requires.lists c.loop-group.source c.loop-group.groups rest c.loop-group.invariant.turn none in
    last.short c.loop-group.auto.groups

pub returns-clause-handed : goal.returns-clause-handed
returns-clause-handed g c =
    let rest = into_iter_items c.loop-group.group-iterator in
    let none = nothing rest (omega (arith, c.in-None.ensures.steps.0, c.loop-group.group-iterator.rest.ok.0)) in
    let last = turn_last (2 ^ c.args.bits) c.args.groups.now c.args.old.items c.args.heirs.now c.requires.lists c.loop-group.source c.loop-group.groups rest c.loop-group.invariant.turn none in
    last.handed c.loop-group.auto.groups
