use Rattle.std.proofs.Common.{◌≢◌, ◌<◌, ◌*◌, ◌/◌, ◌%◌, Some, None, refl, sym, ap, ◌∙◌, subst, get_or, set, length, arith}
use Rattle.std.specs.Prelude.{IsSome}
use Rattle.std.proofs.lemmas.List.{length-set, get_or-set_same, get_or-set_other}
use Rattle.sparse_map.specs.declared.group.Group.{Group}
use Rattle.sparse_map.specs.Slots.{rank, slot_at}
use Rattle.sparse_map.specs.Groups.{all_slots}
use Rattle.sparse_map.proofs.TableLemmas.{length-all_slots, slot_of_bucket, set_bucket, set_both}
use Rattle.sparse_map.proofs.PlacesLemmas.{sizes-same, sizes-back}
use Rattle.sparse_map.proofs.table.exchange_across.Goals as goal

pub remove-first-requires-clause-occupied : goal.remove-first-requires-clause-occupied
remove-first-requires-clause-occupied g c =
    let read = c.index-groups-a.result in
    let us = c.args.groups.now in
    subst (λ o. IsSome o) (slot_of_bucket us c.args.a (get_or us (c.args.a / 64) read) read c.requires.a.within refl) c.requires.a.occupied

pub replace-second-requires-clause-occupied : goal.replace-second-requires-clause-occupied
replace-second-requires-clause-occupied g c =
    let us = c.args.groups.now in
    let read = c.index-groups-a.result in
    let vs = set us (c.args.a / 64) c.remove-first.new.self in
    let other = c.index-groups-b.result in
    let freed = set_bucket us c.args.a (get_or us (c.args.a / 64) read) read c.requires.a.within refl c.remove-first.new.self None c.remove-first.ensures.slots in
    let swapped : c.args.b ≢ c.args.a = λ e. c.requires.apart (ap (λ x. x / 64) (sym e)) in
    let still = ap (λ l. slot_at l c.args.b) freed ∙ get_or-set_other (all_slots us) c.args.a c.args.b None None swapped in
    let inside : c.args.b < 64 * length vs = omega (arith, length-set us (c.args.a / 64) c.remove-first.new.self, c.requires.b.within) in
    subst (λ o. IsSome o) (sym still ∙ slot_of_bucket vs c.args.b (get_or vs (c.args.b / 64) other) other inside refl) c.requires.b.occupied

pub insert-requires-clause-free : goal.insert-requires-clause-free
insert-requires-clause-free g c =
    let us = c.args.groups.now in
    let read = c.index-groups-a.result in
    let vs = set us (c.args.a / 64) c.remove-first.new.self in
    let other = c.index-groups-b.result in
    let ws = set vs (c.args.b / 64) c.replace-second.new.self in
    let again = c.index-groups-a-2.result in
    let long = length-set us (c.args.a / 64) c.remove-first.new.self in
    let longer = length-set vs (c.args.b / 64) c.replace-second.new.self in
    let b_inside : c.args.b < 64 * length vs = omega (arith, c.requires.b.within) in
    let a_inside : c.args.a < 64 * length ws = omega (arith, c.requires.a.within) in
    let a_slot : c.args.a < length (all_slots us) = omega (arith, length-all_slots us, c.requires.a.within) in
    let freed = set_bucket us c.args.a (get_or us (c.args.a / 64) read) read c.requires.a.within refl c.remove-first.new.self None c.remove-first.ensures.slots in
    let moved = set_bucket vs c.args.b (get_or vs (c.args.b / 64) other) other b_inside refl c.replace-second.new.self (Some c.remove-first.result) c.replace-second.ensures.slots in
    sym (slot_of_bucket ws c.args.a (get_or ws (c.args.a / 64) again) again a_inside refl)
    ∙ ap (λ l. slot_at l c.args.a) moved
    ∙ get_or-set_other (all_slots vs) c.args.b c.args.a (Some c.remove-first.result) None (λ e. c.requires.apart (ap (λ x. x / 64) e))
    ∙ ap (λ l. slot_at l c.args.a) freed
    ∙ get_or-set_same (all_slots us) c.args.a None None a_slot

pub returns-clause-slots : goal.returns-clause-slots
returns-clause-slots g c =
    let us = c.args.groups.now in
    let read = c.index-groups-a.result in
    let vs = set us (c.args.a / 64) c.remove-first.new.self in
    let other = c.index-groups-b.result in
    let ws = set vs (c.args.b / 64) c.replace-second.new.self in
    let again = c.index-groups-a-2.result in
    let long = length-set us (c.args.a / 64) c.remove-first.new.self in
    let longer = length-set vs (c.args.b / 64) c.replace-second.new.self in
    let b_inside : c.args.b < 64 * length vs = omega (arith, c.requires.b.within) in
    let a_inside : c.args.a < 64 * length ws = omega (arith, c.requires.a.within) in
    let swapped : c.args.b ≢ c.args.a = λ e. c.requires.apart (ap (λ x. x / 64) (sym e)) in
    let freed = set_bucket us c.args.a (get_or us (c.args.a / 64) read) read c.requires.a.within refl c.remove-first.new.self None c.remove-first.ensures.slots in
    let moved = set_bucket vs c.args.b (get_or vs (c.args.b / 64) other) other b_inside refl c.replace-second.new.self (Some c.remove-first.result) c.replace-second.ensures.slots in
    let filled = set_bucket ws c.args.a (get_or ws (c.args.a / 64) again) again a_inside refl c.insert.new.self (Some c.replace-second.result) c.insert.ensures.slots in
    let first = slot_of_bucket us c.args.a (get_or us (c.args.a / 64) read) read c.requires.a.within refl ∙ c.remove-first.ensures.item in
    let still = ap (λ l. slot_at l c.args.b) freed ∙ get_or-set_other (all_slots us) c.args.a c.args.b None None swapped in
    let second = sym still ∙ slot_of_bucket vs c.args.b (get_or vs (c.args.b / 64) other) other b_inside refl ∙ c.replace-second.ensures.item in
    filled
    ∙ ap (λ l. set l c.args.a (Some c.replace-second.result)) (moved ∙ ap (λ l. set l c.args.b (Some c.remove-first.result)) freed)
    ∙ set_both (all_slots us) c.args.a c.args.b None (Some c.remove-first.result) (Some c.replace-second.result) (λ e. c.requires.apart (ap (λ x. x / 64) e))
    ∙ (λ i. set (set (all_slots us) c.args.a (sym second i)) c.args.b (sym first i))

pub returns-clause-sizes : goal.returns-clause-sizes
returns-clause-sizes g c =
    let us = c.args.groups.now in
    let read = c.index-groups-a.result in
    let u = get_or us (c.args.a / 64) read in
    let v = c.remove-first.new.self in
    let vs = set us (c.args.a / 64) v in
    let other = c.index-groups-b.result in
    let moved = c.replace-second.new.self in
    let ws = set vs (c.args.b / 64) moved in
    let again = c.index-groups-a-2.result in
    let x = get_or ws (c.args.a / 64) again in
    let long = length-set us (c.args.a / 64) v in
    let longer = length-set vs (c.args.b / 64) moved in
    let a_inside = c.requires.a.within in
    let b_inside = c.requires.b.within in
    let between = sizes-same vs (c.args.b / 64) (get_or vs (c.args.b / 64) other) other moved (omega arith) refl c.replace-second.ensures.room c.replace-second.ensures.capacity in
    sizes-back us ws (c.args.a / 64) u read v x again c.insert.new.self (omega arith) refl between (omega arith) refl
    c.remove-first.ensures.len c.remove-first.ensures.capacity c.insert.ensures.len c.insert.ensures.capacity

pub remove-first-requires-clause-place : goal.remove-first-requires-clause-place
remove-first-requires-clause-place g c = c.requires.a.rank c.index-groups-a.result

pub replace-second-requires-clause-place : goal.replace-second-requires-clause-place
replace-second-requires-clause-place g c =
    let us = c.args.groups.now in
    let other = c.index-groups-b.result in
    let apart : c.args.b / 64 ≢ c.args.a / 64 = λ e. c.requires.apart (sym e) in
    c.requires.b.rank other
    ∙ ap (λ (x : Group _). rank x.occupied (c.args.b % 64)) (sym (get_or-set_other us (c.args.a / 64) (c.args.b / 64) c.remove-first.new.self other apart))

pub insert-requires-clause-place : goal.insert-requires-clause-place
insert-requires-clause-place g c =
    let us = c.args.groups.now in
    let v = c.remove-first.new.self in
    let vs = set us (c.args.a / 64) v in
    let again = c.index-groups-a-2.result in
    let inside : c.args.a / 64 < length us = omega (arith, c.requires.a.within) in
    let same = get_or-set_other vs (c.args.b / 64) (c.args.a / 64) c.replace-second.new.self again c.requires.apart ∙ get_or-set_same us (c.args.a / 64) v again inside in
    c.requires.a.rank c.index-groups-a.result ∙ sym c.remove-first.ensures.rank ∙ ap (λ (x : Group _). rank x.occupied (c.args.a % 64)) (sym same)
