use Rattle.std.proofs.Common.{get_or, set, refl, ap, ◌∙◌}
use Rattle.std.specs.Vec.{vec_capacity}
use Rattle.std.proofs.lemmas.List.{map-set}
use Rattle.sparse_map.specs.declared.group.Group.{Group}
use Rattle.sparse_map.specs.Plan.{rooms_of}
use Rattle.sparse_map.proofs.TableLemmas.{all_slots-set_same}
use Rattle.sparse_map.proofs.PlanLemmas.{lens_of-set_same}
use Rattle.sparse_map.proofs.moving.hand_on.Goals as goal

pub returns-clause-slots : goal.returns-clause-slots
returns-clause-slots g c =
    let us = c.args.groups.now in
    let read = c.index-groups-heir.result in
    all_slots-set_same us c.args.heir (get_or us c.args.heir read) read c.take_list.new.self c.requires.inside refl c.take_list.ensures.slots

pub returns-clause-lens : goal.returns-clause-lens
returns-clause-lens g c =
    let us = c.args.groups.now in
    let read = c.index-groups-heir.result in
    lens_of-set_same us c.args.heir (get_or us c.args.heir read) read c.take_list.new.self c.requires.inside refl c.take_list.ensures.len

pub returns-clause-rooms : goal.returns-clause-rooms
returns-clause-rooms g c =
    let us = c.args.groups.now in
    map-set (λ (g : Group _). vec_capacity g.items) us c.args.heir c.take_list.new.self
    ∙ ap (set (rooms_of us) c.args.heir) c.take_list.ensures.capacity
