use Rattle.std.proofs.Common.{◌≡◌, arith, ◌+◌, ◌/◌, ◌⊎◌, ◌∷◌, [], ◌++◌, Some, None, length, get_or, sym, ap, ◌∙◌, subst}
use Rattle.std.specs.Vec.{vec_len, vec_capacity}
use Rattle.std.proofs.lemmas.List.{map_push, length-map, replicate_more}
use Rattle.sparse_map.specs.declared.group.Group.{Group}
use Rattle.sparse_map.specs.Slots.{slot_at}
use Rattle.sparse_map.specs.Groups.{all_slots}
use Rattle.sparse_map.specs.Plan.{lens_of, rooms_of}
use Rattle.sparse_map.specs.Heirs.{IsFit}
use Rattle.sparse_map.proofs.MoveLemmas.{all_slots-free_none, all_slots-free_more}
use Rattle.sparse_map.proofs.HeirLemmas.{rooms_same, rooms_none, rooms_push, bare_push, bare_same, few_push, few_same}
use Rattle.sparse_map.proofs.moving.groups_for.Goals as goal

pub loop-q-init : goal.loop-q-init
loop-q-init g c =
    let none = c.in_ok-groups.ensures.items in
    record {
      count = c.in_ok-groups.ensures.len;
      room = c.in_ok-groups.ensures.exact;
      free = all_slots-free_none c.in_ok-groups.groups.items none;
      lens = ap lens_of none;
      rooms = rooms_none (rooms_of c.in_ok-groups.groups.items) c.args.counts.now c.args.heirs.now (ap rooms_of none);
      bare = λ q heir. ap (λ us. get_or (rooms_of us) q 0) none;
      few = λ q. omega (arith, ap (λ us. get_or (rooms_of us) q 0) none);
    }

pub loop-q-preserved : goal.loop-q-preserved
loop-q-preserved g c =
    let us = c.loop-q.groups.items in
    let u = c.in_ok-group.group in
    let i = c.loop-q.q in
    let counts = c.args.counts.now in
    let heirs = c.args.heirs.now in
    let before = c.loop-q.invariant in
    let room : IsFit (vec_capacity u.items) (get_or counts i 0) ⊎ (get_or heirs (i / 2) None ≡ Some i) =
    subst (λ r. IsFit r (get_or counts i 0) ⊎ (get_or heirs (i / 2) None ≡ Some i)) (sym c.in_ok-group.ensures.places) c.places_for.ensures.fit in
    record {
      count = c.push_reserved.ensures.len ∙ ap (λ n. n + 1) before.count;
      room = c.push_reserved.ensures.capacity ∙ before.room;
      free = λ b. ap (λ us. slot_at (all_slots us) b) c.push_reserved.ensures.items ∙ all_slots-free_more us u before.free c.in_ok-group.ensures.slots b;
      lens =
          ap lens_of c.push_reserved.ensures.items
          ∙ map_push (λ (g : Group _). vec_len g.items) us u
          ∙ (λ j. before.lens j ++ c.in_ok-group.ensures.len j ∷ [])
          ∙ replicate_more i 0;
      rooms =
          let long : length (rooms_of us) ≡ i = length-map us (λ (g : Group _). vec_capacity g.items) ∙ sym c.loop-q.groups.ok.0 ∙ before.count in
          let more = ap rooms_of c.push_reserved.ensures.items ∙ map_push (λ (g : Group _). vec_capacity g.items) us u in
          rooms_same _ _ counts heirs more (rooms_push (rooms_of us) counts heirs (vec_capacity u.items) i long room before.rooms);
      bare =
          let long : length (rooms_of us) ≡ i = length-map us (λ (g : Group _). vec_capacity g.items) ∙ sym c.loop-q.groups.ok.0 ∙ before.count in
          let more = ap rooms_of c.push_reserved.ensures.items ∙ map_push (λ (g : Group _). vec_capacity g.items) us u in
          bare_same _ _ heirs more (bare_push (rooms_of us) heirs (vec_capacity u.items) i long (λ heir. c.in_ok-group.ensures.places ∙ c.places_for.ensures.none heir) before.bare);
      few =
          let long : length (rooms_of us) ≡ i = length-map us (λ (g : Group _). vec_capacity g.items) ∙ sym c.loop-q.groups.ok.0 ∙ before.count in
          let more = ap rooms_of c.push_reserved.ensures.items ∙ map_push (λ (g : Group _). vec_capacity g.items) us u in
          few_same _ _ counts more (few_push (rooms_of us) counts (vec_capacity u.items) i long (omega (arith, c.in_ok-group.ensures.places, c.places_for.ensures.few)) before.few);
    }
