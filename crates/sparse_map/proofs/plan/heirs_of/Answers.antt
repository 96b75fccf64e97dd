use Rattle.std.proofs.Common.{◌≡◌, ℕ, ◌+◌, ◌-◌, ◌/◌, ◌++◌, ◌∷◌, ◌*◌, ◌<◌, [], Option, Some, None, List, true, false, length, get_or, sym, ap, ◌∙◌, subst, arith}
use Rattle.std.specs.Prelude.{IfSome}
use Rattle.std.proofs.lemmas.List.{length-append, get_or_append_left, get_or-append_right}
use Rattle.sparse_map.specs.Plan.{rooms_of}
use Rattle.sparse_map.specs.Heirs.{IsFit, GetsMore, IsChosen, IsPassedOver, brought, all_brought}
use Rattle.sparse_map.proofs.PlanLemmas.{room_at}
use Rattle.sparse_map.proofs.HeirLemmas.{heirs_push}
use Rattle.sparse_map.proofs.RoomsLemmas.{brought_none, brought_more, brought_same, kept_push}
use Rattle.sparse_map.proofs.plan.heirs_of.Goals as goal

pub loop-source-init : goal.loop-source-init
loop-source-init g c =
    let none = c.in_ok-heirs.ensures.items in
    record {
      level = ap length none;
      room = c.in_ok-heirs.ensures.exact;
      heirs = λ s q is. absurd (let wrong : None ≡ Some q = sym (ap (λ (hs : List (Option ℕ)). get_or hs s None) none) ∙ is in cc);
      few = omega (arith, brought_none (rooms_of c.args.groups.now) c.args.counts.now c.in_ok-heirs.heirs.items);
      kept = λ s past none. absurd (let wrong : ⊥ = omega (arith, past) in wrong);
    }

pub loop-source-preserved : goal.loop-source-preserved
loop-source-preserved g c =
    let us = c.args.groups.now in
    let counts = c.args.counts.now in
    let noted = c.args.clear.now in
    let i = c.loop-source.source in
    let u = c.index-groups-source.result in
    let h = c.heir_of-heir.result in
    let hs = c.loop-source.heirs.items in
    let before = c.loop-source.invariant in
    let said = c.heir_of-heir.ensures in
    let places = c.capacity-places.result in
    let room = room_at us i u u u c.loop-source-test.true c.index-groups-source.is in
    let here_room : get_or (rooms_of us) i 0 ≡ places = room ∙ sym c.capacity-places.ensures in
    let new : (q : ℕ) → h ≡ Some q → IsChosen (rooms_of us) counts noted i q = λ q e.
    let fit = subst (λ r. IfSome r (λ k. IsFit places (get_or counts k 0))) e said.fits in
    record {
      more = subst (λ r. IfSome r (λ k. GetsMore counts i k)) e said.more;
      clear = subst (λ r. IfSome r (λ k. get_or noted k false ≡ true)) e said.clear;
      fits = omega (arith, fit, room, c.capacity-places.ensures);
    } in
    record {
      level = omega (arith, ap length c.push_reserved.ensures.items, length-append hs (h ∷ []), before.level);
      room = c.push_reserved.ensures.capacity ∙ before.room;
      heirs = λ s q is. heirs_push (rooms_of us) counts noted hs h i before.level new before.heirs s q (sym (ap (λ (r : List (Option ℕ)). get_or r s None) c.push_reserved.ensures.items) ∙ is);
      few =
          let rooms = rooms_of us in
          let news = hs ++ h ∷ [] in
          let read = ap (λ (r : List (Option ℕ)). all_brought rooms counts r (i + 1)) c.push_reserved.ensures.items in
          let below : all_brought rooms counts news i ≡ all_brought rooms counts hs i = brought_same rooms counts news hs i (λ s lt. get_or_append_left hs (h ∷ []) None s (omega (arith, lt, before.level))) in
          let last : get_or news i None ≡ h = get_or-append_right hs (h ∷ []) i i None before.level (omega arith) ∙ ap (λ k. get_or (h ∷ []) k None) (let none : i - i ≡ 0 = omega arith in none) in
          let here : brought counts (get_or news i None) (get_or rooms i 0) ≡ brought counts h places = λ j. brought counts (last j) (here_room j) in
          omega (arith, read, below, brought_more rooms counts news i, here, c.brought-left.ensures, said.few, before.few);
      kept =
          let rooms = rooms_of us in
          let most = 8 * (length counts / 2) in
          let left : c.loop-source.left ≡ most - all_brought rooms counts hs i = omega (arith, before.few) in
          let passed : h ≡ None → IsPassedOver counts noted i (get_or rooms i 0) (most - all_brought rooms counts hs i) = λ none.
          subst (λ p. IsPassedOver counts noted i p (most - all_brought rooms counts hs i)) (sym here_room) (subst (λ l. IsPassedOver counts noted i places l) left (said.kept none)) in
          subst (λ r. (s : ℕ) → s < i + 1 → get_or r s None ≡ None → IsPassedOver counts noted s (get_or rooms s 0) (most - all_brought rooms counts r s)) (sym c.push_reserved.ensures.items)
          (kept_push rooms counts noted hs h i most before.level passed before.kept);
    }

pub brought-left-requires : goal.brought-left-requires
brought-left-requires g c = c.heir_of-heir.ensures.inside
