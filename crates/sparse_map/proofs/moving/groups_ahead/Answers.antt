use Rattle.std.proofs.Common.{◌≡◌, ℕ, ◌≤◌, ◌+◌, get_or, ◌*◌, ◌/◌, ◌^◌, false, length, map, sym, ap, ◌∙◌, subst, arith}
use Rattle.std.specs.Prelude.{replicate, is_some}
use Rattle.sparse_map.specs.Groups.{slots_of, lists_for}
use Rattle.sparse_map.specs.Plan.{Plan, planned, with_items, blank_plan, plan_of, lens_of, rooms_of}
use Rattle.sparse_map.specs.Moved.{items_in}
use Rattle.sparse_map.specs.Heirs.{all_brought, HeirsAreBare, AreRooms, AreHeirs}
use Rattle.sparse_map.proofs.HomeLemmas.{sized, sized_long}
use Rattle.sparse_map.proofs.BucketLemmas.{length-slots_of, same_slot}
use Rattle.sparse_map.proofs.PlanLemmas.{no_marks}
use Rattle.sparse_map.proofs.moving.groups_ahead.Goals as goal

pub returns-clause-count : goal.returns-clause-count
returns-clause-count g c = omega (arith, c.in_ok-groups.ensures.count, ap length c.as_slice.ensures.value, c.in_ok-ahead.ensures.len)

pub returns-clause-lists : goal.returns-clause-lists
returns-clause-lists g c =
    let n = 2 ^ c.args.bits in
    let us = c.in_ok-groups.groups.items in
    let gs = items_in c.args.groups.now in
    let read = c.as_slice.ensures.value in
    let ahead = c.in_ok-ahead.ensures in
    let free = c.in_ok-groups.ensures.free in
    let count : length us ≡ lists_for n = omega (arith, c.in_ok-groups.ensures.count, c.in_ok-groups.groups.ok.0, ap length read, ahead.len) in
    let half : length c.as_slice.result.now ≡ lists_for n = omega (arith, ap length read, ahead.len) in
    let long : length (slots_of n us) ≡ n = length-slots_of n us (omega (arith, sized_long n (sized c.args.bits c.requires.size), count)) in
    let marks : map is_some (slots_of n us) ≡ replicate n false =
    no_marks (slots_of n us) (λ b. same_slot n us (λ k past. free k) b ∙ free b) ∙ ap (λ k. replicate k false) long in
    let lens : lens_of us ≡ replicate (lists_for n) 0 = c.in_ok-groups.ensures.lens ∙ ap (λ k. replicate k 0) half in
    let blank : plan_of n us ≡ blank_plan n = λ j. planned (marks j) (lens j) in
    let counts : c.as_slice.result.now ≡ (with_items n (plan_of n us) gs).counts = read ∙ ahead.counts ∙ ap (λ (p : Plan). (with_items n p gs).counts) (sym blank) in
    let hs = c.as_slice-2.ensures.value in
    record {
      handed = subst (λ p. AreHeirs n p c.args.groups.now c.in_ok-ahead.ahead.heirs.items) (sym blank) ahead.heirs;
      rooms = subst (λ h. AreRooms (rooms_of us) (with_items n (plan_of n us) gs).counts h 0) hs
          (subst (λ l. AreRooms (rooms_of us) l c.as_slice-2.result.now 0) counts c.in_ok-groups.ensures.rooms);
      made = subst (λ l. (q : ℕ) → get_or (rooms_of us) q 0 ≤ get_or l q 0 + 1) counts c.in_ok-groups.ensures.few;
      few =
          let all : c.in_ok-ahead.ahead.counts.items ≡ (with_items n (plan_of n us) gs).counts = sym read ∙ counts in
          subst (λ l. all_brought (rooms_of c.args.groups.now) l c.in_ok-ahead.ahead.heirs.items (length c.args.groups.now) ≤ 8 * (length us / 2)) all
          (omega (arith, ahead.few, ap (λ k. k / 2) count));
    }

pub returns-clause-bare : goal.returns-clause-bare
returns-clause-bare g c = subst (λ h. HeirsAreBare (rooms_of c.in_ok-groups.groups.items) h) c.as_slice-2.ensures.value c.in_ok-groups.ensures.bare
