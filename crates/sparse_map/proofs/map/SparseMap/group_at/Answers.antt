use Rattle.std.proofs.Common.{◌≡◌, ℕ, ◌+◌, ◌*◌, ◌/◌, ◌%◌, ◌<◌, ◌≤◌, length, ap, sym, ◌∙◌, arith}
use Rattle.sparse_map.specs.Home.{buckets_for}
use Rattle.sparse_map.specs.Slots.{slot_at, items_of}
use Rattle.sparse_map.specs.Groups.{slots_in, all_slots}
use Rattle.sparse_map.proofs.TableLemmas.{length-slots_in, slot_in_group}
use Rattle.sparse_map.proofs.BucketLemmas.{slot_below, same_group_slots}
use Rattle.sparse_map.proofs.ViewLemmas.{seen_buckets, seen_lists, seen_halves, seen_slots, seen_sound}
use Rattle.sparse_map.proofs.map.SparseMap.group_at.Goals as goal

pub index-requires : goal.index-requires
index-requires g c =
    let m = c.self.inside in
    let t = c.args.self.now in
    omega (arith, seen_buckets m t c.self.invariant.table c.self.view_is, seen_halves m t c.self.invariant.table c.self.view_is, seen_lists m t c.self.invariant.table c.self.view_is, c.requires)

pub returns-clause-placed : goal.returns-clause-placed
returns-clause-placed g c =
    let m = c.self.inside in
    let t = c.args.self.now in
    let us = m.groups.items in
    let u = c.index.result.now in
    let i = c.args.i in
    let n = buckets_for m.bits in
    let seen = seen_buckets m t c.self.invariant.table c.self.view_is in
    let half = seen_halves m t c.self.invariant.table c.self.view_is in
    let inside : i / 2 < length us = omega (arith, seen, half, seen_lists m t c.self.invariant.table c.self.view_is, c.requires, m.groups.ok.0) in
    λ k lt.
    let low : 32 * (i % 2) + k < 64 = omega arith in
    let at : 64 * (i / 2) + (32 * (i % 2) + k) ≡ 32 * i + k = omega arith in
    let within : 32 * i + k < n = omega (arith, seen, half, c.requires, lt) in
    c.half.ensures.placed k lt
    ∙ sym (slot_in_group us (i / 2) (32 * (i % 2) + k) u u inside low c.index.ensures)
    ∙ ap (slot_at (all_slots us)) at
    ∙ sym (slot_below n us (32 * i + k) within)
    ∙ ap (λ s. slot_at s (32 * i + k)) (seen_slots m t c.self.invariant.table c.self.view_is)

pub returns-clause-items : goal.returns-clause-items
returns-clause-items g c =
    let m = c.self.inside in
    let t = c.args.self.now in
    let us = m.groups.items in
    let u = c.index.result.now in
    let i = c.args.i in
    let n = buckets_for m.bits in
    let seen = seen_buckets m t c.self.invariant.table c.self.view_is in
    let half = seen_halves m t c.self.invariant.table c.self.view_is in
    let inside : i / 2 < length us = omega (arith, seen, half, seen_lists m t c.self.invariant.table c.self.view_is, c.requires, m.groups.ok.0) in
    let long : 32 * (i % 2) + 32 ≤ length (slots_in u) = omega (arith, length-slots_in u) in
    let far : 32 * i + 32 ≤ length t.slots = omega (arith, seen, half, c.requires) in
    let same : (k : ℕ) → k < 32 → slot_at (slots_in u) (32 * (i % 2) + k) ≡ slot_at t.slots (32 * i + k) = λ k lt.
    let low : 32 * (i % 2) + k < 64 = omega arith in
    let at : 64 * (i / 2) + (32 * (i % 2) + k) ≡ 32 * i + k = omega arith in
    let within : 32 * i + k < n = omega (arith, seen, half, c.requires, lt) in
    sym (slot_in_group us (i / 2) (32 * (i % 2) + k) u u inside low c.index.ensures)
    ∙ ap (slot_at (all_slots us)) at
    ∙ sym (slot_below n us (32 * i + k) within)
    ∙ ap (λ s. slot_at s (32 * i + k)) (seen_slots m t c.self.invariant.table c.self.view_is) in
    c.half.ensures.items ∙ ap items_of (same_group_slots (slots_in u) t.slots (i % 2) i long far same)

pub returns-clause-sound : goal.returns-clause-sound
returns-clause-sound g c = seen_sound c.self.inside c.args.self.now c.self.invariant.table c.self.view_is
