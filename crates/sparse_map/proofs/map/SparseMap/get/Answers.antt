use Rattle.std.proofs.Common.{◌≡◌, ◌≢◌, ℕ, Some, ap, sym, ◌∙◌, subst}
use Rattle.std.specs.Prelude.{option_copied, option_map}
use Rattle.std.specs.Vec.{vec_len}
use Rattle.sparse_map.specs.Slots.{slot_at, key_at}
use Rattle.sparse_map.specs.Home.{buckets_for}
use Rattle.sparse_map.specs.Groups.{slots_of}
use Rattle.sparse_map.proofs.SlotLemmas.{not_found, found_where, slot_of_key}
use Rattle.sparse_map.proofs.MapLemmas.{get-map_of, kept_free_bucket}
use Rattle.sparse_map.proofs.BucketLemmas.{slot_below, key_below}
use Rattle.sparse_map.proofs.ViewLemmas.{seen_slots, seen_sound}
use Rattle.sparse_map.proofs.RankedLemmas.{seated}
use Rattle.sparse_map.proofs.map.SparseMap.get.Goals as goal

pub returns-in_err-seat : goal.returns-in_err-seat
returns-in_err-seat g c =
    let m = c.self.inside in
    let slots = ap (slots_of (buckets_for m.bits)) c.as_slice-groups.ensures.value ∙ seen_slots m c.args.self.now c.self.invariant.table c.self.view_is in
    let absent : (b : ℕ) → key_at c.args.self.now.slots b ≢ Some c.args.key = subst (λ s. (b : ℕ) → key_at s b ≢ Some c.args.key) slots c.in_err-seat.ensures.found in
    ap option_copied c.from_residual.ensures
    ∙ sym (get-map_of c.args.self.now c.args.key ∙ not_found c.args.self.now.slots c.args.key absent)

pub returns : goal.returns
returns g c =
    let m = c.self.inside in
    let us = c.as_slice-groups.result.now in
    let b = c.in_ok-seat.seat.bucket in
    let slots = ap (slots_of (buckets_for m.bits)) c.as_slice-groups.ensures.value ∙ seen_slots m c.args.self.now c.self.invariant.table c.self.view_is in
    let has = slot_of_key c.args.self.now.slots b c.args.key (ap (λ s. key_at s b) (sym slots) ∙ c.in_ok-seat.ensures.found) in
    let value : Some has.0 ≡ Some c.value_at.result.now =
    ap (option_map (λ e. e.1)) (sym has.1 ∙ ap (λ s. slot_at s b) (sym slots) ∙ slot_below (buckets_for m.bits) us b (key_below (buckets_for m.bits) us b c.args.key c.in_ok-seat.ensures.found))
    ∙ c.value_at.ensures in
    let sound = seen_sound m c.args.self.now c.self.invariant.table c.self.view_is in
    sym value
    ∙ sym (get-map_of c.args.self.now c.args.key ∙ found_where c.args.self.now.slots b c.args.key has.0 sound.packed.once has.1)

pub find-requires : goal.find-requires
find-requires g c =
    let m = c.self.inside in
    record { table = kept_free_bucket m.bits m.len m.spare (vec_len m.stock) m.touched m.groups.items c.self.invariant.table c.as_slice-groups.result.now c.as_slice-groups.ensures.value }

pub value_at-requires : goal.value_at-requires
value_at-requires g c =
    let m = c.self.inside in
    let seat = c.in_ok-seat.seat in
    record { seat = seated (buckets_for m.bits) c.as_slice-groups.result.now seat.bucket seat.rank c.args.key c.in_ok-seat.ensures.found c.in_ok-seat.ensures.rank }
