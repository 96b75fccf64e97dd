use Rattle.std.proofs.Common.{◌≡◌, ◌≢◌, ℕ, ◌+◌, ◌-◌, ◌^◌, ◌<◌, set, length, refl, arith, cond, eqb, Some, None, ap, sym, ◌∙◌, subst}
use Rattle.std.specs.Prelude.{option_map}
use Rattle.std.specs.Vec.{vec_len}
use Rattle.std.specs.Ordering.{nat_cmp}
use Rattle.std.specs.FinMap.{find}
use Rattle.sparse_map.specs.Slots.{slot_at, key_at, items_of}
use Rattle.sparse_map.specs.Home.{buckets_for}
use Rattle.sparse_map.specs.Groups.{slots_of}
use Rattle.sparse_map.specs.Ranks.{IsSeated}
use Rattle.sparse_map.proofs.RankedLemmas.{seated}
use Rattle.sparse_map.specs.Kept.{KeepsTable}
use Rattle.sparse_map.specs.Places.{sizes_of, places_of, loose_of, lacking, past_of}
use Rattle.sparse_map.proofs.SlotLemmas.{slot_of_key, not_found}
use Rattle.sparse_map.proofs.HomeLemmas.{has_buckets, some_buckets}
use Rattle.sparse_map.proofs.BucketLemmas.{key_below}
use Rattle.sparse_map.specs.Removal.{shifted_back}
use Rattle.sparse_map.proofs.MapLemmas.{kept_free_bucket, kept_long, kept_sound, get-map_of}
use Rattle.sparse_map.proofs.ViewLemmas.{seen_slots, seen_buckets, seen_sound, seen_memory, seen_loose}
use Rattle.sparse_map.proofs.ChangeLemmas.{written, get_there, map_without, kept_removed, absent_stays}
use Rattle.sparse_map.proofs.PlacesLemmas.{bounded, bounds}
use Rattle.sparse_map.proofs.map.SparseMap.remove.Goals as goal

pub returns-in_err-seat-clause-value : goal.returns-in_err-seat-clause-value
returns-in_err-seat-clause-value g c =
    c.from_residual.ensures ∙ sym (get-map_of c.args.self.now c.args.key ∙ not_found c.args.self.now.slots c.args.key
    (subst (λ s. (q : ℕ) → key_at s q ≢ Some c.args.key) (ap (slots_of (buckets_for c.self.inside.bits)) c.as_slice.ensures.value ∙ seen_slots c.self.inside c.args.self.now c.self.invariant.table c.self.view_is)
    c.in_err-seat.ensures.found))

pub returns-in_err-seat-clause-map : goal.returns-in_err-seat-clause-map
returns-in_err-seat-clause-map g c =
    absent_stays c.args.self.now c.args.key
    (subst (λ s. (q : ℕ) → key_at s q ≢ Some c.args.key) (ap (slots_of (buckets_for c.self.inside.bits)) c.as_slice.ensures.value ∙ seen_slots c.self.inside c.args.self.now c.self.invariant.table c.self.view_is) c.in_err-seat.ensures.found)

pub returns-in_err-seat-clause-sound : goal.returns-in_err-seat-clause-sound
returns-in_err-seat-clause-sound g c = seen_sound c.self.inside c.args.self.now c.self.invariant.table c.self.view_is

pub invariant_of-self : goal.invariant_of-self
invariant_of-self g c =
    let m = c.self.inside in
    let b = c.in_ok-seat.seat.bucket in
    let n = 2 ^ m.bits in
    let some : 0 < m.bits = has_buckets m.bits b (key_below (buckets_for m.bits) c.as_slice.result.now b c.args.key c.in_ok-seat.ensures.found) in
    let size : buckets_for m.bits ≡ n = some_buckets m.bits some in
    let ws = c.remove_at-value.new.groups in
    let long : length ws ≡ vec_len m.groups = c.remove_at-value.auto.groups ∙ c.as_mut_slice.ensures.len in
    let count : length (items_of (slots_of n ws)) + 1 ≡ length (items_of (slots_of n m.groups.items)) = c.remove_at-value.ensures.count ∙ ap (λ us. length (items_of (slots_of n us))) c.as_mut_slice.ensures.value in
    let kept : KeepsTable m.bits (m.len - 1) m.spare (vec_len m.stock) m.touched ws =
    kept_removed m c.args.self.now c.self.invariant.table c.self.view_is n size ws c.remove_at-value.ensures.table c.remove_at-value.ensures.packed count
    (λ n t. omega (arith, c.remove_at-value.ensures.lacking n t, ap (λ us. lacking n t (sizes_of us)) c.as_mut_slice.ensures.value))
    (omega (arith, c.remove_at-value.ensures.short, ap (λ us. past_of (sizes_of us)) c.as_mut_slice.ensures.value)) in
    let loose = c.remove_at-value.ensures.loose m.touched in
    let now = ap (λ us. loose_of m.touched (sizes_of us)) (written m.groups ws long) in
    let old = ap (λ us. loose_of m.touched (sizes_of us)) c.as_mut_slice.ensures.value in
    record {
      table = subst (λ us. KeepsTable m.bits (m.len - 1) m.spare (vec_len m.stock) m.touched us) (sym (written m.groups ws long)) kept;
      bound = bounded _ _ (omega (arith, loose, now, old, c.saturating_add-self-inside.ensures, (bounds _ _ c.self.invariant.bound)));
      groups_fit = c.self.invariant.groups_fit;
      blanks_fit = c.self.invariant.blanks_fit;
    }

pub returns-clause-value : goal.returns-clause-value
returns-clause-value g c =
    let m = c.self.inside in
    let b = c.in_ok-seat.seat.bucket in
    let n = 2 ^ m.bits in
    let some : 0 < m.bits = has_buckets m.bits b (key_below (buckets_for m.bits) c.as_slice.result.now b c.args.key c.in_ok-seat.ensures.found) in
    let size : buckets_for m.bits ≡ n = some_buckets m.bits some in
    let ws = c.remove_at-value.new.groups in
    let long : length ws ≡ vec_len m.groups = c.remove_at-value.auto.groups ∙ c.as_mut_slice.ensures.len in
    let has = ap (λ us. key_at (slots_of (buckets_for m.bits) us) b) (sym c.as_slice.ensures.value) ∙ c.in_ok-seat.ensures.found in
    let at = slot_of_key (slots_of (buckets_for m.bits) m.groups.items) b c.args.key has in
    let item = sym at.1 ∙ ap (λ n. slot_at (slots_of n m.groups.items) b) size ∙ ap (λ us. slot_at (slots_of n us) b) (sym c.as_mut_slice.ensures.value) ∙ c.remove_at-value.ensures.item in
    let value : Some at.0 ≡ Some c.remove_at-value.result.1 = ap (option_map (λ e. e.1)) item in
    sym value ∙ sym (get_there m c.args.self.now c.self.invariant.table c.self.view_is b c.args.key at.0 at.1)

pub returns-clause-map : goal.returns-clause-map
returns-clause-map g c =
    let m = c.self.inside in
    let b = c.in_ok-seat.seat.bucket in
    let n = 2 ^ m.bits in
    let some : 0 < m.bits = has_buckets m.bits b (key_below (buckets_for m.bits) c.as_slice.result.now b c.args.key c.in_ok-seat.ensures.found) in
    let size : buckets_for m.bits ≡ n = some_buckets m.bits some in
    let ws = c.remove_at-value.new.groups in
    let long : length ws ≡ vec_len m.groups = c.remove_at-value.auto.groups ∙ c.as_mut_slice.ensures.len in
    let has = ap (λ us. key_at (slots_of (buckets_for m.bits) us) b) (sym c.as_slice.ensures.value) ∙ c.in_ok-seat.ensures.found in
    let at = slot_of_key (slots_of (buckets_for m.bits) m.groups.items) b c.args.key has in
    let item = sym at.1 ∙ ap (λ n. slot_at (slots_of n m.groups.items) b) size ∙ ap (λ us. slot_at (slots_of n us) b) (sym c.as_mut_slice.ensures.value) ∙ c.remove_at-value.ensures.item in
    let key : Some c.args.key ≡ Some c.remove_at-value.result.0 = ap (option_map (λ e. e.0)) item in
    let same_key : c.remove_at-value.result.0 ≡ c.args.key = cc in
    map_without m c.args.self.now c.self.invariant.table c.self.view_is _ ws (ap (slots_of (buckets_for m.bits)) (written m.groups ws long)) c.args.key
    (λ q. ap (λ n. find nat_cmp q (items_of (slots_of n ws))) size
    ∙ c.remove_at-value.ensures.found q
    ∙ (λ i. cond (eqb q (same_key i)) None (find nat_cmp q (items_of (slots_of n (c.as_mut_slice.ensures.value i)))))
    ∙ ap (λ n. cond (eqb q c.args.key) None (find nat_cmp q (items_of (slots_of n m.groups.items)))) (sym size))

pub returns-clause-buckets : goal.returns-clause-buckets
returns-clause-buckets g c =
    let m = c.self.inside in
    let b = c.in_ok-seat.seat.bucket in
    let n = 2 ^ m.bits in
    let some : 0 < m.bits = has_buckets m.bits b (key_below (buckets_for m.bits) c.as_slice.result.now b c.args.key c.in_ok-seat.ensures.found) in
    let size : buckets_for m.bits ≡ n = some_buckets m.bits some in
    let ws = c.remove_at-value.new.groups in
    let long : length ws ≡ vec_len m.groups = c.remove_at-value.auto.groups ∙ c.as_mut_slice.ensures.len in
    let count : length (items_of (slots_of n ws)) + 1 ≡ length (items_of (slots_of n m.groups.items)) = c.remove_at-value.ensures.count ∙ ap (λ us. length (items_of (slots_of n us))) c.as_mut_slice.ensures.value in
    let kept : KeepsTable m.bits (m.len - 1) m.spare (vec_len m.stock) m.touched ws =
    kept_removed m c.args.self.now c.self.invariant.table c.self.view_is n size ws c.remove_at-value.ensures.table c.remove_at-value.ensures.packed count
    (λ n t. omega (arith, c.remove_at-value.ensures.lacking n t, ap (λ us. lacking n t (sizes_of us)) c.as_mut_slice.ensures.value))
    (omega (arith, c.remove_at-value.ensures.short, ap (λ us. past_of (sizes_of us)) c.as_mut_slice.ensures.value)) in
    ap (λ us. length (slots_of (buckets_for m.bits) us)) (written m.groups ws long)
    ∙ kept_long m.bits (m.len - 1) m.spare (vec_len m.stock) m.touched ws kept
    ∙ seen_buckets m c.args.self.now c.self.invariant.table c.self.view_is

pub returns-clause-sound : goal.returns-clause-sound
returns-clause-sound g c =
    let m = c.self.inside in
    let b = c.in_ok-seat.seat.bucket in
    let n = 2 ^ m.bits in
    let some : 0 < m.bits = has_buckets m.bits b (key_below (buckets_for m.bits) c.as_slice.result.now b c.args.key c.in_ok-seat.ensures.found) in
    let size : buckets_for m.bits ≡ n = some_buckets m.bits some in
    let ws = c.remove_at-value.new.groups in
    let long : length ws ≡ vec_len m.groups = c.remove_at-value.auto.groups ∙ c.as_mut_slice.ensures.len in
    let count : length (items_of (slots_of n ws)) + 1 ≡ length (items_of (slots_of n m.groups.items)) = c.remove_at-value.ensures.count ∙ ap (λ us. length (items_of (slots_of n us))) c.as_mut_slice.ensures.value in
    let kept : KeepsTable m.bits (m.len - 1) m.spare (vec_len m.stock) m.touched ws =
    kept_removed m c.args.self.now c.self.invariant.table c.self.view_is n size ws c.remove_at-value.ensures.table c.remove_at-value.ensures.packed count
    (λ n t. omega (arith, c.remove_at-value.ensures.lacking n t, ap (λ us. lacking n t (sizes_of us)) c.as_mut_slice.ensures.value))
    (omega (arith, c.remove_at-value.ensures.short, ap (λ us. past_of (sizes_of us)) c.as_mut_slice.ensures.value)) in
    kept_sound m.bits (m.len - 1) m.spare (vec_len m.stock) m.touched ws kept _ (ap (slots_of (buckets_for m.bits)) (written m.groups ws long)) refl (ap (λ us. places_of (sizes_of us)) (written m.groups ws long)) refl

pub returns-clause-memory : goal.returns-clause-memory
returns-clause-memory g c =
    let m = c.self.inside in
    let ws = c.remove_at-value.new.groups in
    let long : length ws ≡ vec_len m.groups = c.remove_at-value.auto.groups ∙ c.as_mut_slice.ensures.len in
    let sizes = ap sizes_of (written m.groups ws long) in
    let old = ap sizes_of c.as_mut_slice.ensures.value in
    omega (arith, ap places_of sizes, ap places_of old, c.remove_at-value.ensures.places, seen_memory m c.args.self.now c.self.invariant.table c.self.view_is)

pub returns-clause-loose : goal.returns-clause-loose
returns-clause-loose g c =
    let m = c.self.inside in
    let ws = c.remove_at-value.new.groups in
    let long : length ws ≡ vec_len m.groups = c.remove_at-value.auto.groups ∙ c.as_mut_slice.ensures.len in
    let sizes = ap sizes_of (written m.groups ws long) in
    let old = ap sizes_of c.as_mut_slice.ensures.value in
    omega (arith, ap (loose_of m.touched) sizes, ap (loose_of m.touched) old, c.remove_at-value.ensures.loose m.touched, seen_loose m c.args.self.now c.self.invariant.table c.self.view_is)

pub returns-clause-shifts : goal.returns-clause-shifts
returns-clause-shifts g c =
    let m = c.self.inside in
    let b = c.in_ok-seat.seat.bucket in
    let n = 2 ^ m.bits in
    let some : 0 < m.bits = has_buckets m.bits b (key_below (buckets_for m.bits) c.as_slice.result.now b c.args.key c.in_ok-seat.ensures.found) in
    let size : buckets_for m.bits ≡ n = some_buckets m.bits some in
    let ws = c.remove_at-value.new.groups in
    let long : length ws ≡ vec_len m.groups = c.remove_at-value.auto.groups ∙ c.as_mut_slice.ensures.len in
    let t = c.args.self.now in
    let seen = seen_slots m t c.self.invariant.table c.self.view_is in
    let slots : slots_of n c.as_mut_slice.result.now ≡ t.slots = ap (slots_of n) c.as_mut_slice.ensures.value ∙ ap (λ n. slots_of n m.groups.items) (sym size) ∙ seen in
    let has : key_at t.slots b ≡ Some c.args.key = ap (λ s. key_at s b) (sym (ap (slots_of (buckets_for m.bits)) c.as_slice.ensures.value ∙ seen)) ∙ c.in_ok-seat.ensures.found in
    let wide : n ≡ length t.slots = sym size ∙ seen_buckets m t c.self.invariant.table c.self.view_is in
    record {
      bucket = b;
      has = has;
      slots =
          ap (slots_of (buckets_for m.bits)) (written m.groups ws long)
          ∙ ap (λ n. slots_of n ws) size
          ∙ c.remove_at-value.ensures.walk
          ∙ (λ i. shifted_back (wide i) (wide i - 1) b b (set (slots i) b None));
    }

pub find-requires : goal.find-requires
find-requires g c =
    let m = c.self.inside in
    record { table = kept_free_bucket m.bits m.len m.spare (vec_len m.stock) m.touched m.groups.items c.self.invariant.table c.as_slice.result.now c.as_slice.ensures.value }

pub remove_at-value-requires-clause-table : goal.remove_at-value-requires-clause-table
remove_at-value-requires-clause-table g c =
    let m = c.self.inside in
    let b = c.in_ok-seat.seat.bucket in
    let some : 0 < m.bits = has_buckets m.bits b (key_below (buckets_for m.bits) c.as_slice.result.now b c.args.key c.in_ok-seat.ensures.found) in
    kept_free_bucket m.bits m.len m.spare (vec_len m.stock) m.touched m.groups.items c.self.invariant.table c.as_mut_slice.result.now c.as_mut_slice.ensures.value some

pub remove_at-value-requires-clause-seat : goal.remove_at-value-requires-clause-seat
remove_at-value-requires-clause-seat g c =
    let seat = c.in_ok-seat.seat in
    let us = c.as_slice.result.now in
    let same : us ≡ c.as_mut_slice.result.now = c.as_slice.ensures.value ∙ sym c.as_mut_slice.ensures.value in
    subst (λ us. IsSeated us seat.bucket seat.rank) same (seated (buckets_for c.self.inside.bits) us seat.bucket seat.rank c.args.key c.in_ok-seat.ensures.found c.in_ok-seat.ensures.rank)
