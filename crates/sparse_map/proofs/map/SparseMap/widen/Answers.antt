use Rattle.std.proofs.Common.{◌≡◌, ◌≤◌, ◌/◌, ◌⊎◌, ◌^◌, min, inl, inr, length, refl, ap, sym, ◌∙◌, subst, arith}
use Rattle.std.specs.Ordering.{nat_cmp}
use Rattle.std.specs.FinMap.{find}
use Rattle.std.specs.Vec.{vec_len}
use Rattle.std.specs.Vec as vec
use Rattle.std.proofs.lemmas.Nat.{pow_pos}
use Rattle.sparse_map.proofs.HomeLemmas.{shifted_one, sized, some_buckets}
use Rattle.sparse_map.specs.declared.table.Touched.TheVariants.{Nowhere}
use Rattle.sparse_map.specs.Slots.{items_of}
use Rattle.sparse_map.specs.Home.{buckets_for}
use Rattle.sparse_map.specs.Moved.{items_in}
use Rattle.sparse_map.specs.Groups.{lists_for, slots_of, IsTable}
use Rattle.sparse_map.specs.Kept.{KeepsTable}
use Rattle.sparse_map.specs.Places.{sizes_of, places_of, loose_of, lacking, past_of}
use Rattle.sparse_map.specs.Seen.{more_free, seen_of}
use Rattle.sparse_map.proofs.BucketLemmas.{items_of-groups, length-wide}
use Rattle.sparse_map.proofs.MapLemmas.{map_of-same, kept_len, kept_sound, more_free-is, few_enough}
use Rattle.sparse_map.proofs.ViewLemmas.{seen_len, seen_slots, seen_buckets, seen_memory}
use Rattle.sparse_map.proofs.ChangeLemmas.{written}
use Rattle.sparse_map.proofs.MoveLemmas.{kept_groups}
use Rattle.sparse_map.proofs.HeirLemmas.{fit_ready, lists_read}
use Rattle.sparse_map.proofs.PlacesLemmas.{length-sizes, places-bound, stocked_for, bounded}
use Rattle.sparse_map.proofs.TakingLemmas.{can_widen, widened}
use Rattle.sparse_map.proofs.map.SparseMap.widen.Goals as goal

pub groups_ahead-requires-clause-small : goal.groups_ahead-requires-clause-small
groups_ahead-requires-clause-small g c =
    let m = c.self.inside in
    let len = seen_len m c.args.self.now c.self.invariant.table c.self.view_is in
    let read = ap (λ us. length (items_in us)) c.as_slice.ensures.value in
    let count = ap length (items_of-groups (buckets_for m.bits) m.groups.items c.self.invariant.table.table.rest) in
    let most = (shifted_one c.args.bits c.requires.size.few).1 in
    omega (arith, len, read, count, most, c.self.invariant.table.counted, c.requires.room)

pub place_groups-requires-clause-ready : goal.place_groups-requires-clause-ready
place_groups-requires-clause-ready g c =
    let m = c.self.inside in
    let new = c.in_ok-ahead.ahead.groups in
    let len = seen_len m c.args.self.now c.self.invariant.table c.self.view_is in
    let some = pow_pos c.args.bits in
    can_widen (buckets_for m.bits) (2 ^ c.args.bits) m.groups.items c.replace-old.result.items new.items c.as_mut_slice.result.now c.self.invariant.table.table.rest
    (ap (λ v. v.items) c.replace-old.ensures.value) c.as_mut_slice.ensures.value c.in_ok-ahead.ensures.free
    c.self.invariant.table.packed (omega (arith, c.in_ok-ahead.ensures.count, new.ok.0)) (omega (arith, len, some, c.self.invariant.table.counted, c.requires.room))

pub place_groups-requires-clause-lists : goal.place_groups-requires-clause-lists
place_groups-requires-clause-lists g c =
    lists_read (2 ^ c.args.bits) c.self.inside.groups.items c.as_slice.result.now c.replace-old.result.items c.in_ok-ahead.ahead.groups.items c.as_mut_slice.result.now
    c.in_ok-ahead.ahead.heirs.items c.as_slice-4.result.now
    c.as_slice.ensures.value (ap (λ v. v.items) c.replace-old.ensures.value) c.as_mut_slice.ensures.value c.as_slice-4.ensures.value c.in_ok-ahead.ensures.lists

pub place_groups-requires-clause-held : goal.place_groups-requires-clause-held
place_groups-requires-clause-held g c = c.in_ok-ahead.ensures.held

pub place_groups-requires-clause-room : goal.place_groups-requires-clause-room
place_groups-requires-clause-room g c = omega (arith, c.in_ok-ahead.ensures.room)

pub invariant_of-self : goal.invariant_of-self
invariant_of-self g c =
    let m = c.self.inside in
    let t = c.args.self.now in
    let new = c.in_ok-ahead.ahead.groups in
    let ws = c.place_groups.new.groups in
    let long : length ws ≡ vec_len new = c.place_groups.auto.groups ∙ c.as_mut_slice.ensures.len in
    let w = widened (buckets_for m.bits) (2 ^ c.args.bits) m.groups.items c.replace-old.result.items new.items c.as_mut_slice.result.now c.self.invariant.table.table.rest
    (ap (λ v. v.items) c.replace-old.ensures.value) c.as_mut_slice.ensures.value c.in_ok-ahead.ensures.free ws c.place_groups.ensures.taken in
    let len = seen_len m t c.self.invariant.table c.self.view_is in
    let table : IsTable (2 ^ c.args.bits) ws = record { count = omega (arith, long, c.in_ok-ahead.ensures.count); rest = w.rest } in
    let before = seen_buckets m t c.self.invariant.table c.self.view_is in
    let ready = fit_ready ws c.place_groups.ensures.fit in
    let was : c.replace-old.result.items ≡ m.groups.items = ap (λ v. v.items) c.replace-old.ensures.value in
    let short : past_of (sizes_of ws) ≡ 0 = omega (arith, c.place_groups.ensures.short, ap (λ us. past_of (sizes_of us)) was, c.self.invariant.table.short) in
    let few : vec_len c.add_blanks.new.stock ≤ lists_for (2 ^ c.args.bits) = omega (arith, c.in_ok-ahead.ensures.count, c.len.ensures, c.in_ok-add_blanks.ensures.ok, c.blanks_for-wanted.ensures.few) in
    let enough : (min c.max-spare.result (length (sizes_of ws)) ≤ vec_len c.add_blanks.new.stock) ⊎ ((c.max-spare.result ≤ 1) × (lacking 1 Nowhere (sizes_of ws) ≡ 0)) = elim c.blanks_for-wanted.ensures.enough [
      | inl all ↦ inl (omega (arith, all, c.in_ok-add_blanks.ensures.ok, c.len.ensures, long, length-sizes ws))
      | inr one ↦ inr (one.0, ready)
    ] in
    let kept = subst (λ us. KeepsTable c.args.bits m.len c.max-spare.result (vec_len c.add_blanks.new.stock) Nowhere us) (sym (written new ws long))
    (kept_groups c.args.bits m.len c.max-spare.result (vec_len c.add_blanks.new.stock) ws c.requires.size table w.packed
    (c.self.invariant.table.counted ∙ sym w.count)
    (omega (arith, c.requires.room, c.requires.wider, c.max-spare.ensures, len, before, c.self.invariant.table.room))
    (stocked_for c.max-spare.result (vec_len c.add_blanks.new.stock) (sizes_of ws) enough) ready short few) in
    let read = ap (λ us. loose_of Nowhere (sizes_of us)) c.as_slice-5.ensures.value in
    let wide = ap lists_for (some_buckets c.args.bits (omega (arith, c.requires.size.many))) in
    record {
      table = kept;
      bound = bounded _ _ (omega (arith, read, c.beyond_of-self-inside.ensures));
      groups_fit = omega (arith, wide, c.in_ok-ahead.ensures.count, c.in_ok-ahead.ahead.groups_fit);
      blanks_fit = omega (arith, wide, c.in_ok-ahead.ensures.count, c.len.ensures, c.add_blanks.ensures.room, c.new-stock.ensures, c.blanks_for-wanted.ensures.few);
    }

pub returns-clause-map : goal.returns-clause-map
returns-clause-map g c =
    let m = c.self.inside in
    let t = c.args.self.now in
    let new = c.in_ok-ahead.ahead.groups in
    let ws = c.place_groups.new.groups in
    let long : length ws ≡ vec_len new = c.place_groups.auto.groups ∙ c.as_mut_slice.ensures.len in
    let w = widened (buckets_for m.bits) (2 ^ c.args.bits) m.groups.items c.replace-old.result.items new.items c.as_mut_slice.result.now c.self.invariant.table.table.rest
    (ap (λ v. v.items) c.replace-old.ensures.value) c.as_mut_slice.ensures.value c.in_ok-ahead.ensures.free ws c.place_groups.ensures.taken in
    let wide = some_buckets c.args.bits (omega (arith, c.requires.size.many)) in
    map_of-same t _ (λ q.
    ap (λ n. find nat_cmp q (items_of (slots_of n (vec.with_items new ws).items))) wide
    ∙ ap (λ us. find nat_cmp q (items_of (slots_of (2 ^ c.args.bits) us))) (written new ws long)
    ∙ w.found q
    ∙ ap (λ s. find nat_cmp q (items_of s)) (seen_slots m t c.self.invariant.table c.self.view_is))

pub returns-clause-buckets : goal.returns-clause-buckets
returns-clause-buckets g c =
    let new = c.in_ok-ahead.ahead.groups in
    let ws = c.place_groups.new.groups in
    let long : length ws ≡ vec_len new = c.place_groups.auto.groups ∙ c.as_mut_slice.ensures.len in
    length-wide c.args.bits c.requires.size (vec.with_items new ws).items (ap length (written new ws long) ∙ omega (arith, long, c.in_ok-ahead.ensures.count))

pub returns-clause-fitted : goal.returns-clause-fitted
returns-clause-fitted g c =
    let m = c.self.inside in
    let t = c.args.self.now in
    let new = c.in_ok-ahead.ahead.groups in
    let ws = c.place_groups.new.groups in
    let long : length ws ≡ vec_len new = c.place_groups.auto.groups ∙ c.as_mut_slice.ensures.len in
    let w = widened (buckets_for m.bits) (2 ^ c.args.bits) m.groups.items c.replace-old.result.items new.items c.as_mut_slice.result.now c.self.invariant.table.table.rest
    (ap (λ v. v.items) c.replace-old.ensures.value) c.as_mut_slice.ensures.value c.in_ok-ahead.ensures.free ws c.place_groups.ensures.taken in
    let len = seen_len m t c.self.invariant.table c.self.view_is in
    let table : IsTable (2 ^ c.args.bits) ws = record { count = omega (arith, long, c.in_ok-ahead.ensures.count); rest = w.rest } in
    let before = seen_buckets m t c.self.invariant.table c.self.view_is in
    let ready = fit_ready ws c.place_groups.ensures.fit in
    let was : c.replace-old.result.items ≡ m.groups.items = ap (λ v. v.items) c.replace-old.ensures.value in
    let short : past_of (sizes_of ws) ≡ 0 = omega (arith, c.place_groups.ensures.short, ap (λ us. past_of (sizes_of us)) was, c.self.invariant.table.short) in
    let few : vec_len c.add_blanks.new.stock ≤ lists_for (2 ^ c.args.bits) = omega (arith, c.in_ok-ahead.ensures.count, c.len.ensures, c.in_ok-add_blanks.ensures.ok, c.blanks_for-wanted.ensures.few) in
    let enough : (min c.max-spare.result (length (sizes_of ws)) ≤ vec_len c.add_blanks.new.stock) ⊎ ((c.max-spare.result ≤ 1) × (lacking 1 Nowhere (sizes_of ws) ≡ 0)) = elim c.blanks_for-wanted.ensures.enough [
      | inl all ↦ inl (omega (arith, all, c.in_ok-add_blanks.ensures.ok, c.len.ensures, long, length-sizes ws))
      | inr one ↦ inr (one.0, ready)
    ] in
    let kept : KeepsTable c.args.bits m.len c.max-spare.result (vec_len c.add_blanks.new.stock) Nowhere ws =
    kept_groups c.args.bits m.len c.max-spare.result (vec_len c.add_blanks.new.stock) ws c.requires.size table w.packed
    (c.self.invariant.table.counted ∙ sym w.count)
    (omega (arith, c.requires.room, c.requires.wider, c.max-spare.ensures, len, before, c.self.invariant.table.room))
    (stocked_for c.max-spare.result (vec_len c.add_blanks.new.stock) (sizes_of ws) enough) ready short few in
    let now = written new ws long in
    let count = kept_len c.args.bits m.len c.max-spare.result (vec_len c.add_blanks.new.stock) Nowhere ws kept (seen_of c.args.bits (vec.with_items new ws).items c.max-spare.result (vec_len c.add_blanks.new.stock) Nowhere c.saturating_add-peak.result) (ap (slots_of (buckets_for c.args.bits)) now) in
    let all = ap length (items_of-groups (2 ^ c.args.bits) ws w.rest) in
    let wide = length-wide c.args.bits c.requires.size (vec.with_items new ws).items (ap length now ∙ table.count) in
    let size = sized c.args.bits c.requires.size in
    let level : length c.as_mut_slice.result.now ≡ lists_for (2 ^ c.args.bits) = omega (arith, c.as_mut_slice.ensures.len, c.in_ok-ahead.ensures.count) in
    record {
      places = omega (arith, places-bound ws, ap (λ us. places_of (sizes_of us)) now, ap (λ us. loose_of Nowhere (sizes_of us)) now, wide, table.count, more_free-is (2 ^ c.args.bits) size, all, count, c.self.invariant.table.counted, w.count, kept.counted);
      loose = omega (arith, ap (λ us. loose_of Nowhere (sizes_of us)) now, ap more_free (some_buckets c.args.bits (omega (arith, c.requires.size.many))), few_enough (2 ^ c.args.bits) size, ap (λ k. k / 2) level, c.place_groups.ensures.few);
      blanks = omega (arith, wide, c.in_ok-ahead.ensures.count, c.len.ensures, c.in_ok-add_blanks.ensures.ok, c.blanks_for-wanted.ensures.few);
    }

pub returns-clause-widened : goal.returns-clause-widened
returns-clause-widened g c =
    let m = c.self.inside in
    let t = c.args.self.now in
    let new = c.in_ok-ahead.ahead.groups in
    let ws = c.place_groups.new.groups in
    let long : length ws ≡ vec_len new = c.place_groups.auto.groups ∙ c.as_mut_slice.ensures.len in
    let size = sized c.args.bits c.requires.size in
    let wide = ap more_free (some_buckets c.args.bits (omega (arith, c.requires.size.many))) in
    let count : length c.as_mut_slice.result.now ≡ lists_for (2 ^ c.args.bits) = omega (arith, c.as_mut_slice.ensures.len, c.in_ok-ahead.ensures.count) in
    let now = ap (λ us. places_of (sizes_of us)) (written new ws long) in
    let made = ap (λ us. places_of (sizes_of us)) c.as_slice-2.ensures.value in
    let start = ap (λ us. places_of (sizes_of us)) c.as_mut_slice.ensures.value in
    let was : c.replace-old.result.items ≡ m.groups.items = ap (λ v. v.items) c.replace-old.ensures.value in
    let old = ap (λ us. places_of (sizes_of us)) was in
    let before = seen_memory m t c.self.invariant.table c.self.view_is in
    record {
      loose = omega (arith, ap (λ us. loose_of Nowhere (sizes_of us)) (written new ws long), wide, few_enough (2 ^ c.args.bits) size, ap (λ k. k / 2) count, c.place_groups.ensures.few);
      blanks = λ one. let none = c.blanks_for-wanted.ensures.one one (λ e. cc) in omega (arith, none, c.in_ok-add_blanks.ensures.ok);
      least = omega (arith, now, made, start, old, before, c.places-before.ensures, c.places_with.ensures, c.saturating_add-peak.ensures, c.place_groups.ensures.more, c.place_groups.ensures.handed, ap length c.as_slice-3.ensures.value);
      most = omega (arith, now, made, start, old, before, c.places-before.ensures, c.places_with.ensures, c.saturating_add-peak.ensures, c.place_groups.ensures.more, c.place_groups.ensures.handed, ap length c.as_slice-3.ensures.value);
    }

pub returns-clause-sound : goal.returns-clause-sound
returns-clause-sound g c =
    let m = c.self.inside in
    let t = c.args.self.now in
    let new = c.in_ok-ahead.ahead.groups in
    let ws = c.place_groups.new.groups in
    let long : length ws ≡ vec_len new = c.place_groups.auto.groups ∙ c.as_mut_slice.ensures.len in
    let w = widened (buckets_for m.bits) (2 ^ c.args.bits) m.groups.items c.replace-old.result.items new.items c.as_mut_slice.result.now c.self.invariant.table.table.rest
    (ap (λ v. v.items) c.replace-old.ensures.value) c.as_mut_slice.ensures.value c.in_ok-ahead.ensures.free ws c.place_groups.ensures.taken in
    let len = seen_len m t c.self.invariant.table c.self.view_is in
    let table : IsTable (2 ^ c.args.bits) ws = record { count = omega (arith, long, c.in_ok-ahead.ensures.count); rest = w.rest } in
    let before = seen_buckets m t c.self.invariant.table c.self.view_is in
    let ready = fit_ready ws c.place_groups.ensures.fit in
    let was : c.replace-old.result.items ≡ m.groups.items = ap (λ v. v.items) c.replace-old.ensures.value in
    let short : past_of (sizes_of ws) ≡ 0 = omega (arith, c.place_groups.ensures.short, ap (λ us. past_of (sizes_of us)) was, c.self.invariant.table.short) in
    let few : vec_len c.add_blanks.new.stock ≤ lists_for (2 ^ c.args.bits) = omega (arith, c.in_ok-ahead.ensures.count, c.len.ensures, c.in_ok-add_blanks.ensures.ok, c.blanks_for-wanted.ensures.few) in
    let enough : (min c.max-spare.result (length (sizes_of ws)) ≤ vec_len c.add_blanks.new.stock) ⊎ ((c.max-spare.result ≤ 1) × (lacking 1 Nowhere (sizes_of ws) ≡ 0)) = elim c.blanks_for-wanted.ensures.enough [
      | inl all ↦ inl (omega (arith, all, c.in_ok-add_blanks.ensures.ok, c.len.ensures, long, length-sizes ws))
      | inr one ↦ inr (one.0, ready)
    ] in
    let kept : KeepsTable c.args.bits m.len c.max-spare.result (vec_len c.add_blanks.new.stock) Nowhere ws =
    kept_groups c.args.bits m.len c.max-spare.result (vec_len c.add_blanks.new.stock) ws c.requires.size table w.packed
    (c.self.invariant.table.counted ∙ sym w.count)
    (omega (arith, c.requires.room, c.requires.wider, c.max-spare.ensures, len, before, c.self.invariant.table.room))
    (stocked_for c.max-spare.result (vec_len c.add_blanks.new.stock) (sizes_of ws) enough) ready short few in
    kept_sound c.args.bits m.len c.max-spare.result (vec_len c.add_blanks.new.stock) Nowhere ws kept _ (ap (slots_of (buckets_for c.args.bits)) (written new ws long)) refl (ap (λ us. places_of (sizes_of us)) (written new ws long)) refl
