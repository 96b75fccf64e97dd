use Rattle.std.proofs.Common.{◌≡◌, ◌+◌, ◌-◌, ◌/◌, ◌^◌, length, refl, set, Some, arith, ap, sym, ◌∙◌, subst}
use Rattle.std.specs.Prelude.{option_map}
use Rattle.std.specs.Vec.{vec_len}
use Rattle.std.proofs.lemmas.List.{length-set}
use Rattle.sparse_map.specs.Slots.{slot_at, key_at}
use Rattle.sparse_map.specs.Home.{buckets_for}
use Rattle.sparse_map.specs.Groups.{all_slots, slots_of}
use Rattle.sparse_map.specs.Ranks.{IsRankOf, IsSeated}
use Rattle.sparse_map.proofs.RankedLemmas.{seated, key_found, free_found, rank_found, rank_free}
use Rattle.sparse_map.specs.Kept.{KeepsTable}
use Rattle.sparse_map.specs.Trimmed.{MayBeTouched}
use Rattle.std.proofs.lemmas.Bool.{eq-eqb, ne_eqb}
use Rattle.sparse_map.specs.declared.table.Touched.TheVariants.{Nowhere}
use Rattle.sparse_map.specs.Places.{sizes_of, places_of, loose_of, lacking, past_of}
use Rattle.sparse_map.proofs.PlacesLemmas.{lacking-le, bounded, bounds}
use Rattle.sparse_map.specs.Probe.{IsFreeFor}
use Rattle.sparse_map.proofs.SlotLemmas.{slot_of_key}
use Rattle.sparse_map.proofs.BucketLemmas.{slot_below, key_below, table_slots, inside_table, inside_groups}
use Rattle.sparse_map.proofs.MapLemmas.{kept_free_bucket, kept_sound}
use Rattle.sparse_map.proofs.ViewLemmas.{seen_slots, seen_memory, seen_loose}
use Rattle.sparse_map.proofs.ChangeLemmas.{written, seen_ready, absent_needs_room, get_there, get_absent, kept_value, map_value, seen_value, kept_new_key, map_new_key, seen_new_key}
use Rattle.sparse_map.proofs.map.SparseMap.insert_ready.Goals as goal

pub invariant_of-self : goal.invariant_of-self
invariant_of-self g c =
    let m = c.self.inside in
    let ws = c.replace-old.new.groups in
    let long : length ws ≡ vec_len m.groups = c.replace-old.auto.groups ∙ c.as_mut_slice.ensures.len in
    let slots = c.replace-old.ensures.slots ∙ ap (λ us. set (all_slots us) c.in-Found.bucket (Some (c.args.key, c.args.value))) c.as_mut_slice.ensures.value in
    let same_has = table_slots m.bits c.as_slice.result.now m.groups.items (seen_ready m c.args.self.now c.self.invariant.table c.self.view_is c.args.key c.requires) c.as_slice.ensures.value in
    let has = ap (λ s. key_at s c.in-Found.bucket) (sym same_has) ∙ (key_found (slots_of (2 ^ m.bits) c.as_slice.result.now) c.args.key c.in-Found.bucket c.probe-spot.result.at c.probe-spot.ensures.place c.in-Found.is) in
    let sizes = c.replace-old.ensures.sizes ∙ ap sizes_of c.as_mut_slice.ensures.value in
    let kept = subst (λ us. KeepsTable m.bits m.len m.spare (vec_len m.stock) m.touched us) (sym (written m.groups ws long))
    (kept_value m c.args.self.now c.self.invariant.table c.self.view_is ws c.in-Found.bucket c.args.key c.args.value slots has sizes) in
    let loose = ap (loose_of m.touched) (ap sizes_of (written m.groups ws long) ∙ sizes) in
    record { table = kept; bound = bounded _ _ (omega (arith, loose, (bounds _ _ c.self.invariant.bound))); groups_fit = c.self.invariant.groups_fit; blanks_fit = c.self.invariant.blanks_fit }

pub put-left-requires-clause-within : goal.put-left-requires-clause-within
put-left-requires-clause-within g c =
    let n = 2 ^ c.self.inside.bits in
    let us = c.as_slice.result.now in
    let place = free_found (slots_of n us) c.args.key c.in-Free.bucket c.probe-spot.result.at c.probe-spot.ensures.place c.in-Free.is in
    let same : length c.as_mut_slice-in-Free.result.now ≡ length us = ap length (c.as_mut_slice-in-Free.ensures.value ∙ sym c.as_slice.ensures.value) in
    omega (arith, same, inside_groups n us c.in-Free.bucket place.inside)

pub put-left-requires-clause-stocked : goal.put-left-requires-clause-stocked
put-left-requires-clause-stocked g c =
    let m = c.self.inside in
    let same_free = table_slots m.bits c.as_slice.result.now m.groups.items (seen_ready m c.args.self.now c.self.invariant.table c.self.view_is c.args.key c.requires) c.as_slice.ensures.value in
    let place : IsFreeFor (slots_of (buckets_for m.bits) m.groups.items) c.args.key c.in-Free.bucket = subst (λ s. IsFreeFor s c.args.key c.in-Free.bucket) same_free
    (free_found (slots_of (2 ^ m.bits) c.as_slice.result.now) c.args.key c.in-Free.bucket c.probe-spot.result.at c.probe-spot.ensures.place c.in-Free.is) in
    let more = absent_needs_room m c.args.self.now c.self.invariant.table c.self.view_is c.args.key place.absent c.requires in
    let same = ap (λ us. lacking 1 Nowhere (sizes_of us)) c.as_mut_slice-in-Free.ensures.value in
    λ some. omega (arith, c.self.invariant.table.stocked, more, same, lacking-le 1 m.spare (sizes_of m.groups.items) more)

pub overflow_sub-self : goal.overflow_sub-self
overflow_sub-self g c =
    let m = c.self.inside in
    let same_free = table_slots m.bits c.as_slice.result.now m.groups.items (seen_ready m c.args.self.now c.self.invariant.table c.self.view_is c.args.key c.requires) c.as_slice.ensures.value in
    let place : IsFreeFor (slots_of (buckets_for m.bits) m.groups.items) c.args.key c.in-Free.bucket = subst (λ s. IsFreeFor s c.args.key c.in-Free.bucket) same_free
    (free_found (slots_of (2 ^ m.bits) c.as_slice.result.now) c.args.key c.in-Free.bucket c.probe-spot.result.at c.probe-spot.ensures.place c.in-Free.is) in
    let more = absent_needs_room m c.args.self.now c.self.invariant.table c.self.view_is c.args.key place.absent c.requires in
    omega (arith, more)

pub invariant_of-self-in-Free : goal.invariant_of-self-in-Free
invariant_of-self-in-Free g c =
    let m = c.self.inside in
    let ws = c.put-left.new.groups in
    let long : length ws ≡ vec_len m.groups = c.put-left.auto.groups ∙ c.as_mut_slice-in-Free.ensures.len in
    let slots = c.put-left.ensures.slots ∙ ap (λ us. set (all_slots us) c.in-Free.bucket (Some (c.args.key, c.args.value))) c.as_mut_slice-in-Free.ensures.value in
    let same_free = table_slots m.bits c.as_slice.result.now m.groups.items (seen_ready m c.args.self.now c.self.invariant.table c.self.view_is c.args.key c.requires) c.as_slice.ensures.value in
    let place : IsFreeFor (slots_of (buckets_for m.bits) m.groups.items) c.args.key c.in-Free.bucket = subst (λ s. IsFreeFor s c.args.key c.in-Free.bucket) same_free
    (free_found (slots_of (2 ^ m.bits) c.as_slice.result.now) c.args.key c.in-Free.bucket c.probe-spot.result.at c.probe-spot.ensures.place c.in-Free.is) in
    let more = absent_needs_room m c.args.self.now c.self.invariant.table c.self.view_is c.args.key place.absent c.requires in
    let old = ap sizes_of c.as_mut_slice-in-Free.ensures.value in
    let left = c.put-left.result in
    let after = c.with-self-inside.result in
    let added : left ≡ 0 → MayBeTouched after (c.in-Free.bucket / 64) = λ none. c.with-self-inside.ensures.added (eq-eqb left 0 none) in
    let ready = c.put-left.ensures.ready m.touched after added c.with-self-inside.ensures.kept in
    let kept = subst (λ us. KeepsTable m.bits (m.len + 1) (m.spare - 1) (vec_len c.put-left.new.stock) after us) (sym (written m.groups ws long))
    (kept_new_key m c.args.self.now c.self.invariant.table c.self.view_is ws c.in-Free.bucket c.args.key c.args.value slots (vec_len c.put-left.new.stock) after place more c.put-left.ensures.one_less
    (λ n. omega (arith, c.put-left.ensures.fewer_lack n, ap (lacking (n + 1) Nowhere) old)) (omega (arith, ready, ap (lacking 1 m.touched) old))
    (omega (arith, c.put-left.ensures.short, ap past_of old)) c.put-left.ensures.no_more) in
    let sizes = ap sizes_of (written m.groups ws long) in
    let fewer = c.put-left.ensures.loose m.touched after added c.with-self-inside.ensures.kept in
    let counted = c.counted-self-inside.ensures.bounds (loose_of m.touched (sizes_of m.groups.items)) (loose_of after (sizes_of ws)) (bounds _ _ c.self.invariant.bound) (omega (arith, fewer, ap (loose_of m.touched) old))
    (λ nowhere few.
    let stays : after ≡ Nowhere = c.with-self-inside.ensures.same (ne_eqb left 0 (λ none. omega (arith, none, few))) ∙ nowhere in
    let new = ap (λ t. loose_of t (sizes_of ws)) stays in
    let was = ap (λ t. loose_of t (sizes_of m.groups.items)) nowhere in
    omega (arith, c.put-left.ensures.less few, new, was, ap (loose_of Nowhere) old)) in
    record {
      table = kept;
      bound = bounded _ _ (omega (arith, counted, ap (loose_of after) sizes));
      groups_fit = c.self.invariant.groups_fit;
      blanks_fit = omega (arith, c.put-left.ensures.stock_room, c.self.invariant.blanks_fit);
    }

pub returns-in-Found-clause-old : goal.returns-in-Found-clause-old
returns-in-Found-clause-old g c =
    let m = c.self.inside in
    let same_has = table_slots m.bits c.as_slice.result.now m.groups.items (seen_ready m c.args.self.now c.self.invariant.table c.self.view_is c.args.key c.requires) c.as_slice.ensures.value in
    let has = ap (λ s. key_at s c.in-Found.bucket) (sym same_has) ∙ (key_found (slots_of (2 ^ m.bits) c.as_slice.result.now) c.args.key c.in-Found.bucket c.probe-spot.result.at c.probe-spot.ensures.place c.in-Found.is) in
    let at = slot_of_key (slots_of (buckets_for m.bits) m.groups.items) c.in-Found.bucket c.args.key has in
    let value : Some at.0 ≡ Some c.replace-old.result.1 =
    ap (option_map (λ e. e.1)) (sym at.1
    ∙ slot_below (buckets_for m.bits) m.groups.items c.in-Found.bucket (key_below (buckets_for m.bits) m.groups.items c.in-Found.bucket c.args.key has)
    ∙ ap (λ us. slot_at (all_slots us) c.in-Found.bucket) (sym c.as_mut_slice.ensures.value)
    ∙ c.replace-old.ensures.item) in
    sym value ∙ sym (get_there m c.args.self.now c.self.invariant.table c.self.view_is c.in-Found.bucket c.args.key at.0 at.1)

pub returns-in-Found-clause-map : goal.returns-in-Found-clause-map
returns-in-Found-clause-map g c =
    let m = c.self.inside in
    let ws = c.replace-old.new.groups in
    let long : length ws ≡ vec_len m.groups = c.replace-old.auto.groups ∙ c.as_mut_slice.ensures.len in
    let slots = c.replace-old.ensures.slots ∙ ap (λ us. set (all_slots us) c.in-Found.bucket (Some (c.args.key, c.args.value))) c.as_mut_slice.ensures.value in
    let same_has = table_slots m.bits c.as_slice.result.now m.groups.items (seen_ready m c.args.self.now c.self.invariant.table c.self.view_is c.args.key c.requires) c.as_slice.ensures.value in
    let has = ap (λ s. key_at s c.in-Found.bucket) (sym same_has) ∙ (key_found (slots_of (2 ^ m.bits) c.as_slice.result.now) c.args.key c.in-Found.bucket c.probe-spot.result.at c.probe-spot.ensures.place c.in-Found.is) in
    map_value m c.args.self.now c.self.invariant.table c.self.view_is ws c.in-Found.bucket c.args.key c.args.value slots _ (ap (slots_of (buckets_for m.bits)) (written m.groups ws long)) has

pub returns-in-Found-clause-sound : goal.returns-in-Found-clause-sound
returns-in-Found-clause-sound g c =
    let m = c.self.inside in
    let ws = c.replace-old.new.groups in
    let long : length ws ≡ vec_len m.groups = c.replace-old.auto.groups ∙ c.as_mut_slice.ensures.len in
    let slots = c.replace-old.ensures.slots ∙ ap (λ us. set (all_slots us) c.in-Found.bucket (Some (c.args.key, c.args.value))) c.as_mut_slice.ensures.value in
    let same_has = table_slots m.bits c.as_slice.result.now m.groups.items (seen_ready m c.args.self.now c.self.invariant.table c.self.view_is c.args.key c.requires) c.as_slice.ensures.value in
    let has = ap (λ s. key_at s c.in-Found.bucket) (sym same_has) ∙ (key_found (slots_of (2 ^ m.bits) c.as_slice.result.now) c.args.key c.in-Found.bucket c.probe-spot.result.at c.probe-spot.ensures.place c.in-Found.is) in
    kept_sound m.bits m.len m.spare (vec_len m.stock) m.touched ws
    (kept_value m c.args.self.now c.self.invariant.table c.self.view_is ws c.in-Found.bucket c.args.key c.args.value slots has (c.replace-old.ensures.sizes ∙ ap sizes_of c.as_mut_slice.ensures.value))
    _ (ap (slots_of (buckets_for m.bits)) (written m.groups ws long)) refl (ap (λ us. places_of (sizes_of us)) (written m.groups ws long)) refl

pub returns-in-Free-clause-old : goal.returns-in-Free-clause-old
returns-in-Free-clause-old g c =
    let m = c.self.inside in
    let same_free = table_slots m.bits c.as_slice.result.now m.groups.items (seen_ready m c.args.self.now c.self.invariant.table c.self.view_is c.args.key c.requires) c.as_slice.ensures.value in
    let place : IsFreeFor (slots_of (buckets_for m.bits) m.groups.items) c.args.key c.in-Free.bucket = subst (λ s. IsFreeFor s c.args.key c.in-Free.bucket) same_free
    (free_found (slots_of (2 ^ m.bits) c.as_slice.result.now) c.args.key c.in-Free.bucket c.probe-spot.result.at c.probe-spot.ensures.place c.in-Free.is) in
    sym (get_absent m c.args.self.now c.self.invariant.table c.self.view_is c.args.key place.absent)

pub returns-in-Free-clause-map : goal.returns-in-Free-clause-map
returns-in-Free-clause-map g c =
    let m = c.self.inside in
    let ws = c.put-left.new.groups in
    let long : length ws ≡ vec_len m.groups = c.put-left.auto.groups ∙ c.as_mut_slice-in-Free.ensures.len in
    let slots = c.put-left.ensures.slots ∙ ap (λ us. set (all_slots us) c.in-Free.bucket (Some (c.args.key, c.args.value))) c.as_mut_slice-in-Free.ensures.value in
    let same_free = table_slots m.bits c.as_slice.result.now m.groups.items (seen_ready m c.args.self.now c.self.invariant.table c.self.view_is c.args.key c.requires) c.as_slice.ensures.value in
    let place : IsFreeFor (slots_of (buckets_for m.bits) m.groups.items) c.args.key c.in-Free.bucket = subst (λ s. IsFreeFor s c.args.key c.in-Free.bucket) same_free
    (free_found (slots_of (2 ^ m.bits) c.as_slice.result.now) c.args.key c.in-Free.bucket c.probe-spot.result.at c.probe-spot.ensures.place c.in-Free.is) in
    map_new_key m c.args.self.now c.self.invariant.table c.self.view_is ws c.in-Free.bucket c.args.key c.args.value slots _ (ap (slots_of (buckets_for m.bits)) (written m.groups ws long)) place

pub returns-in-Free-clause-sound : goal.returns-in-Free-clause-sound
returns-in-Free-clause-sound g c =
    let m = c.self.inside in
    let ws = c.put-left.new.groups in
    let long : length ws ≡ vec_len m.groups = c.put-left.auto.groups ∙ c.as_mut_slice-in-Free.ensures.len in
    let slots = c.put-left.ensures.slots ∙ ap (λ us. set (all_slots us) c.in-Free.bucket (Some (c.args.key, c.args.value))) c.as_mut_slice-in-Free.ensures.value in
    let same_free = table_slots m.bits c.as_slice.result.now m.groups.items (seen_ready m c.args.self.now c.self.invariant.table c.self.view_is c.args.key c.requires) c.as_slice.ensures.value in
    let place : IsFreeFor (slots_of (buckets_for m.bits) m.groups.items) c.args.key c.in-Free.bucket = subst (λ s. IsFreeFor s c.args.key c.in-Free.bucket) same_free
    (free_found (slots_of (2 ^ m.bits) c.as_slice.result.now) c.args.key c.in-Free.bucket c.probe-spot.result.at c.probe-spot.ensures.place c.in-Free.is) in
    let more = absent_needs_room m c.args.self.now c.self.invariant.table c.self.view_is c.args.key place.absent c.requires in
    let old = ap sizes_of c.as_mut_slice-in-Free.ensures.value in
    let left = c.put-left.result in
    let after = c.with-self-inside.result in
    let added : left ≡ 0 → MayBeTouched after (c.in-Free.bucket / 64) = λ none. c.with-self-inside.ensures.added (eq-eqb left 0 none) in
    let ready = c.put-left.ensures.ready m.touched after added c.with-self-inside.ensures.kept in
    kept_sound m.bits (m.len + 1) (m.spare - 1) (vec_len c.put-left.new.stock) after ws
    (kept_new_key m c.args.self.now c.self.invariant.table c.self.view_is ws c.in-Free.bucket c.args.key c.args.value slots (vec_len c.put-left.new.stock) after place more c.put-left.ensures.one_less
    (λ n. omega (arith, c.put-left.ensures.fewer_lack n, ap (lacking (n + 1) Nowhere) old)) (omega (arith, ready, ap (lacking 1 m.touched) old))
    (omega (arith, c.put-left.ensures.short, ap past_of old)) c.put-left.ensures.no_more)
    _ (ap (slots_of (buckets_for m.bits)) (written m.groups ws long)) refl (ap (λ us. places_of (sizes_of us)) (written m.groups ws long)) refl

pub returns-in-Found-clause-placed : goal.returns-in-Found-clause-placed
returns-in-Found-clause-placed g c =
    let m = c.self.inside in
    let t = c.args.self.now in
    let ws = c.replace-old.new.groups in
    let long : length ws ≡ vec_len m.groups = c.replace-old.auto.groups ∙ c.as_mut_slice.ensures.len in
    let slots = c.replace-old.ensures.slots ∙ ap (λ us. set (all_slots us) c.in-Found.bucket (Some (c.args.key, c.args.value))) c.as_mut_slice.ensures.value in
    let same_has = table_slots m.bits c.as_slice.result.now m.groups.items (seen_ready m c.args.self.now c.self.invariant.table c.self.view_is c.args.key c.requires) c.as_slice.ensures.value in
    let has = ap (λ s. key_at s c.in-Found.bucket) (sym same_has) ∙ (key_found (slots_of (2 ^ m.bits) c.as_slice.result.now) c.args.key c.in-Found.bucket c.probe-spot.result.at c.probe-spot.ensures.place c.in-Found.is) in
    let seen = seen_slots m t c.self.invariant.table c.self.view_is in
    record {
      bucket = c.in-Found.bucket;
      has = ap (λ s. key_at s c.in-Found.bucket) (sym seen) ∙ has;
      slots =
          ap (slots_of (buckets_for m.bits)) (written m.groups ws long)
          ∙ seen_value m t c.self.invariant.table c.self.view_is ws c.in-Found.bucket c.args.key c.args.value slots has;
    }

pub returns-in-Found-clause-memory : goal.returns-in-Found-clause-memory
returns-in-Found-clause-memory g c =
    let m = c.self.inside in
    let t = c.args.self.now in
    let ws = c.replace-old.new.groups in
    let long : length ws ≡ vec_len m.groups = c.replace-old.auto.groups ∙ c.as_mut_slice.ensures.len in
    let sizes = ap sizes_of (written m.groups ws long) ∙ c.replace-old.ensures.sizes ∙ ap sizes_of c.as_mut_slice.ensures.value in
    omega (arith, ap places_of sizes, seen_memory m t c.self.invariant.table c.self.view_is)

pub returns-in-Found-clause-loose : goal.returns-in-Found-clause-loose
returns-in-Found-clause-loose g c =
    let m = c.self.inside in
    let t = c.args.self.now in
    let ws = c.replace-old.new.groups in
    let long : length ws ≡ vec_len m.groups = c.replace-old.auto.groups ∙ c.as_mut_slice.ensures.len in
    let sizes = ap sizes_of (written m.groups ws long) ∙ c.replace-old.ensures.sizes ∙ ap sizes_of c.as_mut_slice.ensures.value in
    omega (arith, ap (loose_of m.touched) sizes, seen_loose m t c.self.invariant.table c.self.view_is)

pub returns-in-Free-clause-placed : goal.returns-in-Free-clause-placed
returns-in-Free-clause-placed g c =
    let m = c.self.inside in
    let t = c.args.self.now in
    let ws = c.put-left.new.groups in
    let long : length ws ≡ vec_len m.groups = c.put-left.auto.groups ∙ c.as_mut_slice-in-Free.ensures.len in
    let slots = c.put-left.ensures.slots ∙ ap (λ us. set (all_slots us) c.in-Free.bucket (Some (c.args.key, c.args.value))) c.as_mut_slice-in-Free.ensures.value in
    let same_free = table_slots m.bits c.as_slice.result.now m.groups.items (seen_ready m c.args.self.now c.self.invariant.table c.self.view_is c.args.key c.requires) c.as_slice.ensures.value in
    let place : IsFreeFor (slots_of (buckets_for m.bits) m.groups.items) c.args.key c.in-Free.bucket = subst (λ s. IsFreeFor s c.args.key c.in-Free.bucket) same_free
    (free_found (slots_of (2 ^ m.bits) c.as_slice.result.now) c.args.key c.in-Free.bucket c.probe-spot.result.at c.probe-spot.ensures.place c.in-Free.is) in
    record {
      bucket = c.in-Free.bucket;
      place = subst (λ s. IsFreeFor s c.args.key c.in-Free.bucket) (seen_slots m t c.self.invariant.table c.self.view_is) place;
      slots =
          ap (slots_of (buckets_for m.bits)) (written m.groups ws long)
          ∙ seen_new_key m t c.self.invariant.table c.self.view_is ws c.in-Free.bucket c.args.key c.args.value slots place;
    }

pub returns-in-Free-clause-memory : goal.returns-in-Free-clause-memory
returns-in-Free-clause-memory g c =
    let m = c.self.inside in
    let t = c.args.self.now in
    let ws = c.put-left.new.groups in
    let long : length ws ≡ vec_len m.groups = c.put-left.auto.groups ∙ c.as_mut_slice-in-Free.ensures.len in
    let sizes = ap sizes_of (written m.groups ws long) in
    let old = ap sizes_of c.as_mut_slice-in-Free.ensures.value in
    omega (arith, ap places_of sizes, ap places_of old, c.put-left.ensures.places, seen_memory m t c.self.invariant.table c.self.view_is)

pub returns-in-Free-clause-loose : goal.returns-in-Free-clause-loose
returns-in-Free-clause-loose g c =
    let m = c.self.inside in
    let t = c.args.self.now in
    let ws = c.put-left.new.groups in
    let long : length ws ≡ vec_len m.groups = c.put-left.auto.groups ∙ c.as_mut_slice-in-Free.ensures.len in
    let sizes = ap sizes_of (written m.groups ws long) in
    let old = ap sizes_of c.as_mut_slice-in-Free.ensures.value in
    let less = c.put-left.ensures.loose m.touched c.with-self-inside.result (λ none. c.with-self-inside.ensures.added (eq-eqb c.put-left.result 0 none)) c.with-self-inside.ensures.kept in
    omega (arith, ap (loose_of c.with-self-inside.result) sizes, ap (loose_of m.touched) old, less, seen_loose m t c.self.invariant.table c.self.view_is)

pub put-left-requires-clause-free : goal.put-left-requires-clause-free
put-left-requires-clause-free g c =
    let n = 2 ^ c.self.inside.bits in
    let us = c.as_slice.result.now in
    let b = c.in-Free.bucket in
    let place = free_found (slots_of n us) c.args.key b c.probe-spot.result.at c.probe-spot.ensures.place c.in-Free.is in
    ap (λ us. slot_at (all_slots us) b) (c.as_mut_slice-in-Free.ensures.value ∙ sym c.as_slice.ensures.value)
    ∙ sym (slot_below n us b (inside_table n us b place.inside))
    ∙ place.free

pub put-left-requires-clause-rank : goal.put-left-requires-clause-rank
put-left-requires-clause-rank g c =
    subst (λ us. IsRankOf us c.in-Free.bucket c.probe-spot.result.rank) (c.as_slice.ensures.value ∙ sym c.as_mut_slice-in-Free.ensures.value)
    (rank_free c.as_slice.result.now c.in-Free.bucket c.probe-spot.result.rank c.probe-spot.result.at c.probe-spot.ensures.rank c.in-Free.is)

pub probe-spot-requires : goal.probe-spot-requires
probe-spot-requires g c =
    let m = c.self.inside in
    record {
      table = kept_free_bucket m.bits m.len m.spare (vec_len m.stock) m.touched m.groups.items c.self.invariant.table c.as_slice.result.now c.as_slice.ensures.value
          (seen_ready m c.args.self.now c.self.invariant.table c.self.view_is c.args.key c.requires);
    }

pub replace-old-requires : goal.replace-old-requires
replace-old-requires g c =
    let us = c.as_slice.result.now in
    let b = c.in-Found.bucket in
    let spot = c.probe-spot in
    let same : us ≡ c.as_mut_slice.result.now = c.as_slice.ensures.value ∙ sym c.as_mut_slice.ensures.value in
    let has = key_found (slots_of (2 ^ c.self.inside.bits) us) c.args.key b spot.result.at spot.ensures.place c.in-Found.is in
    let rank = rank_found us b spot.result.rank spot.result.at spot.ensures.rank c.in-Found.is in
    record { seat = subst (λ ws. IsSeated ws b spot.result.rank) same (seated (2 ^ c.self.inside.bits) us b spot.result.rank c.args.key has rank) }

pub returns-in-Found-clause-buckets : goal.returns-in-Found-clause-buckets
returns-in-Found-clause-buckets g c =
    let m = c.self.inside in
    let t = c.args.self.now in
    let ws = c.replace-old.new.groups in
    let long : length ws ≡ vec_len m.groups = c.replace-old.auto.groups ∙ c.as_mut_slice.ensures.len in
    let slots = c.replace-old.ensures.slots ∙ ap (λ us. set (all_slots us) c.in-Found.bucket (Some (c.args.key, c.args.value))) c.as_mut_slice.ensures.value in
    let same_has = table_slots m.bits c.as_slice.result.now m.groups.items (seen_ready m c.args.self.now c.self.invariant.table c.self.view_is c.args.key c.requires) c.as_slice.ensures.value in
    let has = ap (λ s. key_at s c.in-Found.bucket) (sym same_has) ∙ (key_found (slots_of (2 ^ m.bits) c.as_slice.result.now) c.args.key c.in-Found.bucket c.probe-spot.result.at c.probe-spot.ensures.place c.in-Found.is) in
    ap length (ap (slots_of (buckets_for m.bits)) (written m.groups ws long)
    ∙ seen_value m t c.self.invariant.table c.self.view_is ws c.in-Found.bucket c.args.key c.args.value slots has)
    ∙ length-set t.slots c.in-Found.bucket (Some (c.args.key, c.args.value))

pub returns-in-Free-clause-buckets : goal.returns-in-Free-clause-buckets
returns-in-Free-clause-buckets g c =
    let m = c.self.inside in
    let t = c.args.self.now in
    let ws = c.put-left.new.groups in
    let long : length ws ≡ vec_len m.groups = c.put-left.auto.groups ∙ c.as_mut_slice-in-Free.ensures.len in
    let slots = c.put-left.ensures.slots ∙ ap (λ us. set (all_slots us) c.in-Free.bucket (Some (c.args.key, c.args.value))) c.as_mut_slice-in-Free.ensures.value in
    let same_free = table_slots m.bits c.as_slice.result.now m.groups.items (seen_ready m c.args.self.now c.self.invariant.table c.self.view_is c.args.key c.requires) c.as_slice.ensures.value in
    let place : IsFreeFor (slots_of (buckets_for m.bits) m.groups.items) c.args.key c.in-Free.bucket = subst (λ s. IsFreeFor s c.args.key c.in-Free.bucket) same_free
    (free_found (slots_of (2 ^ m.bits) c.as_slice.result.now) c.args.key c.in-Free.bucket c.probe-spot.result.at c.probe-spot.ensures.place c.in-Free.is) in
    ap length (ap (slots_of (buckets_for m.bits)) (written m.groups ws long)
    ∙ seen_new_key m t c.self.invariant.table c.self.view_is ws c.in-Free.bucket c.args.key c.args.value slots place)
    ∙ length-set t.slots c.in-Free.bucket (Some (c.args.key, c.args.value))
