use Rattle.std.proofs.Common.{◌≡◌, ◌+◌, ◌*◌, ◌≤◌, min, length, ap, sym, refl, eqb-true, ◌∙◌, subst, inl, inr, arith}
use Rattle.std.specs.Vec.{vec_len, with_items}
use Rattle.sparse_map.specs.declared.table.Touched.TheVariants.{Nowhere}
use Rattle.sparse_map.specs.Slots.{items_of}
use Rattle.sparse_map.specs.Home.{buckets_for}
use Rattle.sparse_map.specs.Groups.{all_slots, slots_of, lists_for}
use Rattle.sparse_map.specs.Moved.{items_in}
use Rattle.sparse_map.specs.Kept.{KeepsTable}
use Rattle.sparse_map.specs.Places.{sizes_of, places_of, loose_of, lacking, past_of}
use Rattle.sparse_map.specs.Seen.{seen_of}
use Rattle.sparse_map.proofs.BucketLemmas.{items_of-groups, same_table, table_same}
use Rattle.sparse_map.proofs.PlacesLemmas.{past-few, length-sizes, places-bound, stocked_for, stocked_still, bounded, bounds}
use Rattle.sparse_map.proofs.MapLemmas.{kept_len, kept_long, kept_few, kept_pairs, kept_lists}
use Rattle.sparse_map.proofs.ViewLemmas.{seen_len, seen_slots, seen_buckets, seen_loose}
use Rattle.sparse_map.proofs.ChangeLemmas.{written}
use Rattle.sparse_map.proofs.MoveLemmas.{kept_stocked}
use Rattle.sparse_map.proofs.map.SparseMap.stock_up.Goals as goal

pub invariant_of-self-in_err-fit_touched : goal.invariant_of-self-in_err-fit_touched
invariant_of-self-in_err-fit_touched g c =
    let m = c.self.inside in
    let t = c.args.self.now in
    let ws = c.fit_touched.new.groups in
    let blanks = vec_len c.add_blanks.new.stock in
    let same = ap sizes_of c.as_mut_slice.ensures.value in
    let written_long : length ws ≡ vec_len m.groups = c.fit_touched.auto.groups ∙ c.as_mut_slice.ensures.len in
    let seen = seen_buckets m t c.self.invariant.table c.self.view_is in
    let few : blanks ≤ lists_for (buckets_for m.bits) = omega (arith, c.add_blanks.ensures.few, c.blanks_for-wanted.ensures.few, c.len-lists.ensures, m.groups.ok.0, c.self.invariant.table.table.count, c.self.invariant.table.few_blanks) in
    let stocked : min m.spare (lacking m.spare Nowhere (sizes_of ws)) ≤ blanks = elim c.blanks_for-wanted.ensures.enough [
      | inl all ↦ stocked_for m.spare blanks (sizes_of ws)
          (inl (omega (arith, all, c.max-spare.ensures, c.in_ok-add_blanks.ensures.ok, c.len-lists.ensures, length-sizes ws, written_long)))
      | inr one ↦ stocked_still m.spare (vec_len m.stock) blanks (sizes_of m.groups.items) (sizes_of ws) (omega (arith, one.0, c.max-spare.ensures))
          (omega (arith, c.fit_touched.ensures.lacking, ap (lacking 1 Nowhere) same)) c.self.invariant.table.stocked c.add_blanks.ensures.kept
    ] in
    let kept = subst (λ us. KeepsTable m.bits m.len m.spare blanks c.fit_touched.new.touched us) (sym (written m.groups ws written_long))
    (kept_stocked m.bits m.len m.spare (vec_len m.stock) m.touched m.groups.items ws m.spare blanks c.fit_touched.new.touched c.self.invariant.table
    (c.fit_touched.ensures.slots ∙ ap all_slots c.as_mut_slice.ensures.value) c.self.invariant.table.room stocked (omega (arith, c.fit_touched.ensures.ready, ap (lacking 1 m.touched) same))
    (omega (arith, c.fit_touched.ensures.short, ap past_of same)) few) in
    let now = ap (λ us. loose_of c.fit_touched.new.touched (sizes_of us)) (written m.groups ws written_long) in
    record {
      table = kept;
      bound = bounded _ _ (omega (arith, c.fit_touched.ensures.counted, now));
      groups_fit = c.self.invariant.groups_fit;
      blanks_fit = omega (arith, c.add_blanks.ensures.room, c.blanks_for-wanted.ensures.few, c.len-lists.ensures, m.groups.ok.0, c.self.invariant.table.table.count, c.self.invariant.blanks_fit);
    }

pub invariant_of-self-2 : goal.invariant_of-self-2
invariant_of-self-2 g c =
    let m = c.self.inside in
    let t = c.args.self.now in
    let ws = c.fit_touched.new.groups in
    let after = c.fit_touched.new.touched in
    let blanks = vec_len c.truncate.new.self in
    let same = ap sizes_of c.as_mut_slice.ensures.value in
    let written_long : length ws ≡ vec_len m.groups = c.fit_touched.auto.groups ∙ c.as_mut_slice.ensures.len in
    let len = seen_len m t c.self.invariant.table c.self.view_is in
    let seen = seen_buckets m t c.self.invariant.table c.self.view_is in
    let room : 4 * (m.len + c.max-spare.result) ≤ 3 * buckets_for m.bits = omega (arith, c.max-spare.ensures, c.requires, len, seen, c.self.invariant.table.room) in
    let few : blanks ≤ lists_for (buckets_for m.bits) = omega (arith, c.blanks_for-wanted.ensures.few, c.truncate.ensures.len, c.in_ok-add_blanks.ensures.ok, c.len-lists.ensures, m.groups.ok.0, c.self.invariant.table.table.count) in
    let ready : lacking 1 after (sizes_of ws) ≤ lacking 1 m.touched (sizes_of m.groups.items) = omega (arith, c.fit_touched.ensures.ready, ap (lacking 1 m.touched) same) in
    let stocked : min c.max-spare.result (lacking c.max-spare.result Nowhere (sizes_of ws)) ≤ blanks = elim c.blanks_for-wanted.ensures.enough [
      | inl all ↦ stocked_for c.max-spare.result blanks (sizes_of ws)
          (inl (omega (arith, all, c.truncate.ensures.len, c.in_ok-add_blanks.ensures.ok, c.len-lists.ensures, length-sizes ws, written_long)))
      | inr one ↦
          let settled = ap (λ x. lacking 1 x (sizes_of ws)) (c.in_ok-fit_touched.ensures.settled one.1) in
          stocked_for c.max-spare.result blanks (sizes_of ws) (inr (one.0, omega (arith, settled, ready, c.self.invariant.table.ready)))
    ] in
    let kept = subst (λ us. KeepsTable m.bits m.len c.max-spare.result blanks after us) (sym (written m.groups ws written_long))
    (kept_stocked m.bits m.len m.spare (vec_len m.stock) m.touched m.groups.items ws c.max-spare.result blanks after c.self.invariant.table
    (c.fit_touched.ensures.slots ∙ ap all_slots c.as_mut_slice.ensures.value) room stocked ready
    (omega (arith, c.fit_touched.ensures.short, ap past_of same)) few) in
    let now = ap (λ us. loose_of after (sizes_of us)) (written m.groups ws written_long) in
    record {
      table = kept;
      bound = bounded _ _ (omega (arith, c.fit_touched.ensures.counted, now));
      groups_fit = c.self.invariant.groups_fit;
      blanks_fit = omega (arith, c.add_blanks.ensures.room, c.truncate.ensures.capacity, c.blanks_for-wanted.ensures.few, c.len-lists.ensures, m.groups.ok.0, c.self.invariant.table.table.count, c.self.invariant.blanks_fit);
    }

pub returns-in_err-fit_touched-clause-slots : goal.returns-in_err-fit_touched-clause-slots
returns-in_err-fit_touched-clause-slots g c =
    let m = c.self.inside in
    let ws = c.fit_touched.new.groups in
    let written_long : length ws ≡ vec_len m.groups = c.fit_touched.auto.groups ∙ c.as_mut_slice.ensures.len in
    ap (slots_of (buckets_for m.bits)) (written m.groups ws written_long)
    ∙ same_table (buckets_for m.bits) m.groups.items ws (c.fit_touched.ensures.slots ∙ ap all_slots c.as_mut_slice.ensures.value)
    ∙ seen_slots m c.args.self.now c.self.invariant.table c.self.view_is

pub returns-clause-slots : goal.returns-clause-slots
returns-clause-slots g c =
    let m = c.self.inside in
    let ws = c.fit_touched.new.groups in
    let written_long : length ws ≡ vec_len m.groups = c.fit_touched.auto.groups ∙ c.as_mut_slice.ensures.len in
    ap (slots_of (buckets_for m.bits)) (written m.groups ws written_long)
    ∙ same_table (buckets_for m.bits) m.groups.items ws (c.fit_touched.ensures.slots ∙ ap all_slots c.as_mut_slice.ensures.value)
    ∙ seen_slots m c.args.self.now c.self.invariant.table c.self.view_is

pub returns-clause-fitted : goal.returns-clause-fitted
returns-clause-fitted g c =
    let m = c.self.inside in
    let n = buckets_for m.bits in
    let ws = c.fit_touched.new.groups in
    let after = c.fit_touched.new.touched in
    let written_long : length ws ≡ vec_len m.groups = c.fit_touched.auto.groups ∙ c.as_mut_slice.ensures.len in
    let now = written m.groups ws written_long in
    let all = c.fit_touched.ensures.slots ∙ ap all_slots c.as_mut_slice.ensures.value in
    let slots = same_table n m.groups.items ws all in
    let table = table_same n m.groups.items ws all c.self.invariant.table.table in
    let count : length (items_of (slots_of n ws)) ≡ length (items_in ws) = ap length (items_of-groups n ws table.rest) in
    let same : length (items_of (slots_of n ws)) ≡ length (items_of (slots_of n m.groups.items)) = ap (λ s. length (items_of s)) slots in
    let len = kept_len m.bits m.len m.spare (vec_len m.stock) m.touched m.groups.items c.self.invariant.table
    (seen_of m.bits (with_items m.groups ws).items c.max-spare.result (vec_len c.truncate.new.self) after m.peak) (ap (slots_of n) now ∙ slots) in
    let sizes = ap sizes_of now in
    let long : length (slots_of n (with_items m.groups ws).items) ≡ n =
    ap length (ap (slots_of n) now ∙ slots) ∙ kept_long m.bits m.len m.spare (vec_len m.stock) m.touched m.groups.items c.self.invariant.table in
    let few = kept_few m.bits m.len m.spare (vec_len m.stock) m.touched m.groups.items c.self.invariant.table in
    record {
      places = omega (arith, places-bound ws, c.in_ok-fit_touched.ensures.none_loose, count, same, c.self.invariant.table.counted, len, ap places_of sizes, ap (loose_of after) sizes, long, table.count, few);
      loose = omega (arith, (bounds _ _ (bounded _ _ c.fit_touched.ensures.counted)), c.in_ok-fit_touched.ensures.few, ap (loose_of after) sizes, long, kept_pairs m.bits m.len m.spare (vec_len m.stock) m.touched m.groups.items c.self.invariant.table, c.as_mut_slice.ensures.len, m.groups.ok.0, c.self.invariant.table.table.count);
      blanks = omega (arith, c.blanks_for-wanted.ensures.few, c.truncate.ensures.len, c.in_ok-add_blanks.ensures.ok, c.len-lists.ensures, m.groups.ok.0, c.self.invariant.table.table.count, long);
    }

pub returns-clause-loose : goal.returns-clause-loose
returns-clause-loose g c =
    let m = c.self.inside in
    let t = c.args.self.now in
    let ws = c.fit_touched.new.groups in
    let written_long : length ws ≡ vec_len m.groups = c.fit_touched.auto.groups ∙ c.as_mut_slice.ensures.len in
    let after = ap (λ us. loose_of c.fit_touched.new.touched (sizes_of us)) (written m.groups ws written_long) in
    let before = ap (λ us. loose_of m.touched (sizes_of us)) c.as_mut_slice.ensures.value in
    let long = c.as_mut_slice.ensures.len ∙ m.groups.ok.0 ∙ c.self.invariant.table.table.count in
    let few = kept_pairs m.bits m.len m.spare (vec_len m.stock) m.touched m.groups.items c.self.invariant.table in
    omega (arith, after, c.fit_touched.ensures.loose, before, long, few, seen_loose m t c.self.invariant.table c.self.view_is)

pub invariant_of-self : goal.invariant_of-self
invariant_of-self g c =
    let m = c.self.inside in
    let t = c.args.self.now in
    let sizes = sizes_of m.groups.items in
    let blanks = vec_len m.stock in
    let len = seen_len m t c.self.invariant.table c.self.view_is in
    let seen = seen_buckets m t c.self.invariant.table c.self.view_is in
    let room : 4 * (m.len + c.max-spare.result) ≤ 3 * buckets_for m.bits = omega (arith, c.max-spare.ensures, c.requires, len, seen, c.self.invariant.table.room) in
    let none = ap (λ x. lacking 1 x sizes) c.in-Nowhere.is in
    let stocked : min c.max-spare.result (lacking c.max-spare.result Nowhere sizes) ≤ blanks =
    stocked_for c.max-spare.result blanks sizes (inr (c.if-spare-le1.true, omega (arith, none, c.self.invariant.table.ready))) in
    record {
      table = kept_stocked m.bits m.len m.spare blanks m.touched m.groups.items m.groups.items c.max-spare.result blanks m.touched c.self.invariant.table refl room stocked (omega arith) (omega arith) c.self.invariant.table.few_blanks;
      bound = c.self.invariant.bound;
      groups_fit = c.self.invariant.groups_fit;
      blanks_fit = c.self.invariant.blanks_fit;
    }

pub returns-in-Nowhere-clause-fitted : goal.returns-in-Nowhere-clause-fitted
returns-in-Nowhere-clause-fitted g c =
    let m = c.self.inside in
    let n = buckets_for m.bits in
    let us = m.groups.items in
    let count : length (items_of (slots_of n us)) ≡ length (items_in us) = ap length (items_of-groups n us c.self.invariant.table.table.rest) in
    let len = kept_len m.bits m.len m.spare (vec_len m.stock) m.touched us c.self.invariant.table
    (seen_of m.bits us c.max-spare.result (vec_len m.stock) m.touched m.peak) refl in
    let long = kept_long m.bits m.len m.spare (vec_len m.stock) m.touched us c.self.invariant.table in
    let few = kept_few m.bits m.len m.spare (vec_len m.stock) m.touched us c.self.invariant.table in
    let settled = ap (λ x. loose_of x (sizes_of us)) c.in-Nowhere.is in
    record {
      places = omega (arith, places-bound us, settled, count, c.self.invariant.table.counted, len, long, c.self.invariant.table.table.count, few);
      loose = omega (arith, settled, (bounds _ _ c.self.invariant.bound), long, kept_pairs m.bits m.len m.spare (vec_len m.stock) m.touched us c.self.invariant.table, c.len-lists.ensures, m.groups.ok.0, c.self.invariant.table.table.count);
      blanks = omega (arith, eqb-true (vec_len m.stock) 0 (sym c.is_empty.ensures ∙ c.if-is_empty.true), long);
    }

pub returns-in_err-fit_touched-clause-loose : goal.returns-in_err-fit_touched-clause-loose
returns-in_err-fit_touched-clause-loose g c =
    let m = c.self.inside in
    let t = c.args.self.now in
    let ws = c.fit_touched.new.groups in
    let written_long : length ws ≡ vec_len m.groups = c.fit_touched.auto.groups ∙ c.as_mut_slice.ensures.len in
    let after = ap (λ us. loose_of c.fit_touched.new.touched (sizes_of us)) (written m.groups ws written_long) in
    let before = ap (λ us. loose_of m.touched (sizes_of us)) c.as_mut_slice.ensures.value in
    let long = c.as_mut_slice.ensures.len ∙ m.groups.ok.0 ∙ c.self.invariant.table.table.count in
    let few = kept_pairs m.bits m.len m.spare (vec_len m.stock) m.touched m.groups.items c.self.invariant.table in
    omega (arith, after, c.fit_touched.ensures.loose, before, long, few, seen_loose m t c.self.invariant.table c.self.view_is)

pub fit_touched-requires-clause-small : goal.fit_touched-requires-clause-small
fit_touched-requires-clause-small g c =
    let m = c.self.inside in
    omega (arith, c.as_mut_slice.ensures.len, m.groups.ok.0, c.self.invariant.table.table.count, kept_lists m.bits m.len m.spare (vec_len m.stock) m.touched m.groups.items c.self.invariant.table)

pub fit_touched-requires-clause-counted : goal.fit_touched-requires-clause-counted
fit_touched-requires-clause-counted g c =
    let m = c.self.inside in
    let before = ap (λ us. loose_of m.touched (sizes_of us)) c.as_mut_slice.ensures.value in
    omega (arith, before, (bounds _ _ c.self.invariant.bound))

-- ---- at most 65 places a list, and at most as many blank lists as lists
pub most_beyond-requires : goal.most_beyond-requires
most_beyond-requires g c =
    let m = c.self.inside in
    omega (arith, c.len-lists.ensures, m.groups.ok.0, c.self.invariant.table.table.count, kept_lists m.bits m.len m.spare (vec_len m.stock) m.touched m.groups.items c.self.invariant.table)

pub returns-in-Nowhere-clause-places : goal.returns-in-Nowhere-clause-places
returns-in-Nowhere-clause-places g c =
    let m = c.self.inside in
    let us = m.groups.items in
    omega (arith, past-few (sizes_of us) c.self.invariant.table.short, length-sizes us, c.self.invariant.table.table.count, kept_long m.bits m.len m.spare (vec_len m.stock) m.touched us c.self.invariant.table)

pub returns-in-Nowhere-clause-blanks : goal.returns-in-Nowhere-clause-blanks
returns-in-Nowhere-clause-blanks g c =
    let m = c.self.inside in
    omega (arith, c.self.invariant.table.few_blanks, kept_long m.bits m.len m.spare (vec_len m.stock) m.touched m.groups.items c.self.invariant.table)

pub returns-in_err-add_blanks-clause-places : goal.returns-in_err-add_blanks-clause-places
returns-in_err-add_blanks-clause-places g c =
    let m = c.self.inside in
    let us = m.groups.items in
    omega (arith, past-few (sizes_of us) c.self.invariant.table.short, length-sizes us, c.self.invariant.table.table.count, kept_long m.bits m.len m.spare (vec_len m.stock) m.touched us c.self.invariant.table)

pub returns-in_err-add_blanks-clause-blanks : goal.returns-in_err-add_blanks-clause-blanks
returns-in_err-add_blanks-clause-blanks g c =
    let m = c.self.inside in
    omega (arith, c.add_blanks.ensures.few, c.blanks_for-wanted.ensures.few, c.len-lists.ensures, m.groups.ok.0, c.self.invariant.table.table.count, c.self.invariant.table.few_blanks, kept_long m.bits m.len m.spare (vec_len m.stock) m.touched m.groups.items c.self.invariant.table)

pub returns-in_err-fit_touched-clause-places : goal.returns-in_err-fit_touched-clause-places
returns-in_err-fit_touched-clause-places g c =
    let m = c.self.inside in
    let n = buckets_for m.bits in
    let ws = c.fit_touched.new.groups in
    let written_long : length ws ≡ vec_len m.groups = c.fit_touched.auto.groups ∙ c.as_mut_slice.ensures.len in
    let now = written m.groups ws written_long in
    let slots = same_table n m.groups.items ws (c.fit_touched.ensures.slots ∙ ap all_slots c.as_mut_slice.ensures.value) in
    let long : length (slots_of n (with_items m.groups ws).items) ≡ n =
    ap length (ap (slots_of n) now ∙ slots) ∙ kept_long m.bits m.len m.spare (vec_len m.stock) m.touched m.groups.items c.self.invariant.table in
    let short : past_of (sizes_of ws) ≡ 0 = omega (arith, c.fit_touched.ensures.short, ap (λ us. past_of (sizes_of us)) c.as_mut_slice.ensures.value, c.self.invariant.table.short) in
    omega (arith, past-few (sizes_of ws) short, length-sizes ws, written_long, m.groups.ok.0, c.self.invariant.table.table.count, ap (λ us. places_of (sizes_of us)) now, long)

pub returns-in_err-fit_touched-clause-blanks : goal.returns-in_err-fit_touched-clause-blanks
returns-in_err-fit_touched-clause-blanks g c =
    let m = c.self.inside in
    let n = buckets_for m.bits in
    let ws = c.fit_touched.new.groups in
    let written_long : length ws ≡ vec_len m.groups = c.fit_touched.auto.groups ∙ c.as_mut_slice.ensures.len in
    let slots = same_table n m.groups.items ws (c.fit_touched.ensures.slots ∙ ap all_slots c.as_mut_slice.ensures.value) in
    let long : length (slots_of n (with_items m.groups ws).items) ≡ n =
    ap length (ap (slots_of n) (written m.groups ws written_long) ∙ slots) ∙ kept_long m.bits m.len m.spare (vec_len m.stock) m.touched m.groups.items c.self.invariant.table in
    omega (arith, c.add_blanks.ensures.few, c.blanks_for-wanted.ensures.few, c.len-lists.ensures, m.groups.ok.0, c.self.invariant.table.table.count, c.self.invariant.table.few_blanks, long)

pub returns-clause-places : goal.returns-clause-places
returns-clause-places g c =
    let m = c.self.inside in
    let n = buckets_for m.bits in
    let ws = c.fit_touched.new.groups in
    let written_long : length ws ≡ vec_len m.groups = c.fit_touched.auto.groups ∙ c.as_mut_slice.ensures.len in
    let now = written m.groups ws written_long in
    let slots = same_table n m.groups.items ws (c.fit_touched.ensures.slots ∙ ap all_slots c.as_mut_slice.ensures.value) in
    let long : length (slots_of n (with_items m.groups ws).items) ≡ n =
    ap length (ap (slots_of n) now ∙ slots) ∙ kept_long m.bits m.len m.spare (vec_len m.stock) m.touched m.groups.items c.self.invariant.table in
    let short : past_of (sizes_of ws) ≡ 0 = omega (arith, c.fit_touched.ensures.short, ap (λ us. past_of (sizes_of us)) c.as_mut_slice.ensures.value, c.self.invariant.table.short) in
    omega (arith, past-few (sizes_of ws) short, length-sizes ws, written_long, m.groups.ok.0, c.self.invariant.table.table.count, ap (λ us. places_of (sizes_of us)) now, long)

pub returns-clause-blanks : goal.returns-clause-blanks
returns-clause-blanks g c =
    let m = c.self.inside in
    let n = buckets_for m.bits in
    let ws = c.fit_touched.new.groups in
    let written_long : length ws ≡ vec_len m.groups = c.fit_touched.auto.groups ∙ c.as_mut_slice.ensures.len in
    let slots = same_table n m.groups.items ws (c.fit_touched.ensures.slots ∙ ap all_slots c.as_mut_slice.ensures.value) in
    let long : length (slots_of n (with_items m.groups ws).items) ≡ n =
    ap length (ap (slots_of n) (written m.groups ws written_long) ∙ slots) ∙ kept_long m.bits m.len m.spare (vec_len m.stock) m.touched m.groups.items c.self.invariant.table in
    omega (arith, c.blanks_for-wanted.ensures.few, c.truncate.ensures.len, c.in_ok-add_blanks.ensures.ok, c.len-lists.ensures, m.groups.ok.0, c.self.invariant.table.table.count, long)
