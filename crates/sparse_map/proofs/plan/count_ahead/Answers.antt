use Rattle.std.proofs.Common.{◌≡◌, ℕ, ◌+◌, ◌/◌, ◌^◌, Bool, List, false, length, get_or, refl, sym, ap, ◌∙◌, subst, inl, inr, arith}
use Rattle.std.specs.Prelude.{replicate}
use Rattle.std.specs.Vec.{vec_len}
use Rattle.std.proofs.lemmas.List.{get_or_past, get_or-replicate, length-replicate}
use Rattle.std.proofs.lemmas.Bool.{cases_lt}
use Rattle.sparse_map.specs.Groups.{lists_for}
use Rattle.sparse_map.specs.Moved.{items_in}
use Rattle.sparse_map.specs.Plan.{Plan, planned, with_items, blank_plan, rooms_of}
use Rattle.sparse_map.specs.Heirs.{all_brought, AreClear, AllAreNoted}
use Rattle.sparse_map.proofs.HomeLemmas.{shifted_one}
use Rattle.sparse_map.proofs.ChangeLemmas.{written}
use Rattle.sparse_map.proofs.HeirLemmas.{chosen_heir, no_heir}
use Rattle.sparse_map.proofs.plan.count_ahead.Goals as goal

none_noted : (s : List Bool) (n q : ℕ) → s ≡ replicate n false → get_or s q false ≡ false
none_noted s n q e = elim (cases_lt q n) [
  | inl lt ↦ ap (λ r. get_or r q false) e ∙ get_or-replicate n q false false lt
  | inr past ↦ get_or_past s q false (omega (arith, past, ap length e, length-replicate n false))
]

pub mark_groups-requires-clause-groups : goal.mark_groups-requires-clause-groups
mark_groups-requires-clause-groups g c =
    omega (arith, c.as_mut_slice-2.ensures.len, c.in_ok-counts.ensures.len, c.bucket_count-buckets.ensures.count)

pub mark_groups-requires-clause-level : goal.mark_groups-requires-clause-level
mark_groups-requires-clause-level g c =
    omega (arith, c.as_mut_slice-2.ensures.len, c.in_ok-counts.ensures.len, c.as_mut_slice-3.ensures.len, c.in_ok-clear.ensures.len)

pub mark_groups-requires-clause-none : goal.mark_groups-requires-clause-none
mark_groups-requires-clause-none g c =
    λ q. none_noted c.as_mut_slice-3.result.now ((c.bucket_count-buckets.result + 32) / 64) q (c.as_mut_slice-3.ensures.value ∙ c.in_ok-clear.ensures.items)

pub heirs_of-requires-clause-level : goal.heirs_of-requires-clause-level
heirs_of-requires-clause-level g c =
    let counts_long : length c.mark_groups.new.counts ≡ vec_len c.in_ok-counts.counts = c.mark_groups.auto.counts ∙ c.as_mut_slice-2.ensures.len in
    let clear_long : length c.mark_groups.new.clear ≡ vec_len c.in_ok-clear.clear = c.mark_groups.auto.clear ∙ c.as_mut_slice-3.ensures.len in
    let counts = ap length (c.as_slice.ensures.value ∙ written c.in_ok-counts.counts c.mark_groups.new.counts counts_long) in
    let clear = ap length (c.as_slice-2.ensures.value ∙ written c.in_ok-clear.clear c.mark_groups.new.clear clear_long) in
    omega (arith, counts, clear, counts_long, clear_long, c.in_ok-counts.ensures.len, c.in_ok-clear.ensures.len)

pub heirs_of-requires-clause-small : goal.heirs_of-requires-clause-small
heirs_of-requires-clause-small g c =
    let counts_long : length c.mark_groups.new.counts ≡ vec_len c.in_ok-counts.counts = c.mark_groups.auto.counts ∙ c.as_mut_slice-2.ensures.len in
    let counts = ap length (c.as_slice.ensures.value ∙ written c.in_ok-counts.counts c.mark_groups.new.counts counts_long) in
    let most = (shifted_one c.args.bits c.requires.size.few).1 in
    omega (arith, counts, counts_long, most, c.in_ok-counts.ensures.len, c.bucket_count-buckets.ensures.count)

pub returns-clause-len : goal.returns-clause-len
returns-clause-len g c =
    let ws = c.mark_groups.new.counts in
    let long : length ws ≡ vec_len c.in_ok-counts.counts = c.mark_groups.auto.counts ∙ c.as_mut_slice-2.ensures.len in
    let now = ap length (written c.in_ok-counts.counts ws long) in
    omega (arith, now, long, c.in_ok-counts.ensures.len, c.bucket_count-buckets.ensures.count)

pub returns-clause-heirs : goal.returns-clause-heirs
returns-clause-heirs g c =
    let n = 2 ^ c.args.bits in
    let us = c.args.groups.now in
    let buckets = c.bucket_count-buckets.ensures.count in
    let marks : c.as_mut_slice.result.now ≡ replicate n false =
    c.as_mut_slice.ensures.value ∙ c.in_ok-marks.ensures.items ∙ ap (λ k. replicate k false) buckets in
    let zeros : c.as_mut_slice-2.result.now ≡ replicate (lists_for n) 0 =
    c.as_mut_slice-2.ensures.value ∙ c.in_ok-counts.ensures.items ∙ ap (λ k. replicate (lists_for k) 0) buckets in
    let start : planned c.as_mut_slice.result.now c.as_mut_slice-2.result.now ≡ blank_plan n = λ i. planned (marks i) (zeros i) in
    let counts_long : length c.mark_groups.new.counts ≡ vec_len c.in_ok-counts.counts = c.mark_groups.auto.counts ∙ c.as_mut_slice-2.ensures.len in
    let clear_long : length c.mark_groups.new.clear ≡ vec_len c.in_ok-clear.clear = c.mark_groups.auto.clear ∙ c.as_mut_slice-3.ensures.len in
    let counted : c.as_slice.result.now ≡ (with_items n (blank_plan n) (items_in us)).counts =
    c.as_slice.ensures.value
    ∙ written c.in_ok-counts.counts c.mark_groups.new.counts counts_long
    ∙ ap (λ (p : Plan). p.counts) c.mark_groups.ensures.plan
    ∙ ap (λ p. (with_items n p (items_in us)).counts) start in
    let noted : c.as_slice-2.result.now ≡ c.mark_groups.new.clear = c.as_slice-2.ensures.value ∙ written c.in_ok-clear.clear c.mark_groups.new.clear clear_long in
    let clear : AreClear n (blank_plan n) us (length us) c.as_slice-2.result.now =
    subst (λ l. AreClear n (blank_plan n) us (length us) l) (sym noted)
    (subst (λ p. AreClear n p us (length us) c.mark_groups.new.clear) start c.mark_groups.ensures.clear) in
    let all : AllAreNoted n (blank_plan n) us (length us) c.as_slice-2.result.now =
    subst (λ l. AllAreNoted n (blank_plan n) us (length us) l) (sym noted)
    (subst (λ p. AllAreNoted n p us (length us) c.mark_groups.new.clear) start c.mark_groups.ensures.all) in
    let counts = ap length (c.as_slice.ensures.value ∙ written c.in_ok-counts.counts c.mark_groups.new.counts counts_long) in
    let long : length c.as_slice.result.now ≡ length (replicate (lists_for n) 0) =
    omega (arith, counts, counts_long, c.in_ok-counts.ensures.len, length-replicate {A = ℕ} (lists_for n) 0, buckets) in
    let level : length c.as_slice-2.result.now ≡ length (replicate (lists_for n) 0) =
    omega (arith, ap length noted, clear_long, c.in_ok-clear.ensures.len, length-replicate {A = ℕ} (lists_for n) 0, buckets) in
    record {
      level = c.in_ok-heirs.ensures.level;
      each = λ s q is. chosen_heir n (blank_plan n) us (rooms_of us) c.as_slice.result.now c.as_slice-2.result.now (length us) s q refl counted level clear (c.in_ok-heirs.ensures.heirs s q is);
      others = λ s inside none. no_heir n (blank_plan n) us c.as_slice.result.now c.as_slice-2.result.now c.in_ok-heirs.heirs.items s counted long inside all (c.in_ok-heirs.ensures.kept s inside none);
    }

pub returns-clause-few : goal.returns-clause-few
returns-clause-few g c =
    let counts_long : length c.mark_groups.new.counts ≡ vec_len c.in_ok-counts.counts = c.mark_groups.auto.counts ∙ c.as_mut_slice-2.ensures.len in
    let counts = ap length (c.as_slice.ensures.value ∙ written c.in_ok-counts.counts c.mark_groups.new.counts counts_long) in
    let long : length c.as_slice.result.now ≡ lists_for (2 ^ c.args.bits) = omega (arith, counts, counts_long, c.in_ok-counts.ensures.len, c.bucket_count-buckets.ensures.count) in
    let read = ap (λ l. all_brought (rooms_of c.args.groups.now) l c.in_ok-heirs.heirs.items (length c.args.groups.now)) c.as_slice.ensures.value in
    omega (arith, read, c.in_ok-heirs.ensures.few, ap (λ k. k / 2) long)
