-- Records applied one after the other, with room for all of them.
use Rattle.std.proofs.Common.{◌≡◌, ℕ, ◌+◌, ◌<◌, ◌≤◌, ◌==◌, Bool, true, false, cond, List, length, get_or, drop, Some, None, refl, sym, ◌∙◌, ap, ap₂, subst, arith}
use Rattle.std.specs.Prelude.{IsTrue}
use Rattle.std.specs.Bool.{OnTrue}
use Rattle.std.proofs.lemmas.List.{at_drop_more}
use Rattle.std.proofs.lemmas.List.Sums.{sum_by-drop_more}
use Rattle.ft_base.specs.declared.geometry.Geometry.{Geometry}
use Rattle.ft_base.specs.Layout.{most_page_records}
use Rattle.ft_base.specs.declared.record.Record.{Record}
use Rattle.ft_base.specs.declared.record.Record.TheVariants.{SetPage, Remove, Clean, SetGroup, RemoveGroup}
use Rattle.cache_model.specs.Records.{after}
use Rattle.cache_model.specs.Entries.{Fits, fits, IsMap}
use Rattle.cache_model.specs.Loading.{after_all}
use Rattle.cache_model.proofs.FitsLemmas.{fits-true, fits-from, after_all-map}
use Rattle.mapping.specs.MapValue.{MapValue, pages_taken, groups_taken}
use Rattle.mapping.specs.Room.{HasNoMoreRoom, KeepsBuckets, KeepsFewBuckets}
use Rattle.mapping.proofs.FewLemmas.{few_kept, few_of_page, keeps_then, keeps_reserved, IsReserved}
use Rattle.op_log.specs.Walk.{pages_needed, groups_needed, TakesRoom}

page_taken : (r : Record) → cond (pages_taken r == 1) 1 0 ≡ pages_taken r
page_taken (SetPage lba place dirty) = refl
page_taken (Remove lba) = refl
page_taken (Clean lba) = refl
page_taken (SetGroup group block present dirty) = refl
page_taken (RemoveGroup group) = refl

group_taken : (r : Record) → cond (groups_taken r == 1) 1 0 ≡ groups_taken r
group_taken (SetPage lba place dirty) = refl
group_taken (Remove lba) = refl
group_taken (Clean lba) = refl
group_taken (SetGroup group block present dirty) = refl
group_taken (RemoveGroup group) = refl

-- the first i records are applied
pub record AppliedSoFar (changes : List Record) (i : ℕ) (first now : MapValue) : Type 0 where
  pub geometry : now.geometry ≡ first.geometry
  pub entries : after_all first.geometry changes first.entries ≡ after_all first.geometry (drop i changes) now.entries

-- there is room for the other records
pub record AppliedWithRoom (changes : List Record) (i : ℕ) (first now : MapValue) : Type 0 where
  pub applied : AppliedSoFar changes i first now
  pub pages : pages_needed (drop i changes) ≤ now.spare_pages
  pub groups : groups_needed (drop i changes) ≤ now.spare_groups
  pub pages_gone : now.spare_pages + pages_needed changes ≡ first.spare_pages + pages_needed (drop i changes)
  pub groups_gone : now.spare_groups + groups_needed changes ≡ first.spare_groups + groups_needed (drop i changes)
  pub buckets : KeepsBuckets first now

-- the next record fits
fits_here : (changes : List Record) (i : ℕ) (r : Record) (first now : MapValue) → AppliedSoFar changes i first now → Fits now.geometry r now.entries → fits first.geometry r now.entries ≡ true
fits_here changes i r first now so fit = fits-from first.geometry r now.entries (subst (λ (g : Geometry). Fits g r now.entries) so.geometry fit)

module _ (changes : List Record) (i : ℕ) (d : Record) (within : i < length changes) where
  pages_left : pages_needed (drop i changes) ≡ pages_taken (get_or changes i d) + pages_needed (drop (i + 1) changes)
  pages_left = sum_by-drop_more (λ r. cond (pages_taken r == 1) 1 0) changes i d within ∙ ap (λ n. n + pages_needed (drop (i + 1) changes)) (page_taken (get_or changes i d))

  groups_left : groups_needed (drop i changes) ≡ groups_taken (get_or changes i d) + groups_needed (drop (i + 1) changes)
  groups_left = sum_by-drop_more (λ r. cond (groups_taken r == 1) 1 0) changes i d within ∙ ap (λ n. n + groups_needed (drop (i + 1) changes)) (group_taken (get_or changes i d))

  -- the records still to apply, with the next record in front
  next_first : (first now : MapValue) → AppliedSoFar changes i first now → after_all first.geometry changes first.entries ≡ cond (fits first.geometry (get_or changes i d) now.entries) (after_all first.geometry (drop (i + 1) changes) (after first.geometry (get_or changes i d) now.entries)) None
  next_first first now so = so.entries ∙ at_drop_more (λ rs. after_all first.geometry rs now.entries) changes i d within

  pub applied_refused : (first now : MapValue) → AppliedSoFar changes i first now → (Fits now.geometry (get_or changes i d) now.entries → ⊥) → after_all first.geometry changes first.entries ≡ None
  applied_refused first now so unfit = by_test (fits first.geometry (get_or changes i d) now.entries) refl
    where
      by_test : (b : Bool) → fits first.geometry (get_or changes i d) now.entries ≡ b → after_all first.geometry changes first.entries ≡ None
      by_test true t = absurd (unfit (subst (λ (g : Geometry). Fits g (get_or changes i d) now.entries) (sym so.geometry) (fits-true first.geometry (get_or changes i d) now.entries t)))
      by_test false t = next_first first now so ∙ ap (λ b. cond b (after_all first.geometry (drop (i + 1) changes) (after first.geometry (get_or changes i d) now.entries)) None) t

  -- a map that is ready for the record has the same entries, and `next` is the map after the record
  pub next_applied : (first now : MapValue) → AppliedSoFar changes i first now → (ready next : MapValue) → ready.geometry ≡ now.geometry → ready.entries ≡ now.entries
      → Fits now.geometry (get_or changes i d) now.entries → next.geometry ≡ ready.geometry → next.entries ≡ after ready.geometry (get_or changes i d) ready.entries → AppliedSoFar changes (i + 1) first next
  next_applied first now so ready next same_geometry same fit geometry entries =
      let r = get_or changes i d in
      let at_first : ready.geometry ≡ first.geometry = same_geometry ∙ so.geometry in
      let here : next.entries ≡ after first.geometry r now.entries = entries ∙ ap₂ (λ g m. after g r m) at_first same in
      record {
        geometry = geometry ∙ at_first;
        entries =
            next_first first now so
            ∙ ap (λ b. cond b (after_all first.geometry (drop (i + 1) changes) (after first.geometry r now.entries)) None) (fits_here changes i r first now so fit)
            ∙ ap (λ m. after_all first.geometry (drop (i + 1) changes) m) (sym here);
      }

  pub applied_more : (first now next : MapValue) → AppliedWithRoom changes i first now → Fits now.geometry (get_or changes i d) now.entries → next.geometry ≡ now.geometry
      → next.entries ≡ after now.geometry (get_or changes i d) now.entries → next.spare_pages + pages_taken (get_or changes i d) ≡ now.spare_pages
      → next.spare_groups + groups_taken (get_or changes i d) ≡ now.spare_groups → next.buckets ≡ now.buckets → next.group_buckets ≡ now.group_buckets
      → AppliedWithRoom changes (i + 1) first next
  applied_more first now next so fit geometry entries pages groups buckets group_buckets =
      let some = so.pages in
      let others = so.groups in
      let gone = so.pages_gone in
      let gone' = so.groups_gone in
      record {
        applied = next_applied first now so.applied now next refl refl fit geometry entries;
        pages = omega (arith, pages_left);
        groups = omega (arith, groups_left);
        pages_gone = omega (arith, pages_left);
        groups_gone = omega (arith, groups_left);
        buckets = record { pages = buckets ∙ so.buckets.pages; groups = group_buckets ∙ so.buckets.groups };
      }

-- ---- the room that is left

pub room_taken : (changes : List Record) (first old new : MapValue) → HasNoMoreRoom first old → TakesRoom changes old new → HasNoMoreRoom first new
room_taken changes first old new so took = let p = so.pages in let q = so.groups in let p' = took.pages in let q' = took.groups in record { pages = omega arith; groups = omega arith }

-- ---- the buckets

-- room was made for the records of a page, and then they took it
pub few_applied : (changes : List Record) (p q : ℕ) (old ready new : MapValue) → p ≤ most_page_records → q ≤ most_page_records → IsReserved p q old ready → new.geometry ≡ ready.geometry
    → HasNoMoreRoom ready new → KeepsBuckets ready new → after_all ready.geometry changes ready.entries ≡ Some new.entries → KeepsFewBuckets old new
few_applied changes p q old ready new few_p few_q reserved same room kept applied = keeps_then old ready new (keeps_reserved p q old ready few_p (few_of_page old.geometry q few_q) reserved) (record {
  is_map = λ is. subst (λ (g : Geometry). IsMap g new.entries) (sym same) (after_all-map ready.geometry changes ready.entries new.entries is applied);
  few = λ is few. few_kept ready new same room kept few;
})

-- the same for the answers of the calls
pub few_records : (changes : List Record) (applied : Bool) (p q : ℕ) (old ready new : MapValue) → p ≤ most_page_records → q ≤ most_page_records → IsReserved p q old ready → new.geometry ≡ ready.geometry
    → OnTrue applied (new.spare_pages + pages_needed changes ≡ ready.spare_pages) → OnTrue applied (new.spare_groups + groups_needed changes ≡ ready.spare_groups) → KeepsBuckets ready new
    → after_all ready.geometry changes ready.entries ≡ cond applied (Some new.entries) None → IsTrue applied → KeepsFewBuckets old new
few_records changes true p q old ready new few_p few_q reserved same pages groups kept value is =
    few_applied changes p q old ready new few_p few_q reserved same (record { pages = omega (arith, pages); groups = omega (arith, groups) }) kept value
few_records changes false p q old ready new few_p few_q reserved same pages groups kept value is = absurd (cc)
