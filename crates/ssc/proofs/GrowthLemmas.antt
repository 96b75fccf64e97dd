-- How many buckets the map has after a write.
use Rattle.std.proofs.Common.{◌≡◌, ◌+◌, ℕ, true, false, inl, inr, refl, sym, ◌∙◌, ap, subst}
use Rattle.std.proofs.lemmas.Bool.{cases_Bool}
use Rattle.mapping.specs.MapValue.{MapValue}
use Rattle.mapping.specs.Room.{GrewForPages, GrewForGroups, KeepsBuckets}
use Rattle.merge_engine.specs.declared.parts.Parts.{Parts}
use Rattle.ssc.specs.declared.cache.Ssc.{Ssc}
use Rattle.ssc.specs.CacheState.{IsAsBefore, TookRoom}
use Rattle.ssc.specs.Kept.{GrewForWrite}

pub grew_still : (parts : Parts) → GrewForWrite parts parts
grew_still parts = record { pages = inl refl; groups = inl refl }

pub grew_refused : (c d : Ssc) → IsAsBefore c d → GrewForWrite c.parts d.parts
grew_refused c d as_before = record { pages = as_before.buckets; groups = inl (ap (λ (m : MapValue). m.group_buckets) as_before.map) }

grew_taken : (old ready new : Parts) → TookRoom old ready → KeepsBuckets ready.map new.map → GrewForWrite old new
grew_taken old ready new took kept = record {
  pages = inr (subst (λ n. GrewForPages old.map new.map n) took.pages
      (subst (λ b. GrewForPages old.map (record new.map { buckets = b }) ready.map.spare_pages) (sym kept.pages) took.buckets));
  groups = inr (subst (λ n. GrewForGroups old.map new.map n) took.groups
      (subst (λ b. GrewForGroups old.map (record new.map { group_buckets = b }) ready.map.spare_groups) (sym kept.groups) took.group_buckets));
}

-- the room was there, or was taken; the step after that left the buckets
pub grew_written : (c d : Ssc) (new : Parts) → (c.ready ≡ true → d ≡ c) → (c.ready ≡ false → TookRoom c.parts d.parts) → KeepsBuckets d.parts.map new.map → GrewForWrite c.parts new
grew_written c d new there took kept = elim (cases_Bool c.ready) [
  | inl is ↦ record {
    pages = inl (kept.pages ∙ ap (λ (k : Ssc). k.parts.map.buckets) (there is));
    groups = inl (kept.groups ∙ ap (λ (k : Ssc). k.parts.map.group_buckets) (there is));
  }
  | inr not_yet ↦ grew_taken c.parts d.parts new (took not_yet) kept
]
