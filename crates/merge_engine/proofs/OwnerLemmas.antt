-- The entries in a log block whose groups are merged.
use Rattle.std.proofs.Common.{◌≡◌, ℕ, ◌+◌, ◌<◌, ◌/◌, true, Some, inl, inr, sym, ◌∙◌, ap, subst, arith}
use Rattle.std.proofs.lemmas.Bool.{cases_lt}
use Rattle.std.specs.FinMap.{get}
use Rattle.ft_base.specs.declared.geometry.Geometry.{Geometry}
use Rattle.ft_base.specs.declared.block.Place.{Place}
use Rattle.cache_model.specs.Records.{Entries}
use Rattle.cache_model.specs.Entries.{IsMap}
use Rattle.mapping.specs.Numbers.{StandsNoneIn}
use Rattle.mapping.specs.Counts.{Owns}
use Rattle.log_blocks.specs.Logs.{IsInUse}
use Rattle.merge_engine.specs.declared.parts.Parts.{Parts}
use Rattle.merge_engine.specs.Agreement.{RolesAgree}
use Rattle.merge_engine.specs.Steps.{IsMerged, IsUnowned, PageMappedStay}
use Rattle.merge_engine.proofs.RoleLemmas.{log_page_mapped}

-- once the group of its owner is merged, no entry stands at a page of a log block
pub unowned_merged : (g : Geometry) (old : Entries) (new : Parts) (at : Place) (lba : ℕ) → IsMap g old → RolesAgree new → IsInUse new.log_blocks at.block → Owns old at lba
    → IsMerged g new.map.entries (lba / g.p) → PageMappedStay old new.map.entries → IsUnowned new.map.entries at
unowned_merged g old new at lba is_map roles used owns merged stay a e is here = elim (stay a e is) [
  | inl was ↦
      let one : a ≡ lba = is_map.apart a lba e owns.0 was owns.1 (here ∙ sym owns.2) in
      never (merged a e is (ap (λ n. n / g.p) one))
  | inr mapped ↦ never mapped
]
  where
    never : e.block_mapped ≡ true → ⊥
    never = log_page_mapped new roles a e is (subst (λ (p : Place). IsInUse new.log_blocks p.block) (sym here) used)

-- no entry stands at a page at which none did
pub unowned_still : (old : Entries) (new : Parts) (at : Place) → RolesAgree new → IsInUse new.log_blocks at.block → PageMappedStay old new.map.entries → IsUnowned old at → IsUnowned new.map.entries at
unowned_still old new at roles used stay none a e is here = elim (stay a e is) [
  | inl was ↦ none a e was here
  | inr mapped ↦ log_page_mapped new roles a e is (subst (λ (p : Place). IsInUse new.log_blocks p.block) (sym here) used) mapped
]

-- no entry stands at the first pages of an erase block
abbrev pub NoneBefore : Entries → ℕ → ℕ → Type 0
NoneBefore m block i = (page : ℕ) → page < i → IsUnowned m (record { block = block; page = page })

pub none_before-more : (m : Entries) (block i : ℕ) → NoneBefore m block i → IsUnowned m (record { block = block; page = i }) → NoneBefore m block (i + 1)
none_before-more m block i before here page low = elim (cases_lt page i) [
  | inl first ↦ before page first
  | inr last ↦ let same : page ≡ i = omega arith in subst (λ n. IsUnowned m (record { block = block; page = n })) (sym same) here
]

pub none_before-all : (g : Geometry) (m : Entries) (block : ℕ) → IsMap g m → NoneBefore m block g.p → StandsNoneIn m block
none_before-all g m block is_map before a e is here = before e.place.page (is_map.in_pool a e is).page a e is (ap (λ b. record { block = b; page = e.place.page }) here)

-- if no entry stands in a block, none stands at a page of it
pub unowned_in : (old now : Parts) (block page : ℕ) → now ≡ old → StandsNoneIn old.map.entries block → IsUnowned now.map.entries (record { block = block; page = page })
unowned_in old now block page same unheld a e is here = unheld a e (subst (λ (p : Parts). get p.map.entries a ≡ Some e) same is) (ap (λ (p : Place). p.block) here)
