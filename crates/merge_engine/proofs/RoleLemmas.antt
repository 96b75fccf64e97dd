-- The meaning of the pool's roles for the entries.
use Rattle.std.proofs.Common.{◌≡◌, ℕ, ◌-◌, ◌≤◌, true, length, Option, Some, None, IfSome, inl, inr, refl, sym, ◌∙◌, ap, subst, arith}
use Rattle.std.specs.FinMap.{get}
use Rattle.std.specs.Option.{unwrap_or}
use Rattle.std.proofs.lemmas.Bool.{cases_Bool}
use Rattle.cache_model.specs.declared.entry.Entry.{Entry}
use Rattle.mapping.specs.Numbers.{StandsNoneIn}
use Rattle.block_pool.specs.Pool.{IsFree, IsInPool, role_of}
use Rattle.block_pool.specs.declared.pool.Role.TheVariants.{Free, Data, Log}
use Rattle.ft_base.specs.declared.geometry.Geometry.{Geometry}
use Rattle.log_blocks.specs.Logs.{LogBlocksValue, IsInUse, last_of, append_place}
use Rattle.log_blocks.specs.Logs as list
use Rattle.log_blocks.proofs.LogsLemmas.{is_in-at}
use Rattle.merge_engine.specs.declared.parts.Parts.{Parts}
use Rattle.merge_engine.specs.Agreement.{AreOfOne, RolesAgree}

-- a free block of the pool is one of this geometry
pub free_in_pool : (parts : Parts) → AreOfOne parts → (b : ℕ) → IsFree parts.pool b → IsInPool parts.geometry b
free_in_pool parts one b free = subst (λ (g : Geometry). IsInPool g b) one.pool free.0

-- no entry stands in a free block
pub free_unheld : (parts : Parts) → AreOfOne parts → RolesAgree parts → (b : ℕ) → IsFree parts.pool b → StandsNoneIn parts.map.entries b
free_unheld parts one roles b free a e is here = elim (cases_Bool e.block_mapped) [
  | inl t ↦ let kind : role_of parts.pool b ≡ Data = (roles.data_blocks b in_pool).1 (a, e, is, t, here) in let both : Data ≡ Free = sym kind ∙ free.1 in cc
  | inr f ↦ let log : role_of parts.pool b ≡ Log = (roles.log_blocks b in_pool).1 (subst (λ n. IsInUse parts.log_blocks n) here (roles.page_mapped a e is f)) in let both : Log ≡ Free = sym log ∙ free.1 in cc
]
  where
    in_pool : IsInPool parts.geometry b
    in_pool = free_in_pool parts one b free

-- a free block is no log block
pub free_not_in_use : (parts : Parts) → AreOfOne parts → RolesAgree parts → (b : ℕ) → IsFree parts.pool b → IsInUse parts.log_blocks b → ⊥
free_not_in_use parts one roles b free used =
    let log : role_of parts.pool b ≡ Log = (roles.log_blocks b (free_in_pool parts one b free)).1 used in
    let both : Log ≡ Free = sym log ∙ free.1 in
    cc

-- an entry that stands in a log block is page-mapped
pub log_page_mapped : (parts : Parts) → RolesAgree parts → (a : ℕ) (e : Entry) → get parts.map.entries a ≡ Some e → IsInUse parts.log_blocks e.place.block → e.block_mapped ≡ true → ⊥
log_page_mapped parts roles a e is used mapped =
    let in_pool = roles.in_pool e.place.block used in
    let kind : role_of parts.pool e.place.block ≡ Data = (roles.data_blocks e.place.block in_pool).1 (a, e, is, mapped, refl) in
    let log : role_of parts.pool e.place.block ≡ Log = (roles.log_blocks e.place.block in_pool).1 used in
    let both : Data ≡ Log = sym kind ∙ log in
    cc

-- if the open log block has a page left, it is in use
pub open_in_use : (logs : LogBlocksValue) → list.AreSoundLogs logs → 1 ≤ logs.room → IsInUse logs (append_place logs).block
open_in_use logs sound some = at logs.open_block refl sound.last
  where
    at : (o : Option ℕ) → logs.open_block ≡ o → IfSome o (λ b. last_of logs.used ≡ Some b) → IsInUse logs (unwrap_or logs.open_block 0)
    at None is last = absurd (omega (arith, sound.closed is))
    at (Some b) is last = let same : unwrap_or logs.open_block 0 ≡ b = ap (λ o. unwrap_or o 0) is in subst (λ n. IsInUse logs n) (sym same) (is_in-at logs.used (length logs.used - 1) b last)
