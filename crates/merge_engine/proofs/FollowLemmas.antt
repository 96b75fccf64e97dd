-- Roles follow a group whose entries changed.
use Rattle.std.proofs.Common.{◌≡◌, ◌↔◌, ℕ, ◌/◌, true, false, Some, inl, inr, sym, ◌∙◌}
use Rattle.std.specs.FinMap.{get}
use Rattle.std.proofs.lemmas.Bool.{cases_eq, both_ways}
use Rattle.cache_model.specs.declared.entry.Entry.{Entry}
use Rattle.cache_model.specs.Records.{Entries}
use Rattle.cache_model.specs.Entries.{IsMap}
use Rattle.block_pool.specs.Pool.{PoolValue, IsInPool, role_of}
use Rattle.block_pool.specs.declared.pool.Role.{Role}
use Rattle.block_pool.specs.declared.pool.Role.TheVariants.{Free, Data, Log}
use Rattle.log_blocks.specs.Logs.{IsInUse}
use Rattle.merge_engine.specs.declared.parts.Parts.{Parts}
use Rattle.merge_engine.specs.Agreement.{RolesAgree, IsDataBlockOf, IsGroupBlock}
use Rattle.merge_engine.specs.Merges.{OthersStay}
use Rattle.merge_engine.specs.Steps.{FollowsGroup}

pub not_two : {A : Type 0} (r : Role) → r ≡ Free → r ≡ Data → A
not_two r free full = let both : Free ≡ Data = sym free ∙ full in absurd (cc)

pub not_free_log : {A : Type 0} (r : Role) → r ≡ Free → r ≡ Log → A
not_free_log r free log = let both : Free ≡ Log = sym free ∙ log in absurd (cc)

pub not_data_log : {A : Type 0} (r : Role) → r ≡ Data → r ≡ Log → A
not_data_log r full log = let both : Data ≡ Log = sym full ∙ log in absurd (cc)

module _ (parts : Parts) (is_map : IsMap parts.geometry parts.map.entries) (roles : RolesAgree parts) (group : ℕ) (m : Entries) (pool : PoolValue)
    (others : OthersStay parts.geometry group parts.map.entries m)
    (mapped : (a : ℕ) (e : Entry) → get m a ≡ Some e → a / parts.geometry.p ≡ group → e.block_mapped ≡ true)
    (follows : FollowsGroup parts.geometry group parts.map.entries m parts.pool pool) where
  -- no entry of the group stands in the erase block now
  abbrev pub HasLeft : ℕ → Type 0
  HasLeft b = (a : ℕ) (e : Entry) → get m a ≡ Some e → a / parts.geometry.p ≡ group → e.place.block ≡ b → ⊥

  -- the role suits an erase block with the new entries
  abbrev pub SuitsRole : ℕ → Role → Type 0
  SuitsRole b role = ((role ≡ Data) ↔ IsDataBlockOf m b) × ((role ≡ Log) ↔ IsInUse parts.log_blocks b)

  module _ (b : ℕ) (in_pool : IsInPool parts.geometry b) (left : HasLeft b) where
    -- an entry that stands in it now stood there before
    was_there : IsDataBlockOf m b → (a : ℕ) × (e : Entry) × (get parts.map.entries a ≡ Some e) × (e.block_mapped ≡ true) × (e.place.block ≡ b) × (a / parts.geometry.p ≡ group → ⊥)
    was_there x = elim (cases_eq (x.0 / parts.geometry.p) group) [
      | inl same ↦ absurd (left x.0 x.1 x.2 same x.4)
      | inr other ↦ (x.0, x.1, sym (others x.0 other) ∙ x.2, x.3, x.4, other)
    ]

    as_kept : (IsGroupBlock parts.geometry parts.map.entries group b → ⊥) → SuitsRole b (role_of pool b)
    as_kept not =
        let same : role_of pool b ≡ role_of parts.pool b = follows.kept b in_pool (λ is. absurd (not is)) in
        let full = roles.data_blocks b in_pool in
        let log = roles.log_blocks b in_pool in (
          (
            λ is. let x = full.0 (sym same ∙ is) in (x.0, x.1, others x.0 (λ here. not (x.0, x.1, x.2, here, x.3, x.4)) ∙ x.2, x.3, x.4),
            λ now. let x = was_there now in same ∙ full.1 (x.0, x.1, x.2, x.3, x.4),
          ),
          (λ is. log.0 (sym same ∙ is), λ used. same ∙ log.1 used),
        )

    as_freed : IsGroupBlock parts.geometry parts.map.entries group b → SuitsRole b (role_of pool b)
    as_freed x =
        let free : role_of pool b ≡ Free = follows.freed b in_pool x (λ now. left now.0 now.1 now.2 now.3 now.5) in
        let was : role_of parts.pool b ≡ Data = (roles.data_blocks b in_pool).1 (x.0, x.1, x.2, x.4, x.5) in (
          (
            λ is. not_two (role_of pool b) free is,
            λ now. let y = was_there now in absurd (y.5 ((is_map.own_block x.0 y.0 x.1 y.1 x.2 y.2 x.4 (y.4 ∙ sym x.5)).same_group ∙ x.3)),
          ),
          (λ is. not_free_log (role_of pool b) free is, λ used. not_data_log (role_of parts.pool b) was ((roles.log_blocks b in_pool).1 used)),
        )

    pub role_follows : SuitsRole b (role_of pool b)
    role_follows = by_role (role_of parts.pool b) refl_role
      where
        refl_role : role_of parts.pool b ≡ role_of parts.pool b
        refl_role = λ i. role_of parts.pool b

        never : (role_of parts.pool b ≡ Data → ⊥) → SuitsRole b (role_of pool b)
        never not = as_kept (λ x. not ((roles.data_blocks b in_pool).1 (x.0, x.1, x.2, x.4, x.5)))

        by_role : (r : Role) → role_of parts.pool b ≡ r → SuitsRole b (role_of pool b)
        by_role Free is = never (λ full. not_two (role_of parts.pool b) is full)
        by_role Log is = never (λ full. not_data_log (role_of parts.pool b) full is)
        by_role Data is =
            let x = (roles.data_blocks b in_pool).0 is in
            elim (cases_eq (x.0 / parts.geometry.p) group) [
              | inl same ↦ as_freed (x.0, x.1, x.2, same, x.3, x.4)
              | inr other ↦ as_kept (λ y. other (sym (is_map.own_block x.0 y.0 x.1 y.1 x.2 y.2 x.3 (y.5 ∙ sym x.4)).same_group ∙ y.3))
            ]

  pub page_mapped_follow : (a : ℕ) (e : Entry) → get m a ≡ Some e → e.block_mapped ≡ false → IsInUse parts.log_blocks e.place.block
  page_mapped_follow a e is f = elim (cases_eq (a / parts.geometry.p) group) [
    | inl same ↦ absurd (both_ways e.block_mapped f (mapped a e is same))
    | inr other ↦ roles.page_mapped a e (sym (others a other) ∙ is) f
  ]
