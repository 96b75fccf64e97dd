-- The roles after a change of one group.
use Rattle.std.proofs.Common.{◌≡◌, ◌⊎◌, ℕ, ◌/◌, true, false, Some, inl, inr, sym, ◌∙◌}
use Rattle.std.proofs.lemmas.Bool.{cases_eq, both_ways}
use Rattle.std.specs.FinMap.{get}
use Rattle.ft_base.specs.declared.geometry.Geometry.{Geometry}
use Rattle.cache_model.specs.declared.entry.Entry.{Entry}
use Rattle.cache_model.specs.Records.{Entries}
use Rattle.cache_model.specs.Entries.{IsMap}
use Rattle.mapping.specs.MapValue.{MapValue}
use Rattle.mapping.specs.declared.bits.Choice.TheVariants.{Mapped}
use Rattle.mapping.specs.Bits.{chosen_of}
use Rattle.op_log.specs.Log.{LogValue}
use Rattle.block_pool.specs.Pool.{PoolValue, IsInPool, role_of}
use Rattle.block_pool.specs.declared.pool.Role.TheVariants.{Free, Data, Log}
use Rattle.log_blocks.specs.Logs.{IsInUse}
use Rattle.silent_evict.proofs.GroupLemmas.{chosen_none, chosen_some}
use Rattle.merge_engine.specs.declared.parts.Parts.{Parts}
use Rattle.merge_engine.specs.Agreement.{IsDataBlockOf, IsGroupBlock, RolesAgree}
use Rattle.merge_engine.specs.Steps.{FollowsGroup}

-- whether the erase block is the group's data block
pub group_block_or_not : (g : Geometry) (m : Entries) (group b : ℕ) → IsMap g m → IsGroupBlock g m group b ⊎ (IsGroupBlock g m group b → ⊥)
group_block_or_not g m group b is_map = elim (cases_eq (chosen_of Mapped g m group) 0) [
  | inl none ↦ inr (λ one. absurd (both_ways one.1.block_mapped (chosen_none g m group Mapped none one.0 one.1 one.2 one.3) one.4))
  | inr some ↦
      let found = chosen_some g m group Mapped some in
      elim (cases_eq found.1.place.block b) [
        | inl same ↦ inl (found.0, found.1, found.2, found.3, found.4, same)
        | inr other ↦ inr (λ one. other (is_map.one_block one.0 found.0 one.1 found.1 one.2 found.2 one.4 found.4 (found.3 ∙ sym one.3) ∙ one.5))
      ]
]

-- entries of other groups stay, and no entry of the group comes into a data block
pub record ChangesOne (g : Geometry) (group : ℕ) (m m' : Entries) : Type 0 where
  pub others : (a : ℕ) → (a / g.p ≡ group → ⊥) → get m' a ≡ get m a
  pub mapped : (a : ℕ) (e : Entry) → get m' a ≡ Some e → e.block_mapped ≡ true → (f : Entry) × (get m a ≡ Some f) × (f.block_mapped ≡ true) × (f.place.block ≡ e.place.block)

free_not_data : Free ≡ Data → ⊥
free_not_data is = cc

free_not_log : Free ≡ Log → ⊥
free_not_log is = cc

data_not_log : Data ≡ Log → ⊥
data_not_log is = cc

module _ (g : Geometry) (group : ℕ) (m m' : Entries) (old new : PoolValue) (b : ℕ) (is_map : IsMap g m) (is_map' : IsMap g m') (in_pool : IsInPool g b) (follows : FollowsGroup g group m m' old new) where
  -- the role is the old one, or the block is free and was the group's
  role_cases : (role_of new b ≡ role_of old b) ⊎ ((role_of new b ≡ Free) × IsGroupBlock g m group b × (IsGroupBlock g m' group b → ⊥))
  role_cases = elim (group_block_or_not g m' group b is_map') [
    | inl now ↦ inl (follows.kept b in_pool (λ was. now))
    | inr gone ↦ elim (group_block_or_not g m group b is_map) [
      | inl was ↦ inr (follows.freed b in_pool was gone, was, gone)
      | inr never ↦ inl (follows.kept b in_pool (λ was. absurd (never was)))
    ]
  ]

  module _ (changes : ChangesOne g group m m') where
    pub data_from : (role_of old b ≡ Data → IsDataBlockOf m b) → role_of new b ≡ Data → IsDataBlockOf m' b
    data_from before is = elim (group_block_or_not g m' group b is_map') [
      | inl now ↦ (now.0, now.1, now.2, now.4, now.5)
      | inr gone ↦ elim (group_block_or_not g m group b is_map) [
        | inl was ↦ absurd (free_not_data (sym (follows.freed b in_pool was gone) ∙ is))
        | inr never ↦
            let found = before (sym (follows.kept b in_pool (λ was. absurd (never was))) ∙ is) in
            let apart = λ (same : found.0 / g.p ≡ group). never (found.0, found.1, found.2, same, found.3, found.4) in
            (found.0, found.1, changes.others found.0 apart ∙ found.2, found.3, found.4)
      ]
    ]

    pub data_to : (IsDataBlockOf m b → role_of old b ≡ Data) → IsDataBlockOf m' b → role_of new b ≡ Data
    data_to before now =
        let was = changes.mapped now.0 now.1 now.2 now.3 in
        let role : role_of old b ≡ Data = before (now.0, was.0, was.1, was.2, was.3 ∙ now.4) in
        elim (cases_eq (now.0 / g.p) group) [
          | inl inside ↦ follows.kept b in_pool (λ _. (now.0, now.1, now.2, inside, now.3, now.4)) ∙ role
          | inr outside ↦ follows.kept b in_pool (λ own. absurd (outside ((is_map.own_block own.0 now.0 own.1 was.0 own.2 was.1 own.4 (was.3 ∙ now.4 ∙ sym own.5)).same_group ∙ own.3))) ∙ role
        ]

  pub log_from : {P : Type 0} → (role_of old b ≡ Log → P) → role_of new b ≡ Log → P
  log_from before is = elim role_cases [
    | inl same ↦ before (sym same ∙ is)
    | inr freed ↦ absurd (free_not_log (sym freed.0 ∙ is))
  ]

  pub log_to : (IsDataBlockOf m b → role_of old b ≡ Data) → role_of old b ≡ Log → role_of new b ≡ Log
  log_to before role = elim role_cases [
    | inl same ↦ same ∙ role
    | inr freed ↦ let was = freed.1 in absurd (data_not_log (sym (before (was.0, was.1, was.2, was.4, was.5)) ∙ role))
  ]

module _ (old : Parts) (map : MapValue) (log : LogValue) (pool : PoolValue) (group : ℕ) where
  pub roles_followed : IsMap old.geometry old.map.entries → IsMap old.geometry map.entries → FollowsGroup old.geometry group old.map.entries map.entries old.pool pool → ChangesOne old.geometry group old.map.entries map.entries
      → ((a : ℕ) (e : Entry) → get map.entries a ≡ Some e → e.block_mapped ≡ false → IsInUse old.log_blocks e.place.block) → RolesAgree old → RolesAgree (record old { map = map; log = log; pool = pool })
  roles_followed is_map is_map' follows changes in_use roles =
      let g = old.geometry in
      let m = old.map.entries in
      let m' = map.entries in
      record {
        data_blocks = λ b in_pool. (
          data_from g group m m' old.pool pool b is_map is_map' in_pool follows changes (roles.data_blocks b in_pool).0,
          data_to g group m m' old.pool pool b is_map is_map' in_pool follows changes (roles.data_blocks b in_pool).1,
        );
        log_blocks = λ b in_pool. (
          log_from g group m m' old.pool pool b is_map is_map' in_pool follows (roles.log_blocks b in_pool).0,
          λ used. log_to g group m m' old.pool pool b is_map is_map' in_pool follows (roles.data_blocks b in_pool).1 ((roles.log_blocks b in_pool).1 used),
        );
        in_pool = roles.in_pool;
        page_mapped = in_use;
      }
