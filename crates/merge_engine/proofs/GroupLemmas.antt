-- The data block of a group, and the roles when it changes.
use Rattle.std.proofs.Common.{◌≡◌, ◌≢◌, ℕ, true, false, refl, sym, ◌∙◌, subst, arith}
use Rattle.ft_base.specs.declared.geometry.Geometry.{Geometry}
use Rattle.cache_model.specs.Records.{Entries}
use Rattle.cache_model.specs.Entries.{IsMap}
use Rattle.block_map.specs.PageSets.{BlockPages}
use Rattle.mapping.specs.declared.bits.Choice.TheVariants.{Mapped}
use Rattle.mapping.specs.Bits.{chosen_of, IsDataBlock}
use Rattle.block_pool.specs.Pool.{PoolValue, IsInPool, role_of}
use Rattle.block_pool.specs.declared.pool.Role.TheVariants.{Free}
use Rattle.silent_evict.proofs.GroupLemmas.{chosen_none, chosen_some}
use Rattle.merge_engine.specs.Agreement.{IsGroupBlock}
use Rattle.merge_engine.specs.Steps.{FollowsGroup}

pub data_at : (h g : Geometry) (m : Entries) (group : ℕ) (pages : BlockPages) → h ≡ g → IsDataBlock h m group pages → IsDataBlock g m group pages
data_at h g m group pages same is = subst (λ (x : Geometry). IsDataBlock x m group pages) same is

module _ (g : Geometry) (m : Entries) (group : ℕ) where
  pub group_block : (pages : BlockPages) → IsDataBlock g m group pages → IsGroupBlock g m group pages.block
  group_block pages is_data =
      let some = is_data.some in
      let found = chosen_some g m group Mapped (λ none. let empty : pages.present ≡ 0 = is_data.present ∙ none in omega arith) in
      (found.0, found.1, found.2, found.3, found.4, is_data.stands found.0 found.1 found.2 found.4 found.3)

  pub only_block : (pages : BlockPages) (b : ℕ) → IsDataBlock g m group pages → IsGroupBlock g m group b → b ≡ pages.block
  only_block pages b is_data found = sym found.5 ∙ is_data.stands found.0 found.1 found.2 found.4 found.3

  pub no_block : (b : ℕ) → chosen_of Mapped g m group ≡ 0 → IsGroupBlock g m group b → ⊥
  no_block b none found = let not : found.1.block_mapped ≡ false = chosen_none g m group Mapped none found.0 found.1 found.2 found.3 in let is = found.4 in absurd (let both : true ≡ false = sym is ∙ not in cc)

  -- the data block is one of the pool
  pub block_in_pool : (pages : BlockPages) (block : ℕ) → IsMap g m → IsDataBlock g m group pages → block ≡ pages.block → IsInPool g block
  block_in_pool pages block is_map is_data is =
      let found = group_block pages is_data in
      let pool = is_map.in_pool found.0 found.1 found.2 in
      subst (IsInPool g) (found.5 ∙ sym is) (pool.above, pool.below)

module _ (g : Geometry) (group : ℕ) (m m' : Entries) (pool : PoolValue) where
  pub follows_none : chosen_of Mapped g m group ≡ 0 → FollowsGroup g group m m' pool pool
  follows_none none = record {
    geometry = refl;
    freed = λ b in_pool was gone. absurd (no_block g m group b none was);
    kept = λ b in_pool stays. refl;
  }

  pub follows_still : (old new : BlockPages) → IsDataBlock g m group old → IsDataBlock g m' group new → new.block ≡ old.block → FollowsGroup g group m m' pool pool
  follows_still old new before now same = record {
    geometry = refl;
    freed = λ b in_pool was gone. absurd (gone (subst (IsGroupBlock g m' group) (same ∙ sym (only_block g m group old b before was)) (group_block g m' group new now)));
    kept = λ b in_pool stays. refl;
  }

  pub follows_freed : (pool' : PoolValue) (old : BlockPages) (block : ℕ) → IsDataBlock g m group old → (IsGroupBlock g m' group old.block → ⊥) → block ≡ old.block → pool.geometry ≡ g → pool'.geometry ≡ pool.geometry → role_of pool' block ≡ Free
      → ((b : ℕ) → IsInPool pool.geometry b → b ≢ block → role_of pool' b ≡ role_of pool b) → FollowsGroup g group m m' pool pool'
  follows_freed pool' old block before gone is own geometry free others = record {
    geometry = geometry;
    freed = λ b in_pool was _. subst (λ n. role_of pool' n ≡ Free) (is ∙ sym (only_block g m group old b before was)) free;
    kept = λ b in_pool stays. others b (subst (λ (h : Geometry). IsInPool h b) (sym own) in_pool) (λ same.
        let here : IsGroupBlock g m group b = subst (IsGroupBlock g m group) (sym (same ∙ is)) (group_block g m group old before) in
        gone (subst (IsGroupBlock g m' group) (same ∙ is) (stays here)));
  }
