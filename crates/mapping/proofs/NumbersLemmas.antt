-- Numbers of the pages of the pool.
use Rattle.std.proofs.Common.{◌≡◌, ℕ, ◌+◌, ◌-◌, ◌*◌, ◌/◌, ◌%◌, ◌<◌, ◌≤◌, sym, ◌∙◌, ap, subst, arith}
use Rattle.std.proofs.lemmas.Nat.{div-mul-add, mod-mul-add, mul-add-lt}
use Rattle.std.proofs.Math.Nat.{mul_comm}
use Rattle.ft_base.specs.declared.geometry.Geometry.{Geometry}
use Rattle.ft_base.specs.declared.block.Place.{Place}
use Rattle.ft_base.specs.Layout.{first_pool, blocks}
use Rattle.cache_model.specs.Records.{Entries}
use Rattle.cache_model.specs.Entries.{InPool, IsMap}
use Rattle.mapping.specs.Counts.{Owns}
use Rattle.mapping.specs.Numbers.{pool_pages, number_of, HasNone, AreNumbered}

module _ (g : Geometry) where
  pub pool_end : blocks g ≡ first_pool g + (g.c + g.l + 1)
  pool_end = omega arith

  -- the pool has at most as many pages as the pool of the largest geometry
  pub pages_few : pool_pages g ≤ 73856
  pages_few =
      let c = g.in_range.c_high in
      let l = g.in_range.l_high in
      let p = g.in_range.p_high in
      mul_le (g.c + g.l + 1) 577 g.p 128 (omega arith) p
    where
      mul_le : (a b c d : ℕ) → a ≤ b → c ≤ d → a * c ≤ b * d
      mul_le a b c d le le' = grind arith

  -- the number of a page of the pool is below the number of its pages
  pub number_below : (at : Place) → InPool g at → number_of g at < pool_pages g
  number_below at pool =
      let above = pool.above in
      let below = pool.below in
      let offset : at.block - first_pool g < g.c + g.l + 1 = omega (arith, pool_end) in
      subst (λ n. (at.block - first_pool g) * g.p + at.page < n) (mul_comm g.p (g.c + g.l + 1)) (mul-add-lt (at.block - first_pool g) g.p at.page (g.c + g.l + 1) offset pool.page)

  -- pages of one number are one page
  pub number_tells : (at at' : Place) → InPool g at → InPool g at' → number_of g at ≡ number_of g at' → at ≡ at'
  number_tells at at' pool pool' same =
      let blocks_same : at.block - first_pool g ≡ at'.block - first_pool g =
      sym (div-mul-add (at.block - first_pool g) g.p at.page pool.page) ∙ ap (λ n. n / g.p) same ∙ div-mul-add (at'.block - first_pool g) g.p at'.page pool'.page in
      let pages_same : at.page ≡ at'.page =
      sym (mod-mul-add (at.block - first_pool g) g.p at.page pool.page) ∙ ap (λ n. n % g.p) same ∙ mod-mul-add (at'.block - first_pool g) g.p at'.page pool'.page in
      let above = pool.above in
      let above' = pool'.above in
      let block_same : at.block ≡ at'.block = omega arith in
      λ t. record { block = block_same t; page = pages_same t }

  pub are_numbered : (m : Entries) → IsMap g m → AreNumbered g m (pool_pages g)
  are_numbered m is_map a e is = number_below e.place (is_map.in_pool a e is)

  -- no entry has the number of a page that no entry has
  pub none_there : (m : Entries) (at : Place) (i : ℕ) → IsMap g m → InPool g at → number_of g at ≡ i → ((a : ℕ) → Owns m at a → ⊥) → HasNone g m i
  none_there m at i is_map pool is none a e held same = none a (e, held, number_tells e.place at (is_map.in_pool a e held) pool (same ∙ sym is))
