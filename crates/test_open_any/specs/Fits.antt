-- A cache that was opened, and its flash.
use Rattle.std.specs.Prelude.{◌≡◌, ℕ}
use Rattle.ft_base.specs.Contents.{Contents}
use Rattle.ssc.specs.declared.cache.Ssc.{Ssc}
use Rattle.ssc.specs.CacheState.{IsUp, geometry_of}

-- the cache has so many addresses, and is up on its flash
pub record FitTogether (addresses : ℕ) (cache : Ssc) (contents : Contents) : Type 0 where
  pub size : (geometry_of cache).size ≡ addresses
  pub up : IsUp cache contents
