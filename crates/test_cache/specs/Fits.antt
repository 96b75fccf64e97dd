-- A cache of 64 addresses and its flash, as the tests use them.
use Rattle.std.specs.Prelude.{◌≡◌, Bool, true}
use Rattle.ft_base.specs.Contents.{Contents}
use Rattle.ssc.specs.declared.cache.Ssc.{Ssc}
use Rattle.ssc.specs.CacheState.{IsUp, geometry_of}

-- while commands may be given, the cache is up on its flash
pub record FitTogether (going : Bool) (cache : Ssc) (contents : Contents) : Type 0 where
  pub size : (geometry_of cache).size ≡ 64
  pub up : going ≡ true → IsUp cache contents
