-- The result of loading.
use Rattle.std.specs.Prelude.{◌≡◌, Ok}
use Rattle.ft_base.specs.declared.geometry.Geometry.{Geometry}
use Rattle.ft_base.specs.declared.block.Place.{Place}
use Rattle.ft_base.specs.declared.block.Page.{Page}
use Rattle.cache_model.specs.Loading.{Complete, checkpoint_of, load}
use Rattle.mapping.specs.Room.{HasFewBuckets}
use Rattle.recovery.specs.declared.loading.Loaded.{Loaded}

-- the map has the entries that loading gives, in few buckets; and region and era belong to the checkpoint that counts
pub record IsLoaded (g : Geometry) (page : Place → Page) (loaded : Loaded) : Type 0 where
  pub loads : load g page ≡ Ok loaded.map.entries
  pub geometry : loaded.map.geometry ≡ g
  pub few : HasFewBuckets loaded.map
  pub newest : Complete
  pub chosen : checkpoint_of g page ≡ Ok (loaded.region, newest)
  pub era : newest.stamp.era ≡ loaded.era
