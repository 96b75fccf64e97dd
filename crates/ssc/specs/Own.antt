-- Blocks that were each written for their own address: in the list that a cache holds, and in the list that a crash
-- leaves of it.
use Rattle.std.specs.Prelude.{◌≡◌, false}
use Rattle.ft_base.specs.declared.block.Place.{Place}
use Rattle.ft_base.specs.declared.block.Page.{Page}
use Rattle.ft_base.specs.declared.geometry.Geometry.{Geometry}
use Rattle.ft_base.specs.Contents.{Contents, Image, Now}
use Rattle.cache_model.specs.Cache.{AreOwn, undo}
use Rattle.cache_model.specs.CacheList.{CacheList}
use Rattle.cache_model.specs.Stands.{FlashStandsFor}
use Rattle.ssc.specs.declared.cache.Ssc.{Ssc}
use Rattle.ssc.specs.CacheState.{Holds, geometry_of}

-- the cache holds only such blocks, and a crash would leave only such blocks
pub record HoldsOwn (c : Ssc) (contents : Contents) : Type 0 where
  pub list : CacheList
  pub holds : Holds c contents list
  pub own : AreOwn list
  pub durable : AreOwn (undo holds.waiting list)

-- loading gives only such blocks
pub record LoadsOwn (g : Geometry) (page : Place → Page) : Type 0 where
  pub list : CacheList
  pub stands : FlashStandsFor g page list
  pub own : AreOwn list

-- a cache that holds only such blocks still does after the command, unless it was given up; and whenever power goes
-- off, loading gives only such blocks
abbrev pub KeepsOwn : Ssc → Contents → Ssc → Contents → Type 0
KeepsOwn old before new after = HoldsOwn old before
    → ((x : Image) → Now after x → LoadsOwn (geometry_of old) x.page) × (new.stopped ≡ false → HoldsOwn new after)
