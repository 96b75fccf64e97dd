-- The media over which the tests open a volume: media that another volume left.
use Rattle.std.proofs.Common.{◌≡◌, subst}
use Rattle.ft_base.specs.Contents.{Contents}
use Rattle.ft_base.specs.Told.{Told}
use Rattle.ft_volume.specs.Opening.{MayOpen, Suits}
use Rattle.cache_model.specs.CacheList.{Agrees, CacheList}
use Rattle.cached_disk.specs.declared.disk.CachedDisk.{CachedDisk}
use Rattle.cached_disk.specs.Kept.{IsLeft, told_of}
use Rattle.cached_disk.proofs.DiskLemmas.{same_list}

-- the volume left no dirty block, and the disk has each block that it holds
pub left_may_open : (v : CachedDisk) (contents : Contents) (told : Told) → IsLeft v contents → told_of v ≡ told → MayOpen told contents
left_may_open v contents told left same = subst (λ (t : Told). MayOpen t contents) same (λ s stands.
    let is : left.list ≡ s = same_list v.options.geometry contents.flash.page left.list s left.beneath.flash stands in
    (subst (λ (t : CacheList). Agrees t contents.disk) is left.beneath.agrees, subst (λ (t : CacheList). Suits v.mode t) is left.beneath.suits))
