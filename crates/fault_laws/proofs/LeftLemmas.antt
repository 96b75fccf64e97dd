-- What a cache over a disk left can be opened again.
use Rattle.std.proofs.Common.{◌≡◌, Ok, subst}
use Rattle.ft_base.specs.Contents.{Contents}
use Rattle.ft_volume.specs.Opening.{MayOpen, Suits}
use Rattle.cache_model.specs.CacheList.{Agrees, CacheList}
use Rattle.cache_model.specs.Loading.{load}
use Rattle.cache_model.specs.Records.{Entries}
use Rattle.cached_disk.specs.declared.disk.CachedDisk.{CachedDisk}
use Rattle.cached_disk.specs.Kept.{IsLeft, told_of}
use Rattle.cached_disk.proofs.DiskLemmas.{same_list}

-- its flash loads the list beneath, and that list agrees with the disk
pub left_opens : (v : CachedDisk) (contents : Contents) → IsLeft v contents
    → MayOpen (told_of v) contents × (m : Entries) × (load v.options.geometry contents.flash.page ≡ Ok m)
left_opens v contents left = (
  (λ s stands.
      let is : left.list ≡ s = same_list v.options.geometry contents.flash.page left.list s left.beneath.flash stands in
      (subst (λ (t : CacheList). Agrees t contents.disk) is left.beneath.agrees, subst (λ (t : CacheList). Suits v.mode t) is left.beneath.suits)),
  left.beneath.flash.loaded,
  left.beneath.flash.loads,
)
