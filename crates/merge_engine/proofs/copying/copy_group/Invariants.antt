use Rattle.std.proofs.Common.{◌≡◌, false}
use Rattle.ft_media.specs.Media.{IsNextPage}
use Rattle.ft_media.specs.Drives.{DrivesFlash}
use Rattle.cache_model.specs.CacheList.{CacheList}
use Rattle.merge_engine.specs.Agreement.{PartsAgree, Lists}
use Rattle.checkpoint.specs.Counts.{programs_counted}
use Rattle.merge_engine.proofs.CopyLemmas.{IsCopiedBelow, IsFilledBelow}
use Rattle.merge_engine.proofs.copying.copy_group.Given as goal

abbrev pub invariant-loop-page : goal.invariant-loop-page
invariant-loop-page g l =
    let old = g.M.Media.state l.fn.media in
    let now = g.M.Media.state l.media in
    record {
      agree : PartsAgree l.cache now.contents;
      lists : (list durable : CacheList) → Lists l.cache old.contents.flash.page list durable → Lists l.cache now.contents.flash.page list durable;
      next : IsNextPage (record { block = l.block; page = l.page }) now.contents.flash;
      copied : IsCopiedBelow l.cache.geometry l.cache.map.entries l.group l.block l.page now.contents.flash.page;
      filled : IsFilledBelow l.cache.geometry l.cache.map.entries l.group l.block l.page now.contents.flash.page;
      counts : now.counts ≡ programs_counted l.page old.counts;
      drives : DrivesFlash old now false false;
    }
