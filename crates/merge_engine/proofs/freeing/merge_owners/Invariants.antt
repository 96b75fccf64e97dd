use Rattle.std.proofs.Common.{◌≡◌, ◌≤◌, ◌<◌, ◌+◌, false, length}
use Rattle.ft_base.specs.Layout.{page_records}
use Rattle.ft_media.specs.Drives.{DrivesFlash}
use Rattle.cache_model.specs.CacheList.{CacheList}
use Rattle.mapping.specs.Numbers.{StandsNoneIn}
use Rattle.merge_engine.specs.Agreement.{PartsAgree, Lists}
use Rattle.merge_engine.specs.Steps.{GoesOn, PageMappedStay}
use Rattle.merge_engine.specs.Room.{FreesGroups}
use Rattle.log_blocks.specs.Logs.{IsInUse}
use Rattle.merge_engine.specs.Switch.{LogsStayOrLose}
use Rattle.merge_engine.proofs.OwnerLemmas.{NoneBefore}
use Rattle.merge_engine.proofs.freeing.merge_owners.Given as goal

abbrev pub invariant-loop-page : goal.invariant-loop-page
invariant-loop-page g l =
    let old = g.M.Media.state l.fn.media in
    let now = g.M.Media.state l.media in
    record {
      geometry : l.cache.geometry ≡ l.fn.cache.geometry;
      log_blocks : LogsStayOrLose l.block l.fn.cache.log_blocks l.cache.log_blocks;
      pages : l.cache.map.spare_pages ≡ l.fn.cache.map.spare_pages;
      groups : l.fn.cache.map.spare_groups ≤ l.cache.map.spare_groups + l.page;
      no_more : l.cache.map.spare_groups ≤ l.fn.cache.map.spare_groups;
      buckets : l.cache.map.buckets ≡ l.fn.cache.map.buckets;
      group_buckets : l.cache.map.group_buckets ≡ l.fn.cache.map.group_buckets;
      agree : PartsAgree l.cache now.contents;
      room : length l.cache.log.buffered < page_records l.cache.log.geometry;
      nothing : StandsNoneIn l.fn.cache.map.entries l.block → (l.cache ≡ l.fn.cache) × (now ≡ old);
      unowned : IsInUse l.cache.log_blocks l.block → NoneBefore l.cache.map.entries l.block l.page;
      lists : (list durable : CacheList) → Lists l.fn.cache old.contents.flash.page list durable → GoesOn l.fn.cache.log l.cache now.contents.flash.page list durable;
      freed : FreesGroups l.fn.cache.geometry l.block l.fn.cache.map.entries l.cache.map.entries;
      page_mapped : PageMappedStay l.fn.cache.map.entries l.cache.map.entries;
      drives : DrivesFlash old now false false;
    }
