-- A volume that was opened: its table came from the loaded entries, and then its checkpoint was made.
use Rattle.std.proofs.Common.{◌≡◌, Ok, sym, ◌∙◌, ap, subst}
use Rattle.ft_base.specs.declared.geometry.Geometry.{Geometry}
use Rattle.ft_base.specs.Told.{Told}
use Rattle.ft_base.specs.declared.told.Mode.TheVariants.{Back}
use Rattle.ft_media.specs.State.{State}
use Rattle.ft_volume.specs.Opening.{OpensVolume}
use Rattle.ft_volume.specs.Volume.{dirty_lbas, told_for}
use Rattle.ft_volume.specs.declared.options.Options.{Options}
use Rattle.dirty_table.specs.Groups.{Groups}
use Rattle.ssc.specs.CacheState.{entries_of}
use Rattle.cache_model.specs.Records.{Entries}
use Rattle.cached_disk.specs.declared.disk.CachedDisk.{CachedDisk}
use Rattle.cached_disk.specs.declared.opening.LoadedDisk.{LoadedDisk}
use Rattle.cached_disk.specs.Kept.{dirty_of}
use Rattle.cached_disk.specs.Opened.{OpensDisk}
use Rattle.cached_disk.proofs.OpenedLemmas.{fresh_opened}
use Rattle.write_back.specs.declared.volume.WriteBack.{WriteBack}
use Rattle.write_back.specs.Left.{IsLeft, state_of}
use Rattle.write_back.specs.Tables.{IsTableOf}

module _ (loaded : LoadedDisk) (options : Options) (made : loaded.options ≡ options) (disk : CachedDisk) (dirty : Groups) (table : IsTableOf loaded.options.geometry (dirty_lbas (entries_of loaded.cache.cache)) dirty)
    (entries : entries_of disk.cache ≡ entries_of loaded.cache.cache) (start after : State) (opens : OpensDisk Back options start after (Ok disk)) where
  abbrev v : WriteBack
  v = record { disk = disk; dirty = dirty }

  same_geometry : loaded.options.geometry ≡ disk.options.geometry
  same_geometry = ap (λ (o : Options). o.geometry) made ∙ sym (ap (λ (t : Told). t.geometry) opens.opened.told)

  -- the table is the volume's table
  table_now : IsTableOf disk.options.geometry (dirty_of disk) dirty
  table_now = subst (λ (g : Geometry). IsTableOf g (dirty_of disk) dirty) same_geometry (subst (λ (m : Entries). IsTableOf loaded.options.geometry (dirty_lbas m) dirty) (sym entries) table)

  pub sealed_left : IsLeft v after.contents
  sealed_left = record { disk = opens.owns; mode = ap (λ (t : Told). t.mode) opens.opened.told; table = table_now.groups; exact = λ up. table_now.exact }

  pub sealed_opened : OpensVolume (told_for Back options) start.contents.flash.page (state_of v) (entries_of disk.cache)
  sealed_opened = record {
    opened = λ s stands. fresh_opened Back options s dirty.order disk (opens.opened.opened s stands) table_now.order;
    told = opens.opened.told;
    up = opens.opened.up;
    loads = opens.opened.loads;
  }
