-- An opening in two steps: the load after a flush of the disk, and the checkpoint.
use Rattle.std.proofs.Common.{◌≡◌, ℕ, ◌-◌, Bool, true, false, Result, Ok, Err, refl, sym, ◌∙◌, ap, subst, arith, inr}
use Rattle.std.specs.Prelude.{OnOk, IfOk, IfErr}
use Rattle.std.proofs.lemmas.Bool.{false≢true}
use Rattle.ft_base.specs.declared.block.Place.{Place}
use Rattle.ft_base.specs.declared.block.Page.{Page}
use Rattle.ft_base.specs.declared.geometry.Geometry.{Geometry}
use Rattle.ft_base.specs.Contents.{Contents, Image, Now, Shape, flushed}
use Rattle.ft_base.specs.Layout.{log_pages}
use Rattle.ft_media.specs.Drives.{DrivesFlash}
use Rattle.ft_media.specs.Fitted.{KeepsReady}
use Rattle.ft_media.specs.Media.{flush_counted}
use Rattle.ft_media.specs.Reads.{ReadsFlash}
use Rattle.ft_media.specs.State.{Faults, State}
use Rattle.ft_media.proofs.PassesLemmas.{passes_then}
use Rattle.ft_volume.specs.Opening.{MayOpen}
use Rattle.ft_volume.specs.Volume.{told_for}
use Rattle.ft_base.specs.declared.told.Mode.{Mode}
use Rattle.ft_volume.specs.declared.options.Options.{Options}
use Rattle.cache_model.specs.CacheList.{CacheList}
use Rattle.cache_model.specs.Loading.{Refusal, load}
use Rattle.cache_model.specs.Stands.{FlashStandsFor}
use Rattle.op_log.specs.Log.{FitsOn}
use Rattle.op_log.specs.declared.error.OpenError.{OpenError}
use Rattle.op_log.specs.declared.error.OpenError.TheVariants.{NotFormatted, OtherGeometry, Damaged, FlashFault, DiskFault, PowerLost, OutOfMemory}
use Rattle.op_log.specs.Refusals.{IsOfFlash, IsRefusal, open_failed, open_lost}
use Rattle.ssc.specs.declared.cache.Ssc.{Ssc}
use Rattle.ssc.specs.declared.opening.LoadedCache.{LoadedCache}
use Rattle.ssc.specs.CacheState.{entries_of, geometry_of}
use Rattle.ssc.specs.Opened.{IsLoadedFrom, IsOpenedOver, StandsStill}
use Rattle.ssc.proofs.ListLemmas.{stands_some}
use Rattle.cached_disk.specs.declared.disk.CachedDisk.{CachedDisk}
use Rattle.cached_disk.specs.declared.opening.LoadedDisk.{LoadedDisk}
use Rattle.cached_disk.specs.Errors.{IsOpenRefusal, disk_failed}
use Rattle.cached_disk.specs.Kept.{IsOpenCache, IsOpening, OnlyFlushed, OnlyOpens, WritesNothingRefused, is_down}
use Rattle.cached_disk.specs.Opened.{LoadedSince, OpensDisk}
use Rattle.cached_disk.proofs.OpenLemmas.{less_none, opens_after}
use Rattle.std.specs.List.{list_any}
use Rattle.cache_model.specs.Cache.{is_write}
use Rattle.cached_disk.proofs.ReadLemmas.{owes_none}
use Rattle.cached_disk.proofs.OpenedLemmas.{opened_fresh, opened_left, opened_stands}

-- ---- the first step

-- the disk was flushed, and then the flash was read
module _ (g : Geometry) (start mid after : State) (f l : Bool) (flash : mid.contents.flash ≡ start.contents.flash) (counts : mid.counts ≡ flush_counted start.counts) (reads : ReadsFlash mid after f l) where
  pub read_page : mid.contents.flash.page ≡ start.contents.flash.page
  read_page = ap (λ k. k.page) flash

  pub read_only : OnlyFlushed start after
  read_only = record { flash = ap (λ (k : Contents). k.flash) reads.contents ∙ flash; counts = reads.counts ∙ counts }

  pub read_disk : ((lba : ℕ) → mid.contents.disk lba ≡ flushed (start.contents.disk lba)) → (lba : ℕ) → after.contents.disk lba ≡ flushed (start.contents.disk lba)
  read_disk is lba = ap (λ (k : Contents). k.disk lba) reads.contents ∙ is lba

  pub read_same : load g after.contents.flash.page ≡ load g mid.contents.flash.page
  read_same = ap (λ (k : Contents). load g k.flash.page) reads.contents

  pub read_images : (s : CacheList) → FlashStandsFor g mid.contents.flash.page s → (x : Image) → Now after.contents x → FlashStandsFor g x.page s
  read_images s stands x now = subst (λ (p : Place → Page). FlashStandsFor g p s) (sym now.pages) (subst (λ (k : Contents). FlashStandsFor g k.flash.page s) (sym reads.contents) stands)

pub refused_only : {T : Type 0} (start after : State) (r : Result T OpenError) → OnlyFlushed start after → WritesNothingRefused start after r
refused_only start after (Ok v) only = tt
refused_only start after (Err e) only = λ not_failed not_disk not_lost. only

pub since_from : (g : Geometry) (start after : State) (r : Result LoadedCache OpenError) → FitsOn g start.contents.shape → IfOk r (IsLoadedFrom g start.contents.flash.page) → ((lba : ℕ) → after.contents.disk lba ≡ flushed (start.contents.disk lba)) → OnlyFlushed start after
    → OnlyOpens start after r → IfOk r (LoadedSince g start after)
since_from g start after (Ok c) shape loaded disk only goes = record { shape = shape; cache = loaded; disk = disk; only = only; goes = goes }
since_from g start after (Err e) shape loaded disk only goes = tt

-- ---- the second step

-- an error of the flash, or of power, isn't the disk's, and comes by itself
flash_not_disk : {T : Type 0} (r : Result T OpenError) → IfErr r IsOfFlash → disk_failed r ≡ true → ⊥
flash_not_disk (Ok v) of is = false≢true is
flash_not_disk (Err FlashFault) of is = false≢true is
flash_not_disk (Err PowerLost) of is = false≢true is
flash_not_disk (Err NotFormatted) of is = of
flash_not_disk (Err (OtherGeometry found wanted)) of is = of
flash_not_disk (Err (Damaged block at)) of is = of
flash_not_disk (Err DiskFault) of is = of
flash_not_disk (Err OutOfMemory) of is = of

flash_refusal : {A T : Type 0} (g : Geometry) (loads : Result A Refusal) (r : Result T OpenError) → IfErr r IsOfFlash → IfErr r (λ e. IsRefusal g e loads)
flash_refusal g loads (Ok v) of = tt
flash_refusal g loads (Err FlashFault) of = tt
flash_refusal g loads (Err PowerLost) of = tt
flash_refusal g loads (Err NotFormatted) of = absurd of
flash_refusal g loads (Err (OtherGeometry found wanted)) of = absurd of
flash_refusal g loads (Err (Damaged block at)) of = absurd of
flash_refusal g loads (Err DiskFault) of = absurd of
flash_refusal g loads (Err OutOfMemory) of = absurd of

opening_refusal : {A T : Type 0} (g : Geometry) (loads : Result A Refusal) (r : Result T OpenError) → IfErr r (λ e. IsRefusal g e loads) → IfErr r (λ e. IsOpenRefusal g e loads)
opening_refusal g loads (Ok v) is = tt
opening_refusal g loads (Err e) is = inr is

pub flash_reads : {T : Type 0} (start after : State) (r : Result T OpenError) → IfErr r IsOfFlash → WritesNothingRefused start after r
flash_reads start after (Ok v) of = tt
flash_reads start after (Err FlashFault) of = λ not_failed not_disk not_lost. absurd (false≢true (sym not_failed))
flash_reads start after (Err PowerLost) of = λ not_failed not_disk not_lost. absurd (false≢true (sym not_lost))
flash_reads start after (Err NotFormatted) of = absurd of
flash_reads start after (Err (OtherGeometry found wanted)) of = absurd of
flash_reads start after (Err (Damaged block at)) of = absurd of
flash_reads start after (Err DiskFault) of = absurd of
flash_reads start after (Err OutOfMemory) of = absurd of

module _ (g : Geometry) (start now after : State) (loaded : LoadedCache) (since : LoadedSince g start now loaded) where
  page : now.contents.flash.page ≡ start.contents.flash.page
  page = ap (λ f. f.page) since.only.flash

  faults : now.faults ≡ start.faults
  faults = since.goes.cause.none refl refl refl

  same_own : geometry_of loaded.cache ≡ g
  same_own = since.cache.parts.geometry

  -- the precondition of the second step
  pub shape_since : FitsOn (geometry_of loaded.cache) now.contents.shape
  shape_since = subst (λ (h : Geometry). FitsOn h now.contents.shape) (sym same_own) (subst (λ (x : Shape). FitsOn g x) (sym since.goes.passes.shape) since.shape)

  pub loaded_since : IsLoadedFrom (geometry_of loaded.cache) now.contents.flash.page loaded
  loaded_since = subst (λ (h : Geometry). IsLoadedFrom h now.contents.flash.page loaded) (sym same_own) (subst (λ (f : Place → Page). IsLoadedFrom g f loaded) (sym page) since.cache)

  -- the effects of the second step, from the start on
  opened_own : (c : Ssc) → IsOpenedOver (geometry_of loaded.cache) now.contents.flash.page after.contents c → IsOpenedOver g start.contents.flash.page after.contents c
  opened_own c opened = subst (λ (h : Geometry). IsOpenedOver h start.contents.flash.page after.contents c) same_own (subst (λ (f : Place → Page). IsOpenedOver (geometry_of loaded.cache) f after.contents c) page opened)

  pub cache_since : (c : Ssc) → IsOpenedOver (geometry_of loaded.cache) now.contents.flash.page after.contents c → IsOpenCache g start.contents after.contents c
  cache_since c opened =
      let o = opened_own c opened in
      record {
        geometry = o.geometry;
        holds = o.holds;
        loads = o.loads;
        nothing_waits = o.opened.nothing_waits;
        up = o.is_up;
        goes = o.opened.up;
        log = ap (λ (k : Geometry). log_pages k - c.parts.log.next) o.geometry ∙ less_none (log_pages g) c.parts.log.next o.opened.log;
        closed = o.opened.closed;
      }

  ready_since : {T : Type 0} (r : Result T OpenError) → (open_failed r ≡ false → open_lost r ≡ false → KeepsReady now after) → OnOk r (KeepsReady start after)
  ready_since (Ok x) then = λ block there. then refl refl block (since.goes.ready block there)
  ready_since (Err e) then = tt

  goes_since : {T : Type 0} (r : Result T OpenError) → (disk_failed r ≡ true → ⊥) → DrivesFlash now after (open_failed r) (open_lost r) → OnlyOpens start after r
  goes_since r not_failed drives = record {
    ready = ready_since r drives.ready;
    disk_reads = drives.disk_reads ∙ since.goes.disk_reads;
    disk_writes = drives.disk_writes ∙ since.goes.disk_writes;
    disk_flushes = let x = drives.disk_flushes in let y = since.goes.disk_flushes in omega (arith, x, y);
    cause = record {
      flash = let x = drives.cause.flash in let y = ap (λ (f : Faults). f.flash) faults in omega (arith, x, y);
      disk = let x = drives.cause.disk in let y = ap (λ (f : Faults). f.disk) faults in omega (arith, x, y);
      cuts = let x = drives.cause.cuts in let y = ap (λ (f : Faults). f.cuts) faults in omega (arith, x, y);
      flash_fault = λ is. let x = drives.cause.failed is in let y = ap (λ (f : Faults). f.flash) faults in omega (arith, x, y);
      disk_fault = λ is. absurd (not_failed is);
      power_lost = λ is. let x = drives.cause.power_lost is in let y = ap (λ (f : Faults). f.cuts) faults in omega (arith, x, y);
      none = λ no not_disk not. drives.cause.none no not ∙ faults;
    };
    passes = passes_then start now after (open_lost r) since.goes.passes drives.passes;
  }

  pub opening_since : {T : Type 0} (r : Result T OpenError) → StandsStill (geometry_of loaded.cache) now.contents.flash.page after.contents → IfErr r IsOfFlash → DrivesFlash now after (open_failed r) (open_lost r) → IsOpening g start after r
  opening_since r still of drives =
      let own : StandsStill g now.contents.flash.page after.contents = subst (λ (h : Geometry). StandsStill h now.contents.flash.page after.contents) same_own still in
      record {
        opens = opens_after g start.contents now.contents after.contents page r since.disk own.same own.images (flash_refusal g (load g now.contents.flash.page) r of) drives.disk drives.crash;
        refused = opening_refusal g (load g start.contents.flash.page) r (flash_refusal g (load g start.contents.flash.page) r of);
        goes = goes_since r (flash_not_disk r of) drives;
      }

-- ---- the cached disk of a cache that was opened

pub sealed_opens : (v : CachedDisk) (start after : State) → v.down ≡ false → IsOpenCache v.options.geometry start.contents after.contents v.cache → IsOpening {T = CachedDisk} v.options.geometry start after (Ok v)
    → FitsOn v.options.geometry start.contents.shape → MayOpen (told_for v.mode v.options) start.contents → OpensDisk v.mode v.options start after (Ok v)
sealed_opens v start after not_cut cache opening shape may =
    let some = stands_some start.contents.flash.page v.options.geometry (entries_of v.cache) cache.loads in
    let agrees = may some.0 some.1 in
    let up : is_down v ≡ false = (opened_fresh v start.contents after.contents some.0 cache opening.opens some.1 not_cut).up in
    let left = opened_left v start.contents after.contents some.0 cache opening.opens some.1 agrees.0 agrees.1 (subst (λ (x : Shape). FitsOn v.options.geometry x) (sym opening.goes.passes.shape) shape) in
    record {
      owns = left;
      owes = owes_none v after.contents (ap (list_any is_write) cache.nothing_waits) left;
      opened = record {
        opened = λ s stands. opened_fresh v start.contents after.contents s cache opening.opens stands not_cut;
        told = refl;
        up = up;
        loads = cache.loads;
      };
      opening = opening;
      reads = tt;
      stands = λ s stands. let both = may s stands in opened_stands v start.contents after.contents s cache opening.opens stands both.0 both.1;
    }

-- the disk was loaded with these options
pub since_made : (options : Options) (v : LoadedDisk) → v.options ≡ options → (start now : State) → LoadedSince options.geometry start now v.cache → LoadedSince v.options.geometry start now v.cache
since_made options v made start now since = subst (λ (o : Options). LoadedSince o.geometry start now v.cache) (sym made) since

pub opens_made : (options : Options) (mode : Mode) (v : LoadedDisk) → (v.options ≡ options) × (v.mode ≡ mode) → (start now after : State) (r : Result CachedDisk OpenError) → LoadedSince options.geometry start now v.cache → MayOpen (told_for mode options) start.contents
    → ((from : State) → LoadedSince v.options.geometry from now v.cache → MayOpen (told_for v.mode v.options) from.contents → OpensDisk v.mode v.options from after r) → OpensDisk mode options start after r
opens_made options mode v made start now after r since may opens =
    subst (λ (m : Mode). OpensDisk m options start after r) made.1 (subst (λ (o : Options). OpensDisk v.mode o start after r) made.0
    (opens start (since_made options v made.0 start now since) (subst (λ (o : Options). MayOpen (told_for v.mode o) start.contents) (sym made.0) (subst (λ (m : Mode). MayOpen (told_for m options) start.contents) (sym made.1) may))))
