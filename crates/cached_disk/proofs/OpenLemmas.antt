-- The media that an opening of the cache leaves.
use Rattle.std.proofs.Common.{◌≡◌, ℕ, ◌-◌, true, false, Result, Ok, Err, IfOk, IfErr, inl, inr, refl, sym, ◌∙◌, ap, subst, arith}
use Rattle.std.specs.Prelude.{IsErrOf, OnErr, OnOk}
use Rattle.ft_base.specs.Count.{bumped}
use Rattle.std.proofs.lemmas.Bool.{false≢true}
use Rattle.ft_base.specs.declared.block.Block.{Block}
use Rattle.ft_base.specs.declared.block.Place.{Place}
use Rattle.ft_base.specs.declared.block.Page.{Page}
use Rattle.ft_base.specs.declared.geometry.Geometry.{Geometry}
use Rattle.ft_base.specs.Layout.{log_pages}
use Rattle.ft_base.specs.Contents.{Contents, Image, Now, Values, HasValue, flushed}
use Rattle.ft_base.proofs.Images.{with_newest, newest_image}
use Rattle.ft_media.specs.declared.media.MediaError.{MediaError}
use Rattle.ft_media.specs.declared.media.MediaError.TheVariants as media
use Rattle.ft_media.specs.declared.rig.Counts.{Counts}
use Rattle.ft_media.specs.Drives.{DrivesFlash}
use Rattle.ft_media.specs.Fitted.{KeepsReady}
use Rattle.ft_media.specs.Passes.{Passes}
use Rattle.ft_media.specs.Reads.{ReadsFlash}
use Rattle.ft_media.specs.State.{State, lost}
use Rattle.ft_media.proofs.PassesLemmas.{passes_then}
use Rattle.ft_media.specs.Media.{Crashed, DeviceWrite, DiskCause, DiskStays, flush_counted}
use Rattle.ft_volume.specs.Opening.{Opens}
use Rattle.cache_model.specs.CacheList.{CacheList}
use Rattle.cache_model.specs.Loading.{load}
use Rattle.cache_model.specs.Stands.{FlashStandsFor}
use Rattle.op_log.specs.declared.error.OpenError.{OpenError}
use Rattle.op_log.specs.declared.error.OpenError.TheVariants.{NotFormatted, OtherGeometry, Damaged, FlashFault, DiskFault, PowerLost, OutOfMemory}
use Rattle.op_log.specs.Refusals.{IsRefusal, open_failed, open_lost}
use Rattle.ssc.specs.declared.cache.Ssc.{Ssc}
use Rattle.ssc.specs.CacheState.{Holds, IsUp, entries_of, geometry_of}
use Rattle.ssc.specs.Kept.{IsJustOpened}
use Rattle.cached_disk.specs.Errors.{disk_failed, flush_error}
use Rattle.cached_disk.specs.Kept.{IsOpenCache, OnlyOpens, WritesNothingRefused}

flushed_had : (old new : Values) → new ≡ flushed old → (b : Block) → HasValue new b → HasValue old b
flushed_had old new is b has = by_value (subst (λ (v : Values). HasValue v b) is has)
  where
    by_value : HasValue (flushed old) b → HasValue old b
    by_value (inl same) = inl same
    by_value (inr none) = absurd none

pub less_none : (a n : ℕ) → n ≡ 0 → a - n ≡ a
less_none a n none = omega (arith, none)

-- the disk was flushed, and then only the flash was driven
module _ (g : Geometry) (a b c : Contents) (page : b.flash.page ≡ a.flash.page) where
  pub open_cache_of : (r : Result Ssc OpenError)
      → IfOk r (λ v. geometry_of v ≡ g)
      → IfOk r (λ v. (s : CacheList) → FlashStandsFor g b.flash.page s → Holds v c s)
      → IfOk r (λ v. load g b.flash.page ≡ Ok (entries_of v))
      → IfOk r (IsJustOpened g)
      → IfOk r (λ v. IsUp v c)
      → IfOk r (λ v. IsOpenCache g a c v)
  open_cache_of (Ok v) geometry holds loads opened up = record {
    geometry = geometry;
    holds = λ s stands. holds s (subst (λ (f : Place → Page). FlashStandsFor g f s) (sym page) stands);
    loads = ap (λ (f : Place → Page). load g f) (sym page) ∙ loads;
    nothing_waits = opened.nothing_waits;
    up = up;
    goes = opened.up;
    log = ap (λ (k : Geometry). log_pages k - v.parts.log.next) geometry ∙ less_none (log_pages g) v.parts.log.next opened.log;
    closed = opened.closed;
  }
  open_cache_of (Err e) geometry holds loads opened up = tt

  -- a cache doesn't ask the disk
  pub not_disk : {A T : Type 0} (r : Result T OpenError) (loads : Result A _) → IfErr r (λ e. IsRefusal g e loads) → disk_failed r ≡ true → ⊥
  not_disk (Ok v) loads refused is = false≢true is
  not_disk (Err NotFormatted) loads refused is = false≢true is
  not_disk (Err (OtherGeometry found wanted)) loads refused is = false≢true is
  not_disk (Err (Damaged block at)) loads refused is = false≢true is
  not_disk (Err FlashFault) loads refused is = false≢true is
  not_disk (Err DiskFault) loads refused is = refused
  not_disk (Err PowerLost) loads refused is = false≢true is
  not_disk (Err OutOfMemory) loads refused is = false≢true is

  pub opens_after : {T : Type 0} (r : Result T OpenError) → ((lba : ℕ) → b.disk lba ≡ flushed (a.disk lba)) → load g c.flash.page ≡ load g b.flash.page → ((s : CacheList) → FlashStandsFor g b.flash.page s → (x : Image) → Now c x → FlashStandsFor g x.page s)
      → IfErr r (λ e. IsRefusal g e (load g b.flash.page)) → DiskStays b c (open_lost r) → (open_lost r ≡ true → Crashed c) → Opens g a c (disk_failed r) (open_lost r)
  opens_after r flush same images refused stays crash = record {
    loads = same ∙ ap (λ (f : Place → Page). load g f) page;
    lists = λ s stands. images s (subst (λ (f : Place → Page). FlashStandsFor g f s) (sym page) stands) (with_newest c) (newest_image c);
    values = λ lba v has. flushed_had (a.disk lba) (b.disk lba) (flush lba) v (stays.values lba v has);
    flushed = λ no not lba. ap (λ (f : ℕ → Values). f lba) (stays.stays not) ∙ flush lba;
    unflushed = λ is. absurd (not_disk r (load g b.flash.page) refused is);
    alone = λ is lba. (crash is).alone lba;
  }

  -- the flush failed
  pub opens_refused : (e : MediaError) (r : OpenError) → r ≡ flush_error e → ((lba : ℕ) (v : Block) → HasValue (b.disk lba) v → HasValue (a.disk lba) v)
      → (IsErrOf {T = Unit {0}} (Err e) media.Failed → b.disk ≡ a.disk) → (IsErrOf {T = Unit {0}} (Err e) media.OutOfMemory → ⊥) → (lost {T = Unit {0}} (Err e) ≡ true → Crashed b)
      → Opens g a b (disk_failed {T = Ssc} (Err r)) (open_lost {T = Ssc} (Err r))
  opens_refused e r is values failed memory crash = subst (λ (r : OpenError). Opens g a b (disk_failed {T = Ssc} (Err r)) (open_lost {T = Ssc} (Err r))) (sym is) (by_error e failed memory crash)
    where
      loads_page : load g b.flash.page ≡ load g a.flash.page
      loads_page = ap (λ (f : Place → Page). load g f) page

      lists_page : (s : CacheList) → FlashStandsFor g a.flash.page s → FlashStandsFor g b.flash.page s
      lists_page s stands = subst (λ (f : Place → Page). FlashStandsFor g f s) (sym page) stands

      by_error : (e : MediaError) → (IsErrOf {T = Unit {0}} (Err e) media.Failed → b.disk ≡ a.disk) → (IsErrOf {T = Unit {0}} (Err e) media.OutOfMemory → ⊥)
          → (lost {T = Unit {0}} (Err e) ≡ true → Crashed b) → Opens g a b (disk_failed {T = Ssc} (Err (flush_error e))) (open_lost {T = Ssc} (Err (flush_error e)))
      by_error media.Failed failed memory crash = record { loads = loads_page; lists = lists_page; values = values; flushed = λ no not. absurd (false≢true (sym no)); unflushed = λ yes. failed refl; alone = λ yes. absurd (false≢true yes) }
      by_error media.PowerLost failed memory crash = record { loads = loads_page; lists = lists_page; values = values; flushed = λ no not. absurd (false≢true (sym not)); unflushed = λ yes. absurd (false≢true yes); alone = λ yes lba. (crash refl).alone lba }
      by_error media.OutOfMemory failed memory crash = absurd (memory refl)

-- power, the faults and the counts change as the two calls answer
module _ (a b c : State) (device : DeviceWrite {T = Unit {0}} a b (Ok tt)) (counts : b.counts ≡ flush_counted a.counts) (cause : DiskCause a.faults b.faults false false) (passes : Passes a b false) where
  keeps_ready : {T : Type 0} (r : Result T OpenError) → (open_failed r ≡ false → open_lost r ≡ false → KeepsReady b c) → OnOk r (KeepsReady a c)
  keeps_ready (Ok v) then = λ block there. then refl refl block (device.ready refl refl block there)
  keeps_ready (Err e) then = tt

  pub only_opens : {T : Type 0} (r : Result T OpenError) → (disk_failed r ≡ true → ⊥) → DrivesFlash b c (open_failed r) (open_lost r) → OnlyOpens a c r
  only_opens r not_failed drives = record {
    ready = keeps_ready r drives.ready;
    disk_reads = drives.disk_reads ∙ ap (λ (n : Counts). n.disk_reads) counts;
    disk_writes = drives.disk_writes ∙ ap (λ (n : Counts). n.disk_writes) counts;
    disk_flushes = let x = drives.disk_flushes in let y : b.counts.disk_flushes ≡ bumped a.counts.disk_flushes = ap (λ (n : Counts). n.disk_flushes) counts in omega (arith, x, y);
    cause = record {
      flash = let x = drives.cause.flash in let y = cause.flash in omega (arith, x, y);
      disk = let x = drives.cause.disk in let y = cause.disk in omega (arith, x, y);
      cuts = let x = drives.cause.cuts in let y = cause.cuts in omega (arith, x, y);
      flash_fault = λ is. let x = drives.cause.failed is in let y = cause.flash in omega (arith, x, y);
      disk_fault = λ is. absurd (not_failed is);
      power_lost = λ is. let x = drives.cause.power_lost is in let y = cause.cuts in omega (arith, x, y);
      none = λ no not_disk not. drives.cause.none no not ∙ cause.none refl refl;
    };
    passes = passes_then a b c (open_lost r) passes drives.passes;
  }

-- after `Err` it has only read since
pub reads_after : {T : Type 0} (a b c : State) (r : Result T OpenError) → b.contents.flash ≡ a.contents.flash → b.counts ≡ flush_counted a.counts → OnErr r (open_failed r ≡ false → open_lost r ≡ false → ReadsFlash b c false false) → WritesNothingRefused a c r
reads_after a b c (Ok v) flash counts reads = tt
reads_after a b c (Err e) flash counts reads = λ not_failed not_disk not_lost. let only = reads not_failed not_lost in record { flash = ap (λ (x : Contents). x.flash) only.contents ∙ flash; counts = only.counts ∙ counts }

-- if a flush failed, the disk failed or power was lost
pub flush_tells : (a b : State) (e : MediaError) (r : OpenError) → r ≡ flush_error e → (IsErrOf {T = Unit {0}} (Err e) media.OutOfMemory → ⊥) → WritesNothingRefused {T = Ssc} a b (Err r)
flush_tells a b e r is memory = subst (λ (x : OpenError). WritesNothingRefused {T = Ssc} a b (Err x)) (sym is) (by_error e memory)
  where
    by_error : (e : MediaError) → (IsErrOf {T = Unit {0}} (Err e) media.OutOfMemory → ⊥) → WritesNothingRefused {T = Ssc} a b (Err (flush_error e))
    by_error media.Failed memory = λ not_failed not_disk not_lost. absurd (false≢true (sym not_disk))
    by_error media.PowerLost memory = λ not_failed not_disk not_lost. absurd (false≢true (sym not_lost))
    by_error media.OutOfMemory memory = absurd (memory refl)
