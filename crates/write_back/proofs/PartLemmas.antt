-- Parts of a write-back: one after another, and the effects on the media of each.
use Rattle.std.proofs.Common.{◌≡◌, ℕ, ◌+◌, ◌≤◌, Bool, true, false, List, [], None, Result, Ok, Err, refl, sym, ◌∙◌, ap, subst, arith}
use Rattle.std.specs.Prelude.{OnOk}
use Rattle.std.proofs.lemmas.Bool.{both_ways}
use Rattle.ft_base.specs.Contents.{Contents}
use Rattle.ft_base.specs.Count.{RoseBy, bumped}
use Rattle.ft_base.specs.Told.{Told}
use Rattle.ft_media.specs.declared.media.MediaError.{MediaError}
use Rattle.ft_media.specs.declared.media.MediaError.TheVariants as media
use Rattle.ft_media.specs.declared.rig.Counts.{Counts}
use Rattle.ft_media.specs.State.{State, failed, lost}
use Rattle.ft_media.specs.Media.{DeviceWrite, DiskCause, FlashCause, FlashStays}
use Rattle.ft_media.specs.Fitted.{KeepsReady}
use Rattle.ft_media.specs.Drives.{DrivesFlash}
use Rattle.ft_media.specs.Reads.{ReadsFlash}
use Rattle.ft_media.specs.Passes.{Passes}
use Rattle.ft_media.proofs.PassesLemmas.{passes_none, passes_then}
use Rattle.ft_volume.proofs.UpLemmas.{cause_then}
use Rattle.ft_volume.specs.Opening.{ImageIs, KeepsPlainDisk}
use Rattle.ft_volume.specs.Volume.{FaultDowns, Goes, HasCause, volume_lost}
use Rattle.ft_volume.specs.Standing.{StandFor}
use Rattle.ft_volume.specs.declared.volume.VolumeError.{VolumeError}
use Rattle.ft_volume.specs.declared.volume.VolumeError.TheVariants as volume
use Rattle.std.specs.List.{list_any}
use Rattle.cache_model.specs.Cache.{is_write}
use Rattle.ssc.specs.CacheState.{pending}
use Rattle.ssc.specs.declared.cache.Ssc.{Ssc}
use Rattle.ssc.specs.declared.error.SscError.{SscError}
use Rattle.ssc.specs.declared.error.SscError.TheVariants.{Full, FlashFault, PowerLost, OutOfMemory}
use Rattle.ssc.specs.Errors.{ssc_failed, ssc_lost}
use Rattle.cached_disk.specs.declared.disk.CachedDisk.{CachedDisk}
use Rattle.cached_disk.specs.Errors.{IsOfCache, disk_error}
use Rattle.cached_disk.specs.Kept.{IsLeft, is_down, state_in, told_of, WritesDisk}
use Rattle.write_back.specs.Cleaning.{Proceeds}

abbrev pub Answer : Type 0
Answer = Result (Unit {0}) VolumeError

-- ---- one part after another

rose_first : (m n k s t u : ℕ) → m + n ≡ k → RoseBy m s t → RoseBy n t u → RoseBy k s u
rose_first m n k s t u sum first then = λ below. let x = then below in let y = first (omega (arith, x, below)) in omega (arith, x, y, sum)

writes_first : (s t u : State) (m n k : ℕ) (r : Answer) → m + n ≡ k → WritesDisk m s t (Ok tt) → WritesDisk n t u r → WritesDisk k s u r
writes_first s t u m n k r sum first then = record {
  exact = by_result r then.exact;
  most = let x = first.most in let y = then.most in omega (arith, x, y, sum);
  reads = then.reads ∙ first.reads;
}
  where
    by_result : (r : Answer) → OnOk r (RoseBy n t.counts.disk_writes u.counts.disk_writes) → OnOk r (RoseBy k s.counts.disk_writes u.counts.disk_writes)
    by_result (Ok w) rose = rose_first m n k s.counts.disk_writes t.counts.disk_writes u.counts.disk_writes sum first.exact rose
    by_result (Err e) rose = tt

module _ (a b c : CachedDisk) (s t u : State) (m n : ℕ) (first : Proceeds m a b s t (Ok tt)) where
  goes_first : (was is : List ℕ) (r : Answer) → Goes (state_in [] b) (state_in is c) t u r → FaultDowns r (is_down c) → Goes (state_in was a) (state_in is c) s u r
  goes_first was is r then downs = let before = first.goes was [] in record {
    told = then.told ∙ before.told;
    up = then.up;
    lost = λ on is. then.lost (before.passes.stayed on refl).on is;
    memory = λ is was. then.memory is before.up;
    ready = λ up b there. then.ready up b (before.ready before.up b there);
    disk = λ is was up. absurd (both_ways (is_down c) up (downs.disk is));
    cause = cause_then s.faults t.faults u.faults tt r before.cause then.cause;
    passes = passes_then s t u (volume_lost r) before.passes then.passes;
  }

  joined : (k : ℕ) (r : Answer) → WritesDisk k s u r → Proceeds n b c t u r → Proceeds k a c s u r
  joined k r writes then = record {
    left = then.left;
    settled = then.settled;
    stands = λ d stand. subst (λ (x : Told). StandFor (ImageIs x) u.contents d) (first.goes [] []).told (then.stands d (subst (λ (x : Told). StandFor (ImageIs x) t.contents d) (sym (first.goes [] []).told) (first.stands d stand)));
    made = (then.made.0 ∙ first.made.0, then.made.1 ∙ first.made.1);
    reserved = then.reserved ∙ first.reserved;
    held = λ up x. then.held up x ∙ first.held (first.goes [] []).up x;
    goes = λ was is. goes_first was is r (then.goes [] is) then.faulted;
    faulted = then.faulted;
    writes = writes;
    within = then.within;
  }

  pub proceeds_then : (k : ℕ) (r : Answer) → m + n ≡ k → Proceeds n b c t u r → Proceeds k a c s u r
  proceeds_then k r sum then = joined k r (writes_first s t u m n k r sum first.writes then.writes) then

  -- the last part failed
  pub proceeds_refused : (k : ℕ) (e : VolumeError) (r : Answer) → m + n ≤ k → r ≡ Err e → Proceeds n b c t u (Err e) → Proceeds k a c s u r
  proceeds_refused k e r most is then = subst (λ (q : Answer). Proceeds k a c s u q) (sym is) (joined k (Err e) (record {
    exact = tt;
    most = let x = first.writes.most in let y = then.writes.most in omega (arith, x, y, most);
    reads = then.writes.reads ∙ first.writes.reads;
  }) then)

pub proceeds_as : (n : ℕ) (a b : CachedDisk) (s t : State) (e : VolumeError) (r : Answer) → r ≡ Err e → Proceeds n a b s t (Err e) → Proceeds n a b s t r
proceeds_as n a b s t e r is first = subst (λ (q : Answer). Proceeds n a b s t q) (sym is) first

pub same_then : (a b c : CachedDisk) → b ≡ record a { down = b.down } → c ≡ record b { down = c.down } → c ≡ record a { down = c.down }
same_then a b c first then = then ∙ ap (λ (w : CachedDisk). record w { down = c.down }) first

-- ---- nothing was done

module _ (v : CachedDisk) (s : State) (up : is_down v ≡ false) (left : IsLeft v s.contents) (no_write : list_any is_write (pending v.cache) ≡ false) where
  pub proceeds_none : Proceeds 0 v v s s (Ok tt)
  proceeds_none = record {
    left = left;
    stands = λ d stand. stand;
    settled = λ still. no_write;
    made = (refl, refl);
    reserved = refl;
    held = λ now a. refl;
    goes = λ before_order after_order. record {
      told = refl;
      up = up;
      lost = λ on is. absurd (cc);
      memory = λ is was. absurd (cc);
      ready = λ now b there. there;
      disk = λ is was now. refl;
      cause = record { flash = omega arith; disk = omega arith; cuts = omega arith; flash_fault = λ is. absurd (cc); disk_fault = λ is. absurd (cc); power_lost = λ is. absurd (cc); none = λ no. refl };
      passes = passes_none s;
    };
    faulted = record { flash = λ is. absurd (cc); disk = λ is. absurd (cc) };
    writes = record { exact = λ below. omega arith; most = omega arith; reads = refl };
    within = λ is. absurd (cc);
  }

  pub lacks_memory : (n : ℕ) → Proceeds n v v s s (Err volume.OutOfMemory)
  lacks_memory n = record {
    left = left;
    stands = λ d stand. stand;
    settled = λ still. no_write;
    made = (refl, refl);
    reserved = refl;
    held = λ now a. refl;
    goes = λ before_order after_order. record {
      told = refl;
      up = tt;
      lost = λ on is. absurd (cc);
      memory = λ is was. was;
      ready = λ now b there. there;
      disk = λ is was now. refl;
      cause = record { flash = omega arith; disk = omega arith; cuts = omega arith; flash_fault = λ is. absurd (cc); disk_fault = λ is. absurd (cc); power_lost = λ is. absurd (cc); none = λ no. refl };
      passes = passes_none s;
    };
    faulted = record { flash = λ is. absurd (cc); disk = λ is. absurd (cc) };
    writes = record { exact = tt; most = omega arith; reads = refl };
    within = λ is. absurd (cc);
  }

-- ---- the effects on the media

-- how a call of the disk changes the flash, the faults and power
pub record CallsDisk (s t : State) (r : Result (Unit {0}) MediaError) : Type 0 where
  pub flash : FlashStays s.contents t.contents (lost r)
  pub cause : DiskCause s.faults t.faults (failed r) (lost r)
  pub device : DeviceWrite s t r
  pub passes : Passes s t (lost r)

-- the call answered `Ok`
pub record Answers (s t : State) : Type 0 where
  pub ready : KeepsReady s t
  pub cause : HasCause {T = Unit {0}} s.faults t.faults (Ok tt)
  pub passes : Passes s t false

-- the call failed, and no block was written to the disk
pub record Refuses (s t : State) (r : VolumeError) : Type 0 where
  pub memory : r ≡ volume.OutOfMemory → ⊥
  pub within : r ≡ volume.OutOfVolume → ⊥
  pub cause : HasCause {T = Unit {0}} s.faults t.faults (Err r)
  pub passes : Passes s t (volume_lost {T = Unit {0}} (Err r))
  pub disk_writes : t.counts.disk_writes ≡ s.counts.disk_writes
  pub disk_reads : t.counts.disk_reads ≡ s.counts.disk_reads

module _ (s t : State) where
  pub answers_disk : CallsDisk s t (Ok tt) → Answers s t
  answers_disk calls = record {
    ready = calls.device.ready refl refl;
    cause = record {
      flash = let x = calls.cause.flash in omega (arith, x);
      disk = calls.cause.disk;
      cuts = calls.cause.cuts;
      flash_fault = λ is. absurd (cc);
      disk_fault = λ is. absurd (cc);
      power_lost = λ is. absurd (cc);
      none = λ no. calls.cause.none refl refl;
    };
    passes = calls.passes;
  }

  flash_cause : FlashCause s.faults t.faults false false → HasCause {T = Unit {0}} s.faults t.faults (Ok tt)
  flash_cause cause = record {
    flash = cause.flash;
    disk = let x = cause.disk in omega (arith, x);
    cuts = cause.cuts;
    flash_fault = λ is. absurd (cc);
    disk_fault = λ is. absurd (cc);
    power_lost = λ is. absurd (cc);
    none = λ no. cause.none refl refl;
  }

  pub answers_read : ReadsFlash s t false false → Answers s t
  answers_read reads = record {
    ready = λ b there. subst (λ (x : Contents). x.flash.next b ≡ None → ⊥) (sym reads.contents) there;
    cause = flash_cause reads.cause;
    passes = reads.passes;
  }

  pub answers_drive : DrivesFlash s t false false → Answers s t
  answers_drive drives = record { ready = drives.ready refl refl; cause = flash_cause drives.cause; passes = drives.passes }

  pub refuses_disk : (e : MediaError) → (e ≡ media.OutOfMemory → ⊥) → CallsDisk s t (Err e) → t.counts ≡ s.counts → Refuses s t (disk_error e)
  refuses_disk media.Failed other calls counts = record {
    memory = λ is. absurd (cc);
    within = λ is. absurd (cc);
    cause = record {
      flash = let x = calls.cause.flash in omega (arith, x);
      disk = calls.cause.disk;
      cuts = calls.cause.cuts;
      flash_fault = λ is. absurd (cc);
      disk_fault = λ is. calls.cause.failed refl;
      power_lost = λ is. absurd (cc);
      none = λ no. absurd (cc);
    };
    passes = calls.passes;
    disk_writes = ap (λ (x : Counts). x.disk_writes) counts;
    disk_reads = ap (λ (x : Counts). x.disk_reads) counts;
  }
  refuses_disk media.PowerLost other calls counts = record {
    memory = λ is. absurd (cc);
    within = λ is. absurd (cc);
    cause = record {
      flash = let x = calls.cause.flash in omega (arith, x);
      disk = calls.cause.disk;
      cuts = calls.cause.cuts;
      flash_fault = λ is. absurd (cc);
      disk_fault = λ is. absurd (cc);
      power_lost = λ is. calls.cause.power_lost refl;
      none = λ no. absurd (cc);
    };
    passes = calls.passes;
    disk_writes = ap (λ (x : Counts). x.disk_writes) counts;
    disk_reads = ap (λ (x : Counts). x.disk_reads) counts;
  }
  refuses_disk media.OutOfMemory other calls counts = absurd (other refl)

  refuses_flash : (T : Type 0) (e : SscError) (r : VolumeError) → IsOfCache e r → (e ≡ OutOfMemory → ⊥) → FlashCause s.faults t.faults (ssc_failed {T = T} (Err e)) (ssc_lost {T = T} (Err e))
      → Passes s t (ssc_lost {T = T} (Err e)) → t.counts.disk_writes ≡ s.counts.disk_writes → t.counts.disk_reads ≡ s.counts.disk_reads → Refuses s t r
  refuses_flash T (Full n limit) r is other cause passes writes reads = absurd is
  refuses_flash T FlashFault r is other cause passes writes reads = subst (λ (q : VolumeError). Refuses s t q) (sym is) (record {
    memory = λ f. absurd (cc);
    within = λ f. absurd (cc);
    cause = record {
      flash = cause.flash;
      disk = let x = cause.disk in omega (arith, x);
      cuts = cause.cuts;
      flash_fault = λ f. cause.failed refl;
      disk_fault = λ f. absurd (cc);
      power_lost = λ f. absurd (cc);
      none = λ no. absurd (cc);
    };
    passes = passes;
    disk_writes = writes;
    disk_reads = reads;
  })
  refuses_flash T PowerLost r is other cause passes writes reads = subst (λ (q : VolumeError). Refuses s t q) (sym is) (record {
    memory = λ f. absurd (cc);
    within = λ f. absurd (cc);
    cause = record {
      flash = cause.flash;
      disk = let x = cause.disk in omega (arith, x);
      cuts = cause.cuts;
      flash_fault = λ f. absurd (cc);
      disk_fault = λ f. absurd (cc);
      power_lost = λ f. cause.power_lost refl;
      none = λ no. absurd (cc);
    };
    passes = passes;
    disk_writes = writes;
    disk_reads = reads;
  })
  refuses_flash T OutOfMemory r is other cause passes writes reads = absurd (other refl)

  pub refuses_read : (e : SscError) (r : VolumeError) → IsOfCache e r → (e ≡ OutOfMemory → ⊥) → ReadsFlash s t (ssc_failed {T = Bool} (Err e)) (ssc_lost {T = Bool} (Err e)) → Refuses s t r
  refuses_read e r is other reads = refuses_flash Bool e r is other reads.cause reads.passes (ap (λ (x : Counts). x.disk_writes) reads.counts) (ap (λ (x : Counts). x.disk_reads) reads.counts)

  pub refuses_drive : (e : SscError) (r : VolumeError) → IsOfCache e r → (e ≡ OutOfMemory → ⊥) → DrivesFlash s t (ssc_failed {T = Unit {0}} (Err e)) (ssc_lost {T = Unit {0}} (Err e)) → Refuses s t r
  refuses_drive e r is other drives = refuses_flash (Unit {0}) e r is other drives.cause drives.passes drives.disk_writes drives.disk_reads

-- the call failed, so the volume is down
module _ (v : CachedDisk) (k : Ssc) (d : Bool) (s t : State) (r : VolumeError) where
  abbrev refused_disk : CachedDisk
  refused_disk = record v { cache = k; down = d }

  pub proceeds_down : (n : ℕ) → is_down refused_disk ≡ true → k.ready ≡ v.cache.ready → Refuses s t r → IsLeft refused_disk t.contents → KeepsPlainDisk (told_of v) s.contents t.contents → Proceeds n v refused_disk s t (Err r)
  proceeds_down n down reserved refuses left stands = record {
    left = left;
    stands = stands;
    settled = λ up. absurd (both_ways (is_down refused_disk) up down);
    made = (refl, refl);
    reserved = reserved;
    held = λ up a. absurd (both_ways (is_down refused_disk) up down);
    goes = λ before_order after_order. record {
      told = refl;
      up = tt;
      lost = λ on is. down;
      memory = λ is was. absurd (refuses.memory (let same : r ≡ volume.OutOfMemory = cc in same));
      ready = λ up. absurd (both_ways (is_down refused_disk) up down);
      disk = λ is was up. absurd (both_ways (is_down refused_disk) up down);
      cause = refuses.cause;
      passes = refuses.passes;
    };
    faulted = record { flash = λ is. down; disk = λ is. down };
    writes = record { exact = tt; most = let x = refuses.disk_writes in omega (arith, x); reads = refuses.disk_reads };
    within = λ is. refuses.within (let same : r ≡ volume.OutOfVolume = cc in same);
  }

-- ---- the counts

pub writes_one : (s t : State) → t.counts.disk_writes ≡ bumped s.counts.disk_writes → t.counts.disk_reads ≡ s.counts.disk_reads → WritesDisk 1 s t (Ok tt)
writes_one s t writes reads = record {
  exact = λ below. omega (arith, writes, below);
  most = omega (arith, writes);
  reads = reads;
}

pub writes_nothing : (s t : State) → t.counts.disk_writes ≡ s.counts.disk_writes → t.counts.disk_reads ≡ s.counts.disk_reads → WritesDisk 0 s t (Ok tt)
writes_nothing s t writes reads = record { exact = λ below. omega (arith, writes); most = omega (arith, writes); reads = reads }
