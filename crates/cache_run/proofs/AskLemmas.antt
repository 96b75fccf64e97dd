-- What asking for a report leaves, once and again after cuts.
use Rattle.std.proofs.Common.{◌≡◌, ◌≢◌, ◌⊎◌, inl, inr, ℕ, ◌+◌, ◌-◌, ◌≤◌, min, false, true, ◌∷◌, length, drop, Result, Ok, Err, OnOk, OnErr, IfErr, IsErrOf, refl, sym, ap, ◌∙◌, subst, arith}
use Rattle.std.proofs.lemmas.List.{drop-drop, length-drop}
use Rattle.ft_base.specs.Count.{Rose, last_count}
use Rattle.ft_media.specs.Rig.{powered}
use Rattle.ft_media.specs.State.{State}
use Rattle.ft_volume.specs.Volume.{Costs, Goes, VolumeState, volume_lost}
use Rattle.ft_volume.specs.Volume.Call.{Reports}
use Rattle.ft_volume.specs.declared.volume.Report.{Report}
use Rattle.ft_volume.specs.declared.volume.VolumeError.{VolumeError}
use Rattle.ft_volume.specs.declared.volume.VolumeError.TheVariants as volume
use Rattle.trace_replay.specs.Said.{NoneFailed, ended_of}
use Rattle.trace_replay.specs.declared.ended.Ended.{Ended}
use Rattle.trace_replay.specs.declared.ended.Ended.TheVariants as ended
use Rattle.cache_run.specs.Inspected.{Asks}
use Rattle.trace_replay.proofs.CutsLemmas.{counts_none, counts_then, failed_lost, failed_same}

-- nothing was asked yet
pub asks_none : (a : State) → a.power.on ≡ true → Asks 0 a a
asks_none a on = record { on = on; shape = refl; lent = refl; counts = counts_none a.counts; disk_reads = refl; disk_writes = refl; flash = omega arith; disk = omega arith; later = omega arith; few = omega arith; stops = refl; risen = λ below. omega arith }

pub asks_then : (m n : ℕ) (a b c : State) → Asks m a b → Asks n b c → Asks (m + n) a c
asks_then m n a b c first next =
    let f1 = first.flash in let f2 = next.flash in
    let d1 = first.disk in let d2 = next.disk in
    let c1 = first.later in let c2 = next.later in
    let left : length b.power.stops ≡ length a.power.stops - m = ap length first.stops ∙ length-drop m a.power.stops in
    let few = first.few in
    let more = next.few in
    record {
      on = next.on;
      shape = next.shape ∙ first.shape;
      lent = next.lent ∙ first.lent;
      counts = counts_then a.counts b.counts c.counts first.counts next.counts;
      disk_reads = next.disk_reads ∙ first.disk_reads;
      disk_writes = next.disk_writes ∙ first.disk_writes;
      flash = omega arith;
      disk = omega arith;
      later = omega arith;
      few = omega arith;
      stops = next.stops ∙ ap (drop n) first.stops ∙ drop-drop n m a.power.stops;
      risen = λ below. let two = next.risen below in let one = first.risen (omega arith) in omega arith;
    }

-- one cut more leaves fewer stops
pub fewer_left : (a b : State) → Asks 1 a b → length b.power.stops + 1 ≤ length a.power.stops
fewer_left a b asks =
    let left : length b.power.stops ≡ length a.power.stops - 1 = ap length asks.stops ∙ length-drop 1 a.power.stops in
    let few = asks.few in
    omega arith

-- how a report was answered
abbrev pub answered : VolumeError → Result Report VolumeError
answered e = Err e

module _ (u v w : VolumeState) (a b : State) (on : a.power.on ≡ true) where
  -- a call that lost no power
  pub asks_still : (result : Result Report VolumeError) → volume_lost result ≡ false → Goes u v a b result → Costs Reports w v a b result → Asks 0 a b
  asks_still result not_lost goes costs =
      let stayed = goes.passes.stayed on not_lost in
      let counts = goes.passes.counts in
      let reads_later = counts.disk_reads in
      let writes_later = counts.disk_writes in
      let reads : b.counts.disk_reads ≤ a.counts.disk_reads + 0 = costs.most_reads in
      let writes : b.counts.disk_writes ≤ a.counts.disk_writes + 0 = costs.most_writes in
      let later = goes.cause.cuts in
      record {
        on = stayed.on;
        shape = goes.passes.shape;
        lent = goes.passes.lent;
        counts = counts;
        disk_reads = omega arith;
        disk_writes = omega arith;
        flash = goes.cause.flash;
        disk = goes.cause.disk;
        later = later;
        few = omega arith;
        stops = stayed.stops;
        risen = λ below. omega arith;
      }

  -- a stop cut it, and power is on again
  pub asks_cut : (after : State) → Goes u v a b (answered volume.PowerLost) → Costs Reports w v a b (answered volume.PowerLost) → after ≡ powered b → Asks 1 a after
  asks_cut after goes costs is =
      let cut = goes.passes.cut on refl in
      let counts = goes.passes.counts in
      let reads_later = counts.disk_reads in
      let writes_later = counts.disk_writes in
      let reads : b.counts.disk_reads ≤ a.counts.disk_reads + 0 = costs.most_reads in
      let writes : b.counts.disk_writes ≤ a.counts.disk_writes + 0 = costs.most_writes in
      let rose : min (a.faults.cuts + 1) last_count ≤ b.faults.cuts = goes.cause.power_lost refl in
      let long : length a.power.stops ≡ length (cut.front ∷ b.power.stops) = ap length cut.stops in
      subst (λ (s : State). Asks 1 a s) (sym is) (record {
        on = refl;
        shape = goes.passes.shape;
        lent = goes.passes.lent;
        counts = counts;
        disk_reads = omega arith;
        disk_writes = omega arith;
        flash = goes.cause.flash;
        disk = goes.cause.disk;
        later = goes.cause.cuts;
        few = omega (arith, long);
        stops = sym (ap (drop 1) cut.stops);
        risen = λ below. omega arith;
      })

-- an answer that is none of a lost power
pub not_lost : (e : VolumeError) → e ≢ volume.PowerLost → volume_lost (answered e) ≡ false
not_lost volume.PowerLost other = absurd (other refl)
not_lost volume.FlashFault other = refl
not_lost volume.DiskFault other = refl
not_lost volume.OutOfMemory other = refl
not_lost volume.OutOfVolume other = refl

-- ---- how it ends at an answer that is none of a lost power

module _ (u v : VolumeState) (a b c : State) (same : c ≡ b) where
  rose_flash : (e : VolumeError) → Goes u v a b (answered e) → ended_of e ≡ ended.Flash → Rose a.faults.flash c.faults.flash
  rose_flash volume.FlashFault goes is = subst (λ (s : State). Rose a.faults.flash s.faults.flash) (sym same) (goes.cause.flash_fault refl)
  rose_flash volume.DiskFault goes is = absurd (let no : ended.Disk ≡ ended.Flash = is in cc)
  rose_flash volume.PowerLost goes is = absurd (let no : ended.Memory ≡ ended.Flash = is in cc)
  rose_flash volume.OutOfMemory goes is = absurd (let no : ended.Memory ≡ ended.Flash = is in cc)
  rose_flash volume.OutOfVolume goes is = absurd (let no : ended.Memory ≡ ended.Flash = is in cc)

  rose_disk : (e : VolumeError) → Goes u v a b (answered e) → ended_of e ≡ ended.Disk → Rose a.faults.disk c.faults.disk
  rose_disk volume.DiskFault goes is = subst (λ (s : State). Rose a.faults.disk s.faults.disk) (sym same) (goes.cause.disk_fault refl)
  rose_disk volume.FlashFault goes is = absurd (let no : ended.Flash ≡ ended.Disk = is in cc)
  rose_disk volume.PowerLost goes is = absurd (let no : ended.Memory ≡ ended.Disk = is in cc)
  rose_disk volume.OutOfMemory goes is = absurd (let no : ended.Memory ≡ ended.Disk = is in cc)
  rose_disk volume.OutOfVolume goes is = absurd (let no : ended.Memory ≡ ended.Disk = is in cc)

  pub flash_rose : (T : Type 0) (e : VolumeError) (f : Ended) → Goes u v a b (answered e) → f ≡ ended_of e → IsErrOf {T = T} (Err f) ended.Flash → Rose a.faults.flash c.faults.flash
  flash_rose T e f goes ends is = rose_flash e goes (let same_end : f ≡ ended.Flash = cc in sym ends ∙ same_end)

  pub disk_rose : (T : Type 0) (e : VolumeError) (f : Ended) → Goes u v a b (answered e) → f ≡ ended_of e → IsErrOf {T = T} (Err f) ended.Disk → Rose a.faults.disk c.faults.disk
  disk_rose T e f goes ends is = rose_disk e goes (let same_end : f ≡ ended.Disk = cc in sym ends ∙ same_end)

  -- unless it blames a device, none failed
  none_rose : (e : VolumeError) → e ≢ volume.PowerLost → Goes u v a b (answered e) → (ended_of e ≡ ended.Flash → ⊥) → (ended_of e ≡ ended.Disk → ⊥) → NoneFailed a c
  none_rose volume.FlashFault other goes flash disk = absurd (flash refl)
  none_rose volume.DiskFault other goes flash disk = absurd (disk refl)
  none_rose volume.PowerLost other goes flash disk = absurd (other refl)
  none_rose volume.OutOfMemory other goes flash disk = subst (λ (s : State). NoneFailed a s) (sym same) (failed_same a b (goes.cause.none refl))
  none_rose volume.OutOfVolume other goes flash disk = subst (λ (s : State). NoneFailed a s) (sym same) (failed_same a b (goes.cause.none refl))

  pub none_failed_at : (T : Type 0) (e : VolumeError) (f : Ended) → e ≢ volume.PowerLost → Goes u v a b (answered e) → f ≡ ended_of e → (IsErrOf {T = T} (Err f) ended.Flash → ⊥) → (IsErrOf {T = T} (Err f) ended.Disk → ⊥) → NoneFailed a c
  none_failed_at T e f other goes ends flash disk = none_rose e other goes (λ is. flash (ap Err (ends ∙ is))) (λ is. disk (ap Err (ends ∙ is)))

-- a stop cut it, and power is on again
pub none_failed_cut : (u v : VolumeState) (a b c : State) → Goes u v a b (answered volume.PowerLost) → c ≡ powered b → NoneFailed a c
none_failed_cut u v a b c goes is = subst (λ (s : State). NoneFailed a s) (sym is) (failed_lost a (powered b) (goes.cause.power_lost refl) goes.cause.cuts)

-- so the run ended at a device, or for want of memory
abbrev pub AtDevice : Type 0 → Ended → Type 0
AtDevice T f = IsErrOf {T = T} (Err f) ended.Flash ⊎ IsErrOf {T = T} (Err f) ended.Disk ⊎ IsErrOf {T = T} (Err f) ended.Memory

device_of : (T : Type 0) (e : VolumeError) → AtDevice T (ended_of e)
device_of T volume.FlashFault = inl refl
device_of T volume.DiskFault = inr (inl refl)
device_of T volume.PowerLost = inr (inr refl)
device_of T volume.OutOfMemory = inr (inr refl)
device_of T volume.OutOfVolume = inr (inr refl)

pub at_device : (T : Type 0) (e : VolumeError) (f : Ended) → f ≡ ended_of e → AtDevice T f
at_device T e f is = subst (λ (k : Ended). AtDevice T k) (sym is) (device_of T e)

-- ---- of two that were answered one after the other

pub on_both : {A B C E : Type 0} (r : Result (Unit {0}) E) → (A → B → C) → OnOk r A → OnOk r B → OnOk r C
on_both (Ok done) f a b = f a b
on_both (Err e) f a b = a

-- an end, and that it was this one
pub if_err_is : {A B : Ended → Type 0} (r : Result (Unit {0}) Ended) → ((e : Ended) → r ≡ Err e → A e → B e) → IfErr r A → IfErr r B
if_err_is (Ok done) f a = a
if_err_is (Err e) f a = f e refl a

pub ok_any : {A E : Type 0} (r : Result (Unit {0}) E) → A → OnOk r A
ok_any (Ok done) a = a
ok_any (Err e) a = tt

-- a text that was not printed for want of memory, or not all of it for a sink that failed
pub silent_but : {A : Type 0} (r : Result (Unit {0}) Ended) → OnErr r (IsErrOf r ended.Sink ⊎ IsErrOf r ended.Memory) → (IsErrOf r ended.Memory → A) → IfErr r (λ e. e ≢ ended.Sink → A)
silent_but (Ok done) only silent = tt
silent_but (Err e) (inl broke) silent = λ other. absurd (other (let same : e ≡ ended.Sink = cc in same))
silent_but (Err e) (inr memory) silent = λ other. silent memory
