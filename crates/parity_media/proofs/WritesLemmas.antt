-- Device writes that drive the flash alone, one and one after another.
use Rattle.std.proofs.Common.{◌≡◌, ◌≢◌, ◌<◌, ℕ, Bool, true, false, [], refl, sym, ◌∙◌, ap, arith}
use Rattle.std.specs.Prelude.{Result, Ok, Err, OnOk, IsErrOf}
use Rattle.ft_base.specs.Contents.{Values}
use Rattle.ft_media.specs.declared.media.MediaError.{MediaError}
use Rattle.ft_media.specs.declared.media.MediaError.TheVariants as error
use Rattle.ft_media.specs.declared.rig.Counts.{Counts}
use Rattle.ft_media.specs.State.{State, failed, lost}
use Rattle.ft_media.specs.Passes.{Passes}
use Rattle.ft_media.specs.Media.{Crashed, DiskStays, DeviceWrite, FlashCause, if_ok, program_counted, erase_counted}
use Rattle.ft_media.specs.Rig.{SettledByStop, after_cut}
use Rattle.ft_media.proofs.PassesLemmas.{passes_then}
use Rattle.parity_media.specs.Writes.{OtherCountsStay, WritesFlash}
use Rattle.parity_media.proofs.SinceLemmas.{faults_told, faults_then}

others_program : {T : Type 0} (r : Result T MediaError) (a b : Counts) → b ≡ if_ok r (program_counted a) a → OtherCountsStay a b
others_program (Ok v) a b is = record { disk_reads = ap (λ (c : Counts). c.disk_reads) is; disk_writes = ap (λ (c : Counts). c.disk_writes) is; disk_flushes = ap (λ (c : Counts). c.disk_flushes) is }
others_program (Err e) a b is = record { disk_reads = ap (λ (c : Counts). c.disk_reads) is; disk_writes = ap (λ (c : Counts). c.disk_writes) is; disk_flushes = ap (λ (c : Counts). c.disk_flushes) is }

others_erase : {T : Type 0} (r : Result T MediaError) (a b : Counts) → b ≡ if_ok r (erase_counted a) a → OtherCountsStay a b
others_erase (Ok v) a b is = record { disk_reads = ap (λ (c : Counts). c.disk_reads) is; disk_writes = ap (λ (c : Counts). c.disk_writes) is; disk_flushes = ap (λ (c : Counts). c.disk_flushes) is }
others_erase (Err e) a b is = record { disk_reads = ap (λ (c : Counts). c.disk_reads) is; disk_writes = ap (λ (c : Counts). c.disk_writes) is; disk_flushes = ap (λ (c : Counts). c.disk_flushes) is }

pub erases_stay : {T : Type 0} (r : Result T MediaError) (a b : Counts) → b ≡ if_ok r (program_counted a) a → b.erases ≡ a.erases
erases_stay (Ok v) a b is = ap (λ (c : Counts). c.erases) is
erases_stay (Err e) a b is = ap (λ (c : Counts). c.erases) is

module _ {T : Type 0} (a b : State) (r : Result T MediaError) (disk : DiskStays a.contents b.contents (lost r)) (crash : lost r ≡ true → Crashed b.contents)
    (settled : SettledByStop a b (lost r) a.contents.disk) (cause : FlashCause a.faults b.faults (failed r) (lost r)) (memory : IsErrOf r error.OutOfMemory → ⊥)
    (device : DeviceWrite a b r) (passes : Passes a b (lost r)) where
  of_counts : OtherCountsStay a.counts b.counts → WritesFlash a b r
  of_counts others = record {
    disk = disk;
    crash = crash;
    settled = settled;
    others = others;
    disk_faults = cause.disk;
    faults = faults_told a.faults b.faults (failed r) (lost r) cause;
    memory = memory;
    device = device;
    passes = passes;
  }

  pub writes_program : b.counts ≡ if_ok r (program_counted a.counts) a.counts → WritesFlash a b r
  writes_program is = of_counts (others_program r a.counts b.counts is)

  pub writes_erase : b.counts ≡ if_ok r (erase_counted a.counts) a.counts → WritesFlash a b r
  writes_erase is = of_counts (others_erase r a.counts b.counts is)

power_was : (t : Bool) → (t ≡ false → ⊥) → t ≡ true
power_was true not = refl
power_was false not = absurd (not refl)

pub writes_then : {T U : Type 0} (a b c : State) (v : T) (r : Result U MediaError) → WritesFlash a b (Ok v) → WritesFlash b c r → WritesFlash a c r
writes_then {T} {U} a b c v r first then =
    let on : a.power.on ≡ true = power_was a.power.on (λ off. let dark : false ≡ true = first.device.off off in cc) in
    let stayed = first.passes.stayed on refl in
    let armed : a.power.stops ≢ [] → b.power.stops ≢ [] = λ some none. some (sym stayed.stops ∙ none) in
    record {
      disk = record {
        stays = λ no. then.disk.stays no ∙ first.disk.stays refl;
        values = λ lba block has. first.disk.values lba block (then.disk.values lba block has);
      };
      crash = then.crash;
      settled = record {
        settled = λ lit yes front later is lba.
            then.settled.settled stayed.on yes front later (stayed.stops ∙ is) lba
            ∙ ap (λ (d : ℕ → Values). after_cut front.outcome d lba) (first.disk.stays refl);
      };
      others = record {
        disk_reads = then.others.disk_reads ∙ first.others.disk_reads;
        disk_writes = then.others.disk_writes ∙ first.others.disk_writes;
        disk_flushes = then.others.disk_flushes ∙ first.others.disk_flushes;
      };
      disk_faults = then.disk_faults ∙ first.disk_faults;
      faults = faults_then a.faults b.faults c.faults false false (failed r) (lost r) first.faults then.faults;
      memory = then.memory;
      device = record {
        shape = then.device.shape ∙ first.device.shape;
        spends = by_result r then.device.spends armed (λ some. let x = first.device.spends some in omega (arith, x));
        unarmed = λ lit none. then.device.unarmed stayed.on (stayed.stops ∙ none);
        off = λ off. absurd (let dark : false ≡ true = first.device.off off in cc);
        ready = λ no not. λ q was. then.device.ready no not q (first.device.ready refl refl q was);
        unchanged = λ off. absurd (let dark : false ≡ true = first.device.off off in cc);
      };
      passes = passes_then a b c (lost r) first.passes then.passes;
    }
  where
    by_result : (r : Result U MediaError) → OnOk r (b.power.stops ≢ [] → c.power.rest < b.power.rest) → (a.power.stops ≢ [] → b.power.stops ≢ []) → (a.power.stops ≢ [] → b.power.rest < a.power.rest)
        → OnOk r (a.power.stops ≢ [] → c.power.rest < a.power.rest)
    by_result (Ok w) later armed first_falls = λ some. let x = later (armed some) in let y = first_falls some in omega (arith, x, y)
    by_result (Err e) later armed first_falls = tt
