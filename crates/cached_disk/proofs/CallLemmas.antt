-- The effects of a call on a volume that is up.
use Rattle.std.proofs.Common.{◌≡◌, ◌≢◌, ℕ, ◌+◌, ◌≤◌, Bool, true, false, cond, List, [], ◌++◌, length, None, Result, Ok, Err, IfOk, OnOk, inl, inr, refl, sym, ◌∙◌, ap, subst, arith}
use Rattle.std.proofs.lemmas.Bool.{both_ways, false≢true}
use Rattle.ft_base.specs.declared.block.Block.{Block}
use Rattle.ft_base.specs.Contents.{Contents, set}
use Rattle.ft_base.specs.Count.{RoseBy, bumped}
use Rattle.ft_base.specs.PlainDisk.{BlockWrite, PlainDisk, after_writes}
use Rattle.ft_base.specs.Table.{Table, backs_idled, goes_back, last_size, table_idled, without_last}
use Rattle.ft_base.specs.Told.{Told}
use Rattle.ft_media.specs.declared.rig.Counts.{Counts}
use Rattle.ft_media.specs.State.{Faults, State}
use Rattle.ft_media.specs.Drives.{DrivesFlash}
use Rattle.ft_media.specs.Media.{read_counted}
use Rattle.ft_media.specs.Reads.{ReadsFlash}
use Rattle.ft_media.specs.Passes.{Passes}
use Rattle.ft_media.proofs.PassesLemmas.{passes_then}
use Rattle.ft_volume.specs.Opening.{ImageIs}
use Rattle.ft_volume.specs.Volume.{AsksDevices, Call, Costs, Finds, BuffersInRoom, CommitsInRoom, DoneOwing, FindsHeld, Goes, HasCause, HoldsAfter, IsOwn, IsWriteIn, LeavesOwed, Reads, StaysUp, VolumeState, WasDone, WasOne, Writes, backs_of, flash_failed, flushes_of, misses, owing, table_after, volume_lost, writes_of}
use Rattle.ft_volume.specs.Standing.{StandFor}
use Rattle.ft_volume.specs.declared.volume.VolumeError.{VolumeError}
use Rattle.ft_volume.specs.declared.volume.VolumeError.TheVariants as volume
use Rattle.ft_volume.proofs.DoneLemmas.{answered_one, done_of_one, refused_one}
use Rattle.ft_volume.proofs.OwedLemmas.{leaves_all}
use Rattle.ft_volume.proofs.UpLemmas.{stays_same}
use Rattle.ssc.specs.declared.error.SscError.{SscError}
use Rattle.ssc.specs.declared.error.SscError.TheVariants.{Full, FlashFault, PowerLost, OutOfMemory}
use Rattle.ssc.specs.Errors.{ssc_failed, ssc_lost, stops}
use Rattle.std.proofs.lemmas.List.{append-nil}
use Rattle.cached_disk.specs.Errors.{IsOfCache}
use Rattle.std.proofs.lemmas.Result.{on_ok_weaker}
use Rattle.cached_disk.specs.declared.disk.CachedDisk.{CachedDisk}
use Rattle.cached_disk.specs.Kept.{KeepsOwed, Owes, Serves, is_down, state_in, told_of}

-- ---- a call that changes no block

module _ (call : Call) (old new : VolumeState) (after : Contents) (d : PlainDisk) (none : old.owed ≡ []) (none_new : new.owed ≡ []) (stand : StandFor (ImageIs new.told) after d) where
  pub answered_same : {T : Type 0} (value : T) → writes_of call ≡ [] → Finds call d → WasDone {T = T} ImageIs call old new after (Ok value) d
  answered_same value nothing found = done_of_one ImageIs call old new after (Ok value) d none none_new (answered_one (ImageIs new.told) call after value d nothing found stand) tt

  pub refused_same : {T : Type 0} (e : VolumeError) → WasDone {T = T} ImageIs call old new after (Err e) d
  refused_same e = done_of_one ImageIs call old new after (Err e) d none none_new (refused_one (ImageIs new.told) call after e d stand) (λ up. stand)

-- the same if writes are owed
module _ {T : Type 0} (call : Call) (old new : VolumeState) (after : Contents) (owed left : List BlockWrite) (base : PlainDisk) (keeps : KeepsOwed new.told after new.down owed left base) where
  pub answered_kept : (value : T) → writes_of call ≡ [] → new.down ≡ false → Finds call (after_writes owed base) → WasDone {T = T} ImageIs call (owing old owed) (owing new left) after (Ok value) base
  answered_kept value nothing up found = elim keeps [
    | inl same ↦ record {
      images = λ x now. inl (same.1 x now);
      lost = λ is. absurd (cc);
      done = record { kept = 0; owes = same.0 ∙ sym (append-nil owed) ∙ sym (ap (λ (ws : List BlockWrite). owed ++ ws) nothing); media = same.1 };
      found = found;
      up = tt;
      memory = λ is. absurd (cc);
    }
    | inr (inl all) ↦ record {
      images = λ x now. inr (inl (all.1 x now));
      lost = λ is. absurd (cc);
      done = leaves_all (ImageIs new.told) after left (owed ++ writes_of call) base all.0 (subst (λ (ws : List BlockWrite). StandFor (ImageIs new.told) after (after_writes ws base)) (sym (append-nil owed) ∙ sym (ap (λ (ws : List BlockWrite). owed ++ ws) nothing)) all.1);
      found = found;
      up = tt;
      memory = λ is. absurd (cc);
    }
    | inr (inr down) ↦ absurd (both_ways new.down up down.0)
  ]

  -- a call that failed, whichever it is
  pub refused_kept : (e : VolumeError) → (e ≡ volume.OutOfMemory → new.down ≡ false) → WasDone {T = T} ImageIs call (owing old owed) (owing new left) after (Err e) base
  refused_kept e memory = record {
    images = λ x now. elim keeps [ inl same ↦ inl (same.1 x now) | inr (inl all) ↦ inr (inl (all.1 x now)) | inr (inr down) ↦ inl (down.2 x now) ];
    lost = λ is. elim keeps [ inl same ↦ inl same.1 | inr (inl all) ↦ inr (inl all.1) | inr (inr down) ↦ inl down.2 ];
    done = tt;
    found = tt;
    up = still;
    memory = λ is. still (memory (let same : e ≡ volume.OutOfMemory = cc in same));
  }
    where
      still : new.down ≡ false → LeavesOwed (ImageIs new.told) after left owed base
      still up = elim keeps [
        | inl same ↦ record { kept = 0; owes = same.0; media = same.1 }
        | inr (inl all) ↦ leaves_all (ImageIs new.told) after left owed base all.0 all.1
        | inr (inr down) ↦ absurd (both_ways new.down up down.0)
      ]

-- a call that wrote no block did this
pub was_kept : {T : Type 0} (call : Call) (old new : VolumeState) (before after : State) (owed left : List BlockWrite) (base : PlainDisk) (r : Result T VolumeError) → KeepsOwed new.told after.contents new.down owed left base → writes_of call ≡ []
    → OnOk r (Finds call (after_writes owed base)) → old.down ≡ false → Goes old new before after r → WasDone {T = T} ImageIs call (owing old owed) (owing new left) after.contents r base
was_kept call old new before after owed left base (Ok value) keeps nothing found up goes = answered_kept call old new after.contents owed left base keeps value nothing goes.up found
was_kept call old new before after owed left base (Err e) keeps nothing found up goes = refused_kept call old new after.contents owed left base keeps e (λ is. goes.memory (ap Err is) up)

-- what a volume that is up did, by the list that it owed
pub serves_was : {T : Type 0} (call : Call) (old new : CachedDisk) (order : List ℕ) (before after : State) (r : Result T VolumeError) → writes_of call ≡ [] → is_down old ≡ false → (serves : Serves call old new before after r) → (owed : List BlockWrite) (owes : Owes old before.contents owed) (base : PlainDisk)
    → StandFor (ImageIs (told_of old)) before.contents base → WasDone ImageIs call (owing (state_in order old) owed) (owing (state_in order new) (serves.keeps owed owes).0) after.contents r base
serves_was call old new order before after r nothing up serves owed owes base stand =
    was_kept call (state_in order old) (state_in order new) before after owed (serves.keeps owed owes).0 base r
    (subst (λ (t : Told). KeepsOwed t after.contents (is_down new) owed (serves.keeps owed owes).0 base) (sym (serves.goes order).told) ((serves.keeps owed owes).2 base stand))
    nothing (on_ok_weaker r (λ found. found owed owes base stand) serves.found) up (serves.goes order)

-- the address is outside of the volume
pub outside_owing : {T : Type 0} (was : List BlockWrite → Type 0) (call : Call) (v : VolumeState) (contents : Contents) → DoneOwing {T = T} was was ImageIs call v v contents contents (Err volume.OutOfVolume)
outside_owing was call v contents owed owes = (owed, owes, λ bases any. inr (record { fixes = refl; inside = λ not. absurd (not refl); images = any }))

-- ---- a write

module _ (lba : ℕ) (block : Block) (old new : VolumeState) (after : Contents) (d : PlainDisk) (none : old.owed ≡ []) (none_new : new.owed ≡ []) (stand : StandFor (ImageIs new.told) after (set d lba block)) where
  one_done : WasOne {T = Unit {0}} (ImageIs new.told) (Writes lba block) after (Ok tt) d
  one_done = record {
    kept = λ nothing. absurd (cc);
    found = tt;
    done = stand;
    images = λ x now. inr (stand x now);
    one = λ is. absurd (cc);
    memory = λ is. absurd (cc);
  }

  pub answered_write : WasDone {T = Unit {0}} ImageIs (Writes lba block) old new after (Ok tt) d
  answered_write = done_of_one ImageIs (Writes lba block) old new after (Ok tt) d none none_new one_done tt

  -- the call failed, and the block is there all the same
  one_refused : (e : VolumeError) → (e ≡ volume.OutOfMemory → ⊥) → WasOne {T = Unit {0}} (ImageIs new.told) (Writes lba block) after (Err e) d
  one_refused e other = record {
    kept = λ nothing. absurd (cc);
    found = tt;
    done = tt;
    images = λ x now. inr (stand x now);
    one = λ is. inr stand;
    memory = λ is. absurd (other (let same : e ≡ volume.OutOfMemory = cc in same));
  }

  pub refused_write : (e : VolumeError) → (e ≡ volume.OutOfMemory → ⊥) → new.down ≡ true → WasDone {T = Unit {0}} ImageIs (Writes lba block) old new after (Err e) d
  refused_write e other down = done_of_one ImageIs (Writes lba block) old new after (Err e) d none none_new (one_refused e other) (λ up. absurd (false≢true (sym up ∙ down)))

-- ---- the cache failed

-- the cache is given up, unless there was no memory
pub gives_up : (e : SscError) → ((n limit : ℕ) → e ≡ Full n limit → ⊥) → (e ≡ OutOfMemory → ⊥) → stops {T = Unit {0}} (Err e) ≡ true
gives_up (Full n limit) full memory = absurd (full n limit refl)
gives_up FlashFault full memory = refl
gives_up PowerLost full memory = refl
gives_up OutOfMemory full memory = absurd (memory refl)

pub not_memory : (e : SscError) (r : VolumeError) → IsOfCache e r → (e ≡ OutOfMemory → ⊥) → r ≡ volume.OutOfMemory → ⊥
not_memory (Full n limit) r is memory same = is
not_memory FlashFault r is memory same = let no : volume.FlashFault ≡ volume.OutOfMemory = sym is ∙ same in cc
not_memory PowerLost r is memory same = let no : volume.PowerLost ≡ volume.OutOfMemory = sym is ∙ same in cc
not_memory OutOfMemory r is memory same = memory refl

module _ (before after : State) where
  abbrev pub Goes_on : VolumeError → Type 0
  Goes_on r = HasCause {T = Unit {0}} before.faults after.faults (Err r) × Passes before after (volume_lost {T = Unit {0}} (Err r))

  pub refused_goes_on : (e : SscError) (r : VolumeError) → IsOfCache e r → DrivesFlash before after (ssc_failed {T = Unit {0}} (Err e)) (ssc_lost {T = Unit {0}} (Err e)) → Goes_on r
  refused_goes_on (Full n limit) r is drives = absurd is
  refused_goes_on FlashFault r is drives = subst Goes_on (sym is) (
    record {
      flash = drives.cause.flash;
      disk = let x = drives.cause.disk in omega (arith, x);
      cuts = drives.cause.cuts;
      flash_fault = λ f. drives.cause.failed refl;
      disk_fault = λ f. absurd (cc);
      power_lost = λ f. absurd (cc);
      none = λ no. absurd (cc);
    },
    drives.passes,
  )
  refused_goes_on PowerLost r is drives = subst Goes_on (sym is) (
    record {
      flash = drives.cause.flash;
      disk = let x = drives.cause.disk in omega (arith, x);
      cuts = drives.cause.cuts;
      flash_fault = λ f. absurd (cc);
      disk_fault = λ f. absurd (cc);
      power_lost = λ f. drives.cause.power_lost refl;
      none = λ no. absurd (cc);
    },
    drives.passes,
  )
  refused_goes_on OutOfMemory r is drives = subst Goes_on (sym is) (
    record {
      flash = drives.cause.flash;
      disk = let x = drives.cause.disk in omega (arith, x);
      cuts = drives.cause.cuts;
      flash_fault = λ f. absurd (cc);
      disk_fault = λ f. absurd (cc);
      power_lost = λ f. absurd (cc);
      none = λ no. drives.cause.none refl refl;
    },
    drives.passes,
  )

  -- the volume is down after that
  pub goes_down : (old new : VolumeState) (e : SscError) (r : VolumeError) → new.told ≡ old.told → new.down ≡ true → IsOfCache e r → (e ≡ OutOfMemory → ⊥)
      → DrivesFlash before after (ssc_failed {T = Unit {0}} (Err e)) (ssc_lost {T = Unit {0}} (Err e)) → Goes {T = Unit {0}} old new before after (Err r)
  goes_down old new e r told down is memory drives =
      let on = refused_goes_on e r is drives in
      record {
        told = told;
        up = tt;
        lost = λ was_on lost. down;
        memory = λ wants was. absurd (not_memory e r is memory (let same : r ≡ volume.OutOfMemory = cc in same));
        ready = λ up. absurd (false≢true (sym up ∙ down));
        disk = λ fault was up. absurd (false≢true (sym up ∙ down));
        cause = on.0;
        passes = on.1;
      }

-- ---- the cache was driven, and answered `Ok`

pub goes_driven : {T : Type 0} (value : T) (before after : State) (old new : VolumeState) → new.told ≡ old.told → new.down ≡ false → DrivesFlash before after false false → Goes old new before after (Ok value)
goes_driven value before after old new told up drives = record {
  told = told;
  up = up;
  lost = λ on is. absurd (cc);
  memory = λ is was. up;
  ready = λ now. drives.ready refl refl;
  disk = λ is was now. absurd (cc);
  cause = record {
    flash = drives.cause.flash;
    disk = let x = drives.cause.disk in omega (arith, x);
    cuts = drives.cause.cuts;
    flash_fault = λ is. absurd (cc);
    disk_fault = λ is. absurd (cc);
    power_lost = λ is. absurd (cc);
    none = λ no. drives.cause.none refl refl;
  };
  passes = drives.passes;
}

-- ---- after a read, which changes no contents

module _ {T : Type 0} (before mid after : State) (contents : mid.contents ≡ before.contents) (faults : mid.faults ≡ before.faults) (passes : Passes before mid false)
    (old new : VolumeState) (result : Result T VolumeError) where
  cause_after : HasCause mid.faults after.faults result → HasCause before.faults after.faults result
  cause_after then = subst (λ (f : Faults). HasCause f after.faults result) faults then

  pub goes_after : Goes old new mid after result → Goes old new before after result
  goes_after goes = record {
    told = goes.told;
    up = goes.up;
    lost = λ on is. goes.lost (passes.stayed on refl).on is;
    memory = goes.memory;
    ready = λ up b there. goes.ready up b (subst (λ (x : Contents). x.flash.next b ≢ None) (sym contents) there);
    disk = λ is was up. goes.disk is was up ∙ ap (λ (x : Contents). x.disk) contents;
    cause = cause_after goes.cause;
    passes = passes_then before mid after (volume_lost result) passes goes.passes;
  }

  pub costs_after : (call : Call) → mid.counts ≡ before.counts → Costs call old new mid after result → Costs call old new before after result
  costs_after call same costs = record {
    table = costs.table;
    held = costs.held;
    disk_writes = subst (λ (x : Counts). OnOk result (RoseBy (backs_of call old.told old.table) x.disk_writes after.counts.disk_writes)) same costs.disk_writes;
    most_writes = subst (λ (x : Counts). after.counts.disk_writes ≤ x.disk_writes + backs_of call old.told old.table) same costs.most_writes;
    most_reads = subst (λ (x : Counts). after.counts.disk_reads ≤ x.disk_reads + misses call old.held) same costs.most_reads;
    refused = costs.refused;
  }

-- ---- the addresses that are held

pub held_along : (told : Told) (call : Call) (f g f' g' : ℕ → Bool) → ((a : ℕ) → f' a ≡ f a) → ((a : ℕ) → g' a ≡ g a) → HoldsAfter told call f g → HoldsAfter told call f' g'
held_along told call f g f' g' old new holds = record {
  own = λ a is. new a ∙ holds.own a is;
  only = λ a now. elim (holds.only a (sym (new a) ∙ now)) [ inl was ↦ inl (old a ∙ was) | inr is ↦ inr is ];
  stays = λ groups lie a was. new a ∙ holds.stays groups (record { few = lie.few; all = λ x is. lie.all x (elim is [ inl had ↦ inl (old x ∙ had) | inr own ↦ inr own ]) }) a (sym (old a) ∙ was);
}

same_held : (told : Told) (call : Call) (f g : ℕ → Bool) → ((a : ℕ) → IsOwn call a → ⊥) → ((a : ℕ) → g a ≡ f a) → HoldsAfter told call f g
same_held told call f g none same = record {
  own = λ a is. absurd (none a is);
  only = λ a now. inl (sym (same a) ∙ now);
  stays = λ groups lie a was. same a ∙ was;
}

-- ---- the cost of a call

-- no block of the disk was read or written, and the held addresses and the waiting blocks are unchanged
pub same_costs : {T : Type 0} (value : T) (call : Call) (old new : VolumeState) (before after : State) → ((a : ℕ) → IsOwn call a → ⊥) → backs_of call old.told old.table ≡ 0 → new.table ≡ table_after call old.told old.table → ((a : ℕ) → new.held a ≡ old.held a)
    → after.counts.disk_reads ≡ before.counts.disk_reads → after.counts.disk_writes ≡ before.counts.disk_writes → Costs call old new before after (Ok value)
same_costs value call old new before after none backs table held reads writes = record {
  table = table;
  held = same_held old.told call old.held new.held none held;
  disk_writes = λ below. omega (arith, writes, backs);
  most_writes = omega (arith, writes);
  most_reads = omega (arith, reads);
  refused = tt;
}

-- one block was read from the disk
pub missed_costs : (lba : ℕ) (block : Block) (old new : VolumeState) (before mid after : State) → old.held lba ≡ false → new.table ≡ old.table → HoldsAfter old.told (Reads lba block) old.held new.held → mid.counts ≡ read_counted before.counts
    → after.counts.disk_reads ≡ mid.counts.disk_reads → after.counts.disk_writes ≡ mid.counts.disk_writes → Costs {T = Unit {0}} (Reads lba block) old new before after (Ok tt)
missed_costs lba block old new before mid after absent table held counted reads writes =
    let one : misses (Reads lba block) old.held ≡ 1 = ap (λ (t : Bool). cond t 0 1) absent in
    let read : mid.counts.disk_reads ≡ bumped before.counts.disk_reads = ap (λ (x : Counts). x.disk_reads) counted in
    let same : mid.counts.disk_writes ≡ before.counts.disk_writes = ap (λ (x : Counts). x.disk_writes) counted in
    record {
      table = table;
      held = held;
      disk_writes = λ below. omega (arith, writes, same);
      most_writes = omega (arith, writes, same);
      most_reads = omega (arith, one, reads, read);
      refused = tt;
    }

-- an idle step writes no group back
pub idle_same : (told : Told) (t : Table) (groups : ℕ) → length t ≡ groups → goes_back told.mode told.dirty groups ≡ false → (table_idled told t ≡ t) × (backs_idled told t ≡ 0)
idle_same told t groups is none =
    let no : goes_back told.mode told.dirty (length t) ≡ false = ap (λ (n : ℕ). goes_back told.mode told.dirty n) is ∙ none in
    (ap (λ (b : Bool). cond b (without_last t) t) no, ap (λ (b : Bool). cond b (last_size t) 0) no)

-- ---- the call failed

module _ (call : Call) (old new : VolumeState) where
  -- the volume is down
  pub none_up : new.down ≡ true → new.down ≡ false → StaysUp call old new
  none_up down up = absurd (both_ways new.down up down)

  -- nothing has changed
  pub same_up : new ≡ old → new.down ≡ false → StaysUp call old new
  same_up same up = subst (StaysUp call old) (sym same) (stays_same call old)

  pub refused_costs : (T : Type 0) (before after : State) (e : VolumeError) → (new.down ≡ false → StaysUp call old new) → after.counts.disk_reads ≤ before.counts.disk_reads + misses call old.held → after.counts.disk_writes ≡ before.counts.disk_writes
      → Costs {T = T} call old new before after (Err e)
  refused_costs T before after e up reads writes = record { table = tt; held = tt; disk_writes = tt; most_writes = omega (arith, writes); most_reads = reads; refused = up }

-- ---- the device calls of a call

module _ {T : Type 0} (call : Call) (old new : VolumeState) (before after : State) (result : Result T VolumeError) where
  no_room : (R P : Type 0) (r : Result T VolumeError) → (R → ⊥) → OnOk r (R → P)
  no_room R P (Ok value) none = λ room. absurd (none room)
  no_room R P (Err e) none = tt

  -- neither a read of a held address nor a write that found room
  pub asks_none : (FindsHeld call old → ⊥) → ((finds : Told → ℕ → VolumeState → Type 0) → IsWriteIn finds call old → ⊥) → after.counts.disk_flushes ≤ before.counts.disk_flushes + flushes_of call old.told old.table → AsksDevices call old old new before after result
  asks_none held room flushes = record { flushes = omega (arith, flushes); found = λ is. absurd (held is); two_programs = no_room _ _ result (room CommitsInRoom); one_program = no_room _ _ result (room BuffersInRoom) }

-- a read of an address that isn't held
pub asks_missing : {T : Type 0} (lba : ℕ) (block : Block) (old new : VolumeState) (before after : State) (result : Result T VolumeError) → old.held lba ≡ false → after.counts.disk_flushes ≡ before.counts.disk_flushes → AsksDevices (Reads lba block) old old new before after result
asks_missing lba block old new before after result absent same = asks_none (Reads lba block) old new before after result (λ is. both_ways (old.held lba) absent is.1) (λ finds room. room) (omega (arith, same))

-- nothing follows if nothing finds room
pub from_none : {T : Type 0} (P : Type 0) (r : Result T VolumeError) → OnOk r (⊥ → P)
from_none P (Ok value) = λ none. absurd none
from_none P (Err e) = tt

-- a read of an address that is held
pub asks_held : {T : Type 0} (lba : ℕ) (block : Block) (old new : VolumeState) (before after : State) (result : Result T VolumeError) → new ≡ old → ReadsFlash before after (flash_failed result) (volume_lost result) → AsksDevices (Reads lba block) old old new before after result
asks_held {T = T} lba block old new before after result same reads = record {
  flushes = let is = ap (λ (x : Counts). x.disk_flushes) reads.counts in omega (arith, is);
  found = λ is. (same, reads);
  two_programs = from_none _ result;
  one_program = from_none _ result;
}

-- the flash was read, and the volume says why the read failed
module _ (S T : Type 0) (before after : State) where
  abbrev Reads_on : VolumeError → Type 0
  Reads_on r = ReadsFlash before after (flash_failed {T = T} (Err r)) (volume_lost {T = T} (Err r))

  pub reads_as : (e : SscError) (r : VolumeError) → IsOfCache e r → ReadsFlash before after (ssc_failed {T = S} (Err e)) (ssc_lost {T = S} (Err e)) → Reads_on r
  reads_as (Full n limit) r is reads = absurd is
  reads_as FlashFault r is reads = subst Reads_on (sym is) reads
  reads_as PowerLost r is reads = subst Reads_on (sym is) reads
  reads_as OutOfMemory r is reads = subst Reads_on (sym is) reads

-- ---- facts about an answer

pub if_ok_also : {T E : Type 0} {P Q : T → Type 0} (r : Result T E) → ((value : T) → P value → Q value) → IfOk r P → IfOk r Q
if_ok_also (Ok value) step is = step value is
if_ok_also (Err e) step is = tt
