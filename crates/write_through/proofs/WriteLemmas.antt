-- A write, step by step.
use Rattle.std.proofs.Common.{◌≡◌, ℕ, ◌≤◌, ◌+◌, ◌==◌, Bool, true, false, cond, [], Result, Ok, Err, inl, inr, sym, ◌∙◌, ap, subst, arith, eqb-true}
use Rattle.std.specs.Prelude.{IsErrOf, OnErr, OnOk}
use Rattle.std.proofs.lemmas.Bool.{both_ways, cases_Bool, false≢true}
use Rattle.std.proofs.lemmas.Result.{on_err_weaker, on_ok_weaker}
use Rattle.ft_base.specs.declared.block.Block.{Block}
use Rattle.ft_base.specs.declared.told.Mode.{Mode}
use Rattle.ft_base.specs.declared.told.Mode.TheVariants.{Back, Through}
use Rattle.ft_base.specs.Contents.{Contents, set}
use Rattle.ft_base.specs.Count.{RoseBy}
use Rattle.ft_base.specs.PlainDisk.{PlainDisk}
use Rattle.ft_base.specs.Table.{backs_written, table_written}
use Rattle.ft_base.specs.Told.{Told}
use Rattle.ft_media.specs.State.{State}
use Rattle.ft_volume.specs.Opening.{ImageIs}
use Rattle.ft_volume.specs.Volume.{AsksDevices, Costs, FaultDowns, HoldsAfter, Reads, StaysUp, VolumeState, WasDone, Writes, flushes_of, flushes_written}
use Rattle.ft_volume.specs.Standing.{StandFor}
use Rattle.ft_volume.specs.declared.volume.VolumeError.{VolumeError}
use Rattle.ft_volume.specs.declared.volume.VolumeError.TheVariants as volume
use Rattle.cached_disk.proofs.CallLemmas.{answered_write, refused_write}

-- ---- steps one after the other

-- the same plain disk, by what another volume says of itself
pub told_as : (t u : Told) (contents : Contents) (d : PlainDisk) → u ≡ t → StandFor (ImageIs t) contents d → StandFor (ImageIs u) contents d
told_as t u contents d same stand = subst (λ (k : Told). StandFor (ImageIs k) contents d) (sym same) stand

pub fault_downs : {T : Type 0} (r : Result T VolumeError) (down : Bool) → OnErr r (down ≡ true) → FaultDowns r down
fault_downs (Ok value) down refused = record { flash = λ is. absurd (cc); disk = λ is. absurd (cc) }
fault_downs (Err e) down refused = record { flash = λ is. refused; disk = λ is. refused }

-- ---- a write whose block is on the disk

pub written_was : (lba : ℕ) (block : Block) (old new : VolumeState) (after : Contents) (d : PlainDisk) (r : Result (Unit {0}) VolumeError) → old.owed ≡ [] → new.owed ≡ [] → StandFor (ImageIs new.told) after (set d lba block) → (IsErrOf r volume.OutOfMemory → ⊥) → OnErr r (new.down ≡ true)
    → WasDone ImageIs (Writes lba block) old new after r d
written_was lba block old new after d (Ok tt) none none_new stand memory refused = answered_write lba block old new after d none none_new stand
written_was lba block old new after d (Err e) none none_new stand memory refused = refused_write lba block old new after d none none_new stand e (λ is. memory (ap Err is)) refused

-- the addresses that are held, if the address was taken out before
pub held_then : (told : Told) (lba : ℕ) (block : Block) (old mid new : ℕ → Bool) → ((a : ℕ) → mid a ≡ cond (a == lba) false (old a)) → HoldsAfter told (Writes lba block) mid new → HoldsAfter told (Writes lba block) old new
held_then told lba block old mid new taken holds = record {
  own = holds.own;
  only = λ a there. elim (holds.only a there) [ inl was ↦ inl (was_held a was) | inr own ↦ inr own ];
  stays = λ groups lie a was. elim (cases_Bool (a == lba)) [
    | inl here ↦ holds.own a (eqb-true a lba here)
    | inr other ↦ holds.stays groups (record { few = lie.few; all = λ k there. lie.all k (elim there [ inl was ↦ inl (was_held k was) | inr own ↦ inr own ]) }) a (taken a ∙ ap (λ t. cond t false (old a)) other ∙ was)
  ];
}
  where
    by : (t b : Bool) → cond t false b ≡ true → b ≡ true
    by true b is = absurd (false≢true is)
    by false b is = is

    was_held : (a : ℕ) → mid a ≡ true → old a ≡ true
    was_held a is = by (a == lba) (old a) (sym (taken a) ∙ is)

-- a read that caches an address holds the same addresses as a write of it
pub held_as : (told : Told) (lba : ℕ) (b block : Block) (old new : ℕ → Bool) → HoldsAfter told (Reads lba b) old new → HoldsAfter told (Writes lba block) old new
held_as told lba b block old new holds = record { own = holds.own; only = holds.only; stays = λ groups lie. holds.stays groups (record { few = lie.few; all = lie.all }) }

always : {T : Type 0} (r : Result T VolumeError) (A : Type 0) → A → OnOk r A
always (Ok value) A holds = holds
always (Err e) A holds = tt

-- one block went to the disk, and none waits to be written back
pub written_costs : {T : Type 0} (lba : ℕ) (block : Block) (old mid new : VolumeState) (before after : State) (r : Result T VolumeError) → old.told.mode ≡ Through → old.table ≡ [] → new.table ≡ []
    → mid.told ≡ old.told → ((a : ℕ) → mid.held a ≡ cond (a == lba) false (old.held a)) → OnOk r (HoldsAfter mid.told (Writes lba block) mid.held new.held)
    → RoseBy 1 before.counts.disk_writes after.counts.disk_writes → after.counts.disk_writes ≤ before.counts.disk_writes + 1 → after.counts.disk_reads ≡ before.counts.disk_reads → OnErr r (new.down ≡ true) → Costs (Writes lba block) old new before after r
written_costs lba block old mid new before after r through none none_new told taken held rose most reads down = record {
  table = always r _ (none_new ∙ sym none ∙ sym (ap (λ (m : Mode). table_written m old.told lba old.table) through));
  held = on_ok_weaker r (λ holds. held_then old.told lba block old.held mid.held new.held taken (subst (λ (t : Told). HoldsAfter t (Writes lba block) mid.held new.held) told holds)) held;
  disk_writes = always r _ (subst (λ (n : ℕ). RoseBy n before.counts.disk_writes after.counts.disk_writes) (sym one) rose);
  most_writes = subst (λ (n : ℕ). after.counts.disk_writes ≤ before.counts.disk_writes + n) (sym one) most;
  most_reads = omega (arith, reads);
  refused = on_err_weaker r (λ is up. absurd (both_ways new.down up is)) down;
}
  where
    one : backs_written old.told.mode old.told lba old.table ≡ 1
    one = ap (λ (m : Mode). backs_written m old.told lba old.table) through

-- the disk failed
pub unwritten_costs : {T : Type 0} (lba : ℕ) (block : Block) (old new : VolumeState) (before after : State) (e : VolumeError) → old.told.mode ≡ Through → after.counts.disk_writes ≤ before.counts.disk_writes + 1 → after.counts.disk_reads ≡ before.counts.disk_reads
    → (new.down ≡ false → StaysUp (Writes lba block) old new) → Costs {T = T} (Writes lba block) old new before after (Err e)
unwritten_costs lba block old new before after e through most reads up = record {
  table = tt;
  held = tt;
  disk_writes = tt;
  most_writes = let one : backs_written old.told.mode old.told lba old.table ≡ 1 = ap (λ (m : Mode). backs_written m old.told lba old.table) through in omega (arith, one, most);
  most_reads = omega (arith, reads);
  refused = up;
}

-- the address was taken out, and nothing else changed
pub out_up : (lba : ℕ) (block : Block) (old mid : VolumeState) → old.table ≡ [] → mid.table ≡ [] → ((a : ℕ) → mid.held a ≡ cond (a == lba) false (old.held a)) → StaysUp (Writes lba block) old mid
out_up lba block old mid none none_mid taken = record {
  same = λ no. absurd (false≢true (sym no));
  table = inl (none_mid ∙ sym none);
  held = λ a. elim (cases_Bool (a == lba)) [
    | inl here ↦ inr (eqb-true a lba here, taken a ∙ ap (λ t. cond t false (old.held a)) here)
    | inr other ↦ inl (taken a ∙ ap (λ t. cond t false (old.held a)) other)
  ];
}

-- the disk is flushed once at most
pub through_asks : {T : Type 0} (lba : ℕ) (block : Block) (old new : VolumeState) (before after : State) (r : Result T VolumeError) → old.told.mode ≡ Through → after.counts.disk_flushes ≤ before.counts.disk_flushes + 1 → AsksDevices (Writes lba block) old old new before after r
through_asks lba block old new before after r through most = record {
  flushes = let one : flushes_of (Writes lba block) old.told old.table ≡ 1 = ap (λ (m : Mode). flushes_written m old.told lba old.table) through in omega (arith, one, most);
  found = λ none. absurd none;
  two_programs = always r _ (λ room. let no : Through ≡ Back = sym through ∙ room.room.back in absurd (cc));
  one_program = always r _ (λ room. let no : Through ≡ Back = sym through ∙ room.room.back in absurd (cc));
}
