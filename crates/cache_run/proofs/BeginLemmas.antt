-- A run over a new volume, from a run over any volume.
use Rattle.std.proofs.Common.{◌≡◌, ◌≢◌, ◌⊎◌, inl, inr, ◌≤◌, ◌+◌, ◌&&◌, nat_le, nat_lt, ℕ, Bool, true, false, List, [], map, filter, Option, Result, Ok, Err, IsErrOf, refl, sym, ap, ◌∙◌, subst, arith}
use Rattle.std.proofs.lemmas.List.{nil_from_length}
use Rattle.std.specs.FinMap.{entries, get-empty, len-empty, len-entries}
use Rattle.std.specs.Option.{is_some}
use Rattle.std.specs.Ordering.{nat_cmp}
use Rattle.ft_base.specs.Contents.{Contents, Image}
use Rattle.ft_base.specs.PlainDisk.{BlockWrite, PlainDisk, empty}
use Rattle.ft_base.specs.StreamState.{SinkState, SourceState}
use Rattle.ft_base.specs.Table.{table_of}
use Rattle.ft_base.specs.Told.{Told}
use Rattle.ft_base.specs.declared.geometry.Geometry.{Geometry}
use Rattle.ft_base.specs.declared.told.Mode.{Mode}
use Rattle.cache_model.specs.Cache.{dirty_between}
use Rattle.cache_model.specs.CacheList.{Held}
use Rattle.cache_model.specs.Stands.{ImageStandsFor}
use Rattle.ft_media.specs.Fitted.{KeepsReady}
use Rattle.ft_media.specs.Passes.{NeverFall, Passes}
use Rattle.ft_media.specs.State.{Faults, State}
use Rattle.ft_volume.proofs.MediaLemmas.{image_stands}
use Rattle.ft_volume.specs.Opening.{ImageIs, IsNewestOnDisk, IsOpened, nothing_held}
use Rattle.ft_volume.specs.Volume.{VolumeState, told_for}
use Rattle.ft_volume.specs.Standing.{StandFor}
use Rattle.ft_volume.specs.declared.options.Options.{Options}
use Rattle.trace_model.specs.declared.answer.Answer.{Answer}
use Rattle.trace_model.specs.declared.line.Line.{Line}
use Rattle.trace_model.specs.declared.ran.Ran.{Ran}
use Rattle.trace_model.specs.Readings.{Reading}
use Rattle.trace_replay.proofs.CutsLemmas.{counts_then, failed_same, failed_then}
use Rattle.trace_replay.proofs.FromLemmas.{ends_from}
use Rattle.trace_replay.specs.Before.{IsBefore}
use Rattle.trace_replay.specs.Causes.{EndHasCause, EndHasCauseUntraced, KeepsLentUntraced, KeepsStreamsUntraced}
use Rattle.trace_replay.specs.Forms.{Form, ReadsBy}
use Rattle.trace_replay.specs.Lent.{KeepsLent}
use Rattle.trace_replay.specs.Commands.{Gives}
use Rattle.trace_replay.specs.AsMade.{IsAsMade}
use Rattle.trace_replay.specs.Said.{NoneFailed, Tells, TellsPart}
use Rattle.trace_replay.specs.Theorem.{EndsAs}
use Rattle.trace_replay.specs.declared.ended.Ended.{Ended}
use Rattle.trace_replay.specs.declared.ended.Ended.TheVariants.{Trace, Source, Sink, Flash, Disk, Memory}
use Rattle.cache_run.specs.Begun.{Begins, IsNewVolume, IsUnbegun}
use Rattle.cache_run.specs.Fitted.{fitted_for}
use Rattle.trace_replay.proofs.ExitLemmas.{rose_later}

-- ---- a new volume

-- nothing is dirty in a cache that holds nothing
pub table_none : (p size : ℕ) → table_of p [] (dirty_between 0 size nothing_held) ≡ []
table_none p size =
    let none : entries nothing_held ≡ [] = nil_from_length (entries nothing_held) (sym (len-entries nothing_held) ∙ len-empty nat_cmp Held) in
    ap (λ (es : List (ℕ × Held)). table_of p [] (map (λ x. x.0) (filter (λ x. x.1.dirty && nat_le 0 x.0 && nat_lt x.0 (0 + size)) es))) none

-- a rig that was fitted, and what a volume that is made on it makes of it
module _ (g : Geometry) (old made now : State) (fit : made ≡ fitted_for g old) where
  newest_none : IsNewestOnDisk g made.contents empty
  newest_none a low = ap (λ (x : State). (x.contents.disk a).newest) fit

  stays_on : Passes made now false → now.power.on ≡ true
  stays_on passes = (passes.stayed (ap (λ (x : State). x.power.on) fit) refl).on

  stays_unarmed : Passes made now false → now.power.stops ≡ []
  stays_unarmed passes = (passes.stayed (ap (λ (x : State). x.power.on) fit) refl).stops ∙ ap (λ (x : State). x.power.stops) fit

  before_new : now.counts.disk_reads ≡ made.counts.disk_reads → now.counts.disk_writes ≡ made.counts.disk_writes → NoneFailed made now → Passes made now false → KeepsReady made now → IsBefore (fitted_for g old) now
  before_new reads writes sound passes ready = subst (λ (x : State). IsBefore x now) fit (record { shape = passes.shape; disk_reads = reads; disk_writes = writes; counts = passes.counts; none_failed = sound; ready = ready })

-- a volume that was opened over what it was made on
pub new_from : (mode : Mode) (options : Options) (owns : Contents → Type 0) (owes : Contents → List BlockWrite → Type 0) (v : VolumeState) (old made now : State) → made ≡ fitted_for options.geometry old
    → owns now.contents → owes now.contents [] → IsOpened (told_for mode options) nothing_held v
    → ((d : PlainDisk) → IsNewestOnDisk options.geometry made.contents d → StandFor (ImageIs (told_for mode options)) now.contents d)
    → KeepsReady made now → now.counts.disk_reads ≡ made.counts.disk_reads → now.counts.disk_writes ≡ made.counts.disk_writes → NoneFailed made now → Passes made now false
    → IsNewVolume (told_for mode options) owns owes v old now
new_from mode options owns owes v old made now fit left owed opened stands ready reads writes sound passes = record {
  left = left;
  owed = owed;
  told = opened.told;
  up = opened.up;
  table = opened.table ∙ table_none options.geometry.p options.geometry.size;
  held = λ a. opened.held a ∙ ap (λ (h : Option Held). is_some h) (get-empty nat_cmp a);
  empty = stands empty (newest_none options.geometry old made now fit);
  on = stays_on options.geometry old made now fit passes;
  unarmed = stays_unarmed options.geometry old made now fit passes;
  before = before_new options.geometry old made now fit reads writes sound passes ready;
}

-- what was done to the rig, if the volume was made
pub begins_made : {V : Type 0} (v : V) (g : Geometry) (old made now : State) → made ≡ fitted_for g old → now.counts.disk_reads ≡ made.counts.disk_reads → now.counts.disk_writes ≡ made.counts.disk_writes → now.faults ≡ made.faults → Passes made now false → Begins (Ok v) old now
begins_made v g old made now fit reads writes calm passes =
    let same : now.faults ≡ old.faults = calm ∙ ap (λ (x : State). x.faults) fit in
    record {
      only = tt;
      flash = λ is. cc;
      disk = λ is. cc;
      on = λ _. stays_on g old made now fit passes;
      unarmed = λ _. stays_unarmed g old made now fit passes;
      counts = subst (λ (x : State). NeverFall x.counts now.counts) fit passes.counts;
      disk_reads = reads ∙ ap (λ (x : State). x.counts.disk_reads) fit;
      disk_writes = writes ∙ ap (λ (x : State). x.counts.disk_writes) fit;
      flash_later = (let flash = ap (λ (f : Faults). f.flash) same in omega (arith, flash));
      disk_later = (let disk = ap (λ (f : Faults). f.disk) same in omega (arith, disk));
      none_failed = λ _ _. failed_same old now same;
      memory = λ is. cc;
      lent = passes.lent ∙ ap (λ (x : State). x.lent) fit;
    }

-- it is a disk of zero blocks, also as the volume tells it
pub empty_new : {o : Told} {owns : Contents → Type 0} {owes : Contents → List BlockWrite → Type 0} {v : VolumeState} {old now : State} → IsNewVolume o owns owes v old now → StandFor (ImageIs v.told) now.contents empty
empty_new {now = now} new = subst (λ (k : Told). StandFor (ImageIs k) now.contents empty) (sym new.told) new.empty

-- so a run can begin on it
pub fresh_new : (mode : Mode) (options : Options) {owns : Contents → Type 0} {owes : Contents → List BlockWrite → Type 0} {v : VolumeState} {old now : State} (stands : Told → Image → PlainDisk → Type 0) → IsNewVolume (told_for mode options) owns owes v old now → StandFor (stands v.told) now.contents empty
    → IsAsMade (owes now.contents) stands v now
fresh_new mode options stands new stood = record {
  nothing_owed = new.owed;
  on = new.on;
  unarmed = new.unarmed;
  dirty = subst (λ (k : Told). k.dirty ≤ k.geometry.c) (sym new.told) options.dirty_high;
  up = new.up;
  table = new.table;
  held = new.held;
  empty = stood;
}

-- ---- why it ended, and what lies beneath

-- making a volume ends at a device, or for want of memory
not_begun : {V : Type 0} (e : Ended) → IsErrOf {T = V} (Err e) Flash ⊎ IsErrOf {T = V} (Err e) Disk ⊎ IsErrOf {T = V} (Err e) Memory → e ≢ Flash → e ≢ Disk → e ≢ Memory → ⊥
not_begun e (inl flash) not_flash not_disk not_memory = not_flash (let same : e ≡ Flash = cc in same)
not_begun e (inr (inl disk)) not_flash not_disk not_memory = not_disk (let same : e ≡ Disk = cc in same)
not_begun e (inr (inr memory)) not_flash not_disk not_memory = not_memory (let same : e ≡ Memory = cc in same)

-- no volume was made
pub cause_begun : {V : Type 0} (e : Ended) (a : SourceState) (x : SinkState) (old now : State) → Begins {V = V} (Err e) old now → EndHasCause {T = Unit {0}} (Err e) a a x x old now
cause_begun Flash a x old now begins = record { source = λ is. absurd (cc); sink = λ is. absurd (cc); flash = λ is. begins.flash refl; disk = λ is. absurd (cc); source_stays = λ _. refl; sink_stays = λ _. refl; none_failed = λ flash disk. absurd (flash refl) }
cause_begun Disk a x old now begins = record { source = λ is. absurd (cc); sink = λ is. absurd (cc); flash = λ is. absurd (cc); disk = λ is. begins.disk refl; source_stays = λ _. refl; sink_stays = λ _. refl; none_failed = λ flash disk. absurd (disk refl) }
cause_begun Memory a x old now begins = record { source = λ is. absurd (cc); sink = λ is. absurd (cc); flash = λ is. absurd (cc); disk = λ is. absurd (cc); source_stays = λ _. refl; sink_stays = λ _. refl; none_failed = λ flash disk. begins.none_failed (λ is. cc) (λ is. cc) }
cause_begun Trace a x old now begins = absurd (not_begun Trace begins.only (λ is. cc) (λ is. cc) (λ is. cc))
cause_begun Source a x old now begins = absurd (not_begun Source begins.only (λ is. cc) (λ is. cc) (λ is. cc))
cause_begun Sink a x old now begins = absurd (not_begun Sink begins.only (λ is. cc) (λ is. cc) (λ is. cc))

pub untraced_begun : {V : Type 0} (e : Ended) (x : SinkState) (old now : State) → Begins {V = V} (Err e) old now → EndHasCauseUntraced {T = Unit {0}} (Err e) x x old now
untraced_begun Flash x old now begins = record { not_trace = λ is. cc; not_source = λ is. cc; sink = λ is. absurd (cc); flash = λ is. begins.flash refl; disk = λ is. absurd (cc); sink_stays = λ _. refl; none_failed = λ flash disk. absurd (flash refl) }
untraced_begun Disk x old now begins = record { not_trace = λ is. cc; not_source = λ is. cc; sink = λ is. absurd (cc); flash = λ is. absurd (cc); disk = λ is. begins.disk refl; sink_stays = λ _. refl; none_failed = λ flash disk. absurd (disk refl) }
untraced_begun Memory x old now begins = record { not_trace = λ is. cc; not_source = λ is. cc; sink = λ is. absurd (cc); flash = λ is. absurd (cc); disk = λ is. absurd (cc); sink_stays = λ _. refl; none_failed = λ flash disk. begins.none_failed (λ is. cc) (λ is. cc) }
untraced_begun Trace x old now begins = absurd (not_begun Trace begins.only (λ is. cc) (λ is. cc) (λ is. cc))
untraced_begun Source x old now begins = absurd (not_begun Source begins.only (λ is. cc) (λ is. cc) (λ is. cc))
untraced_begun Sink x old now begins = absurd (not_begun Sink begins.only (λ is. cc) (λ is. cc) (λ is. cc))

pub unbegun : {V I O : Type 0} (e : Ended) (a : I) (x : O) (old now : State) → Begins {V = V} (Err e) old now → IsUnbegun {T = Unit {0}} (Err e) a a x x old now
unbegun Flash a x old now begins = record { only = inl refl; source = refl; sink = refl; counts = begins.counts; disk_reads = begins.disk_reads; disk_writes = begins.disk_writes; unarmed = λ _. begins.unarmed (λ is. cc); memory = λ is. cc }
unbegun Disk a x old now begins = record { only = inr (inl refl); source = refl; sink = refl; counts = begins.counts; disk_reads = begins.disk_reads; disk_writes = begins.disk_writes; unarmed = λ _. begins.unarmed (λ is. cc); memory = λ is. cc }
unbegun Memory a x old now begins = record { only = inr (inr refl); source = refl; sink = refl; counts = begins.counts; disk_reads = begins.disk_reads; disk_writes = begins.disk_writes; unarmed = λ device. absurd (elim device [ inl flash ↦ cc | inr disk ↦ cc ]); memory = λ _. begins.memory refl }
unbegun Trace a x old now begins = absurd (not_begun Trace begins.only (λ is. cc) (λ is. cc) (λ is. cc))
unbegun Source a x old now begins = absurd (not_begun Source begins.only (λ is. cc) (λ is. cc) (λ is. cc))
unbegun Sink a x old now begins = absurd (not_begun Sink begins.only (λ is. cc) (λ is. cc) (λ is. cc))

-- a volume was made, and a run over it ended
pub cause_later : {T V : Type 0} {r : Result T Ended} {v : V} {a b : SourceState} {x y : SinkState} {old begun now : State} → Begins (Ok v) old begun → EndHasCause r a b x y begun now → EndHasCause r a b x y old now
cause_later {old = old} {begun = begun} {now = now} begins causes = record {
  source = causes.source;
  sink = causes.sink;
  flash = λ is. rose_later _ _ _ begins.flash_later (causes.flash is);
  disk = λ is. rose_later _ _ _ begins.disk_later (causes.disk is);
  source_stays = causes.source_stays;
  sink_stays = causes.sink_stays;
  none_failed = λ flash disk. failed_then old begun now (begins.none_failed (λ is. cc) (λ is. cc)) (causes.none_failed flash disk);
}

pub untraced_later : {T V : Type 0} {r : Result T Ended} {v : V} {x y : SinkState} {old begun now : State} → Begins (Ok v) old begun → EndHasCauseUntraced r x y begun now → EndHasCauseUntraced r x y old now
untraced_later {old = old} {begun = begun} {now = now} begins causes = record {
  not_trace = causes.not_trace;
  not_source = causes.not_source;
  sink = causes.sink;
  flash = λ is. rose_later _ _ _ begins.flash_later (causes.flash is);
  disk = λ is. rose_later _ _ _ begins.disk_later (causes.disk is);
  sink_stays = causes.sink_stays;
  none_failed = λ flash disk. failed_then old begun now (begins.none_failed (λ is. cc) (λ is. cc)) (causes.none_failed flash disk);
}

pub lent_later : {V : Type 0} {made : Result V Ended} {a b : SourceState} {x y : SinkState} {old begun now : State} → Begins made old begun → KeepsLent a b x y begun now → KeepsLent a b x y old now
lent_later begins lent = record { source_lent = lent.source_lent; sink_lent = lent.sink_lent; rig_lent = lent.rig_lent ∙ begins.lent }

pub lent_untraced : {V : Type 0} {made : Result V Ended} {x y : SinkState} {old begun now : State} → Begins made old begun → KeepsLentUntraced x y begun now → KeepsLentUntraced x y old now
lent_untraced begins lent = record { sink_lent = lent.sink_lent; rig_lent = lent.rig_lent ∙ begins.lent }

pub goes_later : {V : Type 0} {made : Result V Ended} {x y : SinkState} {old begun now : State} → Begins made old begun → KeepsStreamsUntraced x y begun now → KeepsStreamsUntraced x y old now
goes_later {old = old} {begun = begun} {now = now} begins goes = record {
  counts = counts_then old.counts begun.counts now.counts begins.counts goes.counts;
  sink_later = goes.sink_later;
  flash_later = (let first = begins.flash_later in let next = goes.flash_later in omega (arith, first, next));
  disk_later = (let first = begins.disk_later in let next = goes.disk_later in omega (arith, first, next));
  lent = record { sink_lent = goes.lent.sink_lent; rig_lent = goes.lent.rig_lent ∙ begins.lent };
}

pub goes_begun : {V : Type 0} {made : Result V Ended} (x : SinkState) {old now : State} → Begins made old now → KeepsStreamsUntraced x x old now
goes_begun x begins = record {
  counts = begins.counts;
  sink_later = omega arith;
  flash_later = begins.flash_later;
  disk_later = begins.disk_later;
  lent = record { sink_lent = refl; rig_lent = begins.lent };
}

-- ---- the records of a run over it

-- the relations on what was read and said may name the size of the volume
module _ (mode kind : Mode) (options : Options) (is : mode ≡ kind) {owns : Contents → Type 0} {owes : Contents → List BlockWrite → Type 0} {v : VolumeState} {old begun : State} (new : IsNewVolume (told_for kind options) owns owes v old begun) where
  told_new : v.told ≡ told_for mode options
  told_new = new.told ∙ ap (λ (m : Mode). told_for m options) (sym is)

  pub size_new : v.told.geometry.size ≡ options.geometry.size
  size_new = ap (λ (k : Told). k.geometry.size) told_new

  module _ (u : Told) (stays : u ≡ v.told) (reads : ℕ → ℕ → List Reading → Bool → Type 0) (says : ℕ → List Ran → List Answer → Type 0) (part : ℕ → List Ran → List Answer → Option Answer → Type 0) (now : State) where
    pub ends_sized : (r : Result (Unit {0}) Ended)
        → EndsAs v.told (reads v.told.geometry.size) (says v.told.geometry.size) (part v.told.geometry.size) (ImageIs u) begun now r
        → EndsAs (told_for mode options) (reads options.geometry.size) (says options.geometry.size) (part options.geometry.size) (ImageStandsFor options.geometry) (fitted_for options.geometry old) now r
    ends_sized r ends =
        let size = options.geometry.size in
        ends_from (told_for mode options) (reads size) (reads size) (says size) (says size) (ImageIs (told_for mode options)) (ImageStandsFor options.geometry) (fitted_for options.geometry old) begun now
        (λ lines all w known. known) (λ run answers said. said) (image_stands (told_for mode options)) new.before
        (part size) (part size) (λ run answers next shown. shown) r
        (subst (λ (k : Told). EndsAs k (reads k.geometry.size) (says k.geometry.size) (part k.geometry.size) (ImageIs k) begun now r) told_new
        (subst (λ (k : Told). EndsAs v.told (reads v.told.geometry.size) (says v.told.geometry.size) (part v.told.geometry.size) (ImageIs k) begun now r) stays ends))

  pub ends_new : (u : Told) → u ≡ v.told → (form : Form) (a z : SourceState) (x y : SinkState) (now : State) (r : Result (Unit {0}) Ended)
      → EndsAs v.told (ReadsBy (form v.told.geometry.size) a z) (Tells x y) (TellsPart x y) (ImageIs u) begun now r
      → EndsAs (told_for mode options) (ReadsBy (form options.geometry.size) a z) (Tells x y) (TellsPart x y) (ImageStandsFor options.geometry) (fitted_for options.geometry old) now r
  ends_new u stays form a z x y now = ends_sized u stays (λ size. ReadsBy (form size) a z) (λ size. Tells x y) (λ size. TellsPart x y) now

-- ---- the records of a run of given lines over it

module _ (mode kind : Mode) (options : Options) (is : mode ≡ kind) {owns : Contents → Type 0} {owes : Contents → List BlockWrite → Type 0} {v : VolumeState} {old begun : State} (new : IsNewVolume (told_for kind options) owns owes v old begun)
    (u : Told) (stays : u ≡ v.told) (left lines : List Line) (given : left ≡ lines)
    (says : List Ran → List Answer → Type 0) (part : List Ran → List Answer → Option Answer → Type 0) (now : State) where
  told_made : v.told ≡ told_for mode options
  told_made = new.told ∙ ap (λ (m : Mode). told_for m options) (sym is)

  pub ends_made : (r : Result (Unit {0}) Ended) → EndsAs v.told (Gives left) says part (ImageIs u) begun now r
      → EndsAs (told_for mode options) (Gives lines) says part (ImageStandsFor options.geometry) (fitted_for options.geometry old) now r
  ends_made r ends =
      ends_from (told_for mode options) (Gives left) (Gives lines) says says (ImageIs (told_for mode options)) (ImageStandsFor options.geometry) (fitted_for options.geometry old) begun now
      (λ n all w gives. subst (λ (ls : List Line). Gives ls n all w) given gives) (λ run answers said. said) (image_stands (told_for mode options)) new.before
      part part (λ run answers next shown. shown) r
      (subst (λ (k : Told). EndsAs k (Gives left) says part (ImageIs k) begun now r) told_made (subst (λ (k : Told). EndsAs v.told (Gives left) says part (ImageIs k) begun now r) stays ends))
