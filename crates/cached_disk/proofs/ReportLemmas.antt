-- A report: a flush, and then each page that is held is read.
use Rattle.std.proofs.Common.{◌≡◌, ◌≢◌, ℕ, ◌+◌, ◌*◌, ◌≤◌, Bool, true, false, List, [], ◌∷◌, None, Result, Ok, Err, length, inl, inr, refl, sym, ◌∙◌, ap, subst, arith}
use Rattle.std.specs.FinMap.{get}
use Rattle.std.specs.Option.{is_some}
use Rattle.std.specs.Prelude.{IfOk, IsErrOf, OnOk}
use Rattle.std.proofs.lemmas.Bool.{false≢true}
use Rattle.ft_base.specs.Contents.{Contents}
use Rattle.ft_base.specs.Count.{RoseBy}
use Rattle.ft_base.specs.Layout.{most_page_records}
use Rattle.ft_base.specs.Told.{Told}
use Rattle.ft_base.specs.declared.block.Page.{Page}
use Rattle.ft_base.specs.declared.block.Place.{Place}
use Rattle.ft_base.specs.declared.geometry.Geometry.{Geometry}
use Rattle.ft_media.specs.declared.rig.Counts.{Counts}
use Rattle.ft_media.specs.Passes.{Passes}
use Rattle.ft_media.specs.Reads.{ReadsFlash}
use Rattle.ft_media.specs.State.{State}
use Rattle.ft_media.proofs.PassesLemmas.{passes_then}
use Rattle.ft_volume.specs.Volume.{AsksDevices, Costs, Flushes, Goes, HasCause, IsHeldBy, Reports, StaysUp, VolumeState, volume_lost}
use Rattle.ft_volume.specs.Reported.{IsReport}
use Rattle.ft_volume.specs.declared.options.Options.{Options}
use Rattle.ft_volume.specs.declared.volume.Report.{Report}
use Rattle.ft_volume.specs.declared.volume.VolumeError.{VolumeError}
use Rattle.ft_volume.specs.declared.volume.VolumeError.TheVariants as volume
use Rattle.ft_volume.proofs.UpLemmas.{cause_at, cause_then, err_at, lost_at}
use Rattle.cache_model.specs.Buckets.{AreBucketsFor, AreFewFor}
use Rattle.cache_model.specs.Cache.{dirty_groups, undo}
use Rattle.cache_model.specs.CacheList.{CacheList}
use Rattle.cache_model.specs.Entries.{groups_with}
use Rattle.cache_model.specs.Loading.{load}
use Rattle.cache_model.specs.Records.{Entries}
use Rattle.cache_model.specs.Stands.{FlashStandsFor}
use Rattle.cache_model.proofs.StandLemmas.{dirty_groups_same}
use Rattle.mapping.specs.Counts.{held_count}
use Rattle.merge_engine.proofs.BesideLemmas.{nothing_buffered}
use Rattle.ssc.specs.declared.cache.Ssc.{Ssc}
use Rattle.ssc.specs.declared.error.SscError.{SscError}
use Rattle.ssc.specs.declared.error.SscError.TheVariants.{Full, FlashFault, PowerLost, OutOfMemory}
use Rattle.ssc.specs.CacheState.{Holds, entries_of, geometry_of, pending}
use Rattle.ssc.specs.Errors.{ssc_failed, ssc_lost}
use Rattle.ssc.proofs.HoldsLemmas.{nothing_waits, waiting-none}
use Rattle.cached_disk.specs.Errors.{IsOfCache}
use Rattle.cached_disk.proofs.CallLemmas.{from_none}
use Rattle.cached_disk.specs.declared.disk.CachedDisk.{CachedDisk}
use Rattle.cached_disk.specs.Kept.{IsLeft, Loads, is_down, told_of}

-- ---- a flush that failed

-- the error of another call
module _ {S T : Type 0} (old new : VolumeState) (before after : State) (e : VolumeError) where
  pub goes_at : Goes {T = S} old new before after (Err e) → Goes {T = T} old new before after (Err e)
  goes_at goes = record {
    told = goes.told;
    up = tt;
    lost = λ on is. goes.lost on (err_at S T e volume.PowerLost is);
    memory = λ is was. goes.memory (err_at S T e volume.OutOfMemory is) was;
    ready = goes.ready;
    disk = λ is was now. goes.disk (err_at S T e volume.DiskFault is) was now;
    cause = cause_at S T before.faults after.faults e goes.cause;
    passes = subst (λ (l : Bool). Passes before after l) (lost_at S T e) goes.passes;
  }

  pub costs_at : Costs {T = S} Flushes old new before after (Err e) → Costs {T = T} Reports old new before after (Err e)
  costs_at costs = record { table = tt; held = tt; disk_writes = tt; most_writes = costs.most_writes; most_reads = costs.most_reads; refused = λ up. as_report (costs.refused up) }
    where
      as_report : StaysUp Flushes old new → StaysUp Reports old new
      as_report is = record { same = λ no. absurd (false≢true (sym no)); table = is.table; held = λ a. elim (is.held a) [ inl same ↦ inl same | inr own ↦ absurd own.0 ] }

-- ---- each page was read, and nothing changed

module _ (T : Type 0) (old new : VolumeState) (same : new ≡ old) (before after : State) (up : new.down ≡ false) where
  pub goes_read : (value : T) → ReadsFlash before after false false → Goes old new before after (Ok value)
  goes_read value reads = record {
    told = ap (λ (v : VolumeState). v.told) same;
    up = up;
    lost = λ on is. absurd (cc);
    memory = λ is was. up;
    ready = λ now b there. subst (λ (x : Contents). x.flash.next b ≢ None) (sym reads.contents) there;
    disk = λ is was now. ap (λ (x : Contents). x.disk) reads.contents;
    cause = record {
      flash = reads.cause.flash;
      disk = let x = reads.cause.disk in omega (arith, x);
      cuts = reads.cause.cuts;
      flash_fault = λ is. absurd (cc);
      disk_fault = λ is. absurd (cc);
      power_lost = λ is. absurd (cc);
      none = λ no. reads.cause.none refl refl;
    };
    passes = reads.passes;
  }

  -- a page could not be read
  unread : (r : VolumeError) (f l : Bool) → ReadsFlash before after f l → HasCause {T = T} before.faults after.faults (Err r) → (r ≡ volume.PowerLost → l ≡ true) → volume_lost {T = T} (Err r) ≡ l → Goes {T = T} old new before after (Err r)
  unread r f l reads cause power is = record {
    told = ap (λ (v : VolumeState). v.told) same;
    up = tt;
    lost = λ on lost. absurd (false≢true (sym (reads.on on) ∙ power (let same_error : r ≡ volume.PowerLost = cc in same_error)));
    memory = λ none was. up;
    ready = λ now b there. subst (λ (x : Contents). x.flash.next b ≢ None) (sym reads.contents) there;
    disk = λ fault was now. ap (λ (x : Contents). x.disk) reads.contents;
    cause = cause;
    passes = subst (λ (b : Bool). Passes before after b) (sym is) reads.passes;
  }

  abbrev Goes_on : VolumeError → Type 0
  Goes_on r = Goes {T = T} old new before after (Err r)

  pub goes_unread : (e : SscError) (r : VolumeError) → IsOfCache e r → ReadsFlash before after (ssc_failed {T = T} (Err e)) (ssc_lost {T = T} (Err e)) → Goes_on r
  goes_unread (Full n limit) r is reads = absurd is
  goes_unread FlashFault r is reads = subst Goes_on (sym is) (unread volume.FlashFault true false reads (record {
    flash = reads.cause.flash;
    disk = let x = reads.cause.disk in omega (arith, x);
    cuts = reads.cause.cuts;
    flash_fault = λ f. reads.cause.failed refl;
    disk_fault = λ f. absurd (cc);
    power_lost = λ f. absurd (cc);
    none = λ no. absurd (cc);
  }) (λ no. absurd (cc)) refl)
  goes_unread PowerLost r is reads = subst Goes_on (sym is) (unread volume.PowerLost false true reads (record {
    flash = reads.cause.flash;
    disk = let x = reads.cause.disk in omega (arith, x);
    cuts = reads.cause.cuts;
    flash_fault = λ f. absurd (cc);
    disk_fault = λ f. absurd (cc);
    power_lost = λ f. reads.cause.power_lost refl;
    none = λ no. absurd (cc);
  }) (λ power. refl) refl)
  goes_unread OutOfMemory r is reads = subst Goes_on (sym is) (unread volume.OutOfMemory false false reads (record {
    flash = reads.cause.flash;
    disk = let x = reads.cause.disk in omega (arith, x);
    cuts = reads.cause.cuts;
    flash_fault = λ f. absurd (cc);
    disk_fault = λ f. absurd (cc);
    power_lost = λ f. absurd (cc);
    none = λ no. reads.cause.none refl refl;
  }) (λ no. absurd (cc)) refl)

-- the cache doesn't ask the disk
pub not_disk : (e : SscError) (r : VolumeError) → IsOfCache e r → r ≡ volume.DiskFault → ⊥
not_disk (Full n limit) r is same = is
not_disk FlashFault r is same = let no : volume.FlashFault ≡ volume.DiskFault = sym is ∙ same in cc
not_disk PowerLost r is same = let no : volume.PowerLost ≡ volume.DiskFault = sym is ∙ same in cc
not_disk OutOfMemory r is same = let no : volume.OutOfMemory ≡ volume.DiskFault = sym is ∙ same in cc

-- ---- the flush, and then the reads

module _ {S T : Type 0} (old mid new : VolumeState) (before between after : State) (value : S) (result : Result T VolumeError) where
  pub goes_both : Goes old mid before between (Ok value) → Goes mid new between after result → (IsErrOf result volume.DiskFault → ⊥) → Goes old new before after result
  goes_both first then not_disk = record {
    told = then.told ∙ first.told;
    up = then.up;
    lost = λ on is. then.lost (first.passes.stayed on refl).on is;
    memory = λ is was. then.memory is first.up;
    ready = λ now b there. then.ready now b (first.ready first.up b there);
    disk = λ is was now. absurd (not_disk is);
    cause = cause_then before.faults between.faults after.faults value result first.cause then.cause;
    passes = passes_then before between after (volume_lost result) first.passes then.passes;
  }

-- reading a page costs nothing of the disk
module _ {S : Type 0} (old mid new : VolumeState) (is : new ≡ mid) (before between after : State) (value : S) (same : after.counts ≡ between.counts) (first : Costs Flushes old mid before between (Ok value)) where
  writes_most : after.counts.disk_writes ≤ before.counts.disk_writes + 0
  writes_most = subst (λ (x : Counts). x.disk_writes ≤ before.counts.disk_writes + 0) (sym same) first.most_writes

  flushes_same : after.counts.disk_flushes ≡ between.counts.disk_flushes
  flushes_same = ap (λ (x : Counts). x.disk_flushes) same

  reads_most : after.counts.disk_reads ≤ before.counts.disk_reads + 0
  reads_most = subst (λ (x : Counts). x.disk_reads ≤ before.counts.disk_reads + 0) (sym same) first.most_reads

  pub costs_read : {T : Type 0} (report : T) → Costs Reports old new before after (Ok report)
  costs_read report = subst (λ (n : VolumeState). Costs Reports old n before after (Ok report)) (sym is) (record {
    table = first.table;
    held = record {
      own = first.held.own;
      only = first.held.only;
      stays = λ groups lie. first.held.stays groups (record { few = lie.few; all = lie.all });
    };
    disk_writes = subst (λ (x : Counts). RoseBy 0 before.counts.disk_writes x.disk_writes) (sym same) first.disk_writes;
    most_writes = writes_most;
    most_reads = reads_most;
    refused = tt;
  })

  pub costs_unread : (T : Type 0) (e : VolumeError) → ((a : ℕ) → mid.held a ≡ old.held a) → Costs {T = T} Reports old new before after (Err e)
  costs_unread T e kept = record {
    table = tt;
    held = tt;
    disk_writes = tt;
    most_writes = writes_most;
    most_reads = reads_most;
    refused = λ up. subst (StaysUp Reports old) (sym is) (record { same = λ no. absurd (false≢true (sym no)); table = inl first.table; held = λ a. inl (kept a) });
  }

  -- a flush asks for nothing more
  pub asks_read : {T : Type 0} (result : Result T VolumeError) → AsksDevices {T = S} Flushes old old mid before between (Ok value) → AsksDevices Reports old old new before after result
  asks_read result asks = record { flushes = let most = asks.flushes in omega (arith, most, flushes_same); found = λ none. absurd none; two_programs = from_none _ result; one_program = from_none _ result }

-- ---- if nothing is buffered, the flash has the cache's entries

no_length : {A : Type 0} (xs : List A) → length xs ≡ 0 → xs ≡ []
no_length [] none = refl
no_length (x ∷ xs) none = absurd (omega (arith, none))

module _ (c : Ssc) (contents : Contents) (s : CacheList) (holds : Holds c contents s) (none : pending c ≡ []) where
  pub loads_entries : load (geometry_of c) contents.flash.page ≡ Ok (entries_of c)
  loads_entries =
      let current = holds.agree.sound.current in
      ap (λ (g : Geometry). load g contents.flash.page) (sym holds.agree.sound.of_one.log)
      ∙ current.loads
      ∙ ap Ok (nothing_buffered contents.flash.page c.parts.log (entries_of c) current (waiting-none c.parts.log.buffered none))

  stands_itself : FlashStandsFor (geometry_of c) contents.flash.page s
  stands_itself = subst (λ q. FlashStandsFor (geometry_of c) contents.flash.page (undo q s)) (nothing_waits c contents s holds none) holds.lists.stands

  pub groups_of : length (dirty_groups (geometry_of c) s) ≡ length (groups_with (geometry_of c) (λ e. e.dirty) (entries_of c))
  groups_of =
      let both : Ok stands_itself.loaded ≡ Ok (entries_of c) = sym stands_itself.loads ∙ loads_entries in
      let same : stands_itself.loaded ≡ entries_of c = cc in
      dirty_groups_same (geometry_of c) contents.flash.page s stands_itself ∙ ap (λ (m : Entries). length (groups_with (geometry_of c) (λ e. e.dirty) m)) same

-- a volume that is up, with nothing buffered
module _ (v w : CachedDisk) (contents : Contents) (options : w.options ≡ v.options) (left : IsLeft w contents) (up : is_down w ≡ false) (none : pending w.cache ≡ []) where
  held_now : Holds w.cache contents left.held
  held_now = (left.up up).holds

  own : geometry_of w.cache ≡ v.options.geometry
  own = left.own ∙ ap (λ (o : Options). o.geometry) options

  pub loads_left : Loads (told_of v) contents.flash.page (entries_of w.cache)
  loads_left = ap (λ (g : Geometry). load g contents.flash.page) (sym own) ∙ loads_entries w.cache contents left.held held_now none

  pub report_is : (report : Report) → report.held ≡ held_count (entries_of w.cache) → ((c : Contents) (s : CacheList) → Holds w.cache c s → report.dirty_groups ≡ length (dirty_groups (geometry_of w.cache) s))
      → ((c : Contents) (s : CacheList) → Holds w.cache c s → report.dirty_groups ≤ (geometry_of w.cache).c)
      → AreBucketsFor (entries_of w.cache) report.buckets
      → ((c : Contents) (s : CacheList) → Holds w.cache c s → AreFewFor ((geometry_of w.cache).l * (geometry_of w.cache).p + most_page_records) report.buckets)
      → report.scrubbed ≡ held_count (entries_of w.cache) → IsReport v.options.geometry (entries_of w.cache) report
  report_is report held groups most buckets few_buckets scrubbed = record {
    held = held;
    dirty_groups = groups contents left.held held_now ∙ groups_of w.cache contents left.held held_now none ∙ ap (λ (g : Geometry). length (groups_with g (λ e. e.dirty) (entries_of w.cache))) own;
    few = subst (λ (g : Geometry). report.dirty_groups ≤ g.c) own (most contents left.held held_now);
    buckets = buckets;
    few_buckets = subst (λ (g : Geometry). AreFewFor (g.l * g.p + most_page_records) report.buckets) own (few_buckets contents left.held held_now);
    scrubbed = scrubbed;
  }

-- a volume that is up, with nothing buffered: it holds exactly the addresses that the flash has
pub held_by : (v : CachedDisk) (contents : Contents) → IsLeft v contents → is_down v ≡ false → length (pending v.cache) ≡ 0 → (m : Entries) → Loads (told_of v) contents.flash.page m → IsHeldBy m (λ a. is_some (get (entries_of v.cache) a))
held_by v contents left up none m loads a =
    let both : Ok (entries_of v.cache) ≡ Ok m = sym (loads_left v v contents refl left up (no_length (pending v.cache) none)) ∙ loads in
    let same : entries_of v.cache ≡ m = cc in
    ap (λ (n : Entries). is_some (get n a)) same

-- ---- the report of the entries that the flash has

pub report_of : (result : Result Report VolumeError) (told : Told) (page : Place → Page) (m : Entries) → OnOk result (Loads told page m) → IfOk result (IsReport told.geometry m) → IfOk result (λ report. (n : Entries) → Loads told page n → IsReport told.geometry n report)
report_of (Err e) told page m loads is = tt
report_of (Ok report) told page m loads is = λ n has.
    let both : Ok m ≡ Ok n = sym loads ∙ has in
    let same : m ≡ n = cc in
    subst (λ (k : Entries). IsReport told.geometry k report) same is
