-- A volume that comes up, with a table that comes from its cache.
use Rattle.std.proofs.Common.{rules, arith, Result, Ok, Err, ◌≡◌, ◌⊎◌, ℕ, ◌+◌, ◌/◌, ◌≤◌, ◌<◌, nat_lt, lt-ltb, Option, Some, None, Bool, true, false, if◌then◌else◌, List, [], ◌++◌, length, get_or, map, inl, refl, sym, ◌∙◌, ap, subst}
use Rattle.std.specs.Prelude.{IsTrue, OnOk}
use Rattle.std.proofs.lemmas.Result.{on_ok_weaker}
use Rattle.ft_base.specs.PlainDisk.{BlockWrite, PlainDisk, after_writes}
use Rattle.ft_base.specs.Told.{Told}
use Rattle.ft_volume.specs.Standing.{StandFor}
use Rattle.std.specs.FinMap.{get}
use Rattle.std.specs.Option.{option_map}
use Rattle.ft_base.specs.declared.block.Place.{Place}
use Rattle.ft_base.specs.declared.block.Page.{Page}
use Rattle.ft_base.specs.declared.geometry.Geometry.{Geometry}
use Rattle.ft_base.specs.Contents.{Contents}
use Rattle.ft_base.specs.Count.{RoseBy}
use Rattle.ft_base.specs.Table.{goes_back, last_size, without_last}
use Rattle.ft_base.specs.declared.told.Mode.{Mode}
use Rattle.ft_base.specs.declared.told.Mode.TheVariants.{Back}
use Rattle.ft_media.specs.Passes.{Passes}
use Rattle.ft_media.specs.State.{State}
use Rattle.ft_volume.specs.Opening.{ImageIs}
use Rattle.ft_volume.specs.Volume.{AsksDevices, ComesUp, Call, Costs, DoneOwing, Finds, Goes, Idles, StaysUp, VolumeState, backs_of, writes_of, dirty_lbas, flushes_of}
use Rattle.ft_volume.specs.declared.volume.Idled.{Idled}
use Rattle.ft_volume.specs.declared.volume.Idled.TheVariants.{Cleaned}
use Rattle.ft_volume.specs.declared.volume.VolumeError.{VolumeError}
use Rattle.ft_volume.specs.declared.volume.VolumeError.TheVariants.{FlashFault, DiskFault, PowerLost, OutOfMemory, OutOfVolume}
use Rattle.ft_volume.proofs.OpenedLemmas.{opened_up}
use Rattle.ft_volume.proofs.UpLemmas.{cause_at, done_through, err_at, lost_at}
use Rattle.cache_model.specs.Cache.{dirty_between}
use Rattle.cache_model.specs.CacheList.{CacheList, Held}
use Rattle.cache_model.specs.declared.entry.Entry.{Entry}
use Rattle.cache_model.specs.Loading.{load}
use Rattle.cache_model.specs.Records.{Entries}
use Rattle.cache_model.specs.Stands.{FlashStandsFor}
use Rattle.cache_model.proofs.FitsLemmas.{load-map}
use Rattle.mapping.specs.MapValue.{MapValue}
use Rattle.cache_model.specs.Entries.{IsMap, each_once}
use Rattle.merge_engine.proofs.TakeLemmas.{agree_map}
use Rattle.dirty_table.specs.Groups.{Groups, groups_in_order, has, touched}
use Rattle.ssc.specs.CacheState.{Holds, entries_of, geometry_of}
use Rattle.ssc.specs.Opened.{IsLoadedFrom}
use Rattle.ssc.proofs.ListLemmas.{stands_some}
use Rattle.ssc.proofs.OpenLemmas.{loaded_alike}
use Rattle.cached_disk.specs.declared.disk.CachedDisk.{CachedDisk}
use Rattle.cached_disk.specs.declared.opening.LoadedDisk.{LoadedDisk}
use Rattle.cached_disk.specs.Kept.{Loads, MayServe, dirty_of, WritesDisk}
use Rattle.cached_disk.specs.Kept as kept
use Rattle.merge_engine.specs.Loaded.{AreAscending}
use Rattle.cached_disk.proofs.AddressLemmas.{holds_lbas, holds_within, lbas_alike, lbas_ascending, lbas_between}
use Rattle.cached_disk.proofs.CallLemmas.{asks_none, was_kept}
use Rattle.cached_disk.proofs.HeldLemmas.{one_held}
use Rattle.cached_disk.proofs.OpenedLemmas.{given_up_left}
use Rattle.write_back.specs.declared.volume.WriteBack.{WriteBack}
use Rattle.write_back.specs.Left.{IsLeft, IsDirtyTable, Steps, state_of}
use Rattle.write_back.specs.Tables.{IsTableOf}
use Rattle.write_back.proofs.TableLemmas.{IsTableSoFar, few_lbas, length_waiting, so_far_exact, so_far_more, so_far_none, so_far_order, so_far_room}

-- ---- the table of a cache

-- the table of the first i addresses
pub record IsMade (g : Geometry) (lbas : List ℕ) (i : ℕ) (table : Groups) : Type 0 where
  pub limit : table.limit ≡ g.c
  pub so_far : IsTableSoFar g.p lbas i table.order

pub made_none : (g : Geometry) (lbas : List ℕ) (table : Groups) → table ≡ groups_in_order [] g.c → IsMade g lbas 0 table
made_none g lbas table is = subst (λ (t : Groups). IsMade g lbas 0 t) (sym is) (record { limit = refl; so_far = so_far_none g.p lbas 0 [] refl refl })

module _ (g : Geometry) (lbas : List ℕ) (ascends : AreAscending lbas) (few : length (each_once (map (λ a. a / g.p) lbas)) ≤ g.c) (i : ℕ) (table : Groups) (made : IsMade g lbas i table) where
  -- there is room for the group of the next address
  pub made_room : i < length lbas → (p : ℕ) → p ≡ g.p → IsTrue (has (get_or lbas i 0 / p) table.order) ⊎ (length table.order < table.limit)
  made_room within p own =
      subst (λ (q : ℕ). IsTrue (has (get_or lbas i 0 / q) table.order) ⊎ (length table.order < table.limit)) (sym own)
      (subst (λ (c : ℕ). IsTrue (has (get_or lbas i 0 / g.p) table.order) ⊎ (length table.order < c)) (sym made.limit)
      (so_far_room g.p lbas i table.order made.so_far g.c within few))

  pub made_more : i < length lbas → (p : ℕ) → p ≡ g.p → (new : Groups) → new ≡ groups_in_order (touched (get_or lbas i 0 / p) table.order) table.limit → IsMade g lbas (i + 1) new
  made_more within p own new is_new =
      subst (λ (t : Groups). IsMade g lbas (i + 1) t) (sym (is_new ∙ ap (λ (q : ℕ). groups_in_order (touched (get_or lbas i 0 / q) table.order) table.limit) own))
      (record { limit = made.limit; so_far = so_far_more g.p lbas i table.order ascends within made.so_far })

  -- at the end it is the table of all addresses
  pub made_all : length lbas ≤ i → IsTableOf g lbas table
  made_all past = record {
    groups = record { limit = made.limit; apart = made.so_far.apart };
    exact = so_far_exact g.p lbas i table.order made.so_far past;
    order = so_far_order g.p lbas i table.order made.so_far past;
  }

-- the dirty addresses of a cache
module _ (v : CachedDisk) (over : (contents : Contents) × MayServe v contents) where
  abbrev held : CacheList
  held = over.1.left.held

  holds : Holds v.cache over.0 held
  holds = (over.1.left.up over.1.up).holds

  inside : (a : ℕ) (h : Held) → get held a ≡ Some h → a < v.options.geometry.size
  inside a h at = subst (λ (g : Geometry). a < g.size) over.1.left.own (holds_within v.cache over.0 held holds a h at)

  -- the addresses that the cache adds to an empty list
  pub listed : (lbas out before : List ℕ) (n : ℕ) → lbas ≡ out → before ≡ [] → n ≡ v.options.geometry.size → ((contents : Contents) (s : CacheList) → Holds v.cache contents s → out ≡ before ++ dirty_between 0 n s) → lbas ≡ dirty_of v
  listed lbas out before n is none all done =
      is
      ∙ done over.0 held holds
      ∙ ap (λ (l : List ℕ). l ++ dirty_between 0 n held) none
      ∙ ap (λ (k : ℕ). dirty_between 0 k held) all
      ∙ lbas_between held v.options.geometry.size inside
      ∙ sym (holds_lbas v.cache over.0 held holds)

  module _ (lbas : List ℕ) (is : lbas ≡ dirty_of v) where
    pub ascends : AreAscending lbas
    ascends = subst (λ (l : List ℕ). AreAscending l) (sym (is ∙ holds_lbas v.cache over.0 held holds)) (lbas_ascending held)

    pub few : length (each_once (map (λ a. a / v.options.geometry.p) lbas)) ≤ v.options.geometry.c
    few =
        let own : IsMap v.options.geometry (entries_of v.cache) = subst (λ (g : Geometry). IsMap g (entries_of v.cache)) over.1.left.own (agree_map v.cache.parts over.0 holds.agree) in
        subst (λ (l : List ℕ). length (each_once (map (λ a. a / v.options.geometry.p) l)) ≤ v.options.geometry.c) (sym is) (few_lbas v.options.geometry (entries_of v.cache) own)

-- the dirty addresses of a cache that was loaded
module _ (v : LoadedDisk) (from : (page : Place → Page) × IsLoadedFrom v.options.geometry page v.cache) where
  abbrev entries_now : Entries
  entries_now = entries_of v.cache.cache

  map_is : entries_now ≡ from.1.loaded.map.entries
  map_is = ap (λ (m : MapValue). m.entries) from.1.parts.map

  loads : load v.options.geometry from.0 ≡ Ok entries_now
  loads = from.1.is_loaded.loads ∙ ap Ok (sym map_is)

  own_map : IsMap v.options.geometry entries_now
  own_map = load-map v.options.geometry from.0 entries_now loads

  some : (s : CacheList) × FlashStandsFor v.options.geometry from.0 s
  some = stands_some from.0 v.options.geometry entries_now loads

  alike : (a : ℕ) → option_map (λ (h : Held). h.dirty) (get some.0 a) ≡ option_map (λ (e : Entry). e.dirty) (get entries_now a)
  alike = loaded_alike v.options.geometry from.0 entries_now some.0 loads some.1

  inside_loaded : (a : ℕ) (h : Held) → get some.0 a ≡ Some h → a < v.options.geometry.size
  inside_loaded a h at = by (get entries_now a) refl
    where
      by : (o : Option Entry) → get entries_now a ≡ o → a < v.options.geometry.size
      by None none = absurd (let both : Some h.dirty ≡ None = sym (ap (option_map (λ (k : Held). k.dirty)) at) ∙ alike a ∙ ap (option_map (λ (e : Entry). e.dirty)) none in cc)
      by (Some e) is = own_map.within a e is

  -- the addresses that the loaded cache adds to an empty list
  pub loaded_listed : (lbas out before : List ℕ) (n : ℕ) → lbas ≡ out → before ≡ [] → n ≡ v.options.geometry.size
      → ((g : Geometry) (page : Place → Page) (s : CacheList) → IsLoadedFrom g page v.cache → FlashStandsFor g page s → out ≡ before ++ dirty_between 0 n s) → lbas ≡ dirty_lbas entries_now
  loaded_listed lbas out before n is none all done =
      is
      ∙ done v.options.geometry from.0 some.0 from.1 some.1
      ∙ ap (λ (l : List ℕ). l ++ dirty_between 0 n some.0) none
      ∙ ap (λ (k : ℕ). dirty_between 0 k some.0) all
      ∙ lbas_between some.0 v.options.geometry.size inside_loaded
      ∙ sym (lbas_alike entries_now some.0 alike)

  module _ (lbas : List ℕ) (is : lbas ≡ dirty_lbas entries_now) where
    pub loaded_ascends : AreAscending lbas
    loaded_ascends = subst (λ (l : List ℕ). AreAscending l) (sym (is ∙ lbas_alike entries_now some.0 alike)) (lbas_ascending some.0)

    pub loaded_few : length (each_once (map (λ a. a / v.options.geometry.p) lbas)) ≤ v.options.geometry.c
    loaded_few = subst (λ (l : List ℕ). length (each_once (map (λ a. a / v.options.geometry.p) l)) ≤ v.options.geometry.c) (sym is) (few_lbas v.options.geometry entries_now own_map)

  pub loaded_size : (geometry_of v.cache.cache).size ≡ v.options.geometry.size
  loaded_size = ap (λ (g : Geometry). g.size) from.1.parts.geometry

-- ---- the volume comes up

-- the volume is up already
pub stays_up : (v : WriteBack) (state : State) → IsLeft v state.contents → kept.is_down v.disk ≡ false → ComesUp {T = Unit {0}} ImageIs Loads (state_of v) (state_of v) state state (Ok tt)
stays_up v state left up = record {
  told = refl;
  owed = refl;
  same = λ was. (refl, refl);
  up = up;
  opens = λ m loads. sym (opened_up (state_of v) m up);
  refused = tt;
  disk_reads = refl;
  disk_writes = refl;
  disk_flushes = omega arith;
  fixed = one_held v.disk state.contents left.disk.held left.disk.own (left.disk.up up);
  ready = λ b there. there;
  within = search rules;
  cause = search rules;
  passes = search rules;
}

-- the memory of its table was refused, so the volume is given up again
pub given_up : (v : CachedDisk) (table : Groups) (contents : Contents) → kept.IsLeft v contents → v.mode ≡ Back → IsDirtyTable v.options.geometry table → IsLeft (record { disk = record v { down = true }; dirty = table }) contents
given_up v table contents left back is = record {
  disk = given_up_left v contents left;
  mode = back;
  table = is;
  exact = λ up. absurd (let no : true ≡ false = up in cc);
}

-- ---- an idle step that writes a group back

-- more groups are dirty than may stay dirty
pub goes_over : (v : WriteBack) → v.disk.mode ≡ Back → v.disk.options.dirty < length v.dirty.order → goes_back (state_of v).told.mode (state_of v).told.dirty (length (state_of v).table) ≡ true
goes_over v back over =
    ap (λ (m : Mode). goes_back m v.disk.options.dirty (length (state_of v).table)) back
    ∙ ap (λ (n : ℕ). nat_lt v.disk.options.dirty n) (length_waiting v.disk.options.geometry.p v.dirty.order (dirty_of v.disk))
    ∙ lt-ltb v.disk.options.dirty (length v.dirty.order) over

pub cleaned_steps : (old new : WriteBack) (before after : State) → Steps {T = Unit {0}} old new before after (Ok tt) → Steps old new before after (Ok Cleaned)
cleaned_steps old new before after steps = record {
  left = steps.left;
  goes = record {
    told = steps.goes.told;
    up = steps.goes.up;
    lost = λ on is. absurd (cc);
    memory = λ is was. absurd (cc);
    ready = steps.goes.ready;
    disk = λ is was now. absurd (cc);
    cause = record {
      flash = steps.goes.cause.flash;
      disk = steps.goes.cause.disk;
      cuts = steps.goes.cause.cuts;
      flash_fault = λ is. absurd (cc);
      disk_fault = λ is. absurd (cc);
      power_lost = λ is. absurd (cc);
      none = λ no. steps.goes.cause.none refl;
    };
    passes = steps.goes.passes;
  };
  faulted = record { flash = λ is. absurd (cc); disk = λ is. absurd (cc) };
  within = λ is. absurd (cc);
}

pub cleaned_costs : (old new : VolumeState) (before after : State) → goes_back old.told.mode old.told.dirty (length old.table) ≡ true → new.table ≡ without_last old.table → ((a : ℕ) → new.held a ≡ old.held a)
    → WritesDisk (last_size old.table) before after (Ok tt) → Costs Idles old new before after (Ok Cleaned)
cleaned_costs old new before after goes table same writes = record {
  table = table ∙ sym (ap (λ (b : Bool). if b then without_last old.table else old.table) goes);
  held = record { own = λ a is. absurd is; only = λ a there. inl (sym (same a) ∙ there); stays = λ groups_in_order lie a was. same a ∙ was };
  disk_writes = subst (λ (n : ℕ). RoseBy n before.counts.disk_writes after.counts.disk_writes) (sym back) writes.exact;
  most_writes = let most = writes.most in omega (arith, most, back);
  most_reads = let reads = writes.reads in omega (arith, reads);
  refused = tt;
}
  where
    back : backs_of Idles old.told old.table ≡ last_size old.table
    back = ap (λ (b : Bool). if b then last_size old.table else 0) goes

-- the write-back failed
pub uncleaned_steps : (old new : WriteBack) (before after : State) (e : VolumeError) → Steps {T = Unit {0}} old new before after (Err e) → Steps {T = Idled} old new before after (Err e)
uncleaned_steps old new before after e steps = record {
  left = steps.left;
  goes = record {
    told = steps.goes.told;
    up = tt;
    lost = λ on is. steps.goes.lost on (err_at (Unit {0}) Idled e PowerLost is);
    memory = λ is was. steps.goes.memory (err_at (Unit {0}) Idled e OutOfMemory is) was;
    ready = steps.goes.ready;
    disk = λ is was now. steps.goes.disk (err_at (Unit {0}) Idled e DiskFault is) was now;
    cause = cause_at (Unit {0}) Idled before.faults after.faults e steps.goes.cause;
    passes = subst (λ (b : Bool). Passes before after b) (lost_at (Unit {0}) Idled e) steps.goes.passes;
  };
  faulted = record {
    flash = λ is. steps.faulted.flash (err_at (Unit {0}) Idled e FlashFault is);
    disk = λ is. steps.faulted.disk (err_at (Unit {0}) Idled e DiskFault is);
  };
  within = λ is. steps.within (err_at (Unit {0}) Idled e OutOfVolume is);
}

pub uncleaned_costs : (old new : VolumeState) (before after : State) (e : VolumeError) → goes_back old.told.mode old.told.dirty (length old.table) ≡ true → WritesDisk (last_size old.table) before after (Err e) → (new.down ≡ false → StaysUp Idles old new)
    → Costs {T = Idled} Idles old new before after (Err e)
uncleaned_costs old new before after e goes writes same = record {
  table = tt;
  held = tt;
  disk_writes = tt;
  most_writes = let most = writes.most in omega (arith, most, back);
  most_reads = let reads = writes.reads in omega (arith, reads);
  refused = same;
}
  where
    back : backs_of Idles old.told old.table ≡ last_size old.table
    back = ap (λ (b : Bool). if b then last_size old.table else 0) goes

-- the step flushes the disk once at most
pub cleaned_asks : (old new : VolumeState) (before after : State) (result : Result Idled VolumeError) → goes_back old.told.mode old.told.dirty (length old.table) ≡ true → after.counts.disk_flushes ≤ before.counts.disk_flushes + 1 → AsksDevices Idles old old new before after result
cleaned_asks old new before after result goes most =
    let one : flushes_of Idles old.told old.table ≡ 1 = ap (λ (b : Bool). if b then 1 else 0) goes in
    asks_none Idles old new before after result (λ none. none) (λ finds none. none) (omega (arith, most, one))

-- ---- a call that writes no block, once the volume is up

pub always_ok : {T E P : Type 0} (r : Result T E) → P → OnOk r P
always_ok (Ok value) fact = fact
always_ok (Err e) fact = tt

pub back_done : {T : Type 0} (call : Call) (old mid new : WriteBack) (before between after : State) (r : Result T VolumeError) → ComesUp {T = Unit {0}} ImageIs Loads (state_of old) (state_of mid) before between (Ok tt)
    → ((owed : List BlockWrite) → kept.Owes old.disk before.contents owed → kept.Owes mid.disk between.contents owed) → kept.is_down mid.disk ≡ false → writes_of call ≡ [] → kept.StaysOwing mid.disk new.disk between.contents after.contents
    → OnOk r ((owed : List BlockWrite) → kept.Owes mid.disk between.contents owed → (base : PlainDisk) → StandFor (ImageIs (kept.told_of mid.disk)) between.contents base → Finds call (after_writes owed base)) → Goes (state_of mid) (state_of new) between after r
    → DoneOwing (λ (owed : List BlockWrite). kept.Owes old.disk before.contents owed) (λ (owed : List BlockWrite). kept.Owes new.disk after.contents owed) ImageIs call (state_of old) (state_of new) before.contents after.contents r
back_done call old mid new before between after r comes owes up nothing keeps found goes owed was =
    let there = owes owed was in
    let at = keeps owed there in (
      at.0,
      at.1,
      done_through ImageIs Loads (state_of old) (state_of mid) (state_of new) before between after tt comes r call owed at.0 (λ base stand.
          was_kept call (state_of mid) (state_of new) between after owed at.0 base r
          (subst (λ (t : Told). kept.KeepsOwed t after.contents (kept.is_down new.disk) owed at.0 base) (sym goes.told) (at.2 base stand))
          nothing (on_ok_weaker r (λ found. found owed there base stand) found) up goes),
    )
