-- A cache is opened: its map is the loaded one, and a checkpoint of it is made.
use Rattle.std.proofs.Common.{◌≡◌, ◌≢◌, ℕ, ◌+◌, ◌-◌, ◌%◌, ◌≤◌, ◌==◌, Bool, true, false, List, [], Option, Some, None, Result, Ok, Err, nat_cmp, refl, sym, ◌∙◌, ap, subst, arith, inl, inr}
use Rattle.std.specs.Option.{option_and_then, option_map}
use Rattle.std.specs.Prelude.{IfErr}
use Rattle.std.specs.Result.{IsErrAnd}
use Rattle.std.specs.FinMap.{empty, get, get-empty}
use Rattle.std.proofs.lemmas.Bool.{cases_cond, false≢true}
use Rattle.ft_base.specs.declared.geometry.Geometry.{Geometry}
use Rattle.ft_base.specs.declared.record.Record.{Record}
use Rattle.ft_base.specs.declared.block.Place.{Place}
use Rattle.ft_base.specs.declared.block.Page.{Page}
use Rattle.ft_base.specs.Contents.{Contents, Image, Now, HasValue}
use Rattle.ft_base.specs.Count.{Rose}
use Rattle.ft_base.specs.Layout.{log_pages}
use Rattle.ft_media.specs.declared.rig.Counts.{Counts}
use Rattle.ft_media.specs.State.{State}
use Rattle.ft_media.specs.Media.{Crashed}
use Rattle.ft_media.specs.Reads.{ReadsFlash}
use Rattle.ft_media.specs.Passes.{ProgramsPages}
use Rattle.ft_media.proofs.PassesLemmas.{spends_after}
use Rattle.cache_model.specs.declared.entry.Entry.{Entry}
use Rattle.ft_media.specs.Drives.{DrivesFlash}
use Rattle.cache_model.specs.Records.{Entries, no_entries}
use Rattle.cache_model.specs.Loading.{Complete, Refusal, checkpoint_in, checkpoint_of, checkpoint_region, chosen, load}
use Rattle.cache_model.specs.CacheList.{CacheList, Held}
use Rattle.cache_model.specs.Stands.{FlashStandsFor, held_at}
use Rattle.cache_model.proofs.RegionLemmas.{checkpoint_era}
use Rattle.cache_model.proofs.LoadLemmas.{newest_is}
use Rattle.cache_model.proofs.StandLemmas.{entry_whole, whole_held}
use Rattle.mapping.specs.MapValue.{MapValue}
use Rattle.op_log.specs.declared.error.OpenError.{OpenError}
use Rattle.op_log.specs.declared.error.OpenError.TheVariants.{NotFormatted, OtherGeometry, Damaged, FlashFault, DiskFault, PowerLost, OutOfMemory}
use Rattle.op_log.specs.Log.{LogValue, FitsOn}
use Rattle.op_log.specs.Refusals.{open_failed, open_lost, IsOfFlash, IsRefusal}
use Rattle.checkpoint.specs.Commits.{AddsCheckpoint}
use Rattle.checkpoint.specs.Counts.{checkpoint_counted}
use Rattle.checkpoint.specs.Current.{IsCurrent, LoadsOneOf, PoolStays, log_checkpointed}
use Rattle.checkpoint.specs.Regions.{map_pages}
use Rattle.recovery.specs.declared.loading.Loaded.{Loaded}
use Rattle.recovery.specs.Loaded.{IsLoaded}
use Rattle.merge_engine.specs.declared.parts.Parts.{Parts}
use Rattle.merge_engine.specs.Agreement.{IsListOn, ArePartsSound, Lists}
use Rattle.merge_engine.proofs.BesideLemmas.{loaded_durable}
use Rattle.ssc.specs.declared.cache.Ssc.{Ssc}
use Rattle.ssc.specs.declared.opening.LoadedCache.{LoadedCache}
use Rattle.ssc.specs.Opened.{CostsOpening, IsLoadedFrom, IsOpenedOver, MadeCheckpoint, StandsStill}
use Rattle.ssc.specs.Steps.{IsLoadedAs, FlashStandsForEither, log_found}

-- ---- calls that read, as calls that drive

pub reads_drives : (a b : State) (f l : Bool) → (a.power.on ≡ false → Crashed a.contents) → ReadsFlash a b f l → DrivesFlash a b f l
reads_drives a b f l off reads = record {
  disk = record { stays = λ kept. ap (λ (c : Contents). c.disk) reads.contents; values = λ lba block has. subst (λ (c : Contents). HasValue (c.disk lba) block) reads.contents has };
  crash = λ lost. subst (λ (c : Contents). Crashed c) (sym reads.contents) (off (dark a.power.on refl lost));
  ready = λ done kept. λ block ready. subst (λ (c : Contents). c.flash.next block ≢ None) (sym reads.contents) ready;
  disk_reads = ap (λ (c : Counts). c.disk_reads) reads.counts;
  disk_writes = ap (λ (c : Counts). c.disk_writes) reads.counts;
  disk_flushes = ap (λ (c : Counts). c.disk_flushes) reads.counts;
  cause = reads.cause;
  passes = reads.passes;
}
  where
    dark : (on : Bool) → a.power.on ≡ on → l ≡ true → a.power.on ≡ false
    dark true is lost = absurd (let stays : l ≡ false = reads.on is in let both : true ≡ false = sym lost ∙ stays in cc)
    dark false is lost = is

-- ---- the map that was loaded

loaded_current : (g : Geometry) (page : Place → Page) (loaded : Loaded) (log : LogValue) (m : Entries) → IsLoaded g page loaded → m ≡ loaded.map.entries → log ≡ record { geometry = g; region = loaded.region; era = loaded.era; next = 0; buffered = [] } → IsCurrent page log m
loaded_current g page loaded log m is same log_is = subst (λ (l : LogValue). IsCurrent page l m) (sym log_is) (subst (λ (n : Entries). IsCurrent page (record { geometry = g; region = loaded.region; era = loaded.era; next = 0; buffered = [] }) n) (sym same) (record {
  durable = loaded.map.entries;
  loads = is.loads;
  buffered = refl;
  newest = is.newest;
  chosen = is.chosen;
  era = is.era;
}))

-- the era of a checkpoint that is loaded
chosen_era : (x y : Option Complete) (c : ℕ × Complete) → ((d : Complete) → x ≡ Some d → d.stamp.era ≤ 2) → ((d : Complete) → y ≡ Some d → d.stamp.era ≤ 2) → chosen x y ≡ Some c → c.1.stamp.era ≤ 2
chosen_era None None c first second is = absurd (cc)
chosen_era None (Some d) c first second is = let e : c ≡ (1, d) = cc in subst (λ (x : ℕ × Complete). x.1.stamp.era ≤ 2) (sym e) (second d refl)
chosen_era (Some d) None c first second is = let e : c ≡ (0, d) = cc in subst (λ (x : ℕ × Complete). x.1.stamp.era ≤ 2) (sym e) (first d refl)
chosen_era (Some d) (Some d') c first second is =
    elim (cases_cond (d'.stamp.era == (d.stamp.era + 1) % 3) (Some (1, d')) (Some (0, d)) (Some c) (sym is)) [
      | inl one ↦ let e : c ≡ (1, d') = cc in subst (λ (x : ℕ × Complete). x.1.stamp.era ≤ 2) (sym e) (second d' refl)
      | inr two ↦ let e : c ≡ (0, d) = cc in subst (λ (x : ℕ × Complete). x.1.stamp.era ≤ 2) (sym e) (first d refl)
    ]

pub loaded_era : (g : Geometry) (page : Place → Page) (loaded : Loaded) → IsLoaded g page loaded → loaded.era ≤ 2
loaded_era g page loaded is =
    let era = chosen_era (checkpoint_in (checkpoint_region g page 0)) (checkpoint_in (checkpoint_region g page 1)) (loaded.region, is.newest) (checkpoint_era (checkpoint_region g page 0)) (checkpoint_era (checkpoint_region g page 1)) (newest_is g page (loaded.region, is.newest) is.chosen) in
    subst (λ n. n ≤ 2) is.era era

module _ (g : Geometry) (old mid : Contents) (loaded : Loaded) (parts : Parts) (is : IsLoaded g old.flash.page loaded) (read : mid ≡ old) (as_is : IsLoadedAs g loaded parts) where
  entries_is : parts.map.entries ≡ loaded.map.entries
  entries_is = ap (λ (m : MapValue). m.entries) as_is.map

  -- the parts agree with the flash, whose log is still closed
  pub sound_loaded : FitsOn g old.shape → ArePartsSound parts mid
  sound_loaded shape = subst (λ (k : Contents). ArePartsSound parts k) (sym read) (record {
    of_one = as_is.of_one;
    shape = subst (λ (h : Geometry). FitsOn h old.shape) (sym as_is.geometry) shape;
    current = loaded_current g old.flash.page loaded parts.log parts.map.entries is entries_is as_is.log;
    whole = record { whole = λ a e at. entry_whole g old.flash.page parts.map.entries (is.loads ∙ ap Ok (sym entries_is)) a e at };
    roles = as_is.roles;
    log_blocks = as_is.log_blocks.sound;
    open_block = λ some. absurd (omega (arith, some, as_is.log_blocks.closed));
  })

  pub lists_loaded : (s : CacheList) → FlashStandsFor g old.flash.page s → Lists parts mid.flash.page s s
  lists_loaded s stands = subst (λ (k : Contents). Lists parts k.flash.page s s) (sym read) (record {
    held = subst (λ (n : Entries). IsListOn old.flash.page n s) (loaded_durable g old.flash.page s stands loaded.map.entries is.loads ∙ sym entries_is) stands.held;
    stands = subst (λ (h : Geometry). FlashStandsFor h old.flash.page s) (sym as_is.geometry) stands;
  })

  -- whatever the checkpoint answers, the flash still stands for the same list
  pub images_loaded : (new : Contents) → ((list durable : CacheList) → Lists parts mid.flash.page list durable → FlashStandsForEither parts.geometry new.flash.page durable list) → (s : CacheList) → FlashStandsFor g old.flash.page s → (x : Image) → Now new x → FlashStandsFor g x.page s
  images_loaded new either s stands x now = subst (λ (p : Place → Page). FlashStandsFor g p s) (sym now.pages) (subst (λ (h : Geometry). FlashStandsFor h new.flash.page s) as_is.geometry (by (either s s (lists_loaded s stands))))
    where
      by : FlashStandsForEither parts.geometry new.flash.page s s → FlashStandsFor parts.geometry new.flash.page s
      by (inl same) = same
      by (inr same) = same

  -- the flash still loads the same map
  pub load-loaded : (new : Contents) → LoadsOneOf parts.geometry mid.flash.page new.flash.page parts.map.entries → load g new.flash.page ≡ load g old.flash.page
  load-loaded new one = by (subst (λ (h : Geometry). LoadsOneOf h old.flash.page new.flash.page parts.map.entries) as_is.geometry (subst (λ (k : Contents). LoadsOneOf parts.geometry k.flash.page new.flash.page parts.map.entries) read one))
    where
      by : LoadsOneOf g old.flash.page new.flash.page parts.map.entries → load g new.flash.page ≡ load g old.flash.page
      by (inl done) = done ∙ ap Ok entries_is ∙ sym is.loads
      by (inr same) = same

-- ---- the cost of an opening

-- a read that neither failed nor was cut
reads_as : (a b : State) (f l : Bool) → ReadsFlash a b f l → f ≡ false → l ≡ false → ReadsFlash a b false false
reads_as a b f l reads no_fault no_cut = subst (λ (x : Bool). ReadsFlash a b x false) no_fault (subst (λ (x : Bool). ReadsFlash a b f x) no_cut reads)

-- there was no memory after the flash was read
pub memory_reads : {T : Type 0} (a b : State) (r : Result T OpenError) → IsErrAnd r (λ own. own ≡ OutOfMemory) → ReadsFlash a b false false → ReadsFlash a b (open_failed r) (open_lost r)
memory_reads a b (Ok v) is reads = absurd is
memory_reads {T = T} a b (Err own) is reads = subst (λ (x : OpenError). ReadsFlash a b (open_failed {T = T} (Err x)) (open_lost {T = T} (Err x))) (sym is) reads

-- an opening that failed at a read
pub refused_reads : (g : Geometry) (a b : State) (T : Type 0) (r : Result Ssc OpenError) (e : OpenError) → IsErrAnd r (λ own. own ≡ e) → ReadsFlash a b (open_failed {T = T} (Err e)) (open_lost {T = T} (Err e)) → CostsOpening g a b r
refused_reads g a b T (Ok v) e is reads = absurd is
refused_reads g a b T (Err own) e is reads = record {
  made = tt;
  programs = tt;
  refused = λ no_fault no_cut. reads_as a b (open_failed {T = T} (Err e)) (open_lost {T = T} (Err e)) reads (ap (λ (x : OpenError). open_failed {T = T} (Err x)) (sym is) ∙ no_fault) (ap (λ (x : OpenError). open_lost {T = T} (Err x)) (sym is) ∙ no_cut);
}

pub made_checkpoint : (g : Geometry) (a b : State) (loaded : Loaded) (parts new : Parts) (c : Ssc) → IsLoaded g a.contents.flash.page loaded → IsLoadedAs g loaded parts
    → new ≡ record parts { log = new.log } → new.log ≡ log_checkpointed parts.log → AddsCheckpoint parts.log parts.map.records a b
    → PoolStays parts.geometry a.contents.flash.page b.contents.flash.page → c.parts ≡ new → MadeCheckpoint g c a b
made_checkpoint g a b loaded parts new c is as_is same log adds pool own =
    let found : parts.log ≡ log_found g loaded.region is.newest.stamp.era = as_is.log ∙ ap (λ n. log_found g loaded.region n) (sym is.era) in
    let records : parts.map.records ≡ c.parts.map.records = sym (ap (λ (p : Parts). p.map.records) (own ∙ same)) in
    record {
      region = loaded.region;
      newest = is.newest;
      found = is.chosen;
      log = ap (λ (p : Parts). p.log) own ∙ log ∙ ap log_checkpointed found;
      adds = subst (λ (r : List Record). AddsCheckpoint (log_found g loaded.region is.newest.stamp.era) r a b) records (subst (λ (l : LogValue). AddsCheckpoint l parts.map.records a b) found adds);
      pool = subst (λ (h : Geometry). PoolStays h a.contents.flash.page b.contents.flash.page) as_is.geometry pool;
    }

-- no page of the log is used
pub full_room : (parts : Parts) (g : Geometry) → parts.geometry ≡ g → parts.log.next ≡ 0 → log_pages parts.geometry - parts.log.next ≡ log_pages g
full_room parts g same next = let pages : log_pages parts.geometry ≡ log_pages g = ap (λ (h : Geometry). log_pages h) same in omega arith

-- ---- an opening in two steps

module _ (g h : Geometry) (a m b : State) (same : h ≡ g) (reads : ReadsFlash a m false false) where
  pages : m.contents.flash.page ≡ a.contents.flash.page
  pages = ap (λ (k : Contents). k.flash.page) reads.contents

  pub shape_read : FitsOn g a.contents.shape → FitsOn h m.contents.shape
  shape_read fits = subst (λ (n : Geometry). FitsOn n m.contents.shape) (sym same) (subst (λ (k : Contents). FitsOn g k.shape) (sym reads.contents) fits)

  pub loaded_read : (c : LoadedCache) → IsLoadedFrom g a.contents.flash.page c → IsLoadedFrom h m.contents.flash.page c
  loaded_read c is = subst (λ (n : Geometry). IsLoadedFrom n m.contents.flash.page c) (sym same) (subst (λ (page : Place → Page). IsLoadedFrom g page c) (sym pages) is)

  pub opened_read : (c : Ssc) → IsOpenedOver h m.contents.flash.page b.contents c → IsOpenedOver g a.contents.flash.page b.contents c
  opened_read c is = subst (λ (n : Geometry). IsOpenedOver n a.contents.flash.page b.contents c) same (subst (λ (page : Place → Page). IsOpenedOver h page b.contents c) pages is)

  pub stands_read : StandsStill h m.contents.flash.page b.contents → StandsStill g a.contents.flash.page b.contents
  stands_read is = subst (λ (n : Geometry). StandsStill n a.contents.flash.page b.contents) same (subst (λ (page : Place → Page). StandsStill h page b.contents) pages is)

  -- reads are not counted
  made_read : (c : Ssc) → MadeCheckpoint g c m b → MadeCheckpoint g c a b
  made_read c made = record {
    region = made.region;
    newest = made.newest;
    found = subst (λ (page : Place → Page). checkpoint_of g page ≡ Ok (made.region, made.newest)) pages made.found;
    log = made.log;
    adds = record {
      spares = made.adds.spares;
      counts = made.adds.counts ∙ ap (λ (k : Counts). checkpoint_counted g (map_pages g c.parts.map.records) k) reads.counts;
    };
    pool = subst (λ (page : Place → Page). PoolStays g page b.contents.flash.page) pages made.pool;
  }

  programs_read : ProgramsPages 1 m b → ProgramsPages 1 a b
  programs_read programs = record {
    count = subst (λ (k : Counts). Rose k.programs b.counts.programs) reads.counts programs.count;
    spends = spends_after a m b 1 reads.passes programs.spends;
  }

  costs_same : (r : Result Ssc OpenError) → IfErr r IsOfFlash → CostsOpening g m b r → CostsOpening g a b r
  costs_same (Ok c) of costs = record { made = made_read c costs.made; programs = programs_read costs.programs; refused = tt }
  costs_same (Err FlashFault) of costs = record { made = tt; programs = tt; refused = λ no_fault no_cut. absurd (false≢true (sym no_fault)) }
  costs_same (Err PowerLost) of costs = record { made = tt; programs = tt; refused = λ no_fault no_cut. absurd (false≢true (sym no_cut)) }
  costs_same (Err NotFormatted) of costs = absurd of
  costs_same (Err (OtherGeometry found wanted)) of costs = absurd of
  costs_same (Err (Damaged block page)) of costs = absurd of
  costs_same (Err DiskFault) of costs = absurd of
  costs_same (Err OutOfMemory) of costs = absurd of

  pub costs_read : (r : Result Ssc OpenError) → IfErr r IsOfFlash → CostsOpening h m b r → CostsOpening g a b r
  costs_read r of costs = costs_same r of (subst (λ (n : Geometry). CostsOpening n m b r) same costs)

-- an error of the flash, or of power, comes by itself
pub refused_flash : {A : Type 0} (g : Geometry) (loads : Result A Refusal) (r : Result Ssc OpenError) → IfErr r IsOfFlash → IfErr r (λ e. IsRefusal g e loads)
refused_flash g loads (Ok c) of = tt
refused_flash g loads (Err FlashFault) of = tt
refused_flash g loads (Err PowerLost) of = tt
refused_flash g loads (Err NotFormatted) of = absurd of
refused_flash g loads (Err (OtherGeometry found wanted)) of = absurd of
refused_flash g loads (Err (Damaged block page)) of = absurd of
refused_flash g loads (Err DiskFault) of = absurd of
refused_flash g loads (Err OutOfMemory) of = absurd of

-- the list for which the flash stands is dirty at the addresses at which the entries are
pub loaded_alike : (g : Geometry) (page : Place → Page) (m : Entries) (s : CacheList) → load g page ≡ Ok m → FlashStandsFor g page s → (a : ℕ) → option_map (λ (h : Held). h.dirty) (get s a) ≡ option_map (λ (e : Entry). e.dirty) (get m a)
loaded_alike g page m s loads stands a = by (get m a) refl
  where
    on : IsListOn page m s
    on = subst (λ (n : Entries). IsListOn page n s) (loaded_durable g page s stands m loads) stands.held

    by : (o : Option Entry) → get m a ≡ o → option_map (λ (h : Held). h.dirty) (get s a) ≡ option_map (λ (e : Entry). e.dirty) o
    by None is = ap (option_map (λ (h : Held). h.dirty)) (on a ∙ ap (option_and_then (held_at page)) is)
    by (Some e) is = let h = whole_held page e (entry_whole g page m loads a e is) in ap (option_map (λ (k : Held). k.dirty)) (on a ∙ ap (option_and_then (held_at page)) is ∙ h.1) ∙ ap Some h.2

-- ---- an empty map

pub stands_empty : (g : Geometry) (page : Place → Page) → load g page ≡ Ok no_entries → FlashStandsFor g page empty
stands_empty g page loads = record { loaded = no_entries; loads = loads; held = λ a. get-empty nat_cmp a ∙ sym (ap (option_and_then (held_at page)) (get-empty nat_cmp a)) }
