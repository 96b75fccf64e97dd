-- A volume over a cache that was just opened.
use Rattle.std.proofs.Common.{◌≡◌, ℕ, ◌<◌, ◌-◌, ◌||◌, length, Bool, true, false, List, [], Option, Some, None, Result, Ok, Err, inl, inr, refl, sym, ◌∙◌, ap, ap₂, subst, nat_cmp}
use Rattle.std.specs.Prelude.{OnOk}
use Rattle.std.specs.FinMap.{get, get-empty}
use Rattle.std.specs.Option.{is_some}
use Rattle.std.proofs.lemmas.Bool.{both_ways, cases_Bool}
use Rattle.ft_base.specs.declared.block.Block.{Block}
use Rattle.ft_base.specs.declared.block.Place.{Place}
use Rattle.ft_base.specs.declared.block.Page.{Page}
use Rattle.ft_base.specs.declared.geometry.Geometry.{Geometry}
use Rattle.ft_base.specs.declared.power.Outcome.{Outcome}
use Rattle.ft_base.specs.declared.told.Mode.{Mode}
use Rattle.ft_base.specs.declared.told.Mode.TheVariants.{Back, Through}
use Rattle.ft_base.specs.Contents.{Contents, Shape, Values, HasValue}
use Rattle.ft_base.specs.Layout.{log_pages}
use Rattle.ft_base.specs.PlainDisk.{PlainDisk}
use Rattle.ft_base.specs.Table.{Table, table_of}
use Rattle.ft_base.specs.Told.{Told}
use Rattle.ft_media.specs.State.{State}
use Rattle.ft_media.specs.Rig.{Cut, powered}
use Rattle.ft_volume.specs.Opening.{ImageIs, IsOpened, Opens, Suits, nothing_held}
use Rattle.ft_volume.specs.Volume.{ComesUp, IsAny, IsFixed, StandForAny, StandForOneOf, VolumeState, dirty_lbas, fixes, opened_of, told_for}
use Rattle.ft_volume.specs.Standing.{StandFor}
use Rattle.ft_volume.specs.declared.options.Options.{Options}
use Rattle.ft_volume.specs.declared.volume.VolumeError.{VolumeError}
use Rattle.ft_volume.specs.declared.volume.VolumeError.TheVariants as volume
use Rattle.ft_volume.proofs.OpenedLemmas.{opened_down, opened_up}
use Rattle.ft_volume.proofs.UpLemmas.{any_map}
use Rattle.cache_model.specs.CacheList.{Agrees, CacheList, Held, held_or}
use Rattle.cache_model.specs.Loading.{load}
use Rattle.cache_model.specs.Records.{Entries}
use Rattle.cache_model.specs.Stands.{FlashStandsFor}
use Rattle.op_log.specs.Log.{FitsOn}
use Rattle.op_log.specs.declared.error.OpenError.{OpenError}
use Rattle.op_log.specs.declared.error.OpenError.TheVariants.{NotFormatted, OtherGeometry, Damaged, FlashFault, DiskFault, PowerLost, OutOfMemory}
use Rattle.op_log.specs.Refusals.{open_lost}
use Rattle.ssc.specs.CacheState.{Holds, entries_of, log_room, open_room, pending, waiting}
use Rattle.merge_engine.specs.declared.parts.Parts.{Parts}
use Rattle.ssc.specs.declared.cache.Ssc.{Ssc}
use Rattle.cached_disk.specs.declared.disk.CachedDisk.{CachedDisk}
use Rattle.cached_disk.specs.Errors.{IsOfOpening, disk_failed}
use Rattle.cached_disk.specs.Kept.{IsBeneath, IsDirtyIn, IsFresh, IsHeld, IsLeft, IsOpenCache, IsOrderOf, IsVolume, Loads, Reopens, dirty_of, is_down, state_in, told_of, waiting_in}
use Rattle.cached_disk.proofs.DiskLemmas.{agrees_fewer, any_left, one_left, one_value, over_stands}
use Rattle.cached_disk.proofs.HeldLemmas.{held_no_write, down_left}
use Rattle.std.specs.List.{list_any}
use Rattle.cache_model.specs.Cache.{is_write}
use Rattle.cached_disk.proofs.ReadLemmas.{may_none}
use Rattle.cached_disk.proofs.AddressLemmas.{holds_held, holds_lbas, holds_within, lbas_between, lbas_none}

module _ (v : CachedDisk) (old new : Contents) (s : CacheList) (cache : IsOpenCache v.options.geometry old new v.cache) (opens : Opens v.options.geometry old new false false) (stands : FlashStandsFor v.options.geometry old.flash.page s) where
  holds_now : Holds v.cache new s
  holds_now = cache.holds s stands

  pub alone_now : (a : ℕ) → (new.disk a).earlier ≡ []
  alone_now a = ap (λ (x : Values). x.earlier) (opens.flushed refl refl a)

  module _ (agrees : Agrees s old.disk) (suits : Suits v.mode s) where
    beneath_now : IsBeneath (told_of v) new s
    beneath_now = record { flash = opens.lists s stands; agrees = agrees_fewer s old.disk new.disk opens.values agrees; suits = suits }

    held_now : IsHeld v new s
    held_now = held_no_write v new s (ap (list_any is_write) cache.nothing_waits) holds_now beneath_now.agrees (λ a. inl (alone_now a)) suits (may_none (told_of v) (pending v.cache) cache.nothing_waits)

    pub opened_left : FitsOn v.options.geometry new.shape → IsLeft v new
    opened_left shape = record { own = cache.geometry; shape = shape; list = s; beneath = beneath_now; held = s; up = λ up. held_now }

    pub opened_stands : (d : PlainDisk) → IsVolume v.options.geometry s old d → StandFor (ImageIs (told_of v)) new d
    opened_stands d is = over_stands (told_of v) new s beneath_now d (λ a within b has. ap (λ (x : Block). held_or (get s a) x) (one_value (new.disk a) b (alone_now a) has ∙ ap (λ (x : Values). x.newest) (opens.flushed refl refl a)) ∙ is a within)

  within_now : (a : ℕ) (h : Held) → get s a ≡ Some h → a < v.options.geometry.size
  within_now a h at = subst (λ (g : Geometry). a < g.size) cache.geometry (holds_within v.cache new s holds_now a h at)

  pub opened_fresh : v.down ≡ false → IsFresh v.mode v.options s v
  opened_fresh not_cut = record {
    made = refl;
    written = refl;
    up = up_now;
    held = holds_held v.cache new s holds_now;
    dirty = holds_lbas v.cache new s holds_now ∙ sym (lbas_between s v.options.geometry.size within_now);
    log = cache.log;
    closed = cache.closed;
    nothing_waits = cache.nothing_waits;
  }
    where
      up_now : is_down v ≡ false
      up_now = let a = cache.goes in cc

-- the entries are the ones that the flash had, the log is empty, no log block is open, and nothing is buffered
pub opened_entries : (v : CachedDisk) (g : Geometry) (old new : Contents) → IsOpenCache g old new v.cache → (m : Entries) → load g old.flash.page ≡ Ok m → (entries_of v.cache ≡ m) × (log_room v.cache ≡ log_pages g) × (open_room v.cache ≡ 0) × (pending v.cache ≡ [])
opened_entries v g old new cache m loads =
    let same_load : Ok (entries_of v.cache) ≡ Ok m = sym cache.loads ∙ loads in
    let same : entries_of v.cache ≡ m = cc in
    (same, cache.log, cache.closed, cache.nothing_waits)

-- ---- over a flash that was formatted

pub none_agrees : (disk : ℕ → Values) → Agrees nothing_held disk
none_agrees disk a h b at clean has = absurd (let no : None ≡ Some h = sym (get-empty nat_cmp a) ∙ at in cc)

pub none_suits : (mode : Mode) → Suits mode nothing_held
none_suits Back = tt
none_suits Through = λ a h at. absurd (let no : None ≡ Some h = sym (get-empty nat_cmp a) ∙ at in cc)

-- the disk alone is the plain disk
pub empty_volume : (g : Geometry) (c c' : Contents) (d : PlainDisk) → ((a : ℕ) → c.disk a ≡ c'.disk a) → ((a : ℕ) → a < g.size → (c'.disk a).newest ≡ d a) → IsVolume g nothing_held c d
empty_volume g c c' d same is a within = ap (λ (o : Option Held). held_or o (c.disk a).newest) (get-empty nat_cmp a) ∙ ap (λ (x : Values). x.newest) (same a) ∙ is a within

-- ---- an opening that failed

-- a volume that is down stays down, over media that stand for the same plain disks
pub refused_left : (v : CachedDisk) (old new : Contents) (f l : Bool) → IsLeft v old → is_down v ≡ true → Opens v.options.geometry old new f l → new.shape ≡ old.shape → IsLeft v new
refused_left v old new f l left down opens shape =
    down_left v new left.list left.own (subst (λ (x : Shape). FitsOn v.options.geometry x) (sym shape) left.shape) down
    (record { flash = opens.lists left.list left.beneath.flash; agrees = agrees_fewer left.list old.disk new.disk opens.values left.beneath.agrees; suits = left.beneath.suits })

module _ (told : Told) (old new : Contents) where
  abbrev FixedBy : VolumeError → Type 0
  FixedBy r = (bases : List PlainDisk) → StandForAny (ImageIs told) old bases → IsFixed (ImageIs told) new (fixes {T = Unit {0}} (Err r)) bases

  pub refused_fixed : (e : OpenError) (r : VolumeError) → IsOfOpening e r → Opens told.geometry old new (disk_failed {T = Unit {0}} (Err e)) (open_lost {T = Unit {0}} (Err e)) → FixedBy r
  refused_fixed NotFormatted r is opens = absurd is
  refused_fixed (OtherGeometry found wanted) r is opens = absurd is
  refused_fixed (Damaged block page) r is opens = absurd is
  refused_fixed FlashFault r is opens = subst FixedBy (sym is) (any_left told old new opens.lists opens.values)
  refused_fixed DiskFault r is opens = subst FixedBy (sym is) (any_left told old new opens.lists opens.values)
  refused_fixed PowerLost r is opens = subst FixedBy (sym is) (one_left told old new opens.lists opens.values (opens.alone refl))
  refused_fixed OutOfMemory r is opens = subst FixedBy (sym is) (any_left told old new opens.lists opens.values)

-- ---- the volume is given up

pub given_up_left : (v : CachedDisk) (contents : Contents) → IsLeft v contents → IsLeft (record v { down = true }) contents
given_up_left v contents left = down_left (record v { down = true }) contents left.list left.own left.shape refl left.beneath

-- the volume is given up by a cut, after which power is on again
module _ (v : CachedDisk) (old off on : State) (outcome : Outcome) (left : IsLeft v old.contents) (cut : Cut old off outcome) (power : on ≡ powered off) where
  same_contents : on.contents ≡ off.contents
  same_contents = ap (λ (s : State). s.contents) power

  page_off : on.contents.flash.page ≡ old.contents.flash.page
  page_off = ap (λ (x : Contents). x.flash.page) same_contents ∙ cut.page

  lists_off : (g : Geometry) (s : CacheList) → FlashStandsFor g old.contents.flash.page s → FlashStandsFor g on.contents.flash.page s
  lists_off g s stands = subst (λ (f : Place → Page). FlashStandsFor g f s) (sym page_off) stands

  had_off : (a : ℕ) (b : Block) → HasValue (on.contents.disk a) b → HasValue (old.contents.disk a) b
  had_off a b has = cut.values a b (subst (λ (x : Contents). HasValue (x.disk a) b) same_contents has)

  pub left_off : IsLeft (record v { down = true }) on.contents
  left_off =
      down_left (record v { down = true }) on.contents left.list left.own
      (subst (λ (x : Shape). FitsOn v.options.geometry x) (sym (ap (λ (x : Contents). x.shape) same_contents ∙ cut.shape)) left.shape) refl
      (record { flash = lists_off v.options.geometry left.list left.beneath.flash; agrees = agrees_fewer left.list old.contents.disk on.contents.disk had_off left.beneath.agrees; suits = left.beneath.suits })

  pub one_off : (told : Told) (bases : List PlainDisk) → StandForAny (ImageIs told) old.contents bases → StandForOneOf (ImageIs told) on.contents bases
  one_off told = one_left told old.contents on.contents (lists_off told.geometry) had_off (λ a. ap (λ (x : Contents). (x.disk a).earlier) same_contents ∙ cut.crashed.alone a)

-- ---- the state of a volume once it is open

abbrev told_as : Told → Bool → (ℕ → Bool) → Table → ℕ → ℕ → ℕ → VolumeState
told_as told down held table room left buffered = record { told = told; down = down; owed = []; held = held; table = table; log_room = room; open_room = left; buffered = buffered }

same_told : (t u : Told) (d e : Bool) (h k : ℕ → Bool) (w x : Table) (m n o p b c : ℕ) → t ≡ u → d ≡ e → h ≡ k → w ≡ x → m ≡ n → o ≡ p → b ≡ c → told_as t d h w m o b ≡ told_as u e k x n p c
same_told t u d e h k w x m n o p b c told down held table room left buffered =
    ap (λ (y : Told). told_as y d h w m o b) told
    ∙ ap (λ (y : Bool). told_as u y h w m o b) down
    ∙ ap (λ (y : ℕ → Bool). told_as u e y w m o b) held
    ∙ ap (λ (y : Table). told_as u e k y m o b) table
    ∙ ap (λ (y : ℕ). told_as u e k x y o b) room
    ∙ ap (λ (y : ℕ). told_as u e k x n y b) left
    ∙ ap (λ (y : ℕ). told_as u e k x n p y) buffered

-- the memory of a write doesn't change that state
pub reserved_tells : (order : List ℕ) (v : CachedDisk) (k : Ssc) → k.parts ≡ record v.cache.parts { map = k.parts.map } → entries_of k ≡ entries_of v.cache → k.stopped ≡ v.cache.stopped → state_in order (record v { cache = k }) ≡ state_in order v
reserved_tells order v k parts entries stopped =
    same_told (told_of v) (told_of v) (v.down || k.stopped) (is_down v) (λ a. is_some (get (entries_of k) a)) (λ a. is_some (get (entries_of v.cache) a))
    (waiting_in v.options.geometry.p order (dirty_lbas (entries_of k))) (waiting_in v.options.geometry.p order (dirty_of v)) (log_room k) (log_room v.cache) (open_room k) (open_room v.cache) (length (pending k)) (length (pending v.cache))
    refl (ap (λ (b : Bool). v.down || b) stopped) (ap (λ (m : Entries). λ (a : ℕ). is_some (get m a)) entries) (ap (λ (m : Entries). waiting_in v.options.geometry.p order (dirty_lbas m)) entries)
    (ap (λ (p : Parts). log_pages p.geometry - p.log.next) parts) (ap (λ (p : Parts). p.log_blocks.room) parts) (ap (λ (p : Parts). length (waiting p.log.buffered)) parts)

-- if the volume was down, its state comes from the flash
module _ (old new : CachedDisk) (was is : List ℕ) (m : Entries) where
  pub tells_opened : is_down old ≡ true → new.options ≡ old.options → new.mode ≡ old.mode → is_down new ≡ false → entries_of new.cache ≡ m → log_room new.cache ≡ log_pages old.options.geometry → open_room new.cache ≡ 0 → pending new.cache ≡ [] → IsOrderOf is new → state_in is new ≡ opened_of (state_in was old) m
  tells_opened down options mode up has room closed none order =
      let told : told_of new ≡ told_of old = ap₂ told_for mode options in
      let held : (λ (a : ℕ). is_some (get (entries_of new.cache) a)) ≡ (λ (a : ℕ). is_some (get m a)) = ap (λ (n : Entries). λ (a : ℕ). is_some (get n a)) has in
      let table : (state_in is new).table ≡ table_of old.options.geometry.p [] (dirty_lbas m) = order ∙ ap₂ (λ (o : Options) (n : Entries). table_of o.geometry.p [] (dirty_lbas n)) options has in
      same_told (told_of new) (told_of old) (is_down new) false (state_in is new).held (λ a. is_some (get m a)) (state_in is new).table (table_of old.options.geometry.p [] (dirty_lbas m)) (log_room new.cache) (log_pages old.options.geometry) (open_room new.cache) 0 (length (pending new.cache)) 0 told up held table room closed (ap length none)
      ∙ sym (opened_down (state_in was old) m down)

-- the volume comes up as a volume does, if its dirty groups stand in an order that suits
module _ {T : Type 0} (old new : CachedDisk) (was is : List ℕ) (before after : State) where
  opens_as : (r : Result T VolumeError) → Reopens old new before after r → (is_down old ≡ false → is ≡ was) → (is_down old ≡ true → OnOk r (IsOrderOf is new)) → OnOk r ((m : Entries) → Loads (told_of old) before.contents.flash.page m → state_in is new ≡ opened_of (state_in was old) m)
  opens_as (Err e) reopens same order = tt
  opens_as (Ok value) reopens same order = λ m loads. elim (cases_Bool (is_down old)) [
    | inl down ↦ let has = reopens.opens down m loads in tells_opened old new was is m down reopens.made.0 reopens.made.1 reopens.up has.0 has.1 has.2 has.3 (order down)
    | inr up ↦ ap₂ state_in (same up) (reopens.same up).0 ∙ sym (opened_up (state_in was old) m up)
  ]

  pub comes_up : (result : Result T VolumeError) → Reopens old new before after result → (is_down old ≡ false → is ≡ was) → (is_down old ≡ true → OnOk result (IsOrderOf is new)) → ComesUp ImageIs Loads (state_in was old) (state_in is new) before after result
  comes_up result reopens same order =
      let told : told_of new ≡ told_of old = ap₂ told_for reopens.made.1 reopens.made.0 in
      record {
        told = told;
        owed = refl;
        same = λ up. (ap₂ state_in (same up) (reopens.same up).0, (reopens.same up).1);
        up = reopens.up;
        opens = opens_as result reopens same order;
        refused = reopens.refused;
        disk_reads = reopens.disk_reads;
        disk_writes = reopens.disk_writes;
        disk_flushes = reopens.disk_flushes;
        fixed = λ bases any. subst (λ (t : Told). IsFixed (ImageIs t) after.contents (fixes result) bases) (sym told) (reopens.fixed bases any);
        ready = reopens.ready;
        within = reopens.within;
        cause = reopens.cause;
        passes = reopens.passes;
      }

-- the memory of a manager's table was refused after the volume came up, so the volume is given up again
module _ {S T : Type 0} (old new : CachedDisk) (was is : List ℕ) (before after : State) (value : S) where
  pub refused_memory : Reopens {T = S} old new before after (Ok value) → is_down old ≡ true → ComesUp {T = T} ImageIs Loads (state_in was old) (state_in is (record new { down = true })) before after (Err volume.OutOfMemory)
  refused_memory reopens down =
      let told : told_of new ≡ told_of old = ap₂ told_for reopens.made.1 reopens.made.0 in
      record {
        told = told;
        owed = refl;
        same = λ up. absurd (both_ways (is_down old) up down);
        up = tt;
        opens = tt;
        refused = (down, refl);
        disk_reads = reopens.disk_reads;
        disk_writes = reopens.disk_writes;
        disk_flushes = reopens.disk_flushes;
        fixed = λ bases any x now. subst (λ (t : Told). IsAny (ImageIs t x) bases) (sym told) (any_map (StandFor (ImageIs (told_of old)) after.contents) (ImageIs (told_of old) x) (λ d stand. stand x now) bases (reopens.fixed bases any));
        ready = tt;
        within = λ is. absurd (cc);
        cause = record {
          flash = reopens.cause.flash;
          disk = reopens.cause.disk;
          cuts = reopens.cause.cuts;
          flash_fault = λ is. absurd (cc);
          disk_fault = λ is. absurd (cc);
          power_lost = λ is. absurd (cc);
          none = λ no. reopens.cause.none refl;
        };
        passes = reopens.passes;
      }

-- ---- a volume that was just made

pub fresh_opened : (mode : Mode) (options : Options) (s : CacheList) (is : List ℕ) (v : CachedDisk) → IsFresh mode options s v → IsOrderOf is v → IsOpened (told_for mode options) s (state_in is v)
fresh_opened mode options s is v fresh order = record {
  told = ap₂ told_for fresh.written fresh.made;
  up = fresh.up;
  owed = refl;
  held = fresh.held;
  table = order ∙ ap₂ (λ (o : Options) (lbas : List ℕ). table_of o.geometry.p [] lbas) fresh.made fresh.dirty;
  log_room = fresh.log;
  open_room = fresh.closed;
  buffered = ap length fresh.nothing_waits;
}

-- ---- if the volume writes through

pub nothing_dirty : (v : CachedDisk) (contents : Contents) (s : CacheList) → v.mode ≡ Through → IsHeld v contents s → dirty_of v ≡ []
nothing_dirty v contents s through is = holds_lbas v.cache contents s is.holds ∙ lbas_none s none
  where
    clean : Suits Through s
    clean = subst (λ (mode : Mode). Suits mode s) through is.suits

    none : (a : ℕ) → IsDirtyIn s a → ⊥
    none a dirty = both_ways dirty.0.dirty (clean a dirty.0 dirty.1) dirty.2

pub no_order : (v : CachedDisk) → dirty_of v ≡ [] → IsOrderOf [] v
no_order v none = sym (ap (λ (lbas : List ℕ). table_of v.options.geometry.p [] lbas) none)

-- so no group is listed once the volume is up
pub order_through : {T : Type 0} (result : Result T VolumeError) (v : CachedDisk) (contents : Contents) → v.mode ≡ Through → IsLeft v contents → OnOk result (is_down v ≡ false) → OnOk result (IsOrderOf [] v)
order_through (Ok value) v contents through left up = no_order v (nothing_dirty v contents left.held through (left.up up))
order_through (Err e) v contents through left up = tt
