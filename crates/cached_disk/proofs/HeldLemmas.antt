-- The media that the volume leaves while it is up, and once it is down.
use Rattle.std.proofs.Common.{◌≡◌, ◌⊎◌, ℕ, ◌<◌, ◌==◌, Bool, true, false, cond, map, List, [], ◌∷◌, ◌++◌, Option, Some, None, inl, inr, refl, sym, ◌∙◌, ap, ap₂, subst}
use Rattle.std.specs.List.{AllByRecursion, list_any}
use Rattle.std.specs.FinMap.{get}
use Rattle.std.proofs.lemmas.Bool.{both_ways, false≢true, or_parts, or_right}
use Rattle.ft_base.specs.declared.block.Block.{Block}
use Rattle.ft_base.specs.declared.block.Page.{Page}
use Rattle.ft_base.specs.declared.block.Place.{Place}
use Rattle.ft_base.specs.declared.geometry.Geometry.{Geometry}
use Rattle.ft_base.specs.declared.told.Mode.{Mode}
use Rattle.ft_base.specs.declared.told.Mode.TheVariants.{Back, Through}
use Rattle.ft_base.specs.Contents.{Contents, Flash, HasValue, Shape, Values, set}
use Rattle.ft_base.specs.PlainDisk.{BlockWrite, PlainDisk, after_writes}
use Rattle.ft_base.proofs.Images.{set_here, value_image, with_value}
use Rattle.ft_media.specs.Media.{Crashed, DiskStays}
use Rattle.ft_volume.specs.Opening.{ImageIs, Suits}
use Rattle.ft_volume.specs.Volume.{StandForAny, StandForOneOf}
use Rattle.ft_volume.specs.Standing.{StandFor}
use Rattle.cache_model.specs.Cache.{Buffered, Inserted, Cleaned, Written, ShowEach, ShowsClean, is_write, owed_of, taken_back, undo}
use Rattle.cache_model.specs.CacheList.{Agrees, CacheList, Held, held_or, vol}
use Rattle.cache_model.specs.Stands.{FlashStandsFor}
use Rattle.cache_model.proofs.CountLemmas.{taken}
use Rattle.cache_model.proofs.UndoLemmas.{back_at, get_undo, owed_none, owed_over, undo_own, undone_at}
use Rattle.op_log.specs.Log.{FitsOn}
use Rattle.ssc.specs.declared.cache.Ssc.{Ssc}
use Rattle.ssc.specs.CacheState.{Holds, HoldsBeside, IsUp, geometry_of, pending, shaped}
use Rattle.ssc.specs.Commands.{ReadOf}
use Rattle.ssc.proofs.HoldsLemmas.{same_waiting}
use Rattle.cached_disk.specs.declared.disk.CachedDisk.{CachedDisk}
use Rattle.cached_disk.specs.Kept.{EachAgrees, IsBeneath, IsDirtyIn, IsHeld, IsInserted, IsLeft, MayUndo, is_down, told_of}
use Rattle.cached_disk.proofs.DiskLemmas.{Had, IsOver, agrees_fewer, one_of_any, over_fewer, over_stands, stands_over}
use Rattle.cached_disk.proofs.StepLemmas.{over_same, undo_agrees, undo_dirty, undo_same}

-- ---- the list that the cache holds doesn't depend on the disk

holds_beside : (c : Ssc) (old : Contents) (disk : ℕ → Values) (s : CacheList) (h : Holds c old s) → HoldsBeside c (record old { disk = disk }) s h.waiting
holds_beside c old disk s holds =
    let sound = holds.agree.sound in
    record {
      holds = record {
        agree = record {
          sound = record { of_one = sound.of_one; shape = sound.shape; current = sound.current; whole = sound.whole; roles = sound.roles; log_blocks = sound.log_blocks; open_block = sound.open_block };
          open_log = holds.agree.open_log;
        };
        waiting = holds.waiting;
        shapes = holds.shapes;
        kinds = holds.kinds;
        lists = holds.lists;
        waits = holds.waits;
        memory = holds.memory;
        few = holds.few;
        places = holds.places;
      };
      same = refl;
    }

pub beside_over : (c : Ssc) (old new : Contents) (s : CacheList) → new.flash ≡ old.flash → new.shape ≡ old.shape → (h : Holds c old s) → HoldsBeside c new s h.waiting
beside_over c old new s flash shape h =
    let same : new ≡ record old { disk = new.disk } = ap₂ (λ (x : Shape) (f : Flash). record { shape = x; flash = f; disk = new.disk }) shape flash in
    subst (λ (x : Contents). HoldsBeside c x s h.waiting) (sym same) (holds_beside c old new.disk s h)

pub holds_over : (c : Ssc) (old new : Contents) (s : CacheList) → new.flash ≡ old.flash → new.shape ≡ old.shape → Holds c old s → Holds c new s
holds_over c old new s flash shape h = (beside_over c old new s flash shape h).holds

-- flash that stands for a list by the cache's geometry does so by the options' geometry, if they are equal
pub own_flash : (v : CachedDisk) → geometry_of v.cache ≡ v.options.geometry → (page : Place → Page) (list : CacheList) → FlashStandsFor (geometry_of v.cache) page list → FlashStandsFor v.options.geometry page list
own_flash v own page list stands = subst (λ (g : Geometry). FlashStandsFor g page list) own stands

-- ---- marks that suit the mode

-- each block is clean, or was there before
pub suits_less : (mode : Mode) (s t : CacheList) → Suits mode s → ((a : ℕ) (h : Held) → get t a ≡ Some h → (h.dirty ≡ false) ⊎ (get s a ≡ Some h)) → Suits mode t
suits_less Back s t suits from = tt
suits_less Through s t suits from = λ a h at. elim (from a h at) [ inl clean ↦ clean | inr was ↦ suits a h was ]

-- a change that only brought a clean block is undone without a mark
module _ (a : ℕ) (h : Held) where
  back_was : (x : Buffered) → IsInserted x → (o : Option Held) → back_at x a o ≡ Some h → o ≡ Some h
  back_was (Inserted k) is o at = taken (a == k) o h at
  back_was (Cleaned k) is o at = absurd is
  back_was (Written k old) is o at = absurd is

  undone_was : (q : List Buffered) → AllByRecursion IsInserted q → (o : Option Held) → undone_at q a o ≡ Some h → o ≡ Some h
  undone_was [] all o at = at
  undone_was (x ∷ q) all o at = undone_was q all.1 o (back_was x all.0 (undone_at q a o) at)

pub suits_undone : (mode : Mode) (q : List Buffered) (s : CacheList) → (mode ≡ Through → AllByRecursion IsInserted q) → Suits mode s → Suits mode (undo q s)
suits_undone Back q s may suits = tt
suits_undone Through q s may suits = λ a h at. suits a h (undone_was a h q (may refl) (get s a) (sym (get_undo q s a) ∙ at))

-- ---- at each command that is buffered

-- the newest list agrees
pub last_agrees : (q : List Buffered) (s : CacheList) (disk : ℕ → Values) → EachAgrees q s disk → Agrees s disk
last_agrees [] s disk each = each
last_agrees (b ∷ q) s disk each = last_agrees q s disk each.1

-- so does the oldest one
pub first_agrees : (q : List Buffered) (s : CacheList) (disk : ℕ → Values) → EachAgrees q s disk → Agrees (undo q s) disk
first_agrees [] s disk each = each
first_agrees (b ∷ q) s disk each = each.0

-- one more command is buffered
pub agrees_push : (q : List Buffered) (own : Buffered) (s s' : CacheList) (disk : ℕ → Values) → taken_back own s' ≡ s → Agrees s' disk → EachAgrees q s disk → EachAgrees (q ++ own ∷ []) s' disk
agrees_push [] own s s' disk back agrees each = (subst (λ (t : CacheList). Agrees t disk) (sym back) each, agrees)
agrees_push (b ∷ q) own s s' disk back agrees each = (subst (λ (t : CacheList). Agrees t disk) (sym (undo_own (b ∷ q) own s s' back)) each.0, agrees_push q own s s' disk back agrees each.1)

pub each_fewer : (q : List Buffered) (s : CacheList) (old new : ℕ → Values) → Had old new → EachAgrees q s old → EachAgrees q s new
each_fewer [] s old new had each = agrees_fewer s old new had each
each_fewer (b ∷ q) s old new had each = (agrees_fewer (undo (b ∷ q) s) old new had each.0, each_fewer q s old new had each.1)

-- if no write waits, the older lists agree with the newest one
pub each_agrees : (q : List Buffered) (s : CacheList) (disk : ℕ → Values) → list_any is_write q ≡ false → Agrees s disk → EachAgrees q s disk
each_agrees [] s disk none agrees = agrees
each_agrees (b ∷ q) s disk none agrees =
    let p = or_parts (is_write b) (list_any is_write q) none in
    (undo_agrees disk s agrees (b ∷ q) none, each_agrees q s disk p.1 agrees)

pub held_agrees : (v : CachedDisk) (contents : Contents) (s : CacheList) → IsHeld v contents s → Agrees s contents.disk
held_agrees v contents s is = last_agrees is.holds.waiting s contents.disk is.agrees

-- over one value for each block of the disk
shows_one : (s : CacheList) (disk : ℕ → Values) (block : ℕ → Block) → ((a : ℕ) → HasValue (disk a) (block a)) → Agrees s disk → ShowsClean s block
shows_one s disk block has agrees a h at clean = agrees a h (block a) at clean (has a)

shows_each : (q : List Buffered) (s : CacheList) (disk : ℕ → Values) (block : ℕ → Block) → ((a : ℕ) → HasValue (disk a) (block a)) → EachAgrees q s disk → ShowEach q s block
shows_each [] s disk block has each = shows_one s disk block has each
shows_each (b ∷ q) s disk block has each = (shows_one (undo (b ∷ q) s) disk block has each.0, shows_each q s disk block has each.1)

-- the commands that wait are of the same kinds as the log's changes
inserted_shaped : (q : List Buffered) → AllByRecursion IsInserted (map shaped q) → AllByRecursion IsInserted q
inserted_shaped [] all = tt
inserted_shaped (Inserted a ∷ q) all = (tt, inserted_shaped q all.1)
inserted_shaped (Cleaned a ∷ q) all = absurd all.0
inserted_shaped (Written a old ∷ q) all = absurd all.0

inserted_none : (q : List Buffered) → AllByRecursion IsInserted q → list_any is_write q ≡ false
inserted_none [] all = refl
inserted_none (Inserted a ∷ q) all = inserted_none q all.1
inserted_none (Cleaned a ∷ q) all = absurd all.0
inserted_none (Written a old ∷ q) all = absurd all.0

-- if the volume writes through, no write waits
pub through_none : (v : CachedDisk) → v.mode ≡ Through → MayUndo (told_of v) (pending v.cache) → list_any is_write (pending v.cache) ≡ false
through_none v through may = inserted_none (pending v.cache) (may.through through)

-- no write waits in the log, so none waits beside the list
pub none_later : (v : CachedDisk) → list_any is_write (pending v.cache) ≡ false → (contents : Contents) (s : CacheList) (h : Holds v.cache contents s) → (h.waiting ≡ pending v.cache) × (list_any is_write h.waiting ≡ false)
none_later v none contents s h =
    let same = same_waiting v.cache contents s h none in
    (same, ap (list_any is_write) same ∙ none)

-- if no write waits, the newest list says all
pub held_no_write : (v : CachedDisk) (contents : Contents) (s : CacheList) → list_any is_write (pending v.cache) ≡ false → Holds v.cache contents s → Agrees s contents.disk → ((a : ℕ) → ((contents.disk a).earlier ≡ []) ⊎ IsDirtyIn s a) → Suits v.mode s → MayUndo (told_of v) (pending v.cache) → IsHeld v contents s
held_no_write v contents s no_write h agrees settled suits may =
    let none = (none_later v no_write contents s h).1 in
    record {
      holds = h;
      agrees = each_agrees h.waiting s contents.disk none agrees;
      settled = settled;
      beneath = λ a. elim (settled a) [ inl alone ↦ inl alone | inr dirty ↦ inr (undo_dirty (geometry_of v.cache) h.waiting s none h.waits a dirty) ];
      suits = suits;
      may_undo = may;
    }

-- ---- while the volume is up

-- once the cache is given up, the volume is down
pub stopped_down : (v : CachedDisk) (c : Ssc) → c.stopped ≡ true → is_down (record v { cache = c }) ≡ true
stopped_down v c stopped = or_right v.down c.stopped stopped

pub goes_on : (v : CachedDisk) → is_down v ≡ false → (v.down ≡ false) × (v.cache.stopped ≡ false)
goes_on v up = or_parts v.down v.cache.stopped up

-- below the size, a plain disk under the same writes
pub after_at : (ws : List BlockWrite) (d e : PlainDisk) (x : ℕ) → d x ≡ e x → after_writes ws d x ≡ after_writes ws e x
after_at [] d e x same = same
after_at (w ∷ ws) d e x same = after_at ws (set d w.lba w.block) (set e w.lba w.block) x (ap (λ (b : Block). cond (w.lba == x) w.block b) same)

-- the volume holds a list: then a crash leaves that list without the buffered changes. The plain disk of the first is
-- the second's after the owed writes
module _ (v : CachedDisk) (contents : Contents) (s : CacheList) (own : geometry_of v.cache ≡ v.options.geometry) (is : IsHeld v contents s) where
  abbrev pub undone : CacheList
  undone = undo is.holds.waiting s

  abbrev pub owed_now : List BlockWrite
  owed_now = owed_of is.holds.waiting s

  pub undone_stands : FlashStandsFor v.options.geometry contents.flash.page undone
  undone_stands = subst (λ (g : Geometry). FlashStandsFor g contents.flash.page undone) own is.holds.lists.stands

  pub held_beneath : IsBeneath (told_of v) contents undone
  held_beneath = record {
    flash = undone_stands;
    agrees = first_agrees is.holds.waiting s contents.disk is.agrees;
    suits = suits_undone v.mode is.holds.waiting s (λ t. inserted_shaped is.holds.waiting (subst (AllByRecursion IsInserted) (sym is.holds.shapes) (is.may_undo.through t))) is.suits;
  }

  pub held_left : FitsOn v.options.geometry contents.shape → IsLeft v contents
  held_left shape = record { own = own; shape = shape; list = undone; beneath = held_beneath; held = s; up = λ up. is }

  pub base_over : (d : PlainDisk) → StandFor (ImageIs (told_of v)) contents d → IsOver v.options.geometry undone contents.disk d
  base_over d stand = stands_over (told_of v) contents undone undone_stands d stand

  pub base_stands : (d : PlainDisk) → IsOver v.options.geometry undone contents.disk d → StandFor (ImageIs (told_of v)) contents d
  base_stands d over = over_stands (told_of v) contents undone held_beneath d over

  -- the list that it holds is the plain disk for which the media stand, after the owed writes
  pub held_over : (d : PlainDisk) → StandFor (ImageIs (told_of v)) contents d → IsOver v.options.geometry s contents.disk (after_writes owed_now d)
  held_over d stand a within b has =
      let now = value_image contents a b has in
      let block = (with_value contents a b).block in
      ap (λ (x : Block). held_or (get s a) x) (sym (set_here (λ k. (contents.disk k).newest) a b))
      ∙ sym (owed_over is.holds.waiting s block is.holds.waits.left (shows_each is.holds.waiting s contents.disk block now.blocks is.agrees) a)
      ∙ after_at owed_now (vol undone block) d a (base_over d stand a within (block a) (now.blocks a))

  -- it is one of several that were possible
  pub one_held : (bases : List PlainDisk) → StandForAny (ImageIs (told_of v)) contents bases → StandForOneOf (ImageIs (told_of v)) contents bases
  one_held = one_of_any (told_of v) contents undone held_beneath (λ a. elim (is.beneath a) [ inl none ↦ inl none | inr dirty ↦ inr (dirty.0, dirty.1) ])

  -- ---- reads

  pub found_held : (lba : ℕ) (b : Block) → lba < v.options.geometry.size → ReadOf (get s lba) true b → (d : PlainDisk) → StandFor (ImageIs (told_of v)) contents d → b ≡ after_writes owed_now d lba
  found_held lba b within read d stand = by_held (get s lba) read ∙ held_over d stand lba within (contents.disk lba).newest (inl refl)
    where
      by_held : (o : Option Held) → ReadOf o true b → b ≡ held_or o (contents.disk lba).newest
      by_held None read = absurd (false≢true (sym read))
      by_held (Some h) read = read.1

  pub found_absent : (lba : ℕ) → lba < v.options.geometry.size → get s lba ≡ None → (d : PlainDisk) → StandFor (ImageIs (told_of v)) contents d → (contents.disk lba).newest ≡ after_writes owed_now d lba
  found_absent lba within none d stand = sym (ap (λ (o : Option Held). held_or o (contents.disk lba).newest) none) ∙ held_over d stand lba within (contents.disk lba).newest (inl refl)

  -- ---- if no write waits, both are one plain disk

  module _ (no_write : list_any is_write (pending v.cache) ≡ false) where
    none_waits : list_any is_write is.holds.waiting ≡ false
    none_waits = (none_later v no_write contents s is.holds).1

    pub nothing_owed : owed_now ≡ []
    nothing_owed = owed_none is.holds.waiting s none_waits

    pub undone_over : (d : PlainDisk) → IsOver v.options.geometry s contents.disk d → IsOver v.options.geometry undone contents.disk d
    undone_over d over = over_same v.options.geometry contents.disk s undone d (undo_same contents.disk s (held_agrees v contents s is) (geometry_of v.cache) is.holds.waiting none_waits is.holds.waits) over

    pub same_over : (d : PlainDisk) → StandFor (ImageIs (told_of v)) contents d → IsOver v.options.geometry s contents.disk d
    same_over d stand = subst (λ (ws : List BlockWrite). IsOver v.options.geometry s contents.disk (after_writes ws d)) nothing_owed (held_over d stand)

    pub same_stands : (d : PlainDisk) → IsOver v.options.geometry s contents.disk d → StandFor (ImageIs (told_of v)) contents d
    same_stands d over = base_stands d (undone_over d over)

pub is_up : (v : CachedDisk) (contents : Contents) (s : CacheList) → is_down v ≡ false → IsHeld v contents s → IsUp v.cache contents
is_up v contents s up is = record { list = s; holds = is.holds; up = (goes_on v up).1 }

-- a read of an address that isn't held finds nothing
pub read_absent : (o : Option Held) (b : Block) → ReadOf o false b → o ≡ None
read_absent None b read = refl
read_absent (Some h) b read = absurd (false≢true read.0)

-- ---- once the volume is down

-- a crash leaves this list
pub down_left : (v : CachedDisk) (contents : Contents) (s : CacheList) → geometry_of v.cache ≡ v.options.geometry → FitsOn v.options.geometry contents.shape → is_down v ≡ true → IsBeneath (told_of v) contents s → IsLeft v contents
down_left v contents s own shape down beneath = record { own = own; shape = shape; list = s; beneath = beneath; held = s; up = λ up. absurd (both_ways (is_down v) up down) }

-- the cache and the contents are unchanged
pub left_same : (v : CachedDisk) (c : Ssc) (old new : Contents) → c ≡ v.cache → new ≡ old → IsLeft v old → IsLeft (record v { cache = c }) new
left_same v c old new same contents left = subst (λ (k : Ssc). IsLeft (record v { cache = k }) new) (sym same) (subst (λ (x : Contents). IsLeft v x) (sym contents) left)

-- ---- a step of the flash

-- the disk shows nothing new, and blocks that waited for no flush still wait for none
pub record Stays (old new : Contents) : Type 0 where
  pub had : Had old.disk new.disk
  pub settled : (a : ℕ) → (old.disk a).earlier ≡ [] → (new.disk a).earlier ≡ []

pub drove : (old new : Contents) (l : Bool) → DiskStays old new l → (l ≡ true → Crashed new) → Stays old new
drove old new true stays crash = record { had = stays.values; settled = λ a none. (crash refl).alone a }
drove old new false stays crash = record { had = stays.values; settled = λ a none. ap (λ (f : ℕ → Values). (f a).earlier) (stays.stays refl) ∙ none }

module _ (v : CachedDisk) (c : Ssc) (old new : Contents) (stays : Stays old new) where
  abbrev pub stepped : CachedDisk
  stepped = record v { cache = c }

  module _ (s t : CacheList) (agrees : Agrees t old.disk) (suits : Suits v.mode t) where
    -- the call failed: the flash stands for this list
    pub step_beneath : FlashStandsFor v.options.geometry new.flash.page t → IsBeneath (told_of v) new t
    step_beneath stands = record { flash = stands; agrees = agrees_fewer t old.disk new.disk stays.had agrees; suits = suits }

    -- the call was done: the cache holds this list
    pub step_held : list_any is_write (pending c) ≡ false → IsHeld v old s → Holds c new t → ((a : ℕ) → IsDirtyIn s a → IsDirtyIn t a) → MayUndo (told_of v) (pending c) → IsHeld stepped new t
    step_held no_write is holds keeps may = held_no_write stepped new t no_write holds (agrees_fewer t old.disk new.disk stays.had agrees)
        (λ a. elim (is.settled a) [ inl none ↦ inl (stays.settled a none) | inr dirty ↦ inr (keeps a dirty) ]) suits may

  -- the plain disk over fewer values
  pub step_over : (t : CacheList) (d : PlainDisk) → IsOver v.options.geometry t old.disk d → IsOver v.options.geometry t new.disk d
  step_over t d over = over_fewer v.options.geometry t old.disk new.disk d stays.had over
