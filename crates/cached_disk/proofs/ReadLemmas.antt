-- A step that keeps the plain disk: a commit, and a block that comes clean from the disk.
use Rattle.std.proofs.Common.{◌≡◌, ◌⊎◌, ℕ, ◌-◌, ◌*◌, ◌^◌, ◌<◌, ◌≤◌, ◌||◌, nat_le, Bool, true, false, cond, List, [], ◌∷◌, ◌++◌, Option, Some, None, Result, Ok, Err, inl, inr, refl, sym, ◌∙◌, ap, subst, arith}
use Rattle.std.specs.List.{AllByRecursion, list_any}
use Rattle.std.specs.FinMap.{get}
use Rattle.std.specs.Option.{is_some}
use Rattle.std.specs.Prelude.{OnOk, is_err}
use Rattle.std.proofs.lemmas.Bool.{false≢true, le-leb, lt-leb, or_parts}
use Rattle.std.proofs.lemmas.Nat.{mul-le}
use Rattle.ft_base.specs.declared.block.Block.{Block}
use Rattle.ft_base.specs.declared.block.Place.{Place}
use Rattle.ft_base.specs.declared.block.Page.{Page}
use Rattle.ft_base.specs.declared.geometry.Geometry.{Geometry}
use Rattle.ft_base.specs.Told.{Told}
use Rattle.ft_base.specs.Contents.{Contents, HasValue, Shape}
use Rattle.ft_base.specs.Layout.{log_pages}
use Rattle.ft_base.specs.PlainDisk.{BlockWrite, PlainDisk, after_writes}
use Rattle.ft_media.specs.State.{State}
use Rattle.ft_media.specs.Drives.{DrivesFlash}
use Rattle.ft_volume.specs.Opening.{ImageIs, KeepsPlainDisk, Suits}
use Rattle.ft_volume.specs.Volume.{Reads}
use Rattle.ft_volume.specs.Standing.{StandFor}
use Rattle.ft_volume.specs.Volume as calls
use Rattle.ft_volume.specs.declared.volume.Idled.TheVariants.{Nothing, Checkpointed}
use Rattle.cache_model.specs.Cache.{Buffered, Inserted, Vanish, address_of, is_write, owed_by, owed_of, taken_back, undo, written_block, written_clean}
use Rattle.cache_model.specs.CacheList.{Agrees, CacheList, Held}
use Rattle.cache_model.specs.Stands.{FlashStandsFor}
use Rattle.op_log.specs.Log.{FitsOn}
use Rattle.std.proofs.lemmas.List.{append-nil}
use Rattle.cache_model.proofs.UndoLemmas.{back_inserted, owed_none, owed_push, undo_own}
use Rattle.ssc.proofs.LosingLemmas.{pends_buffered}
use Rattle.ssc.specs.declared.cache.Ssc.{Ssc}
use Rattle.ssc.specs.CacheState.{Holds, HoldsBeside, entries_of, geometry_of, pending}
use Rattle.ssc.specs.Commands.{HoldsBuffered, HoldsWritten, PendsWith, FlashStandsForOne, FlashStandsForWrite, AsUndone, AsBefore, AsAfter, AsLeft, AsWritten}
use Rattle.cached_disk.specs.declared.disk.CachedDisk.{CachedDisk}
use Rattle.cached_disk.specs.Kept.{EachAgrees, IsBeneath, IsDirtyIn, IsHeld, IsInserted, IsLeft, KeepsOwed, MayUndo, Owes, OwesIn, StaysOwing, dirty_of, is_down, told_of}
use Rattle.cached_disk.proofs.AddressLemmas.{holds_held, holds_lbas, lbas_same, written_held}
use Rattle.cached_disk.proofs.CallLemmas.{held_along}
use Rattle.cached_disk.proofs.DiskLemmas.{IsOver, agrees_fewer, one_value, over_stands}
use Rattle.cached_disk.proofs.HeldLemmas.{Stays, agrees_push, base_over, base_stands, down_left, drove, each_fewer, goes_on, held_agrees, held_beneath, held_left, held_over, none_later, nothing_owed, own_flash, same_stands, step_beneath, step_held, step_over, suits_less}
use Rattle.cached_disk.proofs.StepLemmas.{clean_agrees, clean_dirty, clean_dirty_was, clean_same, clean_was, left_there, over_same, vanish_agrees, vanish_dirty, vanish_same, vanish_was}

-- ---- the changes that a crash may undo

pub may_none : (told : Told) (q : List Buffered) → q ≡ [] → MayUndo told q
may_none told q none = record { through = λ t. subst (AllByRecursion IsInserted) (sym none) tt; at_write = λ t. ap (list_any is_write) none }

all_more : (q : List Buffered) (a : ℕ) → AllByRecursion IsInserted q → AllByRecursion IsInserted (q ++ Inserted a ∷ [])
all_more [] a all = (tt, tt)
all_more (x ∷ q) a all = (all.0, all_more q a all.1)

none_more : (q : List Buffered) (x : Buffered) → is_write x ≡ false → list_any is_write q ≡ false → list_any is_write (q ++ x ∷ []) ≡ false
none_more [] x own none = ap (λ b. b || list_any is_write []) own
none_more (y ∷ q) x own none =
    let p = or_parts (is_write y) (list_any is_write q) none in
    ap (λ b. b || list_any is_write (q ++ x ∷ [])) p.0 ∙ none_more q x own p.1

-- no write waits after a change that is none
pub none_pends : (old new : List Buffered) (x : Buffered) → is_write x ≡ false → PendsWith old new x → list_any is_write old ≡ false → list_any is_write new ≡ false
none_pends old new x own (inl more) none = ap (list_any is_write) more ∙ none_more old x own none
none_pends old new x own (inr (inl one)) none = ap (list_any is_write) one ∙ none_more [] x own refl
none_pends old new x own (inr (inr all)) none = ap (list_any is_write) all

pub may_more : (told : Told) (old new : List Buffered) (a : ℕ) → PendsWith old new (Inserted a) → MayUndo told old → MayUndo told new
may_more told old new a (inl more) may = record {
  through = λ t. subst (AllByRecursion IsInserted) (sym more) (all_more old a (may.through t));
  at_write = λ t. none_pends old new (Inserted a) refl (inl more) (may.at_write t);
}
may_more told old new a (inr (inl one)) may = record { through = λ t. subst (AllByRecursion IsInserted) (sym one) (tt, tt); at_write = λ t. ap (list_any is_write) one }
may_more told old new a (inr (inr none)) may = may_none told new none

-- ---- before a write

-- a fact that follows from `Ok` holds if the result is no error
pub on_ok_of : {T E P : Type 0} (r : Result T E) → is_err r ≡ false → OnOk r P → P
on_ok_of (Ok t) f p = p
on_ok_of (Err e) f p = absurd (false≢true (sym f))

-- the memory of a write was taken, or not: the cache holds the same list
pub record IsReserved (old new : Ssc) : Type 0 where
  pub geometry : geometry_of new ≡ geometry_of old
  pub holds : (contents : Contents) (s : CacheList) (h : Holds old contents s) → HoldsBeside new contents s h.waiting
  pub pending : pending new ≡ pending old
  pub stopped : new.stopped ≡ old.stopped

module _ (v : CachedDisk) (k : Ssc) (reserved : IsReserved v.cache k) where
  pub reserved_up : is_down v ≡ false → is_down (record v { cache = k }) ≡ false
  reserved_up up = ap (λ b. v.down || b) reserved.stopped ∙ up

  abbrev reserved_held : (contents : Contents) (s : CacheList) → IsHeld v contents s → IsHeld (record v { cache = k }) contents s
  reserved_held contents s is =
      let now = reserved.holds contents s is.holds in
      record {
        holds = now.holds;
        agrees = subst (λ (q : List Buffered). EachAgrees q s contents.disk) (sym now.same) is.agrees;
        settled = is.settled;
        beneath = λ a. subst (λ (q : List Buffered). ((contents.disk a).earlier ≡ []) ⊎ IsDirtyIn (undo q s) a) (sym now.same) (is.beneath a);
        suits = is.suits;
        may_undo = subst (MayUndo (told_of v)) (sym reserved.pending) is.may_undo;
      }

  -- a read changed nothing of the media
  pub reserved_left : (old new : Contents) → new ≡ old → IsLeft v old → IsLeft (record v { cache = k }) new
  reserved_left old new same left = record {
    own = reserved.geometry ∙ left.own;
    shape = subst (λ (x : Contents). FitsOn v.options.geometry x.shape) (sym same) left.shape;
    list = left.list;
    beneath = subst (λ (x : Contents). IsBeneath (told_of v) x left.list) (sym same) left.beneath;
    held = left.held;
    up = λ up. subst (λ (x : Contents). IsHeld (record v { cache = k }) x left.held) (sym same) (reserved_held old left.held (left.up (ap (λ b. v.down || b) (sym reserved.stopped) ∙ up)));
  }

-- ---- what is owed

pub owes_up : (v : CachedDisk) (contents : Contents) (s : CacheList) → is_down v ≡ false → (is : IsHeld v contents s) → Owes v contents (owed_of is.holds.waiting s)
owes_up v contents s up is = subst (λ (b : Bool). OwesIn b v contents (owed_of is.holds.waiting s)) (sym up) (s, is, refl)

pub owes_down : (v : CachedDisk) (contents : Contents) → is_down v ≡ true → Owes v contents []
owes_down v contents down = subst (λ (b : Bool). OwesIn b v contents []) (sym down) refl

pub owes_held : (v : CachedDisk) (contents : Contents) (owed : List BlockWrite) → is_down v ≡ false → Owes v contents owed → OwesIn false v contents owed
owes_held v contents owed up owes = subst (λ (b : Bool). OwesIn b v contents owed) up owes

-- while the volume is down, nothing is owed
pub down_owes : (v : CachedDisk) (contents : Contents) (owed : List BlockWrite) → is_down v ≡ true → Owes v contents owed → owed ≡ []
down_owes v contents owed down owes = subst (λ (b : Bool). OwesIn b v contents owed) down owes

-- nothing is owed if no write waits
pub none_owed : (v : CachedDisk) (contents : Contents) (owed : List BlockWrite) → list_any is_write (pending v.cache) ≡ false → Owes v contents owed → owed ≡ []
none_owed v contents owed no_write owes = by (is_down v) owes
  where
    by : (b : Bool) → OwesIn b v contents owed → owed ≡ []
    by true nothing = nothing
    by false is = is.2 ∙ owed_none is.1.holds.waiting is.0 (none_later v no_write contents is.0 is.1.holds).1

-- something is owed, maybe no write
pub owes_some : (v : CachedDisk) (contents : Contents) → IsLeft v contents → (owed : List BlockWrite) × Owes v contents owed
owes_some v contents left = by (is_down v) refl
  where
    by : (b : Bool) → is_down v ≡ b → (owed : List BlockWrite) × Owes v contents owed
    by true down = ([], owes_down v contents down)
    by false up = (owed_of (left.up up).holds.waiting left.held, owes_up v contents left.held up (left.up up))

-- so nothing is owed, if no write waits
pub owes_none : (v : CachedDisk) (contents : Contents) → list_any is_write (pending v.cache) ≡ false → IsLeft v contents → Owes v contents []
owes_none v contents no_write left = let some = owes_some v contents left in subst (λ (ws : List BlockWrite). Owes v contents ws) (none_owed v contents some.0 no_write some.1) some.1

-- before a step something changed that the plain disk doesn't show
pub stays_after : (v u w : CachedDisk) (old mid new : Contents) → ((owed : List BlockWrite) → Owes v old owed → Owes u mid owed) → ((d : PlainDisk) → StandFor (ImageIs (told_of v)) old d → StandFor (ImageIs (told_of u)) mid d)
    → told_of u ≡ told_of v → StaysOwing u w mid new → StaysOwing v w old new
stays_after v u w old mid new owes stands told step owed was =
    let at = step owed (owes owed was) in
    (at.0, at.1, λ base stand. subst (λ (t : Told). KeepsOwed t new (is_down w) owed at.0 base) told (at.2 base (stands base stand)))

-- nothing changed
pub stays_same : (v w : CachedDisk) (old new : Contents) → w ≡ v → new ≡ old → StaysOwing v w old new
stays_same v w old new same contents =
    subst (λ (u : CachedDisk). StaysOwing v u old new) (sym same) (subst (λ (x : Contents). StaysOwing v v old x) (sym contents) (λ owed owes. (owed, owes, λ base stand. inl (refl, stand))))

pub same_owes : (v w : CachedDisk) (old new : Contents) → w ≡ v → new ≡ old → (owed : List BlockWrite) → Owes v old owed → Owes w new owed
same_owes v w old new same contents owed owes = subst (λ (u : CachedDisk). Owes u new owed) (sym same) (subst (λ (x : Contents). Owes v x owed) (sym contents) owes)

-- nothing changed after a step
pub stays_then : (v u w : CachedDisk) (old mid new : Contents) → w ≡ u → new ≡ mid → StaysOwing v u old mid → StaysOwing v w old new
stays_then v u w old mid new same contents step = subst (λ (x : CachedDisk). StaysOwing v x old new) (sym same) (subst (λ (x : Contents). StaysOwing v u old x) (sym contents) step)

-- the memory of a write was taken, or not
module _ (v : CachedDisk) (k : Ssc) (reserved : IsReserved v.cache k) (old new : Contents) (same : new ≡ old) where
  pub reserved_owes : (owed : List BlockWrite) → Owes v old owed → Owes (record v { cache = k }) new owed
  reserved_owes owed owes = by (is_down v) refl owes
    where
      by : (b : Bool) → is_down v ≡ b → OwesIn b v old owed → Owes (record v { cache = k }) new owed
      by true down nothing = subst (λ (ws : List BlockWrite). Owes (record v { cache = k }) new ws) (sym nothing) (owes_down (record v { cache = k }) new (ap (λ b. v.down || b) reserved.stopped ∙ down))
      by false up is =
          let now = reserved.holds old is.0 is.1.holds in
          subst (λ (x : Contents). Owes (record v { cache = k }) x owed) (sym same)
          (subst (λ (ws : List BlockWrite). Owes (record v { cache = k }) old ws) (ap (λ (q : List Buffered). owed_of q is.0) now.same ∙ sym is.2)
          (owes_up (record v { cache = k }) old is.0 (reserved_up v k reserved up) (reserved_held v k reserved old is.0 is.1)))

  pub reserved_stays : StaysOwing v (record v { cache = k }) old new
  reserved_stays owed owes = (owed, reserved_owes owed owes, λ base stand. inl (refl, subst (λ (x : Contents). StandFor (ImageIs (told_of v)) x base) (sym same) stand))

-- ---- lists that show the same

-- a list that shows the same blocks as the held list
pub record ShowsSame (v : CachedDisk) (contents : Contents) (s list : CacheList) : Type 0 where
  pub agrees : Agrees list contents.disk
  pub suits : Suits v.mode list
  pub over : (d : PlainDisk) → IsOver v.options.geometry s contents.disk d → IsOver v.options.geometry list contents.disk d

-- the flash stands for such a list, or for one that shows the same as the list beneath
pub record IsShown (v : CachedDisk) (contents : Contents) (beneath s : CacheList) (page : Place → Page) : Type 0 where
  pub list : CacheList
  pub stands : FlashStandsFor v.options.geometry page list
  pub agrees : Agrees list contents.disk
  pub suits : Suits v.mode list
  pub over : ((d : PlainDisk) → IsOver v.options.geometry beneath contents.disk d → IsOver v.options.geometry list contents.disk d)
      ⊎ ((d : PlainDisk) → IsOver v.options.geometry s contents.disk d → IsOver v.options.geometry list contents.disk d)

pub shown_by : (v : CachedDisk) (contents : Contents) (beneath s : CacheList) (page : Place → Page) (list : CacheList) → FlashStandsFor v.options.geometry page list → ShowsSame v contents s list → IsShown v contents beneath s page
shown_by v contents beneath s page list stands shows = record { list = list; stands = stands; agrees = shows.agrees; suits = shows.suits; over = inr shows.over }

pub shows_itself : (v : CachedDisk) (contents : Contents) (s : CacheList) → IsHeld v contents s → ShowsSame v contents s s
shows_itself v contents s is = record { agrees = held_agrees v contents s is; suits = is.suits; over = λ d over. over }

module _ (v : CachedDisk) (contents : Contents) (s : CacheList) (own : geometry_of v.cache ≡ v.options.geometry) (is : IsHeld v contents s) where
  abbrev beneath_now : CacheList
  beneath_now = undo is.holds.waiting s

  undone_shown : (page : Place → Page) → FlashStandsFor (geometry_of v.cache) page beneath_now → IsShown v contents beneath_now s page
  undone_shown page stands =
      let beneath = held_beneath v contents s own is in
      record { list = beneath_now; stands = own_flash v own page beneath_now stands; agrees = beneath.agrees; suits = beneath.suits; over = inl (λ d over. over) }

  same_shown : (page : Place → Page) → FlashStandsFor (geometry_of v.cache) page s → IsShown v contents beneath_now s page
  same_shown page stands = shown_by v contents beneath_now s page s (own_flash v own page s stands) (shows_itself v contents s is)

  -- the list after a commit
  pub commit_shows : (page : Place → Page) → FlashStandsForOne (geometry_of v.cache) page beneath_now s s → IsShown v contents beneath_now s page
  commit_shows page (AsUndone x) = undone_shown page x
  commit_shows page (AsBefore x) = same_shown page x
  commit_shows page (AsAfter x) = same_shown page x

  -- the list with a block that comes clean, if the disk has this value there and no other
  module _ (lba : ℕ) (block : Block) (none : IsDirtyIn s lba → ⊥) (only : (b : Block) → HasValue (contents.disk lba) b → b ≡ block) where
    module _ (w : CacheList) (vanish : Vanish v.options.geometry s lba w) where
      pub left_shows : ShowsSame v contents s w
      left_shows = record {
        agrees = vanish_agrees v.options.geometry s w lba vanish contents.disk (held_agrees v contents s is);
        suits = suits_less v.mode s w is.suits (λ a h at. inr (left_there v.options.geometry s w lba vanish a h at));
        over = λ d over. over_same v.options.geometry contents.disk s w d (vanish_same v.options.geometry s w lba vanish contents.disk (held_agrees v contents s is)) over;
      }

      none_left : IsDirtyIn w lba → ⊥
      none_left dirty = none (vanish_was v.options.geometry s w lba vanish lba dirty)

      pub clean_shows : ShowsSame v contents s (written_clean lba block w)
      clean_shows = record {
        agrees = clean_agrees w lba block contents.disk only left_shows.agrees;
        suits = suits_less v.mode w (written_clean lba block w) left_shows.suits (λ a h at. elim (clean_was w lba block a h at) [ inl new ↦ inl (ap (λ (x : Held). x.dirty) new.1) | inr old ↦ inr old ]);
        over = λ d over. over_same v.options.geometry contents.disk w (written_clean lba block w) d (clean_same w lba block contents.disk only left_shows.agrees none_left) (left_shows.over d over);
      }

      pub clean_keeps : (a : ℕ) → IsDirtyIn s a → IsDirtyIn (written_clean lba block w) a
      clean_keeps a dirty = clean_dirty w lba block none_left a (vanish_dirty v.options.geometry s w lba vanish a dirty)

      pub clean_only : (a : ℕ) → IsDirtyIn (written_clean lba block w) a → IsDirtyIn s a
      clean_only a dirty = vanish_was v.options.geometry s w lba vanish a (clean_dirty_was w lba block a dirty)

    own_vanish : (w : CacheList) → Vanish (geometry_of v.cache) s lba w → Vanish v.options.geometry s lba w
    own_vanish w vanish = subst (λ (g : Geometry). Vanish g s lba w) own vanish

    -- whenever it was cut
    pub write_shows : (page : Place → Page) → FlashStandsForWrite (geometry_of v.cache) page beneath_now s lba (written_clean lba block) → IsShown v contents beneath_now s page
    write_shows page (AsUndone x) = undone_shown page x
    write_shows page (AsLeft w vanish x) = shown_by v contents beneath_now s page w (own_flash v own page w x) (left_shows w (own_vanish w vanish))
    write_shows page (AsWritten w vanish x) = shown_by v contents beneath_now s page (written_clean lba block w) (own_flash v own page (written_clean lba block w) x) (clean_shows w (own_vanish w vanish))

-- an address that isn't held isn't dirty, so the disk has one value there
module _ (v : CachedDisk) (contents : Contents) (s : CacheList) (is : IsHeld v contents s) (lba : ℕ) (absent : get s lba ≡ None) where
  pub not_dirty : IsDirtyIn s lba → ⊥
  not_dirty dirty = let both : None ≡ Some dirty.0 = sym absent ∙ dirty.1 in cc

  pub one_block : (block : Block) → block ≡ (contents.disk lba).newest → (b : Block) → HasValue (contents.disk lba) b → b ≡ block
  one_block block newest b has = elim (is.settled lba) [ inl none ↦ one_value (contents.disk lba) b none has ∙ sym newest | inr dirty ↦ absurd (not_dirty dirty) ]

-- the entries say whether it is held
pub not_some : {A : Type 0} (o : Option A) → is_some o ≡ false → o ≡ None
not_some None is = refl
not_some (Some x) is = absurd (false≢true (sym is))

module _ (c : Ssc) (contents : Contents) (s : CacheList) (holds : Holds c contents s) (lba : ℕ) where
  pub absent_held : get (entries_of c) lba ≡ None → get s lba ≡ None
  absent_held absent = not_some (get s lba) (sym (holds_held c contents s holds lba) ∙ ap is_some absent)

  pub absent_entry : get s lba ≡ None → get (entries_of c) lba ≡ None
  absent_entry absent = not_some (get (entries_of c) lba) (holds_held c contents s holds lba ∙ ap is_some absent)

-- ---- the flash was driven, from a list that was held

pub record Drove (v : CachedDisk) (c : Ssc) (old new : Contents) (s : CacheList) : Type 0 where
  pub own : geometry_of v.cache ≡ v.options.geometry
  pub own_after : geometry_of c ≡ v.options.geometry
  pub shape : FitsOn v.options.geometry new.shape
  pub is : IsHeld v old s
  pub stays : Stays old new

-- from any list that is held
abbrev pub drove_from : (v : CachedDisk) (c : Ssc) (before after : State) (f l : Bool) → IsLeft v before.contents → (s : CacheList) → IsHeld v before.contents s → geometry_of c ≡ geometry_of v.cache → DrivesFlash before after f l → Drove v c before.contents after.contents s
drove_from v c before after f l left s is geometry drives = record {
  own = left.own;
  own_after = geometry ∙ left.own;
  shape = subst (λ (x : Shape). FitsOn v.options.geometry x) (sym drives.passes.shape) left.shape;
  is = is;
  stays = drove before.contents after.contents l drives.disk drives.crash;
}

abbrev pub drove_held : (v : CachedDisk) (c : Ssc) (before after : State) (f l : Bool) (left : IsLeft v before.contents) → is_down v ≡ false → geometry_of c ≡ geometry_of v.cache → DrivesFlash before after f l → Drove v c before.contents after.contents left.held
drove_held v c before after f l left up geometry drives = drove_from v c before after f l left left.held (left.up up) geometry drives

pub still_up : (v : CachedDisk) (c : Ssc) → is_down v ≡ false → c.stopped ≡ false → is_down (record v { cache = c }) ≡ false
still_up v c up goes = ap (λ b. b || c.stopped) (goes_on v up).0 ∙ goes

module _ (v : CachedDisk) (c : Ssc) (old new : Contents) (s : CacheList) (by : Drove v c old new s) where
  abbrev pub owed_before : List BlockWrite
  owed_before = owed_of by.is.holds.waiting s

  -- the call failed: the flash stands for a list that is shown
  module _ (shown : IsShown v old (undo by.is.holds.waiting s) s new.flash.page) where
    shown_beneath : IsBeneath (told_of v) new shown.list
    shown_beneath = step_beneath v c old new by.stays s shown.list shown.agrees shown.suits shown.stands

    pub refused_left : is_down (record v { cache = c }) ≡ true → IsLeft (record v { cache = c }) new
    refused_left down = down_left (record v { cache = c }) new shown.list by.own_after by.shape down shown_beneath

    -- the media stand for the same plain disk, or for that after the owed writes
    pub refused_stands : (d : PlainDisk) → StandFor (ImageIs (told_of v)) old d → StandFor (ImageIs (told_of v)) new d ⊎ StandFor (ImageIs (told_of v)) new (after_writes owed_before d)
    refused_stands d stand = elim shown.over [
      | inl over ↦ inl (over_stands (told_of v) new shown.list shown_beneath d (step_over v c old new by.stays shown.list d (over d (base_over v old s by.own by.is d stand))))
      | inr over ↦ inr (over_stands (told_of v) new shown.list shown_beneath (after_writes owed_before d) (step_over v c old new by.stays shown.list (after_writes owed_before d) (over (after_writes owed_before d) (held_over v old s by.own by.is d stand))))
    ]

    pub refused_keeps : list_any is_write (pending v.cache) ≡ false → KeepsPlainDisk (told_of v) old new
    refused_keeps no_write d stand = elim (refused_stands d stand) [
      | inl is ↦ is
      | inr is ↦ subst (λ (ws : List BlockWrite). StandFor (ImageIs (told_of v)) new (after_writes ws d)) (nothing_owed v old s by.own by.is no_write) is
    ]

  -- the call was done: the cache holds a list that shows the same
  module _ (t : CacheList) (shows : ShowsSame v old s t) (holds : Holds c new t) (keeps : (a : ℕ) → IsDirtyIn s a → IsDirtyIn t a) where
    over_after : (d : PlainDisk) → StandFor (ImageIs (told_of v)) old d → IsOver v.options.geometry t new.disk (after_writes owed_before d)
    over_after d stand = step_over v c old new by.stays t (after_writes owed_before d) (shows.over (after_writes owed_before d) (held_over v old s by.own by.is d stand))

    -- and no write waits
    module _ (may : MayUndo (told_of v) (pending c)) (no_write : list_any is_write (pending c) ≡ false) where
      pub held_after : IsHeld (record v { cache = c }) new t
      held_after = step_held v c old new by.stays s t shows.agrees shows.suits no_write by.is holds keeps may

      pub done_left : IsLeft (record v { cache = c }) new
      done_left = held_left (record v { cache = c }) new t by.own_after held_after by.shape

      pub done_stands : (d : PlainDisk) → StandFor (ImageIs (told_of v)) old d → StandFor (ImageIs (told_of v)) new (after_writes owed_before d)
      done_stands d stand = same_stands (record v { cache = c }) new t by.own_after held_after no_write (after_writes owed_before d) (over_after d stand)

      pub done_keeps : list_any is_write (pending v.cache) ≡ false → KeepsPlainDisk (told_of v) old new
      done_keeps none_before d stand = subst (λ (ws : List BlockWrite). StandFor (ImageIs (told_of v)) new (after_writes ws d)) (nothing_owed v old s by.own by.is none_before) (done_stands d stand)

    pub done_dirty : ((a : ℕ) → IsDirtyIn t a → IsDirtyIn s a) → dirty_of (record v { cache = c }) ≡ dirty_of v
    done_dirty was = holds_lbas c new t holds ∙ lbas_same s t keeps was ∙ sym (holds_lbas v.cache old s by.is.holds)

-- ---- a step whose own change may be buffered

-- what is owed after that, beside the writes that were owed, and of the step's own
pub data BufferedOwing (v : CachedDisk) (new : Contents) (owed ws left : List BlockWrite) (base : PlainDisk) : Type 0 where
  Behind : left ≡ owed ++ ws → StandFor (ImageIs (told_of v)) new base → BufferedOwing v new owed ws left base
  Alone : left ≡ ws → StandFor (ImageIs (told_of v)) new (after_writes owed base) → BufferedOwing v new owed ws left base
  Committed : left ≡ [] → StandFor (ImageIs (told_of v)) new (after_writes ws (after_writes owed base)) → BufferedOwing v new owed ws left base

module _ (v : CachedDisk) (c : Ssc) (old new : Contents) (s : CacheList) (by : Drove v c old new s) (lba : ℕ) (step : CacheList → CacheList) (own : CacheList → Buffered) (h : HoldsBuffered c new s by.is.holds.waiting lba step own)
    (back : taken_back (own h.left) (step h.left) ≡ h.left) (agrees_left : Agrees h.left old.disk) (agrees_now : Agrees (step h.left) old.disk)
    (dirty_left : (a : ℕ) → IsDirtyIn s a → IsDirtyIn h.left a) (dirty_now : (a : ℕ) → IsDirtyIn s a → IsDirtyIn (step h.left) a) (suits : Suits v.mode (step h.left)) (may : MayUndo (told_of v) (pending c)) where
  abbrev pub q : List Buffered
  q = by.is.holds.waiting

  abbrev pub now : CacheList
  now = step h.left

  agrees_new : Agrees now new.disk
  agrees_new = agrees_fewer now old.disk new.disk by.stays.had agrees_now

  back_first : h.left ≡ s → taken_back (own h.left) now ≡ s
  back_first same = back ∙ same

  pub each_now : EachAgrees h.holds.waiting now new.disk
  each_now = elim h.pends [
    | inl more ↦ subst (λ (b : List Buffered). EachAgrees b now new.disk) (sym more.1) (agrees_push q (own h.left) s now new.disk (back_first more.0) agrees_new (each_fewer q s old.disk new.disk by.stays.had by.is.agrees))
    | inr (inl one) ↦ subst (λ (b : List Buffered). EachAgrees b now new.disk) (sym one) (agrees_push [] (own h.left) h.left now new.disk back agrees_new (agrees_fewer h.left old.disk new.disk by.stays.had agrees_left))
    | inr (inr none) ↦ subst (λ (b : List Buffered). EachAgrees b now new.disk) (sym none) agrees_new
  ]

  abbrev pub SettledIn : CacheList → Type 0
  SettledIn t = (a : ℕ) → ((new.disk a).earlier ≡ []) ⊎ IsDirtyIn t a

  pub settled_in : (t : CacheList) → ((a : ℕ) → IsDirtyIn s a → IsDirtyIn t a) → SettledIn t
  settled_in t keeps a = elim (by.is.settled a) [ inl none ↦ inl (by.stays.settled a none) | inr dirty ↦ inr (keeps a dirty) ]

  beneath_same : SettledIn (undo q s)
  beneath_same a = elim (by.is.beneath a) [ inl none ↦ inl (by.stays.settled a none) | inr dirty ↦ inr dirty ]

  pub undone_now : SettledIn (undo h.holds.waiting now)
  undone_now = elim h.pends [
    | inl more ↦ subst (λ (b : List Buffered). SettledIn (undo b now)) (sym more.1) (subst SettledIn (sym (undo_own q (own h.left) s now (back_first more.0))) beneath_same)
    | inr (inl one) ↦ subst (λ (b : List Buffered). SettledIn (undo b now)) (sym one) (subst SettledIn (sym back) (settled_in h.left dirty_left))
    | inr (inr none) ↦ subst (λ (b : List Buffered). SettledIn (undo b now)) (sym none) (settled_in now dirty_now)
  ]

  abbrev pub buffered_held : IsHeld (record v { cache = c }) new now
  buffered_held = record { holds = h.holds; agrees = each_now; settled = settled_in now dirty_now; beneath = undone_now; suits = suits; may_undo = may }

  pub buffered_left : IsLeft (record v { cache = c }) new
  buffered_left = held_left (record v { cache = c }) new now by.own_after buffered_held by.shape

  -- over the plain disk
  module _ (ws : List BlockWrite) (owes : owed_by (own h.left) (get now (address_of (own h.left))) ≡ ws)
      (over_left : (d : PlainDisk) → IsOver v.options.geometry s old.disk d → IsOver v.options.geometry h.left old.disk d) (over_now : (d : PlainDisk) → IsOver v.options.geometry s old.disk d → IsOver v.options.geometry now old.disk (after_writes ws d)) where
    abbrev pub buffered_owed : List BlockWrite
    buffered_owed = owed_of h.holds.waiting now

    stands_by : (t : CacheList) (d : PlainDisk) → undo h.holds.waiting now ≡ t → IsOver v.options.geometry t old.disk d → StandFor (ImageIs (told_of v)) new d
    stands_by t d is over =
        base_stands (record v { cache = c }) new now by.own_after buffered_held d
        (subst (λ (l : CacheList). IsOver v.options.geometry l new.disk d) (sym is) (step_over v c old new by.stays t d over))

    owed_is : owed_of [] now ≡ []
    owed_is = refl

    pub buffered_stands : (d : PlainDisk) → StandFor (ImageIs (told_of v)) old d → BufferedOwing v new (owed_of q s) ws buffered_owed d
    buffered_stands d stand =
        let below = base_over v old s by.own by.is d stand in
        let here = held_over v old s by.own by.is d stand in
        elim h.pends [
          | inl more ↦ Behind
              (ap (λ (b : List Buffered). owed_of b now) more.1 ∙ owed_push q (own h.left) s now (back_first more.0) ∙ ap (λ (l : List BlockWrite). owed_of q s ++ l) owes)
              (stands_by (undo q s) d (ap (λ (b : List Buffered). undo b now) more.1 ∙ undo_own q (own h.left) s now (back_first more.0)) below)
          | inr (inl one) ↦ Alone
              (ap (λ (b : List Buffered). owed_of b now) one ∙ append-nil (owed_by (own h.left) (get now (address_of (own h.left)))) ∙ owes)
              (stands_by h.left (after_writes (owed_of q s) d) (ap (λ (b : List Buffered). undo b now) one ∙ back) (over_left (after_writes (owed_of q s) d) here))
          | inr (inr none) ↦ Committed
              (ap (λ (b : List Buffered). owed_of b now) none)
              (stands_by now (after_writes ws (after_writes (owed_of q s) d)) (ap (λ (b : List Buffered). undo b now) none) (over_now (after_writes (owed_of q s) d) here))
        ]

-- ---- a block that the cache lacked came from the disk

module _ (v : CachedDisk) (c : Ssc) (old new : Contents) (s : CacheList) (by : Drove v c old new s) (lba : ℕ) (block : Block) (absent : get s lba ≡ None) (newest : block ≡ (old.disk lba).newest) where
  none_dirty : IsDirtyIn s lba → ⊥
  none_dirty = not_dirty v old s by.is lba absent

  only_block : (b : Block) → HasValue (old.disk lba) b → b ≡ block
  only_block = one_block v old s by.is lba absent block newest

  -- the cache holds the block
  module _ (h : HoldsWritten c new s lba (written_clean lba block)) where
    vanish_own : Vanish v.options.geometry s lba h.left
    vanish_own = subst (λ (g : Geometry). Vanish g s lba h.left) by.own_after h.vanish

    pub put_shows : ShowsSame v old s (written_clean lba block h.left)
    put_shows = clean_shows v old s by.own by.is lba block none_dirty only_block h.left vanish_own

    pub put_keeps : (a : ℕ) → IsDirtyIn s a → IsDirtyIn (written_clean lba block h.left) a
    put_keeps = clean_keeps v old s by.own by.is lba block none_dirty only_block h.left vanish_own

    pub put_dirty : dirty_of (record v { cache = c }) ≡ dirty_of v
    put_dirty = done_dirty v c old new s by (written_clean lba block h.left) put_shows h.holds put_keeps (clean_only v old s by.own by.is lba block none_dirty only_block h.left vanish_own)

    pub put_held : (b : Block) → calls.HoldsAfter (told_of v) (Reads lba b) (λ a. is_some (get (entries_of v.cache) a)) (λ a. is_some (get (entries_of c) a))
    put_held b = held_along (told_of v) (Reads lba b) (λ a. is_some (get s a)) (λ a. is_some (get (written_clean lba block h.left) a)) (λ a. is_some (get (entries_of v.cache) a)) (λ a. is_some (get (entries_of c) a))
        (holds_held v.cache old s by.is.holds) (holds_held c new (written_clean lba block h.left) h.holds) (written_held (told_of v) (Reads lba b) s h.left lba (written_block lba block false) vanish_own refl (λ a is. is))

  -- the block waits behind the other changes, or alone, or not at all
  module _ (h : HoldsBuffered c new s by.is.holds.waiting lba (written_clean lba block) (λ w. Inserted lba)) where
    abbrev written : HoldsWritten c new s lba (written_clean lba block)
    written = record { left = h.left; vanish = h.vanish; holds = h.holds }

    own_left : Vanish v.options.geometry s lba h.left
    own_left = vanish_own written

    absent_left : (o : Option Held) → get h.left lba ≡ o → get h.left lba ≡ None
    absent_left None at = at
    absent_left (Some x) at = absurd (let both : None ≡ Some x = sym absent ∙ left_there v.options.geometry s h.left lba own_left lba x at in cc)

    pub back_left : taken_back (Inserted lba) (written_clean lba block h.left) ≡ h.left
    back_left = back_inserted h.left lba block (absent_left (get h.left lba) refl)

    pub gave : ShowsSame v old s h.left
    gave = left_shows v old s by.own by.is lba block none_dirty only_block h.left own_left

    pub put_may : MayUndo (told_of v) (pending c)
    put_may = may_more (told_of v) (pending v.cache) (pending c) lba (pends_buffered v.cache c old new s by.is.holds lba (written_clean lba block) (Inserted lba) h) by.is.may_undo

    pub kept_left : (a : ℕ) → IsDirtyIn s a → IsDirtyIn h.left a
    kept_left a dirty = vanish_dirty v.options.geometry s h.left lba own_left a dirty

    abbrev pub put_is : IsHeld (record v { cache = c }) new (written_clean lba block h.left)
    put_is = buffered_held v c old new s by lba (written_clean lba block) (λ w. Inserted lba) h back_left gave.agrees (put_shows written).agrees kept_left (put_keeps written) (put_shows written).suits put_may

    pub put_left : IsLeft (record v { cache = c }) new
    put_left = buffered_left v c old new s by lba (written_clean lba block) (λ w. Inserted lba) h back_left gave.agrees (put_shows written).agrees kept_left (put_keeps written) (put_shows written).suits put_may

    pub put_owing : (d : PlainDisk) → StandFor (ImageIs (told_of v)) old d → BufferedOwing v new (owed_of by.is.holds.waiting s) [] (owed_of put_is.holds.waiting (written_clean lba block h.left)) d
    put_owing = buffered_stands v c old new s by lba (written_clean lba block) (λ w. Inserted lba) h back_left gave.agrees (put_shows written).agrees kept_left (put_keeps written) (put_shows written).suits put_may [] refl gave.over (put_shows written).over

    -- if no write waited
    pub put_stands : list_any is_write (pending v.cache) ≡ false → KeepsPlainDisk (told_of v) old new
    put_stands no_write d stand = by_case (put_owing d stand)
      where
        nothing : owed_of by.is.holds.waiting s ≡ []
        nothing = nothing_owed v old s by.own by.is no_write

        under : StandFor (ImageIs (told_of v)) new (after_writes (owed_of by.is.holds.waiting s) d) → StandFor (ImageIs (told_of v)) new d
        under is = subst (λ (ws : List BlockWrite). StandFor (ImageIs (told_of v)) new (after_writes ws d)) nothing is

        by_case : BufferedOwing v new (owed_of by.is.holds.waiting s) [] (owed_of put_is.holds.waiting (written_clean lba block h.left)) d → StandFor (ImageIs (told_of v)) new d
        by_case (Behind is stands) = stands
        by_case (Alone is stands) = under stands
        by_case (Committed is stands) = under stands

  -- the call failed or was cut
  module _ (stands : FlashStandsForWrite (geometry_of v.cache) new.flash.page (undo by.is.holds.waiting s) s lba (written_clean lba block)) where
    pub cut_shown : IsShown v old (undo by.is.holds.waiting s) s new.flash.page
    cut_shown = write_shows v old s by.own by.is lba block none_dirty only_block new.flash.page stands

    pub cut_left : is_down (record v { cache = c }) ≡ true → IsLeft (record v { cache = c }) new
    cut_left = refused_left v c old new s by cut_shown

    pub cut_stands : list_any is_write (pending v.cache) ≡ false → KeepsPlainDisk (told_of v) old new
    cut_stands = refused_keeps v c old new s by cut_shown

-- ---- a call that drove the flash, and wrote no block

module _ (v : CachedDisk) (c : Ssc) (before after : State) (f l : Bool) (left : IsLeft v before.contents) (up : is_down v ≡ false) (geometry : geometry_of c ≡ geometry_of v.cache) (drives : DrivesFlash before after f l) where
  abbrev driven : CachedDisk
  driven = record v { cache = c }

  abbrev drove_as : (s : CacheList) → IsHeld v before.contents s → Drove v c before.contents after.contents s
  drove_as s is = drove_from v c before after f l left s is geometry drives

  -- all is on the flash after that
  pub settled_stays : ((s : CacheList) → Holds v.cache before.contents s → Holds c after.contents s) → pending c ≡ [] → StaysOwing v driven before.contents after.contents
  settled_stays holds none owed owes =
      let no_write : list_any is_write (pending c) ≡ false = ap (list_any is_write) none in
      let was = owes_held v before.contents owed up owes in
      let s = was.0 in
      let by = drove_as s was.1 in
      let shows = shows_itself v before.contents s was.1 in
      let may = may_none (told_of v) (pending c) none in
      let now = done_left v c before.contents after.contents s by s shows (holds s was.1.holds) (λ a dirty. dirty) may no_write in (
        [],
        owes_none driven after.contents no_write now,
        λ base stand. inr (inl (
          refl,
          subst (λ (ws : List BlockWrite). StandFor (ImageIs (told_of v)) after.contents (after_writes ws base)) (sym was.2)
              (done_stands v c before.contents after.contents s by s shows (holds s was.1.holds) (λ a dirty. dirty) may no_write base stand),
        )),
      )

  -- the call failed
  pub refused_stays : ((s : CacheList) (is : IsHeld v before.contents s) → IsShown v before.contents (undo is.holds.waiting s) s after.contents.flash.page) → is_down driven ≡ true → StaysOwing v driven before.contents after.contents
  refused_stays shown down owed owes =
      let was = owes_held v before.contents owed up owes in
      let s = was.0 in (
        [],
        owes_down driven after.contents down,
        λ base stand. elim (refused_stands v c before.contents after.contents s (drove_as s was.1) (shown s was.1) base stand) [
          | inl is ↦ inr (inr (down, refl, is))
          | inr is ↦ inr (inl (refl, subst (λ (ws : List BlockWrite). StandFor (ImageIs (told_of v)) after.contents (after_writes ws base)) (sym was.2) is))
        ],
      )

kept_buffered : (v : CachedDisk) (new : Contents) (down : Bool) (owed left : List BlockWrite) (base : PlainDisk) → BufferedOwing v new owed [] left base → KeepsOwed (told_of v) new down owed left base
kept_buffered v new down owed left base (Behind is stands) = inl (is ∙ append-nil owed, stands)
kept_buffered v new down owed left base (Alone is stands) = inr (inl (is, stands))
kept_buffered v new down owed left base (Committed is stands) = inr (inl (is, stands))

-- the block came from the disk
module _ (v : CachedDisk) (c : Ssc) (before after : State) (f l : Bool) (left : IsLeft v before.contents) (up : is_down v ≡ false) (geometry : geometry_of c ≡ geometry_of v.cache) (drives : DrivesFlash before after f l)
    (lba : ℕ) (block : Block) (absent : get (entries_of v.cache) lba ≡ None) (newest : block ≡ (before.contents.disk lba).newest) where
  lacks : (s : CacheList) → IsHeld v before.contents s → get s lba ≡ None
  lacks s is = absent_held v.cache before.contents s is.holds lba absent

  abbrev drove_over : (s : CacheList) → IsHeld v before.contents s → Drove v c before.contents after.contents s
  drove_over s is = drove_from v c before after f l left s is geometry drives

  pub put_stays : ((s : CacheList) (h : Holds v.cache before.contents s) → get s lba ≡ None → HoldsBuffered c after.contents s h.waiting lba (written_clean lba block) (λ w. Inserted lba)) → is_down (record v { cache = c }) ≡ false → StaysOwing v (record v { cache = c }) before.contents after.contents
  put_stays at_absent up_after owed owes =
      let was = owes_held v before.contents owed up owes in
      let s = was.0 in
      let by = drove_over s was.1 in
      let none = lacks s was.1 in
      let h = at_absent s was.1.holds none in
      let is = put_is v c before.contents after.contents s by lba block none newest h in
      let now = written_clean lba block h.left in (
        owed_of is.holds.waiting now,
        owes_up (record v { cache = c }) after.contents now up_after is,
        λ base stand. kept_buffered v after.contents (is_down (record v { cache = c })) owed (owed_of is.holds.waiting now) base
            (subst (λ (ws : List BlockWrite). BufferedOwing v after.contents ws [] (owed_of is.holds.waiting now) base) (sym was.2) (put_owing v c before.contents after.contents s by lba block none newest h base stand)),
      )

  pub cut_stays : ((s : CacheList) (h : Holds v.cache before.contents s) → FlashStandsForWrite (geometry_of v.cache) after.contents.flash.page (undo h.waiting s) s lba (written_clean lba block)) → is_down (record v { cache = c }) ≡ true
      → StaysOwing v (record v { cache = c }) before.contents after.contents
  cut_stays stands down = refused_stays v c before after f l left up geometry drives (λ s is. cut_shown v c before.contents after.contents s (drove_over s is) lba block (lacks s is) newest (stands s is.holds)) down

-- ---- the pages that are left of the log

pub room_fits : (g : Geometry) (next room : ℕ) → room ≡ log_pages g - next → 2 * room < 2 ^ 32
room_fits g next room is =
    let most : g.j * g.p ≤ 16 * 128 = mul-le g.j g.p 16 128 g.in_range.j_high g.in_range.p_high in
    omega (arith, is, most)

-- a checkpoint is due if at most half is left
module _ (g : Geometry) (room r j p : ℕ) (is : r ≡ room) (is_j : j ≡ g.j) (is_p : p ≡ g.p) where
  pages : j * p ≡ log_pages g
  pages = ap (λ (n : ℕ). n * p) is_j ∙ ap (λ (n : ℕ). g.j * n) is_p

  pub not_due : j * p < 2 * r → Nothing ≡ cond (nat_le (2 * room) (log_pages g)) Checkpointed Nothing
  not_due more = sym (ap (λ (b : Bool). cond b Checkpointed Nothing) (lt-leb (2 * room) (log_pages g) (let same = pages in omega (arith, more, same, is))))

  pub due : 2 * r ≤ j * p → Checkpointed ≡ cond (nat_le (2 * room) (log_pages g)) Checkpointed Nothing
  due few = sym (ap (λ (b : Bool). cond b Checkpointed Nothing) (le-leb (2 * room) (log_pages g) (let same = pages in omega (arith, few, same, is))))
