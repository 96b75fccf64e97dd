-- The held blocks of dirty addresses go to the disk, and the disk is flushed.
use Rattle.std.proofs.Common.{◌≡◌, ◌⊎◌, ℕ, ◌<◌, Bool, true, false, List, [], Option, Some, Ok, Err, inl, inr, refl, sym, ◌∙◌, ap, subst}
use Rattle.std.specs.FinMap.{get, same_map, nat_cmp-IsAntisymmetric}
use Rattle.std.specs.List.{list_any}
use Rattle.std.specs.Cmp.{nat_cmp_total}
use Rattle.std.proofs.lemmas.Bool.{cases_eq, false≢true}
use Rattle.ft_base.specs.declared.block.Block.{Block}
use Rattle.ft_base.specs.declared.block.Place.{Place}
use Rattle.ft_base.specs.declared.block.Page.{Page}
use Rattle.ft_base.specs.declared.geometry.Geometry.{Geometry}
use Rattle.ft_base.specs.Contents.{Contents, Shape, Values, HasValue, flushed, written}
use Rattle.ft_base.specs.PlainDisk.{PlainDisk}
use Rattle.ft_base.proofs.Images.{set_here, set_other}
use Rattle.ft_media.specs.declared.media.MediaError.{MediaError}
use Rattle.ft_media.specs.declared.media.MediaError.TheVariants as media
use Rattle.ft_media.specs.declared.rig.Counts.{Counts}
use Rattle.ft_media.specs.State.{State, lost}
use Rattle.ft_media.specs.Media.{FlashStays, after_write, flush_counted, write_counted}
use Rattle.ft_media.specs.Reads.{ReadsFlash}
use Rattle.ft_volume.specs.Opening.{KeepsPlainDisk}
use Rattle.ft_volume.specs.declared.volume.VolumeError.{VolumeError}
use Rattle.ft_volume.specs.declared.volume.VolumeError.TheVariants as volume
use Rattle.cache_model.specs.Cache.{is_write, undo}
use Rattle.cache_model.specs.CacheList.{Agrees, CacheList, Held, held_or}
use Rattle.cache_model.specs.Stands.{FlashStandsFor}
use Rattle.op_log.specs.Log.{FitsOn}
use Rattle.ssc.specs.declared.cache.Ssc.{Ssc}
use Rattle.ssc.specs.declared.error.SscError.{SscError}
use Rattle.ssc.specs.declared.error.SscError.TheVariants.{OutOfMemory}
use Rattle.ssc.specs.CacheState.{Holds, geometry_of, pending}
use Rattle.ssc.specs.Commands.{ReadOf}
use Rattle.ssc.specs.Errors.{ssc_failed, ssc_lost}
use Rattle.cached_disk.specs.declared.disk.CachedDisk.{CachedDisk}
use Rattle.cached_disk.specs.Errors.{IsOfCache, disk_error}
use Rattle.cached_disk.specs.Kept.{IsBeneath, IsDirtyIn, IsHeld, IsLeft, dirty_of, is_down, told_of, WritesDisk}
use Rattle.cached_disk.proofs.DiskLemmas.{IsOver, over_stands}
use Rattle.cached_disk.proofs.StepLemmas.{over_same, undo_agrees, undo_same}
use Rattle.cached_disk.proofs.HeldLemmas.{down_left, held_agrees, held_beneath, held_left, held_no_write, holds_over, none_later, same_over}
use Rattle.write_back.specs.Cleaning.{IsFlushed, IsOnDisk, Proceeds, is_among}
use Rattle.cached_disk.proofs.AddressLemmas.{has_lba, holds_lbas, holds_within, lbas_dirty, lbas_has}
use Rattle.write_back.proofs.PartLemmas.{Answers, CallsDisk, answers_disk, answers_read, lacks_memory, proceeds_down, proceeds_then, refuses_disk, refuses_read, writes_nothing, writes_one}

-- ---- the list that is held

pub holds_one : (c : Ssc) (contents : Contents) (s t : CacheList) → Holds c contents s → Holds c contents t → s ≡ t
holds_one c contents s t x y = same_map nat_cmp_total nat_cmp-IsAntisymmetric s t (λ a. x.lists.held a ∙ sym (y.lists.held a))

-- an address among the dirty ones
module _ (v : CachedDisk) (contents : Contents) (s : CacheList) (is : IsHeld v contents s) where
  pub dirty_is : (a : ℕ) → is_among (dirty_of v) a ≡ true → IsDirtyIn s a
  dirty_is a among = lbas_dirty s a (ap (λ (lbas : List ℕ). has_lba a lbas) (sym (holds_lbas v.cache contents s is.holds)) ∙ among)

  pub is_dirty : (a : ℕ) → IsDirtyIn s a → is_among (dirty_of v) a ≡ true
  is_dirty a dirty = ap (λ (lbas : List ℕ). has_lba a lbas) (holds_lbas v.cache contents s is.holds) ∙ lbas_has s a dirty

  pub dirty_within : geometry_of v.cache ≡ v.options.geometry → (a : ℕ) → is_among (dirty_of v) a ≡ true → a < v.options.geometry.size
  dirty_within own a among =
      let dirty = dirty_is a among in
      subst (λ (g : Geometry). a < g.size) own (holds_within v.cache contents s is.holds a dirty.0 dirty.1)

-- ---- if the cache and its list stay: reads, and calls of the disk

-- each value of the disk was there, or is a dirty block that is held
pub record Shows (s : CacheList) (old new : Contents) : Type 0 where
  pub page : new.flash.page ≡ old.flash.page
  pub shape : new.shape ≡ old.shape
  pub values : (a : ℕ) (b : Block) → HasValue (new.disk a) b → HasValue (old.disk a) b ⊎ ((h : Held) × (get s a ≡ Some h) × (h.dirty ≡ true) × (b ≡ h.block))

pub shows_same : (s : CacheList) (old new : Contents) → new ≡ old → Shows s old new
shows_same s old new same = record {
  page = ap (λ (x : Contents). x.flash.page) same;
  shape = ap (λ (x : Contents). x.shape) same;
  values = λ a b has. inl (subst (λ (x : Contents). HasValue (x.disk a) b) same has);
}

pub shows_flush : (s : CacheList) (old new : Contents) (l : Bool) → FlashStays old new l → new.shape ≡ old.shape → ((a : ℕ) (b : Block) → HasValue (new.disk a) b → HasValue (old.disk a) b) → Shows s old new
shows_flush s old new l stays shape values = record { page = stays.page; shape = shape; values = λ a b has. inl (values a b has) }

pub shows_write : (s : CacheList) (old new : Contents) (l : Bool) (lba : ℕ) (block : Block) (h : Held) → get s lba ≡ Some h → h.dirty ≡ true → block ≡ h.block → FlashStays old new l → new.shape ≡ old.shape
    → ((a : ℕ) (b : Block) → HasValue (new.disk a) b → HasValue (old.disk a) b ⊎ ((a ≡ lba) × (b ≡ block))) → Shows s old new
shows_write s old new l lba block h at dirty own stays shape values = record {
  page = stays.page;
  shape = shape;
  values = λ a b has. elim (values a b has) [
    | inl had ↦ inl had
    | inr here ↦ inr (h, ap (λ (n : ℕ). get s n) here.0 ∙ at, dirty, here.1 ∙ own)
  ];
}

module _ (v : CachedDisk) (old new : Contents) (s : CacheList) (own : geometry_of v.cache ≡ v.options.geometry) (shape : FitsOn v.options.geometry old.shape) (is : IsHeld v old s) (no_write : list_any is_write (pending v.cache) ≡ false) (shows : Shows s old new) where
  abbrev without_buffered : CacheList
  without_buffered = undo is.holds.waiting s

  none_waits : list_any is_write is.holds.waiting ≡ false
  none_waits = (none_later v no_write old s is.holds).1

  shape_now : FitsOn v.options.geometry new.shape
  shape_now = subst (λ (x : Shape). FitsOn v.options.geometry x) (sym shows.shape) shape

  agrees_now : Agrees s new.disk
  agrees_now a h b at clean has = elim (shows.values a b has) [
    | inl had ↦ held_agrees v old s is a h b at clean had
    | inr x ↦
        let one : Some x.0 ≡ Some h = sym x.1 ∙ at in
        let same : x.0 ≡ h = cc in
        absurd (false≢true (sym clean ∙ ap (λ (y : Held). y.dirty) (sym same) ∙ x.2))
  ]

  over_now : (d : PlainDisk) → IsOver v.options.geometry s old.disk d → IsOver v.options.geometry s new.disk d
  over_now d over a within b has = elim (shows.values a b has) [
    | inl had ↦ over a within b had
    | inr x ↦ ap (λ (o : Option Held). held_or o b) x.1 ∙ sym (ap (λ (o : Option Held). held_or o (old.disk a).newest) x.1) ∙ over a within (old.disk a).newest (inl refl)
  ]

  beneath_now : IsBeneath (told_of v) new without_buffered
  beneath_now =
      let was = held_beneath v old s own is in
      record {
        flash = subst (λ (f : Place → Page). FlashStandsFor v.options.geometry f without_buffered) (sym shows.page) was.flash;
        agrees = undo_agrees new.disk s agrees_now is.holds.waiting none_waits;
        suits = was.suits;
      }

  pub stands_now : KeepsPlainDisk (told_of v) old new
  stands_now d stand = over_stands (told_of v) new without_buffered beneath_now d
      (over_same v.options.geometry new.disk s without_buffered d (undo_same new.disk s agrees_now (geometry_of v.cache) is.holds.waiting none_waits is.holds.waits) (over_now d (same_over v old s own is no_write d stand)))

  -- the call failed, so the volume is down
  pub left_down : (k : Ssc) → k ≡ v.cache → IsLeft (record v { cache = k; down = true }) new
  left_down k same = subst (λ (c : Ssc). IsLeft (record v { cache = c; down = true }) new) (sym same) (down_left (record v { down = true }) new without_buffered own shape_now refl beneath_now)

  -- else the volume still holds the list
  module _ (flash : new.flash ≡ old.flash) (settled : (a : ℕ) → (old.disk a).earlier ≡ [] → ((new.disk a).earlier ≡ []) ⊎ IsDirtyIn s a) where
    held_now : IsHeld v new s
    held_now = held_no_write v new s no_write (holds_over v.cache old new s flash shows.shape is.holds) agrees_now
        (λ a. elim (is.settled a) [ inl none ↦ settled a none | inr dirty ↦ inr dirty ]) is.suits is.may_undo

    pub left_up : IsLeft v new
    left_up = held_left v new s own held_now shape_now

-- the call answered `Ok`
module _ (v : CachedDisk) (k : Ssc) (same : k ≡ v.cache) (s t : State) (n : ℕ) (up : is_down v ≡ false) (no_write : list_any is_write (pending v.cache) ≡ false) where
  pub proceeds_up : Answers s t → WritesDisk n s t (Ok tt) → IsLeft v t.contents → KeepsPlainDisk (told_of v) s.contents t.contents → Proceeds n v (record v { cache = k }) s t (Ok tt)
  proceeds_up answers writes left stands = subst (λ (c : Ssc). Proceeds n v (record v { cache = c }) s t (Ok tt)) (sym same) (record {
    left = left;
    stands = stands;
    settled = λ still. no_write;
    made = (refl, refl);
    reserved = refl;
    held = λ now a. refl;
    goes = λ before_order after_order. record {
      told = refl;
      up = up;
      lost = λ on is. absurd (cc);
      memory = λ is was. absurd (cc);
      ready = λ now. answers.ready;
      disk = λ is was now. absurd (cc);
      cause = answers.cause;
      passes = answers.passes;
    };
    faulted = record { flash = λ is. absurd (cc); disk = λ is. absurd (cc) };
    writes = writes;
    within = λ is. absurd (cc);
  })

-- ---- the blocks that are on the disk

module _ (v : CachedDisk) (k : Ssc) (same : k ≡ v.cache) (old new : Contents) (flash : new.flash ≡ old.flash) (shape : new.shape ≡ old.shape) where
  holds_was : (t : CacheList) → Holds k new t → Holds v.cache old t
  holds_was t holds = holds_over v.cache new old t (sym flash) (sym shape) (subst (λ (c : Ssc). Holds c new t) same holds)

  pub stays_on_disk : (a : ℕ) → (new.disk a).newest ≡ (old.disk a).newest → IsOnDisk v old a → IsOnDisk (record v { cache = k }) new a
  stays_on_disk a newest on t holds h at = newest ∙ on t (holds_was t holds) h at

  module _ (s : CacheList) (holds : Holds v.cache old s) (lba : ℕ) (block : Block) (h : Held) (at : get s lba ≡ Some h) (is : block ≡ h.block) (wrote : (a : ℕ) → new.disk a ≡ after_write old.disk lba block a) where
    pub wrote_here : IsOnDisk (record v { cache = k }) new lba
    wrote_here t now h' at' =
        let one : t ≡ s = holds_one v.cache old t s (holds_was t now) holds in
        let both_at : Some h' ≡ Some h = sym at' ∙ ap (λ (l : CacheList). get l lba) one ∙ at in
        let same_h : h' ≡ h = cc in
        ap (λ (x : Values). x.newest) (wrote lba ∙ set_here old.disk lba (written (old.disk lba) block)) ∙ is ∙ sym (ap (λ (x : Held). x.block) same_h)

    pub wrote_others : (a : ℕ) → IsOnDisk v old a → IsOnDisk (record v { cache = k }) new a
    wrote_others a on = elim (cases_eq lba a) [
      | inl here ↦ subst (λ (n : ℕ). IsOnDisk (record v { cache = k }) new n) here wrote_here
      | inr other ↦ stays_on_disk a (ap (λ (x : Values). x.newest) (wrote a ∙ set_other old.disk lba a (written (old.disk lba) block) other)) on
    ]

-- a value that waits for a flush is a dirty address's
pub wrote_settled : (old new : ℕ → Values) (s : CacheList) (lba : ℕ) (block : Block) → IsDirtyIn s lba → ((a : ℕ) → new a ≡ after_write old lba block a) → (a : ℕ) → (old a).earlier ≡ [] → ((new a).earlier ≡ []) ⊎ IsDirtyIn s a
wrote_settled old new s lba block dirty wrote a none = elim (cases_eq lba a) [
  | inl here ↦ inr (subst (λ (n : ℕ). IsDirtyIn s n) here dirty)
  | inr other ↦ inl (ap (λ (x : Values). x.earlier) (wrote a ∙ set_other old lba a (written (old lba) block) other) ∙ none)
]

pub block_read : (o : Option Held) (found : Bool) (block : Block) (h : Held) → o ≡ Some h → ReadOf o found block → block ≡ h.block
block_read o found block h at read = (subst (λ (x : Option Held). ReadOf x found block) at read).1

-- ---- a block that is copied: it is read, and written to the disk

module _ (v : CachedDisk) (k : Ssc) (same : k ≡ v.cache) (s m : State) (left : IsLeft v s.contents) (up : is_down v ≡ false) (no_write : list_any is_write (pending v.cache) ≡ false) where
  list_is : IsHeld v s.contents left.held
  list_is = left.up up

  pub copy_unread : (e : SscError) (r : VolumeError) → IsOfCache e r → (e ≡ OutOfMemory → ⊥) → ReadsFlash s m (ssc_failed {T = Bool} (Err e)) (ssc_lost {T = Bool} (Err e)) → Proceeds 1 v (record v { cache = k; down = true }) s m (Err r)
  copy_unread e r is other reads =
      let shows = shows_same left.held s.contents m.contents reads.contents in
      proceeds_down v k true s m r 1 refl (ap (λ (c : Ssc). c.ready) same) (refuses_read s m e r is other reads)
      (left_down v s.contents m.contents left.held left.own left.shape list_is no_write shows k same)
      (stands_now v s.contents m.contents left.held left.own left.shape list_is no_write shows)

  module _ (reads : ReadsFlash s m false false) where
    pub once_read : Proceeds 0 v v s m (Ok tt)
    once_read =
        let shows = shows_same left.held s.contents m.contents reads.contents in
        proceeds_up v v.cache refl s m 0 up no_write (answers_read s m reads)
        (writes_nothing s m (ap (λ (x : Counts). x.disk_writes) reads.counts) (ap (λ (x : Counts). x.disk_reads) reads.counts))
        (left_up v s.contents m.contents left.held left.own left.shape list_is no_write shows (ap (λ (x : Contents). x.flash) reads.contents) (λ a none. inl (ap (λ (x : Contents). (x.disk a).earlier) reads.contents ∙ none)))
        (stands_now v s.contents m.contents left.held left.own left.shape list_is no_write shows)

    pub copy_lacks : (t : State) → t ≡ m → Proceeds 1 v (record v { cache = k }) s t (Err volume.OutOfMemory)
    copy_lacks t unchanged =
        subst (λ (x : State). Proceeds 1 v (record v { cache = k }) s x (Err volume.OutOfMemory)) (sym unchanged)
        (subst (λ (c : Ssc). Proceeds 1 v (record v { cache = c }) s m (Err volume.OutOfMemory)) (sym same)
        (proceeds_then v v v s m m 0 1 once_read 1 (Err volume.OutOfMemory) refl (lacks_memory v m up once_read.left no_write 1)))

    module _ (t : State) (lba : ℕ) (dirty : is_among (dirty_of v) lba ≡ true) (found : Bool) (block : Block) (read : (x : CacheList) → Holds v.cache s.contents x → ReadOf (get x lba) found block)
        (values : (a : ℕ) (b : Block) → HasValue (t.contents.disk a) b → HasValue (m.contents.disk a) b ⊎ ((a ≡ lba) × (b ≡ block))) where
      mid : IsLeft v m.contents
      mid = once_read.left

      mid_is : IsHeld v m.contents mid.held
      mid_is = mid.up up

      dirty_mid : IsDirtyIn mid.held lba
      dirty_mid = dirty_is v m.contents mid.held mid_is lba dirty

      own_block : block ≡ dirty_mid.0.block
      own_block = block_read (get mid.held lba) found block dirty_mid.0 dirty_mid.1 (read mid.held (subst (λ (x : Contents). Holds v.cache x mid.held) reads.contents mid_is.holds))

      shows_copy : (l : Bool) → FlashStays m.contents t.contents l → t.contents.shape ≡ m.contents.shape → Shows mid.held m.contents t.contents
      shows_copy l stays shape = shows_write mid.held m.contents t.contents l lba block dirty_mid.0 dirty_mid.1 dirty_mid.2 own_block stays shape values

      pub copy_unwritten : (e : MediaError) → (e ≡ media.OutOfMemory → ⊥) → CallsDisk m t (Err e) → t.counts ≡ m.counts → Proceeds 1 v (record v { cache = k; down = true }) s t (Err (disk_error e))
      copy_unwritten e other calls counts =
          let shows = shows_copy (lost {T = Unit {0}} (Err e)) calls.flash calls.passes.shape in
          proceeds_then v v (record v { cache = k; down = true }) s m t 0 1 once_read 1 (Err (disk_error e)) refl
          (proceeds_down v k true m t (disk_error e) 1 refl (ap (λ (c : Ssc). c.ready) same) (refuses_disk m t e other calls counts)
          (left_down v m.contents t.contents mid.held mid.own mid.shape mid_is no_write shows k same)
          (stands_now v m.contents t.contents mid.held mid.own mid.shape mid_is no_write shows))

      module _ (wrote : (a : ℕ) → t.contents.disk a ≡ after_write m.contents.disk lba block a) (calls : CallsDisk m t (Ok tt)) where
        pub copy_done : t.counts ≡ write_counted m.counts → Proceeds 1 v (record v { cache = k }) s t (Ok tt)
        copy_done counts =
            let shows = shows_copy false calls.flash calls.passes.shape in
            proceeds_then v v (record v { cache = k }) s m t 0 1 once_read 1 (Ok tt) refl
            (proceeds_up v k same m t 1 up no_write (answers_disk m t calls)
            (writes_one m t (ap (λ (x : Counts). x.disk_writes) counts) (ap (λ (x : Counts). x.disk_reads) counts))
            (left_up v m.contents t.contents mid.held mid.own mid.shape mid_is no_write shows (calls.flash.stays refl) (wrote_settled m.contents.disk t.contents.disk mid.held lba block dirty_mid wrote))
            (stands_now v m.contents t.contents mid.held mid.own mid.shape mid_is no_write shows))

        pub copied_here : IsOnDisk (record v { cache = k }) t.contents lba
        copied_here = wrote_here v k same m.contents t.contents (calls.flash.stays refl) calls.passes.shape mid.held mid_is.holds lba block dirty_mid.0 dirty_mid.1 own_block wrote

        pub copied_others : (a : ℕ) → IsOnDisk v s.contents a → IsOnDisk (record v { cache = k }) t.contents a
        copied_others a on = wrote_others v k same m.contents t.contents (calls.flash.stays refl) calls.passes.shape mid.held mid_is.holds lba block dirty_mid.0 dirty_mid.1 own_block wrote a (subst (λ (x : Contents). IsOnDisk v x a) (sym reads.contents) on)

-- ---- the disk is flushed

module _ (v : CachedDisk) (s t : State) (left : IsLeft v s.contents) (up : is_down v ≡ false) (no_write : list_any is_write (pending v.cache) ≡ false) (values : (a : ℕ) (b : Block) → HasValue (t.contents.disk a) b → HasValue (s.contents.disk a) b) where
  pub flush_refused : (e : MediaError) → (e ≡ media.OutOfMemory → ⊥) → CallsDisk s t (Err e) → t.counts ≡ s.counts → Proceeds 0 v (record v { down = true }) s t (Err (disk_error e))
  flush_refused e other calls counts =
      let shows = shows_flush left.held s.contents t.contents (lost {T = Unit {0}} (Err e)) calls.flash calls.passes.shape values in
      proceeds_down v v.cache true s t (disk_error e) 0 refl refl (refuses_disk s t e other calls counts)
      (left_down v s.contents t.contents left.held left.own left.shape (left.up up) no_write shows v.cache refl)
      (stands_now v s.contents t.contents left.held left.own left.shape (left.up up) no_write shows)

  module _ (calls : CallsDisk s t (Ok tt)) (all : (a : ℕ) → t.contents.disk a ≡ flushed (s.contents.disk a)) where
    pub flush_done : t.counts ≡ flush_counted s.counts → Proceeds 0 v v s t (Ok tt)
    flush_done counts =
        let shows = shows_flush left.held s.contents t.contents false calls.flash calls.passes.shape values in
        proceeds_up v v.cache refl s t 0 up no_write (answers_disk s t calls)
        (writes_nothing s t (ap (λ (x : Counts). x.disk_writes) counts) (ap (λ (x : Counts). x.disk_reads) counts))
        (left_up v s.contents t.contents left.held left.own left.shape (left.up up) no_write shows (calls.flash.stays refl) (λ a none. inl (ap (λ (x : Values). x.earlier) (all a))))
        (stands_now v s.contents t.contents left.held left.own left.shape (left.up up) no_write shows)

    pub flush_settles : IsFlushed t.contents
    flush_settles a = ap (λ (x : Values). x.earlier) (all a)

    pub flush_on_disk : (a : ℕ) → IsOnDisk v s.contents a → IsOnDisk v t.contents a
    flush_on_disk a on = stays_on_disk v v.cache refl s.contents t.contents (calls.flash.stays refl) calls.passes.shape a (ap (λ (x : Values). x.newest) (all a)) on
