-- Addresses whose blocks the disk has are made clean; that writes a group back.
use Rattle.std.proofs.Common.{◌≡◌, ◌⊎◌, ℕ, ◌+◌, ◌/◌, ◌<◌, ◌==◌, ◌&&◌, ◌||◌, not, Bool, true, false, cond, List, [], ◌∷◌, length, take, get_or, filter, Option, Some, None, option_map, Ok, Err, inl, inr, refl, sym, ◌∙◌, ap, ap₂, subst, arith, eqb-true, eq-eqb}
use Rattle.std.specs.Prelude.{OnErr, OnOk}
use Rattle.std.specs.Option.{is_some}
use Rattle.std.specs.FinMap.{get}
use Rattle.std.specs.List.{list_any}
use Rattle.std.proofs.lemmas.Bool.{and_parts, both_ways, cases_Bool, false≢true, or_cases, or_from}
use Rattle.std.proofs.lemmas.Bool.Decides.{nat_tests}
use Rattle.std.proofs.lemmas.List.Folds.{list_any_at, list_any_more}
use Rattle.std.proofs.lemmas.List.{take_all}
use Rattle.ft_base.specs.declared.block.Place.{Place}
use Rattle.ft_base.specs.declared.block.Page.{Page}
use Rattle.ft_base.specs.declared.told.Mode.{Mode}
use Rattle.ft_base.specs.declared.told.Mode.TheVariants.{Back, Through}
use Rattle.ft_base.specs.Contents.{Contents, Shape, Values}
use Rattle.ft_base.specs.PlainDisk.{BlockWrite, PlainDisk, after_writes}
use Rattle.ft_base.proofs.Images.{newest_image, with_newest}
use Rattle.ft_media.specs.State.{State}
use Rattle.ft_media.specs.Drives.{DrivesFlash}
use Rattle.ft_base.specs.Count.{RoseBy}
use Rattle.ft_base.specs.Told.{Told}
use Rattle.ft_base.specs.declared.told.Ack.TheVariants.{Write as AtWrite}
use Rattle.ft_volume.specs.Opening.{ImageIs, Suits}
use Rattle.ft_volume.specs.Standing.{StandFor}
use Rattle.ft_volume.specs.Volume.{Flushes, Goes}
use Rattle.ft_volume.proofs.UpLemmas.{goes_then}
use Rattle.std.proofs.lemmas.Result.{on_err_weaker}
use Rattle.ft_volume.specs.declared.volume.VolumeError.{VolumeError}
use Rattle.cache_model.specs.Cache.{Cleaned, is_write, made_clean, marked_as, undo}
use Rattle.cache_model.specs.CacheList.{Agrees, CacheList, Held, held_or}
use Rattle.cache_model.specs.Stands.{FlashStandsFor}
use Rattle.cache_model.proofs.UndoLemmas.{get_marked}
use Rattle.op_log.specs.Log.{FitsOn}
use Rattle.ssc.specs.declared.cache.Ssc.{Ssc}
use Rattle.ssc.specs.declared.error.SscError.{SscError}
use Rattle.ssc.specs.declared.error.SscError.TheVariants.{Full, OutOfMemory}
use Rattle.ssc.specs.CacheState.{Holds, entries_of, geometry_of, pending}
use Rattle.ssc.specs.Commands.{HoldsPending, ImagesOf, FlashStandsForOne, AsUndone, AsBefore, AsAfter}
use Rattle.ssc.specs.Errors.{ssc_failed, ssc_lost, stops}
use Rattle.ssc.proofs.LosingLemmas.{pends_shapes}
use Rattle.cached_disk.specs.declared.disk.CachedDisk.{CachedDisk}
use Rattle.cached_disk.specs.Errors.{IsOfCache}
use Rattle.cached_disk.specs.Kept.{AsksNoDisk, IsBeneath, IsDirtyIn, IsHeld, IsLeft, KeepsOwed, MayUndo, Owes, Serves, StaysOwing, dirty_of, is_down, state_in, told_of, WritesDisk}
use Rattle.cached_disk.proofs.DiskLemmas.{IsOver, one_value, over_stands}
use Rattle.cache_model.proofs.CountLemmas.{equals_turned}
use Rattle.cached_disk.proofs.StepLemmas.{IsSameOver, over_same}
use Rattle.cached_disk.proofs.HeldLemmas.{Stays, down_left, drove, goes_on, held_agrees, held_beneath, held_left, held_no_write, own_flash, same_over, same_stands, step_beneath, step_over, stopped_down, undone_over}
use Rattle.cached_disk.proofs.ReadLemmas.{none_owed, none_pends, owes_down, owes_none}
use Rattle.cached_disk.proofs.CallLemmas.{gives_up}
use Rattle.write_back.specs.Left.{StaysDirty, in_group, out_of_group}
use Rattle.write_back.specs.Cleaning.{IsFlushed, IsOnDisk, Proceeds, WritesBack, is_among}
use Rattle.cached_disk.proofs.AddressLemmas.{holds_held, holds_lbas, lbas_without}
use Rattle.write_back.proofs.PartLemmas.{Answer, Answers, Refuses, answers_drive, proceeds_as, proceeds_down, proceeds_refused, proceeds_then, refuses_drive, writes_nothing}
use Rattle.write_back.proofs.CopyLemmas.{dirty_is, holds_one, is_dirty}

-- ---- an address that is made clean

module _ (lba : ℕ) (s : CacheList) where
  cleaned_at : (a : ℕ) → get (made_clean lba s) a ≡ cond (a == lba) (option_map (marked_as false) (get s a)) (get s a)
  cleaned_at a = get_marked false lba s (get s lba) a refl

  cleaned_same : (disk : ℕ → Values) → IsSameOver disk s (made_clean lba s)
  cleaned_same disk a b has = ap (λ (o : Option Held). held_or o b) (cleaned_at a) ∙ by_choice (a == lba) (get s a)
    where
      by_choice : (t : Bool) (o : Option Held) → held_or (cond t (option_map (marked_as false) o) o) b ≡ held_or o b
      by_choice true None = refl
      by_choice true (Some h) = refl
      by_choice false o = refl

  pub cleaned_held : (a : ℕ) → is_some (get (made_clean lba s) a) ≡ is_some (get s a)
  cleaned_held a = ap (λ (o : Option Held). is_some o) (cleaned_at a) ∙ by_choice (a == lba) (get s a)
    where
      by_choice : (t : Bool) (o : Option Held) → is_some (cond t (option_map (marked_as false) o) o) ≡ is_some o
      by_choice true None = refl
      by_choice true (Some h) = refl
      by_choice false o = refl

  -- a block that is held was held before, with the same contents
  pub cleaned_was : (a : ℕ) (h : Held) → get (made_clean lba s) a ≡ Some h → (k : Held) × (get s a ≡ Some k) × (k.block ≡ h.block) × (((a ≡ lba) × (h.dirty ≡ false)) ⊎ (k ≡ h))
  cleaned_was a h at = elim (cases_Bool (a == lba)) [
    | inl t ↦ here (eqb-true a lba t) (get s a) refl (sym (ap (λ c. cond c (option_map (marked_as false) (get s a)) (get s a)) t) ∙ sym (cleaned_at a) ∙ at)
    | inr f ↦ (h, sym (ap (λ c. cond c (option_map (marked_as false) (get s a)) (get s a)) f) ∙ sym (cleaned_at a) ∙ at, refl, inr refl)
  ]
    where
      here : a ≡ lba → (o : Option Held) → get s a ≡ o → option_map (marked_as false) o ≡ Some h → (k : Held) × (get s a ≡ Some k) × (k.block ≡ h.block) × (((a ≡ lba) × (h.dirty ≡ false)) ⊎ (k ≡ h))
      here own None was is = absurd (cc)
      here own (Some k) was is =
          let same : marked_as false k ≡ h = cc in
          (k, was, ap (λ (x : Held). x.block) same, inl (own, sym (ap (λ (x : Held). x.dirty) same)))

  pub cleaned_other : (a : ℕ) → (a == lba) ≡ false → get (made_clean lba s) a ≡ get s a
  cleaned_other a f = cleaned_at a ∙ ap (λ c. cond c (option_map (marked_as false) (get s a)) (get s a)) f

-- if all blocks are flushed and the disk has the address's block
module _ (v : CachedDisk) (k : Ssc) (s t : State) (list : CacheList) (lba : ℕ) (own : geometry_of v.cache ≡ v.options.geometry) (shape : FitsOn v.options.geometry s.contents.shape) (is : IsHeld v s.contents list) (no_write : list_any is_write (pending v.cache) ≡ false) (back : v.mode ≡ Back)
    (alone : IsFlushed s.contents) (on : IsOnDisk v s.contents lba) (stays : Stays s.contents t.contents) (fits : t.contents.shape ≡ s.contents.shape) (geometry : geometry_of k ≡ geometry_of v.cache) where
  abbrev after_clean : CacheList
  after_clean = made_clean lba list

  own_now : geometry_of k ≡ v.options.geometry
  own_now = geometry ∙ own

  fits_now : FitsOn v.options.geometry t.contents.shape
  fits_now = subst (λ (x : Shape). FitsOn v.options.geometry x) (sym fits) shape

  cleaned_agrees : Agrees after_clean s.contents.disk
  cleaned_agrees a h b at clean has =
      let was = cleaned_was lba list a h at in
      elim was.3 [
        | inl here ↦
            one_value (s.contents.disk a) b (alone a) has
            ∙ ap (λ (n : ℕ). (s.contents.disk n).newest) here.0
            ∙ on list is.holds was.0 (ap (λ (n : ℕ). get list n) (sym here.0) ∙ was.1)
            ∙ was.2
        | inr same ↦ held_agrees v s.contents list is a h b (was.1 ∙ ap (λ (x : Held). Some x) same) clean has
      ]

  any_suits : (l : CacheList) → Suits v.mode l
  any_suits l = subst (λ (m : Mode). Suits m l) (sym back) tt

  -- a list that a crash may leave of it
  record IsLeftBy (page : Place → Page) : Type 0 where
    pub list_of : CacheList
    pub stands : FlashStandsFor v.options.geometry page list_of
    pub agrees : Agrees list_of s.contents.disk
    pub over : (d : PlainDisk) → IsOver v.options.geometry list s.contents.disk d → IsOver v.options.geometry list_of s.contents.disk d

  cleaned_over : (d : PlainDisk) → IsOver v.options.geometry list s.contents.disk d → IsOver v.options.geometry after_clean s.contents.disk d
  cleaned_over d over = over_same v.options.geometry s.contents.disk list after_clean d (cleaned_same lba list s.contents.disk) over

  left_by : (page : Place → Page) → FlashStandsForOne (geometry_of v.cache) page (undo is.holds.waiting list) list after_clean → IsLeftBy page
  left_by page (AsUndone x) = record { list_of = undo is.holds.waiting list; stands = own_flash v own page (undo is.holds.waiting list) x; agrees = (held_beneath v s.contents list own is).agrees; over = undone_over v s.contents list own is no_write }
  left_by page (AsBefore x) = record { list_of = list; stands = own_flash v own page list x; agrees = held_agrees v s.contents list is; over = λ d over. over }
  left_by page (AsAfter x) = record { list_of = after_clean; stands = own_flash v own page after_clean x; agrees = cleaned_agrees; over = cleaned_over }

  -- the call failed
  module _ (down : is_down (record v { cache = k }) ≡ true) (one : FlashStandsForOne (geometry_of v.cache) t.contents.flash.page (undo is.holds.waiting list) list after_clean) where
    beneath : IsBeneath (told_of v) t.contents (left_by t.contents.flash.page one).list_of
    beneath = let x = left_by t.contents.flash.page one in step_beneath v k s.contents t.contents stays list x.list_of x.agrees (any_suits x.list_of) x.stands

    pub clean_refused : (r : VolumeError) → k.ready ≡ v.cache.ready → Refuses s t r → Proceeds 0 v (record v { cache = k }) s t (Err r)
    clean_refused r reserved refuses =
        let x = left_by t.contents.flash.page one in
        proceeds_down v k v.down s t r 0 down reserved refuses
        (down_left (record v { cache = k }) t.contents x.list_of own_now fits_now down beneath)
        (λ d stand. over_stands (told_of v) t.contents x.list_of beneath d (step_over v k s.contents t.contents stays x.list_of d (x.over d (same_over v s.contents list own is no_write d stand))))

  -- the call was done
  module _ (holds : Holds k t.contents after_clean) (may : MayUndo (told_of v) (pending k)) (none_now : list_any is_write (pending k) ≡ false) where
    pub held_clean : IsHeld (record v { cache = k }) t.contents after_clean
    held_clean = held_no_write (record v { cache = k }) t.contents after_clean none_now holds (λ a h b at clean has. cleaned_agrees a h b at clean (stays.had a b has))
        (λ a. inl (stays.settled a (alone a))) (any_suits after_clean) may

    pub clean_done : is_down (record v { cache = k }) ≡ false → k.ready ≡ v.cache.ready → Answers s t → WritesDisk 0 s t (Ok tt) → Proceeds 0 v (record v { cache = k }) s t (Ok tt)
    clean_done up reserved answers writes = record {
      left = held_left (record v { cache = k }) t.contents after_clean own_now held_clean fits_now;
      settled = λ still. none_now;
      stands = λ d stand. same_stands (record v { cache = k }) t.contents after_clean own_now held_clean none_now d (step_over v k s.contents t.contents stays after_clean d (cleaned_over d (same_over v s.contents list own is no_write d stand)));
      made = (refl, refl);
      reserved = reserved;
      held = λ now a. holds_held k t.contents after_clean holds a ∙ cleaned_held lba list a ∙ sym (holds_held v.cache s.contents list is.holds a);
      goes = λ before_order after_order. record {
        told = refl;
        up = up;
        lost = λ on is. absurd (cc);
        memory = λ is was. absurd (cc);
        ready = λ now. answers.ready;
        disk = λ is was now. absurd (cc);
        cause = answers.cause;
        passes = answers.passes;
      };
      faulted = record { flash = λ is. absurd (cc); disk = λ is. absurd (cc) };
      writes = writes;
      within = λ is. absurd (cc);
    }

    pub clean_dirty : (a : ℕ) → is_among (dirty_of (record v { cache = k })) a ≡ (is_among (dirty_of v) a && not (lba == a))
    clean_dirty a = same_test (is_among (dirty_of (record v { cache = k })) a) (is_among (dirty_of v) a) (lba == a) (λ among. was (dirty_is (record v { cache = k }) t.contents after_clean held_clean a among)) (λ among other. stays_dirty (dirty_is v s.contents list is a among) other)
      where
        same_test : (x y z : Bool) → (x ≡ true → (y ≡ true) × (z ≡ false)) → (y ≡ true → z ≡ false → x ≡ true) → x ≡ (y && not z)
        same_test true true true to from = absurd (false≢true (sym (to refl).1))
        same_test true true false to from = refl
        same_test true false z to from = absurd (false≢true (to refl).0)
        same_test false true true to from = refl
        same_test false true false to from = absurd (false≢true (from refl refl))
        same_test false false z to from = refl

        was : IsDirtyIn after_clean a → (is_among (dirty_of v) a ≡ true) × ((lba == a) ≡ false)
        was dirty =
            let x = cleaned_was lba list a dirty.0 dirty.1 in
            elim x.3 [
              | inl here ↦ absurd (false≢true (sym here.1 ∙ dirty.2))
              | inr same ↦ (
                is_dirty v s.contents list is a (x.0, x.1, ap (λ (h : Held). h.dirty) same ∙ dirty.2),
                elim (cases_Bool (lba == a)) [
                  | inl own_at ↦ absurd (not_clean (eqb-true lba a own_at) dirty)
                  | inr other ↦ other
                ],
              )
            ]
          where
            not_clean : lba ≡ a → IsDirtyIn after_clean a → ⊥
            not_clean here d = marked_clean (get list a) (sym (ap (λ c. cond c (option_map (marked_as false) (get list a)) (get list a)) (let t : (a == lba) ≡ true = grind (arith, nat_tests) in t)) ∙ sym (cleaned_at lba list a) ∙ d.1)
              where
                marked_clean : (o : Option Held) → option_map (marked_as false) o ≡ Some d.0 → ⊥
                marked_clean None at = absurd (cc)
                marked_clean (Some h) at = let same : marked_as false h ≡ d.0 = cc in false≢true (ap (λ (y : Held). y.dirty) same ∙ d.2)

        stays_dirty : IsDirtyIn list a → (lba == a) ≡ false → is_among (dirty_of (record v { cache = k })) a ≡ true
        stays_dirty dirty other = is_dirty (record v { cache = k }) t.contents after_clean held_clean a (dirty.0, cleaned_other lba list a (equals_turned a lba ∙ other) ∙ dirty.1, dirty.2)

    pub clean_on_disk : t.contents.disk ≡ s.contents.disk → (a : ℕ) → IsOnDisk v s.contents a → IsOnDisk (record v { cache = k }) t.contents a
    clean_on_disk disk a on_a l now h at =
        let one : l ≡ after_clean = holds_one k t.contents l after_clean now holds in
        let was = cleaned_was lba list a h (ap (λ (x : CacheList). get x a) (sym one) ∙ at) in
        ap (λ (f : ℕ → Values). (f a).newest) disk ∙ on_a list is.holds was.0 was.1 ∙ was.2

-- no write waits after a clean
pub none_cleaned_waits : (v : CachedDisk) (k : Ssc) (s t : State) (lba : ℕ) (left : IsLeft v s.contents) → is_down v ≡ false → list_any is_write (pending v.cache) ≡ false
    → ((l : CacheList) (h : Holds v.cache s.contents l) → IsDirtyIn l lba → HoldsPending k t.contents (made_clean lba l) h.waiting (Cleaned lba))
    → ((l : CacheList) → Holds v.cache s.contents l → (IsDirtyIn l lba → ⊥) → (k ≡ v.cache) × (t ≡ s)) → list_any is_write (pending k) ≡ false
none_cleaned_waits v k s t lba left up no_write of_dirty of_other = by (get left.held lba) refl
  where
    is : IsHeld v s.contents left.held
    is = left.up up

    kept : (IsDirtyIn left.held lba → ⊥) → list_any is_write (pending k) ≡ false
    kept none = subst (λ (c : Ssc). list_any is_write (pending c) ≡ false) (sym (of_other left.held is.holds none).0) no_write

    more : IsDirtyIn left.held lba → list_any is_write (pending k) ≡ false
    more dirty =
        let now = of_dirty left.held is.holds dirty in
        none_pends (pending v.cache) (pending k) (Cleaned lba) refl (pends_shapes v.cache k s.contents t.contents left.held (made_clean lba left.held) is.holds now.holds (Cleaned lba) now.pends) no_write

    by : (o : Option Held) → get left.held lba ≡ o → list_any is_write (pending k) ≡ false
    by None at = kept (λ dirty. let both : None ≡ Some dirty.0 = sym at ∙ dirty.1 in cc)
    by (Some h) at = elim (cases_Bool h.dirty) [
      | inl t ↦ more (h, at, t)
      | inr f ↦ kept (λ dirty.
          let both : Some h ≡ Some dirty.0 = sym at ∙ dirty.1 in
          let same : h ≡ dirty.0 = cc in
          false≢true (sym f ∙ ap (λ (x : Held). x.dirty) same ∙ dirty.2))
    ]

-- so what a crash may undo suits
pub cleaned_may : (v : CachedDisk) (k : Ssc) → v.mode ≡ Back → list_any is_write (pending k) ≡ false → MayUndo (told_of v) (pending k)
cleaned_may v k back no_write = record { through = λ through. absurd (let both : Back ≡ Through = sym back ∙ through in cc); at_write = λ at_write. no_write }

-- once `clean` answered
module _ (v : CachedDisk) (k : Ssc) (e : SscError) (full : (n limit : ℕ) → e ≡ Full n limit → ⊥) (memory : e ≡ OutOfMemory → ⊥) (stopped : k.stopped ≡ stops {T = Unit {0}} (Err e)) where
  pub once_stopped : is_down (record v { cache = k }) ≡ true
  once_stopped = stopped_down v k (stopped ∙ gives_up e full memory)

module _ (v : CachedDisk) (k : Ssc) (s t : State) (lba : ℕ) (left : IsLeft v s.contents) (up : is_down v ≡ false) (no_write : list_any is_write (pending v.cache) ≡ false) (back : v.mode ≡ Back) (alone : IsFlushed s.contents) (on : IsOnDisk v s.contents lba) (geometry : geometry_of k ≡ geometry_of v.cache) (reserved : k.ready ≡ v.cache.ready) where
  module _ (drives : DrivesFlash s t false false) (done : (l : CacheList) → Holds v.cache s.contents l → Holds k t.contents (made_clean lba l)) (none_now : list_any is_write (pending k) ≡ false) where
    abbrev may : MayUndo (told_of v) (pending k)
    may = cleaned_may v k back none_now

    abbrev disk_stays : Stays s.contents t.contents
    disk_stays = drove s.contents t.contents false drives.disk drives.crash

    abbrev holds_clean : Holds k t.contents (made_clean lba left.held)
    holds_clean = done left.held (left.up up).holds

    pub once_clean : k.stopped ≡ false → Proceeds 0 v (record v { cache = k }) s t (Ok tt)
    once_clean goes =
        clean_done v k s t left.held lba left.own left.shape (left.up up) no_write back alone on disk_stays drives.passes.shape geometry holds_clean may none_now
        (or_from v.down k.stopped (goes_on v up).0 goes) reserved (answers_drive s t drives) (writes_nothing s t drives.disk_writes drives.disk_reads)

    pub once_cleaned : (a : ℕ) → is_among (dirty_of (record v { cache = k })) a ≡ (is_among (dirty_of v) a && not (lba == a))
    once_cleaned = clean_dirty v k s t left.held lba left.own left.shape (left.up up) no_write back alone on disk_stays drives.passes.shape geometry holds_clean may none_now

    pub once_flushed : IsFlushed t.contents
    once_flushed a = disk_stays.settled a (alone a)

    pub once_on_disk : (a : ℕ) → IsOnDisk v s.contents a → IsOnDisk (record v { cache = k }) t.contents a
    once_on_disk = clean_on_disk v k s t left.held lba left.own left.shape (left.up up) no_write back alone on disk_stays drives.passes.shape geometry holds_clean may none_now (drives.disk.stays refl)

  pub once_refused : (e : SscError) (r : VolumeError) → IsOfCache e r → ((n limit : ℕ) → e ≡ Full n limit → ⊥) → (e ≡ OutOfMemory → ⊥) → k.stopped ≡ stops {T = Unit {0}} (Err e) → DrivesFlash s t (ssc_failed {T = Unit {0}} (Err e)) (ssc_lost {T = Unit {0}} (Err e))
      → ((l : CacheList) (h : Holds v.cache s.contents l) → ImagesOf v.cache t.contents (undo h.waiting l) l (made_clean lba l)) → Proceeds 0 v (record v { cache = k }) s t (Err r)
  once_refused e r is full memory stopped drives images =
      clean_refused v k s t left.held lba left.own left.shape (left.up up) no_write back alone on (drove s.contents t.contents (ssc_lost {T = Unit {0}} (Err e)) drives.disk drives.crash) drives.passes.shape geometry
      (once_stopped v k e full memory stopped) (images left.held (left.up up).holds (with_newest t.contents) (newest_image t.contents)) r reserved (refuses_drive s t e r is memory drives)

-- ---- a list of addresses

among_step : (p : ℕ → Bool) (x a : ℕ) (rest kept : List ℕ) → is_among kept a ≡ (p a && is_among rest a) → (b : Bool) → p x ≡ b → (c : Bool) → (x == a) ≡ c → is_among (cond b (x ∷ kept) kept) a ≡ (p a && (c || is_among rest a))
among_step p x a rest kept known true is true here = ap (λ c. c || is_among kept a) here ∙ sym (ap (λ b. b && true) (ap p (sym (eqb-true x a here)) ∙ is))
among_step p x a rest kept known true is false here = ap (λ c. c || is_among kept a) here ∙ known
among_step p x a rest kept known false is true here =
    let out : p a ≡ false = ap p (sym (eqb-true x a here)) ∙ is in
    known ∙ ap (λ b. b && is_among rest a) out ∙ sym (ap (λ b. b && true) out)
among_step p x a rest kept known false is false here = known

pub among_filter : (p : ℕ → Bool) (lbas : List ℕ) (a : ℕ) → is_among (filter p lbas) a ≡ (p a && is_among lbas a)
among_filter p [] a = none (p a)
  where
    none : (b : Bool) → false ≡ (b && false)
    none true = refl
    none false = refl
among_filter p (x ∷ lbas) a = among_step p x a lbas (filter p lbas) (among_filter p lbas a) (p x) refl (x == a) refl

-- the address of this turn
pub among_here : (lbas : List ℕ) (i : ℕ) → i < length lbas → is_among lbas (get_or lbas i 0) ≡ true
among_here lbas i below = list_any_at (λ k. k == get_or lbas i 0) lbas i 0 below (eq-eqb (get_or lbas i 0) (get_or lbas i 0) refl)

pub among_next : (lbas : List ℕ) (i a : ℕ) → i < length lbas → is_among (take (i + 1) lbas) a ≡ (is_among (take i lbas) a || (get_or lbas i 0 == a))
among_next lbas i a below = list_any_more (λ k. k == a) lbas i 0 below

pub among_more : (lbas : List ℕ) (i : ℕ) → i < length lbas → (P : ℕ → Type 0) → ((a : ℕ) → is_among (take i lbas) a ≡ true → P a) → P (get_or lbas i 0) → (a : ℕ) → is_among (take (i + 1) lbas) a ≡ true → P a
among_more lbas i below P before here a among = elim (or_cases (is_among (take i lbas) a) (get_or lbas i 0 == a) (sym (among_next lbas i a below) ∙ among)) [
  | inl was ↦ before a was
  | inr own ↦ subst P (eqb-true (get_or lbas i 0) a own) here
]

pub among_whole : (lbas : List ℕ) (i a : ℕ) → i ≡ length lbas → is_among (take i lbas) a ≡ is_among lbas a
among_whole lbas i a end = ap (λ (xs : List ℕ). is_among xs a) (take_all i lbas (omega (arith, end)))

pub among_all : (lbas : List ℕ) (i a : ℕ) → i ≡ length lbas → is_among lbas a ≡ true → is_among (take i lbas) a ≡ true
among_all lbas i a end among = among_whole lbas i a end ∙ among

pub none_cleaned : (x : Bool) → x ≡ (x && not false)
none_cleaned true = refl
none_cleaned false = refl

pub without_more : (x y z : Bool) → ((x && not y) && not z) ≡ (x && not (y || z))
without_more true true z = refl
without_more true false z = refl
without_more false y z = refl

-- once its addresses are clean, the dirty addresses are those that belong to other groups
pub group_cleaned : (v w : CachedDisk) (old new : Contents) (s t : CacheList) (p n : ℕ) → IsHeld v old s → IsHeld w new t
    → ((a : ℕ) → is_among (dirty_of w) a ≡ (is_among (dirty_of v) a && not (is_among (in_group p n (dirty_of v)) a))) → dirty_of w ≡ out_of_group p n (dirty_of v)
group_cleaned v w old new s t p n is now cleaned =
    holds_lbas w.cache new t now.holds
    ∙ lbas_without s t p n was stays
    ∙ ap (λ (lbas : List ℕ). out_of_group p n lbas) (sym (holds_lbas v.cache old s is.holds))
  where
    told : (a : ℕ) → is_among (dirty_of w) a ≡ (is_among (dirty_of v) a && not ((a / p == n) && is_among (dirty_of v) a))
    told a = cleaned a ∙ ap (λ b. is_among (dirty_of v) a && not b) (among_filter (λ k. k / p == n) (dirty_of v) a)

    parts : (x y : Bool) → (x && not (y && x)) ≡ true → (x ≡ true) × (y ≡ false)
    parts true true is = absurd (false≢true is)
    parts true false is = (refl, refl)
    parts false y is = absurd (false≢true is)

    whole : (x y : Bool) → x ≡ true → y ≡ false → (x && not (y && x)) ≡ true
    whole true true is other = absurd (false≢true (sym other))
    whole true false is other = refl
    whole false y is other = absurd (false≢true is)

    was : (a : ℕ) → IsDirtyIn t a → IsDirtyIn s a × ((a / p == n) ≡ false)
    was a dirty =
        let both_parts = parts (is_among (dirty_of v) a) (a / p == n) (sym (told a) ∙ is_dirty w new t now a dirty) in
        (dirty_is v old s is a both_parts.0, both_parts.1)

    stays : (a : ℕ) → IsDirtyIn s a → (a / p == n) ≡ false → IsDirtyIn t a
    stays a dirty other = dirty_is w new t now a (told a ∙ whole (is_among (dirty_of v) a) (a / p == n) (is_dirty v old s is a dirty) other)

pub group_among : (p n : ℕ) (xs lbas items : List ℕ) → lbas ≡ items → items ≡ in_group p n xs → (a : ℕ) → is_among lbas a ≡ true → is_among xs a ≡ true
group_among p n xs lbas items are own a among = (and_parts (a / p == n) (is_among xs a) (sym (among_filter (λ k. k / p == n) xs a) ∙ sym (ap (λ (l : List ℕ). is_among l a) (are ∙ own)) ∙ among)).1

-- ---- the owed writes are put on the flash first

module _ (n : ℕ) (v u w : CachedDisk) (s m t : State) (r : Answer) (serves : Serves {T = Unit {0}} Flushes v u s m (Ok tt)) (none : AsksNoDisk s m) (no_write : list_any is_write (pending u.cache) ≡ false) (ready : u.cache.ready ≡ v.cache.ready)
    (held : (a : ℕ) → is_some (get (entries_of u.cache) a) ≡ is_some (get (entries_of v.cache) a)) (then : Proceeds n u w m t r) where
  told : told_of u ≡ told_of v
  told = (serves.goes []).told

  settled_owes : Owes w t.contents []
  settled_owes = by (is_down w) refl
    where
      by : (b : Bool) → is_down w ≡ b → Owes w t.contents []
      by true down = owes_down w t.contents down
      by false up = owes_none w t.contents (then.settled up) then.left

  settled_keeps : StaysOwing v w s.contents t.contents
  settled_keeps owed owes =
      let first = serves.keeps owed owes in
      let nothing = none_owed u m.contents first.0 no_write first.1 in
      ([], settled_owes, λ base stand. by owed first.0 base nothing (first.2 base stand))
    where
      over : (d : PlainDisk) → StandFor (ImageIs (told_of v)) m.contents d → StandFor (ImageIs (told_of v)) t.contents d
      over d stand = subst (λ (x : Told). StandFor (ImageIs x) t.contents d) told (then.stands d (subst (λ (x : Told). StandFor (ImageIs x) m.contents d) (sym told) stand))

      by : (owed left : List BlockWrite) (base : PlainDisk) → left ≡ [] → KeepsOwed (told_of v) m.contents (is_down u) owed left base → KeepsOwed (told_of v) t.contents (is_down w) owed [] base
      by owed left base nothing (inl same) = inl (sym nothing ∙ same.0, over base same.1)
      by owed left base nothing (inr (inl all)) = inr (inl (refl, over (after_writes owed base) all.1))
      by owed left base nothing (inr (inr down)) = absurd (both_ways (is_down u) (serves.goes []).up down.0)

  pub settled_back : WritesBack n v w s t r
  settled_back = record {
    left = then.left;
    keeps = settled_keeps;
    made = (then.made.0 ∙ serves.made.0, then.made.1 ∙ serves.made.1);
    reserved = then.reserved ∙ ready;
    held = λ up a. then.held up a ∙ held a;
    goes = λ was is. goes_then (state_in was v) (state_in was v) (state_in was u) (state_in is w) s m t r refl (serves.goes was) (then.goes was is) then.faulted;
    faulted = then.faulted;
    writes = record {
      exact = subst (λ (k : ℕ). OnOk r (RoseBy n k t.counts.disk_writes)) none.disk_writes then.writes.exact;
      most = let x = then.writes.most in let y = none.disk_writes in omega (arith, x, y);
      reads = then.writes.reads ∙ none.disk_reads;
    };
    within = then.within;
  }

  -- the blocks of the group are the same
  pub settled_dirty : dirty_of u ≡ dirty_of v
  settled_dirty = serves.dirty (serves.goes []).up

  pub settled_same : ((told_of v).ack ≡ AtWrite → u ≡ v) → OnErr r (is_down w ≡ false → w ≡ u) → OnErr r (is_down w ≡ false → StaysDirty v w)
  settled_same at_write same = on_err_weaker r (λ is up. record { dirty = ap (λ (x : CachedDisk). dirty_of x) (is up) ∙ settled_dirty; same = λ write. is up ∙ at_write write }) same

-- that failed
module _ (n : ℕ) (v u : CachedDisk) (s m : State) (e : VolumeError) (serves : Serves {T = Unit {0}} Flushes v u s m (Err e)) (none : AsksNoDisk s m) (ready : u.cache.ready ≡ v.cache.ready) (down : is_down u ≡ true) where
  pub unsettled_back : WritesBack n v u s m (Err e)
  unsettled_back = record {
    left = serves.left;
    keeps = serves.keeps;
    made = serves.made;
    reserved = ready;
    held = λ up a. absurd (both_ways (is_down u) up down);
    goes = λ was is. unsettled_goes was is;
    faulted = record { flash = λ is. down; disk = λ is. down };
    writes = record { exact = tt; most = let y = none.disk_writes in omega (arith, y); reads = none.disk_reads };
    within = serves.within;
  }
    where
      unsettled_goes : (was is : List ℕ) → Goes {T = Unit {0}} (state_in was v) (state_in is u) s m (Err e)
      unsettled_goes was is =
          let goes = serves.goes was in
          record {
            told = goes.told;
            up = tt;
            lost = goes.lost;
            memory = goes.memory;
            ready = goes.ready;
            disk = goes.disk;
            cause = goes.cause;
            passes = goes.passes;
          }

-- ---- the whole write-back

pub back_refused : (v w : CachedDisk) (r : Answer) → OnErr r (is_down w ≡ true) → OnErr r (is_down w ≡ false → w ≡ v)
back_refused v w (Ok done) down = tt
back_refused v w (Err e) down = λ up. absurd (both_ways (is_down w) up down)

-- if the volume stays up, only the disk has changed
pub still_same : (v w : CachedDisk) (r : Answer) → is_down v ≡ false → w ≡ record v { down = w.down } → OnErr r (is_down w ≡ false → w ≡ v)
still_same v w (Ok done) up same = tt
still_same v w (Err e) up same = λ now. same ∙ ap (λ (d : Bool). record v { down = d }) (first_false w.down w.cache.stopped now ∙ sym (first_false v.down v.cache.stopped up))
  where
    first_false : (a b : Bool) → (a || b) ≡ false → a ≡ false
    first_false true b is = is
    first_false false b is = refl

pub copy_failed : (v a : CachedDisk) (s t : State) (lbas items listed : List ℕ) → lbas ≡ items → items ≡ listed → (e : VolumeError) (r : Answer) → r ≡ Err e → Proceeds (length lbas) v a s t (Err e) → Proceeds (length listed) v a s t r
copy_failed v a s t lbas items listed are own e r is refused = proceeds_as (length listed) v a s t e r is (subst (λ (l : List ℕ). Proceeds (length l) v a s t (Err e)) (are ∙ own) refused)

module _ (v a b : CachedDisk) (s t u : State) (lbas items listed : List ℕ) (are : lbas ≡ items) (own : items ≡ listed) (copied : Proceeds (length lbas) v a s t (Ok tt)) where
  all_copied : Proceeds (length listed) v a s t (Ok tt)
  all_copied = subst (λ (l : List ℕ). Proceeds (length l) v a s t (Ok tt)) (are ∙ own) copied

  pub flush_failed : (e : VolumeError) (r : Answer) → r ≡ Err e → Proceeds 0 a b t u (Err e) → Proceeds (length listed) v b s u r
  flush_failed e r is flush = proceeds_refused v a b s t u (length listed) 0 all_copied (length listed) e r (omega arith) is flush

  pub back_whole : Proceeds 0 a b t u (Ok tt) → (w : CachedDisk) (x : State) (r : Answer) → Proceeds 0 b w u x r → Proceeds (length listed) v w s x r
  back_whole flush w x r clean =
      proceeds_then v b w s u x (length listed) 0 (proceeds_then v a b s t u (length listed) 0 all_copied (length listed) (Ok tt) (omega arith) flush) (length listed) r (omega arith) clean

pub back_cleaned : (m : ℕ) (v b w : CachedDisk) (s x : State) (r : Answer) (p n : ℕ) (lbas items : List ℕ) (left : IsLeft v s.contents) → is_down v ≡ false → b ≡ record v { down = b.down } → lbas ≡ items → items ≡ in_group p n (dirty_of v) → Proceeds m v w s x r
    → OnOk r ((a : ℕ) → is_among (dirty_of w) a ≡ (is_among (dirty_of b) a && not (is_among lbas a))) → OnOk r (dirty_of w ≡ out_of_group p n (dirty_of v))
back_cleaned m v b w s x (Ok done) p n lbas items left up same are own whole cleaned =
    group_cleaned v w s.contents x.contents left.held whole.left.held p n (left.up up) (whole.left.up (whole.goes [] []).up)
    (λ a. cleaned a ∙ ap₂ (λ (dirty listed : List ℕ). is_among dirty a && not (is_among listed a)) (ap (λ (k : CachedDisk). dirty_of k) same) (are ∙ own))
back_cleaned m v b w s x (Err e) p n lbas items left up same are own whole cleaned = tt
