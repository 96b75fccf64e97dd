-- The answers of a write, and the lists that it leaves, between two states of a cache that holds a list.
use Rattle.std.proofs.Common.{◌≡◌, ◌⊎◌, ℕ, ◌+◌, ◌-◌, ◌/◌, ◌<◌, ◌≤◌, Bool, true, false, List, [], ◌∷◌, ◌++◌, length, Option, Some, None, Err, refl, sym, ◌∙◌, ap, subst, arith, inl, inr}
use Rattle.std.specs.FinMap.{get, insert}
use Rattle.std.proofs.lemmas.Bool.{false≢true}
use Rattle.ft_base.specs.declared.block.Block.{Block}
use Rattle.ft_base.specs.declared.geometry.Geometry.{Geometry}
use Rattle.ft_base.specs.declared.block.Place.{Place}
use Rattle.ft_base.specs.declared.block.Page.{Page}
use Rattle.ft_base.specs.declared.record.Record.{Record}
use Rattle.ft_base.specs.declared.record.Record.TheVariants.{SetPage}
use Rattle.ft_base.specs.Contents.{Contents}
use Rattle.ft_base.specs.Layout.{log_pages, page_records}
use Rattle.ft_media.specs.Media.{program_counted}
use Rattle.ft_media.specs.declared.rig.Counts.{Counts}
use Rattle.ft_media.specs.declared.media.MediaError.{MediaError}
use Rattle.ft_media.specs.declared.media.MediaError.TheVariants as media
use Rattle.cache_model.specs.declared.entry.Entry.{Entry}
use Rattle.cache_model.specs.Records.{Entries}
use Rattle.cache_model.specs.Cache.{Buffered, Inserted, Written, IsLeftBy, written_block, IsFull, Vanish, dirty_groups, taken_back, undo, with_group, written_clean, written_dirty}
use Rattle.cache_model.specs.CacheList.{CacheList, Held}
use Rattle.mapping.specs.Numbers.{StandsNoneIn}
use Rattle.cache_model.proofs.UndoLemmas.{back_inserted, back_written, undo_own}
use Rattle.op_log.specs.Log.{LogValue}
use Rattle.log_blocks.specs.Logs.{LogBlocksValue}
use Rattle.merge_engine.specs.declared.parts.Parts.{Parts}
use Rattle.merge_engine.specs.Agreement.{PartsAgree, Lists}
use Rattle.merge_engine.specs.Steps.{HasLogBlock, HasRoomFor, dirty_groups_with}
use Rattle.merge_engine.proofs.RoomLemmas.{gave_vanish}
use Rattle.ssc.specs.declared.cache.Ssc.{Ssc}
use Rattle.ssc.specs.declared.error.SscError.{SscError}
use Rattle.ssc.specs.declared.error.SscError.TheVariants as error
use Rattle.ssc.specs.Errors.{of_media}
use Rattle.ssc.specs.CacheState.{Holds, HoldsBeside, entries_of, geometry_of, log_room, open_room, pending, shaped, waiting, waiting_as}
use Rattle.ssc.specs.Commands.{FullExactly, HoldsBuffered, HoldsWritten, ImagesOf, ImagesOfWrite, IsHeldIn, FlashStandsForOne, FlashStandsForWrite, AsUndone, AsLeft, AsWritten}
use Rattle.ssc.specs.Kept.{TakesNoMemory}
use Rattle.ssc.specs.Steps.{IsPushed, LeftOf, ListsAfter, PutsBlock, FlashStandsForStep, TakesLogPage}
use Rattle.ssc.proofs.DirtyLemmas.{with_same}
use Rattle.ssc.proofs.HoldsLemmas.{IsSettled, beside_committed, few_stepped, holds_alone, holds_behind, held_none, held_some, left_inserted, left_written}
use Rattle.ssc.proofs.NotedLemmas.{length_waiting, places_forgot, places_noted_too, waiting_push, writes_in}
use Rattle.ssc.proofs.StepLemmas.{records_put}
use Rattle.ssc.specs.Places.{places_kept, places_noted}
use Rattle.ssc.specs.declared.earlier.Before.{Before}
use Rattle.ssc.proofs.LosingLemmas.{StepLosing, WrittenLosing, committed_losing}
use Rattle.ssc.proofs.WrittenLemmas.{push_some, stays_absent}

-- ---- full

module _ (c : Ssc) (contents : Contents) (s : CacheList) (lba : ℕ) (holds : Holds c contents s) where
  count_is : length (with_group (lba / (geometry_of c).p) (dirty_groups (geometry_of c) s)) ≡ dirty_groups_with (geometry_of c) (entries_of c) lba
  count_is = with_same (geometry_of c) contents.flash.page (entries_of c) s holds.agree.sound.whole.whole holds.lists.held lba

  pub full_is : (T : Type 0) (n limit : ℕ) → dirty_groups_with (geometry_of c) (entries_of c) lba ≡ (geometry_of c).c + 1 → n ≡ (geometry_of c).c + 1 → limit ≡ (geometry_of c).c → FullExactly (geometry_of c) s lba {T = T} (Err (error.Full n limit))
  full_is T n limit full n_is limit_is = let same = count_is in (omega arith, n_is ∙ sym full ∙ sym same, limit_is)

  pub not_full : HasRoomFor (geometry_of c) (entries_of c) lba → IsFull (geometry_of c) s lba → ⊥
  not_full room full = let same = count_is in absurd (omega arith)

  failed_exactly : (T : Type 0) (e : MediaError) → HasRoomFor (geometry_of c) (entries_of c) lba → FullExactly (geometry_of c) s lba {T = T} (Err (of_media e))
  failed_exactly T media.Failed room = not_full room
  failed_exactly T media.PowerLost room = not_full room
  failed_exactly T media.OutOfMemory room = not_full room

  pub not_full_from : (T : Type 0) (r : SscError) (e : MediaError) → r ≡ of_media e → HasRoomFor (geometry_of c) (entries_of c) lba → FullExactly (geometry_of c) s lba {T = T} (Err r)
  not_full_from T r e is room = subst (λ (r : SscError). FullExactly (geometry_of c) s lba {T = T} (Err r)) (sym is) (failed_exactly T e room)

-- ---- images

image_written : (g : Geometry) (page : Place → Page) (undone before : CacheList) (a : ℕ) (step : CacheList → CacheList) → FlashStandsForStep g page undone before step → FlashStandsForWrite g page undone before a step
image_written g page undone before a step (inl s) = AsUndone s
image_written g page undone before a step (inr (v, gives, inl s)) = AsLeft v (gave_vanish g before v a gives) s
image_written g page undone before a step (inr (v, gives, inr s)) = AsWritten v (gave_vanish g before v a gives) s

-- a fact that holds of the pages now holds of each image
pub images_written : (old r : Ssc) (contents : Contents) (undone s : CacheList) (a : ℕ) (step : CacheList → CacheList) → geometry_of r ≡ geometry_of old → FlashStandsForStep (geometry_of r) contents.flash.page undone s step → ImagesOfWrite old contents undone s a step
images_written old r contents undone s a step same stands x now =
    subst (λ (p : Place → Page). FlashStandsForWrite (geometry_of old) p undone s a step) (sym now.pages)
    (image_written (geometry_of old) contents.flash.page undone s a step
    (subst (λ (g : Geometry). FlashStandsForStep g contents.flash.page undone s step) same stands))

-- if nothing could give way
pub images_kept : (old r : Ssc) (contents : Contents) (undone s after : CacheList) → geometry_of r ≡ geometry_of old → FlashStandsForOne (geometry_of r) contents.flash.page undone s after → ImagesOf old contents undone s after
images_kept old r contents undone s after same stands x now =
    subst (λ (p : Place → Page). FlashStandsForOne (geometry_of old) p undone s after) (sym now.pages)
    (subst (λ (g : Geometry). FlashStandsForOne g contents.flash.page undone s after) same stands)

-- the list on the flash, and the list without the changes that wait
pub lists_beside : (c : Ssc) (contents : Contents) (s : CacheList) (beside : List Buffered) → HoldsBeside c contents s beside → Lists c.parts contents.flash.page s (undo beside s)
lists_beside c contents s beside k = subst (λ (q : List Buffered). Lists c.parts contents.flash.page s (undo q s)) k.same k.holds.lists

-- ---- the list that the cache holds

-- the cache holds the list after the step, which was made on the list that is left
abbrev pub HoldsLeft : Parts → Ssc → Contents → CacheList → (CacheList → CacheList) → Type 0
HoldsLeft parts new contents s step = (v : CacheList) × LeftOf parts s v × Holds new contents (step v)

-- and a crash would leave the list that it would have left before, or the list before the step, or the list after it
abbrev pub HoldsLosing : Parts → Ssc → Contents → CacheList → CacheList → (CacheList → CacheList) → Type 0
HoldsLosing parts new contents s undone step = (v : CacheList) × LeftOf parts s v × StepLosing new contents v undone (step v)

-- and the step waits
abbrev pub HoldsLater : Parts → Ssc → Contents → CacheList → List Buffered → (CacheList → CacheList) → (CacheList → Buffered) → Type 0
HoldsLater parts new contents s beside step own = (v : CacheList) × LeftOf parts s v × (now : Holds new contents (step v))
    × (((v ≡ s) × (now.waiting ≡ beside ++ own v ∷ [])) ⊎ (now.waiting ≡ own v ∷ []) ⊎ (now.waiting ≡ []))

module _ (parts : Parts) (new : Ssc) (contents : Contents) (s : CacheList) (step : CacheList → CacheList) where
  vanished : (a : ℕ) → geometry_of new ≡ parts.geometry → (v : CacheList) → LeftOf parts s v → Vanish (geometry_of new) s a v
  vanished a same v left = subst (λ (g : Geometry). Vanish g s a v) (sym same) (gave_vanish parts.geometry s v a left.gives)

  pub written_from : (a : ℕ) → geometry_of new ≡ parts.geometry → HoldsLeft parts new contents s step → HoldsWritten new contents s a step
  written_from a same x = record { left = x.0; vanish = vanished a same x.0 x.1; holds = x.2 }

  pub inside_from : HasLogBlock parts → HoldsLeft parts new contents s step → Holds new contents (step s)
  inside_from room x = subst (λ (v : CacheList). Holds new contents (step v)) (x.1.inside room) x.2

  pub losing_from : (a : ℕ) (q beside : List Buffered) → q ≡ beside → geometry_of new ≡ parts.geometry → HoldsLosing parts new contents s (undo q s) step → WrittenLosing new contents s (undo beside s) a step
  losing_from a q beside is same x = record {
    left = x.0;
    vanish = vanished a same x.0 x.1;
    losing = subst (λ (l : List Buffered). StepLosing new contents x.0 (undo l s) (step x.0)) is x.2;
  }

  module _ (own : CacheList → Buffered) where
    pub buffered_from : (a : ℕ) (q beside : List Buffered) → q ≡ beside → geometry_of new ≡ parts.geometry → HoldsLater parts new contents s q step own → HoldsBuffered new contents s beside a step own
    buffered_from a q beside is same x = subst (λ (l : List Buffered). HoldsBuffered new contents s l a step own) is (record {
      left = x.0;
      vanish = vanished a same x.0 x.1;
      holds = x.2;
      pends = x.3;
    })

    -- the list that a crash leaves then
    pub later_losing : (q : List Buffered) → ((v : CacheList) → LeftOf parts s v → taken_back (own v) (step v) ≡ v) → HoldsLater parts new contents s q step own → HoldsLosing parts new contents s (undo q s) step
    later_losing q back (v, left, now, inl k) = (
      v,
      left,
      record {
        holds = now;
        loses = inl (ap (λ (l : List Buffered). undo l (step v)) k.1 ∙ undo_own q (own v) v (step v) (back v left) ∙ ap (undo q) k.0);
      },
    )
    later_losing q back (v, left, now, inr (inl k)) = (v, left, record { holds = now; loses = inr (inl (ap (λ (l : List Buffered). undo l (step v)) k ∙ back v left)) })
    later_losing q back (v, left, now, inr (inr k)) = (v, left, record { holds = now; loses = inr (inr (ap (λ (l : List Buffered). undo l (step v)) k)) })

-- the memory of the next write is yet to be taken
pub settled_unready : (old new : Ssc) (before after : Contents) (s : CacheList) → Holds old before s → new.ready ≡ false → PartsAgree new.parts after → TakesNoMemory old.parts new.parts → IsSettled new after
settled_unready old new before after s holds unready agree step = record {
  agree = agree;
  memory = λ t. absurd (false≢true (sym unready ∙ t));
  few = few_stepped old.parts new.parts before after holds.agree agree step holds.few;
}

-- all changes are committed
pub left_committed : (parts : Parts) (new : Ssc) (contents : Contents) (s undone : CacheList) (lba : ℕ) (block : Held) → IsSettled new contents → new.parts.log.buffered ≡ [] → length new.before ≡ 0
    → (v : CacheList) × LeftOf parts s v × Lists new.parts contents.flash.page (insert v lba block) (insert v lba block)
    → HoldsLosing parts new contents s undone (λ v. insert v lba block)
left_committed parts new contents s undone lba block settled none places x =
    (x.0, x.1, committed_losing new contents x.0 undone (insert x.0 lba block) (beside_committed new contents (insert x.0 lba block) settled none places x.2))

same_of : (parts : Parts) (s : CacheList) → LeftOf parts s s
same_of parts s = record { gives = inl refl; inside = λ room. refl }

-- a block that is put may wait, if that can be taken back
module _ (r new : Ssc) (contents contents' : Contents) (s : CacheList) (lba : ℕ) (block : Block) (dirty : Bool) (h : Holds r contents s) (settled : IsSettled new contents')
    (few : length new.parts.log.buffered < page_records new.parts.log.geometry) (places : length new.before ≡ writes_in new.parts.log.buffered) where
  abbrev put : CacheList → CacheList
  put v = insert v lba (written_block lba block dirty)

  module _ (own : CacheList → Buffered) (shape : (v : CacheList) (at : Place) → shaped (own v) ≡ waiting_as (SetPage lba at dirty))
      (back : (v : CacheList) → LeftOf r.parts s v → taken_back (own v) (put v) ≡ v) (left_by : (v : CacheList) → IsLeftBy (own v) (put v)) where
    alone_on : (v : CacheList) (at : Place) → LeftOf r.parts s v → new.parts.log.buffered ≡ SetPage lba at dirty ∷ [] → Lists new.parts contents'.flash.page (put v) v → HoldsLater r.parts new contents' s h.waiting put own
    alone_on v at left is lists =
        let now = holds_alone v (put v) (SetPage lba at dirty) (own v) refl (shape v at) (back v left) (left_by v) new contents' settled places is lists in
        (v, left, now.holds, inr (inl now.same))

    none_on : (v : CacheList) → LeftOf r.parts s v → new.parts.log.buffered ≡ [] → Lists new.parts contents'.flash.page (put v) (put v) → HoldsLater r.parts new contents' s h.waiting put own
    none_on v left is lists =
        let now = beside_committed new contents' (put v) settled is (places ∙ ap writes_in is) lists in
        (v, left, now.holds, inr (inr now.same))

    pub left_later : PutsBlock r.parts lba (written_block lba block dirty) new.parts contents'.flash.page (undo h.waiting s) s → HoldsLater r.parts new contents' s h.waiting put own
    left_later (at, inl (inl k)) =
        let now = holds_behind s (put s) (SetPage lba at dirty) (own s) refl (shape s at) (back s (same_of r.parts s)) (left_by s) r new contents contents' h settled few places k.0 k.1 in
        (s, same_of r.parts s, now.holds, inl (refl, now.same))
    left_later (at, inl (inr (inl k))) = alone_on s at (same_of r.parts s) k.0 k.1
    left_later (at, inl (inr (inr k))) = none_on s (same_of r.parts s) k.0 k.1
    left_later (at, inr (v, left, inl k)) = alone_on v at left k.0 k.1
    left_later (at, inr (v, left, inr (inl k))) = alone_on v at left k.0 k.1
    left_later (at, inr (v, left, inr (inr k))) = none_on v left k.0 k.1

-- a later write, over whatever was there
module _ (r new : Ssc) (contents contents' : Contents) (s : CacheList) (lba : ℕ) (block : Block) (h : Holds r contents s) (settled : IsSettled new contents')
    (few : length new.parts.log.buffered < page_records new.parts.log.geometry) (places : length new.before ≡ writes_in new.parts.log.buffered) where
  abbrev over : CacheList → Buffered
  over v = Written lba (get v lba)

  pub left_written_later : PutsBlock r.parts lba (written_block lba block true) new.parts contents'.flash.page (undo h.waiting s) s → HoldsLater r.parts new contents' s h.waiting (written_dirty lba block) over
  left_written_later = left_later r new contents contents' s lba block true h settled few places over (λ v at. refl) (λ v left. back_written v lba block) (λ v. left_written v lba block (get v lba))

  pub written_losing : HoldsLater r.parts new contents' s h.waiting (written_dirty lba block) over → HoldsLosing r.parts new contents' s (undo h.waiting s) (written_dirty lba block)
  written_losing = later_losing r.parts new contents' s (written_dirty lba block) over h.waiting (λ v left. back_written v lba block)

-- a clean block at an address that was absent may wait
module _ (r new : Ssc) (contents contents' : Contents) (s : CacheList) (lba : ℕ) (block : Block) (h : Holds r contents s) (settled : IsSettled new contents')
    (few : length new.parts.log.buffered < page_records new.parts.log.geometry) (places : length new.before ≡ writes_in new.parts.log.buffered) where
  back_absent : get s lba ≡ None → (v : CacheList) → LeftOf r.parts s v → taken_back (Inserted lba) (written_clean lba block v) ≡ v
  back_absent absent v left = back_inserted v lba block (stays_absent (geometry_of r) s v left.gives lba absent)

  pub left_absent : get s lba ≡ None → PutsBlock r.parts lba (written_block lba block false) new.parts contents'.flash.page (undo h.waiting s) s → HoldsLater r.parts new contents' s h.waiting (written_clean lba block) (λ v. Inserted lba)
  left_absent absent = left_later r new contents contents' s lba block false h settled few places (λ v. Inserted lba) (λ v at. refl) (back_absent absent) (λ v. left_inserted v lba block)

  none_after : (buffered : List Record) (own : Record) (d before l : CacheList) → new.parts.log.buffered ≡ [] → ListsAfter buffered own new.parts contents'.flash.page d before l → Lists new.parts contents'.flash.page l l
  none_after buffered own d before l none (inl k) = absurd (push_some buffered own (sym k.0 ∙ none))
  none_after buffered own d before l none (inr (inl k)) = absurd (push_some [] own (sym k.0 ∙ none))
  none_after buffered own d before l none (inr (inr k)) = k.1

  -- over a held block it was committed
  pub left_held : (undone : CacheList) → new.parts.log.buffered ≡ [] → PutsBlock r.parts lba (written_block lba block false) new.parts contents'.flash.page (undo h.waiting s) s → HoldsLosing r.parts new contents' s undone (written_clean lba block)
  left_held undone none puts = left_committed r.parts new contents' s undone lba (written_block lba block false) settled none (places ∙ ap writes_in none) (by puts)
    where
      by : PutsBlock r.parts lba (written_block lba block false) new.parts contents'.flash.page (undo h.waiting s) s → (v : CacheList) × LeftOf r.parts s v × Lists new.parts contents'.flash.page (written_clean lba block v) (written_clean lba block v)
      by (at, inl after) = (s, same_of r.parts s, none_after r.parts.log.buffered (SetPage lba at false) (undo h.waiting s) s (written_clean lba block s) none after)
      by (at, inr (v, left, after)) = (v, left, none_after [] (SetPage lba at false) v v (written_clean lba block v) none after)

  pub left_clean : ((e : Entry) → get (entries_of r) lba ≡ Some e → new.parts.log.buffered ≡ []) → (get (entries_of r) lba ≡ None → get s lba ≡ None)
      → PutsBlock r.parts lba (written_block lba block false) new.parts contents'.flash.page (undo h.waiting s) s → HoldsLosing r.parts new contents' s (undo h.waiting s) (written_clean lba block)
  left_clean over absent puts = by (get (entries_of r) lba) refl
    where
      by : (o : Option Entry) → get (entries_of r) lba ≡ o → HoldsLosing r.parts new contents' s (undo h.waiting s) (written_clean lba block)
      by None is = later_losing r.parts new contents' s (written_clean lba block) (λ v. Inserted lba) h.waiting (back_absent (absent is)) (left_absent (absent is) puts)
      by (Some e) is = left_held (undo h.waiting s) (over e is) puts

-- the places that are kept then are as many as the writes
module _ (old new : Parts) (contents : Contents) (lba : ℕ) (block : Block) where
  pub ring_noted : (before : Option Before) (was places : List (Option Before)) (list durable : CacheList) → length was ≡ writes_in old.log.buffered → places ≡ places_noted (length new.log.buffered) before was
      → PutsBlock old lba (written_block lba block true) new contents.flash.page durable list → length places ≡ writes_in new.log.buffered
  ring_noted before was places list durable count is puts =
      let after = records_put old lba (written_block lba block true) new contents.flash.page durable list puts in
      places_noted_too old.log.buffered new.log.buffered (SetPage lba after.0 true) was places count refl before is after.1

  pub ring_forgot : (was places : List (Option Before)) (list durable : CacheList) → length was ≡ writes_in old.log.buffered → places ≡ places_kept (length new.log.buffered) was
      → PutsBlock old lba (written_block lba block false) new contents.flash.page durable list → length places ≡ writes_in new.log.buffered
  ring_forgot was places list durable count is puts =
      let after = records_put old lba (written_block lba block false) new contents.flash.page durable list puts in
      places_forgot old.log.buffered new.log.buffered (SetPage lba after.0 false) was places count refl is after.1

-- on the list that is left
pub left_of : (parts : Parts) (new : Ssc) (contents : Contents) (s undone : CacheList) (step : CacheList → CacheList) → HoldsLosing parts new contents s undone step → HoldsLeft parts new contents s step
left_of parts new contents s undone step x = (x.0, x.1, x.2.holds)

-- ---- the changes that are buffered after that

pub one_pends : (old r new : Ssc) (lba : ℕ) (dirty : Bool) (a b : Counts) → r.parts.log ≡ old.parts.log → IsPushed r.parts lba dirty new.parts × (b ≡ program_counted a)
    → (b ≡ program_counted a) × ((at : Place) × (pending new ≡ pending old ++ waiting_as (SetPage lba at dirty) ∷ []))
one_pends old r new lba dirty a b same pushed = (
  pushed.1,
  (
    pushed.0.0,
    ap (λ (l : LogValue). waiting l.buffered) pushed.0.1 ∙ waiting_push r.parts.log.buffered (SetPage lba pushed.0.0 dirty)
        ∙ ap (λ (l : LogValue). waiting l.buffered ++ waiting_as (SetPage lba pushed.0.0 dirty) ∷ []) same,
  ),
)

-- ---- an address and its entry

pub none_of_absent : (r : Ssc) (contents : Contents) (s : CacheList) (lba : ℕ) → Holds r contents s → get s lba ≡ None → get (entries_of r) lba ≡ None
none_of_absent r contents s lba holds none = by (get (entries_of r) lba) refl
  where
    by : (o : Option Entry) → get (entries_of r) lba ≡ o → get (entries_of r) lba ≡ None
    by None is = is
    by (Some e) is = let h = held_some r contents s lba e holds is in absurd (let both : None ≡ Some h.0 = sym none ∙ h.1 in cc)

-- an address that is held has an entry
pub over_held : (r new : Ssc) (contents : Contents) (s : CacheList) (lba : ℕ) → Holds r contents s → IsHeldIn s lba → ((e : Entry) → get (entries_of r) lba ≡ Some e → new.parts.log.buffered ≡ []) → pending new ≡ []
over_held r new contents s lba holds there over = by (get (entries_of r) lba) refl
  where
    by : (o : Option Entry) → get (entries_of r) lba ≡ o → pending new ≡ []
    by None is = absurd (let both : None ≡ Some there.0 = sym (held_none r contents s lba holds is) ∙ there.1 in cc)
    by (Some e) is = ap waiting (over e is)

-- ---- the memory was taken, and all else is unchanged

pub log_left : (old r : Ssc) → r.parts ≡ record old.parts { map = r.parts.map } → 1 ≤ log_room old → r.parts.log.next < log_pages r.parts.geometry
log_left old r is left =
    let next : r.parts.log.next ≡ old.parts.log.next = ap (λ (p : Parts). p.log.next) is in
    let pages : log_pages r.parts.geometry ≡ log_pages old.parts.geometry = ap (λ (p : Parts). log_pages p.geometry) is in
    omega arith

pub room_left : (old r : Ssc) → r.parts ≡ record old.parts { map = r.parts.map } → 1 ≤ open_room old → 1 ≤ r.parts.log_blocks.room
room_left old r is room = let same : r.parts.log_blocks.room ≡ old.parts.log_blocks.room = ap (λ (p : Parts). p.log_blocks.room) is in omega arith

pub page_from : (old mid new : Parts) → mid ≡ record old { map = mid.map } → TakesLogPage mid new → TakesLogPage old new
page_from old mid new is takes =
    let same : mid.log_blocks ≡ old.log_blocks = ap (λ (p : Parts). p.log_blocks) is in
    let own : mid.geometry ≡ old.geometry = ap (λ (p : Parts). p.geometry) is in
    record {
      inside = subst (λ (l : LogBlocksValue). 1 ≤ l.room → new.log_blocks ≡ record l { room = l.room - 1 }) same takes.inside;
      opened = λ none. takes.opened (ap (λ (l : LogBlocksValue). l.room) same ∙ none) ∙ ap (λ (g : Geometry). g.p) own;
    }

-- a log block still is available without a merge
pub log_room_left : (old r : Ssc) → r.parts ≡ record old.parts { map = r.parts.map } → entries_of r ≡ entries_of old → HasLogBlock old.parts → HasLogBlock r.parts
log_room_left old r is same room = subst (λ (p : Parts). HasLogBlock p) (sym is) (by room)
  where
    by : HasLogBlock old.parts → HasLogBlock (record old.parts { map = r.parts.map })
    by (inl some) = inl some
    by (inr (inl few)) = inr (inl few)
    by (inr (inr one)) = inr (inr (one.0, one.1, subst (λ (m : Entries). StandsNoneIn m one.0) (sym same) one.2))

pub few_left : (old r : Ssc) → r.parts ≡ record old.parts { map = r.parts.map } → old.parts.log.geometry ≡ geometry_of old → length (pending old) + 2 ≤ page_records (geometry_of old)
    → length r.parts.log.buffered + 2 ≤ page_records r.parts.log.geometry
few_left old r is own few =
    let same : length r.parts.log.buffered ≡ length old.parts.log.buffered = ap (λ (p : Parts). length p.log.buffered) is in
    let room : page_records r.parts.log.geometry ≡ page_records (geometry_of old) = ap (λ (p : Parts). page_records p.log.geometry) is ∙ ap page_records own in
    omega (arith, length_waiting old.parts.log.buffered)

pub room_for : (old r : Ssc) (lba : ℕ) → geometry_of r ≡ geometry_of old → entries_of r ≡ entries_of old → HasRoomFor (geometry_of old) (entries_of old) lba → HasRoomFor (geometry_of r) (entries_of r) lba
room_for old r lba same entries room = subst (λ (g : Geometry). HasRoomFor g (entries_of r) lba) (sym same) (subst (λ (m : Entries). HasRoomFor (geometry_of old) m lba) (sym entries) room)
