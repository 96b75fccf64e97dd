-- The changes that are buffered between two commands, and the list without them.
use Rattle.std.proofs.Common.{◌≡◌, ◌⊎◌, ℕ, max, ◌+◌, ◌<◌, ◌≤◌, ◌==◌, Bool, true, false, cond, List, [], ◌∷◌, ◌++◌, length, map, Option, Some, None, refl, sym, ◌∙◌, ap, subst, arith, inl, inr, length-append, count_by}
use Rattle.std.proofs.Math.Nat.{le-max_right}
use Rattle.std.specs.Option.{option_and_then, option_map}
use Rattle.std.specs.List.{list_all, list_any}
use Rattle.std.specs.FinMap.{get, insert}
use Rattle.std.proofs.lemmas.Bool.{false≢true, and_from}
use Rattle.std.proofs.lemmas.List.Sums.{count_by-le-length}
use Rattle.ft_base.specs.declared.block.Block.{Block}
use Rattle.ft_base.specs.declared.block.Place.{Place}
use Rattle.ft_base.specs.declared.block.Page.{Page}
use Rattle.ft_base.specs.declared.geometry.Geometry.{Geometry}
use Rattle.ft_base.specs.declared.record.Record.{Record}
use Rattle.ft_base.specs.declared.record.Record.TheVariants.{SetPage, Clean}
use Rattle.ft_base.specs.Contents.{Contents}
use Rattle.ft_base.specs.Layout.{most_page_records, page_records}
use Rattle.ft_base.proofs.LayoutLemmas.{q_most, q_some}
use Rattle.cache_model.specs.declared.entry.Entry.{Entry}
use Rattle.cache_model.specs.Cache.{written_block, Buffered, Inserted, Cleaned, Written, IsLeftBy, MayWait, taken_back, undo, is_write, written_clean, written_dirty, made_clean, marked_as}
use Rattle.cache_model.specs.CacheList.{Held, held, CacheList}
use Rattle.cache_model.specs.Entries.{IsMap}
use Rattle.cache_model.specs.Stands.{FlashStandsFor, held_at}
use Rattle.cache_model.proofs.StandLemmas.{whole_held}
use Rattle.cache_model.proofs.MapLemmas.{get_insert}
use Rattle.cache_model.proofs.CountLemmas.{same_number}
use Rattle.cache_model.proofs.UndoLemmas.{undone_at, undo_own, left_push, back_inserted, back_cleaned, back_written, get_marked}
use Rattle.mapping.specs.MapValue.{MapValue}
use Rattle.mapping.specs.Room.{GrewForPages, HasFewBuckets, most_groups}
use Rattle.mapping.proofs.FewLemmas.{few_kept, few_of_block, few_refused, keeps_reserved, IsReserved}
use Rattle.merge_engine.specs.declared.parts.Parts.{Parts}
use Rattle.merge_engine.specs.Agreement.{PartsAgree, IsListOn, Lists}
use Rattle.merge_engine.proofs.ReservedLemmas.{agree_reserved}
use Rattle.merge_engine.proofs.TakeLemmas.{agree_map}
use Rattle.ssc.specs.declared.cache.Ssc.{Ssc}
use Rattle.ssc.specs.declared.earlier.Before.{Before}
use Rattle.ssc.specs.CacheState.{HasMemory, Holds, HoldsBeside, entries_of, geometry_of, may_wait, shaped, waiting_as, waiting, pending}
use Rattle.ssc.specs.Commands.{HoldsPending, PendsWith}
use Rattle.ssc.specs.Kept.{TakesNoMemory}
use Rattle.ssc.specs.Steps.{ListsAfter}
pub use Rattle.ssc.proofs.NotedLemmas.{length_waiting, waiting-none, waiting_push}
use Rattle.ssc.proofs.NotedLemmas.{kinds_push, shapes_push, length_shapes, none_shaped, shapes_tell, writes_in}

-- ---- the changes that wait

pub few_buffered : (c : Ssc) (contents : Contents) (s : CacheList) → Holds c contents s → length c.parts.log.buffered < page_records c.parts.log.geometry
few_buffered c contents s holds =
    let few = holds.waits.few in
    let same = length_shapes holds.waiting c.parts.log.buffered holds.shapes in
    let own = ap page_records holds.agree.sound.of_one.log in
    omega (arith, few, same, own)

-- there is room for one more place
pub room_noted : (c : Ssc) (contents : Contents) (s : CacheList) → Holds c contents s → length c.before < most_page_records
room_noted c contents s holds =
    let few = few_buffered c contents s holds in
    let most = q_most c.parts.log.geometry in
    let writes = count_by-le-length is_write (pending c) in
    let places = holds.places in
    let same = length_waiting c.parts.log.buffered in
    omega (arith, few, most, writes, places, same)

-- if nothing is buffered, nothing waits
pub nothing_waits : (c : Ssc) (contents : Contents) (s : CacheList) (h : Holds c contents s) → pending c ≡ [] → h.waiting ≡ []
nothing_waits c contents s h none = none_shaped h.waiting (h.shapes ∙ none)

no_items : (l : List (Option Before)) → length l ≡ 0 → l ≡ []
no_items [] none = refl
no_items (x ∷ xs) none = absurd (omega (arith, none))

-- and no place is kept
pub no_places : (c : Ssc) (contents : Contents) (s : CacheList) → Holds c contents s → pending c ≡ [] → c.before ≡ []
no_places c contents s h none = no_items c.before (h.places ∙ ap (count_by is_write) none)

-- if no write is buffered, the changes that wait are the ones of the log
pub same_waiting : (c : Ssc) (contents : Contents) (s : CacheList) (h : Holds c contents s) → list_any is_write (pending c) ≡ false → h.waiting ≡ pending c
same_waiting c contents s h none = shapes_tell h.waiting (ap (list_any is_write) h.shapes ∙ none) ∙ h.shapes

-- an absent address is still absent once the buffered changes are undone, if none of them is a write
pub undone_none : (q : List Buffered) (a : ℕ) → list_any is_write q ≡ false → undone_at q a None ≡ None
undone_none [] a none = refl
undone_none (Inserted k ∷ q) a none = ap (λ (o : Option Held). cond (a == k) None o) (undone_none q a none) ∙ either_way (a == k)
  where
    either_way : (b : Bool) → cond {A = Option Held} b None None ≡ None
    either_way true = refl
    either_way false = refl
undone_none (Cleaned k ∷ q) a none = ap (λ (o : Option Held). cond (a == k) (option_map (marked_as true) o) o) (undone_none q a none) ∙ either_way (a == k)
  where
    either_way : (b : Bool) → cond b (option_map (marked_as true) None) None ≡ None
    either_way true = refl
    either_way false = refl
undone_none (Written k old ∷ q) a none = absurd (false≢true (sym none))

waits_none : (g : Geometry) (s : CacheList) → MayWait g [] s
waits_none g s = record { left = tt; few = omega (arith, q_some g) }

waits_push : (g g' : Geometry) (q : List Buffered) (own : Buffered) (s s' : CacheList) → taken_back own s' ≡ s → IsLeftBy own s' → length q + 1 < page_records g' → MayWait g q s → MayWait g' (q ++ own ∷ []) s'
waits_push g g' q own s s' back is few waits = record {
  left = left_push q own s s' back is waits.left;
  few = omega (arith, few, length-append q (own ∷ []));
}

-- ---- the cache between two commands

-- the parts agree with the flash, the memory of a write is ready if the cache says so, and the buckets are few
pub record IsSettled (c : Ssc) (contents : Contents) : Type 0 where
  pub agree : PartsAgree c.parts contents
  pub memory : c.ready ≡ true → HasMemory c.parts
  pub few : HasFewBuckets c.parts.map

-- a step that changes only the log leaves the memory
pub memory_logged : (old new : Parts) → new ≡ record old { log = new.log } → HasMemory old → HasMemory new
memory_logged old new is memory = subst HasMemory (sym is) (record { pages = memory.pages; groups = memory.groups })

-- it also leaves the buckets
pub few_logged : (old new : Parts) → new ≡ record old { log = new.log } → HasFewBuckets old.map → HasFewBuckets new.map
few_logged old new is few = subst (λ (m : MapValue). HasFewBuckets m) (sym (ap (λ (p : Parts). p.map) is)) few

-- the cache after an opening, once its checkpoint is made
pub settled_opened : (c : Ssc) (contents : Contents) → c.ready ≡ false → PartsAgree c.parts contents → (parts : Parts) (map : MapValue) → c.parts ≡ record parts { log = c.parts.log } → parts.map ≡ map → HasFewBuckets map → IsSettled c contents
settled_opened c contents unready agree parts map is same few = record {
  agree = agree;
  memory = λ ready. absurd (false≢true (sym unready ∙ ready));
  few = few_logged parts c.parts is (subst (λ (m : MapValue). HasFewBuckets m) (sym same) few);
}

-- a step that takes no memory leaves the buckets few
pub few_stepped : (old new : Parts) (before after : Contents) → PartsAgree old before → PartsAgree new after → TakesNoMemory old new → HasFewBuckets old.map → HasFewBuckets new.map
few_stepped old new before after was now step few =
    few_kept old.map new.map (now.sound.of_one.map ∙ step.geometry ∙ sym was.sound.of_one.map) step.room step.buckets few

-- the cache asked for the memory of a write, and only the map may have changed
pub holds_reserved : (old new : Ssc) (contents : Contents) (s : CacheList) → new.parts ≡ record old.parts { map = new.parts.map } → new.before ≡ old.before → new.parts.map.geometry ≡ old.parts.map.geometry → entries_of new ≡ entries_of old
    → (new.ready ≡ true → HasMemory new.parts) → HasFewBuckets new.parts.map → (h : Holds old contents s) → HoldsBeside new contents s h.waiting
holds_reserved old new contents s is places same entries memory few holds =
    let buffered : new.parts.log.buffered ≡ old.parts.log.buffered = ap (λ (p : Parts). p.log.buffered) is in
    let own : geometry_of new ≡ geometry_of old = ap (λ (p : Parts). p.geometry) is in
    record {
      holds = record {
        agree = agree_reserved old.parts new.parts contents is same entries holds.agree;
        waiting = holds.waiting;
        shapes = holds.shapes ∙ ap waiting (sym buffered);
        kinds = subst (λ (l : List Record). list_all may_wait l ≡ true) (sym buffered) holds.kinds;
        lists = record {
          held = subst (λ m. IsListOn contents.flash.page m s) (sym entries) holds.lists.held;
          stands = subst (λ (g : Geometry). FlashStandsFor g contents.flash.page (undo holds.waiting s)) (sym own) holds.lists.stands;
        };
        waits = subst (λ (g : Geometry). MayWait g holds.waiting s) (sym own) holds.waits;
        memory = memory;
        few = few;
        places = ap length places ∙ holds.places ∙ ap writes_in (sym buffered);
      };
      same = refl;
    }

-- a map over one geometry is a map of it
own_map : (parts : Parts) (contents : Contents) → PartsAgree parts contents → IsMap parts.map.geometry parts.map.entries
own_map parts contents agree = subst (λ (g : Geometry). IsMap g parts.map.entries) (sym agree.sound.of_one.map) (agree_map parts contents agree)

-- the memory was given
pub holds_taken : (old new : Ssc) (contents : Contents) (s : CacheList) → new.parts ≡ record old.parts { map = new.parts.map } → new.before ≡ old.before → IsReserved 1 old.parts.geometry.p old.parts.map new.parts.map → (h : Holds old contents s) → HoldsBeside new contents s h.waiting
holds_taken old new contents s is places taken holds =
    let pages = le-max_right old.parts.map.spare_pages 1 in
    let groups = le-max_right old.parts.map.spare_groups old.parts.geometry.p in
    let own : new.parts.geometry ≡ old.parts.geometry = ap (λ (p : Parts). p.geometry) is in
    holds_reserved old new contents s is places taken.geometry taken.entries
    (λ ready. record {
      pages = subst (λ n. 1 ≤ n) (sym taken.pages) pages;
      groups = subst (λ (g : Geometry). g.p ≤ new.parts.map.spare_groups) (sym own) (subst (λ n. old.parts.geometry.p ≤ n) (sym taken.groups) groups);
    })
    ((keeps_reserved 1 old.parts.geometry.p old.parts.map new.parts.map (omega arith) (subst (λ (g : Geometry). old.parts.geometry.p ≤ most_groups g) (sym holds.agree.sound.of_one.map) (few_of_block old.parts.geometry)) taken).few (own_map old.parts contents holds.agree) holds.few) holds

-- the memory was refused
pub holds_refused : (old new : Ssc) (contents : Contents) (s : CacheList) → new.parts ≡ record old.parts { map = new.parts.map } → new.before ≡ old.before → new.ready ≡ false → new.parts.map.geometry ≡ old.parts.map.geometry → entries_of new ≡ entries_of old
    → new.parts.map.spare_pages ≡ old.parts.map.spare_pages → new.parts.map.spare_groups ≡ old.parts.map.spare_groups
    → (new.parts.map.buckets ≡ old.parts.map.buckets) ⊎ GrewForPages old.parts.map new.parts.map (max old.parts.map.spare_pages 1) → new.parts.map.group_buckets ≡ old.parts.map.group_buckets
    → (h : Holds old contents s) → HoldsBeside new contents s h.waiting
holds_refused old new contents s is places unready same entries pages groups buckets group_buckets holds =
    holds_reserved old new contents s is places same entries (λ ready. absurd (false≢true (sym unready ∙ ready)))
    (few_refused 1 old.parts.map new.parts.map (omega arith) (own_map old.parts contents holds.agree) same pages groups buckets group_buckets holds.few) holds

holds_from : (c : Ssc) (contents : Contents) (s durable : CacheList) (q : List Buffered) (buffered : List Record) → IsSettled c contents → c.parts.log.buffered ≡ buffered → map shaped q ≡ waiting buffered → undo q s ≡ durable
    → Lists c.parts contents.flash.page s durable → list_all may_wait buffered ≡ true → MayWait (geometry_of c) q s → length c.before ≡ writes_in buffered → HoldsBeside c contents s q
holds_from c contents s durable q buffered settled is shapes undone lists kinds waits places = record {
  holds = record {
    agree = settled.agree;
    waiting = q;
    shapes = shapes ∙ ap waiting (sym is);
    kinds = subst (λ (l : List Record). list_all may_wait l ≡ true) (sym is) kinds;
    lists = subst (λ (d : CacheList). Lists c.parts contents.flash.page s d) (sym undone) lists;
    waits = waits;
    memory = settled.memory;
    few = settled.few;
    places = places ∙ ap writes_in (sym is);
  };
  same = refl;
}

pub beside_committed : (c : Ssc) (contents : Contents) (s : CacheList) → IsSettled c contents → c.parts.log.buffered ≡ [] → length c.before ≡ 0 → Lists c.parts contents.flash.page s s → HoldsBeside c contents s []
beside_committed c contents s settled is places lists = holds_from c contents s s [] [] settled is refl refl lists refl (waits_none (geometry_of c) s) places

pub holds_committed : (c : Ssc) (contents : Contents) (s : CacheList) → IsSettled c contents → c.parts.log.buffered ≡ [] → length c.before ≡ 0 → Lists c.parts contents.flash.page s s → Holds c contents s
holds_committed c contents s settled is places lists = (beside_committed c contents s settled is places lists).holds

-- a step that waits, in a record of its own, and can be taken back
module _ (s s' : CacheList) (own : Record) (b : Buffered)
    (may : may_wait own ≡ true)
    (shape : shaped b ≡ waiting_as own)
    (back : taken_back b s' ≡ s)
    (left : IsLeftBy b s') where
  -- the step waits behind all buffered changes
  pub holds_behind : (old new : Ssc) (contents contents' : Contents) (h : Holds old contents s) → IsSettled new contents' → length new.parts.log.buffered < page_records new.parts.log.geometry → length new.before ≡ writes_in new.parts.log.buffered
      → new.parts.log.buffered ≡ old.parts.log.buffered ++ own ∷ [] → Lists new.parts contents'.flash.page s' (undo h.waiting s) → HoldsBeside new contents' s' (h.waiting ++ b ∷ [])
  holds_behind old new contents contents' h settled few places is lists =
      let q = h.waiting in
      let buffered = old.parts.log.buffered in
      let room = ap page_records settled.agree.sound.of_one.log in
      let same = length_shapes q buffered h.shapes in
      let count : length q + 1 < page_records (geometry_of new) = omega (arith, few, room, same, ap length is, length-append buffered (own ∷ [])) in
      holds_from new contents' s' (undo q s) (q ++ b ∷ []) (buffered ++ own ∷ []) settled is (shapes_push q b buffered own h.shapes shape) (undo_own q b s s' back) lists
      (kinds_push buffered own may h.kinds)
      (waits_push (geometry_of old) (geometry_of new) q b s s' back left count h.waits)
      (places ∙ ap writes_in is)

  -- the step waits alone
  pub holds_alone : (new : Ssc) (contents' : Contents) → IsSettled new contents' → length new.before ≡ writes_in new.parts.log.buffered → new.parts.log.buffered ≡ own ∷ [] → Lists new.parts contents'.flash.page s' s → HoldsBeside new contents' s' (b ∷ [])
  holds_alone new contents' settled places is lists =
      holds_from new contents' s' s (b ∷ []) (own ∷ []) settled is (ap (λ (x : Buffered). x ∷ []) shape) back lists (and_from _ _ may refl)
      (waits_push (geometry_of new) (geometry_of new) [] b s s' back left (omega (arith, q_some (geometry_of new))) (waits_none (geometry_of new) s))
      (places ∙ ap writes_in is)

  pub holds_after : (old new : Ssc) (contents contents' : Contents) (h : Holds old contents s) → IsSettled new contents' → length new.parts.log.buffered < page_records new.parts.log.geometry → length new.before ≡ writes_in new.parts.log.buffered
      → ListsAfter old.parts.log.buffered own new.parts contents'.flash.page (undo h.waiting s) s s' → HoldsPending new contents' s' h.waiting b
  holds_after old new contents contents' h settled few places (inl k) =
      let now = holds_behind old new contents contents' h settled few places k.0 k.1 in record { holds = now.holds; pends = inl now.same }
  holds_after old new contents contents' h settled few places (inr (inl k)) =
      let now = holds_alone new contents' settled places k.0 k.1 in record { holds = now.holds; pends = inr (inl now.same) }
  holds_after old new contents contents' h settled few places (inr (inr k)) =
      let now = beside_committed new contents' s' settled k.0 (places ∙ ap writes_in k.0) k.1 in record { holds = now.holds; pends = inr (inr now.same) }

-- a block at an address, dirty or clean
at_its_place : (s : CacheList) (lba : ℕ) (block : Block) (dirty : Bool) → get (insert s lba (written_block lba block dirty)) lba ≡ Some (written_block lba block dirty)
at_its_place s lba block dirty = get_insert s lba (written_block lba block dirty) lba ∙ ap (λ x. cond x (Some (written_block lba block dirty)) (get s lba)) (same_number lba)

pub left_inserted : (s : CacheList) (lba : ℕ) (block : Block) → IsLeftBy (Inserted lba) (written_clean lba block s)
left_inserted s lba block = (written_block lba block false, at_its_place s lba block false, refl)

pub left_written : (s : CacheList) (lba : ℕ) (block : Block) (old : Option Held) → IsLeftBy (Written lba old) (written_dirty lba block s)
left_written s lba block old = (written_block lba block true, at_its_place s lba block true, refl)

-- an address that was dirty, and is clean
module _ (s : CacheList) (lba : ℕ) (h : Held) (is : get s lba ≡ Some h) (dirty : h.dirty ≡ true) where
  is_dirty : get s lba ≡ Some (held h.block h.spare true)
  is_dirty = is ∙ ap (λ m. Some (held h.block h.spare m)) dirty

  left_cleaned : IsLeftBy (Cleaned lba) (made_clean lba s)
  left_cleaned = (held h.block h.spare false, get_marked false lba s (get s lba) lba refl ∙ ap (λ x. cond x (option_map (marked_as false) (get s lba)) (get s lba)) (same_number lba) ∙ ap (option_map (marked_as false)) is, refl)

  pub back_clean : taken_back (Cleaned lba) (made_clean lba s) ≡ s
  back_clean = back_cleaned s lba h.block h.spare is_dirty

  pub pending_cleaned : (old new : Ssc) (contents contents' : Contents) (k : Holds old contents s) → IsSettled new contents' → length new.parts.log.buffered < page_records new.parts.log.geometry → length new.before ≡ writes_in new.parts.log.buffered
      → ListsAfter old.parts.log.buffered (Clean lba) new.parts contents'.flash.page (undo k.waiting s) s (made_clean lba s) → HoldsPending new contents' (made_clean lba s) k.waiting (Cleaned lba)
  pending_cleaned = holds_after s (made_clean lba s) (Clean lba) (Cleaned lba) refl refl back_clean left_cleaned

-- ---- entries and the list

-- an address is held exactly when it has an entry
pub held_none : (c : Ssc) (contents : Contents) (s : CacheList) (a : ℕ) → Holds c contents s → get (entries_of c) a ≡ None → get s a ≡ None
held_none c contents s a holds none = holds.lists.held a ∙ ap (option_and_then (held_at contents.flash.page)) none

pub held_some : (c : Ssc) (contents : Contents) (s : CacheList) (a : ℕ) (e : Entry) → Holds c contents s → get (entries_of c) a ≡ Some e → (h : Held) × (get s a ≡ Some h) × (h.dirty ≡ e.dirty)
held_some c contents s a e holds is =
    let h = whole_held contents.flash.page e (holds.agree.sound.whole.whole a e is) in
    (h.0, holds.lists.held a ∙ ap (option_and_then (held_at contents.flash.page)) is ∙ h.1, h.2)
