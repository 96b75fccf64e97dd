-- A block is appended, its address is put at its page, and this is committed or buffered.
use Rattle.std.proofs.Common.{◌≡◌, ◌⊎◌, ℕ, ◌+◌, ◌-◌, ◌/◌, ◌<◌, ◌≤◌, ◌==◌, Bool, true, false, cond, List, [], ◌∷◌, ◌++◌, length, Option, Some, None, inl, inr, refl, sym, ◌∙◌, ap, subst, arith, length-append}
use Rattle.std.specs.Cmp.{nat_cmp_total}
use Rattle.std.specs.Option.{option_and_then}
use Rattle.std.specs.FinMap.{get, insert, same_map, nat_cmp-IsAntisymmetric}
use Rattle.std.proofs.lemmas.Bool.{or_cases, or_left, or_right}
use Rattle.ft_base.specs.declared.geometry.Geometry.{Geometry}
use Rattle.ft_base.specs.declared.block.Place.{Place}
use Rattle.ft_base.specs.declared.block.Page.{Page}
use Rattle.ft_base.specs.declared.record.Record.{Record}
use Rattle.ft_base.specs.declared.record.Record.TheVariants.{SetPage}
use Rattle.ft_base.specs.Contents.{Contents}
use Rattle.ft_base.specs.Layout.{log_pages, page_records}
use Rattle.ft_media.specs.State.{State}
use Rattle.ft_media.specs.Media.{program_counted}
use Rattle.ft_media.specs.declared.rig.Counts.{Counts}
use Rattle.cache_model.specs.declared.entry.Entry.{Entry}
use Rattle.cache_model.specs.Records.{Entries}
use Rattle.cache_model.specs.Entries.{each_once}
use Rattle.cache_model.specs.CacheList.{CacheList, Held}
use Rattle.cache_model.specs.Stands.{FlashStandsFor, held_at}
use Rattle.cache_model.proofs.CountLemmas.{member, each_once-le, member_once, taken}
use Rattle.checkpoint.specs.Current.{AreWhole}
use Rattle.op_log.specs.Log.{LogValue, pushed}
use Rattle.log_blocks.specs.Logs.{LogBlocksValue}
use Rattle.merge_engine.specs.LogSteps.{BeginsLog}
use Rattle.merge_engine.specs.declared.parts.Parts.{Parts}
use Rattle.merge_engine.specs.Agreement.{PartsAgree, IsListOn, Lists}
use Rattle.merge_engine.specs.Room.{GivesRoom, FlashStandsForGiven}
use Rattle.merge_engine.specs.Steps.{GoesOn, HasLogBlock, HasRoomFor}
use Rattle.mapping.specs.MapValue.{MapValue}
use Rattle.ssc.specs.Commands.{FlashStandsForOne, AsUndone, AsBefore, AsAfter}
use Rattle.ssc.specs.Steps.{TakesLogPage, IsPushed, LeftOf, ListsAfter, ListsWritten, PutsBlock, FlashStandsForEither, FlashStandsForStep}
use Rattle.ssc.proofs.DirtyLemmas.{member_from, member_to}
use Rattle.merge_engine.proofs.GaveLemmas.{dirty_numbers}
use Rattle.cache_model.proofs.StandLemmas.{held_of, whole_held}
use Rattle.ssc.proofs.ListLemmas.{list_some, stands_some}

-- ---- lists that gave room, on the flash

-- a block that is left was held before
was_held : (g : Geometry) (list v : CacheList) → GivesRoom g list v → (a : ℕ) (h : Held) → get v a ≡ Some h → get list a ≡ Some h
was_held g list v (inl same) a h is = ap (λ (s : CacheList). get s a) (sym same) ∙ is
was_held g list v (inr gave) a h is = taken (gave.gone (a / g.p)) (get list a) h (sym (gave.stays a) ∙ is)

none_either_way : (b : Bool) → cond {A = Option Held} b None None ≡ None
none_either_way true = refl
none_either_way false = refl

-- an absent address stays absent
pub stays_absent : (g : Geometry) (list v : CacheList) → GivesRoom g list v → (a : ℕ) → get list a ≡ None → get v a ≡ None
stays_absent g list v (inl same) a none = ap (λ (s : CacheList). get s a) same ∙ none
stays_absent g list v (inr gave) a none = gave.stays a ∙ ap (λ o. cond (gave.gone (a / g.p)) None o) none ∙ none_either_way (gave.gone (a / g.p))

module _ (g : Geometry) (page page' : Place → Page) (m m' : Entries) (list v : CacheList) (whole : AreWhole page m) (whole' : AreWhole page' m') (on : IsListOn page m list) (on' : IsListOn page' m' v) (gives : GivesRoom g list v) where
  -- a dirty entry was dirty before
  dirty_before : (a : ℕ) (e : Entry) → get m' a ≡ Some e → e.dirty ≡ true → (f : Entry) × (get m a ≡ Some f) × (f.dirty ≡ true)
  dirty_before a e is dirty =
      let h = whole_held page' e (whole'.whole a e is) in
      let now : get v a ≡ Some h.0 = on' a ∙ ap (option_and_then (held_at page')) is ∙ h.1 in
      let f = held_of page (get m a) h.0 (sym (on a) ∙ was_held g list v gives a h.0 now) in
      (f.0, f.1, sym f.2 ∙ h.2 ∙ dirty)

  pub room_stays : (lba : ℕ) → HasRoomFor g m lba → HasRoomFor g m' lba
  room_stays lba room =
      let group = lba / g.p in
      let fewer = each_once-le (group ∷ each_once (dirty_numbers g m')) (group ∷ each_once (dirty_numbers g m)) (λ n mem. elim (or_cases (group == n) (member n (each_once (dirty_numbers g m'))) mem) [
        | inl here ↦ or_left (group == n) (member n (each_once (dirty_numbers g m))) here
        | inr there ↦
            let x = member_to (λ (x : ℕ × Entry). x.0 / g.p) (λ (e : Entry). e.dirty) m' n (sym (member_once n (dirty_numbers g m')) ∙ there) in
            let f = dirty_before x.0.0 x.0.1 x.1 x.2 in
            or_right (group == n) (member n (each_once (dirty_numbers g m))) (member_once n (dirty_numbers g m) ∙ ap (λ k. member k (dirty_numbers g m)) (sym x.3) ∙ member_from (λ (x : ℕ × Entry). x.0 / g.p) (λ (e : Entry). e.dirty) m x.0.0 f.0 f.1 f.2)
      ]) in
      omega (arith, fewer, room)

  -- an address that has an entry is held
  none_then : m' ≡ m → (a : ℕ) → get v a ≡ None → get list a ≡ None
  none_then same a none = by (get m a) refl
    where
      by : (o : Option Entry) → get m a ≡ o → get list a ≡ None
      by None is = on a ∙ ap (option_and_then (held_at page)) is
      by (Some e) is =
          let there : get m' a ≡ Some e = ap (λ (n : Entries). get n a) same ∙ is in
          let h = whole_held page' e (whole'.whole a e there) in
          let both : None ≡ Some h.0 = sym none ∙ on' a ∙ ap (option_and_then (held_at page')) there ∙ h.1 in
          absurd (cc)

  -- if the entries are the same, nothing gave way
  pub same_left : m' ≡ m → v ≡ list
  same_left same = by gives
    where
      at : (b : Bool) (a : ℕ) → get v a ≡ cond b None (get list a) → get v a ≡ get list a
      at true a is = is ∙ sym (none_then same a is)
      at false a is = is

      by : GivesRoom g list v → v ≡ list
      by (inl is) = is
      by (inr gave) = same_map nat_cmp_total nat_cmp-IsAntisymmetric _ _ (λ a. at (gave.gone (a / g.p)) a (gave.stays a))

-- ---- after a block was appended

-- a cache that agrees with the flash has a list, and another without the buffered changes
lists_some : (parts : Parts) (contents : Contents) → PartsAgree parts contents → (list : CacheList) × (durable : CacheList) × Lists parts contents.flash.page list durable
lists_some parts contents agree =
    let page = contents.flash.page in
    let list = list_some page parts.map.entries agree.sound.whole.whole in
    let current = agree.sound.current in
    let durable = stands_some page parts.log.geometry current.durable current.loads in
    (list.0, durable.0, record { held = list.1; stands = subst (λ (g : Geometry). FlashStandsFor g page durable.0) agree.sound.of_one.log durable.1 })

module _ (old mid : Parts) (contents contents' : Contents) (agree : PartsAgree old contents) (agree' : PartsAgree mid contents') (is : mid.geometry ≡ old.geometry) where
  abbrev GoesOnAll : Type 0
  GoesOnAll = (list durable : CacheList) → Lists old contents.flash.page list durable → GoesOn old.log mid contents'.flash.page list durable

  -- there still is room for the address
  pub room_after : GoesOnAll → (lba : ℕ) → HasRoomFor old.geometry old.map.entries lba → HasRoomFor mid.geometry mid.map.entries lba
  room_after goes lba room = let s = lists_some old contents agree in subst (λ (g : Geometry). HasRoomFor g mid.map.entries lba) (sym is) (by s.0 s.1 s.2 (goes s.0 s.1 s.2))
    where
      by : (list durable : CacheList) → Lists old contents.flash.page list durable → GoesOn old.log mid contents'.flash.page list durable → HasRoomFor old.geometry mid.map.entries lba
      by list durable lists (inl same) = room_stays old.geometry contents.flash.page contents'.flash.page old.map.entries mid.map.entries list list agree.sound.whole agree'.sound.whole lists.held same.1.held (inl refl) lba room
      by list durable lists (inr gone) = room_stays old.geometry contents.flash.page contents'.flash.page old.map.entries mid.map.entries list gone.1.0 agree.sound.whole agree'.sound.whole lists.held gone.1.2.held (subst (λ (g : Geometry). GivesRoom g list gone.1.0) is gone.1.1) lba room

  -- the list that is left
  left_after : (HasLogBlock old → mid.map.entries ≡ old.map.entries) → (list durable v : CacheList) → Lists old contents.flash.page list durable → GivesRoom mid.geometry list v → IsListOn contents'.flash.page mid.map.entries v → LeftOf old list v
  left_after inside list durable v lists gives on =
      let given = subst (λ (g : Geometry). GivesRoom g list v) is gives in
      record {
        gives = given;
        inside = λ room. same_left old.geometry contents.flash.page contents'.flash.page old.map.entries mid.map.entries list v agree.sound.whole agree'.sound.whole lists.held on given (inside room);
      }

  -- the list with a block put at an address after that
  module _ (new : Parts) (lba : ℕ) (at : Place) (block : Held) (inside : HasLogBlock old → mid.map.entries ≡ old.map.entries) (log : new.log ≡ pushed (SetPage lba at block.dirty) mid.log)
      (put : (list durable : CacheList) → Lists mid contents'.flash.page list durable → Lists new contents'.flash.page (insert list lba block) durable) where
    pub puts_block : GoesOnAll → (list durable : CacheList) → Lists old contents.flash.page list durable → PutsBlock old lba block new contents'.flash.page durable list
    puts_block goes list durable lists = (at, by (goes list durable lists))
      where
        by : GoesOn old.log mid contents'.flash.page list durable → ListsWritten old (SetPage lba at block.dirty) new contents'.flash.page durable list (λ s. insert s lba block)
        by (inl same) = inl (inl (ap (λ (l : LogValue). l.buffered) log ∙ ap (λ (l : LogValue). l.buffered ++ SetPage lba at block.dirty ∷ []) same.0, put list durable same.1))
        by (inr gone) = inr (gone.1.0, left_after inside list durable gone.1.0 lists gone.1.1 gone.1.2.held, inr (inl (ap (λ (l : LogValue). l.buffered) log ∙ ap (λ (l : List Record). l ++ SetPage lba at block.dirty ∷ []) gone.0, put gone.1.0 gone.1.0 gone.1.2)))

-- if a log block is available without a merge
pub inside_entries : (old mid : Parts) → (HasLogBlock old → mid.map ≡ old.map) → HasLogBlock old → mid.map.entries ≡ old.map.entries
inside_entries old mid stays room = ap (λ (m : MapValue). m.entries) (stays room)

-- if the open log block had a page left

pub inside_pushed : (old mid new : Parts) (lba : ℕ) (at : Place) (dirty : Bool) → mid ≡ record old { log_blocks = record old.log_blocks { room = old.log_blocks.room - 1 } } → new.log ≡ pushed (SetPage lba at dirty) mid.log → IsPushed old lba dirty new
inside_pushed old mid new lba at dirty is log = (at, log ∙ ap (λ (p : Parts). pushed (SetPage lba at dirty) p.log) is)

-- the log blocks stay behind a step that used a page of them, and before it
pub page_then : (old mid new : Parts) → new.log_blocks ≡ mid.log_blocks → TakesLogPage old mid → TakesLogPage old new
page_then old mid new same takes = record { inside = λ room. same ∙ takes.inside room; opened = λ none. ap (λ (l : LogBlocksValue). l.room + 1) same ∙ takes.opened none }

-- a page of a log block that was begun
pub page_begun : (old mid new : Parts) → new.log_blocks ≡ mid.log_blocks → BeginsLog old mid (old.geometry.p - 1) → new.log_blocks.room + 1 ≡ old.geometry.p
page_begun old mid new same begun =
    let left : new.log_blocks.room ≡ old.geometry.p - 1 = ap (λ (l : LogBlocksValue). l.room) (same ∙ begun.logs) in
    let some = old.geometry.in_range.p_low in
    omega arith

pub push_some : {A : Type 0} (xs : List A) (x : A) → xs ++ x ∷ [] ≡ [] → ⊥
push_some [] x is = cc
push_some (y ∷ ys) x is = cc

-- something is buffered after that
pub pushed_some : (log log' : LogValue) (change : Record) → log' ≡ pushed change log → log'.buffered ≡ [] → ⊥
pushed_some log log' change is none = push_some log.buffered change (ap (λ (l : LogValue). l.buffered) (sym is) ∙ none)

-- the log still has a page left
pub left_pushed : (old mid : Parts) (change : Record) → mid.log ≡ pushed change old.log → mid.geometry ≡ old.geometry → old.log.next < log_pages old.geometry → mid.log.next < log_pages mid.geometry
left_pushed old mid change log is left =
    let next : mid.log.next ≡ old.log.next = ap (λ (l : LogValue). l.next) log in
    let pages : log_pages mid.geometry ≡ log_pages old.geometry = ap (λ (g : Geometry). log_pages g) is in
    omega arith

-- one program for the block, and one for the buffered changes
pub counted_twice : (old mid : Parts) (lba : ℕ) (dirty : Bool) → mid.geometry ≡ old.geometry → (a b c : Counts) → IsPushed old lba dirty mid × (b ≡ program_counted a) → (mid.log.buffered ≡ [] → ⊥)
    → old.log.next < log_pages old.geometry → ((mid.log.buffered ≡ [] → ⊥) → mid.log.next < log_pages mid.geometry → c ≡ program_counted b) → c ≡ program_counted (program_counted a)
counted_twice old mid lba dirty is a b c pushed waits left one =
    let next : old.log.next ≡ mid.log.next = ap (λ (l : LogValue). l.next) (sym pushed.0.1) in
    let low = subst (λ n. n < log_pages mid.geometry) next (subst (λ (g : Geometry). old.log.next < log_pages g) (sym is) left) in
    one waits low ∙ ap program_counted pushed.1

-- fewer changes are buffered than a page takes
pub still_pushed : (old mid new : Parts) (lba : ℕ) (dirty : Bool) (a b c : State) {P : Type 0} → length old.log.buffered + 2 ≤ page_records old.log.geometry → IsPushed old lba dirty mid × (b.counts ≡ program_counted a.counts)
    → (length mid.log.buffered < page_records mid.log.geometry → P × (new ≡ mid) × (c ≡ b)) → IsPushed old lba dirty new × (c.counts ≡ program_counted a.counts)
still_pushed old mid new lba dirty a b c few pushed same =
    let at = pushed.0.0 in
    let count : length mid.log.buffered ≡ length old.log.buffered + 1 = ap (λ (l : LogValue). length l.buffered) pushed.0.1 ∙ length-append old.log.buffered (SetPage lba at dirty ∷ []) in
    let room : page_records mid.log.geometry ≡ page_records old.log.geometry = ap (λ (l : LogValue). page_records l.geometry) pushed.0.1 in
    let still = same (omega arith) in
    ((at, ap (λ (p : Parts). p.log) still.1 ∙ pushed.0.1), ap (λ (s : State). s.counts) still.2 ∙ pushed.1)

-- ---- the lists for which the flash stands, step by step

module _ (g : Geometry) (page : Place → Page) (list durable : CacheList) (step : CacheList → CacheList) where
  -- before the step
  pub given_step : FlashStandsForGiven g page durable list → FlashStandsForStep g page durable list step
  given_step (inl s) = inl s
  given_step (inr v) = inr (v.0, v.1, inl v.2)

  step_durable : FlashStandsForEither g page durable (step list) → FlashStandsForStep g page durable list step
  step_durable (inl s) = inl s
  step_durable (inr s) = inr (list, inl refl, inr s)

-- the flash that a later step may leave of a block that was put, whatever it answers
module _ (old mid : Parts) (page page' : Place → Page) (lba : ℕ) (block : Held) (is : mid.geometry ≡ old.geometry) (list durable : CacheList)
    (later : (l d : CacheList) → Lists mid page l d → FlashStandsForEither mid.geometry page' d l) where
  abbrev step : CacheList → CacheList
  step s = insert s lba block

  either : (l d : CacheList) → Lists mid page l d → FlashStandsForEither old.geometry page' d l
  either l d lists = subst (λ (g : Geometry). FlashStandsForEither g page' d l) is (later l d lists)

  twice : (s : CacheList) → FlashStandsForEither old.geometry page' s s → FlashStandsFor old.geometry page' s
  twice s (inl one) = one
  twice s (inr one) = one

  on_left : (buffered : List Record) (own : Record) (v : CacheList) → GivesRoom old.geometry list v → ListsAfter buffered own mid page v v (step v) → FlashStandsForStep old.geometry page' durable list step
  on_left buffered own v gives (inl k) = inr (v, gives, either (step v) v k.1)
  on_left buffered own v gives (inr (inl k)) = inr (v, gives, either (step v) v k.1)
  on_left buffered own v gives (inr (inr k)) = inr (v, gives, inr (twice (step v) (either (step v) (step v) k.1)))

  pub step_then : PutsBlock old lba block mid page durable list → FlashStandsForStep old.geometry page' durable list step
  step_then (at, inl (inl k)) = step_durable old.geometry page' list durable step (either (step list) durable k.1)
  step_then (at, inl (inr (inl k))) = inr (list, inl refl, either (step list) list k.1)
  step_then (at, inl (inr (inr k))) = inr (list, inl refl, inr (twice (step list) (either (step list) (step list) k.1)))
  step_then (at, inr (v, left, after)) = on_left [] (SetPage lba at block.dirty) v left.gives after

  -- if a log block was available without a merge, nothing gave way before
  undone_or_after : FlashStandsForEither old.geometry page' durable (step list) → FlashStandsForOne old.geometry page' durable list (step list)
  undone_or_after (inl s) = AsUndone s
  undone_or_after (inr s) = AsAfter s

  before_or_after : FlashStandsForEither old.geometry page' list (step list) → FlashStandsForOne old.geometry page' durable list (step list)
  before_or_after (inl s) = AsBefore s
  before_or_after (inr s) = AsAfter s

  kept_left : (buffered : List Record) (own : Record) → ListsAfter buffered own mid page list list (step list) → FlashStandsForOne old.geometry page' durable list (step list)
  kept_left buffered own (inl k) = before_or_after (either (step list) list k.1)
  kept_left buffered own (inr (inl k)) = before_or_after (either (step list) list k.1)
  kept_left buffered own (inr (inr k)) = AsAfter (twice (step list) (either (step list) (step list) k.1))

  pub kept_then : HasLogBlock old → PutsBlock old lba block mid page durable list → FlashStandsForOne old.geometry page' durable list (step list)
  kept_then room (at, inl (inl k)) = undone_or_after (either (step list) durable k.1)
  kept_then room (at, inl (inr (inl k))) = before_or_after (either (step list) list k.1)
  kept_then room (at, inl (inr (inr k))) = AsAfter (twice (step list) (either (step list) (step list) k.1))
  kept_then room (at, inr (v, left, after)) = kept_left [] (SetPage lba at block.dirty) (subst (λ (w : CacheList). ListsAfter [] (SetPage lba at block.dirty) mid page w w (step w)) (left.inside room) after)

-- before the step
pub kept_before : (g : Geometry) (page : Place → Page) (durable list after : CacheList) → FlashStandsForEither g page durable list → FlashStandsForOne g page durable list after
kept_before g page durable list after (inl s) = AsUndone s
kept_before g page durable list after (inr s) = AsBefore s

-- ---- the list that the cache holds, step by step

same_of : (old : Parts) (list : CacheList) → LeftOf old list list
same_of old list = record { gives = inl refl; inside = λ room. refl }

module _ (old mid new : Parts) (page page' : Place → Page) (lba : ℕ) (block : Held) (list durable : CacheList) where
  committed_after : (buffered : List Record) (own : Record) (d before l : CacheList) → ((l d : CacheList) → Lists mid page l d → Lists new page' l l) → ListsAfter buffered own mid page d before l → Lists new page' l l
  committed_after buffered own d before l done (inl k) = done l d k.1
  committed_after buffered own d before l done (inr (inl k)) = done l before k.1
  committed_after buffered own d before l done (inr (inr k)) = done l l k.1

  -- all changes are committed
  pub put_committed : ((l d : CacheList) → Lists mid page l d → Lists new page' l l) → PutsBlock old lba block mid page durable list → (v : CacheList) × LeftOf old list v × Lists new page' (insert v lba block) (insert v lba block)
  put_committed done (at, inl after) = (list, same_of old list, committed_after old.log.buffered (SetPage lba at block.dirty) durable list (insert list lba block) done after)
  put_committed done (at, inr (v, left, after)) = (v, left, committed_after [] (SetPage lba at block.dirty) v v (insert v lba block) done after)

  abbrev Goes : CacheList → CacheList → Type 0
  Goes l d = ((new.log ≡ mid.log) × Lists new page' l d) ⊎ ((new.log.buffered ≡ []) × Lists new page' l l)

  waits_after : (buffered : List Record) (own : Record) (d before l : CacheList) → ((l d : CacheList) → Lists mid page l d → Goes l d) → ListsAfter buffered own mid page d before l → ListsAfter buffered own new page' d before l
  waits_after buffered own d before l done (inl k) = by (done l d k.1)
    where
      by : Goes l d → ListsAfter buffered own new page' d before l
      by (inl same) = inl (ap (λ (o : LogValue). o.buffered) same.0 ∙ k.0, same.1)
      by (inr none) = inr (inr none)
  waits_after buffered own d before l done (inr (inl k)) = by (done l before k.1)
    where
      by : Goes l before → ListsAfter buffered own new page' d before l
      by (inl same) = inr (inl (ap (λ (o : LogValue). o.buffered) same.0 ∙ k.0, same.1))
      by (inr none) = inr (inr none)
  waits_after buffered own d before l done (inr (inr k)) = by (done l l k.1)
    where
      by : Goes l l → ListsAfter buffered own new page' d before l
      by (inl same) = inr (inr (ap (λ (o : LogValue). o.buffered) same.0 ∙ k.0, same.1))
      by (inr none) = inr (inr none)

  -- the change is buffered, or all are committed
  pub put_waits : ((l d : CacheList) → Lists mid page l d → Goes l d) → PutsBlock old lba block mid page durable list → PutsBlock old lba block new page' durable list
  put_waits done (at, inl after) = (at, inl (waits_after old.log.buffered (SetPage lba at block.dirty) durable list (insert list lba block) done after))
  put_waits done (at, inr (v, left, after)) = (at, inr (v, left, waits_after [] (SetPage lba at block.dirty) v v (insert v lba block) done after))

-- a block that was committed was put
pub committed_puts : (old new : Parts) (page : Place → Page) (lba : ℕ) (block : Held) (list durable : CacheList) → new.log.buffered ≡ [] → (v : CacheList) × LeftOf old list v × Lists new page (insert v lba block) (insert v lba block) → PutsBlock old lba block new page durable list
committed_puts old new page lba block list durable none x = (record { block = 0; page = 0 }, inr (x.0, x.1, inr (inr (none, x.2))))
