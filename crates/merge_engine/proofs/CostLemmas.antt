-- The cost of a merge, with something buffered and if a group gives way.
use Rattle.std.proofs.Common.{◌≡◌, ◌≢◌, ℕ, ◌+◌, ◌*◌, ◌<◌, nat_lt, cond, List, [], ◌∷◌, refl, sym, ◌∙◌, ap, subst, arith, lt-ltb}
use Rattle.std.specs.FinMap.{get}
use Rattle.std.proofs.lemmas.Nat.{div-mul-add}
use Rattle.ft_base.specs.declared.geometry.Geometry.{Geometry}
use Rattle.ft_base.specs.declared.record.Record.{Record}
use Rattle.ft_base.specs.Layout.{log_pages}
use Rattle.ft_media.specs.declared.rig.Counts.{Counts}
use Rattle.ft_media.specs.Media.{erase_counted, program_counted}
use Rattle.cache_model.specs.Records.{Entries}
use Rattle.op_log.specs.Log.{LogValue, if_buffered}
use Rattle.checkpoint.specs.Counts.{programs_counted}
use Rattle.checkpoint.specs.Current.{log_checkpointed, log_committed}
use Rattle.log_blocks.specs.Logs.{LogBlocksValue, IsInUse, released}
use Rattle.merge_engine.specs.declared.parts.Parts.{Parts}
use Rattle.merge_engine.specs.Agreement.{AreOfOne}
use Rattle.merge_engine.specs.Kept.{CostsOfMove, CostsOfWay}
use Rattle.merge_engine.specs.Merges.{ReachesTo, move_counted}
use Rattle.merge_engine.specs.Switch.{CanSwitch, CannotSwitch, IsInOrder}
use Rattle.merge_engine.proofs.GaveLemmas.{dropped_was}
use Rattle.merge_engine.proofs.MovedLemmas.{dropped, dropped_other}
use Rattle.merge_engine.proofs.SwitchLemmas.{order_still}

-- a commit of something takes one page of the log
pub next_committed : (log : LogValue) → log.buffered ≢ [] → log.next < log_pages log.geometry → (log_committed log).next ≡ log.next + 1
next_committed log some low = by_case log.buffered refl
  where
    flushed : LogValue
    flushed = record log { next = log.next + 1; buffered = [] }

    by_case : (changes : List Record) → log.buffered ≡ changes → (log_committed log).next ≡ log.next + 1
    by_case [] is = absurd (some is)
    by_case (change ∷ changes) is =
        ap (λ (l : List Record). (if_buffered l (cond (nat_lt log.next (log_pages log.geometry)) (if_buffered l flushed log) (log_checkpointed log)) log).next) is
        ∙ ap (λ b. (cond b flushed (log_checkpointed log)).next) (lt-ltb log.next (log_pages log.geometry) low)

pub committed_next : (old mid : Parts) → AreOfOne old → mid.log ≡ log_committed old.log → old.log.buffered ≢ [] → old.log.next < log_pages old.geometry → mid.log.next ≡ old.log.next + 1
committed_next old mid one is some low = ap (λ (l : LogValue). l.next) is ∙ next_committed old.log some (subst (λ (g : Geometry). old.log.next < log_pages g) (sym one.log) low)

pub less_than : {n m : ℕ} → n + 1 < m → n < m
less_than low = omega (arith, low)

-- then a page is left for the next commit
pub page_after : (old new : Parts) → new.log.next ≡ old.log.next + 1 → new.geometry ≡ old.geometry → old.log.next + 1 < log_pages old.geometry → new.log.next < log_pages new.geometry
page_after old new next same low = subst (λ (g : Geometry). new.log.next < log_pages g) (sym same) (subst (λ n. n < log_pages old.geometry) (sym next) low)

pub reach_committed : (old mid : Parts) (group pages : ℕ) → mid ≡ record old { log = mid.log } → ReachesTo old.geometry old.map.entries group pages → ReachesTo mid.geometry mid.map.entries group pages
reach_committed old mid group pages is reach = subst (λ (p : Parts). ReachesTo p.geometry p.map.entries group pages) (sym is) reach

-- something was buffered, so a log page was programmed before the group was copied
pub copy_counts : (pages : ℕ) (old mid now last : Counts) → mid ≡ program_counted old → now ≡ programs_counted pages (erase_counted mid) → last ≡ program_counted now → last ≡ move_counted pages (program_counted old)
copy_counts pages old mid now last first copied page = page ∙ ap program_counted copied ∙ ap (λ (n : Counts). program_counted (programs_counted pages (erase_counted n))) first

-- ---- once another group was dropped

module _ (g : Geometry) (m : Entries) (group gone : ℕ) (differ : group ≡ gone → ⊥) where
  order_dropped : (block : ℕ) → IsInOrder g m group block → IsInOrder g (dropped g m gone) group block
  order_dropped block order = λ page low.
      let at = order page low in
      (at.0, dropped_other g m gone (group * g.p + page) (λ here. differ (sym (div-mul-add group g.p page low) ∙ here)) ∙ at.1, at.2)

  reach_dropped : (pages : ℕ) → ReachesTo g m group pages → ReachesTo g (dropped g m gone) group pages
  reach_dropped pages reach = record {
    last = reach.last;
    entry = reach.entry;
    held = dropped_other g m gone reach.last (λ here. differ (sym reach.in_group ∙ here)) ∙ reach.held;
    in_group = reach.in_group;
    number = reach.number;
    all = λ a e is in_group. reach.all a e (dropped_was g m group gone a e is) in_group;
  }

module _ (old mid : Parts) (group gone : ℕ) (same : mid.geometry ≡ old.geometry) (logs : mid.log_blocks ≡ old.log_blocks) (is : mid.map.entries ≡ dropped old.geometry old.map.entries gone) (differ : group ≡ gone → ⊥) where
  can_then : (block : ℕ) → CanSwitch old group block → CanSwitch mid group block
  can_then block can = record {
    in_use = subst (λ (l : LogBlocksValue). IsInUse l block) (sym logs) can.in_use;
    in_order = subst (λ (k : Geometry). IsInOrder k mid.map.entries group block) (sym same)
        (subst (λ (x : Entries). IsInOrder old.geometry x group block) (sym is) (order_dropped old.geometry old.map.entries group gone differ block can.in_order));
  }

  cannot_then : CannotSwitch old group → CannotSwitch mid group
  cannot_then cannot block can = cannot block (record {
    in_use = subst (λ (l : LogBlocksValue). IsInUse l block) logs can.in_use;
    in_order = order_still old.geometry mid.geometry old.map.entries mid.map.entries group block same (λ a e at. dropped_was old.geometry old.map.entries group gone a e (sym (ap (λ (k : Entries). get k a) is) ∙ at)) can.in_order;
  })

  reach_then : (pages : ℕ) → ReachesTo old.geometry old.map.entries group pages → ReachesTo mid.geometry mid.map.entries group pages
  reach_then pages reach = subst (λ (k : Geometry). ReachesTo k mid.map.entries group pages) (sym same)
      (subst (λ (x : Entries). ReachesTo old.geometry x group pages) (sym is) (reach_dropped old.geometry old.map.entries group gone differ pages reach))

  -- the record of the other group, and the move
  pub costs_of_way : (new : Parts) (before then now : Counts) → mid.log.buffered ≡ [] → (old.log.next < log_pages old.geometry → mid.log.next ≡ old.log.next + 1) → (old.log.next < log_pages old.geometry → then ≡ program_counted before)
      → CostsOfMove mid new group then now → CostsOfWay old new group before now
  costs_of_way new before then now nothing next one costs = record {
    switched = λ block can. (costs.switched block (can_then block can)).log_blocks ∙ ap (released block) logs;
    two_programs = λ block can low. costs.one_program block (can_then block can) (left low) ∙ ap program_counted (one (less_than low));
    copied = λ cannot low pages reach. (costs.copied (cannot_then cannot)).counts nothing (left low) pages (reach_then pages reach) ∙ ap (move_counted pages) (one (less_than low));
  }
    where
      left : old.log.next + 1 < log_pages old.geometry → mid.log.next < log_pages mid.geometry
      left low = page_after old mid (next (less_than low)) same low
