-- A log block becomes the data block of the group that it holds in order: the parts agree again.
use Rattle.std.proofs.Common.{◌≡◌, ℕ, ◌/◌, ◌%◌, false, IsTrue, Some, sym, ◌∙◌, ap, subst, inl, inr}
use Rattle.std.specs.FinMap.{get}
use Rattle.std.proofs.lemmas.Bool.{cases_eq, both_ways}
use Rattle.ft_base.specs.declared.geometry.Geometry.{Geometry}
use Rattle.ft_base.specs.declared.block.Place.{Place}
use Rattle.ft_base.specs.declared.record.Record.{Record}
use Rattle.ft_base.specs.declared.record.Record.TheVariants.{SetGroup}
use Rattle.ft_base.specs.Contents.{Contents}
use Rattle.cache_model.specs.declared.entry.Entry.{Entry}
use Rattle.cache_model.specs.declared.format.PageKind.TheVariants.{Log as log_page}
use Rattle.cache_model.specs.Records.{Entries, after}
use Rattle.cache_model.specs.Entries.{IsMap, Fits}
use Rattle.cache_model.specs.Spelling.{is_wide, may_stand_in}
use Rattle.cache_model.specs.Loading.{is_whole}
use Rattle.cache_model.specs.CacheList.{CacheList}
use Rattle.cache_model.specs.Stands.{held_in}
use Rattle.op_log.specs.Log.{LogValue, pushed}
use Rattle.checkpoint.specs.Current.{IsCurrent}
use Rattle.mapping.specs.declared.bits.Choice.TheVariants.{Held, Dirty}
use Rattle.mapping.specs.Bits.{chosen_of}
use Rattle.mapping.specs.MapValue.{MapValue}
use Rattle.block_pool.specs.Pool.{PoolValue, IsInPool, role_of}
use Rattle.block_pool.specs.declared.pool.Role.TheVariants.{Data}
use Rattle.log_blocks.specs.Logs.{LogBlocksValue, IsInUse, released}
use Rattle.log_blocks.specs.Logs as list
use Rattle.silent_evict.specs.Candidates.{IsGroupHeld}
use Rattle.merge_engine.specs.declared.parts.Parts.{Parts}
use Rattle.merge_engine.specs.Kept.{OnlyMapLogPoolChange}
use Rattle.merge_engine.specs.Agreement.{PartsAgree, AreOfOne, IsDataBlockOf, RolesAgree, Lists}
use Rattle.merge_engine.specs.Merges.{HasBlockOrRoom, moved}
use Rattle.merge_engine.specs.Steps.{FollowsGroup}
use Rattle.merge_engine.specs.Switch.{CanSwitch}
use Rattle.merge_engine.proofs.FollowLemmas.{role_follows, page_mapped_follow, not_data_log}
use Rattle.merge_engine.proofs.GiveBackLemmas.{still_in_use, was_in_use, not_in_use, open_still}
use Rattle.merge_engine.proofs.MovedLemmas.{switch_fits, move_spelled}
use Rattle.merge_engine.proofs.MoveEntriesLemmas.{change_is, moved_entries, kept_role, moved_others, moved_was, moved_mapped, moved_left, moved_there, moved_held}
use Rattle.merge_engine.proofs.NoteLemmas.{current_pushed}
use Rattle.merge_engine.proofs.SwitchLemmas.{own_page, only_group}

-- the parts with other entries, one record more, other roles, and one log block fewer
abbrev pub switched_to : Parts → MapValue → Record → PoolValue → ℕ → Parts
switched_to parts map change pool block = record parts { map = map; log = pushed change parts.log; pool = pool; log_blocks = released block parts.log_blocks }

module _ (parts : Parts) (group block present dirty : ℕ) (one : AreOfOne parts) (is_map : IsMap parts.geometry parts.map.entries) (roles : RolesAgree parts)
    (is_held : IsGroupHeld parts.geometry parts.map.entries group) (room : HasBlockOrRoom parts.geometry parts.map.entries group) (switch : CanSwitch parts group block)
    (present_is : present ≡ chosen_of Held parts.map.geometry parts.map.entries group) (dirty_is : dirty ≡ chosen_of Dirty parts.map.geometry parts.map.entries group) where
  no_other : (a : ℕ) (e : Entry) → get parts.map.entries a ≡ Some e → (a / parts.geometry.p ≡ group → ⊥) → e.place.block ≡ block → ⊥
  no_other = only_group parts.geometry parts.map.entries group block switch.in_order is_map

  pub switching_fits : Fits parts.geometry (SetGroup group block present dirty) parts.map.entries
  switching_fits = subst (λ (r : Record). Fits parts.geometry r parts.map.entries) (sym (change_is parts group block present dirty one present_is dirty_is)) (switch_fits parts.geometry parts.map.entries group block is_map is_held room (roles.in_pool block switch.in_use) no_other)

  pub switching_spelled : IsTrue (may_stand_in (is_wide 2 parts.geometry.p) log_page (SetGroup group block present dirty))
  switching_spelled = subst (λ (r : Record). IsTrue (may_stand_in (is_wide 2 parts.geometry.p) log_page r)) (sym (change_is parts group block present dirty one present_is dirty_is)) (move_spelled parts.geometry parts.map.entries group block is_held)

  module _ (map : MapValue) (pool pool' : PoolValue) (is : map.entries ≡ after parts.geometry (SetGroup group block present dirty) parts.map.entries)
      (one' : AreOfOne (switched_to parts map (SetGroup group block present dirty) pool' block))
      (follows : FollowsGroup parts.geometry group parts.map.entries map.entries parts.pool pool)
      (own : role_of pool' block ≡ Data) (rest : (b : ℕ) → IsInPool pool.geometry b → (b ≡ block → ⊥) → role_of pool' b ≡ role_of pool b)
      (sound : list.AreSoundLogs (released block parts.log_blocks)) where
    entries_are : map.entries ≡ moved parts.geometry parts.map.entries group block
    entries_are = moved_entries parts group block present dirty one present_is dirty_is map.entries is

    -- an entry that stays stands at the same place
    stays_at : (a : ℕ) (e : Entry) → get parts.map.entries a ≡ Some e → a / parts.geometry.p ≡ group → e.place ≡ record { block = block; page = a % parts.geometry.p }
    stays_at = own_page parts.geometry parts.map.entries group block switch.in_order

    roles_switched : RolesAgree (switched_to parts map (SetGroup group block present dirty) pool' block)
    roles_switched =
        let others = moved_others parts.geometry parts.map.entries map.entries group block entries_are in
        let mapped = moved_mapped parts.geometry parts.map.entries map.entries group block entries_are in
        let left = moved_left parts.geometry parts.map.entries map.entries group block entries_are in
        let kept = kept_role parts pool pool' block one follows.geometry rest in
        record {
          data_blocks = λ b inside. elim (cases_eq b block) [
            | inl same ↦ (λ r. subst (λ n. IsDataBlockOf map.entries n) (sym same) (moved_there parts.geometry parts.map.entries map.entries group block entries_are is_held), λ d. ap (role_of pool') same ∙ own)
            | inr other ↦
                let f = (role_follows parts is_map roles group map.entries pool others mapped follows b inside (left b other)).0 in
                let k = kept b inside other in
                (λ r. f.0 (sym k ∙ r), λ d. k ∙ f.1 d)
          ];
          log_blocks = λ b inside. elim (cases_eq b block) [
            | inl same ↦ (
              λ r. not_data_log (role_of pool' b) (ap (role_of pool') same ∙ own) r,
              λ used. absurd (not_in_use parts.log_blocks block (subst (λ n. IsInUse (released block parts.log_blocks) n) same used)),
            )
            | inr other ↦
                let f = (role_follows parts is_map roles group map.entries pool others mapped follows b inside (left b other)).1 in
                let k = kept b inside other in
                (λ r. still_in_use parts.log_blocks block b other (f.0 (sym k ∙ r)), λ used. k ∙ f.1 (was_in_use parts.log_blocks block b used))
          ];
          in_pool = λ b used. roles.in_pool b (was_in_use parts.log_blocks block b used);
          page_mapped = λ a e at f. still_in_use parts.log_blocks block e.place.block (apart a e at f) (page_mapped_follow parts is_map roles group map.entries pool others mapped follows a e at f);
        }
      where
        apart : (a : ℕ) (e : Entry) → get map.entries a ≡ Some e → e.block_mapped ≡ false → e.place.block ≡ block → ⊥
        apart a e at f here = elim (cases_eq (a / parts.geometry.p) group) [
          | inl same ↦ both_ways e.block_mapped f (moved_mapped parts.geometry parts.map.entries map.entries group block entries_are a e at same)
          | inr other ↦ no_other a e (sym (moved_others parts.geometry parts.map.entries map.entries group block entries_are a other) ∙ at) other here
        ]

    pub agree_switched : (contents : Contents) → PartsAgree parts contents → PartsAgree (switched_to parts map (SetGroup group block present dirty) pool' block) contents
    agree_switched contents agree =
        let s = agree.sound in
        let log_is : parts.log.geometry ≡ parts.geometry = s.of_one.log in
        let change = SetGroup group block present dirty in
        let current = current_pushed contents.flash.page parts.log parts.map.entries change (subst (λ (g : Geometry). Fits g change parts.map.entries) (sym log_is) switching_fits) s.current in
        record {
          sound = record {
            of_one = one';
            shape = s.shape;
            current = subst (λ (n : Entries). IsCurrent contents.flash.page (pushed change parts.log) n) (ap (λ (g : Geometry). after g change parts.map.entries) log_is ∙ sym is) current;
            whole = record {
              whole = λ a f at. elim (cases_eq (a / parts.geometry.p) group) [
                | inl same ↦
                    let x = moved_was parts.geometry parts.map.entries map.entries group block entries_are a f at same in
                    let place : f.place ≡ x.0.place = ap (λ (y : Entry). y.place) x.2 ∙ sym (stays_at a x.0 x.1 same) in
                    ap (λ (p : Place). is_whole (contents.flash.page p)) place ∙ s.whole.whole a x.0 x.1
                | inr other ↦ s.whole.whole a f (sym (moved_others parts.geometry parts.map.entries map.entries group block entries_are a other) ∙ at)
              ];
            };
            roles = roles_switched;
            log_blocks = sound;
            open_block = open_still parts.log_blocks block contents.flash s.open_block;
          };
          open_log = record { before = agree.open_log.before; ready = agree.open_log.ready; format = agree.open_log.format };
        }

    pub lists_switched : (contents : Contents) (list durable : CacheList) → Lists parts contents.flash.page list durable → Lists (switched_to parts map (SetGroup group block present dirty) pool' block) contents.flash.page list durable
    lists_switched contents list durable lists = record {
      held = λ a. lists.held a ∙ moved_held parts.geometry parts.map.entries map.entries group block entries_are contents.flash.page
          (λ a e at same. ap (λ (p : Place). held_in e.dirty (contents.flash.page p)) (stays_at a e at same)) a;
      stands = lists.stands;
    }

-- ---- the same for parts that are known by equations

-- the record was noted, the log block is out of the list, and it has its role
pub as_switched : (old noted : Parts) (change : Record) (pool : PoolValue) (logs : LogBlocksValue) (block : ℕ) → OnlyMapLogPoolChange old noted → noted.log ≡ pushed change old.log → logs ≡ released block noted.log_blocks
    → record noted { pool = pool; log_blocks = logs } ≡ switched_to old noted.map change pool block
as_switched old noted change pool logs block is log out =
    ap (λ (l : LogBlocksValue). record noted { pool = pool; log_blocks = l }) (out ∙ ap (λ (p : Parts). released block p.log_blocks) is)
    ∙ ap (λ (p : Parts). record p { pool = pool; log_blocks = released block old.log_blocks }) is
    ∙ ap (λ (l : LogValue). record old { map = noted.map; log = l; pool = pool; log_blocks = released block old.log_blocks }) log

-- the parts are of one geometry
pub of_one_switched : (parts : Parts) (pool : PoolValue) (logs : LogBlocksValue) → pool.geometry ≡ parts.pool.geometry → logs.geometry ≡ parts.log_blocks.geometry → AreOfOne parts → AreOfOne (record parts { pool = pool; log_blocks = logs })
of_one_switched parts pool logs same of_logs one = record { map = one.map; log = one.log; pool = same ∙ one.pool; victims = one.victims; log_blocks = of_logs ∙ one.log_blocks; checkpoints = one.checkpoints }

module _ (old noted : Parts) (pool : PoolValue) (logs : LogBlocksValue) (group block present dirty : ℕ) (one : AreOfOne old) (is_map : IsMap old.geometry old.map.entries) (roles : RolesAgree old)
    (is_held : IsGroupHeld old.geometry old.map.entries group) (room : HasBlockOrRoom old.geometry old.map.entries group) (switch : CanSwitch old group block)
    (present_is : present ≡ chosen_of Held old.map.geometry old.map.entries group) (dirty_is : dirty ≡ chosen_of Dirty old.map.geometry old.map.entries group)
    (is : OnlyMapLogPoolChange old noted) (log : noted.log ≡ pushed (SetGroup group block present dirty) old.log)
    (entries : noted.map.entries ≡ after old.geometry (SetGroup group block present dirty) old.map.entries)
    (one' : AreOfOne noted) (follows : FollowsGroup old.geometry group old.map.entries noted.map.entries old.pool noted.pool)
    (out : logs ≡ released block noted.log_blocks) (sound : list.AreSoundLogs logs)
    (same : pool.geometry ≡ noted.pool.geometry) (own : role_of pool block ≡ Data) (rest : (b : ℕ) → IsInPool noted.pool.geometry b → (b ≡ block → ⊥) → role_of pool b ≡ role_of noted.pool b) where
  switched_is : record noted { pool = pool; log_blocks = logs } ≡ switched_to old noted.map (SetGroup group block present dirty) pool block
  switched_is = as_switched old noted (SetGroup group block present dirty) pool logs block is log out

  of_one_after : AreOfOne (switched_to old noted.map (SetGroup group block present dirty) pool block)
  of_one_after = subst (λ (p : Parts). AreOfOne p) switched_is (of_one_switched noted pool logs same (ap (λ (l : LogBlocksValue). l.geometry) out) one')

  sound_after : list.AreSoundLogs (released block old.log_blocks)
  sound_after = subst (λ (l : LogBlocksValue). list.AreSoundLogs l) (out ∙ ap (λ (p : Parts). released block p.log_blocks) is) sound

  pub agree_switch : (contents : Contents) → PartsAgree old contents → PartsAgree (record noted { pool = pool; log_blocks = logs }) contents
  agree_switch contents agree =
      subst (λ (p : Parts). PartsAgree p contents) (sym switched_is)
      (agree_switched old group block present dirty one is_map roles is_held room switch present_is dirty_is noted.map noted.pool pool entries of_one_after follows own rest sound_after contents agree)

  pub lists_switch : (contents : Contents) (list durable : CacheList) → Lists old contents.flash.page list durable → Lists (record noted { pool = pool; log_blocks = logs }) contents.flash.page list durable
  lists_switch contents list durable lists =
      subst (λ (p : Parts). Lists p contents.flash.page list durable) (sym switched_is)
      (lists_switched old group block present dirty one is_map roles is_held room switch present_is dirty_is noted.map noted.pool pool entries of_one_after follows own rest sound_after contents list durable lists)
