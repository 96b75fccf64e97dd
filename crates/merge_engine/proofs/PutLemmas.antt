-- A group that moves into an erase block, or that is dropped: the parts agree again.
use Rattle.std.proofs.Common.{◌≡◌, ℕ, ◌/◌, ◌%◌, not, cond, true, Bool, ◌↔◌, eq-eqb, ne_eqb, IsTrue, Some, None, sym, ◌∙◌, ap, subst, inl, inr}
use Rattle.std.specs.Option.{option_and_then}
use Rattle.std.specs.FinMap.{get}
use Rattle.std.proofs.lemmas.Bool.{cases_eq}
use Rattle.ft_base.specs.declared.geometry.Geometry.{Geometry}
use Rattle.ft_base.specs.declared.block.Place.{Place}
use Rattle.ft_base.specs.declared.block.Page.{Page}
use Rattle.ft_base.specs.declared.record.Record.{Record}
use Rattle.ft_base.specs.declared.record.Record.TheVariants.{SetGroup, RemoveGroup}
use Rattle.ft_base.specs.Contents.{Contents}
use Rattle.cache_model.specs.declared.entry.Entry.{Entry}
use Rattle.cache_model.specs.declared.format.PageKind.TheVariants.{Log as log_page}
use Rattle.cache_model.specs.Records.{Entries, after, is_in_group}
use Rattle.cache_model.specs.Entries.{IsMap, Fits}
use Rattle.cache_model.specs.Spelling.{is_wide, may_stand_in}
use Rattle.cache_model.specs.Loading.{is_whole}
use Rattle.cache_model.specs.CacheList.{CacheList}
use Rattle.cache_model.specs.Stands.{held_at, held_in}
use Rattle.cache_model.proofs.MapLemmas.{get_retain}
use Rattle.op_log.specs.Log.{LogValue, pushed}
use Rattle.checkpoint.specs.Current.{IsCurrent, AreWhole}
use Rattle.mapping.specs.declared.bits.Choice.TheVariants.{Held, Dirty}
use Rattle.mapping.specs.Bits.{chosen_of}
use Rattle.mapping.specs.MapValue.{MapValue}
use Rattle.block_pool.specs.Pool.{PoolValue, IsFree, IsInPool, role_of}
use Rattle.block_pool.specs.declared.pool.Role.TheVariants.{Data, Log}
use Rattle.log_blocks.specs.Logs.{IsInUse}
use Rattle.silent_evict.specs.Candidates.{IsGroupHeld}
use Rattle.merge_engine.specs.declared.parts.Parts.{Parts}
use Rattle.merge_engine.specs.Kept.{OnlyMapLogPoolChange}
use Rattle.merge_engine.specs.Agreement.{PartsAgree, AreOfOne, IsDataBlockOf, RolesAgree, Lists}
use Rattle.merge_engine.specs.Merges.{HasBlockOrRoom, OthersStay, moved, list_without}
use Rattle.merge_engine.specs.Steps.{FollowsGroup, IsCopied, IsCopyOf}
use Rattle.merge_engine.proofs.RoleLemmas.{free_in_pool, free_unheld, free_not_in_use}
use Rattle.merge_engine.proofs.NoteLemmas.{current_pushed}
use Rattle.merge_engine.proofs.TakeLemmas.{agree_map}
use Rattle.merge_engine.proofs.FollowLemmas.{role_follows, page_mapped_follow, not_data_log}
use Rattle.merge_engine.proofs.MovedLemmas.{drop_fits, move_fits, move_spelled, dropped_here, dropped_other, dropped}
use Rattle.merge_engine.proofs.MoveEntriesLemmas.{change_is, moved_entries, kept_role, moved_others, moved_was, moved_mapped, moved_left, moved_there, moved_held}

-- ---- one more record

-- the parts with other entries, one record more and other roles
abbrev pub noted : Parts → MapValue → Record → PoolValue → Parts
noted parts map change pool = record parts { map = map; log = pushed change parts.log; pool = pool }

-- a change that fits, over pages that are whole and with roles that agree
pub agree_noted : (parts : Parts) (contents : Contents) (map : MapValue) (change : Record) (pool : PoolValue) → PartsAgree parts contents → Fits parts.geometry change parts.map.entries → map.entries ≡ after parts.geometry change parts.map.entries
    → AreOfOne (noted parts map change pool) → AreWhole contents.flash.page map.entries → RolesAgree (noted parts map change pool) → PartsAgree (noted parts map change pool) contents
agree_noted parts contents map change pool agree fit is one whole roles =
    let s = agree.sound in
    let log_is : parts.log.geometry ≡ parts.geometry = s.of_one.log in
    let current = current_pushed contents.flash.page parts.log parts.map.entries change (subst (λ (g : Geometry). Fits g change parts.map.entries) (sym log_is) fit) s.current in
    record {
      sound = record {
        of_one = one;
        shape = s.shape;
        current = subst (λ (n : Entries). IsCurrent contents.flash.page (pushed change parts.log) n) (ap (λ (g : Geometry). after g change parts.map.entries) log_is ∙ sym is) current;
        whole = whole;
        roles = roles;
        log_blocks = s.log_blocks;
        open_block = s.open_block;
      };
      open_log = record { before = agree.open_log.before; ready = agree.open_log.ready; format = agree.open_log.format };
    }

-- ---- a group that is dropped

module _ (parts : Parts) (contents : Contents) (group : ℕ) (agree : PartsAgree parts contents) (held : IsGroupHeld parts.geometry parts.map.entries group) where
  is_map : IsMap parts.geometry parts.map.entries
  is_map = agree_map parts contents agree

  pub dropping_fits : Fits parts.geometry (RemoveGroup group) parts.map.entries
  dropping_fits = drop_fits parts.geometry parts.map.entries group is_map held

  module _ (map : MapValue) (pool : PoolValue) (is : map.entries ≡ dropped parts.geometry parts.map.entries group)
      (one : AreOfOne (noted parts map (RemoveGroup group) pool))
      (follows : FollowsGroup parts.geometry group parts.map.entries map.entries parts.pool pool) where
    none_here : (a : ℕ) (e : Entry) → get map.entries a ≡ Some e → a / parts.geometry.p ≡ group → ⊥
    none_here a e at same = let no : None ≡ Some e = sym (ap (λ n. get n a) is ∙ dropped_here parts.geometry parts.map.entries group a same) ∙ at in absurd (cc)

    others_stay : OthersStay parts.geometry group parts.map.entries map.entries
    others_stay a other = ap (λ n. get n a) is ∙ dropped_other parts.geometry parts.map.entries group a other

    all_mapped : (a : ℕ) (e : Entry) → get map.entries a ≡ Some e → a / parts.geometry.p ≡ group → e.block_mapped ≡ true
    all_mapped a e at same = absurd (none_here a e at same)

    roles : RolesAgree (noted parts map (RemoveGroup group) pool)
    roles =
        let r = agree.sound.roles in
        let left : (b : ℕ) (a : ℕ) (e : Entry) → get map.entries a ≡ Some e → a / parts.geometry.p ≡ group → e.place.block ≡ b → ⊥ = λ b a e at same here. none_here a e at same in
        record {
          data_blocks = λ b in_pool. (role_follows parts is_map r group map.entries pool others_stay all_mapped follows b in_pool (left b)).0;
          log_blocks = λ b in_pool. (role_follows parts is_map r group map.entries pool others_stay all_mapped follows b in_pool (left b)).1;
          in_pool = r.in_pool;
          page_mapped = page_mapped_follow parts is_map r group map.entries pool others_stay all_mapped follows;
        }

    pub agree_dropped : PartsAgree (noted parts map (RemoveGroup group) pool) contents
    agree_dropped = agree_noted parts contents map (RemoveGroup group) pool agree dropping_fits is one
        (record {
          whole = λ a e at. elim (cases_eq (a / parts.geometry.p) group) [
            | inl same ↦ absurd (none_here a e at same)
            | inr other ↦ agree.sound.whole.whole a e (sym (others_stay a other) ∙ at)
          ];
        })
        roles

    pub lists_dropped : (list durable : CacheList) → Lists parts contents.flash.page list durable → Lists (noted parts map (RemoveGroup group) pool) contents.flash.page (list_without parts.geometry group list) durable
    lists_dropped list durable lists = record {
      held = λ a.
          get_retain list (λ a. not (is_in_group parts.geometry group a)) a
          ∙ ap (λ o. cond (not (is_in_group parts.geometry group a)) o None) (lists.held a)
          ∙ by_case a;
      stands = lists.stands;
    }
      where
        by_case : (a : ℕ) → cond (not (is_in_group parts.geometry group a)) (option_and_then (held_at contents.flash.page) (get parts.map.entries a)) None ≡ option_and_then (held_at contents.flash.page) (get map.entries a)
        by_case a = elim (cases_eq (a / parts.geometry.p) group) [
          | inl same ↦
              ap (λ b. cond (not b) (option_and_then (held_at contents.flash.page) (get parts.map.entries a)) None) (eq-eqb (a / parts.geometry.p) group same)
              ∙ sym (ap (option_and_then (held_at contents.flash.page)) (ap (λ n. get n a) is ∙ dropped_here parts.geometry parts.map.entries group a same))
          | inr other ↦
              ap (λ b. cond (not b) (option_and_then (held_at contents.flash.page) (get parts.map.entries a)) None) (ne_eqb (a / parts.geometry.p) group other)
              ∙ ap (option_and_then (held_at contents.flash.page)) (sym (others_stay a other))
        ]

-- ---- a group that moves

-- the copy is a whole page, and adds the same block to the list
copy_whole : (page : Place → Page) (from to : Place) → IsCopyOf page from to → is_whole (page to) ≡ true
copy_whole page from to copied = ap is_whole copied.copy ∙ copied.whole

copy_held : (page : Place → Page) (from to : Place) (dirty : Bool) → IsCopyOf page from to → held_in dirty (page from) ≡ held_in dirty (page to)
copy_held page from to dirty copied = ap (held_in dirty) (sym copied.copy)

module _ (parts : Parts) (group block present dirty : ℕ) (one : AreOfOne parts) (is_map : IsMap parts.geometry parts.map.entries) (roles : RolesAgree parts)
    (held : IsGroupHeld parts.geometry parts.map.entries group) (room : HasBlockOrRoom parts.geometry parts.map.entries group) (free : IsFree parts.pool block)
    (present_is : present ≡ chosen_of Held parts.map.geometry parts.map.entries group) (dirty_is : dirty ≡ chosen_of Dirty parts.map.geometry parts.map.entries group) where
  in_pool : IsInPool parts.geometry block
  in_pool = free_in_pool parts one block free

  pub putting_fits : Fits parts.geometry (SetGroup group block present dirty) parts.map.entries
  putting_fits = subst (λ (r : Record). Fits parts.geometry r parts.map.entries) (sym (change_is parts group block present dirty one present_is dirty_is)) (move_fits parts.geometry parts.map.entries group block is_map held room in_pool (free_unheld parts one roles block free))

  pub putting_spelled : IsTrue (may_stand_in (is_wide 2 parts.geometry.p) log_page (SetGroup group block present dirty))
  putting_spelled = subst (λ (r : Record). IsTrue (may_stand_in (is_wide 2 parts.geometry.p) log_page r)) (sym (change_is parts group block present dirty one present_is dirty_is)) (move_spelled parts.geometry parts.map.entries group block held)

  module _ (map : MapValue) (pool pool' : PoolValue) (is : map.entries ≡ after parts.geometry (SetGroup group block present dirty) parts.map.entries)
      (one' : AreOfOne (noted parts map (SetGroup group block present dirty) pool'))
      (follows : FollowsGroup parts.geometry group parts.map.entries map.entries parts.pool pool)
      (own : role_of pool' block ≡ Data) (rest : (b : ℕ) → IsInPool pool.geometry b → (b ≡ block → ⊥) → role_of pool' b ≡ role_of pool b) where
    entries_are : map.entries ≡ moved parts.geometry parts.map.entries group block
    entries_are = moved_entries parts group block present dirty one present_is dirty_is map.entries is

    data_here : (b : ℕ) → b ≡ block → (role_of pool' b ≡ Data) ↔ IsDataBlockOf map.entries b
    data_here b same = (λ r. subst (λ n. IsDataBlockOf map.entries n) (sym same) (moved_there parts.geometry parts.map.entries map.entries group block entries_are held), λ d. ap (role_of pool') same ∙ own)

    log_here : (b : ℕ) → b ≡ block → (role_of pool' b ≡ Log) ↔ IsInUse parts.log_blocks b
    log_here b same = (
      λ r. not_data_log (role_of pool' b) (ap (role_of pool') same ∙ own) r,
      λ used. absurd (free_not_in_use parts one roles block free (subst (λ n. IsInUse parts.log_blocks n) same used)),
    )

    roles_put : RolesAgree (noted parts map (SetGroup group block present dirty) pool')
    roles_put =
        let others = moved_others parts.geometry parts.map.entries map.entries group block entries_are in
        let mapped = moved_mapped parts.geometry parts.map.entries map.entries group block entries_are in
        let left = moved_left parts.geometry parts.map.entries map.entries group block entries_are in
        let kept = kept_role parts pool pool' block one follows.geometry rest in
        record {
          data_blocks = λ b inside. elim (cases_eq b block) [
            | inl same ↦ data_here b same
            | inr other ↦
                let f = (role_follows parts is_map roles group map.entries pool others mapped follows b inside (left b other)).0 in
                let k = kept b inside other in
                (λ r. f.0 (sym k ∙ r), λ d. k ∙ f.1 d)
          ];
          log_blocks = λ b inside. elim (cases_eq b block) [
            | inl same ↦ log_here b same
            | inr other ↦
                let f = (role_follows parts is_map roles group map.entries pool others mapped follows b inside (left b other)).1 in
                let k = kept b inside other in
                (λ r. f.0 (sym k ∙ r), λ d. k ∙ f.1 d)
          ];
          in_pool = roles.in_pool;
          page_mapped = page_mapped_follow parts is_map roles group map.entries pool others mapped follows;
        }

    pub agree_put : (contents : Contents) → IsCopied parts.geometry parts.map.entries group block contents.flash.page → PartsAgree parts contents → PartsAgree (noted parts map (SetGroup group block present dirty) pool') contents
    agree_put contents copied agree = agree_noted parts contents map (SetGroup group block present dirty) pool' agree putting_fits is one'
        (record {
          whole = λ a f at. elim (cases_eq (a / parts.geometry.p) group) [
            | inl same ↦
                let x = moved_was parts.geometry parts.map.entries map.entries group block entries_are a f at same in
                ap (λ (y : Entry). is_whole (contents.flash.page y.place)) x.2 ∙ copy_whole contents.flash.page x.0.place (record { block = block; page = a % parts.geometry.p }) (copied a x.0 x.1 same)
            | inr other ↦ agree.sound.whole.whole a f (sym (moved_others parts.geometry parts.map.entries map.entries group block entries_are a other) ∙ at)
          ];
        })
        roles_put

    pub lists_put : (contents : Contents) (list durable : CacheList) → IsCopied parts.geometry parts.map.entries group block contents.flash.page → Lists parts contents.flash.page list durable → Lists (noted parts map (SetGroup group block present dirty) pool') contents.flash.page list durable
    lists_put contents list durable copied lists = record {
      held = λ a. lists.held a ∙ moved_held parts.geometry parts.map.entries map.entries group block entries_are contents.flash.page
          (λ a e at same. copy_held contents.flash.page e.place (record { block = block; page = a % parts.geometry.p }) e.dirty (copied a e at same)) a;
      stands = lists.stands;
    }

-- ---- the same for parts that are known by equations

-- a change was noted
pub as_noted : (old new : Parts) (change : Record) → OnlyMapLogPoolChange old new → new.log ≡ pushed change old.log → new ≡ noted old new.map change new.pool
as_noted old new change is log = is ∙ ap (λ (l : LogValue). record old { map = new.map; log = l; pool = new.pool }) log

pub same_geometry : (old new : Parts) → OnlyMapLogPoolChange old new → new.geometry ≡ old.geometry
same_geometry old new is = ap (λ (p : Parts). p.geometry) is

-- other roles are of the same geometry
pub of_one_roles : (parts : Parts) (pool : PoolValue) → pool.geometry ≡ parts.pool.geometry → AreOfOne parts → AreOfOne (record parts { pool = pool })
of_one_roles parts pool same one = record { map = one.map; log = one.log; pool = same ∙ one.pool; victims = one.victims; log_blocks = one.log_blocks; checkpoints = one.checkpoints }

module _ (old new : Parts) (contents : Contents) (group : ℕ) (agree : PartsAgree old contents) (held : IsGroupHeld old.geometry old.map.entries group)
    (is : new ≡ noted old new.map (RemoveGroup group) new.pool) (entries : new.map.entries ≡ dropped old.geometry old.map.entries group)
    (one : AreOfOne new) (follows : FollowsGroup old.geometry group old.map.entries new.map.entries old.pool new.pool) where
  pub agree_without : PartsAgree new contents
  agree_without = subst (λ (p : Parts). PartsAgree p contents) (sym is) (agree_dropped old contents group agree held new.map new.pool entries (subst (λ (p : Parts). AreOfOne p) is one) follows)

  pub lists_without : (list durable : CacheList) → Lists old contents.flash.page list durable → Lists new contents.flash.page (list_without old.geometry group list) durable
  lists_without list durable lists = subst (λ (p : Parts). Lists p contents.flash.page (list_without old.geometry group list) durable) (sym is) (lists_dropped old contents group agree held new.map new.pool entries (subst (λ (p : Parts). AreOfOne p) is one) follows list durable lists)

module _ (old new : Parts) (pool : PoolValue) (group block present dirty : ℕ) (one : AreOfOne old) (is_map : IsMap old.geometry old.map.entries) (roles : RolesAgree old)
    (held : IsGroupHeld old.geometry old.map.entries group) (room : HasBlockOrRoom old.geometry old.map.entries group) (free : IsFree old.pool block)
    (present_is : present ≡ chosen_of Held old.map.geometry old.map.entries group) (dirty_is : dirty ≡ chosen_of Dirty old.map.geometry old.map.entries group)
    (is : new ≡ noted old new.map (SetGroup group block present dirty) new.pool)
    (entries : new.map.entries ≡ after old.geometry (SetGroup group block present dirty) old.map.entries)
    (one' : AreOfOne new) (follows : FollowsGroup old.geometry group old.map.entries new.map.entries old.pool new.pool)
    (same : pool.geometry ≡ new.pool.geometry) (own : role_of pool block ≡ Data) (rest : (b : ℕ) → IsInPool new.pool.geometry b → (b ≡ block → ⊥) → role_of pool b ≡ role_of new.pool b) where
  put_is : record new { pool = pool } ≡ noted old new.map (SetGroup group block present dirty) pool
  put_is = ap (λ (p : Parts). record p { pool = pool }) is

  of_one_put : AreOfOne (noted old new.map (SetGroup group block present dirty) pool)
  of_one_put = subst (λ (p : Parts). AreOfOne p) put_is (of_one_roles new pool same one')

  pub agree_moved : (contents : Contents) → IsCopied old.geometry old.map.entries group block contents.flash.page → PartsAgree old contents → PartsAgree (record new { pool = pool }) contents
  agree_moved contents copied agree =
      subst (λ (p : Parts). PartsAgree p contents) (sym put_is)
      (agree_put old group block present dirty one is_map roles held room free present_is dirty_is new.map new.pool pool entries of_one_put follows own rest contents copied agree)

  pub lists_moved : (contents : Contents) (list durable : CacheList) → IsCopied old.geometry old.map.entries group block contents.flash.page → Lists old contents.flash.page list durable → Lists (record new { pool = pool }) contents.flash.page list durable
  lists_moved contents list durable copied lists =
      subst (λ (p : Parts). Lists p contents.flash.page list durable) (sym put_is)
      (lists_put old group block present dirty one is_map roles held room free present_is dirty_is new.map new.pool pool entries of_one_put follows own rest contents list durable copied lists)
