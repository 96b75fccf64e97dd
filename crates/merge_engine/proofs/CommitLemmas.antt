-- The buffered changes are on the flash: it stands for the map, or for the same list as before.
use Rattle.std.proofs.Common.{◌≡◌, ◌⊎◌, ℕ, Some, Ok, sym, ◌∙◌, ap, subst, inl, inr}
use Rattle.std.specs.FinMap.{get}
use Rattle.ft_base.specs.declared.geometry.Geometry.{Geometry}
use Rattle.ft_base.specs.declared.block.Place.{Place}
use Rattle.ft_base.specs.declared.block.Page.{Page}
use Rattle.ft_base.specs.Contents.{Contents, Shape}
use Rattle.cache_model.specs.declared.entry.Entry.{Entry}
use Rattle.cache_model.specs.Records.{Entries}
use Rattle.cache_model.specs.Entries.{IsMap}
use Rattle.cache_model.specs.Loading.{load, is_whole}
use Rattle.cache_model.specs.CacheList.{CacheList}
use Rattle.cache_model.specs.Stands.{FlashStandsFor}
use Rattle.cache_model.proofs.FitsLemmas.{load-map}
use Rattle.op_log.specs.Log.{LogValue, FitsOn}
use Rattle.checkpoint.specs.Commits.{CanCheckpoint}
use Rattle.checkpoint.specs.Current.{IsCommitted, PoolStays, PoolReadyStays, LoadsOneOf}
use Rattle.checkpoint.proofs.SealedLemmas.{current_map}
use Rattle.log_blocks.specs.Logs.{append_place}
use Rattle.merge_engine.specs.declared.parts.Parts.{Parts}
use Rattle.merge_engine.proofs.BesideLemmas.{held_same}
use Rattle.merge_engine.proofs.RoleLemmas.{open_in_use}
use Rattle.merge_engine.specs.Agreement.{ArePartsSound, PartsAgree, Lists, IsListOn}

-- ---- the pool is unchanged

-- the pages of the pool are unchanged
pub pool_same : (g : Geometry) (page page' : Place → Page) (m : Entries) → IsMap g m → PoolStays g page page' → (a : ℕ) (e : Entry) → get m a ≡ Some e → page e.place ≡ page' e.place
pool_same g page page' m is_map stays a e is = sym (stays e.place (is_map.in_pool a e is).above)

-- a flash that is loaded as a map whose pages are unchanged stands for the same list
pub stands_by_pool : (g : Geometry) (page page' : Place → Page) (m : Entries) (list : CacheList) → IsMap g m → PoolStays g page page' → load g page' ≡ Ok m → IsListOn page m list → FlashStandsFor g page' list
stands_by_pool g page page' m list is_map stays loads on = record {
  loaded = m;
  loads = loads;
  held = λ a. on a ∙ held_same page page' (get m a) (pool_same g page page' m is_map stays a);
}

-- a flash that loads the same entries, with an unchanged pool, stands for the same list
pub stands_as_before : (g : Geometry) (page page' : Place → Page) (list : CacheList) → PoolStays g page page' → load g page' ≡ load g page → FlashStandsFor g page list → FlashStandsFor g page' list
stands_as_before g page page' list stays same stands = stands_by_pool g page page' stands.loaded list (load-map g page stands.loaded stands.loads) stays (same ∙ stands.loads) stands.held

-- sound parts can be put on the flash
pub can_checkpoint : (parts : Parts) (contents : Contents) → ArePartsSound parts contents → CanCheckpoint parts.checkpoints parts.map parts.log contents
can_checkpoint parts contents sound = record {
  shape = subst (λ (h : Geometry). FitsOn h contents.shape) (sym sound.of_one.log) sound.shape;
  own = sound.of_one.checkpoints ∙ sym sound.of_one.log;
  map = sound.of_one.map ∙ sym sound.of_one.log;
  current = sound.current;
  whole = sound.whole;
}

-- ---- after a commit

module _ (old : Parts) (log : LogValue) (checkpoints : Geometry) (before now : Contents) (sound : ArePartsSound old before) (pool : PoolStays old.log.geometry before.flash.page now.flash.page) where
  abbrev pub committed : Parts
  committed = record old { log = log; checkpoints = checkpoints }

  own : old.log.geometry ≡ old.geometry
  own = sound.of_one.log

  is_map : IsMap old.geometry old.map.entries
  is_map = subst (λ (h : Geometry). IsMap h old.map.entries) own (current_map old.log before.flash.page old.map.entries sound.current)

  stays : PoolStays old.geometry before.flash.page now.flash.page
  stays = subst (λ (h : Geometry). PoolStays h before.flash.page now.flash.page) own pool

  same : (a : ℕ) (e : Entry) → get old.map.entries a ≡ Some e → before.flash.page e.place ≡ now.flash.page e.place
  same = pool_same old.geometry before.flash.page now.flash.page old.map.entries is_map stays

  -- whatever the call answers
  pub committed_stands : LoadsOneOf old.log.geometry before.flash.page now.flash.page old.map.entries → (list durable : CacheList) → Lists old before.flash.page list durable
      → FlashStandsFor old.geometry now.flash.page durable ⊎ FlashStandsFor old.geometry now.flash.page list
  committed_stands one list durable lists = by (subst (λ (h : Geometry). LoadsOneOf h before.flash.page now.flash.page old.map.entries) own one)
    where
      by : LoadsOneOf old.geometry before.flash.page now.flash.page old.map.entries → FlashStandsFor old.geometry now.flash.page durable ⊎ FlashStandsFor old.geometry now.flash.page list
      by (inl loads) = inr (stands_by_pool old.geometry before.flash.page now.flash.page old.map.entries list is_map stays loads lists.held)
      by (inr as_before) = inl (stands_as_before old.geometry before.flash.page now.flash.page durable stays as_before lists.stands)

  pub committed_lists : log.geometry ≡ old.log.geometry → IsCommitted now.flash log old.map.entries → (list durable : CacheList) → Lists old before.flash.page list durable → Lists committed now.flash.page list list
  committed_lists own_log done list durable lists = record {
    held = λ a. lists.held a ∙ held_same before.flash.page now.flash.page (get old.map.entries a) (same a);
    stands = stands_by_pool old.geometry before.flash.page now.flash.page old.map.entries list is_map stays (subst (λ (h : Geometry). load h now.flash.page ≡ Ok old.map.entries) (own_log ∙ own) done.loads) lists.held;
  }

  pub committed_agree : log.geometry ≡ old.log.geometry → checkpoints ≡ old.checkpoints → now.shape ≡ before.shape → PoolReadyStays old.log.geometry before.flash now.flash → IsCommitted now.flash log old.map.entries → PartsAgree committed now
  committed_agree own_log own_marks shape ready done = record {
    sound = record {
      of_one = record {
        map = sound.of_one.map;
        log = own_log ∙ own;
        pool = sound.of_one.pool;
        victims = sound.of_one.victims;
        log_blocks = sound.of_one.log_blocks;
        checkpoints = own_marks ∙ sound.of_one.checkpoints;
      };
      shape = subst (λ (s : Shape). FitsOn old.geometry s) (sym shape) sound.shape;
      current = done.current;
      whole = record { whole = λ a e at. ap is_whole (sym (same a e at)) ∙ sound.whole.whole a e at };
      roles = record { data_blocks = sound.roles.data_blocks; log_blocks = sound.roles.log_blocks; in_pool = sound.roles.in_pool; page_mapped = sound.roles.page_mapped };
      log_blocks = sound.log_blocks;
      open_block = λ room.
          let block = (append_place old.log_blocks).block in
          let within = sound.roles.in_pool block (open_in_use old.log_blocks sound.log_blocks room) in
          subst (λ (h : Geometry). PoolReadyStays h before.flash now.flash) own ready block within.0 ∙ sound.open_block room;
    };
    open_log = done.opened;
  }
