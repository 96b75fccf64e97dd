-- A log block is begun when the open one has no page left.
use Rattle.std.proofs.Common.{◌≡◌, ℕ, ◌-◌, ◌<◌, ◌≤◌, [], ◌∷◌, ◌++◌, slice_get, Some, sym, ◌∙◌, ap, subst}
use Rattle.ft_base.specs.declared.geometry.Geometry.{Geometry}
use Rattle.ft_base.specs.Layout.{log_pages}
use Rattle.ft_media.specs.declared.rig.Counts.{Counts}
use Rattle.ft_media.specs.Media.{program_counted, erase_counted}
use Rattle.mapping.specs.MapValue.{MapValue}
use Rattle.op_log.specs.Log.{LogValue}
use Rattle.checkpoint.specs.Counts.{checkpoint_counted}
use Rattle.checkpoint.specs.Regions.{map_pages}
use Rattle.checkpoint.specs.Current.{log_committed}
use Rattle.block_pool.specs.Pool.{PoolValue, ErasedOnce, IsInPool, IsNextTaken, role_of}
use Rattle.log_blocks.specs.Logs.{LogBlocksValue, block_begun}
use Rattle.merge_engine.specs.declared.parts.Parts.{Parts}
use Rattle.merge_engine.specs.Agreement.{AreOfOne}
use Rattle.merge_engine.specs.LogSteps.{BeginsLog, CostsOfTaking, FreesOldest, MakesRoom, TakenAsLog, TakesLogBlock, UsedAsLog}
use Rattle.merge_engine.specs.Room.{FreesGroups}
use Rattle.merge_engine.specs.Steps.{CanBeginLog}

-- ---- the block that is taken

-- it is the pool's next one, and then a log block
pub taken_as_log : (old mid new : PoolValue) (block : ℕ) → IsNextTaken old block → mid.geometry ≡ old.geometry → ((b : ℕ) → role_of mid b ≡ role_of old b) → ErasedOnce old mid block → UsedAsLog mid new block → TakenAsLog old new block
taken_as_log old mid new block next same roles once used = record {
  next = next;
  erased = record {
    this = used.erases block ∙ once.this;
    others = λ b here differs. used.erases b ∙ once.others b here differs;
  };
  role = used.role;
  others = λ b here differs. used.others b (subst (λ (g : Geometry). IsInPool g b) (sym same) here) differs ∙ roles b;
}

-- a commit before it leaves the pool and the log blocks
pub takes_after : (old mid new : Parts) (block : ℕ) → mid ≡ record old { log = mid.log } → TakesLogBlock mid new block → TakesLogBlock old new block
takes_after old mid new block is takes = record {
  logs = takes.logs ∙ ap (λ (p : Parts). block_begun block p.log_blocks) is;
  taken = subst (λ (p : PoolValue). TakenAsLog p new.pool block) (ap (λ (p : Parts). p.pool) is) takes.taken;
}

-- ---- the log blocks after that

begun_as : (old mid new : LogBlocksValue) (g : Geometry) (block : ℕ) → new ≡ block_begun block mid → mid.geometry ≡ g → old.geometry ≡ g
    → new ≡ record old { used = mid.used ++ block ∷ []; open_block = Some block; room = g.p }
begun_as old mid new g block is mid_is old_is =
    is ∙ ap (λ (h : Geometry). record mid { geometry = h; used = mid.used ++ block ∷ []; open_block = Some block; room = h.p }) mid_is
    ∙ ap (λ (h : Geometry). record mid { geometry = h; used = mid.used ++ block ∷ []; open_block = Some block; room = g.p }) (sym old_is)

pub begins_log : (old mid new : Parts) (block : ℕ) → MakesRoom old mid.log_blocks.used mid.pool → TakesLogBlock mid new block → AreOfOne old → AreOfOne mid → mid.geometry ≡ old.geometry
    → new.log.buffered ≡ [] → (CanBeginLog old → new.log ≡ log_committed old.log) → BeginsLog old new old.geometry.p
begins_log old mid new block makes takes one one_mid same nothing log = record {
  left = mid.log_blocks.used;
  pool = mid.pool;
  room = makes;
  block = block;
  taken = takes.taken;
  logs = begun_as old.log_blocks mid.log_blocks new.log_blocks old.geometry block takes.logs (one_mid.log_blocks ∙ same) one.log_blocks;
  nothing_waits = nothing;
  log = log;
}

-- the log blocks once its first page is programmed
pub begins_then : (old mid new : Parts) (pages : ℕ) → BeginsLog old mid pages → new ≡ record mid { log_blocks = record mid.log_blocks { room = mid.log_blocks.room - 1 } } → BeginsLog old new (pages - 1)
begins_then old mid new pages begins is = record {
  left = begins.left;
  pool = begins.pool;
  room = begins.room;
  block = begins.block;
  taken = subst (λ (p : PoolValue). TakenAsLog begins.pool p begins.block) (sym (ap (λ (p : Parts). p.pool) is)) begins.taken;
  logs = ap (λ (p : Parts). p.log_blocks) is ∙ ap (λ (l : LogBlocksValue). record l { room = l.room - 1 }) begins.logs;
  nothing_waits = ap (λ (p : Parts). p.log.buffered) is ∙ begins.nothing_waits;
  log = λ can. ap (λ (p : Parts). p.log) is ∙ begins.log can;
}

-- ---- the cost of taking it

-- the log still has a page left
pub page_left : (old new : LogValue) (g h : Geometry) → new.next ≡ old.next → h ≡ g → old.next < log_pages g → new.next < log_pages h
page_left old new g h next same low = subst (λ n. n < log_pages h) (sym next) (subst (λ (k : Geometry). old.next < log_pages k) (sym same) low)

pub costs_as : (old mid : Parts) (before then now : Counts) → mid.log ≡ old.log → mid.map ≡ old.map → mid.geometry ≡ old.geometry → then ≡ before → CostsOfTaking mid then now → CostsOfTaking old before now
costs_as old mid before then now log_is map_is geometry_is same costs = record {
  counts = λ none. costs.counts (ap (λ (l : LogValue). l.buffered) log_is ∙ none) ∙ ap erase_counted same;
  one_more = λ some low. costs.one_more (λ none. some (sym (ap (λ (l : LogValue). l.buffered) log_is) ∙ none)) (page_left old.log mid.log old.geometry mid.geometry (ap (λ (l : LogValue). l.next) log_is) geometry_is low)
      ∙ ap (λ (n : Counts). erase_counted (program_counted n)) same;
  checkpoint = λ some full. costs.checkpoint (λ none. some (sym (ap (λ (l : LogValue). l.buffered) log_is) ∙ none))
      (subst (λ n. log_pages mid.geometry ≤ n) (sym (ap (λ (l : LogValue). l.next) log_is)) (subst (λ (g : Geometry). log_pages g ≤ old.log.next) (sym geometry_is) full))
      ∙ ap (λ (l : LogValue). erase_counted (checkpoint_counted l.geometry (map_pages l.geometry mid.map.records) then)) log_is
      ∙ ap (λ (m : MapValue). erase_counted (checkpoint_counted old.log.geometry (map_pages old.log.geometry m.records) then)) map_is
      ∙ ap (λ (n : Counts). erase_counted (checkpoint_counted old.log.geometry (map_pages old.log.geometry old.map.records) n)) same;
}

-- ---- the oldest log block is freed

pub freed_as : (old mid new : Parts) → mid.log_blocks.used ≡ old.log_blocks.used → mid.map ≡ old.map → mid.geometry ≡ old.geometry → FreesOldest mid new → FreesOldest old new
freed_as old mid new used map_is geometry_is freed = λ oldest is.
    subst (λ (g : Geometry). FreesGroups g oldest old.map.entries new.map.entries) geometry_is
    (subst (λ (m : MapValue). FreesGroups mid.geometry oldest m.entries new.map.entries) map_is (freed oldest (ap (λ l. slice_get l 0) used ∙ is)))

pub freed_then : (old mid new : Parts) → new.map ≡ mid.map → FreesOldest old mid → FreesOldest old new
freed_then old mid new same freed = λ oldest is. subst (λ (m : MapValue). FreesGroups old.geometry oldest old.map.entries m.entries) (sym same) (freed oldest is)
