-- A change is made, and committed or buffered.
use Rattle.std.proofs.Common.{◌≡◌, ◌⊎◌, ℕ, ◌<◌, List, [], inl, inr, ◌∙◌, ap}
use Rattle.ft_base.specs.declared.block.Place.{Place}
use Rattle.ft_base.specs.declared.block.Page.{Page}
use Rattle.ft_base.specs.declared.record.Record.{Record}
use Rattle.ft_base.specs.declared.record.Record.TheVariants.{SetPage, Remove, Clean}
use Rattle.ft_base.specs.Contents.{Contents}
use Rattle.cache_model.specs.Entries.{Fits}
use Rattle.cache_model.specs.CacheList.{CacheList, Held}
use Rattle.cache_model.proofs.CountLemmas.{remove_fits, clean_fits}
use Rattle.op_log.specs.Log.{LogValue, pushed}
use Rattle.merge_engine.specs.declared.parts.Parts.{Parts}
use Rattle.merge_engine.specs.Agreement.{PartsAgree, Lists}
use Rattle.merge_engine.proofs.TakeLemmas.{agree_map}
use Rattle.ssc.specs.Steps.{ListsAfter, PutsBlock}
use Rattle.ssc.proofs.NotedLemmas.{RecordsAfter}

pub removed_fits : (parts : Parts) (contents : Contents) (lba : ℕ) → PartsAgree parts contents → lba < parts.geometry.size → Fits parts.geometry (Remove lba) parts.map.entries
removed_fits parts contents lba agree low = remove_fits parts.geometry lba parts.map.entries (agree_map parts contents agree) low

pub cleaned_fits : (parts : Parts) (contents : Contents) (lba : ℕ) → PartsAgree parts contents → lba < parts.geometry.size → Fits parts.geometry (Clean lba) parts.map.entries
cleaned_fits parts contents lba agree low = clean_fits parts.geometry lba parts.map.entries (agree_map parts contents agree) low

-- a change that was buffered still is, or is committed with all others
pub after_pushed : (log : LogValue) (mid new : Parts) (change : Record) (page : Place → Page) (durable before list : CacheList) → mid.log ≡ pushed change log
    → ((new.log ≡ mid.log) × Lists new page list durable) ⊎ ((new.log.buffered ≡ []) × Lists new page list list)
    → ListsAfter log.buffered change new page durable before list
after_pushed log mid new change page durable before list is (inl k) = inl (ap (λ (l : LogValue). l.buffered) (k.0 ∙ is), k.1)
after_pushed log mid new change page durable before list is (inr k) = inr (inr (k.0, k.1))

-- the records that are buffered after that
pub records_after : (buffered : List Record) (own : Record) (new : Parts) (page : Place → Page) (durable before list : CacheList) → ListsAfter buffered own new page durable before list → RecordsAfter buffered own new.log.buffered
records_after buffered own new page durable before list (inl k) = inl k.0
records_after buffered own new page durable before list (inr (inl k)) = inr (inl k.0)
records_after buffered own new page durable before list (inr (inr k)) = inr (inr k.0)

-- and after a block was put
pub records_put : (old : Parts) (lba : ℕ) (block : Held) (new : Parts) (page : Place → Page) (durable list : CacheList) → PutsBlock old lba block new page durable list → (at : Place) × RecordsAfter old.log.buffered (SetPage lba at block.dirty) new.log.buffered
records_put old lba block new page durable list (at, inl after) = (at, records_after old.log.buffered (SetPage lba at block.dirty) new page durable list _ after)
records_put old lba block new page durable list (at, inr (v, left, inl k)) = (at, inr (inl k.0))
records_put old lba block new page durable list (at, inr (v, left, inr (inl k))) = (at, inr (inl k.0))
records_put old lba block new page durable list (at, inr (v, left, inr (inr k))) = (at, inr (inr k.0))
