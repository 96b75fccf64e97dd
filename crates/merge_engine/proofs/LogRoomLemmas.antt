-- A log block is available without a merge.
use Rattle.std.proofs.Common.{◌≡◌, ◌≤◌, inl, inr, sym, ◌∙◌, ap, subst}
use Rattle.ft_base.specs.declared.geometry.Geometry.{Geometry}
use Rattle.ft_base.specs.declared.block.Place.{Place}
use Rattle.ft_base.specs.declared.block.Page.{Page}
use Rattle.ft_media.specs.State.{State}
use Rattle.cache_model.specs.CacheList.{CacheList}
use Rattle.op_log.specs.Log.{LogValue}
use Rattle.log_blocks.specs.Logs.{LogBlocksValue}
use Rattle.merge_engine.specs.declared.parts.Parts.{Parts}
use Rattle.merge_engine.specs.Agreement.{Lists}
use Rattle.merge_engine.specs.Merges.{FlashStandsForEither}
use Rattle.merge_engine.specs.Steps.{CanBeginLog, HasLogBlock, KeepsList}
use Rattle.merge_engine.proofs.BesideLemmas.{lists_as}

pub can_begin : (parts : Parts) → (1 ≤ parts.log_blocks.room → ⊥) → HasLogBlock parts → CanBeginLog parts
can_begin parts none (inl some) = absurd (none some)
can_begin parts none (inr can) = can

-- the list is the same once blocks were given back
pub lists_made : (old mid : Parts) (before now : State) (list durable : CacheList) → mid ≡ record old { pool = mid.pool; log_blocks = mid.log_blocks } → now ≡ before → Lists old before.contents.flash.page list durable → Lists mid now.contents.flash.page list durable
lists_made old mid before now list durable made same lists =
    lists_as old mid now.contents.flash.page list durable (ap (λ (p : Parts). p.map) made) (ap (λ (p : Parts). p.geometry) made) (subst (λ (s : State). Lists old s.contents.flash.page list durable) (sym same) lists)

-- the block went out of use, and all else stays
pub given_same : (old mid new : Parts) (logs : LogBlocksValue) → mid ≡ old → new ≡ record mid { pool = new.pool; log_blocks = logs } → new ≡ record old { pool = new.pool; log_blocks = new.log_blocks }
given_same old mid new logs same is = is ∙ ap (λ (p : Parts). record p { pool = new.pool; log_blocks = logs }) same ∙ ap (λ (l : LogBlocksValue). record old { pool = new.pool; log_blocks = l }) (sym (ap (λ (p : Parts). p.log_blocks) is))

-- a step that changes no page of the lists comes after one that keeps the list
module _ (log : LogValue) (mid : Parts) (page page' : Place → Page) (list durable : CacheList) (later : (l d : CacheList) → Lists mid page l d → Lists mid page' l d) where
  pub keeps_stands : (g : Geometry) → mid.geometry ≡ g → KeepsList log mid page list durable → FlashStandsForEither g page' durable list
  keeps_stands g is (inl on) = subst (λ (h : Geometry). FlashStandsForEither h page' durable list) is (inl (later list durable on.1).stands)
  keeps_stands g is (inr all) = subst (λ (h : Geometry). FlashStandsForEither h page' durable list) is (inr (later list list all.1).stands)

  pub keeps_then : (new : Parts) → new.log ≡ mid.log → new.map ≡ mid.map → new.geometry ≡ mid.geometry → KeepsList log mid page list durable → KeepsList log new page' list durable
  keeps_then new log_is map_is geometry_is (inl on) = inl (log_is ∙ on.0, lists_as mid new page' list durable map_is geometry_is (later list durable on.1))
  keeps_then new log_is map_is geometry_is (inr all) = inr (ap (λ (l : LogValue). l.buffered) log_is ∙ all.0, lists_as mid new page' list list map_is geometry_is (later list list all.1))
