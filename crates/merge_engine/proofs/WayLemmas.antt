-- A list that gave way gave room.
use Rattle.std.proofs.Common.{◌≡◌, ℕ, ◌/◌, ◌==◌, cond, Option, Some, None, inl, inr, sym, ◌∙◌, subst}
use Rattle.std.specs.Cmp.{nat_cmp_total}
use Rattle.std.specs.FinMap.{get, same_map, nat_cmp-IsAntisymmetric}
use Rattle.ft_base.specs.Contents.{Contents}
use Rattle.cache_model.specs.CacheList.{CacheList}
use Rattle.silent_evict.specs.Candidates.{IsGroupHeld}
use Rattle.merge_engine.specs.declared.parts.Parts.{Parts}
use Rattle.merge_engine.specs.Agreement.{PartsAgree, Lists}
use Rattle.merge_engine.specs.Merges.{list_without}
use Rattle.merge_engine.specs.Room.{GaveWay, GivesRoom, MakesWay, is_group}
use Rattle.merge_engine.proofs.GaveLemmas.{get_without}
use Rattle.merge_engine.proofs.MergeLemmas.{victim_gave, group_gave}

module _ (parts : Parts) (contents : Contents) (group : ℕ) (list durable v : CacheList) (agree : PartsAgree parts contents) (held : IsGroupHeld parts.geometry parts.map.entries group) (lists : Lists parts contents.flash.page list durable) where
  is_without : (one : ℕ) → ((a : ℕ) → get v a ≡ cond (a / parts.geometry.p == one) None (get list a)) → list_without parts.geometry one list ≡ v
  is_without one stays = same_map nat_cmp_total nat_cmp-IsAntisymmetric (list_without parts.geometry one list) v (λ a. get_without parts.geometry parts.map.entries contents.flash.page list agree.sound.whole lists.held one a ∙ sym (stays a))

  pub gave_way-gives : GaveWay parts.geometry parts.map.entries group list v → GivesRoom parts.geometry list v
  gave_way-gives way = by_case way.gone way.given_up way.stays
    where
      by_case : (gone : Option ℕ) → MakesWay parts.geometry parts.map.entries group gone → ((a : ℕ) → get v a ≡ cond (is_group gone (a / parts.geometry.p)) None (get list a)) → GivesRoom parts.geometry list v
      by_case None room stays = inl (same_map nat_cmp_total nat_cmp-IsAntisymmetric v list stays)
      by_case (Some one) given stays = subst (λ (w : CacheList). GivesRoom parts.geometry list w) (is_without one stays) (elim given.1 [
        | inl victim ↦ victim_gave parts contents agree group given.0 held one list durable victim lists
        | inr itself ↦ subst (λ n. GivesRoom parts.geometry list (list_without parts.geometry n list)) (sym itself.0) (group_gave parts contents agree group given.0 held list durable itself.1 lists)
      ])
