-- The facts that a merge has about its group, and the state that it leaves.
use Rattle.std.proofs.Common.{◌≡◌, ℕ, ◌/◌, ◌<◌, ◌≤◌, Bool, true, false, Option, Some, None, is_some, IfSome, IfNone, refl, sym, ◌∙◌, ap, subst, arith, inl, inr}
use Rattle.std.proofs.lemmas.Bool.{both_ways}
use Rattle.ft_base.specs.declared.geometry.Geometry.{Geometry}
use Rattle.ft_base.specs.declared.block.Place.{Place}
use Rattle.ft_base.specs.declared.block.Page.{Page}
use Rattle.ft_base.specs.Contents.{Contents}
use Rattle.cache_model.specs.Records.{Entries}
use Rattle.cache_model.specs.CacheList.{CacheList}
use Rattle.block_map.specs.PageSets.{BlockPages}
use Rattle.mapping.specs.declared.bits.Choice.TheVariants.{Mapped}
use Rattle.mapping.specs.Bits.{chosen_of, IsDataBlock}
use Rattle.mapping.specs.Counts.{data_block_count}
use Rattle.silent_evict.specs.Candidates.{IsCandidate, IsGroupHeld, IsVictim}
use Rattle.silent_evict.proofs.GroupLemmas.{chosen_none, chosen_some}
use Rattle.merge_engine.specs.declared.parts.Parts.{Parts}
use Rattle.merge_engine.specs.Agreement.{PartsAgree, Lists}
use Rattle.merge_engine.specs.Merges.{HasBlockOrRoom, OthersStay, FlashStandsForEither, list_without}
use Rattle.merge_engine.specs.Room.{GaveWay, GivesRoom, HasNoCandidate, LacksRoom, FlashStandsForGiven}
use Rattle.merge_engine.specs.Steps.{IsMerged, PageMappedStay}
use Rattle.merge_engine.proofs.TakeLemmas.{agree_map}
use Rattle.merge_engine.proofs.MoveLemmas.{either_same}
use Rattle.merge_engine.proofs.GaveLemmas.{other_gave, other_way, itself_gave, itself_way, itself_clean, held_still, room_made, page_mapped_stay, dropped_stay, mapped_then, dropped_merged, given_either, none_way}
use Rattle.merge_engine.proofs.MovedLemmas.{dropped}

-- the list is the same, whatever the choice of victims
pub lists_victims : (parts : Parts) (victims : Geometry) (page : Place → Page) (list durable : CacheList) → Lists parts page list durable → Lists (record parts { victims = victims }) page list durable
lists_victims parts victims page list durable lists = record { held = lists.held; stands = lists.stands }

-- ---- the map's answers about the group

module _ (g h : Geometry) (m : Entries) (group : ℕ) (same : h ≡ g) where
  pub has_own : (o : Option BlockPages) (own : Bool) → own ≡ is_some o → own ≡ true → IfSome o (IsDataBlock h m group) → HasBlockOrRoom g m group
  has_own None own is t found = absurd (let f : own ≡ false = is in both_ways own f t)
  has_own (Some pages) own is t found =
      let x = chosen_some h m group Mapped (λ none. let some = found.some in let present = found.present in absurd (omega (arith, some, present, none))) in
      inl (x.0, x.1, x.2, ap (λ (k : Geometry). x.0 / k.p) (sym same) ∙ x.3, x.4)

  pub has_room : (count : ℕ) → count ≡ data_block_count h m → count < g.c → HasBlockOrRoom g m group
  has_room count is low = inr (subst (λ n. n < g.c) (is ∙ ap (λ (k : Geometry). data_block_count k m) same) low)

  pub lacks_room : (o : Option BlockPages) (own : Bool) (count : ℕ) → own ≡ is_some o → own ≡ false → IfNone o (chosen_of Mapped h m group ≡ 0) → count ≡ data_block_count h m → count ≤ h.c → g.c ≤ count → LacksRoom g m group
  lacks_room None own count is f empty counted most full = record {
    none = λ x. both_ways x.1.block_mapped (chosen_none h m group Mapped empty x.0 x.1 x.2 (ap (λ (k : Geometry). x.0 / k.p) same ∙ x.3)) x.4;
    full =
        let most' : count ≤ g.c = subst (λ (k : Geometry). count ≤ k.c) same most in
        let here : count ≡ data_block_count g m = counted ∙ ap (λ (k : Geometry). data_block_count k m) same in
        omega (arith, most', here, full);
  }
  lacks_room (Some pages) own count is f empty counted most full = absurd (let t : own ≡ true = is in both_ways own f t)

  pub victim_is : (gone : ℕ) → IsVictim h m gone → IsVictim g m gone
  victim_is gone victim = subst (λ (k : Geometry). IsVictim k m gone) same victim

  pub no_candidate : ((k : ℕ) → IsCandidate h m k → ⊥) → HasNoCandidate g m
  no_candidate none = λ k is. none k (subst (λ (j : Geometry). IsCandidate j m k) (sym same) is)

-- ---- a victim gives way, and then the group moves

module _ (old : Parts) (contents : Contents) (agree : PartsAgree old contents) (group : ℕ) (lacks : LacksRoom old.geometry old.map.entries group) (is_held : IsGroupHeld old.geometry old.map.entries group) where
  pub victim_gave : (gone : ℕ) (list durable : CacheList) → IsVictim old.geometry old.map.entries gone → Lists old contents.flash.page list durable → GivesRoom old.geometry list (list_without old.geometry gone list)
  victim_gave gone list durable victim lists = other_gave old.geometry old.map.entries contents.flash.page list agree.sound.whole lists.held group gone lacks is_held victim

  pub victim_way : (gone : ℕ) (list durable : CacheList) → IsVictim old.geometry old.map.entries gone → Lists old contents.flash.page list durable → GaveWay old.geometry old.map.entries group list (list_without old.geometry gone list)
  victim_way gone list durable victim lists = other_way old.geometry old.map.entries contents.flash.page list agree.sound.whole lists.held group gone lacks victim

  pub group_gave : (list durable : CacheList) → HasNoCandidate old.geometry old.map.entries → Lists old contents.flash.page list durable → GivesRoom old.geometry list (list_without old.geometry group list)
  group_gave list durable none lists = itself_gave old.geometry old.map.entries contents.flash.page list agree.sound.whole lists.held group lacks is_held (itself_clean old.geometry old.map.entries group (agree_map old contents agree) lacks none)

  pub group_way : (list durable : CacheList) → HasNoCandidate old.geometry old.map.entries → Lists old contents.flash.page list durable → GaveWay old.geometry old.map.entries group list (list_without old.geometry group list)
  group_way list durable none lists = itself_way old.geometry old.map.entries contents.flash.page list agree.sound.whole lists.held group lacks none

pub stays_way : (old : Parts) (contents : Contents) (group : ℕ) (list durable : CacheList) → PartsAgree old contents → HasBlockOrRoom old.geometry old.map.entries group → Lists old contents.flash.page list durable → GaveWay old.geometry old.map.entries group list list
stays_way old contents group list durable agree room lists = none_way old.geometry old.map.entries contents.flash.page list agree.sound.whole lists.held group room

-- ---- after the victim was dropped

module _ (g h : Geometry) (m n : Entries) (group gone : ℕ) (same : h ≡ g) (is : n ≡ dropped g m gone) where
  pub held_then : LacksRoom g m group → IsVictim g m gone → IsGroupHeld g m group → IsGroupHeld h n group
  held_then lacks victim held = subst (λ (k : Geometry). IsGroupHeld k n group) (sym same) (subst (λ (x : Entries). IsGroupHeld g x group) (sym is) (held_still g m group gone lacks victim held))

  pub room_then : LacksRoom g m group → IsVictim g m gone → HasBlockOrRoom h n group
  room_then lacks victim = subst (λ (k : Geometry). HasBlockOrRoom k n group) (sym same) (subst (λ (x : Entries). HasBlockOrRoom g x group) (sym is) (room_made g m group gone lacks victim))

  pub merged_then : (last : Entries) → IsMerged h last group → IsMerged g last group
  merged_then last merged = subst (λ (k : Geometry). IsMerged k last group) same merged

  pub stay_then : (last : Entries) → OthersStay h group n last → OthersStay g group (dropped g m gone) last
  stay_then last stay = subst (λ (x : Entries). OthersStay g group x last) is (subst (λ (k : Geometry). OthersStay k group n last) same stay)

  pub mapped_after : (last : Entries) → IsMerged h last group → OthersStay h group n last → PageMappedStay m last
  mapped_after last merged stay = mapped_then g m group gone last (page_mapped_stay g (dropped g m gone) group last (merged_then last merged) (stay_then last stay))

-- ---- if the group itself was dropped

module _ (g : Geometry) (m n : Entries) (group : ℕ) (is : n ≡ dropped g m group) where
  pub merged_gone : IsMerged g n group
  merged_gone = subst (λ (x : Entries). IsMerged g x group) (sym is) (dropped_merged g m group)

  pub mapped_gone : PageMappedStay m n
  mapped_gone = subst (λ (x : Entries). PageMappedStay m x) (sym is) (dropped_stay g m group group)

-- ---- the list for which the flash stands

pub given_itself : (g : Geometry) (page : Place → Page) (durable list : CacheList) → FlashStandsForEither g page durable list → FlashStandsForGiven g page durable list
given_itself g page durable list either = given_either g page durable list list (inl refl) either

-- the flash stands for the list that has already given room
pub given_after : (g h : Geometry) (page : Place → Page) (durable list v : CacheList) → h ≡ g → GivesRoom g list v → FlashStandsForEither h page v v → FlashStandsForGiven g page durable list
given_after g h page durable list v same gives either = inr (v, gives, either_same g page v (subst (λ (k : Geometry). FlashStandsForEither k page v v) same either))
