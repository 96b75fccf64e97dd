-- Groups that give way, in the entries and in the list.
use Rattle.std.proofs.Common.{◌≡◌, ℕ, suc, ◌/◌, ◌<◌, ◌≤◌, ◌==◌, true, false, cond, not, List, [], ◌∷◌, length, map, filter, Option, Some, None, refl, sym, ◌∙◌, ap, subst, arith, inl, inr, eqb-true, ne_eqb}
use Rattle.std.specs.Option.{option_and_then}
use Rattle.std.specs.FinMap.{get, entries}
use Rattle.std.proofs.lemmas.Bool.{cases_Bool, cases_eq, both_ways, or_cases}
use Rattle.std.proofs.lemmas.Option.{same_Some}
use Rattle.ft_base.specs.declared.geometry.Geometry.{Geometry}
use Rattle.ft_base.specs.declared.block.Place.{Place}
use Rattle.ft_base.specs.declared.block.Page.{Page}
use Rattle.cache_model.specs.declared.entry.Entry.{Entry}
use Rattle.cache_model.specs.Records.{Entries, is_in_group}
use Rattle.cache_model.specs.Entries.{each_once, IsMap}
use Rattle.cache_model.specs.CacheList.{CacheList, Held}
use Rattle.cache_model.specs.Cache.{IsWhollyClean, groups}
use Rattle.cache_model.specs.Stands.{held_at}
use Rattle.cache_model.proofs.StandLemmas.{whole_held}
use Rattle.cache_model.proofs.StepLemmas.{cond-not}
use Rattle.cache_model.proofs.MapLemmas.{by_get, get_retain}
use Rattle.cache_model.proofs.CountLemmas.{member, numbers, all_members, each_once-le, others, length_others, member_others, member_self}
use Rattle.checkpoint.specs.Current.{AreWhole}
use Rattle.mapping.specs.Bits.{chosen_of}
use Rattle.mapping.specs.declared.bits.Choice.TheVariants.{Dirty}
use Rattle.mapping.proofs.MarksLemmas.{member_from, member_to}
use Rattle.silent_evict.specs.Candidates.{HasDataBlock, IsGroupHeld, IsClean, IsVictim}
use Rattle.silent_evict.specs.Candidates as entries_are
use Rattle.silent_evict.proofs.GroupLemmas.{chosen_none, chosen_some}
use Rattle.merge_engine.specs.Agreement.{IsListOn}
use Rattle.merge_engine.specs.Merges.{HasBlockOrRoom, OthersStay, FlashStandsForEither, list_without}
use Rattle.merge_engine.specs.Room.{GaveRoom, GaveWay, GivesRoom, HasNoCandidate, LacksRoom, FlashStandsForGiven}
use Rattle.merge_engine.specs.Steps.{IsMerged, PageMappedStay}
use Rattle.merge_engine.proofs.MovedLemmas.{dropped_here, dropped_other, dropped}

-- ---- groups with a data block

abbrev pub mapped_numbers : Geometry → Entries → List ℕ
mapped_numbers g m = numbers (λ (x : ℕ × Entry). x.0 / g.p) (λ (e : Entry). e.block_mapped) (entries m)

abbrev pub dirty_numbers : Geometry → Entries → List ℕ
dirty_numbers g m = numbers (λ (x : ℕ × Entry). x.0 / g.p) (λ (e : Entry). e.dirty) (entries m)

pub is_there : (g : Geometry) (m : Entries) (group : ℕ) → HasDataBlock g m group → member group (mapped_numbers g m) ≡ true
is_there g m group x = ap (λ k. member k (mapped_numbers g m)) (sym x.3) ∙ member_from (λ (x : ℕ × Entry). x.0 / g.p) (λ (e : Entry). e.block_mapped) m x.0 x.1 x.2 x.4

pub has_block : (g : Geometry) (m : Entries) (group : ℕ) → member group (mapped_numbers g m) ≡ true → HasDataBlock g m group
has_block g m group t = let x = member_to (λ (x : ℕ × Entry). x.0 / g.p) (λ (e : Entry). e.block_mapped) m group t in (x.0.0, x.0.1, x.1, x.3, x.2)

pub is_absent : (g : Geometry) (m : Entries) (group : ℕ) → (HasDataBlock g m group → ⊥) → member group (mapped_numbers g m) ≡ false
is_absent g m group none = elim (cases_Bool (member group (mapped_numbers g m))) [
  | inl t ↦ absurd (none (has_block g m group t))
  | inr f ↦ f
]

-- one number more, which is new
pub one_longer : (n : ℕ) (ns : List ℕ) → member n ns ≡ false → length (each_once (n ∷ ns)) ≡ suc (length (each_once ns))
one_longer n ns f = ap (λ b. length (cond b (each_once ns) (n ∷ each_once ns))) f

-- a number of the longer list is the new one, or one of the old list
pub of_longer : {A : Type 0} (n k : ℕ) (ns : List ℕ) → member k (n ∷ ns) ≡ true → (n ≡ k → A) → (member k ns ≡ true → A) → A
of_longer n k ns t here there = elim (or_cases (n == k) (member k ns) t) [
  | inl same ↦ here (eqb-true n k same)
  | inr later ↦ there later
]

-- a number among the others is another one, and one of the list
pub of_others : (x n : ℕ) (ns : List ℕ) → member n (others x ns) ≡ true → (n ≡ x → ⊥) × (member n ns ≡ true)
of_others x n ns t = elim (cases_eq n x) [
  | inl same ↦ absurd (both_ways (member n (others x ns)) (ap (λ k. member k (others x ns)) same ∙ member_self x ns) t)
  | inr other ↦ (other, sym (member_others x n ns (ne_eqb n x other)) ∙ t)
]

-- ---- groups of a list

filter_all : {A : Type 0} (xs : List A) → filter (λ x. true) xs ≡ xs
filter_all [] = refl
filter_all (x ∷ xs) = ap (λ l. x ∷ l) (filter_all xs)

abbrev group_numbers : Geometry → CacheList → List ℕ
group_numbers g s = map (λ x. x.0 / g.p) (entries s)

is_listed : (g : Geometry) (s : CacheList) (a : ℕ) (h : Held) → get s a ≡ Some h → member (a / g.p) (group_numbers g s) ≡ true
is_listed g s a h is =
    ap (λ (l : List (ℕ × Held)). member (a / g.p) (map (λ x. x.0 / g.p) l)) (sym (filter_all (entries s)))
    ∙ by_get s (λ a h. true ≡ true → member (a / g.p) (numbers (λ x. x.0 / g.p) (λ (h : Held). true) (entries s)) ≡ true) (all_members (λ x. x.0 / g.p) (λ (h : Held). true) (entries s)) a h is refl

-- ---- the list of entries

module _ (g : Geometry) (m : Entries) (page : Place → Page) (s : CacheList) (whole : AreWhole page m) (on : IsListOn page m s) where
  pub listed : (a : ℕ) (e : Entry) → get m a ≡ Some e → (h : Held) × (get s a ≡ Some h) × (h.dirty ≡ e.dirty)
  listed a e is = let x = whole_held page e (whole.whole a e is) in (x.0, on a ∙ ap (option_and_then (held_at page)) is ∙ x.1, x.2)

  pub entered : (a : ℕ) (h : Held) → get s a ≡ Some h → (e : Entry) × (get m a ≡ Some e) × (h.dirty ≡ e.dirty)
  entered a h is = by_entry (get m a) refl
    where
      by_entry : (o : Option Entry) → get m a ≡ o → (e : Entry) × (get m a ≡ Some e) × (h.dirty ≡ e.dirty)
      by_entry None at = absurd (let no : None ≡ Some h = sym (on a ∙ ap (option_and_then (held_at page)) at) ∙ is in cc)
      by_entry (Some e) at =
          let x = listed a e at in
          let same : h ≡ x.0 = same_Some h x.0 (sym is ∙ x.1) in
          (e, at, ap (λ (k : Held). k.dirty) same ∙ x.2)

  -- a group that is wholly clean in the entries is wholly clean in the list
  pub clean_listed : (group : ℕ) → entries_are.HoldsCleanAlone g m group → IsWhollyClean g s group
  clean_listed group is = record {
    some = let x = is.held in let y = listed x.0 x.1 x.2 in (x.0, y.0, y.1, x.3);
    clean = λ a h at same. let x = entered a h at in x.2 ∙ is.clean a x.0 x.1 same;
  }

  -- ---- how many groups there are

  -- if the group is held and lacks room, there are more than C
  too_many : (group : ℕ) → LacksRoom g m group → IsGroupHeld g m group → g.c < length (groups g s)
  too_many group lacks x =
      let longer = one_longer group (mapped_numbers g m) (is_absent g m group lacks.none) in
      let few = each_once-le (group ∷ mapped_numbers g m) (group_numbers g s) (λ n t. of_longer group n (mapped_numbers g m) t
      (λ same. let y = listed x.0 x.1 x.2 in ap (λ k. member k (group_numbers g s)) (sym same ∙ sym x.3) ∙ is_listed g s x.0 y.0 y.1)
      (λ t. let z = has_block g m n t in let y = listed z.0 z.1 z.2 in ap (λ k. member k (group_numbers g s)) (sym z.3) ∙ is_listed g s z.0 y.0 y.1)) in
      let full = lacks.full in
      omega (arith, longer, few, full)

  pub get_without : (gone a : ℕ) → get (list_without g gone s) a ≡ cond (a / g.p == gone) None (get s a)
  get_without gone a = get_retain s (λ a. not (is_in_group g gone a)) a ∙ cond-not (a / g.p == gone) (get s a) None

  -- the group of an entry that stays is a group of the list without another group
  still_listed : (gone a : ℕ) (e : Entry) → get m a ≡ Some e → (a / g.p ≡ gone → ⊥) → member (a / g.p) (group_numbers g (list_without g gone s)) ≡ true
  still_listed gone a e is other =
      let y = listed a e is in
      is_listed g (list_without g gone s) a y.0 (get_without gone a ∙ ap (λ b. cond b None (get s a)) (ne_eqb (a / g.p) gone other) ∙ y.1)

  -- without another group that has a data block, C are left
  left_by_other : (group gone : ℕ) → LacksRoom g m group → IsGroupHeld g m group → HasDataBlock g m gone → g.c ≤ length (groups g (list_without g gone s))
  left_by_other group gone lacks x has =
      let ns = mapped_numbers g m in
      let differ : group ≡ gone → ⊥ = λ same. lacks.none (subst (λ k. HasDataBlock g m k) (sym same) has) in
      let shorter = length_others gone ns (is_there g m gone has) in
      let absent : member group (others gone ns) ≡ false = member_others gone group ns (ne_eqb group gone differ) ∙ is_absent g m group lacks.none in
      let longer = one_longer group (others gone ns) absent in
      let few = each_once-le (group ∷ others gone ns) (group_numbers g (list_without g gone s)) (λ n t. of_longer group n (others gone ns) t
      (λ same. ap (λ k. member k (group_numbers g (list_without g gone s))) (sym same ∙ sym x.3) ∙ still_listed gone x.0 x.1 x.2 (λ here. differ (sym x.3 ∙ here)))
      (λ t. let q = of_others gone n ns t in let z = has_block g m n q.1 in ap (λ k. member k (group_numbers g (list_without g gone s))) (sym z.3) ∙ still_listed gone z.0 z.1 z.2 (λ here. q.0 (sym z.3 ∙ here)))) in
      let full = lacks.full in
      omega (arith, shorter, longer, few, full)

  -- without the group itself, the C groups that have a data block are left
  left_by_itself : (group : ℕ) → LacksRoom g m group → g.c ≤ length (groups g (list_without g group s))
  left_by_itself group lacks =
      let few = each_once-le (mapped_numbers g m) (group_numbers g (list_without g group s)) (λ n t.
      let z = has_block g m n t in
      ap (λ k. member k (group_numbers g (list_without g group s))) (sym z.3) ∙ still_listed group z.0 z.1 z.2 (λ here. lacks.none (z.0, z.1, z.2, here, z.4))) in
      let full = lacks.full in
      omega (arith, few, full)

  gave_room : (group gone : ℕ) → LacksRoom g m group → IsGroupHeld g m group → entries_are.HoldsCleanAlone g m gone → g.c ≤ length (groups g (list_without g gone s)) → GaveRoom g s (list_without g gone s)
  gave_room group gone lacks x clean left = record {
    gone = λ k. k == gone;
    stays = get_without gone;
    clean = λ k t. subst (λ n. IsWhollyClean g s n) (sym (eqb-true k gone t)) (clean_listed gone clean);
    too_many = too_many group lacks x;
    left = left;
  }

  -- ---- a group gives way for another

  pub other_gave : (group gone : ℕ) → LacksRoom g m group → IsGroupHeld g m group → IsVictim g m gone → GivesRoom g s (list_without g gone s)
  other_gave group gone lacks x victim =
      let has = victim.candidate.some in
      inr (gave_room group gone lacks x (record { held = (has.0, has.1, has.2, has.3); clean = victim.candidate.clean }) (left_by_other group gone lacks x has))

  pub other_way : (group gone : ℕ) → LacksRoom g m group → IsVictim g m gone → GaveWay g m group s (list_without g gone s)
  other_way group gone lacks victim = record { gone = Some gone; given_up = (lacks, inl victim); stays = get_without gone }

  pub itself_gave : (group : ℕ) → LacksRoom g m group → IsGroupHeld g m group → IsClean g m group → GivesRoom g s (list_without g group s)
  itself_gave group lacks x clean = inr (gave_room group group lacks x (record { held = x; clean = clean }) (left_by_itself group lacks))

  pub itself_way : (group : ℕ) → LacksRoom g m group → HasNoCandidate g m → GaveWay g m group s (list_without g group s)
  itself_way group lacks none = record { gone = Some group; given_up = (lacks, inr (refl, none)); stays = get_without group }

  pub none_way : (group : ℕ) → HasBlockOrRoom g m group → GaveWay g m group s s
  none_way group room = record { gone = None; given_up = room; stays = λ a. refl }

-- ---- the facts about the entries

module _ (g : Geometry) (m : Entries) (group : ℕ) where
  -- if no group is a candidate, the group itself is clean
  pub itself_clean : IsMap g m → LacksRoom g m group → HasNoCandidate g m → IsClean g m group
  itself_clean is_map lacks none a e at same = elim (cases_Bool e.dirty) [
    | inl t ↦
        let longer = one_longer group (mapped_numbers g m) (is_absent g m group lacks.none) in
        let few = each_once-le (group ∷ mapped_numbers g m) (dirty_numbers g m) (λ n mem. of_longer group n (mapped_numbers g m) mem
        (λ is. ap (λ k. member k (dirty_numbers g m)) (sym is ∙ sym same) ∙ member_from (λ (x : ℕ × Entry). x.0 / g.p) (λ (e : Entry). e.dirty) m a e at t)
        (λ mem. dirty_too n (has_block g m n mem))) in
        let full = lacks.full in
        let most = is_map.dirty_groups in
        absurd (omega (arith, longer, few, full, most))
    | inr f ↦ f
  ]
    where
      dirty_too : (n : ℕ) → HasDataBlock g m n → member n (dirty_numbers g m) ≡ true
      dirty_too n has = elim (cases_eq (chosen_of Dirty g m n) 0) [
        | inl zero ↦ absurd (none n (record { some = has; clean = λ a e at same. chosen_none g m n Dirty zero a e at same }))
        | inr some ↦ let x = chosen_some g m n Dirty some in ap (λ k. member k (dirty_numbers g m)) (sym x.3) ∙ member_from (λ (x : ℕ × Entry). x.0 / g.p) (λ (e : Entry). e.dirty) m x.0 x.1 x.2 x.4
      ]

  -- a victim is another group than one without a data block
  pub victim_other : (gone : ℕ) → LacksRoom g m group → IsVictim g m gone → group ≡ gone → ⊥
  victim_other gone lacks victim same = lacks.none (subst (λ k. HasDataBlock g m k) (sym same) victim.candidate.some)

  pub held_still : (gone : ℕ) → LacksRoom g m group → IsVictim g m gone → IsGroupHeld g m group → IsGroupHeld g (dropped g m gone) group
  held_still gone lacks victim x = (x.0, x.1, dropped_other g m gone x.0 (λ here. victim_other gone lacks victim (sym x.3 ∙ here)) ∙ x.2, x.3)

  -- then there is room for the group's data block
  pub room_made : (gone : ℕ) → LacksRoom g m group → IsVictim g m gone → HasBlockOrRoom g (dropped g m gone) group
  room_made gone lacks victim =
      let ns = mapped_numbers g m in
      let shorter = length_others gone ns (is_there g m gone victim.candidate.some) in
      let few = each_once-le (mapped_numbers g (dropped g m gone)) (others gone ns) (λ n t.
      let z = has_block g (dropped g m gone) n t in
      let differ : n ≡ gone → ⊥ = λ is. not_here z.0 z.1 z.2 (z.3 ∙ is) in
      member_others gone n ns (ne_eqb n gone differ) ∙ is_there g m n (z.0, z.1, sym (dropped_other g m gone z.0 (λ here. differ (sym z.3 ∙ here))) ∙ z.2, z.3, z.4)) in
      let full = lacks.full in
      inr (omega (arith, shorter, few, full))
    where
      not_here : (a : ℕ) (e : Entry) → get (dropped g m gone) a ≡ Some e → a / g.p ≡ gone → ⊥
      not_here a e is here = let no : None ≡ Some e = sym (dropped_here g m gone a here) ∙ is in absurd (cc)

  -- ---- entries of other groups

  pub page_mapped_stay : (n : Entries) → IsMerged g n group → OthersStay g group m n → PageMappedStay m n
  page_mapped_stay n merged stay a e is = elim (cases_eq (a / g.p) group) [
    | inl same ↦ inr (merged a e is same)
    | inr other ↦ inl (sym (stay a other) ∙ is)
  ]

  pub dropped_was : (gone a : ℕ) (e : Entry) → get (dropped g m gone) a ≡ Some e → get m a ≡ Some e
  dropped_was gone a e is = elim (cases_eq (a / g.p) gone) [
    | inl here ↦ absurd (let no : None ≡ Some e = sym (dropped_here g m gone a here) ∙ is in cc)
    | inr other ↦ sym (dropped_other g m gone a other) ∙ is
  ]

  pub dropped_stay : (gone : ℕ) → PageMappedStay m (dropped g m gone)
  dropped_stay gone a e is = inl (dropped_was gone a e is)

  pub mapped_then : (gone : ℕ) (n : Entries) → PageMappedStay (dropped g m gone) n → PageMappedStay m n
  mapped_then gone n stay a e is = elim (stay a e is) [
    | inl was ↦ inl (dropped_was gone a e was)
    | inr mapped ↦ inr mapped
  ]

  pub dropped_merged : IsMerged g (dropped g m group) group
  dropped_merged a e is same = absurd (let no : None ≡ Some e = sym (dropped_here g m group a same) ∙ is in cc)

-- ---- the lists for which the flash stands

pub given_either : (g : Geometry) (page : Place → Page) (durable list v : CacheList) → GivesRoom g list v → FlashStandsForEither g page durable v → FlashStandsForGiven g page durable list
given_either g page durable list v gives (inl stands) = inl stands
given_either g page durable list v gives (inr stands) = inr (v, gives, stands)
