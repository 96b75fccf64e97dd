-- How many groups have a dirty address, counting the group of one more address.
use Rattle.std.proofs.Common.{◌≡◌, ℕ, suc, ◌+◌, ◌*◌, ◌/◌, ◌%◌, ◌<◌, ◌≤◌, ◌==◌, nat_lt, ◌&&◌, ◌||◌, Bool, true, false, cond, List, ◌∷◌, length, Option, Some, None, refl, sym, ◌∙◌, ap, arith, inl, inr, nat_cmp, lt-ltb}
use Rattle.std.specs.Option.{option_and_then}
use Rattle.std.specs.FinMap.{FinMap, get, entries}
use Rattle.std.proofs.lemmas.Bool.{cases_Bool, both_ways, false≢true, and_from}
use Rattle.std.proofs.lemmas.Nat.{div-mul-add, div-add-mod', mod_below}
use Rattle.ft_base.specs.declared.geometry.Geometry.{Geometry}
use Rattle.ft_base.specs.declared.block.Place.{Place}
use Rattle.ft_base.specs.declared.block.Page.{Page}
use Rattle.cache_model.specs.declared.entry.Entry.{Entry}
use Rattle.cache_model.specs.Records.{Entries, has_bit}
use Rattle.cache_model.specs.Entries.{each_once, groups_with}
use Rattle.cache_model.specs.Loading.{is_whole}
use Rattle.cache_model.specs.Cache.{with_group, dirty_groups}
use Rattle.cache_model.specs.CacheList.{Held, CacheList}
use Rattle.cache_model.specs.Stands.{held_at}
use Rattle.cache_model.proofs.StandLemmas.{held_of, whole_held}
use Rattle.cache_model.proofs.MapLemmas.{all_entries, by_get}
use Rattle.cache_model.proofs.CountLemmas.{member, numbers, all_members, member_of, member_once, each_once-same}
use Rattle.mapping.specs.declared.bits.Choice.TheVariants.{Dirty}
use Rattle.mapping.specs.Bits.{is_chosen, chosen_of}
use Rattle.mapping.proofs.MarksLemmas.{same_bools}
use Rattle.mapping.proofs.BitsLemmas.{bit_of_set, set_of_none}
use Rattle.merge_engine.specs.Steps.{dirty_groups_with, HasRoomFor}
use Rattle.merge_engine.proofs.GaveLemmas.{dirty_numbers}

-- ---- lists of numbers, each once

once_once : (ns : List ℕ) → length (each_once (each_once ns)) ≡ length (each_once ns)
once_once ns = each_once-same (each_once ns) ns (λ n. member_once n ns)

pub with_there : (x : ℕ) (ns : List ℕ) → member x ns ≡ true → length (with_group x (each_once ns)) ≡ length (each_once ns)
with_there x ns t = ap (λ b. length (cond b (each_once (each_once ns)) (x ∷ each_once (each_once ns)))) (member_once x ns ∙ t) ∙ once_once ns

pub with_absent : (x : ℕ) (ns : List ℕ) → member x ns ≡ false → length (with_group x (each_once ns)) ≡ suc (length (each_once ns))
with_absent x ns f = ap (λ b. length (cond b (each_once (each_once ns)) (x ∷ each_once (each_once ns)))) (member_once x ns ∙ f) ∙ ap suc (once_once ns)

pub with_most : (x : ℕ) (ns : List ℕ) → length (with_group x (each_once ns)) ≤ suc (length (each_once ns))
with_most x ns = elim (cases_Bool (member x ns)) [
  | inl t ↦ omega (arith, with_there x ns t)
  | inr f ↦ omega (arith, with_absent x ns f)
]

-- ---- numbers of the entries of a map

module _ {X : Type 0} (f : ℕ × X → ℕ) (t : X → Bool) (m : FinMap nat_cmp X) where
  pub member_from : (a : ℕ) (e : X) → get m a ≡ Some e → t e ≡ true → member (f (a, e)) (numbers f t (entries m)) ≡ true
  member_from a e is y = by_get m (λ a e. t e ≡ true → member (f (a, e)) (numbers f t (entries m)) ≡ true) (all_members f t (entries m)) a e is y

  pub member_to : (n : ℕ) → member n (numbers f t (entries m)) ≡ true → (x : ℕ × X) × (get m x.0 ≡ Some x.1) × (t x.1 ≡ true) × (f x ≡ n)
  member_to n is = member_of f t (λ x. get m x.0 ≡ Some x.1) (entries m) n (all_entries m (λ a e. get m a ≡ Some e) (λ a e is. is)) is

-- ---- the set of dirty pages of a group

bits_some : (g : Geometry) (m : Entries) (group : ℕ) → 0 < g.p → chosen_of Dirty g m group ≡ 0 → member group (dirty_numbers g m) ≡ true → ⊥
bits_some g m group some none there =
    let x = member_to (λ (x : ℕ × Entry). x.0 / g.p) (λ (e : Entry). e.dirty) m group there in
    let i = x.0.0 % g.p in
    let low = mod_below x.0.0 g.p some in
    let address : group * g.p + i ≡ x.0.0 = ap (λ k. k * g.p + i) (sym x.3) ∙ div-add-mod' x.0.0 g.p in
    let chosen : is_chosen Dirty (get m (group * g.p + i)) ≡ true = ap (λ k. is_chosen Dirty (get m k)) address ∙ ap (is_chosen Dirty) x.1 ∙ x.2 in
    let bit = bit_of_set (λ i. is_chosen Dirty (get m (group * g.p + i))) g.p i in
    let on : has_bit (chosen_of Dirty g m group) i ≡ true = bit ∙ and_from _ _ (lt-ltb i g.p low) chosen in
    let off : has_bit 0 i ≡ true = ap (λ k. has_bit k i) (sym none) ∙ on in
    let never = bit_of_set (λ i. false) 0 i in
    false≢true (nothing i ∙ off)
  where
    nothing : (i : ℕ) → false ≡ has_bit 0 i
    nothing i = sym (bit_of_set (λ i. false) 0 i ∙ never (nat_lt i 0))
      where
        never : (b : Bool) → (b && false) ≡ false
        never true = refl
        never false = refl

bits_none : (g : Geometry) (m : Entries) (group : ℕ) → member group (dirty_numbers g m) ≡ false → chosen_of Dirty g m group ≡ 0
bits_none g m group absent = set_of_none (λ i. is_chosen Dirty (get m (group * g.p + i))) g.p (λ i low. elim (cases_Bool (is_chosen Dirty (get m (group * g.p + i)))) [
  | inr f ↦ f
  | inl t ↦
      let e = entry_in (get m (group * g.p + i)) t in
      let there = member_from (λ (x : ℕ × Entry). x.0 / g.p) (λ (e : Entry). e.dirty) m (group * g.p + i) e.0 e.1 e.2 in
      absurd (both_ways (member group (dirty_numbers g m)) absent (ap (λ k. member k (dirty_numbers g m)) (sym (div-mul-add group g.p i low)) ∙ there))
])
  where
    entry_in : (o : Option Entry) → is_chosen Dirty o ≡ true → (e : Entry) × (o ≡ Some e) × (e.dirty ≡ true)
    entry_in None t = absurd (false≢true t)
    entry_in (Some e) t = (e, refl, t)

-- fewer dirty groups than C
pub room_below : (g : Geometry) (m : Entries) (lba n : ℕ) → n ≡ length (groups_with g (λ e. e.dirty) m) → n < g.c → HasRoomFor g m lba
room_below g m lba n is low = let most = with_most (lba / g.p) (dirty_numbers g m) in omega arith

-- the group has a dirty page
pub room_there : (g : Geometry) (m : Entries) (lba n bits : ℕ) → 0 < g.p → n ≡ length (groups_with g (λ e. e.dirty) m) → n ≤ g.c → bits ≡ chosen_of Dirty g m (lba / g.p) → (bits ≡ 0 → ⊥) → HasRoomFor g m lba
room_there g m lba n bits some is most bits_is set = elim (cases_Bool (member (lba / g.p) (dirty_numbers g m))) [
  | inl t ↦ let same = with_there (lba / g.p) (dirty_numbers g m) t in omega arith
  | inr f ↦ absurd (set (bits_is ∙ bits_none g m (lba / g.p) f))
]

-- C dirty groups, and the group has no dirty page
pub full_absent : (g : Geometry) (m : Entries) (lba n bits : ℕ) → 0 < g.p → n ≡ length (groups_with g (λ e. e.dirty) m) → n ≤ g.c → g.c ≤ n → bits ≡ chosen_of Dirty g m (lba / g.p) → bits ≡ 0 → dirty_groups_with g m lba ≡ g.c + 1
full_absent g m lba n bits some is most high bits_is none = elim (cases_Bool (member (lba / g.p) (dirty_numbers g m))) [
  | inl t ↦ absurd (bits_some g m (lba / g.p) some (sym bits_is ∙ none) t)
  | inr f ↦ let more = with_absent (lba / g.p) (dirty_numbers g m) f in omega arith
]

-- ---- the list of the cache has the groups of its entries

abbrev list_numbers : Geometry → CacheList → List ℕ
list_numbers g s = numbers (λ (x : ℕ × Held). x.0 / g.p) (λ (h : Held). h.dirty) (entries s)

module _ (g : Geometry) (page : Place → Page) (m : Entries) (s : CacheList) (whole : (a : ℕ) (e : Entry) → get m a ≡ Some e → is_whole (page e.place) ≡ true) (same : (a : ℕ) → get s a ≡ option_and_then (held_at page) (get m a)) where
  groups_same : (n : ℕ) → member n (list_numbers g s) ≡ member n (dirty_numbers g m)
  groups_same n = same_bools _ _
      (λ t.
      let x = member_to (λ (x : ℕ × Held). x.0 / g.p) (λ (h : Held). h.dirty) s n t in
      let e = held_of page (get m x.0.0) x.0.1 (sym (same x.0.0) ∙ x.1) in
      ap (λ k. member k (dirty_numbers g m)) (sym x.3) ∙ member_from (λ (x : ℕ × Entry). x.0 / g.p) (λ (e : Entry). e.dirty) m x.0.0 e.0 e.1 (sym e.2 ∙ x.2))
      (λ t.
      let x = member_to (λ (x : ℕ × Entry). x.0 / g.p) (λ (e : Entry). e.dirty) m n t in
      let h = whole_held page x.0.1 (whole x.0.0 x.0.1 x.1) in
      ap (λ k. member k (list_numbers g s)) (sym x.3) ∙ member_from (λ (x : ℕ × Held). x.0 / g.p) (λ (h : Held). h.dirty) s x.0.0 h.0 (same x.0.0 ∙ ap (option_and_then (held_at page)) x.1 ∙ h.1) (h.2 ∙ x.2))

  pub dirty_same : length (dirty_groups g s) ≡ length (groups_with g (λ e. e.dirty) m)
  dirty_same = each_once-same (list_numbers g s) (dirty_numbers g m) groups_same

  pub with_same : (a : ℕ) → length (with_group (a / g.p) (dirty_groups g s)) ≡ dirty_groups_with g m a
  with_same a = each_once-same ((a / g.p) ∷ each_once (list_numbers g s)) ((a / g.p) ∷ each_once (dirty_numbers g m)) (λ n. ap (λ b. ((a / g.p) == n) || b) (member_once n (list_numbers g s) ∙ groups_same n ∙ sym (member_once n (dirty_numbers g m))))
