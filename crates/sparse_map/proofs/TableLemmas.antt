-- A change of one group seen in the table of all buckets.
use Rattle.std.proofs.Common.{◌≡◌, ◌≢◌, ℕ, zero, suc, ◌+◌, ◌-◌, ◌*◌, ◌/◌, ◌%◌, ◌<◌, ◌≤◌, List, [], ◌∷◌, ◌++◌, Option, None, length, get_or, set, refl, sym, ap, ◌∙◌, arith}
use Rattle.std.specs.List.{flat_map}
use Rattle.std.proofs.lemmas.List.{length-append, get_or_append_left, get_or-append_right, set-append_left, set-append_right, set_comm, set-set}
use Rattle.sparse_map.specs.declared.group.Group.{Group}
use Rattle.sparse_map.specs.Slots.{group_slots, slot_at}
use Rattle.sparse_map.specs.Groups.{slots_in, all_slots}
use Rattle.sparse_map.proofs.GroupLemmas.{length-group_slots}

module _ {V : Type 0} where
  pub length-slots_in : (u : Group V) → length (slots_in u) ≡ 64
  length-slots_in u = length-group_slots u.occupied u.items.items

  pub length-all_slots : (us : List (Group V)) → length (all_slots us) ≡ 64 * length us
  unfolding all_slots
  length-all_slots [] = refl
  length-all_slots (u ∷ us) =
      length-append (slots_in u) (flat_map slots_in us) ∙ omega (arith, length-slots_in u, length-all_slots us)

  pub slot_in_group : (us : List (Group V)) (i k : ℕ) (u e : Group V) → i < length us → k < 64 → u ≡ get_or us i e
      → slot_at (all_slots us) (64 * i + k) ≡ slot_at (slots_in u) k
  unfolding all_slots
  slot_in_group [] i k u e inside lt is = absurd (omega arith)
  slot_in_group (v ∷ us) zero k u e inside lt is =
      let first : k < length (slots_in v) = omega (arith, length-slots_in v) in
      let at : 64 * 0 + k ≡ k = omega arith in
      ap (λ p. get_or (slots_in v ++ flat_map slots_in us) p None) at
      ∙ get_or_append_left (slots_in v) (flat_map slots_in us) None k first
      ∙ ap (λ w. slot_at (slots_in w) k) (sym is)
  slot_in_group (v ∷ us) (suc i) k u e inside lt is =
      let past : 64 ≤ 64 * suc i + k = omega arith in
      let at : 64 * suc i + k - 64 ≡ 64 * i + k = omega arith in
      get_or-append_right (slots_in v) (flat_map slots_in us) 64 (64 * suc i + k) None (length-slots_in v) past
      ∙ ap (λ p. get_or (flat_map slots_in us) p None) at
      ∙ slot_in_group us i k u e (omega arith) lt is

  set_in_group : (us : List (Group V)) (i k : ℕ) (u e w : Group V) (o : Option (ℕ × V)) → i < length us → k < 64 → u ≡ get_or us i e
      → slots_in w ≡ set (slots_in u) k o → all_slots (set us i w) ≡ set (all_slots us) (64 * i + k) o
  unfolding all_slots
  set_in_group [] i k u e w o inside lt is new = absurd (omega arith)
  set_in_group (v ∷ us) zero k u e w o inside lt is new =
      let first : k < length (slots_in v) = omega (arith, length-slots_in v) in
      let at : k ≡ 64 * 0 + k = omega arith in
      ap (λ x. x ++ flat_map slots_in us) (new ∙ ap (λ x. set (slots_in x) k o) is)
      ∙ sym (set-append_left (slots_in v) (flat_map slots_in us) k o first)
      ∙ ap (λ p. set (slots_in v ++ flat_map slots_in us) p o) at
  set_in_group (v ∷ us) (suc i) k u e w o inside lt is new =
      let past : 64 ≤ 64 * suc i + k = omega arith in
      let at : 64 * i + k ≡ 64 * suc i + k - 64 = omega arith in
      ap (λ x. slots_in v ++ x) (set_in_group us i k u e w o (omega arith) lt is new ∙ ap (λ p. set (flat_map slots_in us) p o) at)
      ∙ sym (set-append_right (slots_in v) (flat_map slots_in us) 64 (64 * suc i + k) o (length-slots_in v) past)

  module _ (us : List (Group V)) (b : ℕ) (u e : Group V) (inside : b < 64 * length us) (is : u ≡ get_or us (b / 64) e) where
    within_group : b % 64 < 64
    within_group = omega arith

    group_inside : b / 64 < length us
    group_inside = omega arith

    pub slot_of_bucket : slot_at (all_slots us) b ≡ slot_at (slots_in u) (b % 64)
    slot_of_bucket =
        let at : b ≡ 64 * (b / 64) + b % 64 = omega arith in
        ap (slot_at (all_slots us)) at ∙ slot_in_group us (b / 64) (b % 64) u e group_inside within_group is

    pub set_bucket : (w : Group V) (o : Option (ℕ × V)) → slots_in w ≡ set (slots_in u) (b % 64) o → all_slots (set us (b / 64) w) ≡ set (all_slots us) b o
    set_bucket w o new =
        let at : 64 * (b / 64) + b % 64 ≡ b = omega arith in
        set_in_group us (b / 64) (b % 64) u e w o group_inside within_group is new ∙ ap (λ p. set (all_slots us) p o) at

-- to free one of two buckets, set the other and set the first is to set both
pub set_both : {X : Type 0} (l : List X) (a b : ℕ) (z x y : X) → a ≢ b → set (set (set l a z) b x) a y ≡ set (set l a y) b x
set_both l a b z x y apart =
    ap (λ t. set t a y) (set_comm l a b z x apart) ∙ set-set (set l b x) a z y ∙ sym (set_comm l a b y x apart)

-- a group whose parts are the same has the same buckets
pub slots_in-same : {V : Type 0} (u w : Group V) → w.occupied ≡ u.occupied → w.items.items ≡ u.items.items → slots_in w ≡ slots_in u
slots_in-same u w bits items = λ i. group_slots (bits i) (items i)

-- one group in place of another with the same buckets
pub all_slots-set_same : {V : Type 0} (us : List (Group V)) (i : ℕ) (u e w : Group V) → i < length us → u ≡ get_or us i e → slots_in w ≡ slots_in u → all_slots (set us i w) ≡ all_slots us
unfolding all_slots
all_slots-set_same [] i u e w lt is same = absurd (omega arith)
all_slots-set_same (v ∷ us) zero u e w lt is same = ap (λ x. x ++ flat_map slots_in us) (same ∙ ap slots_in is)
all_slots-set_same (v ∷ us) (suc i) u e w lt is same = ap (λ x. slots_in v ++ x) (all_slots-set_same us i u e w (omega arith) is same)

-- a group whose parts stay in place of itself, as an index reads and writes it
pub all_slots_trimmed : {V : Type 0} (us : List (Group V)) (i : ℕ) (e w : Group V) → i < length us → w.occupied ≡ (get_or us i e).occupied → w.items.items ≡ (get_or us i e).items.items → all_slots (set us i w) ≡ all_slots us
all_slots_trimmed us i e w lt bits items = all_slots-set_same us i (get_or us i e) e w lt refl (slots_in-same (get_or us i e) w bits items)
