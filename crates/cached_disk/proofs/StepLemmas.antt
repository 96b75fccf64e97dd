-- The lists that steps leave over a disk: with buffered changes undone, with clean groups given way, and with a block
-- written.
use Rattle.std.proofs.Common.{◌≡◌, ◌⊎◌, ℕ, ◌/◌, ◌==◌, Bool, true, false, cond, List, [], ◌∷◌, Option, Some, None, option_map, inl, inr, refl, sym, ◌∙◌, ap, subst, arith, eqb-true}
use Rattle.std.specs.List.{list_any}
use Rattle.std.specs.FinMap.{get}
use Rattle.std.proofs.lemmas.Bool.{cases_Bool, false_from_ne_true, false≢true, or_parts}
use Rattle.std.proofs.lemmas.Bool.Decides.{nat_tests}
use Rattle.ft_base.specs.declared.block.Block.{Block}
use Rattle.ft_base.specs.declared.geometry.Geometry.{Geometry}
use Rattle.ft_base.specs.Contents.{Values, HasValue, set}
use Rattle.ft_base.specs.PlainDisk.{PlainDisk}
use Rattle.cache_model.specs.Cache.{Buffered, Inserted, Cleaned, Written, IsLeftBy, IsMarked, MayWait, Vanish, WereLeft, is_write, taken_back, written_block, marked_as, undo, written_clean, written_dirty}
use Rattle.cache_model.specs.CacheList.{Agrees, CacheList, Held, held_or}
use Rattle.cache_model.proofs.CountLemmas.{equals_turned, taken}
use Rattle.cache_model.proofs.MapLemmas.{get_insert}
use Rattle.cache_model.proofs.UndoLemmas.{get_without}
use Rattle.cached_disk.specs.Kept.{IsDirtyIn}
use Rattle.cached_disk.proofs.DiskLemmas.{IsOver}

-- over all values that the disk may show, both lists show the same
abbrev pub IsSameOver : (ℕ → Values) → CacheList → CacheList → Type 0
IsSameOver disk s t = (a : ℕ) (b : Block) → HasValue (disk a) b → held_or (get t a) b ≡ held_or (get s a) b

pub over_same : (g : Geometry) (disk : ℕ → Values) (s t : CacheList) (d : PlainDisk) → IsSameOver disk s t → IsOver g s disk d → IsOver g t disk d
over_same g disk s t d same over a within b has = same a b has ∙ over a within b has

pub same_back : (disk : ℕ → Values) (s t : CacheList) → IsSameOver disk s t → IsSameOver disk t s
same_back disk s t same a b has = sym (same a b has)

-- at an address that is not dirty, the disk may show only the block that is held, or else the block beneath it
pub not_dirty_beneath : (disk : ℕ → Values) (s : CacheList) → Agrees s disk → (a : ℕ) → (IsDirtyIn s a → ⊥) → (b : Block) → HasValue (disk a) b → (o : Option Held) → get s a ≡ o → b ≡ held_or o b
not_dirty_beneath disk s agrees a none b has None at = refl
not_dirty_beneath disk s agrees a none b has (Some h) at = elim (cases_Bool h.dirty) [
  | inl t ↦ absurd (none (h, at, t))
  | inr f ↦ agrees a h b at f has
]

-- ---- without the buffered changes, if none of them is a write

-- an address that was left clean wasn't dirty
not_here : (t : CacheList) (a k : ℕ) → IsMarked false t k → IsDirtyIn t a → (a == k) ≡ false
not_here t a k left dirty = false_from_ne_true (a == k) (λ here.
    let both : Some dirty.0 ≡ Some left.0 = sym dirty.1 ∙ ap (λ (n : ℕ). get t n) (eqb-true a k here) ∙ left.1 in
    let same : dirty.0 ≡ left.0 = cc in
    false≢true (sym left.2 ∙ sym (ap (λ (h : Held). h.dirty) same) ∙ dirty.2))

dirty_one : (x : Buffered) (t : CacheList) → is_write x ≡ false → IsLeftBy x t → (a : ℕ) → IsDirtyIn t a → IsDirtyIn (taken_back x t) a
dirty_one (Inserted k) t none left a dirty = (dirty.0, get_without (Inserted k) t a ∙ ap (λ c. cond c None (get t a)) (not_here t a k left dirty) ∙ dirty.1, dirty.2)
dirty_one (Cleaned k) t none left a dirty = (dirty.0, get_without (Cleaned k) t a ∙ ap (λ c. cond c (option_map (marked_as true) (get t a)) (get t a)) (not_here t a k left dirty) ∙ dirty.1, dirty.2)
dirty_one (Written k old) t none left a dirty = absurd (false≢true (sym none))

dirty_each : (q : List Buffered) (s : CacheList) → list_any is_write q ≡ false → WereLeft q s → (a : ℕ) → IsDirtyIn s a → IsDirtyIn (undo q s) a
dirty_each [] s none left a dirty = dirty
dirty_each (x ∷ q) s none left a dirty =
    let p = or_parts (is_write x) (list_any is_write q) none in
    dirty_one x (undo q s) p.0 left.0 a (dirty_each q s p.1 left.1 a dirty)

-- a dirty address stays dirty
pub undo_dirty : (g : Geometry) (q : List Buffered) (s : CacheList) → list_any is_write q ≡ false → MayWait g q s → (a : ℕ) → IsDirtyIn s a → IsDirtyIn (undo q s) a
undo_dirty g q s none may = dirty_each q s none may.left

module _ (disk : ℕ → Values) where
  marked_beneath : (here : Bool) (o : Option Held) (b : Block) → held_or (cond here (option_map (marked_as true) o) o) b ≡ held_or o b
  marked_beneath true None b = refl
  marked_beneath true (Some h) b = refl
  marked_beneath false o b = refl

  same_one : (x : Buffered) (t : CacheList) → is_write x ≡ false → IsLeftBy x t → Agrees t disk → IsSameOver disk t (taken_back x t)
  same_one (Inserted k) t none left agrees a b has = ap (λ (o : Option Held). held_or o b) (get_without (Inserted k) t a) ∙ by_choice (cases_Bool (a == k))
    where
      by_choice : (a == k ≡ true) ⊎ (a == k ≡ false) → held_or (cond (a == k) None (get t a)) b ≡ held_or (get t a) b
      by_choice (inl here) =
          let at : get t a ≡ Some left.0 = ap (λ (n : ℕ). get t n) (eqb-true a k here) ∙ left.1 in
          ap (λ c. held_or (cond c None (get t a)) b) here ∙ agrees a left.0 b at left.2 has ∙ sym (ap (λ (o : Option Held). held_or o b) at)
      by_choice (inr other) = ap (λ c. held_or (cond c None (get t a)) b) other
  same_one (Cleaned k) t none left agrees a b has = ap (λ (o : Option Held). held_or o b) (get_without (Cleaned k) t a) ∙ marked_beneath (a == k) (get t a) b
  same_one (Written k old) t none left agrees a b has = absurd (false≢true (sym none))

  -- an address that is clean once one change is taken back was clean
  agrees_one : (x : Buffered) (t : CacheList) → is_write x ≡ false → Agrees t disk → Agrees (taken_back x t) disk
  agrees_one (Inserted k) t none agrees a h b at clean has = agrees a h b (taken (a == k) (get t a) h (sym (get_without (Inserted k) t a) ∙ at)) clean has
  agrees_one (Cleaned k) t none agrees a h b at clean has = agrees a h b (by_choice (a == k) (get t a) (sym (get_without (Cleaned k) t a) ∙ at)) clean has
    where
      by_choice : (here : Bool) (o : Option Held) → cond here (option_map (marked_as true) o) o ≡ Some h → o ≡ Some h
      by_choice true None is = absurd (cc)
      by_choice true (Some m) is = absurd (let same : marked_as true m ≡ h = cc in false≢true (sym clean ∙ sym (ap (λ (y : Held). y.dirty) same)))
      by_choice false o is = is
  agrees_one (Written k old) t none agrees a h b at clean has = absurd (false≢true (sym none))

  module _ (s : CacheList) (agrees : Agrees s disk) where
    -- an address that is clean without them was clean
    pub undo_agrees : (q : List Buffered) → list_any is_write q ≡ false → Agrees (undo q s) disk
    undo_agrees [] none = agrees
    undo_agrees (x ∷ q) none = let p = or_parts (is_write x) (list_any is_write q) none in agrees_one x (undo q s) p.0 (undo_agrees q p.1)

    same_each : (q : List Buffered) → list_any is_write q ≡ false → WereLeft q s → IsSameOver disk s (undo q s)
    same_each [] none left a b has = refl
    same_each (x ∷ q) none left a b has =
        let p = or_parts (is_write x) (list_any is_write q) none in
        same_one x (undo q s) p.0 left.0 (undo_agrees q p.1) a b has ∙ same_each q p.1 left.1 a b has

    pub undo_same : (g : Geometry) (q : List Buffered) → list_any is_write q ≡ false → MayWait g q s → IsSameOver disk s (undo q s)
    undo_same g q none may = same_each q none may.left

-- ---- once clean groups gave way

module _ (g : Geometry) (s v : CacheList) (lba : ℕ) (vanish : Vanish g s lba v) where
  -- a block that is left was there
  pub left_there : (a : ℕ) (h : Held) → get v a ≡ Some h → get s a ≡ Some h
  left_there a h at = by_choice (vanish.gone (a / g.p)) (sym (vanish.stays a) ∙ at)
    where
      by_choice : (t : Bool) → cond t None (get s a) ≡ Some h → get s a ≡ Some h
      by_choice true is = absurd (cc)
      by_choice false is = is

  pub vanish_agrees : (disk : ℕ → Values) → Agrees s disk → Agrees v disk
  vanish_agrees disk agrees a h b at clean has = agrees a h b (left_there a h at) clean has

  pub vanish_same : (disk : ℕ → Values) → Agrees s disk → IsSameOver disk s v
  vanish_same disk agrees a b has = elim (cases_Bool (vanish.gone (a / g.p))) [
    | inl t ↦ ap (λ (o : Option Held). held_or o b) (vanish.stays a ∙ ap (λ c. cond c None (get s a)) t) ∙ beneath t (get s a) refl
    | inr f ↦ ap (λ (o : Option Held). held_or o b) (vanish.stays a ∙ ap (λ c. cond c None (get s a)) f)
  ]
    where
      beneath : vanish.gone (a / g.p) ≡ true → (o : Option Held) → get s a ≡ o → b ≡ held_or o b
      beneath t None at = refl
      beneath t (Some h) at = agrees a h b at ((vanish.clean (a / g.p) t).clean a h at refl) has

  -- a dirty block is left
  pub vanish_dirty : (a : ℕ) → IsDirtyIn s a → IsDirtyIn v a
  vanish_dirty a dirty = elim (cases_Bool (vanish.gone (a / g.p))) [
    | inl t ↦ absurd (false≢true (sym ((vanish.clean (a / g.p) t).clean a dirty.0 dirty.1 refl) ∙ dirty.2))
    | inr f ↦ (dirty.0, vanish.stays a ∙ ap (λ c. cond c None (get s a)) f ∙ dirty.1, dirty.2)
  ]

  pub vanish_was : (a : ℕ) → IsDirtyIn v a → IsDirtyIn s a
  vanish_was a dirty = (dirty.0, left_there a dirty.0 dirty.1, dirty.2)

-- ---- with a block that is written

module _ (s : CacheList) (lba : ℕ) (block : Block) where
  abbrev pub with_block : CacheList
  with_block = written_dirty lba block s

  pub written_here : get with_block lba ≡ Some (written_block lba block true)
  written_here = get_insert s lba (written_block lba block true) lba ∙ ap (λ t. cond t (Some (written_block lba block true)) (get s lba)) (let same : (lba == lba) ≡ true = grind (arith, nat_tests) in same)

  -- the block at an address is the written one, or the old one
  pub written_was : (a : ℕ) (h : Held) → get with_block a ≡ Some h → ((a ≡ lba) × (h ≡ written_block lba block true)) ⊎ (get s a ≡ Some h)
  written_was a h at = elim (cases_Bool (a == lba)) [
    | inl t ↦ inl (eqb-true a lba t, let same : Some (written_block lba block true) ≡ Some h = sym (ap (λ c. cond c (Some (written_block lba block true)) (get s a)) t) ∙ sym (get_insert s lba (written_block lba block true) a) ∙ at in let is : written_block lba block true ≡ h = cc in sym is)
    | inr f ↦ inr (sym (ap (λ c. cond c (Some (written_block lba block true)) (get s a)) f) ∙ sym (get_insert s lba (written_block lba block true) a) ∙ at)
  ]

  pub written_agrees : (disk : ℕ → Values) → Agrees s disk → Agrees with_block disk
  written_agrees disk agrees a h b at clean has = elim (written_was a h at) [
    | inl new ↦ absurd (false≢true (sym clean ∙ ap (λ (x : Held). x.dirty) new.1))
    | inr old ↦ agrees a h b old clean has
  ]

  pub written_dirty-keeps : (a : ℕ) → IsDirtyIn s a → IsDirtyIn with_block a
  written_dirty-keeps a dirty = elim (cases_Bool (a == lba)) [
    | inl t ↦ (written_block lba block true, get_insert s lba (written_block lba block true) a ∙ ap (λ c. cond c (Some (written_block lba block true)) (get s a)) t, refl)
    | inr f ↦ (dirty.0, get_insert s lba (written_block lba block true) a ∙ ap (λ c. cond c (Some (written_block lba block true)) (get s a)) f ∙ dirty.1, dirty.2)
  ]

  read_choice : (t : Bool) (beneath : Block) (o : Option Held) → held_or (cond t (Some (written_block lba block true)) o) beneath ≡ cond t block (held_or o beneath)
  read_choice true beneath o = refl
  read_choice false beneath o = refl

  pub written_over : (g : Geometry) (disk : ℕ → Values) (d : PlainDisk) → IsOver g s disk d → IsOver g with_block disk (set d lba block)
  written_over g disk d over a within b has =
      ap (λ (o : Option Held). held_or o b) (get_insert s lba (written_block lba block true) a)
      ∙ read_choice (a == lba) b (get s a)
      ∙ ap (λ c. cond c block (held_or (get s a) b)) (equals_turned a lba)
      ∙ ap (λ (x : Block). cond (lba == a) block x) (over a within b has)

-- ---- with a block that comes clean

module _ (s : CacheList) (lba : ℕ) (block : Block) where
  abbrev pub with_clean : CacheList
  with_clean = written_clean lba block s

  -- the block at an address is the new one, or the old one
  pub clean_was : (a : ℕ) (h : Held) → get with_clean a ≡ Some h → ((a ≡ lba) × (h ≡ written_block lba block false)) ⊎ (get s a ≡ Some h)
  clean_was a h at = elim (cases_Bool (a == lba)) [
    | inl t ↦ inl (eqb-true a lba t, let same : Some (written_block lba block false) ≡ Some h = sym (ap (λ c. cond c (Some (written_block lba block false)) (get s a)) t) ∙ sym (get_insert s lba (written_block lba block false) a) ∙ at in let is : written_block lba block false ≡ h = cc in sym is)
    | inr f ↦ inr (sym (ap (λ c. cond c (Some (written_block lba block false)) (get s a)) f) ∙ sym (get_insert s lba (written_block lba block false) a) ∙ at)
  ]

  -- no other block becomes dirty
  pub clean_dirty_was : (a : ℕ) → IsDirtyIn with_clean a → IsDirtyIn s a
  clean_dirty_was a dirty = elim (clean_was a dirty.0 dirty.1) [
    | inl new ↦ absurd (false≢true (sym (ap (λ (x : Held). x.dirty) new.1) ∙ dirty.2))
    | inr old ↦ (dirty.0, old, dirty.2)
  ]

  -- over a disk that has this block there, and no other
  module _ (disk : ℕ → Values) (only : (b : Block) → HasValue (disk lba) b → b ≡ block) (agrees : Agrees s disk) where
    pub clean_agrees : Agrees with_clean disk
    clean_agrees a h b at clean has = elim (clean_was a h at) [
      | inl new ↦ only b (subst (λ (n : ℕ). HasValue (disk n) b) new.0 has) ∙ sym (ap (λ (x : Held). x.block) new.1)
      | inr old ↦ agrees a h b old clean has
    ]

    -- if the address wasn't dirty, nothing else is shown
    pub clean_same : (IsDirtyIn s lba → ⊥) → IsSameOver disk s with_clean
    clean_same none a b has = ap (λ (o : Option Held). held_or o b) (get_insert s lba (written_block lba block false) a) ∙ elim (cases_Bool (a == lba)) [
      | inl t ↦ ap (λ c. held_or (cond c (Some (written_block lba block false)) (get s a)) b) t ∙ sym (only b (subst (λ (n : ℕ). HasValue (disk n) b) (eqb-true a lba t) has)) ∙ not_dirty_beneath disk s agrees a (λ dirty. none (subst (IsDirtyIn s) (eqb-true a lba t) dirty)) b has (get s a) refl
      | inr f ↦ ap (λ c. held_or (cond c (Some (written_block lba block false)) (get s a)) b) f
    ]

  -- if the address wasn't dirty, each dirty address stays dirty
  pub clean_dirty : (IsDirtyIn s lba → ⊥) → (a : ℕ) → IsDirtyIn s a → IsDirtyIn with_clean a
  clean_dirty none a dirty = elim (cases_Bool (a == lba)) [
    | inl t ↦ absurd (none (subst (IsDirtyIn s) (eqb-true a lba t) dirty))
    | inr f ↦ (dirty.0, get_insert s lba (written_block lba block false) a ∙ ap (λ c. cond c (Some (written_block lba block false)) (get s a)) f ∙ dirty.1, dirty.2)
  ]
