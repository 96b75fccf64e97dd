-- Lists of log blocks, and how each call leaves a sound one.
use Rattle.std.proofs.Common.{◌≡◌, ℕ, ◌+◌, ◌-◌, ◌<◌, ◌≤◌, Bool, true, false, not, ◌&&◌, ◌||◌, cond, nat_eq, List, [], ◌∷◌, ◌++◌, length, get_or, take, filter, slice_get, Option, Some, None, IfSome, refl, sym, ap, ◌∙◌, subst, arith, length-append}
use Rattle.std.specs.Cmp.{nat_eq_equiv}
use Rattle.std.specs.List.{IsDistinct, AllByRecursion}
use Rattle.std.specs.Option.{option_eq}
use Rattle.std.proofs.lemmas.Bool.{eqb-true, false_from_ne_true}
use Rattle.std.proofs.lemmas.List.{take_more, take_all, get_or-append-add}
use Rattle.std.proofs.lemmas.List.Elements.{All-filter, All-from_recursion, recursion_from_All, filter-append}
use Rattle.std.proofs.lemmas.List.Filters.{length-filter_both}
use Rattle.std.proofs.lemmas.List.Folds.{list_any-append}
use Rattle.std.proofs.lemmas.Map.Keys.{IsDistinct-push, IsDistinct-head, IsDistinct-tail, IsDistinct-cons, any_passes_from_place}
use Rattle.std.proofs.lemmas.Map.Views.{any-filter_same}
use Rattle.std.proofs.lemmas.Option.{slice_get_read, slice_get_within, get_or_from_slice_get}
use Rattle.ft_base.specs.declared.geometry.Geometry.{Geometry}
use Rattle.log_blocks.specs.Logs.{LogBlocksValue, IsInUse, AreSoundLogs, is_in, without_block, last_of, released}

-- ---- which blocks are in a list

pub is_in-push : (other block : ℕ) (list : List ℕ) → is_in other (list ++ block ∷ []) ≡ (is_in other list || nat_eq other block)
is_in-push other block list = list_any-append (nat_eq other) list (block ∷ []) ∙ ap (λ b. is_in other list || b) (or_false (nat_eq other block))
  where
    or_false : (b : Bool) → (b || false) ≡ b
    or_false true = refl
    or_false false = refl

pub is_in-without : (other block : ℕ) (list : List ℕ) → is_in other (without_block block list) ≡ (not (nat_eq block other) && is_in other list)
is_in-without other block list = any-filter_same (nat_eq other) (λ one. not (nat_eq block one)) (not (nat_eq block other)) (λ k t. ap (λ n. not (nat_eq block n)) (sym (eqb-true other k t))) list

pub is_in-at : (list : List ℕ) (i block : ℕ) → slice_get list i ≡ Some block → is_in block list ≡ true
is_in-at list i block at = any_passes_from_place (nat_eq block) list i block at (nat_eq_equiv.refl block)

-- ---- the last of a list

pub last_of-push : (block : ℕ) (list : List ℕ) → last_of (list ++ block ∷ []) ≡ Some block
last_of-push block list =
    let long : length (list ++ block ∷ []) ≡ length list + 1 = length-append list (block ∷ []) in
    let at : length (list ++ block ∷ []) - 1 ≡ length list + 0 = omega (arith, long) in
    slice_get_read (list ++ block ∷ []) (length (list ++ block ∷ [])) (length (list ++ block ∷ []) - 1) block refl (omega (arith, long)) (sym (ap (λ n. get_or (list ++ block ∷ []) n block) at ∙ get_or-append-add list (block ∷ []) 0 block))

-- all but the last, and the last
last_apart : (block : ℕ) (list : List ℕ) → last_of list ≡ Some block → list ≡ take (length list - 1) list ++ block ∷ []
last_apart block list at =
    let low = slice_get_within list (length list - 1) block at in
    let all : list ≡ take (length list - 1 + 1) list = sym (take_all (length list - 1 + 1) list (omega (arith, low))) in
    all ∙ take_more list (length list - 1) block low ∙ ap (λ n. take (length list - 1) list ++ n ∷ []) (get_or_from_slice_get list (length list - 1) block block at)

pub last_of-without : (block last : ℕ) (list : List ℕ) → nat_eq block last ≡ false → last_of list ≡ Some last → last_of (without_block block list) ≡ Some last
last_of-without block last list apart at =
    let front = take (length list - 1) list in
    let parts : without_block block list ≡ without_block block front ++ last ∷ [] = ap (without_block block) (last_apart last list at) ∙ filter-append (λ one. not (nat_eq block one)) front (last ∷ []) ∙ ap (λ b. without_block block front ++ cond (not b) (last ∷ []) []) apart in
    ap last_of parts ∙ last_of-push last (without_block block front)

-- ---- a list of distinct blocks without one of them

IsDistinct-filter : (p : ℕ → Bool) (list : List ℕ) → IsDistinct nat_eq list → IsDistinct nat_eq (filter p list)
IsDistinct-filter p [] distinct = distinct
IsDistinct-filter p (x ∷ xs) distinct =
    let others = IsDistinct-filter p xs (IsDistinct-tail nat_eq x xs distinct) in
    let apart : ℕ → Type 0 = λ y. nat_eq x y ≡ false in
    elim (p x) as (λ b. IsDistinct nat_eq (cond b (x ∷ filter p xs) (filter p xs))) [
      | true ↦ IsDistinct-cons nat_eq x (filter p xs) (recursion_from_All apart (filter p xs) (All-filter p apart xs (All-from_recursion apart xs (IsDistinct-head nat_eq x xs distinct)))) others
      | false ↦ others
    ]

length-without-le : (block : ℕ) (list : List ℕ) → length (without_block block list) ≤ length list
length-without-le block list = omega (arith, length-filter_both (λ one. not (nat_eq block one)) (λ one. not (not (nat_eq block one))) (λ _. refl) list)

IsDistinct-none : IsDistinct nat_eq []
unfolding IsDistinct
IsDistinct-none = tt

pub without_absent : (block : ℕ) (list : List ℕ) → AllByRecursion (λ y. nat_eq block y ≡ false) list → without_block block list ≡ list
without_absent block [] absent = refl
without_absent block (x ∷ xs) absent = rw absent.0 (ap (λ l. x ∷ l) (without_absent block xs absent.1))

-- the oldest taken out leaves the others
pub without-oldest : (block : ℕ) (list : List ℕ) → IsDistinct nat_eq (block ∷ list) → without_block block (block ∷ list) ≡ list
without-oldest block list distinct = rw (nat_eq_equiv.refl block) (without_absent block list (IsDistinct-head nat_eq block list distinct))

pub length-without : (block : ℕ) (list : List ℕ) → IsDistinct nat_eq list → is_in block list ≡ true → length (without_block block list) + 1 ≡ length list
length-without block [] distinct there = cc
length-without block (x ∷ xs) distinct there = (elim (nat_eq block x) as (λ b. nat_eq block x ≡ b → length (cond (not b) (x ∷ without_block block xs) (without_block block xs)) + 1 ≡ length (x ∷ xs)) [
  | true ↦ λ t.
      let same : x ≡ block = sym (eqb-true block x t) in
      let gone : without_block block xs ≡ xs = without_absent block xs (subst (λ n. AllByRecursion (λ y. nat_eq n y ≡ false) xs) same (IsDistinct-head nat_eq x xs distinct)) in
      omega (arith, ap length gone)
  | false ↦ λ f. omega (arith, length-without block xs (IsDistinct-tail nat_eq x xs distinct) (rw f at there))
]) refl

pub sound_new : (g : Geometry) (list : List ℕ) → list ≡ [] → AreSoundLogs (record { geometry = g; used = list; open_block = None; room = 0 })
sound_new g list none = subst (λ (l : List ℕ). AreSoundLogs (record { geometry = g; used = l; open_block = None; room = 0 })) (sym none) (record { distinct = IsDistinct-none; few = omega arith; last = tt; closed = λ _. refl; within = omega arith })

-- if pages are left, the open block is the last
pub open_is_last : (logs : LogBlocksValue) → AreSoundLogs logs → 1 ≤ logs.room → logs.open_block ≡ last_of logs.used
open_is_last logs sound some = at logs.open_block refl sound.last
  where
    at : (opened : Option ℕ) → logs.open_block ≡ opened → IfSome opened (λ b. last_of logs.used ≡ Some b) → logs.open_block ≡ last_of logs.used
    at None is last = absurd (omega (arith, sound.closed is))
    at (Some b) is last = is ∙ sym last

-- ---- soundness. A call finds `now`, which has its fields.

module _ (view now : LogBlocksValue) (same : view ≡ now) (block : ℕ) (list : List ℕ) (sound : AreSoundLogs view) where
  pub sound_adopted : list ≡ view.used ++ block ∷ [] → (IsInUse now block → ⊥) → length now.used < now.geometry.l → AreSoundLogs (record { geometry = view.geometry; used = list; open_block = None; room = 0 })
  sound_adopted put fresh few =
      let absent : is_in block view.used ≡ false = false_from_ne_true (is_in block view.used) (λ there. fresh (subst (λ (v : LogBlocksValue). IsInUse v block) same there)) in
      let fits : length view.used < view.geometry.l = subst (λ (v : LogBlocksValue). length v.used < v.geometry.l) (sym same) few in
      record {
        distinct = subst (IsDistinct nat_eq) (sym put) (IsDistinct-push nat_eq_equiv view.used block sound.distinct absent);
        few = omega (arith, fits, ap length put, length-append view.used (block ∷ []));
        last = tt;
        closed = λ _. refl;
        within = omega arith;
      }

  module _ (left : list ≡ without_block block view.used) where
    left_distinct : IsDistinct nat_eq list
    left_distinct = subst (IsDistinct nat_eq) (sym left) (IsDistinct-filter (λ one. not (nat_eq block one)) view.used sound.distinct)

    left_few : length list ≤ view.geometry.l
    left_few = let few = sound.few in omega (arith, ap length left, length-without-le block view.used)

    pub sound_released_open : AreSoundLogs (record { geometry = view.geometry; used = list; open_block = None; room = 0 })
    sound_released_open = record { distinct = left_distinct; few = left_few; last = tt; closed = λ _. refl; within = omega arith }

    pub sound_released_other : option_eq nat_eq view.open_block (Some block) ≡ false → AreSoundLogs (record { geometry = view.geometry; used = list; open_block = view.open_block; room = view.room })
    sound_released_other apart = record { distinct = left_distinct; few = left_few; last = still view.open_block apart sound.last; closed = sound.closed; within = sound.within }
      where
        still : (opened : Option ℕ) → option_eq nat_eq opened (Some block) ≡ false → IfSome opened (λ b. last_of view.used ≡ Some b) → IfSome opened (λ b. last_of list ≡ Some b)
        still None not_it last = tt
        still (Some b) not_it last = ap last_of left ∙ last_of-without block b view.used (nat_eq_equiv.symm block b ∙ not_it) last

    pub released_open : option_eq nat_eq view.open_block (Some block) ≡ true → record { geometry = view.geometry; used = list; open_block = None; room = 0 } ≡ released block now
    released_open it = rw (← same, left, it) refl

    pub released_other : option_eq nat_eq view.open_block (Some block) ≡ false → record { geometry = view.geometry; used = list; open_block = view.open_block; room = view.room } ≡ released block now
    released_other not_it = rw (← same, left, not_it) refl
