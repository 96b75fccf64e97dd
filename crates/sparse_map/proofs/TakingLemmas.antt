-- Groups as they take items one after another.
use Rattle.std.proofs.Common.{◌≡◌, ℕ, ◌+◌, ◌/◌, ◌<◌, List, [], ◌∷◌, ◌++◌, Option, Some, None, true, length, get_or, set, map, cond, eqb, refl, sym, ap, ◌∙◌, subst, inl, inr, arith, take}
use Rattle.std.specs.Prelude.{is_some}
use Rattle.std.specs.Ordering.{nat_cmp}
use Rattle.std.specs.FinMap.{find}
use Rattle.std.proofs.lemmas.List.{map-set, length-append}
use Rattle.std.proofs.lemmas.Bool.{cases_eq, eq-eqb, ne_eqb, cond-true, cond-false, false≢true}
use Rattle.sparse_map.specs.declared.group.Group.{Group}
use Rattle.sparse_map.specs.Home.{home}
use Rattle.sparse_map.specs.Slots.{slot_at, key_at, items_of}
use Rattle.sparse_map.specs.Groups.{all_slots, slots_of, lists_for, IsEmptyFrom}
use Rattle.sparse_map.specs.Packed.{IsPacked}
use Rattle.sparse_map.specs.Probe.{IsFreeFor, IsFirstFree}
use Rattle.sparse_map.specs.Plan.{Plan, planned, with_key, with_items, RoomsFit, lens_of, rooms_of, plan_of}
use Rattle.sparse_map.specs.Moved.{after_items, items_in, CanTake, HasTaken}
use Rattle.sparse_map.proofs.SlotLemmas.{items_of-free, find_here, find_later, slot_of_key, found_of_bucket}
use Rattle.sparse_map.proofs.PackedLemmas.{free_for_new}
use Rattle.sparse_map.proofs.HomeLemmas.{IsSized}
use Rattle.sparse_map.proofs.BucketLemmas.{length-table, same_slot, items_of-groups, set_below, table_set}
use Rattle.sparse_map.proofs.ChangeLemmas.{new_packed, new_count, new_found}
use Rattle.sparse_map.proofs.MoveLemmas.{IsDistinct-left, IsDistinct-right, group_fresh, group_found, group_fresh_first, packed-free}
use Rattle.sparse_map.proofs.ReserveLemmas.{items_in-IsDistinct, after_none}
use Rattle.sparse_map.proofs.PlanLemmas.{with_items-append, counts_grow, first_unmarked-is, with_key-at}

module _ {V : Type 0} where
  -- some of the items are in, and the rest is still to go in
  pub record Taking (n : ℕ) (start : List (Group V)) (all : List (ℕ × V)) (now : List (Group V)) (rest : List (ℕ × V)) : Type 0 where
    pub ready : CanTake n now rest
    pub found : (q : ℕ) → after_items rest (find nat_cmp q (items_of (slots_of n now))) q ≡ after_items all (find nat_cmp q (items_of (slots_of n start))) q
    pub count : length (items_of (slots_of n now)) + length rest ≡ length (items_of (slots_of n start)) + length all
    pub plan : with_items n (plan_of n now) rest ≡ with_items n (plan_of n start) all

  pub taking_first : (n : ℕ) (us : List (Group V)) (xs ys : List (ℕ × V)) → CanTake n us (xs ++ ys) → CanTake n us xs
  taking_first n us xs ys ready =
      record {
        table = ready.table;
        packed = ready.packed;
        room = omega (arith, ready.room, length-append xs ys);
        distinct = IsDistinct-left xs ys ready.distinct;
        fresh = group_fresh_first (λ q. find nat_cmp q (items_of (slots_of n us))) xs ys ready.fresh;
      }

  pub taking_more : (n : ℕ) (us : List (Group V)) (es : List (ℕ × V)) (now new : List (Group V)) (xs ys : List (ℕ × V)) → Taking n us es now (xs ++ ys) → HasTaken n now new xs → length new ≡ length now → Taking n us es new ys
  taking_more n us es now new xs ys t h level =
      let f : ℕ → Option V = λ q. find nat_cmp q (items_of (slots_of n now)) in
      let g : ℕ → Option V = λ q. find nat_cmp q (items_of (slots_of n new)) in
      let moved : with_items n (plan_of n new) ys ≡ with_items n (plan_of n now) (xs ++ ys) = ap (λ p. with_items n p ys) h.plan ∙ sym (with_items-append n (plan_of n now) xs ys) in
      let d = t.ready.distinct in
      record {
        ready = record {
          table = record { count = level ∙ t.ready.table.count; rest = h.rest };
          packed = h.packed;
          room = omega (arith, h.count, length-append xs ys, t.ready.room);
          distinct = IsDistinct-right xs ys d;
          fresh = group_fresh f g xs ys d h.found t.ready.fresh;
        };
        found = λ q. group_found f g xs ys d h.found q ∙ t.found q;
        count = omega (arith, h.count, length-append xs ys, t.count);
        plan = moved ∙ t.plan;
      }

  pub slots_of-same : (n : ℕ) (new now : List (Group V)) → all_slots new ≡ all_slots now → slots_of n new ≡ slots_of n now
  unfolding slots_of
  slots_of-same n new now all = ap (take n) all

  -- the same items in other lists, as one is handed on
  pub taking_same : (n : ℕ) (us : List (Group V)) (es : List (ℕ × V)) (now new : List (Group V)) (rest : List (ℕ × V)) → length new ≡ length now → all_slots new ≡ all_slots now → plan_of n new ≡ plan_of n now → Taking n us es now rest → Taking n us es new rest
  taking_same n us es now new rest level all plan t =
      let slots : slots_of n new ≡ slots_of n now = slots_of-same n new now all in
      record {
        ready = record {
          table = record { count = level ∙ t.ready.table.count; rest = λ b past. ap (λ s. slot_at s b) all ∙ t.ready.table.rest b past };
          packed = subst (λ s. IsPacked s) (sym slots) t.ready.packed;
          room = omega (arith, ap (λ s. length (items_of s)) slots, t.ready.room);
          distinct = t.ready.distinct;
          fresh = λ q there. ap (λ s. find nat_cmp q (items_of s)) slots ∙ t.ready.fresh q there;
        };
        found = λ q. ap (λ s. after_items rest (find nat_cmp q (items_of s)) q) slots ∙ t.found q;
        count = omega (arith, ap (λ s. length (items_of s)) slots, t.count);
        plan = ap (λ p. with_items n p rest) plan ∙ t.plan;
      }

  pub taking_none : (n : ℕ) (us : List (Group V)) (es : List (ℕ × V)) → CanTake n us es → Taking n us es us es
  taking_none n us es ready = record { ready = ready; found = λ q. refl; count = refl; plan = refl }

  pub taking_all : (n : ℕ) (us : List (Group V)) (es : List (ℕ × V)) (now : List (Group V)) (rest : List (ℕ × V)) → rest ≡ [] → Taking n us es now rest → HasTaken n us now es
  taking_all n us es now rest none t =
      let u : Taking n us es now [] = subst (λ r. Taking n us es now r) none t in
      record { found = u.found; packed = u.ready.packed; rest = u.ready.table.rest; count = omega (arith, u.count); plan = u.plan }

  -- lists that fit all items fit the first ones, as no count goes down
  pub first_fits : (n : ℕ) (us : List (Group V)) (es : List (ℕ × V)) (now : List (Group V)) (xs ys : List (ℕ × V)) → RoomsFit (rooms_of us) (with_items n (plan_of n us) es).counts → rooms_of now ≡ rooms_of us
      → with_items n (plan_of n now) (xs ++ ys) ≡ with_items n (plan_of n us) es → RoomsFit (rooms_of now) (with_items n (plan_of n now) xs).counts
  first_fits n us es now xs ys fits rooms plan = λ i inside.
      let grows = counts_grow n (with_items n (plan_of n now) xs) ys i in
      let all : get_or (with_items n (plan_of n us) es).counts i 0 ≡ get_or (with_items n (with_items n (plan_of n now) xs) ys).counts i 0 =
      ap (λ (p : Plan). get_or p.counts i 0) (sym plan ∙ with_items-append n (plan_of n now) xs ys) in
      let room : get_or (rooms_of now) i 0 ≡ get_or (rooms_of us) i 0 = ap (λ r. get_or r i 0) rooms in
      let long : length (rooms_of now) ≡ length (rooms_of us) = ap length rooms in
      omega (arith, grows, all, room, fits i (omega (arith, inside, long)))

  -- ---- one item
  not_there : (n : ℕ) (us : List (Group V)) (e : ℕ × V) → CanTake n us (e ∷ []) → (b : ℕ) → key_at (slots_of n us) b ≡ Some e.0 → ⊥
  not_there n us e ready b is =
      let at = slot_of_key (slots_of n us) b e.0 is in
      let here : is_some (find nat_cmp e.0 (e ∷ [])) ≡ true = ap is_some (find_here e.0 e.0 e.1 [] refl) in
      false≢true (sym (ap is_some (ready.fresh e.0 here)) ∙ found_of_bucket (slots_of n us) b e.0 at.0 at.1)

  -- the key goes into the first free bucket from its home on
  pub new_place : (n : ℕ) (us : List (Group V)) (e : ℕ × V) (at b : ℕ) → IsSized n → CanTake n us (e ∷ []) → at ≡ home n e.0 → IsFirstFree (slots_of n us) at b → IsFreeFor (slots_of n us) e.0 b
  new_place n us e at b size ready is first =
      free_for_new (slots_of n us) e.0 b (subst (λ h. IsFirstFree (slots_of n us) h b) (is ∙ ap (λ m. home m e.0) (sym (length-table n us size ready.table))) first) (not_there n us e ready)

  module _ (n : ℕ) (us ws : List (Group V)) (b : ℕ) (e : ℕ × V) (size : IsSized n) (ready : CanTake n us (e ∷ [])) (home_in : home n e.0 < n) (place : IsFreeFor (slots_of n us) e.0 b) where
    pub goes_here : with_key n (plan_of n us) e.0 ≡ planned (set (map is_some (slots_of n us)) b true) (set (lens_of us) (b / 64) (get_or (lens_of us) (b / 64) 0 + 1))
    goes_here = with_key-at n (plan_of n us) e.0 b (first_unmarked-is n (slots_of n us) e.0 b (length-table n us size ready.table) home_in place)

    below : b < n
    below = omega (arith, place.inside, length-table n us size ready.table)

    pub placed : all_slots ws ≡ set (all_slots us) b (Some e) → lens_of ws ≡ set (lens_of us) (b / 64) (get_or (lens_of us) (b / 64) 0 + 1) → HasTaken n us ws (e ∷ [])
    placed all lens =
        record {
          found = λ q. ap (λ s. find nat_cmp q (items_of s)) slots ∙ new_found (slots_of n us) b e.0 e.1 ready.packed place q ∙ one_after q (find nat_cmp q (items_of (slots_of n us)));
          packed = subst (λ s. IsPacked s) (sym slots) (new_packed (slots_of n us) b e.0 e.1 ready.packed place);
          count = ap (λ s. length (items_of s)) slots ∙ new_count (slots_of n us) b e.0 e.1 ready.packed place;
          rest = (table_set n us ws b (Some e) below all ready.table).rest;
          plan = (λ i. planned (marks i) (lens i)) ∙ sym goes_here;
        } where
          slots : slots_of n ws ≡ set (slots_of n us) b (Some e)
          slots = set_below n us ws b (Some e) below all

          marks : map is_some (slots_of n ws) ≡ set (map is_some (slots_of n us)) b true
          marks = ap (map is_some) slots ∙ map-set is_some (slots_of n us) b (Some e)

          one_after : (q : ℕ) (old : Option V) → cond (eqb q e.0) (Some e.1) old ≡ after_items (e ∷ []) old q
          one_after q old = elim (cases_eq q e.0) [
            | inl same ↦
                cond-true (eqb q e.0) _ _ (eq-eqb q e.0 same)
                ∙ sym (ap (λ o. cond (is_some o) o old) (find_here q e.0 e.1 [] same))
            | inr ne ↦
                cond-false (eqb q e.0) _ _ (ne_eqb q e.0 ne)
                ∙ sym (ap (λ o. cond (is_some o) o old) (find_later q e.0 e.1 [] ne))
          ]

  -- ---- all items of old groups, in groups with none
  module _ (o n : ℕ) (us ws : List (Group V)) (old_rest : IsEmptyFrom o us) (free : (b : ℕ) → slot_at (all_slots ws) b ≡ None) where
    free_table : (b : ℕ) → slot_at (slots_of n ws) b ≡ None
    free_table b = same_slot n ws (λ c past. free c) b ∙ free b

    pub can_take_all : IsPacked (slots_of o us) → length ws ≡ lists_for n → length (items_of (slots_of o us)) < n → CanTake n ws (items_in us)
    can_take_all packed long few =
        let none = items_of-free (slots_of n ws) free_table in
        let nothing : length (items_of (slots_of n ws)) ≡ 0 = ap length none in
        let same : length (items_of (slots_of o us)) ≡ length (items_in us) = ap length (items_of-groups o us old_rest) in
        record {
          table = record { count = long; rest = λ b past. free b };
          packed = packed-free (slots_of n ws) free_table;
          room = omega (arith, nothing, same, few);
          distinct = items_in-IsDistinct o us old_rest packed;
          fresh = λ q there. ap (find nat_cmp q) none;
        }

    module _ (new : List (Group V)) (taken : HasTaken n ws new (items_in us)) where
      pub all_found : (q : ℕ) → find nat_cmp q (items_of (slots_of n new)) ≡ find nat_cmp q (items_of (slots_of o us))
      all_found q =
          let none = items_of-free (slots_of n ws) free_table in
          let es = items_in us in
          taken.found q
          ∙ ap (λ r. cond (is_some (find nat_cmp q es)) (find nat_cmp q es) (find nat_cmp q r)) none
          ∙ after_none (find nat_cmp q es)
          ∙ ap (find nat_cmp q) (sym (items_of-groups o us old_rest))

      pub all_counted : length (items_of (slots_of n new)) ≡ length (items_of (slots_of o us))
      all_counted =
          let nothing : length (items_of (slots_of n ws)) ≡ 0 = ap length (items_of-free (slots_of n ws) free_table) in
          let same : length (items_of (slots_of o us)) ≡ length (items_in us) = ap length (items_of-groups o us old_rest) in
          omega (arith, nothing, same, taken.count)

  -- new groups in place of old ones: the same items
  pub record Widened (o n : ℕ) (us new : List (Group V)) : Type 0 where
    pub found : (q : ℕ) → find nat_cmp q (items_of (slots_of n new)) ≡ find nat_cmp q (items_of (slots_of o us))
    pub packed : IsPacked (slots_of n new)
    pub rest : IsEmptyFrom n new
    pub count : length (items_of (slots_of n new)) ≡ length (items_of (slots_of o us))

  -- as the code reads the lists
  module _ (o n : ℕ) (us old ws now : List (Group V)) (old_rest : IsEmptyFrom o us) (same_old : old ≡ us) (same_now : now ≡ ws) (free : (b : ℕ) → slot_at (all_slots ws) b ≡ None) where
    pub can_widen : IsPacked (slots_of o us) → length ws ≡ lists_for n → length (items_of (slots_of o us)) < n → CanTake n now (items_in old)
    can_widen packed long few =
        subst (λ l. CanTake n l (items_in old)) (sym same_now)
        (subst (λ r. CanTake n ws (items_in r)) (sym same_old) (can_take_all o n us ws old_rest free packed long few))

    pub widened : (new : List (Group V)) → HasTaken n now new (items_in old) → Widened o n us new
    widened new taken =
        let all : HasTaken n ws new (items_in us) = subst (λ l. HasTaken n l new (items_in us)) same_now (subst (λ r. HasTaken n now new (items_in r)) same_old taken) in
        record { found = all_found o n us ws old_rest free new all; packed = all.packed; rest = all.rest; count = all_counted o n us ws old_rest free new all }

pub nothing : {X : Type 0} (xs : List X) → length xs ≡ 0 → xs ≡ []
nothing [] e = refl
nothing (x ∷ xs) e = absurd (omega arith)
