-- The entries after a group moved into one erase block, and the entries without a group.
use Rattle.std.proofs.Common.{◌≡◌, ℕ, suc, ◌+◌, ◌-◌, ◌*◌, ◌/◌, ◌%◌, ◌<◌, ◌≤◌, ◌==◌, ◌&&◌, nat_lt, Bool, true, false, cond, IsTrue, List, ◌∷◌, length, Option, Some, None, refl, sym, ◌∙◌, ap, subst, arith, inl, inr, bit_and, ◌||◌, eq-eqb, ne_eqb, lt-ltb}
use Rattle.std.specs.Bool.{then_some}
use Rattle.std.specs.FinMap.{get, entries}
use Rattle.std.proofs.lemmas.Bool.{cases_eq, and_parts, and_from, or_right, both_ways}
use Rattle.std.proofs.lemmas.Nat.{mod_below, and_comm}
use Rattle.std.proofs.lemmas.Nat.Bits.{bit_at-zero}
use Rattle.std.proofs.lemmas.Option.{same_Some}
use Rattle.ft_base.specs.declared.geometry.Geometry.{Geometry}
use Rattle.ft_base.specs.declared.record.Record.TheVariants.{RemoveGroup}
use Rattle.cache_model.specs.declared.entry.Entry.{Entry}
use Rattle.cache_model.specs.declared.format.PageKind.TheVariants.{Log as log_page}
use Rattle.cache_model.specs.Records.{Entries, after, page_of_group, has_bit}
use Rattle.cache_model.specs.Entries.{each_once, groups_with, IsMap, Fits}
use Rattle.cache_model.specs.Spelling.{is_wide, may_stand_in}
use Rattle.cache_model.proofs.StepLemmas.{get-after}
use Rattle.cache_model.proofs.CountLemmas.{member, numbers, count_le, each_once-le, remove_group_fits}
use Rattle.block_map.proofs.PageSetLemmas.{and-from_IsWithin}
use Rattle.mapping.specs.Numbers.{StandsNoneIn}
use Rattle.block_pool.specs.Pool.{IsInPool}
use Rattle.mapping.specs.declared.bits.Choice.{Choice}
use Rattle.mapping.specs.declared.bits.Choice.TheVariants.{Held, Dirty}
use Rattle.mapping.specs.Bits.{is_chosen, chosen_of}
use Rattle.mapping.proofs.BitsLemmas.{bit_of_set, set_below}
use Rattle.mapping.proofs.ChosenLemmas.{chosen_short, own_address}
use Rattle.mapping.proofs.CountsLemmas.{div_mono}
use Rattle.mapping.proofs.FittingLemmas.{group_fits}
use Rattle.mapping.proofs.MarksLemmas.{member_from, member_to}
use Rattle.silent_evict.specs.Candidates.{IsGroupHeld}
use Rattle.merge_engine.specs.Merges.{move_record, moved, HasBlockOrRoom}
use Rattle.mapping.proofs.SeekingLemmas.{none_some}

-- the entries without the group
abbrev pub dropped : Geometry → Entries → ℕ → Entries
dropped g m group = after g (RemoveGroup group) m

-- an entry that is chosen as held is there
pub held_is_some : (o : Option Entry) → is_chosen Held o ≡ true → (e : Entry) × (o ≡ Some e)
held_is_some None t = absurd (let f : is_chosen Held None ≡ false = refl in both_ways (is_chosen Held None) f t)
held_is_some (Some e) t = (e, refl)

module _ (g : Geometry) (m : Entries) (group : ℕ) where
  some_pages : 0 < g.p
  some_pages = omega (arith, g.in_range.p_low)

  -- ---- the sets of the group

  -- a set of the group has the page of an address exactly when its entry is chosen
  bit_is : (choice : Choice) (a : ℕ) → a / g.p ≡ group → has_bit (chosen_of choice g m group) (a % g.p) ≡ is_chosen choice (get m a)
  bit_is choice a same =
      bit_of_set (λ i. is_chosen choice (get m (group * g.p + i))) g.p (a % g.p)
      ∙ ap (λ b. b && is_chosen choice (get m (group * g.p + a % g.p))) (lt-ltb _ _ (mod_below a g.p some_pages))
      ∙ ap (λ n. is_chosen choice (get m n)) (own_address g m group a same)

  -- an address of the set is held
  in_set : (i : ℕ) → i < g.p → has_bit (chosen_of Held g m group) i ≡ true → (e : Entry) × (get m (group * g.p + i) ≡ Some e)
  in_set i low t =
      let p = and_parts (nat_lt i g.p) (is_chosen Held (get m (group * g.p + i))) (sym (bit_of_set (λ i. is_chosen Held (get m (group * g.p + i))) g.p i) ∙ t) in
      held_is_some (get m (group * g.p + i)) p.1

  not_nothing : IsGroupHeld g m group → 0 < chosen_of Held g m group
  not_nothing held = positive (chosen_of Held g m group) (bit_is Held held.0 held.3 ∙ ap (is_chosen Held) held.2)
    where
      positive : (n : ℕ) → has_bit n (held.0 % g.p) ≡ true → 0 < n
      positive n t = elim (cases_eq n 0) [
        | inl zero ↦ absurd (let f : has_bit 0 (held.0 % g.p) ≡ false = ap (λ n. n == 1) (bit_at-zero (held.0 % g.p)) in both_ways (has_bit 0 (held.0 % g.p)) f (ap (λ k. has_bit k (held.0 % g.p)) (sym zero) ∙ t))
        | inr other ↦ omega arith
      ]

  dirty_is_held : bit_and (chosen_of Held g m group) (chosen_of Dirty g m group) ≡ chosen_of Dirty g m group
  dirty_is_held = and_comm (chosen_of Held g m group) (chosen_of Dirty g m group) ∙ and-from_IsWithin (chosen_of Dirty g m group) (chosen_of Held g m group) (λ page t.
      let p = and_parts (nat_lt page g.p) (is_chosen Dirty (get m (group * g.p + page))) (sym (bit_of_set (λ i. is_chosen Dirty (get m (group * g.p + i))) g.p page) ∙ t) in
      bit_of_set (λ i. is_chosen Held (get m (group * g.p + i))) g.p page ∙ and_from _ _ p.0 (held_too (get m (group * g.p + page)) p.1))
    where
      held_too : (o : Option Entry) → is_chosen Dirty o ≡ true → is_chosen Held o ≡ true
      held_too None t = t
      held_too (Some e) t = refl

  -- ---- without the group

  pub dropped_here : (a : ℕ) → a / g.p ≡ group → get (dropped g m group) a ≡ None
  dropped_here a same = get-after g (RemoveGroup group) m a ∙ ap (λ b. cond b None (get m a)) (eq-eqb (a / g.p) group same)

  pub dropped_other : (a : ℕ) → (a / g.p ≡ group → ⊥) → get (dropped g m group) a ≡ get m a
  dropped_other a other = get-after g (RemoveGroup group) m a ∙ ap (λ b. cond b None (get m a)) (ne_eqb (a / g.p) group other)

  in_reach : IsMap g m → IsGroupHeld g m group → group ≤ (g.size - 1) / g.p
  in_reach is_map held =
      let low = is_map.within held.0 held.1 held.2 in
      subst (λ n. n ≤ (g.size - 1) / g.p) held.3 (div_mono held.0 (g.size - 1) g.p some_pages (omega (arith, low)))

  pub drop_fits : IsMap g m → IsGroupHeld g m group → Fits g (RemoveGroup group) m
  drop_fits is_map held = remove_group_fits g group m is_map (in_reach is_map held)

module _ (g : Geometry) (m : Entries) (group block : ℕ) where
  -- ---- the places of the entries

  -- the entry, placed in the data block
  abbrev pub in_block : ℕ → Entry → Entry
  in_block page e = record { place = record { block = block; page = page }; dirty = e.dirty; block_mapped = true }

  new_at : (a : ℕ) → a / g.p ≡ group → get (moved g m group block) a ≡ page_of_group block (chosen_of Held g m group) (chosen_of Dirty g m group) (a % g.p)
  new_at a same = get-after g (move_record g m group block) m a ∙ ap (λ b. cond b (page_of_group block (chosen_of Held g m group) (chosen_of Dirty g m group) (a % g.p)) (get m a)) (eq-eqb (a / g.p) group same)

  abbrev page_is : Bool → Bool → ℕ → Option Entry
  page_is present dirty page = then_some present (record { place = record { block = block; page = page }; dirty = dirty; block_mapped = true })

  as_chosen : (a : ℕ) (o : Option Entry) → a / g.p ≡ group → get m a ≡ o → get (moved g m group block) a ≡ page_is (is_chosen Held o) (is_chosen Dirty o) (a % g.p)
  as_chosen a o same is =
      new_at a same
      ∙ ap (λ b. page_is b (has_bit (chosen_of Dirty g m group) (a % g.p)) (a % g.p)) (bit_is g m group Held a same ∙ ap (is_chosen Held) is)
      ∙ ap (λ b. page_is (is_chosen Held o) b (a % g.p)) (bit_is g m group Dirty a same ∙ ap (is_chosen Dirty) is)

  pub moved_here : (a : ℕ) (e : Entry) → get m a ≡ Some e → a / g.p ≡ group → get (moved g m group block) a ≡ Some (in_block (a % g.p) e)
  moved_here a e is same = as_chosen a (Some e) same is

  pub moved_none : (a : ℕ) → get m a ≡ None → a / g.p ≡ group → get (moved g m group block) a ≡ None
  moved_none a is same = as_chosen a None same is

  pub moved_from : (a : ℕ) (f : Entry) → get (moved g m group block) a ≡ Some f → a / g.p ≡ group → (e : Entry) × (get m a ≡ Some e) × (f ≡ in_block (a % g.p) e)
  moved_from a f at same = by_entry (get m a) refl
    where
      by_entry : (o : Option Entry) → get m a ≡ o → (e : Entry) × (get m a ≡ Some e) × (f ≡ in_block (a % g.p) e)
      by_entry None is = none_some f (sym (as_chosen a None same is) ∙ at)
      by_entry (Some e) is = (e, is, same_Some f (in_block (a % g.p) e) (sym at ∙ moved_here a e is same))

  pub moved_other : (a : ℕ) → (a / g.p ≡ group → ⊥) → get (moved g m group block) a ≡ get m a
  moved_other a other = get-after g (move_record g m group block) m a ∙ ap (λ b. cond b (page_of_group block (chosen_of Held g m group) (chosen_of Dirty g m group) (a % g.p)) (get m a)) (ne_eqb (a / g.p) group other)

  -- ---- the records fit

  abbrev mapped_numbers : Entries → List ℕ
  mapped_numbers n = numbers (λ (x : ℕ × Entry). x.0 / g.p) (λ (e : Entry). e.block_mapped) (entries n)

  -- the groups with a data block are the old ones, and this one
  few_blocks : IsMap g m → HasBlockOrRoom g m group → length (groups_with g (λ e. e.block_mapped) (moved g m group block)) ≤ g.c
  few_blocks is_map room =
      let with_it = each_once-le (mapped_numbers (moved g m group block)) (group ∷ mapped_numbers m) (λ n mem.
      let x = member_to (λ (x : ℕ × Entry). x.0 / g.p) (λ (e : Entry). e.block_mapped) (moved g m group block) n mem in
      elim (cases_eq (x.0.0 / g.p) group) [
        | inl same ↦ ap (λ b. b || member n (mapped_numbers m)) (eq-eqb group n (sym same ∙ x.3))
        | inr other ↦ or_right (group == n) (member n (mapped_numbers m)) (ap (λ k. member k (mapped_numbers m)) (sym x.3) ∙ member_from (λ (x : ℕ × Entry). x.0 / g.p) (λ (e : Entry). e.block_mapped) m x.0.0 x.0.1 (sym (moved_other x.0.0 other) ∙ x.1) x.2)
      ]) in
      with_room room with_it
    where
      with_room : HasBlockOrRoom g m group → length (each_once (mapped_numbers (moved g m group block))) ≤ length (each_once (group ∷ mapped_numbers m)) → length (each_once (mapped_numbers (moved g m group block))) ≤ g.c
      with_room (inl has) few =
          let there : member group (mapped_numbers m) ≡ true = ap (λ k. member k (mapped_numbers m)) (sym has.3) ∙ member_from (λ (x : ℕ × Entry). x.0 / g.p) (λ (e : Entry). e.block_mapped) m has.0 has.1 has.2 has.4 in
          let same : length (each_once (group ∷ mapped_numbers m)) ≡ length (each_once (mapped_numbers m)) = ap (λ b. length (cond b (each_once (mapped_numbers m)) (group ∷ each_once (mapped_numbers m)))) there in
          let most = is_map.data_blocks in
          omega (arith, few, same, most)
      with_room (inr low) few = let more = one_more (member group (mapped_numbers m)) (each_once (mapped_numbers m)) in omega (arith, few, low, more)
        where
          one_more : (b : Bool) (ns : List ℕ) → length (cond b ns (group ∷ ns)) ≤ suc (length ns)
          one_more true ns = omega arith
          one_more false ns = omega arith

  -- no entry becomes dirty
  few_dirty : IsMap g m → length (groups_with g (λ e. e.dirty) (moved g m group block)) ≤ g.c
  few_dirty is_map =
      let fewer = count_le (λ x. x.0 / g.p) (λ e. e.dirty) (λ x. x.0 / g.p) (λ e. e.dirty) (moved g m group block) m (λ a e is t. elim (cases_eq (a / g.p) group) [
        | inl same ↦ let x = moved_from a e is same in (x.0, x.1, ap (λ (y : Entry). y.dirty) (sym x.2) ∙ t, refl)
        | inr other ↦ (e, sym (moved_other a other) ∙ is, t, refl)
      ]) in
      let most = is_map.dirty_groups in
      omega (arith, fewer, most)

  -- the group may move into an erase block in which no entry of another group stands
  pub switch_fits : IsMap g m → IsGroupHeld g m group → HasBlockOrRoom g m group → IsInPool g block → ((a : ℕ) (e : Entry) → get m a ≡ Some e → (a / g.p ≡ group → ⊥) → e.place.block ≡ block → ⊥) → Fits g (move_record g m group block) m
  switch_fits is_map held room in_pool own = group_fits g m is_map group block (chosen_of Held g m group) (chosen_of Dirty g m group) (record {
    reach = (in_reach g m group is_map held, set_below (λ i. is_chosen Held (get m (group * g.p + i))) g.p, set_below (λ i. is_chosen Dirty (get m (group * g.p + i))) g.p);
    sizes = λ i low t. let x = in_set g m group i low t in is_map.within (group * g.p + i) x.0 x.1;
    pool = λ i low t. in_pool;
    foreign = λ i low t a e is other same. own a e is other same;
    data_blocks = few_blocks is_map room;
    dirty_groups = few_dirty is_map;
  })

  pub move_fits : IsMap g m → IsGroupHeld g m group → HasBlockOrRoom g m group → IsInPool g block → StandsNoneIn m block → Fits g (move_record g m group block) m
  move_fits is_map held room in_pool unheld = switch_fits is_map held room in_pool (λ a e is other same. unheld a e is same)

  -- ---- the record can be spelled

  pub move_spelled : IsGroupHeld g m group → IsTrue (may_stand_in (is_wide 2 g.p) log_page (move_record g m group block))
  move_spelled held =
      let some = lt-ltb _ _ (not_nothing g m group held) in
      let within = eq-eqb _ _ (dirty_is_held g m group) in
      and_from _ _ (and_from _ _ (and_from _ _ some within) (lt-ltb _ _ (chosen_short g m group Held))) refl
