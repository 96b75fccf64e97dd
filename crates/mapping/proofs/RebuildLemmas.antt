-- The records of a checkpoint build the map from nothing.
use Rattle.std.proofs.Common.{◌≡◌, ℕ, ◌+◌, ◌-◌, ◌*◌, ◌/◌, ◌%◌, ◌<◌, ◌≤◌, ◌==◌, ◌&&◌, ◌||◌, Bool, true, false, cond, not, List, [], ◌∷◌, ◌++◌, map, filter, Option, Some, None, refl, sym, ◌∙◌, ap, ap₂, subst, arith, inl, inr, ◌⊎◌, nat_cmp, eqb-true, lt-ltb, if◌then◌else◌}
use Rattle.std.specs.Bool.{then_some}
use Rattle.std.specs.List.{AllByRecursion}
use Rattle.std.specs.Cmp.{nat_cmp_total}
use Rattle.std.specs.FinMap.{get, get-empty, same_map, nat_cmp-IsAntisymmetric}
use Rattle.std.proofs.lemmas.Bool.{cases_Bool, or_left, or_right, both_ways, not-true}
use Rattle.mapping.proofs.AscendingLemmas.{Items}
use Rattle.std.proofs.lemmas.Nat.{div-mul-add, div-add-mod', mod_below}
use Rattle.std.proofs.lemmas.Option.{none-some, same_Some}
use Rattle.ft_base.specs.declared.geometry.Geometry.{Geometry}
use Rattle.ft_base.specs.declared.record.Record.{Record}
use Rattle.cache_model.specs.declared.entry.Entry.{Entry}
use Rattle.cache_model.specs.Records.{Entries, no_entries, after, in_log_block, page_of_group, has_bit}
use Rattle.cache_model.specs.Entries.{page_mapped, IsMap, fits}
use Rattle.cache_model.specs.Loading.{after_all}
use Rattle.cache_model.proofs.StepLemmas.{get-after}
use Rattle.cache_model.proofs.FitsLemmas.{fits-from}
use Rattle.cache_model.proofs.CountLemmas.{member, same_number, less-map, equals_turned}
use Rattle.mapping.specs.declared.bits.Choice.TheVariants.{Mapped, MappedDirty}
use Rattle.mapping.specs.Bits.{chosen_of, is_chosen}
use Rattle.mapping.specs.Checkpoint.{set_group_of, set_page_of, block_below, ListsGroups, ListsPages, IsCheckpointOf}
use Rattle.mapping.proofs.BitsLemmas.{bit_of_set, set_below}
use Rattle.mapping.proofs.CountsLemmas.{div_mono}
use Rattle.mapping.proofs.ChosenLemmas.{block_is}

joined : (b c c' : Bool) (x y : Option Entry) → c ≡ c' → cond b x (cond c x y) ≡ cond (c' || b) x y
joined true true c' x y e = ap (λ d. cond (d || true) x y) e
joined true false c' x y e = ap (λ d. cond (d || true) x y) e
joined false true c' x y e = ap (λ d. cond (d || false) x y) e
joined false false c' x y e = ap (λ d. cond (d || false) x y) e

-- the entry, if it stands in a data block
abbrev only_mapped : Option Entry → Option Entry
only_mapped None = None
only_mapped (Some e) = if e.block_mapped then Some e else None

module _ (g : Geometry) (m : Entries) (is_map : IsMap g m) where
  -- each of these entries is one of the map
  record IsPart (n : Entries) : Type 0 where
    held : (a : ℕ) (e : Entry) → get n a ≡ Some e → get m a ≡ Some e

  part_map : (n : Entries) → IsPart n → IsMap g n
  part_map n part = less-map g n m (record { entry = λ a e at. (e, part.held a e at, (refl, refl, λ t. t)) }) is_map

  some_pages : 0 < g.p
  some_pages = omega (arith, g.in_range.p_low)

  -- a group's record puts at an address of the group the entry that the map has there in a data block
  group_page : (group a : ℕ) → a / g.p ≡ group → page_of_group (block_below m (group * g.p) g.p) (chosen_of Mapped g m group) (chosen_of MappedDirty g m group) (a % g.p) ≡ only_mapped (get m a)
  group_page group a in_group = by_entry (get m a) refl
    where
      i : ℕ
      i = a % g.p

      low : a % g.p < g.p
      low = mod_below a g.p some_pages

      whole : group * g.p + a % g.p ≡ a
      whole = ap (λ n. n * g.p + a % g.p) (sym in_group) ∙ div-add-mod' a g.p

      bit : (b : Bool) → has_bit (chosen_of Mapped g m group) (a % g.p) ≡ is_chosen Mapped (get m a)
      bit b = bit_of_set (λ i. is_chosen Mapped (get m (group * g.p + i))) g.p (a % g.p) ∙ ap (λ b. b && is_chosen Mapped (get m (group * g.p + a % g.p))) (lt-ltb _ _ low) ∙ ap (λ n. is_chosen Mapped (get m n)) whole

      dirty_bit : (b : Bool) → has_bit (chosen_of MappedDirty g m group) (a % g.p) ≡ is_chosen MappedDirty (get m a)
      dirty_bit b = bit_of_set (λ i. is_chosen MappedDirty (get m (group * g.p + i))) g.p (a % g.p) ∙ ap (λ b. b && is_chosen MappedDirty (get m (group * g.p + a % g.p))) (lt-ltb _ _ low) ∙ ap (λ n. is_chosen MappedDirty (get m n)) whole

      by_entry : (o : Option Entry) → get m a ≡ o → page_of_group (block_below m (group * g.p) g.p) (chosen_of Mapped g m group) (chosen_of MappedDirty g m group) (a % g.p) ≡ only_mapped o
      by_entry None is = ap (λ b. then_some b (record { place = record { block = block_below m (group * g.p) g.p; page = a % g.p }; dirty = has_bit (chosen_of MappedDirty g m group) (a % g.p); block_mapped = true })) (bit true ∙ ap (is_chosen Mapped) is)
      by_entry (Some e) is = elim (cases_Bool e.block_mapped) [
        | inl t ↦
            let own = is_map.own_block a a e e is is t refl in
            let block_same : block_below m (group * g.p) g.p ≡ e.place.block = block_is m (group * g.p) g.p (a % g.p) e low (ap (get m) whole ∙ is) t (λ j f low' at mapped. is_map.one_block a (group * g.p + j) e f is at t mapped (div-mul-add group g.p j low' ∙ sym in_group)) in
            let dirty_same : has_bit (chosen_of MappedDirty g m group) (a % g.p) ≡ e.dirty = dirty_bit true ∙ ap (is_chosen MappedDirty) is ∙ ap (λ b. b && e.dirty) t in
            let same : record {
              place = record { block = block_below m (group * g.p) g.p; page = a % g.p };
              dirty = has_bit (chosen_of MappedDirty g m group) (a % g.p);
              block_mapped = true;
            } ≡ e = λ k. record { place = record { block = block_same k; page = sym own.page k }; dirty = dirty_same k; block_mapped = sym t k } in
            ap (λ b. then_some b (record { place = record { block = block_below m (group * g.p) g.p; page = a % g.p }; dirty = has_bit (chosen_of MappedDirty g m group) (a % g.p); block_mapped = true })) (bit true ∙ ap (is_chosen Mapped) is ∙ t)
            ∙ ap (λ (x : Entry). Some x) same ∙ sym (ap (λ b. cond b (Some e) None) t)
        | inr f ↦
            ap (λ b. then_some b (record { place = record { block = block_below m (group * g.p) g.p; page = a % g.p }; dirty = has_bit (chosen_of MappedDirty g m group) (a % g.p); block_mapped = true })) (bit true ∙ ap (is_chosen Mapped) is ∙ f)
            ∙ sym (ap (λ b. cond b (Some e) None) f)
      ]

  -- ---- step by step

  -- a group's record sets the map's data block of the group, and keeps all else
  after_group : (group : ℕ) (n : Entries) (a : ℕ) → get (after g (set_group_of g m group) n) a ≡ (if a / g.p == group then only_mapped (get m a) else get n a)
  after_group group n a = get-after g (set_group_of g m group) n a ∙ elim (cases_Bool (a / g.p == group)) [
    | inl t ↦
        ap (λ b. cond b (page_of_group (block_below m (group * g.p) g.p) (chosen_of Mapped g m group) (chosen_of MappedDirty g m group) (a % g.p)) (get n a)) t
        ∙ group_page group a (eqb-true _ _ t) ∙ sym (ap (λ b. cond b (only_mapped (get m a)) (get n a)) t)
    | inr f ↦ ap (λ b. cond b (page_of_group (block_below m (group * g.p) g.p) (chosen_of Mapped g m group) (chosen_of MappedDirty g m group) (a % g.p)) (get n a)) f ∙ sym (ap (λ b. cond b (only_mapped (get m a)) (get n a)) f)
  ]

  mapped_is : (o : Option Entry) (e : Entry) → only_mapped o ≡ Some e → o ≡ Some e
  mapped_is None e is = absurd (cc)
  mapped_is (Some f) e is = elim (cases_Bool f.block_mapped) [
    | inl t ↦ sym (ap (λ b. cond b (Some f) None) t) ∙ is
    | inr n ↦ absurd (none-some e (sym (ap (λ b. cond b (Some f) None) n) ∙ is))
  ]

  either : (b : Bool) (x y : Option Entry) (e : Entry) → cond b x y ≡ Some e → (x ≡ Some e) ⊎ (y ≡ Some e)
  either true x y e is = inl is
  either false x y e is = inr is

  group_part : (group : ℕ) (n : Entries) → IsPart n → IsPart (after g (set_group_of g m group) n)
  group_part group n part = record {
    held = λ a e at. elim (either (a / g.p == group) (only_mapped (get m a)) (get n a) e (sym (after_group group n a) ∙ at)) [
      | inl new ↦ mapped_is (get m a) e new
      | inr old ↦ part.held a e old
    ];
  }

  group_may : (group a : ℕ) (e : Entry) (n : Entries) → get m a ≡ Some e → a / g.p ≡ group → IsPart n → fits g (set_group_of g m group) n ≡ true
  group_may group a e n at in_group part = fits-from g (set_group_of g m group) n (record {
    in_reach = (
      (let low = is_map.within a e at in subst (λ k. k ≤ (g.size - 1) / g.p) in_group (div_mono a (g.size - 1) g.p some_pages (omega arith))),
      set_below (λ i. is_chosen Mapped (get m (group * g.p + i))) g.p,
      set_below (λ i. is_chosen MappedDirty (get m (group * g.p + i))) g.p,
    );
    leaves = part_map (after g (set_group_of g m group) n) (group_part group n part);
  })

  -- each of these groups has an entry
  record AreGroups (groups : List ℕ) : Type 0 where
    entry : (k : ℕ) → member k groups ≡ true → (a : ℕ) × (e : Entry) × (get m a ≡ Some e) × (a / g.p ≡ k)

  -- the entries after the records of groups
  record GroupsBuilt (groups : List ℕ) (n n1 : Entries) : Type 0 where
    built : after_all g (map (set_group_of g m) groups) n ≡ Some n1
    part : IsPart n1
    has : (a : ℕ) → get n1 a ≡ cond (member (a / g.p) groups) (only_mapped (get m a)) (get n a)

  groups_built : (groups : List ℕ) (n : Entries) → IsPart n → AreGroups groups → (n1 : Entries) × GroupsBuilt groups n n1
  groups_built [] n part are = (n, record { built = refl; part = part; has = λ a. refl })
  groups_built (group ∷ groups) n part are =
      let first = are.entry group (or_left (group == group) (member group groups) (same_number group)) in
      let rest = groups_built groups (after g (set_group_of g m group) n) (group_part group n part) (record { entry = λ k t. are.entry k (or_right (group == k) (member k groups) t) }) in (
        rest.0,
        record {
          built = ap (λ b. cond b (after_all g (map (set_group_of g m) groups) (after g (set_group_of g m group) n)) None) (group_may group first.0 first.1 n first.2 first.3 part) ∙ rest.1.built;
          part = rest.1.part;
          has = λ a. rest.1.has a ∙ ap (λ o. cond (member (a / g.p) groups) (only_mapped (get m a)) o) (after_group group n a) ∙ joined (member (a / g.p) groups) (a / g.p == group) (group == a / g.p) (only_mapped (get m a)) (get n a) (equals_turned (a / g.p) group);
        },
      )

  -- ---- pages

  log_entry : (e : Entry) → page_mapped e ≡ true → in_log_block e.place e.dirty ≡ e
  log_entry e t = λ i. record { place = e.place; dirty = e.dirty; block_mapped = sym (not-true e.block_mapped t) i }

  after_page : (x : ℕ × Entry) (n : Entries) (a : ℕ) → get m x.0 ≡ Some x.1 → page_mapped x.1 ≡ true → get (after g (set_page_of x) n) a ≡ cond (a == x.0) (get m a) (get n a)
  after_page x n a at t = get-after g (set_page_of x) n a ∙ elim (cases_Bool (a == x.0)) [
    | inl s ↦ ap (λ b. cond b (Some (in_log_block x.1.place x.1.dirty)) (get n a)) s ∙ ap (λ (e : Entry). Some e) (log_entry x.1 t) ∙ sym at ∙ ap (get m) (sym (eqb-true _ _ s)) ∙ sym (ap (λ b. cond b (get m a) (get n a)) s)
    | inr f ↦ ap (λ b. cond b (Some (in_log_block x.1.place x.1.dirty)) (get n a)) f ∙ sym (ap (λ b. cond b (get m a) (get n a)) f)
  ]

  page_part : (x : ℕ × Entry) (n : Entries) → get m x.0 ≡ Some x.1 → page_mapped x.1 ≡ true → IsPart n → IsPart (after g (set_page_of x) n)
  page_part x n at t part = record {
    held = λ a e is. elim (either (a == x.0) (get m a) (get n a) e (sym (after_page x n a at t) ∙ is)) [
      | inl new ↦ new
      | inr old ↦ part.held a e old
    ];
  }

  page_may : (x : ℕ × Entry) (n : Entries) → get m x.0 ≡ Some x.1 → page_mapped x.1 ≡ true → IsPart n → fits g (set_page_of x) n ≡ true
  page_may x n at t part = fits-from g (set_page_of x) n (record { in_reach = is_map.within x.0 x.1 at; leaves = part_map (after g (set_page_of x) n) (page_part x n at t part) })

  abbrev pages_of : Items → List ℕ
  pages_of es = map (λ (x : ℕ × Entry). x.0) (filter (λ (x : ℕ × Entry). page_mapped x.1) es)

  record PagesBuilt (es : Items) (n n2 : Entries) : Type 0 where
    built : after_all g (map set_page_of (filter (λ x. page_mapped x.1) es)) n ≡ Some n2
    has : (a : ℕ) → get n2 a ≡ cond (member a (pages_of es)) (get m a) (get n a)

  pages_built : (es : Items) (n : Entries) → IsPart n → AllByRecursion (λ x. get m x.0 ≡ Some x.1) es → (n2 : Entries) × PagesBuilt es n n2
  pages_built [] n part all = (n, record { built = refl; has = λ a. refl })
  pages_built (x ∷ es) n part all = elim (cases_Bool (page_mapped x.1)) [
    | inl t ↦
        let rest = pages_built es (after g (set_page_of x) n) (page_part x n all.0 t part) all.1 in (
          rest.0,
          record {
            built =
                ap (λ b. after_all g (map set_page_of (cond b (x ∷ filter (λ x. page_mapped x.1) es) (filter (λ x. page_mapped x.1) es))) n) t
                ∙ ap (λ b. cond b (after_all g (map set_page_of (filter (λ x. page_mapped x.1) es)) (after g (set_page_of x) n)) None) (page_may x n all.0 t part) ∙ rest.1.built;
            has = λ a.
                rest.1.has a ∙ ap (λ o. cond (member a (pages_of es)) (get m a) o) (after_page x n a all.0 t)
                ∙ joined (member a (pages_of es)) (a == x.0) (x.0 == a) (get m a) (get n a) (equals_turned a x.0)
                ∙ ap (λ b. cond (member a (map (λ (x : ℕ × Entry). x.0) (cond b (x ∷ filter (λ x. page_mapped x.1) es) (filter (λ x. page_mapped x.1) es)))) (get m a) (get n a)) (sym t);
          },
        )
    | inr f ↦
        let rest = pages_built es n part all.1 in (
          rest.0,
          record {
            built = ap (λ b. after_all g (map set_page_of (cond b (x ∷ filter (λ x. page_mapped x.1) es) (filter (λ x. page_mapped x.1) es))) n) f ∙ rest.1.built;
            has = λ a. rest.1.has a ∙ ap (λ b. cond (member a (map (λ (x : ℕ × Entry). x.0) (cond b (x ∷ filter (λ x. page_mapped x.1) es) (filter (λ x. page_mapped x.1) es)))) (get m a) (get n a)) (sym f);
          },
        )
  ]

  -- ---- the whole

  all_then : (rs qs : List Record) (n n1 : Entries) → after_all g rs n ≡ Some n1 → after_all g (rs ++ qs) n ≡ after_all g qs n1
  all_then [] qs n n1 is = ap (after_all g qs) (same_Some n n1 is)
  all_then (r ∷ rs) qs n n1 is = elim (cases_Bool (fits g r n)) [
    | inl t ↦ ap (λ b. cond b (after_all g (rs ++ qs) (after g r n)) None) t ∙ all_then rs qs (after g r n) n1 (sym (ap (λ b. cond b (after_all g rs (after g r n)) None) t) ∙ is)
    | inr f ↦ absurd (none-some n1 (sym (ap (λ b. cond b (after_all g rs (after g r n)) None) f) ∙ is))
  ]

  nothing : (a : ℕ) → get no_entries a ≡ None
  nothing a = get-empty nat_cmp a

  are_groups : (groups : List ℕ) → ListsGroups g m groups → AreGroups groups
  are_groups groups listed = record { entry = λ k t. let x = listed.each k t in (x.0, x.1, x.2, x.4) }

  all_pass : (es : Items) → AllByRecursion (λ x. (get m x.0 ≡ Some x.1) × (page_mapped x.1 ≡ true)) es → filter (λ x. page_mapped x.1) es ≡ es
  all_pass [] all = refl
  all_pass (x ∷ es) all = ap (λ b. cond b (x ∷ filter (λ x. page_mapped x.1) es) (filter (λ x. page_mapped x.1) es)) all.0.1 ∙ ap (λ (l : Items). x ∷ l) (all_pass es all.1)

  all_held : (es : Items) → AllByRecursion (λ x. (get m x.0 ≡ Some x.1) × (page_mapped x.1 ≡ true)) es → AllByRecursion (λ x. get m x.0 ≡ Some x.1) es
  all_held [] all = tt
  all_held (x ∷ es) all = (all.0.0, all_held es all.1)

  pick : (b : Bool) (x y : Option Entry) → (b ≡ false → y ≡ x) → cond b x y ≡ x
  pick true x y same = refl
  pick false x y same = same refl

  same_entries : (groups : List ℕ) (pages : Items) (n1 n2 : Entries) → ListsGroups g m groups → ListsPages m pages → GroupsBuilt groups no_entries n1 → PagesBuilt pages n1 n2 → (a : ℕ) → get n2 a ≡ get m a
  same_entries groups pages n1 n2 of_groups of_pages one two a = two.has a ∙ pick (member a (pages_of pages)) (get m a) (get n1 a) (by_entry (get m a) refl)
    where
      either_way : (b : Bool) (o : Option Entry) → cond b o o ≡ o
      either_way true o = refl
      either_way false o = refl

      listed : (e : Entry) → get m a ≡ Some e → page_mapped e ≡ true → member a (pages_of pages) ≡ true
      listed e is t = ap (λ (l : Items). member a (map (λ (x : ℕ × Entry). x.0) l)) (all_pass pages of_pages.each) ∙ of_pages.all a e is t

      by_entry : (o : Option Entry) → get m a ≡ o → member a (pages_of pages) ≡ false → get n1 a ≡ get m a
      by_entry None is f = one.has a ∙ ap₂ (λ x y. cond (member (a / g.p) groups) (only_mapped x) y) is (nothing a) ∙ either_way (member (a / g.p) groups) None ∙ sym is
      by_entry (Some e) is f = elim (cases_Bool e.block_mapped) [
        | inl t ↦ one.has a ∙ ap (λ b. cond b (only_mapped (get m a)) (get no_entries a)) (of_groups.all a e is t) ∙ ap only_mapped is ∙ ap (λ b. cond b (Some e) None) t ∙ sym is
        | inr f' ↦ absurd (both_ways (member a (pages_of pages)) f (listed e is (ap not f')))
      ]

  pub rebuilt : (records : List Record) → IsCheckpointOf g m records → after_all g records no_entries ≡ Some m
  rebuilt records listed =
      let one = groups_built listed.groups no_entries (record { held = λ a e is. absurd (none-some e (sym (nothing a) ∙ is)) }) (are_groups listed.groups listed.of_groups) in
      let two = pages_built listed.pages one.0 one.1.part (all_held listed.pages listed.of_pages.each) in
      ap (λ (l : List Record). after_all g l no_entries) listed.are
      ∙ all_then (map (set_group_of g m) listed.groups) (map set_page_of listed.pages) no_entries one.0 one.1.built
      ∙ ap (λ (l : Items). after_all g (map set_page_of l) one.0) (sym (all_pass listed.pages listed.of_pages.each)) ∙ two.1.built
      ∙ ap Some (same_map nat_cmp_total nat_cmp-IsAntisymmetric two.0 m (same_entries listed.groups listed.pages one.0 two.0 listed.of_groups listed.of_pages one.1 two.1))
