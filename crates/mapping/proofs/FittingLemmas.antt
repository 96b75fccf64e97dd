-- When a change of a page, or of a group, fits.
use Rattle.std.proofs.Common.{◌≡◌, ℕ, ◌+◌, ◌*◌, ◌/◌, ◌%◌, ◌<◌, ◌≤◌, Bool, true, false, cond, not, length, Some, refl, sym, ◌∙◌, ap, subst, arith, inl, inr, ◌⊎◌, eq-eqb, ne_eqb}
use Rattle.std.specs.Bool.{then_some}
use Rattle.std.specs.FinMap.{get}
use Rattle.std.proofs.lemmas.Bool.{both_ways, cases_eq}
use Rattle.std.proofs.lemmas.Nat.{div-mul-add, mod-mul-add, div-add-mod', mod_below}
use Rattle.std.proofs.lemmas.Option.{same_Some}
use Rattle.ft_base.specs.declared.geometry.Geometry.{Geometry}
use Rattle.ft_base.specs.declared.block.Place.{Place}
use Rattle.ft_base.specs.declared.record.Record.TheVariants.{SetPage, SetGroup}
use Rattle.ft_base.specs.Layout.{first_pool, blocks}
use Rattle.cache_model.specs.declared.entry.Entry.{Entry}
use Rattle.cache_model.specs.Records.{Entries, after, in_log_block, page_of_group, has_bit}
use Rattle.cache_model.specs.Entries.{groups_with, blocks_with, page_mapped, InPool, IsMap, IsInReach, Fits}
use Rattle.cache_model.proofs.StepLemmas.{get-after}
use Rattle.cache_model.proofs.CountLemmas.{count_le, same_number}

-- ---- a page of a log block

module _ (g : Geometry) (m : Entries) (is_map : IsMap g m) (lba : ℕ) (at : Place) (dirty : Bool) where
  abbrev new_map : Entries
  new_map = after g (SetPage lba at dirty) m

  -- the page may come
  pub record PageMayCome : Type 0 where
    pub low : lba < g.size
    pub pool : InPool g at
    pub apart : (b : ℕ) (f : Entry) → get m b ≡ Some f → (b ≡ lba → ⊥) → (f.place ≡ at → ⊥) × (f.block_mapped ≡ true → f.place.block ≡ at.block → ⊥)
    pub log_blocks : length (blocks_with page_mapped (after g (SetPage lba at dirty) m)) ≤ g.l
    pub dirty_groups : length (groups_with g (λ e. e.dirty) (after g (SetPage lba at dirty) m)) ≤ g.c

  -- an entry of the new map is the new one, or one of another address
  pub page_cases : (a : ℕ) (e : Entry) → get new_map a ≡ Some e → ((a ≡ lba) × (e ≡ in_log_block at dirty)) ⊎ ((a ≡ lba → ⊥) × (get m a ≡ Some e))
  page_cases a e is = elim (cases_eq a lba) [
    | inl same ↦
        let value : Some (in_log_block at dirty) ≡ Some e = sym (ap (λ b. cond b (Some (in_log_block at dirty)) (get m a)) (eq-eqb a lba same)) ∙ sym (get-after g (SetPage lba at dirty) m a) ∙ is in
        inl (same, sym (same_Some (in_log_block at dirty) e value))
    | inr other ↦ inr (other, sym (ap (λ b. cond b (Some (in_log_block at dirty)) (get m a)) (ne_eqb a lba other)) ∙ sym (get-after g (SetPage lba at dirty) m a) ∙ is)
  ]

  pub page_here : get new_map lba ≡ Some (in_log_block at dirty)
  page_here = get-after g (SetPage lba at dirty) m lba ∙ ap (λ b. cond b (Some (in_log_block at dirty)) (get m lba)) (same_number lba)

  pub page_other : (a : ℕ) → (a ≡ lba → ⊥) → get new_map a ≡ get m a
  page_other a other = get-after g (SetPage lba at dirty) m a ∙ ap (λ b. cond b (Some (in_log_block at dirty)) (get m a)) (ne_eqb a lba other)

  not_mapped : {A : Type 0} (e : Entry) → e ≡ in_log_block at dirty → e.block_mapped ≡ true → A
  not_mapped e is t = absurd (let f : e.block_mapped ≡ false = ap (λ (x : Entry). x.block_mapped) is in both_ways e.block_mapped f t)

  pub page_fits : PageMayCome → Fits g (SetPage lba at dirty) m
  page_fits may = record {
    in_reach = may.low;
    leaves = record {
      within = λ a e is. elim (page_cases a e is) [
        | inl p ↦ subst (λ n. n < g.size) (sym p.0) may.low
        | inr p ↦ is_map.within a e p.1
      ];
      in_pool = λ a e is. elim (page_cases a e is) [
        | inl p ↦ subst (λ (x : Entry). InPool g x.place) (sym p.1) may.pool
        | inr p ↦ is_map.in_pool a e p.1
      ];
      apart = λ a b e f is is' same. elim (page_cases a e is) [
        | inl p ↦ elim (page_cases b f is') [
          | inl q ↦ p.0 ∙ sym q.0
          | inr q ↦ absurd ((may.apart b f q.1 q.0).0 (sym same ∙ ap (λ (x : Entry). x.place) p.1))
        ]
        | inr p ↦ elim (page_cases b f is') [
          | inl q ↦ absurd ((may.apart a e p.1 p.0).0 (same ∙ ap (λ (x : Entry). x.place) q.1))
          | inr q ↦ is_map.apart a b e f p.1 q.1 same
        ]
      ];
      own_block = λ a b e f is is' mapped same. elim (page_cases a e is) [
        | inl p ↦ not_mapped e p.1 mapped
        | inr p ↦ elim (page_cases b f is') [
          | inl q ↦ absurd ((may.apart a e p.1 p.0).1 mapped (sym same ∙ ap (λ (x : Entry). x.place.block) q.1))
          | inr q ↦ is_map.own_block a b e f p.1 q.1 mapped same
        ]
      ];
      one_block = λ a b e f is is' mapped mapped' same. elim (page_cases a e is) [
        | inl p ↦ not_mapped e p.1 mapped
        | inr p ↦ elim (page_cases b f is') [
          | inl q ↦ not_mapped f q.1 mapped'
          | inr q ↦ is_map.one_block a b e f p.1 q.1 mapped mapped' same
        ]
      ];
      data_blocks =
          let fewer = count_le (λ x. x.0 / g.p) (λ e. e.block_mapped) (λ x. x.0 / g.p) (λ e. e.block_mapped) new_map m (λ a e is t. elim (page_cases a e is) [
            | inl p ↦ not_mapped e p.1 t
            | inr p ↦ (e, p.1, t, refl)
          ]) in
          let most = is_map.data_blocks in
          omega (arith, fewer, most);
      log_blocks = may.log_blocks;
      dirty_groups = may.dirty_groups;
    };
  }

  pub fits_page : Fits g (SetPage lba at dirty) m → PageMayCome
  fits_page fits =
      let new = fits.leaves in
      record {
        low = fits.in_reach;
        pool = new.in_pool lba (in_log_block at dirty) page_here;
        apart = λ b f is other. (
          λ same. other (new.apart b lba f (in_log_block at dirty) (page_other b other ∙ is) page_here same),
          λ mapped same. both_ways false refl (new.own_block b lba f (in_log_block at dirty) (page_other b other ∙ is) page_here mapped (sym same)).block_mapped,
        );
        log_blocks = new.log_blocks;
        dirty_groups = new.dirty_groups;
      }

-- ---- a data block

module _ (g : Geometry) (m : Entries) (is_map : IsMap g m) (group block present dirty : ℕ) where
  abbrev group_map : Entries
  group_map = after g (SetGroup group block present dirty) m

  pub record GroupMayCome : Type 0 where
    pub reach : IsInReach g (SetGroup group block present dirty)
    pub sizes : (i : ℕ) → i < g.p → has_bit present i ≡ true → group * g.p + i < g.size
    pub pool : (i : ℕ) → i < g.p → has_bit present i ≡ true → (first_pool g ≤ block) × (block < blocks g)
    pub foreign : (i : ℕ) → i < g.p → has_bit present i ≡ true → (a : ℕ) (e : Entry) → get m a ≡ Some e → (a / g.p ≡ group → ⊥) → e.place.block ≡ block → ⊥
    pub data_blocks : length (groups_with g (λ e. e.block_mapped) (after g (SetGroup group block present dirty) m)) ≤ g.c
    pub dirty_groups : length (groups_with g (λ e. e.dirty) (after g (SetGroup group block present dirty) m)) ≤ g.c

  abbrev pub page_entry : ℕ → Entry
  page_entry i = record { place = record { block = block; page = i }; dirty = has_bit dirty i; block_mapped = true }

  some_pages : 0 < g.p
  some_pages = omega (arith, g.in_range.p_low)

  pub group_cases : (a : ℕ) (e : Entry) → get group_map a ≡ Some e → ((a / g.p ≡ group) × (has_bit present (a % g.p) ≡ true) × (e ≡ page_entry (a % g.p))) ⊎ ((a / g.p ≡ group → ⊥) × (get m a ≡ Some e))
  group_cases a e is = elim (cases_eq (a / g.p) group) [
    | inl same ↦
        let value : page_of_group block present dirty (a % g.p) ≡ Some e = sym (ap (λ b. cond b (page_of_group block present dirty (a % g.p)) (get m a)) (eq-eqb (a / g.p) group same)) ∙ sym (get-after g (SetGroup group block present dirty) m a) ∙ is in
        let p = of_page (has_bit present (a % g.p)) (page_entry (a % g.p)) e value in
        inl (same, p.0, p.1)
    | inr other ↦ inr (other, sym (ap (λ b. cond b (page_of_group block present dirty (a % g.p)) (get m a)) (ne_eqb (a / g.p) group other)) ∙ sym (get-after g (SetGroup group block present dirty) m a) ∙ is)
  ]
    where
      of_page : (b : Bool) (x y : Entry) → then_some b x ≡ Some y → (b ≡ true) × (y ≡ x)
      of_page true x y s = (refl, cc)
      of_page false x y s = absurd (cc)

  pub group_here : (i : ℕ) → i < g.p → has_bit present i ≡ true → get group_map (group * g.p + i) ≡ Some (page_entry i)
  group_here i low there =
      let a = group * g.p + i in
      let quotient = div-mul-add group g.p i low in
      let rest = mod-mul-add group g.p i low in
      get-after g (SetGroup group block present dirty) m a
      ∙ ap (λ b. cond b (page_of_group block present dirty (a % g.p)) (get m a)) (eq-eqb (a / g.p) group quotient)
      ∙ ap (page_of_group block present dirty) rest ∙ ap (λ b. then_some b (page_entry i)) there

  pub group_other : (a : ℕ) → (a / g.p ≡ group → ⊥) → get group_map a ≡ get m a
  group_other a other = get-after g (SetGroup group block present dirty) m a ∙ ap (λ b. cond b (page_of_group block present dirty (a % g.p)) (get m a)) (ne_eqb (a / g.p) group other)

  whole : (a : ℕ) → a / g.p ≡ group → a ≡ group * g.p + a % g.p
  whole a same = sym (div-add-mod' a g.p) ∙ ap (λ n. n * g.p + a % g.p) same

  pub group_fits : GroupMayCome → Fits g (SetGroup group block present dirty) m
  group_fits may = record {
    in_reach = may.reach;
    leaves = record {
      within = λ a e is. elim (group_cases a e is) [
        | inl p ↦ subst (λ n. n < g.size) (sym (whole a p.0)) (may.sizes (a % g.p) (mod_below a g.p some_pages) p.1)
        | inr p ↦ is_map.within a e p.1
      ];
      in_pool = λ a e is. elim (group_cases a e is) [
        | inl p ↦
            let q = may.pool (a % g.p) (mod_below a g.p some_pages) p.1 in
            subst (λ (x : Entry). InPool g x.place) (sym p.2) (record { above = q.0; below = q.1; page = mod_below a g.p some_pages })
        | inr p ↦ is_map.in_pool a e p.1
      ];
      apart = λ a b e f is is' same. elim (group_cases a e is) [
        | inl p ↦ elim (group_cases b f is') [
          | inl q ↦
              let pages : a % g.p ≡ b % g.p = ap (λ (x : Entry). x.place.page) (sym p.2) ∙ ap (λ (x : Place). x.page) same ∙ ap (λ (x : Entry). x.place.page) q.2 in
              whole a p.0 ∙ ap (λ n. group * g.p + n) pages ∙ sym (whole b q.0)
          | inr q ↦ absurd (may.foreign (a % g.p) (mod_below a g.p some_pages) p.1 b f q.1 q.0 (ap (λ (x : Place). x.block) (sym same) ∙ ap (λ (x : Entry). x.place.block) p.2))
        ]
        | inr p ↦ elim (group_cases b f is') [
          | inl q ↦ absurd (may.foreign (b % g.p) (mod_below b g.p some_pages) q.1 a e p.1 p.0 (ap (λ (x : Place). x.block) same ∙ ap (λ (x : Entry). x.place.block) q.2))
          | inr q ↦ is_map.apart a b e f p.1 q.1 same
        ]
      ];
      own_block = λ a b e f is is' mapped same. elim (group_cases a e is) [
        | inl p ↦ elim (group_cases b f is') [
          | inl q ↦ record { block_mapped = ap (λ (x : Entry). x.block_mapped) q.2; same_group = q.0 ∙ sym p.0; page = ap (λ (x : Entry). x.place.page) q.2 }
          | inr q ↦ absurd (may.foreign (a % g.p) (mod_below a g.p some_pages) p.1 b f q.1 q.0 (same ∙ ap (λ (x : Entry). x.place.block) p.2))
        ]
        | inr p ↦ elim (group_cases b f is') [
          | inl q ↦ absurd (may.foreign (b % g.p) (mod_below b g.p some_pages) q.1 a e p.1 p.0 (sym same ∙ ap (λ (x : Entry). x.place.block) q.2))
          | inr q ↦ is_map.own_block a b e f p.1 q.1 mapped same
        ]
      ];
      one_block = λ a b e f is is' mapped mapped' same. elim (group_cases a e is) [
        | inl p ↦ elim (group_cases b f is') [
          | inl q ↦ ap (λ (x : Entry). x.place.block) q.2 ∙ sym (ap (λ (x : Entry). x.place.block) p.2)
          | inr q ↦ absurd (q.0 (same ∙ p.0))
        ]
        | inr p ↦ elim (group_cases b f is') [
          | inl q ↦ absurd (p.0 (sym same ∙ q.0))
          | inr q ↦ is_map.one_block a b e f p.1 q.1 mapped mapped' same
        ]
      ];
      data_blocks = may.data_blocks;
      log_blocks =
          let fewer = count_le (λ (x : ℕ × Entry). x.1.place.block) page_mapped (λ (x : ℕ × Entry). x.1.place.block) page_mapped group_map m (λ a e is t. elim (group_cases a e is) [
            | inl p ↦ absurd (let f : page_mapped e ≡ false = ap (λ (x : Entry). not x.block_mapped) p.2 in both_ways (page_mapped e) f t)
            | inr p ↦ (e, p.1, t, refl)
          ]) in
          let most = is_map.log_blocks in
          omega (arith, fewer, most);
      dirty_groups = may.dirty_groups;
    };
  }

  pub fits_group : Fits g (SetGroup group block present dirty) m → GroupMayCome
  fits_group fits =
      let new = fits.leaves in
      record {
        reach = fits.in_reach;
        sizes = λ i low there. new.within (group * g.p + i) (page_entry i) (group_here i low there);
        pool = λ i low there. let q = new.in_pool (group * g.p + i) (page_entry i) (group_here i low there) in (q.above, q.below);
        foreign = λ i low there a e is other same.
            let own = new.own_block (group * g.p + i) a (page_entry i) e (group_here i low there) (group_other a other ∙ is) refl same in
            other (own.same_group ∙ div-mul-add group g.p i low);
        data_blocks = new.data_blocks;
        dirty_groups = new.dirty_groups;
      }
