-- How a change of one group changes the list of candidates.
use Rattle.std.proofs.Common.{◌≡◌, ℕ, zero, suc, ◌+◌, ◌-◌, ◌*◌, ◌/◌, ◌^◌, ◌<◌, ◌≤◌, ◌⊎◌, Bool, true, false, cond, List, length, get_or, set, replicate, Option, Some, None, IfSome, IfNone, nat_cmp, inl, inr, refl, sym, ◌∙◌, ap, subst, arith}
use Rattle.std.specs.FinMap.{get, get-empty}
use Rattle.std.proofs.lemmas.Bool.{cases_Bool, cases_eq, both_ways}
use Rattle.std.proofs.lemmas.Nat.{div-mul-add}
use Rattle.std.proofs.lemmas.List.{length-set, length-replicate, get_or-set_same, get_or-set_other}
use Rattle.ft_base.specs.declared.geometry.Geometry.{Geometry}
use Rattle.ft_base.specs.Layout.{first_pool, blocks}
use Rattle.cache_model.specs.declared.entry.Entry.{Entry}
use Rattle.cache_model.specs.Records.{Entries, no_entries}
use Rattle.cache_model.specs.Entries.{IsMap}
use Rattle.block_map.specs.PageSets.{BlockPages, page_count}
use Rattle.mapping.specs.declared.bits.Choice.TheVariants.{Mapped}
use Rattle.mapping.specs.Bits.{set_of, is_chosen, chosen_of, IsDataBlock}
use Rattle.mapping.specs.Candidates.{IsClean, IsCandidate, IsCandidateIn, AreCandidates, ChangesOne, StandsInPool, pages_held, with_count}
use Rattle.mapping.specs.Numbers.{IsGroupIn}
use Rattle.mapping.proofs.NumbersLemmas.{pool_end}
use Rattle.mapping.proofs.ChosenLemmas.{chosen_none, stands_some, pages_held-count, page_count-most}
use Rattle.mapping.proofs.SeekingLemmas.{none_some}

-- ---- the candidates of no entries

-- the count of an erase block that may not give way
abbrev nothing : ℕ
nothing = 65535

pub no_candidates : (g : Geometry) (counts : List ℕ) → counts ≡ replicate (g.c + g.l + 1) 65535 → AreCandidates g no_entries counts
no_candidates g counts is = record {
  long = ap length is ∙ length-replicate (g.c + g.l + 1) nothing;
  counted = λ i low. inl (ap (λ (l : List ℕ). get_or l i 0) is ∙ each (g.c + g.l + 1) i (subst (λ n. i < n) (ap length is ∙ length-replicate (g.c + g.l + 1) nothing) low));
  all = λ group block x y. none_some y.1 (sym (get-empty nat_cmp y.0) ∙ y.2);
}
  where
    each : (n i : ℕ) → i < n → ◌≡◌ {A = ℕ} (get_or (replicate n 65535) i 0) 65535
    each zero i low = absurd (omega arith)
    each (suc n) zero low = refl
    each (suc n) (suc i) low = each n i (omega arith)

-- ---- the erase block of a data block

-- the erase block is one of the pool
pub in_pool : (g : Geometry) (m : Entries) (group : ℕ) (b : BlockPages) → IsMap g m → IsDataBlock g m group b → StandsInPool g b
in_pool g m group b is_map own_block =
    let x = stands_some g m group b own_block in
    let here = own_block.stands x.0 x.1 x.2 x.4 x.3 in
    let pool = is_map.in_pool x.0 x.1 x.2 in
    (subst (λ n. first_pool g ≤ n) here pool.above, subst (λ n. n < blocks g) here pool.below)

pub any_in_pool : (g : Geometry) (m : Entries) (group : ℕ) (o : Option BlockPages) → IsMap g m → IfSome o (IsDataBlock g m group) → IfSome o (StandsInPool g)
any_in_pool g m group None is_map own_block = tt
any_in_pool g m group (Some b) is_map own_block = in_pool g m group b is_map own_block

pub place_below : (g : Geometry) (block : ℕ) → first_pool g ≤ block → block < blocks g → block - first_pool g < g.c + g.l + 1
place_below g block above below = omega (arith, pool_end g)

same_block : (first a b : ℕ) → first ≤ a → first ≤ b → a - first ≡ b - first → a ≡ b
same_block first a b low low' same = omega arith

-- no other group has this erase block
of_others : (g : Geometry) (m : Entries) (group : ℕ) (b : BlockPages) → IsMap g m → IsDataBlock g m group b → (k block : ℕ) → (k ≡ group → ⊥) → IsGroupIn g m block k → block - first_pool g ≡ b.block - first_pool g → ⊥
of_others g m group b is_map own_block k block apart x same =
    let y = stands_some g m group b own_block in
    let here : y.1.place.block ≡ b.block = own_block.stands y.0 y.1 y.2 y.4 y.3 in
    let low : first_pool g ≤ block = subst (λ n. first_pool g ≤ n) x.4 (is_map.in_pool x.0 x.1 x.2).above in
    let low' = (in_pool g m group b is_map own_block).0 in
    let own = is_map.own_block y.0 x.0 y.1 x.1 y.2 x.2 y.4 (x.4 ∙ same_block (first_pool g) block b.block low low' same ∙ sym here) in
    apart (sym x.5 ∙ own.same_group ∙ y.3)

-- the group has no other erase block
not_in : (g : Geometry) (m : Entries) (group : ℕ) (b : BlockPages) → IsDataBlock g m group b → (i : ℕ) → (i ≡ b.block - first_pool g → ⊥) → IsGroupIn g m (first_pool g + i) group → ⊥
not_in g m group b own_block i other x = other (place (first_pool g) i b.block (sym x.4 ∙ own_block.stands x.0 x.1 x.2 x.3 x.5))
  where
    place : (first i block : ℕ) → first + i ≡ block → i ≡ block - first
    place first i block is = omega arith

set_alike : (p q : ℕ → Bool) (n : ℕ) → ((i : ℕ) → i < n → p i ≡ q i) → set_of p n ≡ set_of q n
set_alike p q zero same = refl
set_alike p q (suc n) same = ap (λ b. set_of p n + cond b (2 ^ n) 0) (same n (omega arith)) ∙ ap (λ k. k + cond (q n) (2 ^ n) 0) (set_alike p q n (λ i low. same i (omega arith)))

-- ---- a change of one group

module _ (g : Geometry) (m n : Entries) (group : ℕ) (before now : Option BlockPages) (dirty : Bool) (change : ChangesOne g m n group before now dirty) where
  there : (a : ℕ) (e : Entry) (k : ℕ) → (k ≡ group → ⊥) → a / g.p ≡ k → get m a ≡ Some e → get n a ≡ Some e
  there a e k apart in_k is = change.others a (λ s. apart (sym in_k ∙ s)) ∙ is

  back : (a : ℕ) (e : Entry) (k : ℕ) → (k ≡ group → ⊥) → a / g.p ≡ k → get n a ≡ Some e → get m a ≡ Some e
  back a e k apart in_k is = sym (change.others a (λ s. apart (sym in_k ∙ s))) ∙ is

  same_pages : (k : ℕ) → (k ≡ group → ⊥) → pages_held g m k ≡ pages_held g n k
  same_pages k apart = ap (page_count g.p) (set_alike (λ i. is_chosen Mapped (get m (k * g.p + i))) (λ i. is_chosen Mapped (get n (k * g.p + i))) g.p (λ i low. ap (is_chosen Mapped) (sym (change.others (k * g.p + i) (λ s. apart (sym (div-mul-add k g.p i low) ∙ s))))))

  still : (k : ℕ) → (k ≡ group → ⊥) → IsCandidate g m k → IsCandidate g n k
  still k apart x = record {
    some = let y = x.some in (y.0, y.1, there y.0 y.1 k apart y.3 y.2, y.3, y.4);
    clean = λ a e is in_k. x.clean a e (back a e k apart in_k is) in_k;
  }

  was : (k : ℕ) → (k ≡ group → ⊥) → IsCandidate g n k → IsCandidate g m k
  was k apart x = record {
    some = let y = x.some in (y.0, y.1, back y.0 y.1 k apart y.3 y.2, y.3, y.4);
    clean = λ a e is in_k. x.clean a e (there a e k apart in_k is) in_k;
  }

  group_still : (k block : ℕ) → (k ≡ group → ⊥) → IsGroupIn g m block k → IsGroupIn g n block k
  group_still k block apart x = (x.0, x.1, there x.0 x.1 k apart x.5 x.2, x.3, x.4, x.5)

  group_was : (k block : ℕ) → (k ≡ group → ⊥) → IsGroupIn g n block k → IsGroupIn g m block k
  group_was k block apart x = (x.0, x.1, back x.0 x.1 k apart x.5 x.2, x.3, x.4, x.5)

  -- the list is right for all other groups, and says nothing of this one
  pub record AreOthers (counts : List ℕ) : Type 0 where
    pub long : length counts ≡ g.c + g.l + 1
    pub counted : (i : ℕ) → i < length counts → (get_or counts i 0 ≡ 65535) ⊎ IsCandidateIn g n (first_pool g + i) (get_or counts i 0)
    pub all : (k block : ℕ) → (k ≡ group → ⊥) → IsCandidate g n k → IsGroupIn g n block k → get_or counts (block - first_pool g) 0 ≡ pages_held g n k

  -- the count of another group's block
  kept : (old : List ℕ) → AreCandidates g m old → (i : ℕ) → i < length old → (IsGroupIn g m (first_pool g + i) group → ⊥) → (get_or old i 0 ≡ 65535) ⊎ IsCandidateIn g n (first_pool g + i) (get_or old i 0)
  kept old all i low free = elim (all.counted i low) [
    | inl none ↦ inl none
    | inr x ↦ elim (cases_eq x.group group) [
      | inl same ↦ absurd (free (subst (λ k. IsGroupIn g m (first_pool g + i) k) same x.in_block))
      | inr apart ↦ inr (record { group = x.group; candidate = still x.group apart x.candidate; in_block = group_still x.group (first_pool g + i) apart x.in_block; pages = x.pages ∙ same_pages x.group apart })
    ]
  ]

  held : (old : List ℕ) → AreCandidates g m old → (k block : ℕ) → (k ≡ group → ⊥) → IsCandidate g n k → IsGroupIn g n block k → get_or old (block - first_pool g) 0 ≡ pages_held g n k
  held old all k block apart x y = all.all k block (was k apart x) (group_was k block apart y) ∙ same_pages k apart

  pub forgotten : (old new : List ℕ) → AreCandidates g m old → new ≡ with_count g before 65535 old → AreOthers new
  forgotten old new all is = by_block before change.had_block change.had_none is
    where
      of_none : chosen_of Mapped g m group ≡ 0 → (block : ℕ) → IsGroupIn g m block group → ⊥
      of_none empty block x = both_ways x.1.block_mapped (chosen_none g m group Mapped empty x.0 x.1 x.2 x.5) x.3

      by_block : (o : Option BlockPages) → IfSome o (IsDataBlock g m group) → IfNone o (chosen_of Mapped g m group ≡ 0) → new ≡ with_count g o 65535 old → AreOthers new
      by_block None some none is = subst (λ (l : List ℕ). AreOthers l) (sym is) (record {
        long = all.long;
        counted = λ i low. kept old all i low (of_none none (first_pool g + i));
        all = held old all;
      })
      by_block (Some b) some none is =
          let pool = in_pool g m group b change.old_map some in
          let low_b = place_below g b.block pool.0 pool.1 in
          subst (λ (l : List ℕ). AreOthers l) (sym is) (record {
            long = length-set old (b.block - first_pool g) 65535 ∙ all.long;
            counted = λ i low. elim (cases_eq i (b.block - first_pool g)) [
              | inl same ↦ inl (ap (λ j. get_or (set old (b.block - first_pool g) 65535) j 0) same ∙ get_or-set_same old (b.block - first_pool g) 65535 0 (omega (arith, all.long, low_b)))
              | inr other ↦
                  let stays : get_or (set old (b.block - first_pool g) 65535) i 0 ≡ get_or old i 0 = get_or-set_other old (b.block - first_pool g) i 65535 0 other in
                  subst (λ x. (x ≡ 65535) ⊎ IsCandidateIn g n (first_pool g + i) x) (sym stays) (kept old all i (subst (λ k. i < k) (length-set old (b.block - first_pool g) 65535) low) (not_in g m group b some i other))
            ];
            all = λ k block apart x y. get_or-set_other old (b.block - first_pool g) (block - first_pool g) 65535 0 (of_others g m group b change.old_map some k block apart (group_was k block apart y)) ∙ held old all k block apart x y;
          })

  -- if the group may not give way
  pub noted_none : (counts : List ℕ) → AreOthers counts → (IsCandidate g n group → ⊥) → AreCandidates g n counts
  noted_none counts others never = record {
    long = others.long;
    counted = others.counted;
    all = λ k block x y. elim (cases_eq k group) [
      | inl same ↦ absurd (never (subst (λ j. IsCandidate g n j) same x))
      | inr apart ↦ others.all k block apart x y
    ];
  }

  pub no_dirty : dirty ≡ true → IsCandidate g n group → ⊥
  no_dirty t x = let y = change.is_dirty.0 t in both_ways y.2.0.dirty (x.clean y.0 y.2.0 y.2.1 y.1) y.2.2

  pub no_block : now ≡ None → IsCandidate g n group → ⊥
  no_block none x =
      let empty : chosen_of Mapped g n group ≡ 0 = subst (λ o. IfNone o (chosen_of Mapped g n group ≡ 0)) none change.has_none in
      let y = x.some in
      both_ways y.1.block_mapped (chosen_none g n group Mapped empty y.0 y.1 y.2 y.3) y.4

  -- if the group may give way
  is_clean : dirty ≡ false → IsClean g n group
  is_clean f a e is in_group = elim (cases_Bool e.dirty) [
    | inl t ↦ absurd (both_ways dirty f (change.is_dirty.1 (a, in_group, (e, is, t))))
    | inr f' ↦ f'
  ]

  pub block_now : (b : BlockPages) → now ≡ Some b → IsDataBlock g n group b
  block_now b is = subst (λ o. IfSome o (IsDataBlock g n group)) is change.has_block

  pub noted_some : (b : BlockPages) (old new : List ℕ) (count : ℕ) → now ≡ Some b → dirty ≡ false → AreOthers old → count ≡ page_count 128 b.present → new ≡ set old (b.block - first_pool g) count → AreCandidates g n new
  noted_some b old new count is clean others counted put =
      let own_block = block_now b is in
      let x = stands_some g n group b own_block in
      let here : x.1.place.block ≡ b.block = own_block.stands x.0 x.1 x.2 x.4 x.3 in
      let pool = in_pool g n group b change.new_map own_block in
      let low_b = place_below g b.block pool.0 pool.1 in
      let pages : count ≡ pages_held g n group = pages_held-count g n group b.present count own_block.present counted in
      let at : get_or (set old (b.block - first_pool g) count) (b.block - first_pool g) 0 ≡ count = get_or-set_same old (b.block - first_pool g) count 0 (omega (arith, others.long, low_b)) in
      let whole : first_pool g + (b.block - first_pool g) ≡ b.block = back_again (first_pool g) b.block pool.0 in
      let mine : IsCandidateIn g n (first_pool g + (b.block - first_pool g)) count = record {
        group = group;
        candidate = record { some = (x.0, x.1, x.2, x.3, x.4); clean = is_clean clean };
        in_block = (x.0, x.1, x.2, x.4, here ∙ sym whole, x.3);
        pages = pages;
      } in
      subst (λ (l : List ℕ). AreCandidates g n l) (sym put) (record {
        long = length-set old (b.block - first_pool g) count ∙ others.long;
        counted = λ i low. elim (cases_eq i (b.block - first_pool g)) [
          | inl same ↦ inr (subst (λ j. IsCandidateIn g n (first_pool g + j) (get_or (set old (b.block - first_pool g) count) j 0)) (sym same) (subst (λ c. IsCandidateIn g n (first_pool g + (b.block - first_pool g)) c) (sym at) mine))
          | inr other ↦
              let stays : get_or (set old (b.block - first_pool g) count) i 0 ≡ get_or old i 0 = get_or-set_other old (b.block - first_pool g) i count 0 other in
              subst (λ c. (c ≡ 65535) ⊎ IsCandidateIn g n (first_pool g + i) c) (sym stays) (others.counted i (subst (λ k. i < k) (length-set old (b.block - first_pool g) count) low))
        ];
        all = λ k block y z. elim (cases_eq k group) [
          | inl same ↦
              let z' : IsGroupIn g n block group = subst (λ j. IsGroupIn g n block j) same z in
              let is' : block ≡ b.block = sym z'.4 ∙ own_block.stands z'.0 z'.1 z'.2 z'.3 z'.5 in
              ap (λ j. get_or (set old (b.block - first_pool g) count) (j - first_pool g) 0) is' ∙ at ∙ pages ∙ ap (pages_held g n) (sym same)
          | inr apart ↦ get_or-set_other old (b.block - first_pool g) (block - first_pool g) count 0 (of_others g n group b change.new_map own_block k block apart z) ∙ others.all k block apart y z
        ];
      })
    where
      back_again : (first block : ℕ) → first ≤ block → first + (block - first) ≡ block
      back_again first block low = omega arith

pub count_small : (set count : ℕ) → count ≡ page_count 128 set → count < 2 ^ 16
count_small set count is = let most = page_count-most 128 set in omega (arith, is, most)
