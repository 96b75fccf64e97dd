-- The roles and the log blocks of a map that was loaded.
use Rattle.std.proofs.Common.{◌≡◌, ◌≢◌, ◌⊎◌, ℕ, suc, ◌+◌, ◌-◌, ◌/◌, ◌<◌, ◌≤◌, ◌==◌, ◌||◌, nat_eq, Bool, true, false, not, List, [], ◌∷◌, ◌++◌, map, filter, length, length-append, Some, None, inl, inr, refl, sym, ◌∙◌, ap, subst, arith, eqb-true, if◌then◌else◌}
use Rattle.std.specs.List.{AllByRecursion, IsDistinct}
use Rattle.std.specs.FinMap.{get, entries}
use Rattle.std.proofs.lemmas.Bool.{cases_Bool, cases_eq, cases_lt, or_cases, or_right, false_from_ne_true}
use Rattle.std.proofs.lemmas.Nat.{div-mul-add}
use Rattle.std.proofs.lemmas.Map.Keys.{IsDistinct-push}
use Rattle.std.specs.Cmp.{nat_eq_equiv}
use Rattle.ft_base.specs.declared.geometry.Geometry.{Geometry}
use Rattle.ft_base.specs.declared.block.Place.{Place}
use Rattle.ft_base.specs.Layout.{first_pool}
use Rattle.cache_model.specs.declared.entry.Entry.{Entry}
use Rattle.cache_model.specs.Records.{Entries}
use Rattle.cache_model.specs.Entries.{InPool, IsMap, each_once, page_mapped}
use Rattle.cache_model.proofs.CountLemmas.{member, each_once-le, same_number, equals_turned}
use Rattle.block_map.specs.PageSets.{BlockPages}
use Rattle.mapping.specs.Numbers.{number_of, HasNumber, HasNone, AreNumbered}
use Rattle.mapping.specs.declared.bits.Choice.TheVariants.{Mapped}
use Rattle.mapping.specs.Bits.{chosen_of, IsDataBlock}
use Rattle.mapping.proofs.MarksLemmas.{member_from}
use Rattle.block_pool.specs.Pool.{PoolValue, IsInPool, role_of}
use Rattle.block_pool.specs.declared.pool.Role.{Role}
use Rattle.block_pool.specs.declared.pool.Role.TheVariants.{Free, Data, Log}
use Rattle.log_blocks.specs.Logs.{LogBlocksValue, IsInUse, is_in}
use Rattle.log_blocks.specs.Logs as list
use Rattle.log_blocks.proofs.LogsLemmas.{is_in-push, sound_new}
use Rattle.merge_engine.specs.declared.parts.Parts.{Parts}
use Rattle.merge_engine.specs.Agreement.{IsDataBlockOf, RolesAgree}
use Rattle.merge_engine.specs.Loaded.{AreAscending, AreInUse, IsLogBlockOf, IsUsedAs, RolesOf, RolesSoFar, role_for}
use Rattle.merge_engine.proofs.GroupLemmas.{group_block, no_block}

-- ---- the role that one entry says

-- two places of the pool with one number are in one block
number-block : (g : Geometry) (x y : Place) → InPool g x → InPool g y → number_of g x ≡ number_of g y → x.block ≡ y.block
number-block g x y here there same =
    let above = here.above in
    let above' = there.above in
    let one = div-mul-add (x.block - first_pool g) g.p x.page here.page in
    let other = div-mul-add (y.block - first_pool g) g.p y.page there.page in
    let blocks : x.block - first_pool g ≡ y.block - first_pool g = sym one ∙ ap (λ n. n / g.p) same ∙ other in
    omega arith

-- the block of a data block's entry is the data block of its group
pub data_role : (g : Geometry) (m : Entries) (lba block : ℕ) (own : BlockPages) → IsMap g m → IsDataBlock g m (lba / g.p) own → own.block ≡ block → (e : Entry) → get m lba ≡ Some e → e.place.block ≡ block → Data ≡ role_for e.block_mapped
data_role g m lba block own is_map is_data same e is here =
    let found = group_block g m (lba / g.p) own is_data in
    let of_group = is_map.own_block found.0 lba found.1 e found.2 is found.4 (here ∙ sym same ∙ sym found.5) in
    ap role_for (sym of_group.block_mapped)

pub log_role : (g : Geometry) (m : Entries) (lba block : ℕ) (own : BlockPages) → IsDataBlock g m (lba / g.p) own → (own.block ≡ block → ⊥) → (e : Entry) → get m lba ≡ Some e → e.place.block ≡ block → Log ≡ role_for e.block_mapped
log_role g m lba block own is_data other e is here = elim (cases_Bool e.block_mapped) [
  | inl t ↦ absurd (other (sym (is_data.stands lba e is t refl) ∙ here))
  | inr f ↦ ap role_for (sym f)
]

pub no_data_role : (g : Geometry) (m : Entries) (lba : ℕ) → chosen_of Mapped g m (lba / g.p) ≡ 0 → (e : Entry) → get m lba ≡ Some e → Log ≡ role_for e.block_mapped
no_data_role g m lba none e is = elim (cases_Bool e.block_mapped) [
  | inl t ↦ absurd (no_block g m (lba / g.p) e.place.block none (lba, e, is, refl, t, refl))
  | inr f ↦ ap role_for (sym f)
]

-- two entries in one block give it the same role
pub used_alike : (g : Geometry) (m : Entries) (a b : ℕ) (e f : Entry) → IsMap g m → get m a ≡ Some e → get m b ≡ Some f → e.place.block ≡ f.place.block → e.block_mapped ≡ f.block_mapped
used_alike g m a b e f is_map is is' same = elim (cases_Bool e.block_mapped) [
  | inl t ↦ t ∙ sym (is_map.own_block a b e f is is' t (sym same)).block_mapped
  | inr u ↦ elim (cases_Bool f.block_mapped) [
    | inl t ↦ (is_map.own_block b a f e is' is t same).block_mapped ∙ sym t
    | inr v ↦ u ∙ sym v
  ]
]

-- ---- the entries so far

pub roles_more : (g : Geometry) (m : Entries) (old new : PoolValue) (i lba : ℕ) (at : Place) (role : Role) → IsMap g m → old.geometry ≡ g → HasNumber g m i (lba, at)
    → ((e : Entry) → get m lba ≡ Some e → e.place.block ≡ at.block → role ≡ role_for e.block_mapped)
    → role_of new at.block ≡ role → ((b : ℕ) → IsInPool old.geometry b → b ≢ at.block → role_of new b ≡ role_of old b)
    → RolesSoFar g m old i → RolesSoFar g m new (i + 1)
roles_more g m old new i lba at role is_map own has says here others so_far =
    let f = has.owns in
    let block : f.0.place.block ≡ at.block = ap (λ (p : Place). p.block) f.2 in
    let role_is : role ≡ role_for f.0.block_mapped = says f.0 f.1 block in
    let other = λ (b : ℕ) (in_pool : IsInPool g b) (apart : b ≢ at.block). others b (subst (λ (h : Geometry). IsInPool h b) (sym own) in_pool) apart in
    record {
      seen = λ a e is_e low.
          let pool = is_map.in_pool a e is_e in
          elim (cases_eq e.place.block at.block) [
            | inl same ↦ ap (role_of new) same ∙ here ∙ role_is ∙ ap role_for (used_alike g m lba a f.0 e is_map f.1 is_e (block ∙ sym same))
            | inr apart ↦ other e.place.block (pool.above, pool.below) apart ∙ elim (cases_lt (number_of g e.place) i) [
              | inl less ↦ so_far.seen a e is_e less
              | inr high ↦
                  let same : number_of g e.place ≡ number_of g at = (let last : number_of g e.place ≡ i = omega arith in last) ∙ sym has.number in
                  absurd (apart (number-block g e.place at pool (subst (InPool g) f.2 (is_map.in_pool lba f.0 f.1)) same))
            ]
          ];
      rest = λ b in_pool. elim (cases_eq b at.block) [
        | inl same ↦ inr (lba, f.0, f.1, block ∙ sym same, ap (role_of new) same ∙ here ∙ role_is)
        | inr apart ↦ subst (λ (r : Role). (r ≡ Free) ⊎ IsUsedAs m b r) (sym (other b in_pool apart)) (so_far.rest b in_pool)
      ];
    }

-- no entry has the number
pub roles_same : (g : Geometry) (m : Entries) (pool : PoolValue) (i : ℕ) → HasNone g m i → RolesSoFar g m pool i → RolesSoFar g m pool (i + 1)
roles_same g m pool i none so_far = record {
  seen = λ a e is low. elim (cases_lt (number_of g e.place) i) [
    | inl less ↦ so_far.seen a e is less
    | inr high ↦ absurd (none a e is (omega arith))
  ];
  rest = so_far.rest;
}

data_only : (b : Bool) → Data ≡ role_for b → b ≡ true
data_only true is = refl
data_only false is = absurd (cc)

log_only : (b : Bool) → Log ≡ role_for b → b ≡ false
log_only true is = absurd (cc)
log_only false is = refl

-- all entries are done
pub roles_all : (g : Geometry) (m : Entries) (pool : PoolValue) (numbers i : ℕ) → AreNumbered g m numbers → numbers ≤ i → RolesSoFar g m pool i → RolesOf g m pool
roles_all g m pool numbers i all past so_far = record {
  data_blocks = λ b in_pool. (
    λ is. data_from b is (so_far.rest b in_pool),
    λ found. ap (role_of pool) (sym found.4) ∙ says found.0 found.1 found.2 ∙ ap role_for found.3,
  );
  log_blocks = λ b in_pool. (
    λ is. log_from b is (so_far.rest b in_pool),
    λ found. ap (role_of pool) (sym found.4) ∙ says found.0 found.1 found.2 ∙ ap role_for found.3,
  );
}
  where
    says : (a : ℕ) (e : Entry) → get m a ≡ Some e → role_of pool e.place.block ≡ role_for e.block_mapped
    says a e is = so_far.seen a e is (omega (arith, all a e is))

    data_from : (b : ℕ) → role_of pool b ≡ Data → (role_of pool b ≡ Free) ⊎ IsUsedAs m b (role_of pool b) → IsDataBlockOf m b
    data_from b is (inl free) = absurd (let both : Data ≡ Free = sym is ∙ free in cc)
    data_from b is (inr used) = (used.0, used.1, used.2, data_only used.1.block_mapped (sym is ∙ used.4), used.3)

    log_from : (b : ℕ) → role_of pool b ≡ Log → (role_of pool b ≡ Free) ⊎ IsUsedAs m b (role_of pool b) → IsLogBlockOf m b
    log_from b is (inl free) = absurd (let both : Log ≡ Free = sym is ∙ free in cc)
    log_from b is (inr used) = (used.0, used.1, used.2, log_only used.1.block_mapped (sym is ∙ used.4), used.3)

-- ---- the log blocks

-- exactly the log blocks below a number are in the list
pub record AdoptedBelow (g : Geometry) (pool : PoolValue) (logs : LogBlocksValue) (block : ℕ) : Type 0 where
  pub geometry : logs.geometry ≡ g
  pub sound : list.AreSoundLogs logs
  pub closed : logs.room ≡ 0
  pub used : (b : ℕ) → IsInUse logs b → IsInPool g b × (role_of pool b ≡ Log) × (b < block)
  pub each : (b : ℕ) → IsInPool g b → b < block → role_of pool b ≡ Log → IsInUse logs b

absent_from : (x : ℕ) (xs : List ℕ) → AllByRecursion (λ y. nat_eq x y ≡ false) xs → member x xs ≡ false
absent_from x [] all = refl
absent_from x (y ∷ ys) all = ap (λ b. b || member x ys) (equals_turned y x ∙ all.0) ∙ absent_from x ys all.1

-- distinct numbers are each counted
distinct_count : (xs : List ℕ) → IsDistinct nat_eq xs → length (each_once xs) ≡ length xs
unfolding IsDistinct
distinct_count [] distinct = refl
distinct_count (x ∷ xs) distinct = ap (λ b. length (if b then each_once xs else x ∷ each_once xs)) (absent_from x xs distinct.0) ∙ ap suc (distinct_count xs distinct.1)

in_from_member : (n : ℕ) (xs : List ℕ) → member n xs ≡ is_in n xs
in_from_member n [] = refl
in_from_member n (x ∷ xs) = ap (λ b. b || member n xs) (equals_turned x n) ∙ ap (λ b. (n == x) || b) (in_from_member n xs)

no_more_than : (xs ys : List ℕ) → IsDistinct nat_eq xs → ((n : ℕ) → is_in n xs ≡ true → member n ys ≡ true) → length xs ≤ length (each_once ys)
no_more_than xs ys distinct within = subst (λ n. n ≤ length (each_once ys)) (distinct_count xs distinct) (each_once-le xs ys (λ n there. within n (sym (in_from_member n xs) ∙ there)))

module _ (g : Geometry) (pool : PoolValue) (logs : LogBlocksValue) (block : ℕ) (so_far : AdoptedBelow g pool logs block) where
  pub not_adopted : IsInUse logs block → ⊥
  not_adopted used = let low = (so_far.used block used).2 in omega arith

  -- there are at most L log blocks, and this is one more
  pub few_adopted : (m : Entries) → IsMap g m → RolesOf g m pool → IsInPool g block → role_of pool block ≡ Log → length logs.used < logs.geometry.l
  few_adopted m is_map roles in_pool is_log =
      let counted = map (λ (x : ℕ × Entry). x.1.place.block) (filter (λ (x : ℕ × Entry). page_mapped x.1) (entries m)) in
      let most = no_more_than (logs.used ++ block ∷ []) counted (IsDistinct-push nat_eq_equiv logs.used block so_far.sound.distinct (false_from_ne_true (is_in block logs.used) not_adopted))
      (λ n there. elim (or_cases (is_in n logs.used) (nat_eq n block) (sym (is_in-push n block logs.used) ∙ there)) [
        | inl before ↦ let at = so_far.used n before in is_counted n at.0 at.1
        | inr here ↦ let same : n ≡ block = eqb-true n block here in is_counted n (subst (IsInPool g) (sym same) in_pool) (ap (role_of pool) same ∙ is_log)
      ]) in
      omega (arith, most, is_map.log_blocks, ap (λ (h : Geometry). h.l) so_far.geometry, length-append logs.used (block ∷ []))
    where
      is_counted : (n : ℕ) → IsInPool g n → role_of pool n ≡ Log → member n (map (λ (x : ℕ × Entry). x.1.place.block) (filter (λ (x : ℕ × Entry). page_mapped x.1) (entries m))) ≡ true
      is_counted n at is = let e = (roles.log_blocks n at).0 is in subst (λ k. member k (map (λ (x : ℕ × Entry). x.1.place.block) (filter (λ (x : ℕ × Entry). page_mapped x.1) (entries m))) ≡ true) e.4 (member_from (λ x. x.1.place.block) page_mapped m e.0 e.1 e.2 (ap not e.3))

-- the numbers still ascend when a number above all others is added at the end
pub ascending-push : (xs : List ℕ) (block : ℕ) → AreAscending xs → ((n : ℕ) → is_in n xs ≡ true → n < block) → AreAscending (xs ++ block ∷ [])
ascending-push [] block rise low = (tt, tt)
ascending-push (x ∷ xs) block rise low = (below-push xs rise.0, ascending-push xs block rise.1 (λ n there. low n (later n there)))
  where
    below-push : (ys : List ℕ) → AllByRecursion (λ k. x < k) ys → AllByRecursion (λ k. x < k) (ys ++ block ∷ [])
    below-push [] all = (low x (ap (λ b. b || is_in x xs) (same_number x)), tt)
    below-push (y ∷ ys) all = (all.0, below-push ys all.1)

    later : (n : ℕ) → is_in n xs ≡ true → is_in n (x ∷ xs) ≡ true
    later n there = or_right (n == x) (is_in n xs) there

pub adopted_none : (g : Geometry) (pool : PoolValue) (logs : LogBlocksValue) (block : ℕ) → logs ≡ record { geometry = g; used = []; open_block = None; room = 0 } → block ≡ first_pool g → AdoptedBelow g pool logs block
adopted_none g pool logs block none first = subst (λ (l : LogBlocksValue). AdoptedBelow g pool l block) (sym none) (record {
  geometry = refl;
  sound = sound_new g [] refl;
  closed = refl;
  used = λ b there. absurd (cc);
  each = λ b at low role. absurd (let above = at.0 in omega arith);
})

-- ---- both

pub roles_loaded : (parts : Parts) → IsMap parts.geometry parts.map.entries → RolesOf parts.geometry parts.map.entries parts.pool → AreInUse parts.geometry parts.pool parts.log_blocks → RolesAgree parts
roles_loaded parts is_map roles in_use = record {
  data_blocks = roles.data_blocks;
  log_blocks = λ b in_pool. (λ is. (in_use b).1 (in_pool, is), λ used. ((in_use b).0 used).1);
  in_pool = λ b used. ((in_use b).0 used).0;
  page_mapped = λ a e is unmapped.
      let pool = is_map.in_pool a e is in
      let in_pool : IsInPool parts.geometry e.place.block = (pool.above, pool.below) in
      (in_use e.place.block).1 (in_pool, (roles.log_blocks e.place.block in_pool).1 (a, e, is, unmapped, refl));
}
