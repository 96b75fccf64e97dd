-- One erase block of the pool is free: there are C + L + 1 of them, at most C data blocks, and at most L log blocks.
use Rattle.std.proofs.Common.{◌≡◌, ℕ, zero, suc, ◌+◌, ◌/◌, ◌<◌, ◌≤◌, ◌==◌, ◌||◌, Bool, true, false, cond, List, [], ◌∷◌, ◌++◌, length, Some, refl, sym, ◌∙◌, ap, subst, arith, inl, inr, ◌⊎◌, eqb-true, ne_eqb}
use Rattle.std.specs.FinMap.{get, entries}
use Rattle.std.proofs.lemmas.Bool.{cases_Bool, cases_eq, or_cases, or_left, or_right}
use Rattle.std.proofs.Math.Bool.{or_assoc}
use Rattle.ft_base.specs.declared.geometry.Geometry.{Geometry}
use Rattle.ft_base.specs.Layout.{first_pool, blocks}
use Rattle.cache_model.specs.declared.entry.Entry.{Entry}
use Rattle.cache_model.specs.Records.{Entries}
use Rattle.cache_model.specs.Entries.{IsMap, each_once}
use Rattle.cache_model.proofs.CountLemmas.{member, numbers, others, equals_turned, same_number, member_others, length_others, each_once-le, member_of, all_members}
use Rattle.cache_model.proofs.MapLemmas.{all_entries, by_get}
use Rattle.log_blocks.specs.Logs as list
use Rattle.block_pool.specs.Pool.{PoolValue, IsFree, IsInPool, role_of}
use Rattle.block_pool.specs.declared.pool.Role.{Role}
use Rattle.block_pool.specs.declared.pool.Role.TheVariants.{Free, Data, Log}
use Rattle.merge_engine.specs.declared.parts.Parts.{Parts}
use Rattle.merge_engine.specs.Agreement.{AreOfOne, IsDataBlockOf, RolesAgree}

-- ---- lists of numbers

-- if each number of a list goes with one of another list, and no two with the same, the list has no more of them
related-le : (R : ℕ → ℕ → Type 0) → ((k n n' : ℕ) → R k n → R k n' → n ≡ n') → (xs ys : List ℕ) → ((n : ℕ) → member n xs ≡ true → (k : ℕ) × (member k ys ≡ true) × R k n) → length (each_once xs) ≤ length (each_once ys)
related-le R one [] ys within = omega arith
related-le R one (x ∷ xs) ys within = elim (cases_Bool (member x xs)) [
  | inl m ↦ subst (λ b. length (cond b (each_once xs) (x ∷ each_once xs)) ≤ length (each_once ys)) (sym m) (related-le R one xs ys (λ n t. within n (or_right (x == n) (member n xs) t)))
  | inr m ↦
      let there = within x (or_left (x == x) (member x xs) (same_number x)) in
      let rest = related-le R one xs (others there.0 ys) (moved there.0 there.2 m) in
      subst (λ b. length (cond b (each_once xs) (x ∷ each_once xs)) ≤ length (each_once ys)) (sym m) (omega (arith, length_others there.0 ys there.1, rest))
]
  where
    apart : (n k k' : ℕ) → member x xs ≡ false → member n xs ≡ true → R k x → R k' n → (k' == k) ≡ false
    apart n k k' m t r r' = ne_eqb k' k (λ e. let same : n ≡ x = one k n x (subst (λ j. R j n) e r') r in let no : member n xs ≡ false = ap (λ j. member j xs) same ∙ m in cc)

    -- each other number goes with another one
    moved : (k : ℕ) → R k x → member x xs ≡ false → (n : ℕ) → member n xs ≡ true → (k' : ℕ) × (member k' (others k ys) ≡ true) × R k' n
    moved k r m n t = let at = within n (or_right (x == n) (member n xs) t) in (at.0, member_others k at.0 ys (apart n k at.0 m t r at.2) ∙ at.1, at.2)

member-append : (n : ℕ) (xs ys : List ℕ) → member n (xs ++ ys) ≡ (member n xs || member n ys)
member-append n [] ys = refl
member-append n (x ∷ xs) ys = ap (λ b. (x == n) || b) (member-append n xs ys) ∙ sym (or_assoc (x == n) (member n xs) (member n ys))

each_once-append : (xs ys : List ℕ) → length (each_once (xs ++ ys)) ≤ length (each_once xs) + length ys
each_once-append [] [] = omega arith
each_once-append [] (y ∷ ys) = by (member y ys) (each_once-append [] ys)
  where
    by : (b : Bool) → length (each_once ys) ≤ 0 + length ys → length (cond b (each_once ys) (y ∷ each_once ys)) ≤ 0 + suc (length ys)
    by true rest = omega arith
    by false rest = omega arith
each_once-append (x ∷ xs) ys = by (member x xs) (member x (xs ++ ys)) (member-append x xs ys) (each_once-append xs ys)
  where
    by : (b c : Bool) → c ≡ (b || member x ys) → length (each_once (xs ++ ys)) ≤ length (each_once xs) + length ys → length (cond c (each_once (xs ++ ys)) (x ∷ each_once (xs ++ ys))) ≤ length (cond b (each_once xs) (x ∷ each_once xs)) + length ys
    by true true is rest = omega arith
    by true false is rest = absurd (cc)
    by false true is rest = omega arith
    by false false is rest = omega arith

-- a log block in use is a member of the list
pub member-used : (n : ℕ) (xs : List ℕ) → list.is_in n xs ≡ true → member n xs ≡ true
member-used n [] t = absurd (cc)
member-used n (x ∷ xs) t = elim (or_cases (n == x) (list.is_in n xs) t) [
  | inl here ↦ or_left (x == n) (member n xs) (equals_turned x n ∙ here)
  | inr later ↦ or_right (x == n) (member n xs) (member-used n xs later)
]

-- this many numbers from one on
numbers_from : ℕ → ℕ → List ℕ
numbers_from from zero = []
numbers_from from (suc n) = from ∷ numbers_from (suc from) n

member-numbers_from : (from n k : ℕ) → member k (numbers_from from n) ≡ true → (from ≤ k) × (k < from + n)
unfolding numbers_from
member-numbers_from from zero k there = absurd (cc)
member-numbers_from from (suc n) k there = elim (or_cases (from == k) (member k (numbers_from (suc from) n)) there) [
  | inl here ↦ let same : from ≡ k = eqb-true _ _ here in (omega arith, omega arith)
  | inr later ↦ let rest = member-numbers_from (suc from) n k later in let low = rest.0 in let high = rest.1 in (omega arith, omega arith)
]

length-numbers_from : (from n : ℕ) → length (each_once (numbers_from from n)) ≡ n
unfolding numbers_from
length-numbers_from from zero = refl
length-numbers_from from (suc n) = elim (cases_Bool (member from (numbers_from (suc from) n))) [
  | inl m ↦ let rest = member-numbers_from (suc from) n from m in let low = rest.0 in absurd (omega arith)
  | inr m ↦ ap (λ b. length (cond b (each_once (numbers_from (suc from) n)) (from ∷ each_once (numbers_from (suc from) n)))) m ∙ ap suc (length-numbers_from (suc from) n)
]

-- ---- data blocks

-- the group has a page in the data block
record IsBlockOfGroup (g : Geometry) (m : Entries) (group block : ℕ) : Type 0 where
  address : ℕ
  entry : Entry
  there : get m address ≡ Some entry
  mapped : entry.block_mapped ≡ true
  in_group : address / g.p ≡ group
  in_block : entry.place.block ≡ block

module _ (g : Geometry) (m : Entries) (is_map : IsMap g m) where
  data_numbers : List ℕ
  data_numbers = numbers (λ (x : ℕ × Entry). x.1.place.block) (λ (e : Entry). e.block_mapped) (entries m)

  one_block : (group n n' : ℕ) → IsBlockOfGroup g m group n → IsBlockOfGroup g m group n' → n ≡ n'
  one_block group n n' at at' =
      sym at.in_block ∙ is_map.one_block at'.address at.address at'.entry at.entry at'.there at.there at'.mapped at.mapped (at.in_group ∙ sym at'.in_group) ∙ at'.in_block

  group_numbers : List ℕ
  group_numbers = numbers (λ (x : ℕ × Entry). x.0 / g.p) (λ (e : Entry). e.block_mapped) (entries m)

  group_number : (a : ℕ) (e : Entry) → get m a ≡ Some e → e.block_mapped ≡ true → member (a / g.p) group_numbers ≡ true
  unfolding group_numbers
  group_number = by_get m (λ a e. e.block_mapped ≡ true → member (a / g.p) (numbers (λ (x : ℕ × Entry). x.0 / g.p) (λ (e : Entry). e.block_mapped) (entries m)) ≡ true) (all_members (λ (x : ℕ × Entry). x.0 / g.p) (λ (e : Entry). e.block_mapped) (entries m))

  data_number : (b : ℕ) → IsDataBlockOf m b → member b data_numbers ≡ true
  unfolding data_numbers
  data_number b at =
      subst (λ n. member n (numbers (λ (x : ℕ × Entry). x.1.place.block) (λ (e : Entry). e.block_mapped) (entries m)) ≡ true) at.4
      (by_get m (λ a e. e.block_mapped ≡ true → member e.place.block (numbers (λ (x : ℕ × Entry). x.1.place.block) (λ (e : Entry). e.block_mapped) (entries m)) ≡ true) (all_members (λ (x : ℕ × Entry). x.1.place.block) (λ (e : Entry). e.block_mapped) (entries m)) at.0 at.1 at.2 at.3)

  -- each data block is the data block of a group
  group_of : (n : ℕ) → member n data_numbers ≡ true → (k : ℕ) × (member k group_numbers ≡ true) × IsBlockOfGroup g m k n
  unfolding data_numbers
  group_of n t =
      let x = member_of (λ (x : ℕ × Entry). x.1.place.block) (λ (e : Entry). e.block_mapped) (λ x. get m x.0 ≡ Some x.1) (entries m) n (all_entries m (λ a e. get m a ≡ Some e) (λ a e is. is)) t in
      (x.0.0 / g.p, group_number x.0.0 x.0.1 x.1 x.2, record { address = x.0.0; entry = x.0.1; there = x.1; mapped = x.2; in_group = refl; in_block = x.3 })

  -- so there are at most as many data blocks as groups that have one
  data_few : length (each_once data_numbers) ≤ g.c
  unfolding group_numbers
  data_few = let few = related-le (IsBlockOfGroup g m) one_block data_numbers group_numbers group_of in let most = is_map.data_blocks in omega (arith, few, most)

-- ---- a walk over the pool

-- one of n blocks is free, or each is a data block or a log block
free_or_used : (pool : PoolValue) (from n : ℕ) → ((b : ℕ) × (from ≤ b) × (b < from + n) × (role_of pool b ≡ Free)) ⊎ ((b : ℕ) → from ≤ b → b < from + n → (role_of pool b ≡ Data) ⊎ (role_of pool b ≡ Log))
free_or_used pool from zero = inr (λ b low high. absurd (omega arith))
free_or_used pool from (suc n) = elim (free_or_used pool (suc from) n) [
  | inl found ↦ let low = found.1 in let high = found.2 in inl (found.0, omega arith, omega arith, found.3)
  | inr rest ↦ by (role_of pool from) refl rest
]
  where
    by : (role : Role) → role_of pool from ≡ role → ((b : ℕ) → suc from ≤ b → b < suc from + n → (role_of pool b ≡ Data) ⊎ (role_of pool b ≡ Log))
        → ((b : ℕ) × (from ≤ b) × (b < from + suc n) × (role_of pool b ≡ Free)) ⊎ ((b : ℕ) → from ≤ b → b < from + suc n → (role_of pool b ≡ Data) ⊎ (role_of pool b ≡ Log))
    by Free is rest = inl (from, omega arith, omega arith, is)
    by Data is rest = inr (λ b low high. elim (cases_eq b from) [
      | inl same ↦ inl (ap (role_of pool) same ∙ is)
      | inr apart ↦ rest b (omega (arith, apart)) (omega arith)
    ])
    by Log is rest = inr (λ b low high. elim (cases_eq b from) [
      | inl same ↦ inr (ap (role_of pool) same ∙ is)
      | inr apart ↦ rest b (omega (arith, apart)) (omega arith)
    ])

pub free_block : (parts : Parts) → AreOfOne parts → IsMap parts.geometry parts.map.entries → RolesAgree parts → list.AreSoundLogs parts.log_blocks → (b : ℕ) × IsFree parts.pool b
free_block parts of_one is_map roles sound =
    let g = parts.geometry in
    elim (free_or_used parts.pool (first_pool g) (g.c + g.l + 1)) [
      | inl found ↦
          let low = found.1 in
          let high = found.2 in
          (found.0, (subst (λ (h : Geometry). IsInPool h found.0) (sym of_one.pool) (low, blocks_are g found.0 high), found.3))
      | inr used ↦ absurd (too_many used)
    ]
  where
    blocks_are : (g : Geometry) (b : ℕ) → b < first_pool g + (g.c + g.l + 1) → b < blocks g
    blocks_are g b low = omega arith

    of_two : (held : List ℕ) (n : ℕ) → (member n held ≡ true) ⊎ (list.is_in n parts.log_blocks.used ≡ true) → (member n held || member n parts.log_blocks.used) ≡ true
    of_two held n (inl t) = or_left (member n held) (member n parts.log_blocks.used) t
    of_two held n (inr t) = or_right (member n held) (member n parts.log_blocks.used) (member-used n parts.log_blocks.used t)

    in_one : (n : ℕ) → IsInPool parts.geometry n → (role_of parts.pool n ≡ Data) ⊎ (role_of parts.pool n ≡ Log) → (member n (data_numbers parts.geometry parts.map.entries is_map) ≡ true) ⊎ (list.is_in n parts.log_blocks.used ≡ true)
    in_one n in_pool (inl is) = inl (data_number parts.geometry parts.map.entries is_map n ((roles.data_blocks n in_pool).0 is))
    in_one n in_pool (inr is) = inr ((roles.log_blocks n in_pool).0 is)

    used_number : (n : ℕ) → IsInPool parts.geometry n → (role_of parts.pool n ≡ Data) ⊎ (role_of parts.pool n ≡ Log) → member n (data_numbers parts.geometry parts.map.entries is_map ++ parts.log_blocks.used) ≡ true
    used_number n in_pool is = member-append n (data_numbers parts.geometry parts.map.entries is_map) parts.log_blocks.used ∙ of_two (data_numbers parts.geometry parts.map.entries is_map) n (in_one n in_pool is)

    too_many : ((b : ℕ) → first_pool parts.geometry ≤ b → b < first_pool parts.geometry + (parts.geometry.c + parts.geometry.l + 1) → (role_of parts.pool b ≡ Data) ⊎ (role_of parts.pool b ≡ Log)) → ⊥
    too_many used =
        let g = parts.geometry in
        let held = data_numbers g parts.map.entries is_map in
        let count = g.c + g.l + 1 in
        let range : (n : ℕ) → member n (numbers_from (first_pool g) count) ≡ true → (first_pool g ≤ n) × (n < first_pool g + count) = member-numbers_from (first_pool g) count in
        let within = each_once-le (numbers_from (first_pool g) count) (held ++ parts.log_blocks.used) (λ n t. used_number n ((range n t).0, blocks_are g n (range n t).1) (used n (range n t).0 (range n t).1)) in
        let few_logs : length parts.log_blocks.used ≤ g.l = subst (λ (h : Geometry). length parts.log_blocks.used ≤ h.l) of_one.log_blocks sound.few in
        let few_data = data_few g parts.map.entries is_map in
        omega (arith, within, few_logs, few_data, length-numbers_from (first_pool g) count, each_once-append held parts.log_blocks.used)
