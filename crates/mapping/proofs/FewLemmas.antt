-- A map has at most as many page-mapped entries as its log blocks have pages; and its buckets stay few.
use Rattle.std.proofs.Common.{◌≡◌, ℕ, zero, suc, ◌+◌, ◌*◌, ◌^◌, ◌<◌, ◌≤◌, ◌==◌, ◌||◌, Bool, true, false, cond, List, [], ◌∷◌, ◌++◌, length, map, filter, Some, sym, ◌∙◌, ap, ap₂, subst, arith}
use Rattle.std.proofs.Common.{◌⊎◌, max, inl, inr, nat_cmp, nat_le, eqb-true, length-append, pow-suc}
use Rattle.std.proofs.Math.Nat.{le-max_left, le-max_right, max-le}
use Rattle.std.specs.List.{AllByRecursion, range_with_len}
use Rattle.std.specs.FinMap.{get, entries, entries_sorted, is_sorted}
use Rattle.std.specs.FinMap.Entries.{below_all}
use Rattle.std.proofs.lemmas.Bool.{cases_Bool, and_parts, or_left, or_right}
use Rattle.std.proofs.lemmas.Bool.Decides.{nat_tests}
use Rattle.std.proofs.lemmas.List.{length-map}
use Rattle.std.proofs.lemmas.List.FromFn.{length-range_with_len}
use Rattle.std.proofs.lemmas.Nat.{same_from_place}
use Rattle.ft_base.specs.declared.geometry.Geometry.{Geometry}
use Rattle.ft_base.specs.Layout.{most_page_records}
use Rattle.cache_model.specs.declared.entry.Entry.{Entry}
use Rattle.cache_model.specs.Records.{Entries}
use Rattle.cache_model.specs.Entries.{each_once, blocks_with, page_mapped, IsMap}
use Rattle.cache_model.specs.Buckets.{AreFewFor}
use Rattle.cache_model.proofs.CountLemmas.{member, numbers, each_once-le, member_of, member_once, each_once-no_longer}
use Rattle.cache_model.proofs.MapLemmas.{all_entries, holds}
use Rattle.sparse_map.specs.Home.{IsDoubledFor}
use Rattle.mapping.specs.Counts.{page_mapped_count, data_block_count}
use Rattle.mapping.specs.MapValue.{MapValue}
use Rattle.mapping.specs.Room.{GrewForPages, GrewForGroups, HasFewBuckets, HasNoMoreRoom, KeepsBuckets, KeepsFewBuckets, most_groups}
use Rattle.mapping.proofs.AscendingLemmas.{Items}
use Rattle.mapping.proofs.MarksLemmas.{member_from}
use Rattle.mapping.proofs.TallyLemmas.{above}

-- ---- membership

member_front : (k : ℕ) (xs ys : List ℕ) → member k xs ≡ true → member k (xs ++ ys) ≡ true
member_front k [] ys there = absurd (cc)
member_front k (x ∷ xs) ys there = elim (cases_Bool (x == k)) [
  | inl s ↦ or_left (x == k) (member k (xs ++ ys)) s
  | inr f ↦ or_right (x == k) (member k (xs ++ ys)) (member_front k xs ys (ap (λ b. b || member k xs) (sym f) ∙ there))
]

member_back : (k : ℕ) (xs ys : List ℕ) → member k ys ≡ true → member k (xs ++ ys) ≡ true
member_back k [] ys there = there
member_back k (x ∷ xs) ys there = or_right (x == k) (member k (xs ++ ys)) (member_back k xs ys there)

member_range : (a n k : ℕ) → a ≤ k → k < a + n → member k (range_with_len a n) ≡ true
member_range a zero k low high = absurd (omega arith)
member_range a (suc n) k low high = elim (cases_Bool (a == k)) [
  | inl s ↦ or_left (a == k) (member k (range_with_len (a + 1) n)) s
  | inr f ↦ or_right (a == k) (member k (range_with_len (a + 1) n)) (member_range (a + 1) n k (later a k low f) (omega arith))
]
  where
    later : (a k : ℕ) → a ≤ k → (a == k) ≡ false → a + 1 ≤ k
    later a k low f = grind (arith, nat_tests)

-- ---- the pages of erase blocks, as numbers

abbrev pages_of : ℕ → List ℕ → List ℕ
pages_of p [] = []
pages_of p (b ∷ bs) = range_with_len (b * p) p ++ pages_of p bs

length-pages_of : (p : ℕ) (bs : List ℕ) → length (pages_of p bs) ≡ length bs * p
length-pages_of p [] = omega arith
length-pages_of p (b ∷ bs) =
    length-append (range_with_len (b * p) p) (pages_of p bs)
    ∙ ap₂ (λ x y. x + y) (length-range_with_len (b * p) p) (length-pages_of p bs)
    ∙ (let e : p + length bs * p ≡ suc (length bs) * p = omega arith in e)

member_pages : (p : ℕ) (bs : List ℕ) (b q : ℕ) → member b bs ≡ true → q < p → member (b * p + q) (pages_of p bs) ≡ true
member_pages p [] b q there low = absurd (cc)
member_pages p (c ∷ bs) b q there low = elim (cases_Bool (c == b)) [
  | inl s ↦
      let same : c * p ≡ b * p = ap (λ n. n * p) (eqb-true c b s) in
      member_front (b * p + q) (range_with_len (c * p) p) (pages_of p bs) (member_range (c * p) p (b * p + q) (omega arith) (omega arith))
  | inr f ↦ member_back (b * p + q) (range_with_len (c * p) p) (pages_of p bs) (member_pages p bs b q (ap (λ t. t || member b bs) (sym f) ∙ there) low)
]

-- ---- distinct places

abbrev place_number : ℕ → ℕ × Entry → ℕ
place_number p x = x.1.place.block * p + x.1.place.page

all_both : {A : Type 0} (P Q : A → Type 0) (xs : List A) → AllByRecursion P xs → AllByRecursion Q xs → AllByRecursion (λ x. P x × Q x) xs
all_both P Q [] all all' = tt
all_both P Q (x ∷ xs) all all' = ((all.0, all'.0), all_both P Q xs all.1 all'.1)

times_le : (a b p : ℕ) → a ≤ b → a * p ≤ b * p
times_le a b p le = grind arith

module _ (g : Geometry) (m : Entries) (is_map : IsMap g m) where
  same_place_numbers : (x y : ℕ × Entry) → get m x.0 ≡ Some x.1 → get m y.0 ≡ Some y.1 → place_number g.p x ≡ place_number g.p y → x.0 ≡ y.0
  same_place_numbers x y at at' same =
      let parts = same_from_place x.1.place.block x.1.place.page y.1.place.block y.1.place.page g.p (is_map.in_pool x.0 x.1 at).page (is_map.in_pool y.0 y.1 at').page same in
      is_map.apart x.0 y.0 x.1 y.1 at at' (λ i. record { block = parts.0 i; page = parts.1 i })

  numbers_once : (es : Items) → is_sorted nat_cmp es ≡ true → AllByRecursion (λ x. get m x.0 ≡ Some x.1) es → length (numbers (place_number g.p) page_mapped es) ≤ length (each_once (numbers (place_number g.p) page_mapped es))
  numbers_once [] sorted all = omega arith
  numbers_once (x ∷ es) sorted all =
      let p = and_parts (below_all nat_cmp x.0 es) (is_sorted nat_cmp es) sorted in
      let rest = numbers_once es p.1 all.1 in
      elim (cases_Bool (page_mapped x.1)) [
        | inr f ↦ subst (λ b. length (map (place_number g.p) (cond b (x ∷ filter (λ x. page_mapped x.1) es) (filter (λ x. page_mapped x.1) es))) ≤ length (each_once (map (place_number g.p) (cond b (x ∷ filter (λ x. page_mapped x.1) es) (filter (λ x. page_mapped x.1) es))))) (sym f) rest
        | inl t ↦ subst (λ b. length (map (place_number g.p) (cond b (x ∷ filter (λ x. page_mapped x.1) es) (filter (λ x. page_mapped x.1) es))) ≤ length (each_once (map (place_number g.p) (cond b (x ∷ filter (λ x. page_mapped x.1) es) (filter (λ x. page_mapped x.1) es))))) (sym t) (first p.0 rest)
      ]
    where
      absent : below_all nat_cmp x.0 es ≡ true → member (place_number g.p x) (numbers (place_number g.p) page_mapped es) ≡ true → ⊥
      absent below there =
          let y = member_of (place_number g.p) page_mapped (λ y. (get m y.0 ≡ Some y.1) × (x.0 < y.0)) es (place_number g.p x) (all_both (λ y. get m y.0 ≡ Some y.1) (λ y. x.0 < y.0) es all.1 (above x.0 es below)) there in
          let same : x.0 ≡ y.0.0 = same_place_numbers x y.0 all.0 y.1.0 (sym y.3) in
          let low = y.1.1 in
          omega arith

      first : below_all nat_cmp x.0 es ≡ true → length (numbers (place_number g.p) page_mapped es) ≤ length (each_once (numbers (place_number g.p) page_mapped es))
          → suc (length (numbers (place_number g.p) page_mapped es)) ≤ length (each_once (place_number g.p x ∷ numbers (place_number g.p) page_mapped es))
      first below rest = elim (cases_Bool (member (place_number g.p x) (numbers (place_number g.p) page_mapped es))) [
        | inl t ↦ absurd (absent below t)
        | inr f ↦ subst (λ b. suc (length (numbers (place_number g.p) page_mapped es)) ≤ length (cond b (each_once (numbers (place_number g.p) page_mapped es)) (place_number g.p x ∷ each_once (numbers (place_number g.p) page_mapped es)))) (sym f) (omega (arith, rest))
      ]

  each_there : AllByRecursion (λ x. get m x.0 ≡ Some x.1) (entries m)
  each_there = all_entries m (λ a e. get m a ≡ Some e) (λ a e at. at)

  within_blocks : (n : ℕ) → member n (numbers (place_number g.p) page_mapped (entries m)) ≡ true → member n (pages_of g.p (blocks_with page_mapped m)) ≡ true
  within_blocks n there =
      let x = member_of (place_number g.p) page_mapped (λ x. get m x.0 ≡ Some x.1) (entries m) n each_there there in
      let block : member x.0.1.place.block (blocks_with page_mapped m) ≡ true = member_once x.0.1.place.block (numbers (λ x. x.1.place.block) page_mapped (entries m)) ∙ member_from (λ x. x.1.place.block) page_mapped m x.0.0 x.0.1 x.1 x.2 in
      ap (λ k. member k (pages_of g.p (blocks_with page_mapped m))) (sym x.3) ∙ member_pages g.p (blocks_with page_mapped m) x.0.1.place.block x.0.1.place.page block (is_map.in_pool x.0.0 x.0.1 x.1).page

  -- at most as many page-mapped entries as the log blocks have pages
  pub pages_few : page_mapped_count m ≤ g.l * g.p
  pages_few =
      let all : length (numbers (place_number g.p) page_mapped (entries m)) ≡ length (filter (λ x. page_mapped x.1) (entries m)) = length-map (filter (λ x. page_mapped x.1) (entries m)) (place_number g.p) in
      let once = numbers_once (entries m) (holds _ (entries_sorted m)) each_there in
      let less = each_once-le (numbers (place_number g.p) page_mapped (entries m)) (pages_of g.p (blocks_with page_mapped m)) within_blocks in
      let few = each_once-no_longer (pages_of g.p (blocks_with page_mapped m)) in
      let long = length-pages_of g.p (blocks_with page_mapped m) in
      let blocks = times_le (length (blocks_with page_mapped m)) g.l g.p is_map.log_blocks in
      omega arith

-- ---- buckets

-- a table that doubled began with its old buckets, or with 32, and doubled no oftener than needed
pub start_or_few : (need narrow wide : ℕ) → IsDoubledFor need narrow wide → (wide ≡ cond (nat_le 32 narrow) narrow 32) ⊎ (3 * wide < 8 * need)
start_or_few need narrow wide doubled = by_doublings doubled.doublings doubled.is doubled.needed
  where
    times_one : (n : ℕ) → n * 2 ^ 0 ≡ n
    times_one n = omega arith

    times_two : (n j : ℕ) → n * 2 ^ suc j ≡ n * 2 ^ j + n * 2 ^ j
    times_two n j = rw pow-suc (omega arith)

    by_doublings : (k : ℕ) → wide ≡ cond (nat_le 32 narrow) narrow 32 * 2 ^ k → ((j : ℕ) → j < k → 3 * (cond (nat_le 32 narrow) narrow 32 * 2 ^ j) < 4 * need)
        → (wide ≡ cond (nat_le 32 narrow) narrow 32) ⊎ (3 * wide < 8 * need)
    by_doublings zero is needed = inl (is ∙ times_one (cond (nat_le 32 narrow) narrow 32))
    by_doublings (suc j) is needed =
        let last = needed j (omega arith) in
        let twice = times_two (cond (nat_le 32 narrow) narrow 32) j in
        inr (omega (arith, is, last, twice))

-- so its buckets stay few
few_doubled : (need most narrow wide : ℕ) → need ≤ most → IsDoubledFor need narrow wide → AreFewFor most narrow → AreFewFor most wide
few_doubled need most narrow wide enough doubled few = elim (start_or_few need narrow wide doubled) [
  | inl is ↦ subst (AreFewFor most) (sym is) (start_few (nat_le 32 narrow))
  | inr under ↦ inr (omega (arith, under, enough))
]
  where
    start_few : (b : Bool) → AreFewFor most (cond b narrow 32)
    start_few true = few
    start_few false = inl (omega arith)

-- the records of a page, and the pages of an erase block, are few
pub few_of_page : (g : Geometry) (n : ℕ) → n ≤ most_page_records → n ≤ most_groups g
few_of_page g n few = omega (arith, few, le-max_left most_page_records g.p)

pub few_of_block : (g : Geometry) → g.p ≤ most_groups g
few_of_block g = le-max_right most_page_records g.p

module _ (g : Geometry) (m : Entries) (is_map : IsMap g m) (more old new : ℕ) where
  -- the buckets of the page-mapped addresses after a reservation for `more` of them
  pub pages_grown : more ≤ most_page_records → IsDoubledFor (page_mapped_count m + more) old new → AreFewFor (g.l * g.p + most_page_records) old → AreFewFor (g.l * g.p + most_page_records) new
  pages_grown few = let held = pages_few g m is_map in few_doubled (page_mapped_count m + more) (g.l * g.p + most_page_records) old new (omega (arith, few))

  -- the buckets of the groups after a reservation for `more` of them
  pub groups_grown : more ≤ most_groups g → IsDoubledFor (data_block_count g m + more) old new → AreFewFor (g.c + most_groups g) old → AreFewFor (g.c + most_groups g) new
  groups_grown few = let held = is_map.data_blocks in few_doubled (data_block_count g m + more) (g.c + most_groups g) old new (omega (arith, few))

-- a new map has few
pub few_new : (m : MapValue) → m.spare_pages ≡ 0 → m.spare_groups ≡ 0 → m.buckets ≡ 0 → m.group_buckets ≡ 0 → HasFewBuckets m
few_new m pages groups buckets group_buckets = record { pages = omega arith; groups = omega arith; buckets = inl (omega arith); group_buckets = inl (omega arith) }

-- if the numbers of buckets stay, and the room doesn't grow, the buckets stay few
pub few_kept : (old new : MapValue) → new.geometry ≡ old.geometry → HasNoMoreRoom old new → KeepsBuckets old new → HasFewBuckets old → HasFewBuckets new
few_kept old new same room kept few =
    let p = few.pages in
    let q = few.groups in
    record {
      pages = omega (arith, room.pages, p);
      groups = subst (λ g. new.spare_groups ≤ most_groups g) (sym same) (omega (arith, room.groups, q));
      buckets = subst (λ b. AreFewFor (new.geometry.l * new.geometry.p + most_page_records) b) (sym kept.pages)
          (subst (λ (g : Geometry). AreFewFor (g.l * g.p + most_page_records) old.buckets) (sym same) few.buckets);
      group_buckets = subst (λ b. AreFewFor (new.geometry.c + most_groups new.geometry) b) (sym kept.groups)
          (subst (λ (g : Geometry). AreFewFor (g.c + most_groups g) old.group_buckets) (sym same) few.group_buckets);
    }

-- if the buckets grew for few items, they are few
pub few_grown : (old new : MapValue) (p q : ℕ) → IsMap old.geometry old.entries → new.geometry ≡ old.geometry → p ≤ most_page_records → q ≤ most_groups old.geometry
    → new.spare_pages ≤ most_page_records → new.spare_groups ≤ most_groups old.geometry
    → GrewForPages old new p → GrewForGroups old new q → HasFewBuckets old → HasFewBuckets new
few_grown old new p q is_map same few_p few_q pages groups grew grew' few = record {
  pages = pages;
  groups = subst (λ g. new.spare_groups ≤ most_groups g) (sym same) groups;
  buckets = subst (λ (g : Geometry). AreFewFor (g.l * g.p + most_page_records) new.buckets) (sym same)
      (pages_grown old.geometry old.entries is_map p old.buckets new.buckets few_p grew few.buckets);
  group_buckets = subst (λ (g : Geometry). AreFewFor (g.c + most_groups g) new.group_buckets) (sym same)
      (groups_grown old.geometry old.entries is_map q old.group_buckets new.group_buckets few_q grew' few.group_buckets);
}

-- ---- few before, few after

pub keeps_still : (m : MapValue) → KeepsFewBuckets m m
keeps_still m = record { is_map = λ is. is; few = λ is few. few }

pub keeps_then : (a b c : MapValue) → KeepsFewBuckets a b → KeepsFewBuckets b c → KeepsFewBuckets a c
keeps_then a b c first then = record { is_map = λ is. then.is_map (first.is_map is); few = λ is few. then.few (first.is_map is) (first.few is few) }

-- the same entries
pub is_map_same : (old new : MapValue) → new.geometry ≡ old.geometry → new.entries ≡ old.entries → IsMap old.geometry old.entries → IsMap new.geometry new.entries
is_map_same old new same entries is = subst (λ (g : Geometry). IsMap g new.entries) (sym same) (subst (λ m. IsMap old.geometry m) (sym entries) is)

-- a map after a reservation of room for p pages and q groups
pub record IsReserved (p q : ℕ) (old new : MapValue) : Type 0 where
  pub geometry : new.geometry ≡ old.geometry
  pub entries : new.entries ≡ old.entries
  pub pages : new.spare_pages ≡ max old.spare_pages p
  pub groups : new.spare_groups ≡ max old.spare_groups q
  pub buckets : GrewForPages old new new.spare_pages
  pub group_buckets : GrewForGroups old new new.spare_groups

pub keeps_reserved : (p q : ℕ) (old new : MapValue) → p ≤ most_page_records → q ≤ most_groups old.geometry → IsReserved p q old new → KeepsFewBuckets old new
keeps_reserved p q old new few_p few_q ready = record {
  is_map = is_map_same old new ready.geometry ready.entries;
  few = λ is few.
      let pages : new.spare_pages ≤ most_page_records = subst (λ n. n ≤ most_page_records) (sym ready.pages) (max-le few.pages few_p) in
      let groups : new.spare_groups ≤ most_groups old.geometry = subst (λ n. n ≤ most_groups old.geometry) (sym ready.groups) (max-le few.groups few_q) in
      few_grown old new new.spare_pages new.spare_groups is ready.geometry pages groups pages groups ready.buckets ready.group_buckets few;
}

-- a reservation that failed may have left the buckets of the page-mapped addresses grown
pub few_refused : (p : ℕ) (old new : MapValue) → p ≤ most_page_records → IsMap old.geometry old.entries → new.geometry ≡ old.geometry → new.spare_pages ≡ old.spare_pages → new.spare_groups ≡ old.spare_groups
    → (new.buckets ≡ old.buckets) ⊎ GrewForPages old new (max old.spare_pages p) → new.group_buckets ≡ old.group_buckets → HasFewBuckets old → HasFewBuckets new
few_refused p old new few_p is same pages groups buckets group_buckets few = record {
  pages = subst (λ n. n ≤ most_page_records) (sym pages) few.pages;
  groups = subst (λ g. new.spare_groups ≤ most_groups g) (sym same) (subst (λ n. n ≤ most_groups old.geometry) (sym groups) few.groups);
  buckets = subst (λ (g : Geometry). AreFewFor (g.l * g.p + most_page_records) new.buckets) (sym same) (elim buckets [
    | inl kept ↦ subst (λ b. AreFewFor (old.geometry.l * old.geometry.p + most_page_records) b) (sym kept) few.buckets
    | inr grew ↦ pages_grown old.geometry old.entries is (max old.spare_pages p) old.buckets new.buckets (max-le few.pages few_p) grew few.buckets
  ]);
  group_buckets = subst (λ b. AreFewFor (new.geometry.c + most_groups new.geometry) b) (sym group_buckets)
      (subst (λ (g : Geometry). AreFewFor (g.c + most_groups g) old.group_buckets) (sym same) few.group_buckets);
}
