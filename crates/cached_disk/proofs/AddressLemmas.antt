-- The dirty addresses of a list of held blocks, ascending.
use Rattle.std.proofs.Common.{◌≡◌, ◌⊎◌, ℕ, ◌+◌, ◌/◌, ◌≤◌, ◌<◌, ◌==◌, nat_le, nat_lt, not, ◌&&◌, ◌||◌, Bool, true, false, cond, List, [], ◌∷◌, length}
use Rattle.std.proofs.Common.{map, filter, Option, Some, None, Ordering, Less, Equal, Greater, inl, inr, refl, sym, ◌∙◌, ap, subst, arith, nat_cmp, eqb-true, eq-eqb}
use Rattle.std.specs.List.{AllByRecursion, list_any}
use Rattle.std.specs.Option.{is_some, option_map}
use Rattle.std.specs.Ordering.{is_lt, match_ordering}
use Rattle.std.specs.FinMap.{get, insert, entries, entries_sorted, is_sorted}
use Rattle.std.specs.FinMap.Entries.{below_all}
use Rattle.std.proofs.lemmas.Bool.{cases_Bool, cases_order, false≢true, not-true, and_from, and_parts, and_right, or_cases, or_from, or_left, or_right}
use Rattle.std.proofs.lemmas.Bool.Decides.{nat_tests}
use Rattle.ft_base.specs.Contents.{Contents}
use Rattle.ft_base.specs.Table.{with_lba}
use Rattle.ft_base.specs.Told.{Told}
use Rattle.ft_base.specs.declared.geometry.Geometry.{Geometry}
use Rattle.ft_volume.specs.Volume.{Call, IsOwn, dirty_lbas}
use Rattle.ft_volume.specs.Volume as volume
use Rattle.cache_model.specs.declared.entry.Entry.{Entry}
use Rattle.cache_model.specs.Cache.{Vanish, dirty_between, groups, with_group}
use Rattle.cache_model.specs.Records.{Entries}
use Rattle.cache_model.specs.CacheList.{CacheList, Held}
use Rattle.cache_model.proofs.CountLemmas.{all_members, each_once-le, member_of, member_once, each_once-no_longer, same_number}
use Rattle.cache_model.proofs.MapLemmas.{less_key, all_entries, by_get, get_insert, holds as true_of}
use Rattle.mapping.proofs.MarksLemmas.{same_bools}
use Rattle.merge_engine.specs.Loaded.{AreAscending}
use Rattle.merge_engine.proofs.TakeLemmas.{agree_map}
use Rattle.ssc.specs.declared.cache.Ssc.{Ssc}
use Rattle.ssc.specs.CacheState.{Holds, entries_of, geometry_of}
use Rattle.ssc.proofs.HoldsLemmas.{held_none, held_some}
use Rattle.ssc.proofs.ListedLemmas.{dirty_alike, marks, same_marks}
use Rattle.cached_disk.specs.Kept.{IsDirtyIn}

-- the dirty addresses of a list
abbrev pub lbas_in : CacheList → List ℕ
lbas_in s = map (λ x. x.0) (filter (λ x. x.1.dirty) (entries s))

abbrev pub has_lba : ℕ → List ℕ → Bool
has_lba a lbas = list_any (λ k. k == a) lbas

-- ---- the addresses that a cache holds, by its entries

-- an address is held exactly when it has an entry
pub holds_held : (c : Ssc) (contents : Contents) (s : CacheList) → Holds c contents s → (a : ℕ) → is_some (get (entries_of c) a) ≡ is_some (get s a)
holds_held c contents s holds a = by (get (entries_of c) a) refl
  where
    by : (o : Option Entry) → get (entries_of c) a ≡ o → is_some o ≡ is_some (get s a)
    by None at = sym (ap is_some (held_none c contents s a holds at))
    by (Some e) at = let there = held_some c contents s a e holds at in sym (ap is_some there.1)

-- each is below the size
pub holds_within : (c : Ssc) (contents : Contents) (s : CacheList) → Holds c contents s → (a : ℕ) (h : Held) → get s a ≡ Some h → a < (geometry_of c).size
holds_within c contents s holds a h there = by (get (entries_of c) a) refl
  where
    by : (o : Option Entry) → get (entries_of c) a ≡ o → a < (geometry_of c).size
    by None at = absurd (let both : None ≡ Some h = sym (held_none c contents s a holds at) ∙ there in cc)
    by (Some e) at = let map = agree_map c.parts contents holds.agree in map.within a e at

-- ---- an address of the list is dirty

pub lbas_has : (s : CacheList) (a : ℕ) → IsDirtyIn s a → has_lba a (lbas_in s) ≡ true
lbas_has s a dirty = by_get s (λ a h. h.dirty ≡ true → has_lba a (lbas_in s) ≡ true) (all_members (λ (x : ℕ × Held). x.0) (λ (h : Held). h.dirty) (entries s)) a dirty.0 dirty.1 dirty.2

pub lbas_dirty : (s : CacheList) (a : ℕ) → has_lba a (lbas_in s) ≡ true → IsDirtyIn s a
lbas_dirty s a there =
    let x = member_of (λ (x : ℕ × Held). x.0) (λ (h : Held). h.dirty) (λ x. get s x.0 ≡ Some x.1) (entries s) a (all_entries s (λ a h. get s a ≡ Some h) (λ a h at. at)) there in
    subst (λ (k : ℕ). IsDirtyIn s k) x.3 (x.0.1, x.1, x.2)

-- ---- ascending lists of numbers

lower : (m n : ℕ) (ns : List ℕ) → m < n → AllByRecursion (λ k. n < k) ns → AllByRecursion (λ k. m < k) ns
lower m n [] less all = tt
lower m n (k ∷ ks) less all = (let above : n < k = all.0 in omega (arith, less, above), lower m n ks less all.1)

pub not_above : (n : ℕ) (ns : List ℕ) → AllByRecursion (λ k. n < k) ns → has_lba n ns ≡ false
not_above n [] all = refl
not_above n (k ∷ ks) all = let above : n < k = all.0 in let other : (k == n) ≡ false = grind (arith, nat_tests) in or_from (k == n) (has_lba n ks) other (not_above n ks all.1)

-- two lists with the same numbers are equal
pub ascending_same : (xs ys : List ℕ) → AreAscending xs → AreAscending ys → ((a : ℕ) → has_lba a xs ≡ has_lba a ys) → xs ≡ ys
ascending_same [] [] up up' same = refl
ascending_same [] (y ∷ ys) up up' same = absurd (false≢true (same y ∙ or_left (y == y) (has_lba y ys) (same_number y)))
ascending_same (x ∷ xs) [] up up' same = absurd (false≢true (sym (same x) ∙ or_left (x == x) (has_lba x xs) (same_number x)))
ascending_same (x ∷ xs) (y ∷ ys) up up' same = elim (cases_order x y) [
  | inl is ↦ let rest = ascending_same xs ys up.1 up'.1 (tails is) in cc
  | inr apart ↦ elim apart [
    | inl less ↦ absurd (false≢true (sym (not_above x (y ∷ ys) (less, lower x y ys less up'.0)) ∙ sym (same x) ∙ or_left (x == x) (has_lba x xs) (same_number x)))
    | inr more ↦ absurd (false≢true (sym (not_above y (x ∷ xs) (more, lower y x xs more up.0)) ∙ same y ∙ or_left (y == y) (has_lba y ys) (same_number y)))
  ]
]
  where
    tails : x ≡ y → (a : ℕ) → has_lba a xs ≡ has_lba a ys
    tails is a = elim (cases_Bool (x == a)) [
      | inl t ↦
          let here : x ≡ a = eqb-true x a t in
          ap (λ k. has_lba k xs) (sym here) ∙ not_above x xs up.0 ∙ sym (ap (λ k. has_lba k ys) (sym here ∙ is) ∙ not_above y ys up'.0)
      | inr f ↦ sym (ap (λ b. b || has_lba a xs) f) ∙ same a ∙ ap (λ b. b || has_lba a ys) (ap (λ k. k == a) (sym is) ∙ f)
    ]

-- a filter
all_filter : (P : ℕ → Type 0) (t : ℕ → Bool) (ns : List ℕ) → AllByRecursion P ns → AllByRecursion P (filter t ns)
all_filter P t [] all = tt
all_filter P t (n ∷ ns) all = by (t n) (all_filter P t ns all.1)
  where
    by : (b : Bool) → AllByRecursion P (filter t ns) → AllByRecursion P (cond b (n ∷ filter t ns) (filter t ns))
    by true rest = (all.0, rest)
    by false rest = rest

pub filter_ascending : (t : ℕ → Bool) (ns : List ℕ) → AreAscending ns → AreAscending (filter t ns)
filter_ascending t [] up = tt
filter_ascending t (n ∷ ns) up = by (t n) (filter_ascending t ns up.1)
  where
    by : (b : Bool) → AreAscending (filter t ns) → AreAscending (cond b (n ∷ filter t ns) (filter t ns))
    by true rest = (all_filter (λ k. n < k) t ns up.0, rest)
    by false rest = rest

pub has_lba-filter : (t : ℕ → Bool) (a : ℕ) (ns : List ℕ) → has_lba a (filter t ns) ≡ (has_lba a ns && t a)
has_lba-filter t a [] = refl
has_lba-filter t a (n ∷ ns) = elim (cases_Bool (t n)) [
  | inl pass ↦ ap (λ b. has_lba a (cond b (n ∷ filter t ns) (filter t ns))) pass ∙ ap (λ b. (n == a) || b) (has_lba-filter t a ns) ∙ passes (n == a) (λ same. ap t (sym (eqb-true n a same)) ∙ pass)
  | inr fail ↦ ap (λ b. has_lba a (cond b (n ∷ filter t ns) (filter t ns))) fail ∙ has_lba-filter t a ns ∙ fails (n == a) (λ same. ap t (sym (eqb-true n a same)) ∙ fail)
]
  where
    passes : (b : Bool) → (b ≡ true → t a ≡ true) → (b || (has_lba a ns && t a)) ≡ ((b || has_lba a ns) && t a)
    passes true is = sym (is refl)
    passes false is = refl

    fails : (b : Bool) → (b ≡ true → t a ≡ false) → (has_lba a ns && t a) ≡ ((b || has_lba a ns) && t a)
    fails true is = and_right (has_lba a ns) (t a) (is refl) ∙ sym (is refl)
    fails false is = refl

-- one more number
cmp_less : (a n : ℕ) → nat_cmp a n ≡ Less → a < n
cmp_less a n is = grind (arith, nat_tests)

cmp_equal : (a n : ℕ) → nat_cmp a n ≡ Equal → a ≡ n
cmp_equal a n is = grind (arith, nat_tests)

cmp_greater : (a n : ℕ) → nat_cmp a n ≡ Greater → n < a
cmp_greater a n is = grind (arith, nat_tests)

all_with : (P : ℕ → Type 0) (a : ℕ) (ns : List ℕ) → P a → AllByRecursion P ns → AllByRecursion P (with_lba a ns)
all_with P a [] here all = (here, tt)
all_with P a (n ∷ ns) here all = by (nat_cmp a n) (all_with P a ns here all.1)
  where
    by : (o : Ordering) → AllByRecursion P (with_lba a ns) → AllByRecursion P (match_ordering o (a ∷ n ∷ ns) (n ∷ ns) (n ∷ with_lba a ns))
    by Less rest = (here, all)
    by Equal rest = all
    by Greater rest = (all.0, rest)

pub with_ascending : (a : ℕ) (ns : List ℕ) → AreAscending ns → AreAscending (with_lba a ns)
with_ascending a [] up = (tt, tt)
with_ascending a (n ∷ ns) up = by (nat_cmp a n) refl (with_ascending a ns up.1)
  where
    by : (o : Ordering) → nat_cmp a n ≡ o → AreAscending (with_lba a ns) → AreAscending (match_ordering o (a ∷ n ∷ ns) (n ∷ ns) (n ∷ with_lba a ns))
    by Less is rest = ((cmp_less a n is, lower a n ns (cmp_less a n is) up.0), up)
    by Equal is rest = up
    by Greater is rest = (all_with (λ k. n < k) a ns (cmp_greater a n is) up.0, rest)

or_twice : (b c : Bool) → (b || c) ≡ (b || (b || c))
or_twice true c = refl
or_twice false c = refl

or_turned : (b c d : Bool) → (b || (c || d)) ≡ (c || (b || d))
or_turned true true d = refl
or_turned true false d = refl
or_turned false c d = refl

pub has_lba-with : (x a : ℕ) (ns : List ℕ) → has_lba x (with_lba a ns) ≡ ((a == x) || has_lba x ns)
has_lba-with x a [] = refl
has_lba-with x a (n ∷ ns) = by (nat_cmp a n) refl (has_lba-with x a ns)
  where
    by : (o : Ordering) → nat_cmp a n ≡ o → has_lba x (with_lba a ns) ≡ ((a == x) || has_lba x ns) → has_lba x (match_ordering o (a ∷ n ∷ ns) (n ∷ ns) (n ∷ with_lba a ns)) ≡ ((a == x) || ((n == x) || has_lba x ns))
    by Less is rest = refl
    by Equal is rest = or_twice (n == x) (has_lba x ns) ∙ ap (λ k. (k == x) || ((n == x) || has_lba x ns)) (sym (cmp_equal a n is))
    by Greater is rest = ap (λ b. (n == x) || b) rest ∙ or_turned (n == x) (a == x) (has_lba x ns)

-- ---- the keys of entries ascend

module _ {X : Type 0} (t : ℕ × X → Bool) where
  above_keys : (n : ℕ) (es : List (ℕ × X)) → below_all nat_cmp n es ≡ true → AllByRecursion (λ k. n < k) (map (λ x. x.0) (filter t es))
  above_keys n [] below = tt
  above_keys n (e ∷ es) below =
      let parts = and_parts (is_lt (nat_cmp n e.0)) (below_all nat_cmp n es) below in
      by (t e) (less_key n e.0 parts.0) (above_keys n es parts.1)
    where
      by : (b : Bool) → n < e.0 → AllByRecursion (λ k. n < k) (map (λ x. x.0) (filter t es)) → AllByRecursion (λ k. n < k) (map (λ x. x.0) (cond b (e ∷ filter t es) (filter t es)))
      by true here rest = (here, rest)
      by false here rest = rest

  keys_ascending : (es : List (ℕ × X)) → is_sorted nat_cmp es ≡ true → AreAscending (map (λ x. x.0) (filter t es))
  keys_ascending [] sorted = tt
  keys_ascending (e ∷ es) sorted =
      let parts = and_parts (below_all nat_cmp e.0 es) (is_sorted nat_cmp es) sorted in
      by (t e) (above_keys e.0 es parts.0) (keys_ascending es parts.1)
    where
      by : (b : Bool) → AllByRecursion (λ k. e.0 < k) (map (λ x. x.0) (filter t es)) → AreAscending (map (λ x. x.0) (filter t es)) → AreAscending (map (λ x. x.0) (cond b (e ∷ filter t es) (filter t es)))
      by true here rest = (here, rest)
      by false here rest = rest

pub lbas_ascending : (s : CacheList) → AreAscending (lbas_in s)
lbas_ascending s = keys_ascending (λ (x : ℕ × Held). x.1.dirty) (entries s) (true_of _ (entries_sorted s))

-- ---- the dirty addresses of two lists

pub lbas_same : (s t : CacheList) → ((a : ℕ) → IsDirtyIn s a → IsDirtyIn t a) → ((a : ℕ) → IsDirtyIn t a → IsDirtyIn s a) → lbas_in t ≡ lbas_in s
lbas_same s t there back = ascending_same (lbas_in t) (lbas_in s) (lbas_ascending t) (lbas_ascending s) (λ a.
    same_bools (has_lba a (lbas_in t)) (has_lba a (lbas_in s)) (λ has. lbas_has s a (back a (lbas_dirty t a has))) (λ has. lbas_has t a (there a (lbas_dirty s a has))))

-- the dirty addresses of a cache are the dirty addresses of the list that it holds
by_mark : {X : Type 0} (dirty : X → Bool) (es : List (ℕ × X)) → map (λ x. x.0) (filter (λ x. dirty x.1) es) ≡ map (λ x. x.0) (filter (λ x. x.1) (marks dirty es))
by_mark dirty [] = refl
by_mark dirty (e ∷ es) = by (dirty e.1) (by_mark dirty es)
  where
    by : (b : Bool) → map (λ x. x.0) (filter (λ x. dirty x.1) es) ≡ map (λ x. x.0) (filter (λ x. x.1) (marks dirty es))
        → map (λ x. x.0) (cond b (e ∷ filter (λ x. dirty x.1) es) (filter (λ x. dirty x.1) es)) ≡ map (λ x. x.0)
        (cond b ((e.0, dirty e.1) ∷ filter (λ x. x.1) (marks dirty es)) (filter (λ x. x.1) (marks dirty es)))
    by true rest = ap (λ l. e.0 ∷ l) rest
    by false rest = rest

pub lbas_alike : (m : Entries) (s : CacheList) → ((a : ℕ) → option_map (λ (h : Held). h.dirty) (get s a) ≡ option_map (λ (e : Entry). e.dirty) (get m a)) → dirty_lbas m ≡ lbas_in s
lbas_alike m s alike =
    by_mark (λ (e : Entry). e.dirty) (entries m)
    ∙ ap (λ (es : List (ℕ × Bool)). map (λ x. x.0) (filter (λ x. x.1) es)) (sym (same_marks m s alike))
    ∙ sym (by_mark (λ (h : Held). h.dirty) (entries s))

pub holds_lbas : (c : Ssc) (contents : Contents) (s : CacheList) → Holds c contents s → dirty_lbas (entries_of c) ≡ lbas_in s
holds_lbas c contents s holds = lbas_alike (entries_of c) s (dirty_alike c contents s holds)

-- ---- a write: few groups are held, so nothing gives way

all_groups : (gs : List ℕ) (p : ℕ) (es : List (ℕ × Held)) → AllByRecursion (λ x. has_lba (x.0 / p) gs ≡ true) es → (n : ℕ) → has_lba n (map (λ x. x.0 / p) es) ≡ true → has_lba n gs ≡ true
all_groups gs p [] all n there = absurd (false≢true there)
all_groups gs p (e ∷ es) all n there = elim (or_cases (e.0 / p == n) (has_lba n (map (λ x. x.0 / p) es)) there) [
  | inl here ↦ ap (λ k. has_lba k gs) (sym (eqb-true (e.0 / p) n here)) ∙ all.0
  | inr later ↦ all_groups gs p es all.1 n later
]

few_groups : (g : Geometry) (s : CacheList) (group : ℕ) (gs : List ℕ) → has_lba group gs ≡ true → ((a : ℕ) (h : Held) → get s a ≡ Some h → has_lba (a / g.p) gs ≡ true) → length (with_group group (groups g s)) ≤ length gs
few_groups g s group gs own all =
    let along = all_entries s (λ a h. has_lba (a / g.p) gs ≡ true) all in
    let fewer = each_once-le (group ∷ groups g s) gs (λ n there. elim (or_cases (group == n) (has_lba n (groups g s)) there) [
      | inl here ↦ ap (λ k. has_lba k gs) (sym (eqb-true group n here)) ∙ own
      | inr later ↦ all_groups gs g.p (entries s) along n (sym (member_once n (map (λ x. x.0 / g.p) (entries s))) ∙ later)
    ]) in
    let short = each_once-no_longer gs in
    omega (arith, fewer, short)

module _ (told : Told) (call : Call) (s v : CacheList) (lba : ℕ) (h : Held) (vanish : Vanish told.geometry s lba v) (own : IsOwn call lba) (alone : (a : ℕ) → IsOwn call a → a ≡ lba) where
  new_here : (a : ℕ) → (a == lba) ≡ true → is_some (get (insert v lba h) a) ≡ true
  new_here a t = ap is_some (get_insert v lba h a ∙ ap (λ b. cond b (Some h) (get v a)) t)

  new_there : (a : ℕ) → (a == lba) ≡ false → is_some (get (insert v lba h) a) ≡ is_some (get v a)
  new_there a f = ap is_some (get_insert v lba h a ∙ ap (λ b. cond b (Some h) (get v a)) f)

  left_was : (a : ℕ) → is_some (get v a) ≡ true → is_some (get s a) ≡ true
  left_was a there = by (vanish.gone (a / told.geometry.p)) (sym (ap is_some (vanish.stays a)) ∙ there)
    where
      by : (b : Bool) → is_some (cond b None (get s a)) ≡ true → is_some (get s a) ≡ true
      by true there = absurd (false≢true there)
      by false there = there

  none_gone : (gs : List ℕ) → volume.LieIn told call (λ a. is_some (get s a)) gs → (group : ℕ) → vanish.gone group ≡ false
  none_gone gs lie group = elim (cases_Bool (vanish.gone group)) [
    | inl t ↦ absurd (
        let room = (vanish.for_room group t).0 in
        let fewer = few_groups told.geometry s (lba / told.geometry.p) gs (lie.all lba (inr own)) (λ a h at. lie.all a (inl (ap is_some at))) in
        let few = lie.few in
        omega (arith, room, fewer, few))
    | inr f ↦ f
  ]

  pub written_held : volume.HoldsAfter told call (λ a. is_some (get s a)) (λ a. is_some (get (insert v lba h) a))
  written_held = record {
    own = λ a is. new_here a (eq-eqb a lba (alone a is));
    only = λ a there. elim (cases_Bool (a == lba)) [
      | inl t ↦ inr (subst (λ (k : ℕ). IsOwn call k) (sym (eqb-true a lba t)) own)
      | inr f ↦ inl (left_was a (sym (new_there a f) ∙ there))
    ];
    stays = λ gs lie a was. elim (cases_Bool (a == lba)) [
      | inl t ↦ new_here a t
      | inr f ↦ new_there a f ∙ ap is_some (vanish.stays a ∙ ap (λ b. cond b None (get s a)) (none_gone gs lie (a / told.geometry.p))) ∙ was
    ];
  }

-- ---- with an address, without a group's addresses, and with none

pub lbas_with : (s t : CacheList) (lba : ℕ) → IsDirtyIn t lba → ((a : ℕ) → IsDirtyIn s a → IsDirtyIn t a) → ((a : ℕ) → IsDirtyIn t a → (a ≡ lba) ⊎ IsDirtyIn s a) → lbas_in t ≡ with_lba lba (lbas_in s)
lbas_with s t lba here stays was = ascending_same (lbas_in t) (with_lba lba (lbas_in s)) (lbas_ascending t) (with_ascending lba (lbas_in s) (lbas_ascending s)) (λ a.
    same_bools (has_lba a (lbas_in t)) ((lba == a) || has_lba a (lbas_in s)) (from a) (into a) ∙ sym (has_lba-with a lba (lbas_in s)))
  where
    from : (a : ℕ) → has_lba a (lbas_in t) ≡ true → ((lba == a) || has_lba a (lbas_in s)) ≡ true
    from a has = elim (was a (lbas_dirty t a has)) [
      | inl same ↦ or_left (lba == a) (has_lba a (lbas_in s)) (eq-eqb lba a (sym same))
      | inr dirty ↦ or_right (lba == a) (has_lba a (lbas_in s)) (lbas_has s a dirty)
    ]

    into : (a : ℕ) → ((lba == a) || has_lba a (lbas_in s)) ≡ true → has_lba a (lbas_in t) ≡ true
    into a has = elim (or_cases (lba == a) (has_lba a (lbas_in s)) has) [
      | inl same ↦ lbas_has t a (subst (λ (k : ℕ). IsDirtyIn t k) (eqb-true lba a same) here)
      | inr there ↦ lbas_has t a (stays a (lbas_dirty s a there))
    ]

pub lbas_without : (s t : CacheList) (p n : ℕ) → ((a : ℕ) → IsDirtyIn t a → IsDirtyIn s a × ((a / p == n) ≡ false)) → ((a : ℕ) → IsDirtyIn s a → (a / p == n) ≡ false → IsDirtyIn t a) → lbas_in t ≡ filter (λ a. not (a / p == n)) (lbas_in s)
lbas_without s t p n was stays = ascending_same (lbas_in t) (filter (λ a. not (a / p == n)) (lbas_in s)) (lbas_ascending t) (filter_ascending (λ a. not (a / p == n)) (lbas_in s) (lbas_ascending s)) (λ a.
    same_bools (has_lba a (lbas_in t)) (has_lba a (lbas_in s) && not (a / p == n)) (from a) (into a) ∙ sym (has_lba-filter (λ a. not (a / p == n)) a (lbas_in s)))
  where
    from : (a : ℕ) → has_lba a (lbas_in t) ≡ true → (has_lba a (lbas_in s) && not (a / p == n)) ≡ true
    from a has = let dirty = was a (lbas_dirty t a has) in and_from (has_lba a (lbas_in s)) (not (a / p == n)) (lbas_has s a dirty.0) (ap not dirty.1)

    into : (a : ℕ) → (has_lba a (lbas_in s) && not (a / p == n)) ≡ true → has_lba a (lbas_in t) ≡ true
    into a has =
        let parts = and_parts (has_lba a (lbas_in s)) (not (a / p == n)) has in
        lbas_has t a (stays a (lbas_dirty s a parts.0) (not-true (a / p == n) parts.1))

pub lbas_none : (s : CacheList) → ((a : ℕ) → IsDirtyIn s a → ⊥) → lbas_in s ≡ []
lbas_none s none = ascending_same (lbas_in s) [] (lbas_ascending s) tt (λ a. same_bools (has_lba a (lbas_in s)) false (λ has. absurd (none a (lbas_dirty s a has))) (λ is. absurd (false≢true is)))

-- ---- the dirty addresses of a range

filter_same : {X : Type 0} (t u : X → Bool) (es : List X) → AllByRecursion (λ x. t x ≡ u x) es → filter t es ≡ filter u es
filter_same t u [] all = refl
filter_same t u (x ∷ es) all = ap (λ b. cond b (x ∷ filter t es) (filter t es)) all.0 ∙ ap (λ l. cond (u x) (x ∷ l) l) (filter_same t u es all.1)

below_size : (d : Bool) (a n : ℕ) → a < n → (d && nat_le 0 a && nat_lt a (0 + n)) ≡ d
below_size true a n below = grind (arith, nat_tests)
below_size false a n below = refl

pub lbas_between : (s : CacheList) (size : ℕ) → ((a : ℕ) (h : Held) → get s a ≡ Some h → a < size) → dirty_between 0 size s ≡ lbas_in s
lbas_between s size within = ap (λ (l : List (ℕ × Held)). map (λ x. x.0) l)
    (filter_same (λ (x : ℕ × Held). x.1.dirty && nat_le 0 x.0 && nat_lt x.0 (0 + size)) (λ x. x.1.dirty) (entries s)
    (all_entries s (λ a h. (h.dirty && nat_le 0 a && nat_lt a (0 + size)) ≡ h.dirty) (λ a h at. below_size h.dirty a size (within a h at))))
