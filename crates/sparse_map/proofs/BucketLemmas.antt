-- The n buckets of a table among the buckets of its groups; no other bucket has an item.
use Rattle.std.proofs.Common.{◌≡◌, ℕ, ◌+◌, ◌*◌, ◌^◌, ◌<◌, ◌≤◌, List, ◌++◌, Option, Some, None, length, set, take, drop, sym, ap, ◌∙◌, inl, inr, arith}
use Rattle.std.specs.Prelude.{is_some, IsSome, option_map}
use Rattle.std.proofs.lemmas.List.{ext_get_or, get_or-take, get_or-drop, length-drop, get_or_past, get_or-set_other, length-take, length-take-le, length-set, take-append-drop, append-nil}
use Rattle.std.proofs.Math.Seq.{take-set-lt}
use Rattle.std.proofs.lemmas.Bool.{cases_lt, false≢true}
use Rattle.sparse_map.specs.declared.group.Group.{Group}
use Rattle.sparse_map.specs.Slots.{slot_at, key_at, items_of, exchanged, group}
use Rattle.sparse_map.specs.Home.{buckets_for, IsTableSize}
use Rattle.sparse_map.specs.Groups.{all_slots, slots_of, lists_for, IsEmptyFrom, IsTable}
use Rattle.sparse_map.specs.Moved.{items_in}
use Rattle.sparse_map.proofs.SlotLemmas.{items_of-free}
use Rattle.sparse_map.proofs.PackedLemmas.{key_inside}
use Rattle.sparse_map.proofs.TableLemmas.{length-all_slots}
use Rattle.sparse_map.proofs.ItemLemmas.{items_of-append, items_of-all_slots}
use Rattle.sparse_map.proofs.HomeLemmas.{IsSized, sized, sized_long, some_buckets}

module _ {V : Type 0} (n : ℕ) (us : List (Group V)) where
  pub slot_below : (b : ℕ) → b < n → slot_at (slots_of n us) b ≡ slot_at (all_slots us) b
  unfolding slots_of
  slot_below b lt = get_or-take n (all_slots us) b None lt

  slot_past : (b : ℕ) → n ≤ b → slot_at (slots_of n us) b ≡ None
  unfolding slots_of
  slot_past b le = get_or_past (take n (all_slots us)) b None (omega (arith, length-take n (all_slots us)))

  pub length-slots_of : n ≤ 64 * length us → length (slots_of n us) ≡ n
  unfolding slots_of
  length-slots_of long = length-take-le n (all_slots us) (omega (arith, length-all_slots us))

  pub table_long : IsSized n → IsTable n us → n ≤ 64 * length us
  table_long sized table = omega (arith, sized_long n sized, table.count)

  pub length-table : IsSized n → IsTable n us → length (slots_of n us) ≡ n
  length-table sized table = length-slots_of (table_long sized table)

  -- a key of the table stands in its bucket
  pub key_below : (b key : ℕ) → key_at (slots_of n us) b ≡ Some key → b < n
  key_below b key has = elim (cases_lt b n) [
    | inl lt ↦ lt
    | inr past ↦ absurd (let wrong : None ≡ Some key = sym (ap (option_map (λ e. e.0)) (slot_past b past)) ∙ has in cc)
  ]

  pub key_in_all : (b key : ℕ) → key_at (slots_of n us) b ≡ Some key → key_at (all_slots us) b ≡ Some key
  key_in_all b key has = sym (ap (option_map (λ e. e.0)) (slot_below b (key_below b key has))) ∙ has

  pub key_within : (b key : ℕ) → key_at (slots_of n us) b ≡ Some key → b < 64 * length us
  key_within b key has = omega (arith, key_inside (all_slots us) b key (key_in_all b key has), length-all_slots us)

  module _ (rest : IsEmptyFrom n us) where
    pub same_slot : (b : ℕ) → slot_at (slots_of n us) b ≡ slot_at (all_slots us) b
    same_slot b = elim (cases_lt b n) [ inl lt ↦ slot_below b lt | inr past ↦ slot_past b past ∙ sym (rest b past) ]

    pub same_key : (b : ℕ) → key_at (slots_of n us) b ≡ key_at (all_slots us) b
    same_key b = ap (option_map (λ e. e.0)) (same_slot b)

    pub some_below : (b : ℕ) → IsSome (slot_at (all_slots us) b) → b < n
    some_below b some = elim (cases_lt b n) [
      | inl lt ↦ lt
      | inr past ↦ absurd (false≢true (sym (ap is_some (rest b past)) ∙ some))
    ]

    pub items_of-table : items_of (slots_of n us) ≡ items_of (all_slots us)
    unfolding slots_of
    items_of-table =
        let s = all_slots us in
        sym (append-nil (items_of (take n s)))
        ∙ ap (λ r. items_of (take n s) ++ r) (sym (items_of-free (drop n s) (λ b. get_or-drop n s b None ∙ rest (n + b) (omega arith))))
        ∙ sym (items_of-append (take n s) (drop n s))
        ∙ ap items_of (take-append-drop n s)

    pub items_of-groups : items_of (slots_of n us) ≡ items_in us
    items_of-groups = items_of-table ∙ items_of-all_slots us

-- ---- groups that change in some buckets of the table
module _ {V : Type 0} (n : ℕ) (us ws : List (Group V)) where
  pub same_table : all_slots ws ≡ all_slots us → slots_of n ws ≡ slots_of n us
  unfolding slots_of
  same_table same = ap (take n) same

  same_count : length (all_slots ws) ≡ length (all_slots us) → length ws ≡ length us
  same_count long = omega (arith, long, length-all_slots ws, length-all_slots us)

  pub table_same : all_slots ws ≡ all_slots us → IsTable n us → IsTable n ws
  table_same same table =
      record { count = same_count (ap length same) ∙ table.count; rest = λ c past. ap (λ s. slot_at s c) same ∙ table.rest c past }

  module _ (b : ℕ) (o : Option (ℕ × V)) (lt : b < n) (is : all_slots ws ≡ set (all_slots us) b o) where
    pub set_below : slots_of n ws ≡ set (slots_of n us) b o
    unfolding slots_of
    set_below = ap (take n) is ∙ take-set-lt n (all_slots us) b o lt

    pub table_set : IsTable n us → IsTable n ws
    table_set table =
        record {
          count = same_count (ap length is ∙ length-set (all_slots us) b o) ∙ table.count;
          rest = λ c past. ap (λ s. slot_at s c) is ∙ get_or-set_other (all_slots us) b c o None (omega arith) ∙ table.rest c past;
        }

  module _ (a b : ℕ) (la : a < n) (lb : b < n) (is : all_slots ws ≡ exchanged (all_slots us) a b) where
    pub exchanged_below : slots_of n ws ≡ exchanged (slots_of n us) a b
    unfolding slots_of
    exchanged_below =
        let s = all_slots us in
        ap (take n) is
        ∙ take-set-lt n (set s a (slot_at s b)) b (slot_at s a) lb
        ∙ ap (λ x. set x b (slot_at s a)) (take-set-lt n s a (slot_at s b) la)
        ∙ (λ i. set (set (take n s) a (sym (slot_below n us b lb) i)) b (sym (slot_below n us a la) i))

    pub table_exchanged : IsTable n us → IsTable n ws
    table_exchanged table =
        let s = all_slots us in
        let first = set s a (slot_at s b) in
        record {
          count = same_count (ap length is ∙ length-set first b (slot_at s a) ∙ length-set s a (slot_at s b)) ∙ table.count;
          rest = λ c past.
              ap (λ t. slot_at t c) is
              ∙ get_or-set_other first b c (slot_at s a) None (omega arith)
              ∙ get_or-set_other s a c (slot_at s b) None (omega arith)
              ∙ table.rest c past;
        }

-- a table of 2^bits buckets, by its groups alone
pub length-wide : {V : Type 0} (bits : ℕ) → IsTableSize bits → (us : List (Group V)) → length us ≡ lists_for (2 ^ bits) → length (slots_of (buckets_for bits) us) ≡ 2 ^ bits
length-wide bits size us count =
    ap (λ n. length (slots_of n us)) (some_buckets bits (omega (arith, size.many)))
    ∙ length-slots_of (2 ^ bits) us (omega (arith, count, sized_long (2 ^ bits) (sized bits size)))

-- the buckets of a table of 2^bits, as an index reads its groups
pub table_slots : {V : Type 0} (bits : ℕ) (us ws : List (Group V)) → 0 < bits → us ≡ ws → slots_of (2 ^ bits) us ≡ slots_of (buckets_for bits) ws
table_slots bits us ws some is = ap (λ n. slots_of n us) (sym (some_buckets bits some)) ∙ ap (slots_of (buckets_for bits)) is

module _ {V : Type 0} (n : ℕ) (us : List (Group V)) (b : ℕ) (inside : b < length (slots_of n us)) where
  pub inside_table : b < n
  unfolding slots_of
  inside_table = omega (arith, inside, length-take n (all_slots us))

  pub inside_groups : b < 64 * length us
  unfolding slots_of
  inside_groups = omega (arith, inside, length-take n (all_slots us), length-all_slots us)

-- 32 buckets with the same items in two tables
pub same_group_slots : {X : Type 0} (s t : List (Option X)) (i j : ℕ) → 32 * i + 32 ≤ length s → 32 * j + 32 ≤ length t
    → ((k : ℕ) → k < 32 → slot_at s (32 * i + k) ≡ slot_at t (32 * j + k)) → group s i ≡ group t j
same_group_slots s t i j ls lt same =
    let long_s : length (group s i) ≡ 32 = omega (arith, length-take 32 (drop (32 * i) s), length-drop (32 * i) s) in
    let long_t : length (group t j) ≡ 32 = omega (arith, length-take 32 (drop (32 * j) t), length-drop (32 * j) t) in
    ext_get_or None (group s i) (group t j) (long_s ∙ sym long_t) (λ k h.
    let within : k < 32 = omega (arith, h, long_s) in
    get_or-take 32 (drop (32 * i) s) k None within
    ∙ get_or-drop (32 * i) s k None
    ∙ same k within
    ∙ sym (get_or-take 32 (drop (32 * j) t) k None within ∙ get_or-drop (32 * j) t k None))
