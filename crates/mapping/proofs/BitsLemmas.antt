-- Sets of pages, built up page by page.
use Rattle.std.proofs.Common.{◌≡◌, ℕ, zero, suc, ◌+◌, ◌-◌, ◌*◌, ◌/◌, ◌^◌, ◌<◌, ◌≤◌, ◌==◌, ◌&&◌, nat_lt, Option, Some, None, inl, inr, ne_eqb, lt-ltb, le-ltb, Bool, true, false, cond, add-one, pow-suc, refl, sym, ◌∙◌, ap, arith}
use Rattle.std.specs.Int.{bit_at}
use Rattle.std.proofs.lemmas.Nat.{div-mul-add}
use Rattle.std.proofs.lemmas.Nat.Bits.{bit_at-zero, bit_at_above, bit_at_cat_low, bit_at_cat_high}
use Rattle.std.proofs.Math.Bool.{and-true, and-false}
use Rattle.std.proofs.lemmas.Bool.{cases_Bool, cases_lt, cases_eq, both_ways, and_parts, and_from}
use Rattle.std.specs.FinMap.{get}
use Rattle.ft_base.specs.declared.geometry.Geometry.{Geometry}
use Rattle.cache_model.specs.declared.entry.Entry.{Entry}
use Rattle.cache_model.specs.Records.{Entries, has_bit}
use Rattle.cache_model.specs.Entries.{IsMap}
use Rattle.mapping.specs.declared.bits.Choice.{Choice}
use Rattle.mapping.specs.declared.bits.Choice.TheVariants.{Mapped, MappedDirty}
use Rattle.mapping.proofs.CountsLemmas.{div_mono}
use Rattle.mapping.specs.Bits.{set_of, is_chosen, chosen_of}

pub set_below : (test : ℕ → Bool) (n : ℕ) → set_of test n < 2 ^ n
set_below test zero = omega arith
set_below test (suc n) =
    let before = set_below test n in
    let double : 2 ^ suc n ≡ 2 ^ n + 2 ^ n = twice n in
    bounded (test n) (set_of test n) (2 ^ n) (2 ^ suc n) before double
  where
    twice : (n : ℕ) → 2 ^ suc n ≡ 2 ^ n + 2 ^ n
    twice n = rw pow-suc (omega arith)

    bounded : (b : Bool) (s p q : ℕ) → s < p → q ≡ p + p → s + cond b p 0 < q
    bounded true s p q low is = omega arith
    bounded false s p q low is = omega arith

pub record SetSoFar (test : ℕ → Bool) (page set : ℕ) : Type 0 where
  pub is : set ≡ set_of test page
  pub below : set < 2 ^ page

-- one page more
pub set_more : (test : ℕ → Bool) (page set more : ℕ) → SetSoFar test page set → more ≡ set + cond (test page) (2 ^ page) 0 → more < 2 ^ (page + 1) → SetSoFar test (page + 1) more
set_more test page set more so_far is below = record {
  is = is ∙ ap (λ n. n + cond (test page) (2 ^ page) 0) so_far.is ∙ sym (ap (set_of test) (add-one page));
  below = below;
}

-- ---- the bits of a set

as_sum : (b : Bool) (s p : ℕ) → s + cond b p 0 ≡ cond b 1 0 * p + s
as_sum true s p = omega arith
as_sum false s p = omega arith

top_bit : (b : Bool) (k : ℕ) → (bit_at (cond b 1 0) k == 1) ≡ (b && (k == 0))
top_bit true zero = refl
top_bit true (suc k) = ap (λ n. n == 1) (bit_at_above 1 1 (suc k) (omega arith) (omega arith)) ∙ sym (ne_eqb (suc k) 0 (λ e. absurd (omega arith)))
top_bit false k = ap (λ n. n == 1) (bit_at-zero k)

-- a page is in the set exactly when it is below n and passes
pub bit_of_set : (test : ℕ → Bool) (n i : ℕ) → has_bit (set_of test n) i ≡ (nat_lt i n && test i)
bit_of_set test zero i = ap (λ k. k == 1) (bit_at-zero i) ∙ ap (λ b. b && test i) (sym (le-ltb i 0 (omega arith)))
bit_of_set test (suc n) i = elim (cases_lt i n) [
  | inl low ↦
      ap (λ k. bit_at k i == 1) (as_sum (test n) (set_of test n) (2 ^ n)) ∙ ap (λ k. k == 1) (bit_at_cat_low (cond (test n) 1 0) n (set_of test n) i low)
      ∙ bit_of_set test n i ∙ ap (λ b. b && test i) (lt-ltb i n low ∙ sym (lt-ltb i (suc n) (omega arith)))
  | inr high ↦
      ap (λ k. bit_at k i == 1) (as_sum (test n) (set_of test n) (2 ^ n)) ∙ ap (λ k. k == 1) (bit_at_cat_high (cond (test n) 1 0) n (set_of test n) i (set_below test n) high)
      ∙ top_bit (test n) (i - n)
      ∙ elim (cases_eq i n) [
        | inl same ↦ ap (λ k. test n && (k == 0)) (gone i n same) ∙ and-true (test n) ∙ ap test (sym same) ∙ ap (λ b. b && test i) (sym (lt-ltb i (suc n) (omega arith)))
        | inr other ↦ ap (λ b. test n && b) (ne_eqb (i - n) 0 (λ e. other (omega arith))) ∙ and-false (test n) ∙ ap (λ b. b && test i) (sym (le-ltb i (suc n) (omega arith)))
      ]
]
  where
    gone : (i n : ℕ) → i ≡ n → i - n ≡ 0
    gone i n same = omega arith

pub set_of_none : (test : ℕ → Bool) (n : ℕ) → ((i : ℕ) → i < n → test i ≡ false) → set_of test n ≡ 0
set_of_none test zero none = refl
set_of_none test (suc n) none = ap (λ b. set_of test n + cond b (2 ^ n) 0) (none n (omega arith)) ∙ ap (λ k. k + 0) (set_of_none test n (λ i low. none i (omega arith)))

-- ---- the sets of a map

chosen_is : (choice : Choice) (o : Option Entry) → is_chosen choice o ≡ true → (e : Entry) × (o ≡ Some e)
chosen_is choice None t = absurd (let f : is_chosen choice None ≡ false = refl in both_ways (is_chosen choice None) f t)
chosen_is choice (Some e) t = (e, refl)

pub chosen_beyond : (g : Geometry) (m : Entries) (choice : Choice) (group : ℕ) → IsMap g m → (g.size - 1) / g.p < group → 0 ≡ chosen_of choice g m group
chosen_beyond g m choice group is_map over = sym (set_of_none (λ i. is_chosen choice (get m (group * g.p + i))) g.p (λ i low. elim (cases_Bool (is_chosen choice (get m (group * g.p + i)))) [
  | inl t ↦
      let x = chosen_is choice (get m (group * g.p + i)) t in
      let within = is_map.within (group * g.p + i) x.0 x.1 in
      let quotient = div-mul-add group g.p i low in
      let less : (group * g.p + i) / g.p ≤ (g.size - 1) / g.p = div_mono (group * g.p + i) (g.size - 1) g.p (omega (arith, g.in_range.p_low)) (omega arith) in
      absurd (omega (arith, quotient))
  | inr f ↦ f
]))

-- each dirty page of a data block is present
pub dirty_within : (g : Geometry) (m : Entries) (group page : ℕ) → has_bit (chosen_of MappedDirty g m group) page ≡ true → has_bit (chosen_of Mapped g m group) page ≡ true
dirty_within g m group page t =
    let p = and_parts (nat_lt page g.p) (is_chosen MappedDirty (get m (group * g.p + page))) (sym (bit_of_set (λ i. is_chosen MappedDirty (get m (group * g.p + i))) g.p page) ∙ t) in
    bit_of_set (λ i. is_chosen Mapped (get m (group * g.p + i))) g.p page ∙ and_from _ _ p.0 (mapped (get m (group * g.p + page)) p.1)
  where
    mapped : (o : Option Entry) → is_chosen MappedDirty o ≡ true → is_chosen Mapped o ≡ true
    mapped None t = t
    mapped (Some e) t = (and_parts e.block_mapped e.dirty t).0
