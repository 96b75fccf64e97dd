-- The disk that reading back finds, whatever was lost.
use Rattle.std.proofs.Common.{◌≡◌, ◌≢◌, ◌⊎◌, refl, ℕ, zero, suc, ◌+◌, ◌-◌, ◌<◌, ◌≤◌, ◌==◌, ◌||◌, arith, inl, inr, Bool, true, false, cond, List, [], ◌∷◌, ◌++◌, length, drop, ap, sym, ◌∙◌, subst, eqb-true}
use Rattle.std.proofs.lemmas.Bool.{cases_Bool, false≢true}
use Rattle.ft_base.specs.PlainDisk.{BlockWrite, PlainDisk}
use Rattle.trace_model.specs.Run.{disk_written}
use Rattle.trace_model.specs.Fits.{WasNew}
use Rattle.trace_model.specs.Lost.{is_written, LooksLost, IsLeastLost}

-- ---- older block writes

-- at an address that these wrote, no older block shows
written_over : (writes older : List BlockWrite) (a : ℕ) → is_written writes a ≡ true → disk_written (writes ++ older) a ≡ disk_written writes a
written_over [] older a is = absurd (false≢true is)
written_over (w ∷ writes) older a is = elim (cases_Bool (w.lba == a)) [
  | inl t ↦ ap (λ b. cond b w.block (disk_written (writes ++ older) a)) t ∙ sym (ap (λ b. cond b w.block (disk_written writes a)) t)
  | inr f ↦
      let rest : is_written writes a ≡ true = sym (ap (λ b. b || is_written writes a) f) ∙ is in
      ap (cond (w.lba == a) w.block) (written_over writes older a rest)
]

-- at another address, the older ones alone count
not_written : (writes older : List BlockWrite) (a : ℕ) → is_written writes a ≡ false → disk_written (writes ++ older) a ≡ disk_written older a
not_written [] older a is = refl
not_written (w ∷ writes) older a is = elim (cases_Bool (w.lba == a)) [
  | inl t ↦ absurd (false≢true (sym is ∙ ap (λ b. b || is_written writes a) t))
  | inr f ↦
      let rest : is_written writes a ≡ false = sym (ap (λ b. b || is_written writes a) f) ∙ is in
      ap (λ b. cond b w.block (disk_written (writes ++ older) a)) f ∙ not_written writes older a rest
]

-- fewer block writes are to no more addresses
fewer_named : (n : ℕ) (writes : List BlockWrite) (a : ℕ) → is_written writes a ≡ false → is_written (drop n writes) a ≡ false
fewer_named zero writes a is = is
fewer_named (suc n) [] a is = is
fewer_named (suc n) (w ∷ writes) a is = fewer_named n writes a (rest (w.lba == a) is)
  where
    rest : (b : Bool) → (b || is_written writes a) ≡ false → is_written writes a ≡ false
    rest true e = absurd (false≢true (sym e))
    rest false e = e

later_named : (m k : ℕ) (writes : List BlockWrite) (a : ℕ) → m ≤ k → is_written (drop m writes) a ≡ false → is_written (drop k writes) a ≡ false
later_named zero k writes a le is = fewer_named k writes a is
later_named (suc m) zero writes a le is = absurd (omega arith)
later_named (suc m) (suc k) [] a le is = is
later_named (suc m) (suc k) (w ∷ writes) a le is = later_named m k writes a (omega arith) is

-- ---- the disk reads as it is

-- the disk reads as if the lost ones were lost
pub looks_so : (writes older : List BlockWrite) (disk : PlainDisk) (lost : ℕ) → ((a : ℕ) → disk a ≡ disk_written (drop lost writes ++ older) a) → LooksLost writes disk lost
looks_so writes older disk lost is a named = is a ∙ written_over (drop lost writes) older a named

-- the least number leaves the disk that is there, whatever number was lost
pub least_is : (writes older : List BlockWrite) (disk : PlainDisk) (lost least : ℕ) → ((a : ℕ) → disk a ≡ disk_written (drop lost writes ++ older) a)
    → IsLeastLost writes disk least → (least ≤ lost) × ((a : ℕ) → disk a ≡ disk_written (drop least writes ++ older) a)
least_is writes older disk lost least is found =
    let within : least ≤ lost = not_more in (within, λ a. at a within)
  where
    not_more : least ≤ lost
    not_more = by (let t = nat_order lost least in t)
      where
        nat_order : (x y : ℕ) → (x < y) ⊎ (y ≤ x)
        nat_order x zero = inr (omega arith)
        nat_order zero (suc y) = inl (omega arith)
        nat_order (suc x) (suc y) = elim (nat_order x y) [ inl l ↦ inl (omega arith) | inr l ↦ inr (omega arith) ]

        by : (lost < least) ⊎ (least ≤ lost) → least ≤ lost
        by (inl less) = absurd (found.least lost less (looks_so writes older disk lost is))
        by (inr le) = le

    at : (a : ℕ) → least ≤ lost → disk a ≡ disk_written (drop least writes ++ older) a
    at a le = elim (cases_Bool (is_written (drop least writes) a)) [
      | inl t ↦ found.looks a t ∙ sym (written_over (drop least writes) older a t)
      | inr f ↦ is a ∙ not_written (drop lost writes) older a (later_named least lost writes a le f) ∙ sym (not_written (drop least writes) older a f)
    ]

-- there is one least number
pub least_once : (writes : List BlockWrite) (disk : PlainDisk) (m n : ℕ) → IsLeastLost writes disk m → IsLeastLost writes disk n → m ≡ n
least_once writes disk m n one other = by (order m n) (order n m)
  where
    order : (x y : ℕ) → (x < y) ⊎ (y ≤ x)
    order x zero = inr (omega arith)
    order zero (suc y) = inl (omega arith)
    order (suc x) (suc y) = elim (order x y) [ inl l ↦ inl (omega arith) | inr l ↦ inr (omega arith) ]

    by : (m < n) ⊎ (n ≤ m) → (n < m) ⊎ (m ≤ n) → m ≡ n
    by (inl less) r = absurd (other.least m less one.looks)
    by (inr le) (inl less) = absurd (one.least n less other.looks)
    by (inr le) (inr ge) = omega arith

-- ---- the first of the lost block writes

-- one fewer is left
drop_less : (n : ℕ) (writes : List BlockWrite) (w : BlockWrite) (rest : List BlockWrite) → drop n writes ≡ w ∷ rest → drop (suc n) writes ≡ rest
drop_less zero [] w rest is = absurd (cc)
drop_less zero (x ∷ writes) w rest is = let both : x ∷ writes ≡ w ∷ rest = is in let tails : writes ≡ rest = cc in tails
drop_less (suc n) [] w rest is = absurd (cc)
drop_less (suc n) (x ∷ writes) w rest is = drop_less n writes w rest is

pub drop_front : (n : ℕ) (writes older : List BlockWrite) → n ≤ length writes → drop n (writes ++ older) ≡ drop n writes ++ older
drop_front zero writes older within = refl
drop_front (suc n) [] older within = absurd (omega arith)
drop_front (suc n) (w ∷ writes) older within = drop_front n writes older (omega arith)

drop_some : (n : ℕ) (writes : List BlockWrite) → n < length writes → (w : BlockWrite) × (rest : List BlockWrite) × (drop n writes ≡ w ∷ rest)
drop_some n [] within = absurd (omega arith)
drop_some zero (w ∷ writes) within = (w, writes, refl)
drop_some (suc n) (w ∷ writes) within = drop_some n writes (omega arith)

-- if the disk had its block, it would read as if one fewer were lost
pub first_is_new : (writes older : List BlockWrite) (disk : PlainDisk) (n : ℕ) → ((a : ℕ) → disk a ≡ disk_written (drop (suc n) writes ++ older) a)
    → n < length writes → IsLeastLost writes disk (suc n) → WasNew (drop n (writes ++ older))
first_is_new writes older disk n is within found =
    subst WasNew (sym (drop_front n writes older (omega arith) ∙ ap (λ (l : List BlockWrite). l ++ older) at.2)) new
  where
    at : (w : BlockWrite) × (rest : List BlockWrite) × (drop n writes ≡ w ∷ rest)
    at = drop_some n writes within

    after : drop (suc n) writes ≡ at.1
    after = drop_less n writes at.0 at.1 at.2

    disk_is : (a : ℕ) → disk a ≡ disk_written (at.1 ++ older) a
    disk_is a = is a ∙ ap (λ (l : List BlockWrite). disk_written (l ++ older) a) after

    looks : disk at.0.lba ≡ at.0.block → LooksLost writes disk n
    looks had a named = elim (cases_Bool (at.0.lba == a)) [
      | inl t ↦
          ap disk (sym (eqb-true at.0.lba a t)) ∙ had
          ∙ sym (ap (λ (l : List BlockWrite). disk_written l a) at.2 ∙ ap (λ b. cond b at.0.block (disk_written at.1 a)) t)
      | inr f ↦
          let rest : is_written at.1 a ≡ true = sym (ap (λ b. b || is_written at.1 a) f) ∙ sym (ap (λ (l : List BlockWrite). is_written l a) at.2) ∙ named in
          found.looks a (ap (λ (l : List BlockWrite). is_written l a) after ∙ rest)
          ∙ ap (λ (l : List BlockWrite). disk_written l a) after
          ∙ sym (ap (λ (l : List BlockWrite). disk_written l a) at.2 ∙ ap (λ b. cond b at.0.block (disk_written at.1 a)) f)
    ]

    new : disk_written (at.1 ++ older) at.0.lba ≢ at.0.block
    new had = found.least n (omega arith) (looks (disk_is at.0.lba ∙ had))
