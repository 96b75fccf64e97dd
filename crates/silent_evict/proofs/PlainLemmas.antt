-- The facts that the plain programs have about the entries that they have looked at.
use Rattle.std.proofs.Common.{◌≡◌, ℕ, ◌+◌, ◌/◌, ◌<◌, ◌≤◌, ◌⊎◌, Bool, true, false, Some, refl, subst, arith, inl, inr}
use Rattle.std.specs.FinMap.{get}
use Rattle.std.proofs.lemmas.Bool.{cases_Bool, cases_lt, both_ways}
use Rattle.ft_base.specs.declared.geometry.Geometry.{Geometry}
use Rattle.ft_base.specs.declared.block.Place.{Place}
use Rattle.cache_model.specs.declared.entry.Entry.{Entry}
use Rattle.cache_model.specs.Records.{Entries}
use Rattle.cache_model.specs.Entries.{IsMap}
use Rattle.mapping.specs.declared.bits.Choice.TheVariants.{Mapped}
use Rattle.mapping.specs.Numbers.{HasNumber, HasNone, AreNumbered}
use Rattle.silent_evict.specs.Candidates.{HoldsCleanAlone, IsCandidate, IsVictim, IsDirtyAt, pages_held}
use Rattle.silent_evict.proofs.GroupLemmas.{chosen_some, pages_held-none}
use Rattle.silent_evict.proofs.EntryLemmas.{EachBefore, each_more, each_passed, each_entry}

-- ---- a wholly clean group

-- the group's entries among the first i numbers are clean, and there is one exactly when `held` is true
pub record CleanSoFar (g : Geometry) (m : Entries) (group i : ℕ) (held : Bool) : Type 0 where
  pub clean : EachBefore g m (λ a e. a / g.p ≡ group → e.dirty ≡ false) i
  pub some : held ≡ true → (a : ℕ) × (e : Entry) × (get m a ≡ Some e) × (a / g.p ≡ group)
  pub none : held ≡ false → EachBefore g m (λ a e. a / g.p ≡ group → ⊥) i

pub clean_passed : (g : Geometry) (m : Entries) (group i : ℕ) (held : Bool) → CleanSoFar g m group i held → HasNone g m i → CleanSoFar g m group (i + 1) held
clean_passed g m group i held so_far none = record { clean = each_passed g m _ i so_far.clean none; some = so_far.some; none = λ f. each_passed g m _ i (so_far.none f) none }

module _ (g : Geometry) (m : Entries) (is_map : IsMap g m) (group i lba : ℕ) (at : Place) (held : Bool) (has : HasNumber g m i (lba, at)) (so_far : CleanSoFar g m group i held) where
  pub clean_here : lba / g.p ≡ group → (IsDirtyAt m lba → ⊥) → CleanSoFar g m group (i + 1) true
  clean_here here clean = record {
    clean = each_more g m is_map _ _ i lba at so_far.clean (λ a e was. was) has (λ e there _. not_dirty e there (cases_Bool e.dirty));
    some = λ t. (lba, has.owns.0, has.owns.1, here);
    none = λ f. absurd (both_ways true f refl);
  }
    where
      not_dirty : (e : Entry) → get m lba ≡ Some e → (e.dirty ≡ true) ⊎ (e.dirty ≡ false) → e.dirty ≡ false
      not_dirty e there (inl t) = absurd (clean (e, there, t))
      not_dirty e there (inr f) = f

  pub clean_elsewhere : (lba / g.p ≡ group → ⊥) → CleanSoFar g m group (i + 1) held
  clean_elsewhere other = record {
    clean = each_more g m is_map _ _ i lba at so_far.clean (λ a e was. was) has (λ e there here. absurd (other here));
    some = so_far.some;
    none = λ f. each_more g m is_map _ _ i lba at (so_far.none f) (λ a e was. was) has (λ e there here. other here);
  }

module _ (g : Geometry) (m : Entries) (group i numbers : ℕ) (held : Bool) (all : AreNumbered g m numbers) (past : numbers ≤ i) (so_far : CleanSoFar g m group i held) where
  pub clean_all : held ≡ true → HoldsCleanAlone g m group
  clean_all t = record { held = so_far.some t; clean = each_entry g m (λ a e. a / g.p ≡ group → e.dirty ≡ false) i numbers all past so_far.clean }

  pub clean_held : HoldsCleanAlone g m group → held ≡ true
  clean_held clean = elim (cases_Bool held) [
    | inl t ↦ t
    | inr f ↦ let found = clean.held in absurd (each_entry g m (λ a e. a / g.p ≡ group → ⊥) i numbers all past (so_far.none f) found.0 found.1 found.2 found.3)
  ]

-- ---- a candidate

pub candidate_from_pages : (g : Geometry) (m : Entries) (group : ℕ) → 0 < pages_held g m group → HoldsCleanAlone g m group → IsCandidate g m group
candidate_from_pages g m group some clean = record { some = chosen_some g m group Mapped (λ none. let empty = pages_held-none g m group none in omega arith); clean = clean.clean }

pub clean_candidate : (g : Geometry) (m : Entries) (group : ℕ) → IsCandidate g m group → HoldsCleanAlone g m group
clean_candidate g m group candidate = record { held = let found = candidate.some in (found.0, found.1, found.2, found.3); clean = candidate.clean }

-- ---- a victim

-- no candidate among the groups of the entries with the first i numbers has fewer pages
pub record LeastSoFar (g : Geometry) (m : Entries) (group i : ℕ) : Type 0 where
  pub least : EachBefore g m (λ a _. pages_held g m (a / g.p) < pages_held g m group → IsCandidate g m (a / g.p) → ⊥) i

pub least_passed : (g : Geometry) (m : Entries) (group i : ℕ) → LeastSoFar g m group i → HasNone g m i → LeastSoFar g m group (i + 1)
least_passed g m group i so_far none = record { least = each_passed g m _ i so_far.least none }

pub least_more : (g : Geometry) (m : Entries) → IsMap g m → (group i lba : ℕ) (at : Place) → HasNumber g m i (lba, at) → LeastSoFar g m group i → (pages_held g m (lba / g.p) < pages_held g m group → IsCandidate g m (lba / g.p) → ⊥) → LeastSoFar g m group (i + 1)
least_more g m is_map group i lba at has so_far here = record { least = each_more g m is_map _ _ i lba at so_far.least (λ a e was. was) has (λ e there. here) }

pub least_all : (g : Geometry) (m : Entries) (group i numbers : ℕ) → AreNumbered g m numbers → numbers ≤ i → LeastSoFar g m group i → IsCandidate g m group → IsVictim g m group
least_all g m group i numbers all past so_far candidate = record {
  candidate = candidate;
  least = λ other may. elim (cases_lt (pages_held g m other) (pages_held g m group)) [
    | inl fewer ↦
        let found = may.some in
        let never = each_entry g m (λ a _. pages_held g m (a / g.p) < pages_held g m group → IsCandidate g m (a / g.p) → ⊥) i numbers all past so_far.least found.0 found.1 found.2 in
        absurd (subst (λ n. pages_held g m n < pages_held g m group → IsCandidate g m n → ⊥) found.3 never fewer may)
    | inr most ↦ most
  ];
}

pub never_victim : (g : Geometry) (m : Entries) (group other : ℕ) → pages_held g m other < pages_held g m group → IsCandidate g m other → IsVictim g m group → ⊥
never_victim g m group other fewer may victim = let least = victim.least other may in absurd (omega arith)
