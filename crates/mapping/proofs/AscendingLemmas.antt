-- Lists of entries in the order of their addresses.
use Rattle.std.proofs.Common.{◌≡◌, ℕ, zero, suc, ◌<◌, true, false, cond, List, [], ◌∷◌, length, get_or, Some, refl, ◌∙◌, ap, arith, nat_cmp, eq-eqb, ne_eqb}
use Rattle.std.specs.Ordering.{is_lt}
use Rattle.std.specs.Cmp.{nat_cmp_total}
use Rattle.std.proofs.lemmas.Bool.{and_parts}
use Rattle.std.specs.FinMap.{get, from_entries, find, is_sorted, get-from_entries}
use Rattle.std.specs.FinMap.Entries.{below_all}
use Rattle.cache_model.specs.declared.entry.Entry.{Entry}
use Rattle.mapping.proofs.Words.{Ascends}
use Rattle.cache_model.proofs.MapLemmas.{eq_key, less_key}

abbrev pub Items : Type 0
Items = List (ℕ × Entry)

pub below_at : (k : ℕ) (es : Items) (j : ℕ) (d : ℕ × Entry) → below_all nat_cmp k es ≡ true → j < length es → k < (get_or es j d).0
below_at k [] j d below within = absurd (omega arith)
below_at k (e ∷ es) zero d below within = less_key k e.0 (and_parts (is_lt (nat_cmp k e.0)) (below_all nat_cmp k es) below).0
below_at k (e ∷ es) (suc j) d below within = below_at k es j d (and_parts (is_lt (nat_cmp k e.0)) (below_all nat_cmp k es) below).1 (omega arith)

pub keys_rise : (es : Items) (i j : ℕ) (d : ℕ × Entry) → is_sorted nat_cmp es ≡ true → i < j → j < length es → (get_or es i d).0 < (get_or es j d).0
keys_rise [] i j d sorted lt within = absurd (omega arith)
keys_rise (e ∷ es) i zero d sorted lt within = absurd (omega arith)
keys_rise (e ∷ es) zero (suc j) d sorted lt within = below_at e.0 es j d (and_parts (below_all nat_cmp e.0 es) (is_sorted nat_cmp es) sorted).0 (omega arith)
keys_rise (e ∷ es) (suc i) (suc j) d sorted lt within = keys_rise es i j d (and_parts (below_all nat_cmp e.0 es) (is_sorted nat_cmp es) sorted).1 (omega arith) (omega arith)

abbrev pub spare_item : ℕ × Entry
spare_item = (0, record { place = record { block = 0; page = 0 }; dirty = false; block_mapped = false })

-- the entry at a place of the list is the entry of its address
pub get_here : (es : Items) (i : ℕ) (d : ℕ × Entry) → Ascends es → i < length es → get {R = nat_cmp} (from_entries es) (get_or es i d).0 ≡ Some (get_or es i d).1
get_here es i d up within = get-from_entries nat_cmp_total es (get_or es i d).0 ∙ here es i d up.sorted within
  where
    here : (es : Items) (i : ℕ) (d : ℕ × Entry) → is_sorted nat_cmp es ≡ true → i < length es → find nat_cmp (get_or es i d).0 es ≡ Some (get_or es i d).1
    here [] i d sorted within = absurd (omega arith)
    here (e ∷ es) zero d sorted within = ap (λ b. cond b (Some e.1) (find nat_cmp e.0 es)) (eq_key e.0 e.0 ∙ eq-eqb e.0 e.0 refl)
    here (e ∷ es) (suc i) d sorted within =
        let p = and_parts (below_all nat_cmp e.0 es) (is_sorted nat_cmp es) sorted in
        let low : e.0 < (get_or es i d).0 = below_at e.0 es i d p.0 (omega arith) in
        ap (λ b. cond b (Some e.1) (find nat_cmp (get_or es i d).0 es)) (eq_key (get_or es i d).0 e.0 ∙ ne_eqb (get_or es i d).0 e.0 (λ s. absurd (omega arith))) ∙ here es i d p.1 (omega arith)
