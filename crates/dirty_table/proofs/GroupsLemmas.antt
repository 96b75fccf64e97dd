-- The keys of the cache as the groups in order of use.
use Rattle.std.proofs.Common.{◌≡◌, ℕ, suc, ◌+◌, ◌-◌, ◌<◌, ◌⊎◌, true, false, ◌||◌, List, [], ◌∷◌, length, take, Option, Some, None, is_some, refl, sym, ap, ◌∙◌, cond, nat_eq, arith, inl, inr}
use Rattle.std.proofs.lemmas.List.{take_all, length-map}
use Rattle.std.proofs.lemmas.Bool.{eqb-true}
use Rattle.std.specs.Map.{keys_of, lookup, lookup_entry, remove_entry}
use Rattle.std.specs.Option.{option_map_or}
use Rattle.lru.specs.LruCache.{LruCache, put_entries}
use Rattle.dirty_table.specs.Groups.{has, without_first, touched}

-- without a group that is absent a list is unchanged
pub without_absent : (k : ℕ) (xs : List ℕ) → has k xs ≡ false → without_first k xs ≡ xs
without_absent k [] h = refl
without_absent k (x ∷ xs) h = (elim (nat_eq k x) as (λ b. nat_eq k x ≡ b → without_first k (x ∷ xs) ≡ x ∷ xs) [
  | true ↦ λ t. let bad : true ≡ false = rw t at h in cc
  | false ↦ λ t. rw t (ap (λ l. x ∷ l) (without_absent k xs (rw t at h)))
]) refl

module _ {V : Type 0} (k : ℕ) where
  -- the keys that are left of the entries
  pub keys_remove : (es : List (ℕ × V)) → keys_of (remove_entry (nat_eq k) es) ≡ without_first k (keys_of es)
  keys_remove [] = refl
  keys_remove (e ∷ es) =
      elim (nat_eq k e.0) as (λ b. keys_of (cond b es (e ∷ remove_entry (nat_eq k) es)) ≡ cond b (keys_of es) (e.0 ∷ without_first k (keys_of es))) [
        | true ↦ refl
        | false ↦ ap (λ l. e.0 ∷ l) (keys_remove es)
      ]

  -- a look-up finds exactly the keys
  pub has_lookup : (es : List (ℕ × V)) → is_some (lookup (nat_eq k) es) ≡ has k (keys_of es)
  has_lookup [] = refl
  has_lookup (e ∷ es) =
      elim (nat_eq k e.0) as (λ b. is_some (cond b (Some e.1) (lookup (nat_eq k) es)) ≡ (b || has k (keys_of es))) [
        | true ↦ refl
        | false ↦ has_lookup es
      ]

  pub has_entry : (es : List (ℕ × V)) → is_some (lookup_entry (nat_eq k) es) ≡ has k (keys_of es)
  has_entry [] = refl
  has_entry (e ∷ es) =
      elim (nat_eq k e.0) as (λ b. is_some (cond b (Some e) (lookup_entry (nat_eq k) es)) ≡ (b || has k (keys_of es))) [
        | true ↦ refl
        | false ↦ has_entry es
      ]

  -- the entry found has the key
  pub key_of_entry : (es : List (ℕ × V)) (f : ℕ × V) → lookup_entry (nat_eq k) es ≡ Some f → k ≡ f.0
  key_of_entry [] f h = cc
  key_of_entry (e ∷ es) f h = (elim (nat_eq k e.0) as (λ b. nat_eq k e.0 ≡ b → k ≡ f.0) [
    | true ↦ λ t. let h' = rw t at h in let same : e ≡ f = cc in eqb-true k e.0 t ∙ ap (λ p. p.0) same
    | false ↦ λ t. key_of_entry es f (rw t at h)
  ]) refl

-- if there is room, `put` touches its key
pub keys_put : {V : Type 0} (c : LruCache ℕ V) (k : ℕ) (v : V) → (has k (keys_of c.entries) ≡ true) ⊎ (length (keys_of c.entries) < c.cap)
    → keys_of (put_entries nat_eq c k v) ≡ touched k (keys_of c.entries)
keys_put {V} c k v room = go (lookup_entry (nat_eq k) c.entries) refl
  where
    go : (o : Option (ℕ × V)) → lookup_entry (nat_eq k) c.entries ≡ o
        → keys_of (option_map_or (λ e. (e.0, v) ∷ remove_entry (nat_eq k) c.entries) o ((k, v) ∷ take (c.cap - 1) c.entries)) ≡ touched k (keys_of c.entries)
    go None e =
        let absent : has k (keys_of c.entries) ≡ false = sym (has_entry k c.entries) ∙ ap (λ o. is_some o) e in
        let fits : length (keys_of c.entries) < c.cap = elim room [ inl h ↦ cc | inr h ↦ h ] in
        let len : length (keys_of c.entries) ≡ length c.entries = length-map c.entries (λ e. e.0) in
        rw (take_all (c.cap - 1) c.entries (omega arith), without_absent k (keys_of c.entries) absent) refl
    go (Some f) e =
        rw (← key_of_entry k c.entries f e) (ap (λ l. k ∷ l) (keys_remove k c.entries))

-- ---- for callers: how long the list is after a step

pub length-without : (g : ℕ) (xs : List ℕ) → length (without_first g xs) + cond (has g xs) 1 0 ≡ length xs
length-without g [] = refl
length-without g (x ∷ xs) =
    elim (nat_eq g x) as (λ b. length (cond b xs (x ∷ without_first g xs)) + cond (b || has g xs) 1 0 ≡ suc (length xs)) [
      | true ↦ omega arith
      | false ↦ omega (arith, length-without g xs)
    ]
