-- The dirty entries of a range of addresses.
use Rattle.std.specs.Prelude.{[], ◌≡◌, ℕ, ◌+◌, ◌*◌, ◌&&◌, nat_le, nat_lt, ◌==◌, Bool, true, false, if◌then◌else◌, Option, None, Some, List, ◌∷◌, ◌++◌, count_by, filter, map, option_map, unwrap_or}
use Rattle.std.specs.FinMap.{get}
use Rattle.ft_base.specs.declared.geometry.Geometry.{Geometry}
use Rattle.cache_model.specs.declared.entry.Entry.{Entry}
use Rattle.cache_model.specs.Records.{Entries}
use Rattle.cache_model.specs.CacheList.{CacheList}
use Rattle.mapping.specs.Bits.{set_of}
use Rattle.mapping.specs.Numbers.{number_of}

-- the entry is dirty, and its address is at least `from` and below `end`
abbrev pub is_dirty_from : ℕ → ℕ → ℕ × Entry → Bool
is_dirty_from from end x = x.1.dirty && nat_le from x.0 && nat_lt x.0 end

-- the addresses of the dirty entries, at least `from` and below `end`, in the order of the entries
abbrev pub listed : ℕ → ℕ → List (ℕ × Entry) → List ℕ
listed from end es = map (λ x. x.0) (filter (is_dirty_from from end) es)

-- the address of the entry with this number, if it is listed; `None` if no entry with the number is listed
abbrev pub IsListedAt : Geometry → Entries → ℕ → ℕ → ℕ → Option ℕ → Type 0
IsListedAt g m from end number None = (a : ℕ) (e : Entry) → get m a ≡ Some e → number_of g e.place ≡ number
    → is_dirty_from from end (a, e) ≡ false
IsListedAt g m from end number (Some a) = (e : Entry) × (get m a ≡ Some e) × (number_of g e.place ≡ number)
    × (is_dirty_from from end (a, e) ≡ true)

-- one address, or none
abbrev pub shown : Option ℕ → List ℕ
shown None = []
shown (Some lba) = lba ∷ []

-- the old items come first, and then the address of the entry with this number, if it is listed
abbrev pub AddsNumber : Geometry → Entries → ℕ → ℕ → ℕ → List ℕ → List ℕ → Type 0
AddsNumber g m from end number old new = (at : Option ℕ) × IsListedAt g m from end number at × (new ≡ old ++ shown at)

-- how often an address is listed, by its entry: once or not at all
abbrev pub times_listed : ℕ → ℕ → ℕ → Option Entry → ℕ
times_listed from end a None = 0
times_listed from end a (Some e) = if is_dirty_from from end (a, e) then 1 else 0

-- the old items come first, and then each listed address once, and no other
pub record AddsListed (from end : ℕ) (m : Entries) (old new : List ℕ) : Type 0 where
  pub found : List ℕ
  pub items : new ≡ old ++ found
  pub each : (a : ℕ) → count_by (λ n. n == a) found ≡ times_listed from end a (get m a)

-- the address is held dirty
abbrev pub is_held_dirty : CacheList → ℕ → Bool
is_held_dirty s a = unwrap_or (option_map (λ h. h.dirty) (get s a)) false

-- the dirty pages of a group: the bit of value 2^i for its address i
abbrev pub dirty_pages : Geometry → CacheList → ℕ → ℕ
dirty_pages g s group = set_of (λ i. is_held_dirty s (group * g.p + i)) g.p
