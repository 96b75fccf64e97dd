-- Reading spare bytes by spelling them again.
use Rattle.std.proofs.Common.{◌≡◌, ℕ, Bool, true, false, ◌&&◌, cond, List, Some, None, refl, sym, ◌∙◌, ap, w64}
use Rattle.std.specs.Str.{bytes_eq}
use Rattle.cache_model.specs.declared.format.SpareKind.{SpareKind}
use Rattle.cache_model.specs.Spelling.{SpareFields, spare_fields, spelled_spare, spare_in_range, IsSpare}
use Rattle.cache_model.specs.Reading.{byte, number, spare_kind_of, spare_fields_in, read_spare}
use Rattle.cache_model.proofs.SpellingLemmas.{spare_read}

-- the fields that were found in the bytes, and the meaning of the tests
pub record Found (bytes : List ℕ) (kind : SpareKind) (era address : ℕ) : Type 0 where
  pub kind_is : kind ≡ spare_kind_of (byte 4 bytes)
  pub era_is : era ≡ byte 5 bytes
  pub address_is : address ≡ number w64 8 bytes

there : (bytes : List ℕ) (kind : SpareKind) (era address : ℕ) → Found bytes kind era address → spare_fields_in bytes ≡ spare_fields kind era address
there bytes kind era address found = λ i. spare_fields (sym found.kind_is i) (sym found.era_is i) (sym found.address_is i)

by_tests : (bytes spelling : List ℕ) (kind : SpareKind) (era address : ℕ) (same good : Bool) → Found bytes kind era address → spelling ≡ spelled_spare (spare_fields kind era address)
    → same ≡ bytes_eq spelling bytes → good ≡ spare_in_range (spare_fields kind era address) → read_spare bytes ≡ cond (same && good) (Some (spare_fields kind era address)) None
unfolding read_spare
by_tests bytes spelling kind era address same good found spells test range =
    ap (λ f. cond (bytes_eq (spelled_spare f) bytes && spare_in_range f) (Some f) None) (there bytes kind era address found)
    ∙ ap (λ s. cond (bytes_eq s bytes && spare_in_range (spare_fields kind era address)) (Some (spare_fields kind era address)) None) (sym spells)
    ∙ ap (λ b. cond (b && spare_in_range (spare_fields kind era address)) (Some (spare_fields kind era address)) None) (sym test)
    ∙ ap (λ b. cond (same && b) (Some (spare_fields kind era address)) None) (sym range)

pub not_same : (bytes spelling : List ℕ) (kind : SpareKind) (era address : ℕ) (same : Bool) → Found bytes kind era address → spelling ≡ spelled_spare (spare_fields kind era address) → same ≡ bytes_eq spelling bytes → same ≡ false → read_spare bytes ≡ None
not_same bytes spelling kind era address same found spells test f =
    by_tests bytes spelling kind era address same (spare_in_range (spare_fields kind era address)) found spells test refl
    ∙ ap (λ b. cond (b && spare_in_range (spare_fields kind era address)) (Some (spare_fields kind era address)) None) f

pub not_good : (bytes spelling : List ℕ) (kind : SpareKind) (era address : ℕ) (same good : Bool) → Found bytes kind era address → spelling ≡ spelled_spare (spare_fields kind era address)
    → same ≡ bytes_eq spelling bytes → same ≡ true → good ≡ spare_in_range (spare_fields kind era address) → good ≡ false → read_spare bytes ≡ None
not_good bytes spelling kind era address same good found spells test t range f =
    by_tests bytes spelling kind era address same good found spells test range
    ∙ ap (λ b. cond (b && good) (Some (spare_fields kind era address)) None) t ∙ ap (λ b. cond b (Some (spare_fields kind era address)) None) f

pub found : (bytes spelling : List ℕ) (kind : SpareKind) (era address : ℕ) (same good : Bool) → Found bytes kind era address → spelling ≡ spelled_spare (spare_fields kind era address)
    → same ≡ bytes_eq spelling bytes → same ≡ true → good ≡ spare_in_range (spare_fields kind era address) → good ≡ true → read_spare bytes ≡ Some (spare_fields kind era address)
found bytes spelling kind era address same good is spells test t range u =
    by_tests bytes spelling kind era address same good is spells test range
    ∙ ap (λ b. cond (b && good) (Some (spare_fields kind era address)) None) t ∙ ap (λ b. cond b (Some (spare_fields kind era address)) None) u

pub outside : (bytes : List ℕ) → read_spare bytes ≡ None → (fields : SpareFields) → IsSpare bytes fields → ⊥
outside bytes none fields is = none_is_some fields (sym none ∙ spare_read bytes fields is)
  where
    none_is_some : (f : SpareFields) → None ≡ Some f → ⊥
    none_is_some f both = absurd (cc)
