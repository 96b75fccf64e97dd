-- Reading a header by spelling it again.
use Rattle.std.proofs.Common.{◌≡◌, ◌↔◌, ℕ, Bool, true, List, take, Some, None, Option, IsTrue, refl, sym, ◌∙◌, subst}
use Rattle.std.specs.Str.{bytes_eq}
use Rattle.std.proofs.lemmas.Slice.Eq.{bytes_eq-Decides}
use Rattle.cache_model.specs.declared.format.Header.{Header}
use Rattle.std.proofs.lemmas.Bool.{and_from, and_parts}
use Rattle.cache_model.specs.Spelling.{spelled_header, header_in_range, is_log_or_map, IsHeaderOf, IsPageHeaderOf}
use Rattle.cache_model.specs.Reading.{header_in, read_header, read_page_header}
use Rattle.cache_model.proofs.ReadingLemmas.{header_is}
use Rattle.cache_model.proofs.SpellingLemmas.{any_header_spelled, any_header_there, header_spelled}

-- the tests together are the grammar of a header
pub has_header_is : (bytes spelling line : List ℕ) (h : Header) (same good : Bool) → spelling ≡ spelled_header h → line ≡ take 32 bytes → same ≡ bytes_eq spelling line → same ≡ true → good ≡ header_in_range h → IsTrue good ↔ IsHeaderOf bytes h
has_header_is bytes spelling line h same good spells at test t range =
    let equal : spelling ≡ line = (bytes_eq-Decides spelling line).0 (sym test ∙ t) in (
      λ u. record { spelled = sym at ∙ sym equal ∙ spells; header = sym range ∙ u },
      λ is. range ∙ is.header,
    )

pub no_header : (bytes : List ℕ) (h : Header) → h ≡ header_in (take 32 bytes) → (IsPageHeaderOf bytes h → ⊥) → None ≡ read_page_header bytes
no_header bytes h there not = by_answer (read_page_header bytes) refl
  where
    by_answer : (o : Option Header) → read_page_header bytes ≡ o → None ≡ o
    by_answer None is = refl
    by_answer (Some w) is = absurd (not (subst (λ (k : Header). IsPageHeaderOf bytes k) (sym (header_is bytes w is).there ∙ sym there) (header_spelled bytes w is)))

pub no_any_header : (bytes : List ℕ) (h : Header) → h ≡ header_in (take 32 bytes) → (IsHeaderOf bytes h → ⊥) → None ≡ read_header bytes
no_any_header bytes h there not = by_answer (read_header bytes) refl
  where
    by_answer : (o : Option Header) → read_header bytes ≡ o → None ≡ o
    by_answer None is = refl
    by_answer (Some w) is = absurd (not (subst (λ (k : Header). IsHeaderOf bytes k) (sym (any_header_there bytes w is) ∙ sym there) (any_header_spelled bytes w is)))

-- a header is the header of a page of records if its kind is
pub page_header_of : (bytes : List ℕ) (h : Header) (kind there : Bool) → kind ≡ true → kind ≡ is_log_or_map h.kind → IsTrue there ↔ IsHeaderOf bytes h → IsTrue there ↔ IsPageHeaderOf bytes h
page_header_of bytes h kind there t is tells = (
  λ u. let head = tells.0 u in record { spelled = head.spelled; header = and_from _ _ head.header (sym is ∙ t) },
  λ head. tells.1 (record { spelled = head.spelled; header = (and_parts _ _ head.header).0 }),
)
