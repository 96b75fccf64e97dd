-- What clap's lexer makes of the words of an option.
use Rattle.std.proofs.Common.{◌≡◌, ℕ, Bool, true, false, ◌==◌, [], ◌∷◌, ◌++◌, Option, Some, None, refl, ap, ap₂, sym, ◌∙◌, ◌⊎◌, inl, inr, add-one, one-add, eqb-true}
use Rattle.std.specs.List.{before_first, after_first}
use Rattle.std.specs.Prelude.{option_and_then}
use Rattle.std.proofs.lemmas.Bool.{cases_Bool, not-true}
use Rattle.std.proofs.lemmas.Option.{cond_some, option_and_then_some, same_Some}
use Rattle.clap.specs.Lexer.{has_byte, long_of, long_of_rest, name_and_value, strip_byte}
use Rattle.flashtier_words.specs.Command.{Text}
use Rattle.flashtier_words.specs.Matching.{is_name}

abbrev is_equals : ℕ → Bool
is_equals b = b == 61

-- ---- at the first `=`

before_equals : (name value : Text) → has_byte 61 name ≡ false → before_first is_equals (name ++ 61 ∷ value) ≡ name
before_equals [] value free = refl
before_equals (b ∷ name) value free = elim (cases_Bool (b == 61)) [
  | inl t ↦ let bad : true ≡ false = rw t at free in cc
  | inr f ↦ rw (f, one-add) (ap (λ bytes. b ∷ bytes) (before_equals name value (rw f at free)))
]

after_equals : (name value : Text) → has_byte 61 name ≡ false → after_first is_equals (name ++ 61 ∷ value) ≡ value
after_equals [] value free = refl
after_equals (b ∷ name) value free = elim (cases_Bool (b == 61)) [
  | inl t ↦ let bad : true ≡ false = rw t at free in cc
  | inr f ↦ rw (f, one-add, add-one) (rw add-one at (after_equals name value (rw f at free)))
]

has_equals : (name value : Text) → has_byte 61 (name ++ 61 ∷ value) ≡ true
has_equals [] value = refl
has_equals (b ∷ name) value = elim (cases_Bool (b == 61)) [ inl t ↦ rw t refl | inr f ↦ rw f (has_equals name value) ]

whole_name : (name : Text) → has_byte 61 name ≡ false → before_first is_equals name ≡ name
whole_name [] free = refl
whole_name (b ∷ name) free = elim (cases_Bool (b == 61)) [
  | inl t ↦ let bad : true ≡ false = rw t at free in cc
  | inr f ↦ rw (f, one-add) (ap (λ bytes. b ∷ bytes) (whole_name name (rw f at free)))
]

split_equals : (text : Text) → has_byte 61 text ≡ true → text ≡ before_first is_equals text ++ 61 ∷ after_first is_equals text
split_equals [] there = cc
split_equals (b ∷ text) there = elim (cases_Bool (b == 61)) [
  | inl t ↦ rw t (ap (λ c. c ∷ text) (eqb-true b 61 t))
  | inr f ↦ rw (f, one-add, add-one) (ap (λ bytes. b ∷ bytes) (rw add-one at (split_equals text (rw f at there))))
]

-- ---- an option's word

pub long_joined : (name value : Text) → is_name name ≡ true → long_of (45 ∷ 45 ∷ (name ++ 61 ∷ value)) ≡ Some (name, Some value)
long_joined [] value is = cc
long_joined (b ∷ name) value is =
    let free : has_byte 61 (b ∷ name) ≡ false = not-true (has_byte 61 (b ∷ name)) is in
    rw (has_equals (b ∷ name) value) (ap₂ (λ (n v : Text). Some (n, Some v)) (before_equals (b ∷ name) value free) (after_equals (b ∷ name) value free))

pub long_apart : (name : Text) → is_name name ≡ true → long_of (45 ∷ 45 ∷ name) ≡ Some (name, None)
long_apart [] is = cc
long_apart (b ∷ name) is =
    let free : has_byte 61 (b ∷ name) ≡ false = not-true (has_byte 61 (b ∷ name)) is in
    rw free (ap (λ (n : Text). Some (n, None)) (whole_name (b ∷ name) free))

strip_is : (word rest : Text) → strip_byte 45 word ≡ Some rest → word ≡ 45 ∷ rest
strip_is [] rest is = cc
strip_is (b ∷ bytes) rest is = let parts = cond_some (b == 45) bytes rest is in ap₂ (λ c cs. c ∷ cs) (eqb-true b 45 parts.0) parts.1

rest_is : (rest : Text) (p : Text × Option Text) → long_of_rest rest ≡ Some p → name_and_value rest ≡ p
rest_is [] p is = cc
rest_is (b ∷ bytes) p is = same_Some (name_and_value (b ∷ bytes)) p is

long_is : (word : Text) (p : Text × Option Text) → long_of word ≡ Some p → (rest : Text) × (word ≡ 45 ∷ 45 ∷ rest) × (name_and_value rest ≡ p)
long_is word p is =
    option_and_then_some long_of_rest (option_and_then (strip_byte 45) (strip_byte 45 word)) p is (λ rest there named.
    option_and_then_some (strip_byte 45) (strip_byte 45 word) rest there (λ half first second.
    (rest, strip_is word half first ∙ ap (λ bytes. 45 ∷ bytes) (strip_is half rest second), rest_is rest p named)))

pub joined_is : (word name value : Text) → long_of word ≡ Some (name, Some value) → word ≡ 45 ∷ 45 ∷ (name ++ 61 ∷ value)
joined_is word name value is =
    let (rest, same, parts) = long_is word (name, Some value) is in
    let after = cond_some (has_byte 61 rest) (after_first is_equals rest) value (ap (λ (q : Text × Option Text). q.1) parts) in
    same ∙ ap (λ bytes. 45 ∷ 45 ∷ bytes) (split_equals rest after.0 ∙ ap₂ (λ n v. n ++ 61 ∷ v) (ap (λ (q : Text × Option Text). q.0) parts) after.1)

pub apart_is : (word name : Text) → long_of word ≡ Some (name, None) → word ≡ 45 ∷ 45 ∷ name
apart_is word name is =
    let (rest, same, parts) = long_is word (name, None) is in
    same ∙ ap (λ bytes. 45 ∷ 45 ∷ bytes) (no_equals rest (cases_Bool (has_byte 61 rest)) parts)
  where
    no_equals : (rest : Text) → (has_byte 61 rest ≡ true) ⊎ (has_byte 61 rest ≡ false) → name_and_value rest ≡ (name, None) → rest ≡ name
    no_equals rest (inl t) parts = let bad : Some (after_first is_equals rest) ≡ None = rw t at (ap (λ (q : Text × Option Text). q.1) parts) in cc
    no_equals rest (inr f) parts = sym (whole_name rest f) ∙ ap (λ (q : Text × Option Text). q.0) parts
