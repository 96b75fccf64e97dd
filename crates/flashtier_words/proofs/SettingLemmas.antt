-- The words that spell options are those from which just these options are read.
use Rattle.std.proofs.Common.{◌≡◌, true, false, cond, List, [], ◌∷◌, ◌++◌, append_assoc, append-nil, flat_map, bytes_eq, Option, Some, None, option_map, refl, ap, ap₂, sym, subst, ◌∙◌, inl, inr}
use Rattle.std.specs.Prelude.{option_and_then}
use Rattle.std.specs.List.{AllByRecursion, list_all}
use Rattle.std.proofs.lemmas.Bool.{cases_Bool, and_parts, both_ways, or_from, or_parts}
use Rattle.std.proofs.lemmas.Option.{option_and_then_some, same_Some}
use Rattle.std.proofs.lemmas.Slice.Eq.{bytes_eq-Decides}
use Rattle.clap.specs.Lexer.{long_of}
use Rattle.flashtier_words.specs.Command.{AreOnce, IsSetting, Setting, Spells, Text, begins_with_minus, is_known, value_in, words_of}
use Rattle.flashtier_words.proofs.Pairs.{Pair, has_name, joined, option_begun, options_of, pair_of, pair_value, pairs_from, pairs_of}
use Rattle.flashtier_words.specs.Matching.{is_name}
use Rattle.flashtier_words.proofs.WordLemmas.{apart_is, joined_is, long_apart, long_joined}

pub value_pairs : (settings : List Setting) (name : Text) → pair_value name (pairs_of settings) ≡ value_in settings name
value_pairs [] name = refl
value_pairs (s ∷ settings) name = ap (cond (bytes_eq s.name name) (Some s.value)) (value_pairs settings name)

-- ---- each name at most once

differ : (a b : Text) → bytes_eq a b ≡ false → bytes_eq b a ≡ false
differ a b h = elim (cases_Bool (bytes_eq b a)) [
  | inl t ↦ absurd (both_ways (bytes_eq a b) h ((bytes_eq-Decides a b).1 (sym ((bytes_eq-Decides b a).0 t))))
  | inr f ↦ f
]

abbrev IsNewTo : List Pair → Setting → Type 0
IsNewTo got s = has_name s.name got ≡ false

new_parts : (n : Text) (got : List Pair) (p : Pair) → has_name n (got ++ p ∷ []) ≡ false → (has_name n got ≡ false) × (bytes_eq p.0 n ≡ false)
new_parts n [] p h = (refl, (or_parts (bytes_eq p.0 n) false h).0)
new_parts n (q ∷ got) p h =
    let parts = or_parts (bytes_eq q.0 n) (has_name n (got ++ p ∷ [])) h in
    let rest = new_parts n got p parts.1 in
    (or_from (bytes_eq q.0 n) (has_name n got) parts.0 rest.0, rest.1)

new_from : (n : Text) (got : List Pair) (p : Pair) → has_name n got ≡ false → bytes_eq p.0 n ≡ false → has_name n (got ++ p ∷ []) ≡ false
new_from n [] p h other = or_from (bytes_eq p.0 n) false other refl
new_from n (q ∷ got) p h other =
    let parts = or_parts (bytes_eq q.0 n) (has_name n got) h in
    or_from (bytes_eq q.0 n) (has_name n (got ++ p ∷ [])) parts.0 (new_from n got p parts.1 other)

unnamed : (s t : Setting) (settings : List Setting) → value_in (t ∷ settings) s.name ≡ None → (bytes_eq t.name s.name ≡ false) × (value_in settings s.name ≡ None)
unnamed s t settings h = elim (cases_Bool (bytes_eq t.name s.name)) [
  | inl same ↦ let bad : Some t.value ≡ None = rw same at h in cc
  | inr other ↦ (other, rw other at h)
]

still_new : (s : Setting) (got : List Pair) (settings : List Setting) → value_in settings s.name ≡ None → AllByRecursion (IsNewTo got) settings
    → AllByRecursion (IsNewTo (got ++ pair_of s ∷ [])) settings
still_new s got [] once new = tt
still_new s got (t ∷ settings) once new =
    let parts = unnamed s t settings once in
    (new_from t.name got (pair_of s) new.0 (differ t.name s.name parts.0), still_new s got settings parts.1 new.1)

new_before : (s : Setting) (got : List Pair) (settings : List Setting) → AllByRecursion (IsNewTo (got ++ pair_of s ∷ [])) settings
    → AllByRecursion (IsNewTo got) settings × (value_in settings s.name ≡ None)
new_before s got [] new = (tt, refl)
new_before s got (t ∷ settings) new =
    let here = new_parts t.name got (pair_of s) new.0 in
    let rest = new_before s got settings new.1 in
    ((here.0, rest.0), rw (differ s.name t.name here.1) rest.1)

joined_once : (settings : List Setting) (got : List Pair) → AreOnce settings → AllByRecursion (IsNewTo got) settings → joined got (pairs_of settings) ≡ Some (got ++ pairs_of settings)
joined_once [] got once new = ap Some (sym (append-nil got))
joined_once (s ∷ settings) got once new =
    rw new.0 (joined_once settings (got ++ pair_of s ∷ []) once.1 (still_new s got settings once.0 new.1) ∙ ap Some (append_assoc got (pair_of s ∷ []) (pairs_of settings)))

once_joined : (settings : List Setting) (got pairs : List Pair) → joined got (pairs_of settings) ≡ Some pairs → (pairs ≡ got ++ pairs_of settings) × AllByRecursion (IsNewTo got) settings × AreOnce settings
once_joined [] got pairs is = (sym (same_Some got pairs is) ∙ sym (append-nil got), tt, tt)
once_joined (s ∷ settings) got pairs is = elim (cases_Bool (has_name s.name got)) [
  | inl t ↦ let bad : None ≡ Some pairs = rw t at is in cc
  | inr f ↦
      let rest = once_joined settings (got ++ pair_of s ∷ []) pairs (rw f at is) in
      let before = new_before s got settings rest.1 in
      (rest.0 ∙ append_assoc got (pair_of s ∷ []) (pairs_of settings), (f, before.0), (before.1, rest.2))
]

all_new : (settings : List Setting) → AllByRecursion (IsNewTo []) settings
all_new [] = tt
all_new (s ∷ settings) = (refl, all_new settings)

-- ---- from options to words

named : (names : List Text) (name : Text) → list_all is_name names ≡ true → is_known name names ≡ true → is_name name ≡ true
named [] name are known = cc
named (n ∷ names) name are known =
    let parts = and_parts (is_name n) (list_all is_name names) are in
    elim (cases_Bool (bytes_eq n name)) [
      | inl t ↦ ap is_name (sym ((bytes_eq-Decides n name).0 t)) ∙ parts.0
      | inr f ↦ named names name parts.1 (rw f at known)
    ]

module _ (names : List Text) (n v : Text) (ws : List Text) (ps : List Pair) (name : is_name n ≡ true) (known : is_known n names ≡ true) (rest : pairs_from names None ws ≡ Some ps) where
  one_word : pairs_from names None ((45 ∷ 45 ∷ (n ++ 61 ∷ v)) ∷ ws) ≡ Some ((n, v) ∷ ps)
  unfolding pairs_from
  one_word = rw (long_joined n v name, known, rest) refl

  two_words : begins_with_minus v ≡ false → pairs_from names None ((45 ∷ 45 ∷ n) ∷ v ∷ ws) ≡ Some ((n, v) ∷ ps)
  unfolding pairs_from
  two_words plain = rw (long_apart n name, known, plain, rest) refl

pairs_spelled : (names : List Text) (settings : List Setting) → list_all is_name names ≡ true → AllByRecursion (IsSetting names) settings
    → pairs_from names None (flat_map words_of settings) ≡ Some (pairs_of settings)
unfolding pairs_from
pairs_spelled names [] are all = refl
pairs_spelled names (s ∷ settings) are all =
    let rest = pairs_spelled names settings are all.1 in
    let name = named names s.name are all.0.known in
    elim (cases_Bool s.in_one_word) [
      | inl one ↦ rw one (one_word names s.name s.value (flat_map words_of settings) (pairs_of settings) name all.0.known rest)
      | inr two ↦ rw two (two_words names s.name s.value (flat_map words_of settings) (pairs_of settings) name all.0.known rest (all.0.plain two))
    ]

pub spelled_options : (names words : List Text) (settings : List Setting) → list_all is_name names ≡ true → Spells names words settings → options_of names words ≡ Some (pairs_of settings)
spelled_options names words settings are spelled =
    ap (λ ws. option_and_then (joined []) (pairs_from names None ws)) spelled.spelled
    ∙ ap (option_and_then (joined [])) (pairs_spelled names settings are spelled.known)
    ∙ joined_once settings [] spelled.once (all_new settings)

pub unspelled : (names words : List Text) (settings : List Setting) → list_all is_name names ≡ true → options_of names words ≡ None → Spells names words settings → ⊥
unspelled names words settings are none spelled = let bad : None ≡ Some (pairs_of settings) = sym none ∙ spelled_options names words settings are spelled in cc

-- ---- from words to options

abbrev IsRead : List Text → Option Text → List Text → List Pair → Type 0
IsRead names None ws ps = (settings : List Setting) × (ws ≡ flat_map words_of settings) × AllByRecursion (IsSetting names) settings × (ps ≡ pairs_of settings)
IsRead names (Some n) ws ps = (v : Text) × (settings : List Setting) × (ws ≡ v ∷ flat_map words_of settings) × AllByRecursion (IsSetting names) settings × (begins_with_minus v ≡ false) × (ps ≡ (n, v) ∷ pairs_of settings)

mapped : {A B : Type 0} (f : A → B) (o : Option A) (y : B) → option_map f o ≡ Some y → (x : A) × (o ≡ Some x) × (f x ≡ y)
mapped f None y is = cc
mapped f (Some x) y is = (x, refl, same_Some (f x) y is)

module _ (names : List Text) (w : Text) (ws : List Text) (ps : List Pair) (ih : (wait : Option Text) (qs : List Pair) → pairs_from names wait ws ≡ Some qs → IsRead names wait ws qs) where
  -- in two words
  apart : (n : Text) → long_of w ≡ Some (n, None) → is_known n names ≡ true → pairs_from names (Some n) ws ≡ Some ps → IsRead names None (w ∷ ws) ps
  apart n e known is =
      let (v, settings, words, all, plain, are) = ih (Some n) ps is in
      let s : Setting = record { name = n; value = v; in_one_word = false } in
      (s ∷ settings, ap₂ (λ a b. a ∷ b) (apart_is w n e) words, (record { known = known; plain = λ _. plain }, all), are)

  -- in one
  whole : (n v : Text) → long_of w ≡ Some (n, Some v) → is_known n names ≡ true → option_map (λ qs. (n, v) ∷ qs) (pairs_from names None ws) ≡ Some ps → IsRead names None (w ∷ ws) ps
  whole n v e known is =
      let (qs, some, same) = mapped (λ (qs : List Pair). (n, v) ∷ qs) (pairs_from names None ws) ps is in
      let (settings, words, all, are) = ih None qs some in
      let s : Setting = record { name = n; value = v; in_one_word = true } in
      (s ∷ settings, ap₂ (λ a b. a ∷ b) (joined_is w n v e) words, (record { known = known; plain = λ two. cc }, all), sym same ∙ ap (λ (l : List Pair). (n, v) ∷ l) are)

  begun : (o : Option (Text × Option Text)) → long_of w ≡ o
      → option_begun names o (λ n v. option_map (λ qs. (n, v) ∷ qs) (pairs_from names None ws)) (λ n. pairs_from names (Some n) ws) ≡ Some ps → IsRead names None (w ∷ ws) ps
  begun None e is = cc
  begun (Some (n, None)) e is = elim (cases_Bool (is_known n names)) [
    | inl t ↦ apart n e t (rw t at is)
    | inr f ↦ let bad : None ≡ Some ps = rw f at is in cc
  ]
  begun (Some (n, Some v)) e is = elim (cases_Bool (is_known n names)) [
    | inl t ↦ whole n v e t (rw t at is)
    | inr f ↦ let bad : None ≡ Some ps = rw f at is in cc
  ]

read : (names ws : List Text) (wait : Option Text) (ps : List Pair) → pairs_from names wait ws ≡ Some ps → IsRead names wait ws ps
unfolding pairs_from
read names [] None ps is = ([], refl, tt, sym (same_Some [] ps is))
read names [] (Some n) ps is = cc
read names (w ∷ ws) (Some n) ps is = elim (cases_Bool (begins_with_minus w)) [
  | inl t ↦ let bad : None ≡ Some ps = rw t at is in cc
  | inr f ↦
      let (qs, some, same) = mapped (λ (qs : List Pair). (n, w) ∷ qs) (pairs_from names None ws) ps (rw f at is) in
      let (settings, words, all, are) = read names ws None qs some in
      (w, settings, ap (λ l. w ∷ l) words, all, f, sym same ∙ ap (λ (l : List Pair). (n, w) ∷ l) are)
]
read names (w ∷ ws) None ps is = begun names w ws ps (λ wait qs e. read names ws wait qs e) (long_of w) refl is

pub options_spelled : (names words : List Text) (pairs : List Pair) → options_of names words ≡ Some pairs → (settings : List Setting) × Spells names words settings × (pairs ≡ pairs_of settings)
options_spelled names words pairs is =
    option_and_then_some (joined []) (pairs_from names None words) pairs is (λ qs from join.
    let (settings, spelled, all, are) = read names words None qs from in
    let once = once_joined settings [] pairs (subst (λ (l : List Pair). joined [] l ≡ Some pairs) are join) in
    (settings, record { spelled = spelled; known = all; once = once.2 }, once.0))
