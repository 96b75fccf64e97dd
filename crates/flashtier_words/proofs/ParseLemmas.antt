-- A command with options alone takes exactly the words of the grammar.
use Rattle.std.proofs.Common.{◌≡◌, ℕ, ◌+◌, true, false, ◌&&◌, cond, List, [], ◌∷◌, ◌++◌, map, Option, Some, None, is_some, option_map, refl, ap, sym, ◌∙◌, inl, inr, subst, count_by, zero, suc, ◌<◌, length, take, get_or, arith, Global}
use Rattle.std.specs.Prelude.{option_and_then}
use Rattle.std.specs.List.{list_all, list_any}
use Rattle.std.specs.Str.{bytes_eq}
use Rattle.std.proofs.lemmas.Bool.{cases_Bool}
use Rattle.clap.specs.Lexer.{long_of}
use Rattle.clap.specs.Kinds.{Kinds, or_else}
use Rattle.clap.specs.Walk.{Row, Rule, Text, first_of, rows_of, is_early_multiple, finished, nothing_held, settled, walk}
use Rattle.clap.specs.Simple.{Shape, built, matches_of}
use Rattle.clap.specs.Faults.{fault_of, settle_fault, walk_fault, level_fault, is_simple_and_free}
use Rattle.clap.proofs.FaultLemmas.{leaf_fault}
use Rattle.clap.proofs.WalkLemmas.{first_value-rows}
use Rattle.clap.specs.Matches.{first_value}
use Rattle.clap.specs.declared.parser.matches.Found.{Found}
use Rattle.std.specs.String.{string_bytes}
use Rattle.std.specs.declared.string.String.{String}
use Rattle.std.proofs.Math.Bool.{and-true}
use Rattle.std.proofs.lemmas.List.{map-append, take_more}
use Rattle.flashtier_words.specs.Matching.{option_rule, options_app}
use Rattle.flashtier_words.specs.Command.{begins_with_minus, is_known}
use Rattle.flashtier_words.specs.Matching.{is_fair_word}
use Rattle.flashtier_words.proofs.Pairs.{Pair, has_name, joined, option_begun, options_of, pair_value, pairs_from}
use Rattle.flashtier_words.proofs.RuleLemmas.{built_is_options, filled_is, full_rules, no_check, no_defaults, nothing_finished, options_shape, rows_for}
use Rattle.flashtier_words.proofs.WalkLemmas.{idle_at, settle_pair}
use Rattle.flashtier_words.proofs.AgreeLemmas.{Agrees, agrees, end_of, run, run_begun, whole_fault}

-- ---- the two orders of the grammar

-- the pairs after what is pending
abbrev after : List Pair → Option Pair → List Pair → Option (List Pair)
after got None ps = joined got ps
after got (Some p) ps = joined got (p ∷ ps)

after_settled : (got : List Pair) (pend : Option Pair) (ps : List Pair) → after got pend ps ≡ option_and_then (λ g. joined g ps) (settle_pair got pend)
after_settled got None ps = refl
after_settled got (Some p) ps = elim (cases_Bool (has_name p.0 got)) [
  | inl t ↦ rw t refl
  | inr f ↦ rw f refl
]

abbrev then_joined : List Pair → Option Pair → Option (List Pair) → Option (List Pair)
then_joined got pend = option_and_then (after got pend)

-- nothing comes of a run where settling fails
refused_joined : (got : List Pair) (pend : Option Pair) (o : Option (List Pair)) → settle_pair got pend ≡ None → then_joined got pend o ≡ None
refused_joined got pend None s = refl
refused_joined got pend (Some ps) s = after_settled got pend ps ∙ ap (option_and_then (λ g. joined g ps)) s

settled_joined : (got g : List Pair) (pend : Option Pair) (o : Option (List Pair)) → settle_pair got pend ≡ Some g → then_joined got pend o ≡ option_and_then (joined g) o
settled_joined got g pend None s = refl
settled_joined got g pend (Some ps) s = after_settled got pend ps ∙ ap (option_and_then (λ g. joined g ps)) s

map_joined : (g : List Pair) (p : Pair) (o : Option (List Pair)) → has_name p.0 g ≡ false
    → option_and_then (joined g) (option_map (λ ps. p ∷ ps) o) ≡ option_and_then (joined (g ++ p ∷ [])) o
map_joined g p None f = refl
map_joined g p (Some ps) f = rw f refl

map_twice : (g : List Pair) (p : Pair) (o : Option (List Pair)) → has_name p.0 g ≡ true → option_and_then (joined g) (option_map (λ ps. p ∷ ps) o) ≡ None
map_twice g p None t = refl
map_twice g p (Some ps) t = rw t refl

map_pending : (got : List Pair) (p : Pair) (o : Option (List Pair)) → then_joined got (Some p) o ≡ option_and_then (joined got) (option_map (λ ps. p ∷ ps) o)
map_pending got p None = refl
map_pending got p (Some ps) = refl

pub run_is : (names ws : List Text) (got : List Pair) (pend : Option Pair) (wait : Option Text)
    → run names got pend wait ws ≡ cond (is_some wait) (option_and_then (joined got) (pairs_from names wait ws)) (then_joined got pend (pairs_from names wait ws))
unfolding run pairs_from
run_is names [] got None None = refl
run_is names [] got (Some p) None = elim (cases_Bool (has_name p.0 got)) [
  | inl t ↦ rw t refl
  | inr f ↦ rw f refl
]
run_is names [] got pend (Some n) = refl
run_is names (w ∷ ws) got pend (Some n) = elim (cases_Bool (begins_with_minus w)) [
  | inl t ↦ rw t refl
  | inr f ↦ rw f (run_is names ws got (Some (n, w)) None ∙ map_pending got (n, w) (pairs_from names None ws))
]
run_is names (w ∷ ws) got pend None = go (λ g wait. run_is names ws g None wait) (settle_pair got pend) refl (long_of w)
  where
    go : ((g : List Pair) (wait : Option Text) → run names g None wait ws
        ≡ cond (is_some wait) (option_and_then (joined g) (pairs_from names wait ws)) (then_joined g None (pairs_from names wait ws)))
        → (r : Option (List Pair)) → settle_pair got pend ≡ r → (o : Option (Text × Option Text))
        → option_and_then (λ g. run_begun names o g (λ h. run names h None None ws) (λ n. run names g None (Some n) ws)) (settle_pair got pend)
        ≡ then_joined got pend (option_begun names o (λ n v. option_map (λ ps. (n, v) ∷ ps) (pairs_from names None ws)) (λ n. pairs_from names (Some n) ws))
    go ih None s o = rw s (sym (refused_joined got pend _ s))
    go ih (Some g) s None = rw s refl
    go ih (Some g) s (Some (n, None)) = elim (cases_Bool (is_known n names)) [
      | inl t ↦ rw (s, t) (ih g (Some n) ∙ sym (settled_joined got g pend _ s))
      | inr f ↦ rw (s, f) refl
    ]
    go ih (Some g) s (Some (n, Some v)) = elim (cases_Bool (is_known n names)) [
      | inl t ↦ elim (cases_Bool (has_name n g)) [
        | inl twice ↦ rw (s, t, twice) (sym (settled_joined got g pend _ s ∙ map_twice g (n, v) (pairs_from names None ws) twice))
        | inr once ↦ rw (s, t, once) (ih (g ++ (n, v) ∷ []) None ∙ sym (settled_joined got g pend _ s ∙ map_joined g (n, v) (pairs_from names None ws) once))
      ]
      | inr f ↦ rw (s, f) refl
    ]

-- the run from the start is the grammar
pub run_from_start : (names words : List Text) → run names [] None None words ≡ options_of names words
run_from_start names words = run_is names words [] None None

-- ---- the whole parse

pub fault_is : (names words : List Text) → fault_of (options_app names) words ≡ whole_fault names (idle_at [] None) words
fault_is names words =
    leaf_fault (built (options_app names)) nothing_held words refl
    ∙ ap (λ (s : Shape). level_fault s [] nothing_held words false []) (built_is_options names)
    ∙ ap₃ (no_defaults (settled (full_rules names) (end_of names (idle_at [] None) words)).rows names)
    (no_check (finished (full_rules names) (end_of names (idle_at [] None) words)) names)
  where
    nil_last : (k : Kinds) → or_else k [] ≡ k
    nil_last [] = refl
    nil_last (x ∷ xs) = refl

    ap₃ : {d e : Kinds} → d ≡ [] → e ≡ []
        → or_else (walk_fault (options_shape names) [] (idle_at [] None) words) (or_else (settle_fault (full_rules names) false (end_of names (idle_at [] None) words)) (or_else d e))
        ≡ whole_fault names (idle_at [] None) words
    ap₃ p q = rw (p, q, nil_last (settle_fault (full_rules names) false (end_of names (idle_at [] None) words))) refl

pub rows_are : (names words : List Text) → matches_of (options_app names) words ≡ (settled (full_rules names) (end_of names (idle_at [] None) words)).rows
rows_are names words =
    ap (λ (s : Shape). finished s.rules (walk s.rules [] nothing_held words).held) (built_is_options names)
    ∙ nothing_finished (settled (full_rules names) (end_of names (idle_at [] None) words)).rows names

-- what clap says of the words, by the grammar's answer
abbrev pub SaysOf : List Text → List Text → Option (List Pair) → Type 0
SaysOf names words None = fault_of (options_app names) words ≡ [] → ⊥
SaysOf names words (Some ps) = (fault_of (options_app names) words ≡ []) × (matches_of (options_app names) words ≡ rows_for ps)

of_agrees : (names words : List Text) (r : Option (List Pair)) → Agrees names (idle_at [] None) words r → SaysOf names words r
of_agrees names words None h = λ e. h (sym (fault_is names words) ∙ e)
of_agrees names words (Some ps) h = (fault_is names words ∙ h.0, rows_are names words ∙ h.1)

pub clap_says : (names words : List Text) → list_all is_fair_word words ≡ true → SaysOf names words (options_of names words)
clap_says names words fair =
    of_agrees names words (options_of names words)
    (subst (Agrees names (idle_at [] None) words) (run_from_start names words) (agrees names words [] None None fair tt))

-- ---- what the code needs

all_simple : (names : List Text) → list_all (λ (a : Rule). a.is_simple) (map option_rule names) ≡ true
all_simple [] = refl
all_simple (n ∷ names) = all_simple names

full_simple : (names : List Text) → list_all (λ (a : Rule). a.is_simple) (full_rules names) ≡ true
full_simple [] = refl
full_simple (n ∷ names) = full_simple names

full_free : (names : List Text) → list_all (λ (a : Rule). a.is_free) (full_rules names) ≡ true
full_free [] = refl
full_free (n ∷ names) = full_free names

none_early : (n : ℕ) (names : List Text) → list_any (is_early_multiple n) (full_rules names) ≡ false
none_early n [] = refl
none_early n (m ∷ names) = none_early n names

pub options_simple : (names : List Text) → is_simple_and_free (options_app names) ≡ true
options_simple names =
    rw (all_simple names, filled_is 1 names, full_simple names, full_free names, none_early (count_by (λ a. is_some a.index) (full_rules names)) names) refl

-- an unfair word is no value, and begins no option
unfair : (w : Text) → is_fair_word w ≡ false → (begins_with_minus w ≡ true) × (long_of w ≡ None)
unfair w h = elim (cases_Bool (begins_with_minus w)) [
  | inl t ↦ (t, go (long_of w) refl (rw t at h))
  | inr f ↦ let bad : true ≡ false = rw f at h in cc
]
  where
    go : (o : Option (Text × Option Text)) → long_of w ≡ o → is_some (long_of w) ≡ false → long_of w ≡ None
    go None e h = e
    go (Some p) e h = let bad : true ≡ false = rw e at h in cc

begun_nothing : (names : List Text) (o : Option (Text × Option Text)) (whole : Text → Text → Option (List Pair)) (waits : Text → Option (List Pair))
    → ((n v : Text) → whole n v ≡ None) → ((n : Text) → waits n ≡ None) → option_begun names o whole waits ≡ None
begun_nothing names None whole waits p q = refl
begun_nothing names (Some (n, None)) whole waits p q = elim (cases_Bool (is_known n names)) [ inl t ↦ rw t (q n) | inr f ↦ rw f refl ]
begun_nothing names (Some (n, Some v)) whole waits p q = elim (cases_Bool (is_known n names)) [ inl t ↦ rw t (p n v) | inr f ↦ rw f refl ]

unfair_pairs : (names ws : List Text) (wait : Option Text) → list_all is_fair_word ws ≡ false → pairs_from names wait ws ≡ None
unfolding pairs_from
unfair_pairs names [] wait h = cc
unfair_pairs names (w ∷ ws) None h = elim (cases_Bool (is_fair_word w)) [
  | inl t ↦
      let rest = unfair_pairs names ws None (rw t at h) in
      begun_nothing names (long_of w) _ _ (λ n v. ap (option_map (λ ps. (n, v) ∷ ps)) rest) (λ n. unfair_pairs names ws (Some n) (rw t at h))
  | inr f ↦ rw (unfair w f).1 refl
]
unfair_pairs names (w ∷ ws) (Some n) h = elim (cases_Bool (is_fair_word w)) [
  | inl t ↦ elim (cases_Bool (begins_with_minus w)) [
    | inl m ↦ rw m refl
    | inr m ↦ rw (m, unfair_pairs names ws None (rw t at h)) refl
  ]
  | inr f ↦ rw (unfair w f).0 refl
]

pub unfair_refused : (names words : List Text) → list_all is_fair_word words ≡ false → options_of names words ≡ None
unfair_refused names words h = rw (unfair_pairs names words None h) refl

pub value_is : (n : Text) (ps : List Pair) → first_of n (rows_for ps) ≡ pair_value n ps
value_is n [] = refl
value_is n (p ∷ ps) = elim (cases_Bool (bytes_eq p.0 n)) [
  | inl t ↦ rw t refl
  | inr f ↦ rw f (value_is n ps)
]

pub value_row : (f : Found) (id : Text) → first_value f id ≡ first_of id (rows_of f)
value_row f id = first_value-rows f id

abbrev bytes_of : List (String Global) → List Text
bytes_of = map (λ (s : String Global). string_bytes s)

and_last : (xs : List Text) (y : Text) → list_all is_fair_word (xs ++ y ∷ []) ≡ (list_all is_fair_word xs && is_fair_word y)
and_last [] y = and-true (is_fair_word y)
and_last (x ∷ xs) y = elim (cases_Bool (is_fair_word x)) [ inl t ↦ rw t (and_last xs y) | inr f ↦ rw f refl ]

pub fair_more : (words : List (String Global)) (i : ℕ) (d : String Global) → i < length words
    → list_all is_fair_word (bytes_of (take (i + 1) words)) ≡ (list_all is_fair_word (bytes_of (take i words)) && is_fair_word (string_bytes (get_or words i d)))
fair_more words i d lt =
    ap (λ l. list_all is_fair_word (bytes_of l)) (take_more words i d lt)
    ∙ ap (list_all is_fair_word) (map-append (λ (s : String Global). string_bytes s) (take i words) (get_or words i d ∷ []))
    ∙ and_last (bytes_of (take i words)) (string_bytes (get_or words i d))

pub fair_stops : (words : List (String Global)) (i : ℕ) (d : String Global) → i < length words → is_fair_word (string_bytes (get_or words i d)) ≡ false → list_all is_fair_word (bytes_of words) ≡ false
fair_stops [] i d lt h = absurd (omega arith)
fair_stops (w ∷ words) zero d lt h = rw h refl
fair_stops (w ∷ words) (suc i) d lt h = elim (cases_Bool (is_fair_word (string_bytes w))) [
  | inl t ↦ rw t (fair_stops words i d (omega arith) h)
  | inr f ↦ rw f refl
]

-- what the parse's answer is, by the grammar
pub ok_from : (names words : List Text) → list_all is_fair_word words ≡ true → (rows : List Row)
    → (fault_of (options_app names) words ≡ []) × (rows ≡ matches_of (options_app names) words)
    → (ps : List Pair) × (options_of names words ≡ Some ps) × ((name : Text) → first_of name rows ≡ pair_value name ps)
ok_from names words fair rows h = go (options_of names words) refl (clap_says names words fair)
  where
    go : (o : Option (List Pair)) → options_of names words ≡ o → SaysOf names words o
        → (ps : List Pair) × (options_of names words ≡ Some ps) × ((name : Text) → first_of name rows ≡ pair_value name ps)
    go None e s = absurd (s h.0)
    go (Some ps) e s = (ps, e, λ name. ap (first_of name) (h.1 ∙ s.1) ∙ value_is name ps)

pub err_from : (names words : List Text) → list_all is_fair_word words ≡ true → (fault_of (options_app names) words ≡ [] → ⊥) → options_of names words ≡ None
err_from names words fair h = go (options_of names words) refl (clap_says names words fair)
  where
    go : (o : Option (List Pair)) → options_of names words ≡ o → SaysOf names words o → options_of names words ≡ None
    go None e s = e
    go (Some ps) e s = absurd (h s.0)
