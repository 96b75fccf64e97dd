-- What clap's words say of a command that has options alone.
use Rattle.std.proofs.Common.{◌≡◌, ℕ, true, false, not, ◌&&◌, ◌||◌, cond, List, [], ◌∷◌, ◌++◌, map, Some, None, refl, ap, sym, ◌∙◌, inl, inr}
use Rattle.std.specs.Prelude.{fold}
use Rattle.clap.specs.Takes.{is_given}
use Rattle.std.specs.List.{list_any}
use Rattle.std.specs.Str.{bytes_eq}
use Rattle.std.proofs.lemmas.Bool.{cases_Bool}
use Rattle.std.proofs.lemmas.List.{append-nil, map-append}
use Rattle.std.proofs.lemmas.Slice.Eq.{bytes_eq-Decides}
use Rattle.clap.specs.Walk.{Row, Rule, Text, arg_by_id, arg_by_index, arg_by_long, at_row, has_row, reading_by, used, with_default, without, more_values}
use Rattle.clap.specs.Simple.{Shape, built, filled, filled_from}
use Rattle.clap.specs.Faults.{use_fault, defaults_fault, check_fault}
use Rattle.clap.specs.declared.error.kind.ErrorKind.TheVariants as kind
use Rattle.clap.specs.declared.parser.matches.ValueSource.TheVariants.{CommandLine}
use Rattle.flashtier_words.specs.Matching.{bare_app, option_rule, options_app}
use Rattle.flashtier_words.specs.Command.{is_known}
use Rattle.flashtier_words.proofs.Pairs.{Pair, has_name}

-- an option as `build` fills it in
abbrev pub full_rule : Text → Rule
full_rule n = filled (option_rule n)

abbrev pub full_rules : List Text → List Rule
full_rules = map full_rule

pub filled_is : (i : ℕ) (names : List Text) → filled_from i (map option_rule names) ≡ full_rules names
filled_is i [] = refl
filled_is i (n ∷ names) = ap (λ rs. full_rule n ∷ rs) (filled_is i names)

-- the built command's own shape
abbrev pub options_shape : List Text → Shape
options_shape names = record (built bare_app).top { rules = full_rules names }

pub built_is_options : (names : List Text) → (built (options_app names)).top ≡ options_shape names
built_is_options names = ap (λ rs. record (built bare_app).top { rules = rs }) (filled_is 1 names)

-- ---- look-ups

pub long_found : (names : List Text) (n : Text) → is_known n names ≡ true → arg_by_long (full_rules names) n ≡ Some (full_rule n)
long_found [] n h = cc
long_found (m ∷ names) n h = elim (cases_Bool (bytes_eq m n)) [
  | inl t ↦ let same : m ≡ n = (bytes_eq-Decides m n).0 t in rw t (ap (λ x. Some (full_rule x)) same)
  | inr f ↦ rw f (long_found names n (rw f at h))
]

pub long_missing : (names : List Text) (n : Text) → is_known n names ≡ false → arg_by_long (full_rules names) n ≡ None
long_missing [] n h = refl
long_missing (m ∷ names) n h = elim (cases_Bool (bytes_eq m n)) [
  | inl t ↦ let bad : true ≡ false = rw t at h in cc
  | inr f ↦ rw f (long_missing names n (rw f at h))
]

pub id_found : (names : List Text) (n : Text) → is_known n names ≡ true → arg_by_id (full_rules names) n ≡ Some (full_rule n)
id_found [] n h = cc
id_found (m ∷ names) n h = elim (cases_Bool (bytes_eq m n)) [
  | inl t ↦ let same : m ≡ n = (bytes_eq-Decides m n).0 t in rw t (ap (λ x. Some (full_rule x)) same)
  | inr f ↦ rw f (id_found names n (rw f at h))
]

pub no_index : (names : List Text) (i : ℕ) → arg_by_index (full_rules names) i ≡ None
no_index [] i = refl
no_index (m ∷ names) i = no_index names i

-- ---- rows

abbrev pub row_for : Pair → Row
row_for p = record { id = p.0; values = p.1 ∷ []; count = None; source = Some CommandLine; reading = reading_by (full_rule p.0) }

abbrev pub rows_for : List Pair → List Row
rows_for = map row_for

pub has_row_is : (n : Text) (got : List Pair) → has_row n (rows_for got) ≡ has_name n got
has_row_is n [] = refl
has_row_is n (p ∷ got) = ap (λ b. bytes_eq p.0 n || b) (has_row_is n got)

pub at_row_absent : (id : Text) (change : Row → List Row) (missing rows : List Row) → has_row id rows ≡ false → at_row id change missing rows ≡ rows ++ missing
at_row_absent id change missing [] h = refl
at_row_absent id change missing (r ∷ rows) h = elim (cases_Bool (bytes_eq r.id id)) [
  | inl t ↦ let bad : true ≡ false = rw t at h in cc
  | inr f ↦ rw f (ap (λ rs. r ∷ rs) (at_row_absent id change missing rows (rw f at h)))
]

pub used_is : (n v : Text) (got : List Pair) → has_name n got ≡ false → used (full_rule n) (v ∷ []) (rows_for got) ≡ rows_for (got ++ (n, v) ∷ [])
used_is n v got h =
    let absent : has_row n (rows_for got) ≡ false = has_row_is n got ∙ h in
    let gone : without n (rows_for got) ≡ rows_for got = at_row_absent n (λ _. []) [] (rows_for got) absent ∙ append-nil (rows_for got) in
    rw gone (at_row_absent n (more_values CommandLine (v ∷ [])) (row_for (n, v) ∷ []) (rows_for got) absent ∙ sym (map-append row_for got ((n, v) ∷ [])))

-- ---- faults of one use

pub use_fault_is : (n v : Text) (rows : List Row) → use_fault false (full_rule n) (v ∷ []) rows ≡ cond (has_row n rows) (kind.ArgumentConflict ∷ []) []
use_fault_is n v rows = elim (cases_Bool (has_row n rows)) [
  | inl t ↦ rw t refl
  | inr f ↦ rw f refl
]

-- ---- after the walk

pub no_defaults : (rows : List Row) (names : List Text) → defaults_fault rows (full_rules names) ≡ []
unfolding defaults_fault
no_defaults rows [] = refl
no_defaults rows (n ∷ names) = elim (cases_Bool (has_row n rows)) [
  | inl t ↦ rw t (no_defaults rows names)
  | inr f ↦ rw f (no_defaults rows names)
]

no_default : (rows : List Row) (n : Text) → with_default rows (full_rule n) ≡ rows
no_default rows n = elim (cases_Bool (has_row n rows)) [
  | inl t ↦ rw t refl
  | inr f ↦ rw f refl
]

pub nothing_finished : (rows : List Row) (names : List Text) → fold with_default rows (full_rules names) ≡ rows
nothing_finished rows [] = refl
nothing_finished rows (n ∷ names) =
    ap (λ r. fold with_default r (full_rules names)) (no_default rows n) ∙ nothing_finished rows names

none_required : (rows : List Row) (names : List Text) → list_any (λ a. a.required && not (is_given a.id rows)) (full_rules names) ≡ false
none_required rows [] = refl
none_required rows (n ∷ names) = none_required rows names

pub no_check : (rows : List Row) (names : List Text) → check_fault (options_shape names) rows false ≡ []
no_check rows names = rw (none_required rows names) refl
