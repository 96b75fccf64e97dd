-- clap's walk over fair words, step by step.
use Rattle.std.proofs.Common.{◌≡◌, true, false, List, [], ◌∷◌, ◌++◌, Option, Some, None, refl, ap, inl, inr, if◌then◌else◌, ◌==◌}
use Rattle.std.specs.Str.{bytes_eq}
use Rattle.std.proofs.lemmas.Bool.{cases_Bool}
use Rattle.std.proofs.lemmas.Slice.Eq.{bytes_eq-Decides}
use Rattle.clap.specs.Lexer.{long_of, short_of}
use Rattle.clap.specs.Kinds.{or_else}
use Rattle.clap.specs.Walk.{Held, Row, Text, Waiting, Walk, idle, option, positional, reacted, settled, walked}
use Rattle.clap.specs.Faults.{settle_fault, turn_fault, use_fault}
use Rattle.clap.specs.declared.error.kind.ErrorKind.TheVariants as kind
use Rattle.flashtier_words.specs.Command.{begins_with_minus, is_known}
use Rattle.flashtier_words.proofs.Pairs.{Pair, has_name}
use Rattle.flashtier_words.proofs.RuleLemmas.{full_rule, full_rules, options_shape, rows_for, has_row_is, id_found, long_found, long_missing, no_index, use_fault_is, used_is}

-- what is held: the pairs that were used, and what is pending
abbrev pub held_for : List Pair → Option (Text × List Text) → Held
held_for got pending = record { rows = rows_for got; pending = pending; skip = 0 }

abbrev pub pending_pair : Option Pair → Option (Text × List Text)
pending_pair None = None
pending_pair (Some p) = Some (p.0, p.1 ∷ [])

abbrev pub idle_at : List Pair → Option Pair → Walk
idle_at got pend = record { held = held_for got (pending_pair pend); waiting = idle; position = 1; is_trailing = false; stopped = None }

abbrev pub waiting_at : List Pair → Text → Walk
waiting_at got n = record { held = held_for got (Some (n, [])); waiting = option n; position = 1; is_trailing = false; stopped = None }

abbrev pub settle_pair : List Pair → Option Pair → Option (List Pair)
settle_pair got None = Some got
settle_pair got (Some p) = if has_name p.0 got then None else Some (got ++ p ∷ [])

abbrev pub IsKnown : List Text → Option Pair → Type 0
IsKnown names None = Unit {0}
IsKnown names (Some p) = is_known p.0 names ≡ true

-- ---- settling

abbrev pub SettlesAs : List Text → Held → Option (List Pair) → Type 0
SettlesAs names h None = settle_fault (full_rules names) false h ≡ [] → ⊥
SettlesAs names h (Some got) = (settle_fault (full_rules names) false h ≡ []) × (settled (full_rules names) h ≡ held_for got None)

pub settles : (names : List Text) (got : List Pair) (pend : Option Pair) → IsKnown names pend → SettlesAs names (held_for got (pending_pair pend)) (settle_pair got pend)
settles names got None k = (refl, refl)
settles names got (Some p) k =
    let found = id_found names p.0 k in
    let once = use_fault_is p.0 p.1 (rows_for got) in
    let has = has_row_is p.0 got in
    elim (cases_Bool (has_name p.0 got)) [
      | inl t ↦ rw t (λ e. let bad : kind.ArgumentConflict ∷ [] ≡ [] = rw (found, once, has, t) at e in cc)
      | inr f ↦ rw f (
        rw (found, once, has, f) refl,
        rw found (ap (λ rs. held_from rs) (used_is p.0 p.1 got f)),
      )
    ]
  where
    held_from : List Row → Held
    held_from rs = record { rows = rs; pending = None; skip = 0 }

pub waiting_unsettled : (names : List Text) (got : List Pair) (n : Text) → is_known n names ≡ true → settle_fault (full_rules names) false (held_for got (Some (n, []))) ≡ kind.InvalidValue ∷ []
waiting_unsettled names got n k = rw (id_found names n k) refl

-- ---- one word

not_dashes : (w : Text) (p : Text × Option Text) → long_of w ≡ Some p → bytes_eq w (45 ∷ 45 ∷ []) ≡ false
not_dashes w p e = elim (cases_Bool (bytes_eq w (45 ∷ 45 ∷ []))) [
  | inl t ↦ let same : w ≡ 45 ∷ 45 ∷ [] = (bytes_eq-Decides w (45 ∷ 45 ∷ [])).0 t in let bad : None ≡ Some p = rw same at e in cc
  | inr f ↦ f
]

-- where an option may begin or a value is awaited, a long word is read alike
abbrev pub walk_in : List Pair → Option (Text × List Text) → Waiting → Walk
walk_in got pending waiting = record { held = held_for got pending; waiting = waiting; position = 1; is_trailing = false; stopped = None }

module _ (names : List Text) (got : List Pair) (pending : Option (Text × List Text)) (w n : Text) where
  pub turn_with_value : (waiting : Waiting) (v : Text) → long_of w ≡ Some (n, Some v) → is_known n names ≡ true
      → turn_fault (options_shape names) [] (walk_in got pending waiting) w
      ≡ or_else (or_else (settle_fault (full_rules names) false (held_for got pending)) (use_fault false (full_rule n) (v ∷ []) (settled (full_rules names) (held_for got pending)).rows)) []
  turn_with_value idle v e k = rw (not_dashes w (n, Some v) e, e, long_found names n k) refl
  turn_with_value (option m) v e k = rw (not_dashes w (n, Some v) e, e, long_found names n k) refl
  turn_with_value positional v e k = rw (not_dashes w (n, Some v) e, e, long_found names n k) refl

  pub walked_with_value : (waiting : Waiting) (v : Text) → long_of w ≡ Some (n, Some v) → is_known n names ≡ true
      → walked (full_rules names) [] (walk_in got pending waiting) w
      ≡ record (walk_in got pending waiting) { held = reacted (full_rules names) (full_rule n) (v ∷ []) (held_for got pending); waiting = idle }
  unfolding walked
  walked_with_value idle v e k = rw (not_dashes w (n, Some v) e, e, long_found names n k) refl
  walked_with_value (option m) v e k = rw (not_dashes w (n, Some v) e, e, long_found names n k) refl
  walked_with_value positional v e k = rw (not_dashes w (n, Some v) e, e, long_found names n k) refl

  pub turn_without : (waiting : Waiting) → long_of w ≡ Some (n, None) → is_known n names ≡ true
      → turn_fault (options_shape names) [] (walk_in got pending waiting) w ≡ or_else (settle_fault (full_rules names) false (held_for got pending)) []
  turn_without idle e k = rw (not_dashes w (n, None) e, e, long_found names n k) refl
  turn_without (option m) e k = rw (not_dashes w (n, None) e, e, long_found names n k) refl
  turn_without positional e k = rw (not_dashes w (n, None) e, e, long_found names n k) refl

  pub walked_without : (waiting : Waiting) → long_of w ≡ Some (n, None) → is_known n names ≡ true
      → walked (full_rules names) [] (walk_in got pending waiting) w
      ≡ record (walk_in got pending waiting) { held = record (settled (full_rules names) (held_for got pending)) { pending = Some (n, []) }; waiting = option n }
  unfolding walked
  walked_without idle e k = rw (not_dashes w (n, None) e, e, long_found names n k) refl
  walked_without (option m) e k = rw (not_dashes w (n, None) e, e, long_found names n k) refl
  walked_without positional e k = rw (not_dashes w (n, None) e, e, long_found names n k) refl

  pub turn_unknown : (waiting : Waiting) (v : Option Text) → long_of w ≡ Some (n, v) → is_known n names ≡ false
      → turn_fault (options_shape names) [] (walk_in got pending waiting) w ≡ kind.UnknownArgument ∷ []
  turn_unknown idle v e k = rw (not_dashes w (n, v) e, e, long_missing names n k) refl
  turn_unknown (option m) v e k = rw (not_dashes w (n, v) e, e, long_missing names n k) refl
  turn_unknown positional v e k = rw (not_dashes w (n, v) e, e, long_missing names n k) refl

-- a word that begins with no `-`
pub plain_is : (w : Text) → begins_with_minus w ≡ false → (long_of w ≡ None) × (short_of w ≡ None) × (bytes_eq w (45 ∷ 45 ∷ []) ≡ false)
plain_is [] h = (refl, refl, refl)
plain_is (b ∷ bs) h = let dash : (b == 45) ≡ false = h in (rw dash refl, rw dash refl, rw dash refl)

module _ (names : List Text) (got : List Pair) (w : Text) (plain : begins_with_minus w ≡ false) where
  pub turn_stray : (pend : Option Pair) → turn_fault (options_shape names) [] (idle_at got pend) w ≡ kind.UnknownArgument ∷ []
  turn_stray pend =
      let (long, short, dashes) = plain_is w plain in
      rw (dashes, long, short, no_index names 1) refl

  pub turn_value : (n : Text) → turn_fault (options_shape names) [] (waiting_at got n) w ≡ []
  turn_value n =
      let (long, short, dashes) = plain_is w plain in
      rw (dashes, long, short) refl

  pub walked_value : (n : Text) → is_known n names ≡ true → walked (full_rules names) [] (waiting_at got n) w ≡ idle_at got (Some (n, w))
  unfolding walked
  walked_value n k =
      let (long, short, dashes) = plain_is w plain in
      rw (dashes, long, short, id_found names n k, (bytes_eq-Decides n n).1 refl) refl
