-- clap's walk and this product's grammar agree on fair words.
use Rattle.std.proofs.Common.{◌≡◌, Bool, true, false, cond, List, [], ◌∷◌, ◌++◌, Option, Some, None, is_some, refl, ap, sym, ◌∙◌, inl, inr, if◌then◌else◌, subst}
use Rattle.std.specs.Prelude.{fold, option_and_then}
use Rattle.std.specs.List.{list_all}
use Rattle.std.proofs.lemmas.Bool.{cases_Bool, and_parts}
use Rattle.clap.specs.Lexer.{long_of}
use Rattle.clap.specs.Kinds.{Kinds, or_else}
use Rattle.clap.specs.Walk.{Held, Row, Text, Walk, idle, option, settled, used, walked}
use Rattle.clap.specs.Faults.{settle_fault, turn_fault, walk_fault, use_fault}
use Rattle.clap.specs.declared.error.kind.ErrorKind.{ErrorKind}
use Rattle.clap.specs.declared.error.kind.ErrorKind.TheVariants as kind
use Rattle.flashtier_words.specs.Command.{begins_with_minus, is_known}
use Rattle.flashtier_words.specs.Matching.{is_fair_word}
use Rattle.flashtier_words.proofs.Pairs.{Pair, has_name}
use Rattle.flashtier_words.proofs.RuleLemmas.{full_rule, full_rules, options_shape, rows_for, has_row_is, use_fault_is, used_is}
use Rattle.flashtier_words.proofs.WalkLemmas.{IsKnown, SettlesAs, held_for, idle_at, pending_pair, plain_is, settle_pair, settles, turn_stray, turn_unknown, turn_value, turn_with_value, turn_without, waiting_at, waiting_unsettled, walked_value, walked_with_value, walked_without}

-- what a long word comes to after the pairs got
abbrev pub run_begun : List Text → Option (Text × Option Text) → List Pair → (List Pair → Option (List Pair)) → (Text → Option (List Pair)) → Option (List Pair)
run_begun names None got whole waits = None
run_begun names (Some (n, Some v)) got whole waits = if is_known n names then (if has_name n got then None else whole (got ++ (n, v) ∷ [])) else None
run_begun names (Some (n, None)) got whole waits = if is_known n names then waits n else None

-- the grammar in the order in which clap walks
unfoldable pub run : List Text → List Pair → Option Pair → Option Text → List Text → Option (List Pair)
run names got pend None [] = settle_pair got pend
run names got pend (Some n) [] = None
run names got pend (Some n) (w ∷ ws) = if begins_with_minus w then None else run names got (Some (n, w)) None ws
run names got pend None (w ∷ ws) =
    option_and_then (λ g. run_begun names (long_of w) g (λ h. run names h None None ws) (λ n. run names g None (Some n) ws)) (settle_pair got pend)

abbrev pub end_of : List Text → Walk → List Text → Held
end_of names w ws = (fold (walked (full_rules names) []) w ws).held

abbrev pub whole_fault : List Text → Walk → List Text → Kinds
whole_fault names w ws = or_else (walk_fault (options_shape names) [] w ws) (settle_fault (full_rules names) false (end_of names w ws))

abbrev pub Agrees : List Text → Walk → List Text → Option (List Pair) → Type 0
Agrees names w ws None = whole_fault names w ws ≡ [] → ⊥
Agrees names w ws (Some ps) = (whole_fault names w ws ≡ []) × ((settled (full_rules names) (end_of names w ws)).rows ≡ rows_for ps)

fault_step : (names : List Text) (a b : Walk) (w : Text) (ws : List Text) → turn_fault (options_shape names) [] a w ≡ []
    → walked (full_rules names) [] a w ≡ b → whole_fault names a (w ∷ ws) ≡ whole_fault names b ws
unfolding walk_fault
fault_step names a b w ws t e =
    ap (λ (k : Kinds). or_else (or_else k (walk_fault (options_shape names) [] (walked (full_rules names) [] a w) ws)) (settle_fault (full_rules names) false (end_of names (walked (full_rules names) [] a w) ws))) t
    ∙ ap (λ (x : Walk). whole_fault names x ws) e

step_on : (names : List Text) (a b : Walk) (w : Text) (ws : List Text) (r : Option (List Pair)) → turn_fault (options_shape names) [] a w ≡ []
    → walked (full_rules names) [] a w ≡ b → Agrees names b ws r → Agrees names a (w ∷ ws) r
step_on names a b w ws None t e g = λ h. g (sym (fault_step names a b w ws t e) ∙ h)
step_on names a b w ws (Some ps) t e g = (
  fault_step names a b w ws t e ∙ g.0,
  ap (λ (x : Walk). (settled (full_rules names) (end_of names x ws)).rows) e ∙ g.1,
)

step_fails : (names : List Text) (a : Walk) (w : Text) (ws : List Text) (k : ErrorKind) (ks : Kinds) → turn_fault (options_shape names) [] a w ≡ k ∷ ks
    → Agrees names a (w ∷ ws) None
unfolding walk_fault
step_fails names a w ws k ks t = λ h. let bad : k ∷ _ ≡ [] = rw t at h in cc

-- the first of two lists of faults is not empty
stuck : (a b : Kinds) → (a ≡ [] → ⊥) → or_else a b ≡ [] → ⊥
stuck [] b n h = n refl
stuck (k ∷ ks) b n h = cc

step_stuck : (names : List Text) (a : Walk) (w : Text) (ws : List Text) → (turn_fault (options_shape names) [] a w ≡ [] → ⊥) → Agrees names a (w ∷ ws) None
unfolding walk_fault
step_stuck names a w ws n = stuck _ _ (stuck _ _ n)

abbrev pub state : List Pair → Option Pair → Option Text → Walk
state got pend None = idle_at got pend
state got pend (Some n) = waiting_at got n

abbrev pub Knows : List Text → Option Pair → Option Text → Type 0
Knows names pend None = IsKnown names pend
Knows names pend (Some n) = is_known n names ≡ true

-- ---- what the run comes to at each kind of word

run_plain : (names : List Text) (got : List Pair) (pend : Option Pair) (w : Text) (ws : List Text) → long_of w ≡ None → run names got pend None (w ∷ ws) ≡ None
unfolding run
run_plain names got pend w ws e = go (settle_pair got pend) refl
  where
    go : (o : Option (List Pair)) → settle_pair got pend ≡ o → run names got pend None (w ∷ ws) ≡ None
    go None s = rw s refl
    go (Some g) s = rw (s, e) refl

module _ (names : List Text) (got : List Pair) (pend : Option Pair) (w : Text) (ws : List Text) where
  run_refused : settle_pair got pend ≡ None → run names got pend None (w ∷ ws) ≡ None
  unfolding run
  run_refused s = rw s refl

  module _ (g : List Pair) (s : settle_pair got pend ≡ Some g) (n : Text) where
    run_unknown : (v : Option Text) → long_of w ≡ Some (n, v) → is_known n names ≡ false → run names got pend None (w ∷ ws) ≡ None
    unfolding run
    run_unknown None e k = rw (s, e, k) refl
    run_unknown (Some v) e k = rw (s, e, k) refl

    run_waits : long_of w ≡ Some (n, None) → is_known n names ≡ true → run names got pend None (w ∷ ws) ≡ run names g None (Some n) ws
    unfolding run
    run_waits e k = rw (s, e, k) refl

    run_twice : (v : Text) → long_of w ≡ Some (n, Some v) → is_known n names ≡ true → has_name n g ≡ true → run names got pend None (w ∷ ws) ≡ None
    unfolding run
    run_twice v e k t = rw (s, e, k, t) refl

    run_whole : (v : Text) → long_of w ≡ Some (n, Some v) → is_known n names ≡ true → has_name n g ≡ false
        → run names got pend None (w ∷ ws) ≡ run names (g ++ (n, v) ∷ []) None None ws
    unfolding run
    run_whole v e k f = rw (s, e, k, f) refl

-- ---- the induction

at_end : (names : List Text) (got : List Pair) (pend : Option Pair) (r : Option (List Pair)) → SettlesAs names (held_for got (pending_pair pend)) r → Agrees names (idle_at got pend) [] r
unfolding walk_fault
at_end names got pend None s = s
at_end names got pend (Some g) s = (s.0, ap (λ (h : Held). h.rows) s.1)

waits_at_end : (names : List Text) (got : List Pair) (n : Text) → is_known n names ≡ true → Agrees names (waiting_at got n) [] None
unfolding walk_fault
waits_at_end names got n k = λ h. let bad : kind.InvalidValue ∷ [] ≡ [] = sym (waiting_unsettled names got n k) ∙ h in cc

some_long : (w : Text) → is_fair_word w ≡ true → begins_with_minus w ≡ true → (p : Text × Option Text) × (long_of w ≡ Some p)
some_long w fair minus = go (long_of w) refl (rw minus at fair)
  where
    go : (o : Option (Text × Option Text)) → long_of w ≡ o → is_some (long_of w) ≡ true → (p : Text × Option Text) × (long_of w ≡ Some p)
    go None e h = let bad : false ≡ true = rw e at h in cc
    go (Some p) e h = (p, e)

waiting_stuck : (names : List Text) (got : List Pair) (n w : Text) (ws : List Text) (m : Text) (v : Option Text) → is_known n names ≡ true → long_of w ≡ Some (m, v)
    → is_known m names ≡ true → Agrees names (waiting_at got n) (w ∷ ws) None
waiting_stuck names got n w ws m None known e k =
    step_fails names (waiting_at got n) w ws kind.InvalidValue []
    (turn_without names got (Some (n, [])) w m (option n) e k ∙ ap (λ (f : Kinds). or_else f []) (waiting_unsettled names got n known))
waiting_stuck names got n w ws m (Some x) known e k =
    step_fails names (waiting_at got n) w ws kind.InvalidValue []
    (turn_with_value names got (Some (n, [])) w m (option n) x e k
    ∙ ap (λ (f : Kinds). or_else (or_else f (use_fault false (full_rule m) (x ∷ []) (settled (full_rules names) (held_for got (Some (n, [])))).rows)) []) (waiting_unsettled names got n known))

-- a long word, after what is pending was settled
module _ (names : List Text) (got : List Pair) (pend : Option Pair) (w : Text) (ws : List Text) (m : Text)
    (ih : (g : List Pair) (wait : Option Text) → Knows names None wait → Agrees names (state g None wait) ws (run names g None wait ws)) where
  abbrev held : Held
  held = held_for got (pending_pair pend)

  long_after : (v : Option Text) → long_of w ≡ Some (m, v) → is_known m names ≡ true → (r : Option (List Pair)) → settle_pair got pend ≡ r → SettlesAs names held r
      → Agrees names (idle_at got pend) (w ∷ ws) (run names got pend None (w ∷ ws))
  long_after None e k None s t =
      subst (Agrees names (idle_at got pend) (w ∷ ws)) (sym (run_refused names got pend w ws s))
      (step_stuck names (idle_at got pend) w ws (λ h. stuck _ [] t (sym (turn_without names got (pending_pair pend) w m idle e k) ∙ h)))
  long_after (Some x) e k None s t =
      subst (Agrees names (idle_at got pend) (w ∷ ws)) (sym (run_refused names got pend w ws s))
      (step_stuck names (idle_at got pend) w ws (λ h. stuck _ [] (stuck _ _ t) (sym (turn_with_value names got (pending_pair pend) w m idle x e k) ∙ h)))
  long_after None e k (Some g) s t =
      subst (Agrees names (idle_at got pend) (w ∷ ws)) (sym (run_waits names got pend w ws g s m e k))
      (step_on names (idle_at got pend) (waiting_at g m) w ws _
      (turn_without names got (pending_pair pend) w m idle e k ∙ ap (λ (f : Kinds). or_else f []) t.0)
      (walked_without names got (pending_pair pend) w m idle e k
      ∙ ap (λ (h : Held). record (idle_at got pend) { held = record h { pending = Some (m, []) }; waiting = option m }) t.1)
      (ih g (Some m) k))
  long_after (Some x) e k (Some g) s t =
      let rows = ap (λ (h : Held). h.rows) t.1 in
      let turn = turn_with_value names got (pending_pair pend) w m idle x e k
      ∙ ap (λ (f : Kinds). or_else (or_else f (use_fault false (full_rule m) (x ∷ []) (settled (full_rules names) held).rows)) []) t.0
      ∙ ap (λ (rs : List Row). or_else (use_fault false (full_rule m) (x ∷ []) rs) []) rows
      ∙ ap (λ (f : Kinds). or_else f []) (use_fault_is m x (rows_for g)) in
      elim (cases_Bool (has_name m g)) [
        | inl twice ↦ subst (Agrees names (idle_at got pend) (w ∷ ws)) (sym (run_twice names got pend w ws g s m x e k twice))
            (step_fails names (idle_at got pend) w ws kind.ArgumentConflict []
            (turn ∙ ap (λ (b : Bool). or_else (cond b (kind.ArgumentConflict ∷ []) []) []) (has_row_is m g ∙ twice)))
        | inr once ↦ subst (Agrees names (idle_at got pend) (w ∷ ws)) (sym (run_whole names got pend w ws g s m x e k once))
            (step_on names (idle_at got pend) (idle_at (g ++ (m, x) ∷ []) None) w ws _
            (turn ∙ ap (λ (b : Bool). or_else (cond b (kind.ArgumentConflict ∷ []) []) []) (has_row_is m g ∙ once))
            (walked_with_value names got (pending_pair pend) w m idle x e k
            ∙ ap (λ (rs : List Row). record (idle_at got pend) { held = record { rows = used (full_rule m) (x ∷ []) rs; pending = None; skip = 0 }; waiting = idle }) rows
            ∙ ap (λ (rs : List Row). record (idle_at got pend) { held = record { rows = rs; pending = None; skip = 0 }; waiting = idle }) (used_is m x g once))
            (ih (g ++ (m, x) ∷ []) None tt))
      ]

  long_unknown : (v : Option Text) → long_of w ≡ Some (m, v) → is_known m names ≡ false → (r : Option (List Pair)) → settle_pair got pend ≡ r
      → Agrees names (idle_at got pend) (w ∷ ws) (run names got pend None (w ∷ ws))
  long_unknown v e k None s = subst (Agrees names (idle_at got pend) (w ∷ ws)) (sym (run_refused names got pend w ws s))
      (step_fails names (idle_at got pend) w ws kind.UnknownArgument [] (turn_unknown names got (pending_pair pend) w m idle v e k))
  long_unknown v e k (Some g) s = subst (Agrees names (idle_at got pend) (w ∷ ws)) (sym (run_unknown names got pend w ws g s m v e k))
      (step_fails names (idle_at got pend) w ws kind.UnknownArgument [] (turn_unknown names got (pending_pair pend) w m idle v e k))

pub agrees : (names ws : List Text) (got : List Pair) (pend : Option Pair) (wait : Option Text) → list_all is_fair_word ws ≡ true → Knows names pend wait
    → Agrees names (state got pend wait) ws (run names got pend wait ws)
unfolding run
agrees names [] got pend None fair knows = at_end names got pend (settle_pair got pend) (settles names got pend knows)
agrees names [] got pend (Some n) fair knows = waits_at_end names got n knows
agrees names (w ∷ ws) got pend (Some n) fair knows =
    let (word, rest) = and_parts (is_fair_word w) (list_all is_fair_word ws) fair in
    elim (cases_Bool (begins_with_minus w)) [
      | inl minus ↦ rw minus (
          let ((m, v), e) = some_long w word minus in
          elim (cases_Bool (is_known m names)) [
            | inl k ↦ waiting_stuck names got n w ws m v knows e k
            | inr k ↦ step_fails names (waiting_at got n) w ws kind.UnknownArgument [] (turn_unknown names got (Some (n, [])) w m (option n) v e k)
          ])
      | inr plain ↦ rw plain (step_on names (waiting_at got n) (idle_at got (Some (n, w))) w ws _ (turn_value names got w plain n) (walked_value names got w plain n knows)
          (agrees names ws got (Some (n, w)) None rest knows))
    ]
agrees names (w ∷ ws) got pend None fair knows =
    let (word, rest) = and_parts (is_fair_word w) (list_all is_fair_word ws) fair in
    elim (cases_Bool (begins_with_minus w)) [
      | inl minus ↦
          let ((m, v), e) = some_long w word minus in
          elim (cases_Bool (is_known m names)) [
            | inl k ↦ long_after names got pend w ws m (λ g wait known. agrees names ws g None wait rest known) v e k (settle_pair got pend) refl (settles names got pend knows)
            | inr k ↦ long_unknown names got pend w ws m (λ g wait known. agrees names ws g None wait rest known) v e k (settle_pair got pend) refl
          ]
      | inr plain ↦ subst (Agrees names (idle_at got pend) (w ∷ ws)) (sym (run_plain names got pend w ws (plain_is w plain).0))
          (step_fails names (idle_at got pend) w ws kind.UnknownArgument [] (turn_stray names got w plain pend))
    ]
