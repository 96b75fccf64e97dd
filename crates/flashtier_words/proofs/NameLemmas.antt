-- One option more.
use Rattle.std.proofs.Common.{◌≡◌, ◌<◌, ◌+◌, ℕ, List, [], ◌∷◌, ◌++◌, map, take, length, ap, sym, ◌∙◌, get_or}
use Rattle.std.proofs.lemmas.List.{map-append, take_more}
use Rattle.std.specs.Borrow.{Bor}
use Rattle.clap.specs.Words.{Rule, Text, with_rule}
use Rattle.flashtier_words.specs.Matching.{bare_app, option_rule, options_app}

abbrev texts : List (Bor Text) → List Text
texts = map (λ s. s.now)

pub one_more_name : (names : List (Bor Text)) (i : ℕ) (d : Bor Text) → i < length names
    → with_rule (options_app (texts (take i names))) (option_rule (get_or names i d).now) ≡ options_app (texts (take (i + 1) names))
one_more_name names i d lt =
    let last : List Text = (get_or names i d).now ∷ [] in
    let all : texts (take (i + 1) names) ≡ texts (take i names) ++ last =
    ap texts (take_more names i d lt) ∙ map-append (λ (s : Bor Text). s.now) (take i names) (get_or names i d ∷ []) in
    ap (λ (rules : List Rule). record bare_app { top = record bare_app.top { rules = rules } })
    (sym (map-append option_rule (texts (take i names)) last) ∙ ap (map option_rule) (sym all))
