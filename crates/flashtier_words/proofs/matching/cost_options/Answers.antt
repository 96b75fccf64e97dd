use Rattle.std.proofs.Common.{◌≡◌, List, Bor, ap, map, sym, subst}
use Rattle.std.specs.List.{list_all}
use Rattle.std.specs.String.{string_bytes}
use Rattle.flashtier_words.specs.Command.{Spells, Text, cost_names}
use Rattle.flashtier_words.specs.Matching.{is_name}
use Rattle.flashtier_words.proofs.FoundLemmas.{none_weaker, some_weaker}
use Rattle.flashtier_words.proofs.matching.cost_options.Goals as goal

-- the names that are handed to clap
names_are : (c : goal.After-options) → map (λ (s : Bor Text). s.now) c.as_slice.result.now ≡ cost_names
names_are c = ap (map (λ (s : Bor Text). s.now)) c.as_slice.ensures

pub options-requires : goal.options-requires
options-requires c = ap (λ (names : List (Bor Text)). list_all is_name (map (λ (s : Bor Text). s.now) names)) c.as_slice.ensures

pub returns-clause-some : goal.returns-clause-some
returns-clause-some c =
    some_weaker c.options.result _ _ (λ m found.
    let (settings, spelled, values) = found in
    (settings, subst (λ (ns : List Text). Spells ns (map string_bytes c.args.words.now) settings) (names_are c) spelled, values)) c.options.ensures.some

pub returns-clause-none : goal.returns-clause-none
returns-clause-none c =
    none_weaker c.options.result _ _ (λ none settings spelled.
    none settings (subst (λ (ns : List Text). Spells ns (map string_bytes c.args.words.now) settings) (sym (names_are c)) spelled)) c.options.ensures.none
