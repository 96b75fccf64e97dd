use Rattle.std.proofs.Common.{Bor, map, sym, ◌∙◌}
use Rattle.std.specs.String.{string_bytes}
use Rattle.clap.specs.Words.{found_of, rows_of}
use Rattle.flashtier_words.specs.Command.{Text}
use Rattle.flashtier_words.proofs.FoundLemmas.{found_settings, none_fair, none_found, none_weaker, some_weaker}
use Rattle.flashtier_words.proofs.ParseLemmas.{options_simple}
use Rattle.flashtier_words.proofs.matching.options.Goals as goal

pub parse-requires : goal.parse-requires
parse-requires c = options_simple (map (λ (s : Bor Text). s.now) c.args.names.now)

pub returns-then-not-all_fair-clause-none : goal.returns-then-not-all_fair-clause-none
returns-then-not-all_fair-clause-none c = none_fair _ (map string_bytes c.args.words.now) c.requires (sym c.all_fair.ensures ∙ c.if-not-all_fair.true)

pub returns-clause-some : goal.returns-clause-some
returns-clause-some c =
    let words = map string_bytes c.args.words.now in
    some_weaker c.parse.result _ _ (λ m found. found_settings _ words (sym c.all_fair.ensures ∙ c.if-not-all_fair.false) (rows_of (found_of m)) found) c.parse.ensures.some

pub returns-clause-none : goal.returns-clause-none
returns-clause-none c =
    none_weaker c.parse.result _ _ (none_found _ (map string_bytes c.args.words.now) c.requires (sym c.all_fair.ensures ∙ c.if-not-all_fair.false)) c.parse.ensures.none
