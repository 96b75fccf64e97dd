-- The options of a command, as clap reads them.
use Rattle.std.specs.Prelude.{◌||◌, Bool, true, false, not, List, [], ◌∷◌, map, codes, Option, Some, is_some}
use Rattle.clap.specs.Lexer.{has_byte, long_of}
use Rattle.clap.specs.Matches.{found_of}
use Rattle.clap.specs.Simple.{App, new_app, new_rule, on_top}
use Rattle.clap.specs.Walk.{Rule, first_of, rows_of}
use Rattle.clap.specs.declared.builder.action.ArgAction.TheVariants.{Set}
use Rattle.clap.specs.declared.parser.matches.ArgMatches.{ArgMatches}
use Rattle.flashtier_words.specs.Command.{Text, begins_with_minus}

-- a name has a byte, and no `=`
abbrev pub is_name : Text → Bool
is_name [] = false
is_name (b ∷ bytes) = not (has_byte 61 (b ∷ bytes))

-- one option, which takes a value
abbrev pub option_rule : Text → Rule
option_rule name = record (new_rule name) { long = Some name; action = Some Set }

-- a command without a program's name before its words, and with no flag for help or a version
abbrev pub bare_app : App
bare_app = on_top (λ s. record s { no_binary_name = true; disable_help_flag = true; disable_version_flag = true })
    (new_app (codes "flashtier"))

-- the same with these options and nothing else
abbrev pub options_app : List Text → App
options_app names = on_top (λ s. record s { rules = map option_rule names }) bare_app

-- the word begins with no `-`, or is `--name` or `--name=value`
abbrev pub is_fair_word : Text → Bool
is_fair_word w = not (begins_with_minus w) || is_some (long_of w)

-- the value that was found for a name
abbrev pub value_of : ArgMatches → Text → Option Text
value_of matches name = first_of name (rows_of (found_of matches))
