-- The words as they are read from the front: options by name and value, and then each name at most once.
use Rattle.std.specs.Prelude.{Bool, List, [], ◌∷◌, ◌++◌, map, bytes_eq, if◌then◌else◌, Option, Some, None, option_and_then, option_map}
use Rattle.std.specs.List.{list_any}
use Rattle.clap.specs.Lexer.{long_of}
use Rattle.flashtier_words.specs.Command.{Setting, Text, begins_with_minus, is_known}

-- an option's name and its value
abbrev pub Pair : Type 0
Pair = Text × Text

abbrev pub has_name : Text → List Pair → Bool
has_name n pairs = list_any (λ (p : Pair). bytes_eq p.0 n) pairs

-- what a word that stands where an option may begin comes to
abbrev pub option_begun : List Text → Option (Text × Option Text) → (Text → Text → Option (List Pair)) → (Text → Option (List Pair)) → Option (List Pair)
option_begun names None whole waits = None
option_begun names (Some (n, Some v)) whole waits = if is_known n names then whole n v else None
option_begun names (Some (n, None)) whole waits = if is_known n names then waits n else None

-- the options that the words spell, where `waiting` is a name that still wants its value
unfoldable pub pairs_from : List Text → Option Text → List Text → Option (List Pair)
pairs_from names None [] = Some []
pairs_from names (Some n) [] = None
pairs_from names None (w ∷ ws) = option_begun names (long_of w)
    (λ n v. option_map (λ ps. (n, v) ∷ ps) (pairs_from names None ws)) (λ n. pairs_from names (Some n) ws)
pairs_from names (Some n) (w ∷ ws) =
    if begins_with_minus w then None else option_map (λ ps. (n, w) ∷ ps) (pairs_from names None ws)

-- these pairs after those, where no name comes twice
abbrev pub joined : List Pair → List Pair → Option (List Pair)
joined got [] = Some got
joined got (p ∷ ps) = if has_name p.0 got then None else joined (got ++ p ∷ []) ps

-- the options of a command with these names, where the words are valid
abbrev pub options_of : List Text → List Text → Option (List Pair)
options_of names words = option_and_then (joined []) (pairs_from names None words)

-- the value of a name among the pairs
abbrev pub pair_value : Text → List Pair → Option Text
pair_value n [] = None
pair_value n (p ∷ ps) = if bytes_eq p.0 n then Some p.1 else pair_value n ps

abbrev pub pair_of : Setting → Pair
pair_of s = (s.name, s.value)

abbrev pub pairs_of : List Setting → List Pair
pairs_of = map pair_of
