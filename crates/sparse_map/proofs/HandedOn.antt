-- How many places new lists have once an old list was handed on.
use Rattle.std.specs.Prelude.{ℕ, List, Option, Some, None, slice_set}

-- the places of the lists after a list with `places` places was handed on
abbrev pub handed_on : Option ℕ → ℕ → List ℕ → List ℕ
handed_on None places rooms = rooms
handed_on (Some q) places rooms = slice_set rooms q places
