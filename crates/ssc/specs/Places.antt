-- The places that addresses had before writes that are only buffered.
use Rattle.std.specs.Prelude.{ℕ, ◌==◌, nat_le, if◌then◌else◌, Option, List, [], ◌∷◌, ◌++◌}
use Rattle.ssc.specs.declared.earlier.Before.{Before}

-- the places that are kept when this many records are buffered and the last of them is no write. At most one record means that
-- all earlier ones are committed
abbrev pub places_kept : ℕ → List (Option Before) → List (Option Before)
places_kept buffered places = if nat_le buffered 1 then [] else places

-- the same when the last of them is a write, at an address that had this place
abbrev pub places_noted : ℕ → Option Before → List (Option Before) → List (Option Before)
places_noted buffered before places = if buffered == 0 then [] else (places_kept buffered places ++ before ∷ [])
