-- A rig over a raw rig.
use Rattle.std.specs.Prelude.{ℕ, ◌∷◌}
use Rattle.ft_media.specs.State.{State}
use Rattle.ft_media.specs.Media.{IsSmall}
use Rattle.sealed_media.specs.RawState.{RawState, plain_state}

-- the plain media for which the raw media stand, which are lent by this name
abbrev pub sealed_state : RawState → ℕ → State
sealed_state raw name = record (plain_state raw) { lent = name ∷ raw.lent }

-- the numbers of the rig are the numbers of the raw media
pub small_beneath : (raw : RawState) (name : ℕ) → IsSmall (plain_state raw) → IsSmall (sealed_state raw name)
small_beneath raw name small = record { blocks = small.blocks; pages = small.pages; size = small.size; stops = small.stops; counts = small.counts }
