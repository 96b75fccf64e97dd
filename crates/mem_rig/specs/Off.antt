-- The media while power is off.
use Rattle.std.specs.Prelude.{◌≡◌, ℕ, []}
use Rattle.ft_base.specs.Contents.{Flash, Values, none_ready}

-- no block is ready
abbrev pub IsUnready : Flash → Type 0
IsUnready flash = (b : ℕ) → flash.next b ≡ none_ready b

-- each disk block has one value
abbrev pub IsSettled : (ℕ → Values) → Type 0
IsSettled disk = (lba : ℕ) → (disk lba).earlier ≡ []
