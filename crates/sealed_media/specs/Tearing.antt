-- The bytes of the torn pages of raw flash in memory.
use Rattle.std.specs.Prelude.{ℕ, ◌+◌, ◌*◌, ◌%◌, ◌^◌, if◌then◌else◌}
use Rattle.rand_core.specs.Steps.{fill_via_u32}
use Rattle.rand_core.specs.Pcg32Seed.{pcg32_seed}
use Rattle.rand_pcg.specs.Pcg.{pcg32, pcg32_of_seed}
use Rattle.ft_base.specs.declared.block.Place.{Place}
use Rattle.sealed_media.specs.declared.page.RawPage.{RawPage}
use Rattle.sealed_media.specs.Seal.{is_sealed, erased_page}

-- the number from which the page at this place is drawn
abbrev pub seed_at : ℕ → Place → ℕ
seed_at number at = (number + (at.block * 2 ^ 32 + at.page)) % 2 ^ 64

-- the bytes that are drawn for the page at this place
unfoldable pub drawn_page : ℕ → Place → RawPage
drawn_page number at = record { 0 = (fill_via_u32 pcg32 4160 (pcg32_of_seed (pcg32_seed 16 (seed_at number at)))).0 }

-- the drawn bytes, or all ones if the drawn bytes would be sealed
unfoldable pub torn_page : ℕ → Place → RawPage
torn_page number at = if is_sealed (drawn_page number at) then erased_page else drawn_page number at
