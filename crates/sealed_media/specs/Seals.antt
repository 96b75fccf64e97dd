-- The last bytes of each page of a flash.
use Rattle.std.specs.Prelude.{ℕ, ◌+◌, ◌*◌, List, [], slice_index_or}
use Rattle.ft_base.specs.declared.block.Place.{Place}
use Rattle.sealed_media.specs.declared.seals.Seals.{Seals}

abbrev pub seal_blocks : Seals → ℕ
seal_blocks seals = seals.blocks

abbrev pub seal_pages : Seals → ℕ
seal_pages seals = seals.pages

-- the last bytes of a page of the flash
unfoldable pub seal_at : Seals → Place → List ℕ
seal_at seals at = slice_index_or seals.all.items (at.block * seals.pages + at.page) []
