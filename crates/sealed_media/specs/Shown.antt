-- Which bytes the pages of raw flash in memory show.
use Rattle.std.specs.Prelude.{ℕ, List, nat_lt, if◌then◌else◌}
use Rattle.ft_base.specs.declared.block.Place.{Place}
use Rattle.ft_base.specs.declared.block.Page.{Page}
use Rattle.ft_base.specs.declared.block.Page.TheVariants as page
use Rattle.sealed_media.specs.declared.page.RawPage.{RawPage}
use Rattle.sealed_media.specs.Seal.{joined_page, erased_page}
use Rattle.sealed_media.specs.Tearing.{torn_page}

-- the bytes of a page, with these last bytes if it is whole
abbrev pub shown : ℕ → List ℕ → Place → Page → RawPage
shown number last at page.Blank = erased_page
shown number last at (page.Whole block spare) = joined_page block spare last
shown number last at page.Torn = torn_page number at

-- the bytes of each page of a flash that has `pages` pages in each block
unfoldable pub shown_pages : ℕ → ℕ → (Place → List ℕ) → (Place → Page) → Place → RawPage
shown_pages number pages last found at = if nat_lt at.page pages then shown number (last at) at (found at) else erased_page
