-- The exclusive or of pages.
use Rattle.std.specs.Prelude.{◌≡◌, ◌<◌, ◌≤◌, ℕ, zero, suc, Bool, true, false, List, [], length, replicate}
use Rattle.lanes.specs.Kernels.{xor_of}
use Rattle.ft_base.specs.declared.block.Block.{Block}
use Rattle.ft_base.specs.declared.block.Spare.{Spare}
use Rattle.ft_base.specs.declared.block.Place.{Place}
use Rattle.ft_base.specs.declared.block.Page.{Page}
use Rattle.ft_base.specs.declared.block.Page.TheVariants as page
use Rattle.ft_base.specs.Contents.{zero_block}

-- spare bytes that were never written
unfoldable pub zero_spare : Spare
zero_spare = record { 0 = replicate 32 0 }

-- byte by byte
abbrev pub xor_block : Block → Block → Block
xor_block one other = record { 0 = xor_of one.0 other.0 }

abbrev pub xor_spare : Spare → Spare → Spare
xor_spare one other = record { 0 = xor_of one.0 other.0 }

-- of a page and these bytes: torn where the page isn't whole
abbrev pub xor_whole : Block → Spare → Page → Page
xor_whole block spare page.Blank = page.Torn
xor_whole block spare (page.Whole b s) = page.Whole (xor_block block b) (xor_spare spare s)
xor_whole block spare page.Torn = page.Torn

-- of two pages: torn where one of them isn't whole
abbrev pub xor_page : Page → Page → Page
xor_page page.Blank other = page.Torn
xor_page (page.Whole block spare) other = xor_whole block spare other
xor_page page.Torn other = page.Torn

-- of the first so many pages
abbrev pub xor_of_pages : (ℕ → Page) → ℕ → Page
xor_of_pages pages zero = page.Whole zero_block zero_spare
xor_of_pages pages (suc n) = xor_page (xor_of_pages pages n) (pages n)

-- the bytes of a page, none where it isn't whole
abbrev pub block_bytes : Page → List ℕ
block_bytes page.Blank = []
block_bytes (page.Whole block spare) = block.0
block_bytes page.Torn = []

abbrev pub spare_bytes : Page → List ℕ
spare_bytes page.Blank = []
spare_bytes (page.Whole block spare) = spare.0
spare_bytes page.Torn = []

abbrev pub is_whole : Page → Bool
is_whole page.Blank = false
is_whole (page.Whole block spare) = true
is_whole page.Torn = false

-- the page is whole, with as many bytes as a page has
pub record IsFull (found : Page) : Type 0 where
  pub block : length (block_bytes found) ≡ 4096
  pub spare : length (spare_bytes found) ≡ 32

-- the pages of an erase block
abbrev pub pages_of : (Place → Page) → ℕ → ℕ → Page
pages_of found b k = found (record { block = b; page = k })

-- the first so many pages are joined in these bytes, but for one that is left out
pub record JoinsBut (found : ℕ → Page) (out n : ℕ) (block : Block) (spare : Spare) : Type 0 where
  pub block_long : length block.0 ≡ 4096
  pub spare_long : length spare.0 ≡ 32
  pub before : n ≤ out → page.Whole block spare ≡ xor_of_pages found n
  pub after : out < n → xor_whole block spare (found out) ≡ xor_of_pages found n
