-- What the bytes of a raw page say of the page.
use Rattle.std.specs.Prelude.{◌≡◌, ◌==◌, ℕ, zero, suc, Bool, true, List, [], ◌∷◌, ◌++◌, take, drop, replicate, bit_and, bytes_eq, if◌then◌else◌}
use Rattle.std.specs.List.{list_all}
use Rattle.std.proofs.Common.{refl, ap}
use Rattle.sha2.specs.Sha256.{sha256}
use Rattle.lanes.specs.Kernels.{IsEach}
use Rattle.ft_base.specs.declared.block.Block.{Block}
use Rattle.ft_base.specs.declared.block.Spare.{Spare}
use Rattle.ft_base.specs.declared.block.Page.{Page}
use Rattle.ft_base.specs.declared.block.Page.TheVariants as page
use Rattle.ft_media.specs.declared.media.PageRead.{PageRead}
use Rattle.ft_media.specs.declared.media.PageRead.TheVariants as read
use Rattle.sealed_media.specs.declared.page.RawPage.{RawPage}

-- the bytes, with the top bit of the first byte cleared
abbrev pub top_cleared : List ℕ → List ℕ
top_cleared [] = []
top_cleared (first ∷ later) = bit_and first 127 ∷ later

-- the seal of the bytes before it: their SHA-256, with its top bit cleared
unfoldable pub seal_of : List ℕ → List ℕ
seal_of bytes = top_cleared (sha256 bytes)

-- the bytes of a page that are sealed, and its seal
abbrev pub sealed_bytes : RawPage → List ℕ
sealed_bytes raw = take 4128 raw.0

abbrev pub seal_in : RawPage → List ℕ
seal_in raw = drop 4128 raw.0

-- the page has the seal of its other bytes
unfoldable pub IsSealed : RawPage → Type 0
IsSealed raw = seal_in raw ≡ seal_of (sealed_bytes raw)

-- each byte is 0xFF, as an erase leaves it
unfoldable pub IsErased : RawPage → Type 0
IsErased raw = IsEach 255 raw.0

-- the same facts as tests
unfoldable pub is_sealed : RawPage → Bool
is_sealed raw = bytes_eq (seal_in raw) (seal_of (sealed_bytes raw))

unfoldable pub is_erased : RawPage → Bool
is_erased raw = list_all (λ byte. byte == 255) raw.0

-- a page that is erased is blank, a page that is sealed is whole, and any other page is torn
abbrev pub classified : RawPage → PageRead
classified raw = if is_erased raw then read.Blank else if is_sealed raw then read.Whole else read.Torn

-- the block and the spare bytes of a page
abbrev pub block_in : RawPage → Block
block_in raw = record { 0 = take 4096 raw.0 }

abbrev pub spare_in : RawPage → Spare
spare_in raw = record { 0 = take 32 (drop 4096 raw.0) }

abbrev pub page_so : PageRead → RawPage → Page
page_so read.Blank raw = page.Blank
page_so read.Whole raw = page.Whole (block_in raw) (spare_in raw)
page_so read.Torn raw = page.Torn

-- the page, as it is classified
unfoldable pub plain_page : RawPage → Page
plain_page raw = page_so (classified raw) raw

-- a block, spare bytes and these last bytes
unfoldable pub joined_page : Block → Spare → List ℕ → RawPage
joined_page block spare last = record { 0 = (block.0 ++ spare.0) ++ last }

-- a block and spare bytes with their seal
abbrev pub sealed_page : Block → Spare → RawPage
sealed_page block spare = joined_page block spare (seal_of (block.0 ++ spare.0))

-- n bytes of ones
unfoldable pub ones_page : ℕ → RawPage
ones_page n = record { 0 = replicate n 255 }

-- a page as an erase leaves it
abbrev pub erased_page : RawPage
erased_page = ones_page 4160

-- bytes of ones are blank
ones_pass : (n : ℕ) → list_all (λ byte. byte == 255) (replicate n 255) ≡ true
ones_pass zero = refl
ones_pass (suc n) = ones_pass n

pub ones_are_blank : (n : ℕ) → plain_page (ones_page n) ≡ page.Blank
unfolding plain_page is_erased ones_page
ones_are_blank n = ap (λ e. page_so (if e then read.Blank else if is_sealed (ones_page n) then read.Whole else read.Torn) (ones_page n)) (ones_pass n)
