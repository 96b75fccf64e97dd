-- What a list of erase blocks contains.
use Rattle.std.specs.Prelude.{◌≡◌, ◌≤◌, ℕ, Option, None, Some, List, slice_get, slice_index_or}
use Rattle.std.specs.Vec.{vec_capacity}
use Rattle.std.proofs.Common.{refl, ap}
use Rattle.ft_base.specs.declared.block.Place.{Place}
use Rattle.ft_base.specs.declared.block.Page.{Page}
use Rattle.ft_base.specs.declared.block.Page.TheVariants as page
use Rattle.ft_base.specs.Contents.{zero_block}
use Rattle.nand_model.specs.declared.erase_block.EraseBlock.{EraseBlock}
use Rattle.nand_model.specs.Pages.{block_page, page_found, no_spare}

-- page p of an optional block
abbrev pub page_of_block : Option EraseBlock → ℕ → Page
page_of_block None p = page.Blank
page_of_block (Some block) p = block_page block p

abbrev pub page_at : List EraseBlock → Place → Page
page_at blocks at = page_of_block (slice_get blocks at.block) at.page

abbrev pub next_of_block : Option EraseBlock → Option ℕ
next_of_block None = None
next_of_block (Some block) = block.next

-- the page of a block to program next, if the block is ready
abbrev pub next_at : List EraseBlock → ℕ → Option ℕ
next_at blocks block = next_of_block (slice_get blocks block)

abbrev pub size_of_block : Option EraseBlock → ℕ
size_of_block None = 0
size_of_block (Some block) = block.pages

-- how many pages a block has, and 0 if there is no such block
abbrev pub pages_at : List EraseBlock → ℕ → ℕ
pages_at blocks block = size_of_block (slice_get blocks block)

abbrev pub block_room_of : Option EraseBlock → ℕ
block_room_of None = 0
block_room_of (Some block) = vec_capacity block.blocks

abbrev pub spare_room_of : Option EraseBlock → ℕ
spare_room_of None = 0
spare_room_of (Some block) = vec_capacity block.spares

-- for how many pages a block has memory, and for how many spare areas
abbrev pub block_room_at : List EraseBlock → ℕ → ℕ
block_room_at blocks block = block_room_of (slice_get blocks block)

abbrev pub spare_room_at : List EraseBlock → ℕ → ℕ
spare_room_at blocks block = spare_room_of (slice_get blocks block)

-- in a block that is ready, each page from the next one on is blank
pub ahead_at : (blocks : List EraseBlock) (at : Place) (next : ℕ) → next_at blocks at.block ≡ Some next → next ≤ at.page
    → page_at blocks at ≡ page.Blank
ahead_at blocks at next ready ahead = ahead_in (slice_get blocks at.block) next at.page ready ahead
  where
    ahead_in : (block : Option EraseBlock) (next p : ℕ) → next_of_block block ≡ Some next → next ≤ p → page_of_block block p ≡ page.Blank
    ahead_in None next p ready ahead = refl
    ahead_in (Some block) next p ready ahead = ap (λ found. page_found found (slice_index_or block.blocks.items p zero_block)
        (slice_index_or block.spares.items p no_spare)) (block.ahead next p ready ahead)
