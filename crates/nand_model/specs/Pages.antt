-- What an erase block in memory contains.
use Rattle.std.specs.Prelude.{ℕ, slice_index_or, replicate}
use Rattle.ft_base.specs.declared.block.Block.{Block}
use Rattle.ft_base.specs.declared.block.Spare.{Spare}
use Rattle.ft_base.specs.declared.block.Page.{Page}
use Rattle.ft_base.specs.declared.block.Page.TheVariants as page
use Rattle.ft_base.specs.Contents.{zero_block}
use Rattle.ft_media.specs.declared.media.PageRead.{PageRead}
use Rattle.ft_media.specs.declared.media.PageRead.TheVariants as read
use Rattle.nand_model.specs.declared.erase_block.EraseBlock.{EraseBlock}

-- spare bytes that were never programmed
unfoldable pub no_spare : Spare
no_spare = record { 0 = replicate 32 0 }

-- the page that a read finds as this, with these bytes if it is whole
abbrev pub page_found : PageRead → Block → Spare → Page
page_found read.Blank block spare = page.Blank
page_found read.Whole block spare = page.Whole block spare
page_found read.Torn block spare = page.Torn

-- page p of a block
abbrev pub block_page : EraseBlock → ℕ → Page
block_page block p = page_found (slice_index_or block.found.items p read.Blank) (slice_index_or block.blocks.items p zero_block)
    (slice_index_or block.spares.items p no_spare)
