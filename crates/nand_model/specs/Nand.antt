-- What a flash in memory contains.
use Rattle.std.specs.Prelude.{◌≡◌, ◌<◌, ◌≤◌, ◌^◌, ℕ, None, Some, length}
use Rattle.std.proofs.Common.{ap}
use Rattle.std.proofs.lemmas.Option.{slice_get_past}
use Rattle.ft_base.specs.Count.{last_count}
use Rattle.ft_base.specs.declared.block.Place.{Place}
use Rattle.ft_base.specs.declared.block.Page.TheVariants as page
use Rattle.ft_base.specs.Contents.{Flash}
use Rattle.device_calls.specs.declared.calls.Calls.{Calls}
use Rattle.nand_model.specs.declared.nand.MemNand.{MemNand}
use Rattle.nand_model.specs.Blocks.{page_at, next_of_block, next_at, ahead_at, block_room_at, spare_room_at}

-- the erase blocks, and the pages of each
abbrev pub nand_blocks : MemNand → ℕ
nand_blocks nand = length nand.blocks.items

abbrev pub nand_pages : MemNand → ℕ
nand_pages nand = nand.pages

-- its pages, and for each block the page to program next
abbrev pub flash_of : MemNand → Flash
flash_of nand = record { page = page_at nand.blocks.items; next = next_at nand.blocks.items }

-- each of the first `blocks` blocks has memory for exactly `pages` pages and spare areas
pub record HasRoom (nand : MemNand) (blocks pages : ℕ) : Type 0 where
  pub of_blocks : (b : ℕ) → b < blocks → block_room_at nand.blocks.items b ≡ pages
  pub of_spares : (b : ℕ) → b < blocks → spare_room_at nand.blocks.items b ≡ pages

-- its calls, and how many of them failed
abbrev pub calls_of : MemNand → Calls
calls_of nand = nand.calls

-- the programs and the erases that were done
abbrev pub programs_done : MemNand → ℕ
programs_done nand = nand.programs

abbrev pub erases_done : MemNand → ℕ
erases_done nand = nand.erases

-- its calls and counts stay
pub record SameNumbers (old new : MemNand) : Type 0 where
  pub calls : calls_of new ≡ calls_of old
  pub programs : programs_done new ≡ programs_done old
  pub erases : erases_done new ≡ erases_done old

-- in a block that is ready, each page from the next one on is blank
pub blank_ahead : (nand : MemNand) (at : Place) (next : ℕ) → (flash_of nand).next at.block ≡ Some next → next ≤ at.page
    → (flash_of nand).page at ≡ page.Blank
blank_ahead nand at next = ahead_at nand.blocks.items at next

-- each block that is ready is an erase block of the flash
pub ready_inside : (nand : MemNand) (b : ℕ) → nand_blocks nand ≤ b → (flash_of nand).next b ≡ None
ready_inside nand b outside = ap next_of_block (slice_get_past nand.blocks.items b outside)

-- the numbers fit their types
pub block_count_small : (nand : MemNand) → nand_blocks nand < 2 ^ 32
block_count_small nand = nand.few

pub page_count_small : (nand : MemNand) → nand_pages nand < 2 ^ 32
page_count_small nand = nand.pages_small

pub programs_small : (nand : MemNand) → programs_done nand ≤ last_count
programs_small nand = nand.programs_small

pub erases_small : (nand : MemNand) → erases_done nand ≤ last_count
erases_small nand = nand.erases_small
