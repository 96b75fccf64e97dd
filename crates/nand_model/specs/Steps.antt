-- What each device write does to a flash when it is done, failed or cut.
use Rattle.std.specs.Prelude.{◌==◌, ℕ, zero, suc, ◌%◌, None, if◌then◌else◌}
use Rattle.ft_base.specs.declared.block.Block.{Block}
use Rattle.ft_base.specs.declared.block.Spare.{Spare}
use Rattle.ft_base.specs.declared.block.Place.{Place}
use Rattle.ft_base.specs.declared.block.Page.{Page}
use Rattle.ft_base.specs.declared.block.Page.TheVariants as page
use Rattle.ft_base.specs.declared.power.Outcome.{Outcome}
use Rattle.ft_base.specs.declared.power.Outcome.TheVariants as outcome
use Rattle.ft_base.specs.Contents.{Flash, set, set_page, none_ready}
use Rattle.ft_media.specs.Media.{after_program, after_erase}
use Rattle.device_calls.specs.declared.ending.Ending.{Ending}
use Rattle.device_calls.specs.declared.ending.Ending.TheVariants as ending

-- what a cut leaves of the page that was being programmed
abbrev pub cut_program : Outcome → Block → Spare → Page
cut_program outcome.Blank block spare = page.Blank
cut_program outcome.Whole block spare = page.Whole block spare
cut_program outcome.Torn block spare = page.Torn
cut_program outcome.Mixed block spare = page.Torn

-- a blank page stays blank, and any other is torn
abbrev pub torn : Page → Page
torn page.Blank = page.Blank
torn (page.Whole block spare) = page.Torn
torn page.Torn = page.Torn

-- of three pages in a row the first is unchanged, the second is blank, and the third is torn unless it was blank
abbrev pub in_thirds : ℕ → Page → Page
in_thirds zero before = before
in_thirds (suc zero) before = page.Blank
in_thirds (suc (suc n)) before = torn before

-- what a cut leaves of page i of the block that was being erased
abbrev pub cut_erase : Outcome → ℕ → Page → Page
cut_erase outcome.Blank i before = page.Blank
cut_erase outcome.Whole i before = before
cut_erase outcome.Torn i before = torn before
cut_erase outcome.Mixed i before = in_thirds (i % 3) before

-- no page changes, and no block is ready
abbrev pub unready : Flash → Flash
unready flash = record { page = flash.page; next = none_ready }

-- the flash after a program; a program that failed leaves its page torn and its block not ready
abbrev pub program_left : Ending → Flash → Place → Block → Spare → Flash
program_left ending.Done flash at block spare = after_program flash at block spare
program_left ending.Failed flash at block spare = record { page = set_page flash.page at page.Torn; next = set flash.next at.block None }
program_left (ending.Cut outcome) flash at block spare = record {
  page = set_page flash.page at (cut_program outcome block spare);
  next = none_ready;
}
program_left ending.Off flash at block spare = flash

-- the flash after an erase; an erase that failed leaves its block blank and not ready
abbrev pub erase_left : Ending → Flash → ℕ → Flash
erase_left ending.Done flash block = after_erase flash block
erase_left ending.Failed flash block = record { page = (after_erase flash block).page; next = set flash.next block None }
erase_left (ending.Cut outcome) flash block = record {
  page = λ at. if at.block == block then cut_erase outcome at.page
      (flash.page at) else flash.page at;
  next = none_ready;
}
erase_left ending.Off flash block = flash
