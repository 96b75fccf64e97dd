use Rattle.std.proofs.Common.{◌≡◌, ◌<◌, ◌≤◌, ℕ, length, slice_index_or}
use Rattle.ft_media.specs.declared.media.PageRead.TheVariants as read
use Rattle.ft_base.specs.declared.block.Block.{Block}
use Rattle.ft_base.specs.declared.block.Spare.{Spare}
use Rattle.nand_model.specs.Pages.{page_found}
use Rattle.nand_model.specs.Steps.{cut_erase}
use Rattle.nand_model.proofs.cuts.cut_all.Given as goal

abbrev pub invariant-loop-p : goal.invariant-loop-p
invariant-loop-p l = record {
  length : length l.found.items ≡ l.pages;
  cut : (p : ℕ) (block : Block) (spare : Spare) → p < l.p → page_found (slice_index_or l.found.items p read.Blank) block spare ≡ cut_erase l.outcome p (page_found (slice_index_or l.fn.found.items p read.Blank) block spare);
  whole : (p : ℕ) → p < l.p → slice_index_or l.found.items p read.Blank ≡ read.Whole → slice_index_or l.fn.found.items p read.Blank ≡ read.Whole;
  rest : (p : ℕ) → l.p ≤ p → slice_index_or l.found.items p read.Blank ≡ slice_index_or l.fn.found.items p read.Blank;
}
