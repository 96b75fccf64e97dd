use Rattle.std.proofs.Common.{◌≡◌, ◌<◌, ℕ, slice_index_or}
use Rattle.ft_media.specs.declared.media.PageRead.TheVariants as read
use Rattle.nand_model.proofs.cuts.blank_all.Given as goal

abbrev pub invariant-loop-page : goal.invariant-loop-page
invariant-loop-page l = (p : ℕ) → p < l.page-index → slice_index_or l.page-items p read.Blank ≡ read.Blank
