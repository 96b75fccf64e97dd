use Rattle.std.proofs.Common.{◌≡◌, slice_index_or}
use Rattle.ft_base.specs.declared.block.Page.TheVariants as content
use Rattle.parity_media.specs.Xor.{xor_of_pages}
use Rattle.parity_media.proofs.plain.xor_of.Given as goal

abbrev pub invariant-loop-page : goal.invariant-loop-page
invariant-loop-page l = l.joined ≡ xor_of_pages (λ k. slice_index_or l.pages k content.Torn) l.page-index
