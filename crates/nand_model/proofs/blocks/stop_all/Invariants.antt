use Rattle.std.proofs.Common.{◌≡◌, ◌<◌, ℕ, None}
use Rattle.ft_base.specs.declared.block.Place.{Place}
use Rattle.nand_model.specs.Blocks.{page_at, next_at, pages_at}
use Rattle.nand_model.proofs.blocks.stop_all.Given as goal

abbrev pub invariant-loop-block : goal.invariant-loop-block
invariant-loop-block l = record {
  page : (q : Place) → page_at l.block-items q ≡ page_at l.fn.blocks.items q;
  next : (b : ℕ) → b < l.block-index → next_at l.block-items b ≡ None;
  pages : (b : ℕ) → pages_at l.block-items b ≡ pages_at l.fn.blocks.items b;
}
