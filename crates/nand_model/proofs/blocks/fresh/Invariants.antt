use Rattle.std.proofs.Common.{◌≡◌, ◌<◌, ℕ, length, nat_lt, Some, None, cond}
use Rattle.ft_base.specs.declared.block.Place.{Place}
use Rattle.ft_base.specs.declared.block.Page.TheVariants.{Blank}
use Rattle.nand_model.specs.Blocks.{page_at, next_at, pages_at, block_room_at, spare_room_at}
use Rattle.nand_model.proofs.blocks.fresh.Given as goal

abbrev pub invariant-loop : goal.invariant-loop
invariant-loop l = record {
  length : length l.made.items ≡ l.counter;
  pages : (b : ℕ) → b < l.counter → pages_at l.made.items b ≡ l.pages;
  block_room : (b : ℕ) → b < l.counter → block_room_at l.made.items b ≡ l.pages;
  spare_room : (b : ℕ) → b < l.counter → spare_room_at l.made.items b ≡ l.pages;
  page : (q : Place) → page_at l.made.items q ≡ Blank;
  next : (b : ℕ) → next_at l.made.items b ≡ cond (nat_lt b l.counter) (Some 0) None;
}
