-- How what is kept of a block and its pages stand to one another.
use Rattle.std.specs.Prelude.{◌≡◌, ◌<◌, ◌≤◌, ◌+◌, ℕ, true, Option, Some}
use Rattle.ft_base.specs.declared.block.Page.{Page}
use Rattle.ft_base.specs.declared.block.Page.TheVariants as page
use Rattle.ft_base.specs.Contents.{Contents}
use Rattle.parity_media.specs.declared.parities.Parities.{Parities}
use Rattle.parity_media.specs.declared.parities.Parity.{Parity}
use Rattle.parity_media.specs.Xor.{xor_of_pages, IsFull, pages_of}
use Rattle.parity_media.specs.Kept.{parity_blocks, parity_pages, parity_of}

-- the first so many pages are whole, and this is their exclusive or
pub record Joins (found : ℕ → Page) (n : ℕ) (parity : Parity) : Type 0 where
  pub full : (k : ℕ) → k < n → IsFull (found k)
  pub sum : xor_of_pages found n ≡ page.Whole parity.block parity.spare

-- the pages before the parity page are whole, and the parity page is their exclusive or
pub record HasParity (found : ℕ → Page) (pages : ℕ) : Type 0 where
  pub full : (k : ℕ) → k < pages → IsFull (found k)
  pub sum : found pages ≡ xor_of_pages found pages

-- of a block that has so many pages before its parity page
pub record BlockTied (pages : ℕ) (found : ℕ → Page) (next : Option ℕ) (parity : Parity) : Type 0 where
  -- while it is filled, the pages so far are joined
  pub filled : (n : ℕ) → next ≡ Some n → n < pages → Joins found n parity
  -- once it is full and ready, it is complete
  pub ready : (n : ℕ) → next ≡ Some n → pages ≤ n → 0 < pages → parity.complete ≡ true
  -- while it is complete, its parity page is right
  pub complete : parity.complete ≡ true → HasParity found pages

-- so it is with each block, and each has one page more beneath
pub record Tied (contents : Contents) (parities : Parities) : Type 0 where
  pub blocks : 0 < parity_blocks parities → contents.shape.blocks ≡ parity_blocks parities
  pub pages : 0 < parity_blocks parities → contents.shape.pages ≡ parity_pages parities + 1
  pub each : (b : ℕ) → b < parity_blocks parities
      → BlockTied (parity_pages parities) (pages_of contents.flash.page b) (contents.flash.next b) (parity_of parities b)
