-- What is kept of each erase block, and what a rig with parity counts.
use Rattle.std.specs.Prelude.{◌≡◌, ◌==◌, ℕ, Bool, true, false, if◌then◌else◌, slice_index_or}
use Rattle.ft_base.specs.declared.block.Block.{Block}
use Rattle.ft_base.specs.declared.block.Spare.{Spare}
use Rattle.ft_base.specs.Contents.{zero_block}
use Rattle.ft_base.specs.Count.{bumped}
use Rattle.parity_media.specs.declared.parities.Parities.{Parities}
use Rattle.parity_media.specs.declared.parities.Parity.{Parity}
use Rattle.parity_media.specs.declared.tally.Tally.{Tally}
use Rattle.parity_media.specs.Xor.{zero_spare, xor_block, xor_spare}

abbrev pub parity_blocks : Parities → ℕ
parity_blocks parities = parities.blocks

abbrev pub parity_pages : Parities → ℕ
parity_pages parities = parities.pages

-- of a block without a page that is programmed
abbrev pub new_parity : Parity
new_parity = record { block = zero_block; spare = zero_spare; complete = false }

-- what is kept of this block
unfoldable pub parity_of : Parities → ℕ → Parity
parity_of parities b = slice_index_or parities.each.items b new_parity

-- one page more was programmed
abbrev pub joined_parity : Parity → Block → Spare → Parity
joined_parity parity block spare = record { block = xor_block parity.block block; spare = xor_spare parity.spare spare; complete = parity.complete }

-- the parity page was programmed
abbrev pub completed : Parity → Parity
completed parity = record { block = parity.block; spare = parity.spare; complete = true }

-- one block has this parity now, and all else is as before
pub record OneChanged (old new : Parities) (block : ℕ) (parity : Parity) : Type 0 where
  pub blocks : parity_blocks new ≡ parity_blocks old
  pub pages : parity_pages new ≡ parity_pages old
  pub each : (q : ℕ) → parity_of new q ≡ (if q == block then parity else parity_of old q)

-- one more where it is told
abbrev pub counted_if : Bool → ℕ → ℕ
counted_if true count = bumped count
counted_if false count = count

abbrev pub programs_of : Tally → ℕ
programs_of tally = tally.programs

abbrev pub failed_of : Tally → ℕ
failed_of tally = tally.failed

abbrev pub cuts_of : Tally → ℕ
cuts_of tally = tally.cuts
