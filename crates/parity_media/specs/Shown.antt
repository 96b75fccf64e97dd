-- What a rig with parity is.
use Rattle.std.specs.Prelude.{ℕ, min, nat_lt, Option, Some, None, if◌then◌else◌, ◌∷◌}
use Rattle.ft_base.specs.declared.block.Place.{Place}
use Rattle.ft_base.specs.declared.block.Page.{Page}
use Rattle.ft_base.specs.declared.block.Page.TheVariants as page
use Rattle.ft_base.specs.Contents.{Contents, Flash}
use Rattle.ft_media.specs.State.{State, Faults}
use Rattle.ft_media.specs.declared.rig.Counts.{Counts}
use Rattle.parity_media.specs.declared.parities.Parities.{Parities}
use Rattle.parity_media.specs.declared.tally.Tally.{Tally}
use Rattle.parity_media.specs.Kept.{parity_blocks, parity_pages, programs_of, failed_of, cuts_of}

-- the pages before the parity page
abbrev pub shown_pages : ℕ → (Place → Page) → Place → Page
shown_pages pages found at = if nat_lt at.page pages then found at else page.Blank

-- past the last page there is none
abbrev pub next_within : ℕ → Option ℕ → Option ℕ
next_within pages None = None
next_within pages (Some n) = Some (min n pages)

-- the page to program next, in the blocks that were fitted
abbrev pub shown_next : ℕ → ℕ → (ℕ → Option ℕ) → ℕ → Option ℕ
shown_next blocks pages next b = if nat_lt b blocks then next_within pages (next b) else None

-- so many blocks and pages of a flash
abbrev pub shown_flash : ℕ → ℕ → Flash → Flash
shown_flash blocks pages flash = record { page = shown_pages pages flash.page; next = shown_next blocks pages flash.next }

abbrev pub shown_contents : ℕ → ℕ → Contents → Contents
shown_contents blocks pages contents = record {
  shape = record { blocks = blocks; pages = pages; size = contents.shape.size };
  flash = shown_flash blocks pages contents.flash;
  disk = contents.disk;
}

-- its own count of programs, and the others beneath
abbrev pub shown_counts : Tally → Counts → Counts
shown_counts tally counts = record counts { programs = programs_of tally }

-- its own counts of the flash and of power, and the disk's beneath
abbrev pub shown_faults : Tally → Faults → Faults
shown_faults tally faults = record { flash = failed_of tally; disk = faults.disk; cuts = cuts_of tally }

-- over this rig, which it lends by this name
abbrev pub parity_state : State → ℕ → Parities → Tally → State
parity_state beneath name parities tally = record {
  contents = shown_contents (parity_blocks parities) (parity_pages parities) beneath.contents;
  counts = shown_counts tally beneath.counts;
  faults = shown_faults tally beneath.faults;
  power = beneath.power;
  lent = name ∷ beneath.lent;
}
