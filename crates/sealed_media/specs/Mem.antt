-- Raw flash, disk and power in memory.
use Rattle.std.specs.Prelude.{◌≡◌, ℕ, Bool, true, false, nat_lt, List, []}
use Rattle.std.proofs.Common.{◌∙◌, ap, cond}
use Rattle.ft_base.specs.declared.block.Place.{Place}
use Rattle.ft_base.specs.declared.block.Page.{Page}
use Rattle.ft_base.specs.declared.block.Page.TheVariants as page
use Rattle.ft_media.specs.State.{State}
use Rattle.ft_media.specs.Media.{Crashed, IsBlankAhead, IsSmall}
use Rattle.device_calls.specs.Calls.{calls_made, failing_numbers}
use Rattle.mem_rig.specs.Rig.{state_of, flash_calls, disk_calls}
use Rattle.sealed_media.specs.declared.mem.MemRawRig.{MemRawRig}
use Rattle.sealed_media.specs.Seal.{plain_page, erased_page, ones_are_blank}
use Rattle.sealed_media.specs.Seals.{seal_at, seal_pages}
use Rattle.sealed_media.specs.Shown.{shown, shown_pages}
use Rattle.sealed_media.specs.RawState.{RawState, plain_contents, plain_state}

-- the raw media that media show, with the number from which torn pages are drawn, and the last bytes of whole pages
abbrev pub raw_of : ℕ → ℕ → (Place → List ℕ) → State → RawState
raw_of number pages last s = record {
  contents = record {
    shape = s.contents.shape;
    flash = record { page = shown_pages number pages last s.contents.flash.page; next = s.contents.flash.next };
    disk = s.contents.disk;
  };
  counts = s.counts;
  faults = s.faults;
  power = s.power;
  lent = [];
}

abbrev pub raw_state_of : MemRawRig → RawState
raw_state_of m = raw_of m.tear (seal_pages m.seals) (seal_at m.seals) (state_of m.rig)

-- the number from which torn pages are drawn
abbrev pub torn_number : MemRawRig → ℕ
torn_number m = m.tear

-- the calls of the flash and of the disk that will fail, by their numbers, none of which was made yet
abbrev pub WillFail : MemRawRig → List ℕ → List ℕ → Type 0
WillFail m flash disk = (failing_numbers (flash_calls m.rig) ≡ flash) × (failing_numbers (disk_calls m.rig) ≡ disk)
    × (calls_made (flash_calls m.rig) ≡ 0) × (calls_made (disk_calls m.rig) ≡ 0)

-- a blank page shows bytes of ones
pub blank_shown : (number pages : ℕ) (last : Place → List ℕ) (found : Place → Page) (at : Place) → found at ≡ page.Blank → plain_page (shown_pages number pages last found at) ≡ page.Blank
unfolding shown_pages
blank_shown number pages last found at blank = by_test (nat_lt at.page pages)
  where
    by_test : (t : Bool) → plain_page (cond t (shown number (last at) at (found at)) erased_page) ≡ page.Blank
    by_test true = ap (λ p. plain_page (shown number (last at) at p)) blank ∙ ones_are_blank 4160
    by_test false = ones_are_blank 4160

pub blank_so : (m : MemRawRig) → IsBlankAhead (state_of m.rig).contents → IsBlankAhead (plain_contents (raw_state_of m).contents)
blank_so m blank at next ready ahead = blank_shown m.tear (seal_pages m.seals) (seal_at m.seals) (state_of m.rig).contents.flash.page at (blank at next ready ahead)

pub crashed_so : (m : MemRawRig) → Crashed (state_of m.rig).contents → Crashed (plain_contents (raw_state_of m).contents)
crashed_so m crashed = record { next = crashed.next; alone = crashed.alone }

pub small_so : (m : MemRawRig) → IsSmall (state_of m.rig) → IsSmall (plain_state (raw_state_of m))
small_so m small = record { blocks = small.blocks; pages = small.pages; size = small.size; stops = small.stops; counts = small.counts }
