-- The steps of the plain loop against which a run is measured.
use Rattle.std.specs.Prelude.{ℕ, ◌+◌, ◌-◌, ◌%◌, ◌==◌, zero, suc, if◌then◌else◌, List, [], ◌++◌, length, slice_index_or, slice_set}
use Rattle.std.specs.Int.{w64, to_be_bytes}
use Rattle.bench_run.specs.declared.ring.Ring.{Ring}
use Rattle.bench_run.specs.declared.slot.Slot.{Slot}

-- the page that is read if there is none
abbrev pub no_slot : Slot
no_slot = record { block = record { 0 = [] }; spare = record { 0 = [] } }

-- a page of a list
abbrev pub floor_slot : List Slot → ℕ → Slot
floor_slot slots at = slice_index_or slots at no_slot

abbrev pub set_slot : List Slot → ℕ → Slot → List Slot
set_slot slots at slot = slice_set slots at slot

-- a ring of pages, and the page that is copied next
pub record PageRing : Type 0 where
  pub slots : List Slot
  pub at : ℕ

abbrev pub pages_of : Ring → PageRing
pages_of ring = record { slots = ring.slots.items; at = ring.at }

-- the page after this one, in a ring of `pages` pages
abbrev pub following : ℕ → ℕ → ℕ
following pages at = if at + 1 == pages then 0 else at + 1

-- the page is copied into the next one
abbrev pub copied : PageRing → PageRing
copied p = record {
  slots = set_slot p.slots (following (length p.slots) p.at) (floor_slot p.slots p.at);
  at = following (length p.slots) p.at;
}

-- `n` copies, one after another
abbrev pub after_copies : ℕ → PageRing → PageRing
after_copies zero p = p
after_copies (suc n) p = copied (after_copies n p)

-- the addresses below a number, ascending, each with a block
abbrev pub blocks_told : List Slot → ℕ → List ℕ
blocks_told slots zero = []
blocks_told slots (suc n) = blocks_told slots n ++ to_be_bytes w64 n ++ (floor_slot slots (n % length slots)).block.0
