-- What holds of a rig with parity, from what holds of the rig beneath.
use Rattle.std.specs.Prelude.{◌≡◌, ◌<◌, ◌≤◌, ℕ, min, nat_lt, Bool, true, false, Option, Some, None}
use Rattle.std.proofs.Common.{refl, ◌∙◌, ap, arith, cond}
use Rattle.std.proofs.lemmas.Bool.Decides.{nat_tests}
use Rattle.ft_base.specs.declared.block.Page.TheVariants as page
use Rattle.ft_base.specs.Contents.{Contents}
use Rattle.ft_media.specs.State.{State}
use Rattle.ft_media.specs.Media.{Crashed, IsBlankAhead, IsSmall}
use Rattle.parity_media.specs.declared.parities.Parities.{Parities}
use Rattle.parity_media.specs.declared.tally.Tally.{Tally}
use Rattle.parity_media.specs.Shown.{shown_next, next_within, shown_contents, parity_state}

-- past the blocks that were fitted nothing is ready
pub ready_so : (blocks pages : ℕ) (next : ℕ → Option ℕ) (b : ℕ) → blocks ≤ b → shown_next blocks pages next b ≡ None
ready_so blocks pages next b past =
    let test : nat_lt b blocks ≡ false = grind (arith, nat_tests, past) in
    ap (λ t. cond t (next_within pages (next b)) None) test

-- the page to program next beneath is the same, before the parity page
next_so : (pages n p : ℕ) (o : Option ℕ) → next_within pages o ≡ Some n → n ≤ p → p < pages → o ≡ Some n
next_so pages n p None is ahead inside = is
next_so pages n p (Some m) is ahead inside =
    let least : min m pages ≡ n = cc in
    ap Some (omega (arith, least, ahead, inside))

pub blank_so : (blocks pages : ℕ) (contents : Contents) → IsBlankAhead contents → IsBlankAhead (shown_contents blocks pages contents)
blank_so blocks pages contents blank at n next ahead = by_tests (nat_lt at.page pages) (nat_lt at.block blocks) refl next
  where
    by_tests : (t u : Bool) → nat_lt at.page pages ≡ t → cond u (next_within pages (contents.flash.next at.block)) None ≡ Some n
        → cond t (contents.flash.page at) page.Blank ≡ page.Blank
    by_tests true true inside is = blank at n (next_so pages n at.page (contents.flash.next at.block) is ahead (grind (arith, nat_tests, inside))) ahead
    by_tests true false inside is = cc
    by_tests false u past is = refl

-- nothing is ready
pub crashed_so : (blocks pages : ℕ) (contents : Contents) → Crashed contents → Crashed (shown_contents blocks pages contents)
crashed_so blocks pages contents crashed = record { next = λ i b. none b i; alone = crashed.alone }
  where
    by_test : (t : Bool) (b : ℕ) → cond t (next_within pages None) None ≡ None
    by_test true b = refl
    by_test false b = refl

    none : (b : ℕ) → shown_next blocks pages contents.flash.next b ≡ None
    none b = ap (λ (f : ℕ → Option ℕ). cond (nat_lt b blocks) (next_within pages (f b)) None) crashed.next ∙ by_test (nat_lt b blocks) b

-- its numbers are small
pub small_so : (beneath : State) (name : ℕ) (parities : Parities) (tally : Tally) → IsSmall beneath → IsSmall (parity_state beneath name parities tally)
small_so beneath name parities tally small = record {
  blocks = parities.blocks_small;
  pages = parities.pages_small;
  size = small.size;
  stops = small.stops;
  counts = record {
    programs = tally.programs_small;
    erases = small.counts.erases;
    disk_reads = small.counts.disk_reads;
    disk_writes = small.counts.disk_writes;
    disk_flushes = small.counts.disk_flushes;
    flash_faults = tally.failed_small;
    disk_faults = small.counts.disk_faults;
    cuts = tally.cuts_small;
  };
}
