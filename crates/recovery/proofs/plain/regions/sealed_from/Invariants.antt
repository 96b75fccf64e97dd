use Rattle.ft_base.specs.Layout.{checkpoint_at, checkpoint_pages}
use Rattle.recovery.specs.Plain.{page_listed, named}
use Rattle.recovery.proofs.PlainLemmas.{MapsSoFar}
use Rattle.recovery.proofs.plain.regions.sealed_from.Given as goal

-- the map pages so far
abbrev pub invariant-loop-i : goal.invariant-loop-i
invariant-loop-i l = MapsSoFar (named l.stamp) (checkpoint_at l.geometry l.region) (page_listed l.geometry l.pages) (checkpoint_pages l.geometry) l.i l.count
