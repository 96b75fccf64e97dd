use Rattle.std.proofs.Common.{◌≡◌}
use Rattle.recovery.specs.Plain.{page_listed, place_of, named}
use Rattle.recovery.proofs.WalkLemmas.{Walked}
use Rattle.recovery.proofs.plain.applying.apply_part.Given as goal

-- the pages so far are applied
abbrev pub invariant-loop-i : goal.invariant-loop-i
invariant-loop-i l = record {
  geometry : l.map.geometry ≡ l.geometry;
  walked : Walked l.geometry l.part.kind (named l.part.stamp) (place_of l.part.kind l.geometry l.part.region) (page_listed l.geometry l.pages) l.part.pages l.fn.map.entries l.i l.map.entries;
}
