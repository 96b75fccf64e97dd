use Rattle.recovery.specs.Plain.{page_listed}
use Rattle.recovery.proofs.PlaceLemmas.{Looked}
use Rattle.recovery.proofs.plain.places.first_not_whole.Given as goal

-- the places so far are whole
abbrev pub invariant-loop-lba : goal.invariant-loop-lba
invariant-loop-lba l = Looked (page_listed l.geometry l.pages) l.map.entries l.lba-items l.lba-index
