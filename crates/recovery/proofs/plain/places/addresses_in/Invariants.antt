use Rattle.recovery.proofs.PlaceLemmas.{Gathered}
use Rattle.recovery.proofs.plain.places.addresses_in.Given as goal

-- the addresses whose pages were passed are in the list
abbrev pub invariant-loop-i : goal.invariant-loop-i
invariant-loop-i l = Gathered l.map.geometry l.map.entries l.addresses.items l.i
