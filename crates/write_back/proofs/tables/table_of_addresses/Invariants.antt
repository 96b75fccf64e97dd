use Rattle.write_back.proofs.VolumeLemmas.{IsMade}
use Rattle.write_back.proofs.tables.table_of_addresses.Given as goal

-- the table of the addresses so far
abbrev pub invariant-loop-lba : goal.invariant-loop-lba
invariant-loop-lba l = IsMade l.geometry l.lbas l.lba-index l.table
