-- Lines that were run, one by one.
use Rattle.std.proofs.Common.{◌<◌, List, [], ◌∷◌, length, get_or, drop}
use Rattle.trace_model.specs.declared.ran.Ran.{Ran}
use Rattle.trace_model.specs.Plain.{AreAddressed, AreRunLines, IsRunLine}

pub first_runs : (run : List Ran) (first : Ran) → 0 < length run → IsRunLine (get_or run 0 first) → AreRunLines (drop 1 run) → AreRunLines run
first_runs [] first some is others = tt
first_runs (ran ∷ earlier) first some is others = (is, others)

pub first_addressed : (run : List Ran) (first : Ran) → 0 < length run → IsRunLine (get_or run 0 first) → AreAddressed (drop 1 run) → AreAddressed run
first_addressed [] first some is others = tt
first_addressed (ran ∷ earlier) first some is others = (is.addressed, others)
