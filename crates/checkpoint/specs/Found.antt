-- The checkpoint that is found.
use Rattle.std.specs.Prelude.{ℕ, Option, option_map}
use Rattle.cache_model.specs.Loading.{Complete, complete}
use Rattle.op_log.specs.Stamps.{stamped}
use Rattle.checkpoint.specs.declared.walk.Newest.{Newest}

-- a region and its checkpoint, as loading names them
abbrev pub found_in : Newest → ℕ × Complete
found_in n = (n.region, complete (stamped n.format n.era) n.pages (record { seal = n.seal; totals = n.totals }))

abbrev pub found : Option Newest → Option (ℕ × Complete)
found n = option_map found_in n

-- the checkpoint of this region
abbrev pub in_region : ℕ → Complete → ℕ × Complete
in_region region c = (region, c)
