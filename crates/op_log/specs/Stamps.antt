-- The format and the era of pages of records.
use Rattle.std.specs.Prelude.{ℕ}
use Rattle.cache_model.specs.Loading.{Stamp}
use Rattle.op_log.specs.declared.stamp.Stamp.{Stamp as Read}

-- a stamp, as loading names it
abbrev pub named : Read → Stamp
named stamp = record { format = stamp.format; era = stamp.era }

-- a format and an era
abbrev pub stamped : ℕ → ℕ → Stamp
stamped format era = record { format = format; era = era }

-- pages that are written have format 2
abbrev pub own_stamp : ℕ → Stamp
own_stamp era = record { format = 2; era = era }
