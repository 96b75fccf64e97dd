-- The figures that a row of the table shows of a measurement.
use Rattle.std.specs.Prelude.{ℕ, ◌+◌, ◌*◌, ◌/◌, ◌-◌, ◌^◌, min}
use Rattle.std.specs.Duration.{as_nanos}
use Rattle.std.specs.declared.time.Duration.{Duration}

-- tenths of a mean, or 0 if nothing was counted
abbrev pub tenths : ℕ → ℕ → ℕ
tenths total count = min (10 * total) (2 ^ 64 - 1) / count

-- hundredths of a mean, or 0 if nothing was counted
abbrev pub hundredths : ℕ → ℕ → ℕ
hundredths total count = min (100 * total) (2 ^ 64 - 1) / count

-- a time in nanoseconds
abbrev pub nanoseconds : Duration → ℕ
nanoseconds time = min (as_nanos time) (2 ^ 64 - 1)

-- the number of operations in this many rounds
abbrev pub operations : ℕ → ℕ → ℕ
operations entries rounds = min (entries * rounds) (2 ^ 64 - 1)

-- the lines of a trace that wrote or read
abbrev pub requests : ℕ → ℕ → ℕ
requests writes reads = min (writes + reads) (2 ^ 64 - 1)
