-- What checkpoints add to the counts of device writes.
use Rattle.std.specs.Prelude.{ℕ, ◌+◌, ◌*◌, min}
use Rattle.ft_base.specs.declared.geometry.Geometry.{Geometry}
use Rattle.ft_base.specs.Count.{last_count}
use Rattle.ft_base.specs.Layout.{k}
use Rattle.ft_media.specs.declared.rig.Counts.{Counts}

-- a count and n more, up to the last value
abbrev pub raised : ℕ → ℕ → ℕ
raised n count = min (count + n) last_count

-- the counts after n more erases, and after n more programs
abbrev pub erases_counted : ℕ → Counts → Counts
erases_counted n counts = record counts { erases = raised n counts.erases }

abbrev pub programs_counted : ℕ → Counts → Counts
programs_counted n counts = record counts { programs = raised n counts.programs }

-- a checkpoint erases each block of a region and of its log, and programs its map pages and its seal
abbrev pub checkpoint_counted : Geometry → ℕ → Counts → Counts
checkpoint_counted g pages counts = programs_counted (pages + 1) (erases_counted (k g + g.j) counts)

-- formatting erases each block of both regions and of the first log, and programs a seal
abbrev pub format_counted : Geometry → Counts → Counts
format_counted g counts = programs_counted 1 (erases_counted (2 * k g + g.j) counts)
