-- The records that are asked of a map for several pages at once.
use Rattle.std.specs.Prelude.{◌≡◌, ◌⊎◌, ℕ, ◌-◌, ◌*◌, ◌/◌, ◌%◌, List, length, take, drop, min}
use Rattle.ft_base.specs.declared.geometry.Geometry.{Geometry}
use Rattle.ft_base.specs.declared.record.Record.{Record}
use Rattle.ft_base.specs.Layout.{page_records}

-- for how many pages the records are asked at once, and the most records of these pages
abbrev pub asked_pages : ℕ
asked_pages = 16

abbrev pub asked_records : Geometry → ℕ
asked_records g = asked_pages * page_records g

-- the first record that is asked for together with the records of page i, and how many are asked for
abbrev pub first_asked : Geometry → ℕ → ℕ
first_asked g i = asked_records g * (i / asked_pages)

abbrev pub count_asked : Geometry → List Record → ℕ → ℕ
count_asked g records i = min (asked_records g) (length records - first_asked g i)

-- the list begins with the records that are asked for together with the records of page i
abbrev pub HasRun : Geometry → List Record → ℕ → List Record → Type 0
HasRun g records i asked = take (count_asked g records i) asked ≡ take (count_asked g records i) (drop (first_asked g i) records)

-- the list begins so, unless page i is the first page whose records are asked for at once
abbrev pub IsAskedFor : Geometry → List Record → ℕ → List Record → Type 0
IsAskedFor g records i asked = (i % asked_pages ≡ 0) ⊎ HasRun g records i asked
