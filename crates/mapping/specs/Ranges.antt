-- Which addresses, and which group, a record changes.
use Rattle.std.specs.Prelude.{◌≡◌, ◌≤◌, ℕ, ◌+◌, ◌-◌, ◌*◌, ◌/◌}
use Rattle.ft_base.specs.declared.geometry.Geometry.{Geometry}
use Rattle.ft_base.specs.declared.record.Record.{Record}
use Rattle.ft_base.specs.declared.record.Record.TheVariants.{SetPage, Remove, Clean, SetGroup, RemoveGroup}
use Rattle.mapping.specs.declared.ranges.Span.{Span}

-- the first address that a record changes
abbrev pub first_of : Geometry → Record → ℕ
first_of g (SetPage lba place dirty) = lba
first_of g (Remove lba) = lba
first_of g (Clean lba) = lba
first_of g (SetGroup group block present dirty) = group * g.p
first_of g (RemoveGroup group) = group * g.p

-- how many addresses a record changes
abbrev pub count_of : Geometry → Record → ℕ
count_of g (SetPage lba place dirty) = 1
count_of g (Remove lba) = 1
count_of g (Clean lba) = 1
count_of g (SetGroup group block present dirty) = g.p
count_of g (RemoveGroup group) = g.p

-- the group of these addresses
abbrev pub group_of : Geometry → Record → ℕ
group_of g (SetPage lba place dirty) = lba / g.p
group_of g (Remove lba) = lba / g.p
group_of g (Clean lba) = lba / g.p
group_of g (SetGroup group block present dirty) = group
group_of g (RemoveGroup group) = group

-- the pages are pages of one group of the volume
pub record AreInGroup (g : Geometry) (span : Span) : Type 0 where
  pub reach : span.group ≤ (g.size - 1) / g.p
  pub within : span.first + span.count ≤ g.p

-- the first of their addresses
abbrev pub start_of : Geometry → Span → ℕ
start_of g span = span.group * g.p + span.first

-- the pages are those that the record changes
pub record IsSpanOf (g : Geometry) (change : Record) (span : Span) : Type 0 where
  pub group : span.group ≡ group_of g change
  pub first : start_of g span ≡ first_of g change
  pub count : span.count ≡ count_of g change
  pub inside : AreInGroup g span
