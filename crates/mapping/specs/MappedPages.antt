-- The facts that a map keeps of an address in a log block.
use Rattle.std.specs.Prelude.{◌<◌, Bool}
use Rattle.ft_base.specs.declared.block.Place.{Place}
use Rattle.ft_base.specs.declared.geometry.Geometry.{Geometry}
use Rattle.ft_base.specs.declared.record.Record.{Record}
use Rattle.ft_base.specs.declared.record.Record.TheVariants.{SetPage, Remove, Clean, SetGroup, RemoveGroup}

-- the page that has the block of an address, and whether the disk lacks the block
pub record MappedPage : Type 0 where
  pub place : Place
  pub dirty : Bool

-- if a record names a page of a log block, the page's number is one of a block's pages
abbrev pub NamesPage : Geometry → Record → Type 0
NamesPage g (SetPage lba place dirty) = place.page < g.p
NamesPage g (Remove lba) = Unit {0}
NamesPage g (Clean lba) = Unit {0}
NamesPage g (SetGroup group block present dirty) = Unit {0}
NamesPage g (RemoveGroup group) = Unit {0}
