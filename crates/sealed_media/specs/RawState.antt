-- Raw media at one moment, and the plain media for which they stand.
use Rattle.std.specs.Prelude.{ℕ, List, Option}
use Rattle.ft_base.specs.declared.block.Place.{Place}
use Rattle.ft_base.specs.Contents.{Contents, Shape, Values}
use Rattle.ft_media.specs.State.{State, Faults, Power}
use Rattle.ft_media.specs.declared.rig.Counts.{Counts}
use Rattle.sealed_media.specs.declared.page.RawPage.{RawPage}
use Rattle.sealed_media.specs.Seal.{plain_page}

-- the bytes of each page, and for each erase block the page to program next, if the block is ready
pub record RawFlash : Type 0 where
  pub page : Place → RawPage
  pub next : ℕ → Option ℕ

-- raw flash and a disk
pub record RawContents : Type 0 where
  pub shape : Shape
  pub flash : RawFlash
  pub disk : ℕ → Values

-- raw media at one moment: all but the contents is as in `State`, for media that know which pages are torn
pub record RawState : Type 0 where
  pub contents : RawContents
  pub counts : Counts
  pub faults : Faults
  pub power : Power
  pub lent : List ℕ

-- the contents for which raw contents stand: each page as it is classified, and all else unchanged
abbrev pub plain_contents : RawContents → Contents
plain_contents raw = record {
  shape = raw.shape;
  flash = record { page = λ at. plain_page (raw.flash.page at); next = raw.flash.next };
  disk = raw.disk;
}

-- the plain media for which raw media stand
abbrev pub plain_state : RawState → State
plain_state raw = record {
  contents = plain_contents raw.contents;
  counts = raw.counts;
  faults = raw.faults;
  power = raw.power;
  lent = raw.lent;
}
