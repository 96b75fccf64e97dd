-- What lies beneath a volume.
use Rattle.std.specs.Prelude.{◌≡◌, ◌≢◌, ◌+◌, ◌<◌, ◌∷◌, ℕ, None}
use Rattle.ft_base.specs.Contents.{Contents}
use Rattle.ft_base.specs.Count.{Rose}
use Rattle.ft_base.specs.declared.block.Page.TheVariants as page
use Rattle.ft_media.specs.State.{State}
use Rattle.flashtier_words.specs.declared.devices.Parity.{Parity}
use Rattle.flashtier_words.specs.declared.devices.Parity.TheVariants.{Off, On}
use Rattle.parity_media.specs.Shown.{shown_contents}
use Rattle.parity_media.specs.Tied.{HasParity}
use Rattle.parity_media.specs.Xor.{pages_of}
use Rattle.sealed_media.specs.RawState.{RawState}
use Rattle.sealed_media.specs.Sealed.{sealed_state}
use Rattle.trace_replay.specs.Said.{RoseAtLeast}

-- in each block that is ready and of which the last page before the parity page isn't blank, the parity page is the
-- exclusive or of the others
abbrev pub HasParityPages : Contents → Contents → Type 0
HasParityPages inner outer = (b last : ℕ) → outer.shape.pages ≡ last + 1 → outer.flash.next b ≢ None
    → outer.flash.page (record { block = b; page = last }) ≢ page.Blank → HasParity (pages_of inner.flash.page b) outer.shape.pages

-- in each block of which that page isn't blank, the parity page is the exclusive or of the others
abbrev pub AllHaveParity : Contents → Contents → Type 0
AllHaveParity inner outer = (b last : ℕ) → b < outer.shape.blocks → outer.shape.pages ≡ last + 1
    → outer.flash.page (record { block = b; page = last }) ≢ page.Blank → HasParity (pages_of inner.flash.page b) outer.shape.pages

-- these media are those of a rig with parity over that one: all pages before the parity pages, the same disk and power
pub record AreOverParity (inner outer : State) : Type 0 where
  pub contents : outer.contents ≡ shown_contents outer.contents.shape.blocks outer.contents.shape.pages inner.contents
  pub parity : HasParityPages inner.contents outer.contents
  pub counts : outer.counts ≡ record inner.counts { programs = outer.counts.programs }
  pub power : outer.power ≡ inner.power
  pub disk : outer.faults.disk ≡ inner.faults.disk
  pub name : ℕ
  pub lent : outer.lent ≡ name ∷ inner.lent

-- a fault of the flash and a cut that are counted over a rig are counted by the rig too
pub record RisesBeneath (old new first now : State) : Type 0 where
  pub flash : Rose first.faults.flash now.faults.flash → Rose old.faults.flash new.faults.flash
  pub cuts : (n : ℕ) → RoseAtLeast n first.faults.cuts now.faults.cuts → RoseAtLeast n old.faults.cuts new.faults.cuts

-- this is so of the media beneath a volume: of the rig's own, or of those of a rig with parity over it
abbrev pub OnDevices : Parity → (State → State → Type 0) → State → State → Type 0
OnDevices Off So old new = So old new
OnDevices On So old new = (first : State) × (now : State) × AreOverParity old first × AreOverParity new now × RisesBeneath old new first now
    × So first now

-- this is so of the media for which raw media stand, as a rig that seals their pages has them: it lends them by some name
abbrev pub OnSealed : (State → State → Type 0) → RawState → RawState → Type 0
OnSealed So old new = (name : ℕ) × So (sealed_state old name) (sealed_state new name)
