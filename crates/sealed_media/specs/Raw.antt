-- What the calls of raw media do to the bytes of pages. All else is as `ft_media` says for media that know which pages
-- are torn.
use Rattle.std.specs.Prelude.{◌≡◌, ◌⊎◌, ◌+◌, if◌then◌else◌, ℕ, Some}
use Rattle.ft_base.specs.declared.block.Place.{Place}
use Rattle.ft_base.specs.Contents.{same_place, set}
use Rattle.sealed_media.specs.declared.page.RawPage.{RawPage}
use Rattle.sealed_media.specs.RawState.{RawFlash}
use Rattle.sealed_media.specs.Seal.{IsErased}

abbrev pub set_raw : (Place → RawPage) → Place → RawPage → Place → RawPage
set_raw page at value q = if same_place at q then value else page q

-- the page has these bytes, and the page behind it is next
abbrev pub raw_programmed : RawFlash → Place → RawPage → RawFlash
raw_programmed flash at raw = record { page = set_raw flash.page at raw; next = set flash.next at.block (Some (at.page + 1)) }

-- a failed step left torn bytes, in this page alone
pub record LeavesTorn (torn : RawPage → Type 0) (old new : RawFlash) (at : Place) : Type 0 where
  pub left : RawPage
  pub is_torn : torn left
  pub page : new.page ≡ set_raw old.page at left

-- whatever the call answers, the page is unchanged, wholly programmed or torn, and no other page changes
abbrev pub LeavesRaw : (RawPage → Type 0) → RawFlash → RawFlash → Place → RawPage → Type 0
LeavesRaw torn old new at raw = (new.page ≡ old.page) ⊎ (new.page ≡ set_raw old.page at raw) ⊎ LeavesTorn torn old new at

-- each page of the block is erased, and its first page is next; no other page changes
pub record RawErased (old new : RawFlash) (block : ℕ) : Type 0 where
  pub inside : (at : Place) → at.block ≡ block → IsErased (new.page at)
  pub outside : (at : Place) → (at.block ≡ block → ⊥) → new.page at ≡ old.page at
  pub next : new.next ≡ set old.next block (Some 0)

-- whatever the call answers, each page of the block, by itself, is unchanged, erased or torn, and no other page changes
abbrev pub LeavesErased : (RawPage → Type 0) → RawFlash → RawFlash → ℕ → Type 0
LeavesErased torn old new block = (at : Place) → (new.page at ≡ old.page at)
    ⊎ ((at.block ≡ block) × (IsErased (new.page at) ⊎ torn (new.page at)))
