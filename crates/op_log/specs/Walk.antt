-- One page of records after another, as loading goes over them.
use Rattle.std.specs.Prelude.{◌≡◌, ◌==◌, ⊤, Bool, true, false, ℕ, suc, ◌+◌, ◌-◌, ◌≤◌, List, [], ◌∷◌, count_by, Option, None, Some, option_map, option_and_then, ok_or, Result, Ok, Err}
use Rattle.std.specs.Option.{option_map_or, unwrap_or}
use Rattle.ft_base.specs.declared.geometry.Geometry.{Geometry}
use Rattle.ft_base.specs.declared.block.Place.{Place}
use Rattle.ft_base.specs.declared.block.Block.{Block}
use Rattle.ft_base.specs.declared.block.Spare.{Spare}
use Rattle.ft_base.specs.declared.block.Page.{Page}
use Rattle.ft_base.specs.declared.block.Page.TheVariants.{Whole}
use Rattle.ft_base.specs.declared.record.Record.{Record}
use Rattle.ft_media.specs.declared.media.PageRead.{PageRead}
use Rattle.ft_media.specs.declared.media.PageRead.TheVariants as found
use Rattle.cache_model.specs.declared.format.PageKind.{PageKind}
use Rattle.cache_model.specs.declared.format.Header.{Header}
use Rattle.cache_model.specs.Records.{Entries}
use Rattle.cache_model.specs.Reading.{read_records}
use Rattle.cache_model.specs.Loading.{Refusal, Damaged, Stamp, header_at, said, is_whole, after_all}
use Rattle.mapping.specs.MapValue.{MapValue, pages_taken, groups_taken}
use Rattle.op_log.specs.declared.error.OpenError.{OpenError}
use Rattle.op_log.specs.declared.error.OpenError.TheVariants as refused

-- the entries after a page, if the page is of this kind and stamp, at its own place
abbrev pub page_step : Geometry → PageKind → Stamp → ℕ → Place → Page → Entries → Option (Result Entries Refusal)
page_step g kind stamp sequence at page m = option_map
    (λ h. ok_or (option_and_then (λ changes. after_all g changes m) (said (read_records g.p h) page)) (Damaged at))
    (header_at kind stamp sequence page)

-- how many pages are of one kind and stamp, each at its own place, up to the first page that isn't
abbrev pub pages_in_order : PageKind → Stamp → ℕ → List Page → ℕ
pages_in_order kind stamp i [] = 0
pages_in_order kind stamp i (page ∷ pages) = option_map_or (λ h. suc (pages_in_order kind stamp (i + 1) pages)) (header_at kind stamp i page) 0

-- the call answers as the step says: true and the new entries, false if there is no step, or the step's error. A fault,
-- a cut and out of memory come by themselves
abbrev pub Stepped : Result Bool OpenError → Entries → Entries → Option (Result Entries Refusal) → Type 0
Stepped (Ok true) old new step = step ≡ Some (Ok new)
Stepped (Ok false) old new step = (step ≡ None) × (new ≡ old)
Stepped (Err (refused.Damaged block page)) old new step = step ≡ Some (Err (Damaged (record { block = block; page = page })))
Stepped (Err refused.NotFormatted) old new step = ⊥
Stepped (Err (refused.OtherGeometry found wanted)) old new step = ⊥
Stepped (Err refused.FlashFault) old new step = ⊤
Stepped (Err refused.DiskFault) old new step = ⊥
Stepped (Err refused.PowerLost) old new step = ⊤
Stepped (Err refused.OutOfMemory) old new step = ⊤

-- the page is whole, and these are its bytes; or it isn't whole
abbrev pub IsReadAs : Bool → Page → Block → Type 0
IsReadAs true page block = (spare : Spare) × (page ≡ Whole block spare)
IsReadAs false page block = is_whole page ≡ false

-- the page that a read found is whole
abbrev pub found_whole : PageRead → Bool
found_whole found.Whole = true
found_whole found.Blank = false
found_whole found.Torn = false

-- how many pages these records need room for
abbrev pub pages_needed : List Record → ℕ
pages_needed changes = count_by (λ r. pages_taken r == 1) changes

-- how many groups these records need room for
abbrev pub groups_needed : List Record → ℕ
groups_needed changes = count_by (λ r. groups_taken r == 1) changes

-- the entries after the records of a page
abbrev pub after_records : Geometry → Header → List ℕ → Entries → Option Entries
after_records g h bytes m = option_and_then (λ changes. after_all g changes m) (read_records g.p h bytes)

-- the records of a page of this kind and stamp, at its own place; none if it is no such page
abbrev pub records_at : ℕ → PageKind → Stamp → ℕ → Page → List Record
records_at p kind stamp sequence page = unwrap_or (option_and_then (λ h. said (read_records p h) page) (header_at kind stamp sequence page)) []

-- the records took their room; if there was too little, exactly enough was made
pub record TakesRoom (changes : List Record) (old new : MapValue) : Type 0 where
  pub pages : new.spare_pages ≡ old.spare_pages - pages_needed changes
  pub groups : new.spare_groups ≡ old.spare_groups - groups_needed changes
