-- A flash as a list of its pages, and the result of loading it.
use Rattle.std.specs.Prelude.{◌≡◌, ℕ, ◌+◌, ◌*◌, List, Option, MatchOption, slice_index_or, Result, Ok, Err}
use Rattle.ft_base.specs.declared.geometry.Geometry.{Geometry}
use Rattle.ft_base.specs.declared.block.Place.{Place}
use Rattle.ft_base.specs.declared.block.Page.{Page}
use Rattle.ft_base.specs.declared.block.Page.TheVariants.{Blank}
use Rattle.ft_base.specs.Layout.{checkpoint_at, checkpoint_pages, log_at, log_pages}
use Rattle.cache_model.specs.declared.format.PageKind.{PageKind}
use Rattle.cache_model.specs.declared.format.PageKind.TheVariants.{Log, Map, Seal}
use Rattle.cache_model.specs.Records.{Entries}
use Rattle.cache_model.specs.declared.format.Seal.{Seal as SealValue}
use Rattle.cache_model.specs.declared.format.Totals.{Totals}
use Rattle.cache_model.specs.Loading.{Complete, Refusal, Sealed, Stamp, complete}
use Rattle.cache_model.specs.Loading as loading
use Rattle.recovery.specs.declared.plain.PlainLoad.{PlainLoad}
use Rattle.recovery.specs.declared.plain.PlainLoad.TheVariants.{Loaded, NotFormatted, OtherGeometry, Damaged}
use Rattle.recovery.specs.declared.plain.pages.Stamp.{Stamp as Read}
use Rattle.recovery.specs.declared.plain.regions.Sealed.{Sealed as Found}

-- the page at a place: the list has the pages of each erase block in turn, and all pages behind the list are blank
abbrev pub page_listed : Geometry → List Page → Place → Page
page_listed g pages at = slice_index_or pages (at.block * g.p + at.page) Blank

-- a stamp, as loading names it, and the contents of a seal
abbrev pub named : Read → Stamp
named stamp = record { format = stamp.format; era = stamp.era }

abbrev pub sealed_with : SealValue × Option Totals → Sealed
sealed_with x = record { seal = x.0; totals = x.1 }

-- a complete checkpoint, and a region with one
abbrev pub complete_of : Found → Complete
complete_of s = complete (named s.stamp) s.pages (sealed_with (s.seal, s.totals))

abbrev pub complete_in : ℕ × Found → ℕ × Complete
complete_in x = (x.0, complete_of x.1)

-- the places of the pages of a kind, and how many pages a region has
abbrev pub place_of : PageKind → Geometry → ℕ → ℕ → Place
place_of Log g region i = log_at g region i
place_of Map g region i = checkpoint_at g region i
place_of Seal g region i = checkpoint_at g region i

abbrev pub region_pages : PageKind → Geometry → ℕ
region_pages Log g = log_pages g
region_pages Map g = checkpoint_pages g
region_pages Seal g = checkpoint_pages g

-- the entries after the pages of a kind and a stamp, from the start of a region on
abbrev pub after_part : Geometry → List Page → PageKind → Stamp → ℕ → ℕ → Entries → Result Entries Refusal
after_part g pages kind stamp region count m =
    loading.after_pages g kind stamp (place_of kind g region) 0 (loading.pages_from (page_listed g pages) (place_of kind g region) 0 count) m

-- no page was found damaged and these are the entries, or this is the damaged page
abbrev pub IsApplied : Option Place → Entries → Result Entries Refusal → Type 0
IsApplied damaged m applied = MatchOption damaged (applied ≡ Ok m) (λ at. applied ≡ Err (loading.Damaged at))

-- the program's answer is the answer of loading
abbrev pub IsPlainLoad : Geometry → PlainLoad → Result Entries Refusal → Type 0
IsPlainLoad g (Loaded map) loads = (loads ≡ Ok map.entries) × (map.geometry ≡ g)
IsPlainLoad g NotFormatted loads = loads ≡ Err loading.NotFormatted
IsPlainLoad g (OtherGeometry found) loads = loads ≡ Err (loading.OtherGeometry found)
IsPlainLoad g (Damaged at) loads = loads ≡ Err (loading.Damaged at)
