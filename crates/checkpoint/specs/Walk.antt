-- The walk along a checkpoint region, page by page.
use Rattle.std.specs.Prelude.{◌≡◌, ◌+◌, ◌≤◌, ℕ, Option, None, Some, option_and_then, List, [], ◌∷◌}
use Rattle.ft_base.specs.declared.block.Page.{Page}
use Rattle.ft_base.specs.Layout.{most_page_records}
use Rattle.cache_model.specs.Reading.{read_page_header, read_seal}
use Rattle.cache_model.specs.Loading.{Complete, complete, said, stamp_in, sealed_from}
use Rattle.op_log.specs.declared.stamp.Stamp.{Stamp}
use Rattle.op_log.specs.Stamps.{named}
use Rattle.checkpoint.specs.declared.reading.Found.{Found}
use Rattle.checkpoint.specs.declared.reading.Found.TheVariants as is
use Rattle.checkpoint.specs.declared.walk.Walk.{Walk}
use Rattle.checkpoint.specs.declared.walk.Step.{Step}
use Rattle.checkpoint.specs.declared.walk.Step.TheVariants as step

-- the kind of page that a page of a checkpoint region was found to be
abbrev pub IsFoundAs : Page → Found → Type 0
IsFoundAs page (is.Records header) = said read_page_header page ≡ Some header
IsFoundAs page (is.Sealed header seal totals) = (said read_page_header page ≡ None) × (said read_seal page ≡ Some (header, seal, totals))
IsFoundAs page is.Other = (said read_page_header page ≡ None) × (said read_seal page ≡ None)

-- a page of records counts at most as many records as a page may have
abbrev pub IsFew : Found → Type 0
IsFew (is.Records header) = header.count ≤ most_page_records
IsFew (is.Sealed header seal totals) = Unit {0}
IsFew is.Other = Unit {0}

-- the checkpoint that these pages end, from the i-th page on; before the first one the stamp isn't known
abbrev pub sealed_by : Option Stamp → ℕ → ℕ → List Page → Option Complete
sealed_by (Some stamp) i count pages = sealed_from (named stamp) i count pages
sealed_by None i count [] = None
sealed_by None i count (page ∷ pages) = option_and_then (λ stamp. sealed_from stamp i count (page ∷ pages)) (stamp_in page)

-- the walk after a page, from a walk that stands at the page
abbrev pub StepsOn : Walk → ℕ → Page → Step → Type 0
StepsOn walk i page (step.On next) = (next.records ≤ walk.records + most_page_records)
    × ((rest : List Page) → sealed_by walk.stamp i walk.records (page ∷ rest) ≡ sealed_by next.stamp (i + 1) next.records rest)
StepsOn walk i page (step.Complete stamp seal totals) = (rest : List Page)
    → sealed_by walk.stamp i walk.records (page ∷ rest) ≡ Some (complete (named stamp) i (record { seal = seal; totals = totals }))
StepsOn walk i page step.Ends = (rest : List Page) → sealed_by walk.stamp i walk.records (page ∷ rest) ≡ None
