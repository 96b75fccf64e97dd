-- The findings of a scrub.
use Rattle.std.specs.Prelude.{◌≡◌, ◌≤◌, ◌<◌, nat_lt, ℕ, Bool, true, false, Option, None, Some, Result, IsErrOf, count_by}
use Rattle.std.specs.FinMap.{get, entries}
use Rattle.ft_base.specs.declared.block.Block.{Block}
use Rattle.ft_base.specs.declared.block.Place.{Place}
use Rattle.ft_base.specs.declared.block.Page.{Page}
use Rattle.ft_base.specs.declared.block.Page.TheVariants.{Whole}
use Rattle.ft_base.specs.declared.geometry.Geometry.{Geometry}
use Rattle.ft_media.specs.State.{State}
use Rattle.ft_media.specs.Reads.{ReadsFlash}
use Rattle.cache_model.specs.declared.entry.Entry.{Entry}
use Rattle.cache_model.specs.Records.{Entries}
use Rattle.cache_model.specs.Spelling.{data_spare}
use Rattle.mapping.specs.Counts.{held_count}
use Rattle.mapping.specs.Numbers.{number_of}
use Rattle.ssc.specs.declared.error.SscError.{SscError}
use Rattle.ssc.specs.declared.error.SscError.TheVariants.{Full, OutOfMemory}
use Rattle.ssc.specs.declared.scrubbing.Scrub.{Scrub}
use Rattle.ssc.specs.Errors.{ssc_failed, ssc_lost}

-- the page has the spare bytes of a data page of the address
abbrev pub IsDataPage : (Place → Page) → Place → ℕ → Type 0
IsDataPage page at a = (b : Block) × (page at ≡ Whole b (data_spare a))

-- each page that an entry names has the spare bytes of a data page of its address
abbrev pub AreDataPages : (Place → Page) → Entries → Type 0
AreDataPages page m = (a : ℕ) (e : Entry) → get m a ≡ Some e → IsDataPage page e.place a

-- the page of a held address that isn't whole with those spare bytes
pub record IsStrange (page : Place → Page) (m : Entries) (at : Place) : Type 0 where
  pub lba : ℕ
  pub entry : Entry
  pub held : get m lba ≡ Some entry
  pub place : entry.place ≡ at
  pub other : IsDataPage page at lba → ⊥

-- the lowest such page; if there is none, each page is a data page of its address
abbrev pub IsLowestStrange : Geometry → (Place → Page) → Entries → Option Place → Type 0
IsLowestStrange g page m None = AreDataPages page m
IsLowestStrange g page m (Some at) = IsStrange page m at × ((other : Place) → IsStrange page m other → number_of g at ≤ number_of g other)

-- there are as many pages as addresses, and this is the lowest strange one
pub record IsScrub (g : Geometry) (page : Place → Page) (m : Entries) (scrub : Scrub) : Type 0 where
  pub pages : scrub.pages ≡ held_count m
  pub strange : IsLowestStrange g page m scrub.strange

-- ---- while the pages are read, ascending

-- the flash is only read, and the answer is neither `Full` nor `OutOfMemory`
pub record OnlyReads {T : Type 0} (before after : State) (result : Result T SscError) : Type 0 where
  pub full : (n l : ℕ) → IsErrOf result (Full n l) → ⊥
  pub memory : IsErrOf result OutOfMemory → ⊥
  pub reads : ReadsFlash before after (ssc_failed result) (ssc_lost result)

-- each page with a number below the end that an entry names has the spare bytes of a data page of its address
abbrev pub AreDataPagesBelow : Geometry → (Place → Page) → Entries → ℕ → Type 0
AreDataPagesBelow g page m end = (a : ℕ) (e : Entry) → get m a ≡ Some e → number_of g e.place < end → IsDataPage page e.place a

-- the lowest strange page; if there is none yet, no page below the end is strange
abbrev pub IsLowestBelow : Geometry → (Place → Page) → Entries → ℕ → Option Place → Type 0
IsLowestBelow g page m end None = AreDataPagesBelow g page m end
IsLowestBelow g page m end (Some at) = IsLowestStrange g page m (Some at)

-- the findings of a scrub in the pages below the end
pub record IsScrubBelow (g : Geometry) (page : Place → Page) (m : Entries) (end : ℕ) (scrub : Scrub) : Type 0 where
  pub few : scrub.pages ≤ end
  pub pages : scrub.pages ≡ count_by (λ x. nat_lt (number_of g x.1.place) end) (entries m)
  pub strange : IsLowestBelow g page m end scrub.strange

-- the lowest strange page, after one more page was looked at, which lies above the others
abbrev pub lowest_with : Option Place → Place → Bool → Option Place
lowest_with (Some at) place own = Some at
lowest_with None place true = None
lowest_with None place false = Some place
