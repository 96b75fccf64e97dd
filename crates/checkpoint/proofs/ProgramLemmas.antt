-- A page of a checkpoint, and the flash after a program of it.
use Rattle.std.proofs.Common.{◌≡◌, ℕ, inl, inr, true, cond, List, Option, Some, None, option_map, refl, ◌∙◌, ap, subst, arith}
use Rattle.std.proofs.lemmas.Bool.Decides.{nat_tests}
use Rattle.ft_base.specs.declared.geometry.Geometry.{Geometry}
use Rattle.ft_base.specs.declared.block.Block.{Block}
use Rattle.ft_base.specs.declared.block.Spare.{Spare}
use Rattle.ft_base.specs.declared.block.Place.{Place}
use Rattle.ft_base.specs.declared.block.Page.{Page}
use Rattle.ft_base.specs.declared.block.Page.TheVariants.{Blank, Whole, Torn}
use Rattle.ft_base.specs.declared.record.Record.{Record}
use Rattle.ft_base.specs.Contents.{Flash}
use Rattle.ft_media.specs.Media.{LeavesPage, after_program}
use Rattle.cache_model.specs.declared.format.PageKind.TheVariants.{Map}
use Rattle.cache_model.specs.declared.format.Seal.{Seal}
use Rattle.cache_model.specs.declared.format.Totals.{Totals}
use Rattle.cache_model.specs.Loading.{is_page, is_seal_of, sealed, when}
use Rattle.cache_model.specs.Laws.{IsMapOrLost}
use Rattle.cache_model.specs.Reading.{read_page_header}
use Rattle.cache_model.specs.declared.format.SpareKind.TheVariants.{Map as MapSpare, Seal as SealSpare}
use Rattle.cache_model.specs.Spelling.{IsPage, IsSealOf, IsSpare, spare_fields}
use Rattle.cache_model.proofs.RegionLemmas.{when_some}
use Rattle.cache_model.proofs.SpellingLemmas.{page_read, seal_read}
use Rattle.op_log.specs.Stamps.{own_stamp}
use Rattle.op_log.specs.Refusals.{seal_of}
use Rattle.checkpoint.specs.Regions.{map_header, seal_header, IsMapPage, IsSealPage, Programmed, LeavesOne}

own_page : (era sequence : ℕ) (changes : List Record) → is_page Map (own_stamp era) sequence (map_header era sequence changes) ≡ true
own_page era sequence changes = grind (arith, nat_tests)

pub is_map_page : (g : Geometry) (era sequence : ℕ) (changes : List Record) (block : Block) (spare : Spare) → IsPage g.p block.0 (map_header era sequence changes) changes → IsSpare spare.0 (spare_fields MapSpare era sequence) → IsMapPage g era sequence changes (Whole block spare)
is_map_page g era sequence changes block spare is spelled =
    let h = map_header era sequence changes in
    let read = page_read g.p block.0 h changes is in
    record {
      header = h;
      head = ap (λ o. when (is_page Map (own_stamp era) sequence) o) read.0 ∙ ap (λ b. cond b (Some h) None) (own_page era sequence changes);
      count = refl;
      records = read.1;
      spare = (block, ap (λ (bytes : List ℕ). Whole block (record { 0 = bytes })) spelled.spelled);
    }

own_seal : (era pages count : ℕ) (seal : Seal) (totals : Option Totals) → is_seal_of (own_stamp era) pages count (seal_header era pages count, seal, totals) ≡ true
own_seal era pages count seal totals = grind (arith, nat_tests)

pub is_seal_page : (g : Geometry) (totals : Totals) (era pages count : ℕ) (block : Block) (spare : Spare) → IsSealOf block.0 (seal_header era pages count) (seal_of g) (Some totals) → IsSpare spare.0 (spare_fields SealSpare era pages) → IsSealPage g totals era pages count (Whole block spare)
is_seal_page g totals era pages count block spare is spelled =
    let h = seal_header era pages count in
    let read = seal_read block.0 h (seal_of g) (Some totals) is in
    record {
      seal =
          ap (λ o. option_map sealed (when (is_seal_of (own_stamp era) pages count) o)) read
          ∙ ap (λ b. option_map sealed (cond b (Some (h, seal_of g, Some totals)) None)) (own_seal era pages count (seal_of g) (Some totals));
      spare = (block, ap (λ (bytes : List ℕ). Whole block (record { 0 = bytes })) spelled.spelled);
    }

-- a map page doesn't make its region complete
pub map_page_bare : (g : Geometry) (era sequence : ℕ) (changes : List Record) (page : Page) → IsMapPage g era sequence changes page → IsMapOrLost page
map_page_bare g era sequence changes Blank is = tt
map_page_bare g era sequence changes Torn is = tt
map_page_bare g era sequence changes (Whole block spare) is = (is.header, (when_some (is_page Map (own_stamp era) sequence) (read_page_header block.0) is.header is.head).0)

module _ (kind : Page → Type 0) (old new : Flash) (at here : Place) (same : here ≡ at) (block : Block) (spare : Spare) (is : kind (Whole block spare)) where
  pub leaves_one : LeavesPage old new here block spare → LeavesOne kind at old new
  leaves_one leaves = elim (subst (λ (p : Place). LeavesPage old new p block spare) same leaves) [
    | inl before ↦ inl before
    | inr rest ↦ elim rest [ inl whole ↦ inr (inr (Whole block spare, is, whole)) | inr torn ↦ inr (inl torn) ]
  ]

  pub programmed : new ≡ after_program old here block spare → Programmed kind at old new
  programmed done =
      let there = done ∙ ap (λ p. after_program old p block spare) same in
      record { page = Whole block spare; is_kind = is; pages = ap (λ (f : Flash). f.page) there; next = ap (λ (f : Flash). f.next) there }
