-- A page of the log, and the flash after a program of it.
use Rattle.std.proofs.Common.{◌≡◌, ◌≤◌, ℕ, inl, inr, true, cond, List, Some, None, sym, ◌∙◌, ap, subst, arith, lt-ltb}
use Rattle.std.proofs.lemmas.Bool.{cases_lt, le-ltb}
use Rattle.std.proofs.lemmas.Bool.Decides.{nat_tests}
use Rattle.ft_base.specs.declared.geometry.Geometry.{Geometry}
use Rattle.ft_base.specs.Layout.{page_records}
use Rattle.ft_base.proofs.LayoutLemmas.{q_most, q_wide}
use Rattle.ft_base.specs.declared.block.Block.{Block}
use Rattle.ft_base.specs.declared.block.Spare.{Spare}
use Rattle.ft_base.specs.declared.block.Place.{Place}
use Rattle.ft_base.specs.declared.block.Page.TheVariants.{Whole}
use Rattle.ft_base.specs.declared.record.Record.{Record}
use Rattle.ft_base.specs.Contents.{Flash, set_page}
use Rattle.ft_media.specs.Media.{LeavesPage, after_program}
use Rattle.cache_model.specs.declared.format.PageKind.TheVariants.{Log}
use Rattle.cache_model.specs.Loading.{is_page, when}
use Rattle.cache_model.specs.declared.format.SpareKind.TheVariants.{Log as LogSpare}
use Rattle.cache_model.specs.Spelling.{is_wide, most_records_of, IsPage, IsSpare, spare_fields}
use Rattle.cache_model.proofs.SpellingLemmas.{page_read}
use Rattle.cache_model.proofs.LogLemmas.{set_page-here}
use Rattle.op_log.specs.Stamps.{own_stamp}
use Rattle.op_log.specs.Log.{LogValue, next_place, log_header, IsLogPage, Appended, AppendedReady, LeavesLog, log_spare, HasSpare}

-- a page of format 2 takes all records that a page of the geometry has
pub records_fit : (g : Geometry) → page_records g ≤ most_records_of (is_wide 2 g.p)
records_fit g = elim (cases_lt 64 g.p) [
  | inl many ↦ subst (λ wide. page_records g ≤ most_records_of wide) (sym (lt-ltb 64 g.p many)) (omega (arith, q_wide g many))
  | inr few ↦ subst (λ wide. page_records g ≤ most_records_of wide) (sym (le-ltb 64 g.p few)) (q_most g)
]

own_page : (era sequence : ℕ) (changes : List Record) → is_page Log (own_stamp era) sequence (log_header era sequence changes) ≡ true
own_page era sequence changes = grind (arith, nat_tests)

pub is_log_page : (p era sequence : ℕ) (changes : List Record) (block : Block) (spare : Spare) → IsPage p block.0 (log_header era sequence changes) changes → IsLogPage p era sequence changes (Whole block spare)
is_log_page p era sequence changes block spare is =
    let h = log_header era sequence changes in
    let read = page_read p block.0 h changes is in
    record {
      header = h;
      head = ap (λ o. when (is_page Log (own_stamp era) sequence) o) read.0 ∙ ap (λ b. cond b (Some h) None) (own_page era sequence changes);
      records = read.1;
    }

appended : (log : LogValue) (old new : Flash) (block : Block) (spare : Spare) → IsLogPage log.geometry.p log.era log.next log.buffered (Whole block spare) → new.page ≡ (after_program old (next_place log) block spare).page → Appended log old new
appended log old new block spare is pages = record { page = Whole block spare; is_page = is; pages = pages }

-- the records were written into `written`, and `block`, which is the same, was to be programmed
module _ (view log : LogValue) (same : view ≡ log) (old new : Flash) (at : Place) (here : at ≡ next_place view) (written block : Block) (same_block : written ≡ block) (spare : Spare) (is : IsPage view.geometry.p written.0 (log_header view.era view.next view.buffered) view.buffered) where
  whole_page : IsLogPage view.geometry.p view.era view.next view.buffered (Whole block spare)
  whole_page = subst (λ (b : Block). IsLogPage view.geometry.p view.era view.next view.buffered (Whole b spare)) same_block (is_log_page view.geometry.p view.era view.next view.buffered written spare is)

  pub leaves_log : LeavesPage old new at block spare → LeavesLog log old new
  leaves_log leaves = subst (λ (l : LogValue). LeavesLog l old new) same (elim (subst (λ (p : Place). LeavesPage old new p block spare) here leaves) [
    | inl before ↦ inl before
    | inr rest ↦ elim rest [ inl whole ↦ inr (inr (appended view old new block spare whole_page whole)) | inr torn ↦ inr (inl torn) ]
  ])

  pub appended_ready : new ≡ after_program old at block spare → AppendedReady log old new
  appended_ready done =
      let there = done ∙ ap (λ p. after_program old p block spare) here in
      subst (λ (l : LogValue). AppendedReady l old new) same (record {
        appended = appended view old new block spare whole_page (ap (λ (f : Flash). f.page) there);
        next = ap (λ (f : Flash). f.next) there;
      })

-- ---- its spare bytes

pub spare_there : (view log : LogValue) → view ≡ log → (old new : Flash) (at : Place) → at ≡ next_place view → (block : Block) (spare : Spare)
    → IsSpare spare.0 (spare_fields LogSpare view.era view.next) → new ≡ after_program old at block spare → HasSpare (log_spare log.era log.next) (new.page (next_place log))
spare_there view log same old new at here block spare spelled done = subst (λ (l : LogValue). HasSpare (log_spare l.era l.next) (new.page (next_place l))) same (
  block,
  ap (λ (f : Flash). f.page (next_place view)) done
      ∙ ap (λ (p : Place). set_page old.page p (Whole block spare) (next_place view)) here
      ∙ set_page-here old.page (next_place view) (Whole block spare)
      ∙ ap (λ (bytes : List ℕ). Whole block (record { 0 = bytes })) spelled.spelled,
)
