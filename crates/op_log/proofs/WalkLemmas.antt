-- Pages of records, one after the other.
use Rattle.std.proofs.Common.{◌≡◌, ℕ, suc, ◌+◌, ◌-◌, ◌<◌, Bool, true, false, List, ◌∷◌, Option, Some, None, ok_or, Result, Ok, Err, refl, sym, ◌∙◌, ap, ap₂, subst, arith}
use Rattle.std.specs.Result.{IfErr, IsErrAnd}
use Rattle.std.specs.Option.{option_map, option_and_then, option_map_or}
use Rattle.ft_base.specs.declared.geometry.Geometry.{Geometry}
use Rattle.ft_base.specs.declared.block.Place.{Place}
use Rattle.ft_base.specs.declared.block.Page.{Page}
use Rattle.ft_base.specs.Contents.{Contents}
use Rattle.ft_base.specs.Layout.{log_at, log_pages}
use Rattle.cache_model.specs.declared.format.PageKind.TheVariants.{Log}
use Rattle.cache_model.specs.declared.format.Header.{Header}
use Rattle.cache_model.specs.Records.{Entries}
use Rattle.cache_model.specs.Reading.{read_records}
use Rattle.cache_model.specs.Loading.{Refusal, Stamp, ◌>>=◌, pages_from, log_region, said, header_at, after_all, after_pages}
use Rattle.cache_model.specs.Loading.Refusal.{Damaged}
use Rattle.op_log.specs.declared.error.OpenError.{OpenError}
use Rattle.op_log.specs.declared.error.OpenError.TheVariants as refused
use Rattle.op_log.specs.Refusals.{IsRefusal}
use Rattle.op_log.specs.Walk.{page_step, pages_in_order, Stepped}

-- an error that is handed on
pub if_err : {T : Type 0} (r : Result T OpenError) (Gives P : OpenError → Type 0) → IsErrAnd r Gives → ((e : OpenError) → Gives e → P e) → IfErr r P
if_err (Ok x) Gives P is then = tt
if_err (Err e) Gives P is then = then e is

-- ---- page after page

abbrev goes_on : Option (Result Entries Refusal) → Entries → (Entries → Result Entries Refusal) → Result Entries Refusal
goes_on None m rest = Ok m
goes_on (Some r) m rest = r >>= rest

abbrev counts_on : Option (Result Entries Refusal) → ℕ → ℕ
counts_on None n = 0
counts_on (Some r) n = suc n

map_then : (o : Option Header) (f : Header → Result Entries Refusal) (m : Entries) (rest : Entries → Result Entries Refusal) → option_map_or (λ h. f h >>= rest) o (Ok m) ≡ goes_on (option_map f o) m rest
map_then None f m rest = refl
map_then (Some h) f m rest = refl

count_then : (o : Option Header) (f : Header → Result Entries Refusal) (n : ℕ) → option_map_or (λ h. suc n) o 0 ≡ counts_on (option_map f o) n
count_then None f n = refl
count_then (Some h) f n = refl

-- the log pages before the i-th are applied
pub record RolledSoFar (g : Geometry) (region : ℕ) (stamp : Stamp) (page : Place → Page) (first : Entries) (i : ℕ) (now : Entries) : Type 0 where
  pub entries : after_pages g Log stamp (log_at g region) 0 (log_region g page region) first ≡ after_pages g Log stamp (log_at g region) i (pages_from page (log_at g region) i (log_pages g - i)) now
  pub count : pages_in_order Log stamp 0 (log_region g page region) ≡ i + pages_in_order Log stamp i (pages_from page (log_at g region) i (log_pages g - i))

module _ (g : Geometry) (region : ℕ) (stamp : Stamp) (page : Place → Page) (first : Entries) where
  abbrev left : ℕ → List Page
  left i = pages_from page (log_at g region) i (log_pages g - i)

  abbrev step_at : ℕ → Entries → Option (Result Entries Refusal)
  step_at i m = page_step g Log stamp i (log_at g region i) (page (log_at g region i)) m

  left_more : (i : ℕ) → i < log_pages g → left i ≡ page (log_at g region i) ∷ left (i + 1)
  left_more i within = ap (λ n. pages_from page (log_at g region) i n) (let e : log_pages g - i ≡ suc (log_pages g - (i + 1)) = omega arith in e)

  entries_more : (i : ℕ) (now : Entries) → i < log_pages g → RolledSoFar g region stamp page first i now → after_pages g Log stamp (log_at g region) 0 (log_region g page region) first ≡ goes_on (step_at i now) now (after_pages g Log stamp (log_at g region) (i + 1) (left (i + 1)))
  entries_more i now within so =
      so.entries
      ∙ ap (λ ps. after_pages g Log stamp (log_at g region) i ps now) (left_more i within)
      ∙ map_then (header_at Log stamp i (page (log_at g region i))) (λ h. ok_or (option_and_then (λ rs. after_all g rs now) (said (read_records g.p h) (page (log_at g region i)))) (Damaged (log_at g region i))) now (after_pages g Log stamp (log_at g region) (i + 1) (left (i + 1)))

  count_more : (i : ℕ) (now : Entries) → i < log_pages g → RolledSoFar g region stamp page first i now → pages_in_order Log stamp 0 (log_region g page region) ≡ i + counts_on (step_at i now) (pages_in_order Log stamp (i + 1) (left (i + 1)))
  count_more i now within so =
      so.count
      ∙ ap (λ ps. i + pages_in_order Log stamp i ps) (left_more i within)
      ∙ ap (λ n. i + n) (count_then (header_at Log stamp i (page (log_at g region i))) (λ h. ok_or (option_and_then (λ rs. after_all g rs now) (said (read_records g.p h) (page (log_at g region i)))) (Damaged (log_at g region i))) (pages_in_order Log stamp (i + 1) (left (i + 1))))

  pub rolled_more : (i : ℕ) (now next : Entries) → i < log_pages g → RolledSoFar g region stamp page first i now → step_at i now ≡ Some (Ok next) → RolledSoFar g region stamp page first (i + 1) next
  rolled_more i now next within so step = record {
    entries = entries_more i now within so ∙ ap (λ s. goes_on s now (after_pages g Log stamp (log_at g region) (i + 1) (left (i + 1)))) step;
    count = count_more i now within so ∙ ap (λ s. i + counts_on s (pages_in_order Log stamp (i + 1) (left (i + 1)))) step ∙ plus_one i (pages_in_order Log stamp (i + 1) (left (i + 1)));
  }
    where
      plus_one : (a b : ℕ) → a + suc b ≡ a + 1 + b
      plus_one a b = omega arith

  -- the log ends before page i
  pub rolled_end : (i : ℕ) (now : Entries) → i < log_pages g → RolledSoFar g region stamp page first i now → step_at i now ≡ None → (after_pages g Log stamp (log_at g region) 0 (log_region g page region) first ≡ Ok now) × (i ≡ pages_in_order Log stamp 0 (log_region g page region))
  rolled_end i now within so step = (
    entries_more i now within so ∙ ap (λ s. goes_on s now (after_pages g Log stamp (log_at g region) (i + 1) (left (i + 1)))) step,
    sym (count_more i now within so ∙ ap (λ s. i + counts_on s (pages_in_order Log stamp (i + 1) (left (i + 1)))) step ∙ plus_zero i),
  )
    where
      plus_zero : (a : ℕ) → a + 0 ≡ a
      plus_zero a = omega arith

  pub rolled_refused : (i : ℕ) (now new : Entries) (e : OpenError) → i < log_pages g → RolledSoFar g region stamp page first i now → Stepped (Err e) now new (step_at i now) → IsRefusal g e (after_pages g Log stamp (log_at g region) 0 (log_region g page region) first)
  rolled_refused i now new refused.NotFormatted within so step = absurd step
  rolled_refused i now new (refused.OtherGeometry found wanted) within so step = absurd step
  rolled_refused i now new (refused.Damaged block p) within so step = entries_more i now within so ∙ ap (λ s. goes_on s now (after_pages g Log stamp (log_at g region) (i + 1) (left (i + 1)))) step
  rolled_refused i now new refused.FlashFault within so step = tt
  rolled_refused i now new refused.DiskFault within so step = absurd step
  rolled_refused i now new refused.PowerLost within so step = tt
  rolled_refused i now new refused.OutOfMemory within so step = tt

-- ---- one turn of the walk, over media that are unchanged since its start

module _ (g : Geometry) (region : ℕ) (stamp : Stamp) (start here : Contents) (same : here ≡ start) (first now new : Entries) (i : ℕ) (at : Place) (is_at : at ≡ log_at g region i) (within : i < log_pages g) (so : RolledSoFar g region stamp start.flash.page first i now) where
  abbrev step_here : Option (Result Entries Refusal)
  step_here = page_step g Log stamp i at (here.flash.page at) now

  step_same : step_here ≡ page_step g Log stamp i (log_at g region i) (start.flash.page (log_at g region i)) now
  step_same = ap₂ (λ (k : Contents) (p : Place). page_step g Log stamp i p (k.flash.page p) now) same is_at

  pub turn_more : (b : Bool) → b ≡ true → Stepped (Ok b) now new step_here → RolledSoFar g region stamp start.flash.page first (i + 1) new
  turn_more b is step = rolled_more g region stamp start.flash.page first i now new within so (sym step_same ∙ subst (λ (x : Bool). Stepped (Ok x) now new step_here) is step)

  pub turn_end : (b : Bool) → b ≡ false → Stepped (Ok b) now new step_here → (after_pages g Log stamp (log_at g region) 0 (log_region g start.flash.page region) first ≡ Ok new) × (i ≡ pages_in_order Log stamp 0 (log_region g start.flash.page region))
  turn_end b is step =
      let stops : (step_here ≡ None) × (new ≡ now) = subst (λ (x : Bool). Stepped (Ok x) now new step_here) is step in
      let ends = rolled_end g region stamp start.flash.page first i now within so (sym step_same ∙ stops.0) in
      (ends.0 ∙ ap (λ m. Ok m) (sym stops.1), ends.1)

  pub turn_refused : (e : OpenError) → Stepped (Err e) now new step_here → IsRefusal g e (after_pages g Log stamp (log_at g region) 0 (log_region g start.flash.page region) first)
  turn_refused e step = rolled_refused g region stamp start.flash.page first i now new e within so (subst (λ s. Stepped (Err e) now new s) step_same step)
