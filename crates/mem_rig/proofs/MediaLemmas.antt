-- The calls of a rig in memory leave what the media promise.
use Rattle.std.proofs.Common.{◌≡◌, ◌≢◌, ◌==◌, ◌⊎◌, ℕ, zero, suc, ◌%◌, Option, Some, None, List, [], ◌∷◌, Ok, Err, inl, inr, refl, sym, ◌∙◌, ap, subst, arith, cond, Bool, true, false, eq-eqb}
use Rattle.std.proofs.lemmas.Bool.{both_ways, cases_eq, false≢true}
use Rattle.std.proofs.lemmas.Option.{none-some}
use Rattle.std.proofs.lemmas.Bool.Decides.{nat_tests}
use Rattle.ft_base.specs.declared.block.Block.{Block}
use Rattle.ft_base.specs.declared.block.Spare.{Spare}
use Rattle.ft_base.specs.declared.block.Place.{Place}
use Rattle.ft_base.specs.declared.block.Page.{Page}
use Rattle.ft_base.specs.declared.block.Page.TheVariants as page
use Rattle.ft_base.specs.declared.power.Outcome.{Outcome}
use Rattle.ft_base.specs.declared.power.Outcome.TheVariants as outcome
use Rattle.ft_base.specs.Contents.{Contents, Flash, Values, IsOneOf, HasValue, flushed, set, set_page, written}
use Rattle.ft_base.proofs.Images.{set_here, set_other}
use Rattle.ft_media.specs.declared.media.MediaError.TheVariants as error
use Rattle.ft_media.specs.State.{State, Power}
use Rattle.ft_media.specs.Media.{DiskStays, LeavesPage, PagesErased, DeviceWrite, after_write}
use Rattle.ft_media.specs.Fitted.{KeepsReady}
use Rattle.ft_media.specs.Rig.{Cut, SettledByStop}
use Rattle.ft_base.specs.declared.power.Stop.{Stop}
use Rattle.device_calls.specs.declared.ending.Ending.{Ending}
use Rattle.device_calls.specs.declared.ending.Ending.TheVariants as ending
use Rattle.nand_model.specs.Steps.{torn, in_thirds, cut_erase, program_left, erase_left}
use Rattle.ft_media.specs.Rig.{after_cut, cut_value, flushed_value, oldest}
use Rattle.disk_model.specs.Steps.{write_left, flush_left}
use Rattle.mem_rig.specs.Power.{FellDue, PowerLeft, WasCounted}
use Rattle.mem_rig.specs.Steps.{cut_contents, cut_bumped}

-- a cut leaves one of the values
oldest_is_one : (newest : Block) (earlier : List Block) → (oldest newest earlier ≡ newest) ⊎ IsOneOf earlier (oldest newest earlier)
oldest_is_one newest [] = inl refl
oldest_is_one newest (block ∷ earlier) = inr (oldest_is_one block earlier)

either_is : (t : Bool) (values : Values) → HasValue values (cond t values.newest (flushed_value values))
either_is true values = inl refl
either_is false values = oldest_is_one values.newest values.earlier

cut_is_one : (left : Outcome) (lba : ℕ) (values : Values) → HasValue values (cut_value left lba values)
cut_is_one outcome.Blank lba values = oldest_is_one values.newest values.earlier
cut_is_one outcome.Whole lba values = inl refl
cut_is_one outcome.Torn lba values = either_is (lba % 2 == 1) values
cut_is_one outcome.Mixed lba values = either_is (lba % 2 == 1) values

settled_values : (left : Outcome) (disk : ℕ → Values) (lba : ℕ) (block : Block) → HasValue (after_cut left disk lba) block → HasValue (disk lba) block
settled_values left disk lba block (inl is) = subst (λ b. HasValue (disk lba) b) (sym is) (cut_is_one left lba (disk lba))
settled_values left disk lba block (inr none) = absurd none

-- a device write of the flash leaves the disk, or settles it
pub disk_same : (old new : Contents) (was_lost : Bool) → new.disk ≡ old.disk → DiskStays old new was_lost
disk_same old new was_lost same = record { stays = λ kept. same; values = λ lba block has. subst (λ (d : ℕ → Values). HasValue (d lba) block) same has }

pub disk_cut : (old new : Contents) (left : Outcome) → new.disk ≡ after_cut left old.disk → DiskStays old new true
disk_cut old new left cut = record { stays = λ kept. cc; values = λ lba block has. settled_values left old.disk lba block (subst (λ (d : ℕ → Values). HasValue (d lba) block) cut has) }

-- the stop that cut a device write was the front one
same_front : (front other : Stop) (later rest : List Stop) → front ∷ later ≡ other ∷ rest → front ≡ other
same_front front other later rest same = cc

pub settled_by : (old new : State) (left : Outcome) (disk : ℕ → Values) → FellDue old.power new.power left → new.contents.disk ≡ after_cut left disk → SettledByStop old new true disk
settled_by old new left disk fell cut = record {
  settled = λ on lost front later stops lba.
      let same : fell.front ≡ front = same_front fell.front front new.power.stops later (sym fell.stops ∙ stops) in
      ap (λ (d : ℕ → Values). d lba) cut ∙ ap (λ o. after_cut o disk lba) (sym fell.outcome ∙ ap (λ (s : Stop). s.outcome) same);
}

-- no stop cut a device write that was not lost, nor one that found power off
pub settled_kept : (old new : State) (disk : ℕ → Values) → SettledByStop old new false disk
settled_kept old new disk = record { settled = λ on lost. absurd (false≢true lost) }

pub settled_off : (old new : State) (was_lost : Bool) (disk : ℕ → Values) → old.power.on ≡ false → SettledByStop old new was_lost disk
settled_off old new was_lost disk off = record { settled = λ on lost. absurd (both_ways old.power.on off on) }

-- a device write that was done
pub device_done : (old new : State) → new.contents.shape ≡ old.contents.shape → WasCounted old.power new.power → KeepsReady old new → DeviceWrite old new (Ok (tt {0}))
device_done old new shape counted ready = record {
  shape = shape;
  spends = λ armed. omega (arith, counted.rest armed);
  unarmed = λ on none. refl;
  off = λ off. absurd (both_ways old.power.on off counted.was_on);
  ready = λ done kept. ready;
  unchanged = λ off. absurd (both_ways old.power.on off counted.was_on);
}

-- a block becomes ready, or goes on to its next page, and each other block is unchanged
pub ready_set : (old new : State) (block next : ℕ) → new.contents.flash.next ≡ set old.contents.flash.next block (Some next) → KeepsReady old new
ready_set old new block next is b ready none = by_block (cases_eq block b)
  where
    there : set old.contents.flash.next block (Some next) b ≡ None
    there = ap (λ (f : ℕ → Option ℕ). f b) (sym is) ∙ none

    by_block : ((block ≡ b) ⊎ (block ≢ b)) → ⊥
    by_block (inl same) = none-some next (sym (sym (set_here old.contents.flash.next block (Some next)) ∙ subst (λ k. set old.contents.flash.next block (Some next) k ≡ None) (sym same) there))
    by_block (inr apart) = ready (sym (set_other old.contents.flash.next block b (Some next) apart) ∙ there)

pub ready_same : (old new : State) → new.contents.flash ≡ old.contents.flash → KeepsReady old new
ready_same old new same b ready none = ready (ap (λ (f : Flash). f.next b) (sym same) ∙ none)

-- an erase leaves each page as it may
torn_is : (p : Page) → (torn p ≡ p) ⊎ ((torn p ≡ page.Blank) ⊎ (torn p ≡ page.Torn))
torn_is page.Blank = inl refl
torn_is (page.Whole block spare) = inr (inr refl)
torn_is page.Torn = inl refl

thirds_is : (i : ℕ) (p : Page) → (in_thirds i p ≡ p) ⊎ ((in_thirds i p ≡ page.Blank) ⊎ (in_thirds i p ≡ page.Torn))
thirds_is zero p = inl refl
thirds_is (suc zero) p = inr (inl refl)
thirds_is (suc (suc i)) p = torn_is p

cut_erase_is : (left : Outcome) (i : ℕ) (p : Page) → (cut_erase left i p ≡ p) ⊎ ((cut_erase left i p ≡ page.Blank) ⊎ (cut_erase left i p ≡ page.Torn))
cut_erase_is outcome.Blank i p = inr (inl refl)
cut_erase_is outcome.Whole i p = inl refl
cut_erase_is outcome.Torn i p = torn_is p
cut_erase_is outcome.Mixed i p = thirds_is (i % 3) p

in_block : (block : ℕ) (at : Place) (before left now : Page) → now ≡ cond (at.block == block) left before → (left ≡ before) ⊎ ((left ≡ page.Blank) ⊎ (left ≡ page.Torn)) → (now ≡ before) ⊎ ((at.block ≡ block) × ((now ≡ page.Blank) ⊎ (now ≡ page.Torn)))
in_block block at before left now is may = elim (cases_eq at.block block) [
  | inl same ↦
      let here : now ≡ left = is ∙ ap (λ t. cond t left before) (eq-eqb at.block block same) in
      by_page here same may
  | inr apart ↦
      let test : at.block == block ≡ false = grind (arith, nat_tests) in
      inl (is ∙ ap (λ t. cond t left before) test)
]
  where
    by_page : now ≡ left → at.block ≡ block → (left ≡ before) ⊎ ((left ≡ page.Blank) ⊎ (left ≡ page.Torn)) → (now ≡ before) ⊎ ((at.block ≡ block) × ((now ≡ page.Blank) ⊎ (now ≡ page.Torn)))
    by_page here same (inl kept) = inl (here ∙ kept)
    by_page here same (inr (inl blank)) = inr (same, inl (here ∙ blank))
    by_page here same (inr (inr torn)) = inr (same, inr (here ∙ torn))

pub pages_erased : (how : Ending) (old new : Flash) (block : ℕ) → new ≡ erase_left how old block → PagesErased old new block
pages_erased ending.Done old new block is at = in_block block at (old.page at) page.Blank (new.page at) (ap (λ (f : Flash). f.page at) is) (inr (inl refl))
pages_erased ending.Failed old new block is at = in_block block at (old.page at) page.Blank (new.page at) (ap (λ (f : Flash). f.page at) is) (inr (inl refl))
pages_erased (ending.Cut left) old new block is at = in_block block at (old.page at) (cut_erase left at.page (old.page at)) (new.page at) (ap (λ (f : Flash). f.page at) is) (cut_erase_is left at.page (old.page at))
pages_erased ending.Off old new block is at = inl (ap (λ (f : Flash). f.page at) is)

-- a program that was cut leaves its page unchanged, which is blank, or whole or torn
same_page : (f : Place → Page) (at : Place) (value : Page) → f at ≡ value → (q : Place) → set_page f at value q ≡ f q
same_page f at value is q = elim (cases_eq at.block q.block) [
  | inl block ↦ elim (cases_eq at.page q.page) [
    | inl number ↦
        let place : at ≡ q = λ i. record { block = block i; page = number i } in
        let here : f q ≡ value = ap f (sym place) ∙ is in
        grind (arith, nat_tests, here)
    | inr apart ↦ grind (arith, nat_tests)
  ]
  | inr apart ↦ grind (arith, nat_tests)
]

pub page_left : (left : Outcome) (old new : Flash) (at : Place) (block : Block) (spare : Spare) → old.page at ≡ page.Blank → new ≡ program_left (ending.Cut left) old at block spare → LeavesPage old new at block spare
page_left outcome.Blank old new at block spare blank is = inl (ap (λ (f : Flash). f.page) is ∙ (λ i q. same_page old.page at page.Blank blank q i))
page_left outcome.Whole old new at block spare blank is = inr (inl (ap (λ (f : Flash). f.page) is))
page_left outcome.Torn old new at block spare blank is = inr (inr (ap (λ (f : Flash). f.page) is))
page_left outcome.Mixed old new at block spare blank is = inr (inr (ap (λ (f : Flash). f.page) is))

-- a write leaves values that were there, and the value that is written
has_written : (disk : ℕ → Values) (lba : ℕ) (block : Block) (at : ℕ) (b : Block) → HasValue (after_write disk lba block at) b → HasValue (disk at) b ⊎ ((at ≡ lba) × (b ≡ block))
has_written disk lba block at b has = elim (cases_eq lba at) [
  | inl same ↦
      let here : after_write disk lba block at ≡ written (disk lba) block = subst (λ k. after_write disk lba block k ≡ written (disk lba) block) same (set_here disk lba (written (disk lba) block)) in
      by_value same (subst (λ v. HasValue v b) here has)
  | inr apart ↦ inl (subst (λ v. HasValue v b) (set_other disk lba at (written (disk lba) block) apart) has)
]
  where
    by_value : lba ≡ at → HasValue (written (disk lba) block) b → HasValue (disk at) b ⊎ ((at ≡ lba) × (b ≡ block))
    by_value same (inl is) = inr (sym same, is)
    by_value same (inr before) = inl (subst (λ k. HasValue (disk k) b) same before)

pub write_values : (how : Ending) (old new : ℕ → Values) (lba : ℕ) (block : Block) → new ≡ write_left how old lba block → (at : ℕ) (b : Block) → HasValue (new at) b → HasValue (old at) b ⊎ ((at ≡ lba) × (b ≡ block))
write_values ending.Done old new lba block is at b has = has_written old lba block at b (subst (λ (d : ℕ → Values). HasValue (d at) b) is has)
write_values ending.Failed old new lba block is at b has = inl (subst (λ (d : ℕ → Values). HasValue (d at) b) is has)
write_values (ending.Cut left) old new lba block is at b has = has_written old lba block at b (settled_values left (after_write old lba block) at b (subst (λ (d : ℕ → Values). HasValue (d at) b) is has))
write_values ending.Off old new lba block is at b has = inl (subst (λ (d : ℕ → Values). HasValue (d at) b) is has)

-- a flush leaves values that were there
newest_has : (values : Values) (b : Block) → HasValue (flushed values) b → HasValue values b
newest_has values b (inl is) = inl is
newest_has values b (inr none) = absurd none

pub flush_values : (how : Ending) (old new : ℕ → Values) → new ≡ flush_left how old → (lba : ℕ) (b : Block) → HasValue (new lba) b → HasValue (old lba) b
flush_values ending.Done old new is lba b has = newest_has (old lba) b (subst (λ (d : ℕ → Values). HasValue (d lba) b) is has)
flush_values ending.Failed old new is lba b has = subst (λ (d : ℕ → Values). HasValue (d lba) b) is has
flush_values (ending.Cut left) old new is lba b has = settled_values left old lba b (subst (λ (d : ℕ → Values). HasValue (d lba) b) is has)
flush_values ending.Off old new is lba b has = subst (λ (d : ℕ → Values). HasValue (d lba) b) is has

-- the state after a cut between two device writes
abbrev cut_state : State → Outcome → State
cut_state old left = record old { contents = cut_contents left old.contents; faults = cut_bumped old.faults; power = record old.power { on = false } }

pub cut_between : (old new : State) (left : Outcome) → new ≡ cut_state old left → Cut old new left
cut_between old new left is = subst (λ s. Cut old s left) (sym is) (record {
  shape = refl;
  lent = refl;
  counts = refl;
  power = refl;
  flash_faults = refl;
  disk_faults = refl;
  cuts = omega arith;
  page = refl;
  values = λ lba block has. settled_values left old.contents.disk lba block has;
  disk = λ lba. refl;
  crashed = record { next = refl; alone = λ lba. refl };
})

-- out of memory changes nothing, and comes only with power on
pub device_refused : (old new : State) → old.power.on ≡ true → new ≡ old → DeviceWrite {T = Unit {0}} old new (Err error.OutOfMemory)
device_refused old new on same = subst (λ s. DeviceWrite {T = Unit {0}} old s (Err error.OutOfMemory)) (sym same) (record {
  shape = refl;
  spends = tt;
  unarmed = λ was_on none. refl;
  off = λ off. absurd (both_ways old.power.on off on);
  ready = λ done kept b ready. ready;
  unchanged = λ off. absurd (both_ways old.power.on off on);
})

pub values_refused : (old new : State) (lba : ℕ) (block : Block) → new ≡ old → (at : ℕ) (b : Block) → HasValue (new.contents.disk at) b → HasValue (old.contents.disk at) b ⊎ ((at ≡ lba) × (b ≡ block))
values_refused old new lba block same at b has = inl (subst (λ (s : State). HasValue (s.contents.disk at) b) same has)

-- the same for a device write whose ending is known
pub done_power : (how : Ending) (old new : Power) → how ≡ ending.Done → PowerLeft how old new → WasCounted old new
done_power how old new is left = subst (λ h. PowerLeft h old new) is left

pub off_power : (how : Ending) (old new : Power) → how ≡ ending.Off → PowerLeft how old new → old.on ≡ false
off_power how old new is left = (subst (λ h. PowerLeft h old new) is left).0

pub settled_write : (how : Ending) (old new : State) (left : Outcome) (lba : ℕ) (block : Block) → how ≡ ending.Cut left → PowerLeft how old.power new.power
    → new.contents.disk ≡ write_left how old.contents.disk lba block → SettledByStop old new true (after_write old.contents.disk lba block)
settled_write how old new left lba block is power disk =
    settled_by old new left (after_write old.contents.disk lba block) (subst (λ h. PowerLeft h old.power new.power) is power)
    (disk ∙ ap (λ h. write_left h old.contents.disk lba block) is)
