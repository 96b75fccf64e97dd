-- What a run says if only answers of some kinds are said.
use Rattle.std.proofs.Common.{◌≡◌, ◌==◌, ℕ, zero, suc, Bool, false, List, [], ◌∷◌, ◌++◌, map, refl, ap, ◌∙◌, inl, inr}
use Rattle.std.specs.List.{filter, range_with_len}
use Rattle.std.proofs.lemmas.Bool.{cases_Bool}
use Rattle.std.proofs.lemmas.List.Elements.{filter-append}
use Rattle.ft_base.specs.PlainDisk.{PlainDisk}
use Rattle.ft_base.specs.Pattern.{tag_in}
use Rattle.trace_model.specs.declared.answer.Answer.{Answer}
use Rattle.trace_model.specs.declared.answer.Answer.TheVariants as answer
use Rattle.trace_model.specs.declared.line.Line.{Line}
use Rattle.trace_model.specs.declared.line.Line.TheVariants as line
use Rattle.trace_model.specs.declared.ran.Ran.{Ran}
use Rattle.trace_model.specs.Run.{answers_of, disk_without, lost_told, own_answers, stopped, told}
use Rattle.trace_replay.specs.Events.{Event, answers_in, events_of}
use Rattle.trace_replay.proofs.GivenLemmas.{answers_in-append, answers_in-run}

-- no answer to a line is said
pub record SkipsLines (says : Answer → Bool) : Type 0 where
  pub wrote : (lba count : ℕ) → says (answer.Wrote lba count) ≡ false
  pub stopped : says answer.Stopped ≡ false
  pub kept : (kept count : ℕ) → says (answer.Kept kept count) ≡ false
  pub lost : (count : ℕ) → says (answer.Lost count) ≡ false
  pub read : (lba tag : ℕ) → says (answer.ReadBack lba tag) ≡ false
  pub flushed : says answer.Flushed ≡ false
  pub idle : says answer.Idle ≡ false
  pub cut : says answer.Cut ≡ false

module _ (says : Answer → Bool) (skips : SkipsLines says) where
  pub none_stopped : (n : ℕ) → filter says (stopped n) ≡ []
  none_stopped zero = refl
  none_stopped (suc n) = rw skips.stopped (none_stopped n)

  pub none_lost : (n : ℕ) → filter says (lost_told n) ≡ []
  none_lost zero = refl
  none_lost (suc n) = rw (skips.lost (suc n)) refl

  none_read : (disk : PlainDisk) (addresses : List ℕ) → filter says (map (λ a. answer.ReadBack a (tag_in (disk a))) addresses) ≡ []
  none_read disk [] = refl
  none_read disk (a ∷ addresses) = rw (skips.read a (tag_in (disk a))) (none_read disk addresses)

  none_own : (l : Line) (cuts kept : ℕ) (disk : PlainDisk) → filter says (own_answers l cuts kept disk) ≡ []
  none_own (line.Write lba count tag) cuts kept disk = elim (cases_Bool (cuts == 0)) [
    | inl none ↦ rw (none, skips.wrote lba count) refl
    | inr some ↦ rw (some, skips.kept kept count) refl
  ]
  none_own (line.Read lba count) cuts kept disk = none_read disk (range_with_len lba count)
  none_own line.Flush cuts kept disk = rw skips.flushed refl
  none_own line.Idle cuts kept disk = rw skips.idle refl
  none_own (line.Stop after outcome) cuts kept disk = refl
  none_own (line.Cut outcome) cuts kept disk = rw skips.cut refl
  none_own line.Nothing cuts kept disk = refl

  none_then : (xs ys : List Answer) → filter says xs ≡ [] → filter says ys ≡ [] → filter says (xs ++ ys) ≡ []
  none_then xs ys first next = filter-append says xs ys ∙ ap (λ (r : List Answer). r ++ filter says ys) first ∙ next

  pub none_answers : (ran : Ran) (disk : PlainDisk) → filter says (answers_of ran disk) ≡ []
  none_answers ran disk =
      none_then (stopped ran.cuts) (lost_told ran.lost ++ own_answers ran.line ran.cuts ran.kept disk) (none_stopped ran.cuts)
      (none_then (lost_told ran.lost) (own_answers ran.line ran.cuts ran.kept disk) (none_lost ran.lost) (none_own ran.line ran.cuts ran.kept disk))

  none_told : (run : List Ran) → filter says (told run) ≡ []
  none_told [] = refl
  none_told (ran ∷ earlier) =
      let disk = disk_without ran.lost earlier in
      none_then (told earlier) (answers_of ran disk) (none_told earlier) (none_answers ran disk)

  -- so all that is said of a run comes after its lines
  pub said_of : (run : List Ran) (answers : List Answer) (more : List Event) → answers_in more ≡ answers → filter says (answers_in (events_of run ++ more)) ≡ filter says answers
  said_of run answers more is =
      ap (filter says) (answers_in-append (events_of run) more)
      ∙ filter-append says (answers_in (events_of run)) (answers_in more)
      ∙ ap (λ (r : List Answer). filter says r ++ filter says (answers_in more)) (answers_in-run run)
      ∙ ap (λ (r : List Answer). r ++ filter says (answers_in more)) (none_told run)
      ∙ ap (filter says) is
