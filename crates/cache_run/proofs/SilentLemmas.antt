-- Where a run that prints nothing but a refused line ended before that, nothing was printed.
use Rattle.std.proofs.Common.{◌≡◌, ◌==◌, ℕ, ◌+◌, zero, suc, Bool, true, false, List, [], ◌∷◌, ◌++◌, length, map, Option, Some, None, Ok, Err, refl, sym, ap, ◌∙◌, inl, inr, arith}
use Rattle.std.proofs.lemmas.Bool.{cases_Bool}
use Rattle.std.proofs.lemmas.List.{append-nil, length-append}
use Rattle.std.proofs.lemmas.List.Elements.{filter-append}
use Rattle.std.specs.Io.KnownBytes.{Appends, Keeps}
use Rattle.std.specs.List.{range_with_len}
use Rattle.ft_base.specs.Pattern.{tag_in}
use Rattle.ft_base.specs.PlainDisk.{PlainDisk}
use Rattle.ft_base.specs.Told.{Told}
use Rattle.trace_model.specs.declared.answer.Answer.{Answer}
use Rattle.trace_model.specs.declared.answer.Answer.TheVariants as answer
use Rattle.trace_model.specs.declared.line.Line.{Line}
use Rattle.trace_model.specs.declared.line.Line.TheVariants as line
use Rattle.trace_model.specs.declared.line.LineError.{LineError}
use Rattle.trace_model.specs.declared.ran.Ran.{Ran}
use Rattle.trace_model.specs.Readings.{Reading}
use Rattle.trace_model.specs.Run.{answers_of, disk_without, end_answers, end_of, lost_told, own_answers, stopped}
use Rattle.trace_model.specs.SoFar.{AnswersTo, MayTell, as_ran, refusal_of}
use Rattle.trace_replay.specs.Commands.{is_refusal, refusals_in}
use Rattle.trace_replay.proofs.SayingLemmas.{left_empty}

-- ---- answers that are no refusal

pub none_stopped : (n : ℕ) → refusals_in (stopped n) ≡ []
none_stopped zero = refl
none_stopped (suc n) = none_stopped n

pub none_lost : (n : ℕ) → refusals_in (lost_told n) ≡ []
none_lost zero = refl
none_lost (suc n) = refl

none_read : (disk : PlainDisk) (addresses : List ℕ) → refusals_in (map (λ a. answer.ReadBack a (tag_in (disk a))) addresses) ≡ []
none_read disk [] = refl
none_read disk (a ∷ addresses) = none_read disk addresses

none_own : (l : Line) (cuts kept : ℕ) (disk : PlainDisk) → refusals_in (own_answers l cuts kept disk) ≡ []
none_own (line.Write lba count tag) cuts kept disk = elim (cases_Bool (cuts == 0)) [ inl none ↦ rw none refl | inr some ↦ rw some refl ]
none_own (line.Read lba count) cuts kept disk = none_read disk (range_with_len lba count)
none_own line.Flush cuts kept disk = refl
none_own line.Idle cuts kept disk = refl
none_own (line.Cut outcome) cuts kept disk = refl
none_own (line.Stop after outcome) cuts kept disk = refl
none_own line.Nothing cuts kept disk = refl

pub none_both : (xs ys : List Answer) → refusals_in xs ≡ [] → refusals_in ys ≡ [] → refusals_in (xs ++ ys) ≡ []
none_both xs ys first next = filter-append is_refusal xs ys ∙ ap (λ (r : List Answer). r ++ refusals_in ys) first ∙ next

none_line : (ran : Ran) (disk : PlainDisk) → refusals_in (answers_of ran disk) ≡ []
none_line ran disk =
    none_both (stopped ran.cuts) (lost_told ran.lost ++ own_answers ran.line ran.cuts ran.kept disk) (none_stopped ran.cuts)
    (none_both (lost_told ran.lost) (own_answers ran.line ran.cuts ran.kept disk) (none_lost ran.lost) (none_own ran.line ran.cuts ran.kept disk))

none_end : (run : List Ran) (cuts lost : ℕ) → refusals_in (end_answers run cuts lost) ≡ []
none_end run cuts lost = none_both (stopped cuts) (lost_told lost ++ end_of lost run ∷ []) (none_stopped cuts) (none_both (lost_told lost) (end_of lost run ∷ []) (none_lost lost) refl)

-- ---- a front of what is due

front_none : (front rest due : List Answer) → due ≡ front ++ rest → refusals_in due ≡ [] → refusals_in front ≡ []
front_none front rest due both none = left_empty (refusals_in front) (refusals_in rest) (sym (filter-append is_refusal front rest) ∙ ap refusals_in (sym both) ∙ none)

-- of one answer nothing was taken whole
front_one : (front rest due : List Answer) (one : Answer) → due ≡ one ∷ [] → due ≡ front ++ rest → (rest ≡ [] → due ≡ []) → refusals_in front ≡ []
front_one [] rest due one is both proper = refl
front_one (x ∷ front) [] due one is both proper = absurd (let empty : due ≡ [] = proper refl in let some : one ∷ [] ≡ [] = sym is ∙ empty in cc)
front_one (x ∷ front) (y ∷ rest) due one is both proper =
    let long : length (one ∷ []) ≡ length ((x ∷ front) ++ (y ∷ rest)) = ap length (sym is ∙ both) in
    let sum : length ((x ∷ front) ++ (y ∷ rest)) ≡ length (x ∷ front) + length (y ∷ rest) = length-append (x ∷ front) (y ∷ rest) in
    absurd (omega (arith, long, sum))

front_line : (o : Told) (found : Option LineError) (run : List Ran) (l : Line) (front rest due : List Answer) → AnswersTo o found run l due → due ≡ front ++ rest → (rest ≡ [] → due ≡ []) → refusals_in front ≡ []
front_line o None run l front rest due may both proper = front_none front rest due both (ap refusals_in may.told ∙ none_line (as_ran l may.cuts may.kept may.lost) (disk_without may.lost run))
front_line o (Some cause) run l front rest due may both proper = front_one front rest due _ may both proper

pub front_silent : (o : Told) (whole : Bool) (run : List Ran) (left : List Reading) (front rest due : List Answer) → MayTell o whole run left due → due ≡ front ++ rest → (rest ≡ [] → due ≡ []) → refusals_in front ≡ []
front_silent o true run [] front rest due may both proper = front_none front rest due both (ap refusals_in may.told ∙ none_end run may.cuts may.lost)
front_silent o false run [] front rest due may both proper = front_none front rest due both (ap refusals_in may)
front_silent o true run (Err cause ∷ left) front rest due may both proper = front_one front rest due _ may both proper
front_silent o false run (Err cause ∷ left) front rest due may both proper = front_one front rest due _ may both proper
front_silent o true run (Ok l ∷ left) front rest due may both proper = front_line o (refusal_of run l) run l front rest due may both proper
front_silent o false run (Ok l ∷ left) front rest due may both proper = front_line o (refusal_of run l) run l front rest due may both proper

-- ---- bytes that stay, and grow then

pub kept_none : (a b : Option (List ℕ)) → Keeps a b → Appends a b []
kept_none None b kept = tt
kept_none (Some xs) None kept = absurd kept
kept_none (Some xs) (Some ys) kept = kept ∙ sym (append-nil xs)

pub kept_then : (a b c : Option (List ℕ)) (bytes : List ℕ) → Keeps a b → Appends b c bytes → Appends a c bytes
kept_then None b c bytes kept said = tt
kept_then (Some xs) None c bytes kept said = absurd kept
kept_then (Some xs) (Some ys) None bytes kept said = absurd said
kept_then (Some xs) (Some ys) (Some zs) bytes kept said = said ∙ ap (λ (r : List ℕ). r ++ bytes) kept
