-- The end line among answers, and the addresses that a script took before it.
use Rattle.std.proofs.Common.{◌≡◌, ℕ, Bool, true, false, ◌||◌, List, [], ◌∷◌, ◌++◌, refl, sym, ap, ◌∙◌, subst, append_assoc, inl, inr, if◌then◌else◌}
use Rattle.std.specs.List.{filter, list_any}
use Rattle.std.specs.Int.{w64, to_be_bytes}
use Rattle.std.proofs.lemmas.Bool.{cases_Bool, false≢true, or_parts}
use Rattle.std.proofs.lemmas.List.{append-nil, map-append}
use Rattle.std.proofs.lemmas.List.Folds.{list_any-append}
use Rattle.ft_base.specs.PlainDisk.{BlockWrite, PlainDisk}
use Rattle.ft_base.specs.declared.block.Block.{Block}
use Rattle.trace_model.specs.declared.answer.Answer.{Answer}
use Rattle.trace_model.specs.declared.line.Line.{Line}
use Rattle.trace_model.specs.declared.ran.Ran.{Ran}
use Rattle.trace_model.specs.Run.{answers_of, disk_without, end_answers, end_of, lost_told, stopped, touched_after, touched_bytes}
use Rattle.trace_replay.specs.Commands.{is_end}
use Rattle.trace_replay.specs.Ends.{BrokenThrough, SaidThrough}
use Rattle.trace_replay.specs.Events.{BeforeEnd, BreaksAfter, Event, SaysAfter, TookBlocks, answers_in, blocks_of, events_of, lines_given, taking, told_bytes, touched_in}
use Rattle.trace_replay.specs.Events.Event.{Gave, Took, Touched}
use Rattle.trace_replay.proofs.GivenLemmas.{answers_in-append, answers_in-taking, lines_given-append, lines_given-taking}
use Rattle.trace_replay.proofs.ToldLemmas.{SkipsLines, none_answers, none_lost, none_stopped}

-- ---- answers with no end line

-- no line answers an end line
pub no_line : SkipsLines is_end
no_line = record { wrote = λ lba count. refl; stopped = refl; kept = λ kept count. refl; lost = λ _. refl; read = λ lba tag. refl; flushed = refl; idle = refl; cut = refl }

-- none of these answers is the end line
abbrev pub NoEnd : List Answer → Type 0
NoEnd answers = list_any is_end answers ≡ false

none_among : (answers : List Answer) → filter is_end answers ≡ [] → NoEnd answers
none_among [] none = refl
none_among (x ∷ answers) none = elim (cases_Bool (is_end x)) [
  | inl is ↦
      let bad : x ∷ filter is_end answers ≡ [] = sym (ap (λ (t : Bool). if t then x ∷ filter is_end answers else filter is_end answers) is) ∙ none in
      absurd (cc)
  | inr other ↦
      let rest : filter is_end answers ≡ [] = sym (ap (λ (t : Bool). if t then x ∷ filter is_end answers else filter is_end answers) other) ∙ none in
      ap (λ (t : Bool). t || list_any is_end answers) other ∙ none_among answers rest
]

pub none_line : (ran : Ran) (disk : PlainDisk) → NoEnd (answers_of ran disk)
none_line ran disk = none_among (answers_of ran disk) (none_answers is_end no_line ran disk)

pub none_cuts : (n : ℕ) → NoEnd (stopped n)
none_cuts n = none_among (stopped n) (none_stopped is_end no_line n)

pub none_losses : (lost : ℕ) → NoEnd (lost_told lost)
none_losses lost = none_among (lost_told lost) (none_lost is_end no_line lost)

pub none_both : (xs ys : List Answer) → NoEnd xs → NoEnd ys → NoEnd (xs ++ ys)
none_both xs ys first next = list_any-append is_end xs ys ∙ ap (λ (t : Bool). t || list_any is_end ys) first ∙ next

none_parts : (xs ys : List Answer) → NoEnd (xs ++ ys) → NoEnd xs × NoEnd ys
none_parts xs ys none = or_parts (list_any is_end xs) (list_any is_end ys) (sym (list_any-append is_end xs ys) ∙ none)

pub none_front : (xs ys : List Answer) → NoEnd (xs ++ ys) → NoEnd xs
none_front xs ys none = (none_parts xs ys none).0

-- a front and the next answer
pub none_next : (front : List Answer) (next : Answer) (after : List Answer) → NoEnd (front ++ next ∷ after) → NoEnd (front ++ next ∷ [])
none_next front next after none = none_front (front ++ next ∷ []) after (subst (λ (xs : List Answer). NoEnd xs) (sym (append_assoc front (next ∷ []) after)) none)

-- the answers that come before the end line
pub none_before : (cuts lost : ℕ) → NoEnd (stopped cuts ++ lost_told lost)
none_before cuts lost = none_both (stopped cuts) (lost_told lost) (none_cuts cuts) (none_losses lost)

pub never_end : (front : List Answer) (next : Answer) → NoEnd (front ++ next ∷ []) → is_end next ≡ true → ⊥
never_end front next none is = false≢true (sym (or_parts (is_end next) false (none_parts front (next ∷ []) none).1).0 ∙ is)

-- ---- the end line comes last

after_some : (xs ys : List Answer) (one : Answer) → xs ++ one ∷ ys ≡ [] → ⊥
after_some [] ys one empty = cc
after_some (x ∷ xs) ys one empty = cc

-- what comes before the end line is fixed
before_last : (before front after : List Answer) (last end : Answer) → NoEnd before → before ++ last ∷ [] ≡ front ++ end ∷ after → is_end end ≡ true → front ≡ before
before_last [] [] after last end none both is = refl
before_last [] (v ∷ front) after last end none both is =
    let over : front ++ end ∷ after ≡ [] = cc in
    absurd (after_some front after end over)
before_last (w ∷ before) [] after last end none both is =
    let same : w ≡ end = cc in
    absurd (false≢true (sym (or_parts (is_end w) (list_any is_end before) none).0 ∙ ap is_end same ∙ is))
before_last (w ∷ before) (v ∷ front) after last end none both is =
    let same : v ≡ w = cc in
    let rest : before ++ last ∷ [] ≡ front ++ end ∷ after = cc in
    ap (λ (k : Answer). k ∷ front) same ∙ ap (λ (xs : List Answer). w ∷ xs) (before_last before front after last end (or_parts (is_end w) (list_any is_end before) none).1 rest is)

before_end : (run : List Ran) (cuts lost : ℕ) (front after : List Answer) (end : Answer) → end_answers run cuts lost ≡ front ++ end ∷ after → is_end end ≡ true → front ≡ stopped cuts ++ lost_told lost
before_end run cuts lost front after end both is =
    before_last (stopped cuts ++ lost_told lost) front after (end_of lost run) end (none_before cuts lost) (append_assoc (stopped cuts) (lost_told lost) (end_of lost run ∷ []) ∙ both) is

-- ---- the addresses

pub touched_in-append : (xs ys : List Event) → touched_in (xs ++ ys) ≡ touched_in xs ++ touched_in ys
touched_in-append [] ys = refl
touched_in-append (Gave line ∷ xs) ys = touched_in-append xs ys
touched_in-append (Took a ∷ xs) ys = touched_in-append xs ys
touched_in-append (Touched lba block ∷ xs) ys = ap (λ (r : List BlockWrite). (record { lba = lba; block = block }) ∷ r) (touched_in-append xs ys)

pub touched_in-taking : (answers : List Answer) → touched_in (taking answers) ≡ []
touched_in-taking [] = refl
touched_in-taking (a ∷ answers) = touched_in-taking answers

-- the lines of a run touch nothing themselves
pub touched_in-run : (run : List Ran) → touched_in (events_of run) ≡ []
touched_in-run [] = refl
touched_in-run (ran ∷ earlier) =
    let answers = answers_of ran (disk_without ran.lost earlier) in
    touched_in-append (events_of earlier) (Gave ran.line ∷ taking answers)
    ∙ ap (λ (r : List BlockWrite). r ++ touched_in (taking answers)) (touched_in-run earlier)
    ∙ touched_in-taking answers

-- the bytes of addresses and their blocks
abbrev bytes_of : List BlockWrite → List ℕ
bytes_of [] = []
bytes_of (write ∷ writes) = to_be_bytes w64 write.lba ++ (write.block.0 ++ bytes_of writes)

bytes_taken : (e : List Event) → told_bytes e ≡ bytes_of (touched_in e)
bytes_taken [] = refl
bytes_taken (Gave line ∷ e) = bytes_taken e
bytes_taken (Took a ∷ e) = bytes_taken e
bytes_taken (Touched lba block ∷ e) = ap (λ (r : List ℕ). to_be_bytes w64 lba ++ (block.0 ++ r)) (bytes_taken e)

bytes_at : (d : PlainDisk) (addresses : List ℕ) → bytes_of (blocks_of d addresses) ≡ touched_bytes d addresses
bytes_at d [] = refl
bytes_at d (a ∷ addresses) =
    ap (λ (r : List ℕ). to_be_bytes w64 a ++ ((d a).0 ++ r)) (bytes_at d addresses) ∙ sym (append_assoc (to_be_bytes w64 a) (d a).0 (touched_bytes d addresses))

-- so the addresses and blocks that were taken fix the digest
pub told_bytes-touched : (e : List Event) (d : PlainDisk) (addresses : List ℕ) → touched_in e ≡ blocks_of d addresses → told_bytes e ≡ touched_bytes d addresses
told_bytes-touched e d addresses is = bytes_taken e ∙ ap bytes_of is ∙ bytes_at d addresses

-- ---- events of the end

-- answers after other events
pub answers_after : (more : List Event) (xs ys : List Answer) → answers_in more ≡ xs → answers_in (more ++ taking ys) ≡ xs ++ ys
answers_after more xs ys is = answers_in-append more (taking ys) ∙ ap (λ (r : List Answer). r ++ answers_in (taking ys)) is ∙ ap (λ (r : List Answer). xs ++ r) (answers_in-taking ys)

lines_after : (more : List Event) (ys : List Answer) → lines_given more ≡ [] → lines_given (more ++ taking ys) ≡ []
lines_after more ys none = lines_given-append more (taking ys) ∙ ap (λ (r : List Line). r ++ lines_given (taking ys)) none ∙ lines_given-taking ys

-- answers before other events
answers_past : (xs ys : List Answer) (more : List Event) → answers_in more ≡ ys → answers_in (taking xs ++ more) ≡ xs ++ ys
answers_past xs ys more is = answers_in-append (taking xs) more ∙ ap (λ (r : List Answer). r ++ answers_in more) (answers_in-taking xs) ∙ ap (λ (r : List Answer). xs ++ r) is

lines_past : (xs : List Answer) (more : List Event) → lines_given more ≡ [] → lines_given (taking xs ++ more) ≡ []
lines_past xs more none = lines_given-append (taking xs) more ∙ ap (λ (r : List Line). r ++ lines_given more) (lines_given-taking xs) ∙ none

touched_past : (xs : List Answer) (more : List Event) → touched_in (taking xs ++ more) ≡ touched_in more
touched_past xs more = touched_in-append (taking xs) more ∙ ap (λ (r : List BlockWrite). r ++ touched_in more) (touched_in-taking xs)

-- answers before and after addresses
pub took_past : (xs ys : List Answer) (addresses : List ℕ) (d : PlainDisk) (more : List Event) → TookBlocks ys addresses d more → TookBlocks (xs ++ ys) addresses d (taking xs ++ more)
took_past xs ys addresses d more took = record { told = answers_past xs ys more took.told; none = lines_past xs more took.none; touched = touched_past xs more ∙ took.touched }

pub took_then : (xs ys : List Answer) (addresses : List ℕ) (d : PlainDisk) (more : List Event) → TookBlocks xs addresses d more → TookBlocks (xs ++ ys) addresses d (more ++ taking ys)
took_then xs ys addresses d more took = record {
  told = answers_after more xs ys took.told;
  none = lines_after more ys took.none;
  touched =
      touched_in-append more (taking ys)
      ∙ ap (λ (r : List BlockWrite). touched_in more ++ r) (touched_in-taking ys)
      ∙ append-nil (touched_in more)
      ∙ took.touched;
}

-- one address more
pub took_one : (answers : List Answer) (addresses : List ℕ) (d : PlainDisk) (more : List Event) (a : ℕ) (block : Block) → block ≡ d a → TookBlocks answers addresses d more → TookBlocks answers (addresses ++ a ∷ []) d (more ++ Touched a block ∷ [])
took_one answers addresses d more a block found took = record {
  told = answers_in-append more (Touched a block ∷ []) ∙ append-nil (answers_in more) ∙ took.told;
  none = lines_given-append more (Touched a block ∷ []) ∙ append-nil (lines_given more) ∙ took.none;
  touched =
      touched_in-append more (Touched a block ∷ [])
      ∙ ap (λ (r : List BlockWrite). r ++ touched_in (Touched a block ∷ [])) took.touched
      ∙ ap (λ (b : Block). blocks_of d addresses ++ (record { lba = a; block = b }) ∷ []) found
      ∙ sym (map-append (λ k. record { lba = k; block = d k }) addresses (a ∷ []));
}

-- ---- answers of the end, as far as they were taken

-- before the end line, whatever addresses were taken
pub said_early : (answers : List Answer) (taken addresses : List ℕ) (d w : PlainDisk) (more : List Event) → NoEnd answers → TookBlocks answers taken w more → SaidThrough addresses d answers more
said_early answers taken addresses d w more none took = record { told = took.told; none = took.none; end = inl none }

pub broken_early : (answers : List Answer) (next : Answer) (taken addresses : List ℕ) (d w : PlainDisk) (more : List Event) → NoEnd (answers ++ next ∷ []) → TookBlocks answers taken w more → BrokenThrough addresses d answers next more
broken_early answers next taken addresses d w more none took = record {
  told = took.told;
  none = took.none;
  no_end = none_front answers (next ∷ []) none;
  touched = λ is. absurd (never_end answers next none is);
}

-- the same if answers alone were taken
pub said_alone : (answers : List Answer) (addresses : List ℕ) (d : PlainDisk) → NoEnd answers → SaidThrough addresses d answers (taking answers)
said_alone answers addresses d none = record { told = answers_in-taking answers; none = lines_given-taking answers; end = inl none }

pub broken_alone : (answers : List Answer) (next : Answer) (addresses : List ℕ) (d : PlainDisk) → NoEnd (answers ++ next ∷ []) → BrokenThrough addresses d answers next (taking answers)
broken_alone answers next addresses d none = record {
  told = answers_in-taking answers;
  none = lines_given-taking answers;
  no_end = none_front answers (next ∷ []) none;
  touched = λ is. absurd (never_end answers next none is);
}

-- at the end line
pub said_end : (answers : List Answer) (end : Answer) (addresses : List ℕ) (d : PlainDisk) (more : List Event) → is_end end ≡ true → TookBlocks answers addresses d more → SaidThrough addresses d (answers ++ end ∷ []) (more ++ Took end ∷ [])
said_end answers end addresses d more is took = record {
  told = answers_after more answers (end ∷ []) took.told;
  none = lines_after more (end ∷ []) took.none;
  end = inr (end, more, is, refl, took.touched);
}

pub broken_end : (answers : List Answer) (end : Answer) (addresses : List ℕ) (d : PlainDisk) (more : List Event) → NoEnd answers → TookBlocks answers addresses d more → BrokenThrough addresses d answers end more
broken_end answers end addresses d more none took = record { told = took.told; none = took.none; no_end = none; touched = λ _. took.touched }

-- after other answers
pub said_past : (xs ys : List Answer) (addresses : List ℕ) (d : PlainDisk) (more : List Event) → NoEnd xs → SaidThrough addresses d ys more → SaidThrough addresses d (xs ++ ys) (taking xs ++ more)
said_past xs ys addresses d more none said = record {
  told = answers_past xs ys more said.told;
  none = lines_past xs more said.none;
  end = elim said.end [
    | inl no_end ↦ inl (none_both xs ys none no_end)
    | inr ends ↦ inr (ends.0, taking xs ++ ends.1, ends.2, ap (λ (r : List Event). taking xs ++ r) ends.3 ∙ sym (append_assoc (taking xs) ends.1 (Took ends.0 ∷ [])), touched_past xs ends.1 ∙ ends.4)
  ];
}

pub broken_past : (xs ys : List Answer) (next : Answer) (addresses : List ℕ) (d : PlainDisk) (more : List Event) → NoEnd xs → BrokenThrough addresses d ys next more → BrokenThrough addresses d (xs ++ ys) next (taking xs ++ more)
broken_past xs ys next addresses d more none broken = record {
  told = answers_past xs ys more broken.told;
  none = lines_past xs more broken.none;
  no_end = none_both xs ys none broken.no_end;
  touched = λ is. touched_past xs more ∙ broken.touched is;
}

-- ---- after the lines of a run

-- nothing came
pub after_nothing : (run : List Ran) → SaysAfter run [] []
after_nothing run = record { said = refl; end = inl refl; few = inl refl }

-- one line was given, and these are answers to it
pub after_given : (run : List Ran) (line : Line) (answers : List Answer) → NoEnd answers → SaysAfter run answers (Gave line ∷ taking answers)
after_given run line answers none = record { said = answers_in-taking answers; end = inl none; few = inr (line, taking answers, refl, lines_given-taking answers) }

pub within_given : (run : List Ran) (line : Line) (answers : List Answer) (next : Answer) → NoEnd (answers ++ next ∷ []) → BreaksAfter run answers next (Gave line ∷ taking answers)
within_given run line answers next none = record {
  said = answers_in-taking answers;
  no_end = none_front answers (next ∷ []) none;
  end = λ is. absurd (never_end answers next none is);
  few = inr (line, taking answers, refl, lines_given-taking answers);
}

-- answers of the end came
pub after_end : (run : List Ran) (cuts lost : ℕ) (answers after : List Answer) (more : List Event) → end_answers run cuts lost ≡ answers ++ after → SaidThrough (touched_after run) (disk_without lost run) answers more → SaysAfter run answers more
after_end run cuts lost answers after more both said = record {
  said = said.told;
  end = elim said.end [
    | inl no_end ↦ inl no_end
    | inr ends ↦ inr (ends.0, ends.1, ends.3, ended ends.0 ends.1 ends.2 ends.3 ends.4)
  ];
  few = inl said.none;
}
  where
    ended : (end : Answer) (before : List Event) → is_end end ≡ true → more ≡ before ++ Took end ∷ [] → touched_in before ≡ blocks_of (disk_without lost run) (touched_after run) → BeforeEnd run before
    ended end before is events touched =
        let told : answers ≡ answers_in before ++ end ∷ [] = sym said.told ∙ ap answers_in events ∙ answers_in-append before (Took end ∷ []) in
        record {
          cuts = cuts;
          lost = lost;
          told = before_end run cuts lost (answers_in before) after end (both ∙ ap (λ (r : List Answer). r ++ after) told ∙ append_assoc (answers_in before) (end ∷ []) after) is;
          none = sym (ap lines_given events ∙ lines_given-append before (Took end ∷ []) ∙ append-nil (lines_given before)) ∙ said.none;
          touched = touched;
        }

pub within_end : (run : List Ran) (cuts lost : ℕ) (answers : List Answer) (next : Answer) (after : List Answer) (more : List Event) → end_answers run cuts lost ≡ answers ++ next ∷ after → BrokenThrough (touched_after run) (disk_without lost run) answers next more
    → BreaksAfter run answers next more
within_end run cuts lost answers next after more both broken = record {
  said = broken.told;
  no_end = broken.no_end;
  end = λ is. record { cuts = cuts; lost = lost; told = broken.told ∙ before_end run cuts lost answers after next both is; none = broken.none; touched = broken.touched is };
  few = inl broken.none;
}
